-- The cells of one record, put after one another: one, none, or those of a multiple record in a loop. Assumes nothing.
use Prim.Native.Nat.{ℕ, zero, suc, ◌+◌, ◌-◌, ◌*◌, ◌≤◌, ◌<◌}
use mathlib.Core.Path.{◌≡◌, refl, ap, sym, ◌∙◌}
use mathlib.Core.List.{List}
use native.Mathlib.Omega.{arith}
use native.Mathlib.Nat.{suc-mul, mul-le-mul_right}
use lib.ListN.{length}
use lib.Seq.{sets, length-sets}
use Rattle.steps.specs.Choice.{pick}
use Rattle.steps.proofs.Choice.{pick_nlt}
use Rattle.byte_numbers.specs.Bytes.{u16_at}
use Rattle.value.specs.declared.Field.{Field}
use Rattle.value.specs.declared.Field.TheVariants.{NoField, Float, RkWord, TextIndex, TruthError, StoredResult}
use Rattle.value.specs.Value.{width_of}
use Rattle.cell.specs.Cells.{part_of, start_of, first_at, multiple, length_at, no_tokens, tokens_at, cell_of}
use Rattle.cell.proofs.Sizes.{multiple_below}
use Rattle.reading.specs.Reading.{trailing_size}
use Rattle.cell_words.specs.declared.Done.{Done}
use Rattle.cell_words.specs.declared.Done.TheVariants as done
use Rattle.cell_words.specs.Batch.{sizes_word, words_of}
use Rattle.cell_words.specs.Parts.{parts_in, PartRoom, PartsRoom, Put, Did}

-- ---- one cell
-- its value field lies in its part
pub field_room : (f : Field) → start_of f + width_of f ≤ part_of f
field_room NoField = omega arith
field_room Float = omega arith
field_room RkWord = omega arith
field_room TextIndex = omega arith
field_room TruthError = omega arith
field_room StoredResult = omega arith

pub part_one : (s : List ℕ) (f : Field) (at n : ℕ) (b : List ℕ) → parts_in s f at 0 1 n b ≡ sets b (4 * n) (words_of s (cell_of s f at 0))
unfolding parts_in
part_one s f at n b = refl

-- a record that is no formula's has no token bytes and none after them
pub no_sizes : (s : List ℕ) → sizes_word s no_tokens ≡ 0
unfolding trailing_size pick
no_sizes s = refl

pub one_put : (s : List ℕ) (f : Field) (at count n : ℕ) (b : List ℕ) {d : List ℕ} → count ≡ 1 → d ≡ sets b (4 * n) (words_of s (cell_of s f at 0)) → Did s f at count 0 n 1 b d done.One
one_put s f at count n b c e = (c, record { order = omega arith; within = omega arith; fits = omega arith; words = e ∙ sym (part_one s f at n b) })

pub ruleset single_laws = (no_sizes, one_put)

pub formula_sizes : (s : List ℕ) (at z : ℕ) → z ≡ u16_at s (at + 2) → sizes_word s (tokens_at StoredResult s (at + 8)) ≡ u16_at s (at + 24) + (z - (22 + u16_at s (at + 24))) * 65536
unfolding length_at trailing_size
formula_sizes s at z h =
    let p : at + 8 + 18 - 24 ≡ at + 2 = omega arith in
    let q : at + 8 + 16 ≡ at + 24 = omega arith in
    let trailing = sym (pick_nlt (z - (22 + u16_at s (at + 8 + 16))) 0 _ (at + 8 + 18) 26 (omega arith) (ap (λ (x : ℕ). x - (22 + u16_at s (at + 8 + 16))) (h ∙ ap (u16_at s) (sym p)))) in
    ap (λ (x : ℕ). u16_at s (at + 8 + 16) + x * 65536) trailing
    ∙ ap (λ (x : ℕ). u16_at s x + (z - (22 + u16_at s x)) * 65536) q

pub ruleset formula_laws = (formula_sizes, one_put)

-- ---- the parts from the k-th on
pub parts_none : (s : List ℕ) (f : Field) (at k n : ℕ) (b : List ℕ) → parts_in s f at k (k - k) n b ≡ b
unfolding parts_in
parts_none s f at k n b = let e : k - k ≡ zero = omega arith in ap (λ (j : ℕ). parts_in s f at k j n b) e

module _ (s : List ℕ) (f : Field) (at : ℕ) where
  parts_size : (j k n : ℕ) (b : List ℕ) → length (parts_in s f at k j n b) ≡ length b
  unfolding parts_in
  parts_size zero k n b = refl
  parts_size (suc j) k n b = parts_size j (k + 1) (n + 1) (sets b (4 * n) (words_of s (cell_of s f at k))) ∙ length-sets b (4 * n) (words_of s (cell_of s f at k))

  -- and one more at the end
  parts_more : (j k n : ℕ) (b : List ℕ) → parts_in s f at k (suc j) n b ≡ sets (parts_in s f at k j n b) (4 * (n + j)) (words_of s (cell_of s f at (k + j)))
  unfolding parts_in
  parts_more zero k n b = let x : n ≡ n + 0 = omega arith in let y : k ≡ k + 0 = omega arith in λ i. sets b (4 * x i) (words_of s (cell_of s f at (y i)))
  parts_more (suc j) k n b =
      let x : n + 1 + j ≡ n + suc j = omega arith in
      let y : k + 1 + j ≡ k + suc j = omega arith in
      parts_more j (k + 1) (n + 1) (sets b (4 * n) (words_of s (cell_of s f at k)))
      ∙ (λ i. sets (parts_in s f at (k + 1) j (n + 1) (sets b (4 * n) (words_of s (cell_of s f at k)))) (4 * x i) (words_of s (cell_of s f at (y i))))

  pub parts_next : (k part n before : ℕ) (b : List ℕ) → k ≤ part → before ≡ n + (part - k) → parts_in s f at k (part + 1 - k) n b ≡ sets (parts_in s f at k (part - k) n b) (4 * before) (words_of s (cell_of s f at part))
  parts_next k part n before b l e =
      let x : part + 1 - k ≡ suc (part - k) = omega arith in
      let y : k + (part - k) ≡ part = omega arith in
      ap (λ (j : ℕ). parts_in s f at k j n b) x ∙ parts_more (part - k) k n b
      ∙ (λ i. sets (parts_in s f at k (part - k) n b) (4 * sym e i) (words_of s (cell_of s f at (y i))))

  pub parts_long : (j k n : ℕ) (b : List ℕ) → length (parts_in s f at k j n b) ≡ length b
  parts_long j k n b = parts_size j k n b

  pub part_room : (k last part n before : ℕ) (b d : List ℕ) → PartsRoom s f at k last b n → k ≤ part → part < last → before ≡ n + (part - k) → length d ≡ length b → PartRoom s f at part d before
  part_room k last part n before b d r o l e g =
      let m : part * part_of f + part_of f ≤ last * part_of f = rw suc-mul at (mul-le-mul_right (part_of f) l) in
      (omega arith, omega arith, omega arith)

pub ruleset part_laws = (parts_none, parts_next, parts_long, part_room, no_sizes)

-- ---- a multiple record
pub parts_fit : (s : List ℕ) (f : Field) (at z k n room count last part : ℕ) (b : List ℕ) → count ≡ multiple s at z part → part ≡ part_of f → at + 4 + z ≤ length s → k < last → last ≤ count → last - k ≤ room → 4 * (n + room) ≤ length b → PartsRoom s f at k last b n
unfolding first_at
parts_fit s f at z k n room count last part b is size body order within fits words =
    let m = multiple_below s at z part count (count - 1) is (omega arith) in
    let o : last * part_of f ≤ count * part_of f = mul-le-mul_right (part_of f) within in
    let e : count * part ≡ count * part_of f = ap (λ (x : ℕ). count * x) size in
    (omega arith, omega arith, omega arith, omega arith)

pub many_put : (s : List ℕ) (f : Field) (at count k n room last : ℕ) (b : List ℕ) {d : List ℕ} → k < last → last ≤ count → last - k ≤ room → d ≡ parts_in s f at k (last - k) n b → Did s f at count k n room b d (done.Parts count last)
many_put s f at count k n room last b l i g e = (refl, record { order = l; within = i; fits = g; words = e })

pub ruleset many_laws = (parts_fit, many_put)

-- ---- any record
roomier : (s : List ℕ) (f : Field) (at count k n room : ℕ) (b d : List ℕ) {last : ℕ} → 0 < room → Put s f at count k n 1 b last d → Put s f at count k n room b last d
roomier s f at count k n room b d l p = record { order = p.order; within = p.within; fits = let f = p.fits in omega arith; words = p.words }

pub did_roomier : (s : List ℕ) (f : Field) (at count k n room : ℕ) (b d : List ℕ) → 0 < room → (r : Done) → Did s f at count k n 1 b d r → Did s f at count k n room b d r
did_roomier s f at count k n room b d l done.One p = (p.0, roomier s f at count k n room b d l p.1)
did_roomier s f at count k n room b d l (done.Parts c last) p = (p.0, roomier s f at count k n room b d l p.1)
did_roomier s f at count k n room b d l done.None p = p

pub ruleset record_laws = (did_roomier)
