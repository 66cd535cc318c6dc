-- The places and indices that the new stream is made with. Assumes nothing.
use Prim.Native.Nat.{ℕ, zero, suc, ◌+◌, ◌-◌, ◌≤◌, ◌<◌}
use mathlib.Core.Path.{◌≡◌, refl, sym, ap, ◌∙◌}
use mathlib.Core.List.{List, [], ◌∷◌, ◌++◌}
use mathlib.Core.Bool.{true}
use native.Mathlib.Omega.{arith}
use lib.ListN.{length, length-append}
use lib.Dec.{ltb, leb}
use borrow.Author.Tests.{leb-false}
use Rattle.steps.specs.Choice.{pick}
use Rattle.steps.proofs.Choice.{pick_any, pick_by, pick_eq, pick_ne}
use Rattle.steps.specs.Items.{Item}
use Rattle.record.specs.declared.Header.{Header}
use Rattle.record.specs.declared.Header.TheVariants.{Record, Cut, End}
use Rattle.record.specs.Record.{header_at}
use Rattle.record.proofs.Laws.{whole}
use Rattle.reading.specs.Claims.{Every}
use Rattle.record_chain.proofs.Chain.{Keeps, collect_every}
use Rattle.new_stream.specs.declared.Spot.{Spot}
use Rattle.new_stream.specs.declared.Entry.{Entry}
use Rattle.new_stream.specs.Entries.{record_item, rest_item, on_header, entry_item, entries_from}
use Rattle.new_stream.specs.Compact.{new_bytes, written, new_size, place_in, texts_in, uses, used_below, index_in}
use Rattle.new_stream.proofs.Written.{new_size_lem}

-- ---- each entry lies in the stream
module _ (s : List ℕ) where
  abbrev pub Lies : Entry → Type 0
  Lies x = x.at + x.size ≤ length s

  abbrev Any : Spot → Type 0
  Any w = Unit {0}

  abbrev K : Item Spot Entry → Type 0
  K x = Keeps Any Lies x

  lies_rest : (w : Spot) → K (rest_item s w)
  unfolding rest_item
  lies_rest w = pick_by K (leb (length s) w.at) (λ _. tt) (λ h. let i = leb-false (length s) w.at h in (omega arith, tt))

  lies_record : (w : Spot) (t z e : ℕ) → header_at s w.at ≡ Record t z e → K (record_item s w t z e)
  unfolding record_item
  lies_record w t z e h = let i = whole s w.at t z e h in (omega arith, tt)

  lies_header : (w : Spot) (x : Header) → header_at s w.at ≡ x → K (on_header s w x)
  lies_header w (Record t z e) h = pick_any K _ (pick_any K _ (lies_record w t z e h) (lies_rest w)) (lies_record w t z e h)
  lies_header w Cut h = lies_rest w
  lies_header w End h = tt

  pub entries_lie : (w : Spot) → Every Lies (entries_from s w)
  unfolding entries_from entry_item
  entries_lie w = collect_every (entry_item s) Any Lies (λ w _. lies_header w (header_at s w.at) refl) (λ w. length s - w.at) w tt

-- ---- every place is in the new stream
module _ (s T : List ℕ) (index place : ℕ → ℕ) where
  pub place_within : (l : List Entry) → Every (Lies s) l → (p : ℕ) → place_in T l p ≤ length (written s T index place l)
  unfolding place_in written
  place_within [] e p = omega arith
  place_within (x ∷ l) e p =
      let a : length (new_bytes s T index place x.at x.size x.fate ++ written s T index place l) ≡ new_size T x.size x.fate + length (written s T index place l) =
      length-append (new_bytes s T index place x.at x.size x.fate) (written s T index place l) ∙ ap (λ (n : ℕ). n + length (written s T index place l)) (new_size_lem s T index place x.at x.size e.0 x.fate) in
      let r = place_within l e.1 p in
      pick_by (λ (n : ℕ). n ≤ length (new_bytes s T index place x.at x.size x.fate ++ written s T index place l)) (ltb x.at p) (λ _. omega arith) (λ _. omega arith)

-- ---- the new index of a string that is used
pub used_grows : (l : List ℕ) (i j : ℕ) → used_below l i ≤ used_below l (j + i)
unfolding used_below
used_grows l i zero = let e : 0 + i ≡ i = omega arith in rw e (omega arith)
used_grows l i (suc j) = let h = used_grows l i j in let e : suc j + i ≡ suc (j + i) = omega arith in rw e (omega arith)

used_up : (l : List ℕ) (i : ℕ) → uses l i ≡ true → used_below l (suc i) ≡ 1 + used_below l i
unfolding used_below pick
used_up l i h = rw h refl

pub used_below_lem : (l : List ℕ) (i u : ℕ) → uses l i ≡ true → i < u → used_below l i < used_below l u
used_below_lem l i u h b =
    let a = used_up l i h in
    let e : u - suc i + suc i ≡ u = omega arith in
    let c : used_below l (suc i) ≤ used_below l u = rw e at (used_grows l (suc i) (u - suc i)) in
    omega arith

pub index_none : (s T : List ℕ) (l : List Entry) (i : ℕ) → T ≡ [] → index_in s T l i ≡ i
unfolding index_in
index_none s T l i h = sym (pick_eq i _ _ (length T) 0 (ap length h) refl)

pub index_some : (s T : List ℕ) (l : List Entry) (i : ℕ) → 4 ≤ length T → index_in s T l i ≡ used_below (texts_in s l) i
unfolding index_in
index_some s T l i h = sym (pick_ne (used_below (texts_in s l) i) _ _ (length T) 0 (λ e. omega arith) refl)
