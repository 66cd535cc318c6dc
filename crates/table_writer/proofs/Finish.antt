-- What the writer has written, piece by piece, is the table. Assumes nothing.
use Prim.Native.Nat.{ℕ, suc, ◌+◌, ◌-◌, ◌≤◌, ◌<◌}
use mathlib.Core.Path.{◌≡◌, refl, sym, ap, ◌∙◌}
use mathlib.Core.List.{List, [], ◌∷◌, ◌++◌, append_assoc}
use mathlib.Core.Bool.{Bool, true, false}
use native.Mathlib.Omega.{arith}
use lib.ListN.{length, set, length-append}
use lib.Seq.{sets, set_comm}
use Rattle.steps.specs.Choice.{pick}
use Rattle.byte_numbers.specs.Bytes.{bytes_of}
use Rattle.byte_numbers.proofs.Laws.{length_bytes}
use Rattle.segments.specs.Parts.{stored}
use Rattle.table_texts.specs.Texts.{Text}
use Rattle.table_texts.specs.Written.{Piece, Laid, put, opens, room_after, lay, laid_size, pieces_of, record_bytes, continue_bytes, laid_of, sst_body, table_bytes, table_size}
use Rattle.table_writer.specs.declared.writer.Out.{Out}
use Rattle.table_writer.specs.Writing.{Wrote, state, closed, added, opened, step, wrote, finished, Long, with_counts, table_start, with_table}
use Rattle.table_writer.proofs.Laws.{Tidy, step_is, stored_length}
use Rattle.table_writer.proofs.Starts.{sets_append}
use Rattle.table_writer.proofs.Many.{wrote_length}

-- ---- stores at places apart
set_sets : (b : List ℕ) (i x j : ℕ) (ys : List ℕ) → i < j → sets (set b i x) j ys ≡ set (sets b j ys) i x
set_sets b i x j [] l = refl
set_sets b i x j (y ∷ ys) l = ap (λ (z : List ℕ). sets z (suc j) ys) (set_comm b i j x y (λ e. omega arith)) ∙ set_sets (set b j y) i x (suc j) ys (omega arith)

sets_comm : (b : List ℕ) (i : ℕ) (xs : List ℕ) (j : ℕ) (ys : List ℕ) → i + length xs ≤ j → sets (sets b i xs) j ys ≡ sets (sets b j ys) i xs
sets_comm b i [] j ys l = refl
sets_comm b i (x ∷ xs) j ys l = sets_comm (set b i x) (suc i) xs j ys (omega arith) ∙ ap (λ (z : List ℕ). sets z (suc i) xs) (set_sets b i x j ys (omega arith))

sets_by : (b : List ℕ) (i w n j : ℕ) (ys : List ℕ) → i + w ≡ j → sets b i (bytes_of w n ++ ys) ≡ sets (sets b i (bytes_of w n)) j ys
sets_by b i w n j ys e = sets_append b i (bytes_of w n) ys ∙ ap (λ (k : ℕ). sets (sets b i (bytes_of w n)) k ys) (ap (λ (k : ℕ). i + k) (length_bytes w n) ∙ e)

-- ---- all that is laid from here on, written at once: into this segment, its size, and the CONTINUEs
unfoldable pub finish : Wrote → Laid → List ℕ
finish w l = sets (sets w.buf (w.out.seg + 2) (bytes_of 2 (w.out.at + length l.here - (w.out.seg + 4)))) w.out.at (l.here ++ continue_bytes l.more)

module _ (w : Wrote) (tidy : Tidy w.out) (l : Laid) where
  apart : (n : ℕ) (j : ℕ) (ys : List ℕ) → w.out.seg + 4 ≤ j → sets (sets w.buf (w.out.seg + 2) (bytes_of 2 n)) j ys ≡ sets (sets w.buf j ys) (w.out.seg + 2) (bytes_of 2 n)
  apart n j ys k = sets_comm w.buf (w.out.seg + 2) (bytes_of 2 n) j ys (let e = length_bytes 2 n in omega arith)

  finish_added : (bs : List ℕ) → finish w (record { here = bs ++ l.here; more = l.more }) ≡ finish (added w bs) l
  unfolding finish added stored
  finish_added bs =
      let n = w.out.at + length bs + length l.here - (w.out.seg + 4) in
      let e : w.out.at + length (bs ++ l.here) - (w.out.seg + 4) ≡ n = (let a = length-append bs l.here in omega arith) in
      let rest = l.here ++ continue_bytes l.more in
      ap (λ (k : ℕ). sets (sets w.buf (w.out.seg + 2) (bytes_of 2 k)) w.out.at ((bs ++ l.here) ++ continue_bytes l.more)) e
      ∙ ap (sets (sets w.buf (w.out.seg + 2) (bytes_of 2 n)) w.out.at) (append_assoc bs l.here (continue_bytes l.more))
      ∙ sets_append (sets w.buf (w.out.seg + 2) (bytes_of 2 n)) w.out.at bs rest
      ∙ ap (λ (z : List ℕ). sets z (w.out.at + length bs) rest) (apart n w.out.at bs tidy)

  finish_opened : finish w (record { here = []; more = l.here ∷ l.more }) ≡ finish (opened w) l
  unfolding finish opened closed stored continue_bytes record_bytes
  finish_opened =
      let p = w.out.at in
      let rest = l.here ++ continue_bytes l.more in
      let e : p + 0 - (w.out.seg + 4) ≡ p - (w.out.seg + 4) = omega arith in
      let b = sets w.buf (w.out.seg + 2) (bytes_of 2 (p - (w.out.seg + 4))) in
      let m : length l.here ≡ p + 4 + length l.here - (p + 4) = omega arith in
      ap (λ (k : ℕ). sets (sets w.buf (w.out.seg + 2) (bytes_of 2 k)) p ((bytes_of 2 0x003c ++ (bytes_of 2 (length l.here) ++ l.here)) ++ continue_bytes l.more)) e
      ∙ ap (sets b p) (append_assoc (bytes_of 2 0x003c) (bytes_of 2 (length l.here) ++ l.here) (continue_bytes l.more) ∙ ap (λ (z : List ℕ). bytes_of 2 0x003c ++ z) (append_assoc (bytes_of 2 (length l.here)) l.here (continue_bytes l.more)))
      ∙ sets_by b p 2 0x003c (p + 2) (bytes_of 2 (length l.here) ++ rest) refl
      ∙ sets_by (sets b p (bytes_of 2 0x003c)) (p + 2) 2 (length l.here) (p + 4) rest (omega arith)
      ∙ ap (λ (k : ℕ). sets (sets (sets b p (bytes_of 2 0x003c)) (p + 2) (bytes_of 2 k)) (p + 4) rest) m

opened_tidy : (w : Wrote) → Tidy (opened w).out
unfolding opened
opened_tidy w = omega arith

added_tidy : (w : Wrote) (bs : List ℕ) → Tidy w.out → Tidy (added w bs).out
unfolding added
added_tidy w bs t = omega arith

finish_step : (w : Wrote) → Tidy w.out → (p : Piece) (l : Laid) → finish w (put (opens w.out.room p) p l) ≡ finish (step w p) l
unfolding step pick
finish_step w tidy p l = by (opens w.out.room p)
  where
    tidy' : Tidy (opened w).out
    tidy' = opened_tidy w

    tidy'' : Tidy (added (opened w) p.opening).out
    tidy'' = added_tidy (opened w) p.opening tidy'

    by : (b : Bool) → finish w (put b p l) ≡ finish (pick b (added (added (opened w) p.opening) p.body) (added w p.body)) l
    by true =
        finish_opened w tidy (record { here = p.opening ++ (p.body ++ l.here); more = l.more })
        ∙ finish_added (opened w) tidy' (record { here = p.body ++ l.here; more = l.more }) p.opening
        ∙ finish_added (added (opened w) p.opening) tidy'' l p.body
    by false = finish_added w tidy l p.body

pub finish_all : (ps : List Piece) (w : Wrote) → Tidy w.out → finished w ps ≡ finish w (lay w.out.room ps)
unfolding wrote finished lay finish closed stored continue_bytes
finish_all [] w tidy = let e : w.out.at - (w.out.seg + 4) ≡ w.out.at + 0 - (w.out.seg + 4) = omega arith in ap (λ (k : ℕ). sets w.buf (w.out.seg + 2) (bytes_of 2 k)) e
finish_all (p ∷ ps) w tidy =
    let s = step_is w p in
    finish_all ps (step w p) (s.3 tidy)
    ∙ ap (λ (k : ℕ). finish (step w p) (lay k ps)) s.0
    ∙ sym (finish_step w tidy p (lay (room_after w.out.room p) ps))

-- where it ends
pub wrote_at : (ps : List Piece) (w : Wrote) → (wrote w ps).out.at ≡ w.out.at + laid_size w.out.room ps
unfolding wrote laid_size
wrote_at [] w = omega arith
wrote_at (p ∷ ps) w =
    let s = step_is w p in
    let a = s.1 in
    let r = ap (λ (k : ℕ). laid_size k ps) s.0 in
    let i = wrote_at ps (step w p) in
    omega arith

start_tidy : (b : List ℕ) (p total n : ℕ) → Tidy (table_start b p total n).out
unfolding table_start
start_tidy b p total n = omega arith

start_length : (b : List ℕ) (p total n : ℕ) → length (table_start b p total n).buf ≡ length b
unfolding table_start with_counts
start_length b p total n = simp stored_length

start_finish : (b : List ℕ) (p total : ℕ) (ts : List Text) → finish (table_start b p total (length ts)) (laid_of ts) ≡ sets b p (table_bytes total ts)
unfolding finish table_start with_counts stored table_bytes record_bytes
start_finish b p total ts =
    let here = (laid_of ts).here in
    let rest = (laid_of ts).here ++ continue_bytes (laid_of ts).more in
    let n = length (sst_body total ts) in
    let b₁ = sets b p (bytes_of 2 0x00fc) in
    let b₂ = sets b₁ (p + 2) (bytes_of 2 n) in
    let b₃ = sets b₂ (p + 4) (bytes_of 4 total) in
    let l = length-append (bytes_of 4 total) (bytes_of 4 (length ts) ++ (laid_of ts).here) in
    let m = length-append (bytes_of 4 (length ts)) (laid_of ts).here in
    let q = length_bytes 4 total in
    let r = length_bytes 4 (length ts) in
    let e : p + 12 + length (laid_of ts).here - (p + 4) ≡ n = omega arith in
    let z = length_bytes 2 n in
    let g : (bytes_of 2 0x00fc ++ (bytes_of 2 n ++ sst_body total ts)) ++ continue_bytes (laid_of ts).more ≡ bytes_of 2 0x00fc ++ (bytes_of 2 n ++ (bytes_of 4 total ++ (bytes_of 4 (length ts) ++ rest))) = simp append_assoc in
    ap (λ (k : ℕ). sets (sets (sets (sets b₁ (p + 4) (bytes_of 4 total)) (p + 8) (bytes_of 4 (length ts))) (p + 2) (bytes_of 2 k)) (p + 12) rest) e
    ∙ ap (λ (x : List ℕ). sets x (p + 12) rest)
    (sym (sets_comm (sets b₁ (p + 4) (bytes_of 4 total)) (p + 2) (bytes_of 2 n) (p + 8) (bytes_of 4 (length ts)) (omega arith))
    ∙ ap (λ (x : List ℕ). sets x (p + 8) (bytes_of 4 (length ts))) (sym (sets_comm b₁ (p + 2) (bytes_of 2 n) (p + 4) (bytes_of 4 total) (omega arith))))
    ∙ sym (sets_by b₃ (p + 8) 4 (length ts) (p + 12) rest (omega arith))
    ∙ sym (sets_by b₂ (p + 4) 4 total (p + 8) (bytes_of 4 (length ts) ++ rest) (omega arith))
    ∙ sym (sets_by b₁ (p + 2) 2 n (p + 4) (bytes_of 4 total ++ (bytes_of 4 (length ts) ++ rest)) (omega arith))
    ∙ sym (sets_by b p 2 0x00fc (p + 2) (bytes_of 2 n ++ (bytes_of 4 total ++ (bytes_of 4 (length ts) ++ rest))) refl)
    ∙ ap (sets b p) (sym g)

-- ---- THE LAW of the writer: the table's bytes, in their place
pub table_written : (b : List ℕ) (p total : ℕ) (ts : List Text) → finished (table_start b p total (length ts)) (pieces_of ts) ≡ with_table b p total ts
unfolding table_start with_table stored
table_written b p total ts =
    finish_all (pieces_of ts) (table_start b p total (length ts)) (start_tidy b p total (length ts)) ∙ start_finish b p total ts

-- ---- as the functions cite it
module _ (b b' : List ℕ) (o e : Out) (ps : List Piece) (is : state b' e ≡ wrote (state b o) ps) where
  pub all_end : e.at ≡ o.at + laid_size o.room ps
  unfolding state
  all_end = ap (λ (z : Wrote). z.out.at) is ∙ wrote_at ps (state b o)

  pub all_at : Long (state b o) ps → e.at ≤ length b'
  unfolding Long state
  all_at l = let a = all_end in let c : length b' ≡ length b = ap (λ (z : Wrote). length z.buf) is ∙ wrote_length ps (state b o) in omega arith

  pub all_finished : (b'' : List ℕ) → b'' ≡ closed (state b' e) → b'' ≡ finished (state b o) ps
  unfolding finished
  all_finished b'' k = k ∙ ap closed is

pub ruleset all_laws = (all_end, all_at, all_finished)

module _ (b : List ℕ) (p total n : ℕ) (ts : List Text) where
  pub table_room : p + table_size ts ≤ length b → p + 12 ≤ length b
  unfolding table_size
  table_room k = omega arith

  module _ (b' : List ℕ) (o : Out) (is : state b' o ≡ table_start b p total n) where
    table_at : o.at ≡ p + 12
    unfolding table_start state
    table_at = ap (λ (z : Wrote). z.out.at) is

    table_left : o.room ≡ 8224 - 8
    unfolding table_start state
    table_left = ap (λ (z : Wrote). z.out.room) is

    pub table_long : p + table_size ts ≤ length b → Long (state b' o) (pieces_of ts)
    unfolding Long table_size state
    table_long k =
        let a = table_at in
        let r = ap (λ (x : ℕ). laid_size x (pieces_of ts)) table_left in
        let l : length b' ≡ length b = ap (λ (z : Wrote). length z.buf) is ∙ start_length b p total n in
        omega arith

    pub table_end_lem : (r : ℕ) → r ≡ o.at + laid_size o.room (pieces_of ts) → r ≡ p + table_size ts
    unfolding table_size
    table_end_lem r k = let a = table_at in let q = ap (λ (x : ℕ). laid_size x (pieces_of ts)) table_left in omega arith

    pub table_is : (b'' : List ℕ) → n ≡ length ts → b'' ≡ finished (state b' o) (pieces_of ts) → b'' ≡ with_table b p total ts
    table_is b'' e k = k ∙ ap (λ (z : Wrote). finished z (pieces_of ts)) (is ∙ ap (table_start b p total) e) ∙ table_written b p total ts

pub ruleset table_laws = (table_room, table_long, table_end_lem, table_is)
