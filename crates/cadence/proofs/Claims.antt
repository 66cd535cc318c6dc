-- What holds of the answers. Assumes nothing.
use Prim.Native.Nat.{ℕ, zero, suc, ◌+◌, ◌-◌, ◌*◌, ◌/◌, ◌%◌, ◌≤◌, ◌<◌}
use native.Mathlib.Nat.{div-mul-le_self, div-lt_iff_lt-mul, zero-add}
use mathlib.Core.Path.{◌≡◌, refl, sym, ap, ◌∙◌, subst}
use mathlib.Core.List.{List, [], ◌∷◌}
use Rattle.std.specs.Prelude.{Option, Some, None, Result, Ok, Err}
use Rattle.refusal.specs.declared.Refusal.{Refusal}
use Rattle.refusal.specs.Refused.{refuse}
use mathlib.Core.Logic.{inl, inr}
use native.Mathlib.Omega.{arith}
use lib.ListN.{length}
use lib.Dec.{ltb, leb, eqb}
use borrow.Author.Tests.{leb-true, leb-false, ltb-true, ltb-false, eqb-true, eqb-false}
use Rattle.steps.specs.Choice.{pick}
use Rattle.steps.proofs.Choice.{never, pick_any, pick_by, pick_le}
use Rattle.steps.specs.Items.{nth}
use Rattle.reading.specs.declared.Place.{Place}
use Rattle.cell.specs.declared.Cell.{Cell}
use Rattle.reading.specs.Cells.{listed_from}
use Rattle.reading.specs.Claims.{Every}
use Rattle.profile.specs.declared.Session.{Session}
use Rattle.profile.specs.Placed.{Placed, placed_from}
use Rattle.profile.specs.Profile.{limit_of, amount_in, on_amount, judged_from, profile_of}
use Rattle.profile.specs.Parts.{TwoOrThree}
use Rattle.profile.proofs.Placed.{placed_cells}
use Rattle.profile.proofs.Claims.{Session-of, is_session}
use Rattle.cadence.specs.declared.Row.{Row}
use Rattle.cadence.specs.declared.Cadence.{Cadence}
use Rattle.cadence.specs.declared.Cadence.TheVariants.{Pause, Elapsed, Still}
use Rattle.cadence.specs.declared.NextRow.{NextRow}
use Rattle.cadence.specs.declared.Position.{Position}
use Rattle.cadence.specs.Cadence.{number_in, row_with, by_two, by_three, rows_of, elapsed_of, measured_of, pair_of, neighbours, on_session, cadence_of}
use Rattle.cadence.specs.Steps.{next_row_of, position_at, on_first, pairs_of, pairs_from, nth_pair}
use Rattle.cadence.specs.Claims.{ElapsedModulo, Measured, CadenceRounded, PauseExactly, StillExactly, RowsCounted, StepsAnswer, StepsEnd, StepsNearer}
use Rattle.cadence.proofs.Laws.{number_within}
use Rattle.cadence.proofs.Steps.{cells_in, Ahead, done, more, ahead, pairs_in, pairs_nth, pairs_length, pairs_are, rows_are, pair_less}

zero_mod : (k : ℕ) → TwoOrThree k → 0 % k ≡ 0
zero_mod k (inl e) = ap (λ (j : ℕ). 0 % j) e
zero_mod k (inr e) = ap (λ (j : ℕ). 0 % j) e

zero_div : (k : ℕ) → TwoOrThree k → 0 / k ≡ 0
zero_div k (inl e) = ap (λ (j : ℕ). 0 / j) e
zero_div k (inr e) = ap (λ (j : ℕ). 0 / j) e

-- ---- the rows
module _ (s : List ℕ) (n k : ℕ) (v : Place) (i : Session-of s n k v) where
  abbrev l : List Placed
  l = placed_from s v

  abbrev rows : List Row
  rows = rows_of k (cells_in l)

  listed : listed_from s v ≡ cells_in l
  listed = sym (placed_cells s v)

  counted : length rows ≡ n
  counted = sym (zero-add (length rows)) ∙ sym (ap (λ (x : ℕ). x + length rows) (zero_div k i.columns)) ∙ rows_are s k n i.columns (suc (length l)) l (omega arith) v 0 0 listed i.judged (zero_mod k i.columns)

  ahead₀ : Ahead s k n v 0 l
  ahead₀ = ahead s n v 0 0 k i.columns l listed i.judged (zero_mod k i.columns)

  pairs_from_lem : (w : Place) (m : List Placed) (t : ℕ) → listed_from s w ≡ cells_in m → judged_from k (0 + k) t m ≡ Ok n → (0 + k) % k ≡ 0 → (a : Row) → pairs_from s (position_at a w k) ≡ pairs_in a (rows_of k (cells_in m))
  pairs_from_lem w m t f g h a = pairs_are s k n i.columns (suc (length m)) m (omega arith) w (0 + k) t f g h a

  pairs_first : (a : Row) → pairs_from s (position_at a v k) ≡ pairs_in a rows
  pairs_first a = pairs_are s k n i.columns (suc (length l)) l (omega arith) v 0 0 listed i.judged (zero_mod k i.columns) a

  -- the steps from the first row on
  abbrev p₀ : Position
  p₀ = on_first k v (next_row_of s k v)

  answer_by_lem : Ahead s k n v 0 l → (j : ℕ) → nth_pair s p₀ j ≡ neighbours rows j
  unfolding nth_pair pairs_in nth neighbours
  answer_by_lem (done f g o) j =
      ap (λ (x : Option NextRow). nth_pair s (on_first k v x) j) g
      ∙ ap (λ (x : List Cadence). nth x j Ok (refuse 11 0)) (pairs_first (row_with 0 0 0) ∙ ap (pairs_in (row_with 0 0 0)) f)
      ∙ ap (λ (x : List Row). neighbours x j) (sym f)
  answer_by_lem (more a w m u f g o jd q y x) j =
      ap (λ (x : Option NextRow). nth_pair s (on_first k v x) j) g
      ∙ ap (λ (x : List Cadence). nth x j Ok (refuse 11 0)) (pairs_from_lem w m u o jd y a)
      ∙ pairs_nth a (rows_of k (cells_in m)) j
      ∙ ap (λ (x : List Row). neighbours x j) (sym f)

  pub first_answers : (j : ℕ) → nth_pair s p₀ j ≡ neighbours (rows_of k (listed_from s v)) j
  first_answers j = answer_by_lem ahead₀ j ∙ ap (λ (m : List Cell). neighbours (rows_of k m) j) (sym listed)

  length_by : Ahead s k n v 0 l → length (pairs_from s p₀) ≡ n - 1
  unfolding pairs_in
  length_by (done f g o) =
      let c = ap (λ (x : Option NextRow). length (pairs_from s (on_first k v x))) g ∙ ap length (pairs_first (row_with 0 0 0) ∙ ap (pairs_in (row_with 0 0 0)) f) in
      let d = sym counted ∙ ap length f in
      c ∙ (let e : 0 ≡ n - 1 = omega arith in e)
  length_by (more a w m u f g o jd q y x) =
      let c = ap (λ (x : Option NextRow). length (pairs_from s (on_first k v x))) g ∙ ap length (pairs_from_lem w m u o jd y a) ∙ pairs_length a (rows_of k (cells_in m)) in
      let d : length rows ≡ suc (length (rows_of k (cells_in m))) = ap length f in
      let e = counted in
      c ∙ (let h : length (rows_of k (cells_in m)) ≡ n - 1 = omega arith in h)

  pub first_length : length (pairs_from s p₀) ≡ n - 1
  first_length = length_by ahead₀

pub rows_counted : RowsCounted
rows_counted s n k v h = ap (λ (l : List Cell). length (rows_of k l)) (sym (placed_cells s v)) ∙ counted s n k v (is_session s n k v h)

-- ---- the steps and the single question
module _ (s : List ℕ) (n : ℕ) where
  abbrev starts : Result Session Refusal → Result Position Refusal
  starts = on_session (λ k v. Ok (on_first k v (next_row_of s k v)))

  abbrev answers : Result Session Refusal → Result Cadence Refusal
  answers = on_session (λ k v. neighbours (rows_of k (listed_from s v)) n)

  answer_at : (p : Position) (x : Result Session Refusal) → profile_of s ≡ x → starts x ≡ Ok p → answers x ≡ nth_pair s p n
  answer_at p (Ok x) h e =
      let f : on_first x.columns x.cells (next_row_of s x.columns x.cells) ≡ p = cc in
      sym (first_answers s x.rows x.columns x.cells (is_session s x.rows x.columns x.cells h) n) ∙ ap (λ (q : Position). nth_pair s q n) f
  answer_at p (Err e) h i = never (cc)

  answer_refused : (e : Refusal) (x : Result Session Refusal) → starts x ≡ Err e → answers x ≡ Err e
  answer_refused e (Ok x) i = never (cc)
  answer_refused e (Err r) i = cc

  pub cadence_at : (p : Position) → pairs_of s ≡ Ok p → cadence_of s n ≡ nth_pair s p n
  unfolding cadence_of pairs_of
  cadence_at p h = answer_at p (profile_of s) refl h

  pub cadence_refused : (e : Refusal) → pairs_of s ≡ Err e → cadence_of s n ≡ Err e
  unfolding cadence_of pairs_of
  cadence_refused e h = answer_refused e (profile_of s) h

pub ruleset cadence_laws = (cadence_at, cadence_refused)

pub steps_answer : StepsAnswer
steps_answer s p h n = sym (cadence_at s n p h)

pub steps_end : StepsEnd
unfolding pairs_of
steps_end s p n k v h i =
    let e : Ok (on_first k v (next_row_of s k v)) ≡ Ok p = ap (starts s 0) (sym i) ∙ h in
    let f : on_first k v (next_row_of s k v) ≡ p = cc in
    ap (λ (q : Position). length (pairs_from s q)) (sym f) ∙ first_length s n k v (is_session s n k v i)

pub steps_nearer : StepsNearer
steps_nearer s p q a h = pair_less s p (record { answer = a; next = q }) h

-- ---- elapsed
pub elapsed_modulo : ElapsedModulo
unfolding elapsed_of
elapsed_modulo a b f g =
    pick_by (λ (x : ℕ). (x < 65536) × ((a + x) % 65536 ≡ b)) (ltb b a)
    (λ h. let l = ltb-true b a h in (omega arith, omega arith))
    (λ h. let l = ltb-false b a h in (omega arith, omega arith))

-- ---- a pause, no ticks
never_pause : (t u : ℕ) → measured_of t u ≡ Pause → ⊥
unfolding measured_of
never_pause t u = pick_any (λ (x : Cadence). x ≡ Pause → ⊥) (eqb t 0) (λ e. never (cc)) (λ e. never (cc))

pub pause_exactly : PauseExactly
unfolding pair_of
pause_exactly a b = (
  pick_by (λ (x : Cadence). x ≡ Pause → 64 ≤ b.seconds - a.seconds) (leb 64 (b.seconds - a.seconds))
      (λ h _. leb-true 64 (b.seconds - a.seconds) h)
      (λ _ e. absurd (never_pause (elapsed_of a.ticks b.ticks) (elapsed_of a.turns b.turns) e)),
  λ l. sym (pick_le Pause Pause _ 64 (b.seconds - a.seconds) l refl),
)

still_by : (t u n : ℕ) → measured_of t u ≡ Still n → (t ≡ 0) × (n ≡ u)
unfolding measured_of
still_by t u n =
    pick_by (λ (x : Cadence). x ≡ Still n → (t ≡ 0) × (n ≡ u)) (eqb t 0)
    (λ h e. (eqb-true t 0 h, let f : u ≡ n = cc in sym f))
    (λ _ e. never (cc))

pub still_exactly : StillExactly
unfolding pair_of
still_exactly a b n =
    pick_by (λ (x : Cadence). x ≡ Still n → (b.seconds - a.seconds < 64) × ((elapsed_of a.ticks b.ticks ≡ 0) × (n ≡ elapsed_of a.turns b.turns))) (leb 64 (b.seconds - a.seconds))
    (λ _ e. never (cc))
    (λ h e. (leb-false 64 (b.seconds - a.seconds) h, still_by (elapsed_of a.ticks b.ticks) (elapsed_of a.turns b.turns) n e))

-- ---- the cadence
module _ (x y c : ℕ) where
  abbrev Says : Cadence → Type 0
  Says z = z ≡ Elapsed x y c → Measured x y c

  measured_right : (t u : ℕ) → t < 65536 → u < 65536 → Says (measured_of t u)
  unfolding measured_of
  measured_right t u l m =
      pick_by Says (eqb t 0) (λ _ e. never (cc))
      (λ h e.
      let some : 0 < t = (let n = eqb-false t 0 h in omega arith) in
      let f : t ≡ x = cc in
      let g : u ≡ y = cc in
      let i : u * 61440 / t ≡ c = cc in
      let low : u * 61440 / t * t ≤ u * 61440 = div-mul-le_self (u * 61440) t in
      let high : u * 61440 < (u * 61440 / t + 1) * t = (div-lt_iff_lt-mul some).0 (omega arith) in
      subst (λ (z : ℕ). Measured x y z) i
      (subst (λ (z : ℕ). Measured x z (u * 61440 / t)) g
      (subst (λ (z : ℕ). Measured z u (u * 61440 / t)) f
      (record { ticks_some = some; ticks_below = l; turns_below = m; not_over = low; next_over = high }))))

  abbrev Small : Row → Type 0
  Small a = (a.ticks < 65536) × (a.turns < 65536)

  pair_right : (a b : Row) → Small a → Small b → Says (pair_of a b)
  unfolding pair_of
  pair_right a b h i =
      pick_any Says (leb 64 (b.seconds - a.seconds)) (λ e. never (cc))
      (measured_right (elapsed_of a.ticks b.ticks) (elapsed_of a.turns b.turns) (elapsed_modulo a.ticks b.ticks h.0 i.0).0 (elapsed_modulo a.turns b.turns h.1 i.1).0)

  neighbours_right : (l : List Row) → Every Small l → (n : ℕ) → neighbours l n ≡ Ok (Elapsed x y c) → Measured x y c
  unfolding neighbours
  neighbours_right [] h n e = never (cc)
  neighbours_right (a ∷ []) h n e = never (cc)
  neighbours_right (a ∷ b ∷ l) h zero e = pair_right a b h.0 h.1.0 (cc)
  neighbours_right (a ∷ b ∷ l) h (suc n) e = neighbours_right (b ∷ l) h.1 n e

  number_small : (column : ℕ) (z : Cell) → limit_of column < 65536 → number_in column z < 65536
  number_small column z f = go (amount_in column z.value) refl
    where
      go : (a : Option ℕ) → amount_in column z.value ≡ a → on_amount 0 (λ n. n) a < 65536
      go (Some n) h = let l = number_within column n z.value h in omega arith
      go None h = omega arith

  row_small : (p q : Cell) (n : ℕ) → Small (row_with (number_in 0 p) (number_in 1 q) n)
  unfolding row_with limit_of pick
  row_small p q n = (number_small 0 p (omega arith), number_small 1 q (omega arith))

  small_two : (l : List Cell) → Every Small (by_two l)
  unfolding by_two
  small_two [] = tt
  small_two (p ∷ []) = tt
  small_two (p ∷ q ∷ l) = (row_small p q 0, small_two l)

  small_three : (l : List Cell) → Every Small (by_three l)
  unfolding by_three
  small_three [] = tt
  small_three (p ∷ []) = tt
  small_three (p ∷ q ∷ []) = tt
  small_three (p ∷ q ∷ r ∷ l) = (row_small p q (number_in 2 r), small_three l)

  small_rows : (k : ℕ) (l : List Cell) → Every Small (rows_of k l)
  unfolding rows_of
  small_rows k l = pick_any (Every Small) (eqb k 3) (small_three l) (small_two l)

  session_right : (s : List ℕ) (n : ℕ) (z : Result Session Refusal) → answers s n z ≡ Ok (Elapsed x y c) → Measured x y c
  session_right s n (Ok z) e = neighbours_right (rows_of z.columns (listed_from s z.cells)) (small_rows z.columns (listed_from s z.cells)) n e
  session_right s n (Err r) e = never (cc)

pub cadence_rounded : CadenceRounded
unfolding cadence_of
cadence_rounded s n t u c e = session_right t u c s n (profile_of s) e
