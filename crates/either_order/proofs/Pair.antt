-- Two corrections over a template and a session, from those of the session under the template's two numbers. Assumes nothing.
use Prim.Native.Nat.{ℕ}
use mathlib.Core.Path.{◌≡◌, refl, sym, ap, ◌∙◌}
use mathlib.Core.List.{List}
use lib.ListN.{length}
use Rattle.std.specs.Prelude.{Result, Ok, Err}
use Rattle.new_value.specs.Change.{Held}
use Rattle.globals.specs.declared.Globals.{Globals}
use Rattle.globals.specs.Sheets.{sheets_of}
use Rattle.workbook.specs.Check.{checked_of}
use Rattle.correction.specs.Correction.{Correction}
use Rattle.correction.specs.Correction as correction
use Rattle.pair.specs.declared.StreamRefusal.{StreamRefusal}
use Rattle.pair.specs.declared.PairChecked.{PairChecked}
use Rattle.pair.specs.Refused.{of_stream}
use Rattle.pair.specs.Pair.{pair_of, Passes, on_pair, refuses, asked, pair_correction_of, answer_of, session_after}
use Rattle.pair.proofs.Laws.{passes_both}
use Rattle.pair.proofs.Correcting.{asked_stream, pair_is}
use Rattle.reads_after.proofs.Kept.{all_left}
use Rattle.either_order.specs.Apart.{Asked, Elsewhere, OneCell}
use Rattle.either_order.specs.Apart as one
use Rattle.either_order.specs.Pair.{outcome, answer, after, AsAlone, EitherOrder, SecondAlone}
use Rattle.either_order.proofs.Apart.{as_alone, either_order, second_alone}

-- ---- the check's answer is left
module _ (s : List ℕ) (lent sheets : ℕ) (x : Asked) (held : Held x.value) where
  checked_by : (c : Correction) → one.outcome s lent sheets x ≡ c → checked_of (correction.stream_after s c) lent ≡ checked_of s lent
  checked_by (correction.refuses m o) h = refl
  checked_by (correction.writes f p b) h = (all_left s lent sheets x.sheet x.row x.column x.value f p b held h).checked

  checked_after : checked_of (one.after s lent sheets x) lent ≡ checked_of s lent
  checked_after = checked_by (one.outcome s lent sheets x) refl

-- ---- where both streams pass
module _ (t : List ℕ) (g h : Globals) where
  abbrev k : ℕ
  k = length (sheets_of t)

  abbrev u : ℕ
  u = g.unique

  outcome_is : (s : List ℕ) → Passes t s g h → (x : Asked) → outcome t s x ≡ asked (one.outcome s u k x)
  outcome_is s p x = pair_is t s x.sheet x.row x.column x.value g h p

  after_is : (s : List ℕ) → Passes t s g h → (x : Asked) → after t s x ≡ one.after s u k x
  after_is s p x = ap (session_after s) (outcome_is s p x) ∙ sym (asked_stream s (one.outcome s u k x))

  passes_after : (s : List ℕ) → Passes t s g h → (x : Asked) → Held x.value → Passes t (one.after s u k x) g h
  passes_after s p x held = record { template = p.template; session = checked_after s u k x held ∙ p.session }

  alone_passed : (s : List ℕ) → Passes t s g h → (x y : Asked) → Held x.value → outcome t (after t s x) y ≡ outcome t s y
  alone_passed s p x y held =
      ap (λ (z : List ℕ). outcome t z y) (after_is s p x)
      ∙ outcome_is (one.after s u k x) (passes_after s p x held) y ∙ ap asked (as_alone s u k x y held) ∙ sym (outcome_is s p y)

  twice : (s : List ℕ) → Passes t s g h → (x y : Asked) → Held x.value → after t (after t s x) y ≡ one.after (one.after s u k x) u k y
  twice s p x y held = ap (λ (z : List ℕ). after t z y) (after_is s p x) ∙ after_is (one.after s u k x) (passes_after s p x held) y

  granted_one : (c : Correction) → answer_of (asked c) ≡ Ok tt → correction.answer_of c ≡ Ok tt
  granted_one (correction.refuses m o) e = absurd (cc)
  granted_one (correction.writes f q b) e = refl

  second_passed : (s : List ℕ) → Passes t s g h → (x y : Asked) → Held x.value → OneCell x y → answer t s x ≡ Ok tt → answer t (after t s x) y ≡ Ok tt → after t (after t s x) y ≡ after t s y
  second_passed s p x y held same a b =
      let i = granted_one (one.outcome s u k x) (sym (ap answer_of (outcome_is s p x)) ∙ a) in
      let j = granted_one (one.outcome (one.after s u k x) u k y) (sym (ap answer_of (outcome_is (one.after s u k x) (passes_after s p x held) y)) ∙ ap (λ (z : List ℕ). answer t z y) (sym (after_is s p x)) ∙ b) in
      twice s p x y held ∙ second_alone s u k x y held same i j ∙ sym (after_is s p y)

-- ---- where one doesn't, every correction is refused alike
module _ (t s : List ℕ) (e : StreamRefusal) (is : pair_of t s ≡ Err e) where
  outcome_refused : (x : Asked) → outcome t s x ≡ refuses (of_stream e.whose) e.number e.offset
  unfolding pair_correction_of
  outcome_refused x = ap (on_pair refuses (λ _ h. asked (correction.correction_in s h.unique (length (sheets_of t)) x.sheet x.row x.column x.value))) is

  after_refused : (x : Asked) → after t s x ≡ s
  after_refused x = ap (session_after s) (outcome_refused x)

  twice_refused : (x y : Asked) → after t (after t s x) y ≡ s
  twice_refused x y = ap (λ (z : List ℕ). after t z y) (after_refused x) ∙ after_refused y

-- ---- the claims
module _ (t s : List ℕ) (x y : Asked) where
  alone_by : Held x.value → (c : Result PairChecked StreamRefusal) → pair_of t s ≡ c → outcome t (after t s x) y ≡ outcome t s y
  alone_by held (Ok c) i = alone_passed t c.template c.session s (passes_both t s c.template c.session i) x y held
  alone_by held (Err e) i = ap (λ (z : List ℕ). outcome t z y) (after_refused t s e i x)

  ends_by : Held x.value → Held y.value → Elsewhere x y → (c : Result PairChecked StreamRefusal) → pair_of t s ≡ c → after t (after t s x) y ≡ after t (after t s y) x
  ends_by hx hy else (Ok c) i =
      let g = c.template in
      let p = passes_both t s g c.session i in
      twice t g c.session s p x y hx ∙ (either_order s g.unique (length (sheets_of t)) x y hx hy else).0 ∙ sym (twice t g c.session s p y x hy)
  ends_by hx hy else (Err e) i = twice_refused t s e i x y ∙ sym (twice_refused t s e i y x)

  second_by : Held x.value → OneCell x y → answer t s x ≡ Ok tt → answer t (after t s x) y ≡ Ok tt → (c : Result PairChecked StreamRefusal) → pair_of t s ≡ c → after t (after t s x) y ≡ after t s y
  second_by held same a b (Ok c) i = second_passed t c.template c.session s (passes_both t s c.template c.session i) x y held same a b
  second_by held same a b (Err e) i = twice_refused t s e i x y ∙ sym (after_refused t s e i y)

pub pair_alone : AsAlone
pair_alone t s x y held = alone_by t s x y held (pair_of t s) refl

pub pair_either : EitherOrder
pair_either t s x y hx hy else = (
  ends_by t s x y hx hy else (pair_of t s) refl,
  ap answer_of (alone_by t s x y hx (pair_of t s) refl),
  ap answer_of (alone_by t s y x hy (pair_of t s) refl),
)

pub pair_second : SecondAlone
pair_second t s x y held same a b = second_by t s x y held same a b (pair_of t s) refl
