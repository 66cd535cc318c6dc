-- The laws of a fetch. Assumes nothing.
use Prim.Native.Nat.{ℕ, zero, suc, ◌+◌, ◌≤◌, ◌<◌}
use mathlib.Core.Path.{◌≡◌, refl, sym, ap, ◌∙◌}
use mathlib.Core.List.{List, [], ◌∷◌}
use mathlib.Core.Logic.{inl, inr}
use native.Mathlib.Omega.{arith}
use lib.ListN.{length, get_or}
use lib.Dec.{ltb}
use Rattle.std.specs.Prelude.{Option, Some, None, Result, Ok, Err}
use Rattle.steps.proofs.Choice.{never, pick_any, pick_eq, pick_ne}
use Rattle.steps.specs.Items.{nth}
use Rattle.byte_numbers.specs.Bytes.{u16_at}
use Rattle.refusal.specs.declared.Refusal.{Refusal}
use Rattle.refusal.specs.Refused.{refuse}
use Rattle.strings.specs.Table.{places_of, strings_of, units_of, fetched_of, buffer_of}
use Rattle.strings.proofs.Local.{strings_at_lem, strings_length}
use Rattle.sheet_agreement.specs.Agreement.{agreement_of}
use Rattle.globals.specs.declared.Globals.{Globals}
use Rattle.globals.specs.Globals.{globals_of}
use Rattle.globals.specs.Sheets.{sheets_of}
use Rattle.globals.proofs.Table.{Stands, table_told}
use Rattle.top_level.specs.TopLevel.{tops_from, bofs_from}
use Rattle.workbook.specs.Check.{Checked, agreed, on_walked, on_globals, checked_of, on_checked}
use Rattle.reading.specs.Reading.{strings_at}
use Rattle.fetch.specs.Fetch.{answer_in, answer_of, buffer_in, buffer_after}
use Rattle.fetch.specs.Parts.{TableAt}

-- ---- the n-th of a list
module _ {A B : Type 0} (f : A → B) (d : B) where
  pub nth_there : (l : List A) (n : ℕ) → n < length l → (a : A) → f (get_or l n a) ≡ nth l n f d
  unfolding nth
  nth_there [] n h a = absurd (omega arith)
  nth_there (x ∷ l) zero h a = refl
  nth_there (x ∷ l) (suc n) h a = nth_there l n (omega arith) a

  pub nth_past : (l : List A) (n : ℕ) → length l ≤ n → d ≡ nth l n f d
  unfolding nth
  nth_past [] n h = refl
  nth_past (x ∷ l) zero h = absurd (omega arith)
  nth_past (x ∷ l) (suc n) h = nth_past l n (omega arith)

-- ---- the globals of a stream that passes
module _ (s : List ℕ) (u : ℕ) (g : Globals) where
  by_agreed : (b : Globals) (x : Option ℕ) → Ok g ≡ agreed b x → b ≡ g
  by_agreed b None h = cc
  by_agreed b (Some o) h = never (cc)

  by_walked : (b : Globals) (x : Result (Unit {0}) Refusal) → Ok g ≡ on_walked s b x → b ≡ g
  by_walked b (Ok t) h = by_agreed b (agreement_of (sheets_of s) (bofs_from s b.unique b.at)) h
  by_walked b (Err e) h = never (cc)

  by_globals : (x : Result Globals Refusal) → Ok g ≡ on_globals s x → x ≡ Ok g
  by_globals (Ok b) h = ap Ok (by_walked b (tops_from s b.unique b.at) h)
  by_globals (Err e) h = never (cc)

  pub checked_globals : Ok g ≡ checked_of s u → globals_of s u ≡ Ok g
  unfolding checked_of
  checked_globals h =
      pick_any (λ (x : Checked). Ok g ≡ x → globals_of s u ≡ Ok g) (ltb 16777216 (length s))
      (λ i. never (cc))
      (by_globals (globals_of s u)) h

-- ---- its strings
pub strings_none : (s : List ℕ) (p : ℕ) → p ≡ 0 → strings_at s p ≡ []
unfolding strings_at
strings_none s p h = sym (pick_eq _ _ _ _ _ h refl)

pub strings_some : (s : List ℕ) (p : ℕ) → 0 < p → strings_at s p ≡ strings_of s p (p + 4 + u16_at s (p + 2))
unfolding strings_at
strings_some s p h = sym (pick_ne _ _ _ p 0 (λ i. omega arith) refl)

module _ (s : List ℕ) (p n i : ℕ) (told : TableAt s p n) where
  count_by : length (strings_at s p) ≡ n
  count_by = go told
    where
      go : TableAt s p n → length (strings_at s p) ≡ n
      go (inl t) = ap length (strings_none s p t.0) ∙ sym t.1
      go (inr t) = ap length (strings_some s p t.later) ∙ strings_length s p (p + 4 + u16_at s (p + 2)) ∙ t.count

  pub known_none : (m : ℕ) → n ≤ i → refuse 11 0 ≡ nth (strings_at s p) i (fetched_of m) (refuse 11 0)
  known_none m l = nth_past _ _ (strings_at s p) i (omega (arith, count_by))

  pub known_kept : (b : List ℕ) → n ≤ i → b ≡ nth (strings_at s p) i (buffer_of b) b
  known_kept b l = nth_past _ b (strings_at s p) i (omega (arith, count_by))

  module _ (l : i < n) where
    stands : Stands s p n
    stands = go told
      where
        go : TableAt s p n → Stands s p n
        go (inl t) = absurd (omega arith)
        go (inr t) = t

    pub table_whole : p + 4 + u16_at s (p + 2) ≤ length s
    table_whole = stands.within

    pub table_string : i < length (places_of s p (p + 4 + u16_at s (p + 2)))
    table_string = let c = stands.count in omega arith

    module _ (e : ℕ) (end : e ≡ p + 4 + u16_at s (p + 2)) where
      string_is : {X : Type 0} (f : List ℕ → X) (d : X) → f (units_of s p e i) ≡ nth (strings_at s p) i f d
      string_is f d =
          ap f (rw end (sym (ap (λ (x : List (List ℕ)). get_or x i []) (strings_some s p stands.later) ∙ strings_at_lem s p (p + 4 + u16_at s (p + 2)) i)))
          ∙ nth_there f d (strings_at s p) i (omega (arith, count_by)) []

      pub known_there : (m : ℕ) (y : Result ℕ Refusal) → y ≡ fetched_of m (units_of s p e i) → y ≡ nth (strings_at s p) i (fetched_of m) (refuse 11 0)
      known_there m y k = k ∙ string_is (fetched_of m) (refuse 11 0)

      pub known_written : (b c : List ℕ) → c ≡ buffer_of b (units_of s p e i) → c ≡ nth (strings_at s p) i (buffer_of b) b
      known_written b c k = k ∙ string_is (buffer_of b) b

pub ruleset table_laws = (table_whole, table_string)

pub ruleset known_laws = (known_none, known_kept, known_there, known_written)

-- ---- the answer and the buffer
module _ (s : List ℕ) (i : ℕ) (b : List ℕ) where
  module _ (e : Refusal) (h : checked_of s 0 ≡ Err e) where
    pub fetch_wrong : answer_of s i b ≡ Err e
    unfolding answer_of
    fetch_wrong = ap (on_checked refuse (answer_in s i b)) h

    pub buffer_wrong : buffer_after s i b ≡ b
    unfolding buffer_after
    buffer_wrong = ap (on_checked (λ _ _. b) (buffer_in s i b)) h

  module _ (g : Globals) (h : checked_of s 0 ≡ Ok g) where
    pub fetch_right : answer_of s i b ≡ nth (strings_at s g.table) i (fetched_of (length b)) (refuse 11 0)
    unfolding answer_of
    fetch_right = ap (on_checked refuse (answer_in s i b)) h

    pub buffer_right : buffer_after s i b ≡ nth (strings_at s g.table) i (buffer_of b) b
    unfolding buffer_after
    buffer_right = ap (on_checked (λ _ _. b) (buffer_in s i b)) h

pub table_at : (s : List ℕ) (g : Globals) → checked_of s 0 ≡ Ok g → TableAt s g.table g.unique
table_at s g h = table_told s 0 g (checked_globals s 0 g (sym h))

pub ruleset fetch_laws = (fetch_wrong, buffer_wrong, fetch_right, buffer_right, table_at)
