-- The laws of the strings that two tables have in common. Assumes nothing.
use Prim.Native.Nat.{ℕ, ◌+◌, ◌^◌, ◌≤◌, ◌<◌}
use mathlib.Core.Path.{◌≡◌, refl, sym, ap, ◌∙◌, subst}
use mathlib.Core.Bool.{Bool, true, false}
use mathlib.Core.List.{List, []}
use native.Mathlib.Omega.{arith}
use lib.ListN.{length, get_or}
use lib.Dec.{eqb}
use borrow.Author.Tests.{eqb-true, eqb-false}
use Rattle.steps.proofs.Choice.{never}
use Rattle.std.specs.Prelude.{Result, Ok, Err, IsOk}
use Rattle.std.specs.Result.{result_unwrap_or}
use Rattle.refusal.specs.declared.Refusal.{Refusal}
use Rattle.segments.specs.declared.Cursor.{Cursor}
use Rattle.segments.specs.Segments.{got}
use Rattle.segments.specs.Parts.{Inside, Passes, ends, moved}
use Rattle.strings.specs.Table.{next_place, string_at, units_at, strings, first, places_of, place_of}
use Rattle.strings.proofs.Laws.{skipped_ok, skipped_inside, placed_ok, placed}
use Rattle.string_marks.specs.declared.table.Table.{Table}
use Rattle.string_marks.specs.Marks.{end_at}
use Rattle.string_marks.proofs.Laws.{Whole, whole_table, start_low, strings_add}
use Rattle.differences.specs.Differences.{same}
use Rattle.string_links.specs.Links.{strings_in, string_in}
use Rattle.string_links.proofs.Laws.{string_inside, string_passes, string_units}
use Rattle.records_abreast.specs.Abreast.{Common}
use Rattle.leading_strings.specs.Leading.{Reached, Shared}

module _ (t : Table) (i : ℕ) (l : i < t.count) where
  abbrev s : List ℕ
  s = t.stream.now

  abbrev p : ℕ
  p = t.place

  abbrev end : ℕ
  end = end_at s p

  whole : Whole s p t.count
  whole = whole_table t (omega arith)

  low : p + 4 ≤ end
  low = omega arith

  there : i < length (places_of s p end)
  there = let c = whole.counted in omega arith

  module _ (c : Cursor) (r : Reached t i c) where
    cursor : got tt c ≡ ends (strings s i (first p end))
    unfolding Reached
    cursor = sym r

    pub reached_inside : Inside s c
    reached_inside = skipped_inside s p end i there low whole.within (Ok c) cursor c refl

    module _ (z : Result Cursor Refusal) (is : moved z ≡ next_place s c) where
      pub here_ok : IsOk z
      here_ok = placed_ok s p end i there low whole.within (Ok c) cursor c refl z is

      module _ (d : Cursor) (q : z ≡ Ok d) where
        here : d ≡ place_of s p end i
        here = placed s p end i there low whole.within (Ok c) cursor c refl z is d q

        pub here_stands : Inside s d × Passes (string_at s d)
        here_stands = (string_inside t i l d here, string_passes t i l d here)

        pub here_units : (us : List ℕ) → us ≡ units_at s d → us ≡ string_in t i
        here_units us e = e ∙ string_units t i l d here

-- the cursor after a string, where another comes
pub after_reached : (t : Table) (i : ℕ) (c : Cursor) → Reached t i c → i + 1 < t.count → (z : Result Cursor Refusal) → moved z ≡ ends (strings t.stream.now 1 c) → Reached t (i + 1) (result_unwrap_or z c)
unfolding Reached
after_reached t i c r l z is = by z refl
  where
    passed : moved z ≡ ends (strings t.stream.now (i + 1) (first t.place (end_at t.stream.now t.place)))
    passed = is ∙ sym (strings_add t.stream.now 1 c i (first t.place (end_at t.stream.now t.place)) r)

    by : (y : Result Cursor Refusal) → z ≡ y → Reached t (i + 1) (result_unwrap_or y c)
    by (Ok d) q = sym passed ∙ ap moved q
    by (Err e) q =
        let h : IsOk {T = Cursor} {E = Refusal} (Err e) = subst (IsOk {T = Cursor} {E = Refusal}) q (skipped_ok t.stream.now t.place (end_at t.stream.now t.place) (i + 1) (there t (i + 1) l) (low t (i + 1) l) (whole t (i + 1) l).within z passed) in
        never (cc)

pub later : (t : Table) → 0 < t.count → 0 < t.place
later t some = by (eqb t.place 0) refl
  where
    by : (b : Bool) → eqb t.place 0 ≡ b → 0 < t.place
    by true e = absurd (let z = t.absent (eqb-true t.place 0 e) in omega arith)
    by false e = let z = eqb-false t.place 0 e in omega arith

pub start_reached : (t : Table) (e : ℕ) → e ≡ end_at t.stream.now t.place → Reached t 0 (record { seg = t.place; at = t.place + 12; end = e })
unfolding Reached strings
start_reached t e i = λ z. got tt (record { seg = t.place; at = t.place + 12; end = sym i z })

pub start_fits : (t : Table) → 0 < t.count → length t.stream.now < 2 ^ 64 → t.place + 12 < 2 ^ 64
start_fits t some small = let a = start_low t.stream.now t.place t.count (whole_table t some) in let b = t.within some in omega arith

-- ---- one more
module _ (p q : List (List ℕ)) where
  common_none : Common p q 0
  common_none i l = absurd (omega arith)

  common_more : (n : ℕ) → Common p q n → (r : Bool) → r ≡ same (get_or p n []) (get_or q n []) → r ≡ true → (m : ℕ) → n + 1 ≡ m → Common p q m
  common_more n c r is told m e i l = by (eqb i n) refl
    where
      by : (x : Bool) → eqb i n ≡ x → same (get_or p i []) (get_or q i []) ≡ true
      by true y = ap (λ (j : ℕ). same (get_or p j []) (get_or q j [])) (eqb-true i n y) ∙ sym is ∙ told
      by false y = let z = eqb-false i n y in c i (omega arith)

module _ (t u : Table) where
  pub shared_none : Shared t u 0
  shared_none = record { common = common_none (strings_in t) (strings_in u) }

  pub shared_more : (n : ℕ) → Shared t u n → (r : Bool) → r ≡ same (string_in t n) (string_in u n) → r ≡ true → (m : ℕ) → n + 1 ≡ m → Shared t u m
  shared_more n c r is told m e = record { common = common_more (strings_in t) (strings_in u) n c.common r is told m e }
