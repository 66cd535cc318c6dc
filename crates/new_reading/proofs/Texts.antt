-- Each used index names the string that it named. Assumes nothing.
use Prim.Native.Nat.{ℕ, zero, suc, ◌+◌, ◌^◌, ◌≤◌}
use mathlib.Core.Path.{◌≡◌, refl, sym, ap, ap₂, ◌∙◌}
use mathlib.Core.List.{List, [], ◌∷◌}
use mathlib.Core.Bool.{Bool, true, false}
use native.Mathlib.Omega.{arith}
use lib.ListN.{length}
use lib.Dec.{eqb}
use borrow.Author.Tests.{eqb-true, eqb-false}
use Rattle.steps.specs.Choice.{pick}
use Rattle.steps.proofs.Choice.{pick_eq, pick_ne}
use Rattle.steps.specs.Items.{nth}
use Rattle.record.specs.declared.Header.TheVariants.{Record}
use Rattle.record.specs.Record.{header_at}
use Rattle.globals.specs.declared.Globals.{Globals}
use Rattle.globals.specs.Globals.{globals_of}
use Rattle.workbook.specs.Check.{Right, checked_of}
use Rattle.reading.specs.Reading.{strings_at, listed_of, on_globals, reading_of}
use Rattle.record_chain.proofs.Sheets.{passing}
use Rattle.new_stream.specs.Entries.{entries_of}
use Rattle.new_stream.specs.Compact.{compact_with, texts_in, uses, used_below}
use Rattle.new_stream.specs.Claims.{Standing, TableOf, place_of, Compacted}
use Rattle.new_stream.proofs.Check.{first, compacted}
use Rattle.new_stream.proofs.Places.{used_grows, index_some}
use Rattle.cell.specs.declared.Cell.{Cell}
use Rattle.value.specs.declared.CellValue.TheVariants.{Text}
use Rattle.record_chain.proofs.Chain.{every_map}
use Rattle.new_reading.specs.Retexted.{used_texts, TextsOf, index_of, TextsKept, CellsNamed}
use Rattle.new_reading.proofs.Reading.{listed_says}

abbrev at : List (List ℕ) → ℕ → List ℕ
at l n = nth l n (λ x. x) []

-- one step of the list of used strings
module _ (l : List ℕ) where
  texts_used : (x : List ℕ) (r : List (List ℕ)) (j : ℕ) → uses l j ≡ true → used_texts l j (x ∷ r) ≡ x ∷ used_texts l (j + 1) r
  unfolding used_texts pick
  texts_used x r j h = rw h refl

  texts_unused : (x : List ℕ) (r : List (List ℕ)) (j : ℕ) → uses l j ≡ false → used_texts l j (x ∷ r) ≡ used_texts l (j + 1) r
  unfolding used_texts pick
  texts_unused x r j h = rw h refl

  below_used : (j : ℕ) → uses l j ≡ true → used_below l (j + 1) ≡ 1 + used_below l j
  unfolding used_below pick
  below_used j h = let e : j + 1 ≡ suc j = omega arith in rw (e, h) refl

  below_unused : (j : ℕ) → uses l j ≡ false → used_below l (j + 1) ≡ used_below l j
  unfolding used_below pick
  below_unused j h = let e : j + 1 ≡ suc j = omega arith in rw (e, h) (omega arith)

  texts_none : (j k : ℕ) → at (used_texts l j []) k ≡ []
  unfolding used_texts nth
  texts_none j k = refl

  -- the string that is used as the k-th from j on is the one of the index that has k used ones before it
  used_nth : (r : List (List ℕ)) (j i k : ℕ) → uses l (j + i) ≡ true → used_below l (j + i) ≡ used_below l j + k → at (used_texts l j r) k ≡ at r i
  unfolding nth
  used_nth [] j i k h e = texts_none j k
  used_nth (x ∷ r) j zero k h e =
      let z : j + 0 ≡ j = omega arith in
      let u : uses l j ≡ true = rw z at h in
      let f : used_below l j ≡ used_below l j + k = rw z at e in
      let k-is : k ≡ 0 = omega arith in
      rw k-is (ap (λ (y : List (List ℕ)). at y 0) (texts_used x r j u))
  used_nth (x ∷ r) j (suc i) k h e = by (uses l j) refl (λ k' f. used_nth r (j + 1) i k' u f)
    where
      move : j + suc i ≡ j + 1 + i
      move = omega arith

      u : uses l (j + 1 + i) ≡ true
      u = ap (uses l) (sym move) ∙ h

      low : used_below l (j + 1) ≤ used_below l (j + 1 + i)
      low = let z : i + (j + 1) ≡ j + 1 + i = omega arith in rw z at (used_grows l (j + 1) i)

      sum : used_below l (j + 1 + i) ≡ used_below l j + k
      sum = ap (used_below l) (sym move) ∙ e

      some : (k : ℕ) → used_below l (j + 1 + i) ≡ used_below l j + k → uses l j ≡ true → ((k' : ℕ) → used_below l (j + 1 + i) ≡ used_below l (j + 1) + k' → at (used_texts l (j + 1) r) k' ≡ at r i) → at (x ∷ used_texts l (j + 1) r) k ≡ at r i
      some zero f b rest = let c = below_used j b in let d = low in absurd (omega arith)
      some (suc k) f b rest = let c = below_used j b in rest k (omega arith)

      by : (b : Bool) → uses l j ≡ b → ((k' : ℕ) → used_below l (j + 1 + i) ≡ used_below l (j + 1) + k' → at (used_texts l (j + 1) r) k' ≡ at r i) → at (used_texts l j (x ∷ r)) k ≡ at r i
      by true b rest = ap (λ (y : List (List ℕ)). at y k) (texts_used x r j b) ∙ some k sum b rest
      by false b rest = ap (λ (y : List (List ℕ)). at y k) (texts_unused x r j b) ∙ rest k (let c = below_unused j b in sum ∙ ap (λ (n : ℕ). n + k) (sym c))

-- ---- the strings of the two streams
module _ (s T : List ℕ) (u : ℕ) (g : Globals) (few : u ≤ 256 ^ 4) (ok : checked_of s u ≡ Right g) (tab : TableOf s T g) (short : length (compact_with s T) ≤ 16777216) where
  abbrev t : List ℕ
  t = compact_with s T

  done : Compacted s T u g
  done = compacted s T u g few ok tab short

  abbrev texts : List ℕ
  texts = texts_in s (entries_of s)

  old_strings : on_globals s (globals_of s u) ≡ strings_at s g.table
  old_strings = ap (on_globals s) (passing s u g ok).globals

  new_strings : on_globals t (globals_of t u) ≡ strings_at t done.globals.table
  new_strings = ap (on_globals t) (passing t u done.globals done.passes).globals

  no_strings : (x : List ℕ) (n : ℕ) → n ≡ 0 → strings_at x n ≡ []
  unfolding strings_at
  no_strings x n h = sym (pick_eq [] _ _ n 0 h refl)

  module _ (some : g.table ≡ 0 → ⊥) where
    standing : Standing t T (place_of s T g.table)
    standing = done.stands some

    -- the table is not the first record
    table_later : place_of s T g.table ≡ 0 → ⊥
    table_later z =
        let f = (first t u done.globals (passing t u done.globals done.passes).globals).header in
        let h = (tab.table some).stands t (place_of s T g.table) standing in
        let b : header_at t 0 ≡ Record 0x00FC h.body (place_of s T g.table + 4 + h.body) = ap (header_at t) (sym z) ∙ h.header in
        let c : ◌≡◌ {A = ℕ} 0x0809 0x00FC = cc in
        omega arith

    some_strings : TextsOf s T g → strings_at t done.globals.table ≡ used_texts texts 0 (strings_at s g.table)
    unfolding strings_at
    some_strings of =
        ap (strings_at t) (done.table some).0
        ∙ sym (pick_ne _ _ _ (place_of s T g.table) 0 table_later refl)
        ∙ of some t (place_of s T g.table) standing

  kept : TextsOf s T g → (i : ℕ) → uses texts i ≡ true → (b : Bool) → eqb g.table 0 ≡ b → at (on_globals t (globals_of t u)) (index_of s T i) ≡ at (on_globals s (globals_of s u)) i
  unfolding used_below nth
  kept of i h true e =
      let z = eqb-true g.table 0 e in
      ap (λ (y : List (List ℕ)). at y (index_of s T i)) (new_strings ∙ no_strings t done.globals.table (done.no_table z).0)
      ∙ sym (ap (λ (y : List (List ℕ)). at y i) (old_strings ∙ no_strings s g.table z))
  kept of i h false e =
      let n = eqb-false g.table 0 e in
      ap₂ at (new_strings ∙ some_strings n of) (index_some s T (entries_of s) i (tab.table n).some)
      ∙ used_nth texts (strings_at s g.table) 0 i (used_below texts i) (ap (uses texts) (let z : 0 + i ≡ i = omega arith in z) ∙ h) (ap (used_below texts) (let z : 0 + i ≡ i = omega arith in z) ∙ zero_on)
      ∙ ap (λ (y : List (List ℕ)). at y i) (sym old_strings)
    where
      zero_on : used_below texts i ≡ 0 + used_below texts i
      zero_on = omega arith

pub texts_kept : TextsKept
unfolding reading_of
texts_kept s T u g few ok tab of short i h = kept s T u g few ok tab short of i h (eqb g.table 0) refl

pub cells_named : CellsNamed
cells_named s T u g few ok tab of short n x i =
    every_map (λ (c : Cell). (j : ℕ) → c.value ≡ Text j → uses (texts_in s (entries_of s)) j ≡ true)
    (λ (c : Cell). (j : ℕ) → c.value ≡ Text j → at (reading_of (compact_with s T) u).strings (index_of s T j) ≡ at (reading_of s u).strings j)
    (λ c h j e. texts_kept s T u g few ok tab of short j (h j e)) (listed_of s x) (listed_says s T u g few ok tab short n x i)
