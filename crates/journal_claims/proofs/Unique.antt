-- The unique count of a stream that passes fits 32 bits. Assumes nothing.
use Prim.Native.Nat.{ℕ, ◌+◌, ◌-◌, ◌^◌, ◌≤◌, ◌<◌}
use mathlib.Core.Path.{◌≡◌, refl}
use mathlib.Core.List.{List}
use mathlib.Core.Logic.{inl, inr}
use native.Mathlib.Omega.{arith}
use lib.ListN.{length}
use lib.Dec.{ltb}
use Rattle.steps.proofs.Choice.{pick_any}
use Rattle.byte_numbers.specs.Bytes.{u16_at, u32_at}
use Rattle.segments.specs.declared.Cursor.{Cursor}
use Rattle.segments.specs.Segments.{Got, got, refused, then, list_of, filled}
use Rattle.strings.specs.Table.{strings, first, table_of, places_of}
use Rattle.strings.proofs.Laws.{strings_count}
use Rattle.globals.specs.declared.Globals.{Globals}
use Rattle.std.specs.Prelude.{Ok}
use Rattle.globals.specs.Globals.{globals_of}
use Rattle.globals.proofs.Table.{TableTold, table_told}
use Rattle.journal_claims.proofs.Right.{num_small}
use Rattle.journal_claims.specs.Replayed.{Bytes}

filled_count : (n : ℕ) (l : List Cursor) → length l ≤ n → (y : Got Unit) → length (list_of (then y (λ _ d. got l d))) ≤ n
filled_count n l h (got u d) = h
filled_count n l h (refused m o) = omega arith

strings_at_most : (s : List ℕ) (n : ℕ) (c : Cursor) (x : Got (List Cursor)) → strings s n c ≡ x → length (list_of (then x (λ l c. then (filled 8 s c) (λ _ d. got l d)))) ≤ n
strings_at_most s n c (got l d) h = filled_count n l (let e = strings_count s n c l d h in omega arith) (filled 8 s d)
strings_at_most s n c (refused m o) h = omega arith

places_at_most : (s : List ℕ) (p e : ℕ) → length (places_of s p e) ≤ u32_at s (p + 8)
unfolding table_of
places_at_most s p e = pick_any (λ (x : Got (List Cursor)). length (list_of x) ≤ u32_at s (p + 8)) (ltb (e - (p + 4)) 8) (omega arith) (strings_at_most s (u32_at s (p + 8)) (first p e) (strings s (u32_at s (p + 8)) (first p e)) refl)

pub unique_small : (s : List ℕ) (u : ℕ) (g : Globals) → Bytes s → u < 2 ^ 32 → globals_of s u ≡ Ok g → g.unique < 2 ^ 32
unique_small s u g bytes small h = go (table_told s u g h)
  where
    go : TableTold s u g → g.unique < 2 ^ 32
    go (inl e) = let i = e.1 in omega arith
    go (inr e) =
        let i = e.count in
        let l = places_at_most s g.table (g.table + 4 + u16_at s (g.table + 2)) in
        let m = num_small s 4 (g.table + 8) bytes in
        omega arith
