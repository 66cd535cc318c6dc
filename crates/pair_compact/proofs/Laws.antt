-- The answers over the pair. Assumes nothing.
use Prim.Native.Nat.{ℕ, ◌+◌, ◌^◌, ◌≤◌}
use mathlib.Core.Path.{◌≡◌, ap}
use mathlib.Core.List.{List}
use mathlib.Core.Logic.{◌⊎◌, inl, inr}
use native.Mathlib.Omega.{arith}
use lib.ListN.{get_or}
use Rattle.std.specs.Prelude.{Result, Ok}
use mir.Val.{Fits as FitsIn}
use mir.Syntax.{w8}
use Rattle.globals.specs.declared.Globals.{Globals}
use Rattle.globals.proofs.Table.{Stands, table_told}
use Rattle.workbook.specs.Check.{Right, checked_of}
use Rattle.record_chain.proofs.Sheets.{passing}
use Rattle.table_texts.proofs.Held.{num_below}
use Rattle.pair.specs.declared.PairRefusal.{PairRefusal}
use Rattle.pair.specs.declared.PairChecked.{PairChecked}
use Rattle.pair.specs.Refused.{refuse_of, questioned}
use Rattle.pair.specs.Pair.{pair_of, Passes, on_pair}
use Rattle.pair.proofs.Laws.{both, where_passed}
use Rattle.new_table.specs.NewTable.{Bytes, compacted_of, compact_of}
use Rattle.new_table.proofs.Claims.{new_is}
use Rattle.compact.specs.Compacted.{answer_to, buffer_to}
use Rattle.compact.specs.Parts.{Passed}
use Rattle.compact.proofs.Made.{unique_is}
use Rattle.pair_compact.specs.PairCompact.{pair_compact_of, pair_buffer_after}

-- ---- where both pass, the session's own answer
module _ (t s b : List ℕ) where
  session_is : (g h : Globals) → Passes t s g h → compact_of s g.unique ≡ compacted_of s h
  session_is g h p = new_is s g.unique h p.session

  abbrev answer_by : List ℕ → Result ℕ PairRefusal
  answer_by n = questioned (answer_to n b)

  pub pair_answer : pair_compact_of t s b ≡ on_pair refuse_of (λ _ h. answer_by (compacted_of s h)) (pair_of t s)
  unfolding pair_compact_of
  pair_answer = where_passed t s refuse_of (λ g _. answer_by (compact_of s g.unique)) (λ _ h. answer_by (compacted_of s h)) (λ g h p. ap answer_by (session_is g h p))

  pub pair_buffer : pair_buffer_after t s b ≡ on_pair (λ _ _ _. b) (λ _ h. buffer_to (compacted_of s h) b) (pair_of t s)
  unfolding pair_buffer_after
  pair_buffer = where_passed t s (λ _ _ _. b) (λ g _. buffer_to (compact_of s g.unique) b) (λ _ h. buffer_to (compacted_of s h) b) (λ g h p. ap (λ (n : List ℕ). buffer_to n b) (session_is g h p))

pub ruleset pair_laws = (pair_answer, pair_buffer)

-- ---- what the session is checked with is a u32
unique_few : (t : List ℕ) (g : Globals) → Bytes t → checked_of t 0 ≡ Right g → g.unique ≤ 256 ^ 4
unique_few t g bytes ok = by (table_told t 0 g (passing t 0 g ok).globals)
  where
    by : ((g.table ≡ 0) × (g.unique ≡ 0)) ⊎ Stands t g.table g.unique → g.unique ≤ 256 ^ 4
    by (inl o) = let a = o.1 in omega arith
    by (inr o) =
        let a = num_below t bytes 4 4 (g.table + 8) (omega arith) in
        let b = unique_is t 0 g bytes ok (λ e. let z = o.later in omega arith) in
        omega arith

bytes_of : (s : List ℕ) → ((i : ℕ) → FitsIn w8 (get_or s i 0)) → Bytes s
bytes_of s h k = let a = h k in omega arith

pub session_passed : (t s : List ℕ) → ((i : ℕ) → FitsIn w8 (get_or t i 0)) → ((i : ℕ) → FitsIn w8 (get_or s i 0)) → (c : PairChecked) → Ok c ≡ pair_of t s → Passed s c.session
session_passed t s a b c is =
    let p = both t s c is in
    record { bytes = bytes_of s b; lent = c.template.unique; few = unique_few t c.template (bytes_of t a) p.template; ok = p.session }
