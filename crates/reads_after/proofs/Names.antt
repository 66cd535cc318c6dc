-- The name, width and type of each sheet of a corrected stream. Assumes nothing.
use Prim.Native.Nat.{ℕ, ◌+◌, ◌-◌, ◌≤◌, ◌<◌}
use mathlib.Core.Path.{◌≡◌, refl, sym, ap, ◌∙◌}
use mathlib.Core.List.{List, []}
use mathlib.Core.Logic.{◌⊎◌, inl, inr}
use native.Mathlib.Omega.{arith}
use lib.ListN.{take, drop}
use lib.Dec.{ltb}
use Rattle.steps.specs.Choice.{pick}
use Rattle.byte_numbers.specs.Bytes.{byte_at}
use Rattle.byte_numbers.proofs.Laws.{Same}
use Rattle.record.proofs.Laws.{whole}
use Rattle.segments.specs.Segments.{width_of}
use Rattle.value.specs.declared.CellValue.{CellValue}
use Rattle.cell.specs.declared.Shape.TheVariants.{OTHER}
use Rattle.cell.specs.Cells.{shape_of}
use Rattle.record_after.proofs.Changed.{bytes_same}
use Rattle.sheet_agreement.specs.Agreement.{Sheet}
use Rattle.reading.specs.Reading.{on_name, name_at, width_at, type_at}
use Rattle.record_chain.specs.Chain.{Beside}
use Rattle.record_chain.proofs.Chain.{over, beside_cases, beside_reach}
use Rattle.record_chain.proofs.Sheets.{Bounded}
use Rattle.reads_after.specs.Parts.{Corrected}
use Rattle.reads_after.proofs.Records.{no_count}
use Rattle.reads_after.proofs.Fields.{same_record, header_kept, record_kept}

boundsheet_other : (t : ℕ) → t ≡ 0x0085 → shape_of t ≡ OTHER
unfolding shape_of pick
boundsheet_other t h = rw h refl

module _ {s s' : List ℕ} {a t z e k : ℕ} {v : CellValue} (c : Corrected s s' a t z e k v) (from : ℕ) (near : Beside s a e from) (x : Sheet) (b : Bounded s from x) where
  near_sheet : Beside s a e x.header
  near_sheet = beside_reach s a e (over s c.whole) b.reached near

  -- a BOUNDSHEET is no cell record
  bytes_kept : Same s s' x.header b.end
  bytes_kept = go (beside_cases s a e (over s c.whole) x.header b.end near_sheet (over s b.header))
    where
      go : (x.header ≡ a) ⊎ ((b.end ≤ a) ⊎ (e ≤ x.header)) → Same s s' x.header b.end
      go (inl q) = no_count s t a z k c.below (boundsheet_other t (sym (same_record c b.header q).0))
      go (inr q) = record_kept c x.header b.end q

  room : x.header + 12 ≤ b.end
  room = let w = whole s x.header 0x0085 b.size b.end b.header in let l = b.long in omega arith

  pub name_kept : name_at s' x.header ≡ name_at s x.header
  unfolding name_at
  name_kept =
      let w = whole s x.header 0x0085 b.size b.end b.header in
      let l = room in
      let g = c.size in
      let n : take (b.end - (x.header + 12)) (drop (x.header + 12) s') ≡ take (b.end - (x.header + 12)) (drop (x.header + 12) s) =
      bytes_same s s' (x.header + 12) (b.end - (x.header + 12)) (omega arith) (omega arith) (λ j i m. bytes_kept j (omega arith) (omega arith)) in
      ap (on_name s' x.header) (sym (header_kept c x.header near_sheet) ∙ b.header)
      ∙ ap (λ (y : List ℕ). pick (ltb b.size 8) [] y) n
      ∙ ap (on_name s x.header) (sym b.header)

  byte_kept : (j : ℕ) → j < 12 → byte_at s' (x.header + j) ≡ byte_at s (x.header + j)
  byte_kept j l = let m = room in sym (bytes_kept (x.header + j) (omega arith) (omega arith))

  pub width_kept : width_at s' x.header ≡ width_at s x.header
  width_kept = ap width_of (byte_kept 11 (omega arith))

  pub type_kept : type_at s' x.header ≡ type_at s x.header
  type_kept = byte_kept 9 (omega arith)
