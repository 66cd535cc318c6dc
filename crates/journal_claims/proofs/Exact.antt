-- Old bytes that `passes_in` turns down are bytes that the check doesn't pass there. Assumes nothing.
use Prim.Native.Nat.{ℕ}
use mathlib.Core.Path.{◌≡◌, sym, ap, ap₂, ◌∙◌, subst}
use mathlib.Core.List.{List, map}
use mathlib.Core.Bool.{true, false}
use Rattle.steps.proofs.Choice.{never}
use Rattle.byte_numbers.specs.Bytes.{num_at}
use Rattle.value.specs.declared.Field.{Field}
use Rattle.value.specs.Value.{width_of, value_of, value_fits, index_fits}
use Rattle.cell.specs.declared.Cell.{Cell}
use Rattle.sheet_agreement.specs.Agreement.{Sheet}
use Rattle.globals.specs.declared.Globals.{Globals}
use Rattle.std.specs.Prelude.{Result, Ok}
use Rattle.refusal.specs.declared.Refusal.{Refusal}
use Rattle.globals.specs.Sheets.{sheets_of}
use Rattle.workbook.specs.Check.{Right, checked_of}
use Rattle.reading.specs.Reading.{listed_of}
use Rattle.record_chain.specs.Chain.{Nth, first, next}
use Rattle.record_chain.proofs.Sheets.{passing}
use Rattle.passes_after.specs.Stored.{stored_in, Fits, Placed}
use Rattle.passes_after.proofs.Stored.{number_now, stored_globals, stored_sheets}
use Rattle.reads_after.specs.Parts.{written}
use Rattle.reads_after.specs.Fields.{Frame}
use Rattle.journal_claims.proofs.Aims.{frame_kept, listed_written, aimed_only, one_placed}
use Rattle.replay_entry.specs.Steps.{passes_in}
use Rattle.journal_claims.specs.Replayed.{TurnedDown}
use Rattle.journal_claims.proofs.Right.{RightCell, cell_right, value_right, index_right}
use Rattle.journal_claims.proofs.Steps.{passes_is}

nth_map : {A B : Type 0} (f : A → B) {l : List A} {n : ℕ} {x : A} → Nth l n x → Nth (map f l) n (f x)
nth_map f first = first
nth_map f (next i) = next (nth_map f i)

module _ {s : List ℕ} {u n : ℕ} {f : Field} {p b : ℕ} (given : Placed s u n f p b) (h : Globals) (ok : checked_of (stored_in s f p b) u ≡ Right h) where
  abbrev s' : List ℕ
  s' = stored_in s f p b

  -- the cell as the new stream lists it
  abbrev d : Cell
  d = written p (value_of f b) given.cell

  sheet_there : Nth (sheets_of s') n given.sheet
  sheet_there = subst (λ (l : List Sheet). Nth l n given.sheet) (stored_sheets given) given.nth

  cell_there : Nth (listed_of s' given.sheet) given.which d
  cell_there = subst (λ (l : List Cell). Nth l given.which d) (sym (listed_written given n given.sheet given.nth)) (nth_map (written p (value_of f b)) given.is)

  right : RightCell s' h.unique d
  right = cell_right s' u h ok n given.sheet sheet_there given.which d cell_there

  kind_is : d.kind ≡ f
  kind_is = ap (λ (x : Frame). x.kind) (frame_kept p (value_of f b) given.cell) ∙ given.kind

  field_is : d.field ≡ p
  field_is = ap (λ (x : Frame). x.place) (frame_kept p (value_of f b) given.cell) ∙ given.field

  number_is : num_at s' (width_of d.kind) d.field ≡ b
  number_is = ap₂ (λ (x : Field) (y : ℕ). num_at s' (width_of x) y) kind_is field_is ∙ number_now given

  same_globals : h ≡ given.globals
  same_globals =
      let i = (passing s' u h ok).globals in
      let j = stored_globals given in
      let e : ◌≡◌ {A = Result Globals Refusal} (Ok h) (Ok given.globals) = sym i ∙ j in
      cc

  pub fits_after : Fits f given.globals.unique b
  fits_after = record {
    small = given.small;
    right = sym (ap₂ (λ (x : Field) (y : ℕ). value_fits x y) kind_is number_is) ∙ value_right right;
    index = sym ((λ i. index_fits (kind_is i) (number_is i) (same_globals i).unique)) ∙ index_right right;
  }

pub turned_down : TurnedDown
turned_down s u t g ok n row column f p aims b small bad h passes =
    let w = one_placed s u n row column f p g ok (aimed_only s g.unique n row column f p g.unique t aims) b small in
    let k : passes_in f g.unique b ≡ true = passes_is f g.unique b (fits_after w h passes) in
    let z : true ≡ false = sym k ∙ bad in
    never (cc)
