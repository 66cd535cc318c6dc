-- In a stream that passes, each listed formula with a text result has one. Assumes nothing.
use Prim.Native.Nat.{ℕ, ◌+◌, ◌-◌}
use mathlib.Core.Path.{◌≡◌, refl, sym, ap, ◌∙◌, subst}
use mathlib.Core.List.{List}
use mathlib.Core.Bool.{true}
use native.Mathlib.Omega.{arith}
use lib.ListN.{length}
use Rattle.steps.proofs.Choice.{pick_true}
use Rattle.record.specs.declared.Header.TheVariants.{Record}
use Rattle.record.specs.Record.{header_at}
use Rattle.segments.specs.declared.Cursor.{Cursor}
use Rattle.segments.specs.Segments.{Got, got, refused, list_of}
use Rattle.segments.specs.Parts.{Passes}
use Rattle.refusal.specs.Refused.{refuse}
use Rattle.strings.specs.Table.{fetched_of, buffer_of}
use Rattle.cell.specs.declared.Cell.{Cell}
use Rattle.std.specs.Prelude.{Some}
use Rattle.text_result.specs.TextResult.{has_text, text_of}
use Rattle.text_result.specs.FromPlace.{placed_at, placed_text, answer_to, buffer_to, answer_at, buffer_at}
use Rattle.text_result.proofs.FromPlace.{placed_text_lem}
use Rattle.reading.specs.Reading.{listed_of, says_text, on_formula, text_after, units_of}
use Rattle.reading.proofs.Texts.{field_of_lem, room_of, says_is, has_formula}
use Rattle.record_chain.proofs.Chain.{every_map}
use Rattle.record_chain.proofs.Sheets.{sheets_stand}
use Rattle.passes_after.proofs.Granted.{listed_here}
use Rattle.reads_after.specs.Claims.{TextRead, TextsRead}
use Rattle.reads_after.specs.Parts.{ListedTo}
use Rattle.reads_after.proofs.Found.{sheet_cells}

module _ (s : List ℕ) (from to : ℕ) (c : Cell) (j : ListedTo s from to c) (q : says_text c.value ≡ true) where
  has : has_text s j.listed.type j.listed.at ≡ true
  has =
      sym (says_is s j.listed.type j.listed.at j.listed.size j.listed.part (listed_here j.listed).below)
      ∙ ap (λ (x : Cell). says_text x.value) (sym (listed_here j.listed).cell) ∙ q

  formula : j.listed.type ≡ 0x0006
  formula = has_formula s j.listed.type j.listed.at has

  field_is : c.field ≡ j.listed.at + 10
  field_is =
      ap (λ (x : Cell). x.field) (listed_here j.listed).cell
      ∙ field_of_lem s j.listed.type j.listed.at j.listed.size j.listed.part (listed_here j.listed).below formula

  at_is : j.listed.at ≡ c.field - 10
  at_is = let f = field_is in omega arith

  header_is : header_at s (c.field - 10) ≡ Record j.listed.type j.listed.size j.listed.end
  header_is = ap (header_at s) (sym at_is) ∙ j.listed.header

  units_are : list_of (text_of s (c.field - 10) j.listed.end) ≡ units_of s c
  unfolding units_of text_after
  units_are = ap (on_formula s (c.field - 10)) (sym header_is) ∙ pick_true _ _ _ (says_text c.value) q refl

  placed_is : placed_at s c.field ≡ Some (record { at = c.field - 10; end = j.listed.end })
  placed_is =
      let f = field_is in
      let l = room_of s j.listed.type j.listed.at j.listed.size j.listed.part (listed_here j.listed).below formula in
      let h : has_text s j.listed.type (c.field - 10) ≡ true = ap (has_text s j.listed.type) (sym at_is) ∙ has in
      sym (placed_text_lem s c.field j.listed.type j.listed.size j.listed.end (omega arith) header_is l h)

  module _ (us : List ℕ) (d : Cursor) (i : text_of s (c.field - 10) j.listed.end ≡ got us d) where
    from_place : placed_text s (placed_at s c.field) ≡ got (units_of s c) d
    from_place = ap (placed_text s) placed_is ∙ i ∙ ap (λ (l : List ℕ). got l d) (ap list_of (sym i) ∙ units_are)

    place_answer : (b : List ℕ) → answer_at s c.field b ≡ fetched_of (length b) (units_of s c)
    unfolding answer_at
    place_answer b = ap (answer_to (refuse 11 0) (length b)) from_place

    place_buffer : (b : List ℕ) → buffer_at s c.field b ≡ buffer_of b (units_of s c)
    unfolding buffer_at
    place_buffer b = ap (buffer_to b) from_place

  read_by : (x : Got (List ℕ)) → text_of s (c.field - 10) j.listed.end ≡ x → Passes x → TextRead s c
  read_by (got us d) i p = record {
    type = j.listed.type;
    size = j.listed.size;
    end = j.listed.end;
    header = header_is;
    after = d;
    text = i ∙ ap (λ (l : List ℕ). got l d) (ap list_of (sym i) ∙ units_are);
    answer = place_answer us d i;
    buffer = place_buffer us d i;
  }
  read_by (refused n o) i p = absurd p

  text_read : TextRead s c
  text_read = read_by (text_of s (c.field - 10) j.listed.end) refl (subst (λ (p : ℕ). Passes (text_of s p j.listed.end)) at_is (j.text has))

pub texts_read : TextsRead
texts_read s u g h n x i =
    let k = sheets_stand s u g h n x i in
    every_map (ListedTo s x.position k.end) (λ (c : Cell). says_text c.value ≡ true → TextRead s c) (λ c j q. text_read s x.position k.end c j q) (listed_of s x) (sheet_cells s g x k)
