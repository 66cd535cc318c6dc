-- What only inner promises cite.
use Rattle.std.specs.Prelude.{ℕ, List, Result, Ok}
use Rattle.steps.specs.Choice.{pick}
use Rattle.refusal.specs.declared.Refusal.{Refusal}
use Rattle.refusal.specs.Refused.{refuse}
use Rattle.cell.specs.declared.Shape.TheVariants.{FORMULA}
use Rattle.cell.specs.Cells.{judged}
use Rattle.value.specs.Value.{result_of, result_fits}
use Rattle.text_result.specs.TextResult.{is_text, text_of}
use Rattle.substream.specs.declared.Here.{Here}
use Rattle.substream.specs.declared.Step.{Step}
use Rattle.substream.specs.declared.Step.TheVariants.{More}
use Rattle.substream.specs.Substream.{past_parent, on_text, on_judged}

-- a FORMULA that is right but for its stored result n
unfoldable pub result_record : List ℕ → ℕ → ℕ → ℕ → Result Step Refusal
result_record s at e n = pick (result_fits n) (pick (is_text (result_of n)) (on_text (text_of s at e)) (Ok (More (past_parent e)))) (refuse 6 at)

-- a FORMULA directly in a worksheet, as any cell record there
unfoldable pub formula_record : List ℕ → Here → ℕ → ℕ → Result Step Refusal
formula_record s v z e = on_judged s 0x0010 v 0x0006 z e (judged s FORMULA v.at z 0)
