-- The table of worked examples holds, by computation. Assumes nothing.
use mathlib.Core.Path.{refl}
use lib.Ieee.{is_nan, of_fields, of_bits, to_bits}
use Rattle.steps.specs.Choice.{pick}
use Rattle.byte_numbers.specs.Bytes.{num_at}
use Rattle.number.specs.Rounding.{rounded, digits}
use Rattle.number.specs.Float64.{bits_of}
use Rattle.number.specs.Rk.{rk_bits, quotient_bits, rk_sign, rk_size, means_nothing, rk_of}
use Rattle.number.specs.Packing.{pack_of, whole_form}
use Rattle.function_counts.specs.Counts.{functions, counts_of}
use Rattle.tokens.specs.Tokens.{operand_of, whole_of, text_of, choice_of, error_of, truth_of, any_of, attribute_by, attribute_of, base_of, column_clear, reference_of, area_of, fixed_of, called_of, variable_of, memory_of, inner_of, classified_of, token_of}
use Rattle.tokens.specs.Judge.{at_end, formula_of, tokens_judged}
use Rattle.trailing.specs.Trailing.{sized_of, text_of as data_text, truth_of as data_truth, error_of as data_error, areas_of, element_by, element_of, elements_of, array_of}
use Rattle.jumps.specs.Jumps.{table_of as jump_table, targets_by, targets_of, towards, lands_from, lands_on, all_land, lands_of}
use Rattle.steps.specs.Walk.{run_f, run}
use Rattle.formula.specs.Judge.{places_of, data_by, data_of, trailing_of, jumps_of, after_tokens, judge_of}
use Rattle.record.specs.Record.{header_at}
use Rattle.segments.specs.Segments.{continues, next_segment, filled, need, room, items}
use Rattle.strings.specs.Table.{runs_at, phonetic_at, head_at, start_size, head, rest, string_at, next_place, strings, table_of}
use Rattle.claims.specs.Examples.{examples, AllAnswered}

pub all_answered : AllAnswered
unfolding examples pick is_nan of_fields of_bits to_bits num_at rounded digits bits_of rk_bits quotient_bits rk_sign rk_size means_nothing rk_of pack_of whole_form operand_of whole_of text_of choice_of error_of truth_of any_of attribute_by attribute_of base_of column_clear reference_of area_of fixed_of called_of variable_of counts_of functions memory_of inner_of classified_of token_of at_end formula_of tokens_judged sized_of data_text data_truth data_error areas_of element_by element_of elements_of array_of jump_table targets_by targets_of run_f run towards lands_from lands_on all_land lands_of places_of data_by data_of trailing_of jumps_of after_tokens judge_of header_at continues next_segment filled need room items runs_at phonetic_at head_at start_size head rest string_at next_place strings table_of
all_answered = refl
