-- The two kinds of stored result, by the last two bytes. Assumes nothing.
use Prim.Native.Nat.{ℕ, ◌/◌, ◌%◌, ◌^◌}
use mathlib.Core.Path.{◌≡◌, ap₂, ◌∙◌}
use Rattle.steps.proofs.Choice.{pick_eq, pick_ne}
use Rattle.value.specs.declared.FormulaResult.{FormulaResult}
use Rattle.value.specs.Value.{result_number, marked_result, result_of}

-- b is the field's first byte, t its third
pub marked_is : (n b : ℕ) → b ≡ n % 256 → (t : ℕ) → t ≡ n / 65536 % 256 → n / 281474976710656 ≡ 65535 → (r : FormulaResult) → r ≡ marked_result b t → r ≡ result_of n
unfolding result_of
marked_is n b first t third marked r e = pick_eq _ _ _ (n / 2 ^ 48) 0xFFFF marked (e ∙ ap₂ marked_result first third)

pub number_is : (n : ℕ) → (n / 281474976710656 ≡ 65535 → ⊥) → (r : FormulaResult) → r ≡ result_number n → r ≡ result_of n
unfolding result_of
number_is n plain r e = pick_ne _ _ _ (n / 2 ^ 48) 0xFFFF plain e
