-- Truth is 0 or 1. Error codes: 0x00, 0x07, 0x0F, 0x17, 0x1D, 0x24, 0x2A.
use Rattle.std.specs.Prelude.{ℕ, Bool, true, false, leb, eqb}
use Rattle.steps.specs.Choice.{pick}

unfoldable pub is_truth : ℕ → Bool
is_truth b = leb b 1

unfoldable pub is_error : ℕ → Bool
is_error b =
    pick (eqb b 0x00) true
    (pick (eqb b 0x07) true
    (pick (eqb b 0x0F) true
    (pick (eqb b 0x17) true
    (pick (eqb b 0x1D) true
    (pick (eqb b 0x24) true
    (pick (eqb b 0x2A) true
    false))))))
