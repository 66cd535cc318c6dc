-- The judgement of a formula's bytes: its tokens in order, over a stack of operands.
use Rattle.std.specs.Prelude.{ℕ, zero, suc, ◌+◌, ◌-◌, List, [], ◌∷◌, Result, Ok, Err, ltb, eqb, length, take, drop}
use Rattle.steps.specs.Choice.{pick}
use Rattle.refusal.specs.declared.Refusal.{Refusal}
use Rattle.refusal.specs.Refused.{refuse}
use Rattle.tokens.specs.declared.Token.{Token}
use Rattle.tokens.specs.declared.Token.TheVariants.{Plain, Memory}
use Rattle.tokens.specs.Tokens.{token_of}

-- accepted, or refused
abbrev pub Judgement : Type 0
Judgement = Result (Unit {0}) Refusal

-- one operand is left at the end of a formula
unfoldable pub at_end : ℕ → ℕ → Judgement
at_end stack offset = pick (eqb stack 1) (Ok tt) (refuse 14 offset)

abbrev pub if_accepted : Judgement → Judgement → Judgement
if_accepted (Ok u) rest = rest
if_accepted (Err r) rest = Err r

-- a token over `stack` operands: its own 13 or 15, then 14, then what is left of its formula.
-- `inner` judges the bytes from one place up to another as a formula, and `rest` what comes after some bytes, over some operands
abbrev pub on_token : (ℕ → ℕ → Judgement) → (ℕ → ℕ → Judgement) → ℕ → ℕ → Result Token Refusal → Judgement
on_token inner rest offset stack (Ok (Plain size takes gives)) = pick (ltb stack takes) (refuse 14 offset) (rest size (stack - takes + gives))
on_token inner rest offset stack (Ok (Memory size head)) = if_accepted (inner head size) (rest size (stack + 1))
on_token inner rest offset stack (Err r) = Err r

-- a formula from one of its tokens on, which stands at `offset` of the outermost bytes, over `stack` operands and inside `depth` memory tokens.
-- The first number bounds how many tokens are left: each has a byte at least, so that none is left where it is used up
unfoldable pub formula_of : ℕ → List ℕ → ℕ → ℕ → ℕ → Judgement
formula_of zero [] offset stack depth = at_end stack offset
formula_of zero (b ∷ t) offset stack depth = refuse 13 offset
formula_of (suc k) [] offset stack depth = at_end stack offset
formula_of (suc k) (b ∷ t) offset stack depth =
    on_token
    (λ from end. formula_of k (take (end - from) (drop from (b ∷ t))) (offset + from) 0 (depth + 1))
    (λ size left. formula_of k (drop size (b ∷ t)) (offset + size) left depth)
    offset
    stack
    (token_of (b ∷ t) offset depth)

-- the tokens of a formula: length 1 to 1,800, else 13 at 0
unfoldable pub tokens_judged : List ℕ → Judgement
tokens_judged b = pick (eqb (length b) 0) (refuse 13 0) (pick (ltb 1800 (length b)) (refuse 13 0) (formula_of (length b) b 0 0 0))
