-- The judgement of a formula: its tokens, then the bytes after them, then its jumps.
use Rattle.std.specs.Prelude.{ℕ, zero, suc, ◌+◌, ◌-◌, ◌%◌, List, [], ◌∷◌, ◌++◌, Option, Some, None, Result, Ok, Err, ltb, eqb, length, take, drop}
use Rattle.steps.specs.Choice.{pick}
use Rattle.byte_numbers.specs.Bytes.{byte_at}
use Rattle.refusal.specs.declared.Refusal.{Refusal}
use Rattle.refusal.specs.Refused.{refuse}
use Rattle.tokens.specs.declared.Token.{Token}
use Rattle.tokens.specs.declared.Token.TheVariants.{Plain, Memory}
use Rattle.tokens.specs.Tokens.{token_of}
use Rattle.tokens.specs.Judge.{Judgement, if_accepted, tokens_judged}
use Rattle.trailing.specs.Trailing.{array_of, areas_of}
use Rattle.jumps.specs.Jumps.{lands_of}

-- ---- the tokens of a formula, over all its levels
-- a token's bytes on to the end of its level; its offset in the outermost bytes; how many memory tokens it lies inside
pub record Place : Type 0 where
  pub bytes : List ℕ
  pub offset : ℕ
  pub depth : ℕ

-- in byte order: a token, those inside it, those after it
abbrev pub in_order : Place → (ℕ → ℕ → List Place) → (ℕ → List Place) → Result Token Refusal → List Place
in_order here inner rest (Ok (Plain size takes gives)) = here ∷ rest size
in_order here inner rest (Ok (Memory size head)) = here ∷ (inner head size ++ rest size)
in_order here inner rest (Err r) = []

-- from a token on. The first number bounds how many are left, as in `formula_of`
unfoldable pub places_of : ℕ → List ℕ → ℕ → ℕ → List Place
places_of zero t offset depth = []
places_of (suc k) t offset depth =
    in_order
    (record { bytes = t; offset = offset; depth = depth })
    (λ from end. places_of k (take (end - from) (drop from t)) (offset + from) (depth + 1))
    (λ size. places_of k (drop size t) (offset + size) depth)
    (token_of t offset depth)

-- ---- the bytes after the tokens
-- the data of a token as in 0x20 plus, with which d starts
unfoldable pub data_by : ℕ → List ℕ → Option ℕ
data_by id d =
    pick (eqb id 0x20) (array_of d)
    (pick (eqb id 0x26) (areas_of d)
    (Some 0))

-- 0x20 and 0x26 in any class have some
unfoldable pub data_of : ℕ → List ℕ → Option ℕ
data_of byte d = pick (ltb byte 0x20) (Some 0) (data_by (0x20 + byte % 0x20) d)

abbrev pub on_data : {A : Type 0} → A → (ℕ → A) → Option ℕ → A
on_data bad rest (Some size) = rest size
on_data bad rest None = bad

-- each token's data in order, from `at` of the trailing bytes d on, all of which must be used. Offsets count on from the tokens' end
unfoldable pub trailing_of : List ℕ → ℕ → List Place → ℕ → Judgement
trailing_of d end [] at = pick (ltb at (length d)) (refuse 13 (end + at)) (Ok tt)
trailing_of d end (p ∷ ps) at =
    on_data
    (refuse 13 (end + at))
    (λ size. trailing_of d end ps (at + size))
    (data_of (byte_at p.bytes 0) (drop at d))

-- ---- the jumps
-- the first token with a jump that doesn't land is refused
unfoldable pub jumps_of : List Place → Judgement
jumps_of [] = Ok tt
jumps_of (p ∷ ps) = pick (lands_of p.bytes p.offset p.depth) (jumps_of ps) (refuse 13 p.offset)

-- ---- the tokens first, then the bytes after them, then the jumps
unfoldable pub after_tokens : List ℕ → ℕ → List Place → Judgement
after_tokens d end ps = if_accepted (trailing_of d end ps 0) (jumps_of ps)

unfoldable pub judge_of : List ℕ → List ℕ → Judgement
judge_of b d = if_accepted (tokens_judged b) (after_tokens d (length b) (places_of (length b) b 0 0))
