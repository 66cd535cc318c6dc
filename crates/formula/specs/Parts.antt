-- What only inner contracts cite: the trailing data and the jumps seen in one walk over the tokens.
use Rattle.std.specs.Prelude.{ℕ, suc, ◌+◌, ◌-◌, ◌≤◌, ◌≡◌, Bool, List, [], ◌∷◌, Option, Some, None, Result, Ok, Err, eqb, length, drop}
use Rattle.steps.specs.Choice.{pick}
use Rattle.byte_numbers.specs.Bytes.{byte_at}
use Rattle.refusal.specs.Refused.{refuse}
use Rattle.tokens.specs.declared.Token.{Token}
use Rattle.tokens.specs.Tokens.{size_of}
use Rattle.tokens.specs.Judge.{Judgement}
use Rattle.jumps.specs.Jumps.{lands_of}
use Rattle.formula.specs.declared.Seen.{Seen}
use Rattle.formula.specs.Judge.{Place, places_of, data_of, on_data}

-- what was seen of the tokens so far: the trailing bytes that are left, and the first token with a jump that doesn't land
pub record Left : Type 0 where
  pub rest : List ℕ
  pub astray : Option ℕ

-- what the functions give; or how many trailing bytes are left where data is cut or bad
abbrev pub left : Seen → Left
left s = record { rest = s.rest.now; astray = s.astray }

abbrev pub seen_is : Result Seen ℕ → Result Left ℕ
seen_is (Ok s) = Ok (left s)
seen_is (Err n) = Err n

abbrev pub astray_after : Option ℕ → Bool → ℕ → Option ℕ
astray_after (Some o) lands offset = Some o
astray_after None lands offset = pick lands None (Some offset)

unfoldable pub seen_after : List ℕ → ℕ → ℕ → Left → Result Left ℕ
seen_after t offset depth s =
    on_data
    (Err (length s.rest))
    (λ size. Ok (record { rest = drop size s.rest; astray = astray_after s.astray (lands_of t offset depth) offset }))
    (data_of (byte_at t 0) s.rest)

abbrev pub and_then : (Left → Result Left ℕ) → Result Left ℕ → Result Left ℕ
and_then f (Ok s) = f s
and_then f (Err n) = Err n

unfoldable pub seen_of : List Place → Left → Result Left ℕ
seen_of [] s = Ok s
seen_of (p ∷ ps) s = and_then (seen_of ps) (seen_after p.bytes p.offset p.depth s)

-- what was seen of all tokens, as a judgement; `total` is how many bytes there are, the trailing ones included
abbrev pub unless_astray : Option ℕ → Judgement
unless_astray None = Ok tt
unless_astray (Some o) = refuse 13 o

unfoldable pub rest_judged : ℕ → Left → Judgement
rest_judged total s = pick (eqb (length s.rest) 0) (unless_astray s.astray) (refuse 13 (total - length s.rest))

abbrev pub verdict_of : ℕ → Result Left ℕ → Judgement
verdict_of total (Ok s) = rest_judged total s
verdict_of total (Err n) = refuse 13 (total - n)

-- r is what is seen after the tokens from one on, whatever bound on them is enough
unfoldable pub Right : List ℕ → ℕ → ℕ → Left → Result Left ℕ → Type 0
Right t offset depth s r = (k : ℕ) → length t ≤ k → r ≡ seen_of (places_of k t offset depth) s

-- after a token what is seen from it on is what is seen from the next on
unfoldable pub RightToken : List ℕ → ℕ → ℕ → Token → Left → Result Left ℕ → Type 0
RightToken t offset depth token s r =
    (k : ℕ) → length t ≤ suc k → and_then (seen_of (places_of k (drop (size_of token) t) (offset + size_of token) depth)) r ≡ seen_of (places_of (suc k) t offset depth) s
