-- Where the jumps of a token lead, and whether they land: 0x19 of the kinds 0x02, 0x08 and 0x04.
-- In each definition t is the bytes from a token on to the end of its formula level, and places are counted from that token.
use Rattle.std.specs.Prelude.{ℕ, zero, suc, ◌+◌, ◌-◌, ◌≤◌, ◌≡◌, List, [], ◌∷◌, Bool, true, false, Result, Ok, Err, eqb, length, drop}
use Rattle.steps.specs.Choice.{pick}
use Rattle.steps.specs.Walk.{Next, more, stop, run}
use Rattle.byte_numbers.specs.Bytes.{byte_at, u16_at}
use Rattle.tokens.specs.declared.Token.{Token}
use Rattle.refusal.specs.declared.Refusal.{Refusal}
use Rattle.tokens.specs.Tokens.{size_of as token_size, token_of}
use Rattle.tokens.specs.Judge.{formula_of}

-- ---- where they lead
-- n words from `at` of the token on, each a distance from the table's start, 4 bytes after the token's
unfoldable pub table_of : ℕ → List ℕ → ℕ → List ℕ
table_of zero t at = []
table_of (suc n) t at = (4 + u16_at t at) ∷ table_of n t (at + 2)

-- 0x02: from the next token's start. 0x08: from there, and one more. 0x04: a table of n + 1 words
unfoldable pub targets_by : ℕ → List ℕ → List ℕ
targets_by kind t =
    pick (eqb kind 0x02) ((4 + u16_at t 2) ∷ [])
    (pick (eqb kind 0x08) ((4 + u16_at t 2 + 1) ∷ [])
    (pick (eqb kind 0x04) (table_of (u16_at t 2 + 1) t 4)
    []))

unfoldable pub targets_of : List ℕ → List ℕ
targets_of t = pick (eqb (byte_at t 0) 0x19) (targets_by (byte_at t 1) t) []

-- ---- the token starts of a level, and its end
-- the bytes of a token; 0 where there is none
abbrev pub size_of : Result Token Refusal → ℕ
size_of (Ok token) = token_size token
size_of (Err r) = 0

-- at one token start after another: it is the target; or no token follows; or the next start
unfoldable pub towards : List ℕ → ℕ → ℕ → ℕ → ℕ → Next ℕ Bool
towards t offset depth target at =
    pick (eqb at target) (stop true)
    (pick (eqb (size_of (token_of (drop at t) (offset + at) depth)) 0) (stop false)
    (more (at + size_of (token_of (drop at t) (offset + at) depth))))

unfoldable pub lands_from : List ℕ → ℕ → ℕ → ℕ → ℕ → Bool
lands_from t offset depth target at = run (towards t offset depth target) false (λ at. length t - at) at

-- the target is one of them. No distance is negative: those from the jump's own token on are gone through
unfoldable pub lands_on : List ℕ → ℕ → ℕ → ℕ → Bool
lands_on t offset depth target = lands_from t offset depth target 0

-- ---- all jumps of a token land
unfoldable pub all_land : List ℕ → ℕ → ℕ → List ℕ → Bool
all_land t offset depth [] = true
all_land t offset depth (x ∷ xs) = pick (lands_on t offset depth x) (all_land t offset depth xs) false

unfoldable pub lands_of : List ℕ → ℕ → ℕ → Bool
lands_of t offset depth = all_land t offset depth (targets_of t)

-- ---- the claims
-- looked up from its own token on, which stands at `at` of its level l, a jump lands exactly where it lands from the level's start
abbrev pub AsFromStart : Type 0
AsFromStart =
    (l : List ℕ) (offset depth at target : ℕ)
    → lands_from l offset depth at 0 ≡ true
    → lands_on (drop at l) (offset + at) depth target ≡ lands_from l offset depth (at + target) 0

-- the tokens of a level that is accepted end where it does
abbrev pub AcceptedEnds : Type 0
AcceptedEnds =
    (k : ℕ) (t : List ℕ) (offset stack depth : ℕ)
    → length t ≤ k
    → formula_of k t offset stack depth ≡ Ok tt
    → lands_on t offset depth (length t) ≡ true
