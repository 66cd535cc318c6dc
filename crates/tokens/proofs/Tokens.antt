-- Tokens as the code comes to them: by the tests that were made and the numbers that were read. Assumes nothing.
use Rattle.std.proofs.Common.{◌≡◌, ℕ, ◌+◌, ◌*◌, ◌%◌, List, Some, Result, Ok, Err, bit_and, eqb, Fits, w8, refl, ◌∙◌, arith}
use Rattle.std.proofs.lemmas.Nat.{and_mask}
use Rattle.std.proofs.lemmas.Nat.Bits.{and_high}
use Rattle.std.specs.Result.{MatchResult, IsErrAnd}
use Rattle.std.proofs.lemmas.Result.{err_from_is_err_and}
use Rattle.steps.proofs.Choice.{picks, pick_yes, pick_no}
use Rattle.byte_numbers.specs.Bytes.{byte_at}
use Rattle.refusal.specs.declared.Refusal.{Refusal}
use Rattle.tokens.specs.declared.Token.{Token}
use Rattle.function_counts.specs.declared.Counts.{Counts}
use Rattle.function_counts.specs.Counts.{counts_of}
use Rattle.tokens.specs.Tokens.{operand_of, column_clear, called_of, variable_by, classified_of, standing}

-- also by a test that a call made
pub ruleset tested = (picks, pick_yes, pick_no)

pub characters : (t : List ℕ) (x : Result Token ℕ) (n w : ℕ) → x ≡ operand_of (3 + n * (1 + w)) t → n ≡ byte_at t 1 → w ≡ bit_and (byte_at t 2) 1 → x ≡ operand_of (3 + byte_at t 1 * (1 + byte_at t 2 % 2)) t
characters t x n w d e f = let b : w ≡ byte_at t 2 % 2 = f ∙ and_mask (byte_at t 2) 1 in rw (← b, ← e) d

-- the count's upper bit is ignored
pub counted : (byte w : ℕ) (x : Result Token ℕ) (c : Counts) → Some c ≡ counts_of w → x ≡ called_of c.least c.greatest (bit_and byte 0x7F) → x ≡ variable_by (byte % 128) (counts_of w)
counted byte w x c e f = rw (← and_mask byte 7, ← e) f

-- bits 8 to 13
pub clear_mask : (word : ℕ) → eqb (bit_and word 0x3F00) 0 ≡ column_clear word
unfolding column_clear
clear_mask word = rw (and_high word 6 8) (grind arith)

-- a token byte that is known
pub known : (id n depth : ℕ) (t : List ℕ) (x : Result Token ℕ) → id ≡ n → x ≡ classified_of n depth t → x ≡ classified_of id depth t
known id n depth t x e f = rw e f

-- ---- by the class, bits 5 and 6 of the token byte
pub id_of : (byte depth : ℕ) (t : List ℕ) (x : Result Token ℕ) → x ≡ classified_of (0x20 + bit_and byte 0x1F) depth t → x ≡ classified_of (0x20 + byte % 0x20) depth t
id_of byte depth t x e = rw (← and_mask byte 5) e

pub id_fits : (byte : ℕ) → Fits w8 (0x20 + bit_and byte 0x1F)
id_fits byte = record { fits = omega (arith, and_mask byte 5) }

pub ruleset classes = (picks, id_of, id_fits)

pub stands : (offset : ℕ) (x y : Result Token ℕ) (r : Result Token Refusal) → x ≡ y → MatchResult x (λ t. r ≡ Ok t) (λ n. IsErrAnd r (λ e. e ≡ record { number = n; offset = offset })) → r ≡ standing offset y
stands offset x y r e h = rw (← e) (by x h)
  where
    by : (x : Result Token ℕ) → MatchResult x (λ t. r ≡ Ok t) (λ n. IsErrAnd r (λ e. e ≡ record { number = n; offset = offset })) → r ≡ standing offset x
    by (Ok t) h = h
    by (Err n) h = let p = err_from_is_err_and r h in rw (p.1, p.2) refl
