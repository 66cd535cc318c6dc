-- The worked examples of document 01 that are marked to be proved, and some of the change requests: one table of questions with their answers.
use Rattle.std.specs.Prelude.{ℕ, ◌+◌, ◌≡◌, List, [], ◌∷◌, ◌++◌, map, Float, Option, Some, None, Result, Ok, Err}
use Rattle.std.specs.Float.{binary64}
use Rattle.std.specs.Float.Ieee.{of_bits}
use Rattle.refusal.specs.declared.Refusal.{Refusal}
use Rattle.byte_numbers.specs.Bytes.{u16_at}
use Rattle.number.specs.Float64.{bits_of}
use Rattle.number.specs.Rk.{rk_of}
use Rattle.value.specs.declared.Field.TheVariants.{RkWord}
use Rattle.new_value.specs.declared.NewValue.TheVariants.{Number}
use Rattle.new_value.specs.Change.{plan_of}
use Rattle.tokens.specs.Judge.{Judgement}
use Rattle.formula.specs.Judge.{judge_of}
use Rattle.strings.specs.Table.{strings_of}

-- what an RK word means, how the number of these 64 bits is packed, how a formula's tokens and the bytes after them are judged, which strings an SST and its CONTINUEs hold
pub data Question : Type 0 where
  rk_word : ℕ → Question
  packing : ℕ → Question
  formula : List ℕ → List ℕ → Question
  strings : List ℕ → Question

pub data Answer : Type 0 where
  number : ℕ → Answer
  nothing : Answer
  word : ℕ → Answer
  accepted : Answer
  units : List (List ℕ) → Answer
  refused : ℕ → ℕ → Answer

-- a number is told by its 64 bits
abbrev pub meant : Option Float → Answer
meant (Some x) = number (bits_of x)
meant None = nothing

-- the word that a packed cell's field takes, or the refusal of the correction
abbrev pub planned : Result ℕ Refusal → Answer
planned (Ok n) = word n
planned (Err e) = refused e.number e.offset

abbrev pub judged : Judgement → Answer
judged (Ok t) = accepted
judged (Err e) = refused e.number e.offset

abbrev pub answer_of : Question → Answer
answer_of (rk_word w) = meant (rk_of w)
answer_of (packing b) = planned (plan_of RkWord (Number (of_bits binary64 b)) 0)
answer_of (formula b d) = judged (judge_of b d)
answer_of (strings b) = units (strings_of b 0 (4 + u16_at b 2))

pub record Example : Type 0 where
  pub question : Question
  pub answer : Answer

infixl 20 ◌⟶◌
abbrev pub ◌⟶◌ : Question → Answer → Example
◌⟶◌ q a = record { question = q; answer = a }

-- two records, header and body
abbrev pub sst : List ℕ
sst = 0xFC ∷ 0x00 ∷ 0x0C ∷ 0x00 ∷ 0x01 ∷ 0x00 ∷ 0x00 ∷ 0x00 ∷ 0x01 ∷ 0x00 ∷ 0x00 ∷ 0x00 ∷ 0x02 ∷ 0x00 ∷ 0x00 ∷ 0x41 ∷ []

abbrev pub continuation : List ℕ
continuation = 0x3C ∷ 0x00 ∷ 0x03 ∷ 0x00 ∷ 0x01 ∷ 0xA9 ∷ 0x03 ∷ []

unfoldable pub examples : List Example
examples =
    (rk_word 0x3FF00000 ⟶ number 0x3FF0000000000000)
    ∷ (rk_word 0x3FF00001 ⟶ number 0x3F847AE147AE147B)
    ∷ (rk_word 0x004B5646 ⟶ number 0x4132D59100000000)
    ∷ (rk_word 0xFFFFFFFE ⟶ number 0xBFF0000000000000)
    -- 536,870,911 and the two after it, and 0.1
    ∷ (packing 0x41BFFFFFFF000000 ⟶ word 0x7FFFFFFE)
    ∷ (packing 0x41C0000000000000 ⟶ word 0x41C00000)
    ∷ (packing 0x41C0000000800000 ⟶ refused 18 0)
    ∷ (packing 0x3FB999999999999A ⟶ refused 18 0)
    ∷ (formula (0x44 ∷ 0x00 ∷ 0x00 ∷ 0x00 ∷ 0xC0 ∷ 0x1E ∷ 0x01 ∷ 0x00 ∷ 0x03 ∷ []) [] ⟶ accepted)
    ∷ (formula (0x03 ∷ []) [] ⟶ refused 14 0)
    ∷ (formula (0x1E ∷ 0x01 ∷ 0x00 ∷ 0x1E ∷ 0x01 ∷ 0x00 ∷ []) [] ⟶ refused 14 6)
    ∷ (formula (0x29 ∷ 0x03 ∷ 0x00 ∷ 0x1E ∷ 0x01 ∷ 0x00 ∷ []) [] ⟶ accepted)
    ∷ (formula (0x42 ∷ 0x00 ∷ 0xDD ∷ 0x00 ∷ []) [] ⟶ accepted)
    ∷ (formula (0x60 ∷ 0x00 ∷ 0x00 ∷ 0x00 ∷ 0x00 ∷ 0x00 ∷ 0x00 ∷ 0x00 ∷ []) (0x00 ∷ 0x00 ∷ 0x00 ∷ 0x02 ∷ 0x01 ∷ 0x00 ∷ 0x00 ∷ 0x41 ∷ []) ⟶ accepted)
    ∷ (formula (0x60 ∷ 0x00 ∷ 0x00 ∷ 0x00 ∷ 0x00 ∷ 0x00 ∷ 0x00 ∷ 0x00 ∷ []) (0x01 ∷ 0x00 ∷ 0x00 ∷ 0x02 ∷ 0x01 ∷ 0x00 ∷ 0x00 ∷ 0x41 ∷ []) ⟶ refused 13 8)
    ∷ (formula (0x1E ∷ 0x01 ∷ 0x00 ∷ []) (0x00 ∷ []) ⟶ refused 13 3)
    ∷ (formula (0x19 ∷ 0x02 ∷ 0x03 ∷ 0x00 ∷ 0x1E ∷ 0x01 ∷ 0x00 ∷ []) [] ⟶ accepted)
    ∷ (formula (0x19 ∷ 0x02 ∷ 0x01 ∷ 0x00 ∷ 0x1E ∷ 0x01 ∷ 0x00 ∷ []) [] ⟶ refused 13 0)
    ∷ (strings (sst ++ continuation) ⟶ units ((0x0041 ∷ 0x03A9 ∷ []) ∷ []))
    ∷ []

-- the claim: each question has the answer that the table gives
abbrev pub AllAnswered : Type 0
AllAnswered = map (λ (e : Example). answer_of e.question) examples ≡ map (λ (e : Example). e.answer) examples
