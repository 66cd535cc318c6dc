-- One token: its data in the trailing bytes and its jumps, as the code comes to them. Assumes nothing.
use Rattle.std.proofs.Common.{◌≡◌, ℕ, ◌+◌, ◌-◌, ◌%◌, ◌≤◌, Bool, true, false, List, Option, Some, None, Ok, Err, bit_and, is_some, length, take, drop, take_all, length-drop, refl, sym, ◌∙◌, Fits, w8, arith}
use Rattle.std.proofs.lemmas.Nat.{and_mask}
use Rattle.steps.specs.Choice.{pick}
use Rattle.steps.proofs.Choice.{picks, pick_any}
use Rattle.byte_numbers.specs.Bytes.{byte_at}
use Rattle.trailing.proofs.Laws.{DataWithin, takes_within, array_within, areas_within}
use Rattle.jumps.specs.Jumps.{lands_of}
use Rattle.jumps.proofs.Laws.{token_some}
use Rattle.formula.specs.Judge.{data_by, data_of}
use Rattle.formula.specs.Parts.{Left, astray_after, seen_after}

-- ---- by the class, bits 5 and 6 of the token byte
pub id_of : (byte : ℕ) (d : List ℕ) (x : Option ℕ) → x ≡ data_by (0x20 + bit_and byte 0x1F) d → x ≡ data_by (0x20 + byte % 0x20) d
id_of byte d x e = rw (← and_mask byte 5) e

pub id_fits : (byte : ℕ) → Fits w8 (0x20 + bit_and byte 0x1F)
id_fits byte = record { fits = omega (arith, and_mask byte 5) }

pub ruleset classes = (picks, id_of, id_fits)

-- ---- the first jump that doesn't land
pub was_astray : (astray : Option ℕ) (lands : Bool) (offset : ℕ) → is_some astray ≡ true → astray ≡ astray_after astray lands offset
was_astray (Some o) lands offset h = refl
was_astray None lands offset h = cc

pub lands_too : (astray : Option ℕ) (b lands : Bool) (offset : ℕ) → b ≡ lands → b ≡ true → astray ≡ astray_after astray lands offset
unfolding pick
lands_too (Some o) b lands offset e h = refl
lands_too None b lands offset e h = rw (← e, h) refl

pub first_astray : (astray : Option ℕ) (b lands : Bool) (offset : ℕ) → is_some astray ≡ false → b ≡ lands → b ≡ false → Some offset ≡ astray_after astray lands offset
unfolding pick
first_astray (Some o) b lands offset h e f = cc
first_astray None b lands offset h e f = rw (← e, f) refl

pub ruleset on_astray = (was_astray, lands_too, first_astray)

-- ---- the data lies within the trailing bytes
data_within : (byte : ℕ) (d : List ℕ) → DataWithin (length d) (data_of byte d)
unfolding data_of data_by DataWithin
data_within byte d =
    let W = DataWithin (length d) in
    pick_any W _ {x = Some 0} (omega arith) (pick_any W _ (array_within d) (pick_any W _ (areas_within d) (omega arith)))

pub size_within : (byte : ℕ) (d : List ℕ) (x : Option ℕ) (size : ℕ) → x ≡ data_of byte d → x ≡ Some size → size ≤ length d
size_within byte d x size e f = takes_within (length d) size (data_of byte d) (data_within byte d) (sym e ∙ f)

-- ---- after the token that t starts with, whose data is x
module _ (t : List ℕ) (offset depth : ℕ) (s : Left) (x : Option ℕ) (e : x ≡ data_of (byte_at t 0) s.rest) where
  pub data_bad : x ≡ None → Err (length s.rest) ≡ seen_after t offset depth s
  unfolding seen_after
  data_bad f = rw (← e, f) refl

  pub data_good : (size : ℕ) (a : Option ℕ) → x ≡ Some size → a ≡ astray_after s.astray (lands_of t offset depth) offset
      → Ok (record { rest = take (length s.rest - size) (drop size s.rest); astray = a }) ≡ seen_after t offset depth s
  unfolding seen_after
  data_good size a f g =
      let all = take_all (length s.rest - size) (drop size s.rest) (omega (arith, length-drop size s.rest)) in
      rw (← e, f, g, all) refl

pub ruleset on_data_lem = (token_some, size_within, data_bad, data_good)
