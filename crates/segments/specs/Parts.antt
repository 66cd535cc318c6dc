-- What the contracts of the inner functions speak of.
use Rattle.std.specs.Prelude.{ℕ, zero, suc, ◌+◌, ◌*◌, ◌≤◌, ◌≡◌, List, [], ◌∷◌, length, Result, Ok, Err}
use Rattle.std.proofs.lemmas.List.Edits.{sets}
use Rattle.byte_numbers.specs.Bytes.{num_at}
use Rattle.refusal.specs.declared.Refusal.{Refusal}
use Rattle.segments.specs.declared.Cursor.{Cursor}
use Rattle.segments.specs.declared.Room.{Room}
use Rattle.segments.specs.Segments.{Got, got, refused}

-- a cursor inside its segment and the stream
abbrev pub Inside : List ℕ → Cursor → Type 0
Inside s c = (c.at ≤ c.end) × (c.end ≤ length s)

-- where the reading ends, whatever was read
abbrev pub ends : {A : Type 0} → Got A → Got Unit
ends (got a c) = got tt c
ends (refused n o) = refused n o

-- the answers of the functions in the definitions' terms
abbrev pub moved : Result Cursor Refusal → Got Unit
moved (Ok c) = got tt c
moved (Err r) = refused r.number r.offset

abbrev pub roomed : Result Room Refusal → Got ℕ
roomed (Ok r) = got r.width r.place
roomed (Err r) = refused r.number r.offset

-- nothing was refused
abbrev pub Passes : {A : Type 0} → Got A → Type 0
Passes (got a c) = Unit {0}
Passes (refused n o) = ⊥

-- k of n items of w bytes, b bytes together, fit here
pub record Fits (here w n k b : ℕ) : Type 0 where
  pub some : 1 ≤ k
  pub few : k ≤ n
  pub bytes : b ≡ k * w
  pub fit : b ≤ here

-- k numbers of w bytes at p
unfoldable pub nums : List ℕ → ℕ → ℕ → ℕ → List ℕ
nums s w zero p = []
nums s w (suc k) p = num_at s w p ∷ nums s w k (p + w)

-- a buffer after units were stored in it from place i on
unfoldable pub stored : List ℕ → ℕ → List ℕ → List ℕ
stored b i us = sets b i us
