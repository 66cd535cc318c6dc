-- Whole records, one after the other.
use Rattle.std.specs.Prelude.{ℕ, zero, suc, ◌≤◌, ◌≡◌, List, ◌∷◌, ◌⊎◌}
use Rattle.record.specs.declared.Header.TheVariants.{Record}
use Rattle.record.specs.Record.{header_at}
use Rattle.cell.specs.declared.Shape.TheVariants.{OTHER}
use Rattle.cell.specs.Cells.{shape_of}
pub use Rattle.reading.specs.Claims.{Every}

-- y is reached from x by steps
pub data Chain (Step : ℕ → ℕ → Type 0) : ℕ → ℕ → Type 0 where
  here : {x : ℕ} → Chain Step x x
  on : {x e y : ℕ} → Step x e → Chain Step e y → Chain Step x y

-- a whole record stands at x and ends at e
pub record Over (s : List ℕ) (x e : ℕ) : Type 0 where
  pub type : ℕ
  pub size : ℕ
  pub is : header_at s x ≡ Record type size e

-- one that holds no cell, opens or closes no substream, and is no INDEX
pub record Plain (s : List ℕ) (x e : ℕ) : Type 0 where
  pub over : Over s x e
  pub other : shape_of over.type ≡ OTHER
  pub no_bof : over.type ≡ 0x0809 → ⊥
  pub no_eof : over.type ≡ 0x000A → ⊥
  pub no_index : over.type ≡ 0x020B → ⊥

-- y is reached from x by stepping over whole records
abbrev pub Reach : List ℕ → ℕ → ℕ → Type 0
Reach s x y = Chain (Over s) x y

-- the records from x on come to the record that starts at a and ends at e, or x is past it
abbrev pub Beside : List ℕ → ℕ → ℕ → ℕ → Type 0
Beside s a e x = Reach s x a ⊎ (e ≤ x)

-- ---- lists
-- x is the n-th, counted from 0
pub data Nth {A : Type 0} : List A → ℕ → A → Type 0 where
  first : {x : A} {l : List A} → Nth (x ∷ l) zero x
  next : {x y : A} {l : List A} {n : ℕ} → Nth l n x → Nth (y ∷ l) (suc n) x
