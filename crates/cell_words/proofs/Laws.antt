-- Values in words, and a listing in words, cell after cell. Assumes nothing.
use Prim.Native.Nat.{ℕ, zero, suc, ◌+◌, ◌-◌, ◌*◌, ◌/◌, ◌≤◌, ◌<◌}
use mathlib.Core.Path.{◌≡◌, refl, ap, sym, ◌∙◌}
use native.Mathlib.Omega.{arith}
use mathlib.Core.List.{List}
use Rattle.std.specs.Prelude.{Some, None}
use lib.ListN.{length}
use lib.Seq.{sets}
use Rattle.reading.specs.declared.Place.{Place}
use Rattle.listing.specs.Listing.{next_of}
use Rattle.cell_words.specs.declared.Reached.{Reached}
use Rattle.cell_words.specs.Batch.{words_of, on_listed, filled, filled_from}
use Rattle.cell_words.specs.Parts.{Stepped}

-- ---- a listing in words: n cells are there, of the m that there is room for
pub record Filling (s b₀ : List ℕ) (v₀ : Place) (m : ℕ) (b : List ℕ) (v : Place) (n : ℕ) : Type 0 where
  pub same : filled (m - n) s v n b ≡ filled_from s v₀ b₀
  pub size : length b ≡ length b₀
  pub room : m ≡ length b₀ / 4
  pub below : n ≤ m

pub filling_first : (s b₀ : List ℕ) (v₀ : Place) {m : ℕ} → m ≡ length b₀ / 4 → Filling s b₀ v₀ m b₀ v₀ 0
filling_first s b₀ v₀ {m} i = record { same = ap (λ (k : ℕ). filled k s v₀ 0 b₀) (let e : m - 0 ≡ m = omega arith in e ∙ i); size = refl; room = i; below = omega arith }

module _ (s b₀ : List ℕ) (v₀ : Place) (m : ℕ) (b : List ℕ) (v : Place) (n : ℕ) (inv : Filling s b₀ v₀ m b v n) where
  pub full : m ≤ n → filled_from s v₀ b₀ ≡ record { words = b; cells = n; rest = Some v }
  unfolding filled
  full l = let e : m - n ≡ zero = omega arith in sym inv.same ∙ ap (λ (k : ℕ). filled k s v n b) e

  pub over : n < m → next_of s v ≡ None → filled_from s v₀ b₀ ≡ record { words = b; cells = n; rest = None }
  unfolding filled
  over l i =
      sym inv.same ∙ (let e : m - n ≡ suc (m - (n + 1)) = omega arith in ap (λ (k : ℕ). filled k s v n b) e)
      ∙ ap (on_listed (λ c w. filled (m - (n + 1)) s w (n + 1) (sets b (4 * n) (words_of s c))) (record { words = b; cells = n; rest = None })) i

  pub room_left : 4 * m ≤ length b
  room_left = let i = inv.size in let j = inv.room in omega arith

  pub on : (d : List ℕ) (x : Reached) → Stepped s m v n b d (Some x) → Filling s b₀ v₀ m d x.place x.cells
  on d x g = record { same = sym g.0.same ∙ inv.same; size = g.0.size ∙ inv.size; room = inv.room; below = g.0.to }

pub ruleset fill_laws = (filling_first, full, over, room_left, on)
