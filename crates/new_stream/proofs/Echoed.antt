-- The entries of the new stream beside those of the old one. Nothing here is part of the claims.
use Prim.Native.Nat.{ℕ, ◌+◌, ◌≤◌, ◌<◌}
use mathlib.Core.Path.{◌≡◌}
use mathlib.Core.List.{List, [], ◌∷◌, ◌++◌}
use mathlib.Core.Bool.{false}
use lib.ListN.{length, drop}
use lib.Seq.{sets}
use Rattle.byte_numbers.specs.Bytes.{u32_at, bytes_at, bytes_of}
use Rattle.new_stream.specs.declared.Spot.{Spot}
use Rattle.new_stream.specs.declared.Entry.{Entry}
use Rattle.new_stream.specs.declared.Fate.TheVariants.{Stays, Goes, Table, Text, Sheet}
use Rattle.new_stream.specs.Entries.{entries_from}
use Rattle.new_stream.specs.Parts.{Given}

-- From q on the new stream has what the entries of the old one become, and no entry of it goes but the CONTINUEs of the new table.
pub data Echoes (m : Given) : ℕ → List Entry → List Entry → Type 0 where
  none : {q : ℕ} → drop q m.t ≡ [] → Echoes m q [] []
  rest : {q p n : ℕ} → 0 < n → bytes_at m.t q n ≡ drop q m.t → Echoes m q (record { at = p; size = n; fate = Stays } ∷ []) (record { at = q; size = n; fate = Stays } ∷ [])
  gone : {q p n : ℕ} {l r : List Entry} → Echoes m q l r → Echoes m q (record { at = p; size = n; fate = Goes } ∷ l) r
  part : {q p n : ℕ} {l r : List Entry} → p < q → Echoes m q l r → Echoes m q l (record { at = p; size = n; fate = Goes } ∷ r)
  kept : {q p n : ℕ} {l r : List Entry} → 0 < n → Echoes m (q + n) l r → Echoes m q (record { at = p; size = n; fate = Stays } ∷ l) (record { at = q; size = n; fate = Stays } ∷ r)
  label : {q p n : ℕ} {l r : List Entry} (a : List ℕ) → 0 < n → 14 ≤ length a → bytes_at m.t q n ≡ sets a 10 (bytes_of 4 (m.index (u32_at m.s (p + 10)))) → u32_at m.t (q + 10) ≡ m.index (u32_at m.s (p + 10))
      → Echoes m (q + n) l r → Echoes m q (record { at = p; size = n; fate = Text } ∷ l) (record { at = q; size = n; fate = Text } ∷ r)
  bound : {q p n : ℕ} {l r : List Entry} (a : List ℕ) → 0 < n → 8 ≤ length a → bytes_at m.t q n ≡ sets a 4 (bytes_of 4 (m.place (u32_at m.s (p + 4)))) → u32_at m.t (q + 4) ≡ m.place (u32_at m.s (p + 4))
      → Echoes m (q + n) l r → Echoes m q (record { at = p; size = n; fate = Sheet } ∷ l) (record { at = q; size = n; fate = Sheet } ∷ r)
  tabled : {q p n k : ℕ} {l r : List Entry} (a : List ℕ) → 0 < length m.T → drop q m.t ≡ m.T ++ a → Echoes m (q + length m.T) l r → Echoes m q (record { at = p; size = n; fate = Table } ∷ l) (record { at = q; size = k; fate = Table } ∷ r)

-- the spot x of the new stream, at q, stands as w does in the old one
pub record Matches (x w : Spot) (q : ℕ) : Type 0 where
  pub at : x.at ≡ q
  pub level : x.level ≡ w.level
  pub kind : x.kind ≡ w.kind
  pub gone : w.gone ≡ false → x.gone ≡ false

abbrev pub Echo : Given → Spot → ℕ → Type 0
Echo m w q = (x : Spot) → Matches x w q → Echoes m q (entries_from m.s w) (entries_from m.t x)
