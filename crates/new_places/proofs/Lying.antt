-- Entries that lie in the stream. Assumes nothing.
use Prim.Native.Nat.{ℕ, ◌+◌, ◌≤◌, ◌<◌}
use mathlib.Core.Path.{◌≡◌, subst}
use mathlib.Core.List.{List, ◌∷◌}
use native.Mathlib.Omega.{arith}
use lib.ListN.{length}
use Rattle.reading.specs.Claims.{Every}
use Rattle.new_stream.specs.declared.Entry.{Entry}
use Rattle.new_stream.specs.Entries.{start, entries_of}
use Rattle.new_stream.proofs.Places.{entries_lie}

pub record Lying (s : List ℕ) (l : List Entry) : Type 0 where
  pub short : length s ≤ 16777216
  pub every : Every (λ (x : Entry). x.at + x.size ≤ length s) l

pub lying_start : (s : List ℕ) (l : List Entry) → length s ≤ 16777216 → l ≡ entries_of s → Lying s l
lying_start s l h i = record { short = h; every = rw i (entries_lie s start) }

module _ {s : List ℕ} {l : List Entry} (g : Lying s l) (x : Entry) (l' : List Entry) (i : l ≡ x ∷ l') where
  pub lying_here : x.at + x.size ≤ length s
  lying_here = (subst (Every (λ (x : Entry). x.at + x.size ≤ length s)) i g.every).0

  pub lying_low : x.at < 4294967200
  lying_low = let a = lying_here in let b = g.short in omega arith

  pub lying_next : Lying s l'
  lying_next = record { short = g.short; every = (subst (Every (λ (x : Entry). x.at + x.size ≤ length s)) i g.every).1 }
