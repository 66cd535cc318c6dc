-- Which bytes of a stream its check depends on. u is the unique count of strings.
use Rattle.std.specs.Prelude.{ℕ, ◌+◌, ◌≡◌, List, true, length, drop, Result, Ok, Err}
use Rattle.byte_numbers.proofs.Laws.{Same}
use Rattle.substream.specs.declared.Here.{Here}
use Rattle.substream.specs.declared.Step.{Step}
use Rattle.substream.specs.declared.Step.TheVariants.{More, Open, Close}
use Rattle.refusal.specs.declared.Refusal.{Refusal}
use Rattle.substream.specs.Substream.{step_of, substream_in}
use Rattle.globals.specs.declared.Globals.{Globals}
use Rattle.globals.specs.Globals.{globals_of}
use Rattle.top_level.specs.TopLevel.{all_zero, tops_from, bofs_from}
use Rattle.record_chain.specs.Chain.{Over}

-- the step goes on
abbrev pub Moves : Result Step Refusal → Type 0
Moves (Ok (More w)) = Unit {0}
Moves (Ok (Open b)) = Unit {0}
Moves (Ok (Close e)) = Unit {0}
Moves (Err r) = ⊥

-- Two streams of one length agree at the places that have P, as the end of each whole record there has: at the first eight bytes there, in each
-- step that goes on, and in that only zeros are left.
pub record Agreeing (s s' : List ℕ) (u : ℕ) (P : ℕ → Type 0) : Type 0 where
  pub len : length s ≡ length s'
  pub keep : (x e : ℕ) → P x → Over s x e → P e
  pub head : (x : ℕ) → P x → Same s s' x (x + 8)
  pub step : (k : ℕ) (v : Here) → P v.at → Moves (step_of s k u v) → step_of s k u v ≡ step_of s' k u v
  pub zeros : (x : ℕ) → P x → all_zero (drop x s) ≡ true → all_zero (drop x s') ≡ true

-- ---- the claims
-- the globals depend on the length and on the bytes before their end
abbrev pub GlobalsLocal : Type 0
GlobalsLocal = (s s' : List ℕ) (u : ℕ) (g : Globals) → length s ≡ length s' → Same s s' 0 g.at → globals_of s u ≡ Ok g → globals_of s' u ≡ Ok g

-- a substream whose BOF stands where the streams agree ends alike
abbrev pub SubstreamLocal : Type 1
SubstreamLocal =
    (s s' : List ℕ) (u : ℕ) (P : ℕ → Type 0) → Agreeing s s' u P → (d k b e : ℕ) → P b → Over s b (b + 20)
    → substream_in d s u k b ≡ Ok e → substream_in d s' u k b ≡ Ok e

-- the top-level substreams pass alike, and have the same BOFs
abbrev pub TopsLocal : Type 1
TopsLocal =
    (s s' : List ℕ) (u : ℕ) (P : ℕ → Type 0) → Agreeing s s' u P → (x : ℕ) → P x → tops_from s u x ≡ Ok tt
    → (tops_from s' u x ≡ Ok tt) × (bofs_from s u x ≡ bofs_from s' u x)
