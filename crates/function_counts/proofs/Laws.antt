-- The rule of the counts and the table of the code, each proved once over the whole of it by a test that antt computes. Assumes nothing.
use Rattle.std.proofs.Common.{◌≡◌, ℕ, ◌≤◌, ◌<◌, List, [], ◌∷◌, get_or, Option, Some, None, refl, sym, ap, ◌∙◌, arith, Bool, true, ◌&&◌}
use Rattle.std.specs.List.{range_with_len}
use Rattle.std.proofs.lemmas.List.{get_or-map}
use Rattle.std.proofs.lemmas.List.FromFn.{get_or-map-range_with_len}
use mathlib.Core.List.{map}
use lib.Dec.{T, ltb, leb, eqb, ltb→lt, leb→le}
use lib.Ieee.Fits.{and_l, and_r}
use Rattle.steps.specs.Choice.{pick}
use Rattle.steps.proofs.Choice.{pick_any, pick_ne, pick_le, pick_nle}
use Rattle.function_counts.specs.declared.Counts.{Counts}
use Rattle.function_counts.specs.declared.TheConstants.{COUNTS}
use Rattle.function_counts.specs.Counts.{Function, ◌takes◌to◌, functions, find, counts_of, Capped}

-- ---- the counts
-- a function's index is below 368, and its least count at most its greatest, and that at most 30
abbrev test : ℕ → ℕ → ℕ → Bool
test i least greatest = ltb i 368 && (leb least greatest && leb greatest 30)

abbrev each : List Function → Bool
each [] = true
each ((i takes least to greatest) ∷ fs) = test i least greatest && each fs

tested : (i l g : ℕ) → T (test i l g) → (i < 368) × (l ≤ g) × (g ≤ 30)
tested i l g t =
    let u = and_r (ltb i 368) (leb l g && leb g 30) t in
    (ltb→lt i 368 (and_l (ltb i 368) (leb l g && leb g 30) t), leb→le l g (and_l (leb l g) (leb g 30) u), leb→le g 30 (and_r (leb l g) (leb g 30) u))

find_capped : (fs : List Function) → T (each fs) → (index : ℕ) → Capped (find fs index)
find_capped [] t index = tt
find_capped ((i takes l to g) ∷ fs) t index =
    let f = tested i l g (and_l (test i l g) (each fs) t) in
    pick_any Capped (eqb index i) (f.1, f.2) (find_capped fs (and_r (test i l g) (each fs) t) index)

find_past : (fs : List Function) → T (each fs) → (index : ℕ) → 368 ≤ index → None ≡ find fs index
find_past [] t index h = refl
find_past ((i takes l to g) ∷ fs) t index h =
    let f = tested i l g (and_l (test i l g) (each fs) t) in
    pick_ne _ _ _ index i (λ e. omega arith) (find_past fs (and_r (test i l g) (each fs) t) index h)

-- the order and the cap hold at every index
pub counts_capped : (index : ℕ) → Capped (counts_of index)
unfolding functions counts_of
counts_capped index = find_capped functions tt index

pub counts_past : (index : ℕ) → 368 ≤ index → None ≡ counts_of index
unfolding functions counts_of
counts_past index h = find_past functions tt index h

-- ---- the table
-- a least count above the greatest says that there is no function
abbrev pub range : ℕ × ℕ → Option Counts
range p = pick (leb p.0 p.1) (Some (record { least = p.0; greatest = p.1 })) None

whole : map range COUNTS ≡ map counts_of (range_with_len 0 368)
unfolding functions counts_of pick
whole = refl

-- at the index's place, as the code reads it
module _ (at index : ℕ) (a : at ≡ index) (l : at < 368) where
  abbrev entry : ℕ × ℕ
  entry = get_or COUNTS at (0, 0)

  listed : range entry ≡ counts_of index
  listed =
      sym (get_or-map range COUNTS at (0, 0) None l)
      ∙ ap (λ (t : List (Option Counts)). get_or t at None) whole
      ∙ get_or-map-range_with_len counts_of 0 368 at index None l (omega arith)

  pub counts_there : entry.0 ≤ entry.1 → Some (record { least = entry.0; greatest = entry.1 }) ≡ counts_of index
  counts_there h = pick_le _ _ _ entry.0 entry.1 h refl ∙ listed

  pub counts_none : entry.1 < entry.0 → None ≡ counts_of index
  counts_none h = pick_nle _ _ _ entry.0 entry.1 h refl ∙ listed
