-- The strings that the marks keep, and how many there are. Assumes nothing.
use Prim.Native.Nat.{ℕ, zero, suc, ◌+◌, ◌-◌, ◌≤◌, ◌<◌}
use mathlib.Core.Path.{◌≡◌, refl, sym, ap, ◌∙◌}
use mathlib.Core.List.{List, [], ◌∷◌, map}
use mathlib.Core.Bool.{Bool, true, false}
use native.Mathlib.Omega.{arith}
use lib.ListN.{length}
use Rattle.steps.specs.Choice.{pick}
use Rattle.steps.specs.Items.{Item, gives, skips, ends, onto, collect_f, collect}
use Rattle.table_texts.specs.Texts.{Text, kept}
use Rattle.new_stream.specs.declared.Spot.{Spot}
use Rattle.new_stream.specs.declared.Fate.{Fate}
use Rattle.new_stream.specs.declared.Entry.{Entry}
use Rattle.new_stream.specs.declared.Fate.TheVariants as fate
use Rattle.new_stream.specs.Entries.{entry_item, entries_from, start, entries_of}
use Rattle.new_stream.specs.Compact.{on_text, texts_in, uses, used_below}
use Rattle.new_reading.specs.Retexted.{used_texts}
use Rattle.new_table.specs.NewTable.{marks_from}

-- one more string
module _ (l : List ℕ) (i n : ℕ) (t : Text) (ts : List Text) where
  kept_used : uses l i ≡ true → kept (marks_from l i (suc n)) (t ∷ ts) ≡ t ∷ kept (marks_from l (i + 1) n) ts
  unfolding marks_from kept pick
  kept_used h = rw h refl

  kept_unused : uses l i ≡ false → kept (marks_from l i (suc n)) (t ∷ ts) ≡ kept (marks_from l (i + 1) n) ts
  unfolding marks_from kept pick
  kept_unused h = rw h refl

below_used : (l : List ℕ) (j : ℕ) → uses l j ≡ true → used_below l (j + 1) ≡ 1 + used_below l j
unfolding used_below pick
below_used l j h = let e : j + 1 ≡ suc j = omega arith in rw (e, h) refl

below_unused : (l : List ℕ) (j : ℕ) → uses l j ≡ false → used_below l (j + 1) ≡ used_below l j
unfolding used_below pick
below_unused l j h = let e : j + 1 ≡ suc j = omega arith in rw (e, h) (omega arith)

below_zero : (l : List ℕ) → used_below l 0 ≡ 0
unfolding used_below
below_zero l = refl

kept_none : (l : List ℕ) (i : ℕ) → kept (marks_from l i 0) [] ≡ []
unfolding marks_from kept
kept_none l i = refl

-- as many as are used
pub kept_count : (l : List ℕ) (i n : ℕ) (ts : List Text) → length ts ≡ n → used_below l i + length (kept (marks_from l i n) ts) ≡ used_below l (i + n)
kept_count l i zero [] e = let z : i + 0 ≡ i = omega arith in let k : length (kept (marks_from l i 0) []) ≡ 0 = ap length (kept_none l i) in rw z (omega arith)
kept_count l i zero (t ∷ ts) e = absurd (omega arith)
kept_count l i (suc n) [] e = absurd (omega arith)
kept_count l i (suc n) (t ∷ ts) e = by (uses l i) refl (kept_count l (i + 1) n ts (omega arith))
  where
    by : (b : Bool) → uses l i ≡ b → used_below l (i + 1) + length (kept (marks_from l (i + 1) n) ts) ≡ used_below l (i + 1 + n) → used_below l i + length (kept (marks_from l i (suc n)) (t ∷ ts)) ≡ used_below l (i + suc n)
    by true h ih =
        let a = below_used l i h in
        let c : length (kept (marks_from l i (suc n)) (t ∷ ts)) ≡ suc (length (kept (marks_from l (i + 1) n) ts)) = ap length (kept_used l i n t ts h) in
        let z : i + 1 + n ≡ i + suc n = omega arith in
        let d : used_below l (i + 1 + n) ≡ used_below l (i + suc n) = ap (used_below l) z in
        omega arith
    by false h ih =
        let a = below_unused l i h in
        let c : length (kept (marks_from l i (suc n)) (t ∷ ts)) ≡ length (kept (marks_from l (i + 1) n) ts) = ap length (kept_unused l i n t ts h) in
        let z : i + 1 + n ≡ i + suc n = omega arith in
        let d : used_below l (i + 1 + n) ≡ used_below l (i + suc n) = ap (used_below l) z in
        omega arith

pub kept_all_count : (l : List ℕ) (n : ℕ) (ts : List Text) → length ts ≡ n → length (kept (marks_from l 0 n) ts) ≡ used_below l n
kept_all_count l n ts e =
    let a = kept_count l 0 n ts e in
    let b = below_zero l in
    let z : 0 + n ≡ n = omega arith in
    let d : used_below l (0 + n) ≡ used_below l n = ap (used_below l) z in
    omega arith

-- their units are those of the used strings
used_none : (l : List ℕ) (i : ℕ) → used_texts l i [] ≡ []
unfolding used_texts
used_none l i = refl

texts_used : (l : List ℕ) (x : List ℕ) (r : List (List ℕ)) (j : ℕ) → uses l j ≡ true → used_texts l j (x ∷ r) ≡ x ∷ used_texts l (j + 1) r
unfolding used_texts pick
texts_used l x r j h = rw h refl

texts_unused : (l : List ℕ) (x : List ℕ) (r : List (List ℕ)) (j : ℕ) → uses l j ≡ false → used_texts l j (x ∷ r) ≡ used_texts l (j + 1) r
unfolding used_texts pick
texts_unused l x r j h = rw h refl

abbrev pub units_of : List Text → List (List ℕ)
units_of ts = map (λ (t : Text). t.units) ts

pub kept_units : (l : List ℕ) (i n : ℕ) (ts : List Text) → length ts ≡ n → units_of (kept (marks_from l i n) ts) ≡ used_texts l i (units_of ts)
kept_units l i zero [] e = ap units_of (kept_none l i) ∙ sym (used_none l i)
kept_units l i zero (t ∷ ts) e = absurd (omega arith)
kept_units l i (suc n) [] e = absurd (omega arith)
kept_units l i (suc n) (t ∷ ts) e = by (uses l i) refl (kept_units l (i + 1) n ts (omega arith))
  where
    by : (b : Bool) → uses l i ≡ b → units_of (kept (marks_from l (i + 1) n) ts) ≡ used_texts l (i + 1) (units_of ts) → units_of (kept (marks_from l i (suc n)) (t ∷ ts)) ≡ used_texts l i (units_of (t ∷ ts))
    by true h ih = ap units_of (kept_used l i n t ts h) ∙ ap (λ (x : List (List ℕ)). t.units ∷ x) ih ∙ sym (texts_used l t.units (units_of ts) i h)
    by false h ih = ap units_of (kept_unused l i n t ts h) ∙ ih ∙ sym (texts_unused l t.units (units_of ts) i h)

-- all, where all are used
pub kept_every : (l : List ℕ) (i n : ℕ) (ts : List Text) → length ts ≡ n → ((j : ℕ) → i ≤ j → j < i + n → uses l j ≡ true) → kept (marks_from l i n) ts ≡ ts
kept_every l i zero [] e h = kept_none l i
kept_every l i zero (t ∷ ts) e h = absurd (omega arith)
kept_every l i (suc n) [] e h = absurd (omega arith)
kept_every l i (suc n) (t ∷ ts) e h =
    kept_used l i n t ts (h i (omega arith) (omega arith)) ∙ ap (λ (x : List Text). t ∷ x) (kept_every l (i + 1) n ts (omega arith) (λ j a b. h j (omega arith) (omega arith)))

-- ---- how many text cells there are
texts_below : (s : List ℕ) (l : List Entry) → length (texts_in s l) ≤ length l
unfolding texts_in
texts_below s [] = omega arith
texts_below s (x ∷ l) = by x.fate (texts_below s l)
  where
    by : (f : Fate) → length (texts_in s l) ≤ length l → length (on_text s x.at f (texts_in s l)) ≤ suc (length l)
    by fate.Stays h = omega arith
    by fate.Goes h = omega arith
    by fate.Table h = omega arith
    by fate.Text h = omega arith
    by fate.Sheet h = omega arith

collect_few : (s : List ℕ) (n : ℕ) (w : Spot) → length (collect_f (entry_item s) n w) ≤ n
unfolding collect_f
collect_few s zero w = omega arith
collect_few s (suc n) w = by (entry_item s w) (λ v. collect_few s n v)
  where
    by : (x : Item Spot Entry) → ((v : Spot) → length (collect_f (entry_item s) n v) ≤ n) → length (onto x (λ v. collect_f (entry_item s) n v)) ≤ suc n
    by (gives x v) h = let a = h v in omega arith
    by (skips v) h = let a = h v in omega arith
    by ends h = omega arith

pub texts_few : (s : List ℕ) → length (texts_in s (entries_of s)) ≤ length s + 1
unfolding entries_from collect
texts_few s =
    let a : length (entries_of s) ≤ suc (length s - 0) = collect_few s (suc (length s - 0)) start in
    let b = texts_below s (entries_of s) in
    omega arith
