-- The functions' laws. Assumes nothing.
use Prim.Native.Nat.{ℕ, ◌+◌, ◌-◌, ◌*◌, ◌≤◌, ◌<◌, max}
use mathlib.Core.Path.{◌≡◌, refl, sym, ap, ◌∙◌, subst}
use mathlib.Core.List.{List, [], ◌∷◌}
use native.Mathlib.Omega.{arith}
use lib.ListN.{length}
use lib.Dec.{ltb, leb}
use borrow.Author.Tests.{ltb-true, ltb-false, leb-true}
use Rattle.std.specs.Prelude.{Option, Some, None}
use Rattle.steps.specs.Choice.{pick}
use Rattle.steps.proofs.Choice.{never, pick_by, pick_same}
use Rattle.byte_numbers.specs.Bytes.{u32_at, bytes_at, bytes_of}
use lib.Seq.{sets}
use Rattle.reading.specs.Claims.{Every}
use Rattle.new_stream.specs.declared.Fate.{Fate}
use Rattle.new_stream.specs.declared.Fate.TheVariants.{Stays, Goes, Table, Text, Sheet}
use Rattle.new_stream.specs.declared.Entry.{Entry}
use Rattle.new_stream.specs.Entries.{start, entries_of}
use Rattle.new_stream.specs.Compact.{on_text, texts_in, used_below, index_in}
use Rattle.new_stream.proofs.Places.{index_some}
use Rattle.new_places.specs.Parts.{text_index}
use Rattle.new_places.proofs.Lying.{Lying, lying_start, lying_low, lying_next}
use Rattle.new_places.proofs.Texts.{texts_none, texts_more}
use Rattle.new_places.proofs.Whole.{entries_few}
use Rattle.copied_records.specs.Copied.{edited}
use Rattle.copied_records.proofs.Editing.{edited_length, edited_same}
use Rattle.new_fields.specs.Edited.{text_change, Roomy}
use Rattle.new_fields.proofs.Whole.{text_to, Stage, stage_texts}
use Rattle.new_fields.proofs.Laws.{text_keeps}
use Rattle.new_fields.specs.Ranks.{rank_in}
use Rattle.flags.specs.Flags.{set_below}
use Rattle.flags.specs.Parts.{Ranked}
use Rattle.used_strings.specs.Marked.{Flagged}
use Rattle.used_strings.proofs.Marks.{used_low, used_from}
use Rattle.new_fields.specs.Runs.{top_in, reindexed, Runs, none, then, Reindexed}

-- ---- counting: what is left of the entries, and what is counted so far
pub record Counting (s : List ℕ) (l : List Entry) (total top : ℕ) : Type 0 where
  pub lies : Lying s l
  pub few : total + length l ≤ length s
  pub total_is : total + length (texts_in s l) ≡ length (texts_in s (entries_of s))
  pub top_is : top_in (texts_in s l) top ≡ top_in (texts_in s (entries_of s)) 0

pub counting_start : (s : List ℕ) (l : List Entry) → length s ≤ 16777216 → l ≡ entries_of s → Counting s l 0 0
counting_start s l h i = record {
  lies = lying_start s l h i;
  few = let a = entries_few s start in rw i (omega arith);
  total_is = rw i (omega arith);
  top_is = rw i refl;
}

top_first : (i : ℕ) (t : List ℕ) (r : ℕ) → top_in (i ∷ t) r ≡ top_in t (max (i + 1) r)
unfolding top_in
top_first i t r = ap (top_in t) (pick_by (λ (n : ℕ). n ≡ max (i + 1) r) (ltb i r) (λ e. let a = ltb-true i r e in omega arith) (λ e. let a = ltb-false i r e in omega arith))

module _ {s : List ℕ} {l : List Entry} {total top : ℕ} (g : Counting s l total top) where
  pub count_total : l ≡ [] → total ≡ length (texts_in s (entries_of s))
  count_total i = let a = ap length (texts_none s l i) in let b = g.total_is in omega arith

  pub count_top : l ≡ [] → top ≡ top_in (texts_in s (entries_of s)) 0
  unfolding top_in
  count_top i = ap (λ (t : List ℕ). top_in t top) (sym (texts_none s l i)) ∙ g.top_is

  module _ (x : Entry) (l' : List Entry) (i : l ≡ x ∷ l') where
    pub count_low : x.at < 4294967200
    count_low = lying_low g.lies x l' i

    pub count_few : total + 1 ≤ 16777216
    count_few = let a = ap length i in let b = g.few in let c = g.lies.short in omega arith

    module _ {r : Option ℕ} (is : r ≡ text_index s x.at x.fate) where
      pub count_other : r ≡ None → Counting s l' total top
      count_other e =
          let t : texts_in s l ≡ texts_in s l' = texts_more s l x l' i (sym e ∙ is) in
          let a = ap length i in
          let b = g.few in
          record { lies = lying_next g.lies x l' i; few = omega arith; total_is = ap (λ (t : List ℕ). total + length t) (sym t) ∙ g.total_is; top_is = ap (λ (t : List ℕ). top_in t top) (sym t) ∙ g.top_is }

      pub count_text : (k y : ℕ) → r ≡ Some k → y ≡ max (k + 1) top → Counting s l' (total + 1) y
      count_text k y e h =
          let t : texts_in s l ≡ k ∷ texts_in s l' = texts_more s l x l' i (sym e ∙ is) in
          let a = ap length i in
          let b = g.few in
          let c = ap length t in
          let d = g.total_is in
          record {
            lies = lying_next g.lies x l' i;
            few = omega arith;
            total_is = omega arith;
            top_is = ap (top_in (texts_in s l')) h ∙ sym (top_first k (texts_in s l') top) ∙ ap (λ (t : List ℕ). top_in t top) (sym t) ∙ g.top_is;
          }

pub ruleset count_laws = (count_total, count_top, count_low, count_few, count_other, count_text)

-- ---- the ranks of a chunk are the new indices
-- where the two agree on the chunk's indices
text_same : (s : List ℕ) (index index' : ℕ → ℕ) (base m : ℕ) → ((i : ℕ) → base ≤ i → i < base + m → index i ≡ index' i) → (p z : ℕ) (x : Fate) (o : List ℕ) (q : ℕ) → text_change s index base m p z x o q ≡ text_change s index' base m p z x o q
text_same s index index' base m h p z Stays o q = refl
text_same s index index' base m h p z Goes o q = refl
text_same s index index' base m h p z Table o q = refl
text_same s index index' base m h p z Text o q =
    pick_same (leb base (u32_at s (p + 10))) _ _ _ _
    (λ e. pick_same (ltb (u32_at s (p + 10)) (base + m)) _ _ _ _ (λ d. ap (λ (k : ℕ). sets o (q + 10) (bytes_of 4 k)) (h (u32_at s (p + 10)) (leb-true base (u32_at s (p + 10)) e) (ltb-true (u32_at s (p + 10)) (base + m) d))) (λ d. refl))
    (λ e. refl)
text_same s index index' base m h p z Sheet o q = refl

module _ (s : List ℕ) (base start n : ℕ) (flags : List ℕ) (made : Flagged (texts_in s (entries_of s)) base n flags) (from : start ≡ used_below (texts_in s (entries_of s)) base) where
  abbrev texts : List ℕ
  texts = texts_in s (entries_of s)

  pub chunk_rank : (r : ℕ) → r ≡ start + set_below flags (length flags * 64) → r ≡ used_below (texts_in s (entries_of s)) (base + n * 64)
  chunk_rank r k =
      let a = used_from texts base n flags made (n * 64) (omega arith) in
      let e : set_below flags (length flags * 64) ≡ set_below flags (n * 64) = ap (λ (m : ℕ). set_below flags (m * 64)) made.size in
      omega arith

  pub chunk_done : (z : ℕ) (o o' : List ℕ) → o' ≡ edited (text_change s (rank_in flags start base) base (length flags * 64)) z (entries_of s) o 0 → o' ≡ reindexed s z base (n * 64) o
  unfolding reindexed rank_in
  chunk_done z o o' d =
      d ∙ ap (λ (c : ℕ). edited (text_change s (rank_in flags start base) base (c * 64)) z (entries_of s) o 0) made.size
      ∙ edited_same (text_change s (rank_in flags start base) base (n * 64)) (text_change s (used_below texts) base (n * 64)) z (entries_of s) o 0
      (text_same s (rank_in flags start base) (used_below texts) base (n * 64) (λ i a b.
      let c = used_from texts base n flags made (i - base) (omega arith) in
      let e : base + (i - base) ≡ i = omega arith in
      let f : used_below texts (base + (i - base)) ≡ used_below texts i = ap (used_below texts) e in
      (let r : start + set_below flags (i - base) ≡ used_below texts i = omega arith in r)))

  pub chunk_few : n ≤ 65536 → length flags ≤ 65536
  chunk_few h = let a = made.size in omega arith

  pub chunk_equal : (r : List ℕ) → n ≡ length r → length flags ≡ length r
  chunk_equal r h = made.size ∙ h

  pub chunk_length : length flags ≡ n
  chunk_length = made.size

pub ranked_length : (b : ℕ) (l r : List ℕ) → Ranked b l r → length r ≡ length l
ranked_length b l r g = g.size

pub ruleset chunk_laws = (chunk_rank, chunk_done, chunk_few, chunk_equal, chunk_length, ranked_length)

pub start_low : (s : List ℕ) (base start : ℕ) → start ≡ used_below (texts_in s (entries_of s)) base → base ≤ 4294967296 → start ≤ 4294967296
start_low s base start e h = let c = used_low (texts_in s (entries_of s)) base in omega arith

-- ---- all chunks
pub record Reindexing (s : List ℕ) (n k : ℕ) (m₀ r₀ o₀ : List ℕ) (base start : ℕ) (m r o : List ℕ) : Type 0 where
  pub rank : start ≡ used_below (texts_in s (entries_of s)) base
  pub size : length o ≡ length o₀
  pub marks : length m ≡ length m₀
  pub ranks : length r ≡ length r₀
  pub step : k ≡ length m₀ * 64
  pub runs : Runs s n 0 o₀ base o

below_zero : (l : List ℕ) → 0 ≡ used_below l 0
unfolding used_below
below_zero l = refl

pub runs_start : (s : List ℕ) (n k : ℕ) (m r o : List ℕ) → k ≡ length m * 64 → Reindexing s n k m r o 0 0 m r o
runs_start s n k m r o e = record { rank = below_zero (texts_in s (entries_of s)); size = refl; marks = refl; ranks = refl; step = e; runs = none }

pub reindexed_length : (s : List ℕ) (n base m : ℕ) (o : List ℕ) → length (reindexed s n base m o) ≡ length o
unfolding reindexed
reindexed_length s n base m o = edited_length _ (text_keeps s (used_below (texts_in s (entries_of s))) base m) n (entries_of s) o 0

module _ (s : List ℕ) (n k : ℕ) (m₀ r₀ o₀ : List ℕ) (base start : ℕ) (m r o : List ℕ) (g : Reindexing s n k m₀ r₀ o₀ base start m r o) where
  pub runs_rank : start ≡ used_below (texts_in s (entries_of s)) base
  runs_rank = g.rank

  pub runs_length : length o ≡ length o₀
  runs_length = g.size

  pub runs_marks : length m ≡ length m₀
  runs_marks = g.marks

  pub runs_ranks : length r ≡ length r₀
  runs_ranks = g.ranks

  pub runs_equal : length m₀ ≡ length r₀ → length m ≡ length r
  runs_equal h = g.marks ∙ h ∙ sym g.ranks

  pub runs_low : base ≤ 4294967296 → start ≤ 4294967296
  runs_low a = let c = used_low (texts_in s (entries_of s)) base in let d = g.rank in omega arith

  pub runs_few : length m₀ ≤ 65536 → length m ≤ 65536
  runs_few h = let a = g.marks in omega arith

  pub runs_sum : (top : ℕ) → base < top → top ≤ 4294967296 → length m₀ ≤ 65536 → base + k < 18446744073709551616
  runs_sum top t a b = let c = g.step in omega arith

  pub runs_less : (top : ℕ) → base < top → 0 < length m₀ → top - (base + k) < top - base
  runs_less top a b = let c = g.step in omega arith

  pub runs_room : Roomy s n (length o₀) → Roomy s n (length o)
  runs_room h = subst (Roomy s n) (sym g.size) h

  pub runs_next : (x : ℕ) (m' r' o' : List ℕ) → length m' ≡ length m → length r' ≡ length r → x ≡ used_below (texts_in s (entries_of s)) (base + length m * 64) → o' ≡ reindexed s n base (length m * 64) o → Reindexing s n k m₀ r₀ o₀ (base + k) x m' r' o'
  runs_next x m' r' o' e f a b =
      let d : length m * 64 ≡ k = ap (λ (y : ℕ). y * 64) g.marks ∙ sym g.step in
      record {
        rank = a ∙ ap (λ (y : ℕ). used_below (texts_in s (entries_of s)) (base + y)) d;
        size = ap length b ∙ reindexed_length s n base (length m * 64) o ∙ g.size;
        marks = e ∙ g.marks;
        ranks = f ∙ g.ranks;
        step = g.step;
        runs = subst (λ (y : List ℕ). Runs s n 0 o₀ (base + k) y) (sym (b ∙ ap (λ (y : ℕ). reindexed s n base y o) d)) (then k g.runs);
      }

  pub runs_done : (top : ℕ) → top ≤ base → Reindexed s n top o₀ o
  runs_done top h = record { to = base; past = h; runs = g.runs }

pub ruleset runs_laws = (runs_start, runs_rank, runs_length, runs_marks, runs_ranks, runs_equal, runs_low, runs_few, runs_sum, runs_less, runs_room, runs_next, runs_done)

-- ---- so every text cell has its new index
with_same : (s T : List ℕ) → 4 ≤ length T → (b m : ℕ) (o : List ℕ) → edited (text_change s (index_in s T (entries_of s)) b m) (length T) (entries_of s) o 0 ≡ reindexed s (length T) b m o
unfolding reindexed
with_same s T some b m o = λ j. edited (text_change s (λ i. index_some s T (entries_of s) i some j) b m) (length T) (entries_of s) o 0

run_stage : (s T : List ℕ) (post : List ℕ) → 4 ≤ length T → (o₀ : List ℕ) → Stage s T (λ (y : List ℕ). y ≡ T) (text_to s T 0) (bytes_at s) post o₀ → {b : ℕ} {o : List ℕ} → Runs s (length T) 0 o₀ b o → Stage s T (λ (y : List ℕ). y ≡ T) (text_to s T b) (bytes_at s) post o
run_stage s T post some o₀ g none = g
run_stage s T post some o₀ g (then {b} {o} m r) =
    subst (Stage s T (λ (y : List ℕ). y ≡ T) (text_to s T (b + m)) (bytes_at s) post) (with_same s T some b m o) (stage_texts s T b m post o (run_stage s T post some o₀ g r))

pub reindexed_stage : (s T : List ℕ) (post o o' : List ℕ) (top : ℕ) → 4 ≤ length T → Stage s T (λ (y : List ℕ). y ≡ T) (text_to s T 0) (bytes_at s) post o
    → (r : Reindexed s (length T) top o o') → Stage s T (λ (y : List ℕ). y ≡ T) (text_to s T r.to) (bytes_at s) post o'
reindexed_stage s T post o o' top some g r = run_stage s T post some o g r.runs

-- each text entry's index is below the top
top_grows : (l : List ℕ) (r : ℕ) → r ≤ top_in l r
unfolding top_in
top_grows [] r = omega arith
top_grows (x ∷ l) r =
    let a = top_grows l (pick (ltb x r) r (x + 1)) in
    let b : r ≤ pick (ltb x r) r (x + 1) = pick_by (λ (n : ℕ). r ≤ n) (ltb x r) (λ e. omega arith) (λ e. let c = ltb-false x r e in omega arith) in
    omega arith

top_over : (x : ℕ) (l : List ℕ) (r : ℕ) → x < top_in (x ∷ l) r
unfolding top_in
top_over x l r =
    let a = top_grows l (pick (ltb x r) r (x + 1)) in
    let b : x < pick (ltb x r) r (x + 1) = pick_by (λ (n : ℕ). x < n) (ltb x r) (λ e. ltb-true x r e) (λ e. omega arith) in
    omega arith

top_step : (x : ℕ) (l : List ℕ) (r : ℕ) → top_in (x ∷ l) r ≡ top_in l (pick (ltb x r) r (x + 1))
unfolding top_in
top_step x l r = refl

pub all_below : (s : List ℕ) (l : List Entry) (r top : ℕ) → top_in (texts_in s l) r ≤ top → Every (λ (x : Entry). x.fate ≡ Text → u32_at s (x.at + 10) < top) l
unfolding texts_in
all_below s [] r top h = tt
all_below s (x ∷ l) r top h = by x.fate refl h (λ r k. all_below s l r top k)
  where
    by : (f : Fate) → x.fate ≡ f → top_in (on_text s x.at f (texts_in s l)) r ≤ top → ((r : ℕ) → top_in (texts_in s l) r ≤ top → Every (λ (x : Entry). x.fate ≡ Text → u32_at s (x.at + 10) < top) l)
        → (x.fate ≡ Text → u32_at s (x.at + 10) < top) × Every (λ (x : Entry). x.fate ≡ Text → u32_at s (x.at + 10) < top) l
    by Stays e k ih = ((λ i. never (cc)), ih r k)
    by Goes e k ih = ((λ i. never (cc)), ih r k)
    by Table e k ih = ((λ i. never (cc)), ih r k)
    by Text e k ih = ((λ i. let a = top_over (u32_at s (x.at + 10)) (texts_in s l) r in omega arith), ih _ (text_step k))
      where
        text_step : top_in (u32_at s (x.at + 10) ∷ texts_in s l) r ≤ top → top_in (texts_in s l) (pick (ltb (u32_at s (x.at + 10)) r) r (u32_at s (x.at + 10) + 1)) ≤ top
        text_step k = subst (λ (n : ℕ). n ≤ top) (top_step (u32_at s (x.at + 10)) (texts_in s l) r) k
    by Sheet e k ih = ((λ i. never (cc)), ih r k)
