-- The copied stream, changed entry by entry, is the new stream. Assumes nothing.
use Prim.Native.Nat.{ℕ, zero, suc, ◌+◌, ◌^◌, ◌≤◌, ◌<◌}
use mathlib.Core.Path.{◌≡◌, refl, sym, ap, ap₂, ◌∙◌, subst}
use mathlib.Core.List.{List, [], ◌∷◌, ◌++◌}
use mathlib.Core.Bool.{Bool, true, false}
use native.Mathlib.Omega.{arith}
use lib.ListN.{length, get_or, take, drop, length-append}
use lib.Seq.{sets, length-sets, length-take-le, get_or-take, get_or-drop}
use lib.Dec.{ltb, leb}
use borrow.Author.Tests.{ltb-true, ltb-false, leb-true, leb-false}
use Rattle.steps.specs.Choice.{pick}
use Rattle.steps.proofs.Choice.{never, pick_lt, pick_nlt, pick_le, pick_nle}
use Rattle.byte_numbers.specs.Bytes.{byte_at, num_at, u32_at, bytes_at, bytes_of}
use Rattle.byte_numbers.proofs.Laws.{length_bytes, num_same}
use Rattle.reading.specs.Claims.{Every}
use Rattle.globals.specs.declared.Globals.{Globals}
use Rattle.workbook.specs.Check.{Right, checked_of}
use Rattle.moved_records.proofs.Views.{num_drop}
use Rattle.new_stream.specs.declared.Fate.{Fate}
use Rattle.new_stream.specs.declared.Entry.{Entry}
use Rattle.new_stream.specs.declared.Fate.TheVariants.{Stays, Goes, Table, Text, Sheet}
use Rattle.new_stream.specs.Entries.{size_for, start, entries_of}
use Rattle.new_stream.specs.Compact.{new_bytes, written, place_in, index_in, compact_with}
use Rattle.new_stream.specs.Parts.{Given, given_of}
use Rattle.new_stream.proofs.Echoed.{Echoes, none, rest, gone, part, kept, label, bound, tabled}
use Rattle.new_stream.specs.Claims.{TableOf}
use Rattle.new_stream.proofs.Written.{new_size_lem}
use Rattle.new_stream.proofs.Places.{entries_lie, index_none}
use Rattle.new_stream.proofs.Check.{echoed}
use Rattle.new_places.specs.Places.{sizes}
use Rattle.new_places.proofs.Whole.{size_is}
use Rattle.copied_records.specs.Copied.{Change, edited, copied_entry}
use Rattle.new_fields.specs.Edited.{table_change, text_change, sheet_change, Good}
use Rattle.new_fields.proofs.Lists.{sets_inside, sets_whole, put_back}
use Rattle.new_fields.proofs.Held as held
use Rattle.new_fields.proofs.Held.{Held, Changes, edited_held, Any, any_held}

pub record Sized (x : Entry) : Type 0 where
  pub cell : x.fate ≡ Text → 14 ≤ x.size
  pub sheet : x.fate ≡ Sheet → 8 ≤ x.size

-- from the entries of the new stream, which stand beside those of the old one
bytes_below : (t : List ℕ) (q n : ℕ) → length (bytes_at t q n) ≤ n
unfolding bytes_at
bytes_below t q n = take_below n (drop q t)
  where
    take_below : (n : ℕ) (l : List ℕ) → length (take n l) ≤ n
    take_below zero l = omega arith
    take_below (suc n) [] = omega arith
    take_below (suc n) (x ∷ l) = let a = take_below n l in omega arith

module _ (m : Given) where
  sized : {q : ℕ} {l r : List Entry} → Echoes m q l r → Every Sized l
  sized (none e) = tt
  sized (rest a e) = (record { cell = λ i. never (cc); sheet = λ i. never (cc) }, tt)
  sized (gone e) = (record { cell = λ i. never (cc); sheet = λ i. never (cc) }, sized e)
  sized (part h e) = sized e
  sized (kept h e) = (record { cell = λ i. never (cc); sheet = λ i. never (cc) }, sized e)
  sized (label {q} {p} {n} a h k is u e) =
      let x : length (bytes_at m.t q n) ≡ length a = ap length is ∙ length-sets a 10 (bytes_of 4 (m.index (u32_at m.s (p + 10)))) in
      let y = bytes_below m.t q n in
      (record { cell = λ i. omega arith; sheet = λ i. never (cc) }, sized e)
  sized (bound {q} {p} {n} a h k is u e) =
      let x : length (bytes_at m.t q n) ≡ length a = ap length is ∙ length-sets a 4 (bytes_of 4 (m.place (u32_at m.s (p + 4)))) in
      let y = bytes_below m.t q n in
      (record { cell = λ i. never (cc); sheet = λ i. omega arith }, sized e)
  sized (tabled a h k e) = (record { cell = λ i. never (cc); sheet = λ i. never (cc) }, sized e)

every_good : (s : List ℕ) (l : List Entry) → Every (λ (x : Entry). x.at + x.size ≤ length s) l → Every Sized l → Every (Good s) l
every_good s [] a b = tt
every_good s (x ∷ l) a b = (record { lies = a.0; cell = b.0.cell; sheet = b.0.sheet }, every_good s l a.1 b.1)

-- of a stream that passes
pub all_good : (s T : List ℕ) (u : ℕ) (g : Globals) → u ≤ 256 ^ 4 → checked_of s u ≡ Right g → TableOf s T g → length (compact_with s T) ≤ 16777216 → Every (Good s) (entries_of s)
all_good s T u g few ok tab short = every_good s (entries_of s) (entries_lie s start) (sized (given_of s T) (echoed s T u g few ok tab short))

-- ---- what the buffer holds of each entry
module _ (s T : List ℕ) where
  abbrev n : ℕ
  n = length T

  abbrev index : ℕ → ℕ
  index = index_in s T (entries_of s)

  abbrev place : ℕ → ℕ
  place = place_in T (entries_of s)

  abbrev Parts : (List ℕ → Type 0) → (ℕ → ℕ → List ℕ) → (ℕ → ℕ → List ℕ) → ℕ → ℕ → Fate → List ℕ → Type 0
  Parts tab tex she p z Stays b = b ≡ bytes_at s p z
  Parts tab tex she p z Goes b = b ≡ []
  Parts tab tex she p z Table b = tab b
  Parts tab tex she p z Text b = b ≡ tex p z
  Parts tab tex she p z Sheet b = b ≡ she p z

  pub record State (tab : List ℕ → Type 0) (tex she : ℕ → ℕ → List ℕ) (x : Entry) (b : List ℕ) : Type 0 where
    pub good : Good s x
    pub size : length b ≡ size_for n x.size x.fate
    pub holds : Parts tab tex she x.at x.size x.fate b

  abbrev Free : List ℕ → Type 0
  Free b = length b ≡ n

  abbrev IsT : List ℕ → Type 0
  IsT b = b ≡ T

  -- the text cells whose index is below `base` have their new one
  abbrev new_text : ℕ → ℕ → List ℕ
  new_text p z = sets (bytes_at s p z) 10 (bytes_of 4 (index (u32_at s (p + 10))))

  abbrev pub text_to : ℕ → ℕ → ℕ → List ℕ
  text_to base p z = pick (ltb (u32_at s (p + 10)) base) (new_text p z) (bytes_at s p z)

  abbrev new_sheet : ℕ → ℕ → List ℕ
  new_sheet p z = sets (bytes_at s p z) 4 (bytes_of 4 (place (u32_at s (p + 4))))

  abbrev entry : ℕ → ℕ → Fate → Entry
  entry p z f = record { at = p; size = z; fate = f }

  bytes_size : (p z : ℕ) → p + z ≤ length s → length (bytes_at s p z) ≡ z
  bytes_size p z h = new_size_lem s T index place p z h Stays

  -- an entry that a change leaves alone
  unchanged : {f : Change} {R : Entry → List ℕ → Type 0} {x : Entry} {b : List ℕ} → length b ≡ size_for n x.size x.fate → R x b → ((o : List ℕ) (q : ℕ) → f x.at x.size x.fate o q ≡ o) → Changes f n R x b
  unchanged {b = b} e h i = record { size = e; new = b; same = refl; holds = h; is = λ pre post. i (pre ++ (b ++ post)) (length pre) }

  -- copied
  step_copy : (p z : ℕ) (f : Fate) (b : List ℕ) → Good s (entry p z f) → length b ≡ size_for n z f → Changes (copied_entry s) n (State Free (bytes_at s) (bytes_at s)) (entry p z f) b
  step_copy p z Stays b g e = let y = bytes_size p z g.lies in record { size = e; new = bytes_at s p z; same = y ∙ sym e; holds = record { good = g; size = y; holds = refl }; is = λ pre post. sets_whole (bytes_at s p z) pre b post (y ∙ sym e) }
  step_copy p z Goes b g e = record { size = e; new = b; same = refl; holds = record { good = g; size = e; holds = empty b e }; is = λ pre post. refl }
    where
      empty : (b : List ℕ) → length b ≡ 0 → b ≡ []
      empty [] e = refl
      empty (x ∷ b) e = absurd (omega arith)
  step_copy p z Table b g e = record { size = e; new = b; same = refl; holds = record { good = g; size = e; holds = e }; is = λ pre post. refl }
  step_copy p z Text b g e = let y = bytes_size p z g.lies in record { size = e; new = bytes_at s p z; same = y ∙ sym e; holds = record { good = g; size = y; holds = refl }; is = λ pre post. sets_whole (bytes_at s p z) pre b post (y ∙ sym e) }
  step_copy p z Sheet b g e = let y = bytes_size p z g.lies in record { size = e; new = bytes_at s p z; same = y ∙ sym e; holds = record { good = g; size = y; holds = refl }; is = λ pre post. sets_whole (bytes_at s p z) pre b post (y ∙ sym e) }

  -- the table
  step_table : (p z : ℕ) (f : Fate) (b : List ℕ) → State Free (bytes_at s) (bytes_at s) (entry p z f) b → Changes (table_change T) n (State IsT (bytes_at s) (bytes_at s)) (entry p z f) b
  step_table p z Stays b r = unchanged r.size record { good = r.good; size = r.size; holds = r.holds } (λ o q. refl)
  step_table p z Goes b r = unchanged r.size record { good = r.good; size = r.size; holds = r.holds } (λ o q. refl)
  step_table p z Table b r = record { size = r.size; new = T; same = sym r.size; holds = record { good = r.good; size = refl; holds = refl }; is = λ pre post. sets_whole T pre b post (sym r.size) }
  step_table p z Text b r = unchanged r.size record { good = r.good; size = r.size; holds = r.holds } (λ o q. refl)
  step_table p z Sheet b r = unchanged r.size record { good = r.good; size = r.size; holds = r.holds } (λ o q. refl)

  -- the text cells of a chunk
  module _ (base m : ℕ) where
    abbrev Before : Entry → List ℕ → Type 0
    Before x b = State IsT (text_to base) (bytes_at s) x b

    abbrev Then : Entry → List ℕ → Type 0
    Then x b = State IsT (text_to (base + m)) (bytes_at s) x b

    module _ (p z : ℕ) (b : List ℕ) (r : Before (entry p z Text) b) where
      abbrev i : ℕ
      i = u32_at s (p + 10)

      step_below : i < base → Changes (text_change s index base m) n Then (entry p z Text) b
      step_below h = record {
        size = r.size;
        new = b;
        same = refl;
        holds = record { good = r.good; size = r.size; holds = r.holds ∙ sym (pick_lt (new_text p z) _ _ i base h refl) ∙ pick_lt (new_text p z) _ _ i (base + m) (omega arith) refl };
        is = λ pre post. sym (pick_nle _ _ _ base i h refl);
      }

      step_past : base + m ≤ i → Changes (text_change s index base m) n Then (entry p z Text) b
      step_past h = record {
        size = r.size;
        new = b;
        same = refl;
        holds = record { good = r.good; size = r.size; holds = r.holds ∙ sym (pick_nlt (bytes_at s p z) _ _ i base (omega arith) refl) ∙ pick_nlt (bytes_at s p z) _ _ i (base + m) h refl };
        is = λ pre post. sym (pick_le _ _ _ base i (omega arith) (pick_nlt _ _ _ i (base + m) h refl));
      }

      step_here : base ≤ i → i < base + m → Changes (text_change s index base m) n Then (entry p z Text) b
      step_here h k =
          let old : b ≡ bytes_at s p z = r.holds ∙ sym (pick_nlt (bytes_at s p z) _ _ i base h refl) in
          let l = length_bytes 4 (index i) in
          let f = r.good.cell refl in
          let y = r.size in
          record {
            size = r.size;
            new = new_text p z;
            same = length-sets (bytes_at s p z) 10 (bytes_of 4 (index i)) ∙ ap length (sym old);
            holds = record { good = r.good; size = length-sets (bytes_at s p z) 10 (bytes_of 4 (index i)) ∙ ap length (sym old) ∙ r.size; holds = pick_lt (new_text p z) _ _ i (base + m) k refl };
            is = λ pre post. sym (pick_le _ _ _ base i h (pick_lt _ _ _ i (base + m) k refl)) ∙ sets_inside (bytes_of 4 (index i)) pre b post 10 (omega arith) ∙ ap (λ (x : List ℕ). pre ++ (sets x 10 (bytes_of 4 (index i)) ++ post)) old;
          }

      step_label : Changes (text_change s index base m) n Then (entry p z Text) b
      step_label = by (leb base i) refl (ltb i (base + m)) refl
        where
          by : (x : Bool) → leb base i ≡ x → (y : Bool) → ltb i (base + m) ≡ y → Changes (text_change s index base m) n Then (entry p z Text) b
          by false h y k = step_below (leb-false base i h)
          by true h false k = step_past (ltb-false i (base + m) k)
          by true h true k = step_here (leb-true base i h) (ltb-true i (base + m) k)

    step_texts : (p z : ℕ) (f : Fate) (b : List ℕ) → Before (entry p z f) b → Changes (text_change s index base m) n Then (entry p z f) b
    step_texts p z Stays b r = unchanged r.size record { good = r.good; size = r.size; holds = r.holds } (λ o q. refl)
    step_texts p z Goes b r = unchanged r.size record { good = r.good; size = r.size; holds = r.holds } (λ o q. refl)
    step_texts p z Table b r = unchanged r.size record { good = r.good; size = r.size; holds = r.holds } (λ o q. refl)
    step_texts p z Text b r = step_label p z b r
    step_texts p z Sheet b r = unchanged r.size record { good = r.good; size = r.size; holds = r.holds } (λ o q. refl)

  -- the BOUNDSHEETs
  step_sheets : (tex : ℕ → ℕ → List ℕ) (p z : ℕ) (f : Fate) (b : List ℕ) → State IsT tex (bytes_at s) (entry p z f) b → Changes (sheet_change s place) n (State IsT tex new_sheet) (entry p z f) b
  step_sheets tex p z Stays b r = unchanged r.size record { good = r.good; size = r.size; holds = r.holds } (λ o q. refl)
  step_sheets tex p z Goes b r = unchanged r.size record { good = r.good; size = r.size; holds = r.holds } (λ o q. refl)
  step_sheets tex p z Table b r = unchanged r.size record { good = r.good; size = r.size; holds = r.holds } (λ o q. refl)
  step_sheets tex p z Text b r = unchanged r.size record { good = r.good; size = r.size; holds = r.holds } (λ o q. refl)
  step_sheets tex p z Sheet b r =
      let old : b ≡ bytes_at s p z = r.holds in
      let v = bytes_of 4 (place (u32_at s (p + 4))) in
      let l = length_bytes 4 (place (u32_at s (p + 4))) in
      let f = r.good.sheet refl in
      let y = r.size in
      record {
        size = r.size;
        new = new_sheet p z;
        same = length-sets (bytes_at s p z) 4 v ∙ ap length (sym old);
        holds = record { good = r.good; size = length-sets (bytes_at s p z) 4 v ∙ ap length (sym old) ∙ r.size; holds = refl };
        is = λ pre post. sets_inside v pre b post 4 (omega arith) ∙ ap (λ (x : List ℕ). pre ++ (sets x 4 v ++ post)) old;
      }

  -- ---- the stages of the buffer: what the entries hold, then what it held past them
  pub record Stage (tab : List ℕ → Type 0) (tex she : ℕ → ℕ → List ℕ) (post o : List ℕ) : Type 0 where
    pub new : List ℕ
    pub holds : Held (State tab tex she) (entries_of s) new
    pub is : o ≡ new ++ post

  pub stage_copied : (o : List ℕ) → Every (Good s) (entries_of s) → sizes n (entries_of s) ≤ length o → Stage Free (bytes_at s) (bytes_at s) (drop (sizes n (entries_of s)) o) (edited (copied_entry s) n (entries_of s) o 0)
  stage_copied o good room =
      let k = sizes n (entries_of s) in
      let a = edited_held (copied_entry s) n (Any n (Good s)) (State Free (bytes_at s) (bytes_at s)) (λ x b r. step_copy x.at x.size x.fate b r.good r.size)
      (any_held n (Good s) (entries_of s) (take k o) good (length-take-le k o room)) [] (drop k o) in
      record { new = a.new; holds = a.holds; is = ap (λ (y : List ℕ). edited (copied_entry s) n (entries_of s) y 0) (sym (take_drop k o)) ∙ a.is }
    where
      take_drop : (k : ℕ) (c : List ℕ) → take k c ++ drop k c ≡ c
      take_drop zero c = refl
      take_drop (suc k) [] = refl
      take_drop (suc k) (x ∷ c) = ap (λ (y : List ℕ). x ∷ y) (take_drop k c)

  -- a change of each entry
  stage_by : (tab tab' : List ℕ → Type 0) (tex tex' she she' : ℕ → ℕ → List ℕ) (f : Change) → ((p z : ℕ) (x : Fate) (b : List ℕ) → State tab tex she (entry p z x) b → Changes f n (State tab' tex' she') (entry p z x) b)
      → (post o : List ℕ) → Stage tab tex she post o → Stage tab' tex' she' post (edited f n (entries_of s) o 0)
  stage_by tab tab' tex tex' she she' f step post o g =
      let a = edited_held f n (State tab tex she) (State tab' tex' she') (λ x b r. step x.at x.size x.fate b r) g.holds [] post in
      record { new = a.new; holds = a.holds; is = ap (λ (y : List ℕ). edited f n (entries_of s) y 0) g.is ∙ a.is }

  pub stage_table : (post o : List ℕ) → Stage Free (bytes_at s) (bytes_at s) post o → Stage IsT (bytes_at s) (bytes_at s) post (edited (table_change T) n (entries_of s) o 0)
  stage_table = stage_by Free IsT (bytes_at s) (bytes_at s) (bytes_at s) (bytes_at s) (table_change T) step_table

  pub stage_texts : (base m : ℕ) (post o : List ℕ) → Stage IsT (text_to base) (bytes_at s) post o → Stage IsT (text_to (base + m)) (bytes_at s) post (edited (text_change s index base m) n (entries_of s) o 0)
  stage_texts base m = stage_by IsT IsT (text_to base) (text_to (base + m)) (bytes_at s) (bytes_at s) (text_change s index base m) (step_texts base m)

  pub stage_sheets : (tex : ℕ → ℕ → List ℕ) (post o : List ℕ) → Stage IsT tex (bytes_at s) post o → Stage IsT tex new_sheet post (edited (sheet_change s place) n (entries_of s) o 0)
  stage_sheets tex = stage_by IsT IsT tex tex (bytes_at s) new_sheet (sheet_change s place) (step_sheets tex)

  -- before the first chunk
  none_below : (p z : ℕ) → bytes_at s p z ≡ text_to 0 p z
  none_below p z = pick_nlt (bytes_at s p z) _ _ (u32_at s (p + 10)) 0 (omega arith) refl

  pub stage_none : (post o : List ℕ) → Stage IsT (bytes_at s) (bytes_at s) post o → Stage IsT (text_to 0) (bytes_at s) post o
  stage_none post o g = subst (λ (tex : ℕ → ℕ → List ℕ). Stage IsT tex (bytes_at s) post o) (λ i p z. none_below p z i) g

  -- ---- the end: every text cell has its new index
  pub record Told (tex : ℕ → ℕ → List ℕ) (x : Entry) : Type 0 where
    pub told : x.fate ≡ Text → tex x.at x.size ≡ new_text x.at x.size

  part_new : (tex : ℕ → ℕ → List ℕ) (p z : ℕ) (f : Fate) (b : List ℕ) → Told tex (entry p z f) → State IsT tex new_sheet (entry p z f) b → b ≡ new_bytes s T index place p z f
  part_new tex p z Stays b t r = r.holds
  part_new tex p z Goes b t r = r.holds
  part_new tex p z Table b t r = r.holds
  part_new tex p z Text b t r = r.holds ∙ t.told refl
  part_new tex p z Sheet b t r = r.holds

  held_new : (tex : ℕ → ℕ → List ℕ) {l : List Entry} {c : List ℕ} → Held (State IsT tex new_sheet) l c → Every (Told tex) l → c ≡ written s T index place l
  unfolding written
  held_new tex held.none t = refl
  held_new tex (held.more {x} {l} {b} {c} r h) t = ap₂ (λ (y y' : List ℕ). y ++ y') (part_new tex x.at x.size x.fate b t.0 r) (held_new tex h t.1)

  pub stage_done : (tex : ℕ → ℕ → List ℕ) (post o : List ℕ) → Stage IsT tex new_sheet post o → Every (Told tex) (entries_of s) → o ≡ compact_with s T ++ post
  unfolding compact_with
  stage_done tex post o g t = g.is ∙ ap (λ (y : List ℕ). y ++ post) (held_new tex g.holds t)

  -- where every index is below `top`
  pub told_below : (top : ℕ) (l : List Entry) → Every (λ (x : Entry). x.fate ≡ Text → u32_at s (x.at + 10) < top) l → Every (Told (text_to top)) l
  told_below top [] h = tt
  told_below top (x ∷ l) h = (record { told = λ e. sym (pick_lt (new_text x.at x.size) _ _ (u32_at s (x.at + 10)) top (h.0 e) refl) }, told_below top l h.1)

  -- where there is no table: indices stay
  module _ (bytes : (k : ℕ) → byte_at s k < 256) (no : T ≡ []) where
    part_bytes : (p z : ℕ) (k : ℕ) → byte_at (bytes_at s p z) k < 256
    unfolding bytes_at
    part_bytes p z k = taken z (drop p s) (λ j. subst (λ (y : ℕ). y < 256) (sym (get_or-drop p s j 0)) (bytes (p + j))) k
      where
        taken : (z : ℕ) (l : List ℕ) → ((k : ℕ) → get_or l k 0 < 256) → (k : ℕ) → get_or (take z l) k 0 < 256
        taken zero l h k = omega arith
        taken (suc z) [] h k = omega arith
        taken (suc z) (x ∷ l) h zero = h 0
        taken (suc z) (x ∷ l) h (suc k) = taken z l (λ j. h (suc j)) k

    part_number : (p z : ℕ) → 14 ≤ z → num_at (bytes_at s p z) 4 10 ≡ u32_at s (p + 10)
    unfolding bytes_at
    part_number p z h = num_same (take z (drop p s)) (drop p s) 4 10 (λ k a b. get_or-take z (drop p s) k 0 (omega arith)) ∙ num_drop s p 4 10

    stays_told : (p z : ℕ) → 14 ≤ z → bytes_at s p z ≡ new_text p z
    stays_told p z h =
        sym (put_back (bytes_at s p z) (part_bytes p z) 4 10)
        ∙ ap (λ (i : ℕ). sets (bytes_at s p z) 10 (bytes_of 4 i)) (part_number p z h ∙ sym (index_none s T (entries_of s) (u32_at s (p + 10)) no))

    pub told_stays : (l : List Entry) → Every (Good s) l → Every (Told (bytes_at s)) l
    told_stays [] g = tt
    told_stays (x ∷ l) g = (record { told = λ e. stays_told x.at x.size (g.0.cell e) }, told_stays l g.1)

  -- ---- how long it is
  sizes_are : (l : List Entry) → Every (λ (x : Entry). x.at + x.size ≤ length s) l → length (written s T index place l) ≡ sizes n l
  unfolding written sizes
  sizes_are [] e = refl
  sizes_are (x ∷ l) e =
      length-append (new_bytes s T index place x.at x.size x.fate) (written s T index place l)
      ∙ ap₂ ◌+◌ (new_size_lem s T index place x.at x.size e.0 x.fate ∙ size_is T x.size x.fate) (sizes_are l e.1)

  pub compact_length : length (compact_with s T) ≡ sizes n (entries_of s)
  unfolding compact_with
  compact_length = sizes_are (entries_of s) (entries_lie s start)

-- ---- THE LAW, for one chunk that has every index
pub record Ready (s T o : List ℕ) : Type 0 where
  pub good : Every (Good s) (entries_of s)
  pub room : length (compact_with s T) ≤ length o
