-- What is known of a stream with a table before anything is written. Assumes nothing.
use Prim.Native.Nat.{ℕ, ◌+◌, ◌^◌, ◌≤◌, ◌<◌}
use mathlib.Core.Path.{◌≡◌, refl, sym, ap, ◌∙◌, subst}
use mathlib.Core.List.{List, [], ◌∷◌}
use mathlib.Core.Bool.{Bool, true, false}
use native.Mathlib.Omega.{arith}
use lib.ListN.{length, drop, length-append, length-drop}
use lib.Dec.{leb, ltb}
use borrow.Author.Tests.{leb-true, leb-false}
use Rattle.steps.specs.Choice.{pick}
use Rattle.steps.proofs.Choice.{pick_any}
use Rattle.byte_numbers.specs.Bytes.{u16_at, u32_at}
use Rattle.segments.specs.Parts.{Inside, Passes}
use Rattle.strings.specs.Table.{strings, first}
use Rattle.globals.specs.declared.Globals.{Globals}
use Rattle.workbook.specs.Check.{Checked, Right, checked_of, on_checked}
use Rattle.record_chain.proofs.Sheets.{passing}
use Rattle.table_texts.specs.Texts.{Text}
use Rattle.table_texts.specs.Written.{table_bytes, table_size}
use Rattle.table_texts.proofs.Held.{num_below}
use Rattle.table_size.specs.Sizing.{Counted}
use Rattle.new_stream.specs.declared.Fate.{Fate}
use Rattle.new_stream.specs.declared.Fate.TheVariants as fate
use Rattle.new_stream.specs.declared.Entry.{Entry}
use Rattle.new_stream.specs.Entries.{entries_of}
use Rattle.new_stream.specs.Compact.{on_text, texts_in, used_below}
use Rattle.new_stream.specs.Claims.{Standing, place_of}
use Rattle.new_stream.proofs.Check.{compacted}
use Rattle.new_table.specs.NewTable.{Bytes, new_table, compacted_of, compact_of}
use Rattle.new_table.proofs.Claims.{new_table_lem, new_is}
use Rattle.table_chunks.specs.Chosen.{chosen, used_of}
use Rattle.new_fields.specs.Runs.{top_in}
use Rattle.new_fields.proofs.Indices.{all_below}
use Rattle.compact.specs.declared.plan.Plan.{Plan}
use Rattle.std.specs.Prelude.{Result, Err}
use Rattle.refusal.specs.Refused.{refuse}
use Rattle.refusal.specs.declared.Refusal.{Refusal}
use Rattle.compact.specs.Compacted.{answer_to, buffer_to, answer_of, buffer_after}
use Rattle.compact.specs.Parts.{Tabled, Prepared}
use Rattle.new_table.proofs.Marks.{texts_few}
use Rattle.used_strings.proofs.Marks.{used_low}
use Rattle.compact.proofs.Answers.{answer_large, buffer_large}
use Rattle.compact.proofs.Made.{table_low, unique_is, old_passes, old_inside, bytes_are, size_are, count_are}

-- what stands in a stream is not longer
standing_long : (t T : List ℕ) (q : ℕ) → Standing t T q → length T ≤ length t
standing_long t T q st =
    let a : length (drop q t) ≡ length T + length st.rest = ap length st.is ∙ length-append T st.rest in
    let b = length-drop q t in
    omega arith

-- ---- the highest index
top_low : (s : List ℕ) → Bytes s → (l : List Entry) (r : ℕ) → r ≤ 4294967296 → top_in (texts_in s l) r ≤ 4294967296
unfolding texts_in top_in
top_low s bytes [] r h = h
top_low s bytes (x ∷ l) r h = by x.fate (λ k i. top_low s bytes l k i)
  where
    step : ℕ
    step = pick (ltb (u32_at s (x.at + 10)) r) r (u32_at s (x.at + 10) + 1)

    low : step ≤ 4294967296
    low = let a = num_below s bytes 4 4 (x.at + 10) (omega arith) in pick_any (λ (n : ℕ). n ≤ 4294967296) (ltb (u32_at s (x.at + 10)) r) h (omega arith)

    by : (f : Fate) → ((k : ℕ) → k ≤ 4294967296 → top_in (texts_in s l) k ≤ 4294967296) → top_in (on_text s x.at f (texts_in s l)) r ≤ 4294967296
    by fate.Stays again = again r h
    by fate.Goes again = again r h
    by fate.Table again = again r h
    by fate.Text again = again step low
    by fate.Sheet again = again r h

module _ (s : List ℕ) (u : ℕ) (g : Globals) (few : u ≤ 256 ^ 4) (bytes : Bytes s) (ok : checked_of s u ≡ Right g) (some : g.table ≡ 0 → ⊥) where
  abbrev end : ℕ
  end = g.table + 4 + u16_at s (g.table + 2)

  -- ---- a table that is too large makes the new stream too large
  module _ (n : ℕ) (large : 16777216 < n) (is : Counted (chosen s 0 g.unique (first g.table (g.table + 4 + u16_at s (g.table + 2)))) n) where
    table_large : 16777216 < length (new_table s g)
    table_large = by (leb (table_size (chosen s 0 g.unique (first g.table (g.table + 4 + u16_at s (g.table + 2))))) 16777216) refl
      where
        by : (b : Bool) → leb (table_size (chosen s 0 g.unique (first g.table (g.table + 4 + u16_at s (g.table + 2))))) 16777216 ≡ b → 16777216 < length (new_table s g)
        by true e =
            let b : table_size (chosen s 0 g.unique (first g.table (g.table + 4 + u16_at s (g.table + 2)))) ≤ 16777216 = leb-true (table_size (chosen s 0 g.unique (first g.table (g.table + 4 + u16_at s (g.table + 2))))) 16777216 e in
            let a : n ≡ table_size (chosen s 0 g.unique (first g.table (g.table + 4 + u16_at s (g.table + 2)))) = is.right b in
            absurd (omega arith)
        by false e =
            let a : 16777216 < table_size (chosen s 0 g.unique (first g.table (g.table + 4 + u16_at s (g.table + 2)))) = leb-false (table_size (chosen s 0 g.unique (first g.table (g.table + 4 + u16_at s (g.table + 2))))) 16777216 e in
            subst (λ (k : ℕ). 16777216 < k) (size_are s u g bytes ok some) a

    pub stream_large : 16777216 < length (compacted_of s g)
    stream_large = by (leb (length (compacted_of s g)) 16777216) refl
      where
        by : (b : Bool) → leb (length (compacted_of s g)) 16777216 ≡ b → 16777216 < length (compacted_of s g)
        by true e =
            let l = leb-true (length (compacted_of s g)) 16777216 e in
            let d : length (new_table s g) ≤ length (compacted_of s g) = standing_long (compacted_of s g) (new_table s g) (place_of s (new_table s g) g.table) ((compacted s (new_table s g) u g few ok (new_table_lem s u g bytes ok) l).stands some) in
            let t = table_large in
            absurd (omega arith)
        by false e = leb-false (length (compacted_of s g)) 16777216 e

  -- ---- a plan
  pub prepared : (t : Plan) (top : ℕ) → used_of 0 t.texts ≡ chosen s 0 g.unique (first g.table (g.table + 4 + u16_at s (g.table + 2))) → t.total ≡ length (texts_in s (entries_of s)) → t.size ≤ 16777216 → top ≡ top_in (texts_in s (entries_of s)) 0 → Prepared s g t top
  prepared t top same total small is = record {
    passed = record { bytes = bytes; lent = u; few = few; ok = ok };
    some = some;
    table = ap (table_bytes t.total) same ∙ bytes_are s u g bytes ok some t.total total;
    size = t.sized ∙ ap table_size same ∙ size_are s u g bytes ok some;
    small = small;
    below = all_below s (entries_of s) 0 top (omega arith);
    high = let a = top_low s bytes (entries_of s) 0 (omega arith) in omega arith;
  }

-- the count of a table that is small enough is its size
pub counted_size : (ts : List Text) (n : ℕ) → Counted ts n → n ≤ 16777216 → n ≡ table_size ts
counted_size ts n counted small = by (leb (table_size ts) 16777216) refl
  where
    by : (b : Bool) → leb (table_size ts) 16777216 ≡ b → n ≡ table_size ts
    by true e = counted.right (leb-true _ _ e)
    by false e = let a = counted.over (leb-false _ _ e) in absurd (omega arith)

-- ---- as the functions cite it
module _ (s : List ℕ) (g : Globals) (x : Tabled s g) where
  pub with_low : g.table + 4 + u16_at s (g.table + 2) ≤ length s
  with_low = table_low s x.passed.lent g x.passed.bytes x.passed.ok x.some

  pub with_short : length s ≤ 16777216
  with_short = (passing s x.passed.lent g x.passed.ok).short

  pub with_head : g.table + 12 < 18446744073709551616
  with_head = let a = old_inside s x.passed.lent g x.passed.bytes x.passed.ok x.some in let b = with_short in omega arith

  pub with_few : (n : ℕ) → n ≡ g.unique → n < 4294967296
  with_few n e = let a = num_below s x.passed.bytes 4 4 (g.table + 8) (omega arith) in let b = unique_is s x.passed.lent g x.passed.bytes x.passed.ok x.some in omega arith

  pub with_total : (n : ℕ) → n ≡ length (texts_in s (entries_of s)) → n < 4294967296
  with_total n e = let a = texts_few s in let b = with_short in omega arith

  pub with_count : (n u : ℕ) → u ≡ g.unique → n ≡ used_below (texts_in s (entries_of s)) u → n < 4294967296
  with_count n u e f = let a = used_low (texts_in s (entries_of s)) u in let b = with_few u e in omega arith

  module _ (e n : ℕ) (to : e ≡ g.table + 4 + u16_at s (g.table + 2)) (unique : n ≡ g.unique) where
    pub with_inside : Inside s (first g.table e)
    with_inside = subst (λ (k : ℕ). Inside s (first g.table k)) (sym to) (old_inside s x.passed.lent g x.passed.bytes x.passed.ok x.some)

    pub with_passes : Passes (strings s n (first g.table e))
    with_passes = subst (λ (k : ℕ). Passes (strings s k (first g.table e))) (sym unique) (subst (λ (k : ℕ). Passes (strings s g.unique (first g.table k))) (sym to) (old_passes s x.passed.lent g x.passed.bytes x.passed.ok x.some))

    module _ (m : ℕ) (is : Counted (chosen s 0 n (first g.table e)) m) where
      counted_old : Counted (chosen s 0 g.unique (first g.table (g.table + 4 + u16_at s (g.table + 2)))) m
      counted_old = subst (λ (k : ℕ). Counted (chosen s 0 k (first g.table (g.table + 4 + u16_at s (g.table + 2)))) m) unique (subst (λ (k : ℕ). Counted (chosen s 0 n (first g.table k)) m) to is)

      pub with_large : (b : List ℕ) → 16777216 < m → refuse 1 0 ≡ answer_to (compacted_of s g) b
      with_large b h = answer_large (compacted_of s g) b (length (compacted_of s g)) refl (stream_large s x.passed.lent g x.passed.few x.passed.bytes x.passed.ok x.some m h counted_old)

      pub with_large_buffer : (b : List ℕ) → 16777216 < m → b ≡ buffer_to (compacted_of s g) b
      with_large_buffer b h = buffer_large (compacted_of s g) b (length (compacted_of s g)) refl (stream_large s x.passed.lent g x.passed.few x.passed.bytes x.passed.ok x.some m h counted_old)

    chosen_old : chosen s 0 n (first g.table e) ≡ chosen s 0 g.unique (first g.table (g.table + 4 + u16_at s (g.table + 2)))
    chosen_old = λ i. chosen s 0 (unique i) (first g.table (to i))

    pub with_counted : (count : ℕ) → count ≡ used_below (texts_in s (entries_of s)) n → count ≡ length (chosen s 0 n (first g.table e))
    with_counted count h = count_are s x.passed.lent g x.passed.bytes x.passed.ok x.some count (h ∙ ap (used_below (texts_in s (entries_of s))) unique) ∙ ap length (sym chosen_old)

    pub with_plan : (t : Plan) (top : ℕ) → used_of 0 t.texts ≡ chosen s 0 n (first g.table e) → t.total ≡ length (texts_in s (entries_of s)) → t.size ≤ 16777216 → top ≡ top_in (texts_in s (entries_of s)) 0 → Prepared s g t top
    with_plan t top same total small is = prepared s x.passed.lent g x.passed.few x.passed.bytes x.passed.ok x.some t top (same ∙ chosen_old) total small is

pub ruleset with_laws = (with_low, with_short, with_head, with_few, with_total, with_count, with_inside, with_passes, with_large, with_large_buffer, with_counted, counted_size, with_plan)

-- ---- the check's answer
module _ (s : List ℕ) (u : ℕ) (b : List ℕ) (x : Checked) (is : x ≡ checked_of s u) where
  pub wrong_answer : (r : Refusal) → x ≡ Err r → Err r ≡ answer_of s u b
  unfolding answer_of
  wrong_answer r h = ap (on_checked (λ n o. refuse n o) (λ _. answer_to (compact_of s u) b)) (sym h ∙ is)

  pub wrong_buffer : (r : Refusal) → x ≡ Err r → b ≡ buffer_after s u b
  unfolding buffer_after
  wrong_buffer r h = ap (on_checked (λ n o. b) (λ _. buffer_to (compact_of s u) b)) (sym h ∙ is)

  module _ (g : Globals) (h : x ≡ Right g) where
    stream_is : compacted_of s g ≡ compact_of s u
    stream_is = sym (new_is s u g (sym is ∙ h))

    pub right_answer : (r : Result ℕ Refusal) → r ≡ answer_to (compacted_of s g) b → r ≡ answer_of s u b
    unfolding answer_of
    right_answer r e = e ∙ ap (λ (t : List ℕ). answer_to t b) stream_is ∙ ap (on_checked (λ n o. refuse n o) (λ _. answer_to (compact_of s u) b)) (sym h ∙ is)

    pub right_buffer : (b' : List ℕ) → b' ≡ buffer_to (compacted_of s g) b → b' ≡ buffer_after s u b
    unfolding buffer_after
    right_buffer b' e = e ∙ ap (λ (t : List ℕ). buffer_to t b) stream_is ∙ ap (on_checked (λ n o. b) (λ _. buffer_to (compact_of s u) b)) (sym h ∙ is)

pub right_is : (s : List ℕ) (u : ℕ) (x : Checked) (g : Globals) → x ≡ checked_of s u → x ≡ Right g → checked_of s u ≡ Right g
right_is s u x g is h = sym is ∙ h

pub ruleset check_laws = (wrong_answer, wrong_buffer, right_answer, right_buffer)
