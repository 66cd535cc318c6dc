-- The laws that the functions' proofs cite, with their premises as the calls give them; and what a checked table is. Assumes nothing.
use Prim.Native.Nat.{ℕ, zero, suc, ◌+◌, ◌-◌, ◌*◌, ◌≤◌, ◌<◌}
use mathlib.Core.Path.{◌≡◌, refl, sym, ap, ◌∙◌, subst, subst⁻¹}
use mathlib.Core.List.{List, ◌∷◌, ◌++◌}
use mathlib.Core.Bool.{true, false}
use Rattle.std.specs.Prelude.{Result, Ok, Err, IsOk}
use native.Mathlib.Omega.{arith}
use native.Mathlib.Nat.{zero-add, div-one}
use lib.ListN.{length, get_or, drop}
use lib.Seq.{sets, sets-eq}
use lib.Dec.{eqb}
use borrow.Author.Tests.{eqb-false}
use Rattle.steps.proofs.Choice.{pick_by, pick_ne, pick_lt, pick_nlt}
use Rattle.byte_numbers.specs.Bytes.{byte_at, u16_at, u32_at}
use Rattle.refusal.specs.declared.Refusal.{Refusal}
use Rattle.refusal.specs.Refused.{refuse}
use Rattle.segments.specs.declared.Cursor.{Cursor}
use Rattle.segments.specs.Segments.{Got, got, refused, then, push, list_of, on, filled, need, width_of, items}
use Rattle.segments.specs.Parts.{Inside, ends, moved, Passes, stored}
use Rattle.segments.proofs.Local.{Within, within_from}
use Rattle.segments.proofs.Laws.{moved_got, ends_then, ends_inside, items_inside, ends_push, skip_all, Count, count_items}
use Rattle.strings.specs.declared.Head.{Head}
use Rattle.strings.specs.declared.HeadRead.{HeadRead}
use Rattle.strings.specs.declared.Table.{Table}
use Rattle.strings.specs.Table.{phonetic_bit, rich_bit, head_size, runs_at, phonetic_at, head_at, start_size, head, rest, string_at, units_at, next_place, strings, first, table_of, places_of, nowhere, place_of, answer_of, fetched_of, buffer_of}
use Rattle.strings.specs.Parts.{head_read, next_string, Plain}
use Rattle.strings.proofs.Local.{start_size_low, reads_head, reads_string, reads_place, reads_strings, Right, right}

-- ---- a string's head
pub head_within : (s : List ℕ) (d : Cursor) (r : ℕ) → Inside s d → r ≡ start_size s d.at → r ≤ d.end - d.at → 3 ≤ d.end - d.at → d.at + head_size (byte_at s (d.at + 2)) ≤ length s
head_within s d r inside is h l = let i = start_size_low s d.at in omega arith

-- ---- what is read of one stream, which has the same bytes as itself
module _ (s : List ℕ) where
  within_head : (d : Cursor) → Inside s d → Within s d (head s d)
  within_head d inside = (reads_head s s refl 0 0 (λ k i j. refl) d inside (omega arith)).within

  within_string : (d : Cursor) → Inside s d → Within s d (string_at s d)
  within_string d inside = (reads_string s s refl 0 0 (λ k i j. refl) d inside (omega arith)).within

  within_place : (c : Cursor) → Inside s c → Within s c (next_place s c)
  within_place c inside = (reads_place s s refl 0 0 (λ k i j. refl) c inside (omega arith)).within

  within_strings : (n : ℕ) (c : Cursor) → Inside s c → Within s c (strings s n c)
  within_strings n c inside = (reads_strings s s refl 0 0 (λ k i j. refl) n c inside (omega arith)).within

  abbrev Width : Got Head → Type 0
  Width (got h c) = (1 ≤ h.width) × (h.width ≤ 2)
  Width (refused n o) = Unit {0}

  width : (d : Cursor) → Width (head s d)
  unfolding head head_at
  width d = go (need 8 3 d)
    where
      whole : (x : Got ℕ) → Width (then x (λ _ e. got (head_at s e.at) (on e (head_size (byte_at s (e.at + 2))))))
      whole (got v e) = (omega arith, omega arith)
      whole (refused n o) = tt

      go : (x : Got ℕ) → Width (then x (λ _ c. then (need 8 (start_size s c.at) c) (λ _ e. got (head_at s e.at) (on e (head_size (byte_at s (e.at + 2)))))))
      go (got v c) = whole (need 8 (start_size s c.at) c)
      go (refused n o) = tt

  module _ (d : Cursor) (y : HeadRead) (r : Result HeadRead Refusal) (is : head_read r ≡ head s d) (q : r ≡ Ok y) where
    head_is : head s d ≡ got y.head y.chars
    head_is = sym is ∙ ap head_read q

    pub head_inside : Inside s d → Inside s y.chars
    head_inside inside = let w : Within s d (got y.head y.chars) = subst (Within s d) head_is (within_head d inside) in w.0

    pub head_some : 1 ≤ y.head.width
    head_some = let w : Width (got y.head y.chars) = subst Width head_is (width d) in w.0

    pub head_small : y.head.width ≤ 2
    head_small = let w : Width (got y.head y.chars) = subst Width head_is (width d) in w.1

  pub place_inside : (c d : Cursor) (m : Result Cursor Refusal) → moved m ≡ next_place s c → m ≡ Ok d → Inside s c → Inside s d
  place_inside c d m p q inside = let e : next_place s c ≡ got tt d = sym p ∙ ap moved q in (subst (Within s c) e (within_place c inside)).0

  within_next : (c : Cursor) → Inside s c → Within s c (next_string s c)
  unfolding next_string
  within_next c inside = go (next_place s c) (within_place c inside)
    where
      go : (x : Got Unit) → Within s c x → Within s c (then x (λ _ d. string_at s d))
      go (got u d) w = within_from s c d (string_at s d) w.1 w.2 (within_string d w.0)
      go (refused n o) w = tt

  pub next_inside : (c d : Cursor) (m : Result Cursor Refusal) → moved m ≡ ends (next_string s c) → m ≡ Ok d → Inside s c → Inside s d
  next_inside c d m p q inside = ends_inside s c d (next_string s c) m (within_next c inside) p q

  pub strings_inside : (n : ℕ) (c d : Cursor) (m : Result Cursor Refusal) → moved m ≡ ends (strings s n c) → m ≡ Ok d → Inside s c → Inside s d
  strings_inside n c d m p q inside = ends_inside s c d (strings s n c) m (within_strings n c inside) p q

pub ruleset inside_laws = (items_inside, head_inside, head_some, head_small, place_inside, next_inside, strings_inside)

-- ---- past a string, part by part
module _ (s : List ℕ) where
  pub rest_ends : (h : Head) (c : Cursor) → ends (rest s h c) ≡ then (ends (items 8 s false 4 h.runs c)) (λ _ d. ends (items 8 s false 1 h.phonetic d))
  unfolding rest
  rest_ends h c = ends_then (items 8 s false 4 h.runs c) (λ d. items 8 s false 1 h.phonetic d)

  chars_ends : (h : Head) (x : Got (List ℕ)) → ends (then x (λ us e. then (rest s h e) (λ _ i. got us i))) ≡ then (ends x) (λ _ e. ends (rest s h e))
  chars_ends h (got us e) = by (rest s h e)
    where
      by : (y : Got (List ℕ)) → ends (then y (λ _ i. got us i)) ≡ ends y
      by (got l i) = refl
      by (refused n o) = refl
  chars_ends h (refused n o) = refl

  pub string_ends : (d : Cursor) → ends (string_at s d) ≡ then (head s d) (λ h c. then (ends (items 8 s true h.width h.chars c)) (λ _ e. ends (rest s h e)))
  unfolding string_at
  string_ends d = by (head s d)
    where
      by : (x : Got Head) → ends (then x (λ h c. then (items 8 s true h.width h.chars c) (λ us e. then (rest s h e) (λ _ i. got us i)))) ≡ then x (λ h c. then (ends (items 8 s true h.width h.chars c)) (λ _ e. ends (rest s h e)))
      by (got h c) = chars_ends h (items 8 s true h.width h.chars c)
      by (refused n o) = refl

  pub next_ends : (c : Cursor) → ends (next_string s c) ≡ then (next_place s c) (λ _ d. ends (string_at s d))
  unfolding next_string
  next_ends c = by (next_place s c)
    where
      by : (x : Got Unit) → ends (then x (λ _ d. string_at s d)) ≡ then x (λ _ d. ends (string_at s d))
      by (got u d) = refl
      by (refused n o) = refl

-- ---- a plain string
abbrev plain_head : ℕ → Head
plain_head n = record { chars = n; width = 1; runs = 0; phonetic = 0 }

module _ (s : List ℕ) (c : Cursor) (n : ℕ) (flags_narrow : width_of (byte_at s (c.at + 2)) ≡ 1) (flags_rich : rich_bit (byte_at s (c.at + 2)) ≡ 0) (flags_phonetic : phonetic_bit (byte_at s (c.at + 2)) ≡ 0)
    (chars-is : n ≡ u16_at s c.at) (fits : 3 + n ≤ c.end - c.at) where
  head_three : head_size (byte_at s (c.at + 2)) ≡ 3
  head_three = let a = flags_rich in let b = flags_phonetic in omega arith

  start_low : start_size s c.at ≤ 3 + n
  unfolding start_size
  start_low =
      pick_by (λ (k : ℕ). k ≤ 3 + n) (eqb (u16_at s c.at) 0)
      (λ _. let a = head_three in omega arith)
      (λ e. let a = head_three in let b = flags_narrow in let o = eqb-false (u16_at s c.at) 0 e in some (u16_at s c.at) chars-is o (omega arith))
    where
      some : (m : ℕ) → n ≡ m → (m ≡ 0 → ⊥) → head_size (byte_at s (c.at + 2)) + width_of (byte_at s (c.at + 2)) ≡ 4 → head_size (byte_at s (c.at + 2)) + width_of (byte_at s (c.at + 2)) ≤ 3 + n
      some m i o j = omega arith

  head_plain : head s c ≡ got (plain_head n) (on c 3)
  unfolding head need head_at runs_at phonetic_at
  head_plain =
      sym (ap (λ (x : Got ℕ). then x (λ _ d. then (need 8 (start_size s d.at) d) (λ _ e. got (head_at s e.at) (on e (head_size (byte_at s (e.at + 2))))))) (pick_nlt (got 3 c) _ _ (c.end - c.at) 3 (omega arith) refl))
      ∙ sym (ap (λ (x : Got ℕ). then x (λ _ e. got (head_at s e.at) (on e (head_size (byte_at s (e.at + 2)))))) (pick_nlt (got (start_size s c.at) c) _ _ (c.end - c.at) (start_size s c.at) (let l = start_low in omega arith) refl))
      ∙ (let a = sym (pick_ne 0 (u16_at s (c.at + 3)) 0 (rich_bit (byte_at s (c.at + 2))) 1 (λ e. let r = flags_rich in omega arith) refl) in
      let b = sym (pick_ne 0 (u32_at s (c.at + 3 + 2 * rich_bit (byte_at s (c.at + 2)))) 0 (phonetic_bit (byte_at s (c.at + 2))) 1 (λ e. let p = flags_phonetic in omega arith) refl) in
      let m = sym chars-is in
      λ i. got (record { chars = m i; width = flags_narrow i; runs = a i; phonetic = b i }) (on c (head_three i)))

  place_plain : next_place s c ≡ got tt c
  unfolding next_place
  place_plain = sym (pick_ne (got tt c) _ _ c.at c.end (λ e. omega arith) refl)

  rest_plain : (e : Cursor) → ends (rest s (plain_head n) e) ≡ got tt e
  unfolding rest items
  rest_plain e = refl

  pub plain_there : Plain s c (3 + n)
  plain_there = record {
    within = omega arith;
    next =
        let last = on (on c 3) (n * 1) in
        let end-is : on c (3 + n) ≡ last = (let k : c.at + (3 + n) ≡ c.at + 3 + n * 1 = omega arith in λ i. record { seg = c.seg; at = k i; end = c.end }) in
        ap (got tt) end-is
        ∙ sym (next_ends s c ∙ ap (λ (x : Got Unit). then x (λ _ d. ends (string_at s d))) place_plain
        ∙ string_ends s c ∙ ap (λ (x : Got Head). then x (λ h d. then (ends (items 8 s true h.width h.chars d)) (λ _ e. ends (rest s h e)))) head_plain
        ∙ ap (λ (x : Got Unit). then x (λ _ e. ends (rest s (plain_head n) e))) (sym (skip_all s 1 n (on c 3) (c.end - (c.at + 3)) (sym (div-one (c.end - (c.at + 3)))) (omega arith) 8 true (omega arith)))
        ∙ rest_plain last);
  }

-- ---- past n strings
strings_next : (s : List ℕ) (n : ℕ) (c : Cursor) → ends (strings s (suc n) c) ≡ ends (then (next_string s c) (λ _ e. strings s n e))
unfolding strings next_string
strings_next s n c = at_place (next_place s c)
  where
    at_string : (d : Cursor) (x : Got (List ℕ)) → ends (then x (λ _ e. push d (strings s n e))) ≡ ends (then x (λ _ e. strings s n e))
    at_string d (got us e) = ends_push d (strings s n e)
    at_string d (refused a b) = refl

    at_place : (x : Got Unit) → ends (then x (λ _ d. then (string_at s d) (λ _ e. push d (strings s n e)))) ≡ ends (then (then x (λ _ d. string_at s d)) (λ _ e. strings s n e))
    at_place (got u d) = at_string d (string_at s d)
    at_place (refused a b) = refl

pub strings_none : (s : List ℕ) (n i : ℕ) (c : Cursor) → n ≤ i → ends (strings s (n - i) c) ≡ got tt c
unfolding strings
strings_none s n i c h = let e : n - i ≡ 0 = omega arith in ap (λ (m : ℕ). ends (strings s m c)) e

pub strings_left : (s : List ℕ) (n i : ℕ) (c : Cursor) → i < n → ends (strings s (n - i) c) ≡ then (ends (next_string s c)) (λ _ e. ends (strings s (n - (i + 1)) e))
strings_left s n i c h =
    let e : n - i ≡ suc (n - (i + 1)) = omega arith in
    ap (λ (m : ℕ). ends (strings s m c)) e ∙ strings_next s (n - (i + 1)) c ∙ ends_then (next_string s c) (λ d. strings s (n - (i + 1)) d)

-- ---- string i stands at d: it is come to after i strings from c on
pub record Stands (s : List ℕ) (i : ℕ) (c d : Cursor) : Type 0 where
  pub from : Cursor
  pub before : ends (strings s i c) ≡ got tt from
  pub here : next_place s from ≡ got tt d
  pub passes : Passes (string_at s d)

module _ (s : List ℕ) (c d e : Cursor) (us : List ℕ) (h : next_place s c ≡ got tt d) (q : string_at s d ≡ got us e) where
  stands_first : Stands s 0 c d
  unfolding strings
  stands_first = record { from = c; before = refl; here = h; passes = subst⁻¹ Passes q tt }

  stands_next : (i : ℕ) (g : Cursor) → Stands s i e g → Stands s (suc i) c g
  unfolding next_string
  stands_next i g k = record {
    from = k.from;
    before = strings_next s i c ∙ ap (λ (x : Got Unit). ends (then (then x (λ _ d. string_at s d)) (λ _ e. strings s i e))) h ∙ ap (λ (x : Got (List ℕ)). ends (then x (λ _ e. strings s i e))) q ∙ k.before;
    here = k.here;
    passes = k.passes;
  }

-- n strings, and the place of each
abbrev Listed : List ℕ → ℕ → Cursor → Got (List Cursor) → Type 0
Listed s n c (got l d) = (length l ≡ n) × ((i : ℕ) → i < n → Stands s i c (get_or l i nowhere))
Listed s n c (refused a b) = Unit {0}

listed_push : (s : List ℕ) (n : ℕ) (c d e : Cursor) (us : List ℕ) → next_place s c ≡ got tt d → string_at s d ≡ got us e → (x : Got (List Cursor)) → Listed s n e x → Listed s (suc n) c (push d x)
listed_push s n c d e us h q (got l g) k = (ap suc k.0, go)
  where
    go : (i : ℕ) → i < suc n → Stands s i c (get_or (d ∷ l) i nowhere)
    go zero m = stands_first s c d e us h q
    go (suc i) m = stands_next s c d e us h q i (get_or l i nowhere) (k.1 i (omega arith))
listed_push s n c d e us h q (refused a b) k = tt

listed : (s : List ℕ) (n : ℕ) (c : Cursor) → Listed s n c (strings s n c)
unfolding strings
listed s zero c = (refl, λ i k. absurd (omega arith))
listed s (suc n) c = at_place (λ e. listed s n e) (next_place s c) refl
  where
    at_string : ((e : Cursor) → Listed s n e (strings s n e)) → (d : Cursor) → next_place s c ≡ got tt d → (x : Got (List ℕ)) → string_at s d ≡ x → Listed s (suc n) c (then x (λ _ e. push d (strings s n e)))
    at_string ih d h (got us e) q = listed_push s n c d e us h q (strings s n e) (ih e)
    at_string ih d h (refused a b) q = tt

    at_place : ((e : Cursor) → Listed s n e (strings s n e)) → (x : Got Unit) → next_place s c ≡ x → Listed s (suc n) c (then x (λ _ d. then (string_at s d) (λ _ e. push d (strings s n e))))
    at_place ih (got u d) h = at_string ih d h (string_at s d) refl
    at_place ih (refused a b) h = tt

pub strings_count : (s : List ℕ) (n : ℕ) (c : Cursor) (l : List Cursor) (d : Cursor) → strings s n c ≡ got l d → length l ≡ n
strings_count s n c l d h = let k : Listed s n c (got l d) = subst (Listed s n c) h (listed s n c) in k.0

-- ---- the check of a table goes by where its strings end
abbrev pub answer_by : ℕ → Got Unit → Result Table Refusal
answer_by n (got u d) = Ok (record { strings = n; end = d.end })
answer_by n (refused k o) = refuse k o

pub table_answer : (s : List ℕ) (p e : ℕ) → 8 ≤ e - (p + 4)
    → answer_of (table_of s p e) ≡ answer_by (u32_at s (p + 8)) (then (ends (strings s (u32_at s (p + 8)) (first p e))) (λ _ c. filled 8 s c))
unfolding table_of
table_answer s p e h = ap answer_of (sym (pick_nlt _ _ _ _ _ h refl)) ∙ at_strings (strings s n (first p e)) (listed s n (first p e))
  where
    n : ℕ
    n = u32_at s (p + 8)

    at_filled : (l : List Cursor) → length l ≡ n → (x : Got Unit) → answer_of (then x (λ _ d. got l d)) ≡ answer_by n x
    at_filled l h (got u d) = ap (λ (k : ℕ). Ok (record { strings = k; end = d.end })) h
    at_filled l h (refused k o) = refl

    at_strings : (x : Got (List Cursor)) → Listed s n (first p e) x → answer_of (then x (λ l c. then (filled 8 s c) (λ _ d. got l d))) ≡ answer_by n (then (ends x) (λ _ c. filled 8 s c))
    at_strings (got l c) k = at_filled l k.0 (filled 8 s c)
    at_strings (refused k o) _ = refl

pub table_short : (s : List ℕ) (p e : ℕ) → e - (p + 4) < 8 → answer_of (table_of s p e) ≡ refuse 8 p
unfolding table_of
table_short s p e h = ap answer_of (sym (pick_lt (refused 8 p) (refused 8 p) _ _ _ h refl))

-- ---- a table that is not refused
pub record Accepted (s : List ℕ) (p e : ℕ) : Type 0 where
  pub after : Cursor
  pub is : table_of s p e ≡ got (places_of s p e) after

accepted_by : (s : List ℕ) (p e : ℕ) (l : List Cursor) (c : Cursor) → table_of s p e ≡ got l c → Accepted s p e
accepted_by s p e l c q = record { after = c; is = q ∙ ap (λ (x : Got (List Cursor)). got (list_of x) c) (sym q) }

-- since it was checked: t is what the check gave
module _ (s : List ℕ) (p e : ℕ) (t : Table) (is : Ok t ≡ answer_of (table_of s p e)) where
  pub accepted : Accepted s p e
  accepted = go (table_of s p e) refl is
    where
      go : (x : Got (List Cursor)) → table_of s p e ≡ x → Ok t ≡ answer_of x → Accepted s p e
      go (got l c) h k = accepted_by s p e l c h
      go (refused a b) h k = cc

  answer_is : record { strings = length (places_of s p e); end = accepted.after.end } ≡ t
  answer_is = let h : Ok (record { strings = length (places_of s p e); end = accepted.after.end }) ≡ Ok t = ap answer_of (sym accepted.is) ∙ sym is in cc

  pub checked_count : length (places_of s p e) ≡ t.strings
  checked_count = ap (λ (z : Table). z.strings) answer_is

  pub checked_end : accepted.after.end ≡ t.end
  checked_end = ap (λ (z : Table). z.end) answer_is

  module _ (low : p + 4 ≤ e) (within : e ≤ length s) where
    checked_reach : Within s (first p e) (got (places_of s p e) accepted.after)
    checked_reach =
        let k = right s p e (places_of s p e) accepted.after accepted.is in
        let l = k.long in
        subst (Within s (first p e)) k.read (within_strings s (u32_at s (p + 8)) (first p e) (omega arith, omega arith))

    pub checked_low : e ≤ t.end
    checked_low = let z = checked_end in let w = checked_reach.2 in omega arith

    pub checked_within : t.end ≤ length s
    checked_within = let z = checked_end in let w = checked_reach.0.1 in omega arith

-- since it has a string i
accepted_string : (s : List ℕ) (p e i : ℕ) → i < length (places_of s p e) → Accepted s p e
accepted_string s p e i h = go (table_of s p e) refl h
  where
    go : (x : Got (List Cursor)) → table_of s p e ≡ x → i < length (list_of x) → Accepted s p e
    go (got l c) q h = accepted_by s p e l c q
    go (refused a b) q h = absurd (omega arith)

module _ (s : List ℕ) (p e i : ℕ) (h : i < length (places_of s p e)) where
  table : Accepted s p e
  table = accepted_string s p e i h

  table_right : Right s p e (places_of s p e) table.after
  table_right = right s p e (places_of s p e) table.after table.is

  pub stands : Stands s i (first p e) (place_of s p e i)
  stands =
      let l : Listed s (u32_at s (p + 8)) (first p e) (got (places_of s p e) table.after) = subst (Listed s (u32_at s (p + 8)) (first p e)) table_right.read (listed s (u32_at s (p + 8)) (first p e)) in
      l.1 i (omega (arith, l.0))

  module _ (low : p + 4 ≤ e) (within : e ≤ length s) where
    pub first_inside : Inside s (first p e)
    first_inside = let k = table_right.long in (omega arith, omega arith)

    module _ (m : Result Cursor Refusal) (is : moved m ≡ ends (strings s i (first p e))) where
      skipped : m ≡ Ok stands.from
      skipped = moved_got m stands.from (is ∙ stands.before)

      pub skipped_ok : IsOk m
      skipped_ok = rw skipped refl

      module _ (c : Cursor) (q : m ≡ Ok c) where
        pub skipped_inside : Inside s c
        skipped_inside = strings_inside s i (first p e) c m is q first_inside

        module _ (r : Result Cursor Refusal) (o : moved r ≡ next_place s c) where
          place_is : r ≡ Ok (place_of s p e i)
          place_is =
              let z : Ok c ≡ Ok stands.from = sym q ∙ skipped in
              let y : ◌≡◌ {A = Cursor} c stands.from = cc in
              moved_got r (place_of s p e i) (o ∙ ap (next_place s) y ∙ stands.here)

          pub placed_ok : IsOk r
          placed_ok = rw place_is refl

          pub placed : (d : Cursor) → r ≡ Ok d → d ≡ place_of s p e i
          placed d t = let z : Ok d ≡ Ok (place_of s p e i) = sym t ∙ place_is in cc

    module _ (d : Cursor) (is : d ≡ place_of s p e i) where
      pub placed_passes : Passes (string_at s d)
      placed_passes = subst⁻¹ (λ (z : Cursor). Passes (string_at s z)) is stands.passes

      pub placed_inside : Inside s d
      placed_inside =
          let f : Inside s stands.from = strings_inside s i (first p e) stands.from (Ok stands.from) (sym stands.before) refl first_inside in
          subst⁻¹ (Inside s) is (place_inside s stands.from (place_of s p e i) (Ok (place_of s p e i)) (sym stands.here) refl f)

pub ruleset place_laws = (first_inside, skipped_ok, skipped_inside, placed_ok, placed, placed_passes, placed_inside)

-- ---- a fetch
-- h is the head of a string of these units, and c where its characters are
pub record Chars (s : List ℕ) (h : Head) (c : Cursor) (us : List ℕ) : Type 0 where
  pub passes : Passes (items 8 s true h.width h.chars c)
  pub are : list_of (items 8 s true h.width h.chars c) ≡ us
  pub count : length us ≡ h.chars

chars_by : (s : List ℕ) (h : Head) (c : Cursor) (x : Got (List ℕ)) → items 8 s true h.width h.chars c ≡ x → Count h.chars x
    → Passes (then x (λ us e. then (rest s h e) (λ _ i. got us i))) → Chars s h c (list_of (then x (λ us e. then (rest s h e) (λ _ i. got us i))))
chars_by s h c (got vs g) q n = go (rest s h g)
  where
    go : (y : Got (List ℕ)) → Passes (then y (λ _ i. got vs i)) → Chars s h c (list_of (then y (λ _ i. got vs i)))
    go (got ws i) z = record { passes = subst⁻¹ Passes q tt; are = ap list_of q; count = n }
    go (refused a b) z = absurd z
chars_by s h c (refused a b) q n = λ z. absurd z

module _ (s : List ℕ) (d : Cursor) (passes : Passes (string_at s d)) (r : Result HeadRead Refusal) (is : head_read r ≡ head s d) where
  pub fetch_ok : IsOk r
  unfolding string_at
  fetch_ok = by r is
    where
      by : (x : Result HeadRead Refusal) → head_read x ≡ head s d → IsOk x
      by (Ok y) q = refl
      by (Err f) q = absurd (subst (λ (x : Got Head). Passes (then x (λ h c. then (items 8 s true h.width h.chars c) (λ us e. then (rest s h e) (λ _ i. got us i))))) (sym q) passes)

  module _ (y : HeadRead) (q : r ≡ Ok y) where
    abbrev h : Head
    h = y.head

    abbrev c : Cursor
    c = y.chars

    string_is : string_at s d ≡ then (items 8 s true h.width h.chars c) (λ us e. then (rest s h e) (λ _ i. got us i))
    unfolding string_at
    string_is = ap (λ (x : Got Head). then x (λ h c. then (items 8 s true h.width h.chars c) (λ us e. then (rest s h e) (λ _ i. got us i)))) (sym is ∙ ap head_read q)

    pub chars : Chars s h c (units_at s d)
    chars =
        subst⁻¹ (λ (x : Got (List ℕ)). Chars s h c (list_of x)) string_is
        (chars_by s h c (items 8 s true h.width h.chars c) refl (count_items 8 s true h.width h.chars c) (subst Passes string_is passes))

    pub fetch_passes : Passes (items 8 s true h.width h.chars c)
    fetch_passes = chars.passes

    pub fetch_short : (n : ℕ) → n < h.chars → refuse 12 0 ≡ fetched_of n (units_at s d)
    unfolding fetched_of
    fetch_short n l = let k : n < length (units_at s d) = omega (arith, chars.count) in pick_lt (refuse 12 0) (refuse 12 0) _ _ _ k refl

    pub fetch_units : (n : ℕ) → h.chars ≤ n → Ok h.chars ≡ fetched_of n (units_at s d)
    unfolding fetched_of
    fetch_units n l = let k : length (units_at s d) ≤ n = omega (arith, chars.count) in pick_nlt (Ok h.chars) _ (Ok (length (units_at s d))) _ _ k (ap Ok (sym chars.count))

    pub buffer_short : (b : List ℕ) → length b < h.chars → b ≡ buffer_of b (units_at s d)
    unfolding buffer_of
    buffer_short b l = let k : length b < length (units_at s d) = omega (arith, chars.count) in pick_lt b b _ _ _ k refl

    pub buffer_units : (b b' : List ℕ) → h.chars ≤ length b → b' ≡ stored b 0 (list_of (items 8 s true h.width h.chars c)) → b' ≡ buffer_of b (units_at s d)
    unfolding buffer_of stored
    buffer_units b b' l e =
        let k : length (units_at s d) ≤ length b = omega (arith, chars.count) in
        pick_nlt b' b _ _ _ k (e ∙ ap (sets b 0) chars.are ∙ sets-eq (units_at s d) b 0 (omega (arith, chars.count)) ∙ ap (λ (k : ℕ). units_at s d ++ drop k b) (zero-add (length (units_at s d))))

pub ruleset fetch_laws = (fetch_ok, fetch_passes, fetch_short, fetch_units, buffer_short, buffer_units)
