-- A table is read from its own bytes: a stream of the same length that has the same bytes there has the same strings, at the same places.
-- Assumes nothing.
use Prim.Native.Nat.{ℕ, zero, suc, ◌+◌, ◌-◌, ◌*◌, ◌≤◌}
use mathlib.Core.Path.{◌≡◌, refl, sym, ap, ap₂, ◌∙◌, subst}
use mathlib.Core.List.{List, [], ◌∷◌, map}
use mathlib.Core.Bool.{Bool, true, false}
use native.Mathlib.Omega.{arith}
use lib.ListN.{length, get_or, length-map, get_or-map}
use lib.Dec.{eqb}
use borrow.Author.Tests.{eqb-true, ltb-false}
use Rattle.steps.specs.Choice.{pick}
use Rattle.steps.proofs.Choice.{pick_same, pick_any, pick_by, pick_nlt}
use Rattle.byte_numbers.specs.Bytes.{byte_at, u32_at}
use Rattle.byte_numbers.proofs.Laws.{Same}
use Rattle.segments.specs.declared.Cursor.{Cursor}
use Rattle.segments.specs.Segments.{Got, got, refused, then, push, list_of, on, continues, filled, need, width_of, items}
use Rattle.segments.specs.Parts.{Inside}
use Rattle.segments.proofs.Local.{Within, Reads, reads_got, reads_from, reads_by, reads_pick, reads_push, reads_then, num_kept, filled_got, filled_is, need_is, reads_need, reads_next, reads_items}
use Rattle.strings.specs.declared.Head.{Head}
use Rattle.strings.specs.Table.{rich_bit, phonetic_bit, head_size, runs_at, phonetic_at, head_at, start_size, head, rest, string_at, units_at, next_place, strings, first, table_of, places_of, strings_of, nowhere, units_of}

pub start_size_low : (s : List ℕ) (p : ℕ) → head_size (byte_at s (p + 2)) ≤ start_size s p
unfolding start_size
start_size_low s p = pick_any (λ (k : ℕ). head_size (byte_at s (p + 2)) ≤ k) _ (omega arith) (omega arith)

-- ---- two streams of one length, with the same bytes from a up to b
module _ (s s' : List ℕ) (len : length s ≡ length s') (a b : ℕ) (same : Same s s' a b) where
  start_size_kept : (p : ℕ) → a ≤ p → p + 3 ≤ b → start_size s p ≡ start_size s' p
  unfolding start_size
  start_size_kept p l m =
      ap₂ (λ (u f : ℕ). pick (eqb u 0) (head_size f) (head_size f + width_of f)) (num_kept s s' a b same 2 p l (omega arith)) (same (p + 2) (omega arith) (omega arith))

  module _ (p : ℕ) (l : a ≤ p) (m : p + head_size (byte_at s (p + 2)) ≤ b) where
    flags_kept : byte_at s (p + 2) ≡ byte_at s' (p + 2)
    flags_kept = same (p + 2) (omega arith) (omega arith)

    runs_kept : runs_at s p (byte_at s (p + 2)) ≡ runs_at s' p (byte_at s (p + 2))
    unfolding runs_at
    runs_kept = pick_same _ _ _ _ _ (λ t. let r = eqb-true (rich_bit (byte_at s (p + 2))) 1 t in num_kept s s' a b same 2 (p + 3) (omega arith) (omega arith)) (λ t. refl)

    phonetic_kept : phonetic_at s p (byte_at s (p + 2)) ≡ phonetic_at s' p (byte_at s (p + 2))
    unfolding phonetic_at
    phonetic_kept = pick_same _ _ _ _ _ (λ t. let r = eqb-true (phonetic_bit (byte_at s (p + 2))) 1 t in num_kept s s' a b same 4 (p + 3 + 2 * rich_bit (byte_at s (p + 2))) (omega arith) (omega arith)) (λ t. refl)

    head_kept : head_at s p ≡ head_at s' p
    unfolding head_at
    head_kept =
        let u = num_kept s s' a b same 2 p l (omega arith) in
        let r = runs_kept ∙ ap (runs_at s' p) flags_kept in
        let x = phonetic_kept ∙ ap (phonetic_at s' p) flags_kept in
        λ i. record { chars = u i; width = width_of (flags_kept i); runs = r i; phonetic = x i }

  pub reads_head : (d : Cursor) → Inside s d → a ≤ d.at → Reads s b d (head s d) (head s' d)
  unfolding head
  reads_head d inside l =
      reads_then s b d _ _ _ _ (reads_need s b 8 3 d inside) (λ v c q i m.
      let h = need_is 8 3 d v c q in
      let n : 3 ≤ c.end - c.at = subst (λ (z : Cursor). 3 ≤ z.end - z.at) (sym h.same) h.here in
      reads_by s b c _ (then (need 8 (start_size s c.at) c) (λ _ e. got (head_at s' e.at) (on e (head_size (byte_at s' (e.at + 2)))))) _
      (reads_then s b c _ _ _ _ (reads_need s b 8 (start_size s c.at) c i) (λ u e r j o.
      let g = need_is 8 (start_size s c.at) c u e r in
      let k : start_size s e.at ≤ e.end - e.at = subst (λ (z : Cursor). start_size s z.at ≤ z.end - z.at) (sym g.same) g.here in
      let t = start_size_low s e.at in
      reads_by s b e _ (got (head_at s e.at) (on e (head_size (byte_at s (e.at + 2))))) _
      (reads_from s b e (on e (head_size (byte_at s (e.at + 2)))) _ _ (omega arith) (omega arith) (reads_got s b (on e (head_size (byte_at s (e.at + 2)))) _ (omega arith, omega arith)))
      (λ x. ap₂ (λ (z : Head) (f : ℕ). got z (on e (head_size f))) (head_kept e.at (omega arith) (omega arith)) (same (e.at + 2) (omega arith) (omega arith)))))
      (λ x. ap (λ (z : ℕ). then (need 8 z c) (λ _ e. got (head_at s' e.at) (on e (head_size (byte_at s' (e.at + 2)))))) (start_size_kept c.at (omega arith) (omega arith))))

  long : (e : ℕ) → e ≤ b → e ≤ length s → e ≤ length s'
  long e i j = omega arith

  reads_some : (f : Bool) (w n : ℕ) (c : Cursor) → Inside s c → a ≤ c.at → Reads s b c (items 8 s f w n c) (items 8 s' f w n c)
  reads_some f w n c inside l = reads_items s s' a b same long 8 f w n c inside l

  reads_rest : (h : Head) (c : Cursor) → Inside s c → a ≤ c.at → Reads s b c (rest s h c) (rest s' h c)
  unfolding rest
  reads_rest h c inside l = reads_then s b c _ _ _ _ (reads_some false 4 h.runs c inside l) (λ v d q i m. reads_some false 1 h.phonetic d i (omega arith))

  pub reads_string : (d : Cursor) → Inside s d → a ≤ d.at → Reads s b d (string_at s d) (string_at s' d)
  unfolding string_at
  reads_string d inside l =
      reads_then s b d _ _ _ _ (reads_head d inside l) (λ h c q i m.
      reads_then s b c _ _ _ _ (reads_some true h.width h.chars c i (omega arith)) (λ us e r j n.
      reads_then s b e _ _ _ _ (reads_rest h e j (omega arith)) (λ v g t k o. reads_got s b g us k)))

  pub reads_place : (c : Cursor) → Inside s c → a ≤ c.at → Reads s b c (next_place s c) (next_place s' c)
  unfolding next_place
  reads_place c inside l = reads_pick s b c _ _ _ _ _ (reads_next s s' a b same long 8 c inside l) (reads_got s b c tt inside)

  pub reads_strings : (n : ℕ) (c : Cursor) → Inside s c → a ≤ c.at → Reads s b c (strings s n c) (strings s' n c)
  unfolding strings
  reads_strings zero c inside l = reads_got s b c [] inside
  reads_strings (suc n) c inside l =
      reads_then s b c _ _ _ _ (reads_place c inside l) (λ u d q i m.
      reads_then s b d _ _ _ _ (reads_string d i (omega arith)) (λ us e r j o.
      reads_push s b e d _ _ (reads_strings n e j (omega arith))))

  -- the strings at these places have the same units
  abbrev Alike : Got (List Cursor) → Type 0
  Alike (got l e) = e.end ≤ b → map (units_at s) l ≡ map (units_at s') l
  Alike (refused n o) = Unit {0}

  alike_push : (d e : Cursor) (us : List ℕ) → string_at s d ≡ got us e → Reads s b d (string_at s d) (string_at s' d) → (x : Got (List Cursor)) → Within s e x → Alike x → Alike (push d x)
  alike_push d e us q r (got l g) w h =
      λ m. ap₂ (λ (vs : List ℕ) (vss : List (List ℕ)). vs ∷ vss) (ap list_of (q ∙ sym (r.kept us e q (omega arith)))) (h m)
  alike_push d e us q r (refused n o) w h = tt

  alike : (n : ℕ) (c : Cursor) → Inside s c → a ≤ c.at → Alike (strings s n c)
  unfolding strings
  alike zero c inside l = λ m. refl
  alike (suc n) c inside l = at_place (λ e i m. alike n e i m) (next_place s c) (reads_place c inside l).within
    where
      Rest : Type 0
      Rest = (e : Cursor) → Inside s e → a ≤ e.at → Alike (strings s n e)

      at_string : Rest → (d : Cursor) → Inside s d → a ≤ d.at → (x : Got (List ℕ)) → string_at s d ≡ x → Within s d x → Alike (then x (λ _ e. push d (strings s n e)))
      at_string ih d inside l (got us e) q w = alike_push d e us q (reads_string d inside l) (strings s n e) (reads_strings n e w.0 (omega arith)).within (ih e w.0 (omega arith))
      at_string ih d inside l (refused m o) q w = tt

      at_place : Rest → (x : Got Unit) → Within s c x → Alike (then x (λ _ d. then (string_at s d) (λ _ e. push d (strings s n e))))
      at_place ih (got u d) w = at_string ih d w.0 (omega arith) (string_at s d) refl (reads_string d w.0 (omega arith)).within
      at_place ih (refused m o) w = tt

-- ---- string i of the list of all
nowhere_empty : (s : List ℕ) → [] ≡ units_at s nowhere
unfolding string_at head need pick
nowhere_empty s = refl

pub strings_at_lem : (s : List ℕ) (p e i : ℕ) → get_or (strings_of s p e) i [] ≡ units_of s p e i
strings_at_lem s p e i = ap (get_or (strings_of s p e) i) (nowhere_empty s) ∙ get_or-map (units_at s) (places_of s p e) i nowhere

pub strings_length : (s : List ℕ) (p e : ℕ) → length (strings_of s p e) ≡ length (places_of s p e)
strings_length s p e = length-map (places_of s p e) (units_at s)

-- ---- a table that is right
pub record Right (s : List ℕ) (p e : ℕ) (l : List Cursor) (c : Cursor) : Type 0 where
  pub long : 8 ≤ e - (p + 4)
  pub read : strings s (u32_at s (p + 8)) (first p e) ≡ got l c
  pub full : c.at ≡ c.end
  pub alone : continues s c.end ≡ false

module _ (s : List ℕ) (p e : ℕ) (l : List Cursor) (c : Cursor) where
  table_is : Right s p e l c → table_of s p e ≡ got l c
  unfolding table_of
  table_is r =
      sym (pick_nlt (got l c) _ _ _ _ r.long (ap (λ (x : Got Unit). then x (λ _ d. got l d)) (sym (filled_got 8 s c r.full r.alone))
      ∙ ap (λ (x : Got (List Cursor)). then x (λ l c. then (filled 8 s c) (λ _ d. got l d))) (sym r.read)))

  abbrev RightIf : Got (List Cursor) → Type 0
  RightIf (got l c) = Right s p e l c
  RightIf (refused n o) = Unit {0}

  pub right : table_of s p e ≡ got l c → Right s p e l c
  unfolding table_of
  right h = subst RightIf h (pick_by RightIf _ (λ _. tt) (λ i. at_strings (ltb-false _ _ i) (strings s (u32_at s (p + 8)) (first p e)) refl))
    where
      at_end_lem : 8 ≤ e - (p + 4) → (k : List Cursor) (d : Cursor) → strings s (u32_at s (p + 8)) (first p e) ≡ got k d → (x : Got Unit) → filled 8 s d ≡ x → RightIf (then x (λ _ g. got k g))
      at_end_lem long k d q (got u g) i =
          let f = filled_is 8 s d u g i in
          subst (Right s p e k) f.here (record { long = long; read = q; full = f.full; alone = f.alone })
      at_end_lem long k d q (refused n o) i = tt

      at_strings : 8 ≤ e - (p + 4) → (x : Got (List Cursor)) → strings s (u32_at s (p + 8)) (first p e) ≡ x → RightIf (then x (λ l c. then (filled 8 s c) (λ _ d. got l d)))
      at_strings long (got k d) q = at_end_lem long k d q (filled 8 s d) refl
      at_strings long (refused n o) q = tt

-- ---- the same bytes up to the table's end: the same table. Of the record after it only this counts, whether it is a CONTINUE
module _ (s s' : List ℕ) (len : length s ≡ length s') (p e : ℕ) (within : e ≤ length s) (l : List Cursor) (c : Cursor) (is : table_of s p e ≡ got l c)
    (same : Same s s' p c.end) (next : continues s c.end ≡ continues s' c.end) where
  reads_table : Reads s c.end (first p e) (strings s (u32_at s (p + 8)) (first p e)) (strings s' (u32_at s (p + 8)) (first p e))
  reads_table = let r = right s p e l c is in let i = r.long in reads_strings s s' len p c.end same (u32_at s (p + 8)) (first p e) (omega arith, within) (omega arith)

  end_after : e ≤ c.end
  end_after = let r = right s p e l c is in let w : Within s (first p e) (got l c) = subst (Within s (first p e)) r.read reads_table.within in w.2

  pub table_same : table_of s' p e ≡ got l c
  table_same =
      let r = right s p e l c is in
      let i = r.long in
      let m = end_after in
      let u : u32_at s (p + 8) ≡ u32_at s' (p + 8) = num_kept s s' p c.end same 4 (p + 8) (omega arith) (omega arith) in
      table_is s' p e l c (record {
        long = r.long;
        read = ap (λ (n : ℕ). strings s' n (first p e)) (sym u) ∙ reads_table.kept l c r.read (omega arith);
        full = r.full;
        alone = sym next ∙ r.alone;
      })

  pub strings_same : strings_of s p e ≡ strings_of s' p e
  strings_same =
      let r = right s p e l c is in
      let i = r.long in
      let h : map (units_at s) l ≡ map (units_at s') l = subst (Alike s s' len p c.end same) r.read (alike s s' len p c.end same (u32_at s (p + 8)) (first p e) (omega arith, within) (omega arith)) (omega arith) in
      ap (λ (x : Got (List Cursor)). map (units_at s) (list_of x)) is ∙ h ∙ ap (λ (x : Got (List Cursor)). map (units_at s') (list_of x)) (sym table_same)
