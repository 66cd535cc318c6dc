-- The strings one after the other: the steps give the strings of the table, and then the end. Assumes nothing.
use Prim.Native.Nat.{ℕ, zero, suc, ◌+◌, ◌≤◌, ◌<◌}
use mathlib.Core.Path.{◌≡◌, refl, sym, ap, ◌∙◌, subst}
use mathlib.Core.List.{List, [], ◌∷◌, map}
use Rattle.std.specs.Prelude.{Result, Ok}
use Rattle.refusal.specs.declared.Refusal.{Refusal}
use mathlib.Core.Logic.{inl, inr}
use mathlib.Core.Bool.{Bool, true, false}
use native.Mathlib.Omega.{arith}
use lib.ListN.{length}
use lib.Dec.{eqb}
use borrow.Author.Tests.{eqb-true, ne_eqb}
use Rattle.steps.proofs.Choice.{never, pick_eq, pick_lt, pick_nlt, pick_false, pick_any, pick_by}
use Rattle.steps.specs.Items.{Lists, at_end, and_then}
use Rattle.byte_numbers.specs.Bytes.{u16_at, u32_at}
use Rattle.record.specs.declared.Header.{Header}
use Rattle.record.specs.declared.Header.TheVariants as header
use Rattle.record.specs.Record.{header_at}
use Rattle.record.proofs.Laws.{whole}
use Rattle.segments.specs.declared.Cursor.{Cursor}
use Rattle.segments.specs.Segments.{Got, got, refused, then, push, list_of, continues, next_segment}
use Rattle.segments.specs.Parts.{Inside, ends}
use Rattle.segments.proofs.Local.{refused_not}
use Rattle.strings.specs.Table.{string_at, units_at, next_place, strings, first, nowhere, places_of, fetched_of, buffer_of}
use Rattle.strings.specs.Parts.{next_string}
use Rattle.strings.proofs.Local.{right}
use Rattle.strings.proofs.Laws.{next_inside, Accepted}
use Rattle.globals.specs.declared.Globals.{Globals}
use Rattle.globals.specs.Globals.{is_globals_bof, on_first, globals_of}
use Rattle.globals.proofs.Table.{TableTold, table_told}
use Rattle.reading.specs.Reading.{strings_at, on_globals, reading_of}
use Rattle.fetch.specs.Strings.{first_of, text_at, on_fetched, next_seen, next_string_of, buffer_seen, next_buffer}
use Rattle.fetch.specs.Claims.{StringGiven, NoString, StringsListed}
use Rattle.fetch.proofs.Laws.{checked_globals, strings_none, strings_some}
use Rattle.fetch.proofs.Strings.{first_none, first_there, text_is}

-- ---- one call
module _ (s : List ℕ) (c : Cursor) where
  given : (us : List ℕ) (d : Cursor) → text_at s c ≡ got us d → StringGiven s c us d
  unfolding next_string_of next_buffer fetched_of buffer_of
  given us d h = record {
    units = λ b l. (ap (next_seen (length b)) h ∙ ap (on_fetched d) (sym (pick_nlt _ _ _ _ _ l refl)), ap (buffer_seen b) h ∙ sym (pick_nlt _ _ _ _ _ l refl));
    short = λ b l. (ap (next_seen (length b)) h ∙ ap (on_fetched d) (sym (pick_lt _ _ _ _ _ l refl)), ap (buffer_seen b) h ∙ sym (pick_lt _ _ _ _ _ l refl));
  }

  abbrev Over : Got (List ℕ) → Type 0
  Over (got us d) = ⊥
  Over (refused m o) = Unit {0}

  none : (x : Got (List ℕ)) → text_at s c ≡ x → Over x → NoString s c
  unfolding next_string_of next_buffer
  none (got us d) h over b = absurd over
  none (refused m o) h over b = (ap (next_seen (length b)) h, ap (buffer_seen b) h)

  -- where nothing is left of a segment and no CONTINUE follows, there is no further string
  no_string : c.at ≡ c.end → continues s c.end ≡ false → NoString s c
  unfolding text_at next_string next_place next_segment
  no_string full alone =
      let no_place : next_place s c ≡ refused 8 c.seg = sym (pick_eq _ _ _ _ _ full (pick_false _ _ _ _ alone refl)) in
      none (text_at s c) refl (pick_any Over _ tt (pick_any Over _ tt (subst (λ (y : Got Unit). Over (then y (λ _ d. string_at s d))) (sym no_place) tt)))

abbrev Given : List ℕ → Cursor → List (List ℕ) → Type 0
Given s = Lists (StringGiven s) (NoString s)

-- ---- the strings of a table that ends at e
module _ (s : List ℕ) (e : Cursor) (stop : NoString s e) where
  texts_read : (n : ℕ) (c : Cursor) → Inside s c → (l : List Cursor) → strings s n c ≡ got l e → Given s c (map (units_at s) l)
  unfolding strings next_string
  texts_read zero c inside l h =
      let i : [] ≡ l = cc in
      let j : e ≡ c = cc in
      subst (λ (y : List Cursor). Given s c (map (units_at s) y)) i (at_end (subst (NoString s) j stop))
  texts_read (suc n) c inside l h = at_place (texts_read n) (next_place s c) refl h
    where
      Rest : Type 0
      Rest = (g : Cursor) → Inside s g → (k : List Cursor) → strings s n g ≡ got k e → Given s g (map (units_at s) k)

      at_rest : Rest → (d : Cursor) (us : List ℕ) (g : Cursor) → next_place s c ≡ got tt d → string_at s d ≡ got us g → (x : Got (List Cursor)) → strings s n g ≡ x → push d x ≡ got l e → Given s c (map (units_at s) l)
      at_rest ih d us g p q (got k f) r h =
          let i : d ∷ k ≡ l = cc in
          let j : f ≡ e = cc in
          let m : next_string s c ≡ got us g = ap (λ (y : Got Unit). then y (λ _ d. string_at s d)) p ∙ q in
          let o : Inside s g = next_inside s c g (Ok g) (sym (ap ends m)) refl inside in
          subst (Given s c) (ap (λ (y : List ℕ). y ∷ map (units_at s) k) (ap list_of (sym q)) ∙ ap (map (units_at s)) i)
          (and_then (given s c us g (text_is s c inside.1 inside.0 ∙ m)) (ih g o k (r ∙ ap (got k) j)))
      at_rest ih d us g p q (refused a b) r h = absurd (refused_not h)

      at_string : Rest → (d : Cursor) → next_place s c ≡ got tt d → (x : Got (List ℕ)) → string_at s d ≡ x → then x (λ _ g. push d (strings s n g)) ≡ got l e → Given s c (map (units_at s) l)
      at_string ih d p (got us g) q h = at_rest ih d us g p q (strings s n g) refl h
      at_string ih d p (refused a b) q h = absurd (refused_not h)

      at_place : Rest → (x : Got Unit) → next_place s c ≡ x → then x (λ _ d. then (string_at s d) (λ _ g. push d (strings s n g))) ≡ got l e → Given s c (map (units_at s) l)
      at_place ih (got u d) p h = at_string ih d p (string_at s d) refl h
      at_place ih (refused a b) p h = absurd (refused_not h)

module _ (s : List ℕ) where
  -- of the SST at p
  module _ (p : ℕ) (later : 0 < p) (within : p + 4 + u16_at s (p + 2) ≤ length s) (table : Accepted s p (p + 4 + u16_at s (p + 2))) where
    table_texts : Given s (first_of s p) (map (units_at s) (places_of s p (p + 4 + u16_at s (p + 2))))
    table_texts =
        let e : ℕ = p + 4 + u16_at s (p + 2) in
        let c = table.after in
        let r = right s p e (places_of s p e) c table.is in
        let long = r.long in
        let start : first p e ≡ first_of s p = sym (first_there s p later (omega arith) within) in
        subst (λ (d : Cursor). Given s d (map (units_at s) (places_of s p e))) start
        (texts_read s c (no_string s c r.full r.alone) (u32_at s (p + 8)) (first p e) (omega arith, within) (places_of s p e) r.read)

  -- where there is none: the stream starts with a BOF, and not with a CONTINUE
  is_bof : (t z : ℕ) → is_globals_bof s t z ≡ true → t ≡ 0x0809
  unfolding is_globals_bof
  is_bof t z h = pick_by (λ (a : Bool). a ≡ true → t ≡ 0x0809) (eqb t 0x0809) (λ i _. eqb-true t 0x0809 i) (λ _ i. never (cc)) h

  starts : (u : ℕ) (g : Globals) (x : Header) → header_at s 0 ≡ x → on_first s u x ≡ Ok g → u16_at s 0 ≡ 0x0809
  starts u g (header.Record t z e) i h =
      let w = whole s 0 t z e i in
      pick_by (λ (a : Result Globals Refusal). a ≡ Ok g → u16_at s 0 ≡ 0x0809) (is_globals_bof s t z) (λ j _. sym w.kind ∙ is_bof t z j) (λ _ j. never (cc)) h
  starts u g header.Cut i h = never (cc)
  starts u g header.End i h = never (cc)

  no_continue : (u : ℕ) (g : Globals) → globals_of s u ≡ Ok g → continues s 0 ≡ false
  unfolding globals_of continues
  no_continue u g h = let b = starts u g (header_at s 0) refl h in pick_any (λ (a : Bool). a ≡ false) _ refl (ne_eqb (u16_at s 0) 0x003c (λ i. omega arith))

  told_texts : (u : ℕ) (g : Globals) → globals_of s u ≡ Ok g → TableTold s u g → Given s (first_of s g.table) (strings_at s g.table)
  told_texts u g h (inl t) =
      subst (λ (c : Cursor). Given s c (strings_at s g.table)) (sym (first_none s g.table t.0))
      (subst (Given s nowhere) (sym (strings_none s g.table t.0)) (at_end (no_string s nowhere refl (no_continue u g h))))
  told_texts u g h (inr t) = subst (Given s (first_of s g.table)) (sym (strings_some s g.table t.later)) (table_texts g.table t.later t.within t.table)

pub strings_are_listed : StringsListed
unfolding reading_of
strings_are_listed s u g h =
    let e = checked_globals s u g (sym h) in
    subst (Given s (first_of s g.table)) (sym (ap (on_globals s) e)) (told_texts s u g e (table_told s u g e))
