-- The segments of what is read are whole records, one after the other: a record and CONTINUEs. Assumes nothing.
use Prim.Native.Nat.{ℕ, zero, suc}
use mathlib.Core.Path.{◌≡◌, refl, ap, ◌∙◌, subst}
use mathlib.Core.List.{List}
use mathlib.Core.Bool.{Bool, true, false}
use Rattle.steps.proofs.Choice.{pick_any, pick_by}
use Rattle.byte_numbers.specs.Bytes.{byte_at, u16_at}
use Rattle.record.specs.declared.Header.{Header}
use Rattle.record.specs.declared.Header.TheVariants.{Record, Cut, End}
use Rattle.record.specs.Record.{header_at}
use Rattle.record.proofs.Laws.{whole}
use Rattle.segments.specs.declared.Cursor.{Cursor}
use Rattle.segments.proofs.Local.{continue_type}
use Rattle.segments.specs.Segments.{Got, got, refused, then, push, on as onward, continues, segment_of, next_segment, filled, need, width_of, enter, room, items}
use Rattle.std.specs.Prelude.{Result, Ok, Err}
use Rattle.refusal.specs.declared.Refusal.{Refusal}
use Rattle.strings.specs.declared.Table.{Table}
use Rattle.strings.specs.Table.{head, rest, string_at, next_place, strings, first, table_of, answer_of}
use Rattle.record_chain.specs.Chain.{Chain, here, on, Over, Reach}
use Rattle.record_chain.proofs.Chain.{chain_trans, over}

-- a CONTINUE is a step
module _ (s : List ℕ) (Step : ℕ → ℕ → Type 0) (continue : (x z e : ℕ) → header_at s x ≡ Record 0x003C z e → Step x e) where
  -- a reading that begins in the segment of c comes to a segment that is reached from it
  abbrev pub Runs : {A : Type 0} → Cursor → Got A → Type 0
  Runs c (got v d) = Chain Step c.end d.end
  Runs c (refused n o) = Unit {0}

  pub runs_on : {A : Type 0} (c d : Cursor) (x : Got A) → Chain Step c.end d.end → Runs d x → Runs c x
  runs_on c d (got v e) q r = chain_trans q r
  runs_on c d (refused n o) q r = tt

  pub runs_then : {A B : Type 0} (c : Cursor) (x : Got A) (k : A → Cursor → Got B) → Runs c x → ((v : A) (d : Cursor) → Runs d (k v d)) → Runs c (then x k)
  runs_then c (got v d) k q f = runs_on c d (k v d) q (f v d)
  runs_then c (refused n o) k q f = tt

  pub runs_push : {A : Type 0} (c : Cursor) (v : A) (x : Got (List A)) → Runs c x → Runs c (push v x)
  runs_push c v (got l d) r = r
  runs_push c v (refused n o) r = tt

  runs_segment : (n : ℕ) (c : Cursor) → u16_at s c.end ≡ 0x003C → (h : Header) → header_at s c.end ≡ h → Runs c (segment_of n c.end h)
  runs_segment n c i (Record t z e) h =
      let w = whole s c.end t z e h in
      let j : t ≡ 0x003C = w.kind ∙ i in
      pick_any (Runs c) _ tt (on (continue c.end z e (h ∙ ap (λ (k : ℕ). Record k z e) j)) here)
  runs_segment n c i Cut h = tt
  runs_segment n c i End h = tt

  pub runs_next : (n : ℕ) (c : Cursor) → Runs c (next_segment n s c)
  unfolding next_segment
  runs_next n c = pick_by (Runs c) (continues s c.end) (λ i. runs_segment n c (continue_type s c.end i) (header_at s c.end) refl) (λ _. tt)

  pub runs_filled : (n : ℕ) (c : Cursor) → Runs c (filled n s c)
  unfolding filled
  runs_filled n c = pick_any (Runs c) _ (pick_any (Runs c) _ (runs_then c (next_segment n s c) _ (runs_next n c) (λ v d. tt)) here) tt

  pub runs_need : (n w : ℕ) (c : Cursor) → Runs c (need n w c)
  unfolding need
  runs_need n w c = pick_any (Runs c) _ tt here

  runs_enter : (n : ℕ) (f : Bool) (w : ℕ) (c : Cursor) → Runs c (enter n s f w c)
  runs_enter n true w c = runs_on c (onward c 1) (need n (width_of (byte_at s c.at)) (onward c 1)) here (runs_need n (width_of (byte_at s c.at)) (onward c 1))
  runs_enter n false w c = runs_need n w c

  runs_room : (n : ℕ) (f : Bool) (w : ℕ) (c : Cursor) → Runs c (room n s f w c)
  unfolding room
  runs_room n f w c = pick_any (Runs c) _ (runs_then c (next_segment n s c) _ (runs_next n c) (λ v d. runs_enter n f w d)) (runs_need n w c)

  pub runs_items : (n : ℕ) (f : Bool) (w k : ℕ) (c : Cursor) → Runs c (items n s f w k c)
  unfolding items
  runs_items n f w zero c = here
  runs_items n f w (suc k) c =
      runs_then c (room n s f w c) _ (runs_room n f w c)
      (λ v d. runs_push d _ (items n s f v k (onward d v)) (runs_on d (onward d v) (items n s f v k (onward d v)) here (runs_items n f v k (onward d v))))

  runs_head : (c : Cursor) → Runs c (head s c)
  unfolding head
  runs_head c = runs_then c (need 8 3 c) _ (runs_need 8 3 c) (λ v d. runs_then d (need 8 _ d) _ (runs_need 8 _ d) (λ w e. here))

  runs_string : (c : Cursor) → Runs c (string_at s c)
  unfolding string_at rest
  runs_string c =
      runs_then c (head s c) _ (runs_head c) (λ h d.
      runs_then d (items 8 s true h.width h.chars d) _ (runs_items 8 true h.width h.chars d) (λ us e.
      runs_then e (then (items 8 s false 4 h.runs e) (λ _ i. items 8 s false 1 h.phonetic i)) _
      (runs_then e (items 8 s false 4 h.runs e) _ (runs_items 8 false 4 h.runs e) (λ v i. runs_items 8 false 1 h.phonetic i)) (λ v i. here)))

  runs_place : (c : Cursor) → Runs c (next_place s c)
  unfolding next_place
  runs_place c = pick_any (Runs c) _ (runs_next 8 c) here

  runs_strings : (n : ℕ) (c : Cursor) → Runs c (strings s n c)
  unfolding strings
  runs_strings zero c = here
  runs_strings (suc n) c =
      runs_then c (next_place s c) _ (runs_place c) (λ v d.
      runs_then d (string_at s d) _ (runs_string d) (λ us e. runs_push e d (strings s n e) (runs_strings n e)))

  pub runs_table : (p e : ℕ) → Runs (first p e) (table_of s p e)
  unfolding table_of
  runs_table p e =
      pick_any (Runs (first p e)) _ tt
      (runs_then (first p e) (strings s _ (first p e)) _ (runs_strings _ (first p e)) (λ l c. runs_then c (filled 8 s c) _ (runs_filled 8 c) (λ v d. here)))

-- ---- the string table
module _ (s : List ℕ) where
  abbrev Ends : ℕ → Result Table Refusal → Type 0
  Ends e (Ok t) = Reach s e t.end
  Ends e (Err r) = Unit {0}

  abbrev Ran : {A : Type 0} → Cursor → Got A → Type 0
  Ran c x = Runs s (Over s) (λ x z e h. over s h) c x

  ends_answer : (p e : ℕ) (x : Got (List Cursor)) → Ran (first p e) x → Ends e (answer_of x)
  ends_answer p e (got l c) r = r
  ends_answer p e (refused n o) r = tt

  -- the table's end is reached from the end of its SST
  pub table_reach : (p e : ℕ) (t : Table) → answer_of (table_of s p e) ≡ Ok t → Reach s e t.end
  table_reach p e t h = subst (Ends e) h (ends_answer p e (table_of s p e) (runs_table s (Over s) (λ x z e h. over s h) p e))
