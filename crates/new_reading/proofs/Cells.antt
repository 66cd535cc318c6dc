-- The cells of a worksheet in both streams: the same, but for the text indices; and each text index is one of the text entries. Assumes nothing.
use Prim.Native.Nat.{ℕ, zero, suc, ◌+◌, ◌-◌, ◌^◌, ◌≤◌, ◌<◌}
use mathlib.Core.Path.{◌≡◌, refl, sym, ap, ap₂, ◌∙◌, subst}
use mathlib.Core.List.{List, [], ◌∷◌, ◌++◌, map}
use mathlib.Core.Bool.{Bool, true, false}
use mathlib.Core.Logic.{◌⊎◌, inl, inr}
use native.Mathlib.Omega.{arith}
use lib.ListN.{length, drop}
use lib.Dec.{eqb, ltb}
use borrow.Author.Tests.{eqb-true, eqb-false, ltb-true, ltb-false}
use Rattle.steps.specs.Choice.{pick}
use Rattle.steps.proofs.Choice.{never}
use Rattle.byte_numbers.specs.Bytes.{u32_at}
use Rattle.byte_numbers.proofs.Laws.{Same}
use Rattle.record.specs.declared.Header.{Header}
use Rattle.record.specs.declared.Header.TheVariants.{Record, Cut, End}
use Rattle.record.specs.Record.{header_at}
use Rattle.record.proofs.Laws.{whole}
use Rattle.cell.specs.declared.Shape.{Shape}
use Rattle.cell.specs.declared.Shape.TheVariants.{LABELSST}
use Rattle.cell.specs.declared.Cell.{Cell}
use Rattle.cell.specs.Cells.{shape_of, sized, count_of, cells_of}
use Rattle.reading.specs.Cells.{place_at, listed_from}
use Rattle.reading.specs.Claims.{Every}
use Rattle.segments.specs.declared.Cursor.{Cursor}
use Rattle.segments.specs.Segments.{Got, got, refused, list_of, continues}
use Rattle.segments.specs.Parts.{Passes}
use Rattle.segments.proofs.Local.{refused_not}
use Rattle.text_result.specs.TextResult.{has_text, text_of}
use Rattle.text_result.proofs.Local.{text_alone}
use Rattle.record_chain.proofs.Text.{text_chain}
use Rattle.reading.specs.Reading.{on_formula, text_after, CellReading, cell_reading}
use Rattle.reading.proofs.Texts.{has_formula}
use Rattle.reading.proofs.Laws.{record_cells}
use Rattle.reads_after.specs.Parts.{Inside}
use Rattle.reads_after.proofs.Records.{After, inside_past, inside_text}
use Rattle.moved_records.proofs.Later.{later_cursor, later_got}
use Rattle.moved_records.proofs.Views.{num_drop}
use Rattle.moved_records.proofs.Texts.{text_drop}
use Rattle.new_stream.specs.declared.Spot.{Spot}
use Rattle.new_stream.specs.declared.Fate.{Fate}
use Rattle.new_stream.specs.declared.Fate.TheVariants.{Stays, Goes, Table, Text, Sheet}
use Rattle.new_stream.specs.Entries.{fate_of, spot_after, parts}
use Rattle.new_stream.specs.Parts.{Given, View}
use Rattle.new_stream.proofs.Written.{text_same, text_number, text_used, view_byte}
use Rattle.new_stream.proofs.Fates.{after_at, after_gone, after_kind, after_plain, after_bof, after_eof, Turns, turns}
use Rattle.new_stream.proofs.Records.{spot, spot_is, fits, later, entries_by, gone_next, kept_next, kept_same, kept_header, kept_free, continues_not, text_next, text_header}
use Rattle.new_stream.proofs.Texts.{Followed, same_on, follow, text_moved as text-result-moved}
use Rattle.new_reading.specs.Retexted.{retexted_cell}
use Rattle.new_reading.proofs.Views.{count_moved, cells_moved, text_moved}
use Rattle.new_reading.proofs.Uses.{every_append, Says, label_says, plain_says}
use Rattle.new_reading.proofs.Listing.{list_skip, list_bof, list_deep, list_end, list_back, inside_there, inside_label, inside_plain}

map_append : {A B : Type 0} (f : A → B) (l r : List A) → map f (l ++ r) ≡ map f l ++ map f r
map_append f [] r = refl
map_append {A} {B} f (x ∷ l) r = ap (λ (y : List B). f x ∷ y) (map_append f l r)

-- a record that goes has no cells
pub gone_none : (s : List ℕ) (ty at z : ℕ) → (ty ≡ 0x003C) ⊎ (ty ≡ 0x020B) → count_of (shape_of ty) s at z ≡ 0
unfolding shape_of pick
gone_none s ty at z (inl i) = rw i refl
gone_none s ty at z (inr i) = rw i refl

pub label_shape : (ty : ℕ) → ty ≡ 0x00FD → shape_of ty ≡ LABELSST
unfolding shape_of pick
label_shape ty i = rw i refl

pub label_one : (s : List ℕ) (at : ℕ) → count_of LABELSST s at 10 ≡ 1
unfolding sized pick
label_one s at = refl

-- the kind of the substream that stands l deep in a worksheet
abbrev pub kind_of : ℕ → ℕ
kind_of zero = 0x0010
kind_of (suc l) = 0x0020

pub kind_top : (l : ℕ) → l + 1 ≡ 1 → 0x0010 ≡ kind_of l
kind_top zero h = refl
kind_top (suc l) h = absurd (omega arith)

pub kind_chart : (l : ℕ) → (l + 1 ≡ 1 → ⊥) → kind_of l ≡ 0x0020
kind_chart zero h = absurd (h (omega arith))
kind_chart (suc l) h = refl

pub kind_later : (l : ℕ) → kind_of l ≡ 0x0005 → ⊥
kind_later zero h = omega arith
kind_later (suc l) h = omega arith

pub kind_sheet : (l : ℕ) → kind_of l ≡ 0x0010 → l ≡ 0
kind_sheet zero h = refl
kind_sheet (suc l) h = absurd (omega arith)

module _ (m : Given) (u u' to : ℕ) (fresh : (i : ℕ) → m.Used i → i < u → m.index i < u') (small : u' ≤ 256 ^ 4) where
  abbrev s : List ℕ
  s = m.s

  abbrev t : List ℕ
  t = m.t

  abbrev old : ℕ → ℕ → List CellReading
  old at l = map (retexted_cell m.index m.byte) (map (cell_reading s) (listed_from s (place_at at l)))

  abbrev new : ℕ → ℕ → List CellReading
  new q l = map (cell_reading t) (listed_from t (place_at q l))

  -- the listing of s is at w, l deep in the worksheet, and that of t at q
  pub record Tracks (w : Spot) (l q : ℕ) : Type 0 where
    pub level : w.level ≡ l + 1
    pub kind : w.kind ≡ 0x0010
    pub inside : Inside s u to l w.at
    pub view : View m w q

  -- ---- no CONTINUE stands in the new stream where none stood in the old one, but those of a record that is gone
  abbrev Bare : Spot → Type 0
  Bare w = w.gone ≡ false → continues s w.at ≡ false

  abbrev FreeAgain : Spot → ℕ → ℕ → Type 0
  FreeAgain w l q = (x : Spot) → length s - x.at < length s - w.at → Tracks x l q → Bare x → continues t q ≡ false

  module _ (w : Spot) (l q : ℕ) (tr : Tracks w l q) (none : Bare w) (again : FreeAgain w l q) where
    within : w.level ≡ 0 → ⊥
    within i = let j = tr.level in omega arith

    free_gone : (ty z e : ℕ) → header_at s w.at ≡ Record ty z e → fate_of w ty ≡ Goes → (ty ≡ 0x0809 → ⊥) → (ty ≡ 0x000A → ⊥) → continues t q ≡ false
    free_gone ty z e h i a b =
        let x = whole s w.at ty z e h in
        let at = after_at s w ty e in
        again (spot_after s w ty e) (omega arith)
        record {
          level = after_plain s w ty e a b ∙ tr.level;
          kind = after_kind s w ty e within ∙ tr.kind;
          inside = subst (Inside s u to l) (sym at) ((inside_past s u to l w.at ty z e tr.inside h).else a b);
          view = gone_next m w q ty z e within tr.view h i;
        }
        (λ g. let f : (spot_after s w ty e).gone ≡ true = after_gone s w ty e ∙ ap parts i in never (cc))

    free_record : (ty z e : ℕ) → header_at s w.at ≡ Record ty z e → (f : Fate) → fate_of w ty ≡ f → Turns w (kind_of l) ty f → continues t q ≡ false
    free_record ty z e h Stays i k = kept_free m w q ty z e within tr.view h i k.0 none
    free_record ty z e h Goes i (inl c) = free_gone ty z e h i (λ x. omega arith) (λ x. omega arith)
    free_record ty z e h Goes i (inr c) = free_gone ty z e h i (λ x. omega arith) (λ x. omega arith)
    free_record ty z e h Text i k = continues_not t q ty z (q + (4 + z)) (text_header m w q ty z e within tr.view h i) (λ c. let j = k.1 in omega arith)
    free_record ty z e h Table i k = absurd k
    free_record ty z e h Sheet i k = absurd k

    free_header : (x : Header) → header_at s w.at ≡ x → continues t q ≡ false
    free_header (Record ty z e) h =
        free_record ty z e h (fate_of w ty) refl (turns w (kind_of l) ty (λ j. tr.kind ∙ kind_top l (sym tr.level ∙ j)) (λ j. kind_chart l (λ x. j (tr.level ∙ x))) (kind_later l))
    free_header Cut h = absurd ((inside_there s u to l w.at tr.inside).0 h)
    free_header End h = absurd ((inside_there s u to l w.at tr.inside).1 h)

  free_inside : (n : ℕ) (w : Spot) (l q : ℕ) → length s - w.at < n → Tracks w l q → Bare w → continues t q ≡ false
  free_inside zero w l q b tr none = absurd (omega arith)
  free_inside (suc n) w l q b tr none = free_header w l q tr none (λ x less tr' none'. free_inside n x l q (omega arith) tr' none') (header_at s w.at) refl

  -- ---- the cells: from p, l deep in the old stream, and from q in the new one
  pub record Reads (p l q : ℕ) : Type 0 where
    pub same : new q l ≡ old p l
    pub says : Every (Says m.Used) (listed_from s (place_at p l))

  moves : (p l q e k e₁ : ℕ) → listed_from s (place_at p l) ≡ listed_from s (place_at e k) → listed_from t (place_at q l) ≡ listed_from t (place_at e₁ k) → Reads e k e₁ → Reads p l q
  moves p l q e k e₁ a b r = record {
    same = ap (map (cell_reading t)) b ∙ r.same ∙ sym (ap (λ (x : List Cell). map (retexted_cell m.index m.byte) (map (cell_reading s) x)) a);
    says = subst (Every (Says m.Used)) (sym a) r.says;
  }

  stops : (p l q : ℕ) → listed_from s (place_at p l) ≡ [] → listed_from t (place_at q l) ≡ [] → Reads p l q
  stops p l q a b = record {
    same = ap (map (cell_reading t)) b ∙ sym (ap (λ (x : List Cell). map (retexted_cell m.index m.byte) (map (cell_reading s) x)) a);
    says = subst (Every (Says m.Used)) (sym a) tt;
  }

  abbrev Again : Spot → Type 0
  Again w = (x : Spot) (l q : ℕ) → length s - x.at < length s - w.at → Tracks x l q → Reads x.at l q

  module _ (w : Spot) (l q : ℕ) (tr : Tracks w l q) (again : Again w) (ty z e : ℕ) (h : header_at s w.at ≡ Record ty z e) where
    abbrev p : ℕ
    p = w.at

    abbrev after : Spot
    after = spot_after s w ty e

    deep : w.level ≡ 0 → ⊥
    deep i = let j = tr.level in omega arith

    past : After s u to l ty e
    past = inside_past s u to l p ty z e tr.inside h

    next : (k r : ℕ) → after.level ≡ k + 1 → Inside s u to k e → View m after r → Reads e k r
    next k r i j v =
        let x = whole s p ty z e h in
        let a = after_at s w ty e in
        subst (λ (n : ℕ). Reads n k r) a (again after k r (omega arith) record { level = i; kind = after_kind s w ty e deep ∙ tr.kind; inside = subst (Inside s u to k) (sym a) j; view = v })

    level_same : (ty ≡ 0x0809 → ⊥) → (ty ≡ 0x000A → ⊥) → after.level ≡ l + 1
    level_same a b = after_plain s w ty e a b ∙ tr.level

    -- ---- it is gone
    goes_read : fate_of w ty ≡ Goes → (ty ≡ 0x003C) ⊎ (ty ≡ 0x020B) → (ty ≡ 0x0809 → ⊥) → (ty ≡ 0x000A → ⊥) → Reads p l q
    goes_read i c a b =
        moves p l q e l q (list_skip s p l ty z e h a b (λ _. gone_none s ty p z c)) refl (next l q (level_same a b) (past.else a b) (gone_next m w q ty z e deep tr.view h i))

    goes_by : fate_of w ty ≡ Goes → (ty ≡ 0x003C) ⊎ (ty ≡ 0x020B) → Reads p l q
    goes_by i (inl c) = goes_read i (inl c) (λ x. omega arith) (λ x. omega arith)
    goes_by i (inr c) = goes_read i (inr c) (λ x. omega arith) (λ x. omega arith)

    -- ---- its cells, then the others
    cells_then : (e₁ : ℕ) → header_at t q ≡ Record ty z e₁ → l ≡ 0 → 0 < count_of (shape_of ty) s p z → 0 < count_of (shape_of ty) t q z
        → map (cell_reading t) (cells_of t (shape_of ty) q z) ≡ map (retexted_cell m.index m.byte) (map (cell_reading s) (cells_of s (shape_of ty) p z)) → Every (Says m.Used) (cells_of s (shape_of ty) p z) → Reads e 0 e₁ → Reads p l q
    cells_then e₁ h₁ i some some₁ cells says rest = record {
      same =
          rw i
          (ap (map (cell_reading t)) (record_cells t q ty z e₁ h₁ some₁) ∙ map_append (cell_reading t) (cells_of t (shape_of ty) q z) (listed_from t (place_at e₁ 0))
          ∙ ap₂ (λ (a b : List CellReading). a ++ b) cells rest.same
          ∙ sym (ap (λ (x : List Cell). map (retexted_cell m.index m.byte) (map (cell_reading s) x)) (record_cells s p ty z e h some)
          ∙ ap (map (retexted_cell m.index m.byte)) (map_append (cell_reading s) (cells_of s (shape_of ty) p z) (listed_from s (place_at e 0)))
          ∙ map_append (retexted_cell m.index m.byte) (map (cell_reading s) (cells_of s (shape_of ty) p z)) (map (cell_reading s) (listed_from s (place_at e 0)))));
      says =
          subst (λ (n : ℕ). Every (Says m.Used) (listed_from s (place_at p n))) (sym i)
          (subst (Every (Says m.Used)) (sym (record_cells s p ty z e h some)) (every_append (Says m.Used) (cells_of s (shape_of ty) p z) (listed_from s (place_at e 0)) says rest.says));
    }

    -- ---- it gets a new index
    text_read : fate_of w ty ≡ Text → l ≡ 0 → ty ≡ 0x00FD → Reads p l q
    text_read i zero-level c =
        let right = inside_label s u to l p z e tr.inside zero-level (h ∙ ap (λ (n : ℕ). Record n z e) c) in
        let ten : z ≡ 10 = right.0 in
        let fit = fits m w q ty z e deep tr.view h in
        let lat = later m w q ty z e deep tr.view h in
        let ent = entries_by m w q ty z e deep tr.view h Text i in
        let used = text_used m w after q (4 + z) tr.view fit lat ent in
        let below : m.index (u32_at s (p + 10)) < u' = fresh (u32_at s (p + 10)) used right.1 in
        let number : u32_at t (q + 10) ≡ m.index (u32_at s (p + 10)) = sym (num_drop t q 4 10) ∙ text_number m w after q (4 + z) tr.view fit lat ent (omega arith) (omega arith) in
        let shape = label_shape ty c in
        let one : count_of (shape_of ty) s p z ≡ 1 = ap₂ (λ (x : Shape) (n : ℕ). count_of x s p n) shape ten ∙ label_one s p in
        let one₁ : count_of (shape_of ty) t q z ≡ 1 = ap₂ (λ (x : Shape) (n : ℕ). count_of x t q n) shape ten ∙ label_one t q in
        cells_then (q + (4 + z)) (text_header m w q ty z e deep tr.view h i) zero-level (omega arith) (omega arith)
        (ap₂ (λ (x : Shape) (n : ℕ). map (cell_reading t) (cells_of t x q n)) shape ten
        ∙ text_moved m.index m.byte s t p q (λ k a b. text_same m w after q (4 + z) tr.view fit lat ent k (omega arith) (inl b)) number (view_byte m w after q (4 + z) Text tr.view ent fit lat 10 (omega arith))
        ∙ sym (ap₂ (λ (x : Shape) (n : ℕ). map (retexted_cell m.index m.byte) (map (cell_reading s) (cells_of s x p n))) shape ten))
        (subst (Every (Says m.Used)) (sym (ap₂ (λ (x : Shape) (n : ℕ). cells_of s x p n) shape ten)) (label_says m.Used s p used))
        (next 0 (q + (4 + z)) (level_same (λ x. omega arith) (λ x. omega arith) ∙ ap (λ (n : ℕ). n + 1) zero-level) (subst (λ (n : ℕ). Inside s u to n e) zero-level (past.else (λ x. omega arith) (λ x. omega arith))) (text_next m w q ty z e deep tr.view h i))

    -- ---- it stays
    module _ (i : fate_of w ty ≡ Stays) (no_text : kind_of l ≡ 0x0010 → ty ≡ 0x00FD → ⊥) where
      abbrev e₁ : ℕ
      e₁ = q + (4 + z)

      header₁ : header_at t q ≡ Record ty z e₁
      header₁ = kept_header m w q ty z e deep tr.view h i

      view₁ : View m after e₁
      view₁ = kept_next m w q ty z e deep tr.view h i

      same₁ : Same (drop p s) (drop q t) 0 (4 + z)
      same₁ = kept_same m w q ty z e deep tr.view h i

      low : p + (4 + z) ≤ length s
      low = fits m w q ty z e deep tr.view h

      same_count : count_of (shape_of ty) t q z ≡ count_of (shape_of ty) s p z
      same_count = count_moved s t p q z low view₁.within same₁ (shape_of ty)

      -- the units of its text result: its records stay side by side, and no CONTINUE comes after them
      module _ (zero-level : l ≡ 0) (some : 0 < count_of (shape_of ty) s p z) (has : has_text s ty p ≡ true) where
        formula : ty ≡ 0x0006
        formula = has_formula s ty p has

        after_spot : after ≡ spot e 1 0x0010
        after_spot =
            spot_is after e 1 0x0010 (after_at s w ty e) (level_same (λ x. let f = formula in omega arith) (λ x. let f = formula in omega arith) ∙ ap (λ (n : ℕ). n + 1) zero-level)
            (after_kind s w ty e deep ∙ tr.kind) (after_gone s w ty e ∙ ap parts i)

        module _ (us : List ℕ) (d : Cursor) (x : text_of s p e ≡ got us d) where
          group : Followed m 1 0x0010 e d.end e₁
          group = follow m 1 0x0010 (λ n. omega arith) (λ _. refl) e d.end e₁ (subst (λ (o : Spot). View m o e₁) after_spot view₁) (text_chain s p e us d x)

          end_is : e ≡ p + (4 + z)
          end_is = let o = whole s p ty z e h in omega arith

          free : continues t (q + (4 + z + group.size)) ≡ false
          free =
              let place : e₁ + group.size ≡ q + (4 + z + group.size) = omega arith in
              subst (λ (n : ℕ). continues t n ≡ false) place
              (free_inside (suc (length s - d.end)) (spot d.end 1 0x0010) 0 (e₁ + group.size) (omega arith)
              record {
                level = refl;
                kind = refl;
                inside = inside_plain s u to 0 (text_chain s p e us d x) (subst (λ (n : ℕ). Inside s u to n e) zero-level (past.else (λ o. let f = formula in omega arith) (λ o. let f = formula in omega arith)));
                view = group.view;
              }
              (λ _. text_alone s p e us d x))

          same_text : (x₀ : Got (List ℕ)) → text_of (drop p s) 0 (4 + z) ≡ x₀ → list_of (text_of t q e₁) ≡ us
          same_text (got us₀ d₀) j =
              let moved = text-result-moved s t p q (4 + z) group.size us d (sym (ap (text_of s p) end_is) ∙ x) (let o = group.at in let k = end_is in omega arith)
              (same_on s t p q (4 + z) group.size same₁ (subst (λ (o : ℕ). Same (drop o s) (drop e₁ t) 0 group.size) end_is group.same))
              (let o = group.view.within in omega arith) free us₀ d₀ j in
              let zero-p : p + 0 ≡ p = omega arith in
              let zero-q : q + 0 ≡ q = omega arith in
              let new : text_of t q e₁ ≡ got us₀ (later_cursor q d₀) = sym (text_drop t q 0 (4 + z) ∙ ap (λ (n : ℕ). text_of t n e₁) zero-q) ∙ ap (later_got q) moved in
              let old-is : got us₀ (later_cursor p d₀) ≡ got us d = ap (later_got p) (sym j) ∙ text_drop s p 0 (4 + z) ∙ ap (λ (n : ℕ). text_of s n (p + (4 + z))) zero-p ∙ sym (ap (text_of s p) end_is) ∙ x in
              ap list_of new ∙ ap list_of old-is
          same_text (refused n o) j =
              let zero-p : p + 0 ≡ p = omega arith in
              let old-is : refused n (p + o) ≡ got us d = ap (later_got p) (sym j) ∙ text_drop s p 0 (4 + z) ∙ ap (λ (n : ℕ). text_of s n (p + (4 + z))) zero-p ∙ sym (ap (text_of s p) end_is) ∙ x in
              absurd (refused_not old-is)

        shown_by : (x : Got (List ℕ)) → text_of s p e ≡ x → Passes x → text_after t q ≡ text_after s p
        unfolding text_after
        shown_by (got us d) x _ = ap (on_formula t q) header₁ ∙ same_text us d x (text_of (drop p s) 0 (4 + z)) refl ∙ sym (ap (on_formula s p) h ∙ ap list_of x)
        shown_by (refused n o) x f = absurd f

        shown : text_after t q ≡ text_after s p
        shown = shown_by (text_of s p e) refl (inside_text s u p ty z e 0 some has to (subst (λ (n : ℕ). Inside s u to n p) zero-level tr.inside) h)

      -- passed over in both
      skip_read : (ty ≡ 0x0809 → ⊥) → (ty ≡ 0x000A → ⊥) → (l ≡ 0 → count_of (shape_of ty) s p z ≡ 0) → Reads p l q
      skip_read a b none =
          moves p l q e l e₁ (list_skip s p l ty z e h a b none) (list_skip t q l ty z e₁ header₁ a b (λ j. same_count ∙ none j)) (next l e₁ (level_same a b) (past.else a b) view₁)

      plain_read : (ty ≡ 0x0809 → ⊥) → (ty ≡ 0x000A → ⊥) → (b : Bool) → eqb l 0 ≡ b → (c : Bool) → ltb 0 (count_of (shape_of ty) s p z) ≡ c → Reads p l q
      plain_read a b true j true k =
          let zero-level = eqb-true l 0 j in
          let some = ltb-true 0 (count_of (shape_of ty) s p z) k in
          let no = no_text (ap kind_of zero-level) in
          let sc = same_count in
          cells_then e₁ header₁ zero-level some (omega arith)
          (cells_moved s t p q z low view₁.within same₁ ty (whole s p ty z e h).size (shown zero-level (omega arith)) m.index m.byte no
          (λ n x. view_byte m w after q (4 + z) Stays tr.view (entries_by m w q ty z e deep tr.view h Stays i) (fits m w q ty z e deep tr.view h) (later m w q ty z e deep tr.view h) n x))
          (plain_says m.Used s p ty z no)
          (next 0 e₁ (level_same a b ∙ ap (λ (n : ℕ). n + 1) zero-level) (subst (λ (n : ℕ). Inside s u to n e) zero-level (past.else a b)) view₁)
      plain_read a b true j false k = skip_read a b (λ _. let n = ltb-false 0 (count_of (shape_of ty) s p z) k in omega arith)
      plain_read a b false j c k = skip_read a b (λ x. absurd (eqb-false l 0 j x))

      bof_read : ty ≡ 0x0809 → (b : Bool) → ltb l 3 ≡ b → Reads p l q
      bof_read c true j =
          moves p l q e (l + 1) e₁ (list_bof s p l ty z e h c (ltb-true l 3 j)) (list_bof t q l ty z e₁ header₁ c (ltb-true l 3 j))
          (next (l + 1) e₁ (after_bof s w ty e c ∙ ap (λ (n : ℕ). n + 1) tr.level) (past.bof c) view₁)
      bof_read c false j = stops p l q (list_deep s p l ty z e h c (ltb-false l 3 j)) (list_deep t q l ty z e₁ header₁ c (ltb-false l 3 j))

      eof_read : ty ≡ 0x000A → (b : Bool) → eqb l 0 ≡ b → Reads p l q
      eof_read c true j = stops p l q (list_end s p l ty z e h c (eqb-true l 0 j)) (list_end t q l ty z e₁ header₁ c (eqb-true l 0 j))
      eof_read c false j =
          let some = eqb-false l 0 j in
          moves p l q e (l - 1) e₁ (list_back s p l ty z e h c some) (list_back t q l ty z e₁ header₁ c some) (next (l - 1) e₁ (after_eof s w ty e c ∙ back w.level l tr.level some) (past.eof c some) view₁)
        where
          back : (a b : ℕ) → a ≡ b + 1 → (b ≡ 0 → ⊥) → a - 1 ≡ b - 1 + 1
          back a b i n = omega arith

      stays_read : Reads p l q
      stays_read = by (eqb ty 0x0809) refl
        where
          rest : (ty ≡ 0x0809 → ⊥) → (b : Bool) → eqb ty 0x000A ≡ b → Reads p l q
          rest a true j = eof_read (eqb-true ty 0x000A j) (eqb l 0) refl
          rest a false j = plain_read a (eqb-false ty 0x000A j) (eqb l 0) refl (ltb 0 (count_of (shape_of ty) s p z)) refl

          by : (b : Bool) → eqb ty 0x0809 ≡ b → Reads p l q
          by true j = bof_read (eqb-true ty 0x0809 j) (ltb l 3) refl
          by false j = rest (eqb-false ty 0x0809 j) (eqb ty 0x000A) refl

    record_by : (x : Fate) → fate_of w ty ≡ x → Turns w (kind_of l) ty x → Reads p l q
    record_by Stays i f = stays_read i f.1
    record_by Goes i f = goes_by i f
    record_by Text i f = text_read i (kind_sheet l f.0) f.1
    record_by Table i f = absurd f
    record_by Sheet i f = absurd f

    record_read : Reads p l q
    record_read = record_by (fate_of w ty) refl (turns w (kind_of l) ty (λ j. tr.kind ∙ kind_top l (sym tr.level ∙ j)) (λ j. kind_chart l (λ x. j (tr.level ∙ x))) (kind_later l))

  header_read : (w : Spot) (l q : ℕ) → Tracks w l q → Again w → (x : Header) → header_at s w.at ≡ x → Reads w.at l q
  header_read w l q tr again (Record ty z e) h = record_read w l q tr again ty z e h
  header_read w l q tr again Cut h = absurd ((inside_there s u to l w.at tr.inside).0 h)
  header_read w l q tr again End h = absurd ((inside_there s u to l w.at tr.inside).1 h)

  walk_read : (n : ℕ) (w : Spot) (l q : ℕ) → length s - w.at < n → Tracks w l q → Reads w.at l q
  walk_read zero w l q b tr = absurd (omega arith)
  walk_read (suc n) w l q b tr = header_read w l q tr (λ x k r less tr'. walk_read n x k r (omega arith) tr') (header_at s w.at) refl

  pub cells_read : (w : Spot) (l q : ℕ) → Tracks w l q → Reads w.at l q
  cells_read w l q tr = walk_read (suc (length s - w.at)) w l q (omega arith) tr
