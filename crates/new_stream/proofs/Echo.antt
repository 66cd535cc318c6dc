-- The entries of the new stream, one after the other, beside those of the old one. Assumes nothing.
use Prim.Native.Nat.{ℕ, ◌+◌, ◌≤◌, ◌<◌}
use mathlib.Core.Path.{◌≡◌, refl, sym, ap, ap₂, ◌∙◌, subst}
use mathlib.Core.List.{List, ◌∷◌}
use mathlib.Core.Bool.{Bool, true, false}
use mathlib.Core.Logic.{inl}
use native.Mathlib.Omega.{arith}
use lib.ListN.{length, take}
use lib.Seq.{take_at}
use lib.Dec.{eqb}
use borrow.Author.Tests.{eqb-true, eqb-false}
use Rattle.steps.specs.Choice.{pick}
use Rattle.steps.proofs.Choice.{pick_same}
use Rattle.byte_numbers.specs.Bytes.{u32_at, bytes_at}
use Rattle.record.specs.declared.Header.TheVariants.{Record}
use Rattle.record.specs.Record.{header_at}
use Rattle.record.proofs.Laws.{whole}
use Rattle.substream.specs.Substream.{kind_at}
use Rattle.record_chain.specs.Chain.{here, on}
use Rattle.moved_records.proofs.Moved.{num_moved}
use Rattle.new_stream.specs.declared.Spot.{Spot}
use Rattle.new_stream.specs.declared.Fate.{Fate}
use Rattle.new_stream.specs.declared.Entry.{Entry}
use Rattle.new_stream.specs.declared.Fate.TheVariants.{Stays, Goes, Table, Text, Sheet}
use Rattle.new_stream.specs.Entries.{fate_of, parts, level_after, spot_after, entries_from}
use Rattle.new_stream.specs.Compact.{new_bytes}
use Rattle.new_stream.specs.Parts.{Given, View}
use Rattle.new_stream.proofs.Echoed.{Echoes, gone, part, kept, label, bound, tabled, Matches, Echo}
use Rattle.new_stream.specs.Claims.{Row, Standing, TableAt}
use Rattle.new_stream.proofs.Entries.{entries_record, entries_bof}
use Rattle.new_stream.proofs.Written.{new_size_lem, view_split}
use Rattle.new_stream.proofs.Fates.{after_at, after_gone, after_kind, after_opens, after_plain, after_bof, marks_stay}
use Rattle.new_stream.proofs.Records.{fits, later, entries_by, kept_header, text_header, bound_header, opened_at, bof_same}

-- two spots alike send a record the same way
pub fate_same : (x w : Spot) (ty : ℕ) → x.level ≡ w.level → x.kind ≡ w.kind → (ty ≡ 0x003C → x.gone ≡ w.gone) → fate_of x ty ≡ fate_of w ty
unfolding fate_of
fate_same x w ty l k g =
    rw (l, k) (pick_same (eqb ty 0x003C) _ _ _ _ (λ i. ap (λ (b : Bool). pick b Goes Stays) (g (eqb-true ty 0x003C i))) (λ _. refl))

level_after_lem : (a b ty : ℕ) → a ≡ b → level_after a ty ≡ level_after b ty
level_after_lem a b ty h = ap (λ (n : ℕ). level_after n ty) h

module _ (m : Given) (w : Spot) (q ty z e : ℕ) (inside : w.level ≡ 0 → ⊥) (v : View m w q) (h : header_at m.s w.at ≡ Record ty z e) where
  abbrev next : Spot
  next = spot_after m.s w ty e

  -- it is gone
  pub echo_gone : fate_of w ty ≡ Goes → (ty ≡ 0x0809 → ⊥) → (ty ≡ 0x000A → ⊥) → Echo m next q → Echo m w q
  echo_gone i a b ec x mx =
      subst (λ (l : List Entry). Echoes m q l (entries_from m.t x)) (sym (entries_by m w q ty z e inside v h Goes i))
      (gone (ec x record {
        at = mx.at;
        level = mx.level ∙ sym (after_plain m.s w ty e a b);
        kind = mx.kind ∙ sym (after_kind m.s w ty e inside);
        gone = λ g. absurd (never_gone (after_gone m.s w ty e ∙ ap parts i) g);
      }))
    where
      never_gone : {b : Bool} → b ≡ true → b ≡ false → ⊥
      never_gone f g = let z : ◌≡◌ {A = ℕ} 0 1 = cc in omega arith

  -- a record of the new stream too, that isn't gone
  module _ (e₁ : ℕ) (h₁ : header_at m.t q ≡ Record ty z e₁) (f : Fate) (is : fate_of w ty ≡ f) (stay : parts f ≡ false) (cont : ty ≡ 0x003C → w.gone ≡ false) (x : Spot) (mx : Matches x w q) where
    fate_is : fate_of x ty ≡ f
    fate_is = fate_same x w ty mx.level mx.kind (λ c. mx.gone (cont c) ∙ sym (cont c)) ∙ is

    deep : x.level ≡ 0 → ⊥
    deep i = inside (sym mx.level ∙ i)

    entries_new : entries_from m.t x ≡ record { at = q; size = 4 + z; fate = f } ∷ entries_from m.t (spot_after m.t x ty e₁)
    entries_new =
        entries_record m.t x ty z e₁ (ap (header_at m.t) mx.at ∙ h₁) deep
        ∙ ap₂ (λ (n : ℕ) (f : Fate). record { at = n; size = 4 + z; fate = f } ∷ entries_from m.t (spot_after m.t x ty e₁)) mx.at fate_is

    matches_next : Matches (spot_after m.t x ty e₁) next e₁
    unfolding spot_after
    matches_next = record {
      at = refl;
      level = level_after_lem x.level w.level ty mx.level;
      kind = after_kind m.t x ty e₁ deep ∙ mx.kind ∙ sym (after_kind m.s w ty e inside);
      gone = λ _. ap parts fate_is ∙ stay;
    }

  -- it stays
  pub echo_kept : fate_of w ty ≡ Stays → (ty ≡ 0x003C → w.gone ≡ false) → Echo m next (q + (4 + z)) → Echo m w q
  echo_kept i cont ec x mx =
      let h₁ = kept_header m w q ty z e inside v h i in
      subst (λ (l : List Entry). Echoes m q l (entries_from m.t x)) (sym (entries_by m w q ty z e inside v h Stays i))
      (subst (Echoes m q (record { at = w.at; size = 4 + z; fate = Stays } ∷ entries_from m.s next)) (sym (entries_new (q + (4 + z)) h₁ Stays i refl cont x mx))
      (kept (omega arith) (ec (spot_after m.t x ty (q + (4 + z))) (matches_next (q + (4 + z)) h₁ Stays i refl cont x mx))))

  -- what is written of it stands in the new stream
  bytes_new : (f : Fate) → fate_of w ty ≡ f → length (new_bytes m.s m.T m.index m.place w.at (4 + z) f) ≡ 4 + z
      → bytes_at m.t q (4 + z) ≡ new_bytes m.s m.T m.index m.place w.at (4 + z) f
  unfolding bytes_at
  bytes_new f i n =
      ap (take (4 + z)) (view_split m w next q (4 + z) f v (entries_by m w q ty z e inside v h f i) (fits m w q ty z e inside v h) (later m w q ty z e inside v h))
      ∙ take_at (new_bytes m.s m.T m.index m.place w.at (4 + z) f) _ (4 + z) n

  old_size : length (bytes_at m.s w.at (4 + z)) ≡ 4 + z
  old_size = new_size_lem m.s m.T m.index m.place w.at (4 + z) (fits m w q ty z e inside v h) Stays

  -- it gets a new index
  pub echo_text : fate_of w ty ≡ Text → (ty ≡ 0x003C → ⊥) → 10 ≤ z → u32_at m.t (q + 10) ≡ m.index (u32_at m.s (w.at + 10)) → Echo m next (q + (4 + z)) → Echo m w q
  echo_text i c ten number ec x mx =
      let h₁ = text_header m w q ty z e inside v h i in
      let o = old_size in
      subst (λ (l : List Entry). Echoes m q l (entries_from m.t x)) (sym (entries_by m w q ty z e inside v h Text i))
      (subst (Echoes m q (record { at = w.at; size = 4 + z; fate = Text } ∷ entries_from m.s next)) (sym (entries_new (q + (4 + z)) h₁ Text i refl (λ y. absurd (c y)) x mx))
      (label (bytes_at m.s w.at (4 + z)) (omega arith) (omega arith)
      (bytes_new Text i (new_size_lem m.s m.T m.index m.place w.at (4 + z) (fits m w q ty z e inside v h) Text)) number
      (ec (spot_after m.t x ty (q + (4 + z))) (matches_next (q + (4 + z)) h₁ Text i refl (λ y. absurd (c y)) x mx))))

  -- it gets a new position
  pub echo_sheet : fate_of w ty ≡ Sheet → (ty ≡ 0x003C → ⊥) → 8 ≤ z → u32_at m.t (q + 4) ≡ m.place (u32_at m.s (w.at + 4)) → Echo m next (q + (4 + z)) → Echo m w q
  echo_sheet i c eight number ec x mx =
      let h₁ = bound_header m w q ty z e inside v h i in
      let o = old_size in
      subst (λ (l : List Entry). Echoes m q l (entries_from m.t x)) (sym (entries_by m w q ty z e inside v h Sheet i))
      (subst (Echoes m q (record { at = w.at; size = 4 + z; fate = Sheet } ∷ entries_from m.s next)) (sym (entries_new (q + (4 + z)) h₁ Sheet i refl (λ y. absurd (c y)) x mx))
      (bound (bytes_at m.s w.at (4 + z)) (omega arith) (omega arith)
      (bytes_new Sheet i (new_size_lem m.s m.T m.index m.place w.at (4 + z) (fits m w q ty z e inside v h) Sheet)) number
      (ec (spot_after m.t x ty (q + (4 + z))) (matches_next (q + (4 + z)) h₁ Sheet i refl (λ y. absurd (c y)) x mx))))

-- ---- a BOF
entries_opening : (s : List ℕ) (x : Spot) (e : ℕ) → header_at s x.at ≡ Record 0x0809 16 e → entries_from s x ≡ record { at = x.at; size = 20; fate = Stays } ∷ entries_from s (spot_after s x 0x0809 e)
entries_opening s x e h = by (eqb x.level 0) refl ∙ ap (λ (f : Fate). record { at = x.at; size = 20; fate = f } ∷ entries_from s (spot_after s x 0x0809 e)) (marks_stay x 0x0809 (inl refl))
  where
    by : (b : Bool) → eqb x.level 0 ≡ b → entries_from s x ≡ record { at = x.at; size = 20; fate = fate_of x 0x0809 } ∷ entries_from s (spot_after s x 0x0809 e)
    by true i = entries_bof s x 0x0809 16 e h (eqb-true x.level 0 i) refl
    by false i = entries_record s x 0x0809 16 e h (eqb-false x.level 0 i)

pub echo_bof : (m : Given) (w : Spot) (q : ℕ) (v : View m w q) (h : header_at m.s w.at ≡ Record 0x0809 16 (w.at + 20)) → header_at m.t q ≡ Record 0x0809 16 (q + 20) → Echo m (opened_at m w) (q + 20) → Echo m w q
echo_bof m w q v h h₁ ec x mx =
    subst (λ (l : List Entry). Echoes m q l (entries_from m.t x)) (sym (entries_opening m.s w (w.at + 20) h))
    (subst (Echoes m q (record { at = w.at; size = 20; fate = Stays } ∷ entries_from m.s (opened_at m w)))
    (sym (entries_opening m.t x (q + 20) (ap (header_at m.t) mx.at ∙ h₁) ∙ ap (λ (n : ℕ). record { at = n; size = 20; fate = Stays } ∷ entries_from m.t (spot_after m.t x 0x0809 (q + 20))) mx.at))
    (kept (omega arith) (ec (spot_after m.t x 0x0809 (q + 20)) record {
      at = after_at m.t x 0x0809 (q + 20);
      level = after_bof m.t x 0x0809 (q + 20) refl ∙ ap (λ (n : ℕ). n + 1) mx.level ∙ sym (after_bof m.s w 0x0809 (w.at + 20) refl);
      kind = kinds (eqb w.level 0) refl;
      gone = λ _. after_gone m.t x 0x0809 (q + 20) ∙ ap parts (marks_stay x 0x0809 (inl refl));
    })))
  where
    kinds : (b : Bool) → eqb w.level 0 ≡ b → (spot_after m.t x 0x0809 (q + 20)).kind ≡ (opened_at m w).kind
    kinds true i =
        let l = eqb-true w.level 0 i in
        after_opens m.t x 0x0809 (q + 20) (mx.level ∙ l) ∙ ap (kind_at m.t) mx.at ∙ sym (num_moved m.s m.t w.at q 2 6 20 (bof_same m w q v h) (omega arith))
        ∙ sym (after_opens m.s w 0x0809 (w.at + 20) l)
    kinds false i =
        let l = eqb-false w.level 0 i in
        after_kind m.t x 0x0809 (q + 20) (λ y. l (sym mx.level ∙ y)) ∙ mx.kind ∙ sym (after_kind m.s w 0x0809 (w.at + 20) l)

-- ---- the string table
pub row_low : (t : List ℕ) {a b : ℕ} → Row t a b → a ≤ b
row_low t here = omega arith
row_low t (on {x = x} {e = e} {y = y} h r) = let w = whole t x 0x003C h.size e h.is in let l = row_low t r in omega arith

pub continue_goes : (w : Spot) → w.gone ≡ true → fate_of w 0x003C ≡ Goes
unfolding fate_of pick
continue_goes w g = rw g refl

-- the CONTINUEs of the new table
row_parts : (m : Given) (q b : ℕ) (l : List Entry) (L K : ℕ) → (L ≡ 0 → ⊥) → b ≤ q → (x : Spot) (a : ℕ) → x.at ≡ a → x.level ≡ L → x.kind ≡ K → x.gone ≡ true → Row m.t a b
    → ((y : Spot) → y.at ≡ b → y.level ≡ L → y.kind ≡ K → Echoes m q l (entries_from m.t y)) → Echoes m q l (entries_from m.t x)
row_parts m q b l L K some low x a i j k g here f = f x i j k
row_parts m q b l L K some low x a i j k g (on {e = e} h r) f =
    let deep : x.level ≡ 0 → ⊥ = λ y. some (sym j ∙ y) in
    let w = whole m.t a 0x003C h.size e h.is in
    let o = row_low m.t r in
    subst (Echoes m q l)
    (sym (entries_record m.t x 0x003C h.size e (ap (header_at m.t) i ∙ h.is) deep ∙ ap (λ (f : Fate). record { at = x.at; size = 4 + h.size; fate = f } ∷ entries_from m.t (spot_after m.t x 0x003C e)) (continue_goes x g)))
    (part (omega arith)
    (row_parts m q b l L K some low (spot_after m.t x 0x003C e) e (after_at m.t x 0x003C e) (after_plain m.t x 0x003C e (λ y. omega arith) (λ y. omega arith) ∙ j) (after_kind m.t x 0x003C e deep ∙ k)
    (after_gone m.t x 0x003C e ∙ ap parts (continue_goes x g)) r f))

pub echo_table : (m : Given) (w : Spot) (q z e n : ℕ) (inside : w.level ≡ 0 → ⊥) (v : View m w q) (h : header_at m.s w.at ≡ Record 0x00FC z e) → fate_of w 0x00FC ≡ Table
    → 0 < length m.T → Standing m.t m.T q → (at : TableAt m.t q (length m.T) n) → Row m.t (q + 4 + at.body) (q + length m.T)
    → ((y : Spot) → y.at ≡ q + length m.T → y.level ≡ w.level → y.kind ≡ w.kind → Echoes m (q + length m.T) (entries_from m.s (spot_after m.s w 0x00FC e)) (entries_from m.t y)) → Echo m w q
echo_table m w q z e n inside v h i some st at row ec x mx =
    let deep : x.level ≡ 0 → ⊥ = λ y. inside (sym mx.level ∙ y) in
    let fate : fate_of x 0x00FC ≡ Table = fate_same x w 0x00FC mx.level mx.kind (λ c. absurd (omega arith)) ∙ i in
    subst (λ (l : List Entry). Echoes m q l (entries_from m.t x)) (sym (entries_by m w q 0x00FC z e inside v h Table i))
    (subst (Echoes m q (record { at = w.at; size = 4 + z; fate = Table } ∷ entries_from m.s (spot_after m.s w 0x00FC e)))
    (sym (entries_record m.t x 0x00FC at.body (q + 4 + at.body) (ap (header_at m.t) mx.at ∙ at.header) deep
    ∙ ap₂ (λ (n : ℕ) (f : Fate). record { at = n; size = 4 + at.body; fate = f } ∷ entries_from m.t (spot_after m.t x 0x00FC (q + 4 + at.body))) mx.at fate))
    (tabled st.rest some st.is
    (row_parts m (q + length m.T) (q + length m.T) (entries_from m.s (spot_after m.s w 0x00FC e)) w.level w.kind inside (omega arith) (spot_after m.t x 0x00FC (q + 4 + at.body)) (q + 4 + at.body)
    (after_at m.t x 0x00FC (q + 4 + at.body)) (after_plain m.t x 0x00FC (q + 4 + at.body) (λ y. omega arith) (λ y. omega arith) ∙ mx.level)
    (after_kind m.t x 0x00FC (q + 4 + at.body) deep ∙ mx.kind) (after_gone m.t x 0x00FC (q + 4 + at.body) ∙ ap parts fate) row ec)))
