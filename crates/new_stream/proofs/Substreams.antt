-- A substream that passes in the old stream passes in the new one, and ends where the new stream goes on with what stood after it. Assumes nothing.
use Prim.Native.Nat.{ℕ, zero, suc, ◌+◌, ◌-◌, ◌^◌, ◌≤◌, ◌<◌}
use mathlib.Core.Path.{◌≡◌, refl, sym, ap, ◌∙◌, subst}
use mathlib.Core.List.{List}
use mathlib.Core.Bool.{Bool, true, false, ◌&&◌}
use mathlib.Core.Logic.{◌⊎◌, inl, inr}
use native.Mathlib.Omega.{arith}
use lib.ListN.{length, drop}
use lib.Dec.{eqb}
use borrow.Author.Tests.{eqb-true, eqb-false, eq-eqb}
use Rattle.std.specs.Prelude.{Option, Some, None, Result, Ok, Err}
use Rattle.refusal.specs.declared.Refusal.{Refusal}
use Rattle.refusal.specs.Refused.{refuse}
use Rattle.steps.proofs.Bools.{and_left, and_right}
use Rattle.steps.specs.Choice.{pick}
use Rattle.steps.proofs.Choice.{never, pick_any, pick_by, pick_true}
use Rattle.steps.specs.Walk.{more, stop}
use Rattle.byte_numbers.specs.Bytes.{u32_at}
use Rattle.byte_numbers.proofs.Laws.{Same}
use Rattle.record.specs.declared.Header.{Header}
use Rattle.record.specs.declared.Header.TheVariants.{Record, Cut, End}
use Rattle.record.specs.Record.{header_at}
use Rattle.record.proofs.Laws.{whole}
use Rattle.cell.specs.declared.Shape.TheVariants.{LABELSST}
use Rattle.cell.specs.Cells.{judge_of}
use Rattle.segments.specs.declared.Cursor.{Cursor}
use Rattle.segments.specs.Segments.{got, continues}
use Rattle.text_result.specs.TextResult.{has_text, text_of}
use Rattle.reading.proofs.Texts.{has_formula}
use Rattle.text_result.proofs.Local.{text_alone}
use Rattle.record_chain.proofs.Text.{text_chain}
use Rattle.passes_after.specs.Local.{Moves as GoesOn}
use Rattle.substream.specs.declared.Here.{Here}
use Rattle.substream.specs.declared.Step.{Step}
use Rattle.substream.specs.declared.Step.TheVariants.{More, Open, Close}
use Rattle.substream.specs.Substream.{past, past_parent, version_at, kind_at, inner_bof, on_judged, record_in, on_header, step_of, back, turn, records_from, substream_in}
use Rattle.substream.proofs.Laws.{Inner, Onward, go, left, falls, from_more, from_stop, onward}
use Rattle.moved_records.proofs.Later.{later_here, later_step}
use Rattle.moved_records.proofs.Views.{num_drop, record_drop}
use Rattle.moved_records.proofs.Texts.{has_drop}
use Rattle.moved_records.proofs.Moved.{num_moved, record_moved, record_blind, label_moved, label_index}
use Rattle.new_stream.specs.declared.Spot.{Spot}
use Rattle.new_stream.specs.declared.Fate.{Fate}
use Rattle.new_stream.specs.declared.Fate.TheVariants.{Stays, Goes, Table, Text, Sheet}
use Rattle.new_stream.specs.Entries.{fate_of, spot_after, parts}
use Rattle.new_stream.specs.Parts.{Given, View}
use Rattle.new_stream.proofs.Echoed.{Echo}
use Rattle.new_stream.proofs.Written.{text_same, text_number, text_used}
use Rattle.new_stream.proofs.Records.{spot, spot_is, fits, later, entries_by, gone_next, kept_next, kept_same, kept_header, kept_free, continues_not, text_next, text_header, opened_at, bof_next, bof_same, bof_header}
use Rattle.new_stream.proofs.Echo.{echo_gone, echo_kept, echo_text, echo_bof}
use Rattle.new_stream.proofs.Fates.{after_at, after_gone, after_kind, after_opens, after_plain, after_bof, after_eof, Turns, turns, bof_step, eof_step, continue_step, index_step, label_step, label_told, label_past, Plain, plain_step, Grouped, group_step, orphan_blind}
use Rattle.new_stream.proofs.Texts.{Followed, same_on, follow, text_moved}

-- a BOF opens a substream at its place, or is refused
abbrev Opening : ℕ → Result Step Refusal → Type 0
Opening z (Ok (More y)) = ⊥
Opening z (Ok (Open b)) = (b ≡ 0) × (z ≡ 16)
Opening z (Ok (Close y)) = ⊥
Opening z (Err r) = Unit {0}

opening : (s : List ℕ) (k u : ℕ) (v : Here) (ty z e : ℕ) → ty ≡ 0x0809 → v.at ≡ 0 → Opening z (record_in s k u v ty z e)
unfolding inner_bof
opening s k u v ty z e c i =
    subst (Opening z) (sym (bof_step s k u v ty z e c))
    (pick_by (Opening z) (eqb z 16) (λ j. pick_any (Opening z) _ tt (pick_any (Opening z) _ (i, eqb-true z 16 j) tt)) (λ _. tt))

-- where no record stands
cut_step : (s : List ℕ) (k u : ℕ) (v : Here) → header_at s v.at ≡ Cut → step_of s k u v ≡ refuse 2 v.at
unfolding step_of
cut_step s k u v h = ap (on_header s k u v) h

end_step : (s : List ℕ) (k u : ℕ) (v : Here) → header_at s v.at ≡ End → step_of s k u v ≡ refuse 4 (length s)
unfolding step_of
end_step s k u v h = ap (on_header s k u v) h

-- ---- a step that is told of the whole stream goes on there as it does here
moves_of : (p : ℕ) (y : Here) (x : Result Step Refusal) → later_step p x ≡ Ok (More y) → GoesOn x
moves_of p y (Ok (More v)) h = tt
moves_of p y (Ok (Open b)) h = tt
moves_of p y (Ok (Close e)) h = tt
moves_of p y (Err r) h = never (cc)

past_later : (p q n : ℕ) (x : Result Step Refusal) → later_step p x ≡ Ok (More (past (p + n))) → later_step q x ≡ Ok (More (past (q + n)))
past_later p q n (Ok (More v)) h =
    let i : ◌≡◌ {A = Here} (later_here p v) (past (p + n)) = cc in
    let a : p + v.at ≡ p + n = ap (λ (y : Here). y.at) i in
    let b : v.at ≡ n = omega arith in
    let o : v.orphan ≡ false = ap (λ (y : Here). y.orphan) i in
    λ j. (Ok (More (record { at = q + b j; orphan = o j })))
past_later p q n (Ok (Open b)) h = never (cc)
past_later p q n (Ok (Close e)) h = never (cc)
past_later p q n (Err r) h = never (cc)

module _ (m : Given) (u u' : ℕ) (fresh : (i : ℕ) → m.Used i → i < u → m.index i < u') (small : u' ≤ 256 ^ 4) where
  abbrev s : List ℕ
  s = m.s

  abbrev t : List ℕ
  t = m.t

  -- a record that gets a new index is right with it
  module _ (w : Spot) (q ty z e : ℕ) (inside : w.level ≡ 0 → ⊥) (v : View m w q) (h : header_at s w.at ≡ Record ty z e) (i : fate_of w ty ≡ Text) where
    pub text_right : (n : ℕ) → judge_of s LABELSST w.at z u ≡ Ok (Some n) → (judge_of t LABELSST q z u' ≡ Ok (Some n)) × (10 ≤ z) × (u32_at t (q + 10) ≡ m.index (u32_at s (w.at + 10)))
    text_right n j =
        let l = label_index s w.at z u n j in
        let fourteen : 14 ≤ 4 + z = omega arith in
        let below : m.index (u32_at s (w.at + 10)) < u' = fresh _ (text_used m w (spot_after s w ty e) q (4 + z) v (fits m w q ty z e inside v h) (later m w q ty z e inside v h) (entries_by m w q ty z e inside v h Text i)) l.1 in
        let number : u32_at t (q + 10) ≡ m.index (u32_at s (w.at + 10)) = sym (num_drop t q 4 10) ∙ text_number m w (spot_after s w ty e) q (4 + z) v (fits m w q ty z e inside v h) (later m w q ty z e inside v h) (entries_by m w q ty z e inside v h Text i) fourteen (omega arith) in
        (label_moved s t w.at q z u u' n (λ k a b. text_same m w (spot_after s w ty e) q (4 + z) v (fits m w q ty z e inside v h) (later m w q ty z e inside v h) (entries_by m w q ty z e inside v h Text i) k (omega arith) (inl b)) (omega arith) j, omega arith, number)

  -- ---- a walk
  pub record Landing (inner' : Inner) (w : Spot) (q f L K : ℕ) : Type 0 where
    pub end : ℕ
    pub ends : inner' q ≡ Ok end
    pub view : View m (spot f L K) end
    pub echo : Echo m (spot f L K) end → Echo m w q

  abbrev InnerMoves : Inner → Inner → ℕ → ℕ → Type 0
  InnerMoves inner inner' L K = (w : Spot) (q f : ℕ) → w.level ≡ L → w.kind ≡ K → View m w q → header_at s w.at ≡ Record 0x0809 16 (w.at + 20) → inner w.at ≡ Ok f → Landing inner' w q f L K

  module _ (inner inner' : Inner) (on : Onward inner s) (on' : Onward inner' t) (k L K : ℕ)
      (some : L ≡ 0 → ⊥) (top : L ≡ 1 → K ≡ k) (chart : (L ≡ 1 → ⊥) → k ≡ 0x0020) (later_kind : k ≡ 0x0005 → ⊥) (moves : InnerMoves inner inner' L K) (f : ℕ) where
    -- the walk of s is at v, that of t at v', and w is the spot of v
    pub record Tracks (v v' : Here) (w : Spot) : Type 0 where
      pub at : w.at ≡ v.at
      pub level : w.level ≡ L
      pub kind : w.kind ≡ K
      pub orphan : w.gone ≡ false → v.orphan ≡ v'.orphan
      pub view : View m w v'.at

    pub record Lands (v' : Here) (w : Spot) : Type 0 where
      pub end : ℕ
      pub ends : records_from inner' t k u' v' ≡ Ok end
      pub view : View m (spot f (L - 1) K) end
      pub free : (w.gone ≡ false → continues s w.at ≡ false) → continues t v'.at ≡ false
      pub echo : Echo m (spot f (L - 1) K) end → Echo m w v'.at

    abbrev Ending : Here → Type 0
    Ending v = records_from inner s k u v ≡ Ok f

    -- a step of s that goes on, or not
    stops_not : (v : Here) {r : Refusal} → Ending v → step_of s k u v ≡ Err r → ⊥
    stops_not v {r} h i = let j = from_stop inner s on k u v (Err r) (ap (turn inner) i) in never (cc)

    on_more : (v y : Here) → Ending v → step_of s k u v ≡ Ok (More y) → Ending y
    on_more v y h i = sym (from_more inner s on k u v y (ap (turn inner) i)) ∙ h

    less_more : (v y : Here) → step_of s k u v ≡ Ok (More y) → left s y < left s v
    less_more v y i = falls inner s on k u v y (ap (turn inner) i)

    abbrev Free : Here → Spot → Type 0
    Free v' w = (w.gone ≡ false → continues s w.at ≡ false) → continues t v'.at ≡ false

    lands_more : (v' y : Here) (w x : Spot) → step_of t k u' v' ≡ Ok (More y) → Lands y x → Free v' w → (Echo m x y.at → Echo m w v'.at) → Lands v' w
    lands_more v' y w x i l fr ec = record { end = l.end; ends = from_more inner' t on' k u' v' y (ap (turn inner') i) ∙ l.ends; view = l.view; free = fr; echo = λ e. ec (l.echo e) }

    abbrev Again : Here → Type 0
    Again v = (y y' : Here) (w : Spot) → left s y < left s v → Tracks y y' w → Ending y → Lands y' w

    module _ (v v' : Here) (w : Spot) (tr : Tracks v v' w) (en : Ending v) (again : Again v) (ty z e : ℕ) (h : header_at s w.at ≡ Record ty z e) where
      abbrev p : ℕ
      p = w.at

      abbrev q : ℕ
      q = v'.at

      abbrev after : Spot
      after = spot_after s w ty e

      inside : w.level ≡ 0 → ⊥
      inside i = some (sym tr.level ∙ i)

      old_step : step_of s k u v ≡ record_in s k u v ty z e
      unfolding step_of
      old_step = ap (on_header s k u v) (sym (ap (header_at s) tr.at) ∙ h)

      new_step : (e' : ℕ) → header_at t q ≡ Record ty z e' → step_of t k u' v' ≡ record_in t k u' v' ty z e'
      unfolding step_of
      new_step e' i = ap (on_header t k u' v') i

      end_is : e ≡ p + (4 + z)
      end_is = let i = whole s p ty z e h in omega arith

      kind_is : after.kind ≡ K
      kind_is = after_kind s w ty e inside ∙ tr.kind

      -- on to what comes after a record that is passed over
      tracks : (y y' : Here) → (ty ≡ 0x0809 → ⊥) → (ty ≡ 0x000A → ⊥) → y.at ≡ e → (after.gone ≡ false → y.orphan ≡ y'.orphan) → View m after y'.at → Tracks y y' after
      tracks y y' a b i o vw = record { at = after_at s w ty e ∙ sym i; level = after_plain s w ty e a b ∙ tr.level; kind = kind_is; orphan = o; view = vw }

      -- ---- it is gone
      goes_past : fate_of w ty ≡ Goes → (ty ≡ 0x0809 → ⊥) → (ty ≡ 0x000A → ⊥) → record_in s k u v ty z e ≡ Ok (More (past e)) → Lands v' w
      goes_past i a b j =
          let g : after.gone ≡ true = after_gone s w ty e ∙ ap parts i in
          let l = again (past e) v' after (less_more v (past e) (old_step ∙ j))
          (tracks (past e) v' a b refl (λ x. never (apart g x)) (gone_next m w q ty z e inside tr.view h i)) (on_more v (past e) en (old_step ∙ j)) in
          record { end = l.end; ends = l.ends; view = l.view; free = λ _. l.free (λ x. never (apart g x)); echo = λ ec. echo_gone m w q ty z e inside tr.view h i a b (l.echo ec) }
        where
          apart : after.gone ≡ true → after.gone ≡ false → ◌≡◌ {A = ℕ} 0 1
          apart g x = cc

      goes_continue : fate_of w ty ≡ Goes → ty ≡ 0x003C → (b : Bool) → v.orphan ≡ b → Lands v' w
      unfolding pick
      goes_continue i c true o = absurd (stops_not v en (old_step ∙ continue_step s k u v ty z e c ∙ ap (λ (b : Bool). pick b (refuse 7 v.at) (Ok (More (past e)))) o))
      goes_continue i c false o = goes_past i (λ x. omega arith) (λ x. omega arith) (continue_step s k u v ty z e c ∙ ap (λ (b : Bool). pick b (refuse 7 v.at) (Ok (More (past e)))) o)

      goes_lands : fate_of w ty ≡ Goes → (ty ≡ 0x003C) ⊎ (ty ≡ 0x020B) → Lands v' w
      goes_lands i (inl c) = goes_continue i c v.orphan refl
      goes_lands i (inr c) = goes_past i (λ x. omega arith) (λ x. omega arith) (index_step s k u v ty z e c)

      -- ---- it gets a new index
      text_by : fate_of w ty ≡ Text → k ≡ 0x0010 → ty ≡ 0x00FD → (x : Result (Option ℕ) Refusal) → judge_of s LABELSST p z u ≡ x → Lands v' w
      text_by i a b (Ok (Some n)) j =
          let old : step_of s k u v ≡ Ok (More (past_parent e)) = old_step ∙ label_step s k u v ty z e a b ∙ ap (on_judged s k v ty z e) (ap (λ (x : ℕ). judge_of s LABELSST x z u) (sym tr.at) ∙ j) ∙ label_past s k u v ty z e b in
          let new : step_of t k u' v' ≡ Ok (More (past_parent (q + (4 + z)))) =
          new_step _ (text_header m w q ty z e inside tr.view h i) ∙ label_step t k u' v' ty z (q + (4 + z)) a b ∙ ap (on_judged t k v' ty z (q + (4 + z))) (text_right w q ty z e inside tr.view h i n j).0 ∙ label_past t k u' v' ty z (q + (4 + z)) b in
          let right = text_right w q ty z e inside tr.view h i n j in
          lands_more v' (past_parent (q + (4 + z))) w after new
          (again (past_parent e) (past_parent (q + (4 + z))) after (less_more v _ old)
          (tracks (past_parent e) (past_parent (q + (4 + z))) (λ x. omega arith) (λ x. omega arith) refl (λ _. refl) (text_next m w q ty z e inside tr.view h i))
          (on_more v _ en old))
          (λ _. continues_not t q ty z (q + (4 + z)) (text_header m w q ty z e inside tr.view h i) (λ x. omega arith))
          (echo_text m w q ty z e inside tr.view h i (λ x. omega arith) right.1 right.2)
      text_by i a b (Err r) j = absurd (stops_not v en (old_step ∙ label_step s k u v ty z e a b ∙ ap (on_judged s k v ty z e) (ap (λ (x : ℕ). judge_of s LABELSST x z u) (sym tr.at) ∙ j)))
      text_by i a b (Ok None) j = absurd (label_told s p z u j)

      -- ---- it stays
      module _ (i : fate_of w ty ≡ Stays) (whole-orphan : ty ≡ 0x003C → w.gone ≡ false) (no_text : k ≡ 0x0010 → ty ≡ 0x00FD → ⊥) where
        abbrev said : Result Step Refusal
        said = record_in (drop p s) k u (record { at = 0; orphan = v.orphan }) ty z (4 + z)

        old_said : step_of s k u v ≡ later_step p said
        old_said =
            old_step ∙ ap (record_in s k u v ty z) end_is ∙ ap (λ (x : ℕ). record_in s k u (record { at = x; orphan = v.orphan }) ty z (p + (4 + z))) (sym tr.at)
            ∙ sym (record_drop s p k u v.orphan ty z (4 + z))

        same_orphan : record_in t k u (record { at = q; orphan = v.orphan }) ty z (q + (4 + z)) ≡ record_in t k u v' ty z (q + (4 + z))
        same_orphan = by (eqb ty 0x003C) refl
          where
            by : (b : Bool) → eqb ty 0x003C ≡ b → record_in t k u (record { at = q; orphan = v.orphan }) ty z (q + (4 + z)) ≡ record_in t k u v' ty z (q + (4 + z))
            by true c = ap (λ (o : Bool). record_in t k u (record { at = q; orphan = o }) ty z (q + (4 + z))) (tr.orphan (whole-orphan (eqb-true ty 0x003C c)))
            by false c = orphan_blind t k u q v.orphan v'.orphan ty z (q + (4 + z)) (eqb-false ty 0x003C c)

        abbrev SameText : Type 0
        SameText = k ≡ 0x0010 → has_text (drop p s) ty 0 ≡ true → (us : List ℕ) (d : Cursor) → text_of (drop p s) 0 (4 + z) ≡ got us d → text_of (drop q t) 0 (4 + z) ≡ got us d

        new_said : SameText → GoesOn said → step_of t k u' v' ≡ later_step q said
        new_said same_text moves-on =
            new_step _ (kept_header m w q ty z e inside tr.view h i)
            ∙ record_blind t k u' u v' ty z (q + (4 + z)) no_text
            ∙ sym same_orphan
            ∙ sym (record_moved s t p q z (kept_same m w q ty z e inside tr.view h i) k u v.orphan ty same_text moves-on)

        free₁ : Free v' w
        free₁ none = kept_free m w q ty z e inside tr.view h i whole-orphan none

        -- it is no FORMULA with a text result that is read
        no_group : (k ≡ 0x0010 → has_text s ty p ≡ false) → SameText
        no_group n a g us d j = let x : has_text s ty p ≡ true = sym (has_drop s p ty) ∙ g in let y = n a in never (cc)

        -- a record that is passed over
        plain_by : (ty ≡ 0x0809 → ⊥) → (ty ≡ 0x000A → ⊥) → (k ≡ 0x0010 → has_text s ty p ≡ false) → (x : Result Step Refusal) → said ≡ x → Plain (drop p s) k u (record { at = 0; orphan = v.orphan }) ty z (4 + z) x → Lands v' w
        plain_by a b n (Ok (More y)) j l =
            let old : step_of s k u v ≡ Ok (More (later_here p y)) = old_said ∙ ap (later_step p) j in
            let new : step_of t k u' v' ≡ Ok (More (later_here q y)) = new_said (no_group n) (subst GoesOn (sym j) tt) ∙ ap (later_step q) j in
            lands_more v' (later_here q y) w after new
            (again (later_here p y) (later_here q y) after (less_more v _ old)
            (tracks (later_here p y) (later_here q y) a b (ap (λ (x : ℕ). p + x) l ∙ sym end_is) (λ _. refl)
            (subst (View m after) (ap (λ (x : ℕ). q + x) (sym l)) (kept_next m w q ty z e inside tr.view h i)))
            (on_more v _ en old)) free₁
            (λ ec. echo_kept m w q ty z e inside tr.view h i whole-orphan (subst (Echo m after) (ap (λ (x : ℕ). q + x) l) ec))
        plain_by a b n (Err r) j l = absurd (stops_not v en (old_said ∙ ap (later_step p) j))
        plain_by a b n (Ok (Open c)) j l = absurd l
        plain_by a b n (Ok (Close c)) j l = absurd l

        -- a FORMULA with a text result that is read: its records stay side by side, and no CONTINUE comes after them in either stream
        module _ (a : k ≡ 0x0010) (g : has_text s ty p ≡ true) (us : List ℕ) (d : Cursor) (x : text_of s p e ≡ got us d) (old : step_of s k u v ≡ Ok (More (past d.end))) where
          formula : ty ≡ 0x0006
          formula = has_formula s ty p g

          after_spot : after ≡ spot e L K
          after_spot = spot_is after e L K (after_at s w ty e) (after_plain s w ty e (λ o. let y = formula in omega arith) (λ o. let y = formula in omega arith) ∙ tr.level) kind_is (after_gone s w ty e ∙ ap parts i)

          group : Followed m L K e d.end (q + (4 + z))
          group = follow m L K some (λ l. top l ∙ a) e d.end (q + (4 + z)) (subst (λ (o : Spot). View m o (q + (4 + z))) after_spot (kept_next m w q ty z e inside tr.view h i)) (text_chain s p e us d x)

          abbrev y' : Here
          y' = past (q + (4 + z + group.size))

          place : q + (4 + z) + group.size ≡ q + (4 + z + group.size)
          place = omega arith

          text_end : d.end ≡ p + (4 + z + group.size)
          text_end = let o = group.at in let j = end_is in omega arith

          beyond : Lands y' (spot d.end L K)
          beyond =
              again (past d.end) y' (spot d.end L K) (less_more v (past d.end) old)
              record { at = refl; level = refl; kind = refl; orphan = λ _. refl; view = subst (View m (spot d.end L K)) place group.view } (on_more v (past d.end) en old)

          same_bytes : Same (drop p s) (drop q t) 0 (4 + z + group.size)
          same_bytes = same_on s t p q (4 + z) group.size (kept_same m w q ty z e inside tr.view h i) (subst (λ (o : ℕ). Same (drop o s) (drop (q + (4 + z)) t) 0 group.size) end_is group.same)

          same_text : SameText
          same_text _ _ us₀ d₀ j =
              text_moved s t p q (4 + z) group.size us d (sym (ap (text_of s p) end_is) ∙ x) text_end same_bytes (let o = group.view.within in omega arith) (beyond.free (λ _. text_alone s p e us d x)) us₀ d₀ j

          told : later_step p said ≡ Ok (More (past (p + (4 + z + group.size))))
          told = sym old_said ∙ old ∙ ap (λ (n : ℕ). (Ok (More (past n)))) text_end

          group_lands : Lands v' w
          group_lands =
              lands_more v' y' w (spot d.end L K) (new_said same_text (moves_of p _ said told) ∙ past_later p q (4 + z + group.size) said told) beyond free₁
              (λ ec. echo_kept m w q ty z e inside tr.view h i whole-orphan (subst (λ (o : Spot). Echo m o (q + (4 + z))) (sym after_spot) (group.echo (subst (Echo m (spot d.end L K)) (sym place) ec))))

        group_by : k ≡ 0x0010 → has_text s ty p ≡ true → (x : Result Step Refusal) → record_in s k u v ty z e ≡ x → Grouped s k u v ty z e x → Lands v' w
        group_by a g (Ok (More y)) j l =
            group_lands a g l.units l.last (ap (λ (n : ℕ). text_of s n e) tr.at ∙ l.is) (old_step ∙ j ∙ (λ i. Ok (More (l.past i))))
        group_by a g (Err r) j l = absurd (stops_not v en (old_step ∙ j))
        group_by a g (Ok (Open c)) j l = absurd l
        group_by a g (Ok (Close c)) j l = absurd l

        -- EOF
        last_spot : ty ≡ 0x000A → e ≡ f → after ≡ spot f (L - 1) K
        last_spot c same = spot_is after f (L - 1) K (after_at s w ty e ∙ same) (after_eof s w ty e c ∙ ap (λ (x : ℕ). x - 1) tr.level) kind_is (after_gone s w ty e ∙ ap parts i)

        eof_by : ty ≡ 0x000A → (b : Bool) → eqb z 0 ≡ b → Lands v' w
        unfolding pick
        eof_by c true j =
            let old : step_of s k u v ≡ Ok (Close e) = old_step ∙ eof_step s k u v ty z e c ∙ ap (λ (b : Bool). pick b (Ok (Close e)) (refuse 6 v.at)) j in
            let new : step_of t k u' v' ≡ Ok (Close (q + (4 + z))) =
            new_step _ (kept_header m w q ty z e inside tr.view h i) ∙ eof_step t k u' v' ty z (q + (4 + z)) c ∙ ap (λ (b : Bool). pick b (Ok (Close (q + (4 + z)))) (refuse 6 v'.at)) j in
            let last : ◌≡◌ {A = Result ℕ Refusal} (Ok e) (Ok f) = sym (from_stop inner s on k u v (Ok e) (ap (turn inner) old)) ∙ en in
            let same : e ≡ f = cc in
            record {
              end = q + (4 + z);
              ends = from_stop inner' t on' k u' v' (Ok (q + (4 + z))) (ap (turn inner') new);
              view = subst (λ (x : Spot). View m x (q + (4 + z))) (last_spot c same) (kept_next m w q ty z e inside tr.view h i);
              free = free₁;
              echo = λ ec. echo_kept m w q ty z e inside tr.view h i whole-orphan (subst (λ (x : Spot). Echo m x (q + (4 + z))) (sym (last_spot c same)) ec);
            }
        eof_by c false j = absurd (stops_not v en (old_step ∙ eof_step s k u v ty z e c ∙ ap (λ (b : Bool). pick b (Ok (Close e)) (refuse 6 v.at)) j))

        -- BOF
        module _ (c : ty ≡ 0x0809) (g : ℕ) (size : z ≡ 16) (old : step_of s k u v ≡ Ok (Open (p + 0))) (new : step_of t k u' v' ≡ Ok (Open (q + 0))) (j : inner p ≡ Ok g) where
          header : header_at s p ≡ Record 0x0809 16 (p + 20)
          header =
              let x : e ≡ p + 20 = let y = end_is in omega arith in
              h ∙ ap (λ (n : ℕ). Record n z e) c ∙ ap (λ (n : ℕ). Record 0x0809 n e) size ∙ ap (Record 0x0809 16) x

          landing : Landing inner' w q g L K
          landing = moves w q g tr.level tr.kind tr.view header j

          old_go : go inner s k u v ≡ more (past g)
          old_go = ap (turn inner) old ∙ ap (λ (x : ℕ). back (inner x)) (let x : p + 0 ≡ p = omega arith in x) ∙ ap back j

          new_go : go inner' t k u' v' ≡ more (past landing.end)
          new_go = ap (turn inner') new ∙ ap (λ (x : ℕ). back (inner' x)) (let x : q + 0 ≡ q = omega arith in x) ∙ ap back landing.ends

          opens_lands : Lands v' w
          opens_lands =
              let l = again (past g) (past landing.end) (spot g L K) (falls inner s on k u v (past g) old_go)
              record { at = refl; level = refl; kind = refl; orphan = λ _. refl; view = landing.view }
              (sym (from_more inner s on k u v (past g) old_go) ∙ en) in
              record { end = l.end; ends = from_more inner' t on' k u' v' (past landing.end) new_go ∙ l.ends; view = l.view; free = free₁; echo = λ ec. landing.echo (l.echo ec) }

        opens_by : ty ≡ 0x0809 → z ≡ 16 → step_of s k u v ≡ Ok (Open (p + 0)) → step_of t k u' v' ≡ Ok (Open (q + 0)) → (a : Result ℕ Refusal) → inner p ≡ a → Lands v' w
        opens_by c size old new (Ok g) j = opens_lands c g size old new j
        opens_by c size old new (Err r) j =
            let x : go inner s k u v ≡ stop (Err r) = ap (turn inner) old ∙ ap (λ (x : ℕ). back (inner x)) (let x : p + 0 ≡ p = omega arith in x) ∙ ap back j in
            let y = from_stop inner s on k u v (Err r) x in
            never (cc)

        no_text_bof : ty ≡ 0x0809 → k ≡ 0x0010 → has_text s ty p ≡ false
        no_text_bof c _ = by (has_text s ty p) refl
          where
            by : (b : Bool) → has_text s ty p ≡ b → b ≡ false
            by true g = absurd (let o = has_formula s ty p g in omega arith)
            by false g = refl

        bof_by : ty ≡ 0x0809 → (x : Result Step Refusal) → said ≡ x → Opening z x → Lands v' w
        bof_by c (Ok (Open b)) j l = opens_by c l.1 (old_said ∙ ap (later_step p) j ∙ ap (λ (x : ℕ). (Ok (Open (p + x)))) l.0) (new_said (no_group (no_text_bof c)) (subst GoesOn (sym j) tt) ∙ ap (later_step q) j ∙ ap (λ (x : ℕ). (Ok (Open (q + x)))) l.0) (inner p) refl
        bof_by c (Err r) j l = absurd (stops_not v en (old_said ∙ ap (later_step p) j))
        bof_by c (Ok (More y)) j l = absurd l
        bof_by c (Ok (Close y)) j l = absurd l

        stays_lands : Lands v' w
        stays_lands = by (eqb ty 0x0809) refl
          where
            none : eqb k 0x0010 && has_text s ty p ≡ false → k ≡ 0x0010 → has_text s ty p ≡ false
            none j c = sym (ap (λ (b : Bool). b && has_text s ty p) (eq-eqb k 0x0010 c)) ∙ j

            grouped : (ty ≡ 0x0809 → ⊥) → (ty ≡ 0x000A → ⊥) → (b : Bool) → eqb k 0x0010 && has_text s ty p ≡ b → Lands v' w
            grouped a b true j =
                let c = eqb-true k 0x0010 (and_left (eqb k 0x0010) (has_text s ty p) j) in
                let g = and_right (eqb k 0x0010) (has_text s ty p) j in
                group_by c g (record_in s k u v ty z e) refl (group_step s k u v ty z e c (ap (has_text s ty) (sym tr.at) ∙ g))
            grouped a b false j =
                plain_by a b (none j) said refl (plain_step (drop p s) k u (record { at = 0; orphan = v.orphan }) ty z (4 + z) a b (λ c. has_drop s p ty ∙ none j c))

            rest : (ty ≡ 0x0809 → ⊥) → (b : Bool) → eqb ty 0x000A ≡ b → Lands v' w
            rest a true j = eof_by (eqb-true ty 0x000A j) (eqb z 0) refl
            rest a false j = grouped a (eqb-false ty 0x000A j) (eqb k 0x0010 && has_text s ty p) refl

            by : (b : Bool) → eqb ty 0x0809 ≡ b → Lands v' w
            by true j = bof_by (eqb-true ty 0x0809 j) said refl (opening (drop p s) k u (record { at = 0; orphan = v.orphan }) ty z (4 + z) (eqb-true ty 0x0809 j) refl)
            by false j = rest (eqb-false ty 0x0809 j) (eqb ty 0x000A) refl

      record_by : (x : Fate) → fate_of w ty ≡ x → Turns w k ty x → Lands v' w
      record_by Stays i l = stays_lands i l.0 l.1
      record_by Goes i l = goes_lands i l
      record_by Text i l = text_by i l.0 l.1 (judge_of s LABELSST p z u) refl
      record_by Table i l = absurd l
      record_by Sheet i l = absurd l

      record_lands : Lands v' w
      record_lands = record_by (fate_of w ty) refl (turns w k ty (λ l. tr.kind ∙ top (sym tr.level ∙ l)) (λ l. chart (λ x. l (tr.level ∙ x))) later_kind)

    -- ---- the whole walk, by what is left of s
    header_lands : (v v' : Here) (w : Spot) → Tracks v v' w → Ending v → Again v → (x : Header) → header_at s w.at ≡ x → Lands v' w
    header_lands v v' w tr en again (Record ty z e) h = record_lands v v' w tr en again ty z e h
    header_lands v v' w tr en again Cut h = absurd (stops_not v en (cut_step s k u v (sym (ap (header_at s) tr.at) ∙ h)))
    header_lands v v' w tr en again End h = absurd (stops_not v en (end_step s k u v (sym (ap (header_at s) tr.at) ∙ h)))

    walk_lands : (n : ℕ) (v v' : Here) (w : Spot) → left s v < n → Tracks v v' w → Ending v → Lands v' w
    walk_lands zero v v' w l tr en = absurd (omega arith)
    walk_lands (suc n) v v' w l tr en = header_lands v v' w tr en (λ y y' x less tr' en'. walk_lands n y y' x (omega arith) tr' en') (header_at s w.at) refl

    pub lands : (v v' : Here) (w : Spot) → Tracks v v' w → Ending v → Lands v' w
    lands v v' w tr en = walk_lands (suc (left s v)) v v' w (omega arith) tr en

  -- ---- a substream
  -- the spot after the BOF at w
  abbrev opened : Spot → Spot
  opened w = opened_at m w

  abbrev Moves : ℕ → Type 0
  Moves d =
      (k : ℕ) (w : Spot) (q f : ℕ) → (w.level ≡ 0 → kind_at s w.at ≡ k) → ((w.level ≡ 0 → ⊥) → k ≡ 0x0020) → (k ≡ 0x0005 → ⊥) → View m w q
      → header_at s w.at ≡ Record 0x0809 16 (w.at + 20) → substream_in d s u k w.at ≡ Ok f → Landing (substream_in d t u' k) w q f w.level (opened w).kind

  moves_in : (d : ℕ) → Moves d → Moves (suc d)
  unfolding substream_in
  moves_in d deeper k w q f top chart later_kind v h i =
      pick_by (λ (a : Result ℕ Refusal). a ≡ Ok f → Landing (substream_in (suc d) t u' k) w q f w.level (opened w).kind) (eqb (version_at s w.at) 0x0600)
      (λ version j. by version (lands (substream_in d s u 0x0020) (substream_in d t u' 0x0020) (onward d s u 0x0020) (onward d t u' 0x0020) k (w.level + 1) (opened w).kind
      (λ x. omega arith) (λ x. opens (omega arith)) (λ x. chart (λ y. x (omega arith))) later_kind inner_moves f (past_parent (w.at + 20)) (past_parent (q + 20)) (opened w)
      record { at = after_at s w 0x0809 (w.at + 20); level = after_bof s w 0x0809 (w.at + 20) refl; kind = refl; orphan = λ _. refl; view = bof_next m w q v h } j))
      (λ _ j. never (cc)) i
    where
      opens : w.level ≡ 0 → (opened w).kind ≡ k
      opens l = after_opens s w 0x0809 (w.at + 20) l ∙ top l

      spots : (x : Spot) (g : ℕ) → x.level ≡ w.level + 1 → (x.level ≡ 0 → ⊥) → x.kind ≡ (opened w).kind → spot g x.level (opened x).kind ≡ spot g (w.level + 1) (opened w).kind
      spots x g l some c = spot_is (spot g x.level (opened x).kind) g (w.level + 1) (opened w).kind refl l (after_kind s x 0x0809 (x.at + 20) some ∙ c) refl

      inner_moves : InnerMoves (substream_in d s u 0x0020) (substream_in d t u' 0x0020) (w.level + 1) (opened w).kind
      inner_moves x r g l c vw hd j =
          let some : x.level ≡ 0 → ⊥ = λ o. omega arith in
          let done = deeper 0x0020 x r g (λ o. absurd (some o)) (λ _. refl) (λ o. omega arith) vw hd j in
          record {
            end = done.end;
            ends = done.ends;
            view = subst (λ (y : Spot). View m y done.end) (spots x g l some c) done.view;
            echo = λ ec. done.echo (subst (λ (y : Spot). Echo m y done.end) (sym (spots x g l some c)) ec);
          }

      by : eqb (version_at s w.at) 0x0600 ≡ true → Lands (substream_in d s u 0x0020) (substream_in d t u' 0x0020) (onward d s u 0x0020) (onward d t u' 0x0020) k (w.level + 1) (opened w).kind
          (λ x. omega arith) (λ x. opens (omega arith)) (λ x. chart (λ y. x (omega arith))) later_kind inner_moves f (past_parent (q + 20)) (opened w)
          → Landing (substream_in (suc d) t u' k) w q f w.level (opened w).kind
      by version l =
          let same : version_at s w.at ≡ version_at t q = num_moved s t w.at q 2 4 20 (bof_same m w q v h) (omega arith) in
          record {
            end = l.end;
            ends = sym (pick_true (Ok l.end) _ _ _ (ap (λ (n : ℕ). eqb n 0x0600) (sym same) ∙ version) (sym l.ends));
            view = subst (λ (n : ℕ). View m (spot f n (opened w).kind) l.end) (let n : w.level + 1 - 1 ≡ w.level = omega arith in n) l.view;
            echo = λ ec. echo_bof m w q v h (bof_header m w q v h) (l.echo (subst (λ (n : ℕ). Echo m (spot f n (opened w).kind) l.end) (let n : w.level ≡ w.level + 1 - 1 = omega arith in n) ec));
          }

  pub substream_moves : (d : ℕ) → Moves d
  unfolding substream_in
  substream_moves zero k w q f top chart later_kind v h i = never (cc)
  substream_moves (suc d) k w q f top chart later_kind v h i = moves_in d (substream_moves d) k w q f top chart later_kind v h i
