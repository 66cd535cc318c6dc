-- The globals pass in the new stream, with the new string table, and declare the same sheets. Assumes nothing.
use Prim.Native.Nat.{ℕ, zero, suc, ◌+◌, ◌-◌, ◌^◌, ◌≤◌, ◌<◌}
use mathlib.Core.Path.{◌≡◌, refl, sym, ap, ◌∙◌, subst}
use mathlib.Core.List.{List, ◌∷◌, map}
use mathlib.Core.Bool.{Bool, true, false}
use mathlib.Core.Logic.{◌⊎◌, inl, inr}
use native.Mathlib.Omega.{arith}
use lib.ListN.{length, get_or, drop}
use lib.Seq.{get_or-drop}
use lib.Dec.{eqb}
use borrow.Author.Tests.{eqb-true, eqb-false}
use Rattle.std.specs.Prelude.{Result, Ok, Err}
use Rattle.refusal.specs.declared.Refusal.{Refusal}
use Rattle.refusal.specs.Refused.{refuse}
use Rattle.steps.specs.Choice.{pick}
use Rattle.steps.proofs.Choice.{never, pick_eq}
use Rattle.steps.proofs.Walk.{run_more, run_stop}
use Rattle.byte_numbers.specs.Bytes.{byte_at, u32_at}
use Rattle.record.specs.declared.Header.{Header}
use Rattle.record.specs.declared.Header.TheVariants.{Record, Cut, End}
use Rattle.record.specs.Record.{header_at}
use Rattle.record.proofs.Laws.{whole}
use Rattle.segments.specs.Segments.{continues}
use Rattle.strings.specs.declared.Table as strings
use Rattle.strings.specs.Table.{table_of, answer_of}
use Rattle.sheet_agreement.specs.declared.SheetKind.{SheetKind}
use Rattle.sheet_agreement.specs.Agreement.{Sheet}
use Rattle.globals.specs.declared.Globals.{Globals}
use Rattle.globals.specs.declared.Step.{Step}
use Rattle.globals.specs.declared.Step.TheVariants.{More, Close}
use Rattle.globals.specs.Globals.{past, past_table, boundsheet_fits, boundsheet_record, on_table, sst_record, eof_record, continue_record, record_in, on_header, step_of, turn, records_from}
use Rattle.globals.specs.Sheets.{type_kind, sheets_from}
use Rattle.globals.proofs.Laws.{go, left, falls}
use Rattle.reading.specs.Claims.{Every}
use Rattle.record_chain.specs.Chain.{here, on}
use Rattle.new_stream.specs.declared.Spot.{Spot}
use Rattle.new_stream.specs.declared.Fate.{Fate}
use Rattle.new_stream.specs.declared.Fate.TheVariants as fate
use Rattle.new_stream.specs.declared.Fate.TheVariants.{Stays, Goes, Table, Text}
use Rattle.new_stream.specs.Entries.{fate_of, spot_after, parts, entries_from}
use Rattle.new_stream.specs.Parts.{Given, View, moved_sheet, BoundMoved}
use Rattle.new_stream.proofs.Echoed.{Echoes, Echo}
use Rattle.new_stream.specs.Claims.{Row, Standing, TableAt, IsTable}
use Rattle.new_stream.proofs.Written.{view_place}
use Rattle.new_stream.proofs.Fates.{after_at, after_gone, after_kind, after_plain, after_eof}
use Rattle.new_stream.proofs.Records.{spot, spot_is, gone_next, kept_next, kept_header, bound_next, bound_same, bound_header, bound_number, table_next, table_split, continues_not}
use Rattle.new_stream.proofs.Echo.{continue_goes, echo_gone, echo_kept, echo_sheet, echo_table}
use Rattle.new_stream.proofs.Continues.{table_row}
use Rattle.new_stream.proofs.GlobalFates.{Turns, turns, sheet_step, sst_step, eof_step, extsst_step, continue_step, Both, plain_both, bof_not, skip_sheets, end_sheets, some_sheets, row_sheets, fits_moved, fits_long}

-- ---- the walk, a step at a time
module _ (s : List ℕ) where
  from_more : (v w : Globals) → step_of s v ≡ Ok (More w) → records_from s v ≡ records_from s w
  unfolding records_from
  from_more v w h = run_more (go s) (refuse 4 (length s)) (left s) (falls s) (ap turn h)

  from_close : (v w : Globals) → step_of s v ≡ Ok (Close w) → records_from s v ≡ Ok w
  unfolding records_from
  from_close v w h = run_stop (go s) (refuse 4 (length s)) (left s) (falls s) (ap turn h)

  from_stop : (v : Globals) (r : Refusal) → step_of s v ≡ Err r → records_from s v ≡ Err r
  unfolding records_from
  from_stop v r h = run_stop (go s) (refuse 4 (length s)) (left s) (falls s) (ap turn h)

  less_more : (v w : Globals) → step_of s v ≡ Ok (More w) → left s w < left s v
  less_more v w h = falls s v w (ap turn h)

-- where no record stands
cut_step : (s : List ℕ) (v : Globals) → header_at s v.at ≡ Cut → step_of s v ≡ refuse 2 v.at
unfolding step_of
cut_step s v h = ap (on_header s v) h

end_step : (s : List ℕ) (v : Globals) → header_at s v.at ≡ End → step_of s v ≡ refuse 4 (length s)
unfolding step_of
end_step s v h = ap (on_header s v) h

-- ---- CONTINUEs that go
pub record RowEnd (m : Given) (w : Spot) (y q : ℕ) : Type 0 where
  pub spot : Spot
  pub at : spot.at ≡ y
  pub level : spot.level ≡ 1
  pub kind : spot.kind ≡ 0x0005
  pub gone : spot.gone ≡ true
  pub view : View m spot q
  pub echo : Echo m spot q → Echo m w q

row_view : (m : Given) (w : Spot) (q x y : ℕ) → w.at ≡ x → w.level ≡ 1 → w.kind ≡ 0x0005 → w.gone ≡ true → View m w q → Row m.s x y → RowEnd m w y q
row_view m w q x y a l k g v here = record { spot = w; at = a; level = l; kind = k; gone = g; view = v; echo = λ ec. ec }
row_view m w q x y a l k g v (on {e = e} h r) =
    let inside : w.level ≡ 0 → ⊥ = λ i. omega arith in
    let hd : header_at m.s w.at ≡ Record 0x003C h.size e = ap (header_at m.s) a ∙ h.is in
    let f = continue_goes w g in
    let d : RowEnd m (spot_after m.s w 0x003C e) y q =
    row_view m (spot_after m.s w 0x003C e) q e y (after_at m.s w 0x003C e) (after_plain m.s w 0x003C e (λ i. omega arith) (λ i. omega arith) ∙ l)
    (after_kind m.s w 0x003C e inside ∙ k) (after_gone m.s w 0x003C e ∙ ap parts f) (gone_next m w q 0x003C h.size e inside v hd f) r in
    record { spot = d.spot; at = d.at; level = d.level; kind = d.kind; gone = d.gone; view = d.view; echo = λ ec. echo_gone m w q 0x003C h.size e inside v hd f (λ i. omega arith) (λ i. omega arith) (d.echo ec) }

module _ (m : Given) (n : ℕ) (g : Globals) (tab : (g.table ≡ 0 → ⊥) → IsTable m.T n) (placed : (p : ℕ) → m.place p < 256 ^ 4) where
  abbrev s : List ℕ
  s = m.s

  abbrev t : List ℕ
  t = m.t

  -- what the two walks have seen of the string table
  abbrev pub Told : Globals → Globals → Type 0
  Told v v' = (v.table ≡ 0 → (v'.table ≡ 0) × (v'.unique ≡ v.unique)) × ((v.table ≡ 0 → ⊥) → (v'.table ≡ m.total v.table) × (v'.unique ≡ n))

  pub record Tracks (v v' : Globals) (w : Spot) : Type 0 where
    pub at : w.at ≡ v.at
    pub level : w.level ≡ 1
    pub kind : w.kind ≡ 0x0005
    pub orphan : w.gone ≡ false → v.orphan ≡ v'.orphan
    pub view : View m w v'.at
    pub low : 20 ≤ v.at
    pub told : Told v v'

  pub record Lands (v v' : Globals) (w : Spot) : Type 0 where
    pub end : Globals
    pub ends : records_from t v' ≡ Ok end
    pub view : View m (spot g.at 0 0x0005) end.at
    pub told : Told g end
    pub kept : (v.table ≡ 0 → ⊥) → g.table ≡ v.table
    pub free : w.gone ≡ true → continues t v'.at ≡ false
    pub found : v.table ≡ 0 → (g.table ≡ 0 → ⊥) → Standing t m.T (m.total g.table)
    pub sheets : sheets_from t v'.at ≡ map (moved_sheet m) (sheets_from s v.at)
    pub bounds : Every (BoundMoved m) (sheets_from s v.at)
    pub echo : Echo m (spot g.at 0 0x0005) end.at → Echo m w v'.at

  abbrev Ending : Globals → Type 0
  Ending v = records_from s v ≡ Ok g

  stops_not : (v : Globals) {r : Refusal} → Ending v → step_of s v ≡ Err r → ⊥
  stops_not v {r} h i = let j = from_stop s v r i in never (cc)

  on_more : (v y : Globals) → Ending v → step_of s v ≡ Ok (More y) → Ending y
  on_more v y h i = sym (from_more s v y i) ∙ h

  abbrev Again : Globals → Type 0
  Again v = (y y' : Globals) (w : Spot) → left s y < left s v → Tracks y y' w → Ending y → Lands y y' w

  module _ (v v' : Globals) (w : Spot) (tr : Tracks v v' w) (en : Ending v) (again : Again v) (ty z e : ℕ) (h : header_at s w.at ≡ Record ty z e) where
    abbrev p : ℕ
    p = w.at

    abbrev q : ℕ
    q = v'.at

    abbrev after : Spot
    after = spot_after s w ty e

    inside : w.level ≡ 0 → ⊥
    inside i = let l = tr.level in omega arith

    here_is : header_at s v.at ≡ Record ty z e
    here_is = sym (ap (header_at s) tr.at) ∙ h

    old_step : step_of s v ≡ record_in s v ty z e
    unfolding step_of
    old_step = ap (on_header s v) here_is

    new_step : (ty' z' e' : ℕ) → header_at t q ≡ Record ty' z' e' → step_of t v' ≡ record_in t v' ty' z' e'
    unfolding step_of
    new_step ty' z' e' i = ap (on_header t v') i

    beyond : 20 ≤ e
    beyond = let i = whole s p ty z e h in let a = tr.at in let l = tr.low in omega arith

    after_level : (ty ≡ 0x0809 → ⊥) → (ty ≡ 0x000A → ⊥) → after.level ≡ 1
    after_level a b = after_plain s w ty e a b ∙ tr.level

    after_is : after.kind ≡ 0x0005
    after_is = after_kind s w ty e inside ∙ tr.kind

    -- ---- on past a record that both have
    module _ (o : Bool) (e' : ℕ) (a : ty ≡ 0x0809 → ⊥) (b : ty ≡ 0x000A → ⊥) (view : View m after e')
        (old : step_of s v ≡ Ok (More (past v o e))) (new : step_of t v' ≡ Ok (More (past v' o e'))) where
      past_tracks : Tracks (past v o e) (past v' o e') after
      unfolding past
      past_tracks = record { at = after_at s w ty e; level = after_level a b; kind = after_is; orphan = λ _. refl; view = view; low = beyond; told = tr.told }

      rest : Lands (past v o e) (past v' o e') after
      rest = again (past v o e) (past v' o e') after (less_more s v (past v o e) old) past_tracks (on_more v (past v o e) en old)

      past_lands : (w.gone ≡ true → continues t q ≡ false) → (sheets_from t e' ≡ map (moved_sheet m) (sheets_from s e) → sheets_from t q ≡ map (moved_sheet m) (sheets_from s v.at))
          → (Every (BoundMoved m) (sheets_from s e) → Every (BoundMoved m) (sheets_from s v.at)) → (Echo m after e' → Echo m w q) → Lands v v' w
      unfolding past
      past_lands free sheets bounds ec = record { end = rest.end; ends = from_more t v' (past v' o e') new ∙ rest.ends; view = rest.view; told = rest.told; kept = rest.kept; free = free; found = rest.found; sheets = sheets rest.sheets; bounds = bounds rest.bounds; echo = λ x. ec (rest.echo x) }

    -- ---- it is gone
    goes_past : fate_of w ty ≡ Goes → (ty ≡ 0x0809 → ⊥) → (ty ≡ 0x000A → ⊥) → (ty ≡ 0x0085 → ⊥) → step_of s v ≡ Ok (More (past v false e)) → Lands v v' w
    unfolding past
    goes_past i a b c old =
        let gone : after.gone ≡ true = after_gone s w ty e ∙ ap parts i in
        let l : Lands (past v false e) v' after =
        again (past v false e) v' after (less_more s v (past v false e) old)
        record { at = after_at s w ty e; level = after_level a b; kind = after_is; orphan = λ x. never (cc); view = gone_next m w q ty z e inside tr.view h i; low = beyond; told = tr.told }
        (on_more v (past v false e) en old) in
        record { end = l.end; ends = l.ends; view = l.view; told = l.told; kept = l.kept; free = λ _. l.free gone; found = l.found; sheets = l.sheets ∙ sym (ap (map (moved_sheet m)) (skip_sheets s v.at ty z e here_is c b)); bounds = subst (Every (BoundMoved m)) (sym (skip_sheets s v.at ty z e here_is c b)) l.bounds; echo = λ ec. echo_gone m w q ty z e inside tr.view h i a b (l.echo ec) }

    goes_continue : fate_of w ty ≡ Goes → ty ≡ 0x003C → (b : Bool) → v.orphan ≡ b → Lands v v' w
    unfolding continue_record pick
    goes_continue i c true o = absurd (stops_not v en (old_step ∙ continue_step s v ty z e c ∙ ap (λ (b : Bool). pick b (refuse 7 v.at) (Ok (More (past v false e)))) o))
    goes_continue i c false o = goes_past i (λ x. omega arith) (λ x. omega arith) (λ x. omega arith) (old_step ∙ continue_step s v ty z e c ∙ ap (λ (b : Bool). pick b (refuse 7 v.at) (Ok (More (past v false e)))) o)

    goes_lands : fate_of w ty ≡ Goes → (ty ≡ 0x003C) ⊎ (ty ≡ 0x00FF) → Lands v v' w
    goes_lands i (inl c) = goes_continue i c v.orphan refl
    goes_lands i (inr c) = goes_past i (λ x. omega arith) (λ x. omega arith) (λ x. omega arith) (old_step ∙ extsst_step s v ty z e c)

    -- ---- it stays
    module _ (i : fate_of w ty ≡ Stays) (whole-orphan : ty ≡ 0x003C → w.gone ≡ false) (no_sheet_lem : ty ≡ 0x0085 → ⊥) (no_table : ty ≡ 0x00FC → ⊥) where
      abbrev e₁ : ℕ
      e₁ = q + (4 + z)

      header₁ : header_at t q ≡ Record ty z e₁
      header₁ = kept_header m w q ty z e inside tr.view h i

      free₁ : w.gone ≡ true → continues t q ≡ false
      free₁ g₁ = continues_not t q ty z e₁ header₁ (λ c. let o = whole-orphan c in never (cc))

      plain_by : (ty ≡ 0x000A → ⊥) → (x : Result Step Refusal) → record_in s v ty z e ≡ x → Both s t v v' ty z e e₁ x (record_in t v' ty z e₁) → Lands v v' w
      plain_by b (Ok (More y)) j l =
          past_lands false e₁ (bof_not s v ty z e y j) b (kept_next m w q ty z e inside tr.view h i)
          (old_step ∙ j ∙ (λ i. Ok (More (l.0 i)))) (new_step ty z e₁ header₁ ∙ l.1) free₁
          (λ k. skip_sheets t q ty z e₁ header₁ no_sheet_lem b ∙ k ∙ sym (ap (map (moved_sheet m)) (skip_sheets s v.at ty z e here_is no_sheet_lem b)))
          (subst (Every (BoundMoved m)) (sym (skip_sheets s v.at ty z e here_is no_sheet_lem b)))
          (echo_kept m w q ty z e inside tr.view h i whole-orphan)
      plain_by b (Ok (Close y)) j l = absurd l
      plain_by b (Err r) j l = absurd (stops_not v en (old_step ∙ j))

      last_spot : ty ≡ 0x000A → e ≡ g.at → after ≡ spot g.at 0 0x0005
      last_spot c same = spot_is after g.at 0 0x0005 (after_at s w ty e ∙ same) (after_eof s w ty e c ∙ ap (λ (x : ℕ). x - 1) tr.level) after_is (after_gone s w ty e ∙ ap parts i)

      eof_by : ty ≡ 0x000A → (b : Bool) → eqb z 0 ≡ b → Lands v v' w
      unfolding eof_record pick past
      eof_by c true j =
          let old : step_of s v ≡ Ok (Close (past v false e)) = old_step ∙ eof_step s v ty z e c ∙ ap (λ (b : Bool). pick b (Ok (Close (past v false e))) (refuse 6 v.at)) j in
          let new : step_of t v' ≡ Ok (Close (past v' false e₁)) = new_step ty z e₁ header₁ ∙ eof_step t v' ty z e₁ c ∙ ap (λ (b : Bool). pick b (Ok (Close (past v' false e₁))) (refuse 6 q)) j in
          let last : ◌≡◌ {A = Result Globals Refusal} (Ok (past v false e)) (Ok g) = sym (from_close s v (past v false e) old) ∙ en in
          let same : past v false e ≡ g = cc in
          record {
            end = past v' false e₁;
            ends = from_close t v' (past v' false e₁) new;
            view = subst (λ (x : Spot). View m x e₁) (last_spot c (ap (λ (x : Globals). x.at) same)) (kept_next m w q ty z e inside tr.view h i);
            echo = λ ec. echo_kept m w q ty z e inside tr.view h i whole-orphan (subst (λ (x : Spot). Echo m x e₁) (sym (last_spot c (ap (λ (x : Globals). x.at) same))) ec);
            told = subst (λ (x : Globals). Told x (past v' false e₁)) same tr.told;
            kept = λ _. sym (ap (λ (x : Globals). x.table) same);
            free = free₁;
            found = λ x y. absurd (y (sym (ap (λ (x : Globals). x.table) same) ∙ x));
            bounds = subst (Every (BoundMoved m)) (sym (end_sheets s v.at ty z e here_is c)) tt;
            sheets = end_sheets t q ty z e₁ header₁ c ∙ sym (ap (map (moved_sheet m)) (end_sheets s v.at ty z e here_is c));
          }
      eof_by c false j = absurd (stops_not v en (old_step ∙ eof_step s v ty z e c ∙ ap (λ (b : Bool). pick b (Ok (Close (past v false e))) (refuse 6 v.at)) j))

      stays_lands : Lands v v' w
      stays_lands = by (eqb ty 0x000A) refl
        where
          by : (b : Bool) → eqb ty 0x000A ≡ b → Lands v v' w
          by true j = eof_by (eqb-true ty 0x000A j) (eqb z 0) refl
          by false j = let b = eqb-false ty 0x000A j in plain_by b (record_in s v ty z e) refl (plain_both s t v v' ty z e e₁ no_sheet_lem no_table b (λ c. tr.orphan (whole-orphan c)))

    -- ---- a BOUNDSHEET
    bound_moved : fate_of w ty ≡ fate.Sheet → ty ≡ 0x0085 → 8 ≤ z → q ≡ m.total v.at → {a : ℕ} {b : SheetKind} → BoundMoved m (record { header = v.at; position = a; kind = b })
    bound_moved i c long place = record {
      size = z;
      end = e;
      long = long;
      old = here_is ∙ ap (λ (n : ℕ). Record n z e) c;
      new = ap (header_at t) (sym place) ∙ bound_header m w q ty z e inside tr.view h i ∙ ap (λ (n : ℕ). Record n z (q + (4 + z))) c ∙ ap (λ (n : ℕ). Record 0x0085 z (n + (4 + z))) place;
      same = λ k a b. ap (λ (n : ℕ). get_or (drop n s) k 0) (sym tr.at) ∙ bound_same m w q ty z e inside tr.view h i k a (inr b) ∙ ap (λ (n : ℕ). get_or (drop n t) k 0) place;
    }

    sheet_by : fate_of w ty ≡ fate.Sheet → ty ≡ 0x0085 → (b : Bool) → boundsheet_fits s v.at z ≡ b → Lands v v' w
    unfolding boundsheet_record pick
    sheet_by i c true j =
        let e₁ : ℕ = q + (4 + z) in
        let header₁ : header_at t q ≡ Record ty z (q + (4 + z)) = bound_header m w q ty z e inside tr.view h i in
        let long : 8 ≤ z = fits_long s v.at z j in
        let fits : boundsheet_fits t q z ≡ true = sym (fits_moved s t p q z (λ k a b. bound_same m w q ty z e inside tr.view h i k a (inr b))) ∙ ap (λ (x : ℕ). boundsheet_fits s x z) tr.at ∙ j in
        let old : step_of s v ≡ Ok (More (past v true e)) = old_step ∙ sheet_step s v ty z e c ∙ ap (λ (b : Bool). pick b (Ok (More (past v true e))) (refuse 6 v.at)) j in
        let new : step_of t v' ≡ Ok (More (past v' true (q + (4 + z)))) = new_step ty z (q + (4 + z)) header₁ ∙ sheet_step t v' ty z (q + (4 + z)) c ∙ ap (λ (b : Bool). pick b (Ok (More (past v' true (q + (4 + z))))) (refuse 6 q)) fits in
        let number : u32_at t (q + 4) ≡ m.place (u32_at s (v.at + 4)) = bound_number m w q ty z e inside tr.view h i (omega arith) (placed (u32_at s (p + 4))) ∙ ap (λ (x : ℕ). m.place (u32_at s (x + 4))) tr.at in
        let type : byte_at t (q + 9) ≡ byte_at s (v.at + 9) = sym (sym (get_or-drop p s 9 0) ∙ bound_same m w q ty z e inside tr.view h i 9 (omega arith) (inr (omega arith)) ∙ get_or-drop q t 9 0) ∙ ap (λ (x : ℕ). byte_at s (x + 9)) tr.at in
        let place : q ≡ m.total v.at = sym (view_place m w q tr.view) ∙ ap m.total tr.at in
        past_lands true (q + (4 + z)) (λ x. omega arith) (λ x. omega arith) (bound_next m w q ty z e inside tr.view h i) old new
        (λ _. continues_not t q ty z (q + (4 + z)) header₁ (λ x. omega arith))
        (λ k. some_sheets t q ty z (q + (4 + z)) header₁ c long ∙ sheets_are place number (ap type_kind type) k ∙ sym (ap (map (moved_sheet m)) (some_sheets s v.at ty z e here_is c long)))
        (λ k. subst (Every (BoundMoved m)) (sym (some_sheets s v.at ty z e here_is c long)) (bound_moved i c long place, k))
        (echo_sheet m w q ty z e inside tr.view h i (λ x. omega arith) long (bound_number m w q ty z e inside tr.view h i (omega arith) (placed (u32_at s (p + 4)))))
      where
        sheets_are : {a b a' b' : ℕ} {c c' : SheetKind} {l l' : List Sheet} → a ≡ a' → b ≡ b' → c ≡ c' → l ≡ l' → ◌≡◌ {A = List Sheet} (record { header = a; position = b; kind = c } ∷ l) (record { header = a'; position = b'; kind = c' } ∷ l')
        sheets_are a b c l = λ i. record { header = a i; position = b i; kind = c i } ∷ l i
    sheet_by i c false j = absurd (stops_not v en (old_step ∙ sheet_step s v ty z e c ∙ ap (λ (b : Bool). pick b (Ok (More (past v true e))) (refuse 6 v.at)) j))

    -- ---- the string table
    module _ (i : fate_of w ty ≡ Table) (c : ty ≡ 0x00FC) (none : v.table ≡ 0) (k o : ℕ) (x : answer_of (table_of s v.at e) ≡ Ok (record { strings = k; end = o })) where
      abbrev q₁ : ℕ
      q₁ = q + length m.T

      old : step_of s v ≡ Ok (More (past_table v k o))
      unfolding sst_record
      old = old_step ∙ sst_step s v ty z e c ∙ sym (pick_eq (Ok (More (past_table v k o))) _ _ v.table 0 none (sym (ap (on_table v) x)))

      row : Row s e o
      row = table_row s v.at e k o x

      end : RowEnd m after o q₁
      end = row_view m after q₁ e o (after_at s w ty e) (after_level (λ x. omega arith) (λ x. omega arith)) after_is (after_gone s w ty e ∙ ap parts i) (table_next m w q ty z e inside tr.view h i) row

      less : left s (past_table v k o) < left s v
      less = less_more s v (past_table v k o) old

      tracks : Tracks (past_table v k o) (past_table v' n q₁) end.spot
      unfolding past_table
      tracks = record {
        at = end.at;
        level = end.level;
        kind = end.kind;
        orphan = λ _. refl;
        view = end.view;
        low = let l = tr.low in let f = less in omega arith;
        told = ((λ x. let l = tr.low in absurd (omega arith)), (λ _. (sym (sym (ap m.total tr.at) ∙ view_place m w q tr.view), refl)));
      }

      lands₁ : Lands (past_table v k o) (past_table v' n q₁) end.spot
      lands₁ = again (past_table v k o) (past_table v' n q₁) end.spot less tracks (on_more v (past_table v k o) en old)

      is_table : IsTable m.T n
      unfolding past_table
      is_table = tab (λ x. let l = tr.low in let y : g.table ≡ v.at = lands₁.kept (λ x. omega arith) in omega arith)

      standing : Standing t m.T q
      unfolding past_table
      standing = record { rest = _; is = table_split m w q ty z e inside tr.view h i; free = lands₁.free end.gone }

      stands : TableAt t q (length m.T) n
      stands = is_table.stands t q standing

      answer : answer_of (table_of t q (q + 4 + stands.body)) ≡ Ok (record { strings = n; end = q₁ })
      answer = ap answer_of stands.reads ∙ (λ i. Ok (record { strings = stands.count i; end = stands.end i }))

      new : step_of t v' ≡ Ok (More (past_table v' n q₁))
      unfolding sst_record
      new = new_step 0x00FC stands.body (q + 4 + stands.body) stands.header ∙ sst_step t v' 0x00FC stands.body (q + 4 + stands.body) refl
          ∙ sym (pick_eq (Ok (More (past_table v' n q₁))) _ _ v'.table 0 (tr.told.0 none).0 (sym (ap (on_table v') answer)))

      echo_of : Echo m after q₁ → Echo m w q
      echo_of ec =
          let hd : header_at s w.at ≡ Record 0x00FC z e = h ∙ ap (λ (k : ℕ). Record k z e) c in
          let it : fate_of w 0x00FC ≡ Table = ap (fate_of w) (sym c) ∙ i in
          let some = is_table.some in
          echo_table m w q z e n inside tr.view hd it (omega arith) standing stands (table_row t q (q + 4 + stands.body) n q₁ answer)
          (λ y a l k. subst (λ (x : ℕ). Echoes m q₁ (entries_from s (spot_after s w x e)) (entries_from t y)) c
          (ec y record {
            at = a;
            level = l ∙ tr.level ∙ sym (after_level (λ x. omega arith) (λ x. omega arith));
            kind = k ∙ tr.kind ∙ sym after_is;
            gone = λ x. let f : after.gone ≡ true = after_gone s w ty e ∙ ap parts i in never (cc);
          }))

      table_lands : Lands v v' w
      unfolding past_table
      table_lands = record {
        end = lands₁.end;
        ends = from_more t v' (past_table v' n q₁) new ∙ lands₁.ends;
        view = lands₁.view;
        told = lands₁.told;
        kept = λ some. absurd (some none);
        echo = λ ec. echo_of (end.echo (lands₁.echo ec));
        found = λ _ some. subst (Standing t m.T) (sym (view_place m w q tr.view) ∙ ap m.total (tr.at ∙ sym (lands₁.kept (λ x. let l = tr.low in omega arith)))) standing;
        bounds = subst (Every (BoundMoved m)) (sym (skip_sheets s v.at ty z e here_is (λ x. omega arith) (λ x. omega arith) ∙ row_sheets s row)) lands₁.bounds;
        free = λ _. continues_not t q 0x00FC stands.body (q + 4 + stands.body) stands.header (λ x. omega arith);
        sheets =
            skip_sheets t q 0x00FC stands.body (q + 4 + stands.body) stands.header (λ x. omega arith) (λ x. omega arith)
            ∙ row_sheets t (table_row t q (q + 4 + stands.body) n q₁ answer) ∙ lands₁.sheets
            ∙ sym (ap (map (moved_sheet m)) (skip_sheets s v.at ty z e here_is (λ x. omega arith) (λ x. omega arith) ∙ row_sheets s row));
      }

    table_told : fate_of w ty ≡ Table → ty ≡ 0x00FC → v.table ≡ 0 → (x : Result strings.Table Refusal) → answer_of (table_of s v.at e) ≡ x → Lands v v' w
    unfolding sst_record
    table_told i c none (Ok y) x = table_lands i c none y.strings y.end x
    table_told i c none (Err r) x = absurd (stops_not v en (old_step ∙ sst_step s v ty z e c ∙ sym (pick_eq (Err r) _ _ v.table 0 none (sym (ap (on_table v) x)))))

    table_by : fate_of w ty ≡ Table → ty ≡ 0x00FC → (b : Bool) → eqb v.table 0 ≡ b → Lands v v' w
    unfolding sst_record pick
    table_by i c true j = table_told i c (eqb-true v.table 0 j) (answer_of (table_of s v.at e)) refl
    table_by i c false j = absurd (stops_not v en (old_step ∙ sst_step s v ty z e c ∙ ap (λ (b : Bool). pick b (on_table v (answer_of (table_of s v.at e))) (refuse 8 v.at)) j))

    record_by : (x : Fate) → fate_of w ty ≡ x → Turns w ty x → Lands v v' w
    record_by Stays i l = stays_lands i l.0 l.1 l.2
    record_by Goes i l = goes_lands i l
    record_by Table i l = table_by i l (eqb v.table 0) refl
    record_by Text i l = absurd l
    record_by fate.Sheet i l = sheet_by i l (boundsheet_fits s v.at z) refl

    record_lands : Lands v v' w
    record_lands = record_by (fate_of w ty) refl (turns w ty tr.level tr.kind)

  header_lands : (v v' : Globals) (w : Spot) → Tracks v v' w → Ending v → Again v → (x : Header) → header_at s w.at ≡ x → Lands v v' w
  header_lands v v' w tr en again (Record ty z e) h = record_lands v v' w tr en again ty z e h
  header_lands v v' w tr en again Cut h = absurd (stops_not v en (cut_step s v (sym (ap (header_at s) tr.at) ∙ h)))
  header_lands v v' w tr en again End h = absurd (stops_not v en (end_step s v (sym (ap (header_at s) tr.at) ∙ h)))

  walk_lands : (k : ℕ) (v v' : Globals) (w : Spot) → left s v < k → Tracks v v' w → Ending v → Lands v v' w
  walk_lands zero v v' w l tr en = absurd (omega arith)
  walk_lands (suc k) v v' w l tr en = header_lands v v' w tr en (λ y y' x less tr' en'. walk_lands k y y' x (omega arith) tr' en') (header_at s w.at) refl

  pub globals_land : (v v' : Globals) (w : Spot) → Tracks v v' w → Ending v → Lands v v' w
  globals_land v v' w tr en = walk_lands (suc (left s v)) v v' w (omega arith) tr en
