-- Demand 3 over the pair, from demand 3 over the session with the template's two numbers. Assumes nothing.
use Prim.Native.Nat.{ℕ, zero, suc, ◌<◌}
use mathlib.Core.Path.{◌≡◌, refl, sym, ap, ◌∙◌, subst}
use mathlib.Core.List.{List, [], ◌∷◌, ◌++◌, map}
use native.Mathlib.Omega.{arith}
use lib.ListN.{length, drop}
use lib.Seq.{drop-nil}
use Rattle.steps.specs.Items.{nth}
use Rattle.steps.proofs.Choice.{never}
use Rattle.value.specs.declared.CellValue.{CellValue}
use Rattle.cell.specs.declared.Cell.{Cell}
use Rattle.new_value.specs.declared.NewValue.{NewValue}
use Rattle.new_value.specs.declared.NewValue.TheVariants.{Number}
use Rattle.std.specs.Prelude.{Result, Ok, Err}
use Rattle.refusal.specs.declared.Refusal as refusal
use Rattle.refusal.specs.Refused.{refuse}
use Rattle.new_value.specs.Change.{Held, new_of}
use Rattle.sheet_agreement.specs.Agreement.{Sheet}
use Rattle.globals.specs.declared.Globals.{Globals}
use Rattle.globals.specs.Globals.{globals_of}
use Rattle.globals.specs.Sheets.{sheets_of}
use Rattle.workbook.specs.Check.{Checked, Right, checked_of}
use Rattle.reading.specs.Reading.{CellReading, SheetReading, reading_of, sheet_reading}
use Rattle.correction.specs.Correction.{Correction, correction_in, correction_of, stream_after}
use Rattle.correction.specs.Correction as correction
use Rattle.fetch.proofs.Laws.{checked_globals}
use Rattle.record_chain.specs.Chain.{Nth, first, next}
use Rattle.passes_after.proofs.Upheld.{upheld}
use Rattle.reads_after.specs.Replaced.{with_value, replaced_sheet, on_nth}
use Rattle.claims.specs.Demand3.{spot_of, text_of}
use Rattle.claims.specs.Demand3 as claims
use Rattle.claims.proofs.Demand3 as base
use Rattle.pair.specs.declared.Whose.{Whose}
use Rattle.pair.specs.declared.Whose.TheVariants.{Session, Template}
use Rattle.pair.specs.declared.Of.{Of}
use Rattle.pair.specs.declared.Of.TheVariants as of
use Rattle.pair.specs.declared.PairChecked.{PairChecked}
use Rattle.pair.specs.declared.StreamRefusal.{StreamRefusal}
use Rattle.pair.specs.declared.PairRefusal as pair
use Rattle.pair.specs.Refused.{refuse_of}
use Rattle.pair.specs.Pair.{on_session, on_template, passes, pair_of, Passes, on_pair, sheet_from, PairCorrection, refuses, writes, asked, pair_correction_of, answer_of, session_after}
use Rattle.pair.proofs.Laws.{passes_both, passes_is}
use Rattle.pair.proofs.Correcting.{asked_stream, pair_is}
use Rattle.claims.specs.PairReading.{SheetOf, PairReading, from, overlaid, lent_by, joined, pair_reading_of, on_sheet, pair_replaced}
use Rattle.claims.specs.PairDemand3.{Corrects, One, Granted, HoldsNew, OthersStay, passed, PairPasses, SheetsOverlaid, ReadsNew, of_cells, SpotsStay, TextsStay, PairRefusal, template, session, question, RefusedExactly, RefusedKeeps, PackedExactly}

-- ---- a correction of the pair is one of the session
answer_is : (x : Correction) → Ok tt ≡ answer_of (asked x) → Ok tt ≡ correction.answer_of x
answer_is (correction.refuses m o) e = never cc
answer_is (correction.writes f p b) e = refl

module _ (t s : List ℕ) (n row column : ℕ) (v : NewValue) where
  abbrev by : Globals → Globals → PairCorrection
  by g h = asked (correction_in s h.unique (length (sheets_of t)) n row column v)

  abbrev in_session : Globals → Correction
  in_session g = correction_of s g.unique (length (sheets_of t)) n row column v

  -- what the session's correction promises
  told : (held : Held v) (g : Globals) → claims.Corrects s g.unique (length (sheets_of t)) n row column v (correction.answer_of (in_session g)) (stream_after s (in_session g))
  told held g = record { answer = refl; after = refl; held = held }

record Given (t s : List ℕ) (n row column : ℕ) (v : NewValue) (s' : List ℕ) : Type 0 where
  g : Globals
  h : Globals
  both : Passes t s g h
  one : claims.Corrects s g.unique (length (sheets_of t)) n row column v (Ok tt) s'

module _ {t s : List ℕ} {n row column : ℕ} {v : NewValue} {s' : List ℕ} where
  given : Corrects t s n row column v (Ok tt) s' → Given t s n row column v s'
  unfolding pair_correction_of
  given c = go (pair_of t s) refl c.answer
    where
      go : (x : Result PairChecked StreamRefusal) → pair_of t s ≡ x → Ok tt ≡ answer_of (on_pair refuses (by t s n row column v) x) → Given t s n row column v s'
      go (Err r) i e = never cc
      go (Ok x) i e =
          let g = x.template in
          let h = x.session in
          let p = passes_both t s g h i in
          let q = pair_is t s n row column v g h p in
          let x = in_session t s n row column v g in
          record { g = g; h = h; both = p; one = record { answer = answer_is x (c.answer ∙ ap answer_of q); after = c.after ∙ ap (session_after s) q ∙ sym (asked_stream s x); held = c.held } }

  -- of its cell P holds
  wrap : (q : Given t s n row column v s') {P : Cell → Type 0} → claims.One s q.g.unique n row column P → One t s n row column P
  wrap q o = record { template = q.g; session = q.h; passes = q.both; one = o }

pub holds_new : HoldsNew
holds_new t s n row column v s' c = let q = given c in wrap q (base.holds_new s q.g.unique (length (sheets_of t)) n row column v s' q.one)

pub others_stay : OthersStay
others_stay t s n row column v s' c = let q = given c in wrap q (base.others_stay s q.g.unique (length (sheets_of t)) n row column v s' q.one)

pub pair_passes : PairPasses
pair_passes t s n row column v s' c =
    let q = given c in
    let m = base.made q.one in
    let same : checked_of s' q.g.unique ≡ checked_of s q.g.unique =
    ap (λ (x : List ℕ). checked_of x q.g.unique) m.after ∙ upheld s q.g.unique (length (sheets_of t)) n row column v m.kind m.place m.number c.held m.is in
    let new : pair_of t s' ≡ passes q.g q.h = passes_is t s' q.g q.h (record { template = q.both.template; session = same ∙ q.both.session }) in
    wrap q (base.one m (ap passed new, new ∙ sym (passes_is t s q.g q.h q.both)))

-- ---- the reading
map_on : (w : Whose) (f : SheetReading → SheetReading) (n : ℕ) (l : List SheetReading) → map (from w) (on_nth n f l) ≡ on_nth n (on_sheet f) (map (from w) l)
unfolding on_nth
map_on w f n [] = refl
map_on w f zero (x ∷ l) = refl
map_on w f (suc n) (x ∷ l) = ap (λ (y : List SheetOf). from w x ∷ y) (map_on w f n l)

length_on : {A : Type 0} (f : A → A) (n : ℕ) (l : List A) → length (on_nth n f l) ≡ length l
unfolding on_nth
length_on f n [] = refl
length_on f zero (x ∷ l) = refl
length_on f (suc n) (x ∷ l) = ap suc (length_on f n l)

on_front : {A : Type 0} (f : A → A) (n : ℕ) (l m : List A) → n < length l → on_nth n f (l ++ m) ≡ on_nth n f l ++ m
unfolding on_nth
on_front f n [] m h = absurd (omega arith)
on_front f zero (x ∷ l) m h = refl
on_front {A} f (suc n) (x ∷ l) m h = ap (λ (y : List A). x ∷ y) (on_front f n l m (omega arith))

length_map : {A B : Type 0} (f : A → B) (l : List A) → length (map f l) ≡ length l
length_map f [] = refl
length_map f (x ∷ l) = ap suc (length_map f l)

overlaid_on : (f : SheetReading → SheetReading) (n : ℕ) (l m : List SheetReading) → n < length l → overlaid (on_nth n f l) m ≡ on_nth n (on_sheet f) (overlaid l m)
overlaid_on f n l m h =
    ap (λ (y : List SheetOf). y ++ drop (length y) (map (from Template) m)) (map_on Session f n l)
    ∙ ap (λ (k : ℕ). on_nth n (on_sheet f) (map (from Session) l) ++ drop k (map (from Template) m)) (length_on (on_sheet f) n (map (from Session) l))
    ∙ sym (on_front (on_sheet f) n (map (from Session) l) (drop (length (map (from Session) l)) (map (from Template) m)) (let k = length_map (from Session) l in omega arith))

sheets_length : (s : List ℕ) (u : ℕ) → length (reading_of s u).sheets ≡ length (sheets_of s)
unfolding reading_of
sheets_length s u = length_map (sheet_reading s) (sheets_of s)

over_nth : {A B : Type 0} (f : A → B) (d : B) (l m : List A) (n : ℕ) → nth (l ++ drop (length l) m) n f d ≡ nth l n f (nth m n f d)
unfolding nth
over_nth f d [] m n = refl
over_nth f d (x ∷ l) m zero = refl
over_nth {A} f d (x ∷ l) [] (suc n) = ap (λ (y : List A). nth (l ++ y) n f d) (sym (drop-nil (length l))) ∙ over_nth f d l [] n
over_nth f d (x ∷ l) (y ∷ m) (suc n) = over_nth f d l m n

map_nth : {A B C : Type 0} (g : A → B) (f : B → C) (d : C) (l : List A) (n : ℕ) → nth (map g l) n f d ≡ nth l n (λ (x : A). f (g x)) d
unfolding nth
map_nth g f d [] n = refl
map_nth g f d (x ∷ l) zero = refl
map_nth g f d (x ∷ l) (suc n) = map_nth g f d l n

pub sheets_overlaid : SheetsOverlaid
unfolding pair_reading_of reading_of sheet_from
sheets_overlaid A t s n f d =
    over_nth f d (map (from Session) (map (sheet_reading s) (sheets_of s))) (map (from Template) (map (sheet_reading t) (sheets_of t))) n
    ∙ map_nth (from Session) f _ (map (sheet_reading s) (sheets_of s)) n
    ∙ map_nth (sheet_reading s) (λ (x : SheetReading). f (from Session x)) _ (sheets_of s) n
    ∙ ap (nth (sheets_of s) n (λ (x : Sheet). f (from Session (sheet_reading s x))))
    (map_nth (from Template) f d (map (sheet_reading t) (sheets_of t)) n ∙ map_nth (sheet_reading t) (λ (x : SheetReading). f (from Template x)) d (sheets_of t) n)

nth_below : {A : Type 0} {l : List A} {k : ℕ} {x : A} → Nth l k x → k < length l
nth_below first = omega arith
nth_below (next i) = let j = nth_below i in omega arith

module _ (t s : List ℕ) (n row column : ℕ) (v : NewValue) (s' : List ℕ) (c : Corrects t s n row column v (Ok tt) s') where
  abbrev q : Given t s n row column v s'
  q = given c

  abbrev u : ℕ
  u = q.g.unique

  read_new : pair_reading_of t s' ≡ pair_replaced n row column (new_of v) (pair_reading_of t s)
  unfolding pair_reading_of
  read_new =
      let m = base.made q.one in
      let k : lent_by (globals_of t 0) ≡ u = ap lent_by (checked_globals t 0 q.g (sym q.both.template)) in
      let l : n < length (reading_of s u).sheets = (let i = sheets_length s u in let j = nth_below m.given.nth in omega arith) in
      ap (λ (x : ℕ). joined (reading_of t 0) (reading_of s' x)) k
      ∙ ap (joined (reading_of t 0)) (base.reads_new s u (length (sheets_of t)) n row column v s' q.one).holds
      ∙ (λ y. record { sheets = overlaid_on (replaced_sheet row column (new_of v)) n (reading_of s u).sheets (reading_of t 0).sheets l y; template = (reading_of t 0).strings; session = (reading_of s u).strings })
      ∙ ap (λ (x : ℕ). pair_replaced n row column (new_of v) (joined (reading_of t 0) (reading_of s x))) (sym k)

pub reads_new : ReadsNew
reads_new t s n row column v s' c = let q = given c in wrap q (base.one (base.made q.one) (read_new t s n row column v s' c))

-- whatever else is said of a cell stays
module _ {A : Type 0} (f : CellReading → A) (same : (v : CellValue) (c : CellReading) → f (with_value v c) ≡ f c) where
  pair_same : (n row column : ℕ) (v : CellValue) (l : List SheetOf) → of_cells f (on_nth n (on_sheet (replaced_sheet row column v)) l) ≡ of_cells f l
  unfolding on_nth
  pair_same n row column v [] = refl
  pair_same zero row column v (x ∷ l) = ap (λ (y : List A). y ∷ of_cells f l) (base.cells_stay f same row column v x.sheet.cells)
  pair_same (suc n) row column v (x ∷ l) = ap (λ (y : List (List A)). map f x.sheet.cells ∷ y) (pair_same n row column v l)

  all_stay : Granted (λ t s n row column v c s'. of_cells f (pair_reading_of t s').sheets ≡ of_cells f (pair_reading_of t s).sheets)
  all_stay t s n row column v s' c =
      let q = given c in
      wrap q (base.one (base.made q.one) (ap (λ (r : PairReading). of_cells f r.sheets) (read_new t s n row column v s' c) ∙ pair_same n row column (new_of v) (pair_reading_of t s).sheets))

pub spots_stay : SpotsStay
spots_stay = all_stay spot_of (λ _ _. refl)

pub texts_stay : TextsStay
texts_stay = all_stay text_of (λ _ _. refl)

-- ---- refused exactly when the table says
refused_by : (x : PairCorrection) (w : Of) (m o : ℕ) → answer_of x ≡ refuse_of w m o → x ≡ refuses w m o
refused_by (refuses w' a b) w m o h =
    let same : ◌≡◌ {A = pair.PairRefusal} (record { of = w'; number = a; offset = b }) (record { of = w; number = m; offset = o }) = cc in
    let again : pair.PairRefusal → PairCorrection = λ r. refuses r.of r.number r.offset in
    ap again same
refused_by (writes f p b) w m o h = never cc

module _ (t s : List ℕ) (n row column : ℕ) (v : NewValue) (held : Held v) where
  abbrev Met : Of → ℕ → ℕ → Type 0
  Met w m o = PairRefusal t s n row column v w m o

  same_met : {w x : Of} {a b m o : ℕ} → refuses w a b ≡ refuses x m o → Met w a b → Met x m o
  same_met {w} {x} {a} {b} {m} {o} e y =
      let i : w ≡ x = cc in
      let j : a ≡ m = cc in
      let k : b ≡ o = cc in
      subst (λ (z : Of). Met z m o) i (subst (λ (z : ℕ). Met w z o) j (subst (λ (z : ℕ). Met w a z) k y))

  asked_met : (g h : Globals) → Passes t s g h → (x : Correction) → in_session t s n row column v g ≡ x → (w : Of) (m o : ℕ) → asked x ≡ refuses w m o → Met w m o
  asked_met g h p (correction.refuses a b) i w m o e =
      same_met e (question p ((base.refused_as_said s g.unique (length (sheets_of t)) n row column v _ _ (told t s n row column v held g) a b).0 (ap correction.answer_of i)))
  asked_met g h p (correction.writes f q b) i w m o e = never cc

  at_pair : (g h : Globals) → Passes t s g h → pair_correction_of t s n row column v ≡ by t s n row column v g h
  unfolding pair_correction_of
  at_pair g h p = ap (on_pair refuses (by t s n row column v)) (passes_is t s g h p)

  session_met : (g : Globals) → checked_of t 0 ≡ Right g → (x : Checked) → checked_of s g.unique ≡ x → (w : Of) (m o : ℕ) → on_pair refuses (by t s n row column v) (on_session g x) ≡ refuses w m o → Met w m o
  session_met g i (Ok h) j w m o e =
      let p : Passes t s g h = record { template = i; session = j } in
      asked_met g h p (in_session t s n row column v g) refl w m o (sym (pair_is t s n row column v g h p) ∙ at_pair g h p ∙ e)
  session_met g i (Err r) j w m o e = same_met e (session i j)

  template_met : (x : Checked) → checked_of t 0 ≡ x → (w : Of) (m o : ℕ) → on_pair refuses (by t s n row column v) (on_template s x) ≡ refuses w m o → Met w m o
  template_met (Ok g) i w m o e = session_met g i (checked_of s g.unique) refl w m o e
  template_met (Err r) i w m o e = same_met e (template i)

  by_refusal : (x y : refusal.Refusal) → x ≡ y → refuse_of {A = Unit {0}} of.Question x.number x.offset ≡ refuse_of of.Question y.number y.offset
  by_refusal x y e = ap (λ (z : refusal.Refusal). refuse_of of.Question z.number z.offset) e

  refused_answer : (x : Correction) (m o : ℕ) → correction.answer_of x ≡ refuse m o → answer_of (asked x) ≡ refuse_of of.Question m o
  refused_answer (correction.refuses a b) m o e = by_refusal (record { number = a; offset = b }) (record { number = m; offset = o }) cc
  refused_answer (correction.writes f p b) m o e = never cc

  met_refused : (w : Of) (m o : ℕ) → Met w m o → answer_of (pair_correction_of t s n row column v) ≡ refuse_of w m o
  unfolding pair_correction_of pair_of
  met_refused w m o (template i) = ap (λ (x : Checked). answer_of (on_pair refuses (by t s n row column v) (on_template s x))) i
  met_refused w m o (session {g = g} i j) =
      ap (λ (x : Checked). answer_of (on_pair refuses (by t s n row column v) (on_template s x))) i ∙ ap (λ (x : Checked). answer_of (on_pair refuses (by t s n row column v) (on_session g x))) j
  met_refused w m o (question {g = g} {h = h} p r) =
      ap answer_of (pair_is t s n row column v g h p)
      ∙ refused_answer (in_session t s n row column v g) m o ((base.refused_as_said s g.unique (length (sheets_of t)) n row column v _ _ (told t s n row column v held g) m o).1 r)

pub refused_as_said : RefusedExactly
unfolding pair_correction_of pair_of
refused_as_said t s n row column v r s' c w m o = (
  λ e. template_met t s n row column v c.held (checked_of t 0) refl w m o (refused_by (pair_correction_of t s n row column v) w m o (sym c.answer ∙ e)),
  λ x. c.answer ∙ met_refused t s n row column v c.held w m o x,
)

pub refused_keeps : RefusedKeeps
refused_keeps t s n row column v w m o s' c = c.after ∙ ap (session_after s) (refused_by (pair_correction_of t s n row column v) w m o (sym c.answer))

told_18 : (x : Correction) → answer_of (asked x) ≡ refuse_of of.Question 18 0 → correction.answer_of x ≡ refuse 18 0
told_18 (correction.refuses a b) e =
    let same : ◌≡◌ {A = pair.PairRefusal} (record { of = of.Question; number = a; offset = b }) (record { of = of.Question; number = 18; offset = 0 }) = cc in
    let told : pair.PairRefusal → Result (Unit {0}) refusal.Refusal = λ r. refuse r.number r.offset in
    ap told same
told_18 (correction.writes f p b) e = never cc

pub packed_as_said : PackedExactly
packed_as_said t s g h n row column c unique x r s' k both i packed f =
    let exactly = base.packed_as_said s g.unique (length (sheets_of t)) n row column c unique x _ _ (told t s n row column (Number x) k.held g) i packed f in
    let is = k.answer ∙ ap answer_of (pair_is t s n row column (Number x) g h both) in (
      λ e. exactly.0 (told_18 (in_session t s n row column (Number x) g) (sym is ∙ e)),
      λ none. is ∙ refused_answer t s n row column (Number x) k.held (in_session t s n row column (Number x) g) 18 0 (exactly.1 none),
    )
