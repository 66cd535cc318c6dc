-- The laws of the listing, with what a call gave as the proofs have it. Assumes nothing.
use Prim.Native.Nat.{ℕ, zero, suc, ◌+◌, ◌-◌, ◌≤◌, ◌<◌}
use mathlib.Core.Path.{◌≡◌, refl, sym, ap, ◌∙◌, subst}
use mathlib.Core.List.{List, [], ◌∷◌}
use Rattle.std.specs.Prelude.{Option, Some, None, option_map, Result, Ok, Err, ok_or}
use Rattle.std.specs.List.{slice_get}
use native.Mathlib.Omega.{arith}
use lib.ListN.{length}
use lib.Dec.{eqb}
use Rattle.steps.specs.Choice.{pick}
use Rattle.steps.proofs.Choice.{never, pick_eq, pick_ne}
use Rattle.steps.specs.Walk.{Next, more, stop}
use Rattle.steps.proofs.Walk.{run_more, run_stop, run_keeps}
use Rattle.steps.specs.Items.{Item, gives, skips, ends, onto, nth}
use Rattle.steps.proofs.Items.{Nearer}
use Rattle.refusal.specs.declared.Refusal.{Refusal}
use Rattle.refusal.specs.Refused.{refuse}
use Rattle.record.specs.declared.Header.{Header}
use Rattle.record.specs.declared.Header.TheVariants.{Record}
use Rattle.record.specs.Record.{header_at}
use Rattle.cell.specs.declared.Cell.{Cell}
use Rattle.cell.specs.declared.Found.{Found}
use Rattle.cell.specs.Cells.{shape_of, field_of, count_of, cell_of, found_of}
use Rattle.sheet_agreement.specs.Agreement.{Sheet}
use Rattle.globals.specs.declared.Boundsheet.{Boundsheet}
use Rattle.globals.specs.declared.Globals.{Globals}
use Rattle.globals.specs.Sheets.{declared, sheets_of}
use Rattle.globals.proofs.Sheets.{Roomy, sheets_roomy}
use Rattle.workbook.specs.Check.{Checked, checked_of, on_checked}
use Rattle.reading.specs.declared.Place.{Place}
use Rattle.reading.specs.Cells.{place_at, next_part, other_item, on_found, record_item, on_header, cell_item, remaining, listed_from}
use Rattle.reading.specs.Reading.{name_at, width_at, type_at, start_by, start_of, listed_of, rows_of}
use Rattle.reading.specs.Scan.{PastFrom}
use Rattle.reading.proofs.Laws.{count_small, found_there, cell_here, item_near, listed_step}
use Rattle.reading.proofs.Scanning.{leads_same}
use Rattle.listing.specs.declared.Description.{Description}
use Rattle.listing.specs.declared.Listed.{Listed}
use Rattle.listing.specs.declared.Sought.{Sought}
use Rattle.listing.specs.Listing.{sheet_of, name_of, cells_of, on_item, next_of}
use Rattle.listing.specs.Parts.{sought, found_sheet, sought_of}

-- ---- one step
module _ (s : List ℕ) (v : Place) (t z e : ℕ) (y : Item Place Cell) where
  pub inside : (v.level ≡ 0 → ⊥) → y ≡ other_item v t e → y ≡ record_item s v t z e
  unfolding record_item
  inside h g = pick_ne _ _ _ _ _ h g

  pub by_found : {r x : Option Found} → v.level ≡ 0 → r ≡ found_of s (shape_of t) v.at z v.part → r ≡ x → y ≡ on_found v t e x → y ≡ record_item s v t z e
  unfolding record_item
  by_found h i j g = pick_eq _ _ _ _ _ h (g ∙ ap (on_found v t e) (sym j ∙ i))

-- past a record that has no cell here, it is the depth alone that counts
pub by_depth : (v : Place) (t e : ℕ) → other_item v t e ≡ other_item (place_at 0 v.level) t e
unfolding other_item place_at
by_depth v t e = refl

pub part_fits : (s : List ℕ) (v : Place) (t z : ℕ) (f : Found) → found_of s (shape_of t) v.at z v.part ≡ Some f → v.part + 1 < 65536
part_fits s v t z f i =
    let h = found_there s (shape_of t) v.at z v.part f i in
    let b = h.below in
    let n = count_small (shape_of t) s v.at z in
    omega arith

pub by_header : (s : List ℕ) (v : Place) (y : Item Place Cell) {r x : Header} → r ≡ header_at s v.at → r ≡ x → y ≡ on_header s v x → y ≡ cell_item s v
unfolding cell_item
by_header s v y i j g = g ∙ ap (on_header s v) (sym j ∙ i)

-- ---- the next cell
abbrev pub listed : Cell → Place → Option Listed
listed c w = Some (record { cell = c; next = w })

module _ (s : List ℕ) where
  abbrev pub go : Place → Next Place (Option Listed)
  go v = on_item (cell_item s v)

  falls_by : (v w : Place) (x : Item Place Cell) → Nearer (remaining s) v x → on_item x ≡ more w → remaining s w < remaining s v
  falls_by v w (gives c t) n h = cc
  falls_by v w (skips t) n h = let e : t ≡ w = cc in rw e at n
  falls_by v w ends n h = cc

  pub falls : (v w : Place) → go v ≡ more w → remaining s w < remaining s v
  falls v w h = falls_by v w (cell_item s v) (item_near s v) h

  module _ (v : Place) where
    pub next_gives : (c : Cell) (w : Place) → cell_item s v ≡ gives c w → next_of s v ≡ listed c w
    unfolding next_of
    next_gives c w h = run_stop go None (remaining s) falls (ap on_item h)

    pub next_over : cell_item s v ≡ ends → next_of s v ≡ None
    unfolding next_of
    next_over h = run_stop go None (remaining s) falls (ap on_item h)

    -- from a record on that has no cell here
    pub next_past : (w : Place) → cell_item s v ≡ skips w → next_of s v ≡ next_of s w
    unfolding next_of
    next_past w h = run_more go None (remaining s) falls (ap on_item h)

    pub past_nearer : (w : Place) → cell_item s v ≡ skips w → remaining s w < remaining s v
    past_nearer w h = falls v w (ap on_item h)

  -- and past all those that follow it
  module _ (v w d : Place) (h : cell_item s v ≡ skips w) (p : PastFrom s w d) where
    pub next_skips : next_of s v ≡ next_of s d
    next_skips = next_past v w h ∙ leads_same s (next_of s) next_past w d p.leads

    pub less_skips : remaining s d < remaining s v
    less_skips = let a = past_nearer v w h in let b = p.near in omega arith

pub ruleset next_laws = (next_gives, next_over, next_skips, less_skips)

-- from a cell of a record on, that cell is the next one
module _ (s : List ℕ) (at t z e : ℕ) (whole-record : header_at s at ≡ Record t z e) (k : ℕ) (l : k < count_of (shape_of t) s at z) where
  pub next_part_lem : next_of s (record { at = at; part = k; level = 0 }) ≡ listed (cell_of s (field_of (shape_of t)) at k) (pick (eqb (count_of (shape_of t) s at z - (k + 1)) 0) (place_at e 0) (record { at = at; part = k + 1; level = 0 }))
  unfolding next_of next_part
  next_part_lem = run_stop (go s) None (remaining s) (falls s) (ap on_item (cell_here s at t z e whole-record k l))

-- ---- the list and the walk that gives its cells one by one
abbrev pub on_listed : List ℕ → Option Listed → List Cell
on_listed s (Some x) = x.cell ∷ listed_from s x.next
on_listed s None = []

module _ (s : List ℕ) where
  listed_more : (v w : Place) (x : Item Place Cell) → cell_item s v ≡ x → on_item x ≡ more w → listed_from s v ≡ listed_from s w
  listed_more v w (gives c t) h e = cc
  listed_more v w (skips t) h e = listed_step s v ∙ ap (λ (y : Item Place Cell). onto y (λ p. listed_from s p)) h ∙ ap (listed_from s) (let i : t ≡ w = cc in i)
  listed_more v w ends h e = cc

  listed_stop : (v : Place) (a : Option Listed) (x : Item Place Cell) → cell_item s v ≡ x → on_item x ≡ stop a → listed_from s v ≡ on_listed s a
  listed_stop v a (gives c t) h e = listed_step s v ∙ ap (λ (y : Item Place Cell). onto y (λ p. listed_from s p)) h ∙ ap (on_listed s) (let i : listed c t ≡ a = cc in i)
  listed_stop v a (skips t) h e = cc
  listed_stop v a ends h e = listed_step s v ∙ ap (λ (y : Item Place Cell). onto y (λ p. listed_from s p)) h ∙ ap (on_listed s) (let i : None ≡ a = cc in i)

  -- from any place on, `next_cell` gives the first cell of the list there and the place of the others, or the list is at its end
  pub listed_next : (v : Place) → listed_from s v ≡ on_listed s (next_of s v)
  unfolding next_of
  listed_next v =
      run_keeps (go s) None (remaining s) (falls s) (λ u. listed_from s v ≡ listed_from s u) (λ a. listed_from s v ≡ on_listed s a)
      (λ u w i j. i ∙ listed_more u w (cell_item s u) refl j)
      (λ u a i j. i ∙ listed_stop u a (cell_item s u) refl j)
      v refl

-- what a call of `next_cell` gave, r
module _ (s : List ℕ) (v : Place) (r : Option Listed) (is : r ≡ next_of s v) where
  pub no_cell : r ≡ None → listed_from s v ≡ []
  no_cell h = listed_next s v ∙ ap (on_listed s) (sym is ∙ h)

  pub cell_given : (f : Listed) → r ≡ Some f → listed_from s v ≡ f.cell ∷ listed_from s f.next
  cell_given f h = listed_next s v ∙ ap (on_listed s) (sym is ∙ h)

-- and the place that it gives is nearer the end
abbrev NearerThan : List ℕ → Place → Option Listed → Type 0
NearerThan s v (Some x) = remaining s x.next < remaining s v
NearerThan s v None = Unit {0}

near_stop : (s : List ℕ) (v u : Place) (a : Option Listed) (x : Item Place Cell) → Nearer (remaining s) u x → remaining s u ≤ remaining s v → on_item x ≡ stop a → NearerThan s v a
near_stop s v u a (gives c t) n l e = let j : listed c t ≡ a = cc in let i : remaining s t < remaining s v = omega arith in subst (NearerThan s v) j i
near_stop s v u a (skips t) n l e = cc
near_stop s v u a ends n l e = let j : None ≡ a = cc in subst (NearerThan s v) j tt

next_near : (s : List ℕ) (v : Place) → NearerThan s v (next_of s v)
unfolding next_of
next_near s v =
    run_keeps (go s) None (remaining s) (falls s) (λ u. remaining s u ≤ remaining s v) (NearerThan s v)
    (λ u w i j. let f = falls s u w j in omega arith)
    (λ u a i j. near_stop s v u a (cell_item s u) (item_near s u) i j)
    v (omega arith)

pub next_nearer : (s : List ℕ) (v : Place) (x : Listed) → next_of s v ≡ Some x → remaining s x.next < remaining s v
next_nearer s v x h = let n : NearerThan s v (Some x) = subst (NearerThan s v) h (next_near s v) in n

-- ---- the sheet that is sought, by what the iterator gives at n
nth_got : (l : List Sheet) (n : ℕ) → nth l n found_sheet None ≡ option_map sought (slice_get l n)
unfolding nth
nth_got [] n = refl
nth_got (x ∷ l) zero = refl
nth_got (x ∷ l) (suc n) = nth_got l n

got_room : (s : List ℕ) (l : List Sheet) (n : ℕ) (x : Sheet) → Roomy s l → Some x ≡ slice_get l n → x.header + 12 ≤ length s
got_room s [] n x r e = never (cc)
got_room s (y ∷ l) zero x r e = let i : x ≡ y = cc in rw i r.0
got_room s (y ∷ l) (suc n) x r e = got_room s l n x r.1 e

module _ (s : List ℕ) (n : ℕ) (r : Option Boundsheet) (got : option_map declared r ≡ slice_get (sheets_of s) n) where
  pub sought_none : r ≡ None → None ≡ nth (sheets_of s) n found_sheet None
  sought_none h = sym (nth_got (sheets_of s) n ∙ ap (option_map sought) (sym got ∙ ap (option_map declared) h))

  module _ (b : Boundsheet) (h : r ≡ Some b) where
    pub sought_some : Some (record { header = b.header; position = b.position; kind = b.kind }) ≡ nth (sheets_of s) n found_sheet None
    sought_some = sym (nth_got (sheets_of s) n ∙ ap (option_map sought) (sym got ∙ ap (option_map declared) h))

    pub sought_room : b.header + 12 ≤ length s
    sought_room = got_room s (sheets_of s) n (declared b) (sheets_roomy s 20) (ap (option_map declared) (sym h) ∙ got)

-- ---- the questions, after the check: k is what one says of the sheet that is sought, or of the refusal
module _ {B : Type 0} (k : Result Sought Refusal → B) where
  seeks : (l : List Sheet) (n : ℕ) → nth l n (λ (x : Sheet). k (Ok (sought x))) (k (refuse 11 0)) ≡ k (nth l n (λ (x : Sheet). Ok (sought x)) (refuse 11 0))
  unfolding nth
  seeks [] n = refl
  seeks (x ∷ l) zero = refl
  seeks (x ∷ l) (suc n) = seeks l n

  asked : (s : List ℕ) (n : ℕ) (r : Checked) → on_checked (λ m o. k (refuse m o)) (λ _. nth (sheets_of s) n (λ (x : Sheet). k (Ok (sought x))) (k (refuse 11 0))) r ≡ k (on_checked refuse (λ _. nth (sheets_of s) n (λ (x : Sheet). Ok (sought x)) (refuse 11 0)) r)
  asked s n (Ok g) = seeks (sheets_of s) n
  asked s n (Err e) = refl

abbrev to_start : List ℕ → Result Sought Refusal → Result Place Refusal
to_start s (Ok x) = Ok (start_by (length s) x.position x.kind)
to_start s (Err e) = Err e

abbrev to_description : List ℕ → Result Sought Refusal → Result Description Refusal
to_description s (Ok x) = Ok (record { type_byte = type_at s x.header; width = width_at s x.header; rows = rows_of (listed_from s (start_by (length s) x.position x.kind)) })
to_description s (Err e) = Err e

abbrev to_name : List ℕ → Result Sought Refusal → List ℕ
to_name s (Ok x) = name_at s x.header
to_name s (Err e) = []

-- where there is no such sheet, 11
abbrev missing : Refusal
missing = record { number = 11; offset = 0 }

found_or : (l : List Sheet) (n : ℕ) → ok_or (nth l n found_sheet None) missing ≡ nth l n (λ (x : Sheet). Ok (sought x)) (refuse 11 0)
unfolding nth
found_or [] n = refl
found_or (x ∷ l) zero = refl
found_or (x ∷ l) (suc n) = found_or l n

module _ (s : List ℕ) (n : ℕ) where
  abbrev on_check : Checked → Result Sought Refusal
  on_check r = on_checked refuse (λ _. nth (sheets_of s) n (λ (x : Sheet). Ok (sought x)) (refuse 11 0)) r

  pub sought_wrong : (e : Refusal) → checked_of s 0 ≡ Err e → sought_of s n ≡ Err e
  unfolding sought_of
  sought_wrong e h = ap on_check h

  pub sought_right : (g : Globals) → checked_of s 0 ≡ Ok g → sought_of s n ≡ ok_or (nth (sheets_of s) n found_sheet None) missing
  unfolding sought_of
  sought_right g h = ap on_check h ∙ sym (found_or (sheets_of s) n)

  pub cells_by : cells_of s n ≡ to_start s (sought_of s n)
  unfolding cells_of sought_of
  cells_by = asked (to_start s) s n (checked_of s 0)

  pub sheet_by : sheet_of s n ≡ to_description s (sought_of s n)
  unfolding sheet_of sought_of
  sheet_by = asked (to_description s) s n (checked_of s 0)

  pub name_by_lem : name_of s n ≡ to_name s (sought_of s n)
  unfolding name_of sought_of
  name_by_lem = asked (to_name s) s n (checked_of s 0)

pub ruleset checked_laws = (sought_wrong, sought_right)

-- ---- where the walks start is where the reading's lists do
module _ (s : List ℕ) where
  started : (v : Place) (l : List Sheet) (n : ℕ) → nth l n (λ (x : Sheet). Ok (start_of s x)) (refuse 11 0) ≡ Ok v → listed_from s v ≡ nth l n (λ (x : Sheet). listed_of s x) []
  unfolding nth
  started v [] n h = cc
  started v (x ∷ l) zero h = let e : start_of s x ≡ v = cc in ap (listed_from s) (sym e)
  started v (x ∷ l) (suc n) h = started v l n h

  cells_by_lem : (v : Place) (n : ℕ) (r : Checked) → on_checked refuse (λ _. nth (sheets_of s) n (λ (x : Sheet). Ok (start_of s x)) (refuse 11 0)) r ≡ Ok v → listed_from s v ≡ nth (sheets_of s) n (λ (x : Sheet). listed_of s x) []
  cells_by_lem v n (Ok g) h = started v (sheets_of s) n h
  cells_by_lem v n (Err e) h = cc

  -- the list from where `cells` starts is that of sheet n
  pub cells_listed : (n : ℕ) (v : Place) → cells_of s n ≡ Ok v → listed_from s v ≡ nth (sheets_of s) n (λ (x : Sheet). listed_of s x) []
  unfolding cells_of
  cells_listed n v h = cells_by_lem v n (checked_of s 0) h
