-- The laws of the comparison, with what a call gave as the proofs have it. Assumes nothing.
use Prim.Native.Nat.{ℕ, zero, suc, ◌+◌, ◌-◌, ◌*◌, max, min, ◌≤◌, ◌<◌}
use mathlib.Core.Path.{◌≡◌, refl, sym, ap, ◌∙◌, subst, subst⁻¹}
use mathlib.Core.Bool.{Bool, true, false, ◌||◌}
use mathlib.Core.Logic.{◌⊎◌, inl, inr}
use mathlib.Core.List.{List, [], ◌∷◌, ◌++◌, map}
use native.Mathlib.Omega.{arith}
use lib.ListN.{length, drop, length-drop, length-map}
use lib.Seq.{drop-drop}
use lib.Dec.{ltb, leb}
use borrow.Author.Tests.{ltb-true, ltb-false}
use Rattle.steps.specs.Choice.{pick}
use Rattle.steps.proofs.Choice.{pick_yes, pick_no, pick_le, pick_nle, pick_lt, pick_nlt, pick_any, never}
use Rattle.steps.specs.Items.{nth, onto}
use Rattle.record.specs.declared.Header.{Header}
use Rattle.record.specs.declared.Header.TheVariants.{Record, Cut, End}
use Rattle.record.specs.Record.{header_at}
use Rattle.record.proofs.Laws.{header_end, whole}
use Rattle.byte_numbers.specs.Bytes.{u16_at}
use Rattle.globals.specs.Globals.{on_first, globals_of}
use Rattle.sheet_agreement.specs.declared.SheetKind.{SheetKind}
use Rattle.sheet_agreement.specs.declared.SheetKind.TheVariants.{Worksheet}
use Rattle.sheet_agreement.specs.Agreement.{same_kind, Sheet}
use Rattle.globals.specs.declared.Bound.TheVariants as bound
use Rattle.globals.specs.declared.Globals.{Globals}
use Rattle.globals.specs.Sheets.{bound_at, on_bound, sheets_from, sheets_of}
use Rattle.globals.proofs.Sheets.{sheets_done}
use Rattle.std.specs.Prelude.{Option, None, Some, is_some, not, Result, Ok, Err}
use Rattle.refusal.specs.declared.Refusal.{Refusal}
use Rattle.workbook.specs.Check.{Checked, Right, checked_of, on_checked}
use Rattle.fetch.proofs.Laws.{checked_globals}
use Rattle.workbook.proofs.Laws.{short}
use Rattle.globals.proofs.Table.{TableTold, table_told}
use Rattle.strings.specs.Table.{places_of}
use Rattle.string_marks.specs.declared.table.Table.{Table}
use Rattle.string_marks.specs.Marks.{end_at}
use Rattle.reading.specs.declared.Place.{Place}
use Rattle.reading.specs.Cells.{place_at, cell_item, on_header, listed_from}
use Rattle.reading.specs.Reading.{SheetReading, name_at, start_by, listed_of, on_globals, cell_reading, sheet_reading, strings_at, reading_of}
use Rattle.reading.proofs.Laws.{listed_step}
use Rattle.listing.specs.declared.NextSheet.{NextSheet}
use Rattle.listing.specs.Listing.{first_sheet, next_sheet_of}
use Rattle.listing.proofs.SheetWalk.{FirstSheet, SheetsFrom, sheets_next}
use Rattle.differences.specs.Differences.{held_at, same, chars_of, Difference, none, name, between, cells_in, cell_difference, names_between, name_difference, sheet_keys, addresses, words_of, words_from, twice_in, differences}
use Rattle.cell_addresses.specs.Addresses.{twice_among, AscendFrom, Ascends, When}
use Rattle.cell_addresses.proofs.Laws.{held_is, twice_is, ascend_once, when_asked}
use Rattle.cell_differences.specs.Merge.{puts, put_to, differs, words_between, cell_words}
use Rattle.cell_differences.proofs.Puts.{puts_part, to_part, length_puts, puts_full, to_stays, puts_append, to_append, puts_start, start_count, start_all, start_full, start_more}
use Rattle.compare.specs.declared.Side.{Side}
use Rattle.compare.specs.declared.Side.TheVariants as side
use Rattle.compare.specs.declared.CompareRefusal.{CompareRefusal}
use Rattle.compare.specs.Comparison.{Comparison, refuses, lists, comparison_of, answer_of, buffer_after}
use Rattle.compare.specs.Parts.{Narrow, AllAscend, BothAscend, OnceIn, book_of, checked_for, start_in, next_in, same_names, name_seen, name_words, cells_seen, words_in}
use Rattle.compare.proofs.Keys.{on_from, on_start, on_end, on_sheet_lem}

-- what f says of the first of a list
abbrev pub firstly : {A B : Type 0} → (A → B) → B → List A → B
firstly f d [] = d
firstly f d (x ∷ l) = f x

-- ---- past the end there is no cell and no sheet
no_header : (s : List ℕ) → header_at s (length s) ≡ End
no_header s = sym (header_end s (length s) (omega arith))

end_cells : (s : List ℕ) → listed_from s (place_at (length s) 0) ≡ []
unfolding cell_item place_at
end_cells s = listed_step s (place_at (length s) 0) ∙ ap (λ (h : Header). onto (on_header s (record { at = length s; part = 0; level = 0 }) h) (λ v. listed_from s v)) (no_header s)

end_sheets : (s : List ℕ) → sheets_from s (length s) ≡ []
unfolding bound_at
end_sheets s = sheets_done s (length s) bound.Done (sym (ap (on_bound s (length s)) (no_header s))) refl

start_plain : (len p : ℕ) (k : SheetKind) → start_by len p k ≡ place_at (start_by len p k).at 0
unfolding start_by place_at
start_plain len p k = pick_any (λ (v : Place). v ≡ record { at = v.at; part = 0; level = 0 }) (same_kind k Worksheet) refl refl

-- ---- the next sheet from a place on
narrow_by : (s : List ℕ) (a : ℕ) (r : Option NextSheet) → SheetsFrom s a r → Narrow r
narrow_by s a (Some x) f = let wide = f.width in (omega arith, omega arith)
narrow_by s a None f = tt

cells_first : (s : List ℕ) (a : ℕ) (x : NextSheet) (f : FirstSheet s a x) → listed_of s f.sheet ≡ listed_from s (place_at x.cells.at 0)
cells_first s a x f = ap (listed_from s) (start_plain (length s) f.sheet.position f.sheet.kind) ∙ ap (λ (u : Place). listed_from s (place_at u.at 0)) f.start

cells_by : (s : List ℕ) (a : ℕ) (r : Option NextSheet) → SheetsFrom s a r → firstly (listed_of s) [] (sheets_from s a) ≡ listed_from s (place_at (start_in s r) 0)
cells_by s a (Some x) f = ap (firstly (listed_of s) []) f.list ∙ cells_first s a x f
cells_by s a None f = ap (firstly (listed_of s) []) f ∙ sym (end_cells s)

rest_by : (s : List ℕ) (a : ℕ) (r : Option NextSheet) → SheetsFrom s a r → drop 1 (sheets_from s a) ≡ sheets_from s (next_in s r)
rest_by s a (Some x) f = ap (drop 1) f.list
rest_by s a None f = ap (drop 1) f ∙ sym (end_sheets s)

near_by : (s : List ℕ) (a : ℕ) (r : Option NextSheet) → SheetsFrom s a r → length s - next_in s r ≤ length s - a
near_by s a (Some x) f = let n = f.nearer in omega arith
near_by s a None f = omega arith

pub record Seen (s : List ℕ) (a : ℕ) (r : Option NextSheet) : Type 0 where
  pub first : SheetsFrom s a r
  pub narrow : Narrow r
  pub cells : firstly (listed_of s) [] (sheets_from s a) ≡ listed_from s (place_at (start_in s r) 0)
  pub rest : drop 1 (sheets_from s a) ≡ sheets_from s (next_in s r)
  pub near : length s - next_in s r ≤ length s - a

module _ (s : List ℕ) (a : ℕ) {r : Option NextSheet} (is : r ≡ next_sheet_of s a) where
  found : SheetsFrom s a r
  found = subst⁻¹ (SheetsFrom s a) is (sheets_next s a)

  pub seen : Seen s a r
  seen = record { first = found; narrow = narrow_by s a r found; cells = cells_by s a r found; rest = rest_by s a r found; near = near_by s a r found }

  here : (x : NextSheet) → r ≡ Some x → FirstSheet s a x
  here x e = subst (SheetsFrom s a) e found

  gone : r ≡ None → sheets_from s a ≡ []
  gone e = subst (SheetsFrom s a) e found

  pub sheet_nearer : (x : NextSheet) → r ≡ Some x → length s - x.next < length s - a
  sheet_nearer x e = (here x e).nearer

-- ---- addresses that ascend
module _ (s : List ℕ) (a : ℕ) (inv : AllAscend s (sheets_from s a) → AllAscend s (sheets_of s)) {r : Option NextSheet} (is : r ≡ next_sheet_of s a) where
  pub ascend_end : r ≡ None → AllAscend s (sheets_of s)
  ascend_end e = inv (subst⁻¹ (AllAscend s) (gone s a is e) tt)

  pub ascend_on : (x : NextSheet) → r ≡ Some x → (y : Bool) → Ascends (listed_from s (place_at x.cells.at 0)) y → y ≡ true → AllAscend s (sheets_from s x.next) → AllAscend s (sheets_of s)
  ascend_on x e y w j rest = let h = here s a is x e in inv (subst⁻¹ (AllAscend s) h.list (subst⁻¹ (AscendFrom 0) (cells_first s a x h) (when_asked y _ w j), rest))

once_all : (s : List ℕ) (l : List Sheet) → AllAscend s l → twice_in (map (sheet_reading s) l) ≡ false
unfolding twice_in
once_all s [] w = refl
once_all s (x ∷ l) w = (let u = twice_is s (listed_of s x) ∙ ascend_once 0 (listed_of s x) w.0 in let v = once_all s l w.1 in λ z. u z || v z)

pub ascends_are : (s : List ℕ) (b : Bool) → When b (AllAscend s (sheets_of s)) → b ≡ true → twice_in (reading_of s 0).sheets ≡ false
unfolding reading_of
ascends_are s b w e = once_all s (sheets_of s) (when_asked b _ w e)

all_drop : (s : List ℕ) (n : ℕ) (l : List Sheet) → AllAscend s l → AllAscend s (drop n l)
all_drop s zero l w = w
all_drop s (suc n) [] w = tt
all_drop s (suc n) (x ∷ l) w = all_drop s n l w.1

all_first : (s : List ℕ) (l : List Sheet) → AllAscend s l → AscendFrom 0 (firstly (listed_of s) [] l)
all_first s [] w = tt
all_first s (x ∷ l) w = w.0

found_ascends : (s : List ℕ) (n a : ℕ) (r : Option NextSheet) → AllAscend s (sheets_of s) → drop n (sheets_of s) ≡ sheets_from s a → Seen s a r → AscendFrom 0 (listed_from s (place_at (start_in s r) 0))
found_ascends s n a r w i p = subst (AscendFrom 0) p.cells (all_first s (sheets_from s a) (subst (AllAscend s) i (all_drop s n (sheets_of s) w)))

-- ---- an address twice
module _ (s : List ℕ) where
  abbrev pub TwiceFrom : ℕ → Type 0
  TwiceFrom a = twice_in (map (sheet_reading s) (sheets_of s)) ≡ twice_in (map (sheet_reading s) (sheets_from s a))

  pub twice_start : TwiceFrom 20
  twice_start = refl

  module _ (a : ℕ) (inv : TwiceFrom a) {r : Option NextSheet} (is : r ≡ next_sheet_of s a) where
    pub twice_none : r ≡ None → false ≡ twice_in (reading_of s 0).sheets
    unfolding twice_in reading_of
    twice_none e = sym (inv ∙ ap (λ (l : List Sheet). twice_in (map (sheet_reading s) l)) (gone s a is e))

    module _ (x : NextSheet) (e : r ≡ Some x) (y : Bool) (y-is : y ≡ twice_among (listed_from s (place_at x.cells.at 0))) where
      sheet_twice : twice_in (map (sheet_reading s) (sheets_of s)) ≡ (y || twice_in (map (sheet_reading s) (sheets_from s x.next)))
      unfolding twice_in
      sheet_twice =
          let h = here s a is x e in
          let o = twice_is s (listed_of s h.sheet) ∙ ap twice_among (cells_first s a x h) ∙ sym y-is in
          inv ∙ ap (λ (l : List Sheet). twice_in (map (sheet_reading s) l)) h.list ∙ ap (λ (b : Bool). b || twice_in (map (sheet_reading s) (sheets_from s x.next))) o

      pub twice_here : y ≡ true → true ≡ twice_in (reading_of s 0).sheets
      unfolding reading_of
      twice_here j = sym (sheet_twice ∙ ap (λ (b : Bool). b || twice_in (map (sheet_reading s) (sheets_from s x.next))) j)

      pub twice_past : y ≡ false → TwiceFrom x.next
      twice_past j = sheet_twice ∙ ap (λ (b : Bool). b || twice_in (map (sheet_reading s) (sheets_from s x.next))) j

pub ruleset sheet_laws = (sheet_nearer, ascend_end, ascend_on, twice_start, twice_none, twice_here, twice_past)

-- ---- names
module _ (s t : List ℕ) (key from : ℕ) where
  pub name_later : (x y : Option NextSheet) → key < from → name_words s x t y key from ≡ []
  unfolding name_words
  name_later x y h = sym (pick_nle _ _ _ from key h refl)

  none_seen : (d : Difference) → d ≡ none → pick (leb from key) (words_of key d) [] ≡ []
  none_seen d e = ap (λ (z : Difference). pick (leb from key) (words_of key z) []) e ∙ sym (pick_any (λ (z : List ℕ). [] ≡ z) (leb from key) refl refl)

  pub name_first : (x y : Option NextSheet) → ((v : NextSheet) → x ≡ Some v → ⊥) → name_words s x t y key from ≡ []
  unfolding name_words
  name_first (Some x) y h = absurd (h x refl)
  name_first None y h = none_seen none refl

  pub name_second : (x y : Option NextSheet) → ((v : NextSheet) → y ≡ Some v → ⊥) → name_words s x t y key from ≡ []
  unfolding name_words
  name_second (Some x) (Some y) h = absurd (h y refl)
  name_second (Some x) None h = none_seen none refl
  name_second None y h = none_seen none refl

  module _ (x y : Option NextSheet) (v : NextSheet) (i : x ≡ Some v) (w : NextSheet) (j : y ≡ Some w) (r : Bool) (is : r ≡ same_names s v t w) where
    seen_is : name_seen s x t y ≡ pick (same_names s v t w) none name
    seen_is = λ k. name_seen s (i k) t (j k)

    pub name_same : r ≡ true → name_words s x t y key from ≡ []
    unfolding name_words
    name_same h = none_seen _ (seen_is ∙ sym (pick_yes _ _ _ is h refl))

    pub name_differs : r ≡ false → from ≤ key → name_words s x t y key from ≡ (key * 4) ∷ []
    unfolding name_words
    name_differs h l = sym (pick_le _ _ _ from key l (ap (words_of key) (pick_no _ _ _ is h refl) ∙ ap (words_of key) (sym seen_is)))

pub none_to : (n i : ℕ) → put_to n i [] ≡ i
unfolding put_to
none_to n i = refl

pub none_puts : (b : List ℕ) (i : ℕ) → puts b i [] ≡ b
unfolding puts
none_puts b i = refl

pub ruleset name_laws = (name_later, name_first, name_second, name_same, name_differs, none_to, none_puts)

-- ---- cells
module _ (s : List ℕ) (v p : ℕ) (t : List ℕ) (w q key from : ℕ) where
  module _ (l : from < key + 8589934592) where
    pub seen_from : (k : ℕ) → k ≡ from - (key + 4294967296) → cell_words s v p t w q (key + 4294967296) k ≡ cells_seen s v p t w q key from
    unfolding cells_seen
    seen_from k e = pick_lt _ _ _ from (key + 8589934592) l (ap (cell_words s v p t w q (key + 4294967296)) e)

  pub seen_none : key + 8589934592 ≤ from → cells_seen s v p t w q key from ≡ []
  unfolding cells_seen
  seen_none h = sym (pick_nlt _ _ _ from (key + 8589934592) h refl)

pub ruleset cells_laws = (seen_from, seen_none, none_to, none_puts)

pub ruleset append_laws = (puts_append, to_append, length_puts)

-- ---- the sheets one after the other
nth_drop : {A B C : Type 0} (g : A → B) (f : B → C) (d : C) (l : List A) (n : ℕ) → nth (map g l) n f d ≡ firstly (λ (z : A). f (g z)) d (drop n l)
unfolding nth
nth_drop g f d [] zero = refl
nth_drop g f d [] (suc n) = refl
nth_drop g f d (x ∷ l) zero = refl
nth_drop g f d (x ∷ l) (suc n) = nth_drop g f d l n

first_map : (s : List ℕ) (l : List Sheet) → firstly (λ (z : Sheet). (sheet_reading s z).cells) [] l ≡ map (cell_reading s) (firstly (listed_of s) [] l)
first_map s [] = refl
first_map s (x ∷ l) = refl

-- sheet n is there, or it is not
abbrev Counted : List ℕ → ℕ → Option NextSheet → Type 0
Counted s n (Some x) = n < length (sheets_of s)
Counted s n None = length (sheets_of s) ≤ n

counted_by : (s : List ℕ) (a n : ℕ) (r : Option NextSheet) → drop n (sheets_of s) ≡ sheets_from s a → SheetsFrom s a r → Counted s n r
counted_by s a n (Some x) i f = let k = ap length (i ∙ f.list) in let l = length-drop n (sheets_of s) in omega arith
counted_by s a n None i f = let k = ap length (i ∙ f) in let l = length-drop n (sheets_of s) in omega arith

-- one of the two sheets is there
abbrev pub Either : Option NextSheet → Option NextSheet → Type 0
Either (Some x) y = Unit {0}
Either None (Some y) = Unit {0}
Either None None = ⊥

pub none_is : (x : Option NextSheet) (r : Bool) → is_some x ≡ not r → r ≡ true → x ≡ None
none_is (Some x) true e h = never (cc)
none_is (Some x) false e h = never (cc)
none_is None r e h = refl

some_is : (x : Option NextSheet) (r : Bool) → is_some x ≡ not r → r ≡ false → is_some x ≡ true
some_is x true e h = never (cc)
some_is x false e h = e

either_by : (x y : Option NextSheet) → (is_some x ≡ true) ⊎ (is_some y ≡ true) → Either x y
either_by (Some x) y h = tt
either_by None (Some y) h = tt
either_by None None (inl h) = never (cc)
either_by None None (inr h) = never (cc)

pub either_first : (x y : Option NextSheet) (r : Bool) → is_some x ≡ not r → r ≡ false → Either x y
either_first x y r e h = either_by x y (inl (some_is x r e h))

pub either_second : (x y : Option NextSheet) (r : Bool) → is_some y ≡ not r → r ≡ false → Either x y
either_second x y r e h = either_by x y (inr (some_is y r e h))

nearer_by : (s : List ℕ) (a : ℕ) (x : Option NextSheet) → SheetsFrom s a x → (t : List ℕ) (b : ℕ) (y : Option NextSheet) → SheetsFrom t b y → Either x y → (length s - next_in s x) + (length t - next_in t y) < (length s - a) + (length t - b)
nearer_by s a (Some x) f t b y g h = let k = f.nearer in let l = near_by t b y g in omega arith
nearer_by s a None f t b (Some y) g h = let l = g.nearer in omega arith
nearer_by s a None f t b None g h = absurd h

-- sheet n of the first stream is found from a on, sheet n of the second from b on
module _ (s : List ℕ) (p a : ℕ) (x : Option NextSheet) (t : List ℕ) (q b : ℕ) (y : Option NextSheet) (n : ℕ)
    (i : drop n (sheets_of s) ≡ sheets_from s a) (j : drop n (sheets_of t) ≡ sheets_from t b) (f : Seen s a x) (g : Seen t b y) where
  cells_are : (s : List ℕ) (p a : ℕ) (x : Option NextSheet) → drop n (sheets_of s) ≡ sheets_from s a → Seen s a x → cells_in (book_of s p) n ≡ map (cell_reading s) (listed_from s (place_at (start_in s x) 0))
  unfolding cells_in book_of
  cells_are s p a x i f =
      nth_drop (sheet_reading s) (λ (z : SheetReading). z.cells) [] (sheets_of s) n
      ∙ ap (firstly (λ (z : Sheet). (sheet_reading s z).cells) []) i ∙ first_map s (sheets_from s a)
      ∙ ap (map (cell_reading s)) f.cells

  cell_is : (c : ℕ) → cell_difference (book_of s p) (book_of t q) n c ≡ differs s t (strings_at s p) (strings_at t q) (listed_from s (place_at (start_in s x) 0)) (listed_from t (place_at (start_in t y) 0)) c
  unfolding cell_difference differs book_of
  cell_is c =
      let u = ap (held_at c) (cells_are s p a x i f) ∙ held_is s c (listed_from s (place_at (start_in s x) 0)) in
      let v = ap (held_at c) (cells_are t q b y j g) ∙ held_is t c (listed_from t (place_at (start_in t y) 0)) in
      λ k. between (strings_at s p) (strings_at t q) (u k) (v k)

  abbrev names_of : List Sheet → List Sheet → Difference
  names_of k m = firstly (λ (z : Sheet). firstly (λ (z' : Sheet). names_between (sheet_reading s z) (sheet_reading t z')) none m) none k

  names_by : (x y : Option NextSheet) → SheetsFrom s a x → SheetsFrom t b y → names_of (sheets_from s a) (sheets_from t b) ≡ name_seen s x t y
  unfolding same_names
  names_by (Some x) (Some y) f g =
      let a = f.header in let b = f.width in let c = g.header in let d = g.width in
      (λ r. names_of (f.list r) (g.list r)) ∙ (λ r. pick (same (chars_of (name_at s (a r)) (b r)) (chars_of (name_at t (c r)) (d r))) none name)
  names_by (Some x) None f g = λ r. names_of (f.list r) (g r)
  names_by None y f g = λ r. names_of (f r) (sheets_from t b)

  name_is : name_difference (book_of s p) (book_of t q) n ≡ name_seen s x t y
  unfolding name_difference book_of
  name_is =
      nth_drop (sheet_reading s) (λ (u : SheetReading). nth (map (sheet_reading t) (sheets_of t)) n (λ (v : SheetReading). names_between u v) none) none (sheets_of s) n
      ∙ (λ k. firstly (λ (z : Sheet). nth_drop (sheet_reading t) (λ (v : SheetReading). names_between (sheet_reading s z) v) none (sheets_of t) n k) none (drop n (sheets_of s)))
      ∙ (λ k. names_of (i k) (j k))
      ∙ names_by x y f.first g.first

  pub next_first : drop (n + 1) (sheets_of s) ≡ sheets_from s (next_in s x)
  next_first = sym (drop-drop 1 n (sheets_of s)) ∙ ap (drop 1) i ∙ f.rest

  pub next_second : drop (n + 1) (sheets_of t) ≡ sheets_from t (next_in t y)
  next_second = sym (drop-drop 1 n (sheets_of t)) ∙ ap (drop 1) j ∙ g.rest

  length_first : length (book_of s p).sheets ≡ length (sheets_of s)
  unfolding book_of
  length_first = length-map (sheets_of s) (sheet_reading s)

  length_second : length (book_of t q).sheets ≡ length (sheets_of t)
  unfolding book_of
  length_second = length-map (sheets_of t) (sheet_reading t)

  either_there : (x y : Option NextSheet) → Counted s n x → Counted t n y → Either x y → n < max (length (book_of s p).sheets) (length (book_of t q).sheets)
  either_there (Some x) y k l h = let m = length_first in omega arith
  either_there None (Some y) k l h = let m = length_second in omega arith
  either_there None None k l h = absurd h

  module _ (from : ℕ) where
    pub sheet_is : Either x y → on_from (book_of s p) (book_of t q) from n ≡ (name_words s x t y (n * sheet_keys) from ++ cells_seen s (start_in s x) p t (start_in t y) q (n * sheet_keys) from) ++ on_from (book_of s p) (book_of t q) from (n + 1)
    unfolding name_words cells_seen words_between
    sheet_is h =
        on_sheet_lem (book_of s p) (book_of t q) from n (either_there x y (counted_by s a n x i f.first) (counted_by t b n y j g.first) h)
        ∙ (let u = name_is in λ k. (pick (leb from (n * sheet_keys)) (words_of (n * sheet_keys) (u k)) []
        ++ pick (ltb from (n * sheet_keys + sheet_keys)) (words_from (λ z. cell_is (z - (n * sheet_keys + addresses)) k) (n * sheet_keys + addresses + (from - (n * sheet_keys + addresses))) (addresses - (from - (n * sheet_keys + addresses)))) [])
        ++ on_from (book_of s p) (book_of t q) from (n + 1))

    pub sheets_end : x ≡ None → y ≡ None → on_from (book_of s p) (book_of t q) from n ≡ []
    sheets_end e e' =
        let k : length (sheets_of s) ≤ n = subst (Counted s n) e (counted_by s a n x i f.first) in
        let l : length (sheets_of t) ≤ n = subst (Counted t n) e' (counted_by t b n y j g.first) in
        let m = length_first in
        let o = length_second in
        on_end (book_of s p) (book_of t q) from n (omega arith) (omega arith)

-- ---- the list on its way: sheet n comes next, j words stand in the buffer
pub record Listing (s : List ℕ) (p : ℕ) (t : List ℕ) (q from : ℕ) (out₀ out : List ℕ) (a b n j : ℕ) : Type 0 where
  pub first : drop n (sheets_of s) ≡ sheets_from s a
  pub second : drop n (sheets_of t) ≡ sheets_from t b
  pub few : n + ((length s - a) + (length t - b)) ≤ length s + length t
  pub size : length out ≡ length out₀
  pub words : puts out₀ 0 (differences (book_of s p) (book_of t q) from) ≡ puts out j (on_from (book_of s p) (book_of t q) from n)
  pub count : put_to (length out₀) 0 (differences (book_of s p) (book_of t q) from) ≡ put_to (length out) j (on_from (book_of s p) (book_of t q) from n)

module _ (s : List ℕ) (p : ℕ) (t : List ℕ) (q from : ℕ) (out₀ : List ℕ) where
  pub listing_start : (a b : ℕ) → a ≡ first_sheet → b ≡ first_sheet → Listing s p t q from out₀ out₀ a b 0 0
  listing_start a b e e' = record {
    first = ap (sheets_from s) (sym e);
    second = ap (sheets_from t) (sym e');
    few = omega arith;
    size = refl;
    words = ap (puts out₀ 0) (on_start (book_of s p) (book_of t q) from);
    count = ap (put_to (length out₀) 0) (on_start (book_of s p) (book_of t q) from);
  }

  module _ (out : List ℕ) (a b n j : ℕ) (g : Listing s p t q from out₀ out a b n j) where
    abbrev all : List ℕ
    all = differences (book_of s p) (book_of t q) from

    pub listing_full : length out < j → (j ≡ put_to (length out₀) 0 all) × (out ≡ puts out₀ 0 all)
    listing_full h = (sym (g.count ∙ to_stays (length out) j _ h), sym (g.words ∙ puts_full out j _ (omega arith)))

    pub listing_few : length s ≤ 16777216 → length t ≤ 16777216 → n * 8589934592 < 288230376151711745
    listing_few h i = let f = g.few in omega arith

    module _ {x y : Option NextSheet} (x-is : x ≡ next_sheet_of s a) (y-is : y ≡ next_sheet_of t b) where
      pub both_ascend : (up : Bool) → When up (BothAscend s t) → When up (AscendFrom 0 (listed_from s (place_at (start_in s x) 0)) × AscendFrom 0 (listed_from t (place_at (start_in t y) 0)))
      both_ascend true w = (found_ascends s n a x w.0 g.first (seen s a x-is), found_ascends t n b y w.1 g.second (seen t b y-is))
      both_ascend false w = tt

      nearer : Either x y → (length s - next_in s x) + (length t - next_in t y) < (length s - a) + (length t - b)
      nearer = nearer_by s a x (found s a x-is) t b y (found t b y-is)

      pub listing_end : x ≡ None → y ≡ None → (j ≡ put_to (length out₀) 0 all) × (out ≡ puts out₀ 0 all)
      unfolding put_to puts
      listing_end e e' =
          let o = sheets_end s p a x t q b y n g.first g.second (seen s a x-is) (seen t b y-is) from e e' in
          (sym (g.count ∙ ap (put_to (length out) j) o), sym (g.words ∙ ap (puts out j) o))

      module _ (h : Either x y) (a' : ℕ) (a'-is : a' ≡ next_in s x) (b' : ℕ) (b'-is : b' ≡ next_in t y) where
        pub listing_nearer : (length s - a') + (length t - b') < (length s - a) + (length t - b)
        listing_nearer = let n = nearer h in omega arith

        abbrev words : List ℕ
        words = name_words s x t y (n * 8589934592) from ++ cells_seen s (start_in s x) p t (start_in t y) q (n * 8589934592) from

        pub listing_turn : (out' : List ℕ) (j' : ℕ) → j' ≡ put_to (length out) j words → out' ≡ puts out j words → Listing s p t q from out₀ out' a' b' (n + 1) j'
        listing_turn out' j' c d =
            let u = seen s a x-is in
            let v = seen t b y-is in
            let o = sheet_is s p a x t q b y n g.first g.second u v from h in
            let l = ap length d ∙ length_puts out j words in
            let near = nearer h in
            let f = g.few in
            record {
              first = next_first s p a x t q b y n g.first g.second u v ∙ ap (sheets_from s) (sym a'-is);
              second = next_second s p a x t q b y n g.first g.second u v ∙ ap (sheets_from t) (sym b'-is);
              few = omega arith;
              size = l ∙ g.size;
              words = puts_part _ out out' words (on_from (book_of s p) (book_of t q) from (n + 1)) _ j j' g.words o d c;
              count = to_part _ (length out) (length out') words (on_from (book_of s p) (book_of t q) from (n + 1)) _ j j' g.count o l c;
            }

-- ---- the whole
book_is : (s : List ℕ) (g : Globals) → checked_of s 0 ≡ Right g → book_of s g.table ≡ reading_of s 0
unfolding book_of reading_of
book_is s g h = λ k. record { sheets = map (sheet_reading s) (sheets_of s); strings = on_globals s (sym (checked_globals s 0 g (sym h)) k) }

-- the check of one stream
right_by : (x : Side) (c : Checked) (g : Globals) → checked_for x c ≡ Ok g → c ≡ Right g
right_by x (Ok h) g e = cc
right_by x (Err r) g e = never (cc)

record Refused (x : Side) (c : Checked) (e : CompareRefusal) : Type 0 where
  refusal : Refusal
  wrong : c ≡ Err refusal
  told : e ≡ record { side = x; number = refusal.number; offset = refusal.offset }

wrong_by : (x : Side) (c : Checked) (e : CompareRefusal) → checked_for x c ≡ Err e → Refused x c e
wrong_by x (Ok g) e i = never (cc)
wrong_by x (Err r) e i = record { refusal = r; wrong = refl; told = cc }

pub right : (x : Side) (s : List ℕ) {z : Result Globals CompareRefusal} (g : Globals) → z ≡ checked_for x (checked_of s 0) → z ≡ Ok g → checked_of s 0 ≡ Right g
right x s g is e = right_by x (checked_of s 0) g (sym is ∙ e)

-- a refusal: the answer, and the buffer
pub record Refuses (s t : List ℕ) (from : ℕ) (e : CompareRefusal) : Type 0 where
  pub answer : (n : ℕ) → Err e ≡ answer_of n (comparison_of s t from)
  pub buffer : (b : List ℕ) → b ≡ buffer_after b (comparison_of s t from)

refuses_by : (s t : List ℕ) (from : ℕ) (x : Side) (m o : ℕ) (e : CompareRefusal) → comparison_of s t from ≡ refuses x m o → e ≡ record { side = x; number = m; offset = o } → Refuses s t from e
refuses_by s t from x m o e h i = record { answer = λ n. ap Err i ∙ ap (answer_of n) (sym h); buffer = λ b. ap (buffer_after b) (sym h) }

module _ (s t : List ℕ) (from : ℕ) where
  abbrev after_second : Comparison
  after_second =
      pick (twice_in (reading_of s 0).sheets) (refuses side.First 16 0)
      (pick (twice_in (reading_of t 0).sheets) (refuses side.Second 16 0)
      (lists (differences (reading_of s 0) (reading_of t 0) from)))

  abbrev after_first : Checked → Comparison
  after_first = on_checked (refuses side.Second) (λ _. after_second)

  wrong_first : (e : Refusal) → checked_of s 0 ≡ Err e → comparison_of s t from ≡ refuses side.First e.number e.offset
  unfolding comparison_of
  wrong_first e h = ap (on_checked (refuses side.First) (λ _. after_first (checked_of t 0))) h

  module _ {z : Result Globals CompareRefusal} (z-is : z ≡ checked_for side.First (checked_of s 0)) where
    pub refuses_first : (e : CompareRefusal) → z ≡ Err e → Refuses s t from e
    refuses_first e h = let w = wrong_by side.First (checked_of s 0) e (sym z-is ∙ h) in refuses_by s t from side.First w.refusal.number w.refusal.offset e (wrong_first w.refusal w.wrong) w.told

    module _ (g : Globals) (h : z ≡ Ok g) {y : Result Globals CompareRefusal} (y-is : y ≡ checked_for side.Second (checked_of t 0)) where
      first_right : comparison_of s t from ≡ after_first (checked_of t 0)
      unfolding comparison_of
      first_right = ap (on_checked (refuses side.First) (λ _. after_first (checked_of t 0))) (right side.First s g z-is h)

      pub refuses_second : (e : CompareRefusal) → y ≡ Err e → Refuses s t from e
      refuses_second e i =
          let w = wrong_by side.Second (checked_of t 0) e (sym y-is ∙ i) in
          refuses_by s t from side.Second w.refusal.number w.refusal.offset e (first_right ∙ ap after_first w.wrong) w.told

      module _ (g' : Globals) (i : y ≡ Ok g') where
        both_right : comparison_of s t from ≡ after_second
        both_right = first_right ∙ ap after_first (right side.Second t g' y-is i)

        module _ {u : Result Bool CompareRefusal} (once : OnceIn side.First s u) where
          pub twice_first : (e : CompareRefusal) → u ≡ Err e → Refuses s t from e
          twice_first e k =
              let w : OnceIn side.First s (Err e) = subst (OnceIn side.First s) k once in
              refuses_by s t from side.First 16 0 e (both_right ∙ sym (pick_yes _ _ _ refl w.0 refl)) w.1

          module _ (up : Bool) (k : u ≡ Ok up) where
            first_once : twice_in (reading_of s 0).sheets ≡ false
            first_once = let w : OnceIn side.First s (Ok up) = subst (OnceIn side.First s) k once in w.0

            module _ {v : Result Bool CompareRefusal} (once' : OnceIn side.Second t v) where
              pub twice_second : (e : CompareRefusal) → v ≡ Err e → Refuses s t from e
              twice_second e l =
                  let w : OnceIn side.Second t (Err e) = subst (OnceIn side.Second t) l once' in
                  refuses_by s t from side.Second 16 0 e (both_right ∙ sym (pick_no _ _ _ refl first_once (pick_yes _ _ _ refl w.0 refl))) w.1

              pub all_listed : (down : Bool) → v ≡ Ok down → comparison_of s t from ≡ lists (differences (book_of s g.table) (book_of t g'.table) from)
              all_listed down l =
                  let w : OnceIn side.Second t (Ok down) = subst (OnceIn side.Second t) l once' in
                  both_right ∙ sym (pick_no _ _ _ refl first_once (pick_no _ _ _ refl w.0 refl))
                  ∙ (let a = book_is s g (right side.First s g z-is h) in let b = book_is t g' (right side.Second t g' y-is i) in λ k. lists (differences (sym a k) (sym b k) from))

-- the list: the answer, and the buffer
module _ (c : Comparison) (l : List ℕ) (e : c ≡ lists l) where
  answer_by : (m r : ℕ) → r ≡ put_to m 0 l → (b : Bool) → ltb m r ≡ b → Ok (record { words = min r m; more = ltb m r }) ≡ answer_of m c
  answer_by m r h true i =
      let o = ltb-true m r i in
      let k : min r m ≡ m = omega arith in
      let x = start_full m l r h o in
      let y = start_more m l r h o in
      (λ z. Ok (record { words = (k ∙ x) z; more = (i ∙ y) z })) ∙ ap (answer_of m) (sym e)
  answer_by m r h false i =
      let o = ltb-false m r i in
      let k : min r m ≡ r = omega arith in
      let x = start_count m l r h o in
      let y = start_all m l r h o in
      (λ z. Ok (record { words = (k ∙ x) z; more = (i ∙ y) z })) ∙ ap (answer_of m) (sym e)

  pub listed_answer : (m r : ℕ) → r ≡ put_to m 0 l → (w : ℕ) → w ≡ min r m → Ok (record { words = w; more = ltb m r }) ≡ answer_of m c
  listed_answer m r h w i = ap (λ (k : ℕ). Ok (record { words = k; more = ltb m r })) i ∙ answer_by m r h (ltb m r) refl

  pub listed_buffer : (b a : List ℕ) → a ≡ puts b 0 l → a ≡ buffer_after b c
  listed_buffer b a h = h ∙ puts_start b l ∙ ap (buffer_after b) (sym e)

-- ---- the table of strings of a stream that passes
pub record Tabled (s : List ℕ) (g : Globals) : Type 0 where
  pub absent : g.table ≡ 0 → g.unique ≡ 0
  pub within : 0 < g.table → end_at s g.table ≤ length s
  pub stands : 0 < g.unique → end_at s g.table ≤ length s
  pub counted : 0 < g.table → length (places_of s g.table (end_at s g.table)) ≡ g.unique
  pub short : end_at s g.table < g.table + 65540
  pub small : length s ≤ 16777216

-- the first record is whole, as every record of it
first_small : (s : List ℕ) (g : Globals) → globals_of s 0 ≡ Ok g → u16_at s 2 ≤ 8224
unfolding globals_of
first_small s g h = by (header_at s 0) refl h
  where
    by : (x : Header) → header_at s 0 ≡ x → on_first s 0 x ≡ Ok g → u16_at s 2 ≤ 8224
    by (Record t z e) i j = let w = whole s 0 t z e i in let a = w.size in let b = w.small in omega arith
    by Cut i j = never (cc)
    by End i j = never (cc)

tabled_by : (s : List ℕ) (g : Globals) → length s ≤ 16777216 → u16_at s 2 ≤ 8224 → TableTold s 0 g → Tabled s g
tabled_by s g l few (inl t) = record {
  absent = λ _. t.1;
  within = λ h. absurd (let e = t.0 in omega arith);
  stands = λ h. absurd (let e = t.1 in omega arith);
  counted = λ h. absurd (let e = t.0 in omega arith);
  short = subst⁻¹ (λ (p : ℕ). end_at s p < p + 65540) t.0 (omega arith);
  small = l;
}
tabled_by s g l few (inr t) = record {
  absent = λ h. absurd (let e = t.later in omega arith);
  within = λ _. t.within;
  stands = λ _. t.within;
  counted = λ _. t.count;
  short = let w = whole s g.table 0x00FC (u16_at s (g.table + 2)) (g.table + 4 + u16_at s (g.table + 2)) t.sst in let b = w.small in omega arith;
  small = l;
}

pub tabled : (s : List ℕ) (g : Globals) → checked_of s 0 ≡ Right g → Tabled s g
tabled s g h = let k = checked_globals s 0 g (sym h) in tabled_by s g (short s 0 g {r = checked_of s 0} refl h) (first_small s g k) (table_told s 0 g k)

-- the differences of the tables made of the globals
pub words_are : (s t : List ℕ) (from : ℕ) (x y : Table) (p q : ℕ) → (x.stream.now ≡ s) × (x.place ≡ p) → (y.stream.now ≡ t) × (y.place ≡ q) → words_in x y from ≡ differences (book_of s p) (book_of t q) from
words_are s t from x y p q i j = λ k. differences (book_of (i.0 k) (i.1 k)) (book_of (j.0 k) (j.1 k)) from

pub ascends_in : (x : Side) (s : List ℕ) {u : Result Bool CompareRefusal} (up : Bool) (y : Table) (p : ℕ) → (y.stream.now ≡ s) × (y.place ≡ p) → OnceIn x s u → u ≡ Ok up → When up (AllAscend y.stream.now (sheets_of y.stream.now))
ascends_in x s up y p i once e =
    let w : OnceIn x s (Ok up) = subst (OnceIn x s) e once in
    subst⁻¹ (λ (z : List ℕ). When up (AllAscend z (sheets_of z))) i.0 w.1
