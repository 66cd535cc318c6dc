-- A table that was written is read as it was: each string, and the table. Assumes nothing.
use Prim.Native.Nat.{ℕ, zero, suc, ◌+◌, ◌-◌, ◌*◌, ◌^◌, ◌≤◌, ◌<◌}
use mathlib.Core.Path.{◌≡◌, refl, sym, ap, ap₂, ◌∙◌, subst}
use mathlib.Core.List.{List, [], ◌∷◌, ◌++◌, append_assoc, map}
use mathlib.Core.Bool.{Bool, true, false}
use native.Mathlib.Omega.{arith}
use lib.ListN.{length, drop, length-append, length-drop}
use lib.Dec.{ltb, eqb}
use borrow.Author.Tests.{ltb-false, eqb-false}
use Rattle.steps.specs.Choice.{pick}
use Rattle.steps.proofs.Choice.{pick_by, pick_any, pick_nlt}
use Rattle.byte_numbers.specs.Bytes.{byte_at, num_at, u16_at, u32_at, bytes_of}
use Rattle.byte_numbers.proofs.Laws.{length_bytes}
use Rattle.segments.specs.declared.Cursor.{Cursor}
use Rattle.segments.specs.Segments.{Got, got, refused, then, push, list_of, on, continues, filled, need, width_of, items}
use Rattle.record.specs.declared.Header.TheVariants.{Record}
use Rattle.record.specs.Record.{header_at}
use Rattle.segments.proofs.Local.{room_here, filled_got, Within}
use Rattle.strings.specs.declared.Head.{Head}
use Rattle.strings.specs.Table.{phonetic_bit, rich_bit, head_size, runs_at, phonetic_at, head_at, start_size, head, rest, string_at, units_at, strings, first, table_of, places_of, strings_of}
use Rattle.strings.proofs.Local.{reads_strings}
use Rattle.table_texts.specs.Texts.{Text, text_of, text_at, the_text, texts_of, Below, Holds, AllHold}
use Rattle.table_texts.specs.Written.{Piece, room_after, lay, item_pieces, wide_bit, width_of_text, flags_of, head_bytes, first_bytes, later, start_piece, text_pieces, pieces_of, record_bytes, continue_bytes, laid_of, sst_body, table_bytes}
use Rattle.table_texts.proofs.Stream.{drop_on, drop_by, left_of_lem, byte_here, num_here}
use Rattle.table_texts.proofs.Reading.{Lies, Few, Stands, plain, on_none, past, place_read, Width, need_there, ItemsRead, items_read, here_small, body_here, record_left, record_here}

pub wide_bit_lem : (us : List ℕ) → wide_bit us < 2
unfolding wide_bit
wide_bit_lem [] = omega arith
wide_bit_lem (u ∷ us) = let h = wide_bit_lem us in pick_any (λ (k : ℕ). k < 2) (ltb 255 u) (omega arith) (omega arith)

-- the characters of a narrow string are bytes
narrow : (us : List ℕ) → wide_bit us ≡ 0 → Below (256 ^ 1) us
unfolding wide_bit pick
narrow [] e = tt
narrow (u ∷ us) e = go (ltb 255 u) refl e (narrow us)
  where
    go : (b : Bool) → ltb 255 u ≡ b → pick b 1 (wide_bit us) ≡ 0 → (wide_bit us ≡ 0 → Below (256 ^ 1) us) → Below (256 ^ 1) (u ∷ us)
    go true q e k = absurd (omega arith)
    go false q e k = (let l = ltb-false 255 u q in omega arith, k e)

pub width_below : (us : List ℕ) → Below (256 ^ 2) us → Below (256 ^ (1 + wide_bit us)) us
width_below us h = by (wide_bit us) refl (wide_bit_lem us)
  where
    by : (k : ℕ) → wide_bit us ≡ k → k < 2 → Below (256 ^ (1 + k)) us
    by zero e l = narrow us e
    by (suc zero) e l = h
    by (suc (suc k)) e l = absurd (omega arith)

-- ---- a head
abbrev pub head_of : Text → Head
head_of t = record { chars = length t.units; width = width_of_text t; runs = length t.runs; phonetic = length t.phonetic }

module _ (t : Text) (hold : Holds t) where
  abbrev flags : ℕ
  flags = flags_of t

  flags_width : width_of flags ≡ width_of_text t
  flags_width = let a = wide_bit_lem t.units in let b = hold.voiced in let c = hold.rich in omega arith

  flags_rich : rich_bit flags ≡ t.rich
  flags_rich = let a = wide_bit_lem t.units in let b = hold.voiced in let c = hold.rich in omega arith

  flags_voiced : phonetic_bit flags ≡ t.voiced
  flags_voiced = let a = wide_bit_lem t.units in let b = hold.voiced in let c = hold.rich in omega arith

  head_length : length (head_bytes t) ≡ head_size flags
  unfolding head_bytes
  head_length =
      let a = length-append (bytes_of 2 (length t.units)) (flags ∷ (bytes_of (2 * t.rich) (length t.runs) ++ bytes_of (4 * t.voiced) (length t.phonetic))) in
      let b = length-append (bytes_of (2 * t.rich) (length t.runs)) (bytes_of (4 * t.voiced) (length t.phonetic)) in
      let c = length_bytes 2 (length t.units) in
      let d = length_bytes (2 * t.rich) (length t.runs) in
      let e = length_bytes (4 * t.voiced) (length t.phonetic) in
      let f = flags_rich in
      let g = flags_voiced in
      omega arith

  first_length : (us : List ℕ) (w : ℕ) → (length us ≡ 0 → ⊥) → length (first_bytes w us) ≡ w
  first_length [] w h = absurd (h refl)
  first_length (u ∷ us) w h = length_bytes w u

  module _ (s : List ℕ) (d : Cursor) (b : List ℕ) (h : drop d.at s ≡ (head_bytes t ++ first_bytes (width_of_text t) t.units) ++ b)
      (l : length (head_bytes t ++ first_bytes (width_of_text t) t.units) ≤ d.end - d.at) where
    abbrev runs_on : List ℕ
    runs_on = bytes_of (4 * t.voiced) (length t.phonetic) ++ (first_bytes (width_of_text t) t.units ++ b)

    whole : drop d.at s ≡ bytes_of 2 (length t.units) ++ (flags ∷ (bytes_of (2 * t.rich) (length t.runs) ++ runs_on))
    unfolding head_bytes
    whole = h ∙ simp append_assoc

    chars_here : u16_at s d.at ≡ length t.units
    chars_here = num_here s 2 (length t.units) d.at _ whole hold.chars

    flags_place : drop (d.at + 2) s ≡ flags ∷ (bytes_of (2 * t.rich) (length t.runs) ++ runs_on)
    flags_place = drop_by s d.at (bytes_of 2 (length t.units)) _ 2 (length_bytes 2 (length t.units)) whole

    flags_here : byte_at s (d.at + 2) ≡ flags
    flags_here = byte_here s (d.at + 2) flags _ flags_place

    runs_place : drop (d.at + 3) s ≡ bytes_of (2 * t.rich) (length t.runs) ++ runs_on
    runs_place = let e : d.at + 2 + 1 ≡ d.at + 3 = omega arith in ap (λ (n : ℕ). drop n s) (sym e) ∙ drop_on s (d.at + 2) (flags ∷ []) _ flags_place

    phonetic_place : drop (d.at + 3 + 2 * t.rich) s ≡ runs_on
    phonetic_place = drop_by s (d.at + 3) (bytes_of (2 * t.rich) (length t.runs)) runs_on (2 * t.rich) (length_bytes (2 * t.rich) (length t.runs)) runs_place

    -- a count that stands there where a bit is 1
    two_if : (p b : ℕ) → b < 2 → pick (eqb b 1) (num_at s 2 p) 0 ≡ num_at s (2 * b) p
    unfolding pick num_at
    two_if p zero l = refl
    two_if p (suc zero) l = refl
    two_if p (suc (suc b)) l = absurd (omega arith)

    four_if : (p b : ℕ) → b < 2 → pick (eqb b 1) (num_at s 4 p) 0 ≡ num_at s (4 * b) p
    unfolding pick num_at
    four_if p zero l = refl
    four_if p (suc zero) l = refl
    four_if p (suc (suc b)) l = absurd (omega arith)

    runs_here : runs_at s d.at flags ≡ length t.runs
    unfolding runs_at
    runs_here =
        ap (λ (b : ℕ). pick (eqb b 1) (u16_at s (d.at + 3)) 0) flags_rich ∙ two_if (d.at + 3) t.rich hold.rich
        ∙ num_here s (2 * t.rich) (length t.runs) (d.at + 3) runs_on runs_place hold.count

    phonetic_here : phonetic_at s d.at flags ≡ length t.phonetic
    unfolding phonetic_at
    phonetic_here =
        ap₂ (λ (b r : ℕ). pick (eqb b 1) (u32_at s (d.at + 3 + 2 * r)) 0) flags_voiced flags_rich ∙ four_if (d.at + 3 + 2 * t.rich) t.voiced hold.voiced
        ∙ num_here s (4 * t.voiced) (length t.phonetic) (d.at + 3 + 2 * t.rich) _ phonetic_place hold.size

    start_fits : start_size s d.at ≤ d.end - d.at
    unfolding start_size
    start_fits =
        let a = length-append (head_bytes t) (first_bytes (width_of_text t) t.units) in
        let e = head_length in
        let f = ap head_size flags_here in
        let g = ap width_of flags_here ∙ flags_width in
        let u = chars_here in
        pick_by (λ (k : ℕ). k ≤ d.end - d.at) (eqb (u16_at s d.at) 0)
        (λ _. omega arith)
        (λ q. let o = eqb-false (u16_at s d.at) 0 q in let m = first_length t.units (width_of_text t) (λ z. o (u ∙ z)) in omega arith)

    head_at_lem : head_at s d.at ≡ head_of t
    unfolding head_at
    head_at_lem =
        let a = chars_here in
        let b = ap width_of flags_here ∙ flags_width in
        let r = ap (runs_at s d.at) flags_here ∙ runs_here in
        let x = ap (phonetic_at s d.at) flags_here ∙ phonetic_here in
        λ i. record { chars = a i; width = b i; runs = r i; phonetic = x i }

    pub head_read : head s d ≡ got (head_of t) (on d (head_size flags))
    unfolding head
    head_read =
        let a = length-append (head_bytes t) (first_bytes (width_of_text t) t.units) in
        let e = head_length in
        ap (λ (x : Got ℕ). then x (λ _ c. then (need 8 (start_size s c.at) c) (λ _ e. got (head_at s e.at) (on e (head_size (byte_at s (e.at + 2))))))) (need_there 8 3 d (omega arith))
        ∙ ap (λ (x : Got ℕ). then x (λ _ e. got (head_at s e.at) (on e (head_size (byte_at s (e.at + 2)))))) (need_there 8 (start_size s d.at) d start_fits)
        ∙ ap₂ (λ (z : Head) (f : ℕ). got z (on d (head_size f))) head_at_lem flags_here

    pub chars_place : drop (d.at + head_size flags) s ≡ first_bytes (width_of_text t) t.units ++ b
    chars_place =
        drop_by s d.at (head_bytes t) _ (head_size flags) head_length (h ∙ append_assoc (head_bytes t) (first_bytes (width_of_text t) t.units) b)

-- ---- the characters: the first stands with the head
module _ (s : List ℕ) (w : ℕ) (wide : Width true w) (ps : List Piece) (t : List ℕ) where
  pub chars_read : (us : List ℕ) (r : ℕ) (c : Cursor) → Below (256 ^ w) us → Stands s c (plain (first_bytes w us)) (lay r (item_pieces true w (later us) ++ ps)) t → ItemsRead s (items 8 s true w (length us) c) us ps t
  unfolding items item_pieces
  chars_read [] r c below h = record {
    to = c;
    room = r;
    is = refl;
    lies = subst (λ (d : Cursor). Lies s d (lay r ps) t) (on_none c) (past s c (plain []) (lay r ps) t 0 refl h);
  }
  chars_read (u ∷ us) r c below h =
      let i = past s c (plain (bytes_of w u)) _ t w (length_bytes w u) h in
      let m = items_read s true w wide ps t us r (on c w) below.1 i in
      let v : num_at s w c.at ≡ u = num_here s w u c.at _ h.bytes below.0 in
      let a = h.end in
      let b = length_bytes w u in
      record {
        to = m.to;
        room = m.room;
        is = ap (λ (x : Got ℕ). then x (λ v d. push (num_at s v d.at) (items 8 s true v (length us) (on d v)))) (room_here 8 s true w c wide.0 (omega arith))
            ∙ ap₂ (λ (z : ℕ) (y : Got (List ℕ)). push z y) v m.is;
        lies = m.lies;
      }

-- ---- a string
pub record TextRead (s : List ℕ) (x : Got Text) (t : Text) (ps : List Piece) (b : List ℕ) : Type 0 where
  pub to : Cursor
  pub room : ℕ
  pub is : x ≡ got t to
  pub lies : Lies s to (lay room ps) b

-- from its parts
text_got : (s : List ℕ) (d : Cursor) (t : Text) (c e g i : Cursor) → head s d ≡ got (head_of t) c → items 8 s true (width_of_text t) (length t.units) c ≡ got t.units e
    → items 8 s false 4 (length t.runs) e ≡ got t.runs g → items 8 s false 1 (length t.phonetic) g ≡ got t.phonetic i
    → rich_bit (byte_at s (d.at + 2)) ≡ t.rich → phonetic_bit (byte_at s (d.at + 2)) ≡ t.voiced → text_at s d ≡ got t i
unfolding text_at
text_got s d t c e g i on-head on-chars on-runs on-phonetic bit3 bit2 =
    ap (λ (x : Got Head). then x (λ h c.
    then (items 8 s true h.width h.chars c) (λ us e.
    then (items 8 s false 4 h.runs e) (λ rs g.
    then (items 8 s false 1 h.phonetic g) (λ ps i. got (text_of (byte_at s (d.at + 2)) us rs ps) i))))) on-head
    ∙ ap (λ (x : Got (List ℕ)). then x (λ us e.
    then (items 8 s false 4 (length t.runs) e) (λ rs g.
    then (items 8 s false 1 (length t.phonetic) g) (λ ps i. got (text_of (byte_at s (d.at + 2)) us rs ps) i)))) on-chars
    ∙ ap (λ (x : Got (List ℕ)). then x (λ rs g.
    then (items 8 s false 1 (length t.phonetic) g) (λ ps i. got (text_of (byte_at s (d.at + 2)) t.units rs ps) i))) on-runs
    ∙ ap (λ (x : Got (List ℕ)). then x (λ ps i. got (text_of (byte_at s (d.at + 2)) t.units t.runs ps) i)) on-phonetic
    ∙ (λ k. got (record { units = t.units; rich = bit3 k; runs = t.runs; voiced = bit2 k; phonetic = t.phonetic }) i)

module _ (s : List ℕ) (t : Text) (hold : Holds t) (ps : List Piece) (b : List ℕ) where
  abbrev after_runs : List Piece
  after_runs = item_pieces false 1 t.phonetic ++ ps

  abbrev after_chars : List Piece
  after_chars = item_pieces false 4 t.runs ++ after_runs

  abbrev after_start : List Piece
  after_start = item_pieces true (width_of_text t) (later t.units) ++ after_chars

  text_width : Width true (width_of_text t)
  text_width = let a = wide_bit_lem t.units in (omega arith, omega arith)

  pub text_read : (d : Cursor) (r : ℕ) → Stands s d (start_piece t) (lay r after_start) b → TextRead s (text_at s d) t ps b
  unfolding text_at
  text_read d r h =
      let l = lay r after_start in
      let first = first_bytes (width_of_text t) t.units in
      let e = h.end in
      let on-head = head_read t hold s d _ h.bytes (omega arith) in
      let a = length-append (head_bytes t) first in
      let n = head_length t hold in
      let g : Stands s (on d (head_size (flags_of t))) (plain first) l b = record { end = omega arith; bytes = chars_place t hold s d _ h.bytes (omega arith) } in
      let us = chars_read s (width_of_text t) text_width after_chars b t.units r (on d (head_size (flags_of t))) (width_below t.units hold.units) g in
      let rs = items_read s false 4 (omega arith, omega arith) after_runs b t.runs us.room us.to hold.runs us.lies in
      let xs = items_read s false 1 (omega arith, omega arith) ps b t.phonetic rs.room rs.to hold.phonetic rs.lies in
      let f = flags_here t hold s d _ h.bytes (omega arith) in
      let bit3 = ap rich_bit f ∙ flags_rich t hold in
      let bit2 = ap phonetic_bit f ∙ flags_voiced t hold in
      record { to = xs.to; room = xs.room; is = text_got s d t _ us.to rs.to xs.to on-head us.is rs.is xs.is bit3 bit2; lies = xs.lies }

-- `text_at` reads what `string_at` reads
pub string_text : (s : List ℕ) (d : Cursor) → string_at s d ≡ then (text_at s d) (λ t c. got t.units c)
unfolding string_at text_at rest
string_text s d = at_head (head s d)
  where
    at_phonetic : (us rs : List ℕ) (x : Got (List ℕ)) → then x (λ _ i. got us i) ≡ then (then x (λ ps i. got (text_of (byte_at s (d.at + 2)) us rs ps) i)) (λ t c. got t.units c)
    at_phonetic us rs (got ps i) = refl
    at_phonetic us rs (refused n o) = refl

    at_runs : (h : Head) (us : List ℕ) (x : Got (List ℕ)) → then (then x (λ _ g. items 8 s false 1 h.phonetic g)) (λ _ i. got us i)
        ≡ then (then x (λ rs g. then (items 8 s false 1 h.phonetic g) (λ ps i. got (text_of (byte_at s (d.at + 2)) us rs ps) i))) (λ t c. got t.units c)
    at_runs h us (got rs g) = at_phonetic us rs (items 8 s false 1 h.phonetic g)
    at_runs h us (refused n o) = refl

    at_chars : (h : Head) (x : Got (List ℕ)) → then x (λ us e. then (then (items 8 s false 4 h.runs e) (λ _ g. items 8 s false 1 h.phonetic g)) (λ _ i. got us i))
        ≡ then (then x (λ us e. then (items 8 s false 4 h.runs e) (λ rs g. then (items 8 s false 1 h.phonetic g) (λ ps i. got (text_of (byte_at s (d.at + 2)) us rs ps) i)))) (λ t c. got t.units c)
    at_chars h (got us e) = at_runs h us (items 8 s false 4 h.runs e)
    at_chars h (refused n o) = refl

    at_head : (x : Got Head) → then x (λ h c. then (items 8 s true h.width h.chars c) (λ us e. then (then (items 8 s false 4 h.runs e) (λ _ g. items 8 s false 1 h.phonetic g)) (λ _ i. got us i)))
        ≡ then (then x (λ h c. then (items 8 s true h.width h.chars c) (λ us e. then (items 8 s false 4 h.runs e) (λ rs g. then (items 8 s false 1 h.phonetic g) (λ ps i. got (text_of (byte_at s (d.at + 2)) us rs ps) i))))) (λ t c. got t.units c)
    at_head (got h c) = at_chars h (items 8 s true h.width h.chars c)
    at_head (refused n o) = refl

-- ---- the strings one after another
pub record TextsRead (s : List ℕ) (x : Got (List Cursor)) (ts : List Text) (b : List ℕ) : Type 0 where
  pub places : List Cursor
  pub to : Cursor
  pub is : x ≡ got places to
  pub texts : map (λ (d : Cursor). the_text (text_at s d)) places ≡ ts
  pub full : to.at ≡ to.end
  pub after : drop to.end s ≡ b

-- a head and its first character are a few bytes
start_few : (t : Text) → Holds t → Few (start_piece t)
start_few t hold =
    let a = head_length t hold in
    let b = length-append (head_bytes t) (first_bytes (width_of_text t) t.units) in
    let c = first_small t.units (width_of_text t) in
    let d = wide_bit_lem t.units in
    let e = flags_rich t hold in
    let f = flags_voiced t hold in
    let g = hold.rich in
    let h = hold.voiced in
    record { some = omega arith; few = omega arith }
  where
    first_small : (us : List ℕ) (w : ℕ) → length (first_bytes w us) ≤ w
    first_small [] w = omega arith
    first_small (u ∷ us) w = let a = length_bytes w u in omega arith

module _ (s : List ℕ) (b : List ℕ) where
  pub strings_read : (ts : List Text) (r : ℕ) (c : Cursor) → AllHold ts → Lies s c (lay r (pieces_of ts)) b → TextsRead s (strings s (length ts) c) ts b
  unfolding strings pieces_of text_pieces lay continue_bytes
  strings_read [] r c hold h =
      let e : c.at ≡ c.end = let a = h.end in omega arith in
      record { places = []; to = c; is = refl; texts = refl; full = e; after = ap (λ (n : ℕ). drop n s) (sym e) ∙ h.bytes }
  strings_read (t ∷ ts) r c hold h =
      let p = place_read s c r (start_piece t).body (after_start s t hold.0 (pieces_of ts) b) b (start_few t hold.0) h in
      let x = text_read s t hold.0 (pieces_of ts) b p.to (room_after r (start_piece t)) p.stands in
      let m = strings_read ts x.room x.to hold.1 x.lies in
      record {
        places = p.to ∷ m.places;
        to = m.to;
        is = ap (λ (y : Got Unit). then y (λ _ d. then (string_at s d) (λ _ e. push d (strings s (length ts) e)))) p.is
            ∙ ap (λ (y : Got (List ℕ)). then y (λ _ e. push p.to (strings s (length ts) e))) (string_text s p.to ∙ ap (λ (y : Got Text). then y (λ t c. got t.units c)) x.is)
            ∙ ap (push p.to) m.is;
        texts = ap₂ (λ (y : Text) (ys : List Text). y ∷ ys) (ap the_text x.is) m.texts;
        full = m.full;
        after = m.after;
      }

units_text : (s : List ℕ) (d : Cursor) → units_at s d ≡ (the_text (text_at s d)).units
units_text s d = ap list_of (string_text s d) ∙ by (text_at s d)
  where
    by : (x : Got Text) → list_of (then x (λ t c. got t.units c)) ≡ (the_text x).units
    by (got t c) = refl
    by (refused n o) = refl

pub map_units : (s : List ℕ) (l : List Cursor) → map (units_at s) l ≡ map (λ (t : Text). t.units) (map (λ (d : Cursor). the_text (text_at s d)) l)
map_units s [] = refl
map_units s (d ∷ l) = ap₂ (λ (x : List ℕ) (xs : List (List ℕ)). x ∷ xs) (units_text s d) (map_units s l)

-- ---- the table
-- that stands at p
module _ (s : List ℕ) (p total : ℕ) (ts : List Text) (b : List ℕ) (low : total < 256 ^ 4) (few : length ts < 256 ^ 4) (hold : AllHold ts) (h : drop p s ≡ table_bytes total ts ++ b) where
  abbrev pub table_end : ℕ
  table_end = p + 4 + length (sst_body total ts)

  sst_length : length (sst_body total ts) ≡ 8 + length (laid_of ts).here
  sst_length =
      let a = length-append (bytes_of 4 total) (bytes_of 4 (length ts) ++ (laid_of ts).here) in
      let c = length-append (bytes_of 4 (length ts)) (laid_of ts).here in
      let d = length_bytes 4 total in
      let e = length_bytes 4 (length ts) in
      omega arith

  sst_small : length (sst_body total ts) ≤ 8224
  sst_small = let a = sst_length in let c = here_small (8224 - 8) (pieces_of ts) in omega arith

  sst_bytes : drop p s ≡ record_bytes 0x00fc (sst_body total ts) ++ (continue_bytes (laid_of ts).more ++ b)
  unfolding table_bytes
  sst_bytes = h ∙ append_assoc (record_bytes 0x00fc (sst_body total ts)) (continue_bytes (laid_of ts).more) b

  -- its SST is a whole record
  pub sst_here : header_at s p ≡ Record 0x00fc (length (sst_body total ts)) table_end
  sst_here = record_here s p 0x00fc (sst_body total ts) _ sst_small (omega arith) sst_bytes

  total_place : drop (p + 4) s ≡ bytes_of 4 total ++ (bytes_of 4 (length ts) ++ ((laid_of ts).here ++ (continue_bytes (laid_of ts).more ++ b)))
  total_place = body_here s p 0x00fc (sst_body total ts) _ sst_small (omega arith) sst_bytes ∙ simp append_assoc

  count_place : drop (p + 8) s ≡ bytes_of 4 (length ts) ++ ((laid_of ts).here ++ (continue_bytes (laid_of ts).more ++ b))
  count_place = let e : p + 4 + 4 ≡ p + 8 = omega arith in ap (λ (n : ℕ). drop n s) (sym e) ∙ drop_by s (p + 4) (bytes_of 4 total) _ 4 (length_bytes 4 total) total_place

  count_here : u32_at s (p + 8) ≡ length ts
  count_here = num_here s 4 (length ts) (p + 8) _ count_place few

  strings_place : drop (p + 12) s ≡ (laid_of ts).here ++ (continue_bytes (laid_of ts).more ++ b)
  strings_place = let e : p + 8 + 4 ≡ p + 12 = omega arith in ap (λ (n : ℕ). drop n s) (sym e) ∙ drop_by s (p + 8) (bytes_of 4 (length ts)) _ 4 (length_bytes 4 (length ts)) count_place

  in_sst : Lies s (first p table_end) (laid_of ts) b
  in_sst = record { end = let a = sst_length in omega arith; bytes = strings_place }

  pub read : TextsRead s (strings s (length ts) (first p table_end)) ts b
  read = strings_read s b ts (8224 - 8) (first p table_end) hold in_sst

  left : length s - p ≡ length (table_bytes total ts) + length b
  left = left_of_lem s p (table_bytes total ts) b h

  end_within : table_end ≤ length s
  end_within = let a = record_left s p 0x00fc (sst_body total ts) _ sst_small (omega arith) sst_bytes in omega arith

  -- where it ends
  pub to_end : read.to.end ≡ p + length (table_bytes total ts)
  to_end =
      let w : Within s (first p table_end) (got read.places read.to) = subst (Within s (first p table_end)) read.is
      (reads_strings s s refl 0 0 (λ k i j. refl) (length ts) (first p table_end) (let a = sst_length in omega arith, end_within) (omega arith)).within in
      let a : length s - read.to.end ≡ length b = sym (length-drop read.to.end s) ∙ ap length read.after in
      let c = left in
      let d = end_within in
      let e = w.0.1 in
      let f = w.2 in
      omega arith

  module _ (alone : continues s (p + length (table_bytes total ts)) ≡ false) where
    -- THE LAW: the table passes, and it is followed by what follows it
    pub table_passes : table_of s p table_end ≡ got read.places read.to
    unfolding table_of
    table_passes =
        let z : filled 8 s read.to ≡ got tt read.to = filled_got 8 s read.to read.full (ap (continues s) to_end ∙ alone) in
        let long : 8 ≤ table_end - (p + 4) = (let a = sst_length in omega arith) in
        sym (pick_nlt (got read.places read.to) _ _ _ _ long
        (sym (ap (λ (n : ℕ). then (strings s n (first p table_end)) (λ l c. then (filled 8 s c) (λ _ d. got l d))) count_here
        ∙ ap (λ (x : Got (List Cursor)). then x (λ l c. then (filled 8 s c) (λ _ d. got l d))) read.is
        ∙ ap (λ (x : Got Unit). then x (λ _ d. got read.places d)) z)))

    -- and has the same strings in order, each with its runs and phonetic bytes
    pub texts_same : texts_of s p table_end ≡ ts
    texts_same = ap (λ (x : Got (List Cursor)). map (λ (d : Cursor). the_text (text_at s d)) (list_of x)) table_passes ∙ read.texts

    pub units_same : strings_of s p table_end ≡ map (λ (t : Text). t.units) ts
    units_same = map_units s (places_of s p table_end) ∙ ap (map (λ (t : Text). t.units)) texts_same
