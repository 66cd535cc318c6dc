-- From a place of the new stream to the next: which bytes stand there. Assumes nothing.
use Prim.Native.Nat.{ℕ, ◌+◌, ◌-◌, ◌^◌, ◌≤◌, ◌<◌}
use mathlib.Core.Path.{◌≡◌, refl, sym, ap, ◌∙◌}
use mathlib.Core.List.{List, [], ◌∷◌, ◌++◌}
use mathlib.Core.Bool.{true}
use mathlib.Core.Logic.{◌⊎◌}
use native.Mathlib.Omega.{arith}
use lib.ListN.{length, get_or, drop, length-append, length-drop, get_or-append}
use lib.Seq.{sets, length-sets, length-take-le, get_or-take, drop-drop, drop_at}
use lib.Dec.{eqb}
use borrow.Author.Tests.{eq-eqb}
use Rattle.steps.proofs.Choice.{pick_lt, pick_nlt}
use Rattle.steps.proofs.Bools.{or_left, or_right}
use Rattle.byte_numbers.specs.Bytes.{num_at, u32_at, bytes_at, bytes_of}
use Rattle.byte_numbers.proofs.Laws.{Same, num_same, stored_other, num_stored}
use Rattle.new_stream.specs.declared.Spot.{Spot}
use Rattle.new_stream.specs.declared.Fate.{Fate}
use Rattle.new_stream.specs.declared.Entry.{Entry}
use Rattle.new_stream.specs.declared.Fate.TheVariants.{Stays, Goes, Table, Text, Sheet}
use Rattle.new_stream.specs.Entries.{entries_from}
use Rattle.new_stream.specs.Compact.{new_bytes, written, new_size, place_in, byte_in, on_text, texts_in, uses}
use Rattle.new_stream.specs.Parts.{Given, View, Ahead}
use Rattle.new_stream.proofs.Entries.{Begins, begins}

-- ---- lists
module _ (t r rest : List ℕ) (q n : ℕ) (within : q ≤ length t) (split : drop q t ≡ r ++ rest) (size : length r ≡ n) where
  pub on_within : q + n ≤ length t
  on_within =
      let a : length t - q ≡ length r + length rest = sym (length-drop q t) ∙ ap length split ∙ length-append r rest in
      omega arith

  pub on_drop : drop (q + n) t ≡ rest
  on_drop = sym (drop-drop n q t) ∙ ap (drop n) split ∙ drop_at r rest n size

  pub on_bytes : (k : ℕ) → k < n → get_or (drop q t) k 0 ≡ get_or r k 0
  on_bytes k h = ap (λ (l : List ℕ). get_or l k 0) split ∙ get_or-append r rest 0 k (omega arith)

-- ---- what is written of a record
module _ (s T : List ℕ) (index place : ℕ → ℕ) (p n : ℕ) (fits : p + n ≤ length s) where
  bytes_size : length (bytes_at s p n) ≡ n
  unfolding bytes_at
  bytes_size = length-take-le n (drop p s) (let l = length-drop p s in omega arith)

  bytes_same : (k : ℕ) → k < n → get_or (bytes_at s p n) k 0 ≡ get_or (drop p s) k 0
  unfolding bytes_at
  bytes_same k h = get_or-take n (drop p s) k 0 h

  pub new_size_lem : (f : Fate) → length (new_bytes s T index place p n f) ≡ new_size T n f
  new_size_lem Stays = bytes_size
  new_size_lem Goes = refl
  new_size_lem Table = refl
  new_size_lem Text = length-sets (bytes_at s p n) 10 (bytes_of 4 (index (u32_at s (p + 10)))) ∙ bytes_size
  new_size_lem Sheet = length-sets (bytes_at s p n) 4 (bytes_of 4 (place (u32_at s (p + 4)))) ∙ bytes_size

  stored_same : (i m k : ℕ) → k < n → (k < i) ⊎ (i + 4 ≤ k) → get_or (drop p s) k 0 ≡ get_or (sets (bytes_at s p n) i (bytes_of 4 m)) k 0
  stored_same i m k h o = sym (stored_other 4 m (bytes_at s p n) i k o ∙ bytes_same k h)

-- ---- places
placed : (T : List ℕ) (l : List Entry) (p : ℕ) → Begins p l → place_in T l p ≡ 0
unfolding place_in
placed T [] p b = refl
placed T (x ∷ l) p b = sym (pick_nlt 0 _ _ x.at p (omega arith) refl)

placed_past : (T : List ℕ) (x : Entry) (l : List Entry) (p : ℕ) → x.at < p → place_in T (x ∷ l) p ≡ new_size T x.size x.fate + place_in T l p
unfolding place_in
placed_past T x l p h = sym (pick_lt _ _ _ x.at p h refl)

byte_past : (T : List ℕ) (x : Entry) (l : List Entry) (p : ℕ) → x.at + x.size ≤ p → byte_in T (x ∷ l) p ≡ new_size T x.size x.fate + byte_in T l p
unfolding byte_in
byte_past T x l p h = sym (pick_nlt _ _ _ p (x.at + x.size) h refl)

byte_inside : (T : List ℕ) (x : Entry) (l : List Entry) (p : ℕ) → p < x.at + x.size → byte_in T (x ∷ l) p ≡ p - x.at
unfolding byte_in
byte_inside T x l p h = sym (pick_lt _ _ _ p (x.at + x.size) h refl)

-- ---- the strings that are used
uses_on : (s : List ℕ) (p : ℕ) (f : Fate) (l : List ℕ) (i : ℕ) → uses l i ≡ true → uses (on_text s p f l) i ≡ true
unfolding uses
uses_on s p Stays l i h = h
uses_on s p Goes l i h = h
uses_on s p Table l i h = h
uses_on s p Text l i h = or_right (eqb (u32_at s (p + 10)) i) (uses l i) h
uses_on s p Sheet l i h = h

uses_first : (s : List ℕ) (p : ℕ) (l : List ℕ) → uses (on_text s p Text l) (u32_at s (p + 10)) ≡ true
unfolding uses
uses_first s p l = or_left (eqb (u32_at s (p + 10)) (u32_at s (p + 10))) (uses l (u32_at s (p + 10))) (eq-eqb (u32_at s (p + 10)) (u32_at s (p + 10)) refl)

-- ---- the place of a spot
pub view_place : (m : Given) (w : Spot) (q : ℕ) → View m w q → m.total w.at ≡ q
view_place m w q v =
    let c = v.counts w.at (omega arith) in
    let z : place_in m.T (entries_from m.s w) w.at ≡ 0 = placed m.T (entries_from m.s w) w.at (begins m.s w) in
    omega arith

-- ---- over a record
module _ (m : Given) (w w' : Spot) (q n : ℕ) (f : Fate) (v : View m w q)
    (is : entries_from m.s w ≡ record { at = w.at; size = n; fate = f } ∷ entries_from m.s w') (fits : w.at + n ≤ length m.s) (later : Ahead w w' n) where
  abbrev new : List ℕ
  new = new_bytes m.s m.T m.index m.place w.at n f

  abbrev rest : List ℕ
  rest = written m.s m.T m.index m.place (entries_from m.s w')

  abbrev size : ℕ
  size = new_size m.T n f

  pub view_split : drop q m.t ≡ new ++ rest
  unfolding written
  view_split = v.view ∙ ap (written m.s m.T m.index m.place) is

  size_is : length new ≡ size
  size_is = new_size_lem m.s m.T m.index m.place w.at n fits f

  texts_is : texts_in m.s (entries_from m.s w) ≡ on_text m.s w.at f (texts_in m.s (entries_from m.s w'))
  unfolding texts_in
  texts_is = ap (texts_in m.s) is

  pub view_bytes : (k : ℕ) → k < size → get_or (drop q m.t) k 0 ≡ get_or new k 0
  view_bytes = on_bytes m.t new rest q size v.within view_split size_is

  pub view_next : View m w' (q + size)
  view_next = record {
    within = on_within m.t new rest q size v.within view_split size_is;
    view = on_drop m.t new rest q size v.within view_split size_is;
    counts = λ p h.
        let a = later.0 in
        let c = v.counts p (omega arith) in
        let e : place_in m.T (entries_from m.s w) p ≡ size + place_in m.T (entries_from m.s w') p = ap (λ (l : List Entry). place_in m.T l p) is ∙ placed_past m.T _ (entries_from m.s w') p (omega arith) in
        omega arith;
    bytes = λ p h.
        let a = later.0 in
        let b = later.1 in
        let c = v.bytes p (omega arith) in
        let e : byte_in m.T (entries_from m.s w) p ≡ size + byte_in m.T (entries_from m.s w') p = ap (λ (l : List Entry). byte_in m.T l p) is ∙ byte_past m.T _ (entries_from m.s w') p (omega arith) in
        omega arith;
    used = λ i h. v.used i (ap (λ (l : List ℕ). uses l i) texts_is ∙ uses_on m.s w.at f (texts_in m.s (entries_from m.s w')) i h);
  }

  -- its k-th byte
  pub view_byte : (k : ℕ) → k < n → m.byte (w.at + k) ≡ q + k
  view_byte k h =
      let c = v.bytes (w.at + k) (omega arith) in
      let e : byte_in m.T (entries_from m.s w) (w.at + k) ≡ w.at + k - w.at = ap (λ (l : List Entry). byte_in m.T l (w.at + k)) is ∙ byte_inside m.T _ (entries_from m.s w') (w.at + k) (omega arith) in
      omega arith

-- ---- what stands there, by what becomes of the record
module _ (m : Given) (w w' : Spot) (q n : ℕ) (v : View m w q) (fits : w.at + n ≤ length m.s) (later : Ahead w w' n) where
  module _ (is : entries_from m.s w ≡ record { at = w.at; size = n; fate = Stays } ∷ entries_from m.s w') where
    pub stays_same : Same (drop w.at m.s) (drop q m.t) 0 n
    stays_same k a b = sym (view_bytes m w w' q n Stays v is fits later k b ∙ bytes_same m.s m.T m.index m.place w.at n fits k b)

  module _ (is : entries_from m.s w ≡ record { at = w.at; size = n; fate = Text } ∷ entries_from m.s w') where
    pub text_same : (k : ℕ) → k < n → (k < 10) ⊎ (14 ≤ k) → get_or (drop w.at m.s) k 0 ≡ get_or (drop q m.t) k 0
    text_same k a o =
        stored_same m.s m.T m.index m.place w.at n fits 10 (m.index (u32_at m.s (w.at + 10))) k a o
        ∙ sym (view_bytes m w w' q n Text v is fits later k a)

    pub text_number : 14 ≤ n → m.index (u32_at m.s (w.at + 10)) < 256 ^ 4 → num_at (drop q m.t) 4 10 ≡ m.index (u32_at m.s (w.at + 10))
    text_number l small =
        num_same (drop q m.t) _ 4 10 (λ k a b. view_bytes m w w' q n Text v is fits later k (omega arith))
        ∙ num_stored 4 (m.index (u32_at m.s (w.at + 10))) (bytes_at m.s w.at n) 10 (let z = bytes_size m.s m.T m.index m.place w.at n fits in omega arith) small

    pub text_used : m.Used (u32_at m.s (w.at + 10))
    text_used = v.used _ (ap (λ (l : List ℕ). uses l (u32_at m.s (w.at + 10))) (texts_is m w w' q n Text v is fits later) ∙ uses_first m.s w.at (texts_in m.s (entries_from m.s w')))

  module _ (is : entries_from m.s w ≡ record { at = w.at; size = n; fate = Sheet } ∷ entries_from m.s w') where
    pub sheet_same : (k : ℕ) → k < n → (k < 4) ⊎ (8 ≤ k) → get_or (drop w.at m.s) k 0 ≡ get_or (drop q m.t) k 0
    sheet_same k a o =
        stored_same m.s m.T m.index m.place w.at n fits 4 (m.place (u32_at m.s (w.at + 4))) k a o
        ∙ sym (view_bytes m w w' q n Sheet v is fits later k a)

    pub sheet_number : 8 ≤ n → m.place (u32_at m.s (w.at + 4)) < 256 ^ 4 → num_at (drop q m.t) 4 4 ≡ m.place (u32_at m.s (w.at + 4))
    sheet_number l small =
        num_same (drop q m.t) _ 4 4 (λ k a b. view_bytes m w w' q n Sheet v is fits later k (omega arith))
        ∙ num_stored 4 (m.place (u32_at m.s (w.at + 4))) (bytes_at m.s w.at n) 4 (let z = bytes_size m.s m.T m.index m.place w.at n fits in omega arith) small
