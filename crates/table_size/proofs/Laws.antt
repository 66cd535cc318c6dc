-- The laws that the functions' proofs cite, with their premises as the calls give them. Assumes nothing.
use Prim.Native.Nat.{ℕ, zero, suc, ◌+◌, ◌-◌, ◌*◌, ◌≤◌, ◌<◌}
use mathlib.Core.Path.{◌≡◌, refl, sym, ap, ap₂, ◌∙◌}
use mathlib.Core.List.{List, [], ◌∷◌, ◌++◌}
use mathlib.Core.Bool.{Bool, true}
use native.Mathlib.Omega.{arith}
use native.Mathlib.Nat.{mul-le-mul_right, zero-mul, suc-mul}
use lib.ListN.{length}
use Rattle.steps.proofs.Choice.{pick_lt, pick_nlt}
use Rattle.byte_numbers.specs.Bytes.{bytes_of}
use Rattle.byte_numbers.proofs.Laws.{length_bytes}
use Rattle.segments.specs.declared.Cursor.{Cursor}
use Rattle.segments.specs.Segments.{Got, got, refused, list_of, items}
use Rattle.segments.specs.Parts.{Passes}
use Rattle.segments.proofs.Laws.{Count, count_items}
use Rattle.strings.specs.declared.Head.{Head}
use Rattle.table_texts.specs.Written.{Piece, opening_of, item_pieces, wide_bit}
use Rattle.table_writer.specs.Writing.{start_size, start_body, char_pieces}
use Rattle.table_writer.proofs.Laws.{nothing_left}
use Rattle.table_writer.proofs.Starts.{start_length}
use Rattle.table_size.specs.declared.span.Span.{Span}
use Rattle.table_size.specs.Sizing.{most, plus, sized_by, sized_items, sized}

-- ---- a piece
module _ (g : Span) (k n : ℕ) where
  pub piece_over : most < g.size → g ≡ sized_by g k n
  unfolding sized_by
  piece_over h = pick_lt g g _ most g.size h refl

  pub piece_here : g.size ≤ most → n ≤ g.room → record { room = g.room - n; size = g.size + n } ≡ sized_by g k n
  unfolding sized_by
  piece_here h i = pick_nlt _ g (plus g k n) most g.size h (pick_nlt (record { room = g.room - n; size = g.size + n }) _ _ g.room n i refl)

-- all of them in the segment at hand
pub product_low : (m n : ℕ) → m ≤ 8224 → n ≤ 16 → m * n < 18446744073709551616
product_low m n h i = let a = mul-le-mul_right n h in omega arith

items_here : (k n m : ℕ) (g : Span) → m * n ≤ g.room → g.size + m * n ≤ most → record { room = g.room - m * n; size = g.size + m * n } ≡ sized_items g k n m
unfolding sized_items
items_here k n zero g h i =
    let z = zero-mul n in
    let a : g.room - 0 * n ≡ g.room = omega arith in
    let b : g.size + 0 * n ≡ g.size = omega arith in
    λ j. record { room = a j; size = b j }
items_here k n (suc m) g h i =
    let z = suc-mul m n in
    let a : g.room - suc m * n ≡ g.room - n - m * n = omega arith in
    let b : g.size + suc m * n ≡ g.size + n + m * n = omega arith in
    (λ j. record { room = a j; size = b j })
    ∙ items_here k n m (record { room = g.room - n; size = g.size + n }) (omega arith) (omega arith)
    ∙ ap (λ (y : Span). sized_items y k n m) (piece_here g k n (omega arith) (omega arith))

pub items_whole : (k n m : ℕ) (g : Span) → m ≤ 8224 → n ≤ 16 → m * n ≤ g.room → g.size ≤ 16645632 → record { room = g.room - m * n; size = g.size + m * n } ≡ sized_items g k n m
items_whole k n m g a b h i = let c = mul-le-mul_right n a in items_here k n m g h (omega arith)

pub sum_low : (m n s : ℕ) → m ≤ 8224 → n ≤ 16 → s ≤ 16645632 → s + m * n < 18446744073709551616
sum_low m n s h i j = let a = mul-le-mul_right n h in omega arith

pub ruleset whole_laws = (product_low, sum_low, items_whole)

module _ (k n m i : ℕ) (e : Span) where
  pub items_turn : i < m → sized_items e k n (m - i) ≡ sized_items (sized_by e k n) k n (m - (i + 1))
  unfolding sized_items
  items_turn h = let l : m - i ≡ suc (m - (i + 1)) = omega arith in ap (sized_items e k n) l

  pub items_end : m ≤ i → sized_items e k n (m - i) ≡ e
  unfolding sized_items
  items_end h = let l : m - i ≡ 0 = omega arith in ap (sized_items e k n) l

-- ---- pieces after pieces
pub sized_append : (ps qs : List Piece) (g : Span) → sized g (ps ++ qs) ≡ sized (sized g ps) qs
unfolding sized
sized_append [] qs g = refl
sized_append (p ∷ ps) qs g = sized_append ps qs (sized_by g (length p.opening) (length p.body))

-- items: only how many there are counts
pub sized_items_lem : (f : Bool) (w : ℕ) (ns : List ℕ) (g : Span) → sized g (item_pieces f w ns) ≡ sized_items g (length (opening_of f w)) w (length ns)
unfolding sized item_pieces sized_items
sized_items_lem f w [] g = refl
sized_items_lem f w (n ∷ ns) g =
    sized_items_lem f w ns (sized_by g (length (opening_of f w)) (length (bytes_of w n)))
    ∙ ap (λ (m : ℕ). sized_items (sized_by g (length (opening_of f w)) m) (length (opening_of f w)) w (length ns)) (length_bytes w n)

-- ---- head and characters
count_is : (n : ℕ) (x : Got (List ℕ)) → Count n x → Passes x → length (list_of x) ≡ n
count_is n (got l c) h p = h
count_is n (refused a b) h p = absurd p

some_pieces : (flags : ℕ) (h : Head) (g : Span) (u : ℕ) (us : List ℕ) (wide : ℕ) → wide ≡ wide_bit (u ∷ us) → sized_items (sized_by g 0 (start_size flags (1 + wide))) 1 (1 + wide) (length us) ≡ sized g (char_pieces flags h (u ∷ us))
unfolding sized char_pieces
some_pieces flags h g u us wide w-is =
    ap (λ (x : ℕ). sized_items (sized_by g 0 x) 1 (1 + wide) (length us)) (sym (start_length flags wide h (1 + wide) u))
    ∙ sym (sized_items_lem true (1 + wide) us (sized_by g 0 (length (start_body flags wide h (1 + wide) u))))
    ∙ ap (λ (k : ℕ). sized (sized_by g 0 (length (start_body flags k h (1 + k) u))) (item_pieces true (1 + k) us)) w-is

module _ (s : List ℕ) (flags : ℕ) (h : Head) (c : Cursor) (g : Span) where
  pub chars_none : h.chars ≤ 0 → (z : ℕ) → z ≡ start_size flags 0 → (r : Span) → r ≡ sized_by g 0 z → r ≡ sized g (char_pieces flags h (list_of (items 8 s true h.width h.chars c)))
  unfolding sized char_pieces
  chars_none l z z-is r q =
      q ∙ ap (sized_by g 0) (z-is ∙ sym (start_length flags 0 h 0 0))
      ∙ ap (λ (x : Got (List ℕ)). sized g (char_pieces flags h (list_of x))) (sym (nothing_left s true h.width h.chars c l))

  chars_some_by : (us : List ℕ) → length us ≡ h.chars → 0 < h.chars → (wide : ℕ) → wide ≡ wide_bit us → (z : ℕ) → z ≡ start_size flags (1 + wide) → (e r : Span) → e ≡ sized_by g 0 z → r ≡ sized_items e 1 (1 + wide) (h.chars - 1)
      → r ≡ sized g (char_pieces flags h us)
  chars_some_by [] n some wide w-is z z-is e r e-is r-is = absurd (omega arith)
  chars_some_by (u ∷ us) n some wide w-is z z-is e r e-is r-is =
      let m : h.chars - 1 ≡ length us = omega arith in
      r-is ∙ ap₂ (λ (x : Span) (k : ℕ). sized_items x 1 (1 + wide) k) (e-is ∙ ap (sized_by g 0) z-is) m ∙ more u us wide w-is
    where
      more : (u : ℕ) (us : List ℕ) (wide : ℕ) → wide ≡ wide_bit (u ∷ us) → sized_items (sized_by g 0 (start_size flags (1 + wide))) 1 (1 + wide) (length us) ≡ sized g (char_pieces flags h (u ∷ us))
      more u us wide w-is = some_pieces flags h g u us wide w-is

  pub chars_some : Passes (items 8 s true h.width h.chars c) → 0 < h.chars → (wide : ℕ) → wide ≡ wide_bit (list_of (items 8 s true h.width h.chars c)) → (z : ℕ) → z ≡ start_size flags (1 + wide) → (e r : Span) → e ≡ sized_by g 0 z
      → r ≡ sized_items e 1 (1 + wide) (h.chars - 1) → r ≡ sized g (char_pieces flags h (list_of (items 8 s true h.width h.chars c)))
  chars_some p some wide w-is z z-is e r e-is r-is =
      chars_some_by (list_of (items 8 s true h.width h.chars c)) (count_is h.chars (items 8 s true h.width h.chars c) (count_items 8 s true h.width h.chars c) p) some wide w-is z z-is e r e-is r-is
