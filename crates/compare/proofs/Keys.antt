-- The words of a sheet number, and of those after it. Assumes nothing.
use Prim.Native.Nat.{ℕ, suc, ◌+◌, ◌-◌, ◌*◌, max, ◌≤◌, ◌<◌}
use mathlib.Core.Path.{◌≡◌, refl, sym, ap, ◌∙◌}
use mathlib.Core.Bool.{Bool, true, false}
use mathlib.Core.List.{List, [], ◌++◌, append_assoc}
use native.Mathlib.Omega.{arith}
use lib.ListN.{length}
use lib.Dec.{ltb, leb}
use borrow.Author.Tests.{ltb-true, ltb-false, leb-true, leb-false}
use Rattle.steps.specs.Choice.{pick}
use Rattle.reading.specs.Reading.{Reading}
use Rattle.differences.specs.Differences.{Difference, name_difference, cell_difference, sheet_keys, addresses, difference_at, words_of, words_from, keys_of, differences}
use Rattle.differences.proofs.Laws.{words_split, words_none, words_agree, at_key, in_name, in_gap, in_cell}

module _ (x y : Reading) (from : ℕ) where
  abbrev D : ℕ → Difference
  D = difference_at x y

  -- from the sheet n on
  unfoldable pub on_from : ℕ → List ℕ
  on_from n = words_from D (max from (n * sheet_keys)) (keys_of x y - max from (n * sheet_keys))

  pub on_start : differences x y from ≡ on_from 0
  unfolding differences on_from
  on_start = let e : from ≡ max from (0 * sheet_keys) = omega arith in ap (λ (k : ℕ). words_from D k (keys_of x y - k)) e

  pub on_end : (n : ℕ) → length x.sheets ≤ n → length y.sheets ≤ n → on_from n ≡ []
  unfolding on_from keys_of words_from
  on_end n i j = let e : keys_of x y - max from (n * sheet_keys) ≡ 0 = omega arith in ap (words_from D (max from (n * sheet_keys))) e

  module _ (n : ℕ) (there : n < max (length x.sheets) (length y.sheets)) where
    abbrev key : ℕ
    key = n * sheet_keys

    abbrev next : ℕ
    next = (n + 1) * sheet_keys

    within : next ≤ keys_of x y
    unfolding keys_of
    within = omega arith

    -- the words of the cells from a place on
    abbrev cell_part : ℕ → List ℕ
    cell_part k = words_from (λ j. cell_difference x y n (j - (key + addresses))) (key + addresses + k) (addresses - k)

    cells_agree : (k : ℕ) → k ≤ addresses → words_from D (key + addresses + k) (addresses - k) ≡ cell_part k
    cells_agree k l =
        words_agree D (λ j. cell_difference x y n (j - (key + addresses))) (addresses - k) (key + addresses + k)
        (λ j low high.
        let e : j ≡ key + (addresses + (j - (key + addresses))) = omega arith in
        ap D e ∙ at_key x y n (addresses + (j - (key + addresses))) (omega arith) ∙ in_cell x y n (j - (key + addresses)))

    gap_none : (k : ℕ) → key < k → k ≤ key + addresses → words_from D k (key + addresses - k) ≡ []
    gap_none k i j =
        words_none D (key + addresses - k) k
        (λ z low high.
        let e : z ≡ key + (z - key) = omega arith in
        ap D e ∙ at_key x y n (z - key) (omega arith) ∙ in_gap x y n (z - key) (omega arith) (omega arith))

    -- from a place k of the cells on
    from_cell : (k c r : ℕ) → k ≡ key + addresses + c → c < addresses → keys_of x y - k ≡ (addresses - c) + (keys_of x y - next) → words_from D k (keys_of x y - k) ≡ cell_part c ++ words_from D next (keys_of x y - next)
    from_cell k c r e l z =
        let f : key + addresses + c + (addresses - c) ≡ next = omega arith in
        (λ i. words_from D (e i) (z i))
        ∙ words_split D (addresses - c) (keys_of x y - next) (key + addresses + c)
        ∙ (let g = cells_agree c (omega arith) in λ i. g i ++ words_from D (f i) (keys_of x y - next))

    -- from a place k after the name on
    from_gap : (k : ℕ) → key < k → k ≤ key + addresses → words_from D k (keys_of x y - k) ≡ cell_part 0 ++ words_from D next (keys_of x y - next)
    from_gap k i j =
        let w = within in
        let z : keys_of x y - k ≡ (key + addresses - k) + (keys_of x y - (key + addresses)) = omega arith in
        let f : k + (key + addresses - k) ≡ key + addresses = omega arith in
        ap (words_from D k) z ∙ words_split D (key + addresses - k) (keys_of x y - (key + addresses)) k
        ∙ (let g = gap_none k i j in λ i. g i ++ words_from D (f i) (keys_of x y - (key + addresses)))
        ∙ from_cell (key + addresses) 0 0 (omega arith) (omega arith) (omega arith)

    from_cells : (k : ℕ) → key < k → k < next → words_from D k (keys_of x y - k) ≡ cell_part (k - (key + addresses)) ++ words_from D next (keys_of x y - next)
    from_cells k i j = by (leb k (key + addresses)) refl
      where
        by : (b : Bool) → leb k (key + addresses) ≡ b → words_from D k (keys_of x y - k) ≡ cell_part (k - (key + addresses)) ++ words_from D next (keys_of x y - next)
        by true h =
            let l = leb-true k (key + addresses) h in
            let e : 0 ≡ k - (key + addresses) = omega arith in
            from_gap k i l ∙ ap (λ (c : ℕ). cell_part c ++ words_from D next (keys_of x y - next)) e
        by false h =
            let l = leb-false k (key + addresses) h in
            let w = within in
            from_cell k (k - (key + addresses)) 0 (omega arith) (omega arith) (omega arith)

    from_name : words_from D key (keys_of x y - key) ≡ words_of key (name_difference x y n) ++ (cell_part 0 ++ words_from D next (keys_of x y - next))
    unfolding words_from
    from_name =
        let w = within in
        let z : keys_of x y - key ≡ suc (keys_of x y - (key + 1)) = omega arith in
        let e : key ≡ key + 0 = omega arith in
        let d = ap D e ∙ at_key x y n 0 (omega arith) ∙ in_name x y n in
        ap (words_from D key) z
        ∙ (let g = from_gap (key + 1) (omega arith) (omega arith) in λ i. words_of key (d i) ++ g i)

    -- the words of sheet n, and those of the sheets after it
    abbrev sheet_part : List ℕ
    sheet_part = pick (leb from key) (words_of key (name_difference x y n)) [] ++ pick (ltb from (key + sheet_keys)) (cell_part (from - (key + addresses))) []

    pub on_sheet_lem : on_from n ≡ sheet_part ++ on_from (n + 1)
    unfolding on_from pick
    on_sheet_lem = by (leb from key) refl (ltb from (key + sheet_keys)) refl
      where
        by : (b : Bool) → leb from key ≡ b → (c : Bool) → ltb from (key + sheet_keys) ≡ c
            → words_from D (max from key) (keys_of x y - max from key) ≡ (pick b (words_of key (name_difference x y n)) [] ++ pick c (cell_part (from - (key + addresses))) []) ++ words_from D (max from next) (keys_of x y - max from next)
        by true h true h' =
            let l = leb-true from key h in
            let e : max from key ≡ key = omega arith in
            let f : next ≡ max from next = omega arith in
            let o : 0 ≡ from - (key + addresses) = omega arith in
            ap (λ (k : ℕ). words_from D k (keys_of x y - k)) e ∙ from_name
            ∙ (λ i. words_of key (name_difference x y n) ++ (cell_part (o i) ++ words_from D (f i) (keys_of x y - f i)))
            ∙ sym (append_assoc (words_of key (name_difference x y n)) (cell_part (from - (key + addresses))) (words_from D (max from next) (keys_of x y - max from next)))
        by true h false h' = absurd (let l = leb-true from key h in let m = ltb-false from (key + sheet_keys) h' in omega arith)
        by false h true h' =
            let l = leb-false from key h in
            let m = ltb-true from (key + sheet_keys) h' in
            let e : max from key ≡ from = omega arith in
            let f : next ≡ max from next = omega arith in
            ap (λ (k : ℕ). words_from D k (keys_of x y - k)) e ∙ from_cells from l (omega arith)
            ∙ ap (λ (k : ℕ). cell_part (from - (key + addresses)) ++ words_from D k (keys_of x y - k)) f
        by false h false h' =
            let l = leb-false from key h in
            let m = ltb-false from (key + sheet_keys) h' in
            let e : max from key ≡ max from next = omega arith in
            ap (λ (k : ℕ). words_from D k (keys_of x y - k)) e
