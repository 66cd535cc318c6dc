-- The laws of words put into a buffer. Assumes nothing.
use Prim.Native.Nat.{ℕ, suc, ◌+◌, ◌-◌, min, ◌≤◌, ◌<◌}
use mathlib.Core.Path.{◌≡◌, refl, sym, ap, ◌∙◌, subst}
use mathlib.Core.Bool.{Bool, true, false}
use mathlib.Core.List.{List, [], ◌∷◌, ◌++◌, append_assoc, append-nil}
use native.Mathlib.Omega.{arith}
use native.Mathlib.Numerals.{add-one}
use lib.ListN.{length, set, take, drop, length-set, length-take, take-append-drop, drop_of_length-le}
use lib.Seq.{take-suc-set, drop-set-lt, take-nil, take_all}
use lib.Dec.{ltb, leb}
use borrow.Author.Tests.{ltb-true, ltb-false, leb-true, leb-false, lt-ltb, le-ltb}
use Rattle.steps.specs.Choice.{pick}
use Rattle.steps.proofs.Choice.{pick_lt, pick_nlt, pick_le, pick_nle, pick_by}
use Rattle.cell_differences.specs.Merge.{puts, put_to}

pub put_room : (b : List ℕ) (i w : ℕ) → i < length b → set b i w ≡ puts b i (w ∷ [])
unfolding puts
put_room b i w h = pick_lt _ _ _ i (length b) h refl

pub put_full : (b : List ℕ) (i w : ℕ) → length b ≤ i → b ≡ puts b i (w ∷ [])
unfolding puts
put_full b i w h = pick_nlt _ _ _ i (length b) h refl

to_next : (n i w : ℕ) → i ≤ n → i + 1 ≡ put_to n i (w ∷ [])
unfolding put_to
to_next n i w h = pick_le _ _ _ i n h refl

pub to_room : (n i w : ℕ) → i < n → i + 1 ≡ put_to n i (w ∷ [])
to_room n i w h = to_next n i w (omega arith)

pub to_last : (n i w : ℕ) → i ≡ n → i + 1 ≡ put_to n i (w ∷ [])
to_last n i w h = to_next n i w (omega arith)

pub to_full : (n i w : ℕ) → n ≤ i → (i ≡ n → ⊥) → i ≡ put_to n i (w ∷ [])
unfolding put_to
to_full n i w h k = pick_nle _ _ _ i n (omega arith) refl

pub ruleset put_laws = (put_room, put_full, to_room, to_last, to_full)

-- a full buffer
pub puts_full : (b : List ℕ) (i : ℕ) (l : List ℕ) → length b ≤ i → puts b i l ≡ b
unfolding puts
puts_full b i [] h = refl
puts_full b i (w ∷ l) h = sym (pick_nlt _ _ _ i (length b) h refl)

pub to_stays : (n i : ℕ) (l : List ℕ) → n < i → put_to n i l ≡ i
unfolding put_to
to_stays n i [] h = refl
to_stays n i (w ∷ l) h = sym (pick_nle _ _ _ i n h refl)

pub length_puts : (b : List ℕ) (i : ℕ) (l : List ℕ) → length (puts b i l) ≡ length b
unfolding puts
length_puts b i [] = refl
length_puts b i (w ∷ l) = pick_by (λ (x : List ℕ). length x ≡ length b) (ltb i (length b)) (λ _. length_puts (set b i w) (i + 1) l ∙ length-set b i w) (λ _. refl)

-- one list after the other
puts_room : (b : List ℕ) (i w : ℕ) (l : List ℕ) → i < length b → puts b i (w ∷ l) ≡ puts (set b i w) (i + 1) l
unfolding puts
puts_room b i w l h = sym (pick_lt _ _ _ i (length b) h refl)

to_more : (n i w : ℕ) (l : List ℕ) → i ≤ n → put_to n i (w ∷ l) ≡ put_to n (i + 1) l
unfolding put_to
to_more n i w l h = sym (pick_le _ _ _ i n h refl)

-- the count doesn't fall
to_low : (n i : ℕ) (l : List ℕ) → i ≤ put_to n i l
unfolding put_to
to_low n i [] = omega arith
to_low n i (w ∷ l) = pick_by (λ (x : ℕ). i ≤ x) (leb i n) (λ _. let h = to_low n (i + 1) l in omega arith) (λ _. omega arith)

puts_by : (m b : List ℕ) (i w : ℕ) (l : List ℕ) (t : Bool) → ltb i (length b) ≡ t → (puts (set b i w) (i + 1) (l ++ m) ≡ puts (puts (set b i w) (i + 1) l) (put_to (length (set b i w)) (i + 1) l) m) → puts b i (w ∷ (l ++ m)) ≡ puts (puts b i (w ∷ l)) (put_to (length b) i (w ∷ l)) m
puts_by m b i w l true h ih =
    let r = ltb-true i (length b) h in
    puts_room b i w (l ++ m) r ∙ ih
    ∙ ap (λ (x : ℕ). puts (puts (set b i w) (i + 1) l) (put_to x (i + 1) l) m) (length-set b i w)
    ∙ (let x = sym (puts_room b i w l r) in let y = sym (to_more (length b) i w l (omega arith)) in λ z. puts (x z) (y z) m)
puts_by m b i w l false h ih =
    let r = ltb-false i (length b) h in
    let j = to_low (length b) i (w ∷ l) in
    puts_full b i (w ∷ (l ++ m)) r
    ∙ sym (puts_full b (put_to (length b) i (w ∷ l)) m (omega arith))
    ∙ ap (λ (x : List ℕ). puts x (put_to (length b) i (w ∷ l)) m) (sym (puts_full b i (w ∷ l) r))

pub puts_append : (l m b : List ℕ) (i : ℕ) → puts b i (l ++ m) ≡ puts (puts b i l) (put_to (length b) i l) m
unfolding puts put_to
puts_append [] m b i = refl
puts_append (w ∷ l) m b i = puts_by m b i w l (ltb i (length b)) refl (puts_append l m (set b i w) (i + 1))

to_by : (n i w : ℕ) (l m : List ℕ) (t : Bool) → leb i n ≡ t → put_to n (i + 1) (l ++ m) ≡ put_to n (put_to n (i + 1) l) m → put_to n i (w ∷ (l ++ m)) ≡ put_to n (put_to n i (w ∷ l)) m
to_by n i w l m true h ih = let r = leb-true i n h in to_more n i w (l ++ m) r ∙ ih ∙ ap (λ (x : ℕ). put_to n x m) (sym (to_more n i w l r))
to_by n i w l m false h ih = let r = leb-false i n h in to_stays n i (w ∷ (l ++ m)) r ∙ sym (to_stays n i m r) ∙ ap (λ (x : ℕ). put_to n x m) (sym (to_stays n i (w ∷ l) r))

pub to_append : (n : ℕ) (l m : List ℕ) (i : ℕ) → put_to n i (l ++ m) ≡ put_to n (put_to n i l) m
unfolding put_to
to_append n [] m i = refl
to_append n (w ∷ l) m i = to_by n i w l m (leb i n) refl (to_append n l m (i + 1))

-- a part of the words is put: x is what the buffer is to hold in the end, z how many words
pub puts_part : (x b c l m ws : List ℕ) (i j : ℕ) → x ≡ puts b i ws → ws ≡ l ++ m → c ≡ puts b i l → j ≡ put_to (length b) i l → x ≡ puts c j m
puts_part x b c l m ws i j inv e h o = inv ∙ ap (puts b i) e ∙ puts_append l m b i ∙ (λ z. puts (sym h z) (sym o z) m)

pub to_part : (x n n' : ℕ) (l m ws : List ℕ) (i j : ℕ) → x ≡ put_to n i ws → ws ≡ l ++ m → n' ≡ n → j ≡ put_to n i l → x ≡ put_to n' j m
to_part x n n' l m ws i j inv e h o = inv ∙ ap (put_to n i) e ∙ to_append n l m i ∙ (λ z. put_to (sym h z) (sym o z) m)

-- ---- the whole
to_whole_by : (w : ℕ) (l : List ℕ) (n i : ℕ) → i ≤ n + 1 → (t : Bool) → leb i n ≡ t → (i + 1 ≤ n + 1 → put_to n (i + 1) l ≡ i + 1 + length (take (n + 1 - (i + 1)) l)) → pick t (put_to n (i + 1) l) i ≡ i + length (take (n + 1 - i) (w ∷ l))
unfolding pick
to_whole_by w l n i h true t ih =
    let r = leb-true i n t in
    let e : n + 1 - i ≡ suc (n + 1 - (i + 1)) = omega arith in
    let f : i + 1 + length (take (n + 1 - (i + 1)) l) ≡ i + suc (length (take (n + 1 - (i + 1)) l)) = omega arith in
    ih (omega arith) ∙ f ∙ ap (λ (k : ℕ). i + length (take k (w ∷ l))) (sym e)
to_whole_by w l n i h false t ih =
    let r = leb-false i n t in
    let e : n + 1 - i ≡ 0 = omega arith in
    let f : i ≡ i + 0 = omega arith in
    f ∙ ap (λ (k : ℕ). i + length (take k (w ∷ l))) (sym e)

puts_whole_by : (w : ℕ) (l b : List ℕ) (i : ℕ) → i ≤ length b → (t : Bool) → ltb i (length b) ≡ t
    → (i + 1 ≤ length (set b i w) → puts (set b i w) (i + 1) l ≡ take (i + 1) (set b i w) ++ (take (length (set b i w) - (i + 1)) l ++ drop (i + 1 + length l) (set b i w)))
    → pick t (puts (set b i w) (i + 1) l) b ≡ take i b ++ (take (length b - i) (w ∷ l) ++ drop (i + suc (length l)) b)
unfolding pick
puts_whole_by w l b i h true t ih =
    let r = ltb-true i (length b) t in
    let n = length-set b i w in
    let e : length b - i ≡ suc (length b - (i + 1)) = omega arith in
    let f : i + 1 + length l ≡ i + suc (length l) = omega arith in
    ih (subst (λ (k : ℕ). i + 1 ≤ k) (sym n) (omega arith))
    ∙ ap (λ (k : ℕ). take k (set b i w) ++ (take (length (set b i w) - (i + 1)) l ++ drop (i + 1 + length l) (set b i w))) (add-one i)
    ∙ ap (λ (x : List ℕ). x ++ (take (length (set b i w) - (i + 1)) l ++ drop (i + 1 + length l) (set b i w))) (take-suc-set b i w r)
    ∙ ap (λ (x : List ℕ). (take i b ++ (w ∷ [])) ++ (take (length (set b i w) - (i + 1)) l ++ x)) (drop-set-lt (i + 1 + length l) b i w (omega arith))
    ∙ ap (λ (k : ℕ). (take i b ++ (w ∷ [])) ++ (take (k - (i + 1)) l ++ drop (i + 1 + length l) b)) n
    ∙ append_assoc (take i b) (w ∷ []) (take (length b - (i + 1)) l ++ drop (i + 1 + length l) b)
    ∙ ap (λ (k : ℕ). take i b ++ ((w ∷ take (length b - (i + 1)) l) ++ drop k b)) f
    ∙ ap (λ (k : ℕ). take i b ++ (take k (w ∷ l) ++ drop (i + suc (length l)) b)) (sym e)
puts_whole_by w l b i h false t ih =
    let r = ltb-false i (length b) t in
    let e : length b - i ≡ 0 = omega arith in
    sym (append-nil b)
    ∙ ap (λ (x : List ℕ). x ++ []) (sym (take_all i b r))
    ∙ ap (λ (x : List ℕ). take i b ++ x) (sym (drop_of_length-le b {i = i + suc (length l)} (omega arith)))
    ∙ ap (λ (k : ℕ). take i b ++ (take k (w ∷ l) ++ drop (i + suc (length l)) b)) (sym e)

to_whole : (l : List ℕ) (n i : ℕ) → i ≤ n + 1 → put_to n i l ≡ i + length (take (n + 1 - i) l)
unfolding put_to
to_whole [] n i h = let e : i ≡ i + 0 = omega arith in e ∙ ap (λ (k : ℕ). i + k) (sym (ap length (take-nil {A = ℕ} (n + 1 - i))))
to_whole (w ∷ l) n i h = to_whole_by w l n i h (leb i n) refl (λ r. to_whole l n (i + 1) r)

puts_whole : (l b : List ℕ) (i : ℕ) → i ≤ length b → puts b i l ≡ take i b ++ (take (length b - i) l ++ drop (i + length l) b)
unfolding puts
puts_whole [] b i h =
    let e : i ≡ i + 0 = omega arith in
    sym (take-append-drop i b) ∙ ap (λ (k : ℕ). take i b ++ drop k b) e
    ∙ ap (λ (x : List ℕ). take i b ++ (x ++ drop (i + 0) b)) (sym (take-nil {A = ℕ} (length b - i)))
puts_whole (w ∷ l) b i h = puts_whole_by w l b i h (ltb i (length b)) refl (λ r. puts_whole l (set b i w) (i + 1) r)

-- all that there are, or one more than there is room for
start_min : (n : ℕ) (l : List ℕ) → put_to n 0 l ≡ min (n + 1) (length l)
start_min n l =
    to_whole l n 0 (omega arith)
    ∙ (let z : 0 + length (take (n + 1 - 0) l) ≡ length (take (n + 1 - 0) l) = omega arith in let e : n + 1 - 0 ≡ n + 1 = omega arith in z ∙ ap (λ (k : ℕ). length (take k l)) e)
    ∙ length-take (n + 1) l

module _ (n : ℕ) (l : List ℕ) (r : ℕ) (e : r ≡ put_to n 0 l) where
  pub start_count : r ≤ n → r ≡ length (take n l)
  start_count h = let m = e ∙ start_min n l in let x : r ≡ min n (length l) = omega arith in x ∙ sym (length-take n l)

  pub start_all : r ≤ n → false ≡ ltb n (length l)
  start_all h = let m = e ∙ start_min n l in sym (le-ltb n (length l) (omega arith))

  pub start_full : n < r → n ≡ length (take n l)
  start_full h = let m = e ∙ start_min n l in let x : n ≡ min n (length l) = omega arith in x ∙ sym (length-take n l)

  pub start_more : n < r → true ≡ ltb n (length l)
  start_more h = let m = e ∙ start_min n l in sym (lt-ltb n (length l) (omega arith))

pub puts_start : (b l : List ℕ) → puts b 0 l ≡ take (length b) l ++ drop (length l) b
puts_start b l =
    puts_whole l b 0 (omega arith)
    ∙ (let e : length b - 0 ≡ length b = omega arith in let f : 0 + length l ≡ length l = omega arith in λ z. take (e z) l ++ drop (f z) b)
