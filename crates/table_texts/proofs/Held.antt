-- What is read from bytes a table can hold. Assumes nothing.
use Prim.Native.Nat.{ℕ, zero, suc, ◌+◌, ◌*◌, ◌^◌, ◌≤◌, ◌<◌}
use mathlib.Core.Path.{◌≡◌, refl, sym, subst}
use mathlib.Core.List.{List, [], ◌∷◌, map}
use mathlib.Core.Bool.{Bool, true, false}
use native.Mathlib.Omega.{arith}
use lib.ListN.{length}
use lib.Dec.{eqb}
use Rattle.steps.specs.Choice.{pick}
use Rattle.steps.proofs.Choice.{pick_any}
use Rattle.byte_numbers.specs.Bytes.{byte_at, num_at}
use Rattle.segments.specs.declared.Cursor.{Cursor}
use Rattle.segments.specs.Segments.{Got, got, refused, then, push, on, next_segment, need, enter, room, items}
use Rattle.segments.proofs.Local.{need_is}
use Rattle.segments.proofs.Laws.{Count, count_items}
use Rattle.strings.specs.declared.Head.{Head}
use Rattle.strings.specs.Table.{phonetic_bit, rich_bit, head_size, runs_at, phonetic_at, head_at, start_size, head}
use Rattle.table_texts.specs.Texts.{Text, text_of, text_at, the_text, Below, Holds, AllHold, keep_if, kept}

-- a stream of bytes
abbrev pub Bytes : List ℕ → Type 0
Bytes s = (k : ℕ) → byte_at s k < 256

positive : (m : ℕ) → 0 < 256 ^ m
positive zero = omega arith
positive (suc m) = let a = positive m in omega arith

module _ (s : List ℕ) (bytes : Bytes s) where
  pub num_below : (v m p : ℕ) → v ≤ m → num_at s v p < 256 ^ m
  unfolding num_at
  num_below zero m p l = positive m
  num_below (suc v) zero p l = absurd (omega arith)
  num_below (suc v) (suc m) p l = let a = num_below v m (p + 1) (omega arith) in let b = bytes p in omega arith

  -- widths of up to m bytes
  abbrev Narrow : ℕ → Got ℕ → Type 0
  Narrow m (got v d) = v ≤ m
  Narrow m (refused n o) = Unit {0}

  need_narrow : (m w : ℕ) (c : Cursor) → w ≤ m → (x : Got ℕ) → need 8 w c ≡ x → Narrow m x
  need_narrow m w c l (got v d) q = let h = need_is 8 w c v d q in let e = h.width in omega arith
  need_narrow m w c l (refused n o) q = tt

  -- characters may turn out to be of 2
  abbrev Ample : Bool → ℕ → Type 0
  Ample true m = 2 ≤ m
  Ample false m = Unit {0}

  room_narrow : (m : ℕ) (f : Bool) → Ample f m → (w : ℕ) (c : Cursor) → w ≤ m → Narrow m (room 8 s f w c)
  unfolding room
  room_narrow m f two w c l = pick_any (Narrow m) _ (in_next_lem f two (next_segment 8 s c)) (need_narrow m w c l _ refl)
    where
      in_next_lem : (f : Bool) → Ample f m → (x : Got Unit) → Narrow m (then x (λ _ d. enter 8 s f w d))
      in_next_lem true two (got u d) = need_narrow m _ (on d 1) (omega arith) _ refl
      in_next_lem false two (got u d) = need_narrow m w d l _ refl
      in_next_lem true two (refused n o) = tt
      in_next_lem false two (refused n o) = tt

  abbrev BelowIf : ℕ → Got (List ℕ) → Type 0
  BelowIf m (got ns d) = Below m ns
  BelowIf m (refused n o) = Unit {0}

  items_below : (m : ℕ) (f : Bool) → Ample f m → (w k : ℕ) (c : Cursor) → w ≤ m → BelowIf (256 ^ m) (items 8 s f w k c)
  unfolding items
  items_below m f two w zero c l = tt
  items_below m f two w (suc k) c l = go (λ v d j. items_below m f two v k d j) (room 8 s f w c) (room_narrow m f two w c l)
    where
      more : (u : ℕ) → u < 256 ^ m → (y : Got (List ℕ)) → BelowIf (256 ^ m) y → BelowIf (256 ^ m) (push u y)
      more u h (got ns d) i = (h, i)
      more u h (refused n o) i = tt

      go : ((v : ℕ) (d : Cursor) → v ≤ m → BelowIf (256 ^ m) (items 8 s f v k d)) → (x : Got ℕ) → Narrow m x → BelowIf (256 ^ m) (then x (λ v d. push (num_at s v d.at) (items 8 s f v k (on d v))))
      go ih (got v d) j = more _ (num_below v m d.at j) (items 8 s f v k (on d v)) (ih v (on d v) j)
      go ih (refused n o) j = tt

  -- a count that stands there where a bit is 1
  two_below : (p b : ℕ) → b < 2 → pick (eqb b 1) (num_at s 2 p) 0 < 256 ^ (2 * b)
  unfolding pick
  two_below p zero l = omega arith
  two_below p (suc zero) l = num_below 2 2 p (omega arith)
  two_below p (suc (suc b)) l = absurd (omega arith)

  four_below : (p b : ℕ) → b < 2 → pick (eqb b 1) (num_at s 4 p) 0 < 256 ^ (4 * b)
  unfolding pick
  four_below p zero l = omega arith
  four_below p (suc zero) l = num_below 4 4 p (omega arith)
  four_below p (suc (suc b)) l = absurd (omega arith)

  -- ---- a string
  abbrev HeadIf : ℕ → Got Head → Type 0
  HeadIf flags (got h c) = (h.width ≤ 2) × (h.chars < 256 ^ 2) × (h.runs < 256 ^ (2 * rich_bit flags)) × (h.phonetic < 256 ^ (4 * phonetic_bit flags))
  HeadIf flags (refused n o) = Unit {0}

  head_if : (d : Cursor) → HeadIf (byte_at s (d.at + 2)) (head s d)
  unfolding head head_at runs_at phonetic_at
  head_if d = by (need 8 3 d) refl
    where
      here : HeadIf (byte_at s (d.at + 2)) (got (head_at s d.at) (on d (head_size (byte_at s (d.at + 2)))))
      here = (omega arith, num_below 2 2 d.at (omega arith), two_below (d.at + 3) (rich_bit (byte_at s (d.at + 2))) (omega arith), four_below (d.at + 3 + 2 * rich_bit (byte_at s (d.at + 2))) (phonetic_bit (byte_at s (d.at + 2))) (omega arith))

      then_by : (x : Got ℕ) → need 8 (start_size s d.at) d ≡ x → HeadIf (byte_at s (d.at + 2)) (then x (λ _ e. got (head_at s e.at) (on e (head_size (byte_at s (e.at + 2))))))
      then_by (got v e) q = subst (λ (z : Cursor). HeadIf (byte_at s (d.at + 2)) (got (head_at s z.at) (on z (head_size (byte_at s (z.at + 2)))))) (sym (need_is 8 (start_size s d.at) d v e q).same) here
      then_by (refused n o) q = tt

      by : (x : Got ℕ) → need 8 3 d ≡ x → HeadIf (byte_at s (d.at + 2)) (then x (λ _ c. then (need 8 (start_size s c.at) c) (λ _ e. got (head_at s e.at) (on e (head_size (byte_at s (e.at + 2)))))))
      by (got v c) q =
          subst (λ (z : Cursor). HeadIf (byte_at s (d.at + 2)) (then (need 8 (start_size s z.at) z) (λ _ e. got (head_at s e.at) (on e (head_size (byte_at s (e.at + 2))))))) (sym (need_is 8 3 d v c q).same)
          (then_by (need 8 (start_size s d.at) d) refl)
      by (refused n o) q = tt

  abbrev HoldsIf : Got Text → Type 0
  HoldsIf (got t c) = Holds t
  HoldsIf (refused n o) = Unit {0}

  pub text_holds : (d : Cursor) → HoldsIf (text_at s d)
  unfolding text_at
  text_holds d = at_head (head s d) (head_if d)
    where
      at_phonetic : (h : Head) (c : Cursor) → HeadIf (byte_at s (d.at + 2)) (got h c) → (us rs : List ℕ) → Below (256 ^ 2) us → length us ≡ h.chars → Below (256 ^ 4) rs → length rs ≡ h.runs
          → (x : Got (List ℕ)) → Count h.phonetic x → BelowIf (256 ^ 1) x → HoldsIf (then x (λ ps i. got (text_of (byte_at s (d.at + 2)) us rs ps) i))
      at_phonetic h c k us rs a e b f (got ps i) g m = record {
        units = a;
        chars = subst (λ (n : ℕ). n < 256 ^ 2) (sym e) k.1;
        rich = omega arith;
        runs = b;
        count = subst (λ (n : ℕ). n < 256 ^ (2 * rich_bit (byte_at s (d.at + 2)))) (sym f) k.2;
        voiced = omega arith;
        phonetic = m;
        size = subst (λ (n : ℕ). n < 256 ^ (4 * phonetic_bit (byte_at s (d.at + 2)))) (sym g) k.3;
      }
      at_phonetic h c k us rs a e b f (refused n o) g m = tt

      at_runs : (h : Head) (c : Cursor) → HeadIf (byte_at s (d.at + 2)) (got h c) → (us : List ℕ) → Below (256 ^ 2) us → length us ≡ h.chars
          → (x : Got (List ℕ)) → Count h.runs x → BelowIf (256 ^ 4) x → HoldsIf (then x (λ rs g. then (items 8 s false 1 h.phonetic g) (λ ps i. got (text_of (byte_at s (d.at + 2)) us rs ps) i)))
      at_runs h c k us a e (got rs g) f b =
          at_phonetic h c k us rs a e b f (items 8 s false 1 h.phonetic g) (count_items 8 s false 1 h.phonetic g) (items_below 1 false tt 1 h.phonetic g (omega arith))
      at_runs h c k us a e (refused n o) f b = tt

      at_chars : (h : Head) (c : Cursor) → HeadIf (byte_at s (d.at + 2)) (got h c) → (x : Got (List ℕ)) → Count h.chars x → BelowIf (256 ^ 2) x
          → HoldsIf (then x (λ us e. then (items 8 s false 4 h.runs e) (λ rs g. then (items 8 s false 1 h.phonetic g) (λ ps i. got (text_of (byte_at s (d.at + 2)) us rs ps) i))))
      at_chars h c k (got us e) f a =
          at_runs h c k us a f (items 8 s false 4 h.runs e) (count_items 8 s false 4 h.runs e) (items_below 4 false tt 4 h.runs e (omega arith))
      at_chars h c k (refused n o) f a = tt

      at_head : (x : Got Head) → HeadIf (byte_at s (d.at + 2)) x
          → HoldsIf (then x (λ h c. then (items 8 s true h.width h.chars c) (λ us e. then (items 8 s false 4 h.runs e) (λ rs g. then (items 8 s false 1 h.phonetic g) (λ ps i. got (text_of (byte_at s (d.at + 2)) us rs ps) i)))))
      at_head (got h c) k = at_chars h c k (items 8 s true h.width h.chars c) (count_items 8 s true h.width h.chars c) (items_below 2 true (omega arith) h.width h.chars c k.0)
      at_head (refused n o) k = tt

  pub texts_hold : (l : List Cursor) → AllHold (map (λ (d : Cursor). the_text (text_at s d)) l)
  texts_hold [] = tt
  texts_hold (d ∷ l) = (by (text_at s d) (text_holds d), texts_hold l)
    where
      by : (x : Got Text) → HoldsIf x → Holds (the_text x)
      by (got t c) h = h
      by (refused n o) h = record { units = tt; chars = omega arith; rich = omega arith; runs = tt; count = omega arith; voiced = omega arith; phonetic = tt; size = omega arith }

-- those of them that are kept
pub kept_hold : (ms : List ℕ) (ts : List Text) → AllHold ts → AllHold (kept ms ts)
unfolding kept
kept_hold [] ts h = tt
kept_hold (m ∷ ms) [] h = tt
kept_hold (m ∷ ms) (t ∷ ts) h = by (eqb m 0) (kept_hold ms ts h.1)
  where
    by : (b : Bool) → AllHold (kept ms ts) → AllHold (keep_if b t (kept ms ts))
    by true i = i
    by false i = (h.0, i)

pub kept_few : (ms : List ℕ) (ts : List Text) → length (kept ms ts) ≤ length ts
unfolding kept
kept_few [] ts = omega arith
kept_few (m ∷ ms) [] = omega arith
kept_few (m ∷ ms) (t ∷ ts) = by (eqb m 0) (kept_few ms ts)
  where
    by : (b : Bool) → length (kept ms ts) ≤ length ts → length (keep_if b t (kept ms ts)) ≤ length (t ∷ ts)
    by true i = omega arith
    by false i = omega arith
