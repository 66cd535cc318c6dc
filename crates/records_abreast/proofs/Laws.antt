-- The laws of records that say the same in two streams. Assumes nothing.
use Prim.Native.Nat.{ℕ, zero, suc, ◌+◌, ◌-◌, ◌*◌, ◌^◌, ◌<◌}
use mathlib.Core.Path.{◌≡◌, refl, sym, ap, ◌∙◌, subst}
use mathlib.Core.Bool.{Bool, true, false}
use mathlib.Core.List.{List, [], ◌∷◌, ◌++◌}
use native.Mathlib.Omega.{arith}
use lib.ListN.{length, get_or}
use lib.Dec.{eqb}
use borrow.Author.Tests.{eqb-true, eqb-false}
use Rattle.steps.proofs.Choice.{pick_true, pick_false, pick_any, pick_eq}
use Rattle.byte_numbers.specs.Bytes.{u32_at, u64_at}
use Rattle.std.specs.Prelude.{Option, None, Some}
use lib.Ieee as Ieee
use Rattle.number.specs.Rk.{rk_of}
use Rattle.value.specs.declared.Field.{Field}
use Rattle.value.specs.declared.Field.TheVariants.{NoField, Float, RkWord, TextIndex, TruthError, StoredResult}
use Rattle.value.specs.declared.CellValue.{CellValue}
use Rattle.value.specs.declared.CellValue.TheVariants as value
use Rattle.value.specs.Value.{float_value, rk_value, truth_error, result_of, value_of}
use Rattle.cell.specs.declared.Cell.{Cell}
use Rattle.cell.specs.Cells.{part_of, start_of, field_at, cell_from, cells_from}
use Rattle.reading.specs.Cells.{place_at, listed_from}
use Rattle.reading.specs.Reading.{says_text, text_after}
use Rattle.reading.specs.Scan.{Past}
use Rattle.reading.proofs.Scanning.{past_list}
use Rattle.differences.specs.Differences.{none, same, shown, alike, words_from}
use Rattle.differences.specs.Units.{units_by}
use Rattle.differences.proofs.Laws.{same_refl}
use Rattle.cell_addresses.specs.Addresses.{address_in, holds, AscendFrom}
use Rattle.cell_addresses.proofs.Laws.{value_here, value_past, ascend_low, ascend_below}
use Rattle.cell_differences.specs.Merge.{at_both, differs, words_between}
use Rattle.cell_differences.proofs.Laws.{values_same}
use Rattle.records_abreast.specs.Abreast.{Paired, Agree, Agrees, Same, Ahead}

-- ---- cells that are paired tell nothing
ascend_rest : (k : ℕ) (ones l : List Cell) → AscendFrom k (ones ++ l) → AscendFrom k l
ascend_rest k [] l a = a
ascend_rest k (c ∷ ones) l a = let i = a.0 in ascend_low k (address_in c + 1) l (omega arith) (ascend_rest (address_in c + 1) ones l a.1)

module _ (s t : List ℕ) (p q : List (List ℕ)) where
  pair_by : (l m : List Cell) (c d : Cell) (ones twos : List Cell) (b : ℕ) → address_in c ≡ address_in d → at_both s t p q (holds c.value c.field) (holds d.value d.field) ≡ none
      → AscendFrom (address_in c + 1) (ones ++ l) → AscendFrom (address_in d + 1) (twos ++ m)
      → differs s t p q (ones ++ l) (twos ++ m) b ≡ differs s t p q l m b → (x : Bool) → eqb (address_in c) b ≡ x
      → differs s t p q (c ∷ (ones ++ l)) (d ∷ (twos ++ m)) b ≡ differs s t p q l m b
  unfolding differs
  pair_by l m c d ones twos b e n a a' ih true x =
      let i = eqb-true (address_in c) b x in
      let u = value_here b c (ones ++ l) i in
      let v = value_here b d (twos ++ m) (sym e ∙ i) in
      let u' = ascend_below (address_in c + 1) b l (ascend_rest (address_in c + 1) ones l a) (omega arith) in
      let v' = ascend_below (address_in d + 1) b m (ascend_rest (address_in d + 1) twos m a') (omega arith) in
      (λ z. at_both s t p q (u z) (v z)) ∙ n ∙ sym (λ z. at_both s t p q (u' z) (v' z))
  pair_by l m c d ones twos b e n a a' ih false x =
      let i = eqb-false (address_in c) b x in
      let u = value_past b c (ones ++ l) i in
      let v = value_past b d (twos ++ m) (λ j. i (e ∙ j)) in
      (λ z. at_both s t p q (u z) (v z)) ∙ ih

  pair_differs : (l m ones twos : List Cell) (k k' b : ℕ) → Paired s p t q ones twos → AscendFrom k (ones ++ l) → AscendFrom k' (twos ++ m) → differs s t p q (ones ++ l) (twos ++ m) b ≡ differs s t p q l m b
  pair_differs l m [] [] k k' b r a a' = refl
  pair_differs l m [] (d ∷ twos) k k' b r a a' = absurd r
  pair_differs l m (c ∷ ones) [] k k' b r a a' = absurd r
  pair_differs l m (c ∷ ones) (d ∷ twos) k k' b r a a' =
      pair_by l m c d ones twos b r.0 r.1.0 a.1 a'.1 (pair_differs l m ones twos (address_in c + 1) (address_in d + 1) b r.1.1 a.1 a'.1) (eqb (address_in c) b) refl

  pair_words : (l m ones twos : List Cell) (k k' : ℕ) → Paired s p t q ones twos → AscendFrom k (ones ++ l) → AscendFrom k' (twos ++ m) → (base from : ℕ)
      → words_between s t p q (ones ++ l) (twos ++ m) base from ≡ words_between s t p q l m base from
  unfolding words_between
  pair_words l m ones twos k k' r a a' base from = λ z. words_from (λ key. pair_differs l m ones twos k k' (key - base) r a a' z) (base + from) (4294967296 - from)

-- ---- from there on
pub ahead_here : (s t : List ℕ) (m : ℕ) (l k : List Cell) → AscendFrom 0 l → AscendFrom 0 k → Ahead s t m l k l k
ahead_here s t m l k a b = record { up = a; down = b; words = λ p q c base from. refl }

pub ahead_on : (s t : List ℕ) (m : ℕ) (l k l' k' l'' k'' : List Cell) → Ahead s t m l k l' k' → Ahead s t m l' k' l'' k'' → Ahead s t m l k l'' k''
ahead_on s t m l k l' k' l'' k'' a b = record { up = b.up; down = b.down; words = λ p q c base from. a.words p q c base from ∙ b.words p q c base from }

module _ (s t : List ℕ) (m a₀ b₀ a b : ℕ) (g : Ahead s t m (listed_from s (place_at a₀ 0)) (listed_from t (place_at b₀ 0)) (listed_from s (place_at a 0)) (listed_from t (place_at b 0))) where
  module _ (d : ℕ) (x : Same s t m a b d) where
    pub pass_same : Ahead s t m (listed_from s (place_at a₀ 0)) (listed_from t (place_at b₀ 0)) (listed_from s (place_at (a + d) 0)) (listed_from t (place_at (b + d) 0))
    pass_same =
        let u = subst (AscendFrom 0) x.first g.up in
        let v = subst (AscendFrom 0) x.second g.down in
        ahead_on s t m _ _ (listed_from s (place_at a 0)) (listed_from t (place_at b 0)) _ _ g
        (record {
          up = ascend_rest 0 x.ones (listed_from s (place_at (a + d) 0)) u;
          down = ascend_rest 0 x.twos (listed_from t (place_at (b + d) 0)) v;
          words = λ p q c base from.
              (let e = x.first in let f = x.second in λ z. words_between s t p q (e z) (f z) base from)
              ∙ pair_words s t p q (listed_from s (place_at (a + d) 0)) (listed_from t (place_at (b + d) 0)) x.ones x.twos 0 0 (x.paired p q c) u v base from;
        })

    pub pass_nearer : (length s - (a + d)) + (length t - (b + d)) < (length s - a) + (length t - b)
    pass_nearer = let w = x.some in let y = x.within in let z = x.there in omega arith

    pub pass_first_fits : length s < 2 ^ 64 → a + d < 2 ^ 64
    pass_first_fits h = let y = x.within in omega arith

    pub pass_second_fits : length t < 2 ^ 64 → b + d < 2 ^ 64
    pass_second_fits h = let y = x.there in omega arith

  module _ (c e : ℕ) (x : Past s 0 a c) (y : Past t 0 b e) where
    pub past_both : Ahead s t m (listed_from s (place_at a₀ 0)) (listed_from t (place_at b₀ 0)) (listed_from s (place_at c 0)) (listed_from t (place_at e 0))
    past_both =
        ahead_on s t m _ _ (listed_from s (place_at a 0)) (listed_from t (place_at b 0)) _ _ g
        (record {
          up = subst (AscendFrom 0) (past_list x) g.up;
          down = subst (AscendFrom 0) (past_list y) g.down;
          words = λ p q k base from. let u = past_list x in let v = past_list y in λ z. words_between s t p q (u z) (v z) base from;
        })

    pub past_nearer_first : (c ≡ a → ⊥) → (length s - c) + (length t - e) < (length s - a) + (length t - b)
    past_nearer_first h = let i = x.nearer h in let j = y.near in omega arith

    pub past_nearer_second : (e ≡ b → ⊥) → (length s - c) + (length t - e) < (length s - a) + (length t - b)
    past_nearer_second h = let i = x.near in let j = y.nearer h in omega arith

pub ruleset pass_laws = (ahead_here, pass_same, pass_nearer, pass_first_fits, pass_second_fits, past_both, past_nearer_first, past_nearer_second)

-- ---- two values
abbrev pub PlainField : Field → Type 0
PlainField NoField = Unit {0}
PlainField Float = Unit {0}
PlainField RkWord = Unit {0}
PlainField TextIndex = ⊥
PlainField TruthError = Unit {0}
PlainField StoredResult = ⊥

module _ (s t : List ℕ) (p q : List (List ℕ)) where
  -- the same value, shown alike and with the same units
  agree_value : (v : CellValue) (x y : ℕ) → same (shown p v) (shown q v) ≡ true → same (units_by s v x) (units_by t v y) ≡ true → at_both s t p q (holds v x) (holds v y) ≡ none
  unfolding alike
  agree_value v x y e f =
      values_same s t p q v v x y (alike p v (units_by s v x) q v (units_by t v y)) refl
      (sym (pick_true true (same (units_by s v x) (units_by t v y)) false (same (shown p v) (shown q v)) e (sym f)))

  -- a value without text
  record Plain (v : CellValue) : Type 0 where
    shows : shown p v ≡ shown q v
    no_text : says_text v ≡ false

  agree_plain : (v : CellValue) (x y : ℕ) → Plain v → at_both s t p q (holds v x) (holds v y) ≡ none
  unfolding same
  agree_plain v x y h =
      let u : units_by s v x ≡ [] = sym (pick_false [] (text_after s (x - 10)) [] (says_text v) h.no_text refl) in
      let w : units_by t v y ≡ [] = sym (pick_false [] (text_after t (y - 10)) [] (says_text v) h.no_text refl) in
      agree_value v x y (ap (same (shown p v)) (sym h.shows) ∙ same_refl (shown p v)) (λ z. same (u z) (w z))

  plain_rk : (r : Option Ieee.Float) → Plain (rk_value r)
  plain_rk (Some x) = record { shows = refl; no_text = refl }
  plain_rk None = record { shows = refl; no_text = refl }

  plain_value : (f : Field) → PlainField f → (n : ℕ) → Plain (value_of f n)
  unfolding float_value truth_error
  plain_value NoField h n = record { shows = refl; no_text = refl }
  plain_value Float h n = pick_any Plain _ (record { shows = refl; no_text = refl }) (record { shows = refl; no_text = refl })
  plain_value RkWord h n = plain_rk (rk_of n)
  plain_value TextIndex h n = absurd h
  plain_value TruthError h n = pick_any Plain _ (record { shows = refl; no_text = refl }) (record { shows = refl; no_text = refl })
  plain_value StoredResult h n = absurd h

  -- by their fields
  agree_by : (f : Field) (a b : ℕ) → ((n : ℕ) → at_both s t p q (holds (value_of f n) (a + start_of f)) (holds (value_of f n) (b + start_of f)) ≡ none) → field_at f s a ≡ field_at f t b → Agree s p t q f a b
  agree_by f a b h e = ap (λ (n : ℕ). at_both s t p q (holds (value_of f (field_at f s a)) (a + start_of f)) (holds (value_of f n) (b + start_of f))) (sym e) ∙ h (field_at f s a)

  pub agree_field : (f : Field) → PlainField f → (a b : ℕ) → field_at f s a ≡ field_at f t b → Agree s p t q f a b
  agree_field f h a b e = agree_by f a b (λ n. agree_plain (value_of f n) (a + start_of f) (b + start_of f) (plain_value f h n)) e

  pub blanks_agree : (n a b : ℕ) → Agrees s p t q NoField a b n
  blanks_agree zero a b = tt
  blanks_agree (suc n) a b = (agree_plain value.Blank (a + 0) (b + 0) (record { shows = refl; no_text = refl }), blanks_agree n (a + 2) (b + 2))

  pub words_agree : (n a b : ℕ) → ((k : ℕ) → k < n → u32_at s (a + 6 * k + 2) ≡ u32_at t (b + 6 * k + 2)) → Agrees s p t q RkWord a b n
  unfolding field_at
  words_agree zero a b h = tt
  words_agree (suc n) a b h =
      let e : a + 6 * 0 + 2 ≡ a + 2 = omega arith in
      let f : b + 6 * 0 + 2 ≡ b + 2 = omega arith in (
        agree_field RkWord tt a b (ap (u32_at s) (sym e) ∙ h 0 (omega arith) ∙ ap (u32_at t) f),
        words_agree n (a + 6) (b + 6)
            (λ k l.
            let u : a + 6 + 6 * k + 2 ≡ a + 6 * (k + 1) + 2 = omega arith in
            let v : b + 6 * (k + 1) + 2 ≡ b + 6 + 6 * k + 2 = omega arith in
            ap (u32_at s) u ∙ h (k + 1) (omega arith) ∙ ap (u32_at t) v),
      )

  pub text_agrees : (a b i : ℕ) → i ≡ u32_at s (a + 2) → i ≡ u32_at t (b + 2) → same (get_or p i []) (get_or q i []) ≡ true → Agree s p t q TextIndex a b
  unfolding field_at same
  text_agrees a b i e f h =
      let x : same (shown p (value.Text i)) (shown q (value.Text i)) ≡ true = sym (pick_eq true (same (get_or p i []) (get_or q i [])) false 2 2 refl (sym h)) in
      let y : same (units_by s (value.Text i) (a + 2)) (units_by t (value.Text i) (b + 2)) ≡ true = (λ z. same (sym (pick_false [] (text_after s (a + 2 - 10)) [] false refl refl) z) (sym (pick_false [] (text_after t (b + 2 - 10)) [] false refl refl) z)) in
      (let u = sym e in let v = sym f in λ z. at_both s t p q (holds (value.Text (u z)) (a + 2)) (holds (value.Text (v z)) (b + 2))) ∙ agree_value (value.Text i) (a + 2) (b + 2) x y

  pub stored_agrees : (a b : ℕ) → u64_at s (a + 2) ≡ u64_at t (b + 2) → same (units_by s (value.Formula (result_of (u64_at s (a + 2)))) (a + 2)) (units_by t (value.Formula (result_of (u64_at s (a + 2)))) (b + 2)) ≡ true → Agree s p t q StoredResult a b
  unfolding field_at
  stored_agrees a b e h =
      ap (λ (n : ℕ). at_both s t p q (holds (value.Formula (result_of (u64_at s (a + 2)))) (a + 2)) (holds (value.Formula (result_of n)) (b + 2))) (sym e)
      ∙ agree_value (value.Formula (result_of (u64_at s (a + 2)))) (a + 2) (b + 2) (same_refl (shown p (value.Formula (result_of (u64_at s (a + 2)))))) h

  -- ---- the cells of a record
  pub paired_cells : (f : Field) (row column row' column' a b n : ℕ) → row ≡ row' → column ≡ column' → Agrees s p t q f a b n → Paired s p t q (cells_from f s row column a n) (cells_from f t row' column' b n)
  unfolding cells_from cell_from
  paired_cells f row column row' column' a b zero e i h = tt
  paired_cells f row column row' column' a b (suc n) e i h = (omega arith, (h.0, paired_cells f row (column + 1) row' (column' + 1) (a + part_of f) (b + part_of f) n e (omega arith) h.1))
