-- The laws of two records side by side. Assumes nothing.
use Prim.Native.Nat.{ℕ, ◌+◌, ◌-◌, ◌*◌, ◌≤◌, ◌<◌}
use mathlib.Core.Path.{◌≡◌, refl, sym, ap, ◌∙◌, subst, subst⁻¹}
use mathlib.Core.Bool.{Bool, true, false}
use mathlib.Core.List.{List, [], ◌++◌}
use mathlib.Core.Logic.{◌⊎◌, inl, inr}
use native.Mathlib.Omega.{arith}
use lib.ListN.{length}
use lib.Dec.{eqb, leb}
use borrow.Author.Tests.{eqb-true}
use Rattle.steps.specs.Choice.{pick}
use Rattle.steps.proofs.Choice.{pick_false, never}
use Rattle.byte_numbers.specs.Bytes.{num_at, u16_at, u32_at, u64_at}
use Rattle.record.specs.declared.Header.TheVariants.{Record}
use Rattle.record.specs.Record.{header_at}
use Rattle.value.specs.declared.Field.{Field}
use Rattle.value.specs.declared.Field.TheVariants.{NoField, Float, RkWord, TextIndex, TruthError, StoredResult}
use Rattle.value.specs.declared.FormulaResult.{FormulaResult}
use Rattle.value.specs.declared.FormulaResult.TheVariants as result
use Rattle.value.specs.declared.CellValue.TheVariants as value
use Rattle.value.specs.Value.{result_of}
use Rattle.cell.specs.Cells.{shape_of, field_of, part_of, row_at, first_at, sized, length_at, count_of, field_at, cells_from, cells_of}
use Rattle.cell.proofs.Sizes.{count_lies, count_room}
use Rattle.text_result.specs.TextResult.{is_text, has_text}
use Rattle.reading.specs.Cells.{place_at, listed_from}
use Rattle.reading.specs.Reading.{says_text, text_after}
use Rattle.reading.proofs.Laws.{record_cells}
use Rattle.differences.specs.Differences.{same}
use Rattle.differences.specs.Units.{units_by}
use Rattle.cell_addresses.specs.Addresses.{When}
use Rattle.cell_addresses.proofs.Laws.{when_asked}
use Rattle.records_abreast.specs.declared.pair.Pair.{Pair}
use Rattle.records_abreast.specs.Abreast.{Agrees, AllAgree, Same}
use Rattle.records_abreast.specs.Pairs.{Beside, SameAddress, SameWords, SameValues}
use Rattle.records_abreast.proofs.Laws.{PlainField, agree_field, blanks_agree, words_agree, text_agrees, stored_agrees, paired_cells}

when_by : (r : Bool) (A : Type 0) → (r ≡ true → A) → When r A
when_by true A f = f refl
when_by false A f = tt

when_map : (r : Bool) (A B : Type 0) → (A → B) → When r A → When r B
when_map true A B f w = f w
when_map false A B f w = tt

one : (x : Bool) (n : ℕ) → n ≡ pick x 1 0 → 0 < n → n ≡ 1
unfolding pick
one true n e h = e
one false n e h = absurd (omega arith)

-- ---- the room of a record that has cells
module _ (s : List ℕ) (id a z n : ℕ) (count : n ≡ count_of (shape_of id) s a z) (some : 0 < n) (within : a + 4 + z ≤ length s) where
  counted : (j : ℕ) → id ≡ j → n ≡ count_of (shape_of j) s a z
  counted j e = count ∙ ap (λ (k : ℕ). count_of (shape_of k) s a z) e

  head_room : a + 8 ≤ length s
  head_room =
      let l : 0 < count_of (shape_of id) s a z = subst (λ (k : ℕ). 0 < k) count some in
      let r = count_room s a z 0 (shape_of id) l in
      omega arith

  part_room : (j : ℕ) → id ≡ j → a + 8 + n * part_of (field_of (shape_of j)) ≤ length s
  part_room j e =
      let i = counted j e in
      let l : 0 < count_of (shape_of j) s a z = subst (λ (k : ℕ). 0 < k) i some in
      let r : 4 + n * part_of (field_of (shape_of j)) ≤ z = subst⁻¹ (λ (k : ℕ). 4 + k * part_of (field_of (shape_of j)) ≤ z) i (count_lies s a z 0 (shape_of j) l).0 in
      omega arith

module _ (p : Pair) where
  pub first_head : p.here + 8 ≤ length p.first.now
  first_head = head_room p.first.now p.kind p.here p.size p.count p.first_count p.some p.first_within

  pub second_head : p.there + 8 ≤ length p.second.now
  second_head = head_room p.second.now p.kind p.there p.size p.count p.second_count p.some p.second_within

  first_part : (j : ℕ) → p.kind ≡ j → p.here + 8 + p.count * part_of (field_of (shape_of j)) ≤ length p.first.now
  first_part = part_room p.first.now p.kind p.here p.size p.count p.first_count p.some p.first_within

  second_part : (j : ℕ) → p.kind ≡ j → p.there + 8 + p.count * part_of (field_of (shape_of j)) ≤ length p.second.now
  second_part = part_room p.second.now p.kind p.there p.size p.count p.second_count p.some p.second_within

  pub float_room : p.kind ≡ 0x0203 → (p.here + 18 ≤ length p.first.now) × (p.there + 18 ≤ length p.second.now)
  unfolding shape_of pick
  float_room e = let a = first_part 0x0203 e in let b = second_part 0x0203 e in let h = p.some in (omega arith, omega arith)

  pub rk_room : p.kind ≡ 0x027E → (p.here + 14 ≤ length p.first.now) × (p.there + 14 ≤ length p.second.now)
  unfolding shape_of pick
  rk_room e = let a = first_part 0x027E e in let b = second_part 0x027E e in let h = p.some in (omega arith, omega arith)

  pub text_room : p.kind ≡ 0x00FD → (p.here + 14 ≤ length p.first.now) × (p.there + 14 ≤ length p.second.now)
  unfolding shape_of pick
  text_room e = let a = first_part 0x00FD e in let b = second_part 0x00FD e in let h = p.some in (omega arith, omega arith)

  pub truth_room : p.kind ≡ 0x0205 → (p.here + 12 ≤ length p.first.now) × (p.there + 12 ≤ length p.second.now)
  unfolding shape_of pick
  truth_room e = let a = first_part 0x0205 e in let b = second_part 0x0205 e in let h = p.some in (omega arith, omega arith)

  pub result_room : p.kind ≡ 0x0006 → (p.here + 18 ≤ length p.first.now) × (p.there + 18 ≤ length p.second.now)
  unfolding shape_of pick
  result_room e = let a = first_part 0x0006 e in let b = second_part 0x0006 e in let h = p.some in (omega arith, omega arith)

  pub words_room : p.kind ≡ 0x00BD → (p.here + 8 + p.count * 6 ≤ length p.first.now) × (p.there + 8 + p.count * 6 ≤ length p.second.now)
  unfolding shape_of pick
  words_room e = (first_part 0x00BD e, second_part 0x00BD e)

  -- ---- how many cells a record of one type has
  first_counted : (j : ℕ) → p.kind ≡ j → p.count ≡ count_of (shape_of j) p.first.now p.here p.size
  first_counted = counted p.first.now p.kind p.here p.size p.count p.first_count p.some p.first_within

  float_one : p.kind ≡ 0x0203 → p.count ≡ 1
  unfolding shape_of pick sized
  float_one e = one (eqb p.size 14) p.count (first_counted 0x0203 e) p.some

  rk_one : p.kind ≡ 0x027E → p.count ≡ 1
  unfolding shape_of pick sized
  rk_one e = one (eqb p.size 10) p.count (first_counted 0x027E e) p.some

  text_one : p.kind ≡ 0x00FD → p.count ≡ 1
  unfolding shape_of pick sized
  text_one e = one (eqb p.size 10) p.count (first_counted 0x00FD e) p.some

  truth_one : p.kind ≡ 0x0205 → p.count ≡ 1
  unfolding shape_of pick sized
  truth_one e = one (eqb p.size 8) p.count (first_counted 0x0205 e) p.some

  result_one : p.kind ≡ 0x0006 → p.count ≡ 1
  unfolding shape_of pick
  result_one e = one (leb (22 + length_at p.first.now (p.here + 8)) p.size) p.count (first_counted 0x0006 e) p.some

  -- ---- equal values, by the type
  module _ (m : ℕ) where
    typed : (f : Field) (j : ℕ) → field_of (shape_of j) ≡ f → p.kind ≡ j → AllAgree p.first.now p.second.now m f (p.here + 8) (p.there + 8) p.count → SameValues p m
    typed f j i e h x y k = subst⁻¹ (λ (g : Field). Agrees p.first.now x p.second.now y g (p.here + 8) (p.there + 8) p.count) (ap (λ (z : ℕ). field_of (shape_of z)) e ∙ i) (h x y k)

    single : (f : Field) (j : ℕ) → field_of (shape_of j) ≡ f → p.kind ≡ j → p.count ≡ 1 → AllAgree p.first.now p.second.now m f (p.here + 8) (p.there + 8) 1 → SameValues p m
    single f j i e o h = typed f j i e (λ x y k. subst⁻¹ (λ (z : ℕ). Agrees p.first.now x p.second.now y f (p.here + 8) (p.there + 8) z) o (h x y k))

    -- by the number of the w bytes of its value field
    number_says : (w : ℕ) (f : Field) → PlainField f → (k : ℕ) → field_of (shape_of k) ≡ f → p.kind ≡ k → p.count ≡ 1 → ((u : List ℕ) (c : ℕ) → field_at f u c ≡ num_at u w (c + 2))
        → (x y : ℕ) → x ≡ num_at p.first.now w (p.here + 8 + 2) → y ≡ num_at p.second.now w (p.there + 8 + 2) → When (eqb x y) (SameValues p m)
    number_says w f h k i e o is x y j l =
        when_by (eqb x y) (SameValues p m)
        (λ r. single f k i e o (λ u v g. (agree_field p.first.now p.second.now u v f h (p.here + 8) (p.there + 8) (is p.first.now (p.here + 8) ∙ sym j ∙ eqb-true x y r ∙ l ∙ sym (is p.second.now (p.there + 8))), tt)))

    module _ (x y : ℕ) where
      pub float_says : p.kind ≡ 0x0203 → x ≡ u64_at p.first.now (p.here + 8 + 2) → y ≡ u64_at p.second.now (p.there + 8 + 2) → When (eqb x y) (SameValues p m)
      unfolding shape_of pick field_at
      float_says e i j = number_says 8 Float tt 0x0203 refl e (float_one e) (λ u c. refl) x y i j

      pub rk_says : p.kind ≡ 0x027E → x ≡ u32_at p.first.now (p.here + 8 + 2) → y ≡ u32_at p.second.now (p.there + 8 + 2) → When (eqb x y) (SameValues p m)
      unfolding shape_of pick field_at
      rk_says e i j = number_says 4 RkWord tt 0x027E refl e (rk_one e) (λ u c. refl) x y i j

      pub truth_says : p.kind ≡ 0x0205 → x ≡ u16_at p.first.now (p.here + 8 + 2) → y ≡ u16_at p.second.now (p.there + 8 + 2) → When (eqb x y) (SameValues p m)
      unfolding shape_of pick field_at
      truth_says e i j = number_says 2 TruthError tt 0x0205 refl e (truth_one e) (λ u c. refl) x y i j

      pub text_says : p.kind ≡ 0x00FD → x ≡ u32_at p.first.now (p.here + 8 + 2) → y ≡ u32_at p.second.now (p.there + 8 + 2) → x < m → When (eqb x y) (SameValues p m)
      unfolding shape_of pick
      text_says e i j l =
          when_by (eqb x y) (SameValues p m)
          (λ r. single TextIndex 0x00FD refl e (text_one e) (λ u v k. (text_agrees p.first.now p.second.now u v (p.here + 8) (p.there + 8) x i (eqb-true x y r ∙ j) (k x l), tt)))

    module _ (r : Bool) where
      pub words_say : p.kind ≡ 0x00BD → When r (SameWords p p.count) → When r (SameValues p m)
      unfolding shape_of pick
      words_say e = when_map r (SameWords p p.count) (SameValues p m) (λ h. typed RkWord 0x00BD refl e (λ u v k. words_agree p.first.now p.second.now u v p.count (p.here + 8) (p.there + 8) h))

      pub any_strings : When r (SameValues p 0) → When r (SameValues p m)
      any_strings = when_map r (SameValues p 0) (SameValues p m) (λ h u v k. h u v (λ i l. absurd (omega arith)))

    blanks_say : (j : ℕ) → field_of (shape_of j) ≡ NoField → p.kind ≡ j → SameValues p m
    blanks_say j i e = typed NoField j i e (λ u v k. blanks_agree p.first.now p.second.now u v p.count (p.here + 8) (p.there + 8))

    pub blank_says : (p.kind ≡ 0x00BE) ⊎ (p.kind ≡ 0x0201) → SameValues p m
    unfolding shape_of pick
    blank_says (inl e) = blanks_say 0x00BE refl e
    blank_says (inr e) = blanks_say 0x0201 refl e

  -- ---- a stored result
  module _ (kind : p.kind ≡ 0x0006) (x y : ℕ) (is : x ≡ u64_at p.first.now (p.here + 8 + 2)) (there : y ≡ u64_at p.second.now (p.there + 8 + 2)) (e : x ≡ y) (u : Bool) (u-is : u ≡ has_text p.first.now 0x0006 p.here) where
    abbrev s : List ℕ
    s = p.first.now

    abbrev t : List ℕ
    t = p.second.now

    abbrev a : ℕ
    a = p.here + 8

    abbrev b : ℕ
    b = p.there + 8

    says_is : is_text (result_of (u64_at s (a + 2))) ≡ u
    unfolding has_text pick
    says_is = let o : a + 2 ≡ p.here + 10 = omega arith in ap (λ (k : ℕ). is_text (result_of (u64_at s k))) o ∙ sym u-is

    stored_by : (r : FormulaResult) → is_text r ≡ true → value.Formula r ≡ value.Formula result.Text
    stored_by (result.Number v) h = never (cc)
    stored_by (result.NotNumber v) h = never (cc)
    stored_by result.Text h = refl
    stored_by (result.Truth v) h = never (cc)
    stored_by (result.Error v) h = never (cc)
    stored_by result.Empty h = never (cc)

    result_by : ((q r : List (List ℕ)) → Agrees s q t r StoredResult a b 1) → SameValues p 0
    unfolding shape_of pick
    result_by h = single 0 StoredResult 0x0006 refl kind (result_one kind) (λ q r k. h q r)

    pub result_plain : u ≡ false → SameValues p 0
    unfolding same
    result_plain h =
        result_by
        (λ q r.
        let v = value.Formula (result_of (u64_at s (a + 2))) in
        let f : is_text (result_of (u64_at s (a + 2))) ≡ false = says_is ∙ h in
        let g : units_by s v (a + 2) ≡ [] = sym (pick_false [] (text_after s (a + 2 - 10)) [] (says_text v) f refl) in
        let w : units_by t v (b + 2) ≡ [] = sym (pick_false [] (text_after t (b + 2 - 10)) [] (says_text v) f refl) in
        (stored_agrees s t q r a b (sym is ∙ e ∙ there) (λ z. same (g z) (w z)), tt))

    pub result_text : u ≡ true → (k : Bool) → k ≡ same (units_by s (value.Formula result.Text) (a + 2)) (units_by t (value.Formula result.Text) (b + 2)) → When k (SameValues p 0)
    result_text h k k-is =
        when_by k (SameValues p 0)
        (λ yes. result_by
        (λ q r.
        let f = stored_by (result_of (u64_at s (a + 2))) (says_is ∙ h) in
        (stored_agrees s t q r a b (sym is ∙ e ∙ there) ((λ z. same (units_by s (f z) (a + 2)) (units_by t (f z) (b + 2))) ∙ sym k-is ∙ yes), tt)))

pub ruleset value_laws = (float_room, rk_room, truth_room, float_says, rk_says, truth_says, words_say, any_strings)

-- ---- past both records
listed : (s : List ℕ) (a id z n : ℕ) → header_at s a ≡ Record id z (a + 4 + z) → n ≡ count_of (shape_of id) s a z → 0 < n
    → listed_from s (place_at a 0) ≡ cells_from (field_of (shape_of id)) s (row_at s a) (first_at s a) (a + 8) n ++ listed_from s (place_at (a + (4 + z)) 0)
unfolding cells_of
listed s a id z n w d some =
    let y : a + 4 + z ≡ a + (4 + z) = omega arith in
    let l : 0 < count_of (shape_of id) s a z = subst (λ (j : ℕ). 0 < j) d some in
    record_cells s a id z (a + 4 + z) w l ∙ (λ j. cells_from (field_of (shape_of id)) s (row_at s a) (first_at s a) (a + 8) (sym d j) ++ listed_from s (place_at (y j) 0))

module _ (s : List ℕ) (a : ℕ) (t : List ℕ) (b : ℕ) (p : Pair) (f : Beside s a t b p) where
  same_both : (m : ℕ) → SameAddress p → SameValues p m → Same p.first.now p.second.now m p.here p.there (4 + p.size)
  same_both m x v =
      let i = p.first_within in
      let j = p.second_within in
      record {
        ones = cells_from (field_of (shape_of p.kind)) p.first.now (row_at p.first.now p.here) (first_at p.first.now p.here) (p.here + 8) p.count;
        twos = cells_from (field_of (shape_of p.kind)) p.second.now (row_at p.second.now p.there) (first_at p.second.now p.there) (p.there + 8) p.count;
        first = listed p.first.now p.here p.kind p.size p.count f.first_header p.first_count p.some;
        second = listed p.second.now p.there p.kind p.size p.count f.second_header p.second_count p.some;
        paired = λ q r c. paired_cells p.first.now p.second.now q r (field_of (shape_of p.kind)) (row_at p.first.now p.here) (first_at p.first.now p.here) (row_at p.second.now p.there) (first_at p.second.now p.there) (p.here + 8) (p.there + 8) p.count x.row x.column (v q r c);
        some = omega arith;
        within = omega arith;
        there = omega arith;
      }

  pub pair_same : (m : ℕ) (x : Bool) → When x (SameAddress p) → x ≡ true → (y : Bool) → When y (SameValues p m) → y ≡ true → Same s t m a b (4 + p.size)
  pair_same m x u e y v i =
      let z : Same p.first.now p.second.now m p.here p.there (4 + p.size) = same_both m (when_asked x _ u e) (when_asked y _ v i) in
      subst (λ (k : List ℕ). Same k t m a b (4 + p.size)) f.first
      (subst (λ (k : List ℕ). Same p.first.now k m a b (4 + p.size)) f.second
      (subst (λ (k : ℕ). Same p.first.now p.second.now m k b (4 + p.size)) f.here
      (subst (λ (k : ℕ). Same p.first.now p.second.now m p.here k (4 + p.size)) f.there z)))
