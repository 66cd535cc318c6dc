-- The next cells of two sheets that ascend. Assumes nothing.
use Prim.Native.Nat.{ℕ, ◌+◌, ◌-◌}
use mathlib.Core.Path.{◌≡◌, sym, ◌∙◌, subst}
use mathlib.Core.List.{List}
use native.Mathlib.Omega.{arith}
use Rattle.cell.specs.declared.Cell.{Cell}
use Rattle.reading.specs.declared.Place.{Place}
use Rattle.reading.specs.Cells.{listed_from}
use Rattle.differences.proofs.Laws.{words_agree}
use Rattle.cell_addresses.specs.declared.Head.{Head}
use Rattle.cell_addresses.specs.Addresses.{Least, Follows, Onward}
use Rattle.cell_addresses.proofs.Laws.{least_over, onward_over}
use Rattle.cell_differences.specs.Merge.{at_both, differs, words_between}
use Rattle.cell_differences.specs.Sides.{Next}
use Rattle.records_abreast.specs.Abreast.{Common, Ahead}

-- what is found from a place on is the next of each list that goes on there
pub next_found : (s : List ℕ) (place : Place) (k : ℕ) (r : Head) → Least (listed_from s place) k r × Onward s (listed_from s place) r
    → (l : List Cell) → Follows s l place k → Least l k r × Onward s l r
next_found s place k r e l f = (least_over s l place k r f e.0, onward_over s l place k r f e.0 e.1)

-- from address k on the lists tell the same
follow_words : (s t : List ℕ) (p q : List (List ℕ)) (one two : List Cell) (v w : Place) (base k : ℕ) → Follows s one v k → Follows t two w k → words_between s t p q one two base k ≡ words_between s t p q (listed_from s v) (listed_from t w) base k
unfolding words_between differs
follow_words s t p q one two v w base k f g =
    words_agree _ _ (4294967296 - k) (base + k)
    (λ j low high. let a = f.on (j - base) (omega arith) in let b = g.on (j - base) (omega arith) in λ z. at_both s t p q (a z) (b z))

module _ (s t : List ℕ) (c : ℕ) (first second v w : Place) (k : ℕ) (x y : Head) (n : Ahead s t c (listed_from s first) (listed_from t second) (listed_from s v) (listed_from t w))
    (e : Least (listed_from s v) k x × Onward s (listed_from s v) x) (o : Least (listed_from t w) k y × Onward t (listed_from t w) y) where
  next_here : (p q : List (List ℕ)) → Common p q c → (l m : List Cell) → Follows s l first k → Follows t m second k → Next (Follows s) (Follows t) s t p q l m k x y
  next_here p q d l m f g = record {
    one = listed_from s v;
    two = listed_from t w;
    first = e.0;
    second = o.0;
    first_next = e.1;
    second_next = o.1;
    words = λ base. follow_words s t p q l m first second base k f g ∙ n.words p q d base k;
  }

  -- both, past what both say alike
  pub next_past : (s' t' : List ℕ) (p q : List (List ℕ)) → (s' ≡ s) × (t' ≡ t) × Common p q c → (l m : List Cell) → Follows s l first k → Follows t m second k → Next (Follows s) (Follows t) s' t' p q l m k x y
  next_past s' t' p q d l m f g =
      subst (λ (z : List ℕ). Next (Follows s) (Follows t) z t' p q l m k x y) (sym d.0)
      (subst (λ (z : List ℕ). Next (Follows s) (Follows t) s z p q l m k x y) (sym d.1) (next_here p q d.2 l m f g))
