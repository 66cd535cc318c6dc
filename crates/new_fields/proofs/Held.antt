-- A buffer by its entries: what each holds, and what a change makes of it. Assumes nothing.
use Prim.Native.Nat.{ℕ, zero, suc, ◌+◌}
use mathlib.Core.Path.{◌≡◌, refl, sym, ap, ap₂, ◌∙◌, subst}
use mathlib.Core.List.{List, [], ◌∷◌, ◌++◌, append_assoc}
use native.Mathlib.Omega.{arith}
use lib.ListN.{length, take, drop, length-append}
use lib.Seq.{length-take-le}
use Rattle.new_stream.specs.declared.Entry.{Entry}
use Rattle.new_stream.specs.Entries.{size_for}
use Rattle.reading.specs.Claims.{Every}
use Rattle.new_places.specs.Places.{sizes}
use Rattle.copied_records.specs.Copied.{Change, edited}

-- the bytes of the entries joined, R being what each holds
pub data Held (R : Entry → List ℕ → Type 0) : List Entry → List ℕ → Type 0 where
  none : Held R [] []
  more : {x : Entry} {l : List Entry} {b c : List ℕ} → R x b → Held R l c → Held R (x ∷ l) (b ++ c)

-- what a change makes of an entry's bytes b
pub record Changes (f : Change) (n : ℕ) (R' : Entry → List ℕ → Type 0) (x : Entry) (b : List ℕ) : Type 0 where
  pub size : length b ≡ size_for n x.size x.fate
  pub new : List ℕ
  pub same : length new ≡ length b
  pub holds : R' x new
  pub is : (pre post : List ℕ) → f x.at x.size x.fate (pre ++ (b ++ post)) (length pre) ≡ pre ++ (new ++ post)

pub record After (f : Change) (n : ℕ) (R' : Entry → List ℕ → Type 0) (l : List Entry) (c pre post : List ℕ) : Type 0 where
  pub new : List ℕ
  pub same : length new ≡ length c
  pub holds : Held R' l new
  pub is : edited f n l (pre ++ (c ++ post)) (length pre) ≡ pre ++ (new ++ post)

module _ (f : Change) (n : ℕ) (R R' : Entry → List ℕ → Type 0) (by : (x : Entry) (b : List ℕ) → R x b → Changes f n R' x b) where
  pub edited_held : {l : List Entry} {c : List ℕ} → Held R l c → (pre post : List ℕ) → After f n R' l c pre post
  unfolding edited
  edited_held none pre post = record { new = []; same = refl; holds = none; is = refl }
  edited_held (more {x} {l} {b} {c} r h) pre post =
      let k = by x b r in
      let a = edited_held h (pre ++ k.new) post in
      let z : length pre + size_for n x.size x.fate ≡ length (pre ++ k.new) = (let p = length-append pre k.new in let s = k.size in let t = k.same in omega arith) in
      let e : f x.at x.size x.fate (pre ++ ((b ++ c) ++ post)) (length pre) ≡ (pre ++ k.new) ++ (c ++ post) =
      ap (λ (y : List ℕ). f x.at x.size x.fate (pre ++ y) (length pre)) (append_assoc b c post) ∙ k.is pre (c ++ post) ∙ sym (append_assoc pre k.new (c ++ post)) in
      record {
        new = k.new ++ a.new;
        same = (let p = length-append k.new a.new in let q = length-append b c in let s = k.same in let t = a.same in omega arith);
        holds = more k.holds a.holds;
        is = ap₂ (λ (y : List ℕ) (q : ℕ). edited f n l y q) e z ∙ a.is ∙ append_assoc pre k.new (a.new ++ post) ∙ ap (λ (y : List ℕ). pre ++ y) (sym (append_assoc k.new a.new post));
      }

-- any buffer that is long enough
module _ (n : ℕ) (Good : Entry → Type 0) where
  pub record Any (x : Entry) (b : List ℕ) : Type 0 where
    pub good : Good x
    pub size : length b ≡ size_for n x.size x.fate

  pub any_held : (l : List Entry) (c : List ℕ) → Every Good l → length c ≡ sizes n l → Held Any l c
  unfolding sizes
  any_held [] [] e h = none
  any_held [] (y ∷ c) e h = absurd (omega arith)
  any_held (x ∷ l) c e h =
      let k = size_for n x.size x.fate in
      let a : length (take k c) ≡ k = length-take-le k c (omega arith) in
      let j : take k c ++ drop k c ≡ c = take_drop k c in
      let d : length (take k c) + length (drop k c) ≡ length c = sym (length-append (take k c) (drop k c)) ∙ ap length j in
      subst (Held Any (x ∷ l)) j (more {b = take k c} (record { good = e.0; size = a }) (any_held l (drop k c) e.1 (omega arith)))
    where
      take_drop : (k : ℕ) (c : List ℕ) → take k c ++ drop k c ≡ c
      take_drop zero c = refl
      take_drop (suc k) [] = refl
      take_drop (suc k) (x ∷ c) = ap (λ (y : List ℕ). x ∷ y) (take_drop k c)
