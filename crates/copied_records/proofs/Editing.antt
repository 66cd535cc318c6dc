-- A change after another, entry by entry. Assumes nothing.
use Prim.Native.Nat.{ℕ, ◌+◌, ◌≤◌}
use mathlib.Core.Path.{◌≡◌, refl, sym, ap, ◌∙◌, subst}
use mathlib.Core.List.{List, [], ◌∷◌}
use native.Mathlib.Omega.{arith}
use lib.ListN.{length}
use Rattle.reading.specs.Claims.{Every}
use Rattle.new_stream.specs.declared.Fate.{Fate}
use Rattle.new_stream.specs.declared.Entry.{Entry}
use Rattle.new_stream.specs.Entries.{size_for}
use Rattle.new_places.specs.Places.{sizes}
use Rattle.new_places.proofs.Places.{sizes_more}
use Rattle.copied_records.specs.Copied.{Change, edited}

-- a change leaves the buffer as long as it was
abbrev pub Keeps : Change → Type 0
Keeps f = (p z : ℕ) (x : Fate) (o : List ℕ) (q : ℕ) → length (f p z x o q) ≡ length o

pub edited_length : (f : Change) → Keeps f → (n : ℕ) (l : List Entry) (o : List ℕ) (q : ℕ) → length (edited f n l o q) ≡ length o
unfolding edited
edited_length f k n [] o q = refl
edited_length f k n (x ∷ l) o q = edited_length f k n l _ _ ∙ k x.at x.size x.fate o q

-- two changes that agree everywhere
pub edited_same : (f f' : Change) (n : ℕ) (l : List Entry) (o : List ℕ) (q : ℕ) → ((p z : ℕ) (x : Fate) (o : List ℕ) (q : ℕ) → f p z x o q ≡ f' p z x o q) → edited f n l o q ≡ edited f' n l o q
edited_same f f' n l o q h = λ i. edited (λ p z x c r. h p z x c r i) n l o q

-- ---- the entries of l are left, the first of them at q of the buffer o: P holds of each, there is room for all, and then the buffer will be as from the start
pub record Editing (P : Entry → Type 0) (f : Change) (n : ℕ) (all : List Entry) (o₀ : List ℕ) (l : List Entry) (q : ℕ) (o : List ℕ) : Type 0 where
  pub keeps : Keeps f
  pub every : Every P l
  pub room : q + sizes n l ≤ length o
  pub size : length o ≡ length o₀
  pub same : edited f n l o q ≡ edited f n all o₀ 0

pub editing_start : (P : Entry → Type 0) (f : Change) (n : ℕ) (l all : List Entry) (o : List ℕ) → l ≡ all → Keeps f → Every P all → sizes n all ≤ length o → Editing P f n all o l 0 o
editing_start P f n l all o i k e h = record { keeps = k; every = rw i e; room = rw i (omega arith); size = refl; same = rw i refl }

module _ {P : Entry → Type 0} {f : Change} {n : ℕ} {all : List Entry} {o₀ : List ℕ} {l : List Entry} {q : ℕ} {o : List ℕ} (g : Editing P f n all o₀ l q o) where
  pub editing_length : length o ≡ length o₀
  editing_length = g.size

  pub editing_end : l ≡ [] → o ≡ edited f n all o₀ 0
  unfolding edited
  editing_end i = sym (ap (λ (k : List Entry). edited f n k o q) i) ∙ g.same

  module _ (x : Entry) (l' : List Entry) (i : l ≡ x ∷ l') where
    pub editing_here : P x
    editing_here = (subst (Every P) i g.every).0

    pub editing_room : q + size_for n x.size x.fate ≤ length o
    editing_room = let r = g.room in let m = sizes_more n l x l' i in omega arith

    pub editing_next : (k : ℕ) (y : List ℕ) → k ≡ size_for n x.size x.fate → y ≡ f x.at x.size x.fate o q → Editing P f n all o₀ l' (q + k) y
    unfolding edited
    editing_next k y j e =
        let r = g.room in
        let m = sizes_more n l x l' i in
        let d : length y ≡ length o = ap length e ∙ g.keeps x.at x.size x.fate o q in
        let s = g.size in
        record {
          keeps = g.keeps;
          every = (subst (Every P) i g.every).1;
          room = omega arith;
          size = omega arith;
          same = (λ u. edited f n l' (e u) (q + j u)) ∙ sym (ap (λ (m : List Entry). edited f n m o q) i) ∙ g.same;
        }

pub ruleset edit_laws = (editing_length, editing_end, editing_here, editing_room, editing_next)
