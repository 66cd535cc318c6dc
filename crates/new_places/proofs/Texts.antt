-- Text cells, entry by entry. Assumes nothing.
use Prim.Native.Nat.{ℕ}
use mathlib.Core.Path.{◌≡◌, refl, ap, ◌∙◌}
use mathlib.Core.List.{List, [], ◌∷◌}
use Rattle.std.specs.Prelude.{Option}
use Rattle.std.specs.List.{cons_option}
use Rattle.new_stream.specs.declared.Fate.{Fate}
use Rattle.new_stream.specs.declared.Fate.TheVariants.{Stays, Goes, Table, Text, Sheet}
use Rattle.new_stream.specs.declared.Entry.{Entry}
use Rattle.new_stream.specs.Compact.{on_text, texts_in}
use Rattle.new_places.specs.Parts.{text_index}

on_index : (s : List ℕ) (p : ℕ) (f : Fate) (t : List ℕ) {r : Option ℕ} → r ≡ text_index s p f → on_text s p f t ≡ cons_option r t
on_index s p Stays t e = rw e refl
on_index s p Goes t e = rw e refl
on_index s p Table t e = rw e refl
on_index s p Text t e = rw e refl
on_index s p Sheet t e = rw e refl

pub texts_none : (s : List ℕ) (l : List Entry) → l ≡ [] → texts_in s l ≡ []
unfolding texts_in
texts_none s l i = ap (texts_in s) i

pub texts_more : (s : List ℕ) (l : List Entry) (x : Entry) (l' : List Entry) → l ≡ x ∷ l' → {r : Option ℕ} → r ≡ text_index s x.at x.fate → texts_in s l ≡ cons_option r (texts_in s l')
unfolding texts_in
texts_more s l x l' i e = ap (texts_in s) i ∙ on_index s x.at x.fate (texts_in s l') e
