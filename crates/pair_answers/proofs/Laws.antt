-- From an answer to its numbers. Assumes nothing.
use Prim.Native.Nat.{ℕ}
use mathlib.Core.Path.{◌≡◌, refl}
use mathlib.Core.List.{List}
use Rattle.reading.specs.Reading.{name_at}
use Rattle.pair.specs.declared.Whose.{Whose}
use Rattle.pair.specs.declared.Whose.TheVariants.{Session, Template}
use Rattle.pair.specs.Parts.{stream_of}
use Rattle.pair_answers.specs.Answers.{name_in}

pub name_by : (t s : List ℕ) (w : Whose) (h : ℕ) → name_in t s w h ≡ name_at (stream_of w t s) h
name_by t s Session h = refl
name_by t s Template h = refl
