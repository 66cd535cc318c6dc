-- That nothing was refused is said in one way.
use mathlib.Core.HLevel.{Unit-prop, ⊥_prop}
use Rattle.segments.specs.Segments.{Got, got, refused}
use Rattle.segments.specs.Parts.{Passes}

pub Passes-prop : {A : Type 0} (x : Got A) → IsProp (Passes x)
Passes-prop (got a c) = Unit-prop
Passes-prop (refused n o) = ⊥_prop
