-- A new value that is handed over is one that its type holds. Assumes nothing.
use mathlib.Core.Path.{subst⁻¹}
use mathlib.Core.List.{[], ◌∷◌}
use lib.Dec.{T}
use denote.Laws.{Is}
use denote.Enum.Declared.{row}
use denote.Enum.Laws.{val, owed}
use Rattle.new_value.specs.declared.NewValue.{NewValue}
use Rattle.new_value.specs.declared.NewValue.TheVariants.{Number, Text, Truth, Error}
use Rattle.new_value.specs.Change.{Held}
use Rattle.new_value.specs.contracts.NewValue.{the_type}
use Rattle.new_value.proofs.NewValue.TheLaws.{the_laws}

pub held : (v : NewValue) → Is (row the_type) v (val the_type the_laws v ∷ []) → Held v
held (Number x) h = subst⁻¹ T (owed the_type the_laws (Number x) (val the_type the_laws (Number x) ∷ []) h).0.1 tt
held (Text i) h = (owed the_type the_laws (Text i) (val the_type the_laws (Text i) ∷ []) h).0.1
held (Truth t) h = (owed the_type the_laws (Truth t) (val the_type the_laws (Truth t) ∷ []) h).0.1
held (Error e) h = (owed the_type the_laws (Error e) (val the_type the_laws (Error e) ∷ []) h).0.1
