-- The answers of the functions in the definitions' terms.
use Rattle.std.specs.Prelude.{ℕ, ◌+◌, List, Option, Some, None}
use Rattle.steps.specs.Items.{Item, gives, ends}
use Rattle.byte_numbers.specs.Bytes.{u32_at}
use Rattle.new_stream.specs.declared.Spot.{Spot}
use Rattle.new_stream.specs.declared.Fate.{Fate}
use Rattle.new_stream.specs.declared.Fate.TheVariants.{Stays, Goes, Table, Text, Sheet}
use Rattle.new_stream.specs.declared.Entry.{Entry}
use Rattle.new_places.specs.declared.Step.{Step}

abbrev pub item_of : Option Step → Item Spot Entry
item_of (Some x) = gives x.entry x.next
item_of None = ends

-- the string index of a listed text cell at p
abbrev pub text_index : List ℕ → ℕ → Fate → Option ℕ
text_index s p Text = Some (u32_at s (p + 10))
text_index s p Stays = None
text_index s p Goes = None
text_index s p Table = None
text_index s p Sheet = None
