-- Entry after entry copied to its place. Assumes nothing.
use Prim.Native.Nat.{ℕ, ◌+◌, ◌≤◌}
use mathlib.Core.Path.{◌≡◌, refl}
use mathlib.Core.List.{List}
use native.Mathlib.Omega.{arith}
use lib.ListN.{length}
use lib.Seq.{length-sets}
use Rattle.byte_numbers.specs.Bytes.{bytes_at}
use Rattle.new_stream.specs.declared.Fate.{Fate}
use Rattle.new_stream.specs.declared.Fate.TheVariants.{Stays, Goes, Table, Text, Sheet}
use Rattle.new_stream.specs.declared.Entry.{Entry}
use Rattle.new_stream.specs.Entries.{size_for, start, entries_of}
use Rattle.new_stream.proofs.Places.{entries_lie}
use Rattle.new_places.specs.Places.{sizes}
use Rattle.copied_records.specs.Copied.{copied_entry}
use Rattle.copied_records.proofs.Editing.{Keeps, Editing, editing_start}

entry_keeps : (s : List ℕ) → Keeps (copied_entry s)
entry_keeps s p z Stays o q = length-sets o q (bytes_at s p z)
entry_keeps s p z Goes o q = refl
entry_keeps s p z Table o q = refl
entry_keeps s p z Text o q = length-sets o q (bytes_at s p z)
entry_keeps s p z Sheet o q = length-sets o q (bytes_at s p z)

pub copied_room : (n z : ℕ) (f : Fate) → size_for 0 z f ≤ size_for n z f
copied_room n z Stays = omega arith
copied_room n z Goes = omega arith
copied_room n z Table = omega arith
copied_room n z Text = omega arith
copied_room n z Sheet = omega arith

abbrev pub Lies : List ℕ → Entry → Type 0
Lies s x = x.at + x.size ≤ length s

pub copying_start : (s : List ℕ) (n : ℕ) (l : List Entry) (o : List ℕ) → l ≡ entries_of s → sizes n (entries_of s) ≤ length o → Editing (Lies s) (copied_entry s) n (entries_of s) o l 0 o
copying_start s n l o i h = editing_start (Lies s) (copied_entry s) n l (entries_of s) o i (entry_keeps s) (entries_lie s start) h
