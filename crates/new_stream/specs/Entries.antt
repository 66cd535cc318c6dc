-- The records of a stream in order, and what becomes of each when the unused strings are dropped.
use Rattle.std.specs.Prelude.{ℕ, ◌+◌, ◌-◌, List, Bool, true, false, length, leb, eqb}
use Rattle.steps.specs.Choice.{pick}
use Rattle.steps.specs.Items.{Item, gives, ends, collect}
use Rattle.record.specs.declared.Header.{Header}
use Rattle.record.specs.declared.Header.TheVariants.{Record, Cut, End}
use Rattle.record.specs.Record.{header_at}
use Rattle.substream.specs.Substream.{kind_at}
use Rattle.new_stream.specs.declared.Spot.{Spot}
use Rattle.new_stream.specs.declared.Fate.{Fate}
use Rattle.new_stream.specs.declared.Fate.TheVariants.{Stays, Goes, Table, Text, Sheet}
use Rattle.new_stream.specs.declared.Entry.{Entry}

-- in the globals: EXTSST, SST, BOUNDSHEET
unfoldable pub in_globals : ℕ → Fate
in_globals t = pick (eqb t 0x00FF) Goes (pick (eqb t 0x00FC) Table (pick (eqb t 0x0085) Sheet Stays))

-- directly in a later top-level substream: INDEX, and in a worksheet LABELSST
unfoldable pub in_later : ℕ → ℕ → Fate
in_later kind t = pick (eqb t 0x020B) Goes (pick (eqb kind 0x0010) (pick (eqb t 0x00FD) Text Stays) Stays)

-- of a record of type t: a CONTINUE goes with the record before it
unfoldable pub fate_of : Spot → ℕ → Fate
fate_of w t =
    pick (eqb t 0x003C) (pick w.gone Goes Stays)
    (pick (eqb w.level 1) (pick (eqb w.kind 0x0005) (in_globals t) (in_later w.kind t))
    Stays)

-- the CONTINUEs right after it go as well
abbrev pub parts : Fate → Bool
parts Stays = false
parts Goes = true
parts Table = true
parts Text = false
parts Sheet = false

-- what a record of z bytes adds to the new stream, where the new table has n
abbrev pub size_for : ℕ → ℕ → Fate → ℕ
size_for n z Stays = z
size_for n z Goes = 0
size_for n z Table = n
size_for n z Text = z
size_for n z Sheet = z

-- a BOF leads inside, an EOF outside
unfoldable pub level_after : ℕ → ℕ → ℕ
level_after level t = pick (eqb t 0x0809) (level + 1) (pick (eqb t 0x000A) (level - 1) level)

-- after the record of type t that ends at e
unfoldable pub spot_after : List ℕ → Spot → ℕ → ℕ → Spot
spot_after s w t e = record {
  at = e;
  level = level_after w.level t;
  kind = pick (eqb w.level 0) (kind_at s w.at) w.kind;
  gone = parts (fate_of w t);
}

unfoldable pub record_item : List ℕ → Spot → ℕ → ℕ → ℕ → Item Spot Entry
record_item s w t z e = gives (record { at = w.at; size = 4 + z; fate = fate_of w t }) (spot_after s w t e)

-- between those at the top level
abbrev pub top : ℕ → Spot
top at = record { at = at; level = 0; kind = 0; gone = false }

-- what stands after the last top-level substream stays, as one entry
unfoldable pub rest_item : List ℕ → Spot → Item Spot Entry
rest_item s w =
    pick (leb (length s) w.at) ends
    (gives (record { at = w.at; size = length s - w.at; fate = Stays }) (top (length s)))

abbrev pub on_header : List ℕ → Spot → Header → Item Spot Entry
on_header s w (Record t z e) = pick (eqb w.level 0) (pick (eqb t 0x0809) (record_item s w t z e) (rest_item s w)) (record_item s w t z e)
on_header s w Cut = rest_item s w
on_header s w End = ends

unfoldable pub entry_item : List ℕ → Spot → Item Spot Entry
entry_item s w = on_header s w (header_at s w.at)

unfoldable pub entries_from : List ℕ → Spot → List Entry
entries_from s w = collect (entry_item s) (λ w. length s - w.at) w

abbrev pub start : Spot
start = top 0

abbrev pub entries_of : List ℕ → List Entry
entries_of s = entries_from s start
