-- What the goals of the step need. Assumes nothing.
use Prim.Native.Nat.{ℕ, ◌+◌, ◌≤◌}
use mathlib.Core.Path.{◌≡◌, sym, ap, ◌∙◌}
use mathlib.Core.List.{List}
use mathlib.Core.Bool.{false}
use native.Mathlib.Omega.{arith}
use lib.Dec.{eqb}
use Rattle.steps.specs.Choice.{pick}
use Rattle.steps.specs.Items.{Item, gives}
use Rattle.steps.proofs.Choice.{pick_eq, pick_ne, Picks-told, pick_other}
use Rattle.record.specs.declared.Header.TheVariants.{Record}
use Rattle.new_stream.specs.declared.Spot.{Spot}
use Rattle.new_stream.specs.declared.Fate.{Fate}
use Rattle.new_stream.specs.declared.Fate.TheVariants.{Stays, Text}
use Rattle.new_stream.specs.declared.Entry.{Entry}
use Rattle.new_stream.specs.Entries.{in_later, fate_of, parts, level_after, spot_after, record_item, on_header}

pub ruleset told = (Picks-told, pick_other)

-- ---- a record of a cell or row of a worksheet
module _ (s : List ℕ) (w : Spot) (id z e : ℕ) (x : Fate) (a : w.level ≡ 1) (b : w.kind ≡ 0x0010) (l : 0x00BD ≤ id) (u : id ≤ 0x027E) (n : id ≡ 0x020B → ⊥) where
  cell_fate : x ≡ pick (eqb id 0x00FD) Text Stays → x ≡ fate_of w id
  unfolding fate_of in_later
  cell_fate h =
      let more : id ≡ 0x003C → ⊥ = λ q. omega arith in
      let later : w.kind ≡ 0x0005 → ⊥ = λ q. omega arith in
      pick_ne x _ _ id 0x003C more (pick_eq x _ _ w.level 1 a (pick_ne x _ _ w.kind 0x0005 later (pick_ne x _ _ id 0x020B n (pick_eq x _ _ w.kind 0x0010 b h))))

  cell_level : 1 ≡ level_after w.level id
  unfolding level_after
  cell_level =
      let no_bof : id ≡ 0x0809 → ⊥ = λ q. omega arith in
      let no_eof : id ≡ 0x000A → ⊥ = λ q. omega arith in
      pick_ne 1 _ _ id 0x0809 no_bof (pick_ne 1 _ _ id 0x000A no_eof (sym a))

  pub cell_made : x ≡ pick (eqb id 0x00FD) Text Stays → false ≡ parts x
      → ◌≡◌ {A = Item Spot Entry} (gives (record { at = w.at; size = 4 + z; fate = x }) (record { at = e; level = 1; kind = 0x0010; gone = false })) (on_header s w (Record id z e))
  unfolding record_item spot_after
  cell_made h d =
      let inside : w.level ≡ 0 → ⊥ = λ q. omega arith in
      let f = cell_fate h in
      let kind : 0x0010 ≡ pick (eqb w.level 0) _ w.kind = pick_ne 0x0010 _ _ w.level 0 inside (sym b) in
      pick_ne _ _ _ w.level 0 inside (λ y. gives (record { at = w.at; size = 4 + z; fate = f y }) (record { at = e; level = cell_level y; kind = kind y; gone = (d ∙ ap parts f) y }))
