use Rattle.reading.specs.Cells.{place_at}
use Rattle.cell_addresses.proofs.Laws.{seek_start}
use Rattle.ascending_sheets.proofs.abreast.AbreastSides.start.Goals as goal

pub next_both-requires : goal.next_both-requires
unfolding place_at
next_both-requires c =
    ((c.requires.0, (_, seek_start c.args.self.now.s.now (place_at c.args.self.now.v 0) c.args.k c.requires.1.0)), (c.requires.0, (_, seek_start c.args.self.now.t.now (place_at c.args.self.now.w 0) c.args.k c.requires.1.1)))

pub returns : goal.returns
unfolding place_at
returns c = λ s t p q d. c.next_both.ensures s t p q d _ _ (seek_start c.args.self.now.s.now (place_at c.args.self.now.v 0) c.args.k c.requires.1.0) (seek_start c.args.self.now.t.now (place_at c.args.self.now.w 0) c.args.k c.requires.1.1)
