use Rattle.std.proofs.Common.{◌≡◌, ◌+◌, ◌-◌}
use Rattle.cell_words.specs.Parts.{parts_in}
use Rattle.cell_words.proofs.put_parts.Given as goal

abbrev pub invariant-loop-part : goal.invariant-loop-part
invariant-loop-part l = record {
  before : l.before ≡ l.n + (l.part - l.k);
  same : l.words ≡ parts_in l.s l.fn.field l.at l.k (l.part - l.k) l.n l.initial.words;
}
