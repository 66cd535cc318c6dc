use Rattle.std.proofs.Common.{◌-◌}
use Rattle.new_fields.proofs.Indices.{Reindexing}
use Rattle.new_fields.proofs.reindex.Given as goal

abbrev pub invariant-loop-base : goal.invariant-loop-base
invariant-loop-base l =
    Reindexing l.s l.table l.k l.initial.flags l.initial.ranks l.initial.out l.base l.start l.flags l.ranks l.out

abbrev pub decreases-loop-base : goal.decreases-loop-base
decreases-loop-base l =
    l.top - l.base
