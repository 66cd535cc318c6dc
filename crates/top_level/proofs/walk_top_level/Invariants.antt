use Rattle.std.proofs.Common.{◌≡◌, ◌-◌, length}
use Rattle.top_level.specs.Tops.{tail_from, tail_of}
use Rattle.top_level.proofs.walk_top_level.Given as goal

abbrev pub invariant-loop-kind : goal.invariant-loop-kind
invariant-loop-kind l = tail_of l.s l.unique l.from ≡ tail_from l.s l.unique (record { at = l.at; sheets = l.sheets })

abbrev pub decreases-loop-kind : goal.decreases-loop-kind
decreases-loop-kind l = length l.s - l.at
