use Rattle.std.proofs.Common.{◌≡◌, ℕ, ◌+◌, ◌*◌, ◌<◌, get_or}
use Rattle.flags.specs.Flags.{set_below}
use Rattle.flags.proofs.rank_words.Given as goal

abbrev pub invariant-loop-j : goal.invariant-loop-j
invariant-loop-j l =
    (l.r ≡ l.start + set_below l.flags (l.j * 64)) × ((k : ℕ) → k < l.j → get_or l.ranks k 0 ≡ l.start + set_below l.flags (k * 64))
