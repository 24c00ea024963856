use Rattle.std.proofs.Common.{◌≡◌}
use Rattle.bells.specs.Due.{how_many, flagged}
use Rattle.bells.proofs.flags.FlagsBell.tally.Given as goal

abbrev pub invariant-loop-raised : goal.invariant-loop-raised
invariant-loop-raised g l = l.count ≡ how_many l.raised-index (flagged l.self.raised)
