use Rattle.std.proofs.Common.{rules}
use Rattle.bells.proofs.DueLaws.{how_many_start, how_many_more, how_many_le}
use Rattle.bells.specs.Flags.{is_due-flagged}
use Rattle.bells.proofs.flags.FlagsBell.tally.Goals as goal

pub loop-raised-init : goal.loop-raised-init
loop-raised-init g c = search (rules, how_many_start)

pub overflow_add-count : goal.overflow_add-count
overflow_add-count g c = search (rules, how_many_le)

pub loop-raised-preserved : goal.loop-raised-preserved
loop-raised-preserved g c = search (rules, how_many_more, is_due-flagged)
