use Rattle.std.proofs.Common.{rules}
use Rattle.bells.specs.Flags.{is_due-flagged, flagged_past}
use Rattle.bells.proofs.flags.FlagsBell.due.Goals as goal

pub returns-then-knows : goal.returns-then-knows
returns-then-knows g c = search (rules, is_due-flagged)

pub returns-else-knows : goal.returns-else-knows
returns-else-knows g c = search (rules, flagged_past)
