use Rattle.std.proofs.Common.{rules}
use Rattle.bells.proofs.DueLaws.{collected_none}
use Rattle.bells.specs.Flags.{is_due-flagged, flagged_past, flagged-collected}
use Rattle.bells.proofs.flags.FlagsBell.collect.Goals as goal

pub returns-then-not-knows : goal.returns-then-not-knows
returns-then-not-knows g c = search (rules, flagged_past, collected_none)

pub returns : goal.returns
returns g c = search (rules, is_due-flagged, flagged-collected)
