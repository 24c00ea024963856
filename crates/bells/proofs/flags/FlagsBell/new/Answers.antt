use Rattle.std.proofs.Common.{rules}
use Rattle.bells.specs.Flags.{flagged_none}
use Rattle.bells.proofs.flags.FlagsBell.new.Goals as goal

pub returns : goal.returns
returns g c = search (rules, flagged_none)
