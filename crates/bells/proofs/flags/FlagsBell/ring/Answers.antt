use Rattle.std.proofs.Common.{rules}
use Rattle.bells.proofs.DueLaws.{rung_unknown}
use Rattle.bells.specs.Flags.{flagged-rung}
use Rattle.bells.proofs.flags.FlagsBell.ring.Goals as goal

pub returns-then-not-knows : goal.returns-then-not-knows
returns-then-not-knows g c = search (rules, rung_unknown)

pub returns : goal.returns
returns g c = search (rules, flagged-rung)
