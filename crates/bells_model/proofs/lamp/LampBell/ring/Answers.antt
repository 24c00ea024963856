use Rattle.std.proofs.Common.{rules}
use Rattle.bells.proofs.DueLaws.{rung_unknown}
use Rattle.bells_model.specs.Lights.{shining-rung}
use Rattle.bells_model.proofs.lamp.LampBell.ring.Goals as goal

pub returns-then-not-knows : goal.returns-then-not-knows
returns-then-not-knows c = search (rules, rung_unknown)

pub returns : goal.returns
returns c = search (rules, shining-rung)
