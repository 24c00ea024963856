use Rattle.std.proofs.Common.{rules}
use Rattle.bells_model.specs.Lights.{shining_here, shining_past}
use Rattle.bells_model.proofs.lamp.LampBell.due.Goals as goal

pub returns-then-knows : goal.returns-then-knows
returns-then-knows c = search (rules, shining_here)

pub returns-else-knows : goal.returns-else-knows
returns-else-knows c = search (rules, shining_past)
