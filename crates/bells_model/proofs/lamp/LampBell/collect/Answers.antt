use Rattle.std.proofs.Common.{rules}
use Rattle.bells.proofs.DueLaws.{collected_none}
use Rattle.bells_model.specs.Lights.{shining_known, shining-collected}
use Rattle.bells_model.proofs.lamp.LampBell.collect.Goals as goal

pub returns-then-was : goal.returns-then-was
returns-then-was c = search (rules, shining_known, shining-collected)

pub returns-else-was : goal.returns-else-was
returns-else-was c = search (rules, collected_none)
