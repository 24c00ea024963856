use Rattle.std.proofs.Common.{length, ap, arith}
use Rattle.script.proofs.Buffers.{fault_line-within}
use Rattle.script.proofs.Runs.{called_open}
use Rattle.script.proofs.runner.calls.Goals as goal

pub fault-requires : goal.fault-requires
fault-requires g c =
    omega (arith, c.requires, ap length c.in-Some.ensures.steps, fault_line-within 2 (omega arith) c.in-Err.fault)

pub returns-in-Ok : goal.returns-in-Ok
returns-in-Ok g c =
    called_open g.B.Bell.KNOWN _ _ _ c.in-Some.ensures.steps _ _ _ _ c.in-Ok.ensures (omega (arith, c.requires, ap length c.in-Some.ensures.steps)) c.answer.ensures.within c.answer.ensures.text c.answers.ensures
