use Rattle.std.proofs.Common.{arith}
use Rattle.script.specs.declared.fault.Fault.TheVariants as fault
use Rattle.script.specs.Written.{heading, fault_line}
use Rattle.script.proofs.Buffers.{appends_more, first_fault_within}
use Rattle.script.proofs.runner.refuse.Goals as goal

pub fault-requires : goal.fault-requires
fault-requires c =
    omega (arith, c.requires, c.heading.ensures.end, c.heading.ensures.room, first_fault_within 0 (omega arith) fault.Unfit)

pub returns : goal.returns
returns c =
    appends_more heading (fault_line 0 fault.Unfit) c.args.writer.now c.heading.new.self c.fault.new.self (omega (arith, c.requires)) c.heading.ensures c.fault.ensures
