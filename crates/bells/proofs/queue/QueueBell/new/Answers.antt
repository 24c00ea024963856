use Rattle.std.proofs.Common.{rules}
use Rattle.bells.proofs.Queues.{none_agree}
use Rattle.bells.proofs.queue.QueueBell.new.Goals as goal

pub invariant_of-result : goal.invariant_of-result
invariant_of-result c = let agree = none_agree in search rules
