use Rattle.std.proofs.Common.{◌≡◌, false, sym, ◌∙◌, rules}
use Rattle.bells.specs.Orders.{among}
use Rattle.bells.proofs.DueLaws.{collected_none}
use Rattle.bells.proofs.OrderLaws.{without-absent}
use Rattle.bells.proofs.Queues.{agree_in, within_in, collected_agrees}
use Rattle.bells.proofs.queue.QueueBell.collect.Goals as goal

pub take_out-requires : goal.take_out-requires
take_out-requires c =
    let q = c.args.self.now in
    record {
      single = q.single;
      stands = sym (c.if-was.ensures.answer ∙ q.matched c.args.task);
    }

pub invariant_of-self : goal.invariant_of-self
invariant_of-self c =
    let q = c.args.self.now in
    let agree = collected_agrees (agree_in q) c.args.task (within_in q c.args.task (sym c.if-was.ensures.answer)) (sym c.if-was.ensures.answer) in
    search rules

pub invariant_of-self-else-was : goal.invariant_of-self-else-was
invariant_of-self-else-was c =
    let agree = agree_in c.args.self.now in
    let none = collected_none _ _ (sym c.if-was.ensures.answer) in
    search rules

pub returns-else-was-clause-order : goal.returns-else-was-clause-order
returns-else-was-clause-order c =
    let q = c.args.self.now in
    let absent : among q.line.items c.args.task ≡ false = sym (c.if-was.ensures.answer ∙ q.matched c.args.task) in
    search (rules, without-absent)
