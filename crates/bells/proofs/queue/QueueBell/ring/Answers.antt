use Rattle.std.proofs.Common.{sym, rules}
use Rattle.std.proofs.lemmas.Bool.{ltb-true}
use Rattle.bells.proofs.DueLaws.{rung_unknown, rung_again}
use Rattle.bells.proofs.Queues.{agree_in, room, rung_agrees}
use Rattle.bells.proofs.queue.QueueBell.ring.Goals as goal

pub returns-then-not-knows-clause-after : goal.returns-then-not-knows-clause-after
returns-then-not-knows-clause-after c = search (rules, rung_unknown)

pub push-requires : goal.push-requires
push-requires c =
    let known = ltb-true c.args.task 1024 (sym c.if-not-knows.ensures) in
    let space = room (agree_in c.args.self.now) c.args.task known (sym c.if-not-due.ensures) in
    search rules

pub invariant_of-self : goal.invariant_of-self
invariant_of-self c =
    let known = ltb-true c.args.task 1024 (sym c.if-not-knows.ensures) in
    let agree = rung_agrees (agree_in c.args.self.now) c.args.task known (sym c.if-not-due.ensures) in
    search rules

pub returns-else-not-due-clause-after : goal.returns-else-not-due-clause-after
returns-else-not-due-clause-after c = sym (rung_again _ _ _ (sym c.if-not-due.ensures))
