use Rattle.std.proofs.Common.{Some, sym, ap, ◌∙◌}
use Rattle.bells.specs.Kind.{kind_of}
use Rattle.phaser.specs.declared.member.Member.TheVariants.{Pending, InFlight}
use Rattle.phaser.proofs.Refused.{passed}
use Rattle.phaser.proofs.Ways.{known_from, poll_idle, polls_as}
use Rattle.phaser.proofs.phaser.Phaser.poll.Goals as goal

pub returns-in_err-outcome-in-Idle : goal.returns-in_err-outcome-in-Idle
returns-in_err-outcome-in-Idle g c =
    passed c.from_residual-in_err-outcome-in-Idle.ensures.1 (poll_idle (kind_of g.B.Bell.KNOWN g.W.Waker.waking) c.args.place c.args.waker c.args.self.now c.args.members.now (g.B.Bell.meaning c.args.bell.now) (known_from g.B.Bell.KNOWN c.target.ensures c.knows.ensures c.if-not-knows.false) (ap Some (sym c.in-Idle.is) ∙ sym c.in_ok-member.ensures.ok_part ∙ c.get.ensures) c.in_err-outcome-in-Idle.field-0.0 c.first_poll.new.self (g.B.Bell.meaning c.first_poll.new.bell) c.in_err-outcome-in-Idle.ensures)

pub returns-in-Pending : goal.returns-in-Pending
returns-in-Pending g c =
    c.poll_again.ensures (g.B.Bell.meaning c.args.bell.now) ∙ polls_as (kind_of g.B.Bell.KNOWN g.W.Waker.waking) c.args.place c.args.waker c.args.self.now c.args.members.now (g.B.Bell.meaning c.args.bell.now) (known_from g.B.Bell.KNOWN c.target.ensures c.knows.ensures c.if-not-knows.false) (Pending c.in-Pending.phase) (ap Some (sym c.in-Pending.is) ∙ sym c.in_ok-member.ensures.ok_part ∙ c.get.ensures)

pub returns-in-InFlight : goal.returns-in-InFlight
returns-in-InFlight g c =
    c.poll_again-in-InFlight.ensures (g.B.Bell.meaning c.args.bell.now) ∙ polls_as (kind_of g.B.Bell.KNOWN g.W.Waker.waking) c.args.place c.args.waker c.args.self.now c.args.members.now (g.B.Bell.meaning c.args.bell.now) (known_from g.B.Bell.KNOWN c.target.ensures c.knows.ensures c.if-not-knows.false) (InFlight c.in-InFlight.phase c.in-InFlight.slot) (ap Some (sym c.in-InFlight.is) ∙ sym c.in_ok-member.ensures.ok_part ∙ c.get.ensures)
