use Rattle.std.proofs.Common.{rules, Ok, sym, ap, ◌∙◌}
use Rattle.bells.specs.Kind.{kind_of}
use denote.Param.{copied}
use Rattle.phaser.proofs.Layouts.{set-fits}
use Rattle.phaser.proofs.Refused.{passed}
use Rattle.phaser.proofs.Ways.{known_from}
use Rattle.phaser.proofs.Meetings.{attend_waits, attend_refused, attend_done}
use Rattle.phaser.proofs.barrier.Barrier.attend.Goals as goal

pub returns-in_err-registered : goal.returns-in_err-registered
returns-in_err-registered g c =
    rw (← c.self.view_is) (passed c.from_residual-in_err-registered.ensures.1 (attend_refused (kind_of g.B.Bell.KNOWN g.W.Waker.waking) c.args.place c.args.waker _ c.args.followers.now (known_from g.B.Bell.KNOWN c.target.ensures c.knows.ensures c.if-not-knows.false) c.in_ok-generation.field-0 (sym c.in_ok-generation.ensures.ok_part ∙ c.get.ensures) c.if-generation-self.false c.in_err-registered.field-0.0 c.register.new.self c.in_err-registered.ensures.step))

pub returns : goal.returns
returns g c =
    rw (← c.self.view_is) (rw (ap (λ r. r.1) c.replace.ensures.step) (attend_waits (kind_of g.B.Bell.KNOWN g.W.Waker.waking) c.args.place c.args.waker _ c.args.followers.now (known_from g.B.Bell.KNOWN c.target.ensures c.knows.ensures c.if-not-knows.false) c.in_ok-generation.field-0 (sym c.in_ok-generation.ensures.ok_part ∙ c.get.ensures) c.if-generation-self.false (Ok c.in_ok-registered.registered, c.register.new.self) c.in_ok-registered.ensures.step))

pub returns-then-generation-self : goal.returns-then-generation-self
returns-then-generation-self g c =
    rw (← c.self.view_is) (attend_done (kind_of g.B.Bell.KNOWN g.W.Waker.waking) c.args.place c.args.waker _ c.args.followers.now (known_from g.B.Bell.KNOWN c.target.ensures c.knows.ensures c.if-not-knows.false) c.in_ok-generation.field-0 (sym c.in_ok-generation.ensures.ok_part ∙ c.get.ensures) c.if-generation-self.true c.remove.new.self (ap (λ r. r.1) c.remove.ensures.step))

pub register-requires : goal.register-requires
register-requires g c = set-fits (copied 0 g.row.W) (search rules)
