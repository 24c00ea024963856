use Rattle.std.proofs.Common.{sym, ap, ◌∙◌}
use Rattle.bells.specs.Kind.{kind_of}
use Rattle.phaser.specs.Rules.{counted, settle}
use Rattle.phaser.specs.Members.{first_poll}
use Rattle.phaser.proofs.Refused.{passed}
use Rattle.phaser.proofs.Ways.{first_advances, first_parks, first_refused}
use Rattle.phaser.proofs.phaser.Phaser.first_poll.Goals as goal

pub returns-then-counts-eq1 : goal.returns-then-counts-eq1
returns-then-counts-eq1 g c =
    let settled = c.settle.ensures ∙ ap (λ p. settle (kind_of g.B.Bell.KNOWN g.W.Waker.waking) (counted c.self.inside.counts.registered 0 p) (g.B.Bell.meaning c.args.bell.now)) (sym c.self.view_is) in
    rw c.phase.ensures (first_advances (kind_of g.B.Bell.KNOWN g.W.Waker.waking) c.args.place c.args.waker _ (g.B.Bell.meaning c.args.bell.now) c.if-counts.false c.if-counts-eq1.true c.settle.new.self (g.B.Bell.meaning c.settle.new.bell) settled ∙ ap (λ p. first_poll (kind_of g.B.Bell.KNOWN g.W.Waker.waking) c.args.place c.args.waker (p, g.B.Bell.meaning c.args.bell.now)) c.self.view_is)

pub returns-in_err-registered : goal.returns-in_err-registered
returns-in_err-registered g c =
    passed c.from_residual.ensures.1 (first_refused (kind_of g.B.Bell.KNOWN g.W.Waker.waking) c.args.place c.args.waker _ (g.B.Bell.meaning c.args.bell.now) c.if-counts.false c.if-counts-eq0.false c.if-counts-eq1.false c.in_err-registered.field-0.0 c.register.new.self c.in_err-registered.ensures.step ∙ ap (λ p. first_poll (kind_of g.B.Bell.KNOWN g.W.Waker.waking) c.args.place c.args.waker (p, g.B.Bell.meaning c.args.bell.now)) c.self.view_is)

pub returns : goal.returns
returns g c =
    first_parks (kind_of g.B.Bell.KNOWN g.W.Waker.waking) c.args.place c.args.waker _ (g.B.Bell.meaning c.args.bell.now) c.if-counts.false c.if-counts-eq0.false c.if-counts-eq1.false c.in_ok-registered.registered c.register.new.self c.in_ok-registered.ensures.step ∙ ap (λ p. first_poll (kind_of g.B.Bell.KNOWN g.W.Waker.waking) c.args.place c.args.waker (p, g.B.Bell.meaning c.args.bell.now)) c.self.view_is
