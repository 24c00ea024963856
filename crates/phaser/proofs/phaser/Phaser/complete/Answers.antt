use Rattle.std.proofs.Common.{Ok, Err, ap, ◌∙◌}
use Rattle.phaser.specs.Rules.{complete}
use Rattle.phaser.proofs.Refused.{passed}
use Rattle.phaser.proofs.Ways.{complete_parked}
use Rattle.phaser.proofs.phaser.Phaser.complete.Goals as goal

pub returns-in_err-registered : goal.returns-in_err-registered
returns-in_err-registered g c =
    passed c.from_residual.ensures.1 (complete_parked g.W.Waker.waking.wakes c.args.observed c.args.remembered c.args.owner c.args.waker _ c.if-self-observed.false c.if-self.false (Err c.in_err-registered.field-0.0, c.register.new.self) c.in_err-registered.ensures.step ∙ ap (complete g.W.Waker.waking.wakes c.args.observed c.args.remembered c.args.owner c.args.waker) c.self.view_is)

pub returns : goal.returns
returns g c =
    complete_parked g.W.Waker.waking.wakes c.args.observed c.args.remembered c.args.owner c.args.waker _ c.if-self-observed.false c.if-self.false (Ok c.in_ok-registered.registered, c.register.new.self) c.in_ok-registered.ensures.step ∙ ap (complete g.W.Waker.waking.wakes c.args.observed c.args.remembered c.args.owner c.args.waker) c.self.view_is
