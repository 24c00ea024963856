use Rattle.phaser.proofs.Refused.{passed}
use Rattle.phaser.proofs.Ways.{poll_again_refused}
use Rattle.phaser.proofs.phaser.Phaser.poll_again.Goals as goal

pub returns-in_err-outcome : goal.returns-in_err-outcome
returns-in_err-outcome g c =
    λ due. passed c.from_residual.ensures.1 (poll_again_refused g.W.Waker.waking.wakes c.args.place c.args.waker c.args.self.now c.args.members.now due c.args.arrived c.args.remembered c.in_err-outcome.field-0.0 c.complete.new.self c.in_err-outcome.ensures)
