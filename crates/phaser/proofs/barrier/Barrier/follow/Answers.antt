use Rattle.std.proofs.Common.{sym, ap, ◌∙◌}
use Rattle.arena.specs.Table.{vacancy}
use Rattle.phaser.specs.Barriers.{follow}
use Rattle.phaser.proofs.Refused.{passed}
use Rattle.phaser.proofs.Meetings.{still_to_come, follow_refused}
use Rattle.phaser.proofs.barrier.Barrier.follow.Goals as goal

pub invariant_of-self-2 : goal.invariant_of-self-2
invariant_of-self-2 g c =
    let b = c.self.inside in
    still_to_come b.n b.arrived c.self.invariant (rw (← c.self.view_is) at c.requires)

pub returns-in_err-registered : goal.returns-in_err-registered
returns-in_err-registered g c =
    λ due. passed c.from_residual-in_err-registered.ensures.1 (follow_refused g.W.Waker.waking.wakes c.args.waker _ c.args.followers.now due c.in_ok-place.place (sym c.in_ok-place.ensures.ok_part ∙ c.vacancy.ensures) c.in_err-registered.field-0.0 c.register.new.self c.in_err-registered.ensures.step ∙ ap (λ b. follow g.W.Waker.waking.wakes c.args.waker (vacancy c.args.followers.now) (b, c.args.followers.now, due)) c.self.view_is)
