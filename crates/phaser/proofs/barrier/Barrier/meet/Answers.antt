use Rattle.std.proofs.Common.{sym, ap, ◌∙◌}
use Rattle.bells.specs.Kind.{kind_of}
use Rattle.phaser.specs.Barriers.{meet}
use Rattle.phaser.proofs.Ways.{known_from}
use Rattle.phaser.proofs.Meetings.{meet-leads, meet_follows}
use Rattle.phaser.proofs.barrier.Barrier.meet.Goals as goal

pub returns-then-leads : goal.returns-then-leads
returns-then-leads g c =
    meet-leads (kind_of g.B.Bell.KNOWN g.W.Waker.waking) c.args.waker _ c.args.followers.now (g.B.Bell.meaning c.args.bell.now) (known_from g.B.Bell.KNOWN c.target.ensures c.knows.ensures c.if-not-knows.false) (rw (← c.self.view_is) at (sym c.if-leads.ensures)) c.if-self.false (g.B.Bell.meaning c.wake_all.new.bell) c.wake_all.new.self c.wake_all.ensures.step ∙ ap (λ b. meet (kind_of g.B.Bell.KNOWN g.W.Waker.waking) c.args.waker (b, c.args.followers.now, g.B.Bell.meaning c.args.bell.now)) c.self.view_is

pub returns : goal.returns
returns g c =
    meet_follows (kind_of g.B.Bell.KNOWN g.W.Waker.waking) c.args.waker c.args.self.now c.args.followers.now (g.B.Bell.meaning c.args.bell.now) (known_from g.B.Bell.KNOWN c.target.ensures c.knows.ensures c.if-not-knows.false) (sym c.if-leads.ensures) (c.follow.result, (c.follow.new.self, c.follow.new.followers, g.B.Bell.meaning c.args.bell.now)) (c.follow.ensures (g.B.Bell.meaning c.args.bell.now))
