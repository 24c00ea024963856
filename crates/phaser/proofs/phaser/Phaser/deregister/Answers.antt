use Rattle.std.proofs.Common.{Ok, Err}
use Rattle.bells.specs.Kind.{kind_of}
use Rattle.phaser.proofs.Refused.{passed}
use Rattle.phaser.proofs.Ways.{deregister_from}
use Rattle.phaser.proofs.phaser.Phaser.deregister.Goals as goal

pub returns-in_err-leave : goal.returns-in_err-leave
returns-in_err-leave g c =
    passed c.from_residual.ensures.1 (deregister_from (kind_of g.B.Bell.KNOWN g.W.Waker.waking) c.args.place (c.args.self.now, c.args.members.now, g.B.Bell.meaning c.args.bell.now) c.departure-departed.result c.departure-departed.ensures (Err c.in_err-leave.field-0.0, (c.leave.new.self, c.leave.new.members, g.B.Bell.meaning c.leave.new.bell)) c.in_err-leave.ensures)

pub returns : goal.returns
returns g c =
    deregister_from (kind_of g.B.Bell.KNOWN g.W.Waker.waking) c.args.place (c.args.self.now, c.args.members.now, g.B.Bell.meaning c.args.bell.now) c.departure-departed.result c.departure-departed.ensures (Ok tt, (c.leave.new.self, c.leave.new.members, g.B.Bell.meaning c.leave.new.bell)) c.in_ok-leave.ensures
