use Rattle.std.proofs.Common.{◌-◌, ap, sym, ◌∙◌}
use Rattle.bells.specs.Kind.{kind_of}
use Rattle.phaser.specs.Model.{tally_of}
use Rattle.phaser.specs.Rules.{counted, settle}
use Rattle.phaser.specs.Members.{is_arrived, leave}
use Rattle.phaser.proofs.Refused.{passed}
use Rattle.phaser.proofs.Ways.{uncounted_err, counted_ok, uncounted_miscounts, below_miscounts, above_counts, some_counted, leave_refused, leave_settled}
use Rattle.phaser.proofs.phaser.Phaser.leave.Goals as goal

pub returns-in_err-unarrived : goal.returns-in_err-unarrived
returns-in_err-unarrived g c =
    let t = tally_of c.self.inside.counts in
    let m = c.in_ok-member.member in
    let w = uncounted_err t (is_arrived t.phase m) c.in_err-unarrived.field-0.0 c.in_err-unarrived.ensures in
    rw (← c.self.view_is) (passed c.from_residual-in_err-unarrived.ensures.1 (rw w.0 (leave_refused (kind_of g.B.Bell.KNOWN g.W.Waker.waking) c.args.place m _ c.args.members.now (g.B.Bell.meaning c.args.bell.now) (sym c.in_ok-member.ensures.ok_part ∙ c.get.ensures) c.in_default.not-InFlight (uncounted_miscounts t (is_arrived t.phase m) w.1))))

pub overflow_sub-registered : goal.overflow_sub-registered
overflow_sub-registered g c =
    let t = tally_of c.self.inside.counts in
    let a = is_arrived t.phase c.in_ok-member.member in
    some_counted t a (counted_ok t a c.in_ok-unarrived.unarrived c.in_ok-unarrived.ensures).0

pub returns-then-registered-unarrived : goal.returns-then-registered-unarrived
returns-then-registered-unarrived g c =
    let t = tally_of c.self.inside.counts in
    let m = c.in_ok-member.member in
    let u = c.in_ok-unarrived.unarrived in
    let w = counted_ok t (is_arrived t.phase m) u c.in_ok-unarrived.ensures in
    rw (← c.self.view_is) (leave_refused (kind_of g.B.Bell.KNOWN g.W.Waker.waking) c.args.place m _ c.args.members.now (g.B.Bell.meaning c.args.bell.now) (sym c.in_ok-member.ensures.ok_part ∙ c.get.ensures) c.in_default.not-InFlight (below_miscounts t (is_arrived t.phase m) u c.self.inside.counts.within w.0 w.1 c.if-registered-unarrived.true))

pub returns : goal.returns
returns g c =
    let t = tally_of c.self.inside.counts in
    let m = c.in_ok-member.member in
    let u = c.in_ok-unarrived.unarrived in
    let w = counted_ok t (is_arrived t.phase m) u c.in_ok-unarrived.ensures in
    let settled = c.settle.ensures ∙ ap (λ p. settle (kind_of g.B.Bell.KNOWN g.W.Waker.waking) (counted (c.self.inside.counts.registered - 1) u p) (g.B.Bell.meaning c.args.bell.now)) (sym c.self.view_is) in
    leave_settled (kind_of g.B.Bell.KNOWN g.W.Waker.waking) c.args.place m _ c.args.members.now (g.B.Bell.meaning c.args.bell.now) (sym c.in_ok-member.ensures.ok_part ∙ c.get.ensures) c.in_default.not-InFlight (above_counts t (is_arrived t.phase m) u c.self.inside.counts.within w.0 w.1 c.if-registered-unarrived.false) u w.1 c.settle.new.self (g.B.Bell.meaning c.settle.new.bell) c.remove.new.self (ap (λ r. r.1) c.remove.ensures.step) settled ∙ ap (λ p. leave (kind_of g.B.Bell.KNOWN g.W.Waker.waking) c.args.place (p, c.args.members.now, g.B.Bell.meaning c.args.bell.now)) c.self.view_is
