use Rattle.std.proofs.Common.{◌≤◌, ap, sym, ◌∙◌, arith, rules}
use Rattle.bells.specs.Kind.{kind_of}
use Rattle.phaser.specs.Model.{tally_of}
use Rattle.phaser.specs.Rules.{counted, settle}
use Rattle.phaser.specs.Members.{is_arrived, arrive}
use Rattle.phaser.proofs.Refused.{passed}
use Rattle.phaser.proofs.Ways.{uncounted_err, counted_ok, lowered_within, arrive-closed, arrive_refused, arrive_settled}
use Rattle.phaser.proofs.phaser.Phaser.arrive.Goals as goal

pub returns-then-counts : goal.returns-then-counts
returns-then-counts g c =
    rw (← c.self.view_is) (arrive-closed (kind_of g.B.Bell.KNOWN g.W.Waker.waking) c.args.place c.in_ok-member.member _ c.args.members.now (g.B.Bell.meaning c.args.bell.now) (sym c.in_ok-member.ensures.ok_part ∙ c.get.ensures) c.in_default.not-InFlight c.if-counts.true)

pub returns-in_err-unarrived : goal.returns-in_err-unarrived
returns-in_err-unarrived g c =
    let t = tally_of c.self.inside.counts in
    let m = c.in_ok-member.member in
    let w = uncounted_err t (is_arrived t.phase m) c.in_err-unarrived.field-0.0 c.in_err-unarrived.ensures in
    rw (← c.self.view_is) (passed c.from_residual-in_err-unarrived.ensures.1 (rw w.0 (arrive_refused (kind_of g.B.Bell.KNOWN g.W.Waker.waking) c.args.place m _ c.args.members.now (g.B.Bell.meaning c.args.bell.now) (sym c.in_ok-member.ensures.ok_part ∙ c.get.ensures) c.in_default.not-InFlight c.if-counts.false w.1)))

pub settle-requires : goal.settle-requires
settle-requires g c =
    let n = c.self.inside.counts in
    let a = is_arrived n.phase c.in_ok-member.member in
    let w = counted_ok (tally_of n) a c.in_ok-unarrived.unarrived c.in_ok-unarrived.ensures in
    let low : c.in_ok-unarrived.unarrived ≤ n.registered = omega (arith, w.1, lowered_within a n.unarrived, n.within) in
    (search rules, low)

pub returns : goal.returns
returns g c =
    let t = tally_of c.self.inside.counts in
    let m = c.in_ok-member.member in
    let u = c.in_ok-unarrived.unarrived in
    let w = counted_ok t (is_arrived t.phase m) u c.in_ok-unarrived.ensures in
    let settled = c.settle.ensures ∙ ap (λ p. settle (kind_of g.B.Bell.KNOWN g.W.Waker.waking) (counted c.self.inside.counts.registered u p) (g.B.Bell.meaning c.args.bell.now)) (sym c.self.view_is) in
    arrive_settled (kind_of g.B.Bell.KNOWN g.W.Waker.waking) c.args.place m _ c.args.members.now (g.B.Bell.meaning c.args.bell.now) (sym c.in_ok-member.ensures.ok_part ∙ c.get.ensures) c.in_default.not-InFlight c.if-counts.false w.0 u w.1 c.settle.new.self (g.B.Bell.meaning c.settle.new.bell) c.replace.new.self (ap (λ r. r.1) c.replace.ensures.step) settled ∙ ap (λ p. arrive (kind_of g.B.Bell.KNOWN g.W.Waker.waking) c.args.place (p, c.args.members.now, g.B.Bell.meaning c.args.bell.now)) c.self.view_is
