use Rattle.std.proofs.Common.{◌-◌, ap, sym, ◌∙◌}
use Rattle.bells.specs.Kind.{kind_of}
use Rattle.phaser.specs.Rules.{counted, settle}
use Rattle.phaser.specs.Members.{shed}
use Rattle.phaser.proofs.Ways.{shed_refused, shed_settled}
use Rattle.phaser.proofs.phaser.Phaser.shed.Goals as goal

pub returns-then-counts-remaining : goal.returns-then-counts-remaining
returns-then-counts-remaining g c =
    rw (← c.self.view_is) (shed_refused (kind_of g.B.Bell.KNOWN g.W.Waker.waking) c.args.place c.in_ok-remaining.field-0 _ c.args.batches.now (g.B.Bell.meaning c.args.bell.now) (sym c.in_ok-remaining.ensures.ok_part ∙ c.get.ensures) c.if-remaining-eq0.false c.if-counts-remaining.true)

pub returns : goal.returns
returns g c =
    let settled = c.settle.ensures ∙ ap (λ p. settle (kind_of g.B.Bell.KNOWN g.W.Waker.waking) (counted (c.self.inside.counts.registered - c.in_ok-remaining.field-0.remaining) (c.self.inside.counts.unarrived - c.in_ok-remaining.field-0.remaining) p) (g.B.Bell.meaning c.args.bell.now)) (sym c.self.view_is) in
    shed_settled (kind_of g.B.Bell.KNOWN g.W.Waker.waking) c.args.place c.in_ok-remaining.field-0 _ c.args.batches.now (g.B.Bell.meaning c.args.bell.now) (sym c.in_ok-remaining.ensures.ok_part ∙ c.get.ensures) c.if-remaining-eq0.false c.if-counts-remaining.false c.settle.new.self (g.B.Bell.meaning c.settle.new.bell) c.remove-2.new.self (ap (λ r. r.1) c.remove-2.ensures.step) settled ∙ ap (λ p. shed (kind_of g.B.Bell.KNOWN g.W.Waker.waking) c.args.place (p, c.args.batches.now, g.B.Bell.meaning c.args.bell.now)) c.self.view_is
