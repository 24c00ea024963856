use Rattle.std.proofs.Common.{ap, ◌∙◌, arith}
use Rattle.phaser.specs.Members.{admit}
use Rattle.phaser.proofs.Refused.{passed}
use Rattle.phaser.proofs.Ways.{admit_many, admit_admits, admit_awaited}
use Rattle.phaser.proofs.phaser.Phaser.admit.Goals as goal

pub returns-in_err-registered : goal.returns-in_err-registered
returns-in_err-registered g c =
    let many = rw c.in_err-registered.ensures.ok_part at c.checked_add.ensures in
    let e = rw c.in_err-registered.ensures.ok_part at c.in_err-registered.ensures.value in
    passed c.from_residual.ensures.1 (rw e (admit_many c.args.parties c.args.value _ c.args.table.now c.if-counts.false many ∙ ap (λ p. admit c.args.parties c.args.value (p, c.args.table.now)) c.self.view_is))

pub invariant_of-counts : goal.invariant_of-counts
invariant_of-counts g c =
    let n = c.self.inside.counts in
    let sum = rw c.in_ok-registered.ensures.ok_part at c.checked_add.ensures in
    record {
      within = omega (arith, n.within, sum.1);
      awaited = λ _ some. admit_awaited n.closed n.registered n.unarrived c.args.parties c.in_ok-registered.registered c.if-counts.false n.awaited sum.1 some;
    }

pub returns : goal.returns
returns g c =
    let sum = rw c.in_ok-registered.ensures.ok_part at c.checked_add.ensures in
    admit_admits c.args.parties c.args.value _ c.args.table.now c.if-counts.false sum.0 c.in_ok-registered.registered sum.1 c.in_ok-place.place c.insert.new.self c.in_ok-place.ensures.step ∙ ap (λ p. admit c.args.parties c.args.value (p, c.args.table.now)) c.self.view_is
