use Rattle.std.proofs.Common.{sym, ◌∙◌}
use Rattle.bells.specs.Kind.{kind_of}
use Rattle.phaser.proofs.Refused.{passed}
use Rattle.phaser.proofs.Ways.{known_from, look_refused}
use Rattle.phaser.proofs.phaser.Phaser.look.Goals as goal

pub returns-in_err-outcome : goal.returns-in_err-outcome
returns-in_err-outcome g c =
    passed c.from_residual-in_err-outcome.ensures.1 (look_refused (kind_of g.B.Bell.KNOWN g.W.Waker.waking) c.args.place c.args.waker c.args.self.now c.args.watchers.now (known_from g.B.Bell.KNOWN c.target.ensures c.knows.ensures c.if-not-knows.false) c.in_ok-watcher.watcher (sym c.in_ok-watcher.ensures.ok_part ∙ c.get.ensures) c.in_err-outcome.field-0.0 c.complete.new.self c.in_err-outcome.ensures)
