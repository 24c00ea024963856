use Rattle.std.proofs.Common.{sym, ◌∙◌}
use Rattle.phaser.proofs.Ways.{cancel_still}
use Rattle.phaser.proofs.phaser.Phaser.cancel.Goals as goal

pub returns-in_default : goal.returns-in_default
returns-in_default g c =
    cancel_still c.args.place c.args.self.now c.args.members.now c.in_ok-member.member (sym c.in_ok-member.ensures.ok_part ∙ c.get.ensures) c.in_default.not-InFlight
