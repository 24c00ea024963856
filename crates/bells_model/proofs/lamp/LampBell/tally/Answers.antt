use Rattle.std.proofs.Common.{◌≡◌, Bool, true, false, sym, ◌∙◌}
use mir.Val.{bool_byte}
use Rattle.bells.specs.Due.{how_many}
use Rattle.bells_model.specs.Lamps.{shining}
use Rattle.bells_model.specs.Lights.{shining_many}
use Rattle.bells_model.proofs.lamp.LampBell.tally.Goals as goal

as_number : (lit : Bool) → bool_byte lit ≡ how_many 1 (shining lit)
as_number true = sym (shining_many true)
as_number false = sym (shining_many false)

pub returns : goal.returns
returns c = c.from.ensures ∙ as_number c.args.self.now.lit
