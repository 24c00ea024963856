use Rattle.std.proofs.Common.{ap, ◌∙◌}
use Rattle.arena.specs.Wakers.{own_of}
use Rattle.arena.proofs.Parks.{own_found}
use Rattle.arena.proofs.set.WakerSet.own.Goals as goal

pub returns : goal.returns
returns g c =
    rw (c.then_some.ensures, c.in_ok-remembered.was, ← c.self.view_is) (own_found c.args.owner c.in_ok-entry.entry _ c.eq.ensures ∙ ap (own_of c.args.owner) c.in_ok-entry.ensures)
