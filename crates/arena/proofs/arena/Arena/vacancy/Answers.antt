use Rattle.std.proofs.lemmas.Bool.{lt-ltb, le-ltb}
use Rattle.arena.proofs.Arenas.{next}
use Rattle.arena.proofs.arena.Arena.vacancy.Goals as goal

pub returns-in-Some : goal.returns-in-Some
returns-in-Some g c = rw (next c.self.inside c.self.invariant _ c.self.view_is, c.in-Some.is)

pub returns-in-None : goal.returns-in-None
returns-in-None g c =
    let below = lt-ltb _ _ c.if-self.true in
    rw (next c.self.inside c.self.invariant _ c.self.view_is, c.in-None.is, below)

pub returns-in-None-2 : goal.returns-in-None-2
returns-in-None-2 g c =
    let full = le-ltb _ _ c.if-self.false in
    rw (next c.self.inside c.self.invariant _ c.self.view_is, c.in-None.is, full)
