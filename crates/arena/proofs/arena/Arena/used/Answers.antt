use Rattle.std.proofs.Common.{refl, arith}
use Rattle.arena.specs.Arenas.{table_of}
use Rattle.arena.proofs.Steps.{length_cells}
use Rattle.arena.proofs.arena.Arena.used.Goals as goal

pub returns : goal.returns
unfolding table_of
returns g c =
    let w = c.self.invariant in
    rw (← c.self.view_is) (record { is = refl; within = omega (arith, w.within.1, length_cells c.self.inside w) })
