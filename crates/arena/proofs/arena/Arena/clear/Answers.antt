use Rattle.std.proofs.Common.{refl, arith}
use Rattle.arena.specs.Arenas.{shown, table_of}
use Rattle.arena.proofs.Places.{cells_none, occupied_none, length-cells}
use Rattle.arena.proofs.arena.Arena.clear.Goals as goal

pub invariant_of-self : goal.invariant_of-self
invariant_of-self g c =
    record {
      within = (omega arith, omega arith);
      sized = c.self.invariant.sized;
      chained = refl;
      counted = occupied_none (shown c.self.inside);
    }

pub returns : goal.returns
unfolding table_of
returns g c = let a = c.self.inside in rw (← c.self.view_is, cells_none (shown a), length-cells a.used (shown a))
