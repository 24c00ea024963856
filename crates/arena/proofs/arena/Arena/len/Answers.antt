use Rattle.std.proofs.Common.{◌≤◌, length, sym, arith}
use Rattle.arena.specs.Arenas.{table_of}
use Rattle.arena.proofs.Steps.{len_counts, length_cells}
use Rattle.arena.proofs.Sounds.{table_sound, sound_complete}
use Rattle.arena.proofs.arena.Arena.len.Goals as goal

pub returns : goal.returns
returns g c =
    let s = table_sound c.self.inside c.self.invariant in
    let fits : length (table_of c.self.inside).cells ≤ g.row.N = omega (arith, length_cells c.self.inside c.self.invariant, c.self.invariant.sized.0) in
    rw (← c.self.view_is) (record { count = sym (len_counts c.self.inside c.self.invariant); fits = fits; sound = s; complete = sound_complete _ s })
