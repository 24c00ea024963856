use Rattle.std.proofs.Common.{◌≡◌, false, ltb, length, take, refl, arith, rules}
use Rattle.std.proofs.lemmas.List.{length-take-le}
use Rattle.std.proofs.lemmas.Bool.{le-ltb}
use Rattle.arena.specs.Arenas.{table_of}
use Rattle.arena.proofs.Places.{cells_none, occupied_none}
use Rattle.arena.proofs.arena.Arena.new.Goals as goal

pub invariant_of-result : goal.invariant_of-result
invariant_of-result g c =
    let n : length c.args.slots ≡ g.row.N = search rules in
    record {
      within = (omega arith, omega arith);
      sized = (c.if-capacity.false, n);
      chained = refl;
      counted = occupied_none (take c.args.capacity c.args.slots);
    }

pub returns : goal.returns
unfolding table_of
returns g c =
    let n : length c.args.slots ≡ g.row.N = search rules in
    let e = length-take-le c.args.capacity c.args.slots (omega arith) in
    let t : ltb g.row.N c.args.capacity ≡ false = le-ltb g.row.N c.args.capacity c.if-capacity.false in
    rw (t, cells_none (take c.args.capacity c.args.slots), e)
