use Rattle.std.proofs.Common.{◌≡◌, true, false, ltb, length, sym, arith}
use Rattle.std.proofs.lemmas.Bool.{lt-ltb, le-ltb}
use Rattle.arena.specs.Table.{occupied}
use Rattle.arena.proofs.Steps.{len_counts}
use Rattle.arena.proofs.Sounds.{fresh-occupied, fresh_vacant}
use Rattle.arena.proofs.arena.Arena.take_all.Goals as goal

pub copy_out-requires : goal.copy_out-requires
copy_out-requires g c =
    let e : occupied c.args.self.now.cells ≡ c.self.inside.len = rw (← c.self.view_is) (len_counts c.self.inside c.self.invariant) in
    omega arith

pub returns-then-into-count-clause-step : goal.returns-then-into-count-clause-step
returns-then-into-count-clause-step g c =
    let e : occupied c.args.self.now.cells ≡ c.self.inside.len = rw (← c.self.view_is) (len_counts c.self.inside c.self.invariant) in
    let t : ltb (length c.args.into.now) (occupied c.args.self.now.cells) ≡ true = lt-ltb _ _ (omega arith) in
    rw t

pub returns : goal.returns
returns g c =
    let e : occupied c.args.self.now.cells ≡ c.self.inside.len = rw (← c.self.view_is) (len_counts c.self.inside c.self.invariant) in
    let t : ltb (length c.args.into.now) (occupied c.args.self.now.cells) ≡ false = le-ltb _ _ (omega arith) in
    let k = length c.args.self.now.cells in
    record {
      step = rw (t, ← e, c.copy_out.ensures, c.clear.ensures);
      law = rw c.clear.ensures (sym e, fresh-occupied g.row.T.Denot k, fresh_vacant g.row.T.Denot k);
    }
