use Rattle.std.proofs.Common.{◌≡◌, ◌<◌, true, ltb, length, take, arith, length-set}
use Rattle.std.proofs.lemmas.Bool.{lt-ltb}
use Rattle.std.proofs.lemmas.List.{length_push}
use Rattle.arena.specs.Table.{values}
use Rattle.arena.proofs.Values.{pushed_more}
use Rattle.arena.proofs.batch.WakerBatch.push.Goals as goal

pub invariant_of-self : goal.invariant_of-self
invariant_of-self g c =
    let b = c.self.inside in
    let room : b.len < length b.slots.all = omega arith in
    let sized : length c.put.new.self.all ≡ g.row.M = rw (c.put.ensures, length-set) c.self.invariant.1 in
    (omega arith, sized, rw (c.put.ensures, pushed_more b.slots.all b.len c.args.waker room, length_push, c.self.invariant.2))

pub returns : goal.returns
returns g c =
    let b = c.self.inside in
    let room : b.len < length b.slots.all = omega arith in
    let t : ltb (length (values (take b.len b.slots.all))) g.row.M ≡ true = lt-ltb _ _ (omega arith) in
    rw (← c.self.view_is) (rw (t, c.put.ensures, pushed_more b.slots.all b.len c.args.waker room))
