use Rattle.std.proofs.Common.{◌≡◌, [], take, drop, arith}
use Rattle.std.proofs.lemmas.List.{length-take-le, drop_all}
use Rattle.arena.proofs.Values.{values_filter}
use Rattle.arena.proofs.batch.WakerBatch.wake_all.Goals as goal

pub returns-clause-rung : goal.returns-clause-rung
returns-clause-rung g c =
    let b = c.self.inside in
    let n = length-take-le b.len b.slots.all (omega arith) in
    let e : drop c.loop-slot.slot-index (take b.len b.slots.all) ≡ [] = drop_all c.loop-slot.slot-index (take b.len b.slots.all) (omega (arith, n)) in
    rw (← c.self.view_is) (rw (e, values_filter) at c.loop-slot.invariant)
