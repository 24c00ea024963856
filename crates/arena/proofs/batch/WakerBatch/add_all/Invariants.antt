use Rattle.std.proofs.Common.{◌≡◌, drop, filter_map}
use Rattle.arena.specs.Cells.{content}
use Rattle.arena.specs.Ringing.{rung_all, each_rung}
use Rattle.arena.proofs.batch.WakerBatch.add_all.Given as goal

abbrev pub invariant-loop-slot : goal.invariant-loop-slot
invariant-loop-slot g l =
    each_rung g.W.Waker.waking.target g.B.Bell.KNOWN (rung_all g.W.Waker.waking.target g.B.Bell.KNOWN (g.B.Bell.meaning l.bell) l.self) (filter_map content (drop l.slot-index l.slot-items))
    ≡ each_rung g.W.Waker.waking.target g.B.Bell.KNOWN (rung_all g.W.Waker.waking.target g.B.Bell.KNOWN (g.B.Bell.meaning l.initial.bell) l.initial.self) (filter_map content l.slot-items)
