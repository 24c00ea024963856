use Rattle.std.proofs.Common.{◌≡◌, drop, filter_map}
use Rattle.arena.specs.Ringing.{rung_all}
use Rattle.arena.proofs.batch.WakerBatch.wake_all.Given as goal

-- what is left to ring ends where all would have ended
abbrev pub invariant-loop-slot : goal.invariant-loop-slot
invariant-loop-slot g l =
    rung_all g.W.Waker.waking.target g.B.Bell.KNOWN (g.B.Bell.meaning l.bell) (filter_map (λ c. c) (drop l.slot-index l.slot-items))
    ≡ rung_all g.W.Waker.waking.target g.B.Bell.KNOWN (g.B.Bell.meaning l.initial.bell) (filter_map (λ c. c) l.slot-items)
