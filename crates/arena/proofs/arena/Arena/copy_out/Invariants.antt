use Rattle.std.proofs.Common.{◌≡◌, ℕ, List, drop, fold, filter_map, Option}
use Rattle.arena.specs.Cells.{content}
use Rattle.arena.proofs.Values.{pour}
use Rattle.arena.proofs.arena.Arena.copy_out.Given as goal

-- what is left goes where all would have gone
abbrev pub invariant-loop-slot : goal.invariant-loop-slot
invariant-loop-slot g l =
    ◌≡◌ {A = ℕ × List (Option g.row.T.Denot)}
    (fold pour (l.count, l.into) (filter_map content (drop l.slot-index l.slot-items)))
    (fold pour (0, l.initial.into) (filter_map content l.slot-items))
