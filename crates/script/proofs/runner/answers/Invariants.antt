use Rattle.std.specs.Iterator.Adapters.{enumerate_source, enumerate_count}
use Rattle.station.specs.Parts.{station_of}
use Rattle.script.specs.Left.{left}
use Rattle.script.specs.Runs.{answers}
use Rattle.script.proofs.Runs.{Underway}
use Rattle.script.proofs.runner.answers.Given as goal

abbrev pub invariant-loop-i : goal.invariant-loop-i
invariant-loop-i g l =
    record {
      can : (goal.iterator-loop-i g).can_next l.i-iterator;
      finite : (goal.iterator-loop-i g).is_finite l.i-iterator;
      underway : Underway g.B.Bell.KNOWN (answers g.B.Bell.KNOWN 3 (station_of g.B.Bell.meaning l.initial.station) (left l.fn.script)) l.initial.writer (enumerate_count l.i-iterator) (station_of g.B.Bell.meaning l.station) (left (enumerate_source l.i-iterator)) l.writer;
    }
