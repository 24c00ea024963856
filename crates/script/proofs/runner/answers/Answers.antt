use Rattle.std.proofs.Common.{sym, ◌∙◌, ◌+◌, ap, rules}
use Rattle.std.specs.Iterator.Adapters.{enumerate_source}
use Rattle.station.specs.Parts.{station_of}
use Rattle.script.specs.Left.{left}
use Rattle.script.specs.Runs.{answers}
use Rattle.script.proofs.Runs.{Underway, underway_at, answered, fault_room, faulted, all_answered}
use Rattle.script.proofs.runner.answers.Given as given
use Rattle.script.proofs.runner.answers.Goals as goal
use Rattle.script.proofs.runner.answers.Goals.{In-Some}

-- how far the run has come, by the number that `enumerate` gives
underway : (g : given.Over) (c : In-Some g) → Underway g.B.Bell.KNOWN (answers g.B.Bell.KNOWN 3 (station_of g.B.Bell.meaning c.args.station.now) (left c.args.script)) c.args.writer.now c.in-Some.i (station_of g.B.Bell.meaning c.loop-i.station) (left (enumerate_source c.loop-i.i-iterator)) c.loop-i.writer
underway g c = underway_at g.B.Bell.KNOWN _ _ _ _ _ _ _ c.in-Some.ensures.steps.1 c.loop-i.invariant.underway

pub loop-i-preserved : goal.loop-i-preserved
loop-i-preserved g c =
    let steps = c.in-Some.ensures.steps in
    record {
      can = search rules;
      finite = search rules;
      underway = answered g.B.Bell.KNOWN _ _ _ _ _ _ (underway g (goal.at.loop-i-preserved g c).In-Some) _ _ steps.0 c.in-Ok.answer _ _ _ (steps.2 ∙ ap (λ n. n + 1) (sym steps.1)) c.in-Ok.ensures c.answer.ensures.within c.answer.ensures.text;
    }

pub fault-requires : goal.fault-requires
fault-requires g c =
    fault_room g.B.Bell.KNOWN _ _ _ _ _ _ (underway g (goal.at.fault-requires g c).In-Some) _ _ c.in-Some.ensures.steps.0 c.in-Err.fault

pub returns-in-Err : goal.returns-in-Err
returns-in-Err g c =
    faulted g.B.Bell.KNOWN _ _ _ _ _ _ (underway g (goal.at.returns-in-Err g c).In-Some) _ _ c.in-Some.ensures.steps.0 c.in-Err.fault _ _ c.in-Err.ensures c.fault.ensures

pub returns : goal.returns
returns g c =
    all_answered g.B.Bell.KNOWN _ _ _ _ _ _ c.loop-i.invariant.underway c.in-None.ensures.steps.0.0
