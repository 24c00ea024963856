use Rattle.std.proofs.Common.{◌++◌, sym, refl, subst, arith}
use Rattle.script.specs.declared.fault.Fault.TheVariants as fault
use Rattle.script.specs.Writers.{Appends}
use Rattle.script.specs.Written.{heading}
use Rattle.script.proofs.Buffers.{appends_more, first_fault_within}
use Rattle.script.proofs.Runs.{body_played, body_not_played}
use Rattle.script.proofs.runner.play.Goals as goal

pub fault-requires : goal.fault-requires
fault-requires g c =
    omega (arith, c.requires.some, c.requires.room, c.heading.ensures.end, c.heading.ensures.room, first_fault_within 1 (omega arith) fault.FirstLine)

pub returns-then-eq : goal.returns-then-eq
returns-then-eq g c =
    subst (λ l. Appends (heading ++ l) c.args.writer.now c.calls.new.writer)
    (sym (body_played g.B.Bell.KNOWN _ _ _ refl c.next.result c.next.ensures.steps c.if-eq.ensures))
    (appends_more heading _ _ _ _ (omega (arith, c.requires.some, c.requires.room)) c.heading.ensures c.calls.ensures)

pub returns-else-eq : goal.returns-else-eq
returns-else-eq g c =
    subst (λ l. Appends (heading ++ l) c.args.writer.now c.fault.new.self)
    (sym (body_not_played g.B.Bell.KNOWN _ _ _ refl c.next.result c.next.ensures.steps c.requires.some c.if-eq.ensures))
    (appends_more heading _ _ _ _ (omega (arith, c.requires.some, c.requires.room)) c.heading.ensures c.fault.ensures)
