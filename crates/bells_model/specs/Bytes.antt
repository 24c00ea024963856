-- Which task a byte waker names, and when it says yes to another. Assumes nothing.
use Rattle.std.specs.Prelude.{◌==◌}
use Rattle.std.proofs.lemmas.Bool.{eqb-true}
use Rattle.bells.specs.Kind.{Waking}
use Rattle.bells_model.specs.declared.byte_waker.ByteWaker.{ByteWaker}

-- the task that it holds, and yes exactly to one that holds the same
abbrev pub byte_waking : Waking ByteWaker
byte_waking = record { target = λ w. w.task; wakes = λ v w. v.task == w.task; same = λ v w. eqb-true v.task w.task }
