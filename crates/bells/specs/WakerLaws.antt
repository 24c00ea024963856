-- Wakers that say yes to one another name one task, and what each kind hands on to the trait with the proof of that. Assumes nothing.
use Rattle.std.specs.Prelude.{◌≡◌, ◌+◌, ◌*◌, true, ◌&&◌, ◌==◌}
use Rattle.std.proofs.Common.{ap, ◌∙◌}
use Rattle.std.proofs.lemmas.Bool.{eqb-true, and_parts}
use Rattle.bells.specs.declared.task_waker.TaskWaker.{TaskWaker}
use Rattle.bells.specs.declared.vcpu_waker.VcpuWaker.{VcpuWaker}
use Rattle.bells.specs.Kind.{Waking}
use Rattle.bells.specs.Wakers.{task_target, same_task, vcpu_target, same_vcpu}

pub task_same : (v w : TaskWaker) → same_task v w ≡ true → task_target v ≡ task_target w
task_same v w yes_said = eqb-true v.task w.task yes_said

pub vcpu_same : (v w : VcpuWaker) → same_vcpu v w ≡ true → vcpu_target v ≡ vcpu_target w
vcpu_same v w yes_said =
    let guest = and_parts (v.guest == w.guest) (v.vcpu == w.vcpu && v.serial == w.serial) yes_said in
    let vcpu = and_parts (v.vcpu == w.vcpu) (v.serial == w.serial) guest.1 in
    ap (λ g. g * 8 + v.vcpu) (eqb-true v.guest w.guest guest.0) ∙ ap (λ c. w.guest * 8 + c) (eqb-true v.vcpu w.vcpu vcpu.0)

-- what each kind hands on
abbrev pub task_waking : Waking TaskWaker
task_waking = record { target = task_target; wakes = same_task; same = task_same }

abbrev pub vcpu_waking : Waking VcpuWaker
vcpu_waking = record { target = vcpu_target; wakes = same_vcpu; same = vcpu_same }
