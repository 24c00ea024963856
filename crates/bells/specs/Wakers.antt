-- The task that each kind of waker names, when it says yes to another, and which wakers can be made. Assumes nothing.
use Rattle.std.specs.Prelude.{ℕ, ◌+◌, ◌*◌, Bool, cond, ◌&&◌, Ok, Err, Result, ◌==◌, nat_lt}
use Rattle.bells.specs.declared.refusal.Refusal.{Refusal}
use Rattle.bells.specs.declared.refusal.Refusal.TheVariants.{UnknownTask}
use Rattle.bells.specs.declared.task_waker.TaskWaker.{TaskWaker}
use Rattle.bells.specs.declared.vcpu_waker.VcpuWaker.{VcpuWaker}

-- a task waker names the task that it holds, and says yes exactly to one that holds the same
abbrev pub task_target : TaskWaker → ℕ
task_target w = w.task

abbrev pub same_task : TaskWaker → TaskWaker → Bool
same_task v w = v.task == w.task

-- it can be made of a task below 65536
abbrev pub made_task : ℕ → Result TaskWaker Refusal
made_task task = cond (nat_lt task 65536) (Ok (record { task = task })) (Err UnknownTask)

-- a guest has eight tasks, one for each of its vCPUs
abbrev pub vcpu_target : VcpuWaker → ℕ
vcpu_target w = w.guest * 8 + w.vcpu

-- a vCPU waker says yes exactly to one of the same guest, vCPU and serial
abbrev pub same_vcpu : VcpuWaker → VcpuWaker → Bool
same_vcpu v w = v.guest == w.guest && (v.vcpu == w.vcpu && v.serial == w.serial)

-- it can be made of one of 512 guests and one of eight vCPUs
abbrev pub made_vcpu : ℕ → ℕ → ℕ → Result VcpuWaker Refusal
made_vcpu guest vcpu serial =
    cond (nat_lt guest 512 && nat_lt vcpu 8) (Ok (record { guest = guest; vcpu = vcpu; serial = serial })) (Err UnknownTask)
