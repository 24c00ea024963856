-- The rules of a phaser that its calls share: the advance rule and the completion rule. Assumes nothing.
use Rattle.std.specs.Prelude.{ℕ, ◌+◌, ◌%◌, ◌^◌, Bool, true, false, cond, not, ◌&&◌, Ok, Err, Option, Result, ◌==◌}
use Rattle.bells.specs.declared.refusal.Refusal.{Refusal}
use Rattle.bells.specs.Due.{Due}
use Rattle.bells.specs.Kind.{Kind}
use Rattle.arena.specs.declared.wait.Entry.{Entry}
use Rattle.arena.specs.declared.wait.Wait.{Wait}
use Rattle.arena.specs.declared.wait.WaitTable.{WaitTable}
use Rattle.arena.specs.declared.set.Registered.{Registered}
use Rattle.arena.specs.Table.{Table}
use Rattle.arena.specs.Wakers.{register, wake_all}
use Rattle.phaser.specs.declared.outcome.Outcome.{Outcome}
use Rattle.phaser.specs.declared.outcome.Outcome.TheVariants as outcome
use Rattle.phaser.specs.Model.{Tally, Phaser}

-- a refusal leaves all as it was
abbrev pub refuse : {A X : Type 0} → Refusal → Bool → X → Result A Refusal × X → Result A Refusal × X
refuse e fails x rest = cond fails (Err e, x) rest

-- a phaser with a table and the tasks that are due
abbrev pub Parts : (W T : Type 0) → Type 0
Parts W T = Phaser W × Table T × Due

abbrev pub wait_of : WaitTable → ℕ → Wait
wait_of table place = record { table = table; place = place }

-- an open phaser with no members
abbrev pub new_phaser : {W : Type 0} → ℕ → Table (Entry W) → Phaser W
new_phaser phase set = record { tally = record { phase = phase; closed = false; registered = 0; unarrived = 0 }; waiting = set }

-- other counts
abbrev pub counted : {W : Type 0} → ℕ → ℕ → Phaser W → Phaser W
counted r u p =
    record { tally = record { phase = p.tally.phase; closed = p.tally.closed; registered = r; unarrived = u }; waiting = p.waiting }

-- the advance rule, after an arrival or a withdrawal has been counted: open with nobody unarrived, the phase grows by 1
-- (2^64 − 1 becomes 0), all members are unarrived again, and those who wait are woken
abbrev pub advances : Tally → Bool
advances c = not c.closed && c.unarrived == 0

abbrev pub moved_on : Tally → Tally
moved_on c = record { phase = (c.phase + 1) % 2 ^ 64; closed = c.closed; registered = c.registered; unarrived = c.registered }

abbrev pub woken : {W : Type 0} → Tally → Due × Table (Entry W) → Phaser W × Due
woken c (due, set) = (record { tally = c; waiting = set }, due)

abbrev pub settle : {W : Type 0} → Kind W → Phaser W → Due → Phaser W × Due
settle k p due =
    cond (advances p.tally) (woken (moved_on p.tally) (wake_all k.waking.target k.known due p.waiting)) (p, due)

-- the completion rule for an observed phase: ready with the present phase if the two differ, else closed if closed, else parked
abbrev pub parked_by : {W : Type 0} → Tally → Result (Registered W) Refusal × Table (Entry W) → Result Outcome Refusal × Phaser W
parked_by c (Ok r, set) = (Ok (outcome.Parked r.slot), record { tally = c; waiting = set })
parked_by c (Err e, set) = (Err e, record { tally = c; waiting = set })

abbrev pub complete : {W : Type 0} → (W → W → Bool) → ℕ → Option ℕ → Wait → W → Phaser W → Result Outcome Refusal × Phaser W
complete wakes observed slot owner w p =
    cond (p.tally.phase == observed)
    (cond p.tally.closed (Ok outcome.Closed, p) (parked_by p.tally (register wakes slot owner w p.waiting)))
    (Ok (outcome.Ready p.tally.phase), p)

-- closing marks the phaser and wakes those who wait; a second time does nothing
abbrev pub marked : Tally → Tally
marked c = record { phase = c.phase; closed = true; registered = c.registered; unarrived = c.unarrived }

abbrev pub close : {W : Type 0} → Kind W → Phaser W → Due → Phaser W × Due
close k p due =
    cond p.tally.closed (p, due) (woken (marked p.tally) (wake_all k.waking.target k.known due p.waiting))
