-- The watchers' calls on a phaser. Assumes nothing.
use Rattle.std.specs.Prelude.{ℕ, not, Some, None, Ok, Err, Option, Result, nat_lt}
use Rattle.bells.specs.declared.refusal.Refusal.{Refusal}
use Rattle.bells.specs.declared.refusal.Refusal.TheVariants.{Vacant, UnknownTask}
use Rattle.bells.specs.Kind.{Kind}
use Rattle.arena.specs.declared.wait.WaitTable.TheVariants as table
use Rattle.arena.specs.Table.{Table, insert, get, replace, remove}
use Rattle.arena.specs.Wakers.{unregister}
use Rattle.phaser.specs.declared.outcome.Outcome.{Outcome}
use Rattle.phaser.specs.declared.outcome.Outcome.TheVariants as outcome
use Rattle.phaser.specs.declared.outcome.Polled.{Polled}
use Rattle.phaser.specs.declared.watcher.Watcher.{Watcher}
use Rattle.phaser.specs.Model.{Phaser}
use Rattle.phaser.specs.Rules.{refuse, wait_of, complete}
use Rattle.phaser.specs.Members.{told}

-- watch: full. A watcher of a phase, which is on no slot yet
abbrev pub watch : ℕ → Table Watcher → Result ℕ Refusal × Table Watcher
watch observed vs = insert (record { observed = observed; slot = None }) vs

-- look: vacant, unknown task, no slot. Ready and closed free the place
abbrev pub table_after : ℕ → ℕ → Outcome → Table Watcher → Table Watcher
table_after place observed (outcome.Ready n) vs = (remove place vs).1
table_after place observed outcome.Closed vs = (remove place vs).1
table_after place observed (outcome.Parked slot) vs = (replace place (record { observed = observed; slot = Some slot }) vs).1

abbrev pub looked : {W : Type 0} → ℕ → ℕ → Phaser W × Table Watcher → Result Outcome Refusal × Phaser W → Result Polled Refusal × (Phaser W × Table Watcher)
looked place observed x (Ok o, p) = (Ok (told o), (p, table_after place observed o x.1))
looked place observed x (Err e, p) = (Err e, x)

abbrev pub look_by : {W : Type 0} → Kind W → ℕ → W → Option Watcher → Phaser W × Table Watcher → Result Polled Refusal × (Phaser W × Table Watcher)
look_by k place w None x = (Err Vacant, x)
look_by k place w (Some v) x =
    refuse UnknownTask (not (nat_lt (k.waking.target w) k.known)) x
    (looked place v.observed x (complete k.waking.wakes v.observed v.slot (wait_of table.Watchers place) w x.0))

abbrev pub look : {W : Type 0} → Kind W → ℕ → W → Phaser W × Table Watcher → Result Polled Refusal × (Phaser W × Table Watcher)
look k place w x = look_by k place w (get place x.1) x

-- unwatch: vacant
abbrev pub unwatch_by : {W : Type 0} → ℕ → Option Watcher → Phaser W × Table Watcher → Result (Unit {0}) Refusal × (Phaser W × Table Watcher)
unwatch_by place None x = (Err Vacant, x)
unwatch_by place (Some v) (p, vs) =
    (Ok tt, (record { tally = p.tally; waiting = (unregister v.slot (wait_of table.Watchers place) p.waiting).1 }, (remove place vs).1))

abbrev pub unwatch : {W : Type 0} → ℕ → Phaser W × Table Watcher → Result (Unit {0}) Refusal × (Phaser W × Table Watcher)
unwatch place x = unwatch_by place (get place x.1) x
