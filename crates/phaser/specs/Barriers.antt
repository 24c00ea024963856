-- The barrier calls. Assumes nothing.
use Rattle.std.specs.Prelude.{ℕ, ◌+◌, ◌-◌, ◌^◌, max, Bool, cond, not, ◌&&◌, Some, None, Ok, Err, Option, Result, ◌==◌, nat_lt}
use Rattle.bells.specs.declared.refusal.Refusal.{Refusal}
use Rattle.bells.specs.declared.refusal.Refusal.TheVariants.{TableFull, Vacant, UnknownTask, LastGeneration}
use Rattle.bells.specs.Due.{Due}
use Rattle.bells.specs.Kind.{Kind}
use Rattle.arena.specs.declared.set.Registered.{Registered}
use Rattle.arena.specs.declared.wait.Entry.{Entry}
use Rattle.arena.specs.declared.wait.WaitTable.TheVariants as table
use Rattle.arena.specs.Table.{Table, vacancy, insert, get, replace, remove}
use Rattle.arena.specs.Wakers.{register, wake_all}
use Rattle.phaser.specs.declared.follower.Follower.{Follower}
use Rattle.phaser.specs.declared.outcome.Attended.{Attended}
use Rattle.phaser.specs.declared.outcome.Attended.TheVariants as attended
use Rattle.phaser.specs.declared.outcome.Met.{Met}
use Rattle.phaser.specs.declared.outcome.Met.TheVariants as met
use Rattle.phaser.specs.Model.{Barrier}
use Rattle.phaser.specs.Rules.{refuse, wait_of}

abbrev pub Meeting : (W : Type 0) → Type 0
Meeting W = Barrier W × Table Follower × Due

-- a barrier at which nobody has met
abbrev pub new_barrier : {W : Type 0} → ℕ → ℕ → Table (Entry W) → Barrier W
new_barrier n generation set = record { n = n; generation = generation; arrived = 0; waiting = set }

-- n = 0 acts as 1
abbrev pub size : ℕ → ℕ
size n = max n 1

abbrev pub gathered : {W : Type 0} → ℕ → ℕ → Table (Entry W) → Barrier W → Barrier W
gathered generation arrived set b = record { n = b.n; generation = generation; arrived = arrived; waiting = set }

-- one more makes the group complete
abbrev pub leads : {W : Type 0} → Barrier W → Bool
leads b = b.arrived + 1 == size b.n

-- meet: unknown task, last generation; then full and no slot unless it leads

-- who completes the group leads: the next generation begins, and those who wait are woken
abbrev pub led : {W : Type 0} → Meeting W → Due × Table (Entry W) → Result Met Refusal × Meeting W
led (b, fs, due) (due', set) = (Ok met.Leader, (gathered (b.generation + 1) 0 set b, fs, due'))

-- else a follower of this generation parks, at the place that the next one takes; a refusal leaves all as it was
abbrev pub followed : {W : Type 0} → ℕ → Meeting W → Result (Registered W) Refusal × Table (Entry W) → Result Met Refusal × Meeting W
followed place (b, fs, due) (Ok r, set) =
    (Ok (met.Parked place), (gathered b.generation (b.arrived + 1) set b, (insert (record { generation = b.generation; slot = Some r.slot }) fs).1, due))
followed place x (Err e, set) = (Err e, x)

abbrev pub follow : {W : Type 0} → (W → W → Bool) → W → Option ℕ → Meeting W → Result Met Refusal × Meeting W
follow wakes w None x = (Err TableFull, x)
follow wakes w (Some place) x = followed place x (register wakes None (wait_of table.Followers place) w x.0.waiting)

abbrev pub meet : {W : Type 0} → Kind W → W → Meeting W → Result Met Refusal × Meeting W
meet k w (b, fs, due) =
    refuse UnknownTask (not (nat_lt (k.waking.target w) k.known)) (b, fs, due)
    (refuse LastGeneration (leads b && b.generation == 2 ^ 64 - 1) (b, fs, due)
    (cond (leads b)
    (led (b, fs, due) (wake_all k.waking.target k.known due b.waiting))
    (follow k.waking.wakes w (vacancy fs) (b, fs, due))))

-- attend: vacant, unknown task, no slot. Done where the follower's generation is over, which frees the place; else parked
abbrev pub parked_in : {W : Type 0} → ℕ → ℕ → Barrier W × Table Follower → Result (Registered W) Refusal × Table (Entry W) → Result Attended Refusal × (Barrier W × Table Follower)
parked_in place generation (b, fs) (Ok r, set) =
    (Ok attended.Parked, (gathered b.generation b.arrived set b, (replace place (record { generation = generation; slot = Some r.slot }) fs).1))
parked_in place generation x (Err e, set) = (Err e, x)

abbrev pub attend_by : {W : Type 0} → Kind W → ℕ → W → Option Follower → Barrier W × Table Follower → Result Attended Refusal × (Barrier W × Table Follower)
attend_by k place w None x = (Err Vacant, x)
attend_by k place w (Some f) (b, fs) =
    refuse UnknownTask (not (nat_lt (k.waking.target w) k.known)) (b, fs)
    (cond (nat_lt f.generation b.generation)
    (Ok attended.Done, (b, (remove place fs).1))
    (parked_in place f.generation (b, fs) (register k.waking.wakes f.slot (wait_of table.Followers place) w b.waiting)))

abbrev pub attend : {W : Type 0} → Kind W → ℕ → W → Barrier W × Table Follower → Result Attended Refusal × (Barrier W × Table Follower)
attend k place w x = attend_by k place w (get place x.1) x
