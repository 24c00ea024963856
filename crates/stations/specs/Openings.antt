-- At which sizes a station can be opened, and what it is then. Assumes nothing.
use Rattle.std.specs.Prelude.{ℕ, ◌+◌, Bool, cond, ◌&&◌, Ok, Err, Result, nat_le}
use Rattle.bells.specs.declared.refusal.Refusal.{Refusal}
use Rattle.bells.specs.declared.refusal.Refusal.TheVariants.{SizeOutside}
use Rattle.bells.specs.Due.{Due, none_due}
use Rattle.arena.specs.Table.{fresh}
use Rattle.phaser.specs.Rules.{new_phaser}
use Rattle.phaser.specs.Barriers.{new_barrier}
use Rattle.stations.specs.declared.opening.Opening.{Opening}
use Rattle.stations.specs.declared.whole.Station.{Station as Bundle}
use Rattle.stations.specs.Model.{Station, station_of}

-- from one to the most
abbrev pub within : ℕ → ℕ → Bool
within most n = nat_le 1 n && nat_le n most

abbrev pub tables_fit : Opening → Bool
tables_fit o = within 512 o.members && (within 64 o.batches && (within 512 o.watchers && within 512 o.followers))

-- in the phaser's set a slot for each member and each watcher, in the barrier's one for each follower; in neither too many
abbrev pub sets_fit : Opening → Bool
sets_fit o =
    (nat_le (o.members + o.watchers) o.phaser_slots && nat_le o.phaser_slots 1024)
    && (nat_le o.followers o.barrier_slots && nat_le o.barrier_slots 1024)

abbrev pub fits : Opening → Bool
fits o = tables_fit o && sets_fit o

-- a station with nobody in it and nothing due
abbrev pub opened : {W : Type 0} → Opening → Station W
opened o =
    record {
      phaser = new_phaser o.phase (fresh o.phaser_slots);
      barrier = new_barrier o.n o.generation (fresh o.barrier_slots);
      members = fresh o.members;
      batches = fresh o.batches;
      watchers = fresh o.watchers;
      followers = fresh o.followers;
      due = none_due;
    }

abbrev pub opening : {W : Type 0} → Opening → Result (Station W) Refusal
opening o = cond (fits o) (Ok (opened o)) (Err SizeOutside)

abbrev pub opened_of : {B W : Type 0} → (B → Due) → Result (Bundle B W) Refusal → Result (Station W) Refusal
opened_of meaning (Ok s) = Ok (station_of meaning s)
opened_of meaning (Err e) = Err e
