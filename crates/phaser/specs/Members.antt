-- The members' calls: what each answers, and what it leaves of the parts that it is handed. Assumes nothing.
use Rattle.std.specs.Prelude.{ℕ, ◌+◌, ◌-◌, ◌^◌, Bool, false, cond, not, ◌&&◌, ◌||◌, Some, None, Ok, Err, Option, Result, ◌==◌, nat_le, nat_lt}
use Rattle.bells.specs.declared.refusal.Refusal.{Refusal}
use Rattle.bells.specs.declared.refusal.Refusal.TheVariants.{Closed, CountOverflow, Vacant, UnknownTask, Miscounted}
use Rattle.bells.specs.declared.refusal.Refusal.TheVariants as refusal
use Rattle.bells.specs.Due.{Due}
use Rattle.bells.specs.Kind.{Kind}
use Rattle.arena.specs.declared.wait.WaitTable.TheVariants as table
use Rattle.arena.specs.Table.{Table, insert, get, replace, remove}
use Rattle.arena.specs.Wakers.{unregister}
use Rattle.phaser.specs.declared.member.Batch.{Batch}
use Rattle.phaser.specs.declared.member.Member.{Member}
use Rattle.phaser.specs.declared.member.Member.TheVariants.{Idle, Pending, InFlight}
use Rattle.phaser.specs.declared.outcome.Departed.{Departed}
use Rattle.phaser.specs.declared.outcome.Departed.TheVariants as departed
use Rattle.phaser.specs.declared.outcome.Outcome.{Outcome}
use Rattle.phaser.specs.declared.outcome.Outcome.TheVariants as outcome
use Rattle.phaser.specs.declared.outcome.Polled.{Polled}
use Rattle.phaser.specs.declared.outcome.Polled.TheVariants as polled
use Rattle.phaser.specs.Model.{Tally, Phaser}
use Rattle.phaser.specs.Rules.{refuse, Parts, wait_of, counted, settle, complete}

-- a member counts as arrived if its pending phase is the present one
abbrev pub is_arrived : ℕ → Member → Bool
is_arrived phase Idle = false
is_arrived phase (Pending n) = n == phase
is_arrived phase (InFlight n slot) = n == phase

-- ── joining ──

-- what was put into a table, with both counts raised
abbrev pub admitted : {W T : Type 0} → ℕ → Phaser W × Table T → Result ℕ Refusal × Table T → Result ℕ Refusal × (Phaser W × Table T)
admitted parties (p, t) (Ok place, t') = (Ok place, (counted (p.tally.registered + parties) (p.tally.unarrived + parties) p, t'))
admitted parties x (Err e, t') = (Err e, x)

abbrev pub admit : {W T : Type 0} → ℕ → T → Phaser W × Table T → Result ℕ Refusal × (Phaser W × Table T)
admit parties v (p, t) =
    refuse Closed p.tally.closed (p, t)
    (refuse CountOverflow (nat_le (2 ^ 64) (p.tally.registered + parties)) (p, t)
    (admitted parties (p, t) (insert v t)))

-- register_one: closed, count, full; a new member with nothing pending
abbrev pub register_one : {W : Type 0} → Phaser W × Table Member → Result ℕ Refusal × (Phaser W × Table Member)
register_one x = admit 1 Idle x

-- register: closed, count, full; a batch with that many remaining
abbrev pub register : {W : Type 0} → ℕ → Phaser W × Table Batch → Result ℕ Refusal × (Phaser W × Table Batch)
register parties x = admit parties (record { remaining = parties }) x

-- next: vacant; full only if some remain. One of the remaining becomes a member
abbrev pub next_in : ℕ → ℕ → Table Batch × Table Member → Result ℕ Refusal × Table Member → Result (Option ℕ) Refusal × (Table Batch × Table Member)
next_in b left (bs, ms) (Ok place, ms') = (Ok (Some place), ((replace b (record { remaining = left - 1 }) bs).1, ms'))
next_in b left x (Err e, ms') = (Err e, x)

abbrev pub next_by : ℕ → Option Batch → Table Batch × Table Member → Result (Option ℕ) Refusal × (Table Batch × Table Member)
next_by b None x = (Err Vacant, x)
next_by b (Some batch) (bs, ms) =
    cond (batch.remaining == 0) (Ok None, (bs, ms)) (next_in b batch.remaining (bs, ms) (insert Idle ms))

abbrev pub next : ℕ → Table Batch × Table Member → Result (Option ℕ) Refusal × (Table Batch × Table Member)
next b x = next_by b (get b x.0) x

-- ── leaving ──

-- the counts after a withdrawal of so many, of whom so many were unarrived, by the advance rule; the place is freed
abbrev pub withdrawn : {A W T : Type 0} → A → Table T → Phaser W × Due → Result A Refusal × Parts W T
withdrawn answer t (p, due) = (Ok answer, (p, t, due))

-- shed: vacant; miscounted only if some remain
abbrev pub shed_by : {W : Type 0} → Kind W → ℕ → Option Batch → Parts W Batch → Result (Unit {0}) Refusal × Parts W Batch
shed_by k b None x = (Err Vacant, x)
shed_by k b (Some batch) (p, bs, due) =
    cond (batch.remaining == 0)
    (Ok tt, (p, (remove b bs).1, due))
    (refuse Miscounted (nat_lt p.tally.unarrived batch.remaining) (p, bs, due)
    (withdrawn tt (remove b bs).1 (settle k (counted (p.tally.registered - batch.remaining) (p.tally.unarrived - batch.remaining) p) due)))

abbrev pub shed : {W : Type 0} → Kind W → ℕ → Parts W Batch → Result (Unit {0}) Refusal × Parts W Batch
shed k b x = shed_by k b (get b x.1) x

-- deregister, drop: vacant, in flight, miscounted
abbrev pub miscounts : Bool → Tally → Bool
miscounts arrived c = c.registered == 0 || cond arrived (c.unarrived == c.registered) (c.unarrived == 0)

abbrev pub lowered : Bool → ℕ → ℕ
lowered arrived u = cond arrived u (u - 1)

abbrev pub withdraw : {A W : Type 0} → Kind W → ℕ → A → Bool → Parts W Member → Result A Refusal × Parts W Member
withdraw k place answer arrived (p, ms, due) =
    refuse Miscounted (miscounts arrived p.tally) (p, ms, due)
    (withdrawn answer (remove place ms).1 (settle k (counted (p.tally.registered - 1) (lowered arrived p.tally.unarrived) p) due))

abbrev pub leave_by : {A W : Type 0} → Kind W → ℕ → A → Option Member → Parts W Member → Result A Refusal × Parts W Member
leave_by k place answer None x = (Err Vacant, x)
leave_by k place answer (Some Idle) x = withdraw k place answer false x
leave_by k place answer (Some (Pending n)) x = withdraw k place answer (n == x.0.tally.phase) x
leave_by k place answer (Some (InFlight n slot)) x = (Err refusal.InFlight, x)

-- the phase before, or closed, having withdrawn all the same
abbrev pub departure : Tally → Departed
departure c = cond c.closed departed.Closed (departed.Left c.phase)

abbrev pub deregister : {W : Type 0} → Kind W → ℕ → Parts W Member → Result Departed Refusal × Parts W Member
deregister k place x = leave_by k place (departure x.0.tally) (get place x.1) x

abbrev pub leave : {W : Type 0} → Kind W → ℕ → Parts W Member → Result (Unit {0}) Refusal × Parts W Member
leave k place x = leave_by k place tt (get place x.1) x

-- ── arriving ──

-- an arrival breaks the counts
abbrev pub arrival_miscounts : Bool → Tally → Bool
arrival_miscounts already c = c.registered == 0 || (not already && c.unarrived == 0)

-- how many are unarrived after an arrival
abbrev pub unarrived_after : Bool → Tally → Result ℕ Refusal
unarrived_after already c = cond (arrival_miscounts already c) (Err Miscounted) (Ok (lowered already c.unarrived))

-- arrive: vacant, in flight, closed, miscounted. A member that counts as arrived lowers nothing
abbrev pub arrived : {W : Type 0} → ℕ → Table Member → Phaser W × Due → Result ℕ Refusal × Parts W Member
arrived phase ms (p, due) = (Ok phase, (p, ms, due))

abbrev pub arrive_as : {W : Type 0} → Kind W → ℕ → Bool → Parts W Member → Result ℕ Refusal × Parts W Member
arrive_as k place already (p, ms, due) =
    refuse Closed p.tally.closed (p, ms, due)
    (refuse Miscounted (arrival_miscounts already p.tally) (p, ms, due)
    (arrived p.tally.phase (replace place (Pending p.tally.phase) ms).1 (settle k (counted p.tally.registered (lowered already p.tally.unarrived) p) due)))

abbrev pub arrive_by : {W : Type 0} → Kind W → ℕ → Option Member → Parts W Member → Result ℕ Refusal × Parts W Member
arrive_by k place None x = (Err Vacant, x)
arrive_by k place (Some Idle) x = arrive_as k place false x
arrive_by k place (Some (Pending n)) x = arrive_as k place (n == x.0.tally.phase) x
arrive_by k place (Some (InFlight n slot)) x = (Err refusal.InFlight, x)

abbrev pub arrive : {W : Type 0} → Kind W → ℕ → Parts W Member → Result ℕ Refusal × Parts W Member
arrive k place x = arrive_by k place (get place x.1) x

-- poll: vacant, unknown task; miscounted on a first arrival; no slot

-- with nothing pending the member arrives first, or is answered closed; a refusal leaves all as it was
abbrev pub kept : {W : Type 0} → Phaser W × Due → Due → Result Outcome Refusal × Phaser W → Result Outcome Refusal × (Phaser W × Due)
kept x due (Ok o, p) = (Ok o, (p, due))
kept x due (Err e, p) = (Err e, x)

abbrev pub after_arrival : {W : Type 0} → Kind W → ℕ → ℕ → W → Phaser W × Due → Phaser W × Due → Result Outcome Refusal × (Phaser W × Due)
after_arrival k place phase w x (p, due) = kept x due (complete k.waking.wakes phase None (wait_of table.Members place) w p)

abbrev pub first_poll : {W : Type 0} → Kind W → ℕ → W → Phaser W × Due → Result Outcome Refusal × (Phaser W × Due)
first_poll k place w (p, due) =
    cond p.tally.closed
    (Ok outcome.Closed, (p, due))
    (refuse Miscounted (p.tally.unarrived == 0) (p, due)
    (after_arrival k place p.tally.phase w (p, due) (settle k (counted p.tally.registered (p.tally.unarrived - 1) p) due)))

-- what the host is told
abbrev pub told : Outcome → Polled
told (outcome.Ready phase) = polled.Ready phase
told outcome.Closed = polled.Closed
told (outcome.Parked slot) = polled.Parked

-- the member then: ready clears what was pending, closed keeps it (and a first poll that is answered closed arrived nowhere)
abbrev pub member_after : Member → ℕ → Outcome → Member
member_after before phase (outcome.Ready n) = Idle
member_after before phase outcome.Closed = before
member_after before phase (outcome.Parked slot) = InFlight phase slot

abbrev pub polled_by : {W : Type 0} → ℕ → Member → ℕ → Parts W Member → Result Outcome Refusal × (Phaser W × Due) → Result Polled Refusal × Parts W Member
polled_by place before phase x (Ok o, (p, due)) = (Ok (told o), (p, (replace place (member_after before phase o) x.1).1, due))
polled_by place before phase x (Err e, y) = (Err e, x)

abbrev pub beside : {W : Type 0} → Due → Result Outcome Refusal × Phaser W → Result Outcome Refusal × (Phaser W × Due)
beside due (r, p) = (r, (p, due))

abbrev pub poll_as : {W : Type 0} → Kind W → ℕ → W → Member → Parts W Member → Result Polled Refusal × Parts W Member
poll_as k place w Idle (p, ms, due) =
    polled_by place Idle p.tally.phase (p, ms, due) (first_poll k place w (p, due))
poll_as k place w (Pending n) (p, ms, due) =
    polled_by place (Pending n) n (p, ms, due) (beside due (complete k.waking.wakes n None (wait_of table.Members place) w p))
poll_as k place w (InFlight n slot) (p, ms, due) =
    polled_by place (Pending n) n (p, ms, due) (beside due (complete k.waking.wakes n (Some slot) (wait_of table.Members place) w p))

abbrev pub poll_by : {W : Type 0} → Kind W → ℕ → W → Option Member → Parts W Member → Result Polled Refusal × Parts W Member
poll_by k place w None x = (Err Vacant, x)
poll_by k place w (Some m) x = refuse UnknownTask (not (nat_lt (k.waking.target w) k.known)) x (poll_as k place w m x)

abbrev pub poll : {W : Type 0} → Kind W → ℕ → W → Parts W Member → Result Polled Refusal × Parts W Member
poll k place w x = poll_by k place w (get place x.1) x

-- cancel: vacant. Ends the flight and keeps what is pending
abbrev pub cancel_by : {W : Type 0} → ℕ → Option Member → Phaser W × Table Member → Result (Unit {0}) Refusal × (Phaser W × Table Member)
cancel_by place None x = (Err Vacant, x)
cancel_by place (Some Idle) x = (Ok tt, x)
cancel_by place (Some (Pending n)) x = (Ok tt, x)
cancel_by place (Some (InFlight n slot)) (p, ms) =
    (Ok tt, (record { tally = p.tally; waiting = (unregister (Some slot) (wait_of table.Members place) p.waiting).1 }, (replace place (Pending n) ms).1))

abbrev pub cancel : {W : Type 0} → ℕ → Phaser W × Table Member → Result (Unit {0}) Refusal × (Phaser W × Table Member)
cancel place x = cancel_by place (get place x.1) x
