-- What a station answers to each call, and what the call leaves of it. Assumes nothing.
use Rattle.std.specs.Prelude.{ℕ, ◌-◌, Bool, cond, Some, None, Ok, Err, Option, Result, nat_lt}
use Rattle.bells.specs.declared.refusal.Refusal.{Refusal}
use Rattle.bells.specs.declared.refusal.Refusal.TheVariants.{UnknownTask}
use Rattle.bells.specs.Due.{Due, is_due, collected, how_many}
use Rattle.bells.specs.Kind.{Kind}
use Rattle.arena.specs.Table.{Table}
use Rattle.phaser.specs.declared.follower.Follower.{Follower}
use Rattle.phaser.specs.declared.member.Batch.{Batch}
use Rattle.phaser.specs.declared.member.Member.{Member}
use Rattle.phaser.specs.declared.outcome.Attended.{Attended}
use Rattle.phaser.specs.declared.outcome.Attended.TheVariants as attended
use Rattle.phaser.specs.declared.outcome.Departed.{Departed}
use Rattle.phaser.specs.declared.outcome.Departed.TheVariants as departed
use Rattle.phaser.specs.declared.outcome.Met.{Met}
use Rattle.phaser.specs.declared.outcome.Met.TheVariants as met
use Rattle.phaser.specs.declared.outcome.Polled.{Polled}
use Rattle.phaser.specs.declared.outcome.Polled.TheVariants as polled
use Rattle.phaser.specs.declared.watcher.Watcher.{Watcher}
use Rattle.phaser.specs.Model.{Phaser, Barrier}
use Rattle.phaser.specs.Rules as rules
use Rattle.phaser.specs.Members as members
use Rattle.phaser.specs.Watchers as watchers
use Rattle.phaser.specs.Barriers as barriers
use Rattle.stations.specs.declared.answer.Answer.{Answer}
use Rattle.stations.specs.declared.answer.Answer.TheVariants as answer
use Rattle.stations.specs.declared.call.Call.{Call}
use Rattle.stations.specs.declared.call.Call.TheVariants as call
use Rattle.stations.specs.Model.{Station}

-- the answer that a result stands for
abbrev pub answered : {A : Type 0} → (A → Answer) → Result A Refusal → Answer
answered say (Ok a) = say a
answered say (Err e) = answer.Refused e

abbrev pub no_value : Unit {0} → Answer
no_value u = answer.Ok

abbrev pub place_or_none : Option ℕ → Answer
place_or_none (Some place) = answer.Place place
place_or_none None = answer.None

abbrev pub polling : Polled → Answer
polling (polled.Ready phase) = answer.Ready phase
polling polled.Closed = answer.Closed
polling polled.Parked = answer.Parked

abbrev pub departing : Departed → Answer
departing (departed.Left phase) = answer.Number phase
departing departed.Closed = answer.Closed

abbrev pub meeting : Met → Answer
meeting met.Leader = answer.Leader
meeting (met.Parked place) = answer.ParkedAt place

abbrev pub attending : Attended → Answer
attending attended.Done = answer.Done
attending attended.Parked = answer.Parked

abbrev pub yes_or_no : Bool → Answer
yes_or_no b = cond b answer.Yes answer.No

-- a station with other parts
module _ {W : Type 0} (s : Station W) where
  abbrev pub with_members : Phaser W × Table Member × Due → Station W
  with_members (p, ms, due) =
      record { phaser = p; barrier = s.barrier; members = ms; batches = s.batches; watchers = s.watchers; followers = s.followers; due = due }

  abbrev pub with_batches : Phaser W × Table Batch × Due → Station W
  with_batches (p, bs, due) =
      record { phaser = p; barrier = s.barrier; members = s.members; batches = bs; watchers = s.watchers; followers = s.followers; due = due }

  abbrev pub with_batches_members : Table Batch × Table Member → Station W
  with_batches_members (bs, ms) =
      record { phaser = s.phaser; barrier = s.barrier; members = ms; batches = bs; watchers = s.watchers; followers = s.followers; due = s.due }

  abbrev pub with_watchers : Phaser W × Table Watcher → Station W
  with_watchers (p, vs) =
      record { phaser = p; barrier = s.barrier; members = s.members; batches = s.batches; watchers = vs; followers = s.followers; due = s.due }

  abbrev pub with_followers : Barrier W × Table Follower × Due → Station W
  with_followers (b, fs, due) =
      record { phaser = s.phaser; barrier = b; members = s.members; batches = s.batches; watchers = s.watchers; followers = fs; due = due }

  abbrev pub with_due : Due → Station W
  with_due due =
      record { phaser = s.phaser; barrier = s.barrier; members = s.members; batches = s.batches; watchers = s.watchers; followers = s.followers; due = due }

-- a result with parts, told as an answer with a station
abbrev pub tell : {A P S : Type 0} → (A → Answer) → (P → S) → Result A Refusal × P → Answer × S
tell say place (r, x) = (answered say r, place x)

-- parts with what is due beside them
abbrev pub beside : {P T : Type 0} → Due → P × T → P × T × Due
beside due (p, t) = (p, t, due)

abbrev pub closed : {W : Type 0} → Station W → Phaser W × Due → Station W
closed s (p, due) = with_members s (p, s.members, due)

-- collect: unknown task; takes the task alone out
abbrev pub collect : {W : Type 0} → Kind W → ℕ → Station W → Answer × Station W
collect k task s =
    cond (nat_lt task k.known) (yes_or_no (is_due s.due task), with_due s (collected task s.due)) (answer.Refused UnknownTask, s)

abbrev pub step : {W : Type 0} → Kind W → Call W → Station W → Answer × Station W
step k call.RegisterOne s = tell answer.Place (λ x. with_members s (beside s.due x)) (members.register_one (s.phaser, s.members))
step k (call.Register parties) s = tell answer.Place (λ x. with_batches s (beside s.due x)) (members.register parties (s.phaser, s.batches))
step k (call.Next place) s = tell place_or_none (with_batches_members s) (members.next place (s.batches, s.members))
step k (call.Shed place) s = tell no_value (with_batches s) (members.shed k place (s.phaser, s.batches, s.due))
step k (call.Arrive place) s = tell answer.Number (with_members s) (members.arrive k place (s.phaser, s.members, s.due))
step k (call.Poll place w) s = tell polling (with_members s) (members.poll k place w (s.phaser, s.members, s.due))
step k (call.Cancel place) s = tell no_value (λ x. with_members s (beside s.due x)) (members.cancel place (s.phaser, s.members))
step k (call.Deregister place) s = tell departing (with_members s) (members.deregister k place (s.phaser, s.members, s.due))
step k (call.Drop place) s = tell no_value (with_members s) (members.leave k place (s.phaser, s.members, s.due))
step k call.Close s = (answer.Ok, closed s (rules.close k s.phaser s.due))
step k (call.Watch observed) s = tell answer.Place (λ vs. with_watchers s (s.phaser, vs)) (watchers.watch observed s.watchers)
step k (call.Look place w) s = tell polling (with_watchers s) (watchers.look k place w (s.phaser, s.watchers))
step k (call.Unwatch place) s = tell no_value (with_watchers s) (watchers.unwatch place (s.phaser, s.watchers))
step k (call.Collect task) s = collect k task s
step k call.Phase s = (answer.Number s.phaser.tally.phase, s)
step k call.IsClosed s = (yes_or_no s.phaser.tally.closed, s)
step k call.Registered s = (answer.Number s.phaser.tally.registered, s)
step k call.Arrived s = (answer.Number (s.phaser.tally.registered - s.phaser.tally.unarrived), s)
step k call.Unarrived s = (answer.Number s.phaser.tally.unarrived, s)
step k call.Generation s = (answer.Number s.barrier.generation, s)
step k call.Tally s = (answer.Number (how_many k.known s.due), s)
step k (call.Meet w) s = tell meeting (with_followers s) (barriers.meet k w (s.barrier, s.followers, s.due))
step k (call.Attend place w) s = tell attending (λ x. with_followers s (beside s.due x)) (barriers.attend k place w (s.barrier, s.followers))
