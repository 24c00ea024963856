use Rattle.std.proofs.Common.{lit<, rules}
use Rattle.stations.specs.declared.answer.Answer.TheVariants as answer
use Rattle.stations.specs.Model.{station_of}
use Rattle.stations.specs.Steps.{no_value, place_or_none, polling, departing, meeting, attending, with_members, with_batches, with_batches_members, with_watchers, with_followers, beside}
use Rattle.stations.proofs.Layouts.{phaser_fits, barrier_fits}
use Rattle.stations.proofs.Told.{told}
use Rattle.stations.proofs.whole.Station.perform.Goals as goal

pub returns-in-RegisterOne : goal.returns-in-RegisterOne
returns-in-RegisterOne g c =
    let s = station_of g.B.Bell.meaning c.args.self.now in
    rw c.in-RegisterOne.is (told answer.Place (λ x. with_members s (beside s.due x)) c.into.ensures c.register_one.ensures)

pub returns-in-Register : goal.returns-in-Register
returns-in-Register g c =
    let s = station_of g.B.Bell.meaning c.args.self.now in
    rw c.in-Register.is (told answer.Place (λ x. with_batches s (beside s.due x)) c.into-in-Register.ensures c.register.ensures)

pub returns-in-Next : goal.returns-in-Next
returns-in-Next g c =
    let s = station_of g.B.Bell.meaning c.args.self.now in
    rw c.in-Next.is (told place_or_none (with_batches_members s) c.into-in-Next.ensures c.next.ensures)

pub returns-in-Shed : goal.returns-in-Shed
returns-in-Shed g c =
    let s = station_of g.B.Bell.meaning c.args.self.now in
    rw c.in-Shed.is (told no_value (with_batches s) c.into-in-Shed.ensures c.shed.ensures)

pub returns-in-Arrive : goal.returns-in-Arrive
returns-in-Arrive g c =
    let s = station_of g.B.Bell.meaning c.args.self.now in
    rw c.in-Arrive.is (told answer.Number (with_members s) c.into-in-Arrive.ensures c.arrive.ensures)

pub returns-in-Poll : goal.returns-in-Poll
returns-in-Poll g c =
    let s = station_of g.B.Bell.meaning c.args.self.now in
    rw c.in-Poll.is (told polling (with_members s) c.into-in-Poll.ensures c.poll.ensures)

pub returns-in-Cancel : goal.returns-in-Cancel
returns-in-Cancel g c =
    let s = station_of g.B.Bell.meaning c.args.self.now in
    rw c.in-Cancel.is (told no_value (λ x. with_members s (beside s.due x)) c.into-in-Cancel.ensures c.cancel.ensures)

pub returns-in-Deregister : goal.returns-in-Deregister
returns-in-Deregister g c =
    let s = station_of g.B.Bell.meaning c.args.self.now in
    rw c.in-Deregister.is (told departing (with_members s) c.into-in-Deregister.ensures c.deregister.ensures)

pub returns-in-Drop : goal.returns-in-Drop
returns-in-Drop g c =
    let s = station_of g.B.Bell.meaning c.args.self.now in
    rw c.in-Drop.is (told no_value (with_members s) c.into-in-Drop.ensures c.leave.ensures)

pub returns-in-Watch : goal.returns-in-Watch
returns-in-Watch g c =
    let s = station_of g.B.Bell.meaning c.args.self.now in
    rw c.in-Watch.is (told answer.Place (λ vs. with_watchers s (s.phaser, vs)) c.into-in-Watch.ensures c.watch.ensures)

pub returns-in-Look : goal.returns-in-Look
returns-in-Look g c =
    let s = station_of g.B.Bell.meaning c.args.self.now in
    rw c.in-Look.is (told polling (with_watchers s) c.into-in-Look.ensures c.look.ensures)

pub returns-in-Unwatch : goal.returns-in-Unwatch
returns-in-Unwatch g c =
    let s = station_of g.B.Bell.meaning c.args.self.now in
    rw c.in-Unwatch.is (told no_value (with_watchers s) c.into-in-Unwatch.ensures c.unwatch.ensures)

pub returns-in-Meet : goal.returns-in-Meet
returns-in-Meet g c =
    let s = station_of g.B.Bell.meaning c.args.self.now in
    rw c.in-Meet.is (told meeting (with_followers s) c.into-in-Meet.ensures c.meet.ensures)

pub returns-in-Attend : goal.returns-in-Attend
returns-in-Attend g c =
    let s = station_of g.B.Bell.meaning c.args.self.now in
    rw c.in-Attend.is (told attending (λ x. with_followers s (beside s.due x)) c.into-in-Attend.ensures c.attend.ensures)

-- The sizes one by one: with the two lemmas handed to `perform` by `using`, the check had not ended after twice its time.
pub register_one-requires : goal.register_one-requires
register_one-requires g c = (phaser_fits g.row.B g.row.W (search rules), lit< tt)

pub register-requires : goal.register-requires
register-requires g c = (phaser_fits g.row.B g.row.W (search rules), lit< tt)

pub shed-requires : goal.shed-requires
shed-requires g c = (phaser_fits g.row.B g.row.W (search rules), lit< tt)

pub arrive-requires : goal.arrive-requires
arrive-requires g c = (phaser_fits g.row.B g.row.W (search rules), lit< tt)

pub poll-requires : goal.poll-requires
poll-requires g c = (phaser_fits g.row.B g.row.W (search rules), lit< tt)

pub cancel-requires : goal.cancel-requires
cancel-requires g c = (phaser_fits g.row.B g.row.W (search rules), lit< tt)

pub deregister-requires : goal.deregister-requires
deregister-requires g c = (phaser_fits g.row.B g.row.W (search rules), lit< tt)

pub leave-requires : goal.leave-requires
leave-requires g c = (phaser_fits g.row.B g.row.W (search rules), lit< tt)

pub look-requires : goal.look-requires
look-requires g c = (phaser_fits g.row.B g.row.W (search rules), lit< tt)

pub unwatch-requires : goal.unwatch-requires
unwatch-requires g c = (phaser_fits g.row.B g.row.W (search rules), lit< tt)

pub close-requires : goal.close-requires
close-requires g c = phaser_fits g.row.B g.row.W (search rules)

pub phase-requires : goal.phase-requires
phase-requires g c = phaser_fits g.row.B g.row.W (search rules)

pub is_closed-requires : goal.is_closed-requires
is_closed-requires g c = phaser_fits g.row.B g.row.W (search rules)

pub registered-requires : goal.registered-requires
registered-requires g c = phaser_fits g.row.B g.row.W (search rules)

pub arrived-requires : goal.arrived-requires
arrived-requires g c = phaser_fits g.row.B g.row.W (search rules)

pub unarrived-requires : goal.unarrived-requires
unarrived-requires g c = phaser_fits g.row.B g.row.W (search rules)

pub meet-requires : goal.meet-requires
meet-requires g c = (barrier_fits g.row.B g.row.W (search rules), lit< tt)

pub attend-requires : goal.attend-requires
attend-requires g c = (barrier_fits g.row.B g.row.W (search rules), lit< tt)

pub generation-requires : goal.generation-requires
generation-requires g c = barrier_fits g.row.B g.row.W (search rules)
