use Rattle.std.proofs.Common.{rules}
use Rattle.stations.proofs.Layouts.{phaser_fits, barrier_fits}
use Rattle.stations.proofs.whole.Station.members.Goals as goal

pub arrived-requires : goal.arrived-requires
arrived-requires g c = phaser_fits g.row.B g.row.W (search rules)

pub unarrived-requires : goal.unarrived-requires
unarrived-requires g c = phaser_fits g.row.B g.row.W (search rules)

pub generation-requires : goal.generation-requires
generation-requires g c = barrier_fits g.row.B g.row.W (search rules)

pub waiting-requires : goal.waiting-requires
waiting-requires g c = phaser_fits g.row.B g.row.W (search rules)

pub waiting-requires-2 : goal.waiting-requires-2
waiting-requires-2 g c = barrier_fits g.row.B g.row.W (search rules)

pub returns : goal.returns
returns g c =
    record {
      count = c.len-4.ensures.count;
      kept = record {
        within = c.arrived.ensures.within;
        awaited = c.unarrived.ensures.awaited;
        to_come = c.generation.ensures.to_come;
        phaser_waiting = record { fits = c.waiting.ensures.fits; sound = c.waiting.ensures.sound; complete = c.waiting.ensures.complete };
        barrier_waiting = record { fits = c.waiting-2.ensures.fits; sound = c.waiting-2.ensures.sound; complete = c.waiting-2.ensures.complete };
        members = record { fits = c.len-4.ensures.fits; sound = c.len-4.ensures.sound; complete = c.len-4.ensures.complete };
        batches = record { fits = c.len.ensures.fits; sound = c.len.ensures.sound; complete = c.len.ensures.complete };
        watchers = record { fits = c.len-2.ensures.fits; sound = c.len-2.ensures.sound; complete = c.len-2.ensures.complete };
        followers = record { fits = c.len-3.ensures.fits; sound = c.len-3.ensures.sound; complete = c.len-3.ensures.complete };
      };
    }
