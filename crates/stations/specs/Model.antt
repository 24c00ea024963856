-- What a station is: its parts as plain records. Assumes nothing.
use Rattle.bells.specs.Due.{Due}
use Rattle.arena.specs.Table.{Table}
use Rattle.phaser.specs.declared.follower.Follower.{Follower}
use Rattle.phaser.specs.declared.member.Batch.{Batch}
use Rattle.phaser.specs.declared.member.Member.{Member}
use Rattle.phaser.specs.declared.watcher.Watcher.{Watcher}
use Rattle.phaser.specs.Model.{Phaser, Barrier}
use Rattle.stations.specs.declared.whole.Station.{Station as Bundle}

pub record Station (W : Type 0) : Type 0 where
  pub phaser : Phaser W
  pub barrier : Barrier W
  pub members : Table Member
  pub batches : Table Batch
  pub watchers : Table Watcher
  pub followers : Table Follower
  pub due : Due

-- the bundle of parts, whose bell means the tasks that it has due
abbrev pub station_of : {B W : Type 0} → (B → Due) → Bundle B W → Station W
station_of meaning s =
    record {
      phaser = s.phaser;
      barrier = s.barrier;
      members = s.members;
      batches = s.batches;
      watchers = s.watchers;
      followers = s.followers;
      due = meaning s.bell;
    }
