-- What every station keeps, whatever was called on it. Assumes nothing.
use Rattle.std.specs.Prelude.{◌≡◌, ℕ, ◌<◌, ◌≤◌, false, length, max}
use Rattle.arena.specs.Sound.{Sound, Complete}
use Rattle.arena.specs.Table.{Table}
use Rattle.stations.specs.Model.{Station}

-- a table of at most so many places, of which the vacant ones are known
pub record Intact {T : Type 0} (places : ℕ) (t : Table T) : Type 0 where
  pub fits : length t.cells ≤ places
  pub sound : Sound t
  pub complete : Complete t

pub record Kept {W : Type 0} (s : Station W) : Type 0 where
  pub within : s.phaser.tally.unarrived ≤ s.phaser.tally.registered
  -- open with members, somebody is still to arrive
  pub awaited : s.phaser.tally.closed ≡ false → 0 < s.phaser.tally.registered → 0 < s.phaser.tally.unarrived
  -- of those who make up a generation, one at least is still to meet
  pub to_come : s.barrier.arrived < max s.barrier.n 1
  pub phaser_waiting : Intact 1024 s.phaser.waiting
  pub barrier_waiting : Intact 1024 s.barrier.waiting
  pub members : Intact 512 s.members
  pub batches : Intact 64 s.batches
  pub watchers : Intact 512 s.watchers
  pub followers : Intact 512 s.followers
