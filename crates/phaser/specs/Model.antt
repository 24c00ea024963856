-- What a phaser and a barrier are: plain records, and the counts as one. Assumes nothing.
use Rattle.std.specs.Prelude.{ℕ, Bool}
use Rattle.arena.specs.declared.wait.Entry.{Entry}
use Rattle.arena.specs.Table.{Table}
use Rattle.phaser.specs.declared.counts.Counts.{Counts}

-- the phase, whether it is closed, how many members there are, and how many of them have not arrived in the phase
pub record Tally : Type 0 where
  pub phase : ℕ
  pub closed : Bool
  pub registered : ℕ
  pub unarrived : ℕ

-- a phaser with the entries of those who wait for its phase to move on
pub record Phaser (W : Type 0) : Type 0 where
  pub tally : Tally
  pub waiting : Table (Entry W)

-- a barrier of n hosts: the generation, how many have met in it, and the entries of those who wait for the others
pub record Barrier (W : Type 0) : Type 0 where
  pub n : ℕ
  pub generation : ℕ
  pub arrived : ℕ
  pub waiting : Table (Entry W)

abbrev pub tally_of : Counts → Tally
tally_of c = record { phase = c.phase; closed = c.closed; registered = c.registered; unarrived = c.unarrived }
