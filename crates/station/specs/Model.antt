-- What a station is: its parts as plain records. Assumes nothing.
use Rattle.std.specs.Prelude.{ℕ, Bool}
use Rattle.bells.specs.Due.{Due}

-- the phase, and how many members there are and have not arrived in it
pub record Phaser : Type 0 where
  pub phase : ℕ
  pub closed : Bool
  pub registered : ℕ
  pub unarrived : ℕ

-- how many hosts meet, the present generation, and how many have met in it
pub record Barrier : Type 0 where
  pub n : ℕ
  pub generation : ℕ
  pub arrived : ℕ

pub record Station : Type 0 where
  pub phaser : Phaser
  pub barrier : Barrier
  pub due : Due
