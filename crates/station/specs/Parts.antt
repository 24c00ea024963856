-- The parts of a station together, as a plain record. Assumes nothing.
use Rattle.bells.specs.Due.{Due}
use Rattle.station.specs.declared.whole.Station.{Station as Parts}
use Rattle.station.specs.Model.{Station}

-- the bell means the tasks that it has due
abbrev pub station_of : {B : Type 0} → (B → Due) → Parts B → Station
station_of meaning s = record { phaser = s.phaser; barrier = s.barrier; due = meaning s.bell }
