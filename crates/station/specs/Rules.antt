-- The rules of the parts of a station: what opening one makes, and what a call answers and leaves. Assumes nothing.
use Rattle.std.specs.Prelude.{ℕ, ◌-◌, true, false}
use Rattle.bells.specs.Due.{none_due}
use Rattle.station.specs.Model.{Phaser, Barrier, Station}

-- an open phaser with no members
abbrev pub new_phaser : ℕ → Phaser
new_phaser phase = record { phase = phase; closed = false; registered = 0; unarrived = 0 }

-- a barrier at which nobody has met
abbrev pub new_barrier : ℕ → ℕ → Barrier
new_barrier n generation = record { n = n; generation = generation; arrived = 0 }

abbrev pub opened : ℕ → ℕ → ℕ → Station
opened n phase generation = record { phaser = new_phaser phase; barrier = new_barrier n generation; due = none_due }

-- closing changes only the mark, so that a second time does nothing
abbrev pub closes : Phaser → Phaser
closes p = record { phase = p.phase; closed = true; registered = p.registered; unarrived = p.unarrived }

abbrev pub has_arrived : Phaser → ℕ
has_arrived p = p.registered - p.unarrived
