-- What a station answers to each call, and what the call leaves of it. Assumes nothing.
use Rattle.std.specs.Prelude.{ℕ}
use Rattle.bells.specs.Due.{how_many}
use Rattle.stations.specs.declared.answer.Answer.{Answer}
use Rattle.stations.specs.declared.answer.Answer.TheVariants as answer
use Rattle.station.specs.declared.call.Call.{Call}
use Rattle.station.specs.declared.call.Call.TheVariants as call
use Rattle.station.specs.Model.{Phaser, Station}
use Rattle.station.specs.Rules.{closes, has_arrived}
use Rattle.stations.specs.Steps.{yes_or_no}

abbrev pub with_phaser : Phaser → Station → Station
with_phaser p s = record { phaser = p; barrier = s.barrier; due = s.due }

-- `known` is how many tasks the bell knows
abbrev pub step : ℕ → Call → Station → Answer × Station
step known call.Close s = (answer.Ok, with_phaser (closes s.phaser) s)
step known call.Phase s = (answer.Number s.phaser.phase, s)
step known call.IsClosed s = (yes_or_no s.phaser.closed, s)
step known call.Registered s = (answer.Number s.phaser.registered, s)
step known call.Arrived s = (answer.Number (has_arrived s.phaser), s)
step known call.Unarrived s = (answer.Number s.phaser.unarrived, s)
step known call.Generation s = (answer.Number s.barrier.generation, s)
step known call.Tally s = (answer.Number (how_many known s.due), s)
