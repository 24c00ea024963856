-- The number by which each refusal is known outside. Assumes nothing.
use Rattle.std.specs.Prelude.{ℕ}
use Rattle.bells.specs.declared.refusal.Refusal.{Refusal}
use Rattle.bells.specs.declared.refusal.Refusal.TheVariants.{Closed, CountOverflow, TableFull, Vacant, UnknownTask, InFlight, NoSlot, Miscounted, LastGeneration, SizeOutside}

abbrev pub number_of : Refusal → ℕ
number_of Closed = 1
number_of CountOverflow = 2
number_of TableFull = 3
number_of Vacant = 4
number_of UnknownTask = 5
number_of InFlight = 6
number_of NoSlot = 7
number_of Miscounted = 8
number_of LastGeneration = 9
number_of SizeOutside = 10
