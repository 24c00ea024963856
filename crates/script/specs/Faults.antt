-- The number by which each fault is known outside. Assumes nothing.
use Rattle.std.specs.Prelude.{ℕ}
use Rattle.script.specs.declared.fault.Fault.{Fault}
use Rattle.script.specs.declared.fault.Fault.TheVariants as fault

abbrev pub fault_number : Fault → ℕ
fault_number fault.FirstLine = 11
fault_number fault.UnknownCall = 12
fault_number fault.Malformed = 13
fault_number fault.Unfit = 14
fault_number fault.OpenOrder = 15
