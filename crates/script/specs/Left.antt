-- The lines of a script that are left. Assumes nothing.
use Rattle.std.specs.Prelude.{ℕ, List}
use Rattle.script.specs.declared.lines.Lines.{Lines}
use Rattle.script.specs.Bytes.{lines}

abbrev pub left : Lines → List (List ℕ)
left l = lines l.rest.now
