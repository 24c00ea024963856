-- What a lamp means. Assumes nothing.
use Rattle.std.specs.Prelude.{Bool, cond}
use Rattle.bells.specs.Due.{Due, none_due, rung}

-- a lamp that is lit has been rung for its one task, which is 0
abbrev pub shining : Bool → Due
shining lit = cond lit (rung 1 0 none_due) none_due
