-- What a line asks for, or its fault. Assumes nothing.
use Rattle.std.specs.Prelude.{ℕ, cond, List, Some, None, Ok, Err, Option, Result, ◌==◌, nat_lt}
use Rattle.script.specs.declared.fault.Fault.{Fault}
use Rattle.script.specs.declared.fault.Fault.TheVariants as fault
use Rattle.script.specs.declared.name.Name.{Name}
use Rattle.script.specs.declared.request.Request.{Request}
use Rattle.script.specs.Bytes.{before, after, count, space}
use Rattle.script.specs.Fields.{Field, field}
use Rattle.script.specs.Names.{called, wants_of}

-- a field that is used holds a number of at most `most`; one that is not used holds a dash, and counts as 0
abbrev pub taken_from : Option ℕ → Field → Result ℕ Fault
taken_from None Field.dash = Ok 0
taken_from None (Field.number n) = Err fault.Malformed
taken_from None (Field.name text) = Err fault.Malformed
taken_from (Some most) Field.dash = Err fault.Malformed
taken_from (Some most) (Field.number n) = cond (nat_lt most n) (Err fault.Malformed) (Ok n)
taken_from (Some most) (Field.name text) = Err fault.Malformed

-- the call that the first field names
abbrev pub named_by : Field → Option Name
named_by (Field.name text) = called text
named_by (Field.number n) = None
named_by Field.dash = None

-- the first of the three fields that is at fault decides
abbrev pub asked : Name → Result ℕ Fault → Result ℕ Fault → Result ℕ Fault → Result Request Fault
asked n (Ok place) (Ok task) (Ok value) = Ok (record { name = n; place = place; task = task; value = value })
asked n (Ok place) (Ok task) (Err f) = Err f
asked n (Ok place) (Err f) value = Err f
asked n (Err f) task value = Err f

abbrev pub requested : Option Name → Field → Field → Field → Result Request Fault
requested None place task value = Err fault.UnknownCall
requested (Some n) place task value =
    asked n (taken_from (wants_of n).place place) (taken_from (wants_of n).task task) (taken_from (wants_of n).value value)

-- four fields, parted by exactly three spaces: the call's name, its place, its task and its value
abbrev pub request : List ℕ → Result Request Fault
request line =
    cond (count space line == 3)
    (let second = after space line in
    let third = after space second in
    let fourth = after space third in
    requested (named_by (field (before space line))) (field (before space second)) (field (before space third)) (field (before space fourth)))
    (Err fault.Malformed)
