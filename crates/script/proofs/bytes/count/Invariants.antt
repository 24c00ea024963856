use Rattle.std.proofs.Common.{◌≡◌, take}
use Rattle.script.specs.Bytes.{count}
use Rattle.script.proofs.bytes.count.Given as goal

abbrev pub invariant-loop-x : goal.invariant-loop-x
invariant-loop-x l = l.n ≡ count l.b (take l.x-index l.text)
