use Rattle.std.proofs.Common.{rules}
use Rattle.script.proofs.Requested.{found_or, missing_or}
use Rattle.script.proofs.request.named.Goals as goal

pub returns-in-Name-clause-name : goal.returns-in-Name-clause-name
returns-in-Name-clause-name c = let h = found_or _ _ _ c.try_from.ensures in search rules

pub returns-in-Name-clause-fault : goal.returns-in-Name-clause-fault
returns-in-Name-clause-fault c = missing_or _ _ _ c.try_from.ensures
