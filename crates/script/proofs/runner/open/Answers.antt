use Rattle.std.proofs.Common.{rules}
use Rattle.script.proofs.Requested.{opening-fits}
use Rattle.script.proofs.runner.open.Goals as goal

pub overflow_cast-request : goal.overflow_cast-request
overflow_cast-request g c =
    let fits = opening-fits c.args.line.now c.in_ok-request.request (search rules) (search rules) in
    search rules
