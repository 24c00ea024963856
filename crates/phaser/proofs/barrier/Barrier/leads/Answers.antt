use Rattle.std.proofs.Common.{◌+◌, ◌^◌, ◌<◌, arith, rules}
use Rattle.phaser.proofs.barrier.Barrier.leads.Goals as goal

pub overflow_add-result : goal.overflow_add-result
overflow_add-result g c =
    let fits : c.self.inside.arrived + 1 < 2 ^ 32 = omega (arith, c.self.invariant, c.max-size.ensures, c.max-size.type_inv) in
    search rules
