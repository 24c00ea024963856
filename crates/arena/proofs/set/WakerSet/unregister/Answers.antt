use Rattle.std.proofs.Common.{Some, sym}
use Rattle.arena.proofs.Parks.{left, stays}
use Rattle.arena.proofs.set.WakerSet.unregister.Goals as goal

pub returns-in_err-old : goal.returns-in_err-old
returns-in_err-old g c =
    let k = stays (Some c.in_ok-slot.slot) c.args.owner c.args.self.now (sym c.in_err-old.ensures) in
    rw (c.from_residual-in_err-old.ensures, c.in_ok-slot.was) (record { step = k.0; law = k.1 })

pub returns-clause-law : goal.returns-clause-law
returns-clause-law g c =
    let h = rw (← c.self.view_is) at (sym c.in_ok-old.ensures) in
    rw (c.in_ok-slot.was, ← c.self.view_is) (left c.args.owner c.self.inside.entries c.in_ok-slot.slot c.in_ok-old.old h _ _ c.remove.ensures.law)
