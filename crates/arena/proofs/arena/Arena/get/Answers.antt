use Rattle.std.proofs.Common.{◌<◌, ◌≤◌, sym, ◌∙◌, arith}
use Rattle.std.proofs.lemmas.List.{length-take-le, get_or-take}
use Rattle.arena.specs.Arenas.{shown, table_of}
use Rattle.arena.proofs.Places.{at_past, at_read}
use Rattle.arena.proofs.Steps.{length-shown}
use Rattle.arena.proofs.arena.Arena.get.Goals as goal

pub returns-in_err-get : goal.returns-in_err-get
unfolding table_of
returns-in_err-get g c =
    let a = c.self.inside in
    let w = c.self.invariant in
    let n = length-take-le a.used a.slots.all (omega (arith, w.within.1, w.sized.0, w.sized.1)) in
    let h : a.used ≤ c.args.place = omega (arith, n, c.in_err-get.ensures.lookup) in
    rw (← c.self.view_is, c.from_residual.ensures) (at_past (shown a) a.used c.args.place h)

pub returns : goal.returns
unfolding table_of
returns g c =
    let a = c.self.inside in
    let w = c.self.invariant in
    let p = c.args.place in
    let x = c.in_ok-get.field-0.now in
    let k = c.in_ok-get.ensures.lookup in
    let n = length-take-le a.used a.slots.all (omega (arith, w.within.1, w.sized.0, w.sized.1)) in
    let h : p < a.used = omega (arith, n, k) in
    let e = k.1 ∙ get_or-take a.used a.slots.all p x h ∙ sym (get_or-take a.capacity a.slots.all p x (omega (arith, w.within.1))) in
    rw (← c.self.view_is, c.value.ensures) (sym (at_read (shown a) a.used p x h (omega (arith, w.within.1, length-shown a w)) e))
