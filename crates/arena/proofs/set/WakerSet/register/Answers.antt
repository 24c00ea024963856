use Rattle.std.proofs.Common.{◌≡◌, None, Ok, sym, ◌∙◌, arith}
use Rattle.std.proofs.lemmas.Result.{err_from_is_err_and}
use Rattle.bells.specs.declared.refusal.Refusal.TheVariants.{NoSlot}
use Rattle.arena.specs.Wakers.{own}
use Rattle.arena.proofs.Parks.{kept_parked, kept_step, renewed_parked, renewed_step, seats, seated_err}
use Rattle.arena.proofs.set.WakerSet.register.Goals as goal
use Rattle.arena.proofs.set.WakerSet.register.Goals.{in_default-via-in-Some+in_default, in_default-via-in_default, then-will_wake, else-will_wake}

pub returns-in_default : goal.returns-in_default
returns-in_default g c =
    let none : own c.args.remembered c.args.owner c.self.inside.entries ≡ None = rw c.self.view_is (elim c.in_default.branch [ in_default-via-in-Some+in_default w ↦ sym w.in_default.ensures | in_default-via-in_default w ↦ rw w.in_default.is-0 ]) in
    let q : c.insert.result ≡ Ok c.in_ok-slot.slot = grind arith in
    let k = seats c.args.owner c.args.waker c.self.inside.entries g.W.Waker.waking.target g.W.Waker.waking.wakes c.args.remembered (Ok c.in_ok-slot.slot) c.insert.new.self none (rw q at c.insert.ensures.step) (rw q at c.insert.ensures.law) in
    rw (← c.self.view_is) (record { step = k.0; law = k.1 })

pub returns-in_err-slot : goal.returns-in_err-slot
returns-in_err-slot g c =
    let none : own c.args.remembered c.args.owner c.self.inside.entries ≡ None = rw c.self.view_is (elim c.in_default.branch [ in_default-via-in-Some+in_default w ↦ sym w.in_default.ensures | in_default-via-in_default w ↦ rw w.in_default.is-0 ]) in
    let p = err_from_is_err_and c.from_residual.result c.from_residual.ensures.1 in
    let m = c.map_err.ensures.cases in
    let n : c.in_err-slot.field-0.0 ≡ NoSlot = grind arith in
    let e = seated_err c.insert.result c.insert.new.self (sym c.in_err-slot.ensures.variant) in
    let k = seats c.args.owner c.args.waker c.self.inside.entries g.W.Waker.waking.target g.W.Waker.waking.wakes c.args.remembered c.insert.result c.insert.new.self none c.insert.ensures.step c.insert.ensures.law in
    rw (p.1, p.2, n, ← c.self.view_is) (record { step = sym e ∙ k.0; law = rw e at k.1 })

pub returns : goal.returns
returns g c =
    let t = c.self.inside.entries in
    let h = rw (c.in-Some-Some.is-0, ← c.self.view_is) at (sym c.in-Some-Some.ensures) in
    elim c.if-will_wake.branch [
      | then-will_wake w ↦
          let q = sym w.if-will_wake.ensures in
          rw (c.in-Some-Some.is-0, w.self-is, w.replaced-is, ← c.self.view_is)
          (record {
            step = kept_step c.args.owner t c.in-Some-Some.slot c.in-Some-Some.old h g.W.Waker.waking.wakes c.args.waker q;
            law = kept_parked c.args.owner t c.in-Some-Some.slot c.in-Some-Some.old h g.W.Waker.waking.target c.args.waker (g.W.Waker.waking.same c.in-Some-Some.old c.args.waker q);
          })
      | else-will_wake w ↦
          rw (c.in-Some-Some.is-0, w.self-is, w.replaced-is, ← c.self.view_is)
          (record {
            step = renewed_step c.args.owner t c.in-Some-Some.slot c.in-Some-Some.old h g.W.Waker.waking.wakes c.args.waker _ _ (sym w.if-will_wake.ensures) w.replace.ensures.step;
            law = renewed_parked c.args.owner t c.in-Some-Some.slot c.in-Some-Some.old h g.W.Waker.waking.target c.args.waker _ _ w.replace.ensures.law;
          })
    ]
