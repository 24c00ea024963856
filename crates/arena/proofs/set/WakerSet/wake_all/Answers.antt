use Rattle.std.proofs.Common.{◌≡◌, sym, ap, ◌∙◌}
use Rattle.bells.specs.Due.{Due}
use Rattle.arena.specs.declared.wait.Entry.{Entry}
use Rattle.arena.specs.Table.{Table, values}
use Rattle.arena.specs.Ringing.{rung_all, each_rung}
use Rattle.arena.specs.Wakers.{wake_all}
use Rattle.arena.proofs.Woken.{woken-after, wake_all_none, wake_all_some}
use Rattle.arena.proofs.set.WakerSet.wake_all.Goals as goal

pub returns-then-len-eq0 : goal.returns-then-len-eq0
returns-then-len-eq0 g c =
    let names = g.W.Waker.waking.target in
    let known = g.B.Bell.KNOWN in
    let due = g.B.Bell.meaning c.args.bell.now in
    let t = c.args.self.now in
    let q = wake_all_none names known due t (sym c.len.ensures.count ∙ c.if-len-eq0.true) in
    record { step = q; woken = woken-after names known due due t t q }

pub returns : goal.returns
returns g c =
    let names = g.W.Waker.waking.target in
    let known = g.B.Bell.KNOWN in
    let due = g.B.Bell.meaning c.args.bell.now in
    let due' = g.B.Bell.meaning c.wake_all.new.bell in
    let t = c.args.self.now in
    let t' = c.clear-2.new.self in
    let r : due' ≡ each_rung names known due (values t.cells) = rw (← c.self.view_is) (c.wake_all.ensures.rung ∙ (c.add_all.ensures ∙ ap (λ ws. each_rung names known (rung_all names known due ws) (values c.self.inside.entries.cells)) c.clear.ensures)) in
    let q : ◌≡◌ {A = Due × Table (Entry g.row.W.Denot)} (due', t') (wake_all names known due t) = wake_all_some names known due due' t t' (λ e. c.if-len-eq0.false (c.len.ensures.count ∙ e)) r (rw (← c.self.view_is) c.clear-2.ensures) in
    record { step = q; woken = woken-after names known due due' t t' q }
