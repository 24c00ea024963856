use Rattle.std.proofs.Common.{◌≡◌, ℕ, ◌<◌, List, [], length, drop, fold, Option, sym, ap, ◌∙◌, arith, rules}
use Rattle.std.proofs.lemmas.List.{drop_all}
use Rattle.arena.specs.Cells.{content}
use Rattle.arena.specs.Table.{values}
use Rattle.arena.proofs.Values.{pour, poured_room, poured_all}
use Rattle.arena.proofs.arena.Arena.copy_out.Given as given
use Rattle.arena.proofs.arena.Arena.copy_out.Goals as goal

-- while a value is left, so is room for it
room : (g : given.Over) (c : goal.In-Some g) → c.loop-slot.count < length c.args.into.now
room g c =
    let k = poured_room content c.touched-slot-items.result.now c.loop-slot.slot-index c.loop-slot.count c.loop-slot.into c.args.into.now c.slot-item.result c.in-Some.value c.loop-slot-test.true c.slot-item.is (sym c.value.ensures ∙ c.in-Some.is) c.loop-slot.invariant in
    omega (arith, k, ap length c.touched-slot-items.ensures)

pub offset_bounds-into-count : goal.offset_bounds-into-count
offset_bounds-into-count g c = let h = room g c in search rules

pub bounds-into-count : goal.bounds-into-count
bounds-into-count g c = omega (arith, room g c)

pub overflow_add-count : goal.overflow_add-count
overflow_add-count g c = let h = room g c in search rules

pub returns : goal.returns
returns g c =
    let ss = c.touched-slot-items.result.now in
    let e : drop c.loop-slot.slot-index ss ≡ [] = drop_all c.loop-slot.slot-index ss (omega arith) in
    let q : ◌≡◌ {A = ℕ × List (Option g.row.T.Denot)} (c.loop-slot.count, c.loop-slot.into) (fold pour (0, c.args.into.now) (values c.args.self.now.cells)) = rw (e, c.touched-slot-items.ensures) at c.loop-slot.invariant in
    ap (λ (x : ℕ × List (Option g.row.T.Denot)). x.1) q ∙ poured_all (values c.args.self.now.cells) c.args.into.now c.requires
