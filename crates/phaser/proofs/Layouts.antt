-- A waker set is no larger than the barrier that it is a part of.
use Rattle.std.proofs.Common.{◌≡◌, ℕ, zero, ◌+◌, ◌^◌, ◌<◌, refl, subst, le_trans, lt_of_le_of_lt, le-add_left}
use mir.Syntax.{Sym, Ty, Tys, tcons, ty_struct}
use prog.Memory.{up, align, size}
use prog.Align.{field_in}
use denote.Param.{layout}
use denote.RattleType.{RattleType}
use Rattle.arena.specs.contracts.set.WakerSet.{the_row as set_row}
use Rattle.phaser.specs.contracts.barrier.Barrier.{the_row as barrier_row}

fourth : {n : Sym} {a b c t : Ty} {ts : Tys} (s : Ty) (k : ℕ) → s ≡ ty_struct n (tcons a (tcons b (tcons c (tcons t ts)))) → size s < k → size t < k
fourth {n = n} {a = a} {b = b} {c = c} {t = t} {ts = ts} s k e h =
    let before = up (align t) (up (align c) (up (align b) (up (align a) zero + size a) + size b) + size c) in
    lt_of_le_of_lt (le_trans (le-add_left (size t) before) (field_in n (tcons a (tcons b (tcons c (tcons t ts)))) 3 t before refl)) (subst (λ x. size x < k) e h)

pub set-fits : (W : RattleType) → size (layout (barrier_row W)) < 2 ^ 63 → size (layout (set_row W)) < 2 ^ 63
set-fits W h = fourth (layout (barrier_row W)) (2 ^ 63) refl h
