-- A station is small enough to be lent, and so are the parts in it that hold wakers.
use Rattle.std.proofs.Common.{◌≡◌, ℕ, zero, ◌+◌, ◌^◌, ◌<◌, refl, subst, le_trans, lt_of_le_of_lt, le-add_left}
use mir.Syntax.{Sym, Ty, Tys, tcons, ty_struct}
use prog.Memory.{up, align, size}
use prog.Align.{field_in}
use denote.Param.{layout, param, copied}
use denote.RattleType.{RattleType}
use Rattle.arena.specs.contracts.set.WakerSet.{the_row as set_row}
use Rattle.phaser.specs.contracts.barrier.Barrier.{the_row as barrier_row}
use Rattle.phaser.specs.contracts.phaser.Phaser.{the_row as phaser_row}
use Rattle.stations.specs.contracts.whole.Station.{the_row as station_row}

first : {n : Sym} {t : Ty} {ts : Tys} (s : Ty) (k : ℕ) → s ≡ ty_struct n (tcons t ts) → size s < k → size t < k
first {n = n} {t = t} {ts = ts} s k e h =
    lt_of_le_of_lt (le_trans (le-add_left (size t) (up (align t) zero)) (field_in n (tcons t ts) zero t (up (align t) zero) refl)) (subst (λ x. size x < k) e h)

second : {n : Sym} {a t : Ty} {ts : Tys} (s : Ty) (k : ℕ) → s ≡ ty_struct n (tcons a (tcons t ts)) → size s < k → size t < k
second {n = n} {a = a} {t = t} {ts = ts} s k e h =
    lt_of_le_of_lt (le_trans (le-add_left (size t) (up (align t) (up (align a) zero + size a))) (field_in n (tcons a (tcons t ts)) 1 t (up (align t) (up (align a) zero + size a)) refl)) (subst (λ x. size x < k) e h)

pub phaser_fits : (B W : RattleType) → size (layout (station_row (param 0 B) (copied 1 W))) < 2 ^ 63 → size (layout (phaser_row (copied 1 W))) < 2 ^ 63
phaser_fits B W h = first (layout (station_row (param 0 B) (copied 1 W))) (2 ^ 63) refl h

pub barrier_fits : (B W : RattleType) → size (layout (station_row (param 0 B) (copied 1 W))) < 2 ^ 63 → size (layout (barrier_row (copied 1 W))) < 2 ^ 63
barrier_fits B W h = second (layout (station_row (param 0 B) (copied 1 W))) (2 ^ 63) refl h

pub set-fits : (B W : RattleType) → size (layout (station_row (param 0 B) (copied 1 W))) < 2 ^ 63 → size (layout (set_row (copied 1 W))) < 2 ^ 63
set-fits B W h = second (layout (phaser_row (copied 1 W))) (2 ^ 63) refl (phaser_fits B W h)
