use Rattle.std.proofs.Common.{◌≡◌, ℕ, zero, suc, ◌≤◌, List, [], ◌∷◌, take, filter_map, refl, ap, arith}
use Rattle.arena.specs.declared.slot.Slot.{Slot}
use Rattle.arena.specs.declared.slot.Slot.TheVariants.{Occupied, Vacant}
use Rattle.arena.specs.Cells.{content, cells}
use Rattle.arena.specs.Table.{values}
use Rattle.arena.specs.Arenas.{table_of}
use Rattle.arena.proofs.arena.Arena.touched.Goals as goal

taken : {T : Type 0} (u n : ℕ) (ss : List (Slot T)) → u ≤ n → filter_map content (take u ss) ≡ values (cells u (take n ss))
taken zero zero ss h = refl
taken zero (suc n) [] h = refl
taken zero (suc n) (s ∷ ss) h = taken zero n ss (omega arith)
taken (suc u) zero ss h = absurd (omega arith)
taken (suc u) (suc n) [] h = refl
taken (suc u) (suc n) (Occupied v ∷ ss) h = ap (λ vs. v ∷ vs) (taken u n ss (omega arith))
taken (suc u) (suc n) (Vacant l ∷ ss) h = taken u n ss (omega arith)

pub returns : goal.returns
unfolding table_of
returns g c = let a = c.self.inside in rw (← c.self.view_is) (taken a.used a.capacity a.slots.all c.self.invariant.within.1)
