-- The table that an arena stands for, and what is true of every arena. Assumes nothing.
use Rattle.std.specs.Prelude.{◌≡◌, ℕ, ◌-◌, ◌≤◌, true, List, length, take}
use Rattle.arena.specs.declared.slot.Slot.{Slot}
use Rattle.arena.specs.declared.arena.Arena.TheInside.{Inside}
use Rattle.arena.specs.Cells.{cells, chain, linked}
use Rattle.arena.specs.Table.{Table, occupied}

-- the slots up to the capacity
abbrev pub shown : {T : Type 0} {N : ℕ} → Inside T N → List (Slot T)
shown a = take a.capacity a.slots.all

unfoldable pub table_of : {T : Type 0} {N : ℕ} → Inside T N → Table T
table_of a =
    record {
      cells = cells a.used (shown a);
      freed = chain (a.used - a.len) (shown a) a.head;
      used = a.used;
    }

-- what holds between the fields of every arena
pub record Whole {T : Type 0} {N : ℕ} (a : Inside T N) : Type 0 where
  -- no more values than used places, and no more of these than places
  pub within : (a.len ≤ a.used) × (a.used ≤ a.capacity)
  -- the places are slots
  pub sized : (a.capacity ≤ N) × (length a.slots.all ≡ N)
  -- links from `head` lead through all vacant places below `used`
  pub chained : linked (a.used - a.len) a.used (shown a) a.head ≡ true
  -- `len` counts the values
  pub counted : occupied (cells a.used (shown a)) ≡ a.len
