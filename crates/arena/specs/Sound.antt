-- What holds of every table that an arena stands for, and what each call does to it, place by place. Assumes nothing.
use Rattle.std.specs.Prelude.{◌≡◌, ℕ, ◌+◌, ◌<◌, ◌≤◌, true, false, cond, List, [], ◌∷◌, length, Some, None, Ok, Err, Option, Result, ◌==◌, slice_index_or}
use Rattle.bells.specs.declared.refusal.Refusal.{Refusal}
use Rattle.bells.specs.declared.refusal.Refusal.TheVariants.{TableFull, Vacant}
use Rattle.arena.specs.Cells.{absent}
use Rattle.arena.specs.Table.{Table, get, occupied, insert, Full}

-- each place of the list is below `used`, vacant, and in the list once
abbrev pub Listed : {T : Type 0} → List (Option T) → ℕ → List ℕ → Type 0
Listed cs used [] = Unit {0}
Listed cs used (p ∷ ps) = (p < used) × (slice_index_or cs p None ≡ None) × (absent p ps ≡ true) × Listed cs used ps

pub record Sound {T : Type 0} (t : Table T) : Type 0 where
  pub within : t.used ≤ length t.cells
  pub unused : (p : ℕ) → t.used ≤ p → get p t ≡ None
  pub freed : Listed t.cells t.used t.freed
  pub counted : occupied t.cells + length t.freed ≡ t.used

-- every vacant place below `used` is among the freed
abbrev pub Complete : {T : Type 0} → Table T → Type 0
Complete t = (p : ℕ) → p < t.used → get p t ≡ None → absent p t.freed ≡ false

-- a value came to a vacant place
pub record Added {T : Type 0} (v : T) (t : Table T) (p : ℕ) (t' : Table T) : Type 0 where
  pub inside : p < length t.cells
  pub was_vacant : get p t ≡ None
  pub reads : (q : ℕ) → get q t' ≡ cond (q == p) (Some v) (get q t)
  pub one_more : occupied t'.cells ≡ occupied t.cells + 1

-- an insertion finds a place, unless every place is occupied
abbrev pub Inserted : {T : Type 0} → T → Table T → Result ℕ Refusal → Table T → Type 0
Inserted v t (Ok p) t' = Added v t p t'
Inserted v t (Err e) t' = (e ≡ TableFull) × Full t

-- an occupied place was freed, and is the next to be taken
pub record Freed {T : Type 0} (p : ℕ) (v : T) (t t' : Table T) : Type 0 where
  pub was_held : get p t ≡ Some v
  pub reads : (q : ℕ) → get q t' ≡ cond (q == p) None (get q t)
  pub one_less : occupied t'.cells + 1 ≡ occupied t.cells
  pub next : (w : T) → (insert w t').0 ≡ Ok p

abbrev pub Removed : {T : Type 0} → ℕ → Table T → Result T Refusal → Table T → Type 0
Removed p t (Ok v) t' = Freed p v t t'
Removed p t (Err e) t' = (e ≡ Vacant) × (get p t ≡ None)

-- an occupied place holds another value
pub record Changed {T : Type 0} (p : ℕ) (old v : T) (t t' : Table T) : Type 0 where
  pub was_held : get p t ≡ Some old
  pub reads : (q : ℕ) → get q t' ≡ cond (q == p) (Some v) (get q t)
  pub as_many : occupied t'.cells ≡ occupied t.cells

abbrev pub Replaced : {T : Type 0} → ℕ → T → Table T → Result T Refusal → Table T → Type 0
Replaced p v t (Ok old) t' = Changed p old v t t'
Replaced p v t (Err e) t' = (e ≡ Vacant) × (get p t ≡ None)

-- every value was taken, or nothing was
abbrev pub Taken : {T : Type 0} → Table T → Result ℕ Refusal → Table T → Type 0
Taken t (Ok n) t' = (n ≡ occupied t.cells) × (occupied t'.cells ≡ 0) × ((p : ℕ) → get p t' ≡ None)
Taken t (Err e) t' = (e ≡ TableFull) × (t' ≡ t)
