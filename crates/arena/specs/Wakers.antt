-- The rules of a waker set. Assumes nothing.
use Rattle.std.specs.Prelude.{◌≡◌, ℕ, ◌<◌, Bool, true, cond, ◌⊎◌, Some, None, Ok, Err, Decides, Option, Result, ◌==◌, ◌≢◌}
use Rattle.bells.specs.Due.{Due, is_due}
use Rattle.bells.specs.declared.refusal.Refusal.{Refusal}
use Rattle.bells.specs.declared.refusal.Refusal.TheVariants.{NoSlot}
use Rattle.arena.specs.declared.wait.Wait.{Wait}
use Rattle.arena.specs.declared.wait.Entry.{Entry}
use Rattle.arena.specs.declared.set.Registered.{Registered}
use Rattle.arena.specs.Table.{Table, insert, get, replace, remove, values, occupied, emptied, Full}
use Rattle.arena.specs.Ringing.{each_rung}
use Rattle.arena.specs.Waits.{same_wait}

-- the waker of an entry, if the entry is the wait's own
abbrev pub own_of : {W : Type 0} → Wait → Option (Entry W) → Option W
own_of owner None = None
own_of owner (Some e) = cond (same_wait e.owner owner) (Some e.waker) None

-- a wait is parked exactly while the slot that it remembers holds its own entry: the waker in that
abbrev pub own : {W : Type 0} → Option ℕ → Wait → Table (Entry W) → Option W
own None owner t = None
own (Some slot) owner t = own_of owner (get slot t)

-- a wait that is not parked gets an entry, if a slot is free
abbrev pub seated : {W : Type 0} → Result ℕ Refusal × Table (Entry W) → Result (Registered W) Refusal × Table (Entry W)
seated (Ok slot, t) = (Ok (record { slot = slot; replaced = None }), t)
seated (Err e, t) = (Err NoSlot, t)

abbrev pub seat : {W : Type 0} → Wait → W → Table (Entry W) → Result (Registered W) Refusal × Table (Entry W)
seat owner w t = seated (insert (record { waker = w; owner = owner }) t)

-- a parked wait keeps its waker if that wakes whom the new one does, and else the new one takes its place
abbrev pub renew : {W : Type 0} → (W → W → Bool) → ℕ → Wait → W → Option W → Table (Entry W) → Result (Registered W) Refusal × Table (Entry W)
renew wakes slot owner w None t = seat owner w t
renew wakes slot owner w (Some old) t =
    cond (wakes old w)
    (Ok (record { slot = slot; replaced = None }), t)
    (Ok (record { slot = slot; replaced = Some old }), (replace slot (record { waker = w; owner = owner }) t).1)

abbrev pub register : {W : Type 0} → (W → W → Bool) → Option ℕ → Wait → W → Table (Entry W) → Result (Registered W) Refusal × Table (Entry W)
register wakes None owner w t = seat owner w t
register wakes (Some slot) owner w t = renew wakes slot owner w (own (Some slot) owner t) t

-- the wait is then parked, with a waker of the task that the new one names, and no other slot is touched
pub record Parks {W : Type 0} (names : W → ℕ) (owner : Wait) (w : W) (t : Table (Entry W)) (slot : ℕ) (t' : Table (Entry W)) : Type 0 where
  pub waker : W
  pub held : own (Some slot) owner t' ≡ Some waker
  pub target : names waker ≡ names w
  pub others : (q : ℕ) → (q ≢ slot) → get q t' ≡ get q t

-- or it is refused, since it is not parked and every slot is taken
abbrev pub Parked : {W : Type 0} → (W → ℕ) → Option ℕ → Wait → W → Table (Entry W) → Result (Registered W) Refusal → Table (Entry W) → Type 0
Parked names remembered owner w t (Ok r) t' = Parks names owner w t r.slot t'
Parked names remembered owner w t (Err e) t' = (e ≡ NoSlot) × (own remembered owner t ≡ None) × Full t

-- a parked wait's entry leaves the set
abbrev pub leave : {W : Type 0} → ℕ → Option W → Table (Entry W) → Option W × Table (Entry W)
leave slot None t = (None, t)
leave slot (Some w) t = (Some w, (remove slot t).1)

abbrev pub unregister : {W : Type 0} → Option ℕ → Wait → Table (Entry W) → Option W × Table (Entry W)
unregister None owner t = (None, t)
unregister (Some slot) owner t = leave slot (own (Some slot) owner t) t

-- the wait is then parked no more, and no other slot is touched
pub record Left {W : Type 0} (remembered : Option ℕ) (owner : Wait) (t : Table (Entry W)) (answer : Option W) (t' : Table (Entry W)) : Type 0 where
  pub was : answer ≡ own remembered owner t
  pub gone : own remembered owner t' ≡ None
  pub others : (q : ℕ) → (remembered ≢ Some q) → get q t' ≡ get q t

-- every entry leaves the set and is rung, by rising slot; an empty set stays as it is
abbrev pub wake_all : {W : Type 0} → (W → ℕ) → ℕ → Due → Table (Entry W) → Due × Table (Entry W)
wake_all names known due t =
    cond (occupied t.cells == 0)
    (due, t)
    (each_rung names known due (values t.cells), emptied t)

-- some entry of the set names the task
abbrev pub Named : {W : Type 0} → (W → ℕ) → Table (Entry W) → ℕ → Type 0
Named {W} names t task = (slot : ℕ) × (e : Entry W) × (get slot t ≡ Some e) × (names e.waker ≡ task)

-- due after a wake is what was due before, and each known task that an entry names
abbrev pub Woken : {W : Type 0} → (W → ℕ) → ℕ → Due → Table (Entry W) → Due → Type 0
Woken names known before t after =
    (task : ℕ) → Decides (is_due after task) ((is_due before task ≡ true) ⊎ (Named names t task × (task < known)))
