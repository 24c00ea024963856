-- The laws of a waker set: a registered wait is parked, and an unregistered one is not.
use Rattle.std.proofs.Common.{◌≡◌, ℕ, Bool, true, false, ◌&&◌, cond, eqb, Some, None, Ok, Err, Option, Result, sym, refl, ap, ◌∙◌, arith}
use Rattle.std.proofs.lemmas.Bool.{eq-eqb, ne_eqb, and_from, both_ways}
use Rattle.std.proofs.Math.Bool.{and_comm}
use Rattle.std.specs.Bool.{then_some}
use Rattle.std.specs.Result.{is_ok}
use denote.Enum.Bare.{sameb}
use Rattle.arena.specs.contracts.wait.WaitTable.{the_type}
use Rattle.bells.specs.declared.refusal.Refusal.{Refusal}
use Rattle.bells.specs.declared.refusal.Refusal.TheVariants.{NoSlot}
use Rattle.arena.specs.declared.wait.WaitTable.{WaitTable}
use Rattle.arena.specs.declared.wait.WaitTable.TheVariants.{Members, Watchers, Followers}
use Rattle.arena.specs.declared.wait.Wait.{Wait}
use Rattle.arena.specs.declared.wait.Entry.{Entry}
use Rattle.arena.specs.declared.set.Registered.{Registered}
use Rattle.arena.specs.Table.{Table, get, insert, replace}
use Rattle.arena.specs.Sound.{Inserted, Replaced, Removed}
use Rattle.arena.specs.Waits.{same_table, same_wait}
use Rattle.arena.proofs.Steps.{chosen}
use Rattle.arena.specs.Wakers.{own_of, own, seated, register, unregister, Parks, Parked, Left}

same_table_self : (a : WaitTable) → same_table a a ≡ true
same_table_self Members = refl
same_table_self Watchers = refl
same_table_self Followers = refl

-- what the derived equality answers
pub same_table_derived : (a b : WaitTable) → sameb the_type a b ≡ same_table a b
same_table_derived Members Members = refl
same_table_derived Members Watchers = refl
same_table_derived Members Followers = refl
same_table_derived Watchers Members = refl
same_table_derived Watchers Watchers = refl
same_table_derived Watchers Followers = refl
same_table_derived Followers Members = refl
same_table_derived Followers Watchers = refl
same_table_derived Followers Followers = refl

pub same_wait_derived : (a b : Wait) → (sameb the_type a.table b.table && eqb a.place b.place) ≡ same_wait a b
same_wait_derived a b = rw same_table_derived (and_comm (same_table a.table b.table) (eqb a.place b.place))

pub own_found : {W : Type 0} (owner : Wait) (e : Entry W) (b : Bool) → b ≡ (sameb the_type e.owner.table owner.table && eqb e.owner.place owner.place) → then_some b e.waker ≡ own_of owner (Some e)
own_found owner e b d = rw (chosen, d, same_wait_derived)

pub same_wait_self : (a : Wait) → same_wait a a ≡ true
same_wait_self a = and_from _ _ (eq-eqb a.place a.place refl) (same_table_self a.table)

module _ {W : Type 0} (owner : Wait) (w : W) (t : Table (Entry W)) where
  abbrev entry : Entry W
  entry = record { waker = w; owner = owner }

  -- an entry written to a slot is the wait's own
  written : (names : W → ℕ) (slot : ℕ) (t' : Table (Entry W)) → ((q : ℕ) → get q t' ≡ cond (eqb q slot) (Some entry) (get q t)) → Parks names owner w t slot t'
  written names slot t' reads =
      let z = eq-eqb slot slot refl in
      let k : get slot t' ≡ Some entry = rw z at (reads slot) in
      let y = same_wait_self owner in
      record { waker = w; held = ap (own_of owner) k ∙ rw y; target = refl; others = λ q ne. let z = ne_eqb q slot ne in rw z at (reads q) }

  pub seat_parked : (names : W → ℕ) (remembered : Option ℕ) → own remembered owner t ≡ None → (x : Result ℕ Refusal × Table (Entry W)) → Inserted entry t x.0 x.1 → Parked names remembered owner w t (seated x).0 (seated x).1
  seat_parked names remembered none (Ok slot, t') k = written names slot t' k.reads
  seat_parked names remembered none (Err e, t') k = (refl, none, k.1)

  register_seats : (wakes : W → W → Bool) (remembered : Option ℕ) → own remembered owner t ≡ None → register wakes remembered owner w t ≡ seated (insert entry t)
  register_seats wakes None h = refl
  register_seats wakes (Some slot) h = rw h

  -- a wait that is not parked is seated, which parks it or is refused
  pub seats : (names : W → ℕ) (wakes : W → W → Bool) (remembered : Option ℕ) (r : Result ℕ Refusal) (t' : Table (Entry W)) → own remembered owner t ≡ None → ◌≡◌ {A = Result ℕ Refusal × Table (Entry W)} (r, t') (insert entry t) → Inserted entry t r t' → (seated (r, t') ≡ register wakes remembered owner w t) × Parked names remembered owner w t (seated (r, t')).0 (seated (r, t')).1
  seats names wakes remembered r t' none k i =
      (ap seated k ∙ sym (register_seats wakes remembered none), seat_parked names remembered none (r, t') i)

pub seated_err : {W : Type 0} (r : Result ℕ Refusal) (t' : Table (Entry W)) → is_ok r ≡ false → seated (r, t') ≡ (Err NoSlot, t')
seated_err (Ok slot) t' h = absurd (both_ways false refl (sym h))
seated_err (Err e) t' h = refl

-- a slot with the wait's own entry is taken
not_vacant : {W : Type 0} (owner : Wait) (c : Option (Entry W)) (old : W) → own_of owner c ≡ Some old → c ≡ None → ⊥
not_vacant owner c old h e = let z : ◌≡◌ {A = ℕ} 0 1 = cc in omega arith

module _ {W : Type 0} (owner : Wait) (t : Table (Entry W)) (slot : ℕ) (old : W) (h : own (Some slot) owner t ≡ Some old) where
  -- a parked wait keeps its entry, or gets the new waker in it
  pub kept_parked : (names : W → ℕ) (w : W) → names old ≡ names w → Parks names owner w t slot t
  kept_parked names w q = record { waker = old; held = h; target = q; others = λ i ne. refl }

  pub renewed_parked : (names : W → ℕ) (w : W) (r : Result (Entry W) Refusal) (t' : Table (Entry W)) → Replaced slot (record { waker = w; owner = owner }) t r t' → Parks names owner w t slot t'
  renewed_parked names w (Ok e) t' k = written owner w t names slot t' k.reads
  renewed_parked names w (Err e) t' k = absurd (not_vacant owner (get slot t) old h k.1)

  pub kept_step : (wakes : W → W → Bool) (w : W) → wakes old w ≡ true → ◌≡◌ {A = Result (Registered W) Refusal × Table (Entry W)} (Ok (record { slot = slot; replaced = None }), t) (register wakes (Some slot) owner w t)
  kept_step wakes w q = rw (h, q)

  pub renewed_step : (wakes : W → W → Bool) (w : W) (r : Result (Entry W) Refusal) (t' : Table (Entry W)) → wakes old w ≡ false → ◌≡◌ {A = Result (Entry W) Refusal × Table (Entry W)} (r, t') (replace slot (record { waker = w; owner = owner }) t) → ◌≡◌ {A = Result (Registered W) Refusal × Table (Entry W)} (Ok (record { slot = slot; replaced = Some old }), t') (register wakes (Some slot) owner w t)
  renewed_step wakes w r t' q e =
      rw (h, q) (ap (λ (x : Result (Entry W) Refusal × Table (Entry W)). (Ok (record { slot = slot; replaced = Some old }), x.1)) e)

  -- a wait that leaves is parked no more, and no other slot is touched
  pub left : (r : Result (Entry W) Refusal) (t' : Table (Entry W)) → Removed slot t r t' → Left (Some slot) owner t (Some old) t'
  left (Ok e) t' k =
      let y = eq-eqb slot slot refl in
      let none : get slot t' ≡ None = rw y at (k.reads slot) in
      record {
        was = sym h;
        gone = ap (own_of owner) none;
        others = λ i ne. let z = ne_eqb i slot (λ d. ne (ap Some (sym d))) in rw z at (k.reads i);
      }
  left (Err e) t' k = absurd (not_vacant owner (get slot t) old h k.1)

-- one that is not parked stays as it is
pub stays : {W : Type 0} (remembered : Option ℕ) (owner : Wait) (t : Table (Entry W)) → own remembered owner t ≡ None → (◌≡◌ {A = Option W × Table (Entry W)} (None, t) (unregister remembered owner t)) × Left remembered owner t None t
stays None owner t h = (refl, record { was = refl; gone = refl; others = λ q ne. refl })
stays (Some slot) owner t h = (rw h, record { was = sym h; gone = h; others = λ q ne. refl })
