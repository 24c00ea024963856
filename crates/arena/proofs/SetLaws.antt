-- The laws of any sound table of entries, for runs of many calls: a registered wait is parked, an unregistered one is not, and the table stays sound.
use Rattle.std.proofs.Common.{◌≡◌, ℕ, Bool, true, eqb, length, Some, None, Ok, Err, Option, Result, sym, refl, subst}
use Rattle.std.proofs.lemmas.Bool.{cond_both}
use Rattle.bells.specs.Due.{Due}
use Rattle.bells.specs.declared.refusal.Refusal.{Refusal}
use Rattle.arena.specs.declared.wait.Wait.{Wait}
use Rattle.arena.specs.declared.wait.Entry.{Entry}
use Rattle.arena.specs.declared.set.Registered.{Registered}
use Rattle.arena.specs.Table.{Table, insert, replace, remove, values, occupied, emptied}
use Rattle.arena.specs.Sound.{Sound}
use Rattle.arena.specs.Ringing.{each_rung}
use Rattle.arena.specs.Wakers.{own, seated, renew, leave, register, unregister, wake_all, Parked, Left}
use Rattle.arena.proofs.Sounds.{insert_law, remove_law, replace_law}
use Rattle.arena.proofs.Laws.{insert_sound, remove_sound, replace_sound, fresh_sound}
use Rattle.arena.proofs.Parks.{seat_parked, kept_parked, renewed_parked, left}

module _ {W : Type 0} (names : W → ℕ) (wakes : W → W → Bool) (same : (a b : W) → wakes a b ≡ true → names a ≡ names b) (owner : Wait) (w : W) (t : Table (Entry W)) (s : Sound t) where
  abbrev Rule : Option ℕ → Result (Registered W) Refusal × Table (Entry W) → Type 0
  Rule remembered x = Parked names remembered owner w t x.0 x.1

  renew_parked : (slot : ℕ) (o : Option W) → own (Some slot) owner t ≡ o → Rule (Some slot) (renew wakes slot owner w o t)
  renew_parked slot None h = seat_parked owner w t names (Some slot) h (insert (record { waker = w; owner = owner }) t) (insert_law (record { waker = w; owner = owner }) t s)
  renew_parked slot (Some old) h =
      let new : Entry W = record { waker = w; owner = owner } in
      cond_both {A = Result (Registered W) Refusal × Table (Entry W)} (wakes old w) (Ok (record { slot = slot; replaced = None }), t) (Ok (record { slot = slot; replaced = Some old }), (replace slot new t).1) (Rule (Some slot))
      (λ e. kept_parked owner t slot old h names w (same old w e))
      (λ e. renewed_parked owner t slot old h names w (replace slot new t).0 (replace slot new t).1 (replace_law slot new t s))

  pub register_law : (remembered : Option ℕ) → Rule remembered (register wakes remembered owner w t)
  register_law None = seat_parked owner w t names None refl (insert (record { waker = w; owner = owner }) t) (insert_law (record { waker = w; owner = owner }) t s)
  register_law (Some slot) = renew_parked slot (own (Some slot) owner t) refl

  pub parked_after : (remembered : Option ℕ) (r : Result (Registered W) Refusal) (t' : Table (Entry W)) → ◌≡◌ {A = Result (Registered W) Refusal × Table (Entry W)} (r, t') (register wakes remembered owner w t) → Parked names remembered owner w t r t'
  parked_after remembered r t' e = subst (λ (x : Result (Registered W) Refusal × Table (Entry W)). Rule remembered x) (sym e) (register_law remembered)

module _ {W : Type 0} (owner : Wait) (t : Table (Entry W)) (s : Sound t) where
  abbrev After : Option ℕ → Option W × Table (Entry W) → Type 0
  After remembered x = Left remembered owner t x.0 x.1

  leave_law : (slot : ℕ) (o : Option W) → own (Some slot) owner t ≡ o → After (Some slot) (leave slot o t)
  leave_law slot None h = record { was = sym h; gone = h; others = λ q ne. refl }
  leave_law slot (Some w) h = left owner t slot w h (remove slot t).0 (remove slot t).1 (remove_law slot t s)

  pub unregister_law : (remembered : Option ℕ) → After remembered (unregister remembered owner t)
  unregister_law None = record { was = refl; gone = refl; others = λ q ne. refl }
  unregister_law (Some slot) = leave_law slot (own (Some slot) owner t) refl

  pub left_after : (remembered : Option ℕ) (r : Option W) (t' : Table (Entry W)) → ◌≡◌ {A = Option W × Table (Entry W)} (r, t') (unregister remembered owner t) → Left remembered owner t r t'
  left_after remembered r t' e = subst (λ (x : Option W × Table (Entry W)). After remembered x) (sym e) (unregister_law remembered)

-- ── soundness ──
seated-table : {W : Type 0} (x : Result ℕ Refusal × Table (Entry W)) → (seated x).1 ≡ x.1
seated-table (Ok slot, t) = refl
seated-table (Err e, t) = refl

module _ {W : Type 0} (t : Table (Entry W)) (s : Sound t) where
  seat_sound : (owner : Wait) (w : W) → Sound (seated (insert (record { waker = w; owner = owner }) t)).1
  seat_sound owner w =
      subst (λ (u : Table (Entry W)). Sound u) (sym (seated-table (insert (record { waker = w; owner = owner }) t))) (insert_sound (record { waker = w; owner = owner }) t s)

  renew_sound : (wakes : W → W → Bool) (slot : ℕ) (owner : Wait) (w : W) (o : Option W) → Sound (renew wakes slot owner w o t).1
  renew_sound wakes slot owner w None = seat_sound owner w
  renew_sound wakes slot owner w (Some old) =
      cond_both {A = Result (Registered W) Refusal × Table (Entry W)} (wakes old w) (Ok (record { slot = slot; replaced = None }), t) (Ok (record { slot = slot; replaced = Some old }), (replace slot (record { waker = w; owner = owner }) t).1) (λ (x : Result (Registered W) Refusal × Table (Entry W)). Sound x.1)
      (λ e. s)
      (λ e. replace_sound slot (record { waker = w; owner = owner }) t s)

  pub register_sound : (wakes : W → W → Bool) (remembered : Option ℕ) (owner : Wait) (w : W) → Sound (register wakes remembered owner w t).1
  register_sound wakes None owner w = seat_sound owner w
  register_sound wakes (Some slot) owner w = renew_sound wakes slot owner w (own (Some slot) owner t)

  leave_sound : (slot : ℕ) (o : Option W) → Sound (leave slot o t).1
  leave_sound slot None = s
  leave_sound slot (Some w) = remove_sound slot t s

  pub unregister_sound : (remembered : Option ℕ) (owner : Wait) → Sound (unregister remembered owner t).1
  unregister_sound None owner = s
  unregister_sound (Some slot) owner = leave_sound slot (own (Some slot) owner t)

  pub wake_all_sound : (names : W → ℕ) (known : ℕ) (due : Due) → Sound (wake_all names known due t).1
  wake_all_sound names known due =
      cond_both {A = Due × Table (Entry W)} (eqb (occupied t.cells) 0) (due, t) (each_rung names known due (values t.cells), emptied t) (λ (x : Due × Table (Entry W)). Sound x.1)
      (λ e. s)
      (λ e. fresh_sound (Entry W) (length t.cells))
