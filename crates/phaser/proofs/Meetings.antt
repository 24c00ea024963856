-- Each way through a barrier's calls, as a step of the rules. Assumes nothing.
use Rattle.std.proofs.Common.{◌≡◌, ℕ, ◌+◌, ◌-◌, ◌^◌, ◌<◌, ◌≤◌, max, Bool, true, false, cond, not, ◌&&◌, eqb, ltb, Some, None, Ok, Err, Result, sym, ap, ◌∙◌, arith}
use Rattle.std.proofs.lemmas.Bool.{cond-true, cond-false, not_from_true, ne_eqb, eqb-false, lt-ltb, le-ltb, and_right, and_left}
use Rattle.bells.specs.declared.refusal.Refusal.{Refusal}
use Rattle.bells.specs.declared.refusal.Refusal.TheVariants.{UnknownTask, LastGeneration}
use Rattle.bells.specs.Due.{Due}
use Rattle.bells.specs.Kind.{Kind}
use Rattle.arena.specs.declared.set.Registered.{Registered}
use Rattle.arena.specs.declared.wait.Entry.{Entry}
use Rattle.arena.specs.declared.wait.WaitTable.TheVariants as table
use Rattle.arena.specs.Table.{Table, vacancy, get, remove}
use Rattle.arena.specs.Wakers.{register, wake_all}
use Rattle.phaser.specs.declared.follower.Follower.{Follower}
use Rattle.phaser.specs.declared.outcome.Attended.{Attended}
use Rattle.phaser.specs.declared.outcome.Attended.TheVariants as attended
use Rattle.phaser.specs.declared.outcome.Met.{Met}
use Rattle.phaser.specs.declared.outcome.Met.TheVariants as met
use Rattle.phaser.specs.Model.{Barrier}
use Rattle.phaser.specs.Rules.{wait_of}
use Rattle.phaser.specs.Barriers.{Meeting, gathered, leads, led, followed, follow, meet, parked_in, attend_by, attend}
use Rattle.phaser.proofs.Refused.{kept_left, register-kept}

pub still_to_come : (n a : ℕ) → a < max n 1 → eqb (a + 1) (max n 1) ≡ false → a + 1 < max n 1
still_to_come n a below more = let ne = eqb-false (a + 1) (max n 1) more in omega (arith, ne)

module _ {W : Type 0} (k : Kind W) (w : W) (b : Barrier W) (fs : Table Follower) (due : Due) (known : ltb (k.waking.target w) k.known ≡ true) where
  after_known : (y : Result Met Refusal × Meeting W) → cond (not (ltb (k.waking.target w) k.known)) (Err UnknownTask, (b, fs, due)) y ≡ y
  after_known y = cond-false (not (ltb (k.waking.target w) k.known)) (Err UnknownTask, (b, fs, due)) y (not_from_true (ltb (k.waking.target w) k.known) known)

  pub meet-leads : leads b ≡ true → (b.generation ≡ 2 ^ 64 - 1 → ⊥) → (due' : Due) (set : Table (Entry W)) → ◌≡◌ {A = Due × Table (Entry W)} (due', set) (wake_all k.waking.target k.known due b.waiting) → ◌≡◌ {A = Result Met Refusal × Meeting W} (Ok met.Leader, (gathered (b.generation + 1) 0 set b, fs, due')) (meet k w (b, fs, due))
  meet-leads is not_last due' set q =
      let leading : Result Met Refusal × Meeting W = led (b, fs, due) (wake_all k.waking.target k.known due b.waiting) in
      let following : Result Met Refusal × Meeting W = follow k.waking.wakes w (vacancy fs) (b, fs, due) in
      let last = leads b && eqb b.generation (2 ^ 64 - 1) in
      ap (led (b, fs, due)) q
      ∙ sym (after_known (cond last (Err LastGeneration, (b, fs, due)) (cond (leads b) leading following))
      ∙ cond-false last (Err LastGeneration, (b, fs, due)) (cond (leads b) leading following) (and_right (leads b) (eqb b.generation (2 ^ 64 - 1)) (ne_eqb b.generation (2 ^ 64 - 1) not_last))
      ∙ cond-true (leads b) leading following is)

  pub meet_follows : leads b ≡ false → (y : Result Met Refusal × Meeting W) → y ≡ follow k.waking.wakes w (vacancy fs) (b, fs, due) → y ≡ meet k w (b, fs, due)
  meet_follows is y q =
      let leading : Result Met Refusal × Meeting W = led (b, fs, due) (wake_all k.waking.target k.known due b.waiting) in
      let following : Result Met Refusal × Meeting W = follow k.waking.wakes w (vacancy fs) (b, fs, due) in
      let last = leads b && eqb b.generation (2 ^ 64 - 1) in
      q
      ∙ sym (after_known (cond last (Err LastGeneration, (b, fs, due)) (cond (leads b) leading following))
      ∙ cond-false last (Err LastGeneration, (b, fs, due)) (cond (leads b) leading following) (and_left (leads b) (eqb b.generation (2 ^ 64 - 1)) is)
      ∙ cond-false (leads b) leading following is)

pub follow_refused : {W : Type 0} (wakes : W → W → Bool) (w : W) (b : Barrier W) (fs : Table Follower) (due : Due) (place : ℕ) → Some place ≡ vacancy fs → (e : Refusal) (set : Table (Entry W)) → ◌≡◌ {A = Result (Registered W) Refusal × Table (Entry W)} (Err e, set) (register wakes None (wait_of table.Followers place) w b.waiting) → ◌≡◌ {A = Result Met Refusal × Meeting W} (Err e, (gathered b.generation b.arrived set b, fs, due)) (follow wakes w (vacancy fs) (b, fs, due))
follow_refused {W = W} wakes w b fs due place at e set q =
    let same : set ≡ b.waiting = kept_left b.waiting set e (register wakes None (wait_of table.Followers place) w b.waiting) q (register-kept wakes None (wait_of table.Followers place) w b.waiting) in
    let refused : Table (Entry W) → Result Met Refusal × Meeting W = λ t. (Err e, (gathered b.generation b.arrived t b, fs, due)) in
    ap refused same ∙ ap (followed place (b, fs, due)) q ∙ ap (λ o. follow wakes w o (b, fs, due)) at

module _ {W : Type 0} (k : Kind W) (place : ℕ) (w : W) (b : Barrier W) (fs : Table Follower) (known : ltb (k.waking.target w) k.known ≡ true) (f : Follower) (at : Some f ≡ get place fs) (still : b.generation ≤ f.generation) where
  pub attend_waits : (y : Result (Registered W) Refusal × Table (Entry W)) → y ≡ register k.waking.wakes f.slot (wait_of table.Followers place) w b.waiting → parked_in place f.generation (b, fs) y ≡ attend k place w (b, fs)
  attend_waits y q =
      let parked : Result Attended Refusal × (Barrier W × Table Follower) = parked_in place f.generation (b, fs) (register k.waking.wakes f.slot (wait_of table.Followers place) w b.waiting) in
      let done : Result Attended Refusal × (Barrier W × Table Follower) = (Ok attended.Done, (b, (remove place fs).1)) in
      ap (parked_in place f.generation (b, fs)) q
      ∙ sym (cond-false (not (ltb (k.waking.target w) k.known)) (Err UnknownTask, (b, fs)) (cond (ltb f.generation b.generation) done parked) (not_from_true (ltb (k.waking.target w) k.known) known)
      ∙ cond-false (ltb f.generation b.generation) done parked (le-ltb f.generation b.generation still))
      ∙ ap (λ o. attend_by k place w o (b, fs)) at

  pub attend_refused : (e : Refusal) (set : Table (Entry W)) → ◌≡◌ {A = Result (Registered W) Refusal × Table (Entry W)} (Err e, set) (register k.waking.wakes f.slot (wait_of table.Followers place) w b.waiting) → ◌≡◌ {A = Result Attended Refusal × (Barrier W × Table Follower)} (Err e, (gathered b.generation b.arrived set b, fs)) (attend k place w (b, fs))
  attend_refused e set q =
      let same : set ≡ b.waiting = kept_left b.waiting set e (register k.waking.wakes f.slot (wait_of table.Followers place) w b.waiting) q (register-kept k.waking.wakes f.slot (wait_of table.Followers place) w b.waiting) in
      let refused : Table (Entry W) → Result Attended Refusal × (Barrier W × Table Follower) = λ t. (Err e, (gathered b.generation b.arrived t b, fs)) in
      ap refused same ∙ attend_waits (Err e, set) q

pub attend_done : {W : Type 0} (k : Kind W) (place : ℕ) (w : W) (b : Barrier W) (fs : Table Follower) → ltb (k.waking.target w) k.known ≡ true → (f : Follower) → Some f ≡ get place fs → f.generation < b.generation → (fs' : Table Follower) → fs' ≡ (remove place fs).1 → ◌≡◌ {A = Result Attended Refusal × (Barrier W × Table Follower)} (Ok attended.Done, (b, fs')) (attend k place w (b, fs))
attend_done {W = W} k place w b fs known f at over fs' is =
    let done : Table Follower → Result Attended Refusal × (Barrier W × Table Follower) = λ t. (Ok attended.Done, (b, t)) in
    let by : done (remove place fs).1 ≡ attend_by k place w (Some f) (b, fs) = rw (known, lt-ltb f.generation b.generation over) in
    ap done is ∙ by ∙ ap (λ o. attend_by k place w o (b, fs)) at
