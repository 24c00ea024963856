-- Each way through a call, as a step of the rules: apart from the functions, whose contexts hold more than a search can read.
use Rattle.std.proofs.Common.{◌≡◌, ℕ, zero, suc, ◌+◌, ◌-◌, ◌%◌, ◌^◌, ◌<◌, ◌≤◌, Bool, true, false, cond, not, ◌&&◌, eqb, ltb, Some, None, Ok, Err, Option, Result, sym, refl, ap, ◌∙◌, ⊎_elim, arith}
use Rattle.std.proofs.lemmas.Bool.{ne_eqb, eq-eqb, eqb-false, lt-ltb, le-ltb, le-leb, lt-leb, or_left, or_right, or_parts, or_from, cases_lt, cond-false}
use Rattle.std.proofs.lemmas.Bool.Decides.{nat_tests}
use Rattle.bells.specs.declared.refusal.Refusal.{Refusal}
use Rattle.bells.specs.declared.refusal.Refusal.TheVariants.{Closed, CountOverflow, Miscounted}
use Rattle.bells.specs.Due.{Due}
use Rattle.bells.specs.Kind.{Kind}
use Rattle.arena.specs.declared.wait.Wait.{Wait}
use Rattle.arena.specs.declared.wait.Entry.{Entry}
use Rattle.arena.specs.declared.wait.WaitTable.TheVariants as table
use Rattle.arena.specs.declared.set.Registered.{Registered}
use Rattle.arena.specs.Table.{Table, get, insert, replace, remove}
use Rattle.arena.specs.Wakers.{register}
use Rattle.phaser.specs.declared.member.Batch.{Batch}
use Rattle.phaser.specs.declared.member.Member.{Member}
use Rattle.phaser.specs.declared.member.Member.TheVariants.{Idle, Pending, InFlight}
use Rattle.phaser.specs.declared.outcome.Departed.{Departed}
use Rattle.phaser.specs.declared.outcome.Outcome.{Outcome}
use Rattle.phaser.specs.declared.outcome.Outcome.TheVariants as outcome
use Rattle.phaser.specs.declared.outcome.Polled.{Polled}
use Rattle.phaser.specs.declared.watcher.Watcher.{Watcher}
use Rattle.phaser.specs.Model.{Tally, Phaser}
use Rattle.phaser.specs.Rules.{Parts, wait_of, counted, settle, parked_by, complete}
use Rattle.phaser.specs.Members as members
use Rattle.phaser.specs.Watchers as watchers
use Rattle.phaser.proofs.Refused.{kept_left, register-kept, complete-kept, first_poll-kept}

-- ── the completion rule ──
module _ {W : Type 0} (wakes : W → W → Bool) (observed : ℕ) (slot : Option ℕ) (owner : Wait) (w : W) (p : Phaser W) where
  pub complete_parked : p.tally.phase ≡ observed → p.tally.closed ≡ false → (x : Result (Registered W) Refusal × Table (Entry W)) → x ≡ register wakes slot owner w p.waiting → parked_by p.tally x ≡ complete wakes observed slot owner w p
  complete_parked e h x q = rw (q, eq-eqb p.tally.phase observed e, h)

-- ── joining ──
module _ {W T : Type 0} (parties : ℕ) (v : T) (p : Phaser W) (t : Table T) (running : p.tally.closed ≡ false) where
  pub admit_many : (p.tally.registered + parties < 2 ^ 64 → ⊥) → ◌≡◌ {A = Result ℕ Refusal × (Phaser W × Table T)} (Err CountOverflow, (p, t)) (members.admit parties v (p, t))
  admit_many h = rw (running, le-leb (2 ^ 64) (p.tally.registered + parties) (omega arith))

  pub admit_admits : p.tally.registered + parties < 2 ^ 64 → (n : ℕ) → n ≡ p.tally.registered + parties → (place : ℕ) (t' : Table T) → ◌≡◌ {A = Result ℕ Refusal × Table T} (Ok place, t') (insert v t) → ◌≡◌ {A = Result ℕ Refusal × (Phaser W × Table T)} (Ok place, (counted n (p.tally.unarrived + parties) p, t')) (members.admit parties v (p, t))
  admit_admits h n e place t' q = rw (running, lt-leb (2 ^ 64) (p.tally.registered + parties) h, e, ← q)

-- ── the first poll ──
not_next : (n : ℕ) → (n + 1) % 2 ^ 64 ≡ n → ⊥
not_next n e = omega arith

one_more : (u : ℕ) → (u ≡ 0 → ⊥) → u - 1 ≡ 0 → u ≡ 1
one_more zero z x = absurd (z refl)
one_more (suc u) z x = omega arith

module _ {W : Type 0} (k : Kind W) (place : ℕ) (w : W) (p : Phaser W) (due : Due) (running : p.tally.closed ≡ false) where
  pub first_advances : p.tally.unarrived ≡ 1 → (p' : Phaser W) (due' : Due) → ◌≡◌ {A = Phaser W × Due} (p', due') (settle k (counted p.tally.registered 0 p) due) → ◌≡◌ {A = Result Outcome Refusal × (Phaser W × Due)} (Ok (outcome.Ready p'.tally.phase), (p', due')) (members.first_poll k place w (p, due))
  first_advances u p' due' q =
      let after : Phaser W × Due → Result Outcome Refusal × (Phaser W × Due) = members.after_arrival k place p.tally.phase w (p, due) in
      let moved : p'.tally.phase ≡ (p.tally.phase + 1) % 2 ^ 64 = rw running at (ap (λ (y : Phaser W × Due). y.0.tally.phase) q) in
      let other : p'.tally.phase ≡ p.tally.phase → ⊥ = λ e. not_next p.tally.phase (sym moved ∙ e) in
      let told : ◌≡◌ {A = Result Outcome Refusal × (Phaser W × Due)} (Ok (outcome.Ready p'.tally.phase), (p', due')) (after (p', due')) = rw (ne_eqb p'.tally.phase p.tally.phase other) in
      let first : after (settle k (counted p.tally.registered 0 p) due) ≡ members.first_poll k place w (p, due) = rw (running, u) in
      told ∙ ap after q ∙ first

  pub first_parks : (p.tally.unarrived ≡ 0 → ⊥) → (p.tally.unarrived ≡ 1 → ⊥) → (r : Registered W) (set : Table (Entry W)) → ◌≡◌ {A = Result (Registered W) Refusal × Table (Entry W)} (Ok r, set) (register k.waking.wakes None (wait_of table.Members place) w p.waiting) → ◌≡◌ {A = Result Outcome Refusal × (Phaser W × Due)} (Ok (outcome.Parked r.slot), (record { tally = record { phase = p.tally.phase; closed = p.tally.closed; registered = p.tally.registered; unarrived = p.tally.unarrived - 1 }; waiting = set }, due)) (members.first_poll k place w (p, due))
  first_parks z o r set q = rw (running, ne_eqb p.tally.unarrived 0 z, ne_eqb (p.tally.unarrived - 1) 0 (λ x. o (one_more p.tally.unarrived z x)), eq-eqb p.tally.phase p.tally.phase refl, ← q)

  pub first_refused : (p.tally.unarrived ≡ 0 → ⊥) → (p.tally.unarrived ≡ 1 → ⊥) → (e : Refusal) (set : Table (Entry W)) → ◌≡◌ {A = Result (Registered W) Refusal × Table (Entry W)} (Err e, set) (register k.waking.wakes None (wait_of table.Members place) w p.waiting) → ◌≡◌ {A = Result Outcome Refusal × (Phaser W × Due)} (Err e, (record { tally = p.tally; waiting = set }, due)) (members.first_poll k place w (p, due))
  first_refused z o e set q =
      let same : set ≡ p.waiting = kept_left p.waiting set e (register k.waking.wakes None (wait_of table.Members place) w p.waiting) q (register-kept k.waking.wakes None (wait_of table.Members place) w p.waiting) in
      rw (same, running, ne_eqb p.tally.unarrived 0 z, ne_eqb (p.tally.unarrived - 1) 0 (λ x. o (one_more p.tally.unarrived z x)), eq-eqb p.tally.phase p.tally.phase refl, ← q)

-- ── cancel ──
pub cancel_still : {W : Type 0} (place : ℕ) (p : Phaser W) (ms : Table Member) (m : Member) → Some m ≡ get place ms → ((x y : ℕ) → m ≡ InFlight x y → ⊥) → ◌≡◌ {A = Result (Unit {0}) Refusal × (Phaser W × Table Member)} (Ok tt, (p, ms)) (members.cancel place (p, ms))
cancel_still place p ms Idle h f = rw (sym h)
cancel_still place p ms (Pending n) h f = rw (sym h)
cancel_still place p ms (InFlight n s) h f = absurd (f n s refl)

-- ── counting ──
pub admit_awaited : (c : Bool) (r u n m : ℕ) → c ≡ false → (c ≡ false → 0 < r → 0 < u) → m ≡ r + n → 0 < m → 0 < u + n
admit_awaited c r u n m running awaited is some =
    ⊎_elim (λ pos. omega (arith, awaited running pos)) (λ none. omega arith) (cases_lt 0 r)

-- an arrival counted, by whether the member has arrived already
module _ (c : Tally) (a : Bool) where
  pub uncounted_err : (e : Refusal) → ◌≡◌ {A = Result ℕ Refusal} (Err e) (members.unarrived_after a c) → (e ≡ Miscounted) × (members.arrival_miscounts a c ≡ true)
  uncounted_err e q =
      elim (members.arrival_miscounts a c) as (λ b. ◌≡◌ {A = Result ℕ Refusal} (Err e) (cond b (Err Miscounted) (Ok (members.lowered a c.unarrived))) → (e ≡ Miscounted) × (b ≡ true)) [
        | true ↦ λ h. (cc, refl)
        | false ↦ λ h. absurd (cc)
      ] q

  pub counted_ok : (u : ℕ) → ◌≡◌ {A = Result ℕ Refusal} (Ok u) (members.unarrived_after a c) → (members.arrival_miscounts a c ≡ false) × (u ≡ members.lowered a c.unarrived)
  counted_ok u q =
      elim (members.arrival_miscounts a c) as (λ b. ◌≡◌ {A = Result ℕ Refusal} (Ok u) (cond b (Err Miscounted) (Ok (members.lowered a c.unarrived))) → (b ≡ false) × (u ≡ members.lowered a c.unarrived)) [
        | true ↦ λ h. absurd (cc)
        | false ↦ λ h. (refl, cc)
      ] q

-- and a withdrawal, which takes the member from those registered too
pub uncounted_miscounts : (c : Tally) (a : Bool) → members.arrival_miscounts a c ≡ true → members.miscounts a c ≡ true
uncounted_miscounts c true h = or_left (eqb c.registered 0) (eqb c.unarrived c.registered) (grind (arith, nat_tests))
uncounted_miscounts c false h = h

pub below_miscounts : (c : Tally) (a : Bool) (u : ℕ) → c.unarrived ≤ c.registered → members.arrival_miscounts a c ≡ false → u ≡ members.lowered a c.unarrived → c.registered - 1 < u → members.miscounts a c ≡ true
below_miscounts c true u within h is low = or_right (eqb c.registered 0) (eqb c.unarrived c.registered) (eq-eqb c.unarrived c.registered (omega arith))
below_miscounts c false u within h is low = absurd (omega arith)

pub above_counts : (c : Tally) (a : Bool) (u : ℕ) → c.unarrived ≤ c.registered → members.arrival_miscounts a c ≡ false → u ≡ members.lowered a c.unarrived → u ≤ c.registered - 1 → members.miscounts a c ≡ false
above_counts c true u within h is low =
    let some = or_parts (eqb c.registered 0) false h in
    let none = eqb-false c.registered 0 some.0 in
    or_from (eqb c.registered 0) (eqb c.unarrived c.registered) some.0 (ne_eqb c.unarrived c.registered (λ e. omega arith))
above_counts c false u within h is low = h

pub some_counted : (c : Tally) (a : Bool) → members.arrival_miscounts a c ≡ false → 1 ≤ c.registered
some_counted c a h =
    let none = eqb-false c.registered 0 (or_parts (eqb c.registered 0) (not a && eqb c.unarrived 0) h).0 in
    omega arith

pub lowered_within : (a : Bool) (u : ℕ) → members.lowered a u ≤ u
lowered_within true u = omega arith
lowered_within false u = omega arith

-- ── leaving and arriving ──

-- a member that is not in flight leaves or arrives by whether it counts as arrived
leaves_at : {A W : Type 0} (k : Kind W) (place : ℕ) (answer : A) (m : Member) → ((n slot : ℕ) → m ≡ InFlight n slot → ⊥) → (x : Parts W Member) → members.leave_by k place answer (Some m) x ≡ members.withdraw k place answer (members.is_arrived x.0.tally.phase m) x
leaves_at k place answer Idle f x = refl
leaves_at k place answer (Pending n) f x = refl
leaves_at k place answer (InFlight n slot) f x = absurd (f n slot refl)

arrives_at : {W : Type 0} (k : Kind W) (place : ℕ) (m : Member) → ((n slot : ℕ) → m ≡ InFlight n slot → ⊥) → (x : Parts W Member) → members.arrive_by k place (Some m) x ≡ members.arrive_as k place (members.is_arrived x.0.tally.phase m) x
arrives_at k place Idle f x = refl
arrives_at k place (Pending n) f x = refl
arrives_at k place (InFlight n slot) f x = absurd (f n slot refl)

module _ {W : Type 0} (k : Kind W) (place : ℕ) (m : Member) (p : Phaser W) (ms : Table Member) (due : Due) (at : Some m ≡ get place ms) (rests : (n slot : ℕ) → m ≡ InFlight n slot → ⊥) where
  abbrev counted_as : Bool
  counted_as = members.is_arrived p.tally.phase m

  leave_as : members.leave k place (p, ms, due) ≡ members.withdraw k place tt counted_as (p, ms, due)
  leave_as = ap (λ o. members.leave_by k place tt o (p, ms, due)) (sym at) ∙ leaves_at k place tt m rests (p, ms, due)

  pub leave_refused : members.miscounts counted_as p.tally ≡ true → ◌≡◌ {A = Result (Unit {0}) Refusal × Parts W Member} (Err Miscounted, (p, ms, due)) (members.leave k place (p, ms, due))
  leave_refused h = rw leave_as (rw h)

  pub leave_settled : members.miscounts counted_as p.tally ≡ false → (u : ℕ) → u ≡ members.lowered counted_as p.tally.unarrived → (p' : Phaser W) (due' : Due) (ms' : Table Member) → ms' ≡ (remove place ms).1 → ◌≡◌ {A = Phaser W × Due} (p', due') (settle k (counted (p.tally.registered - 1) u p) due) → ◌≡◌ {A = Result (Unit {0}) Refusal × Parts W Member} (Ok tt, (p', ms', due')) (members.leave k place (p, ms, due))
  leave_settled h u is p' due' ms' r q =
      rw leave_as (rw (h, r, ← is) (ap (members.withdrawn tt (remove place ms).1) q))

  arrive_as : members.arrive k place (p, ms, due) ≡ members.arrive_as k place counted_as (p, ms, due)
  arrive_as = ap (λ o. members.arrive_by k place o (p, ms, due)) (sym at) ∙ arrives_at k place m rests (p, ms, due)

  pub arrive-closed : p.tally.closed ≡ true → ◌≡◌ {A = Result ℕ Refusal × Parts W Member} (Err Closed, (p, ms, due)) (members.arrive k place (p, ms, due))
  arrive-closed h = rw arrive_as (rw h)

  pub arrive_refused : p.tally.closed ≡ false → members.arrival_miscounts counted_as p.tally ≡ true → ◌≡◌ {A = Result ℕ Refusal × Parts W Member} (Err Miscounted, (p, ms, due)) (members.arrive k place (p, ms, due))
  arrive_refused running h = rw arrive_as (rw (running, h))

  pub arrive_settled : p.tally.closed ≡ false → members.arrival_miscounts counted_as p.tally ≡ false → (u : ℕ) → u ≡ members.lowered counted_as p.tally.unarrived → (p' : Phaser W) (due' : Due) (ms' : Table Member) → ms' ≡ (replace place (Pending p.tally.phase) ms).1 → ◌≡◌ {A = Phaser W × Due} (p', due') (settle k (counted p.tally.registered u p) due) → ◌≡◌ {A = Result ℕ Refusal × Parts W Member} (Ok p.tally.phase, (p', ms', due')) (members.arrive k place (p, ms, due))
  arrive_settled running h u is p' due' ms' r q =
      let phase = p.tally.phase in
      let table' = (replace place (Pending phase) ms).1 in
      let told : Table Member → Result ℕ Refusal × Parts W Member = λ t. (Ok phase, (p', t, due')) in
      let arriving : ℕ → Result ℕ Refusal × Parts W Member = λ v. members.arrived phase table' (settle k (counted p.tally.registered v p) due) in
      ap told r ∙ ap (members.arrived phase table') q ∙ ap arriving is
      ∙ sym (arrive_as
      ∙ cond-false p.tally.closed (Err Closed, (p, ms, due)) (cond (members.arrival_miscounts counted_as p.tally) (Err Miscounted, (p, ms, due)) (arriving (members.lowered counted_as p.tally.unarrived))) running
      ∙ cond-false (members.arrival_miscounts counted_as p.tally) (Err Miscounted, (p, ms, due)) (arriving (members.lowered counted_as p.tally.unarrived)) h)

-- the same withdrawal with another answer
abbrev pub retold : {A X : Type 0} → A → Result (Unit {0}) Refusal × X → Result A Refusal × X
retold a (Ok u, x) = (Ok a, x)
retold a (Err e, x) = (Err e, x)

module _ {A W : Type 0} (k : Kind W) (place : ℕ) (answer : A) where
  withdraw-retold : (arrived : Bool) (x : Parts W Member) → members.withdraw k place answer arrived x ≡ retold answer (members.withdraw k place tt arrived x)
  withdraw-retold arrived (p, ms, due) =
      let s = settle k (counted (p.tally.registered - 1) (members.lowered arrived p.tally.unarrived) p) due in
      elim (members.miscounts arrived p.tally) as (λ b. ◌≡◌ {A = Result A Refusal × Parts W Member} (cond b (Err Miscounted, (p, ms, due)) (members.withdrawn answer (remove place ms).1 s)) (retold answer (cond b (Err Miscounted, (p, ms, due)) (members.withdrawn tt (remove place ms).1 s)))) [ true ↦ refl | false ↦ refl ]

  pub leave-retold : (o : Option Member) (x : Parts W Member) → members.leave_by k place answer o x ≡ retold answer (members.leave_by k place tt o x)
  leave-retold None x = refl
  leave-retold (Some Idle) x = withdraw-retold false x
  leave-retold (Some (Pending n)) x = withdraw-retold (eqb n x.0.tally.phase) x
  leave-retold (Some (InFlight n slot)) x = refl

pub deregister_from : {W : Type 0} (k : Kind W) (place : ℕ) (x : Parts W Member) (d : Departed) → d ≡ members.departure x.0.tally → (y : Result (Unit {0}) Refusal × Parts W Member) → y ≡ members.leave k place x → retold d y ≡ members.deregister k place x
deregister_from k place x d is y q =
    ap (retold d) q ∙ sym (leave-retold k place d (get place x.1) x) ∙ ap (λ a. members.leave_by k place a (get place x.1) x) is

-- ── shedding ──
module _ {W : Type 0} (k : Kind W) (place : ℕ) (b : Batch) (p : Phaser W) (bs : Table Batch) (due : Due) (at : Some b ≡ get place bs) (some : b.remaining ≡ 0 → ⊥) where
  pub shed_refused : p.tally.unarrived < b.remaining → ◌≡◌ {A = Result (Unit {0}) Refusal × Parts W Batch} (Err Miscounted, (p, bs, due)) (members.shed k place (p, bs, due))
  shed_refused h = rw (← at, ne_eqb b.remaining 0 some, lt-ltb p.tally.unarrived b.remaining h)

  pub shed_settled : b.remaining ≤ p.tally.unarrived → (p' : Phaser W) (due' : Due) (bs' : Table Batch) → bs' ≡ (remove place bs).1 → ◌≡◌ {A = Phaser W × Due} (p', due') (settle k (counted (p.tally.registered - b.remaining) (p.tally.unarrived - b.remaining) p) due) → ◌≡◌ {A = Result (Unit {0}) Refusal × Parts W Batch} (Ok tt, (p', bs', due')) (members.shed k place (p, bs, due))
  shed_settled h p' due' bs' m q =
      let left = b.remaining in
      let table' = (remove place bs).1 in
      let told : Table Batch → Result (Unit {0}) Refusal × Parts W Batch = λ t. (Ok tt, (p', t, due')) in
      let shedding : Result (Unit {0}) Refusal × Parts W Batch = members.withdrawn tt table' (settle k (counted (p.tally.registered - left) (p.tally.unarrived - left) p) due) in
      ap told m ∙ ap (members.withdrawn tt table') q
      ∙ sym (cond-false (eqb left 0) (Ok tt, (p, table', due)) (cond (ltb p.tally.unarrived left) (Err Miscounted, (p, bs, due)) shedding) (ne_eqb left 0 some)
      ∙ cond-false (ltb p.tally.unarrived left) (Err Miscounted, (p, bs, due)) shedding (le-ltb p.tally.unarrived left h))
      ∙ ap (λ o. members.shed_by k place o (p, bs, due)) at

-- ── waits ──
pub known_from : (k : ℕ) {n m : ℕ} {b : Bool} → m ≡ n → b ≡ ltb m k → b ≡ true → ltb n k ≡ true
known_from k e q h = ap (λ x. ltb x k) (sym e) ∙ (sym q ∙ h)

pub poll_again_refused : {W : Type 0} (wakes : W → W → Bool) (place : ℕ) (w : W) (p : Phaser W) (ms : Table Member) (due : Due) (n : ℕ) (slot : Option ℕ) (e : Refusal) (p' : Phaser W) → ◌≡◌ {A = Result Outcome Refusal × Phaser W} (Err e, p') (complete wakes n slot (wait_of table.Members place) w p) → ◌≡◌ {A = Result Polled Refusal × Parts W Member} (Err e, (p', ms, due)) (members.polled_by place (Pending n) n (p, ms, due) (members.beside due (complete wakes n slot (wait_of table.Members place) w p)))
poll_again_refused {W = W} wakes place w p ms due n slot e p' q =
    let same : p' ≡ p = kept_left p p' e (complete wakes n slot (wait_of table.Members place) w p) q (complete-kept wakes n slot (wait_of table.Members place) w p) in
    let polled : Result Outcome Refusal × Phaser W → Result Polled Refusal × Parts W Member = λ x. members.polled_by place (Pending n) n (p, ms, due) (members.beside due x) in
    rw same (ap polled q)

module _ {W : Type 0} (k : Kind W) (place : ℕ) (w : W) (p : Phaser W) (ms : Table Member) (due : Due) (known : ltb (k.waking.target w) k.known ≡ true) where
  pub polls_as : (m : Member) → Some m ≡ get place ms → members.poll_as k place w m (p, ms, due) ≡ members.poll k place w (p, ms, due)
  polls_as m at = rw (← at, known)

  pub poll_idle : Some Idle ≡ get place ms → (e : Refusal) (p' : Phaser W) (due' : Due) → ◌≡◌ {A = Result Outcome Refusal × (Phaser W × Due)} (Err e, (p', due')) (members.first_poll k place w (p, due)) → ◌≡◌ {A = Result Polled Refusal × Parts W Member} (Err e, (p', ms, due')) (members.poll k place w (p, ms, due))
  poll_idle at e p' due' q =
      let same = kept_left {A = Outcome} (p, due) (p', due') e (members.first_poll k place w (p, due)) q (first_poll-kept k place w p due) in
      let refused : Phaser W × Due → Result Polled Refusal × Parts W Member = λ y. (Err e, (y.0, ms, y.1)) in
      ap refused same ∙ ap (members.polled_by place Idle p.tally.phase (p, ms, due)) q ∙ polls_as Idle at

pub look_refused : {W : Type 0} (k : Kind W) (place : ℕ) (w : W) (p : Phaser W) (vs : Table Watcher) → ltb (k.waking.target w) k.known ≡ true → (v : Watcher) → Some v ≡ get place vs → (e : Refusal) (p' : Phaser W) → ◌≡◌ {A = Result Outcome Refusal × Phaser W} (Err e, p') (complete k.waking.wakes v.observed v.slot (wait_of table.Watchers place) w p) → ◌≡◌ {A = Result Polled Refusal × (Phaser W × Table Watcher)} (Err e, (p', vs)) (watchers.look k place w (p, vs))
look_refused {W = W} k place w p vs known v at e p' q =
    let same : p' ≡ p = kept_left p p' e (complete k.waking.wakes v.observed v.slot (wait_of table.Watchers place) w p) q (complete-kept k.waking.wakes v.observed v.slot (wait_of table.Watchers place) w p) in
    rw (same, ← at, known) (ap (λ (x : Result Outcome Refusal × Phaser W). watchers.looked place v.observed (p, vs) x) q)
