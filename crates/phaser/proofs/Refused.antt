-- What is refused leaves the parts as they were. Assumes nothing.
use Rattle.std.proofs.Common.{◌≡◌, ℕ, Bool, true, false, cond, eqb, ltb, List, [], ◌∷◌, length, set, Some, None, Ok, Err, Option, Result, sym, refl, ap, ◌∙◌, subst}
use Rattle.std.specs.Result.{IsErrAnd}
use Rattle.std.proofs.lemmas.Result.{err_from_is_err_and}
use Rattle.bells.specs.declared.refusal.Refusal.{Refusal}
use Rattle.bells.specs.Due.{Due}
use Rattle.bells.specs.Kind.{Kind}
use Rattle.arena.specs.declared.wait.Wait.{Wait}
use Rattle.arena.specs.declared.wait.Entry.{Entry}
use Rattle.arena.specs.declared.set.Registered.{Registered}
use Rattle.arena.specs.Table.{Table, insert, insert_at}
use Rattle.arena.specs.Wakers.{register, seated, seat, renew, own}
use Rattle.phaser.specs.declared.outcome.Outcome.{Outcome}
use Rattle.phaser.specs.Model.{Phaser}
use Rattle.phaser.specs.Rules.{parked_by, complete}
use Rattle.phaser.specs.Members.{kept, first_poll}

-- the answer is a refusal, and then what is left is x
abbrev pub Kept : {A X : Type 0} → X → Result A Refusal × X → Type 0
Kept x (Ok a, y) = Unit {0}
Kept x (Err e, y) = y ≡ x

-- what the exit of a `?` answers
pub passed : {A X : Type 0} {e : Refusal} {r : Result A Refusal} {x : X} {y : Result A Refusal × X} → IsErrAnd r (λ d. d ≡ e) → (Err e, x) ≡ y → (r, x) ≡ y
passed {A = A} {X = X} {r = r} {x = x} is q =
    let p = err_from_is_err_and r is in
    ap (λ (s : Result A Refusal). (s, x)) (p.1 ∙ ap Err p.2) ∙ q

kept-cond : {A X : Type 0} (x : X) (b : Bool) (y z : Result A Refusal × X) → Kept x y → Kept x z → Kept x (cond b y z)
kept-cond x true y z h k = h
kept-cond x false y z h k = k

pub kept_left : {A X : Type 0} (x y : X) (e : Refusal) (z : Result A Refusal × X) → ◌≡◌ {A = Result A Refusal × X} (Err e, y) z → Kept x z → y ≡ x
kept_left {A = A} {X = X} x y e z q h = subst (λ (w : Result A Refusal × X). Kept x w) (sym q) h

insert_at-kept : {T : Type 0} (v : T) (cs : List (Option T)) (ps : List ℕ) (u : ℕ) → Kept (record { cells = cs; freed = ps; used = u }) (insert_at v cs ps u)
insert_at-kept v cs (p ∷ ps) u = tt
insert_at-kept v cs [] u = kept-cond _ (ltb u (length cs)) _ _ tt refl

pub insert-kept : {T : Type 0} (v : T) (t : Table T) → Kept t (insert v t)
insert-kept v t = insert_at-kept v t.cells t.freed t.used

seated-kept : {W : Type 0} (t : Table (Entry W)) (x : Result ℕ Refusal × Table (Entry W)) → Kept t x → Kept t (seated x)
seated-kept t (Ok s, t') h = tt
seated-kept t (Err e, t') h = h

seat-kept : {W : Type 0} (owner : Wait) (w : W) (t : Table (Entry W)) → Kept t (seat owner w t)
seat-kept owner w t =
    seated-kept t (insert (record { waker = w; owner = owner }) t) (insert-kept (record { waker = w; owner = owner }) t)

renew-kept : {W : Type 0} (wakes : W → W → Bool) (slot : ℕ) (owner : Wait) (w : W) (o : Option W) (t : Table (Entry W)) → Kept t (renew wakes slot owner w o t)
renew-kept wakes slot owner w None t = seat-kept owner w t
renew-kept wakes slot owner w (Some old) t = kept-cond t (wakes old w) _ _ tt tt

pub register-kept : {W : Type 0} (wakes : W → W → Bool) (slot : Option ℕ) (owner : Wait) (w : W) (t : Table (Entry W)) → Kept t (register wakes slot owner w t)
register-kept wakes None owner w t = seat-kept owner w t
register-kept wakes (Some slot) owner w t = renew-kept wakes slot owner w (own (Some slot) owner t) t

parked_kept : {W : Type 0} (p : Phaser W) (x : Result (Registered W) Refusal × Table (Entry W)) → Kept p.waiting x → Kept p (parked_by p.tally x)
parked_kept p (Ok r, set) h = tt
parked_kept p (Err e, set) h = ap (λ t. record { tally = p.tally; waiting = t }) h

pub complete-kept : {W : Type 0} (wakes : W → W → Bool) (observed : ℕ) (slot : Option ℕ) (owner : Wait) (w : W) (p : Phaser W) → Kept p (complete wakes observed slot owner w p)
complete-kept wakes observed slot owner w p =
    kept-cond p (eqb p.tally.phase observed) _ _
    (kept-cond p p.tally.closed _ _ tt (parked_kept p (register wakes slot owner w p.waiting) (register-kept wakes slot owner w p.waiting)))
    tt

kept-kept : {W : Type 0} (x : Phaser W × Due) (due : Due) (y : Result Outcome Refusal × Phaser W) → Kept x (kept x due y)
kept-kept x due (Ok o, p) = tt
kept-kept x due (Err e, p) = refl

pub first_poll-kept : {W : Type 0} (k : Kind W) (place : ℕ) (w : W) (p : Phaser W) (due : Due) → Kept {A = Outcome} (p, due) (first_poll k place w (p, due))
first_poll-kept k place w p due =
    kept-cond (p, due) p.tally.closed _ _ tt
    (kept-cond (p, due) (eqb p.tally.unarrived 0) _ _ refl
    (kept-kept (p, due) _ _))
