-- The laws of the due tasks: all that is known of a `Due` elsewhere.
use Rattle.std.proofs.Common.{◌≡◌, ℕ, zero, suc, ◌+◌, ◌<◌, ◌≤◌, Bool, true, false, cond, not, ◌&&◌, ◌||◌, eqb, ltb, sym, refl, ap, ◌∙◌, ⊎_elim, add-one, arith}
use mathlib.Core.Path.{fun_ext}
use Rattle.std.proofs.lemmas.Bool.{lt-ltb, le-ltb, eqb-true, eq-eqb, ne_eqb, cases_eq, or_right, and_parts, true≢false}
use Rattle.bells.specs.Due.{Due, is_due, none_due, rung, collected, how_many}

pub is_due_none : (t : ℕ) → is_due none_due t ≡ false
unfolding Due is_due none_due
is_due_none t = refl

pub is_due-rung : (known task t : ℕ) (due : Due) → is_due (rung known task due) t ≡ ((eqb t task && ltb task known) || is_due due t)
unfolding Due is_due rung
is_due-rung known task t due = refl

pub is_due-collected : (task t : ℕ) (due : Due) → is_due (collected task due) t ≡ (not (eqb t task) && is_due due t)
unfolding Due is_due collected
is_due-collected task t due = refl

-- a ring, task by task
pub rung_here : (known task : ℕ) (due : Due) → task < known → is_due (rung known task due) task ≡ true
rung_here known task due h = rw (is_due-rung, eq-eqb task task refl, lt-ltb task known h)

pub rung_other : (known task t : ℕ) (due : Due) → (t ≡ task → ⊥) → is_due (rung known task due) t ≡ is_due due t
rung_other known task t due ne = rw (is_due-rung, ne_eqb t task ne)

pub rung_keeps : (known task t : ℕ) (due : Due) → is_due due t ≡ true → is_due (rung known task due) t ≡ true
rung_keeps known task t due h = is_due-rung known task t due ∙ or_right (eqb t task && ltb task known) (is_due due t) h

-- a ring that changes nothing
or_absorbs : (x y : Bool) → (x ≡ true → y ≡ true) → (x || y) ≡ y
or_absorbs true y h = sym (h refl)
or_absorbs false y h = refl

pub rung_unknown : (known task : ℕ) (due : Due) → known ≤ task → rung known task due ≡ due
unfolding Due rung
rung_unknown known task due h =
    fun_ext (λ t. or_absorbs (eqb t task && ltb task known) (due t) (λ e. absurd (true≢false (sym (and_parts (eqb t task) (ltb task known) e).1 ∙ le-ltb task known h))))

pub rung_again : (known task : ℕ) (due : Due) → is_due due task ≡ true → rung known task due ≡ due
unfolding Due is_due rung
rung_again known task due h =
    fun_ext (λ t. or_absorbs (eqb t task && ltb task known) (due t) (λ e. ap due (eqb-true t task (and_parts (eqb t task) (ltb task known) e).0) ∙ h))

-- a collection, task by task
pub collected_here : (task : ℕ) (due : Due) → is_due (collected task due) task ≡ false
collected_here task due = rw (is_due-collected, eq-eqb task task refl)

pub collected_other : (task t : ℕ) (due : Due) → (t ≡ task → ⊥) → is_due (collected task due) t ≡ is_due due t
collected_other task t due ne = rw (is_due-collected, ne_eqb t task ne)

-- a collection that changes nothing
and_absorbs : (x y : Bool) → (x ≡ true → y ≡ false) → (not x && y) ≡ y
and_absorbs true y h = sym (h refl)
and_absorbs false y h = refl

taken_back : (x k y : Bool) → (x ≡ true → y ≡ false) → (not x && ((x && k) || y)) ≡ y
taken_back true k y h = sym (h refl)
taken_back false k y h = refl

pub collected_none : (task : ℕ) (due : Due) → is_due due task ≡ false → collected task due ≡ due
unfolding Due is_due collected
collected_none task due h = fun_ext (λ t. and_absorbs (eqb t task) (due t) (λ e. ap due (eqb-true t task e) ∙ h))

pub collected-rung : (known task : ℕ) (due : Due) → is_due due task ≡ false → collected task (rung known task due) ≡ due
unfolding Due is_due rung collected
collected-rung known task due h = fun_ext (λ t. taken_back (eqb t task) (ltb task known) (due t) (λ e. ap due (eqb-true t task e) ∙ h))

-- how many are due
pub how_many_none : (known : ℕ) → how_many known none_due ≡ 0
unfolding how_many
how_many_none zero = refl
how_many_none (suc n) = rw (is_due_none, how_many_none n)

pub how_many_start : (due : Due) → how_many 0 due ≡ 0
unfolding how_many
how_many_start due = refl

pub how_many_more : (n : ℕ) (due : Due) → how_many (n + 1) due ≡ how_many n due + cond (is_due due n) 1 0
unfolding how_many
how_many_more n due = rw add-one

one_le : (b : Bool) → cond b 1 0 ≤ 1
one_le true = omega arith
one_le false = omega arith

pub how_many_le : (known : ℕ) (due : Due) → how_many known due ≤ known
unfolding how_many
how_many_le zero due = omega arith
how_many_le (suc n) due = omega (arith, how_many_le n due, one_le (is_due due n))

pub how_many_same : (known : ℕ) (due other : Due) → ((t : ℕ) → t < known → is_due due t ≡ is_due other t) → how_many known due ≡ how_many known other
unfolding how_many
how_many_same zero due other h = refl
how_many_same (suc n) due other h = rw (how_many_same n due other (λ t l. h t (omega arith)), h n (omega arith))

-- one task more is due
same_below : (n task : ℕ) (due more : Due) → task ≡ n → ((t : ℕ) → (t ≡ task → ⊥) → is_due more t ≡ is_due due t) → how_many n more ≡ how_many n due
same_below n task due more e others = how_many_same n more due (λ t k. others t (λ q. omega arith))

one_more : (known task : ℕ) (due more : Due) → task < known → is_due due task ≡ false → is_due more task ≡ true → ((t : ℕ) → (t ≡ task → ⊥) → is_due more t ≡ is_due due t) → how_many known more ≡ how_many known due + 1
unfolding how_many
one_more zero task due more l f m others = absurd (omega arith)
one_more (suc n) task due more l f m others =
    ⊎_elim
    (λ e.
    let below = same_below n task due more e others in
    let now : is_due more n ≡ true = ap (is_due more) (sym e) ∙ m in
    let before : is_due due n ≡ false = ap (is_due due) (sym e) ∙ f in
    rw (below, now, before) (omega arith))
    (λ ne.
    let below : how_many n more ≡ how_many n due + 1 = one_more n task due more (omega arith) f m others in
    rw (others n (λ e. ne (sym e))) (omega arith))
    (cases_eq task n)

pub how_many-rung : (known task : ℕ) (due : Due) → task < known → is_due due task ≡ false → how_many known (rung known task due) ≡ how_many known due + 1
how_many-rung known task due l f =
    one_more known task due (rung known task due) l f (rung_here known task due l) (λ t ne. rung_other known task t due ne)

pub how_many-collected : (known task : ℕ) (due : Due) → task < known → is_due due task ≡ true → how_many known (collected task due) + 1 ≡ how_many known due
how_many-collected known task due l m =
    sym (one_more known task (collected task due) due l (collected_here task due) m (λ t ne. sym (collected_other task t due ne)))
