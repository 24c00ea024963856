-- Laws of tasks in order: who is among them, and that none stands twice.
use Rattle.std.proofs.Common.{◌≡◌, ℕ, suc, ◌+◌, ◌<◌, Bool, true, false, not, ◌&&◌, ◌||◌, eqb, ltb, List, [], ◌∷◌, ◌++◌, length, sym, refl, ap, ◌∙◌, ⊎_elim, arith}
use Rattle.std.proofs.lemmas.Bool.{eqb-true, eqb-false, eq-eqb, ne_eqb, cases_eq, and_parts, and_from, and_right, or_parts, or_from, or_cases, not-true, not_from_true, not_from_false, cond-false, both_ways}
use Rattle.std.specs.List.{position_or_len, remove}
use Rattle.bells.specs.Orders.{among, once, queued, without}

-- a ring
pub queued_unknown : (known task : ℕ) (ts : List ℕ) → ltb task known ≡ false → queued known task ts ≡ ts
queued_unknown known task ts u = rw u

pub queued_again : (known task : ℕ) (ts : List ℕ) → among ts task ≡ true → queued known task ts ≡ ts
queued_again known task ts a = cond-false _ _ _ (and_right _ _ (not_from_true _ a))

pub queued_new : (known task : ℕ) (ts : List ℕ) → ltb task known ≡ true → among ts task ≡ false → queued known task ts ≡ ts ++ task ∷ []
queued_new known task ts k a = rw (k, a)

-- one task more at the end
or_swap : (x y z : Bool) → (x || (y || z)) ≡ (y || (x || z))
or_swap true true z = refl
or_swap true false z = refl
or_swap false y z = refl

pub among-push : (ts : List ℕ) (task t : ℕ) → among (ts ++ task ∷ []) t ≡ (eqb t task || among ts t)
among-push [] task t = refl
among-push (x ∷ ts) task t = ap (λ b. eqb t x || b) (among-push ts task t) ∙ or_swap (eqb t x) (eqb t task) (among ts t)

pub once-push : (ts : List ℕ) (task : ℕ) → once ts ≡ true → among ts task ≡ false → once (ts ++ task ∷ []) ≡ true
once-push [] task o a = refl
once-push (x ∷ ts) task o a =
    let p = and_parts (not (among ts x)) (once ts) o in
    let q = or_parts (eqb task x) (among ts task) a in
    let other : eqb x task ≡ false = ne_eqb x task (λ e. eqb-false task x q.0 (sym e)) in
    and_from _ _ (not_from_false _ (among-push ts task x ∙ or_from _ _ other (not-true _ p.0))) (once-push ts task p.1 q.1)

-- a task that is taken out
without_here : (task x : ℕ) (ts : List ℕ) → x ≡ task → without task (x ∷ ts) ≡ without task ts
without_here task x ts e = rw (eq-eqb x task e)

without_other : (task x : ℕ) (ts : List ℕ) → (x ≡ task → ⊥) → without task (x ∷ ts) ≡ x ∷ without task ts
without_other task x ts ne = rw (ne_eqb x task ne)

pub without-absent : (task : ℕ) (ts : List ℕ) → among ts task ≡ false → without task ts ≡ ts
without-absent task [] a = refl
without-absent task (x ∷ ts) a =
    let q = or_parts (eqb task x) (among ts task) a in
    without_other task x ts (λ e. eqb-false task x q.0 (sym e)) ∙ ap (λ l. x ∷ l) (without-absent task ts q.1)

and_none : (b : Bool) → false ≡ (not b && false)
and_none true = refl
and_none false = refl

same_out : (b a : Bool) → (not b && a) ≡ (not b && (b || a))
same_out true a = refl
same_out false a = refl

other_in : (b c a : Bool) → (c ≡ true → b ≡ false) → (c || (not b && a)) ≡ (not b && (c || a))
other_in b true a h = rw (h refl)
other_in b false a h = refl

pub among-without : (task : ℕ) (ts : List ℕ) (t : ℕ) → among (without task ts) t ≡ (not (eqb t task) && among ts t)
among-without task [] t = and_none (eqb t task)
among-without task (x ∷ ts) t =
    ⊎_elim
    (λ e.
    ap (λ l. among l t) (without_here task x ts e)
    ∙ (among-without task ts t ∙ (same_out (eqb t task) (among ts t) ∙ ap (λ y. not (eqb t task) && (eqb t y || among ts t)) (sym e))))
    (λ ne.
    ap (λ l. among l t) (without_other task x ts ne)
    ∙ (ap (λ b. eqb t x || b) (among-without task ts t)
    ∙ other_in (eqb t task) (eqb t x) (among ts t) (λ c. ne_eqb t task (λ e. ne (sym (eqb-true t x c) ∙ e)))))
    (cases_eq x task)

pub once-without : (task : ℕ) (ts : List ℕ) → once ts ≡ true → once (without task ts) ≡ true
once-without task [] o = refl
once-without task (x ∷ ts) o =
    let p = and_parts (not (among ts x)) (once ts) o in
    let rest = once-without task ts p.1 in
    ⊎_elim
    (λ e. ap once (without_here task x ts e) ∙ rest)
    (λ ne.
    let absent : among (without task ts) x ≡ false = among-without task ts x ∙ and_right _ _ (not-true _ p.0) in
    ap once (without_other task x ts ne) ∙ and_from _ _ (not_from_false _ absent) rest)
    (cases_eq x task)

pub length-without : (task : ℕ) (ts : List ℕ) → once ts ≡ true → among ts task ≡ true → length (without task ts) + 1 ≡ length ts
length-without task [] o a = absurd (both_ways false refl a)
length-without task (x ∷ ts) o a =
    let p = and_parts (not (among ts x)) (once ts) o in
    ⊎_elim
    (λ e.
    let absent : among ts task ≡ false = ap (among ts) (sym e) ∙ not-true _ p.0 in
    let rest = ap length (without_here task x ts e ∙ without-absent task ts absent) in
    omega (arith, rest))
    (λ ne.
    let among_rest : among ts task ≡ true = ⊎_elim (λ c. absurd (ne (sym (eqb-true task x c)))) (λ r. r) (or_cases (eqb task x) (among ts task) a) in
    let rest = length-without task ts p.1 among_rest in
    let longer = ap length (without_other task x ts ne) in
    omega (arith, rest, longer))
    (cases_eq x task)

-- the place of a task that stands there, which is its only one
pub place-below : (task : ℕ) (ts : List ℕ) → among ts task ≡ true → position_or_len (λ x. eqb x task) ts < length ts
place-below task [] a = absurd (both_ways false refl a)
place-below task (x ∷ ts) a =
    ⊎_elim
    (λ e. rw (eq-eqb x task e) (omega arith))
    (λ ne.
    let among_rest : among ts task ≡ true = ⊎_elim (λ c. absurd (ne (sym (eqb-true task x c)))) (λ r. r) (or_cases (eqb task x) (among ts task) a) in
    rw (ne_eqb x task ne) (omega (arith, place-below task ts among_rest)))
    (cases_eq x task)

pub without-place : (task : ℕ) (ts : List ℕ) → once ts ≡ true → among ts task ≡ true → remove ts (position_or_len (λ x. eqb x task) ts) ≡ without task ts
without-place task [] o a = absurd (both_ways false refl a)
without-place task (x ∷ ts) o a =
    let p = and_parts (not (among ts x)) (once ts) o in
    ⊎_elim
    (λ e.
    let absent : among ts task ≡ false = ap (among ts) (sym e) ∙ not-true _ p.0 in
    rw (eq-eqb x task e) (sym (without-absent task ts absent)))
    (λ ne.
    let among_rest : among ts task ≡ true = ⊎_elim (λ c. absurd (ne (sym (eqb-true task x c)))) (λ r. r) (or_cases (eqb task x) (among ts task) a) in
    let i = position_or_len (λ y. eqb y task) ts in
    let next : 1 + i ≡ suc i = omega arith in
    rw (ne_eqb x task ne, next) (ap (λ l. x ∷ l) (without-place task ts p.1 among_rest)))
    (cases_eq x task)
