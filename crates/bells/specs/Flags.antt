-- Which tasks a list of flags says to be due: proofs, of which the kinds hand one on as a member of the trait. Assumes nothing.
use Rattle.std.specs.Prelude.{◌≡◌, ℕ, ◌<◌, ◌≤◌, Bool, true, false, not, ◌&&◌, ◌||◌, List, length, get_or, replicate, ◌==◌, nat_lt, slice_index_or, slice_set, refl}
use Rattle.std.proofs.Common.{sym, ap, ◌∙◌, ⊎_elim, arith}
use Rattle.std.proofs.Math.Path.{fun_ext}
use Rattle.std.proofs.lemmas.List.{get_or_past, get_or-set_same, get_or-set_other, get_or-replicate, length-replicate}
use Rattle.std.proofs.lemmas.Bool.{cases_lt, cases_eq, lt-ltb, eq-eqb, ne_eqb, and_from, and_left, or_left, not_from_true, false≢true}
use Rattle.bells.specs.Due.{Due, is_due, none_due, rung, collected, flagged}

pub is_due-flagged : (flags : List Bool) (t : ℕ) → is_due (flagged flags) t ≡ slice_index_or flags t false
unfolding Due is_due flagged
is_due-flagged flags t = refl

pub flagged_past : (flags : List Bool) (t : ℕ) → length flags ≤ t → is_due (flagged flags) t ≡ false
flagged_past flags t h = is_due-flagged flags t ∙ get_or_past flags t false h

pub flagged_known : (flags : List Bool) (t : ℕ) → is_due (flagged flags) t ≡ true → t < length flags
flagged_known flags t h = ⊎_elim (λ l. l) (λ l. absurd (false≢true (sym (flagged_past flags t l) ∙ h))) (cases_lt t (length flags))

-- only the tasks below `known` are due, where there are as many flags
pub flagged_within : (flags : List Bool) (known t : ℕ) → length flags ≡ known → is_due (flagged flags) t ≡ true → t < known
flagged_within flags known t sized h = let below = flagged_known flags t h in omega arith

pub flagged_none : (n : ℕ) → flagged (replicate n false) ≡ none_due
unfolding Due none_due flagged
flagged_none n =
    fun_ext (λ t. ⊎_elim
    (λ l. get_or-replicate n t false false l)
    (λ l. get_or_past (replicate n false) t false (rw length-replicate l))
    (cases_lt t n))

-- a flag that is raised
raised : (flags : List Bool) (known task t : ℕ) → length flags ≡ known → task < known → slice_index_or (slice_set flags task true) t false ≡ ((t == task && nat_lt task known) || slice_index_or flags t false)
raised flags known task t n h =
    let k : task < length flags = omega arith in
    ⊎_elim
    (λ e.
    let here = get_or-set_same flags task true false k in
    ap (λ x. get_or (slice_set flags task true) x false) e ∙ (here ∙ sym (or_left _ _ (and_from _ _ (eq-eqb t task e) (lt-ltb task known h)))))
    (λ ne. rw (get_or-set_other, ne_eqb t task ne))
    (cases_eq t task)

pub flagged-rung : (flags : List Bool) (known task : ℕ) → length flags ≡ known → task < known → flagged (slice_set flags task true) ≡ rung known task (flagged flags)
unfolding Due flagged rung
flagged-rung flags known task n h = fun_ext (λ t. raised flags known task t n h)

-- a flag that is lowered
lowered : (flags : List Bool) (task t : ℕ) → task < length flags → slice_index_or (slice_set flags task false) t false ≡ (not (t == task) && slice_index_or flags t false)
lowered flags task t k =
    ⊎_elim
    (λ e.
    let here = get_or-set_same flags task false false k in
    ap (λ x. get_or (slice_set flags task false) x false) e ∙ (here ∙ sym (and_left _ _ (not_from_true _ (eq-eqb t task e)))))
    (λ ne. rw (get_or-set_other, ne_eqb t task ne))
    (cases_eq t task)

pub flagged-collected : (flags : List Bool) (task : ℕ) → task < length flags → flagged (slice_set flags task false) ≡ collected task (flagged flags)
unfolding Due flagged collected
flagged-collected flags task k = fun_ext (λ t. lowered flags task t k)
