-- The laws of any table, for runs of many calls: a sound table stays sound, and what taking all does.
use Rattle.std.proofs.Common.{◌≡◌, ℕ, ◌+◌, ◌<◌, true, not, ltb, List, [], ◌∷◌, length, set, Some, None, Ok, Err, Option, Result, sym, refl, ap, ◌∙◌, ⊎_elim, arith, length-set}
use Rattle.std.proofs.lemmas.List.{get_or-set_same, get_or-set_other}
use Rattle.std.proofs.lemmas.Bool.{and_from, ne_eqb, ltb-true, cases_lt, cond_both}
use Rattle.bells.specs.declared.refusal.Refusal.{Refusal}
use Rattle.bells.specs.declared.refusal.Refusal.TheVariants.{TableFull}
use Rattle.arena.specs.Cells.{absent}
use Rattle.arena.specs.Table.{Table, get, occupied, values, fresh, emptied, insert, insert_at, replace, replace_at, remove, remove_at, filled, take_all}
use Rattle.arena.specs.Sound.{Listed, Sound, Taken}
use Rattle.arena.proofs.Counts.{at, one, occupied-set, occupied-replicate}
use Rattle.arena.proofs.Sounds.{none_some, listed-set, held_inside, none_at, tab}

-- ── insertion ──
reuse : {T : Type 0} (v : T) (cs : List (Option T)) (p : ℕ) (ps : List ℕ) (u : ℕ) → Sound (tab cs (p ∷ ps) u) → Sound (tab (set cs p (Some v)) ps u)
reuse v cs p ps u s =
    let low : p < u = s.freed.0 in
    let h : p < length cs = omega (arith, s.within) in
    record {
      within = rw length-set s.within;
      unused = λ q k. get_or-set_other cs p q (Some v) None (λ e. omega arith) ∙ s.unused q k;
      freed = listed-set cs ps u p (Some v) s.freed.2 s.freed.3;
      counted = omega (arith, occupied-set cs p (Some v) h, ap one s.freed.1, s.counted);
    }

raise : {T : Type 0} (v : T) (cs : List (Option T)) (u : ℕ) → u < length cs → Sound (tab cs [] u) → Sound (tab (set cs u (Some v)) [] (u + 1))
raise v cs u h s =
    record {
      within = rw length-set (omega arith);
      unused = λ q k. get_or-set_other cs u q (Some v) None (λ e. omega arith) ∙ s.unused q (omega arith);
      freed = tt;
      counted = omega (arith, occupied-set cs u (Some v) h, ap one (s.unused u (omega arith)), s.counted);
    }

inserted_sound : {T : Type 0} (v : T) (cs : List (Option T)) (ps : List ℕ) (u : ℕ) → Sound (tab cs ps u) → Sound (insert_at v cs ps u).1
inserted_sound v cs (p ∷ ps) u s = reuse v cs p ps u s
inserted_sound {T = T} v cs [] u s =
    cond_both {A = Result ℕ Refusal × Table T} (ltb u (length cs)) (Ok u, tab (set cs u (Some v)) [] (u + 1)) (Err TableFull, tab cs [] u) (λ x. Sound x.1)
    (λ e. raise v cs u (ltb-true u (length cs) e) s)
    (λ e. s)

pub insert_sound : {T : Type 0} (v : T) (t : Table T) → Sound t → Sound (insert v t).1
insert_sound v t s = inserted_sound v t.cells t.freed t.used s

-- ── removal and replacement ──
held_absent : {T : Type 0} (cs : List (Option T)) (ps : List ℕ) (u p : ℕ) (v : T) → Listed cs u ps → at cs p ≡ Some v → absent p ps ≡ true
held_absent cs [] u p v l e = refl
held_absent cs (q ∷ qs) u p v l e =
    and_from _ _ (ap not (ne_eqb p q (λ d. none_some (at cs q) v l.1 (ap (at cs) (sym d) ∙ e)))) (held_absent cs qs u p v l.3 e)

held_used : {T : Type 0} (t : Table T) (p : ℕ) (v : T) → Sound t → get p t ≡ Some v → p < t.used
held_used t p v s e =
    ⊎_elim (λ h. h) (λ h. absurd (none_some (get p t) v (s.unused p h) e)) (cases_lt p t.used)

removed_sound : {T : Type 0} (p : ℕ) (t : Table T) (c : Option T) → Sound t → get p t ≡ c → Sound (remove_at p c t).1
removed_sound p t None s e = s
removed_sound p t (Some v) s e =
    let low = held_used t p v s e in
    let h = held_inside t.cells p v e in
    let gone = held_absent t.cells t.freed t.used p v s.freed e in
    record {
      within = rw length-set s.within;
      unused = λ q k. get_or-set_other t.cells p q None None (λ i. omega arith) ∙ s.unused q k;
      freed = (low, get_or-set_same t.cells p None None h, gone, listed-set t.cells t.freed t.used p None gone s.freed);
      counted = omega (arith, occupied-set t.cells p None h, ap one e, s.counted);
    }

pub remove_sound : {T : Type 0} (p : ℕ) (t : Table T) → Sound t → Sound (remove p t).1
remove_sound p t s = removed_sound p t (get p t) s refl

replaced_sound : {T : Type 0} (p : ℕ) (v : T) (t : Table T) (c : Option T) → Sound t → get p t ≡ c → Sound (replace_at p v c t).1
replaced_sound p v t None s e = s
replaced_sound p v t (Some old) s e =
    let low = held_used t p old s e in
    let h = held_inside t.cells p old e in
    let gone = held_absent t.cells t.freed t.used p old s.freed e in
    record {
      within = rw length-set s.within;
      unused = λ q k. get_or-set_other t.cells p q (Some v) None (λ i. omega arith) ∙ s.unused q k;
      freed = listed-set t.cells t.freed t.used p (Some v) gone s.freed;
      counted = omega (arith, occupied-set t.cells p (Some v) h, ap one e, s.counted);
    }

pub replace_sound : {T : Type 0} (p : ℕ) (v : T) (t : Table T) → Sound t → Sound (replace p v t).1
replace_sound p v t s = replaced_sound p v t (get p t) s refl

-- ── a table with no value, and all taken ──
pub fresh_sound : (T : Type 0) (n : ℕ) → Sound (fresh {T = T} n)
fresh_sound T n = record { within = omega arith; unused = λ p h. none_at T n p; freed = tt; counted = omega (arith, occupied-replicate T n) }

pub take_all_sound : {T : Type 0} (into : List (Option T)) (t : Table T) → Sound t → Sound (take_all into t).2
take_all_sound {T = T} into t s =
    cond_both {A = Result ℕ Refusal × List (Option T) × Table T} (ltb (length into) (occupied t.cells)) (Err TableFull, into, t) (Ok (occupied t.cells), filled (values t.cells) into, emptied t) (λ x. Sound x.2)
    (λ e. s)
    (λ e. fresh_sound T (length t.cells))

pub take_all_law : {T : Type 0} (into : List (Option T)) (t : Table T) → Sound t → Taken t (take_all into t).0 (take_all into t).2
take_all_law {T = T} into t s =
    cond_both {A = Result ℕ Refusal × List (Option T) × Table T} (ltb (length into) (occupied t.cells)) (Err TableFull, into, t) (Ok (occupied t.cells), filled (values t.cells) into, emptied t) (λ x. Taken t x.0 x.2)
    (λ e. (refl, refl))
    (λ e. (refl, occupied-replicate T (length t.cells), none_at T (length t.cells)))
