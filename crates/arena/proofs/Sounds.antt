-- The table of an arena is sound, and what the calls do to a table place by place.
use Rattle.std.proofs.Common.{◌≡◌, ℕ, zero, suc, ◌+◌, ◌-◌, ◌<◌, ◌≤◌, true, cond, eqb, ltb, List, [], ◌∷◌, map, length, set, replicate, Some, None, Ok, Err, Option, Result, sym, refl, ap, ◌∙◌, subst, ⊎_elim, arith, length-set}
use Rattle.std.proofs.lemmas.List.{get_or-set_same, get_or-set_other}
use Rattle.std.proofs.lemmas.Bool.{eqb-true, eqb-false, ltb-true, ltb-false, cases_Bool, cond_both}
use Rattle.bells.specs.declared.refusal.Refusal.{Refusal}
use Rattle.bells.specs.declared.refusal.Refusal.TheVariants.{TableFull}
use Rattle.arena.specs.declared.slot.Slot.{Slot}
use Rattle.arena.specs.declared.arena.Arena.TheInside.{Inside}
use Rattle.arena.specs.Cells.{cells, chain, absent, linked, link_at}
use Rattle.arena.specs.Table.{Table, get, occupied, fresh, insert, insert_at, replace, replace_at, remove, remove_at}
use Rattle.arena.specs.Arenas.{shown, table_of, Whole}
use Rattle.arena.specs.Sound.{Listed, Sound, Complete, Added, Inserted, Freed, Removed, Changed, Replaced}
use Rattle.arena.proofs.Counts.{at, one, one_le, occupied_cons, occupied-set, occupied-replicate, all_some}
use Rattle.arena.proofs.Places.{start, at_past, absent_ne, absent_rest}
use Rattle.arena.proofs.Steps.{length_cells, vacant_none}

-- ── lists of places ──
pub none_some : {T : Type 0} (c : Option T) (v : T) → c ≡ None → c ≡ Some v → ⊥
none_some c v p q = let z : ◌≡◌ {A = ℕ} 0 1 = cc in omega arith

pub listed-set : {T : Type 0} (cs : List (Option T)) (ps : List ℕ) (u p : ℕ) (c : Option T) → absent p ps ≡ true → Listed cs u ps → Listed (set cs p c) u ps
listed-set cs [] u p c a l = tt
listed-set cs (q ∷ qs) u p c a l =
    (l.0, get_or-set_other cs p q c None (λ e. absent_ne p q qs a (sym e)) ∙ l.1, l.2, listed-set cs qs u p c (absent_rest p q qs a) l.3)

occupied_below : {T : Type 0} (cs : List (Option T)) (u : ℕ) → ((p : ℕ) → u ≤ p → at cs p ≡ None) → occupied cs ≤ u
occupied_below [] u h = omega arith
occupied_below (c ∷ cs) zero h =
    omega (arith, occupied_cons c cs, ap one (h 0 (omega arith)), occupied_below cs zero (λ p l. h (suc p) (omega arith)))
occupied_below (c ∷ cs) (suc u) h = omega (arith, occupied_cons c cs, one_le c, occupied_below cs u (λ p l. h (suc p) (omega arith)))

-- with every listed place filled, there are at most as many values as used places
abbrev mark : {T : Type 0} → Option T → Option (Unit {0})
mark (Some v) = Some tt
mark None = None

marks_occupied : {T : Type 0} (cs : List (Option T)) → occupied (map mark cs) ≡ occupied cs
marks_occupied [] = refl
marks_occupied (Some v ∷ cs) = ap suc (marks_occupied cs)
marks_occupied (None ∷ cs) = marks_occupied cs

marks_vacant : {T : Type 0} (cs : List (Option T)) (p : ℕ) → at cs p ≡ None → at (map mark cs) p ≡ None
marks_vacant [] p e = refl
marks_vacant (c ∷ cs) zero e = ap mark e
marks_vacant (c ∷ cs) (suc p) e = marks_vacant cs p e

marks_length : {T : Type 0} (cs : List (Option T)) → length (map mark cs) ≡ length cs
marks_length [] = refl
marks_length (c ∷ cs) = ap suc (marks_length cs)

marks_listed : {T : Type 0} (cs : List (Option T)) (ps : List ℕ) (u : ℕ) → Listed cs u ps → Listed (map mark cs) u ps
marks_listed cs [] u l = tt
marks_listed cs (p ∷ ps) u l = (l.0, marks_vacant cs p l.1, l.2, marks_listed cs ps u l.3)

marks_room : (cs : List (Option (Unit {0}))) (ps : List ℕ) (u : ℕ) → u ≤ length cs → ((p : ℕ) → u ≤ p → at cs p ≡ None) → Listed cs u ps → occupied cs + length ps ≤ u
marks_room cs [] u h un l = omega (arith, occupied_below cs u un)
marks_room cs (p ∷ ps) u h un l =
    let low : p < u = l.0 in
    let more = occupied-set cs p (Some tt) (omega arith) in
    let wide : u ≤ length (set cs p (Some tt)) = rw length-set h in
    let rest = marks_room (set cs p (Some tt)) ps u wide (λ q k. get_or-set_other cs p q (Some tt) None (λ e. omega arith) ∙ un q k) (listed-set cs ps u p (Some tt) l.2 l.3) in
    omega (arith, more, rest, ap one l.1)

pub sound_complete : {T : Type 0} (t : Table T) → Sound t → Complete t
sound_complete t s p low e =
    ⊎_elim
    (λ a.
    let cs = t.cells in
    let wide : t.used ≤ length (map mark cs) = rw marks_length s.within in
    let l = marks_listed cs (p ∷ t.freed) t.used (low, e, a, s.freed) in
    let room = marks_room (map mark cs) (p ∷ t.freed) t.used wide (λ q k. marks_vacant cs q (s.unused q k)) l in
    absurd (omega (arith, room, marks_occupied cs, s.counted)))
    (λ f. f)
    (cases_Bool (absent p t.freed))

-- ── the table of an arena ──
chain-listed : {T : Type 0} (n u : ℕ) (ss : List (Slot T)) (h : Option ℕ) → linked n u ss h ≡ true → Listed (cells u ss) u (chain n ss h)
chain-listed zero u ss h l = tt
chain-listed (suc n) u ss None l = tt
chain-listed (suc n) u ss (Some p) l =
    let b = start n u ss p l in
    (b.below, vacant_none ss u p b.vacant, b.once, chain-listed n u ss (link_at ss p) b.rest)

chain-length : {T : Type 0} (n u : ℕ) (ss : List (Slot T)) (h : Option ℕ) → linked n u ss h ≡ true → length (chain n ss h) ≡ n
chain-length zero u ss h l = refl
chain-length (suc n) u ss None l = absurd (let z : ◌≡◌ {A = ℕ} 0 1 = cc in omega arith)
chain-length (suc n) u ss (Some p) l = ap suc (chain-length n u ss (link_at ss p) (start n u ss p l).rest)

pub table_sound : {T : Type 0} {N : ℕ} (a : Inside T N) → Whole a → Sound (table_of a)
unfolding table_of
table_sound a w =
    record {
      within = omega (arith, length_cells a w, w.within.1);
      unused = λ p h. sym (at_past (shown a) a.used p h);
      freed = chain-listed (a.used - a.len) a.used (shown a) a.head w.chained;
      counted = omega (arith, w.counted, w.within.0, chain-length (a.used - a.len) a.used (shown a) a.head w.chained);
    }

-- ── a write, place by place ──
reads_set : {T : Type 0} (cs : List (Option T)) (p : ℕ) (c : Option T) → p < length cs → (q : ℕ) → at (set cs p c) q ≡ cond (eqb q p) c (at cs q)
reads_set {T = T} cs p c h q =
    cond_both (eqb q p) c (at cs q) (λ (x : Option T). at (set cs p c) q ≡ x)
    (λ e. ap (at (set cs p c)) (eqb-true q p e) ∙ get_or-set_same cs p c None h)
    (λ e. get_or-set_other cs p q c None (eqb-false q p e))

pub held_inside : {T : Type 0} (cs : List (Option T)) (p : ℕ) (v : T) → at cs p ≡ Some v → p < length cs
held_inside [] p v e = absurd (none_some None v refl e)
held_inside (c ∷ cs) zero v e = omega arith
held_inside (c ∷ cs) (suc p) v e = let h = held_inside cs p v e in omega arith

-- ── insertion ──
abbrev pub tab : {T : Type 0} → List (Option T) → List ℕ → ℕ → Table T
tab cs ps u = record { cells = cs; freed = ps; used = u }

added : {T : Type 0} (v : T) (cs : List (Option T)) (ps rest : List ℕ) (u next p : ℕ) → p < length cs → at cs p ≡ None → Added v (tab cs ps u) p (tab (set cs p (Some v)) rest next)
added v cs ps rest u next p h e =
    record { inside = h; was_vacant = e; reads = reads_set cs p (Some v) h; one_more = omega (arith, occupied-set cs p (Some v) h, ap one e) }

inserted : {T : Type 0} (v : T) (cs : List (Option T)) (ps : List ℕ) (u : ℕ) → Sound (tab cs ps u) → Inserted v (tab cs ps u) (insert_at v cs ps u).0 (insert_at v cs ps u).1
inserted v cs (p ∷ ps) u s = added v cs (p ∷ ps) ps u u p (omega (arith, s.within, s.freed.0)) s.freed.1
inserted {T = T} v cs [] u s =
    cond_both {A = Result ℕ Refusal × Table T} (ltb u (length cs)) (Ok u, tab (set cs u (Some v)) [] (u + 1)) (Err TableFull, tab cs [] u) (λ x. Inserted v (tab cs [] u) x.0 x.1)
    (λ e. added v cs [] [] u (u + 1) u (ltb-true u (length cs) e) (s.unused u (omega arith)))
    (λ e. let h = ltb-false u (length cs) e in (refl, all_some cs (omega (arith, s.within, s.counted))))

pub insert_law : {T : Type 0} (v : T) (t : Table T) → Sound t → Inserted v t (insert v t).0 (insert v t).1
insert_law v t s = inserted v t.cells t.freed t.used s

pub added_after : {T : Type 0} (v : T) (t : Table T) (p : ℕ) (t' : Table T) → Sound t → ◌≡◌ {A = Result ℕ Refusal × Table T} (Ok p, t') (insert v t) → Added v t p t'
added_after {T = T} v t p t' s e = subst (λ (x : Result ℕ Refusal × Table T). Inserted v t x.0 x.1) (sym e) (insert_law v t s)

-- ── removal and replacement ──
freed : {T : Type 0} (p : ℕ) (t : Table T) (c : Option T) → get p t ≡ c → Removed p t (remove_at p c t).0 (remove_at p c t).1
freed p t None e = (refl, e)
freed p t (Some v) e =
    let h = held_inside t.cells p v e in
    record {
      was_held = e;
      reads = reads_set t.cells p None h;
      one_less = omega (arith, occupied-set t.cells p None h, ap one e);
      next = λ w. refl;
    }

pub remove_law : {T : Type 0} (p : ℕ) (t : Table T) → Sound t → Removed p t (remove p t).0 (remove p t).1
remove_law p t s = freed p t (get p t) refl

pub freed_after : {T : Type 0} (p : ℕ) (v : T) (t t' : Table T) → ◌≡◌ {A = Result T Refusal × Table T} (Ok v, t') (remove p t) → Freed p v t t'
freed_after {T = T} p v t t' e = subst (λ (x : Result T Refusal × Table T). Removed p t x.0 x.1) (sym e) (freed p t (get p t) refl)

changed : {T : Type 0} (p : ℕ) (v : T) (t : Table T) (c : Option T) → get p t ≡ c → Replaced p v t (replace_at p v c t).0 (replace_at p v c t).1
changed p v t None e = (refl, e)
changed p v t (Some old) e =
    let h = held_inside t.cells p old e in
    record {
      was_held = e;
      reads = reads_set t.cells p (Some v) h;
      as_many = omega (arith, occupied-set t.cells p (Some v) h, ap one e);
    }

pub replace_law : {T : Type 0} (p : ℕ) (v : T) (t : Table T) → Sound t → Replaced p v t (replace p v t).0 (replace p v t).1
replace_law p v t s = changed p v t (get p t) refl

pub changed_after : {T : Type 0} (p : ℕ) (old v : T) (t t' : Table T) → ◌≡◌ {A = Result T Refusal × Table T} (Ok old, t') (replace p v t) → Changed p old v t t'
changed_after {T = T} p old v t t' e = subst (λ (x : Result T Refusal × Table T). Replaced p v t x.0 x.1) (sym e) (changed p v t (get p t) refl)

-- ── a table with no value ──
pub none_at : (T : Type 0) (n p : ℕ) → at (replicate {A = Option T} n None) p ≡ None
none_at T zero p = refl
none_at T (suc n) zero = refl
none_at T (suc n) (suc p) = none_at T n p

pub fresh_vacant : (T : Type 0) (n p : ℕ) → get p (fresh {T = T} n) ≡ None
fresh_vacant T n p = none_at T n p

pub fresh-occupied : (T : Type 0) (n : ℕ) → occupied (fresh {T = T} n).cells ≡ 0
fresh-occupied T n = occupied-replicate T n
