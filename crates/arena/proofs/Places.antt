-- Laws of cells and of the chain of vacant slots.
use Rattle.std.proofs.Common.{◌≡◌, ℕ, zero, suc, ◌+◌, ◌<◌, ◌≤◌, true, false, not, ◌&&◌, eqb, ltb, List, [], ◌∷◌, length, get_or, set, replicate, Some, None, Option, sym, refl, ap, ◌∙◌, add-one, arith}
use Rattle.std.proofs.lemmas.Bool.{and_parts, and_from, ltb-true, lt-ltb, not-true, eqb-false, ne_eqb, both_ways}
use Rattle.arena.specs.declared.slot.Slot.{Slot}
use Rattle.arena.specs.Cells.{content, link, cells, link_at, vacant_at, chain, absent, linked}
use Rattle.arena.specs.Table.{occupied}
use Rattle.arena.proofs.Counts.{at, occupied-replicate}

pub at_past : {T : Type 0} (ss : List (Slot T)) (u p : ℕ) → u ≤ p → None ≡ at (cells u ss) p
at_past [] u p h = refl
at_past (s ∷ ss) zero zero h = refl
at_past (s ∷ ss) zero (suc p) h = at_past ss zero p (omega arith)
at_past (s ∷ ss) (suc u) zero h = absurd (omega arith)
at_past (s ∷ ss) (suc u) (suc p) h = at_past ss u p (omega arith)

pub at_read : {T : Type 0} (ss : List (Slot T)) (u p : ℕ) (x : Slot T) → p < u → p < length ss → x ≡ get_or ss p x → at (cells u ss) p ≡ content x
at_read [] u p x h k e = absurd (omega arith)
at_read (s ∷ ss) zero p x h k e = absurd (omega arith)
at_read (s ∷ ss) (suc u) zero x h k e = ap content (sym e)
at_read (s ∷ ss) (suc u) (suc p) x h k e = at_read ss u p x (omega arith) (omega arith) e

pub link_read : {T : Type 0} (ss : List (Slot T)) (p : ℕ) (x : Slot T) → p < length ss → x ≡ get_or ss p x → link_at ss p ≡ link x
link_read [] p x k e = absurd (omega arith)
link_read (s ∷ ss) zero x k e = ap link (sym e)
link_read (s ∷ ss) (suc p) x k e = link_read ss p x (omega arith) e

pub cells_none : {T : Type 0} (ss : List (Slot T)) → cells 0 ss ≡ replicate (length ss) None
cells_none [] = refl
cells_none (s ∷ ss) = ap (λ cs. None ∷ cs) (cells_none ss)

pub length-cells : {T : Type 0} (u : ℕ) (ss : List (Slot T)) → length (cells u ss) ≡ length ss
length-cells u [] = refl
length-cells zero (s ∷ ss) = ap suc (length-cells zero ss)
length-cells (suc u) (s ∷ ss) = ap suc (length-cells u ss)

pub cells-set : {T : Type 0} (ss : List (Slot T)) (u p : ℕ) (s : Slot T) → p < u → cells u (set ss p s) ≡ set (cells u ss) p (content s)
cells-set [] u p x h = refl
cells-set (s ∷ ss) zero p x h = absurd (omega arith)
cells-set (s ∷ ss) (suc u) zero x h = refl
cells-set (s ∷ ss) (suc u) (suc p) x h = ap (λ cs. content s ∷ cs) (cells-set ss u p x (omega arith))

cells_next' : {T : Type 0} (ss : List (Slot T)) (u : ℕ) (s : Slot T) → cells (suc u) (set ss u s) ≡ set (cells u ss) u (content s)
cells_next' [] u x = refl
cells_next' (s ∷ ss) zero x = refl
cells_next' (s ∷ ss) (suc u) x = ap (λ cs. content s ∷ cs) (cells_next' ss u x)

pub cells-next : {T : Type 0} (ss : List (Slot T)) (u : ℕ) (s : Slot T) → cells (u + 1) (set ss u s) ≡ set (cells u ss) u (content s)
cells-next ss u x = rw add-one (cells_next' ss u x)

-- the chain, after a write to a slot that is not on it
link_at_other : {T : Type 0} (ss : List (Slot T)) (p q : ℕ) (s : Slot T) → (q ≡ p → ⊥) → link_at (set ss q s) p ≡ link_at ss p
link_at_other [] p q x ne = refl
link_at_other (s ∷ ss) zero zero x ne = absurd (ne refl)
link_at_other (s ∷ ss) zero (suc q) x ne = refl
link_at_other (s ∷ ss) (suc p) zero x ne = refl
link_at_other (s ∷ ss) (suc p) (suc q) x ne = link_at_other ss p q x (λ e. ne (ap suc e))

vacant_at_other : {T : Type 0} (ss : List (Slot T)) (p q : ℕ) (s : Slot T) → (q ≡ p → ⊥) → vacant_at (set ss q s) p ≡ vacant_at ss p
vacant_at_other [] p q x ne = refl
vacant_at_other (s ∷ ss) zero zero x ne = absurd (ne refl)
vacant_at_other (s ∷ ss) zero (suc q) x ne = refl
vacant_at_other (s ∷ ss) (suc p) zero x ne = refl
vacant_at_other (s ∷ ss) (suc p) (suc q) x ne = vacant_at_other ss p q x (λ e. ne (ap suc e))

pub absent_ne : (q p : ℕ) (ps : List ℕ) → absent q (p ∷ ps) ≡ true → (q ≡ p → ⊥)
absent_ne q p ps h = eqb-false q p (not-true (eqb q p) (and_parts (not (eqb q p)) (absent q ps) h).0)

pub absent_rest : (q p : ℕ) (ps : List ℕ) → absent q (p ∷ ps) ≡ true → absent q ps ≡ true
absent_rest q p ps h = (and_parts (not (eqb q p)) (absent q ps) h).1

pub chain-set : {T : Type 0} (n : ℕ) (ss : List (Slot T)) (h : Option ℕ) (q : ℕ) (s : Slot T) → absent q (chain n ss h) ≡ true → chain n (set ss q s) h ≡ chain n ss h
chain-set zero ss h q s a = refl
chain-set (suc n) ss None q s a = refl
chain-set (suc n) ss (Some p) q s a =
    let ne = absent_ne q p (chain n ss (link_at ss p)) a in
    let e = link_at_other ss p q s ne in
    ap (λ ps. p ∷ ps) (ap (chain n (set ss q s)) e ∙ chain-set n ss (link_at ss p) q s (absent_rest q p (chain n ss (link_at ss p)) a))

-- what a chain that goes on says of its first place
pub record Start {T : Type 0} (n u : ℕ) (ss : List (Slot T)) (p : ℕ) : Type 0 where
  pub below : p < u
  pub vacant : vacant_at ss p ≡ true
  pub once : absent p (chain n ss (link_at ss p)) ≡ true
  pub rest : linked n u ss (link_at ss p) ≡ true

pub start : {T : Type 0} (n u : ℕ) (ss : List (Slot T)) (p : ℕ) → linked (suc n) u ss (Some p) ≡ true → Start n u ss p
start n u ss p h =
    let x = and_parts (ltb p u && vacant_at ss p) (absent p (chain n ss (link_at ss p)) && linked n u ss (link_at ss p)) h in
    let y = and_parts (ltb p u) (vacant_at ss p) x.0 in
    let z = and_parts (absent p (chain n ss (link_at ss p))) (linked n u ss (link_at ss p)) x.1 in
    record { below = ltb-true p u y.0; vacant = y.1; once = z.0; rest = z.1 }

pub started : {T : Type 0} (n u : ℕ) (ss : List (Slot T)) (p : ℕ) → Start n u ss p → linked (suc n) u ss (Some p) ≡ true
started n u ss p s =
    and_from _ _ (and_from _ _ (lt-ltb p u s.below) s.vacant) (and_from _ _ s.once s.rest)

pub linked-set : {T : Type 0} (n u : ℕ) (ss : List (Slot T)) (h : Option ℕ) (q : ℕ) (s : Slot T) → absent q (chain n ss h) ≡ true → linked n u ss h ≡ true → linked n u (set ss q s) h ≡ true
linked-set zero u ss None q s a l = refl
linked-set zero u ss (Some p) q s a l = l
linked-set (suc n) u ss None q s a l = l
linked-set (suc n) u ss (Some p) q s a l =
    let ne = absent_ne q p (chain n ss (link_at ss p)) a in
    let r = absent_rest q p (chain n ss (link_at ss p)) a in
    let b = start n u ss p l in
    let e = link_at_other ss p q s ne in
    let k = chain-set n ss (link_at ss p) q s r in
    started n u (set ss q s) p (record {
      below = b.below;
      vacant = vacant_at_other ss p q s ne ∙ b.vacant;
      once = ap (λ o. absent p (chain n (set ss q s) o)) e ∙ (ap (absent p) k ∙ b.once);
      rest = ap (linked n u (set ss q s)) e ∙ linked-set n u ss (link_at ss p) q s r b.rest;
    })

-- an occupied slot is on no chain
pub occupied-absent : {T : Type 0} (n u : ℕ) (ss : List (Slot T)) (h : Option ℕ) (q : ℕ) → vacant_at ss q ≡ false → linked n u ss h ≡ true → absent q (chain n ss h) ≡ true
occupied-absent zero u ss h q f l = refl
occupied-absent (suc n) u ss None q f l = refl
occupied-absent (suc n) u ss (Some p) q f l =
    let b = start n u ss p l in
    let ne : q ≡ p → ⊥ = λ e. both_ways (vacant_at ss q) f (ap (vacant_at ss) e ∙ b.vacant) in
    and_from _ _ (ap not (ne_eqb q p ne)) (occupied-absent n u ss (link_at ss p) q f b.rest)

-- an empty chain
pub no_more : {T : Type 0} (n u : ℕ) (ss : List (Slot T)) → linked n u ss None ≡ true → n ≡ 0
no_more zero u ss l = refl
no_more (suc n) u ss l = absurd (both_ways false refl l)

pub some_more : {T : Type 0} (n u : ℕ) (ss : List (Slot T)) (p : ℕ) → linked n u ss (Some p) ≡ true → 0 < n
some_more zero u ss p l = absurd (both_ways false refl l)
some_more (suc n) u ss p l = omega arith

pub occupied_none : {T : Type 0} (ss : List (Slot T)) → occupied (cells 0 ss) ≡ 0
occupied_none {T = T} ss = ap occupied (cells_none ss) ∙ occupied-replicate T (length ss)
