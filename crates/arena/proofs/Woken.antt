-- Which tasks are due after a wake.
use Rattle.std.proofs.Common.{◌≡◌, ℕ, zero, suc, ◌<◌, Bool, true, false, cond, ◌&&◌, eqb, ltb, ◌⊎◌, List, [], ◌∷◌, get_or, Some, None, Option, sym, refl, ap, ◌∙◌, subst, inl, inr, ⊎_elim, arith}
use Rattle.std.proofs.lemmas.List.{nil_from_length}
use Rattle.std.proofs.lemmas.Bool.{eqb-true, ltb-true, eq-eqb, ne_eqb, and_parts, or_cases}
use Rattle.bells.specs.Due.{Due, is_due, rung}
use Rattle.bells.proofs.DueLaws.{is_due-rung, rung_here, rung_keeps}
use Rattle.arena.specs.declared.wait.Entry.{Entry}
use Rattle.arena.specs.Table.{Table, values, occupied, emptied}
use Rattle.arena.specs.Ringing.{rung_all, each_rung}
use Rattle.arena.specs.Wakers.{wake_all, Woken}

none_some : {A : Type 0} (x : A) → ◌≡◌ {A = Option A} None (Some x) → ⊥
none_some x h = let z : ◌≡◌ {A = ℕ} 0 1 = cc in omega arith

some_same : {A : Type 0} (x y : A) → ◌≡◌ {A = Option A} (Some x) (Some y) → x ≡ y
some_same x y h = cc

module _ {X : Type 0} (names : X → ℕ) (known : ℕ) where
  -- what is due stays due
  pub rung_all_keeps : (xs : List X) (due : Due) (task : ℕ) → is_due due task ≡ true → is_due (rung_all names known due xs) task ≡ true
  rung_all_keeps [] due task h = h
  rung_all_keeps (x ∷ xs) due task h = rung_all_keeps xs (rung known (names x) due) task (rung_keeps known (names x) task due h)

  -- what a cell names is due, if it is known
  pub rung_all_here : (cs : List (Option X)) (p : ℕ) (x : X) (due : Due) → get_or cs p None ≡ Some x → names x < known → is_due (rung_all names known due (values cs)) (names x) ≡ true
  rung_all_here [] p x due e h = absurd (none_some x e)
  rung_all_here (None ∷ cs) zero x due e h = absurd (none_some x e)
  rung_all_here (None ∷ cs) (suc p) x due e h = rung_all_here cs p x due e h
  rung_all_here (Some y ∷ cs) zero x due e h =
      let here : is_due (rung known (names y) due) (names x) ≡ true = subst (λ (z : X). is_due (rung known (names z) due) (names x) ≡ true) (sym (some_same y x e)) (rung_here known (names x) due h) in
      rung_all_keeps (values cs) (rung known (names y) due) (names x) here
  rung_all_here (Some y ∷ cs) (suc p) x due e h = rung_all_here cs p x (rung known (names y) due) e h

  -- and nothing else comes to be due
  abbrev Source : List (Option X) → ℕ → Type 0
  Source cs task = (p : ℕ) × (x : X) × (get_or cs p None ≡ Some x) × (names x ≡ task) × (task < known)

  later : (c : Option X) (cs : List (Option X)) (task : ℕ) → Source cs task → Source (c ∷ cs) task
  later c cs task s = (suc s.0, s.1, s.2, s.3, s.4)

  first : (x : X) (cs : List (Option X)) (task : ℕ) (due : Due) → is_due (rung known (names x) due) task ≡ true → (is_due due task ≡ true) ⊎ Source (Some x ∷ cs) task
  first x cs task due h =
      ⊎_elim
      (λ k. let both = and_parts (eqb task (names x)) (ltb (names x) known) k in let e = eqb-true task (names x) both.0 in inr (0, x, refl, sym e, omega (arith, ltb-true (names x) known both.1)))
      (λ k. inl k)
      (or_cases (eqb task (names x) && ltb (names x) known) (is_due due task) (sym (is_due-rung known (names x) task due) ∙ h))

  pub rung_all_source : (cs : List (Option X)) (due : Due) (task : ℕ) → is_due (rung_all names known due (values cs)) task ≡ true → (is_due due task ≡ true) ⊎ Source cs task
  rung_all_source [] due task h = inl h
  rung_all_source (None ∷ cs) due task h = ⊎_elim (λ k. inl k) (λ s. inr (later None cs task s)) (rung_all_source cs due task h)
  rung_all_source (Some x ∷ cs) due task h =
      ⊎_elim (λ k. first x cs task due k) (λ s. inr (later (Some x) cs task s)) (rung_all_source cs (rung known (names x) due) task h)

module _ {W : Type 0} (names : W → ℕ) (known : ℕ) where
  -- a wake rings every entry, also where there is none
  pub wake_all_rings : (due : Due) (t : Table (Entry W)) → (wake_all names known due t).0 ≡ each_rung names known due (values t.cells)
  wake_all_rings due t = go (eqb (occupied t.cells) 0) refl
    where
      go : (b : Bool) → eqb (occupied t.cells) 0 ≡ b → ◌≡◌ {A = Due} (cond {A = Due × Table (Entry W)} b (due, t) (each_rung names known due (values t.cells), emptied t)).0 (each_rung names known due (values t.cells))
      go true q = let e = nil_from_length (values t.cells) (eqb-true (occupied t.cells) 0 q) in rw e
      go false q = refl

  each_woken : (due : Due) (t : Table (Entry W)) → Woken names known due t (each_rung names known due (values t.cells))
  each_woken due t task = (
    (λ h. ⊎_elim (λ k. inl k) (λ s. inr ((s.0, s.1, s.2, s.3), s.4)) (rung_all_source (λ e. names e.waker) known t.cells due task h)),
    (λ o. ⊎_elim
        (λ k. rung_all_keeps (λ e. names e.waker) known (values t.cells) due task k)
        (λ n. let s = n.0 in subst (λ (x : ℕ). is_due (each_rung names known due (values t.cells)) x ≡ true) s.3 (rung_all_here (λ e. names e.waker) known t.cells s.0 s.1 due s.2 (let q = s.3 in omega (arith, n.1))))
        o),
  )

  pub wake_all-woken : (due : Due) (t : Table (Entry W)) → Woken names known due t (wake_all names known due t).0
  wake_all-woken due t = subst (λ (d : Due). Woken names known due t d) (sym (wake_all_rings due t)) (each_woken due t)

  pub woken-after : (due due' : Due) (t t' : Table (Entry W)) → ◌≡◌ {A = Due × Table (Entry W)} (due', t') (wake_all names known due t) → Woken names known due t due'
  woken-after due due' t t' q = subst (λ (d : Due). Woken names known due t d) (sym (ap (λ (x : Due × Table (Entry W)). x.0) q)) (wake_all-woken due t)

  -- an empty set, and one that is rung and emptied
  pub wake_all_none : (due : Due) (t : Table (Entry W)) → occupied t.cells ≡ 0 → ◌≡◌ {A = Due × Table (Entry W)} (due, t) (wake_all names known due t)
  wake_all_none due t h = let z = eq-eqb (occupied t.cells) 0 h in rw z

  pub wake_all_some : (due due' : Due) (t t' : Table (Entry W)) → (occupied t.cells ≡ 0 → ⊥) → due' ≡ each_rung names known due (values t.cells) → t' ≡ emptied t → ◌≡◌ {A = Due × Table (Entry W)} (due', t') (wake_all names known due t)
  wake_all_some due due' t t' h p q = let z = ne_eqb (occupied t.cells) 0 h in rw (z, p, q)
