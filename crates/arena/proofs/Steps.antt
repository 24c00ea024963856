-- What each write to an arena keeps, and which step of the table it is.
use Rattle.std.proofs.Common.{◌≡◌, ℕ, Bool, zero, suc, ◌+◌, ◌-◌, ◌<◌, ◌≤◌, true, false, cond, ltb, List, [], ◌∷◌, length, set, is_some, Some, None, Ok, Err, Option, Result, sym, refl, ap, arith, length-set}
use Rattle.std.specs.Bool.{then_some}
use Rattle.std.specs.Option.{option_or}
use lib.Seq.{take-set-lt}
use Rattle.std.proofs.lemmas.List.{length-take-le}
use Rattle.std.proofs.lemmas.Bool.{lt-ltb, le-ltb}
use Rattle.arena.specs.declared.slot.Slot.{Slot}
use Rattle.arena.specs.declared.slot.Slot.TheVariants.{Occupied, Vacant}
use Rattle.bells.specs.declared.refusal.Refusal.{Refusal}
use Rattle.bells.specs.declared.refusal.Refusal.TheVariants.{TableFull}
use Rattle.arena.specs.declared.arena.Arena.TheInside.{Inside}
use Rattle.arena.specs.Cells.{content, cells, link_at, is_vacant, vacant_at, chain, linked}
use Rattle.arena.specs.Arenas.{shown, table_of, Whole}
use Rattle.arena.specs.Table.{get, vacancy_at, Table, occupied, replace_at, remove_at, insert_at}
use Rattle.arena.proofs.Counts.{at, one, occupied-set, all_some}
use Rattle.arena.proofs.Places.{Start, start, started, at_past, length-cells, cells-set, cells-next, occupied-absent, chain-set, linked-set, no_more, some_more}

-- the slots that the table has are as many as its capacity
pub length-shown : {T : Type 0} {N : ℕ} (a : Inside T N) → Whole a → length (shown a) ≡ a.capacity
length-shown a w = length-take-le a.capacity a.slots.all (omega (arith, w.sized.0, w.sized.1))

-- the invariant of an arena, of the slots up to the capacity
pub record Kept {T : Type 0} (ss : List (Slot T)) (h : Option ℕ) (u l : ℕ) : Type 0 where
  pub low : l ≤ u
  pub high : u ≤ length ss
  pub chained : linked (u - l) u ss h ≡ true
  pub counted : occupied (cells u ss) ≡ l

abbrev pub table : {T : Type 0} → List (Slot T) → Option ℕ → ℕ → ℕ → Table T
table ss h u n = record { cells = cells u ss; freed = chain n ss h; used = u }

pub record Held {T : Type 0} (ss : List (Slot T)) (u p : ℕ) : Type 0 where
  pub below : p < u
  pub inside : p < length ss
  pub full : vacant_at ss p ≡ false

content_full : {T : Type 0} (s : Slot T) (v : T) → content s ≡ Some v → is_vacant s ≡ false
content_full (Occupied w) v e = refl
content_full (Vacant n) v e = let z : ◌≡◌ {A = ℕ} 0 1 = cc in absurd (omega arith)

pub held : {T : Type 0} (ss : List (Slot T)) (u p : ℕ) (v : T) → at (cells u ss) p ≡ Some v → Held ss u p
held [] u p v e = let z : ◌≡◌ {A = ℕ} 0 1 = cc in absurd (omega arith)
held (s ∷ ss) zero p v e =
    let k = at_past (s ∷ ss) zero p (omega arith) in let z : ◌≡◌ {A = ℕ} 0 1 = cc in absurd (omega arith)
held (s ∷ ss) (suc u) zero v e = record { below = omega arith; inside = omega arith; full = content_full s v e }
held (s ∷ ss) (suc u) (suc p) v e =
    let k = held ss u p v e in record { below = omega arith; inside = omega arith; full = k.full }

content_none : {T : Type 0} (s : Slot T) → is_vacant s ≡ true → content s ≡ None
content_none (Occupied w) e = let z : ◌≡◌ {A = ℕ} 0 1 = cc in absurd (omega arith)
content_none (Vacant n) e = refl

pub vacant_none : {T : Type 0} (ss : List (Slot T)) (u p : ℕ) → vacant_at ss p ≡ true → at (cells u ss) p ≡ None
vacant_none [] u p e = refl
vacant_none (s ∷ ss) zero p e = sym (at_past (s ∷ ss) zero p (omega arith))
vacant_none (s ∷ ss) (suc u) zero e = content_none s e
vacant_none (s ∷ ss) (suc u) (suc p) e = vacant_none ss u p e

link_at_same : {T : Type 0} (ss : List (Slot T)) (p : ℕ) (h : Option ℕ) → p < length ss → link_at (set ss p (Vacant h)) p ≡ h
link_at_same [] p h k = absurd (omega arith)
link_at_same (s ∷ ss) zero h k = refl
link_at_same (s ∷ ss) (suc p) h k = link_at_same ss p h (omega arith)

vacant_at_same : {T : Type 0} (ss : List (Slot T)) (p : ℕ) (h : Option ℕ) → p < length ss → vacant_at (set ss p (Vacant h)) p ≡ true
vacant_at_same [] p h k = absurd (omega arith)
vacant_at_same (s ∷ ss) zero h k = refl
vacant_at_same (s ∷ ss) (suc p) h k = vacant_at_same ss p h (omega arith)

module _ {T : Type 0} (ss : List (Slot T)) (h : Option ℕ) (u l : ℕ) (ok : Kept ss h u l) where
  -- an occupied place is written
  pub replace-kept : (p : ℕ) (v w : T) → at (cells u ss) p ≡ Some v → Kept (set ss p (Occupied w)) h u l
  replace-kept p v w e =
      let k = held ss u p v e in
      let a = occupied-absent (u - l) u ss h p k.full ok.chained in
      let n = occupied-set (cells u ss) p (Some w) (rw length-cells k.inside) in
      let m : occupied (set (cells u ss) p (Some w)) ≡ l = omega (arith, ok.counted, ap one e) in
      record {
        low = ok.low;
        high = rw length-set ok.high;
        chained = linked-set (u - l) u ss h p (Occupied w) a ok.chained;
        counted = rw (cells-set ss u p (Occupied w) k.below) m;
      }

  pub replace-step : (p : ℕ) (v w : T) → at (cells u ss) p ≡ Some v → ◌≡◌ {A = Result T Refusal × Table T} (Ok v, table (set ss p (Occupied w)) h u (u - l)) (replace_at p w (at (cells u ss) p) (table ss h u (u - l)))
  replace-step p v w e =
      let k = held ss u p v e in
      let a = occupied-absent (u - l) u ss h p k.full ok.chained in
      let x = cells-set ss u p (Occupied w) k.below in
      let y = chain-set (u - l) ss h p (Occupied w) a in
      rw (e, x, y)

  -- one is occupied
  pub held_some : (p : ℕ) (v : T) → at (cells u ss) p ≡ Some v → 1 ≤ l
  held_some p v e =
      let k = held ss u p v e in
      let n = occupied-set (cells u ss) p None (rw length-cells k.inside) in
      omega (arith, ok.counted, ap one e)

  -- an occupied place is freed
  pub remove-kept : (p : ℕ) (v : T) → at (cells u ss) p ≡ Some v → Kept (set ss p (Vacant h)) (Some p) u (l - 1)
  remove-kept p v e =
      let k = held ss u p v e in
      let a = occupied-absent (u - l) u ss h p k.full ok.chained in
      let n = occupied-set (cells u ss) p None (rw length-cells k.inside) in
      let m : occupied (set (cells u ss) p None) + 1 ≡ l = omega (arith, ok.counted, ap one e) in
      let f : u - (l - 1) ≡ suc (u - l) = omega (arith, ok.low) in
      let s = link_at_same ss p h k.inside in
      let y = chain-set (u - l) ss h p (Vacant h) a in
      record {
        low = omega (arith, ok.low);
        high = rw length-set ok.high;
        chained = rw f (started (u - l) u (set ss p (Vacant h)) p (record {
          below = k.below;
          vacant = vacant_at_same ss p h k.inside;
          once = rw (s, y) a;
          rest = rw s (linked-set (u - l) u ss h p (Vacant h) a ok.chained);
        }));
        counted = rw (cells-set ss u p (Vacant h) k.below) (omega arith);
      }

  pub remove-step : (p : ℕ) (v : T) → at (cells u ss) p ≡ Some v → ◌≡◌ {A = Result T Refusal × Table T} (Ok v, table (set ss p (Vacant h)) (Some p) u (u - (l - 1))) (remove_at p (at (cells u ss) p) (table ss h u (u - l)))
  remove-step p v e =
      let k = held ss u p v e in
      let a = occupied-absent (u - l) u ss h p k.full ok.chained in
      let n = occupied-set (cells u ss) p None (rw length-cells k.inside) in
      let f : u - (l - 1) ≡ suc (u - l) = omega (arith, ok.low, ok.counted, ap one e) in
      let x = cells-set ss u p (Vacant h) k.below in
      let s = link_at_same ss p h k.inside in
      let y = chain-set (u - l) ss h p (Vacant h) a in
      rw (e, f, x, s, y)

  -- the place freed last is taken
  pub reuse_start : (p : ℕ) → h ≡ Some p → Start (u - (l + 1)) u ss p
  reuse_start p e =
      let m = some_more (u - l) u ss p (rw e at ok.chained) in
      let f : u - l ≡ suc (u - (l + 1)) = omega arith in
      start (u - (l + 1)) u ss p (rw (f, e) at ok.chained)

  pub reuse_inside : (p : ℕ) → h ≡ Some p → p < length ss
  reuse_inside p e = let b = reuse_start p e in omega (arith, b.below, ok.high)

  pub reuse_kept : (p : ℕ) (w : T) (n : Option ℕ) → h ≡ Some p → n ≡ link_at ss p → Kept (set ss p (Occupied w)) n u (l + 1)
  reuse_kept p w o e d =
      let b = reuse_start p e in
      let m = some_more (u - l) u ss p (rw e at ok.chained) in
      let i : p < length (cells u ss) = rw length-cells (omega (arith, b.below, ok.high)) in
      let n = occupied-set (cells u ss) p (Some w) i in
      let z = vacant_none ss u p b.vacant in
      record {
        low = omega arith;
        high = rw length-set ok.high;
        chained = rw d (linked-set (u - (l + 1)) u ss (link_at ss p) p (Occupied w) b.once b.rest);
        counted = rw (cells-set ss u p (Occupied w) b.below) (omega (arith, ok.counted, n, ap one z));
      }

  pub reuse_step : (p : ℕ) (w : T) (n : Option ℕ) → h ≡ Some p → n ≡ link_at ss p → ◌≡◌ {A = Result ℕ Refusal × Table T} (Ok p, table (set ss p (Occupied w)) n u (u - (l + 1))) (insert_at w (cells u ss) (chain (u - l) ss h) u)
  reuse_step p w o e d =
      let b = reuse_start p e in
      let m = some_more (u - l) u ss p (rw e at ok.chained) in
      let f : u - l ≡ suc (u - (l + 1)) = omega arith in
      let x = cells-set ss u p (Occupied w) b.below in
      let y = chain-set (u - (l + 1)) ss (link_at ss p) p (Occupied w) b.once in
      rw (e, f, d, x, y)

  -- the lowest unused place is taken
  pub all_taken : h ≡ None → l ≡ u
  all_taken e = omega (arith, ok.low, no_more (u - l) u ss (rw e at ok.chained))

  pub fresh-kept : (w : T) → h ≡ None → u < length ss → Kept (set ss u (Occupied w)) h (u + 1) (l + 1)
  fresh-kept w e k =
      let q = all_taken e in
      let f : (u + 1) - (l + 1) ≡ 0 = omega arith in
      let n = occupied-set (cells u ss) u (Some w) (rw length-cells k) in
      let z = at_past ss u u (omega arith) in
      record {
        low = omega (arith, ok.low);
        high = rw length-set (omega arith);
        chained = rw (e, f);
        counted = rw (cells-next ss u (Occupied w)) (omega (arith, ok.counted, n, ap one z));
      }

  pub fresh-step : (w : T) → h ≡ None → u < length ss → ◌≡◌ {A = Result ℕ Refusal × Table T} (Ok u, table (set ss u (Occupied w)) h (u + 1) ((u + 1) - (l + 1))) (insert_at w (cells u ss) (chain (u - l) ss h) u)
  fresh-step w e k =
      let q = all_taken e in
      let f : (u + 1) - (l + 1) ≡ 0 = omega arith in
      let d : u - l ≡ 0 = omega arith in
      let t : ltb u (length ss) ≡ true = lt-ltb u (length ss) k in
      rw (f, d, length-cells, t, cells-next)

  -- no place is left
  pub full_all : h ≡ None → length ss ≤ u → (p : ℕ) → p < length (cells u ss) → is_some (at (cells u ss) p) ≡ true
  full_all e k =
      let q = all_taken e in
      all_some (cells u ss) (omega (arith, ok.counted, ok.high, length-cells u ss))

  pub full_step : (w : T) → h ≡ None → length ss ≤ u → ◌≡◌ {A = Result ℕ Refusal × Table T} (Err TableFull, table ss h u (u - l)) (insert_at w (cells u ss) (chain (u - l) ss h) u)
  full_step w e k =
      let q = all_taken e in
      let d : u - l ≡ 0 = omega arith in
      let t : ltb u (length ss) ≡ false = le-ltb u (length ss) k in
      rw (d, length-cells, t)

module _ {T : Type 0} {N : ℕ} (a : Inside T N) (w : Whole a) where
  pub kept : Kept (shown a) a.head a.used a.len
  kept = record { low = w.within.0; high = rw (length-shown a w) w.within.1; chained = w.chained; counted = w.counted }

  -- the fields of an arena as its table has them
  pub length_cells : length (table_of a).cells ≡ a.capacity
  unfolding table_of
  length_cells = omega (arith, length-shown a w, length-cells a.used (shown a))

  pub len_counts : occupied (table_of a).cells ≡ a.len
  unfolding table_of
  len_counts = w.counted

  -- an arena with other slots
  abbrev pub with : List (Slot T) → Option ℕ → ℕ → ℕ → Inside T N
  with ss h u l = record { slots = record { all = ss }; capacity = a.capacity; head = h; used = u; len = l }

  pub whole : (p : ℕ) (s : Slot T) (ss : List (Slot T)) (h : Option ℕ) (u l : ℕ) → ss ≡ set a.slots.all p s → p < a.capacity → Kept (set (shown a) p s) h u l → Whole (with ss h u l)
  whole p s ss h u l e below k =
      let q = take-set-lt a.capacity a.slots.all p s below in
      let n : length (set (shown a) p s) ≡ a.capacity = rw length-set (length-shown a w) in
      record {
        within = (k.low, omega (arith, k.high));
        sized = (w.sized.0, rw (e, length-set) w.sized.1);
        chained = rw (e, q) k.chained;
        counted = rw (e, q) k.counted;
      }

  pub table_with : (p : ℕ) (s : Slot T) (ss : List (Slot T)) (h : Option ℕ) (u l : ℕ) → ss ≡ set a.slots.all p s → p < a.capacity → table_of (with ss h u l) ≡ table (set (shown a) p s) h u (u - l)
  unfolding table_of
  table_with p s ss h u l e below = let q = take-set-lt a.capacity a.slots.all p s below in rw (e, q)

  -- a place that holds something is below the capacity
  pub held_below : (p : ℕ) (v : T) → get p (table_of a) ≡ Some v → p < a.capacity
  unfolding table_of
  held_below p v e = let k = held (shown a) a.used p v e in omega (arith, k.inside, length-shown a w)

  pub freed_below : (p : ℕ) → a.head ≡ Some p → p < a.capacity
  freed_below p e = let k = reuse_inside (shown a) a.head a.used a.len kept p e in omega (arith, k, length-shown a w)

pub chosen : {W : Type 0} (b : Bool) (w : W) → then_some b w ≡ cond b (Some w) None
chosen true w = refl
chosen false w = refl

-- the place that the next value takes
pub vacancy_or : {T : Type 0} (n u : ℕ) (ss : List (Slot T)) (h : Option ℕ) (m : ℕ) → linked n u ss h ≡ true → vacancy_at (chain n ss h) u m ≡ option_or h (then_some (ltb u m) u)
vacancy_or zero u ss None m l = sym (chosen (ltb u m) u)
vacancy_or zero u ss (Some q) m l = absurd (let z : ◌≡◌ {A = ℕ} 0 1 = cc in omega arith)
vacancy_or (suc n) u ss None m l = absurd (let z : ◌≡◌ {A = ℕ} 0 1 = cc in omega arith)
vacancy_or (suc n) u ss (Some q) m l = refl

pub or_head : (h o : Option ℕ) (p q : ℕ) → option_or h o ≡ Some p → h ≡ Some q → h ≡ Some p
or_head None o p q e f = absurd (let z : ◌≡◌ {A = ℕ} 0 1 = cc in omega arith)
or_head (Some x) o p q e f = e

pub or_fresh : (h : Option ℕ) (b : Bool) (u p : ℕ) → option_or h (then_some b u) ≡ Some p → h ≡ None → (p ≡ u) × (b ≡ true)
or_fresh None true u p e f = (cc, refl)
or_fresh None false u p e f = absurd (let z : ◌≡◌ {A = ℕ} 0 1 = cc in omega arith)
or_fresh (Some x) b u p e f = absurd (let z : ◌≡◌ {A = ℕ} 0 1 = cc in omega arith)

pub or_full : (h : Option ℕ) (b : Bool) (u : ℕ) → option_or h (then_some b u) ≡ None → (h ≡ None) × (b ≡ false)
or_full None true u e = absurd (let z : ◌≡◌ {A = ℕ} 0 1 = cc in omega arith)
or_full None false u e = (refl, refl)
or_full (Some x) b u e = absurd (let z : ◌≡◌ {A = ℕ} 0 1 = cc in omega arith)
