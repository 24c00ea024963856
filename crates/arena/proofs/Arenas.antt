-- What each call does to the fields of an arena, as a step of its table.
use Rattle.std.proofs.Common.{◌≡◌, ℕ, ◌+◌, ◌-◌, ◌<◌, ◌≤◌, length, List, get_or, set, Some, None, Ok, Err, Option, Result, ltb, refl, sym, ◌∙◌, arith}
use Rattle.std.specs.Bool.{then_some}
use Rattle.std.specs.Option.{option_or}
use Rattle.std.proofs.lemmas.List.{get_or-take}
use Rattle.std.proofs.lemmas.Bool.{ltb-true, ltb-false}
use Rattle.bells.specs.declared.refusal.Refusal.{Refusal}
use Rattle.bells.specs.declared.refusal.Refusal.TheVariants.{TableFull}
use Rattle.arena.specs.declared.slot.Slot.{Slot}
use Rattle.arena.specs.declared.slot.Slot.TheVariants.{Occupied, Vacant}
use Rattle.arena.specs.declared.arena.Arena.TheInside.{Inside}
use Rattle.arena.specs.Cells.{link}
use Rattle.arena.specs.Arenas.{shown, table_of, Whole}
use Rattle.arena.specs.Table.{Table, get, vacancy, insert, replace, remove, Full}
use Rattle.arena.proofs.Places.{link_read}
use Rattle.arena.specs.Sound.{Sound, Added, Freed, Changed}
use Rattle.arena.proofs.Sounds.{table_sound, added_after, freed_after, changed_after}
use Rattle.arena.proofs.Steps.{length_cells, vacancy_or, or_head, or_fresh, or_full, kept, with, whole, table_with, length-shown, held_below, held_some, freed_below, replace-kept, replace-step, remove-kept, remove-step, reuse_kept, reuse_step, fresh-kept, fresh-step, full_step, full_all}

-- the fields are whole, and their table is what the call makes of the old, as its law says
pub record Steps {T : Type 0} {N : ℕ} {R : Type 0} (b : Inside T N) (answer : R) (made : R × Table T) (Law : Table T → Type 0) : Type 0 where
  pub whole : Whole b
  pub step : ◌≡◌ {A = R × Table T} (answer, table_of b) made
  pub law : Law (table_of b)

module _ {T : Type 0} {N : ℕ} (a : Inside T N) (w : Whole a) (t : Table T) (q : table_of a ≡ t) where
  pub sound : Sound t
  sound = rw (← q) (table_sound a w)

  -- the places of a table are slots
  pub inside : (p : ℕ) → p < a.capacity → p < N
  inside p h = omega (arith, w.sized.0)

  module _ (p : ℕ) (old : T) (e : get p t ≡ Some old) where
    was : get p (table_of a) ≡ Some old
    was = rw q e

    pub held_inside : p < N
    held_inside = inside p (held_below a w p old was)

    pub one_held : 1 ≤ a.len
    unfolding table_of
    one_held = held_some (shown a) a.head a.used a.len (kept a w) p old was

    pub replaced : (new : T) (ss : List (Slot T)) → ss ≡ set a.slots.all p (Occupied new) → Steps (with a w ss a.head a.used a.len) (Ok old) (replace p new t) (Changed p old new t)
    unfolding table_of
    replaced new ss d =
        let h = held_below a w p old was in
        let k : ◌≡◌ {A = Result T Refusal × Table T} (Ok old, table_of (with a w ss a.head a.used a.len)) (replace p new t) = rw (← q, table_with a w p (Occupied new) ss a.head a.used a.len d h) (replace-step (shown a) a.head a.used a.len (kept a w) p old new was) in
        record {
          whole = whole a w p (Occupied new) ss a.head a.used a.len d h (replace-kept (shown a) a.head a.used a.len (kept a w) p old new was);
          step = k;
          law = changed_after p old new t _ k;
        }

    pub removed : (ss : List (Slot T)) → ss ≡ set a.slots.all p (Vacant a.head) → Steps (with a w ss (Some p) a.used (a.len - 1)) (Ok old) (remove p t) (Freed p old t)
    unfolding table_of
    removed ss d =
        let h = held_below a w p old was in
        let k : ◌≡◌ {A = Result T Refusal × Table T} (Ok old, table_of (with a w ss (Some p) a.used (a.len - 1))) (remove p t) = rw (← q, table_with a w p (Vacant a.head) ss (Some p) a.used (a.len - 1) d h) (remove-step (shown a) a.head a.used a.len (kept a w) p old was) in
        record {
          whole = whole a w p (Vacant a.head) ss (Some p) a.used (a.len - 1) d h (remove-kept (shown a) a.head a.used a.len (kept a w) p old was);
          step = k;
          law = freed_after p old t _ k;
        }

  -- the place that the next value takes
  pub next : vacancy t ≡ option_or a.head (then_some (ltb a.used a.capacity) a.used)
  unfolding table_of
  next =
      let n = length_cells a w in
      rw (← q, n) (vacancy_or (a.used - a.len) a.used (shown a) a.head a.capacity w.chained)

  pub next_freed : (p m : ℕ) → vacancy t ≡ Some p → a.head ≡ Some m → a.head ≡ Some p
  next_freed p m v e = or_head a.head (then_some (ltb a.used a.capacity) a.used) p m (sym next ∙ v) e

  pub next_fresh : (p : ℕ) → vacancy t ≡ Some p → a.head ≡ None → (p ≡ a.used) × (a.used < a.capacity)
  next_fresh p v e =
      let k = or_fresh a.head (ltb a.used a.capacity) a.used p (sym next ∙ v) e in
      (k.0, ltb-true a.used a.capacity k.1)

  pub next_none : vacancy t ≡ None → (a.head ≡ None) × (a.used ≡ a.capacity)
  next_none v =
      let k = or_full a.head (ltb a.used a.capacity) a.used (sym next ∙ v) in
      (k.0, omega (arith, w.within.1, ltb-false a.used a.capacity k.1))

  next_below : (p : ℕ) (h : Option ℕ) → a.head ≡ h → vacancy t ≡ Some p → p < a.capacity
  next_below p None e v = let k = next_fresh p v e in omega (arith, k.0, k.1)
  next_below p (Some m) e v = freed_below a w p (next_freed p m v e)

  pub next_inside : (p : ℕ) → vacancy t ≡ Some p → p < N
  next_inside p v = inside p (next_below p a.head refl v)

  pub reused : (p : ℕ) (v : T) (ss : List (Slot T)) (x : Slot T) (l : Option ℕ) → ss ≡ set a.slots.all p (Occupied v) → a.head ≡ Some p → x ≡ get_or a.slots.all p x → l ≡ link x → Steps (with a w ss l a.used (a.len + 1)) (Ok p) (insert v t) (Added v t p)
  unfolding table_of
  reused p v ss x l d e r k =
      let h = freed_below a w p e in
      let n = k ∙ sym (link_read (shown a) p x (omega (arith, h, length-shown a w)) (r ∙ sym (get_or-take a.capacity a.slots.all p x h))) in
      let k : ◌≡◌ {A = Result ℕ Refusal × Table T} (Ok p, table_of (with a w ss l a.used (a.len + 1))) (insert v t) = rw (← q, table_with a w p (Occupied v) ss l a.used (a.len + 1) d h) (reuse_step (shown a) a.head a.used a.len (kept a w) p v l e n) in
      record {
        whole = whole a w p (Occupied v) ss l a.used (a.len + 1) d h (reuse_kept (shown a) a.head a.used a.len (kept a w) p v l e n);
        step = k;
        law = added_after v t p _ sound k;
      }

  pub raised : (v : T) (ss : List (Slot T)) → ss ≡ set a.slots.all a.used (Occupied v) → a.head ≡ None → a.used < a.capacity → Steps (with a w ss a.head (a.used + 1) (a.len + 1)) (Ok a.used) (insert v t) (Added v t a.used)
  unfolding table_of
  raised v ss d e h =
      let room : a.used < length (shown a) = rw (length-shown a w) h in
      let k : ◌≡◌ {A = Result ℕ Refusal × Table T} (Ok a.used, table_of (with a w ss a.head (a.used + 1) (a.len + 1))) (insert v t) = rw (← q, table_with a w a.used (Occupied v) ss a.head (a.used + 1) (a.len + 1) d h) (fresh-step (shown a) a.head a.used a.len (kept a w) v e room) in
      record {
        whole = whole a w a.used (Occupied v) ss a.head (a.used + 1) (a.len + 1) d h (fresh-kept (shown a) a.head a.used a.len (kept a w) v e room);
        step = k;
        law = added_after v t a.used _ sound k;
      }

  pub refused : (v : T) → a.head ≡ None → a.used ≡ a.capacity → (◌≡◌ {A = Result ℕ Refusal × Table T} (Err TableFull, t) (insert v t)) × Full t
  unfolding table_of
  refused v e f =
      let none : length (shown a) ≤ a.used = omega (arith, length-shown a w) in
      rw (← q) (full_step (shown a) a.head a.used a.len (kept a w) v e none, full_all (shown a) a.head a.used a.len (kept a w) e none)
