-- How many cells hold a value.
use Rattle.std.proofs.Common.{◌≡◌, ℕ, zero, suc, ◌+◌, ◌<◌, ◌≤◌, true, List, [], ◌∷◌, length, get_or, set, replicate, is_some, Some, None, Option, refl, arith}
use Rattle.arena.specs.Table.{occupied}

abbrev pub at : {T : Type 0} → List (Option T) → ℕ → Option T
at cs p = get_or cs p None

-- what a cell counts
abbrev pub one : {T : Type 0} → Option T → ℕ
one (Some v) = 1
one None = 0

pub one_le : {T : Type 0} (c : Option T) → one c ≤ 1
one_le (Some v) = omega arith
one_le None = omega arith

some_one : {T : Type 0} (c : Option T) → one c ≡ 1 → is_some c ≡ true
some_one (Some v) h = refl
some_one None h = absurd (omega arith)

pub occupied_cons : {T : Type 0} (c : Option T) (cs : List (Option T)) → occupied (c ∷ cs) ≡ one c + occupied cs
occupied_cons (Some v) cs = omega arith
occupied_cons None cs = omega arith

-- after a write
pub occupied-set : {T : Type 0} (cs : List (Option T)) (p : ℕ) (c : Option T) → p < length cs → occupied (set cs p c) + one (at cs p) ≡ occupied cs + one c
occupied-set [] p c h = absurd (omega arith)
occupied-set (d ∷ cs) zero c h = omega (arith, occupied_cons c cs, occupied_cons d cs)
occupied-set (d ∷ cs) (suc p) c h = omega (arith, occupied-set cs p c (omega arith), occupied_cons d (set cs p c), occupied_cons d cs)

pub occupied_le : {T : Type 0} (cs : List (Option T)) → occupied cs ≤ length cs
occupied_le [] = omega arith
occupied_le (c ∷ cs) = omega (arith, occupied_le cs, one_le c, occupied_cons c cs)

pub occupied-replicate : (T : Type 0) (n : ℕ) → occupied (replicate {A = Option T} n None) ≡ 0
occupied-replicate T zero = refl
occupied-replicate T (suc n) = occupied-replicate T n

-- as many as there are cells
pub all_some : {T : Type 0} (cs : List (Option T)) → occupied cs ≡ length cs → (p : ℕ) → p < length cs → is_some (at cs p) ≡ true
all_some [] h p k = absurd (omega arith)
all_some (c ∷ cs) h zero k = some_one c (omega (arith, occupied_le cs, one_le c, occupied_cons c cs))
all_some (c ∷ cs) h (suc p) k = all_some cs (omega (arith, occupied_le cs, one_le c, occupied_cons c cs)) p (omega arith)
