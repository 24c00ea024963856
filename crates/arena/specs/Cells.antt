-- What the slots of an arena hold, and how its vacant slots are linked. Assumes nothing.
use Rattle.std.specs.Prelude.{ℕ, zero, suc, Bool, true, false, not, ◌&&◌, List, [], ◌∷◌, Some, None, Option, ◌==◌, nat_lt}
use Rattle.arena.specs.declared.slot.Slot.{Slot}
use Rattle.arena.specs.declared.slot.Slot.TheVariants.{Occupied, Vacant}

abbrev pub content : {T : Type 0} → Slot T → Option T
content (Occupied v) = Some v
content (Vacant next) = None

-- what each slot holds, where those from the u-th on count as vacant
abbrev pub cells : {T : Type 0} → ℕ → List (Slot T) → List (Option T)
cells u [] = []
cells zero (s ∷ ss) = None ∷ cells zero ss
cells (suc u) (s ∷ ss) = content s ∷ cells u ss

abbrev pub is_vacant : {T : Type 0} → Slot T → Bool
is_vacant (Occupied v) = false
is_vacant (Vacant next) = true

abbrev pub vacant_at : {T : Type 0} → List (Slot T) → ℕ → Bool
vacant_at [] p = false
vacant_at (s ∷ ss) zero = is_vacant s
vacant_at (s ∷ ss) (suc p) = vacant_at ss p

-- the place that a vacant slot links to
abbrev pub link : {T : Type 0} → Slot T → Option ℕ
link (Occupied v) = None
link (Vacant next) = next

abbrev pub link_at : {T : Type 0} → List (Slot T) → ℕ → Option ℕ
link_at [] p = None
link_at (s ∷ ss) zero = link s
link_at (s ∷ ss) (suc p) = link_at ss p

-- the places that the links lead to, at most n, from h on
abbrev pub chain : {T : Type 0} → ℕ → List (Slot T) → Option ℕ → List ℕ
chain zero ss h = []
chain (suc n) ss None = []
chain (suc n) ss (Some p) = p ∷ chain n ss (link_at ss p)

abbrev pub absent : ℕ → List ℕ → Bool
absent q [] = true
absent q (p ∷ ps) = not (q == p) && absent q ps

-- the links from h lead to exactly n vacant slots, each below u and none twice
abbrev pub linked : {T : Type 0} → ℕ → ℕ → List (Slot T) → Option ℕ → Bool
linked zero u ss None = true
linked zero u ss (Some p) = false
linked (suc n) u ss None = false
linked (suc n) u ss (Some p) =
    (nat_lt p u && vacant_at ss p) && (absent p (chain n ss (link_at ss p)) && linked n u ss (link_at ss p))
