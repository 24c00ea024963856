-- Due tasks in the order in which they were rung. Assumes nothing.
use Rattle.std.specs.Prelude.{ℕ, Bool, true, false, cond, not, ◌&&◌, ◌||◌, List, [], ◌∷◌, ◌++◌, filter, ◌==◌, nat_lt}

-- whether a task is among others
abbrev pub among : List ℕ → ℕ → Bool
among [] task = false
among (t ∷ ts) task = task == t || among ts task

-- no task stands twice
abbrev pub once : List ℕ → Bool
once [] = true
once (t ∷ ts) = not (among ts t) && once ts

-- a ring: a known task that does not stand there yet comes last
abbrev pub queued : ℕ → ℕ → List ℕ → List ℕ
queued known task ts = cond (nat_lt task known && not (among ts task)) (ts ++ task ∷ []) ts

-- a collection: the task leaves, and the others keep their order
abbrev pub without : ℕ → List ℕ → List ℕ
without task ts = filter (λ t. not (t == task)) ts
