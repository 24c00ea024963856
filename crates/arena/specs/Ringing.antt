-- Which tasks are due after wakers are rung one after the other, where the bell knows the tasks below `known`. Assumes nothing.
use Rattle.std.specs.Prelude.{ℕ, List, fold}
use Rattle.bells.specs.Due.{Due, rung}
use Rattle.arena.specs.declared.wait.Entry.{Entry}

-- `names` gives the task of each
abbrev pub rung_all : {X : Type 0} → (X → ℕ) → ℕ → Due → List X → Due
rung_all names known due xs = fold (λ d x. rung known (names x) d) due xs

-- the entries of a set, by the wakers in them
abbrev pub each_rung : {W : Type 0} → (W → ℕ) → ℕ → Due → List (Entry W) → Due
each_rung names known due es = rung_all (λ e. names e.waker) known due es
