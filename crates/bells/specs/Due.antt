-- What a bell means: which tasks are due. Assumes nothing.
-- All of it is shut: specifications and proofs elsewhere know a `Due` by these names and by the laws in proofs/DueLaws.antt alone.
use Rattle.std.specs.Prelude.{ℕ, zero, suc, ◌+◌, Bool, false, cond, not, ◌&&◌, ◌||◌, List, ◌==◌, nat_lt, slice_index_or}

-- for each task, whether it is due
unfoldable pub Due : Type 0
Due = ℕ → Bool

unfoldable pub is_due : Due → ℕ → Bool
unfolding Due
is_due due task = due task

-- nothing is due
unfoldable pub none_due : Due
unfolding Due
none_due = λ t. false

-- a bell that knows the tasks below `known` is rung for `task`: a known task is due from then on, an unknown one changes nothing
unfoldable pub rung : ℕ → ℕ → Due → Due
unfolding Due
rung known task due = λ t. (t == task && nat_lt task known) || due t

-- `task` alone is taken out
unfoldable pub collected : ℕ → Due → Due
unfolding Due
collected task due = λ t. not (t == task) && due t

-- how many of the tasks below `known` are due
unfoldable pub how_many : ℕ → Due → ℕ
how_many zero due = 0
how_many (suc n) due = how_many n due + cond (is_due due n) 1 0

-- a list of flags says of each of its tasks whether it is due
unfoldable pub flagged : List Bool → Due
unfolding Due
flagged flags = λ t. slice_index_or flags t false
