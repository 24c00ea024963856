-- Batches of wakers, in pushed order. Assumes nothing.
use Rattle.std.specs.Prelude.{ℕ, Bool, cond, List, [], ◌∷◌, ◌++◌, length, Ok, Err, Result, nat_le, nat_lt}
use Rattle.bells.specs.declared.refusal.Refusal.{Refusal}
use Rattle.bells.specs.declared.refusal.Refusal.TheVariants.{TableFull}

-- one waker more, unless all slots are used
abbrev pub push : {W : Type 0} → ℕ → W → List W → Result (Unit {0}) Refusal × List W
push slots w ws = cond (nat_lt (length ws) slots) (Ok tt, ws ++ w ∷ []) (Err TableFull, ws)

-- a batch is to be rung once it holds 32 wakers
abbrev pub spills : {W : Type 0} → List W → Bool
spills ws = nat_le 32 (length ws)
