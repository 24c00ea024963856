-- The rules of a table of places, each of which holds a value or is vacant. Assumes nothing.
use Rattle.std.specs.Prelude.{◌≡◌, ℕ, ◌+◌, ◌<◌, true, cond, List, [], ◌∷◌, ◌++◌, map, length, drop, replicate, is_some, Some, None, Ok, Err, Option, Result, nat_lt, slice_index_or, slice_set}
use Rattle.bells.specs.declared.refusal.Refusal.{Refusal}
use Rattle.bells.specs.declared.refusal.Refusal.TheVariants.{TableFull, Vacant, SizeOutside}

-- the freed places, the last freed first; the places from `used` on have held nothing since the last emptying
pub record Table (T : Type 0) : Type 0 where
  pub cells : List (Option T)
  pub freed : List ℕ
  pub used : ℕ

-- the value at a place, if the place is one of the table and occupied
abbrev pub get : {T : Type 0} → ℕ → Table T → Option T
get p t = slice_index_or t.cells p None

-- the values, by rising place
abbrev pub values : {T : Type 0} → List (Option T) → List T
values [] = []
values (None ∷ cs) = values cs
values (Some v ∷ cs) = v ∷ values cs

-- how many places are occupied
abbrev pub occupied : {T : Type 0} → List (Option T) → ℕ
occupied cs = length (values cs)

-- every place is occupied
abbrev pub Full : {T : Type 0} → Table T → Type 0
Full t = (p : ℕ) → p < length t.cells → is_some (get p t) ≡ true

-- a table of n vacant places
abbrev pub fresh : {T : Type 0} → ℕ → Table T
fresh n = record { cells = replicate n None; freed = []; used = 0 }

abbrev pub emptied : {T : Type 0} → Table T → Table T
emptied t = fresh (length t.cells)

-- a table of that capacity in n slots
abbrev pub opened : {T : Type 0} → ℕ → ℕ → Result (Table T) Refusal
opened n capacity = cond (nat_lt n capacity) (Err SizeOutside) (Ok (fresh capacity))

-- the place that the next value takes: the one freed last, else the lowest one unused
abbrev pub vacancy_at : List ℕ → ℕ → ℕ → Option ℕ
vacancy_at (p ∷ ps) u n = Some p
vacancy_at [] u n = cond (nat_lt u n) (Some u) None

abbrev pub vacancy : {T : Type 0} → Table T → Option ℕ
vacancy t = vacancy_at t.freed t.used (length t.cells)

-- a value goes to the place freed last, else to the lowest one unused
abbrev pub insert_at : {T : Type 0} → T → List (Option T) → List ℕ → ℕ → Result ℕ Refusal × Table T
insert_at v cs (p ∷ ps) u = (Ok p, record { cells = slice_set cs p (Some v); freed = ps; used = u })
insert_at v cs [] u =
    cond (nat_lt u (length cs))
    (Ok u, record { cells = slice_set cs u (Some v); freed = []; used = u + 1 })
    (Err TableFull, record { cells = cs; freed = []; used = u })

abbrev pub insert : {T : Type 0} → T → Table T → Result ℕ Refusal × Table T
insert v t = insert_at v t.cells t.freed t.used

-- another value at an occupied place, which answers the old one
abbrev pub replace_at : {T : Type 0} → ℕ → T → Option T → Table T → Result T Refusal × Table T
replace_at p v None t = (Err Vacant, t)
replace_at p v (Some old) t = (Ok old, record { cells = slice_set t.cells p (Some v); freed = t.freed; used = t.used })

abbrev pub replace : {T : Type 0} → ℕ → T → Table T → Result T Refusal × Table T
replace p v t = replace_at p v (get p t) t

-- an occupied place is freed, which answers its value
abbrev pub remove_at : {T : Type 0} → ℕ → Option T → Table T → Result T Refusal × Table T
remove_at p None t = (Err Vacant, t)
remove_at p (Some old) t = (Ok old, record { cells = slice_set t.cells p None; freed = p ∷ t.freed; used = t.used })

abbrev pub remove : {T : Type 0} → ℕ → Table T → Result T Refusal × Table T
remove p t = remove_at p (get p t) t

-- the values in front, and what was there behind them
abbrev pub filled : {T : Type 0} → List T → List (Option T) → List (Option T)
filled vs into = map Some vs ++ drop (length vs) into

-- the values go by rising place to the front of `into`, unless that is too short, and the table is emptied
abbrev pub take_all : {T : Type 0} → List (Option T) → Table T → Result ℕ Refusal × List (Option T) × Table T
take_all into t =
    cond (nat_lt (length into) (occupied t.cells))
    (Err TableFull, into, t)
    (Ok (occupied t.cells), filled (values t.cells) into, emptied t)
