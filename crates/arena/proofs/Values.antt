-- The values that slots hold, handed out one by one.
use Rattle.std.proofs.Common.{◌≡◌, ℕ, ◌+◌, ◌<◌, ◌≤◌, List, [], ◌∷◌, ◌++◌, map, length, get_or, take, drop, set, filter_map, Some, None, fold, Option, sym, refl, ap, append_assoc, arith, length-set}
use Rattle.std.proofs.lemmas.List.{drop_more, take_more_set, take-append-drop, drop-set-lt}
use Rattle.std.proofs.lemmas.List.Elements.{filter_map-append}
use Rattle.arena.specs.Table.{values, filled}

pub values_filter : {T : Type 0} (cs : List (Option T)) → filter_map (λ c. c) cs ≡ values cs
values_filter [] = refl
values_filter (None ∷ cs) = values_filter cs
values_filter (Some v ∷ cs) = ap (λ vs. v ∷ vs) (values_filter cs)

values-push : {T : Type 0} (cs : List (Option T)) (v : T) → values (cs ++ Some v ∷ []) ≡ values cs ++ v ∷ []
values-push cs v = rw (← values_filter (cs ++ Some v ∷ []), ← values_filter cs) (filter_map-append (λ c. c) cs (Some v ∷ []))

-- one more at the end of a batch
pub pushed_more : {T : Type 0} (cs : List (Option T)) (i : ℕ) (v : T) → i < length cs → values (take (i + 1) (set cs i (Some v))) ≡ values (take i cs) ++ v ∷ []
pushed_more cs i v h = rw (take_more_set cs i (Some v) h) (values-push (take i cs) v)

-- how many were handed out, and where they went
abbrev pub pour : {T : Type 0} → ℕ × List (Option T) → T → ℕ × List (Option T)
pour s v = (s.0 + 1, set s.1 s.0 (Some v))

poured_count : {T : Type 0} (vs : List T) (s : ℕ × List (Option T)) → (fold pour s vs).0 ≡ s.0 + length vs
poured_count [] s = omega arith
poured_count (v ∷ vs) s = omega (arith, poured_count vs (pour s v))

poured_from : {T : Type 0} (vs : List T) (n : ℕ) (into : List (Option T)) → n + length vs ≤ length into → (fold pour (n, into) vs).1 ≡ take n into ++ (map Some vs ++ drop (n + length vs) into)
poured_from [] n into h = let e : n + 0 ≡ n = omega arith in rw e (sym (take-append-drop n into))
poured_from (v ∷ vs) n into h =
    let room : n < length into = omega arith in
    let more : n + 1 + length vs ≤ length (set into n (Some v)) = rw length-set (omega arith) in
    let past : n < n + 1 + length vs = omega arith in
    let e : n + length (v ∷ vs) ≡ n + 1 + length vs = omega arith in
    let k = poured_from vs (n + 1) (set into n (Some v)) more in
    rw (e, k, take_more_set into n (Some v) room, drop-set-lt (n + 1 + length vs) into n (Some v) past) (append_assoc (take n into) (Some v ∷ []) (map Some vs ++ drop (n + 1 + length vs) into))

pub poured_all : {T : Type 0} (vs : List T) (into : List (Option T)) → length vs ≤ length into → (fold pour (0, into) vs).1 ≡ filled vs into
poured_all vs into h = let e : 0 + length vs ≡ length vs = omega arith in rw e at (poured_from vs 0 into (omega arith))

-- while a value is left, so is room for it
pub poured_room : {X T : Type 0} (h : X → Option T) (xs : List X) (i n : ℕ) (into start : List (Option T)) (x : X) (v : T) → i < length xs → x ≡ get_or xs i x → h x ≡ Some v → ◌≡◌ {A = ℕ × List (Option T)} (fold pour (n, into) (filter_map h (drop i xs))) (fold pour (0, start) (filter_map h xs)) → n < length (filter_map h xs)
poured_room h xs i n into start x v k e d inv =
    let y : length (filter_map h (drop i xs)) ≡ length (filter_map h (drop (i + 1) xs)) + 1 = rw (drop_more xs i x k, ← e, d) (omega arith) in
    omega (arith, poured_count (filter_map h (drop i xs)) (n, into), poured_count (filter_map h xs) (0, start), ap (λ s. s.0) inv)
