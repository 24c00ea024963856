-- What a request that was read holds. Assumes nothing.
use Rattle.std.proofs.Common.{◌≡◌, ℕ, ◌-◌, ◌^◌, ◌<◌, ◌≤◌, false, is_some, eqb, List, Some, None, Ok, Err, Option, Result, ok_or, IfErr, sym, ap, ◌∙◌, ⊎_elim, arith, rules}
use Rattle.std.specs.Result.{result_ok}
use Rattle.std.proofs.lemmas.Bool.{cases_cond, ltb-false}
use Rattle.script.specs.declared.fault.Fault.{Fault}
use Rattle.script.specs.declared.fault.Fault.TheVariants as fault
use Rattle.script.specs.declared.name.Name.{Name}
use Rattle.script.specs.declared.name.Name.TheVariants as name
use Rattle.script.specs.declared.request.Request.{Request}
use Rattle.script.specs.Bytes.{count, space}
use Rattle.script.specs.Fields.{Field}
use Rattle.script.specs.Names.{wants_of}
use Rattle.script.specs.Requests.{taken_from, asked, requested, request}
use Rattle.script.specs.Runs.{call_by, call_of}

taken_le : (most : ℕ) (f : Field) (n : ℕ) → Ok n ≡ taken_from (Some most) f → n ≤ most
taken_le most Field.dash n e = grind arith
taken_le most (Field.name text) n e = grind arith
taken_le most (Field.number m) n e = grind (arith, ltb-false)

-- the place of an opening is the one that was read
asked_place : (n : Name) (p t v : Result ℕ Fault) (q : Request) → Ok q ≡ asked n p t v → (q.name ≡ n) × (Ok q.place ≡ p)
asked_place n p t v q e = grind arith

only_open : (n : Name) → is_some (call_by n) ≡ false → n ≡ name.Open
only_open n e = grind arith

-- what a look-up found, by the result that was made of it
pub found_or : (o : Option Name) (e : Fault) (r : Result Name Fault) → r ≡ ok_or o e → result_ok r ≡ o
found_or None e r is = grind arith
found_or (Some n) e r is = grind arith

pub missing_or : (o : Option Name) (e : Fault) (r : Result Name Fault) → r ≡ ok_or o e → IfErr r (λ f. f ≡ e)
missing_or None e r is = search rules
missing_or (Some n) e r is = search rules

-- n of an opening has 32 bits
requested-fits : (o : Option Name) (p t v : Field) (q : Request) → Ok q ≡ requested o p t v → is_some (call_of q) ≡ false → q.place < 2 ^ 32
requested-fits None p t v q e none = grind arith
requested-fits (Some n) p t v q e none =
    let asks = asked_place n (taken_from (wants_of n).place p) (taken_from (wants_of n).task t) (taken_from (wants_of n).value v) q e in
    let is_open : n ≡ name.Open = sym asks.0 ∙ only_open q.name none in
    omega (arith, taken_le (2 ^ 32 - 1) p q.place (asks.1 ∙ ap (λ m. taken_from (wants_of m).place p) is_open))

pub opening-fits : (line : List ℕ) (q : Request) → Ok q ≡ request line → is_some (call_of q) ≡ false → q.place < 2 ^ 32
opening-fits line q e none =
    ⊎_elim (λ t. search (rules, requested-fits)) (λ f. absurd cc) (cases_cond (eqb (count space line) 3) _ (Err fault.Malformed) (Ok q) e)
