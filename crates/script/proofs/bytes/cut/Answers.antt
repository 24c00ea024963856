use Rattle.std.proofs.Common.{◌≡◌, ℕ, cond, eqb, ltb, length, Some, None, arith, rules, tests}
use Rattle.std.specs.List.{position_or_len}
use Rattle.std.proofs.lemmas.Iterator.{YieldsList-from_slice}
use Rattle.std.proofs.lemmas.Iterator.Search.{position_from_yields_List}
use Rattle.std.proofs.lemmas.List.{take_rest, take_all, drop_all}
use Rattle.script.proofs.bytes.cut.Goals as goal
use Rattle.script.proofs.bytes.cut.Goals.{After-position}

-- the place of the first b, or the length
abbrev place : After-position → ℕ
place c = position_or_len (λ x. eqb x c.args.b) c.args.text.now

found : (c : After-position) → c.position.result ≡ cond (ltb (place c) (length c.args.text.now)) (Some (place c)) None
found c =
    position_from_yields_List (λ x. eqb x c.args.b) _ _ c.position.result c.position.ensures.ran (YieldsList-from_slice c.args.text.now cc) (λ x b q k. search (rules, tests))

pub returns-in-Some-clause-front : goal.returns-in-Some-clause-front
returns-in-Some-clause-front c = let h = found (goal.at.returns-in-Some-clause-front c).After-position in grind arith

pub returns-in-Some-clause-back : goal.returns-in-Some-clause-back
returns-in-Some-clause-back c = let h = found (goal.at.returns-in-Some-clause-back c).After-position in grind (arith, take_rest)

pub returns-in-None-clause-front : goal.returns-in-None-clause-front
returns-in-None-clause-front c = let h = found (goal.at.returns-in-None-clause-front c).After-position in grind (arith, take_all)

pub returns-in-None-clause-back : goal.returns-in-None-clause-back
returns-in-None-clause-back c = let h = found (goal.at.returns-in-None-clause-back c).After-position in grind (arith, drop_all)
