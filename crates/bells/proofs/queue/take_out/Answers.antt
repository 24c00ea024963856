use Rattle.std.proofs.Common.{◌≡◌, ℕ, true, eqb, ltb, length, Some, arith, rules, tests}
use Rattle.std.specs.List.{position_or_len}
use Rattle.std.proofs.lemmas.Bool.{lt-ltb}
use Rattle.std.proofs.lemmas.Iterator.{YieldsList-from_slice}
use Rattle.std.proofs.lemmas.Iterator.Search.{position_from_yields_List}
use Rattle.bells.proofs.OrderLaws.{place-below, without-place}
use Rattle.bells.proofs.queue.take_out.Goals as goal
use Rattle.bells.proofs.queue.take_out.Goals.{After-position}

-- the place where the task stands
abbrev place : After-position → ℕ
place c = position_or_len (λ x. eqb x c.args.task) c.args.line.now.items

found : (c : After-position) → c.position.result ≡ Some (place c)
found c =
    let below : ltb (place c) (length c.args.line.now.items) ≡ true = lt-ltb _ _ (place-below c.args.task c.args.line.now.items c.requires.stands) in
    let k = position_from_yields_List (λ x. eqb x c.args.task) _ _ c.position.result c.position.ensures.ran (YieldsList-from_slice c.args.line.now.items cc) (λ x b q k. search (rules, tests)) in
    rw below at k

pub returns-in-Some : goal.returns-in-Some
returns-in-Some c =
    let h = found (goal.at.returns-in-Some c).After-position in
    let out = without-place c.args.task c.args.line.now.items c.requires.single c.requires.stands in
    grind (arith, h, out)

pub returns-in_default : goal.returns-in_default
returns-in_default c = let h = found (goal.at.returns-in_default c).After-position in grind (arith, h)
