use Rattle.std.proofs.Common.{arith, rules}
use Rattle.script.proofs.Digits.{Begins, numeral_parsed, numeral_not_utf8}
use Rattle.script.proofs.field.number.Goals as goal
use Rattle.script.proofs.field.number.Goals.{After-from_utf8}

begins : (c : After-from_utf8) → Begins c.args.digits.now
begins c = record { low = grind arith; some = grind arith; plain = λ e. grind arith }

pub returns-in_err-ok-in-48 : goal.returns-in_err-ok-in-48
returns-in_err-ok-in-48 c =
    let b = begins (goal.at.returns-in_err-ok-in-48 c).After-from_utf8 in
    let h = c.from_utf8.ensures.cases in
    search (rules, numeral_not_utf8)

pub returns-in_ok-ok-in-48 : goal.returns-in_ok-ok-in-48
returns-in_ok-ok-in-48 c =
    let b = begins (goal.at.returns-in_ok-ok-in-48 c).After-from_utf8 in
    let h = c.parse.ensures.value in let k = c.in_ok-ok-in-48.was in search (rules, numeral_parsed)
