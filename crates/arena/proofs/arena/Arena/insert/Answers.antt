use Rattle.std.proofs.Common.{◌≡◌, None, refl, sym, ◌∙◌, arith, rules}
use Rattle.std.proofs.lemmas.Result.{err_from_is_err_and}
use Rattle.bells.specs.declared.refusal.Refusal.TheVariants.{TableFull}
use Rattle.arena.proofs.Arenas.{next_freed, next_fresh, next_none, next_inside, reused, raised, refused}
use Rattle.arena.proofs.arena.Arena.insert.Goals as goal
use Rattle.arena.proofs.arena.Arena.insert.Goals.{in-Some, in-None}

pub returns-in_err-place-clause-law : goal.returns-in_err-place-clause-law
returns-in_err-place-clause-law g c =
    let v : c.vacancy.result ≡ None = grind arith in
    let e = next_none c.self.inside c.self.invariant _ c.self.view_is (sym c.vacancy.ensures ∙ v) in
    let p = err_from_is_err_and c.from_residual.result c.from_residual.ensures.1 in
    let n : c.in_err-place.field-0.0 ≡ TableFull = grind arith in
    rw (p.1, p.2, n) (refl, (refused c.self.inside c.self.invariant _ c.self.view_is c.args.value e.0 e.1).1)

pub at-requires : goal.at-requires
at-requires g c =
    let h = next_inside c.self.inside c.self.invariant _ c.self.view_is c.in_ok-place.place (sym c.vacancy.ensures ∙ c.in_ok-place.ensures.ok_part) in search rules

pub replace-requires : goal.replace-requires
replace-requires g c =
    let h = next_inside c.self.inside c.self.invariant _ c.self.view_is c.in_ok-place.place (sym c.vacancy.ensures ∙ c.in_ok-place.ensures.ok_part) in search rules

pub overflow_add-self : goal.overflow_add-self
overflow_add-self g c =
    let h = (next_fresh c.self.inside c.self.invariant _ c.self.view_is c.in_ok-place.place (sym c.vacancy.ensures ∙ c.in_ok-place.ensures.ok_part) c.in-None.is).1 in search rules

pub overflow_add-self-2 : goal.overflow_add-self-2
overflow_add-self-2 g c =
    elim c.match-self.branch [ in-Some w ↦ rw w.self-inside-is (search rules) | in-None w ↦ let h = (next_fresh c.self.inside c.self.invariant _ c.self.view_is c.in_ok-place.place (sym c.vacancy.ensures ∙ c.in_ok-place.ensures.ok_part) w.in-None.is).1 in rw w.self-inside-is (search rules) ]

pub invariant_of-self : goal.invariant_of-self
invariant_of-self g c =
    elim c.match-self.branch [
      | in-Some w ↦ rw w.self-inside-is (reused c.self.inside c.self.invariant _ c.self.view_is c.in_ok-place.place c.args.value _ _ _ (rw w.self-inside-is at c.replace.ensures.after) (next_freed c.self.inside c.self.invariant _ c.self.view_is c.in_ok-place.place _ (sym c.vacancy.ensures ∙ c.in_ok-place.ensures.ok_part) w.in-Some.is) w.at.ensures w.next-self-inside.ensures).whole
      | in-None w ↦
          let n = next_fresh c.self.inside c.self.invariant _ c.self.view_is c.in_ok-place.place (sym c.vacancy.ensures ∙ c.in_ok-place.ensures.ok_part) w.in-None.is in
          rw w.self-inside-is (raised c.self.inside c.self.invariant _ c.self.view_is c.args.value _ (rw (w.self-inside-is, n.0) at c.replace.ensures.after) w.in-None.is n.1).whole
    ]

pub returns : goal.returns
returns g c =
    elim c.match-self.branch [
      | in-Some w ↦
          let s = reused c.self.inside c.self.invariant _ c.self.view_is c.in_ok-place.place c.args.value _ _ _ (rw w.self-inside-is at c.replace.ensures.after) (next_freed c.self.inside c.self.invariant _ c.self.view_is c.in_ok-place.place _ (sym c.vacancy.ensures ∙ c.in_ok-place.ensures.ok_part) w.in-Some.is) w.at.ensures w.next-self-inside.ensures in
          rw w.self-inside-is (record { step = s.step; law = s.law })
      | in-None w ↦
          let n = next_fresh c.self.inside c.self.invariant _ c.self.view_is c.in_ok-place.place (sym c.vacancy.ensures ∙ c.in_ok-place.ensures.ok_part) w.in-None.is in
          let s = raised c.self.inside c.self.invariant _ c.self.view_is c.args.value _ (rw (w.self-inside-is, n.0) at c.replace.ensures.after) w.in-None.is n.1 in
          rw (w.self-inside-is, n.0) (record { step = s.step; law = s.law })
    ]
