use Rattle.std.proofs.Common.{sym, ◌∙◌, rules}
use Rattle.arena.proofs.Arenas.{held_inside, one_held, removed}
use Rattle.arena.proofs.arena.Arena.remove.Goals as goal

pub replace-requires : goal.replace-requires
replace-requires g c =
    let h = held_inside c.self.inside c.self.invariant _ c.self.view_is c.args.place _ (sym c.get.ensures ∙ c.in_ok-old.ensures.ok_part) in search rules

pub invariant_of-self : goal.invariant_of-self
invariant_of-self g c =
    (removed c.self.inside c.self.invariant _ c.self.view_is c.args.place _ (sym c.get.ensures ∙ c.in_ok-old.ensures.ok_part) _ c.replace.ensures.after).whole

pub returns : goal.returns
returns g c =
    let s = removed c.self.inside c.self.invariant _ c.self.view_is c.args.place _ (sym c.get.ensures ∙ c.in_ok-old.ensures.ok_part) _ c.replace.ensures.after in
    record { step = s.step; law = s.law }

pub overflow_sub-self : goal.overflow_sub-self
overflow_sub-self g c =
    one_held c.self.inside c.self.invariant _ c.self.view_is c.args.place _ (sym c.get.ensures ∙ c.in_ok-old.ensures.ok_part)
