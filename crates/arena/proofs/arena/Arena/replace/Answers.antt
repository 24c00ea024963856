use Rattle.std.proofs.Common.{sym, ◌∙◌, rules}
use Rattle.arena.proofs.Arenas.{held_inside, replaced}
use Rattle.arena.proofs.arena.Arena.replace.Goals as goal

pub replace-requires : goal.replace-requires
replace-requires g c =
    let h = held_inside c.self.inside c.self.invariant _ c.self.view_is c.args.place _ (sym c.get.ensures ∙ c.in_ok-old.ensures.ok_part) in search rules

pub invariant_of-self : goal.invariant_of-self
invariant_of-self g c =
    (replaced c.self.inside c.self.invariant _ c.self.view_is c.args.place _ (sym c.get.ensures ∙ c.in_ok-old.ensures.ok_part) c.args.new _ c.replace.ensures.after).whole

pub returns : goal.returns
returns g c =
    let s = replaced c.self.inside c.self.invariant _ c.self.view_is c.args.place _ (sym c.get.ensures ∙ c.in_ok-old.ensures.ok_part) c.args.new _ c.replace.ensures.after in
    record { step = s.step; law = s.law }
