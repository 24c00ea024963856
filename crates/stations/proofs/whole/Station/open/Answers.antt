use Rattle.std.proofs.Common.{sym, ◌∙◌, lit<, rules}
use Rattle.stations.proofs.Layouts.{phaser_fits, barrier_fits, set-fits}
use Rattle.stations.proofs.Limits.{limits}
use Rattle.stations.proofs.whole.Station.open.Goals as goal

pub waiters-requires : goal.waiters-requires
waiters-requires g c = (search rules, (set-fits g.row.B g.row.W (search rules), (limits c.args.opening (sym c.fits.ensures ∙ c.if-not-fits.false)).phaser_slots))

pub new-phaser-requires : goal.new-phaser-requires
new-phaser-requires g c = (set-fits g.row.B g.row.W (search rules), phaser_fits g.row.B g.row.W (search rules))

pub waiters-requires-2 : goal.waiters-requires-2
waiters-requires-2 g c = (search rules, (set-fits g.row.B g.row.W (search rules), (limits c.args.opening (sym c.fits.ensures ∙ c.if-not-fits.false)).barrier_slots))

pub new-barrier-requires : goal.new-barrier-requires
new-barrier-requires g c = (set-fits g.row.B g.row.W (search rules), barrier_fits g.row.B g.row.W (search rules))

pub table-requires : goal.table-requires
table-requires g c = (lit< tt, (lit< tt, (limits c.args.opening (sym c.fits.ensures ∙ c.if-not-fits.false)).members))

pub table-requires-2 : goal.table-requires-2
table-requires-2 g c = (lit< tt, (lit< tt, (limits c.args.opening (sym c.fits.ensures ∙ c.if-not-fits.false)).batches))

pub table-requires-3 : goal.table-requires-3
table-requires-3 g c = (lit< tt, (lit< tt, (limits c.args.opening (sym c.fits.ensures ∙ c.if-not-fits.false)).watchers))

pub table-requires-4 : goal.table-requires-4
table-requires-4 g c = (lit< tt, (lit< tt, (limits c.args.opening (sym c.fits.ensures ∙ c.if-not-fits.false)).followers))
