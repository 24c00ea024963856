-- When two waits are one. Assumes nothing.
use Rattle.std.specs.Prelude.{Bool, true, false, ◌&&◌, ◌==◌}
use Rattle.arena.specs.declared.wait.WaitTable.{WaitTable}
use Rattle.arena.specs.declared.wait.WaitTable.TheVariants.{Members, Watchers, Followers}
use Rattle.arena.specs.declared.wait.Wait.{Wait}

abbrev pub same_table : WaitTable → WaitTable → Bool
same_table Members Members = true
same_table Members Watchers = false
same_table Members Followers = false
same_table Watchers Members = false
same_table Watchers Watchers = true
same_table Watchers Followers = false
same_table Followers Members = false
same_table Followers Watchers = false
same_table Followers Followers = true

abbrev pub same_wait : Wait → Wait → Bool
same_wait a b = a.place == b.place && same_table a.table b.table
