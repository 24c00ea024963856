use Rattle.std.proofs.Common.{arith}
use Rattle.std.proofs.lemmas.Bool.{le-leb}
use Rattle.script.proofs.LineCuts.{count-lines}
use Rattle.script.proofs.lines.fits.Goals as goal

pub returns : goal.returns
returns c = let h = count-lines c.args.script.now in grind (arith, le-leb)
