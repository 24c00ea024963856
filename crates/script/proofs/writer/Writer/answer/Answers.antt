use Rattle.std.proofs.Common.{subst, arith}
use Rattle.stations.specs.Answers.{Below64}
use Rattle.script.proofs.Buffers.{told-within}
use Rattle.script.proofs.writer.Writer.answer.Goals as goal

pub line-requires : goal.line-requires
line-requires c =
    let fits = told-within c.args.line c.requires.few c.args.answer (subst Below64 c.value.ensures.value c.value.ensures.fits) in
    grind arith

pub returns-clause-within : goal.returns-clause-within
returns-clause-within c = told-within c.args.line c.requires.few c.args.answer (subst Below64 c.value.ensures.value c.value.ensures.fits)
