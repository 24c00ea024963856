use Rattle.script.proofs.Buffers.{answer_line_appends}
use Rattle.script.proofs.writer.Writer.line.Goals as goal

pub returns : goal.returns
returns c =
    answer_line_appends c.args.line c.args.word.now c.args.value _ _ _ _ _ _ _ c.requires c.number.ensures c.put.ensures c.put-2.ensures c.put-3.ensures c.value.ensures c.put-4.ensures
