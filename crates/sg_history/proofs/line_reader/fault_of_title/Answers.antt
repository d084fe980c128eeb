use Rattle.sg_history.proofs.ReadLines.{title_ended, title_other}
use Rattle.sg_history.proofs.line_reader.fault_of_title.Goals as goal

pub returns-then-is_title : goal.returns-then-is_title
returns-then-is_title g c = title_ended g.L.ReadsLines.grammar c.args.line.now c.is_title.result c.requires c.is_title.ensures c.if-is_title.true

pub returns-else-is_title : goal.returns-else-is_title
returns-else-is_title g c = title_other g.L.ReadsLines.grammar c.args.line.now c.is_title.result c.requires c.is_title.ensures c.if-is_title.false
