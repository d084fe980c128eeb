use Rattle.sg_history.specs.Pieces.{pieces}
use Rattle.sg_history.proofs.PieceLemmas.{pieces-some}
use Rattle.sg_history.proofs.ReadLines.{other_title, title_is, title_not}
use Rattle.sg_history.proofs.line_reader.behind_title.Goals as goal

pub returns-then-not-is_title-clause-bad : goal.returns-then-not-is_title-clause-bad
returns-then-not-is_title-clause-bad g c =
    let grammar = g.L.ReadsLines.grammar in
    let lines = c.in-Some.lines.now in
    other_title grammar c.args.bytes.now c.in-Some.first.now (pieces 10 lines) c.in-Some.ensures.pieces (pieces-some 10 lines)
    (title_not grammar c.in-Some.first.now c.is_title.result c.is_title.ensures c.if-not-is_title.true)

pub returns-clause-ok : goal.returns-clause-ok
returns-clause-ok g c = (
  c.in-Some.first.now,
  title_is g.L.ReadsLines.grammar c.in-Some.first.now c.is_title.result c.is_title.ensures c.if-not-is_title.false,
  c.in-Some.ensures.pieces,
)
