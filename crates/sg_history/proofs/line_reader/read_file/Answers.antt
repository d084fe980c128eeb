use Rattle.sg_history.specs.BadLine.{refusal_at}
use Rattle.sg_history.specs.Pieces.{pieces}
use Rattle.sg_history.proofs.PieceLemmas.{pieces-some}
use Rattle.sg_history.proofs.ReadLines.{file_behind, named_behind, refused_behind}
use Rattle.sg_history.proofs.line_reader.read_file.Goals as goal

pub returns-in-Ok-read_lines-clause-ok : goal.returns-in-Ok-read_lines-clause-ok
returns-in-Ok-read_lines-clause-ok g c =
    let title = c.in-Ok.ensures.ok in
    file_behind g.L.ReadsLines.grammar c.args.bytes.now title.0 (pieces 10 c.in-Ok.lines.now) (g.L.ReadsLines.items c.read_lines.new.into) title.1 title.2 c.in-Ok-read_lines.ensures

pub returns-in-Err-read_lines-clause-line : goal.returns-in-Err-read_lines-clause-line
returns-in-Err-read_lines-clause-line g c =
    let grammar = g.L.ReadsLines.grammar in
    let fault = c.in-Err-read_lines.fault in
    let rest = pieces 10 c.in-Ok.lines.now in
    let title = c.in-Ok.ensures.ok in
    rw c.refuse.ensures
    (named_behind grammar c.args.bytes.now title.0 rest (refusal_at c.next_place.result fault) title.1 title.2 (pieces-some 10 c.in-Ok.lines.now)
    (refused_behind grammar rest (g.L.ReadsLines.items c.read_lines.new.into) c.next_place.result fault c.next_place.ensures c.in-Err-read_lines.ensures))
