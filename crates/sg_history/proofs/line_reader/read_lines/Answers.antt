use Rattle.std.proofs.Common.{◌≤◌, arith, length}
use Rattle.std.proofs.lemmas.Result.{err_from_is_err_and}
use Rattle.sg_history.specs.Pieces.{pieces}
use Rattle.sg_history.proofs.ReadLines.{begins_all, ends_as, reached_end, stops_from}
use Rattle.sg_history.proofs.line_reader.read_lines.Goals as goal

pub returns : goal.returns
returns g c =
    let grammar = g.L.ReadsLines.grammar in
    let items = g.L.ReadsLines.items in
    let lines = c.args.lines.now in
    let all : length lines ≤ c.in_ok-read_part.field-0 = grind (arith, c.in_ok-read_part.ensures.enough) in
    let begun =
    reached_end grammar (items c.args.into.now) lines (items c.read_part.new.into) c.in_ok-read_part.field-0 c.in_ok-read_part.ensures.read all (pieces 10 lines)
    (begins_all grammar (items c.args.into.now) (pieces 10 lines) c.requires)
    in
    ends_as grammar (pieces 10 lines) (items c.read_part.new.into) c.end.result begun c.end.ensures.ok c.end.ensures.reason

pub returns-in_err-read_part : goal.returns-in_err-read_part
returns-in_err-read_part g c =
    let grammar = g.L.ReadsLines.grammar in
    let items = g.L.ReadsLines.items in
    let lines = c.args.lines.now in
    let exit = err_from_is_err_and c.from_residual.result c.from_residual.ensures.1 in
    rw (exit.1, exit.2)
    (stops_from grammar (items c.args.into.now) lines (items c.read_part.new.into) c.in_err-read_part.field-0.0 (pieces 10 lines) c.in_err-read_part.ensures.reason
    (begins_all grammar (items c.args.into.now) (pieces 10 lines) c.requires))
