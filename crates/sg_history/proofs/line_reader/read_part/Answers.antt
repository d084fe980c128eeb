use Rattle.std.proofs.Common.{◌∷◌, ◌∙◌, ap, arith, drop, length, length-append, length-drop, refl, sym}
use Rattle.std.proofs.lemmas.List.{take_rest}
use Rattle.sg_history.specs.Pieces.{pieces}
use Rattle.std.proofs.lemmas.Result.{err_from_is_err_and}
use Rattle.sg_history.proofs.ReadLines.{fails_by, reaches_more}
use Rattle.sg_history.proofs.line_reader.read_part.Goals as goal

pub returns-in_err-read_line-clause-reason : goal.returns-in_err-read_line-clause-reason
returns-in_err-read_line-clause-reason g c =
    let exit = err_from_is_err_and c.from_residual.result c.from_residual.ensures.1 in
    let items = g.L.ReadsLines.items in
    rw (exit.1, exit.2)
    (fails_by g.L.ReadsLines.grammar (items c.args.into.now) c.args.text.now (items c.lines.into) (items c.read_line.new.self) (drop c.lines.passed c.args.text.now)
    c.in-Some.line.now c.in-Some.field-0-1.now c.in_err-read_line.field-0.0 c.lines.invariant.read
    (sym (ap (pieces 10) (take_rest c.args.text.now c.lines.passed)) ∙ c.in-Some.ensures.pieces) c.in_err-read_line.ensures.reason
    c.in_err-read_line.ensures.err)

pub lines-preserved : goal.lines-preserved
lines-preserved g c =
    let items = g.L.ReadsLines.items in
    let line = c.in-Some.line.now in
    let after = c.in-Some.field-0-1.now in
    let whole = take_rest c.args.text.now c.lines.passed in
    let cut = sym whole ∙ c.in-Some.ensures.some.0 in
    let said = c.in_ok-read_line.ensures.ok in
    record {
      within =
          omega (arith, ap length cut, length-drop c.lines.passed c.args.text.now, length-append line (10 ∷ after));
      read =
          reaches_more g.L.ReadsLines.grammar (items c.args.into.now) c.args.text.now (items c.lines.into) (items c.read_line.new.self) c.lines.passed
          _ line after said.0 c.lines.invariant.read cut (sym (ap (pieces 10) whole) ∙ c.in-Some.ensures.pieces) refl said.1 said.2;
    }
