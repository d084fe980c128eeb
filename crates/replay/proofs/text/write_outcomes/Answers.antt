use Rattle.std.proofs.Common.{◌+◌, ◌++◌, ◌∙◌, ap, arith}
use Rattle.doc_board.specs.declared.outcome.Outcome.{Outcome}
use Rattle.transcripts.specs.Transcript.{outcome_line}
use Rattle.replay.proofs.Printing.{line_more}
use Rattle.replay.proofs.text.write_outcomes.Goals as goal

pub loop-i-preserved : goal.loop-i-preserved
loop-i-preserved c =
    line_more c.args.outcomes.now c.loop-i.i c.index-outcomes-i.result c.args.out.now c.loop-i.out c.write_outcome.new.out (omega (arith, c.loop-i-test.true)) c.index-outcomes-i.is c.loop-i.invariant (c.in_ok-write_outcome.ensures ∙ ap (λ (a : Outcome). c.loop-i.out ++ outcome_line (c.loop-i.i + 2) a) c.answer_of.ensures)
