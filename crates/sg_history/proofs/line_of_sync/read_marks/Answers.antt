use Rattle.std.proofs.Common.{◌++◌, ◌∷◌, [], ◌∙◌, ap, arith, length, length-append}
use Rattle.std.proofs.lemmas.Result.{err_from_is_err_and}
use Rattle.sg_history.specs.Journal.{marks_fields}
use Rattle.sg_history.specs.Line.{mark_texts_of}
use Rattle.sg_history.proofs.FaultLemmas.{fields_enough, fields_next, fields_whole, mark_bad, marks_more}
use Rattle.sg_history.proofs.line_of_sync.read_marks.Goals as goal

pub next_mark-texts-requires : goal.next_mark-texts-requires
next_mark-texts-requires c =
    fields_enough c.args.count c.loop-i.i c.loop-i.marks c.args.fields.now c.loop-i.fields c.requires.count c.loop-i.invariant.count (omega arith) c.loop-i.invariant.read

pub returns-in_err-mark-clause-reason : goal.returns-in_err-mark-clause-reason
returns-in_err-mark-clause-reason c =
    let exit = err_from_is_err_and c.from_residual.result c.from_residual.ensures.1 in
    let texts = mark_texts_of c.next_mark-texts.result in
    let left = c.next_mark-texts.new.self in
    let is = c.loop-i.invariant.read ∙ ap (λ fs. marks_fields c.loop-i.marks ++ fs) c.next_mark-texts.ensures in
    rw (exit.1, exit.2)
    (mark_bad c.args.count c.loop-i.i c.loop-i.marks c.args.fields.now texts left c.in_err-mark.field-0.0 c.loop-i.invariant.are c.loop-i.invariant.count (omega arith) is
    c.in_err-mark.ensures.reason)

pub loop-i-preserved : goal.loop-i-preserved
loop-i-preserved c =
    let texts = mark_texts_of c.next_mark-texts.result in
    let left = c.next_mark-texts.new.self in
    let mark = c.in_ok-mark.mark in
    let is = c.loop-i.invariant.read ∙ ap (λ fs. marks_fields c.loop-i.marks ++ fs) c.next_mark-texts.ensures in
    record {
      are = rw c.in_ok-push.ensures.ok (marks_more c.loop-i.marks mark c.loop-i.invariant.are c.in_ok-mark.ensures.mark);
      count = ap length c.in_ok-push.ensures.ok ∙ omega (arith, c.loop-i.invariant.count, length-append c.loop-i.marks (mark ∷ []));
      read = rw c.in_ok-push.ensures.ok (fields_next c.loop-i.marks mark c.args.fields.now texts left is c.in_ok-mark.ensures.fields);
    }

pub returns-clause-fields : goal.returns-clause-fields
returns-clause-fields c =
    fields_whole c.args.count c.loop-i.marks c.args.fields.now c.loop-i.fields c.requires.count (omega (arith, c.loop-i.invariant.count)) c.loop-i.invariant.read
