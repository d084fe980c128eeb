use Rattle.std.proofs.lemmas.Result.{err_from_is_err_and}
use Rattle.sg_history.proofs.WriteFields.{reads_write}
use Rattle.sg_history.proofs.WriteParts.{bad_tree, bad_content, bad_place, bad_grants}
use Rattle.sg_history.proofs.line_of_write.read_write.Goals as goal

pub returns-clause-ok : goal.returns-clause-ok
returns-clause-ok c =
    reads_write c.args.texts _ (record {
      doc = c.in_ok-revision.ensures.first;
      rev = c.in_ok-revision.ensures.second;
      ancestors = c.in_ok-revision.ensures.third;
      deleted = c.in-Ok.ensures.first;
      body = c.in-Ok.ensures.second;
      by = c.in-Ok.ensures.third;
      at = c.in-Ok-read_three.ensures.first;
      winner = c.in-Ok-read_three.ensures.second;
      channels = c.in-Ok-read_three.ensures.third;
      grants = c.in-Ok-read_two.ensures.first;
      roles = c.in-Ok-read_two.ensures.second;
    })

pub returns-in_err-revision-clause-reason : goal.returns-in_err-revision-clause-reason
returns-in_err-revision-clause-reason c =
    let exit = err_from_is_err_and c.from_residual.result c.from_residual.ensures.1 in
    rw (exit.1, exit.2) (bad_tree c.args.texts c.in_err-revision.field-0.0 c.in_err-revision.ensures.fault)

pub returns-in-Err-clause-reason : goal.returns-in-Err-clause-reason
returns-in-Err-clause-reason c = bad_content c.args.texts c.in-Err.fault c.in_ok-revision.ensures.texts c.in-Err.ensures.fault

pub returns-in-Err-read_three-clause-reason : goal.returns-in-Err-read_three-clause-reason
returns-in-Err-read_three-clause-reason c =
    bad_place c.args.texts c.in-Err-read_three.fault c.in_ok-revision.ensures.texts c.in-Ok.ensures.texts c.in-Err-read_three.ensures.fault

pub returns-in-Err-read_two-clause-reason : goal.returns-in-Err-read_two-clause-reason
returns-in-Err-read_two-clause-reason c =
    bad_grants c.args.texts c.in-Err-read_two.fault c.in_ok-revision.ensures.texts c.in-Ok.ensures.texts c.in-Ok-read_three.ensures.texts
    c.in-Err-read_two.ensures.fault
