use Rattle.std.proofs.Common.{[], ◌∷◌, arith, refl}
use Rattle.std.proofs.lemmas.Result.{err_from_is_err_and}
use Rattle.sg_history.specs.Faults.{drop_grammars, name}
use Rattle.sg_history.proofs.FaultLemmas.{bad_alone, bad_texts}
use Rattle.sg_history.proofs.KindLines.{drop_read, nth, one, texts}
use Rattle.sg_history.proofs.put_fields.read_name_field.Goals as goal

pub returns-clause-ok : goal.returns-clause-ok
returns-clause-ok c =
    let fields = c.args.fields.now in
    drop_read (texts fields) (nth fields 0) c.in_ok-name.name (one fields (omega arith) (omega arith)) c.in_ok-name.ensures.ok

pub returns-in_err-name-clause-reason : goal.returns-in_err-name-clause-reason
returns-in_err-name-clause-reason c =
    let fields = c.args.fields.now in
    let exit = err_from_is_err_and c.from_residual.result c.from_residual.ensures.1 in
    rw (exit.1, exit.2)
    (bad_texts drop_grammars (texts fields) (nth fields 0 ∷ []) c.in_err-name.field-0.0 (one fields (omega arith) (omega arith)) refl (bad_alone 2 name (nth fields 0) c.in_err-name.field-0.0 c.in_err-name.ensures.fault))
