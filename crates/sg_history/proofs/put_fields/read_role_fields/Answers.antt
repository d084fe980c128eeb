use Rattle.std.proofs.Common.{[], ◌∷◌, arith, refl}
use Rattle.std.proofs.lemmas.Result.{err_from_is_err_and}
use Rattle.sg_history.specs.Faults.{role_grammars}
use Rattle.sg_history.proofs.FaultLemmas.{bad_texts}
use Rattle.sg_history.proofs.KindLines.{role_read, nth, two, texts}
use Rattle.sg_history.proofs.put_fields.read_role_fields.Goals as goal

pub returns-clause-ok : goal.returns-clause-ok
returns-clause-ok c =
    let fields = c.args.fields.now in
    role_read (texts fields) (nth fields 0) (nth fields 1) c.in_ok-name.name c.in_ok-name.channels (two fields (omega arith) (omega arith)) c.in_ok-name.ensures.first c.in_ok-name.ensures.second

pub returns-in_err-name-clause-reason : goal.returns-in_err-name-clause-reason
returns-in_err-name-clause-reason c =
    let fields = c.args.fields.now in
    let exit = err_from_is_err_and c.from_residual.result c.from_residual.ensures.1 in
    rw (exit.1, exit.2)
    (bad_texts role_grammars (texts fields) (nth fields 0 ∷ nth fields 1 ∷ []) c.in_err-name.field-0.0 (two fields (omega arith) (omega arith)) refl c.in_err-name.ensures.fault)
