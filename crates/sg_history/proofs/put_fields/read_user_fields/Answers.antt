use Rattle.std.proofs.Common.{[], ◌∷◌, arith, refl}
use Rattle.std.proofs.lemmas.Result.{err_from_is_err_and}
use Rattle.sg_history.specs.Faults.{user_grammars}
use Rattle.sg_history.proofs.FaultLemmas.{bad_texts}
use Rattle.sg_history.proofs.KindLines.{user_read, nth, three, texts}
use Rattle.sg_history.proofs.put_fields.read_user_fields.Goals as goal

pub returns-clause-ok : goal.returns-clause-ok
returns-clause-ok c =
    let fields = c.args.fields.now in
    user_read (texts fields) (nth fields 0) (nth fields 1) (nth fields 2) c.in_ok-name.name c.in_ok-name.channels c.in_ok-name.roles (three fields (omega arith) (omega arith)) c.in_ok-name.ensures.first c.in_ok-name.ensures.second c.in_ok-name.ensures.third

pub returns-in_err-name-clause-reason : goal.returns-in_err-name-clause-reason
returns-in_err-name-clause-reason c =
    let fields = c.args.fields.now in
    let exit = err_from_is_err_and c.from_residual.result c.from_residual.ensures.1 in
    rw (exit.1, exit.2)
    (bad_texts user_grammars (texts fields) (nth fields 0 ∷ nth fields 1 ∷ nth fields 2 ∷ []) c.in_err-name.field-0.0 (three fields (omega arith) (omega arith)) refl c.in_err-name.ensures.fault)
