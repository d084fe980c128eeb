use Rattle.std.proofs.Common.{sym}
use Rattle.std.proofs.lemmas.Result.{err_from_is_err_and}
use Rattle.sg_history.specs.Pieces.{pieces}
use Rattle.record_file.proofs.Owners.{bad_name, bad_version, few_fields, many_fields, two_fields}
use Rattle.record_file.proofs.owner.read_fields.Goals as goal

pub returns-in_default-clause-reason : goal.returns-in_default-clause-reason
returns-in_default-clause-reason c = few_fields c.args.fields.now c.in_default.ensures.pieces

pub returns-then-is_some-clause-reason : goal.returns-then-is_some-clause-reason
returns-then-is_some-clause-reason c =
    many_fields c.args.fields.now c.in-Some.name.now c.in-Some.version.now c.cut-2.result c.in-Some.ensures.pieces (sym c.if-is_some.ensures) c.cut-2.ensures.pieces

pub returns-in_err-user-clause-reason : goal.returns-in_err-user-clause-reason
returns-in_err-user-clause-reason c =
    let parts = two_fields c.args.fields.now c.in-Some.name.now c.in-Some.version.now c.cut-2.result c.in-Some.ensures.pieces (sym c.if-is_some.ensures) c.cut-2.ensures.pieces in
    let exit = err_from_is_err_and c.from_residual.result c.from_residual.ensures.1 in
    rw (exit.1, exit.2) (bad_name (pieces 9 c.args.fields.now) c.in-Some.name.now c.in-Some.version.now c.in_err-user.field-0.0 parts c.in_err-user.ensures.fault)

pub returns-in_err-version-clause-reason : goal.returns-in_err-version-clause-reason
returns-in_err-version-clause-reason c =
    let parts = two_fields c.args.fields.now c.in-Some.name.now c.in-Some.version.now c.cut-2.result c.in-Some.ensures.pieces (sym c.if-is_some.ensures) c.cut-2.ensures.pieces in
    let exit = err_from_is_err_and c.from_residual-in_err-version.result c.from_residual-in_err-version.ensures.1 in
    rw (exit.1, exit.2)
    (bad_version (pieces 9 c.args.fields.now) c.in-Some.name.now c.in-Some.version.now c.in_err-version.field-0.0 parts c.in_ok-user.ensures.text c.in_err-version.ensures.reason)
