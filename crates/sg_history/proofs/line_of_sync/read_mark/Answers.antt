use Rattle.std.proofs.Common.{◌+◌, ◌∷◌, [], refl, sym, subst, IsUtf8}
use Rattle.std.proofs.lemmas.Result.{err_from_is_err_and}
use Rattle.sg_history.specs.Faults.{channels, document, grants, revision, role_grants}
use Rattle.sg_history.proofs.FaultLemmas.{bad_behind, bad_in_front}
use Rattle.sg_history.proofs.line_of_sync.read_mark.Goals as goal

pub returns-clause-mark : goal.returns-clause-mark
returns-clause-mark c =
    let doc = c.in_ok-revision.ensures.first in
    let rev = c.in_ok-revision.ensures.second in
    let its_channels = c.in_ok-revision.ensures.third in
    let its_grants = c.in-Ok.ensures.first in
    let roles = c.in-Ok.ensures.second in
    record {
      doc = (doc.1, subst IsUtf8 (sym doc.0) doc.2);
      rev = (rev.1, subst IsUtf8 rev.0 rev.2);
      channels = (its_channels.1, subst IsUtf8 its_channels.0 its_channels.2);
      grants = (its_grants.1, subst IsUtf8 its_grants.0 its_grants.2);
      roles = (roles.1, subst IsUtf8 roles.0 roles.2);
    }

pub returns-clause-fields : goal.returns-clause-fields
returns-clause-fields c =
    let doc = sym c.in_ok-revision.ensures.first.0 in
    let rev = c.in_ok-revision.ensures.second.0 in
    let its_channels = c.in_ok-revision.ensures.third.0 in
    let its_grants = c.in-Ok.ensures.first.0 in
    let roles = c.in-Ok.ensures.second.0 in
    λ i. doc i ∷ rev i ∷ its_channels i ∷ its_grants i ∷ roles i ∷ []

pub returns-in_err-revision-clause-reason : goal.returns-in_err-revision-clause-reason
returns-in_err-revision-clause-reason c =
    let exit = err_from_is_err_and c.from_residual.result c.from_residual.ensures.1 in
    let t = c.args.texts in
    rw (exit.1, exit.2)
    (bad_in_front c.args.number (document ∷ revision ∷ channels ∷ []) (grants ∷ role_grants ∷ []) (t.doc.now ∷ t.rev.now ∷ t.channels.now ∷ []) (t.grants.now ∷ t.roles.now ∷ [])
    c.in_err-revision.field-0.0 c.in_err-revision.ensures.fault)

pub returns-in-Err-clause-reason : goal.returns-in-Err-clause-reason
returns-in-Err-clause-reason c =
    let t = c.args.texts in
    bad_behind c.args.number (c.args.number + 3) (document ∷ revision ∷ channels ∷ []) (grants ∷ role_grants ∷ []) (t.doc.now ∷ t.rev.now ∷ t.channels.now ∷ [])
    (t.grants.now ∷ t.roles.now ∷ []) c.in-Err.fault c.in_ok-revision.ensures.texts refl c.in-Err.ensures.fault
