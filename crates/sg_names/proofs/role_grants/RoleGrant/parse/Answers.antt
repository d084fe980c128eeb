use Rattle.std.proofs.Common.{◌≡◌, true, Err, ap, ◌∙◌}
use Rattle.std.proofs.lemmas.Result.{err_from_is_err_and}
use Rattle.sg_names.specs.Grammar.{is_name}
use Rattle.sg_names.specs.declared.fault.TextFault.TheVariants.{Bad}
use Rattle.sg_names.proofs.ItemTexts.{no_role_grant_user, role_grant_cut, role_grant_parts}
use Rattle.sg_names.proofs.role_grants.RoleGrant.parse.Goals as goal

pub returns-in_err-parse-clause-bad : goal.returns-in_err-parse-clause-bad
returns-in_err-parse-clause-bad c = λ fault g h e.
    let seam = c.in-Some.ensures.some in
    let cut = role_grant_cut c.args.text.now c.in-Some.front.now c.in-Some.back.now g seam.0 seam.1 h e in
    let exit = err_from_is_err_and c.from_residual.result c.from_residual.ensures.1 in
    let inner : c.in_err-parse.field-0.0 ≡ Bad = cc in
    c.in_err-parse.ensures.bad (ap Err inner) (ap is_name cut.0 ∙ (role_grant_parts g h).user)

pub returns-in_err-parse-2-clause-bad : goal.returns-in_err-parse-2-clause-bad
returns-in_err-parse-2-clause-bad c = λ fault g h e.
    let seam = c.in-Some.ensures.some in
    let cut = role_grant_cut c.args.text.now c.in-Some.front.now c.in-Some.back.now g seam.0 seam.1 h e in
    let exit = err_from_is_err_and c.from_residual-in_err-parse-2.result c.from_residual-in_err-parse-2.ensures.1 in
    let inner : c.in_err-parse-2.field-0.0 ≡ Bad = cc in
    c.in_err-parse-2.ensures.bad (ap Err inner) (ap is_name cut.1 ∙ (role_grant_parts g h).role)

pub returns-in_err-parse-clause-outside : goal.returns-in_err-parse-clause-outside
returns-in_err-parse-clause-outside c = λ none.
    let seam = c.in-Some.ensures.some in
    let exit = err_from_is_err_and c.from_residual.result c.from_residual.ensures.1 in
    let role : is_name c.in-Some.back.now ≡ true = cc (c.as_bytes.ensures.value, c.is_name.ensures, c.if-not-is_name.false) in
    let bad = c.in_err-parse.ensures.outside (no_role_grant_user c.args.text.now c.in-Some.front.now c.in-Some.back.now seam.0 role none) in
    cc

pub returns-in_err-parse-2-clause-outside : goal.returns-in_err-parse-2-clause-outside
returns-in_err-parse-2-clause-outside c = λ none.
    let seam = c.in-Some.ensures.some in
    let role : is_name c.in-Some.back.now ≡ true = cc (c.as_bytes.ensures.value, c.is_name.ensures, c.if-not-is_name.false) in
    absurd (no_role_grant_user c.args.text.now c.in-Some.front.now c.in-Some.back.now seam.0 role none c.in_ok-parse.ensures.ok.1)

pub returns-clause-outside : goal.returns-clause-outside
returns-clause-outside c = λ none.
    let seam = c.in-Some.ensures.some in
    let role : is_name c.in-Some.back.now ≡ true = cc (c.as_bytes.ensures.value, c.is_name.ensures, c.if-not-is_name.false) in
    absurd (no_role_grant_user c.args.text.now c.in-Some.front.now c.in-Some.back.now seam.0 role none c.in_ok-parse.ensures.ok.1)

pub returns-then-not-is_name-clause-bad : goal.returns-then-not-is_name-clause-bad
returns-then-not-is_name-clause-bad c = λ fault g h e.
    let seam = c.in-Some.ensures.some in
    let cut = role_grant_cut c.args.text.now c.in-Some.front.now c.in-Some.back.now g seam.0 seam.1 h e in
    let role : is_name c.in-Some.back.now ≡ true = ap is_name cut.1 ∙ (role_grant_parts g h).role in
    cc (role, c.as_bytes.ensures.value, c.is_name.ensures, c.if-not-is_name.true)
