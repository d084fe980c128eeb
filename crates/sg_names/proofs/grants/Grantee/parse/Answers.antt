use Rattle.std.proofs.Common.{◌≡◌, Bool, true, false, not, refl}
use Rattle.std.proofs.lemmas.Result.{err_from_is_err_and}
use Rattle.std.specs.Prelude.{codes}
use Rattle.std.proofs.lemmas.Bool.{not_from_true}
use Rattle.std.proofs.lemmas.Slice.Eq.{bytes_eq-Decides}
use Rattle.sg_names.proofs.ItemTexts.{grantee_cut, no_role, no_user}
use Rattle.sg_names.proofs.grants.Grantee.parse.Goals as goal

pub returns-then-ne-clause-bad : goal.returns-then-ne-clause-bad
returns-then-ne-clause-bad c = λ fault g h e.
    let seam = c.in-Some.ensures.some in
    let cut = grantee_cut c.args.text.now c.in-Some.front.now c.in-Some.back.now g seam.0 seam.1 h e in
    let same = (bytes_eq-Decides c.in-Some.front.now (codes "role")).1 cut in
    let differ = c.if-ne.ensures in
    cc (differ, not_from_true _ same)

turned : (t : Bool) → false ≡ not t → t ≡ true
turned true e = refl
turned false e = cc (e)

pub returns-in_err-parse-in-None-clause-outside : goal.returns-in_err-parse-in-None-clause-outside
returns-in_err-parse-in-None-clause-outside c = λ none.
    let exit = err_from_is_err_and c.from_residual.result c.from_residual.ensures.1 in
    let bad = c.in_err-parse-in-None.ensures.outside (no_user c.args.text.now none) in
    cc

pub returns-in_err-parse-in-Some-clause-outside : goal.returns-in_err-parse-in-Some-clause-outside
returns-in_err-parse-in-Some-clause-outside c = λ none.
    let seam = c.in-Some.ensures.some in
    let role = (bytes_eq-Decides c.in-Some.front.now (codes "role")).0 (turned _ c.if-ne.ensures) in
    let exit = err_from_is_err_and c.from_residual-in_err-parse-in-Some.result c.from_residual-in_err-parse-in-Some.ensures.1 in
    let bad = c.in_err-parse-in-Some.ensures.outside (no_role c.args.text.now c.in-Some.front.now c.in-Some.back.now seam.0 role none) in
    cc

pub returns-in_ok-parse-in-None-clause-outside : goal.returns-in_ok-parse-in-None-clause-outside
returns-in_ok-parse-in-None-clause-outside c = λ none. absurd (no_user c.args.text.now none c.in_ok-parse-in-None.ensures.ok.1)

pub returns-in_ok-parse-in-Some-clause-outside : goal.returns-in_ok-parse-in-Some-clause-outside
returns-in_ok-parse-in-Some-clause-outside c = λ none.
    let seam = c.in-Some.ensures.some in
    let role = (bytes_eq-Decides c.in-Some.front.now (codes "role")).0 (turned _ c.if-ne.ensures) in
    absurd (no_role c.args.text.now c.in-Some.front.now c.in-Some.back.now seam.0 role none c.in_ok-parse-in-Some.ensures.ok.1)
