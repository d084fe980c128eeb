use Rattle.std.proofs.Common.{◌≡◌, true, ap, ◌∙◌}
use Rattle.std.proofs.lemmas.Bool.{and_from}
use Rattle.sg_names.specs.Grammar.{is_name}
use Rattle.sg_names.proofs.ItemTexts.{role_grant_cut, role_grant_parts}
use Rattle.sg_names.proofs.role_grants.RoleGrantItem.is_text.Goals as goal

pub returns-then-is_name-clause-yes : goal.returns-then-is_name-clause-yes
returns-then-is_name-clause-yes c = λ is.
    let seam = c.in-Some.ensures.some in
    let user : is_name c.in-Some.front.now ≡ true = cc (c.if-is_name.true, c.is_name.ensures, c.as_bytes.ensures.value) in
    let role : is_name c.in-Some.back.now ≡ true = cc (is, c.is_name-then-is_name.ensures, c.as_bytes-then-is_name.ensures.value) in
    record {
      item = record { user = c.in-Some.front.now; role = c.in-Some.back.now };
      admitted = and_from _ _ user role;
      spelled = seam.0;
    }

pub returns-then-is_name-clause-no : goal.returns-then-is_name-clause-no
returns-then-is_name-clause-no c = λ is g h e.
    let seam = c.in-Some.ensures.some in
    let cut = role_grant_cut c.args.piece.now c.in-Some.front.now c.in-Some.back.now g seam.0 seam.1 h e in
    let role : is_name c.in-Some.back.now ≡ true = ap is_name cut.1 ∙ (role_grant_parts g h).role in
    cc (is, role, c.is_name-then-is_name.ensures, c.as_bytes-then-is_name.ensures.value)

pub returns-else-is_name-clause-no : goal.returns-else-is_name-clause-no
returns-else-is_name-clause-no c = λ is g h e.
    let seam = c.in-Some.ensures.some in
    let cut = role_grant_cut c.args.piece.now c.in-Some.front.now c.in-Some.back.now g seam.0 seam.1 h e in
    let user : is_name c.in-Some.front.now ≡ true = ap is_name cut.0 ∙ (role_grant_parts g h).user in
    cc (c.if-is_name.false, user, c.is_name.ensures, c.as_bytes.ensures.value)
