use Rattle.std.proofs.Common.{◌≡◌, ◌++◌, ◌∷◌, true, List, ℕ, ap, ◌∙◌}
use Rattle.std.proofs.lemmas.Bool.{and_from}
use Rattle.sg_names.specs.Grammar.{is_channel_name}
use Rattle.sg_names.proofs.ItemTexts.{grant_cut, grant_parts}
use Rattle.sg_names.proofs.grants.GrantItem.is_text.Goals as goal

pub returns-then-is_grantee-clause-yes : goal.returns-then-is_grantee-clause-yes
returns-then-is_grantee-clause-yes c = λ is.
    let seam = c.in-Some.ensures.some in
    let has = c.is_grantee.ensures.yes c.if-is_grantee.true in
    let channel : is_channel_name c.in-Some.back.now ≡ true = cc (is, c.is_channel_name.ensures, c.as_bytes.ensures.value) in
    record {
      item = record { to = has.item; channel = c.in-Some.back.now };
      admitted = and_from _ _ has.admitted channel;
      spelled = seam.0 ∙ ap (λ (f : List ℕ). f ++ 61 ∷ c.in-Some.back.now) has.spelled;
    }

pub returns-then-is_grantee-clause-no : goal.returns-then-is_grantee-clause-no
returns-then-is_grantee-clause-no c = λ is g h e.
    let seam = c.in-Some.ensures.some in
    let cut = grant_cut c.args.piece.now c.in-Some.front.now c.in-Some.back.now g seam.0 seam.1 h e in
    let channel : is_channel_name c.in-Some.back.now ≡ true = ap is_channel_name cut.1 ∙ (grant_parts g h).channel in
    cc (is, channel, c.is_channel_name.ensures, c.as_bytes.ensures.value)

pub returns-else-is_grantee-clause-no : goal.returns-else-is_grantee-clause-no
returns-else-is_grantee-clause-no c = λ is g h e.
    let seam = c.in-Some.ensures.some in
    let cut = grant_cut c.args.piece.now c.in-Some.front.now c.in-Some.back.now g seam.0 seam.1 h e in
    c.is_grantee.ensures.no c.if-is_grantee.false g.to (grant_parts g h).to cut.0
