use Rattle.std.proofs.Common.{◌≡◌, ◌++◌, ◌∷◌, true, List, ℕ, refl, sym, ap, ◌∙◌, codes}
use Rattle.std.proofs.lemmas.Slice.Eq.{bytes_eq-Decides}
use Rattle.sg_names.specs.Grammar.{is_name}
use Rattle.sg_names.specs.declared.grants.Grantee.TheVariants.{User, Role}
use Rattle.sg_names.proofs.ItemTexts.{grantee_cut}
use Rattle.sg_names.proofs.grants.is_grantee.Goals as goal

pub returns-in-None-clause-yes : goal.returns-in-None-clause-yes
returns-in-None-clause-yes c = λ is.
    let name : is_name c.args.text.now ≡ true = cc (is, c.is_name.ensures, c.as_bytes.ensures.value) in
    record { item = User c.args.text.now; admitted = name; spelled = refl }

pub returns-then-eq-clause-yes : goal.returns-then-eq-clause-yes
returns-then-eq-clause-yes c = λ is.
    let seam = c.in-Some.ensures.some in
    let role = (bytes_eq-Decides c.in-Some.front.now (codes "role")).0 (sym c.if-eq.ensures) in
    let name : is_name c.in-Some.back.now ≡ true = cc (is, c.is_name-then-eq.ensures, c.as_bytes-then-eq.ensures.value) in
    record { item = Role c.in-Some.back.now; admitted = name; spelled = seam.0 ∙ ap (λ (f : List ℕ). f ++ 58 ∷ c.in-Some.back.now) role }

pub returns-else-eq-clause-no : goal.returns-else-eq-clause-no
returns-else-eq-clause-no c = λ is g h e.
    let seam = c.in-Some.ensures.some in
    let cut = grantee_cut c.args.text.now c.in-Some.front.now c.in-Some.back.now g seam.0 seam.1 h e in
    cc ((bytes_eq-Decides c.in-Some.front.now (codes "role")).1 cut, c.if-eq.ensures)
