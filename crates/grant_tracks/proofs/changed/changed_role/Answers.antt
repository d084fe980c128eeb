use Rattle.std.proofs.Common.{◌≡◌, ◌∙◌, sym, ap, subst, refl, arith, Option, Some, None}
use Rattle.std.specs.BTreeMap.{get_by_text}
use Rattle.std.proofs.lemmas.Map.Text.{text_keys}
use Rattle.grant_tracks.specs.Changed.{IsSettled, changed_by}
use Rattle.grant_tracks.specs.Reads.{channel_by}
use Rattle.grant_tracks.specs.Things.{Things}
use Rattle.grant_tracks.proofs.Settling.{role_settled}
use Rattle.grant_tracks.proofs.changed.changed_role.Goals as goal

pub returns-in-None-clause-last : goal.returns-in-None-clause-last
returns-in-None-clause-last c =
    let at : get_by_text c.args.roles.now c.args.role.now ≡ None = grind (arith, text_keys) in
    sym (ap changed_by at)

pub returns-in-None-clause-settled : goal.returns-in-None-clause-settled
returns-in-None-clause-settled c = λ x.
    let at : get_by_text c.args.roles.now c.args.role.now ≡ None = grind (arith, text_keys) in
    subst (λ (o : Option Things). IsSettled 0 (λ k. channel_by o k x)) (sym at) (λ j k le more. refl)

pub returns-in-Some-clause-last : goal.returns-in-Some-clause-last
returns-in-Some-clause-last c =
    let at : get_by_text c.args.roles.now c.args.role.now ≡ Some c.in-Some.all.now = grind (arith, text_keys) in
    c.changed.ensures.value ∙ sym (ap changed_by at)

pub returns-in-Some-clause-settled : goal.returns-in-Some-clause-settled
returns-in-Some-clause-settled c = λ x.
    let at : get_by_text c.args.roles.now c.args.role.now ≡ Some c.in-Some.all.now = grind (arith, text_keys) in
    subst (λ (o : Option Things). IsSettled c.changed.result (λ k. channel_by o k x)) (sym at) (role_settled c.in-Some.all.now c.changed.result x c.changed.ensures.up_to)
