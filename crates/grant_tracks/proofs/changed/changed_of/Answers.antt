use Rattle.std.proofs.Common.{◌≡◌, ◌∙◌, sym, ap, subst, refl, arith, Option, Some, None}
use Rattle.std.specs.BTreeMap.{get_by_text}
use Rattle.std.proofs.lemmas.Map.Text.{text_keys}
use Rattle.grant_tracks.specs.Changed.{IsSettled, user_changed}
use Rattle.grant_tracks.specs.Reads.{user_channel}
use Rattle.grant_tracks.specs.Things.{Things}
use Rattle.grant_tracks.proofs.changed.changed_of.Goals as goal

pub returns-in-None-clause-last : goal.returns-in-None-clause-last
returns-in-None-clause-last c =
    let at : get_by_text c.args.users.now c.args.user.now ≡ None = grind (arith, text_keys) in
    sym (ap (user_changed c.args.roles.now) at)

pub returns-in-None-clause-settled : goal.returns-in-None-clause-settled
returns-in-None-clause-settled c = λ x.
    let at : get_by_text c.args.users.now c.args.user.now ≡ None = grind (arith, text_keys) in
    subst (λ (o : Option Things). IsSettled 0 (λ k. user_channel c.args.roles.now o k x)) (sym at) (λ j k le more. refl)

pub returns-in-Some-clause-last : goal.returns-in-Some-clause-last
returns-in-Some-clause-last c =
    let at : get_by_text c.args.users.now c.args.user.now ≡ Some c.in-Some.all.now = grind (arith, text_keys) in
    c.changed_in.ensures.last ∙ sym (ap (user_changed c.args.roles.now) at)

pub returns-in-Some-clause-settled : goal.returns-in-Some-clause-settled
returns-in-Some-clause-settled c = λ x.
    let at : get_by_text c.args.users.now c.args.user.now ≡ Some c.in-Some.all.now = grind (arith, text_keys) in
    subst (λ (o : Option Things). IsSettled c.changed_in.result (λ k. user_channel c.args.roles.now o k x)) (sym at) (c.changed_in.ensures.settled x)
