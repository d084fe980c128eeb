use Rattle.std.proofs.Common.{◌≡◌, sym, ap, subst, arith, Option, Some, None}
use Rattle.std.specs.BTreeMap.{get_by_text}
use Rattle.std.proofs.lemmas.Result.{IfOk-weaker}
use Rattle.std.proofs.lemmas.Map.Text.{text_keys}
use Rattle.grant_tracks.specs.Things.{Things}
use Rattle.grant_tracks.specs.Reads.{user_channel}
use Rattle.grant_history.specs.Periods.{AreAllPeriods}
use Rattle.grant_history.proofs.Dividing.{no_periods}
use Rattle.grant_history.proofs.periods.periods_of.Goals as goal

pub returns-in-Some : goal.returns-in-Some
returns-in-Some c =
    let at : get_by_text c.args.users.now c.args.user.now ≡ Some c.in-Some.all.now = grind (arith, text_keys) in
    IfOk-weaker c.periods_in.result _ _ (λ list is.
    subst (λ (o : Option Things). AreAllPeriods list.items (λ x k. user_channel c.args.roles.now o k x)) (sym at) is) c.periods_in.ensures

pub returns-in-None : goal.returns-in-None
returns-in-None c =
    let at : get_by_text c.args.users.now c.args.user.now ≡ None = grind (arith, text_keys) in
    no_periods c.new.result.items _ c.new.ensures.items (λ x k. ap (λ (o : Option Things). user_channel c.args.roles.now o k x) at)
