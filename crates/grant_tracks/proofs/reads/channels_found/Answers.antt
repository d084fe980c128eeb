use Rattle.std.proofs.Common.{◌≡◌, ◌∙◌, sym, ap, arith, Option, Some}
use Rattle.std.specs.BTreeMap.{get_by_text}
use Rattle.std.proofs.lemmas.Result.{IfOk-weaker}
use Rattle.std.proofs.lemmas.Map.Text.{text_keys}
use Rattle.grant_tracks.specs.Things.{Things}
use Rattle.grant_tracks.specs.Reads.{user_channel}
use Rattle.grant_tracks.proofs.reads.channels_found.Goals as goal

pub returns-in-Some : goal.returns-in-Some
returns-in-Some c =
    let at : get_by_text c.args.users.now c.args.user.now ≡ Some c.in-Some.all.now = grind (arith, text_keys) in
    IfOk-weaker c.channels_in.result _ _ (λ list is x.
    is x ∙ sym (ap (λ (o : Option Things). user_channel c.args.roles.now o c.args.k x) at)) c.channels_in.ensures.among
