use Rattle.std.proofs.Common.{◌∙◌, ap, List, Bool, ◌&&◌, ◌||◌, false}
use Rattle.std.specs.Str.{bytes_eq}
use Rattle.std.specs.List.{list_any}
use Rattle.std.proofs.lemmas.Result.{IfOk-weaker}
use Rattle.sg_history.specs.Principals.{everyone}
use Rattle.grant_tracks.specs.declared.things.What.TheVariants as what
use Rattle.grant_history.specs.declared.givers.Giver.{Giver}
use Rattle.grant_tracks.specs.declared.held.Held.{Held}
use Rattle.grant_history.specs.inner.Givers.{giver_has}
use Rattle.grant_tracks.specs.Holdings.{held_in}
use Rattle.grant_history.specs.Periods.{names_of}
use Rattle.grant_tracks.specs.Reads.{by_roles, channel_among}
use Rattle.grant_history.proofs.Dividing.{all_so_far}
use Rattle.grant_history.proofs.periods.periods_among.Goals as goal

pub returns : goal.returns
returns c = IfOk-weaker c.periods_for.result _ _ (λ list is.
    all_so_far (names_of c.args.channels.now) list.items c.args.roles.now c.args.all.now.items _ is c.requires.among
    (λ x k. ap (λ (b : Bool). held_in c.args.all.now.items what.Exists k && (b || (channel_among c.args.all.now.items k x || (bytes_eq everyone x || false)))) (c.in_ok-gifts.ensures x k ∙ ap (λ (l : List Giver). list_any (λ g. giver_has g k x) l) c.as_slice.ensures.value ∙ c.in_ok-givers.ensures k x ∙ ap (λ (l : List Held). by_roles c.args.roles.now l k x) c.all.ensures))) c.periods_for.ensures
