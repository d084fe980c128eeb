use Rattle.std.proofs.Common.{◌∙◌, ◌||◌, ◌&&◌, ap, Bool, List}
use Rattle.grant_tracks.specs.declared.things.What.TheVariants as what
use Rattle.grant_tracks.specs.declared.held.Held.{Held}
use Rattle.grant_history.specs.inner.Gifts.{gifts_have}
use Rattle.grant_tracks.specs.Holdings.{held_in}
use Rattle.grant_tracks.specs.Reads.{channel_among}
use Rattle.grant_tracks.specs.Tracks.{held_at}
use Rattle.grant_history.proofs.Gifting.{all_given}
use Rattle.grant_tracks.proofs.Tracked.{on_ok}
use Rattle.grant_history.proofs.gifts.add_giver.Goals as goal

pub returns : goal.returns
returns c =
    let giver = c.args.giver.now in
    let items = giver.of.now.items in
    on_ok c.add_all.result _ _ (λ more x k.
    more x k
    ∙ ap (λ (b : Bool). b || gifts_have c.args.gifts.now x k)
    (all_given giver c.existence.result x k (held_in items what.Exists k) c.all.result.now (c.existence.ensures k)
    ∙ ap (λ (l : List Held). held_at giver.track.now k && (held_in items what.Exists k && channel_among l k x)) c.all.ensures)) c.add_all.ensures
