use Rattle.std.proofs.Common.{◌∙◌, ap, Bool, ◌&&◌, ◌||◌, false}
use Rattle.grant_tracks.specs.declared.things.What.TheVariants as what
use Rattle.grant_tracks.specs.Events.{is_open}
use Rattle.grant_tracks.specs.Holdings.{held_in}
use Rattle.grant_tracks.specs.Reads.{channel_among}
use Rattle.grant_tracks.specs.Ways.{track_has}
use Rattle.grant_tracks.proofs.ways.ways_of.Goals as goal

pub returns : goal.returns
returns c = λ k.
    ap (λ (b : Bool). b && (is_open c.args.gifts.now k || (track_has c.tracks_of.result.channel k || (c.is_everyone.result || false)))) (c.tracks_of.ensures.exists k)
    ∙ ap (λ (b : Bool). held_in c.args.all.now.items what.Exists k && (is_open c.args.gifts.now k || (b || (c.is_everyone.result || false)))) (c.tracks_of.ensures.channel k)
    ∙ ap (λ (b : Bool). held_in c.args.all.now.items what.Exists k && (is_open c.args.gifts.now k || (channel_among c.args.all.now.items k c.args.channel.now || (b || false)))) c.is_everyone.ensures
