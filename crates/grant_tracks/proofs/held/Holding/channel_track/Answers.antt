use Rattle.std.proofs.Common.{◌∙◌, sym, ap, arith}
use Rattle.grant_tracks.specs.declared.things.What.TheVariants as what
use Rattle.grant_tracks.specs.Things.{Things}
use Rattle.grant_tracks.specs.Reads.{channel_among}
use Rattle.grant_tracks.proofs.Once.{channel_any, place_within}
use Rattle.grant_tracks.proofs.Tracked.{nowhere_held, held_here}
use Rattle.grant_tracks.proofs.held.Holding.channel_track.Goals as goal

pub index-requires : goal.index-requires
index-requires c =
    let place = sym (c.self.invariant.0 (what.Channel c.args.channel.now)) ∙ sym c.channel.ensures ∙ c.in-Some.is in
    let within = place_within c.self.inside.list.items (what.Channel c.args.channel.now) c.in-Some.i place in
    omega (arith, within, c.self.invariant.2)

pub returns-in-None : goal.returns-in-None
returns-in-None c = λ k.
    let place = sym (c.self.invariant.0 (what.Channel c.args.channel.now)) ∙ sym c.channel.ensures ∙ c.in-None.is in
    ap (λ (t : Things). channel_among t.items k c.args.channel.now) (sym c.self.view_is)
    ∙ channel_any c.self.inside.list.items k c.args.channel.now c.self.invariant.1
    ∙ nowhere_held c.self.inside.list.items (what.Channel c.args.channel.now) place k

pub returns-in-Some : goal.returns-in-Some
returns-in-Some c = λ k.
    let place = sym (c.self.invariant.0 (what.Channel c.args.channel.now)) ∙ sym c.channel.ensures ∙ c.in-Some.is in
    ap (λ (t : Things). channel_among t.items k c.args.channel.now) (sym c.self.view_is)
    ∙ channel_any c.self.inside.list.items k c.args.channel.now c.self.invariant.1
    ∙ sym (held_here c.self.inside.list.items (what.Channel c.args.channel.now) c.in-Some.i c.index.result.now place c.index.ensures k)
