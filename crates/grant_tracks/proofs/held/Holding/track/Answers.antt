use Rattle.std.proofs.Common.{◌∙◌, sym, ap, arith}
use Rattle.grant_tracks.specs.Things.{Things}
use Rattle.grant_tracks.specs.HeldLists.{held_in}
use Rattle.grant_tracks.proofs.Once.{place_within}
use Rattle.grant_tracks.proofs.Tracked.{nowhere_held, held_here}
use Rattle.grant_tracks.proofs.held.Holding.track.Goals as goal

pub index-requires : goal.index-requires
index-requires c =
    let place = sym (c.self.invariant.0 c.args.what.now) ∙ sym c.find.ensures ∙ c.in-Some.is in
    let within = place_within c.self.inside.list.items c.args.what.now c.in-Some.i place in
    omega (arith, within, c.self.invariant.2)

pub returns-in-None : goal.returns-in-None
returns-in-None c = λ k.
    let place = sym (c.self.invariant.0 c.args.what.now) ∙ sym c.find.ensures ∙ c.in-None.is in
    ap (λ (t : Things). held_in t.items c.args.what.now k) (sym c.self.view_is) ∙ nowhere_held c.self.inside.list.items c.args.what.now place k

pub returns-in-Some : goal.returns-in-Some
returns-in-Some c = λ k.
    let place = sym (c.self.invariant.0 c.args.what.now) ∙ sym c.find.ensures ∙ c.in-Some.is in
    ap (λ (t : Things). held_in t.items c.args.what.now k) (sym c.self.view_is)
    ∙ sym (held_here c.self.inside.list.items c.args.what.now c.in-Some.i c.index.result.now place c.index.ensures k)
