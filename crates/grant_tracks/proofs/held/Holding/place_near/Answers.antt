use Rattle.std.proofs.Common.{◌∙◌, ap}
use Rattle.grant_tracks.specs.Things.{Things}
use Rattle.grant_tracks.specs.HeldLists.{place_of}
use Rattle.grant_tracks.proofs.held.Holding.place_near.Goals as goal

pub returns : goal.returns
returns c =
    c.find.ensures ∙ c.self.invariant.0 c.args.what.now ∙ ap (λ (t : Things). place_of t.items c.args.what.now) c.self.view_is
