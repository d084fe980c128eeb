use Rattle.std.proofs.Common.{◌∙◌, ap, ◌&&◌}
use Rattle.std.specs.List.{list_any}
use Rattle.std.proofs.lemmas.Result.{IfOk-weaker}
use Rattle.grant_tracks.specs.Blocks.{near}
use Rattle.grant_tracks.specs.inner.Passing.{passes_at}
use Rattle.grant_tracks.specs.Things.{Things}
use Rattle.grant_tracks.specs.Tracks.{held_at}
use Rattle.grant_tracks.proofs.Picking.{picks}
use Rattle.grant_tracks.proofs.held.Holding.held.Goals as goal

pub returns : goal.returns
returns c = IfOk-weaker c.held_of.result _ _ (λ held is test.
    is test
    ∙ ap (λ l. list_any (passes_at c.as_slice.result.now c.args.k test) l) c.at.ensures
    ∙ ap (λ all. list_any (passes_at all c.args.k test) (near c.self.inside.blocks c.args.k)) c.as_slice.ensures.value
    ∙ picks c.self.inside.list.items c.self.inside.blocks c.args.k test c.self.invariant.3
    ∙ ap (λ (t : Things). list_any (λ h. held_at h.track c.args.k && test h) t.items) c.self.view_is) c.held_of.ensures
