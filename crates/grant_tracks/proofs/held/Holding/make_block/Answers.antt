use Rattle.std.proofs.Common.{◌≤◌, ◌∙◌, sym, ap, subst, arith}
use Rattle.grant_tracks.specs.Things.{Things}
use Rattle.grant_tracks.specs.HeldLists.{AreUpTo}
use Rattle.grant_tracks.specs.inner.Passing.{given_in}
use Rattle.grant_tracks.proofs.Picking.{begun_miss}
use Rattle.grant_tracks.proofs.held.Holding.make_block.Goals as goal

pub invariant_of-self : goal.invariant_of-self
invariant_of-self c =
    let up = subst (λ (t : Things). AreUpTo t.items c.args.at) (sym c.self.view_is) c.requires.up_to in
    let low : c.self.inside.blocks.from ≤ c.args.at = omega (arith, c.requires.since, ap (λ (t : Things). t.since) c.self.view_is) in (
      c.self.invariant.0,
      c.self.invariant.1,
      c.self.invariant.2,
      begun_miss c.self.inside.list.items c.self.inside.blocks c.begin.new.self c.args.at c.last.result.now c.in-Ok.given.items up low c.self.invariant.3
          c.last.ensures (λ x. c.in-Ok.ensures x ∙ ap (λ all. given_in all c.last.result.now x) c.as_slice.ensures.value) c.begin.ensures.kept,
      c.self.invariant.4,
    )
