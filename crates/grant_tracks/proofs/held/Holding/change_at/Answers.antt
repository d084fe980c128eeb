use Rattle.std.proofs.Common.{◌∙◌, sym, ap, subst, List}
use Rattle.grant_tracks.specs.declared.held.Held.{Held}
use Rattle.grant_tracks.specs.Things.{Things}
use Rattle.grant_tracks.specs.HeldLists.{AreUpTo}
use Rattle.grant_tracks.proofs.held.Holding.change_at.Goals as goal

pub invariant_of-self : goal.invariant_of-self
invariant_of-self c = (
  c.self.invariant.0,
  c.self.invariant.1,
  c.self.invariant.2,
  c.self.invariant.3,
  subst (λ (l : List Held). AreUpTo l c.args.at) (sym (ap (λ (t : Things). t.items) c.self.view_is ∙ c.make_block.ensures.items)) c.requires.up_to,
)
