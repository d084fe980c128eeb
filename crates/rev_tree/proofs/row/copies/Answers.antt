use Rattle.std.proofs.Common.{◌∙◌, refl}
use Rattle.rev_tree.proofs.row.copies.Goals as goal

pub returns : goal.returns
returns g c = record {
  hold = c.in_ok-push_all.ensures.nodes ∙ rw c.in_ok-all.ensures.items refl;
  are_all = c.in_ok-push_all.ensures.sound ∙ rw (c.in_ok-all.ensures.items, c.requires) refl;
}
