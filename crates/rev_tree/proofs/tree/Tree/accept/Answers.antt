use Rattle.std.proofs.Common.{◌∙◌, arith}
use Rattle.rev_tree.proofs.Places.{known_within}
use Rattle.rev_tree.proofs.Kept.{kept_place, write_kept, accepted_kept}
use Rattle.rev_tree.proofs.tree.Tree.accept.Goals as goal

pub kept-requires : goal.kept-requires
kept-requires c = omega (arith, known_within c.args.self.now c.args.ancestors.now)

pub returns-in-Ok-clause-kept : goal.returns-in-Ok-clause-kept
returns-in-Ok-clause-kept c = c.kept.ensures ∙ rw c.requires.place (kept_place c.args.self.now c.args.ancestors.now)

pub returns-in-Ok-clause-tree : goal.returns-in-Ok-clause-tree
returns-in-Ok-clause-tree c = c.in-Ok.ensures ∙ write_kept c.args.self.now c.args.rev.now c.args.ancestors.now c.args.deleted

pub returns-in-Ok-clause-accepted : goal.returns-in-Ok-clause-accepted
returns-in-Ok-clause-accepted c = accepted_kept c.args.self.now c.args.rev.now c.args.ancestors.now c.args.deleted c.requires.unknown c.requires.history

pub returns-in-Err-clause-accepted : goal.returns-in-Err-clause-accepted
returns-in-Err-clause-accepted c = accepted_kept c.args.self.now c.args.rev.now c.args.ancestors.now c.args.deleted c.requires.unknown c.requires.history
