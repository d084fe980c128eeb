use Rattle.std.proofs.Common.{◌≡◌, ◌∙◌, refl}
use Rattle.std.specs.Option.{option_copied}
use Rattle.rev_tree.specs.Extension.{first_known}
use Rattle.rev_tree.proofs.Places.{known_first}
use Rattle.rev_tree.proofs.tree.Tree.makes_conflict.Goals as goal

pub returns-then-strict : goal.returns-then-strict
returns-then-strict c =
    let known : option_copied c.ancestor_at.result ≡ first_known c.args.self.now c.args.ancestors.now =
    c.ancestor_at.ensures ∙ rw c.requires (known_first c.args.self.now c.args.ancestors.now) in
    rw (c.if-strict.true, c.goes_on.ensures, known) refl
