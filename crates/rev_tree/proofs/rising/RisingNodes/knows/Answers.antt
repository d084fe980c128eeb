use Rattle.std.proofs.Common.{◌≡◌, ◌∙◌, refl, Bor, Option, Some, None}
use Rattle.std.specs.Prelude.{is_some}
use Rattle.std.specs.Option.{option_copied}
use Rattle.rev_tree.specs.declared.tree.Node.{Node}
use Rattle.rev_tree.proofs.Rises.{knows_by}
use Rattle.rev_tree.proofs.rising.RisingNodes.knows.Goals as goal

same_some : (o : Option (Bor Node)) → is_some o ≡ is_some (option_copied o)
same_some None = refl
same_some (Some n) = refl

pub returns : goal.returns
returns c = c.is_some.ensures ∙ same_some c.get.result ∙ knows_by c.args.self.now c.args.rev.now (option_copied c.get.result) c.get.ensures
