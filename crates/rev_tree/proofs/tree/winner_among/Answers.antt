use Rattle.std.proofs.Common.{◌∙◌, ap, Option}
use Rattle.std.specs.Prelude.{option_map}
use Rattle.rev_tree.specs.declared.tree.Node.{Node}
use Rattle.rev_tree.specs.Tree.{leaf_at}
use Rattle.rev_tree.proofs.Firsts.{best_wins}
use Rattle.rev_tree.proofs.tree.winner_among.Goals as goal

pub returns-in-None : goal.returns-in-None
returns-in-None c = ap (λ (o : Option Node). option_map (λ (n : Node). leaf_at n) o) c.in-None.ensures ∙ best_wins c.args.tips.now c.requires

pub returns-in_ok-copy-in-Some : goal.returns-in_ok-copy-in-Some
returns-in_ok-copy-in-Some c =
    rw c.in_ok-copy-in-Some.ensures (ap (λ (o : Option Node). option_map (λ (n : Node). leaf_at n) o) c.in-Some.ensures ∙ best_wins c.args.tips.now c.requires)
