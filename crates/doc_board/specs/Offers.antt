-- What is answered for a revision that a device offers, by the tree of its document.
use Rattle.std.specs.Prelude.{Bool, false, is_some, List, [], map, take, Option, Some, None, if◌then◌else◌}
use Rattle.sg_names.specs.declared.rev_id.RevId.{RevId}
use Rattle.rev_tree.specs.declared.leaf.Leaf.{Leaf}
use Rattle.rev_tree.specs.declared.tree.Node.{Node}
use Rattle.rev_tree.specs.Order.{in_order, leaves_below}
use Rattle.rev_tree.specs.Tree.{knows, is_this, leaves_of, winner_of}
use Rattle.repl_messages.specs.declared.offers.Offer.{Offer}
use Rattle.repl_messages.specs.declared.offers.OfferAnswer.{OfferAnswer}

-- the revisions from which a revision that the tree lacks may descend: of the leaves of a lesser generation, by falling generation and then by falling digest, the first 20
abbrev pub may_descend_from : List Node → RevId → List RevId
may_descend_from tree rev = map (λ l. l.rev) (take 20 (leaves_below rev.generation (in_order (leaves_of tree))))

-- whether there is a winner and its revision is the parent that is named, if one is
abbrev pub wins : Option Leaf → Option RevId → Bool
wins None parent = false
wins (Some winner) parent = is_this parent winner.rev

-- what is answered for an offer by the tree of its document
abbrev pub offer_answer : List Node → Offer → OfferAnswer
offer_answer tree offer = record {
  known = knows tree offer.rev;
  winner = winner_of tree;
  parent = is_some offer.parent;
  parent_wins = wins (winner_of tree) offer.parent;
  ancestors = if knows tree offer.rev then [] else may_descend_from tree offer.rev;
}

-- the revisions of a tree, none where there is no tree
abbrev pub nodes_or_none : Option (List Node) → List Node
nodes_or_none None = []
nodes_or_none (Some tree) = tree
