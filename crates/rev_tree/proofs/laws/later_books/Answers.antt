use Rattle.std.proofs.Common.{ap, List, arith, map, Option}
use Rattle.sg_history.specs.Current.{Sequenced}
use Rattle.rev_tree.specs.Documents.{recorded, sequence_of}
use Rattle.rev_tree.specs.Writes.{tree_of}
use Rattle.rev_tree.proofs.DocumentTrees.{base_same}
use Rattle.rev_tree.proofs.laws.later_books.Goals as goal

pub returns-clause-trees : goal.returns-clause-trees
returns-clause-trees c = λ earlier later doc last number is_later is low.
    ap (λ (l : List Sequenced). tree_of (map (λ written. recorded written.write) l)) (c.writes.ensures.same earlier later doc last number is_later is low)

pub returns-clause-last : goal.returns-clause-last
returns-clause-last c = λ earlier later doc last is_later is. ap (λ (o : Option Sequenced). sequence_of o) (c.writes.ensures.last earlier later doc last is_later is)

pub returns-clause-based : goal.returns-clause-based
returns-clause-based c = λ earlier later doc last ancestors is_later is.
    base_same earlier later last.seq doc ancestors (c.writes.ensures.same earlier later doc last last.seq is_later is (omega arith))
