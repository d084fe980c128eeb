use Rattle.std.proofs.Common.{ap, Option}
use Rattle.sg_history.specs.Current.{Sequenced}
use Rattle.rev_tree.specs.Documents.{sequence_of}
use Rattle.rev_tree.specs.Writes.{tree_of}
use Rattle.rev_tree.proofs.DocumentTrees.{writes_joined, base_joined}
use Rattle.rev_tree.proofs.laws.histories.Goals as goal

pub returns-clause-writes : goal.returns-clause-writes
returns-clause-writes c = λ h number doc. writes_joined h number doc (c.books.ensures.writes h number doc)

pub returns-clause-trees : goal.returns-clause-trees
returns-clause-trees c = λ h number doc. ap tree_of (writes_joined h number doc (c.books.ensures.writes h number doc))

pub returns-clause-last : goal.returns-clause-last
returns-clause-last c = λ h number doc. ap (λ (o : Option Sequenced). sequence_of o) (c.books.ensures.last h number doc)

pub returns-clause-based : goal.returns-clause-based
returns-clause-based c = λ h number doc ancestors. base_joined h number doc ancestors (λ rev. c.books.ensures.of_rev h number doc rev)
