use Rattle.std.proofs.Common.{subst}
use Rattle.doc_board.specs.Lawful.{AreEntries}
use Rattle.doc_board.specs.State.{book_on}
use Rattle.write_path.specs.Shelf.{Shelved}
use Rattle.write_path.proofs.Extending.{by_release}
use Rattle.write_path.proofs.shelf.Shelf.store_plain.Goals as goal

pub invariant_of-self : goal.invariant_of-self
invariant_of-self c =
    c.extended.ensures c.self.inside.board.log c.commit_fresh.new.board.log c.self.invariant
    (by_release c.self.inside.board c.commit_fresh.new.board _ c.commit_fresh.ensures.stored)

pub returns-clause-entries : goal.returns-clause-entries
returns-clause-entries c = subst (λ (v : Shelved). AreEntries (book_on v.board)) c.self.view_is c.log.ensures.entries
