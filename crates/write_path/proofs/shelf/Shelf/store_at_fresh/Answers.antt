use Rattle.write_path.proofs.Extending.{by_release}
use Rattle.write_path.proofs.shelf.Shelf.store_at_fresh.Goals as goal

pub invariant_of-self : goal.invariant_of-self
invariant_of-self c =
    c.extended.ensures c.self.inside.board.log c.store_at_fresh.new.board.log c.self.invariant
    (by_release c.self.inside.board c.store_at_fresh.new.board _ c.store_at_fresh.ensures.stored)
