use Rattle.std.proofs.Common.{sym, subst}
use Rattle.std.specs.Option.{option_copied}
use Rattle.board_steps.specs.Tried.{WasAccepted}
use Rattle.write_path.specs.Shelf.{Shelved}
use Rattle.write_path.proofs.Extending.{tried_extends}
use Rattle.write_path.proofs.shelf.Shelf.store_or_retry.Goals as goal

pub invariant_of-self : goal.invariant_of-self
invariant_of-self c =
    let judged = c.requires.accepted.0 in
    let was = subst (λ (v : Shelved). WasAccepted judged v.board c.args.program.now c.args.strict (option_copied c.args.by) c.args.revision c.args.number.value c.args.accepted) (sym c.self.view_is) c.requires.accepted.1 in
    c.extended.ensures c.self.inside.board.log c.store_or_retry.new.board.log c.self.invariant
    (tried_extends judged c.self.inside.board c.store_or_retry.new.board c.args.program.now c.args.strict (option_copied c.args.by) c.args.revision c.args.room c.args.number c.store_or_retry.result (c.store_or_retry.ensures judged was))
