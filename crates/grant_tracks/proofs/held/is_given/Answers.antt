use Rattle.std.proofs.Common.{◌∙◌, sym, ap, Option}
use Rattle.std.specs.Borrow.{Bor}
use Rattle.std.specs.Option.{option_copied}
use Rattle.grant_tracks.specs.declared.held.Held.{Held}
use Rattle.grant_tracks.specs.inner.Passing.{is_given}
use Rattle.grant_tracks.proofs.Picking.{got}
use Rattle.grant_tracks.proofs.held.is_given.Goals as goal

pub returns-in-None : goal.returns-in-None
returns-in-None c =
    ap (λ (o : Option (Bor Held)). is_given (option_copied o)) (sym c.in-None.is)
    ∙ ap is_given (got c.args.all.now c.args.i c.get.result c.get.ensures.lookup)

pub returns-in-Some : goal.returns-in-Some
returns-in-Some c =
    c.is_given.ensures
    ∙ ap (λ (o : Option (Bor Held)). is_given (option_copied o)) (sym c.in-Some.is)
    ∙ ap is_given (got c.args.all.now c.args.i c.get.result c.get.ensures.lookup)
