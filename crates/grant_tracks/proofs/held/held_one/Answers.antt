use Rattle.std.proofs.Common.{◌∙◌, sym, ap, Bool, ◌&&◌, Option}
use Rattle.std.specs.Borrow.{Bor}
use Rattle.std.specs.Option.{option_copied}
use Rattle.grant_tracks.specs.declared.held.Held.{Held}
use Rattle.grant_tracks.specs.inner.Passing.{passes}
use Rattle.grant_tracks.proofs.Picking.{got}
use Rattle.grant_tracks.proofs.held.held_one.Goals as goal

pub returns-in-None : goal.returns-in-None
returns-in-None c = λ test.
    ap (λ (o : Option (Bor Held)). passes c.args.k test (option_copied o)) (sym c.in-None.is)
    ∙ ap (passes c.args.k test) (got c.args.all.now c.args.i c.get.result c.get.ensures.lookup)

pub returns-then-holds : goal.returns-then-holds
returns-then-holds c = λ test.
    ap (λ (b : Bool). b && test c.in-Some.one.now) (sym c.if-holds.true ∙ c.holds.ensures)
    ∙ ap (λ (o : Option (Bor Held)). passes c.args.k test (option_copied o)) (sym c.in-Some.is)
    ∙ ap (passes c.args.k test) (got c.args.all.now c.args.i c.get.result c.get.ensures.lookup)

pub returns-else-holds : goal.returns-else-holds
returns-else-holds c = λ test.
    ap (λ (b : Bool). b && test c.in-Some.one.now) (sym c.if-holds.false ∙ c.holds.ensures)
    ∙ ap (λ (o : Option (Bor Held)). passes c.args.k test (option_copied o)) (sym c.in-Some.is)
    ∙ ap (passes c.args.k test) (got c.args.all.now c.args.i c.get.result c.get.ensures.lookup)
