use Rattle.std.proofs.Common.{◌∙◌, sym, refl}
use Rattle.grant_tracks.proofs.Sweeping.{swept_new, swept_begun}
use Rattle.grant_tracks.proofs.spells.Sweep.new.Goals as goal

pub returns-then-not-holds : goal.returns-then-not-holds
returns-then-not-holds c = λ test is. swept_new _ c.new-list.ensures.items refl test (sym is ∙ c.if-not-holds.true)

pub returns : goal.returns
returns c = λ test is. swept_begun _ c.new-list.ensures.items refl test (sym is ∙ c.if-not-holds.false)
