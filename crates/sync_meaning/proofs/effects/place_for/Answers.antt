use Rattle.std.proofs.Common.{rules}
use Rattle.std.proofs.lemmas.Fn.{always_returns_same}
use Rattle.sync_meaning.proofs.Puts.{put_found, put_place}
use Rattle.sync_meaning.proofs.effects.place_for.Goals as goal

pub returns-in-Ok-clause-there : goal.returns-in-Ok-clause-there
returns-in-Ok-clause-there g c =
    put_found g.T.Ordered.order c.requires.total c.args.item.now c.args.items.now c.in-Ok.field-0 c.in-Ok.ensures.bound
    (c.in-Ok.ensures.position (λ y. g.T.Ordered.order y c.args.item.now) (always_returns_same _ _ _ (λ a r f' k. search rules))) c.requires.rises

pub returns-in-Err-clause-place : goal.returns-in-Err-clause-place
returns-in-Err-clause-place g c =
    put_place g.T.Ordered.order c.requires.total c.args.item.now c.args.items.now c.in-Err.at c.in-Err.ensures.bound
    (c.in-Err.ensures.position (λ y. g.T.Ordered.order y c.args.item.now) (always_returns_same _ _ _ (λ a r f' k. search rules))) c.requires.rises
