use Rattle.std.proofs.Common.{◌≡◌, true, rules, subst}
use Rattle.sg_names.specs.ItemList.{rises}
use Rattle.sync_meaning.specs.Builtins.{put}
use Rattle.sync_meaning.proofs.Puts.{put_rises}
use Rattle.sync_meaning.proofs.effects.put.Goals as goal

pub returns-in_ok-insert-clause-rises : goal.returns-in_ok-insert-clause-rises
returns-in_ok-insert-clause-rises g c =
    let is : put g.T.Ordered.order c.args.item c.args.items.now ≡ c.from_vec.result = search rules in
    subst (λ l. rises g.T.Ordered.order l ≡ true) is (put_rises g.T.Ordered.order c.requires.total c.args.item c.args.items.now c.requires.rises)
