use Rattle.std.proofs.Common.{None}
use Rattle.grant_history.proofs.Gifting.{one_more, list_first}
use Rattle.grant_tracks.proofs.Tracked.{on_ok}
use Rattle.grant_history.proofs.gifts.begin.Goals as goal

pub returns : goal.returns
returns c = on_ok c.put.result _ _ (λ sets.
    one_more c.args.gifts.now c.put.new.map c.args.channel.now c.add_to.new.gifts c.args.spells.now None c.requires
    (list_first c.new.result.items c.add_to.new.gifts.list.items c.args.spells.now c.new.ensures.items c.in_ok-add_to.ensures) sets) c.put.ensures.ok
