use Rattle.std.specs.Str.{bytes_eq}
use Rattle.sg_history.specs.History.{among}
use Rattle.sg_history.specs.View.{every}
use Rattle.channel_cache.specs.inner.Counting.{counts_at}
use Rattle.channel_cache.proofs.Changing.{counted_more, on_ok}
use Rattle.channel_cache.proofs.tidying.enter_all.Goals as goal

pub returns-clause-ok : goal.returns-clause-ok
returns-clause-ok c =
    on_ok c.enter_each.result _ _ (λ rest. counted_more (counts_at c.args.index.now c.args.place) c.args.lists.now.entries c.enter.new.lists.entries c.enter_each.new.lists.entries
    (bytes_eq every) (among c.args.channels.now) c.args.seq c.in_ok-enter.ensures.ok rest) c.enter_each.ensures.ok
