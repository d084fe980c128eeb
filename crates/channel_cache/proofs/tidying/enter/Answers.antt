use Rattle.std.proofs.Common.{◌∙◌, ap, refl, sym}
use Rattle.std.specs.Option.{option_copied_mut}
use Rattle.channel_cache.specs.inner.Counting.{counts_at}
use Rattle.channel_cache.proofs.Changing.{counted_none, counted_one, on_ok}
use Rattle.channel_cache.proofs.tidying.enter.Goals as goal

pub returns-in-None-clause-ok : goal.returns-in-None-clause-ok
returns-in-None-clause-ok c =
    counted_none (counts_at c.args.index.now c.args.place) c.args.lists.now.entries c.args.channel.now c.args.seq (sym c.peek_mut.ensures.value ∙ ap option_copied_mut c.in-None.is)

pub returns-in-Some-clause-ok : goal.returns-in-Some-clause-ok
returns-in-Some-clause-ok c =
    on_ok c.enter_and_tidy.result _ _ (λ made. counted_one (counts_at c.args.index.now c.args.place) c.args.lists.now.entries _ c.args.channel.now c.args.seq c.in-Some.list.now c.enter_and_tidy.new.self
    (sym c.peek_mut.ensures.value ∙ ap option_copied_mut c.in-Some.is) refl made) c.enter_and_tidy.ensures
