use Rattle.std.proofs.Common.{◌∙◌, ap, Bool, ◌&&◌}
use Rattle.channel_cache.specs.inner.Counting.{counts_at}
use Rattle.channel_cache.proofs.Changing.{on_ok}
use Rattle.channel_cache.proofs.sequences.Sequences.enter_and_tidy.Goals as goal

pub returns : goal.returns
returns c = on_ok c.tidy_long.result _ _ (λ made s. made s ∙ ap (λ (b : Bool). b && counts_at c.args.index.now c.args.place s) (c.in_ok-enter.ensures s)) c.tidy_long.ensures
