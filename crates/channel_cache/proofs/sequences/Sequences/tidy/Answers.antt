use Rattle.std.proofs.Common.{◌∙◌, ap, sym, Bool, ◌&&◌}
use Rattle.channel_cache.specs.inner.Counting.{counts_at}
use Rattle.channel_cache.proofs.Having.{held_alone}
use Rattle.channel_cache.proofs.sequences.Sequences.tidy.Goals as goal

pub returns : goal.returns
returns c = λ s.
    let l = c.gather.new.self in
    let left = c.in_ok-gather.ensures.left in
    let entered = c.in_ok-gather.ensures.entered in
    held_alone c.in_order.new.numbers.items l.left.items l.entered.items s left entered
    ∙ c.in_order.ensures.has s
    ∙ c.keep_counted.ensures s
    ∙ ap (λ (b : Bool). b && counts_at c.args.index.now c.args.place s) (sym (held_alone l.list.items l.left.items l.entered.items s left entered) ∙ c.in_ok-gather.ensures.same s)
