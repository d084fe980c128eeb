use Rattle.std.proofs.Common.{◌∙◌, refl, subst, arith, ℕ, List}
use Rattle.std.specs.Str.{bytes_eq}
use Rattle.channel_cache.specs.inner.Counting.{counts_at}
use Rattle.channel_cache.specs.Sequences.{Counted, entered}
use Rattle.channel_cache.proofs.Changing.{counted_end, counted_next}
use Rattle.channel_cache.proofs.tidying.enter_each.Goals as goal

pub loop-channel-init : goal.loop-channel-init
loop-channel-init c = record { cap = refl; ok = λ end rest. rest }

pub loop-channel-preserved : goal.loop-channel-preserved
loop-channel-preserved c =
    let counts = counts_at c.args.index.now c.args.place in
    let one = c.loop-channel.lists.entries in
    let two = c.enter.new.lists.entries in
    record {
      cap = c.enter.ensures.cap ∙ c.loop-channel.invariant.cap;
      ok = λ end rest. c.loop-channel.invariant.ok end
          (counted_next counts one two c.args.channels.now c.loop-channel.channel-index c.channel-item.result c.args.seq (omega arith) c.channel-item.is
          (subst (λ (n : List ℕ). Counted counts one two (entered (bytes_eq n) c.args.seq)) c.as_str.ensures.value c.in_ok-enter.ensures.ok) end rest);
    }

pub returns-clause-ok : goal.returns-clause-ok
returns-clause-ok c =
    c.loop-channel.invariant.ok c.loop-channel.lists.entries
    (counted_end (counts_at c.args.index.now c.args.place) c.loop-channel.lists.entries c.args.channels.now c.loop-channel.channel-index c.args.seq (omega (arith, c.loop-channel-test.false)))
