use Rattle.std.proofs.Common.{◌∙◌, refl, arith}
use Rattle.channel_cache.proofs.Changing.{leaves_end, leaves_next}
use Rattle.channel_cache.proofs.kept.leave_each.Goals as goal

pub loop-channel-init : goal.loop-channel-init
loop-channel-init c = record { cap = refl; ok = λ end rest. rest }

pub loop-channel-preserved : goal.loop-channel-preserved
loop-channel-preserved c = record {
  cap = c.leave_named.ensures.cap ∙ c.loop-channel.invariant.cap;
  ok = λ end rest. c.loop-channel.invariant.ok end
      (leaves_next c.loop-channel.lists.entries c.leave_named.new.lists.entries c.args.channels.now c.loop-channel.channel-index c.channel-item.result c.args.seq (omega arith) c.channel-item.is
      c.in_ok-leave_named.ensures.ok end rest);
}

pub returns-clause-ok : goal.returns-clause-ok
returns-clause-ok c =
    c.loop-channel.invariant.ok c.loop-channel.lists.entries
    (leaves_end c.loop-channel.lists.entries c.args.channels.now c.loop-channel.channel-index c.args.seq (omega (arith, c.loop-channel-test.false)))
