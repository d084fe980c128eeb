use Rattle.repl_messages.proofs.Replies.{flag-more}
use Rattle.repl_messages.proofs.wanted.flags_of.Goals as goal

pub loop-i-preserved : goal.loop-i-preserved
loop-i-preserved c =
    flag-more c.loop-i.flags c.push.new.self _ c.is_array_at.result c.args.rows c.loop-i.i c.args.items.now c.loop-i-test.true c.loop-i.invariant c.is_array_at.ensures c.in_ok-push.ensures.ok
