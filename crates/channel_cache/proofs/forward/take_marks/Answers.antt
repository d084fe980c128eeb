use Rattle.std.proofs.Common.{subst, map}
use Rattle.channel_cache.specs.inner.Counting.{counts_at}
use Rattle.channel_cache.specs.inner.Moves.{entered_by, left_by, move_in}
use Rattle.channel_cache.specs.Sequences.{Changed, Counted}
use Rattle.channel_cache.proofs.Changing.{on_ok}
use Rattle.channel_cache.proofs.Replacing.{forward_marks, no_write_there}
use Rattle.channel_cache.proofs.forward.take_marks.Goals as goal

pub moved_by_all-requires-clause-other : goal.moved_by_all-requires-clause-other
moved_by_all-requires-clause-other c = no_write_there c.args.index.now c.args.log.now.entries c.args.at c.requires.low c.requires.index c.args.marks.now c.requires.marks

pub returns-clause-ok : goal.returns-clause-ok
returns-clause-ok c =
    let old = c.args.lists.now.entries in
    let mid = c.leave_moved.new.lists.entries in
    let new = c.enter_moved.new.lists.entries in
    on_ok c.enter_moved.result _ _ (λ entered.
    forward_marks c.args.index.now c.args.log.now.entries c.args.at c.requires.low c.requires.index
    (record { unwritten = c.currents.ensures.unwritten; effects = c.marks.ensures.effects; there = c.marks.ensures.there }) c.args.marks.now c.requires.marks old mid new _
    c.in_ok-moved.ensures.moved
    (subst (λ l. Changed old mid (left_by (map move_in l))) c.as_slice-all.ensures.value c.in_ok-leave_moved.ensures.ok)
    (subst (λ l. Counted (counts_at c.args.index.now c.args.at) mid new (entered_by (map move_in l))) c.as_slice-all.ensures.value entered)) c.enter_moved.ensures.ok
