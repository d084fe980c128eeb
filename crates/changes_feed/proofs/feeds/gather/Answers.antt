use Rattle.std.proofs.Common.{◌≤◌, ◌+◌, ◌-◌, ◌*◌, ◌∙◌, List, length, subst}
use Rattle.sg_history.specs.declared.entries.Entry.{Entry}
use Rattle.channel_cache.specs.Reads.{passed}
use Rattle.changes_feed.proofs.Bounded.{look_bound}
use Rattle.changes_feed.proofs.feeds.gather.Goals as goal

pub returns-in_err-segment-clause-reads : goal.returns-in_err-segment-clause-reads
returns-in_err-segment-clause-reads c =
    let found = c.as_slice-sequences.result.now in
    look_bound c.args.lists.now c.args.log.now.entries c.args.channels.now c.args.start c.args.front c.args.log.now.reads c.ask.new.log.reads c.segment_with.new.log.reads
    found (c.as_slice-sequences.ensures.value ∙ c.in_ok-found.ensures.sequences) c.ask.ensures.reads
    (subst (λ (es : List Entry). c.segment_with.new.log.reads ≤ c.ask.new.log.reads + (4 * passed es (c.args.start - 1) c.args.front + 2 * length found)) c.ask.ensures.log c.segment_with.ensures.reads)

pub returns-clause-reads : goal.returns-clause-reads
returns-clause-reads c =
    let found = c.as_slice-sequences.result.now in
    look_bound c.args.lists.now c.args.log.now.entries c.args.channels.now c.args.start c.args.front c.args.log.now.reads c.ask.new.log.reads c.segment_with.new.log.reads
    found (c.as_slice-sequences.ensures.value ∙ c.in_ok-found.ensures.sequences) c.ask.ensures.reads
    (subst (λ (es : List Entry). c.segment_with.new.log.reads ≤ c.ask.new.log.reads + (4 * passed es (c.args.start - 1) c.args.front + 2 * length found)) c.ask.ensures.log c.segment_with.ensures.reads)
