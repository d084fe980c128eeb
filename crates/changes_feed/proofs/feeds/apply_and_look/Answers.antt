use Rattle.std.proofs.Common.{◌≤◌, ◌+◌, List, sym, subst}
use Rattle.sg_history.specs.declared.entries.Entry.{Entry}
use Rattle.changes_feed.specs.FeedReads.{look_reads}
use Rattle.changes_feed.specs.Switches.{AreSwitches, first_of}
use Rattle.changes_feed.proofs.Bounded.{advance_bound}
use Rattle.changes_feed.proofs.Outcomes.{on_ok}
use Rattle.changes_feed.proofs.feeds.apply_and_look.Goals as goal

pub returns-clause-asked : goal.returns-clause-asked
returns-clause-asked c =
    on_ok c.look_by.result _ _ (λ h low channels is.
    h low channels (subst (λ (es : List Entry). AreSwitches channels es c.args.user.now (first_of c.args.since.now) c.args.front) (sym c.apply.ensures.log) is))
    c.look_by.ensures.asked

pub returns-clause-reads : goal.returns-clause-reads
returns-clause-reads c = λ channels is.
    let start = first_of c.args.since.now in
    advance_bound c.args.lists.now c.args.log.now.entries channels start c.args.front c.args.log.now.reads c.apply.new.log.reads c.look_by.new.log.reads c.args.history.now.applied c.apply.ensures.reads
    (subst (λ (es : List Entry). c.look_by.new.log.reads ≤ c.apply.new.log.reads + look_reads c.args.lists.now es channels start c.args.front) c.apply.ensures.log
    (c.look_by.ensures.reads channels (subst (λ (es : List Entry). AreSwitches channels es c.args.user.now start c.args.front) (sym c.apply.ensures.log) is)))
