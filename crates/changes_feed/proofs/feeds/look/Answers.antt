use Rattle.std.proofs.Common.{◌≤◌, ◌+◌, ◌∙◌, ℕ, List, sym, ap, subst}
use Rattle.channel_cache.specs.Kept.{WereAsked, refills_at}
use Rattle.changes_feed.specs.FeedReads.{look_reads}
use Rattle.changes_feed.specs.Switches.{AreSwitches, first_of}
use Rattle.changes_feed.proofs.OneOrder.{one_switches}
use Rattle.changes_feed.proofs.Outcomes.{always, if_ok, on_ok}
use Rattle.changes_feed.proofs.feeds.look.Goals as goal

pub look_at-requires-clause-switches : goal.look_at-requires-clause-switches
look_at-requires-clause-switches c =
    let p = c.requires.periods in
    let q = c.requires.steady in
    let entries = c.args.log.now.entries in
    let user = c.args.user.now in
    let front = c.args.front in
    subst (λ (l : List (List ℕ)). AreSwitches l entries user (first_of c.args.since.now) front) (sym c.as_slice.ensures.value)
    (subst (λ (s : ℕ). AreSwitches c.in_ok-channels.channels.items entries user s front) c.first_of.ensures (c.in_ok-channels.ensures entries user p.0 p.1 p.2 q.0 q.1 q.2))

pub returns-clause-switches : goal.returns-clause-switches
returns-clause-switches c =
    let p = c.requires.periods in
    let q = c.requires.steady in
    let entries = c.args.log.now.entries in
    let user = c.args.user.now in
    let front = c.args.front in
    always c.look_at.result _ (
      c.in_ok-channels.channels.items,
      subst (λ (s : ℕ). AreSwitches c.in_ok-channels.channels.items entries user s front) c.first_of.ensures (c.in_ok-channels.ensures entries user p.0 p.1 p.2 q.0 q.1 q.2),
    )

pub returns-clause-refills : goal.returns-clause-refills
returns-clause-refills c =
    let p = c.requires.periods in
    let q = c.requires.steady in
    let entries = c.args.log.now.entries in
    let user = c.args.user.now in
    let front = c.args.front in
    let start = first_of c.args.since.now in
    let items = c.in_ok-channels.channels.items in
    let own : AreSwitches items entries user start front = subst (λ (s : ℕ). AreSwitches items entries user s front) c.first_of.ensures (c.in_ok-channels.ensures entries user p.0 p.1 p.2 q.0 q.1 q.2) in
    if_ok c.look_at.result _ _ (λ x h channels is.
    h ∙ ap (λ (l : List (List ℕ)). refills_at c.args.lists.now l front) (c.as_slice.ensures.value ∙ one_switches items channels entries user start front own is)) c.look_at.ensures.refills

pub returns-clause-asked : goal.returns-clause-asked
returns-clause-asked c =
    let p = c.requires.periods in
    let q = c.requires.steady in
    let entries = c.args.log.now.entries in
    let user = c.args.user.now in
    let front = c.args.front in
    let start = first_of c.args.since.now in
    let items = c.in_ok-channels.channels.items in
    let own : AreSwitches items entries user start front = subst (λ (s : ℕ). AreSwitches items entries user s front) c.first_of.ensures (c.in_ok-channels.ensures entries user p.0 p.1 p.2 q.0 q.1 q.2) in
    on_ok c.look_at.result _ _ (λ h low channels is.
    subst (λ (l : List (List ℕ)). WereAsked c.args.lists.now c.look_at.new.lists l front) (c.as_slice.ensures.value ∙ one_switches items channels entries user start front own is) (h low))
    c.look_at.ensures.asked

pub returns-clause-reads : goal.returns-clause-reads
returns-clause-reads c = λ channels is.
    let p = c.requires.periods in
    let q = c.requires.steady in
    let entries = c.args.log.now.entries in
    let user = c.args.user.now in
    let front = c.args.front in
    let start = first_of c.args.since.now in
    let items = c.in_ok-channels.channels.items in
    let own : AreSwitches items entries user start front = subst (λ (s : ℕ). AreSwitches items entries user s front) c.first_of.ensures (c.in_ok-channels.ensures entries user p.0 p.1 p.2 q.0 q.1 q.2) in
    subst (λ (l : List (List ℕ)). c.look_at.new.log.reads ≤ c.args.log.now.reads + look_reads c.args.lists.now entries l start front)
    (c.as_slice.ensures.value ∙ one_switches items channels entries user start front own is) c.look_at.ensures.reads
