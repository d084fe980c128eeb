use Rattle.std.proofs.Common.{◌≡◌, ◌≤◌, ◌<◌, ◌∙◌, sym, ap, subst}
use Rattle.sg_history.specs.History.{past}
use Rattle.channel_cache.specs.Kept.{AreAsBefore, KeptLists, WereAsked, refills_at}
use Rattle.changes_feed.specs.Feeds.{FeedsKept}
use Rattle.changes_feed.specs.Switches.{first_of}
use Rattle.changes_feed.proofs.Outcomes.{if_ok, on_ok}
use Rattle.changes_feed.proofs.PastFront.{no_refills, not_below}
use Rattle.changes_feed.proofs.feeds.Feeds.advance.Goals as goal

pub returns-then-is_past-clause-rows : goal.returns-then-is_past-clause-rows
returns-then-is_past-clause-rows c =
    let entries = c.args.log.now.entries in
    let front = c.args.front in
    c.nothing.ensures.rows
    ∙ sym (c.order.ensures.past_the_front (past entries front) c.args.user.now c.args.since.now c.args.options.now
    (not_below c.args.since.now entries front c.requires.within (c.is_past.ensures.0 c.if-is_past.true)))

pub returns-then-is_past-clause-refills : goal.returns-then-is_past-clause-refills
returns-then-is_past-clause-refills c = λ channels is.
    c.nothing.ensures.refills
    ∙ sym (no_refills c.args.self.now.lists channels c.args.log.now.entries c.args.user.now (first_of c.args.since.now) c.args.front (c.is_past.ensures.0 c.if-is_past.true) is)

pub returns-else-is_err-clause-refills : goal.returns-else-is_err-clause-refills
returns-else-is_err-clause-refills c =
    let lists : c.self.inside.lists ≡ c.args.self.now.lists = ap (λ (k : FeedsKept). k.lists) c.self.view_is in
    if_ok c.apply_and_look-advanced.result _ _ (λ x h channels is. h channels is ∙ ap (λ (l : KeptLists). refills_at l channels c.args.front) lists) c.apply_and_look-advanced.ensures.refills

pub returns-else-is_err-clause-asked : goal.returns-else-is_err-clause-asked
returns-else-is_err-clause-asked c =
    let lists : c.self.inside.lists ≡ c.args.self.now.lists = ap (λ (k : FeedsKept). k.lists) c.self.view_is in
    on_ok c.apply_and_look-advanced.result _ _ (λ h low channels is first.
    subst (λ (l : KeptLists). WereAsked l c.apply_and_look-advanced.new.lists channels c.args.front) lists (h (subst (λ (l : KeptLists). l.place ≤ c.args.front) (sym lists) low) channels is))
    c.apply_and_look-advanced.ensures.asked

pub returns-else-is_err-clause-behind : goal.returns-else-is_err-clause-behind
returns-else-is_err-clause-behind c =
    let lists : c.self.inside.lists ≡ c.args.self.now.lists = ap (λ (k : FeedsKept). k.lists) c.self.view_is in
    on_ok c.apply_and_look-advanced.result _ _ (λ h behind.
    subst (λ (l : KeptLists). AreAsBefore l c.apply_and_look-advanced.new.lists) lists (h (subst (λ (l : KeptLists). c.args.front < l.place) (sym lists) behind)))
    c.apply_and_look-advanced.ensures.behind
