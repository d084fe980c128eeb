use Rattle.std.proofs.Common.{◌∙◌, ℕ, List, sym, ap, subst}
use Rattle.sg_history.specs.Feed.{feed}
use Rattle.sg_history.specs.History.{past}
use Rattle.feed_rows.specs.KnownDocuments.{AreKnown, HaveAll, names_in}
use Rattle.changes_feed.specs.inner.Segment.{SegmentAt}
use Rattle.changes_feed.specs.Switches.{AreSwitches, first_of}
use Rattle.changes_feed.proofs.Complete.{have_all}
use Rattle.changes_feed.proofs.Outcomes.{if_ok}
use Rattle.changes_feed.proofs.feeds.look_at.Goals as goal

pub gather-requires-clause-viewer : goal.gather-requires-clause-viewer
gather-requires-clause-viewer c =
    let p = c.requires.periods in
    c.viewer_of-viewer.ensures.viewer c.args.log.now.entries c.args.front p.0 c.requires.within p.1 p.2 c.requires.in_order

pub rows_by-requires-clause-to_search : goal.rows_by-requires-clause-to_search
rows_by-requires-clause-to_search c =
    let p = c.requires.periods in
    (c.viewer_of-viewer.ensures.viewer c.args.log.now.entries c.args.front p.0 c.requires.within p.1 p.2 c.requires.in_order).to_search

pub returns-clause-rows : goal.returns-clause-rows
returns-clause-rows c =
    let p = c.requires.periods in
    let entries = c.args.log.now.entries in
    let front = c.args.front in
    let since = c.args.since.now in
    let options = c.args.options.now in
    let viewer = c.viewer_of-viewer.result in
    let user = viewer.user.now in
    let es = past entries front in
    let channels = c.args.channels.now in
    let segment = c.in_ok-gathered.gathered.segment in
    let items = segment.documents.items in
    let at : SegmentAt viewer (first_of since) entries front segment =
    subst (λ (s : ℕ). SegmentAt viewer s entries front segment) c.first_of-start.ensures c.in_ok-gathered.ensures.segment in
    let switches : AreSwitches channels entries user (first_of since) front =
    subst (λ (u : List ℕ). AreSwitches channels entries u (first_of since) front) (sym c.viewer_of-viewer.ensures.user) c.requires.switches in
    let known : AreKnown viewer (first_of since) es items = record {
      is_viewer = c.viewer_of-viewer.ensures.viewer entries front p.0 c.requires.within p.1 p.2 c.requires.in_order;
      known = at.known;
    } in
    let all : HaveAll es user since options items = λ doc row is kept.
    have_all c.known.ensures.current entries user since options front c.requires.within channels (names_in items) switches at.all c.in_ok-gathered.ensures.has doc row is kept in
    if_ok c.rows_by.result _ _ (λ x h. h entries c.requires.within known all ∙ ap (λ (u : List ℕ). feed es u since options) c.viewer_of-viewer.ensures.user) c.rows_by.ensures.rows
