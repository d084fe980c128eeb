use Rattle.std.proofs.Common.{◌≡◌, ◌<◌, ◌-◌, ◌∙◌, sym, ap, refl, subst, arith, List, map}
use Rattle.std.specs.Prelude.{slice_set}
use Rattle.sg_history.specs.declared.entries.Entry.{Entry}
use Rattle.sg_history.specs.History.{past}
use Rattle.log_index.specs.Places.{document_at}
use Rattle.channel_cache.proofs.Past.{index_high}
use Rattle.feed_rows.specs.Known.{known_from, known_in}
use Rattle.changes_feed.specs.inner.Amid.{PartAt, Renewing}
use Rattle.changes_feed.proofs.Keeping.{brought_up, is_renewed, since_at, there_before, within_names}
use Rattle.changes_feed.proofs.Viewing.{next}
use Rattle.changes_feed.proofs.segment.renew.Goals as goal

pub latest_at-latest-requires-clause-stands : goal.latest_at-latest-requires-clause-stands
latest_at-latest-requires-clause-stands c = (c.requires.known.0, c.requires.known.2.renews.stands)

pub place_for-requires-clause-low : goal.place_for-requires-clause-low
place_for-requires-clause-low c = omega (arith, c.requires.low, c.requires.high)

pub place_for-requires-clause-before : goal.place_for-requires-clause-before
place_for-requires-clause-before c = (
  c.requires.known.0,
  c.requires.known.2.renews.stood ∙ ap (λ (l : List Entry). document_at (past l (c.args.at - 1)) c.requires.known.0) (sym c.latest_at-latest.ensures.log),
)

pub bring_up_at-requires-clause-to_search : goal.bring_up_at-requires-clause-to_search
bring_up_at-requires-clause-to_search c = c.requires.viewer.to_search

pub bring_up_at-requires-clause-since : goal.bring_up_at-requires-clause-since
bring_up_at-requires-clause-since c =
    let entries = c.args.log.now.entries in
    let at = c.args.at in
    let pos : 0 < at = omega (arith, c.requires.low, c.requires.high) in
    let k = c.requires.known in
    let latest = c.latest_at-latest.ensures.latest k.0 k.2.renews.stands in
    let same = since_at c.args.viewer.now c.args.start entries at pos (index_high c.args.index.now entries at c.requires.index) k.1 k.0 k.2.free c.requires.viewer c.args.before c.args.after c.latest_at-latest.result k.2.renews latest.0 latest.1 in
    omega (arith, same, pos)

pub bring_up_at-requires-clause-from : goal.bring_up_at-requires-clause-from
bring_up_at-requires-clause-from c =
    let entries = c.args.log.now.entries in
    let at = c.args.at in
    let pos : 0 < at = omega (arith, c.requires.low, c.requires.high) in
    let k = c.requires.known in
    let latest = c.latest_at-latest.ensures.latest k.0 k.2.renews.stands in
    let same = since_at c.args.viewer.now c.args.start entries at pos (index_high c.args.index.now entries at c.requires.index) k.1 k.0 k.2.free c.requires.viewer c.args.before c.args.after c.latest_at-latest.result k.2.renews latest.0 latest.1 in
    omega (arith, same, c.requires.high)

pub bring_up_at-requires-clause-within : goal.bring_up_at-requires-clause-within
bring_up_at-requires-clause-within c =
    let k = c.requires.known in
    let latest = c.latest_at-latest.ensures.latest k.0 k.2.renews.stands in
    let placed = c.in_ok-place.ensures.ok c.args.viewer.now c.args.start k.0 k.1 c.requires.low latest.2
    (subst (λ (l : List Entry). Renewing c.args.viewer.now c.args.start l c.args.at c.args.before c.args.after c.args.segment.now k.0 k.1) (sym c.latest_at-latest.ensures.log) k.2) in
    within_names c.place_for.new.segment.documents.items c.in_ok-place.place k.0 placed.1

pub returns-clause-ok : goal.returns-clause-ok
returns-clause-ok c = λ doc done known.
    let entries = c.args.log.now.entries in
    let at = c.args.at in
    let start = c.args.start in
    let viewer = c.args.viewer.now in
    let pos : 0 < at = omega (arith, c.requires.low, c.requires.high) in
    let high = index_high c.args.index.now entries at c.requires.index in
    let old = c.place_for.new.segment in
    let documents = c.bring_up_at.new.documents in
    let place = c.in_ok-place.place in
    let latest = c.latest_at-latest.ensures.latest doc known.renews.stands in
    let placed = c.in_ok-place.ensures.ok viewer start doc done c.requires.low latest.2
    (subst (λ (l : List Entry). Renewing viewer start l at c.args.before c.args.after c.args.segment.now doc done) (sym c.latest_at-latest.ensures.log) known) in
    let part : PartAt viewer start entries at done old = subst (λ (l : List Entry). PartAt viewer start l at done old) c.latest_at-latest.ensures.log placed.0 in
    let one = next entries at pos high in
    let renewed = is_renewed viewer start entries at pos high done doc known.free c.requires.viewer c.args.before c.args.after c.latest_at-latest.result known.renews latest.0 latest.1 in
    let brought : map known_in documents.items ≡ slice_set (map known_in old.documents.items) place (known_from start (past entries at) viewer.user.now viewer.filter.now doc) =
    c.bring_up_at.ensures one.entry (past entries (at - 1)) doc renewed (there_before viewer start entries at pos high done doc known.free old documents.items place part placed.1)
    ∙ ap (λ (es : List Entry). slice_set (map known_in old.documents.items) place (known_from start es viewer.user.now viewer.filter.now doc)) (sym one.all) in
    brought_up viewer start entries at pos high done doc known.free old documents.items place part placed.1 brought _ refl refl
