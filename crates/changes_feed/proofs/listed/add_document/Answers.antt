use Rattle.std.proofs.Common.{◌∙◌, sym}
use Rattle.channel_cache.proofs.Past.{index_high}
use Rattle.changes_feed.proofs.Adding.{new_known, new_there, placed_there}
use Rattle.changes_feed.proofs.listed.add_document.Goals as goal

pub returns-in-Some-clause-has : goal.returns-in-Some-clause-has
returns-in-Some-clause-has c = λ doc here.
    let entries = c.args.log.now.entries in
    placed_there c.args.viewer.now c.args.start c.requires.low entries c.args.front (index_high c.args.index.now entries c.args.front c.requires.index) c.args.segment.now c.requires.segment
    c.args.document _ (sym c.place_of.ensures ∙ c.in-Some.is) doc here

pub returns-in_ok-add-in-None-clause-ok : goal.returns-in_ok-add-in-None-clause-ok
returns-in_ok-add-in-None-clause-ok c =
    let entries = c.args.log.now.entries in
    let s = c.requires.stands in
    let latest = c.latest_at-latest.ensures.latest s.0 s.1 in
    new_known c.args.viewer.now c.args.start c.requires.low entries c.args.front (index_high c.args.index.now entries c.args.front c.requires.index) c.known.ensures.none c.args.document s.0 s.1
    c.args.segment.now c.add.new.segment _ c.latest_at-latest.result latest.2 latest.0 latest.1 (sym c.place_of.ensures ∙ c.in-None.is) c.in_ok-add-in-None.ensures.documents c.in_ok-add-in-None.ensures.places c.requires.segment

pub returns-in_ok-add-in-None-clause-has : goal.returns-in_ok-add-in-None-clause-has
returns-in_ok-add-in-None-clause-has c = λ doc here.
    let entries = c.args.log.now.entries in
    let s = c.requires.stands in
    let latest = c.latest_at-latest.ensures.latest s.0 s.1 in
    let high = index_high c.args.index.now entries c.args.front c.requires.index in
    let free = sym c.place_of.ensures ∙ c.in-None.is in
    new_there c.args.viewer.now c.args.start c.requires.low entries c.args.front high c.known.ensures.none c.args.document s.0 s.1
    c.args.segment.now c.add.new.segment _ c.latest_at-latest.result latest.2 latest.0 latest.1 free c.in_ok-add-in-None.ensures.documents c.in_ok-add-in-None.ensures.places
    (new_known c.args.viewer.now c.args.start c.requires.low entries c.args.front high c.known.ensures.none c.args.document s.0 s.1
    c.args.segment.now c.add.new.segment _ c.latest_at-latest.result latest.2 latest.0 latest.1 free c.in_ok-add-in-None.ensures.documents c.in_ok-add-in-None.ensures.places c.requires.segment) doc here
