use Rattle.std.proofs.Common.{◌-◌, ◌∙◌, sym, arith}
use Rattle.channel_cache.proofs.Past.{index_high, index_lower}
use Rattle.changes_feed.proofs.Keeping.{added, added_there, found}
use Rattle.changes_feed.proofs.Taking.{if_three}
use Rattle.changes_feed.proofs.segment.place_for.Goals as goal

pub latest_of-latest-requires-clause-index : goal.latest_of-latest-requires-clause-index
latest_of-latest-requires-clause-index c = index_lower c.args.index.now c.args.log.now.entries c.args.at c.requires.index (c.args.at - 1) (omega arith)

pub returns-in-Some-clause-ok : goal.returns-in-Some-clause-ok
returns-in-Some-clause-ok c = λ viewer start doc done low named known.
    let entries = c.args.log.now.entries in
    let at = c.args.at in (
      known.part,
      found viewer start entries at c.requires.low (index_high c.args.index.now entries at c.requires.index) done doc known.free c.args.before c.args.after c.args.segment.now c.in-Some.place known.renews known.part
          (sym c.place_of.ensures ∙ c.in-Some.is),
    )

pub returns-in-None-clause-ok : goal.returns-in-None-clause-ok
returns-in-None-clause-ok c =
    let entries = c.args.log.now.entries in
    let at = c.args.at in
    let old = c.args.segment.now in
    let new = c.add.new.segment in
    let high = index_high c.args.index.now entries at c.requires.index in
    if_three c.add.result _ _ _ _
    (λ place documents put is viewer start doc done low named known.
    let latest = c.latest_of-latest.ensures.latest doc known.renews.stood in (
      added viewer start entries at c.requires.low high done doc known.free c.known.ensures.none low c.args.before c.args.after old new c.args.name c.latest_of-latest.result known.renews named
          latest.0 latest.1 (sym c.place_of.ensures ∙ c.in-None.is) documents put known.part,
      added_there entries at old new _ doc named documents place is,
    ))
    c.add.ensures.documents c.add.ensures.places c.add.ensures.place
