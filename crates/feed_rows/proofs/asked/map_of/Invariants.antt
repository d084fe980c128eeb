use Rattle.std.proofs.Common.{◌≡◌, List, map, reverse, take, length}
use Rattle.std.specs.Prelude.{◌-◌}
use Rattle.sg_history.specs.declared.entries.Entry.{Entry}
use Rattle.sg_history.specs.Feed.{row_of}
use Rattle.feed_rows.specs.Known.{from_on}
use Rattle.feed_rows.specs.KnownDocuments.{AreKnown}
use Rattle.feed_rows.specs.inner.Ordered.{asked_rows, under_key}
use Rattle.feed_rows.specs.inner.Shown.{AreSwitches}
use Rattle.feed_rows.proofs.asked.map_of.Given as goal

abbrev pub invariant-loop-document : goal.invariant-loop-document
invariant-loop-document l = record {
  rows : (es : List Entry) → l.to ≡ length es → AreKnown l.viewer l.from es l.documents → l.rows.entries ≡ map under_key (asked_rows l.options l.since (reverse (map (λ d. from_on l.from (row_of es l.viewer.user.now l.viewer.filter.now d.name.now)) (take l.document-index l.documents))));
  switches : AreSwitches l.viewer (l.from - 1) l.to l.switches.kept;
}
