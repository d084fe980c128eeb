use Rattle.std.proofs.Common.{◌≡◌, ◌∙◌, ◌<◌, List, Option, sym, ap, reverse, take, map, length, get_or, arith}
use Rattle.std.specs.Prelude.{◌-◌}
use Rattle.sg_history.specs.declared.row.Row.{Row}
use Rattle.sg_history.specs.Feed.{row_of}
use Rattle.feed_rows.specs.declared.document.Document.{Document}
use Rattle.feed_rows.specs.Known.{Known, from_on, known_from, known_in}
use Rattle.feed_rows.specs.PassAt.{IsKnown}
use Rattle.feed_rows.specs.inner.Ordered.{asked_rows, insert_asked, under_key}
use Rattle.feed_rows.proofs.Loops.{known_each, mapped_more, taken_all}
use Rattle.feed_rows.proofs.asked.map_of.Goals as goal

pub loop-document-init : goal.loop-document-init
loop-document-init c = record {
  rows = λ es at known. c.new-rows.ensures.empty;
  switches = c.new-switches.ensures c.args.viewer.now (c.args.from - 1) c.args.to;
}

pub loop-document-preserved : goal.loop-document-preserved
loop-document-preserved c =
    let user = c.args.viewer.now.user.now in
    let filter = c.args.viewer.now.filter.now in
    let options = c.args.options.now in
    let since = c.args.since.now in
    let from = c.args.from in
    let documents = c.args.documents.now in
    let i = c.loop-document.document-index in
    let d = c.document-item.result in
    let within : i < length documents = omega arith in
    let is : get_or documents i d ≡ d = sym c.document-item.is in
    record {
      rows = λ es at are.
          let of : Document → Option Row = λ x. from_on from (row_of es user filter x.name.now) in
          let known = ap known_in (sym is) ∙ known_each (known_from from es user filter) documents i d are.known within ∙ ap (λ (x : Document). known_from from es user filter x.name.now) is in
          let is_known : IsKnown c.args.viewer.now from es d.name.now d.latest d.change = record {
            is_viewer = are.is_viewer;
            state = ap (λ (k : Known). k.current) known;
            since = ap (λ (k : Known). k.since) known;
            row = ap (λ (k : Known). k.row) known;
          } in
          let row = c.in_ok-change.ensures.change es d.name.now at is_known in
          let before = asked_rows options since (reverse (map of (take i documents))) in
          c.in_ok-add_row.ensures before (c.loop-document.invariant.rows es at are)
          ∙ ap (λ (r : Option Row). map under_key (insert_asked options since r before)) (row ∙ ap of (sym is))
          ∙ ap (λ (rows : List (Option Row)). map under_key (asked_rows options since rows)) (sym (mapped_more of documents i d within));
      switches = c.in_ok-change.ensures.kept;
    }

pub returns : goal.returns
returns c = λ es at are.
    let user = c.args.viewer.now.user.now in
    let filter = c.args.viewer.now.filter.now in
    let of : Document → Option Row = λ x. from_on c.args.from (row_of es user filter x.name.now) in
    c.loop-document.invariant.rows es at are
    ∙ ap (λ (ds : List Document). map under_key (asked_rows c.args.options.now c.args.since.now (reverse (map of ds)))) (taken_all c.args.documents.now c.loop-document.document-index (omega arith))
