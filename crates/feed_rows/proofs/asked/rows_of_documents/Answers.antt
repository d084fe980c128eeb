use Rattle.std.proofs.Common.{◌∙◌, ℕ, List, Option, sym, ap, map, reverse}
use Rattle.std.proofs.lemmas.Simd.{map-map}
use Rattle.sg_history.specs.declared.row.Row.{Row}
use Rattle.sg_history.specs.Feed.{row_of}
use Rattle.feed_rows.specs.declared.document.Document.{Document}
use Rattle.feed_rows.specs.Known.{from_on}
use Rattle.feed_rows.specs.KnownDocuments.{names_in}
use Rattle.feed_rows.specs.inner.Ordered.{asked_rows}
use Rattle.feed_rows.proofs.FromPlaces.{all_asked}
use Rattle.feed_rows.proofs.Loops.{reverse_mapped}
use Rattle.feed_rows.proofs.Ordered.{is_feed, values_under}
use Rattle.feed_rows.proofs.asked.rows_of_documents.Goals as goal

pub returns : goal.returns
returns c = λ es at are all.
    let user = c.args.viewer.now.user.now in
    let filter = c.args.viewer.now.filter.now in
    let since = c.args.since.now in
    let options = c.args.options.now in
    let items = c.args.documents.now in
    let docs = names_in items in
    let of : List ℕ → Option Row = λ d. from_on c.args.from (row_of es user filter d) in
    c.from_vec.ensures
    ∙ c.in_ok-rows.ensures
    ∙ ap (map (λ (e : (ℕ × ℕ) × Row). e.1)) (c.in_ok-found.ensures es at are)
    ∙ values_under (asked_rows options since (reverse (map (λ (d : Document). of d.name.now) items)))
    ∙ ap (λ (rows : List (Option Row)). asked_rows options since (reverse rows)) (sym (map-map of (λ (d : Document). d.name.now) items))
    ∙ ap (asked_rows options since) (reverse_mapped of docs)
    ∙ ap (λ (f : Option (List (List ℕ))). asked_rows options since (map (λ d. from_on c.args.from (row_of es user f d)) (reverse docs))) (sym c.requires.filter)
    ∙ all_asked es user since options c.args.from c.requires.from (reverse docs)
    ∙ is_feed es user since options docs all
