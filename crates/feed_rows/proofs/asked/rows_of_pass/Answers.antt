use Rattle.std.proofs.Common.{◌∙◌, List, sym, ap, subst, map, reverse, refl, arith}
use Rattle.std.proofs.lemmas.List.{length-reverse}
use Rattle.sg_history.specs.History.{among}
use Rattle.feed_rows.specs.declared.document.Document.{Document}
use Rattle.feed_rows.specs.Known.{known_at}
use Rattle.feed_rows.specs.KnownDocuments.{AreKnown, HaveAll}
use Rattle.feed_rows.proofs.Ordered.{all_written}
use Rattle.feed_rows.proofs.Passes.{names_are}
use Rattle.feed_rows.proofs.asked.rows_of_pass.Goals as goal

pub rows_of_documents-requires-clause-from : goal.rows_of_documents-requires-clause-from
rows_of_documents-requires-clause-from c = omega arith

pub returns : goal.returns
returns c =
    let entries = c.args.entries.now in
    let es = reverse entries in
    let viewer = c.args.viewer.now in
    let user = viewer.user.now in
    let filter = viewer.filter.now in
    let since = c.args.since.now in
    let options = c.args.options.now in
    let items = c.in_ok-pass.pass.documents.items in
    let at = known_at es user filter in
    let named = names_are at items _ (λ n. refl) c.in_ok-pass.ensures.documents in
    let known : AreKnown viewer 1 es items = record {
      is_viewer = c.requires.viewer;
      known = c.in_ok-pass.ensures.documents ∙ ap (λ ns. map at ns) (sym named);
    } in
    let all : HaveAll es user since options items = λ doc row is kept. ap (λ ns. among ns doc) named ∙ all_written es user options.filter doc row is in
    let here = sym c.as_slice-documents.ensures.value in
    c.in_ok-rows.ensures es (sym (length-reverse entries))
    (subst (λ (ds : List Document). AreKnown viewer 1 es ds) here known)
    (subst (λ (ds : List Document). HaveAll es user since options ds) here all)
