use Rattle.std.proofs.Common.{◌∙◌, ◌∷◌, [], ap, sym, subst, map, ℕ, List, Option, None}
use Rattle.std.proofs.lemmas.List.{map-append}
use Rattle.std.specs.Prelude.{slice_get}
use Rattle.feed_rows.specs.declared.document.Document.{Document}
use Rattle.feed_rows.specs.inner.Index.{IsIndex}
use Rattle.feed_rows.specs.Known.{PlacedBy, known_in}
use Rattle.feed_rows.proofs.Indexes.{index_grown, place_grown}
use Rattle.feed_rows.proofs.Passes.{blank_there, blank_new}
use Rattle.feed_rows.proofs.pass.place_for.Goals as goal

pub returns-in-Some-clause-documents : goal.returns-in-Some-clause-documents
returns-in-Some-clause-documents c =
    let P : Option ℕ → Type 0 = PlacedBy (map (λ d. d.name.now) c.args.documents.now.items) c.args.name.now in
    blank_there c.args.documents.now.items c.args.name.now c.in-Some.place (subst P (sym c.place_of.ensures ∙ c.in-Some.is) (c.requires c.args.name.now))

pub returns-clause-documents : goal.returns-clause-documents
returns-clause-documents c =
    let P : Option ℕ → Type 0 = PlacedBy (map (λ d. d.name.now) c.args.documents.now.items) c.args.name.now in
    let new : Document = record { name = c.args.name; latest = None; change = None } in
    ap (map known_in) c.in_ok-push.ensures.items
    ∙ map-append known_in c.args.documents.now.items (new ∷ [])
    ∙ blank_new c.args.documents.now.items c.args.name.now (subst P (sym c.place_of.ensures ∙ c.in_default.is) (c.requires c.args.name.now))

pub returns-clause-places : goal.returns-clause-places
returns-clause-places c =
    let P : List Document → Type 0 = λ items. IsIndex (map (λ d. d.name.now) items) c.add_place.new.places in
    subst P (sym {A = List Document} c.in_ok-push.ensures.items) (index_grown c.args.documents.now.items (record { name = c.args.name; latest = None; change = None }) c.args.places.now c.add_place.new.places c.len-place.result (c.len-place.ensures ∙ c.args.documents.now.ok.0) c.requires c.in_ok-add_place.ensures)

pub returns-clause-place : goal.returns-clause-place
returns-clause-place c =
    ap (λ (items : List Document). slice_get (map (λ d. d.name.now) items) c.len-place.result) c.in_ok-push.ensures.items
    ∙ place_grown c.args.documents.now.items (record { name = c.args.name; latest = None; change = None }) c.len-place.result (c.len-place.ensures ∙ c.args.documents.now.ok.0)
