use Rattle.std.proofs.Common.{◌≡◌, ◌∙◌, map, sym, ap, subst, ℕ, List, Option, Some, false}
use Rattle.std.specs.Prelude.{slice_get}
use Rattle.sg_history.specs.History.{among}
use Rattle.feed_rows.specs.Known.{PlacedBy}
use Rattle.feed_rows.proofs.Amid.{absent, names_amid}
use Rattle.feed_rows.proofs.Indexes.{below}
use Rattle.feed_rows.proofs.pass.take_mark.Goals as goal

pub returns-in_default : goal.returns-in_default
returns-in_default c = λ e es done rest at is_viewer has amid.
    let pass = c.args.pass.now in
    let doc = c.args.mark.now.doc in
    let P : Option ℕ → Type 0 = PlacedBy (map (λ d. d.name.now) pass.documents.items) doc in
    let none : among (map (λ d. d.name.now) pass.documents.items) doc ≡ false = subst P (sym c.place_of.ensures ∙ c.in_default.is) (c.requires.places doc) in
    absent c.currents.ensures.unwritten e es c.args.viewer.now pass done rest c.args.mark.now has amid
    (sym (ap (λ (names : List (List ℕ)). among names doc) (names_amid e es c.args.viewer.now pass done amid)) ∙ none)

pub take_mark_at-requires-clause-within : goal.take_mark_at-requires-clause-within
take_mark_at-requires-clause-within c =
    let pass = c.args.pass.now in
    let doc = c.args.mark.now.doc in
    let P : Option ℕ → Type 0 = PlacedBy (map (λ d. d.name.now) pass.documents.items) doc in
    below pass.documents.items c.in-Some.place doc (subst P (sym c.place_of.ensures ∙ c.in-Some.is) (c.requires.places doc))

pub returns : goal.returns
returns c = λ e es done rest at is_viewer has amid.
    let pass = c.args.pass.now in
    let doc = c.args.mark.now.doc in
    let P : Option ℕ → Type 0 = PlacedBy (map (λ d. d.name.now) pass.documents.items) doc in
    let there : slice_get (map (λ d. d.name.now) pass.documents.items) c.in-Some.place ≡ Some doc = subst P (sym c.place_of.ensures ∙ c.in-Some.is) (c.requires.places doc) in
    c.take_mark_at.ensures e es done rest pass.places at is_viewer has
    (sym (ap (λ (names : List (List ℕ)). slice_get names c.in-Some.place) (names_amid e es c.args.viewer.now pass done amid)) ∙ there)
    amid
