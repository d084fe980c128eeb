use Rattle.std.proofs.Common.{◌≡◌, ◌∙◌, [], ap, get_or, map, refl, sym, List, Option, None, Some}
use Rattle.feed_rows.specs.declared.document.Document.{Document}
use Rattle.feed_rows.specs.declared.document.Latest.{Latest}
use Rattle.feed_rows.specs.declared.pass.Pass.{Pass}
use Rattle.feed_rows.specs.Known.{Known, blank, known_in, there}
use Rattle.feed_rows.specs.Latest.{current_in, since_in}
use Rattle.feed_rows.proofs.Amid.{brought_up, left_alone, not_there, renewal, was}
use Rattle.feed_rows.proofs.Loops.{item_there}
use Rattle.feed_rows.proofs.pass.take_mark_at.Goals as goal

none_there : (o : Option Latest) → ((l : Latest) → o ≡ Some l → ⊥) → current_in o ≡ None
none_there None not = refl
none_there (Some l) not = absurd (not l refl)

pub returns-in_default : goal.returns-in_default
returns-in_default c = λ e es done rest places at is_viewer has here amid.
    let items = c.args.documents.now.items in
    let k = c.args.place in
    let x = c.index-known-place.result in
    let is : x ≡ get_or items k x = c.index-known-place.is ∙ ap (λ (l : List Document). get_or l k x) c.as_slice-known.ensures.value in
    let item : known_in x ≡ there k (map known_in items) = item_there items k x (blank []) c.requires.within is in
    not_there c.currents.ensures.unwritten e es c.args.viewer.now (record { documents = c.args.documents.now; places = places }) done rest c.args.mark.now has amid k here
    (sym (ap (λ (d : Known). d.current) item) ∙ none_there x.latest c.in_default.not-Some)

pub returns-then-not-is_first_mark : goal.returns-then-not-is_first_mark
returns-then-not-is_first_mark c = λ e es done rest places at is_viewer has here amid.
    let items = c.args.documents.now.items in
    let k = c.args.place in
    let x = c.index-known-place.result in
    let is : x ≡ get_or items k x = c.index-known-place.is ∙ ap (λ (l : List Document). get_or l k x) c.as_slice-known.ensures.value in
    let item : known_in x ≡ there k (map known_in items) = item_there items k x (blank []) c.requires.within is in
    let state = sym (ap (λ (d : Known). d.current) item) ∙ ap current_in c.in-Some.is in
    let since = sym (ap (λ (d : Known). d.since) item) ∙ ap since_in c.in-Some.is in
    left_alone c.currents.ensures.unwritten e es c.args.viewer.now (record { documents = c.args.documents.now; places = places }) done rest c.args.mark.now has amid k here
    c.in-Some.latest state since c.args.seq at (sym c.is_first_mark.ensures ∙ c.if-not-is_first_mark.true)

pub returns : goal.returns
returns c = λ e es done rest places at is_viewer has here amid.
    let law = c.currents.ensures.unwritten in
    let viewer = c.args.viewer.now in
    let m = c.args.mark.now in
    let items = c.args.documents.now.items in
    let k = c.args.place in
    let x = c.index-known-place.result in
    let before : Pass = record { documents = c.args.documents.now; places = places } in
    let is : x ≡ get_or items k x = c.index-known-place.is ∙ ap (λ (l : List Document). get_or l k x) c.as_slice-known.ensures.value in
    let item : known_in x ≡ there k (map known_in items) = item_there items k x (blank []) c.requires.within is in
    let state = sym (ap (λ (d : Known). d.current) item) ∙ ap current_in c.in-Some.is in
    let since = sym (ap (λ (d : Known). d.since) item) ∙ ap since_in c.in-Some.is in
    let first = sym c.is_first_mark.ensures ∙ c.if-not-is_first_mark.false in
    let renewed = renewal law e es viewer before done rest m has amid k here c.in-Some.latest state since c.args.seq at first is_viewer c.marked.result (c.marked.ensures.since ∙ at) c.marked.ensures.state in
    brought_up law e es viewer before done rest m has amid k here c.in-Some.latest state since c.args.seq at first (record { documents = c.bring_up_at.new.documents; places = places }) refl
    (c.bring_up_at.ensures e es m.doc renewed (was law e es viewer before done rest m has amid k here c.in-Some.latest state since c.args.seq at first))
