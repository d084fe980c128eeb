use Rattle.std.proofs.Common.{◌≡◌, ◌+◌, ◌∙◌, arith, refl, sym, ap, subst, reverse, List, ℕ, Option, Some, None}
use Rattle.std.proofs.lemmas.List.{length-reverse}
use Rattle.sg_history.specs.declared.entries.Entry.TheVariants as entry
use Rattle.feed_rows.specs.declared.document.Latest.{Latest}
use Rattle.feed_rows.specs.inner.Index.{IsIndex}
use Rattle.feed_rows.specs.Known.{known_at}
use Rattle.feed_rows.specs.Latest.{current_in, since_in}
use Rattle.feed_rows.specs.PassAt.{IsRenewed}
use Rattle.feed_rows.proofs.Indexes.{below}
use Rattle.feed_rows.proofs.Passes.{names_are, was, brought, index_is}
use Rattle.feed_rows.proofs.Settled.{own_write}
use Rattle.feed_rows.proofs.Steps.{written_renews}
use Rattle.feed_rows.proofs.pass.take_write.Goals as goal

none_since : (o : Option Latest) → ((l : Latest) → o ≡ Some l → ⊥) → since_in o ≡ 0
none_since None not = refl
none_since (Some l) not = absurd (not l refl)

pub returns-in_default : goal.returns-in_default
returns-in_default c = absurd (omega (arith, c.requires.since, none_since c.args.latest c.in_default.not-Some))

pub place_for-requires : goal.place_for-requires
place_for-requires c =
    subst (λ (names : List (List ℕ)). IsIndex names c.args.pass.now.places)
    (sym (names_are (known_at (reverse c.args.older.now) c.args.viewer.now.user.now c.args.viewer.now.filter.now) c.args.pass.now.documents.items _ (λ n. refl) c.requires.known.documents)) c.requires.known.places

pub bring_up_at-requires-clause-within : goal.bring_up_at-requires-clause-within
bring_up_at-requires-clause-within c = below c.place_for.new.documents.items c.in_ok-place.place c.args.write.now.doc c.in_ok-place.ensures.place

pub bring_up_at-requires-clause-since : goal.bring_up_at-requires-clause-since
bring_up_at-requires-clause-since c = omega (arith, sym (ap since_in c.in-Some.is) ∙ c.requires.since)

pub returns : goal.returns
returns c =
    let law = c.currents.ensures.unwritten in
    let w = c.args.write.now in
    let es = reverse c.args.older.now in
    let viewer = c.args.viewer.now in
    let before = c.args.pass.now in
    let known = c.requires.known in
    let k = c.in_ok-place.place in
    let placed = c.place_for.new.documents.items in
    let renewed : IsRenewed viewer (entry.Write w) es w.doc c.in-Some.latest = record {
      is_viewer = c.requires.viewer;
      renewed = written_renews (entry.Write w) es w.doc w (own_write w);
      since = sym (ap since_in c.in-Some.is) ∙ c.requires.since ∙ ap (λ (n : ℕ). n + 1) (sym (length-reverse c.args.older.now));
      state = sym (ap current_in c.in-Some.is) ∙ c.requires.state;
    } in
    record {
      documents =
          c.bring_up_at.ensures (entry.Write w) es w.doc renewed (was law w es viewer before known k placed c.in_ok-place.ensures.documents c.in_ok-place.ensures.place)
          ∙ brought law w es viewer before known k placed c.in_ok-place.ensures.documents c.in_ok-place.ensures.place;
      places = index_is law w es viewer before known k placed c.in_ok-place.ensures.documents c.in_ok-place.ensures.place c.place_for.new.places c.in_ok-place.ensures.places;
    }
