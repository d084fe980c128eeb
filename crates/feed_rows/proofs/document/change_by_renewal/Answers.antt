use Rattle.std.proofs.Common.{◌≡◌, ◌∙◌, ◌&&◌, arith, refl, sym, ap, true, false, Some}
use Rattle.std.specs.Prelude.{nat_eq}
use Rattle.feed_rows.specs.Known.{from_on, view_when}
use Rattle.feed_rows.specs.Latest.{winner_in}
use Rattle.feed_rows.proofs.FromPlaces.{from_with}
use Rattle.feed_rows.proofs.Renewals.{as_before, by_view, by_write, place_before, viewer_before}
use Rattle.feed_rows.proofs.document.change_by_renewal.Goals as goal

pub returns-then-shows_write : goal.returns-then-shows_write
returns-then-shows_write c = λ e es doc renewed known.
    let latest = c.args.latest in
    let both : (nat_eq latest.seq latest.since && c.lasting_shown-is_shown.result.holds) ≡ true = sym c.shows_write.ensures ∙ c.if-shows_write.true in
    from_with c.args.from latest.since (nat_eq latest.seq latest.since) (view_when c.lasting_shown-is_shown.result.holds (winner_in latest)) doc (Some (winner_in latest)) c.requires.from
    ∙ ap (from_on c.args.from)
    (by_write c.args.viewer.now e es doc latest renewed c.currents.ensures.unwritten (nat_eq latest.seq latest.since) c.lasting_shown-is_shown.result.holds refl c.lasting_shown-is_shown.ensures.now both)

pub returns-then-is_shown-was_shown : goal.returns-then-is_shown-was_shown
returns-then-is_shown-was_shown c = λ e es doc renewed known.
    let viewer = c.args.viewer.now in
    let latest = c.args.latest in
    let was = c.was_shown.ensures es doc (place_before viewer e es doc latest renewed) (viewer_before viewer e es doc latest renewed) known.state in
    let other : ¬ (c.lasting_shown-is_shown.result.holds ≡ c.was_shown.result) = grind arith in
    from_with c.args.from latest.since (nat_eq latest.seq latest.since) (view_when c.lasting_shown-is_shown.result.holds (winner_in latest)) doc (Some (winner_in latest)) c.requires.from
    ∙ ap (from_on c.args.from)
    (by_view viewer e es doc latest renewed c.currents.ensures.unwritten (nat_eq latest.seq latest.since) c.lasting_shown-is_shown.result.holds refl c.lasting_shown-is_shown.ensures.now c.was_shown.result was other)

pub returns : goal.returns
returns c = λ e es doc renewed known.
    let viewer = c.args.viewer.now in
    let latest = c.args.latest in
    let was = c.was_shown.ensures es doc (place_before viewer e es doc latest renewed) (viewer_before viewer e es doc latest renewed) known.state in
    let not : (nat_eq latest.seq latest.since && c.lasting_shown-is_shown.result.holds) ≡ false = sym c.shows_write.ensures ∙ c.if-shows_write.false in
    let kept : c.lasting_shown-is_shown.result.holds ≡ c.was_shown.result = grind arith in
    c.change_up_to.ensures es doc (place_before viewer e es doc latest renewed) known
    ∙ ap (from_on c.args.from) (as_before viewer e es doc latest renewed c.currents.ensures.unwritten (nat_eq latest.seq latest.since) c.lasting_shown-is_shown.result.holds refl c.lasting_shown-is_shown.ensures.now c.was_shown.result was not kept)
