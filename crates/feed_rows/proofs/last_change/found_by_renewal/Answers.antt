use Rattle.std.proofs.Common.{◌≡◌, ◌∙◌, ◌-◌, ◌&&◌, refl, sym, ap, arith, ℕ, true, false}
use Rattle.std.specs.Prelude.{nat_eq}
use Rattle.log_index.specs.Places.{document_at}
use Rattle.sg_history.specs.Current.{current}
use Rattle.sg_history.specs.History.{past}
use Rattle.feed_rows.specs.LastChange.{place_in}
use Rattle.feed_rows.proofs.LastChanges.{earlier, found_before, found_shown, found_turned, since_is_next, stood_so, viewer_before}
use Rattle.feed_rows.proofs.last_change.found_by_renewal.Goals as goal

pub returns-then-shows_write : goal.returns-then-shows_write
returns-then-shows_write c = λ doc to s is since same.
    let latest = c.args.latest in
    let both : (nat_eq latest.seq latest.since && c.lasting_shown-is_shown.result.holds) ≡ true = sym c.shows_write.ensures ∙ c.if-shows_write.true in
    found_shown c.currents.ensures.unwritten c.args.entries.now c.args.index.now c.args.viewer.now doc to c.args.stood s latest is since same
    (nat_eq latest.seq latest.since) c.lasting_shown-is_shown.result.holds refl c.lasting_shown-is_shown.ensures.now both

pub returns-then-is_shown-was_shown : goal.returns-then-is_shown-was_shown
returns-then-is_shown-was_shown c = λ doc to s is since same.
    let law = c.currents.ensures.unwritten in
    let entries = c.args.entries.now in
    let index = c.args.index.now in
    let viewer = c.args.viewer.now in
    let latest = c.args.latest in
    let next = since_is_next law entries index viewer doc to c.args.stood s latest is since same in
    let at : c.saturating_sub-earlier.result ≡ latest.since - 1 = omega (arith, next, c.saturating_sub-earlier.ensures) in
    let before = c.stood_before-before.ensures ∙ stood_so law entries index viewer doc to c.args.stood s latest is since same ∙ ap (λ (m : ℕ). document_at (past entries m) doc) (sym at) in
    let state = (c.latest_of.ensures doc before).0 ∙ ap (λ (m : ℕ). current (past entries m) doc) at in
    let was = c.was_shown.ensures (past entries (latest.since - 1)) doc (omega (arith, next, at)) (viewer_before law entries index viewer doc to c.args.stood s latest is since same) state in
    let other : ¬ (c.lasting_shown-is_shown.result.holds ≡ c.was_shown.result) = grind arith in
    found_turned law entries index viewer doc to c.args.stood s latest is since same c.lasting_shown-is_shown.result.holds c.was_shown.result c.lasting_shown-is_shown.ensures.now was other

pub returns : goal.returns
returns c = λ doc to s is since same.
    let law = c.currents.ensures.unwritten in
    let entries = c.args.entries.now in
    let index = c.args.index.now in
    let viewer = c.args.viewer.now in
    let latest = c.args.latest in
    let next = since_is_next law entries index viewer doc to c.args.stood s latest is since same in
    let at : c.saturating_sub-earlier.result ≡ latest.since - 1 = omega (arith, next, c.saturating_sub-earlier.ensures) in
    let before = c.stood_before-before.ensures ∙ stood_so law entries index viewer doc to c.args.stood s latest is since same ∙ ap (λ (m : ℕ). document_at (past entries m) doc) (sym at) in
    let state = (c.latest_of.ensures doc before).0 ∙ ap (λ (m : ℕ). current (past entries m) doc) at in
    let was = c.was_shown.ensures (past entries (latest.since - 1)) doc (omega (arith, next, at)) (viewer_before law entries index viewer doc to c.args.stood s latest is since same) state in
    let not : (nat_eq latest.seq latest.since && c.lasting_shown-is_shown.result.holds) ≡ false = sym c.shows_write.ensures ∙ c.if-shows_write.false in
    let kept : c.lasting_shown-is_shown.result.holds ≡ c.was_shown.result = grind arith in
    let place = found_before law entries index viewer doc to c.args.stood s latest is since same (nat_eq latest.seq latest.since) c.lasting_shown-is_shown.result.holds c.was_shown.result refl c.lasting_shown-is_shown.ensures.now was not kept in (
      omega (arith, at, earlier law entries index viewer doc to c.args.stood s latest is since same),
      before,
      place ∙ ap (λ (m : ℕ). place_in (past entries m) viewer doc) (sym at),
    )
