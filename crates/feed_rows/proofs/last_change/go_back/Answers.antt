use Rattle.std.proofs.Common.{◌≡◌, ◌∙◌, sym, ap, arith, length}
use Rattle.sg_history.specs.History.{past}
use Rattle.feed_rows.specs.Known.{since_renewed}
use Rattle.feed_rows.specs.LastChange.{place_by}
use Rattle.feed_rows.specs.Latest.{current_in, since_in, winner_in}
use Rattle.grant_history.specs.Periods.{periods_have}
use Rattle.feed_rows.proofs.Places.{dated_within, past_length}
use Rattle.feed_rows.proofs.Settled.{Test, settled_never, settled_none, settled_some}
use Rattle.feed_rows.proofs.Steps.{seq_is}
use Rattle.feed_rows.proofs.LastChanges.{place_none}
use Rattle.feed_rows.proofs.last_change.go_back.Goals as goal

pub latest_of-requires-clause-index : goal.latest_of-requires-clause-index
latest_of-requires-clause-index c = c.requires.stood.1.indexes

pub latest_of-requires-clause-within : goal.latest_of-requires-clause-within
latest_of-requires-clause-within c = c.requires.stood.1.within

pub found_by_renewal-requires-clause-index : goal.found_by_renewal-requires-clause-index
found_by_renewal-requires-clause-index c = c.requires.stood.1.indexes

pub found_by_renewal-requires-clause-within : goal.found_by_renewal-requires-clause-within
found_by_renewal-requires-clause-within c =
    let doc = c.requires.stood.0 in
    let s = c.requires.stood.1 in
    let es = past c.args.entries.now c.args.to in
    let known = c.latest_of.ensures doc s.document in
    let is = sym known.0 ∙ ap current_in c.in-Some.is in
    let since : c.in-Some.latest.since ≡ length (since_renewed es doc) = sym (ap since_in c.in-Some.is) ∙ known.1 in
    let low = (seq_is c.currents.ensures.unwritten es doc (winner_in c.in-Some.latest) is).since in
    omega (arith, since, low, past_length c.args.entries.now c.args.to s.within, s.within)

pub returns-in-None : goal.returns-in-None
returns-in-None c = λ doc s.
    let user = c.args.viewer.now.user.now in
    let filter = c.args.viewer.now.filter.now in
    let es = past c.args.entries.now c.args.to in
    let none = sym (c.latest_of.ensures doc s.document).0 ∙ ap current_in c.in-None.is in
    place_none c.currents.ensures.unwritten es user filter doc none (settled_never c.currents.ensures.unwritten es user filter doc none)

pub returns-in-Some-last_switch : goal.returns-in-Some-last_switch
returns-in-Some-last_switch c = λ doc s.
    let entries = c.args.entries.now in
    let user = c.args.viewer.now.user.now in
    let filter = c.args.viewer.now.filter.now in
    let has = periods_have c.args.viewer.now.periods.now in
    let es = past entries c.args.to in
    let now = winner_in c.in-Some.latest in
    let at = past_length entries c.args.to s.within in
    let known = c.latest_of.ensures doc s.document in
    let is = sym known.0 ∙ ap current_in c.in-Some.is in
    let since : c.in-Some.latest.since ≡ length (since_renewed es doc) = sym (ap since_in c.in-Some.is) ∙ known.1 in
    let dated = dated_within has user entries c.args.to s.is_viewer.dated in
    let by = c.in-Some-last_switch.switch.by in
    let found = c.in-Some-last_switch.ensures in
    let end = ap (Test has filter now) (sym at) in
    sym (ap place_by (settled_some has user filter doc c.currents.ensures.unwritten now es by dated is (omega (arith, since, found.0)) (omega (arith, found.1, at)) (λ j a b. found.3 j a (omega (arith, b, at)) ∙ end) (λ e. found.4 (e ∙ sym end))))

pub returns-in-None-last_switch : goal.returns-in-None-last_switch
returns-in-None-last_switch c = λ doc s.
    let entries = c.args.entries.now in
    let user = c.args.viewer.now.user.now in
    let filter = c.args.viewer.now.filter.now in
    let has = periods_have c.args.viewer.now.periods.now in
    let es = past entries c.args.to in
    let now = winner_in c.in-Some.latest in
    let at = past_length entries c.args.to s.within in
    let known = c.latest_of.ensures doc s.document in
    let is = sym known.0 ∙ ap current_in c.in-Some.is in
    let since : c.in-Some.latest.since ≡ length (since_renewed es doc) = sym (ap since_in c.in-Some.is) ∙ known.1 in
    let dated = dated_within has user entries c.args.to s.is_viewer.dated in
    let steady = c.in-None-last_switch.ensures in
    c.found_by_renewal.ensures doc c.args.to s (sym is) since
    (settled_none has user filter doc c.currents.ensures.unwritten now es dated is (λ j a b. steady j (omega (arith, since, a)) (omega (arith, b, at)) ∙ ap (Test has filter now) (sym at)))
