use Rattle.std.proofs.Common.{◌∙◌, ◌+◌, reverse, take, sym, ap, refl}
use Rattle.std.specs.Prelude.{option_map}
use Rattle.std.specs.Option.{option_copied}
use Rattle.std.proofs.lemmas.Option.{none-some, same_Some}
use Rattle.log_index.specs.Marks.{effects_by, marked_after}
use Rattle.log_views.specs.At.{write_at}
use Rattle.log_views.specs.States.{effects_in}
use Rattle.grant_history.specs.declared.states.NewState.{NewState}
use Rattle.feed_rows.proofs.Winners.{found, state_there, winner_is, won}
use Rattle.feed_rows.proofs.pass.latest_after.Goals as goal

pub returns-in_err-state : goal.returns-in_err-state
returns-in_err-state c = λ w is at.
    absurd (none-some _ (sym c.in_err-state.was ∙ at ∙ state_there c.args.entries.now c.args.i w c.requires.within is))

pub returns-in_err-write : goal.returns-in_err-write
returns-in_err-write c = λ w is at.
    let entries = c.args.entries.now in
    let i = c.args.i in
    let within = c.requires.within in
    let state = same_Some _ _ (sym c.in_ok-state.was ∙ at ∙ state_there entries i w within is) in
    absurd (none-some _
    (sym (ap (λ o. option_copied o) c.in_err-write.was)
    ∙ c.write_at.ensures
    ∙ ap (λ (s : NewState). write_at (take (i + 1) entries) s.winning) state
    ∙ found entries i w within is))

pub returns-in_err-effects : goal.returns-in_err-effects
returns-in_err-effects c = λ w is at.
    let entries = c.args.entries.now in
    let i = c.args.i in
    let within = c.requires.within in
    let state = same_Some _ _ (sym c.in_ok-state.was ∙ at ∙ state_there entries i w within is) in
    let marked = c.in_ok-state.state.marked in
    absurd (none-some _
    (sym (ap (option_map effects_in) c.in_err-effects.was)
    ∙ c.effects_by.ensures.effects
    ∙ ap (λ (s : NewState). option_map (effects_by (reverse (take (i + 1) entries)) marked) (write_at (take (i + 1) entries) s.winning)) state
    ∙ ap (option_map (effects_by (reverse (take (i + 1) entries)) marked)) (found entries i w within is)))

pub returns : goal.returns
returns c = λ w is at.
    let entries = c.args.entries.now in
    let i = c.args.i in
    let within = c.requires.within in
    let state = same_Some _ _ (sym c.in_ok-state.was ∙ at ∙ state_there entries i w within is) in
    let last = won entries i w within is in
    let same = same_Some _ _
    (sym (ap (λ o. option_copied o) c.in_ok-write.was)
    ∙ c.write_at.ensures
    ∙ ap (λ (s : NewState). write_at (take (i + 1) entries) s.winning) state
    ∙ found entries i w within is) in
    let have = same_Some _ _
    (sym (ap (option_map effects_in) c.in_ok-effects.was)
    ∙ c.effects_by.ensures.effects
    ∙ ap (λ (s : NewState). option_map (effects_by (reverse (take (i + 1) entries)) s.marked) (write_at (take (i + 1) entries) s.winning)) state
    ∙ ap (option_map (effects_by (reverse (take (i + 1) entries)) (marked_after (reverse (take (i + 1) entries)) last))) (found entries i w within is)) in (
      winner_is entries i w within is (i + 1) c.in_ok-write.write.now (effects_in c.in_ok-effects.effects) refl same (have ∙ sym (c.marks.ensures.effects (reverse (take (i + 1) entries)) last)),
      refl,
    )
