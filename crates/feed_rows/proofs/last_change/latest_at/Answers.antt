use Rattle.std.proofs.Common.{◌≡◌, ◌∙◌, sym, ap, length, Some}
use Rattle.std.specs.Prelude.{option_map}
use Rattle.std.specs.Option.{option_copied}
use Rattle.std.proofs.lemmas.Option.{none-some, same_Some}
use Rattle.sg_history.specs.History.{past}
use Rattle.log_views.specs.At.{write_at}
use Rattle.log_views.specs.States.{effects_at_write, effects_in, since_at_write}
use Rattle.feed_rows.specs.LastChange.{IsWinning}
use Rattle.feed_rows.proofs.LastChanges.{effects_are, whole, winning_low, written_by}
use Rattle.feed_rows.proofs.last_change.latest_at.Goals as goal

pub effects_at-requires : goal.effects_at-requires
effects_at-requires c = (length c.args.entries.now, c.requires.index ∙ whole c.args.entries.now, c.requires.within)

pub returns-in_err-write : goal.returns-in_err-write
returns-in_err-write c = λ doc at.
    let there = written_by c.args.entries.now c.args.to doc c.requires.within c.args.document at in
    absurd (none-some _ (sym (ap (λ o. option_copied o) c.in_err-write.was) ∙ c.write_at.ensures ∙ there))

pub returns-in_err-effects : goal.returns-in_err-effects
returns-in_err-effects c = λ doc at.
    let low = winning_low c.args.entries.now c.args.to doc c.requires.within c.args.document at in
    let there = effects_are c.args.entries.now c.args.to doc c.requires.within c.args.document at in
    absurd (none-some _ (sym (ap (option_map effects_in) c.in_err-effects.was) ∙ c.effects_at.ensures.effects low ∙ there))

pub returns : goal.returns
returns c = λ doc at.
    let entries = c.args.entries.now in
    let to = c.args.to in
    let d = c.args.document in
    let within = c.requires.within in
    let write = c.in_ok-write.write.now in
    let effects = c.in_ok-effects.effects in
    let low = winning_low entries to doc within d at in
    let there : write_at entries d.winning ≡ Some write = sym c.write_at.ensures ∙ ap (λ o. option_copied o) c.in_ok-write.was in
    let winning : IsWinning (past entries to) d.winning write effects = record {
      effects = same_Some _ _ (sym (ap (option_map effects_in) c.in_ok-effects.was) ∙ c.effects_at.ensures.effects low ∙ ap (effects_at_write (past entries to) d.winning) there);
      since = same_Some _ _ (sym (ap (option_map (λ e. e.since)) c.in_ok-effects.was) ∙ c.effects_at.ensures.since low ∙ ap (since_at_write (past entries to) d.winning) there);
    } in
    let one = c.latest_by.ensures entries to doc within at winning there in (one.0, one.1)
