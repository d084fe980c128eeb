use Rattle.std.proofs.Common.{◌≡◌, ℕ, List, [], ◌∷◌, sym, ◌∙◌, ap, subst, true}
use Rattle.sg_history.specs.declared.entries.Entry.{Entry}
use Rattle.sg_history.specs.declared.row.Options.{Options}
use Rattle.sg_history.specs.History.{past}
use Rattle.sg_history.specs.Feed.{row_of}
use Rattle.sg_history.specs.Device.{shown_to, DeviceTurn, DeviceState, IsRun, state_after}
use Rattle.feed_rows.proofs.AnyDevice.{Good, good_start, good_later, good_after, took_all}
use Rattle.feed_rows.proofs.Places.{past_length, past_extends}
use Rattle.feed_rows.proofs.ShownRows.{feed_facts}
use Rattle.feed_rows.proofs.laws.device.Goals as goal

-- the device's state is as what is shown, but for what changed past its since key
abbrev GoodAt : List ℕ → Options → List Entry → DeviceState → Type 0
GoodAt user options es state =
    Good (λ es doc. row_of es user options.filter doc) (λ es doc. shown_to es user options.filter doc) (feed_facts user options.filter) options es state.copy state.since

-- so it is before each turn of a run
good_before : (user : List ℕ) (options : Options) → options.revocations ≡ true → (turn : DeviceTurn) (earlier : List DeviceTurn) → IsRun (turn ∷ earlier) → GoodAt user options (past turn.history turn.front) (state_after user options earlier)
good_before user options asked turn [] run = good_start _ _ (feed_facts user options.filter) options (past turn.history turn.front)
good_before user options asked turn (before ∷ earlier) run =
    let was = good_before user options asked before earlier run.2 in
    let now : GoodAt user options (past before.history before.front) (state_after user options (before ∷ earlier)) = good_after _ _ (feed_facts user options.filter) options (past before.history before.front) _ _ before.taken before.front asked (sym (past_length before.history before.front run.2.0)) was in
    let on = past_extends before.history run.1.0.0 before.front turn.front run.1.1 run.2.0 in
    let P : List Entry → Type 0 = λ es. GoodAt user options es (state_after user options (before ∷ earlier)) in
    subst P (sym (ap (λ (entries : List Entry). past entries turn.front) run.1.0.1 ∙ on.1)) (good_later _ _ (feed_facts user options.filter) options on.0 (past before.history before.front) _ _ now)

pub returns : goal.returns
returns c = λ user options last earlier doc asked run whole.
    took_all _ _ (feed_facts user options.filter) options (past last.history last.front) _ _ last.taken asked (good_before user options asked last earlier run) whole doc
