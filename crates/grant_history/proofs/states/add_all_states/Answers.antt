use Rattle.std.proofs.Common.{◌≡◌, ◌∙◌, ◌<◌, ◌∷◌, ℕ, List, length, sym, ap, subst, arith, Some}
use Rattle.std.specs.Prelude.{slice_get}
use Rattle.std.proofs.lemmas.Option.{slice_get-get_or}
use Rattle.sg_history.specs.declared.entries.Entry.{Entry}
use Rattle.sg_history.specs.History.{as_sync, as_write, past}
use Rattle.grant_history.specs.inner.MoreStates.{IsOneMore}
use Rattle.grant_history.specs.NewStates.{AreNewStates, state_written, states_marked}
use Rattle.grant_history.proofs.Applied.{past_next}
use Rattle.grant_history.proofs.Winning.{more_states}
use Rattle.grant_history.proofs.states.add_all_states.Goals as goal

pub loop-entry-preserved : goal.loop-entry-preserved
loop-entry-preserved c =
    let entries = c.args.entries.now in
    let i = c.loop-entry.entry-index in
    let e = c.entry-item.result in
    let low : i < length entries = omega arith in
    let is : slice_get entries i ≡ Some e = slice_get-get_or entries i e low ∙ ap (λ (x : Entry). Some x) (sym c.entry-item.is) in
    let indexes : c.loop-entry.index ≡ past entries i = c.loop-entry.invariant.indexes in
    let more = subst (λ (es : List Entry). IsOneMore c.loop-entry.states c.add_states.new.states (state_written (e ∷ es) (as_write e)) (states_marked (e ∷ es) (as_sync e))) indexes c.in_ok-add_states.ensures.states in
    record {
      indexes = c.in_ok-add_states.ensures.index ∙ ap (λ (es : List Entry). e ∷ es) indexes ∙ sym (past_next entries i e is);
      states = more_states entries i e is c.loop-entry.states c.add_states.new.states c.loop-entry.invariant.states more;
      above = more.above;
    }

pub returns : goal.returns
returns c = subst (λ (n : ℕ). AreNewStates c.args.entries.now c.loop-entry.states n) (omega (arith, c.loop-entry-test.false)) c.loop-entry.invariant.states
