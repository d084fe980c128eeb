use Rattle.std.proofs.Common.{◌≡◌, ◌++◌, ◌∙◌, List, sym, ap, subst}
use Rattle.std.specs.Prelude.{codes}
use Rattle.std.specs.Arc.{arc_value}
use Rattle.std.proofs.lemmas.Result.{on_ok_weaker}
use Rattle.sg_history.specs.declared.entries.Entry.{Entry}
use Rattle.sg_history.specs.History.{History, history}
use Rattle.sg_history.specs.Journal.{journal_text}
use Rattle.doc_board.specs.State.{State}
use Rattle.write_path.specs.Own.{EndsWith}
use Rattle.write_path.specs.Reads.{IsLaterThanAll}
use Rattle.replay_in_turn.specs.inner.Shape.{AreServed}
use Rattle.replay_in_turn.proofs.whole.serve_all.Goals as goal

pub returns : goal.returns
returns c =
    let final = c.in_ok-ground.ground in
    let h : History = history c.log.result.now in
    let Later : List Entry → Type 0 = λ es. IsLaterThanAll final.read es in
    let Ends : List Entry → Type 0 = λ es. EndsWith es final.own in
    let whole : c.write_history-written.new.out ≡ c.serve_in_turn.new.out ++ codes "journal\n" ++ journal_text h → AreServed (arc_value c.args.program.now) c.args.strict c.args.sessions.items c.args.ground c.args.out.now c.write_history-written.new.out = λ printed.
    record {
      final = final;
      between = c.serve_in_turn.new.out;
      sessions = c.in_ok-ground.ensures;
      history = h;
      limit = c.log.ensures.limit;
      later = subst Later (sym (c.log.ensures.log ∙ ap (λ (s : State). s.log) c.board.ensures)) c.into_inner-shelf.ensures.later;
      log = c.log.ensures.log ∙ ap (λ (s : State). s.log) c.board.ensures ∙ ap (λ (s : State). s.log) c.into_inner-shelf.ensures.board;
      ends = subst Ends (sym (c.log.ensures.log ∙ ap (λ (s : State). s.log) c.board.ensures)) c.into_inner-shelf.ensures.ends;
      printed = printed;
    } in
    on_ok_weaker c.write_history-written.result whole c.write_history-written.ensures
