use Rattle.std.proofs.Common.{◌≡◌, ◌∙◌, ◌++◌, ℕ, List, ap, codes, map}
use Rattle.std.proofs.lemmas.Result.{on_ok_weaker}
use Rattle.sg_history.specs.History.{history}
use Rattle.doc_board.specs.State.{State}
use Rattle.sg_history.specs.Journal.{journal_text}
use Rattle.transcripts.specs.Transcript.{outcome_lines, runs_text}
use Rattle.session_threads.specs.declared.played.LineOutcome.{LineOutcome}
use Rattle.session_threads.specs.declared.played.PlayedSession.{PlayedSession}
use Rattle.sg_outside.specs.declared.mem_wire.MemWire.{MemWire}
use Rattle.replay.specs.Runs.{outcome_of, runs_of}
use Rattle.replay.proofs.Printing.{all_parts}
use Rattle.replay.proofs.text.write_played.Goals as goal

pub returns : goal.returns
returns c =
    let start : List ℕ = c.args.out.now in
    let lines : List ℕ = outcome_lines 2 (map outcome_of c.args.played.now.script) in
    let runs : List ℕ = runs_text 1 (runs_of (λ s. s.ended) (λ s. s.wire.sent.items) c.args.users.now c.args.played.now.sessions) in
    let journal : List ℕ = journal_text (history c.log.result.now) in
    let wrote_lines : c.write_outcomes.new.out ≡ start ++ outcome_lines 2 (map outcome_of c.as_slice.result.now) = c.in_ok-write_outcomes.ensures in
    let first : c.write_outcomes.new.out ≡ start ++ lines = wrote_lines ∙ ap (λ (os : List LineOutcome). start ++ outcome_lines 2 (map outcome_of os)) c.as_slice.ensures in
    let wrote_runs : c.write_sessions.new.out ≡ c.write_outcomes.new.out ++ runs_text 1 (runs_of (λ s. s.ended) (λ s. s.wire.sent.items) c.args.users.now c.as_slice-2.result.now) = c.in_ok-write_sessions.ensures in
    let second : c.write_sessions.new.out ≡ c.write_outcomes.new.out ++ runs = wrote_runs ∙ ap (λ (ss : List (PlayedSession MemWire)). c.write_outcomes.new.out ++ runs_text 1 (runs_of (λ s. s.ended) (λ s. s.wire.sent.items) c.args.users.now ss)) c.as_slice-2.ensures in
    on_ok_weaker c.write_history.result (λ wrote.
    let third : c.write_history.new.out ≡ c.write_sessions.new.out ++ codes "journal\n" ++ journal = wrote in
    let whole : c.write_history.new.out ≡ start ++ lines ++ runs ++ codes "journal\n" ++ journal = all_parts start lines runs (codes "journal\n") journal c.write_outcomes.new.out c.write_sessions.new.out c.write_history.new.out first second third in
    (history c.log.result.now, c.log.ensures.limit, c.log.ensures.log ∙ ap (λ (s : State). s.log) c.board.ensures, whole)) c.write_history.ensures
