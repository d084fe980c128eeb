-- sessions that are served, one more at the end
use Rattle.std.proofs.Common.{◌≡◌, ◌+◌, ℕ, Bool, List, [], ◌∷◌, ◌++◌, length, Some, refl, sym, ap, ◌∙◌, subst, append-nil, length-append, arith}
use Rattle.std.proofs.lemmas.List.{append_assoc}
use Rattle.sg_history.specs.declared.book.Waiting.{Waiting}
use Rattle.sg_history.specs.declared.entries.Entry.{Entry}
use Rattle.sg_history.specs.Board.{BoardState}
use Rattle.record_file.specs.declared.record.Recorded.{Recorded}
use Rattle.sync_syntax.specs.declared.tree.Program.{Program}
use Rattle.write_path.specs.Reads.{IsLaterThanAll, Reads}
use Rattle.session_run.specs.Answered.{Moment}
use Rattle.replay_in_turn.specs.Sessions.{AreRuns, IsRun}
use Rattle.replay_in_turn.specs.inner.Shape.{AreSessionsRun, IsSessionRun}
use Rattle.transcripts.specs.Transcript.{Run, run_text, runs_text}
use Rattle.transcripts.proofs.Texts.{runs_text_more}

abbrev pub ReadBefore : Type 0
ReadBefore = (before after : List BoardState) (low high : ℕ) (h : List Entry) → Reads before after low high → IsLaterThanAll after h → IsLaterThanAll before h

runs_more : (history : List Entry) (program : Program) (strict : Bool) (start middle final : Moment) (records : List Recorded) (runs : List Run) (recorded : Recorded) (run : Run) → AreRuns history program strict start records runs middle → IsRun history program strict middle recorded run final → AreRuns history program strict start (records ++ recorded ∷ []) (runs ++ run ∷ []) final
runs_more history program strict start middle final [] [] recorded run are more = (final, subst (λ (m : Moment). IsRun history program strict m recorded run final) are more, refl)
runs_more history program strict start middle final (x ∷ records) (r ∷ runs) recorded run (between, first, rest) more =
    (between, first, runs_more history program strict between middle final records runs recorded run rest more)
runs_more history program strict start middle final [] (r ∷ runs) recorded run are more = absurd are
runs_more history program strict start middle final (x ∷ records) [] recorded run are more = absurd are

-- sessions that were served, with one more
pub sessions_more : ReadBefore → (program : Program) (strict : Bool) (number place : ℕ) (records : List Recorded) (start middle final : Moment) (text between text_after : List ℕ) (recorded : Recorded)
    → AreSessionsRun program strict number records start middle text between → IsSessionRun program strict place recorded middle final between text_after → place ≡ number + length records
    → AreSessionsRun program strict number (records ++ recorded ∷ []) start final text text_after
sessions_more before program strict number place records start middle final text between text_after recorded served more at = record {
  runs = served.runs ++ more.session ∷ [];
  as_many = length-append served.runs (more.session ∷ []) ∙ ap (λ (n : ℕ). n + 1) served.as_many ∙ sym (length-append records (recorded ∷ []));
  run = λ history later. runs_more history program strict start middle final records served.runs recorded more.session
      (served.run history (before middle.read final.read middle.lowest final.lowest history more.reads later)) (more.run history later);
  added = more.added ++ served.added;
  own = more.own ∙ ap (λ (own : List Waiting). more.added ++ own) served.own ∙ sym (append_assoc more.added served.added start.own);
  count = λ n is. more.count (n + length served.added) (served.count n is) ∙ ap Some (omega (arith, length-append more.added served.added));
  printed = more.printed
      ∙ ap (λ (n : ℕ). between ++ run_text n more.session) (at ∙ ap (λ (n : ℕ). number + n) (sym served.as_many))
      ∙ ap (λ (t : List ℕ). t ++ run_text (number + length served.runs) more.session) served.printed
      ∙ append_assoc text (runs_text number served.runs) (run_text (number + length served.runs) more.session)
      ∙ ap (λ (t : List ℕ). text ++ t) (sym (runs_text_more number served.runs more.session));
}

-- no sessions
pub no_sessions : (program : Program) (strict : Bool) (number : ℕ) (start : Moment) (text : List ℕ) → AreSessionsRun program strict number [] start start text text
no_sessions program strict number start text = record {
  runs = [];
  as_many = refl;
  run = λ history later. refl;
  added = [];
  own = refl;
  count = λ n is. is ∙ ap Some (omega arith);
  printed = sym (append-nil text);
}
