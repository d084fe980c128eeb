-- lines that are run, one more at the end
use Rattle.std.proofs.Common.{◌≡◌, ◌+◌, ℕ, Bool, List, [], ◌∷◌, ◌++◌, length, refl, sym, ap, ◌∙◌, subst, arith}
use Rattle.std.proofs.lemmas.List.{append_assoc}
use Rattle.sg_history.specs.declared.entries.Entry.{Entry}
use Rattle.principals.specs.declared.admin_line.AdminLine.{AdminLine}
use Rattle.sync_syntax.specs.declared.tree.Program.{Program}
use Rattle.doc_board.specs.declared.outcome.Outcome.{Outcome}
use Rattle.replay_in_turn.specs.Script.{AreLinesRun, IsLineRun}
use Rattle.replay_in_turn.specs.inner.Shape.{IsScriptRun}
use Rattle.transcripts.specs.Transcript.{outcome_line, outcome_lines}
use Rattle.transcripts.proofs.Texts.{outcomes_text_more}

lines_more : (program : Program) (strict : Bool) (before middle after : List Entry) (lines : List AdminLine) (answers : List Outcome) (l : AdminLine) (answer : Outcome) → AreLinesRun program strict before lines answers middle → IsLineRun program strict middle l answer after → AreLinesRun program strict before (lines ++ l ∷ []) (answers ++ answer ∷ []) after
lines_more program strict before middle after [] [] l answer run more = (after, subst (λ (log : List Entry). IsLineRun program strict log l answer after) run more, refl)
lines_more program strict before middle after (x ∷ lines) (a ∷ answers) l answer (between, first, rest) more =
    (between, first, lines_more program strict between middle after lines answers l answer rest more)
lines_more program strict before middle after [] (a ∷ answers) l answer run more = absurd run
lines_more program strict before middle after (x ∷ lines) [] l answer run more = absurd run

as_many : (program : Program) (strict : Bool) (before after : List Entry) (lines : List AdminLine) (answers : List Outcome) → AreLinesRun program strict before lines answers after → length answers ≡ length lines
as_many program strict before after [] [] run = refl
as_many program strict before after (x ∷ lines) (a ∷ answers) (between, first, rest) = omega (arith, as_many program strict between after lines answers rest)
as_many program strict before after [] (a ∷ answers) run = absurd run
as_many program strict before after (x ∷ lines) [] run = absurd run

-- a script that was run, with one line more
pub script_more : (program : Program) (strict : Bool) (number place : ℕ) (lines : List AdminLine) (before middle after : List Entry) (text between text_after : List ℕ) (l : AdminLine) (answer : Outcome)
    → IsScriptRun program strict number lines before middle text between → IsLineRun program strict middle l answer after → place ≡ number + length lines → text_after ≡ between ++ outcome_line place answer
    → IsScriptRun program strict number (lines ++ l ∷ []) before after text text_after
script_more program strict number place lines before middle after text between text_after l answer run more at printed = record {
  outcomes = run.outcomes ++ answer ∷ [];
  run = lines_more program strict before middle after lines run.outcomes l answer run.run more;
  printed = printed
      ∙ ap (λ (n : ℕ). between ++ outcome_line n answer) (at ∙ ap (λ (n : ℕ). number + n) (sym (as_many program strict before middle lines run.outcomes run.run)))
      ∙ ap (λ (t : List ℕ). t ++ outcome_line (number + length run.outcomes) answer) run.printed
      ∙ append_assoc text (outcome_lines number run.outcomes) (outcome_line (number + length run.outcomes) answer)
      ∙ ap (λ (t : List ℕ). text ++ t) (sym (outcomes_text_more number run.outcomes answer));
}
