-- transcripts with one line more, and with one session more
use Rattle.std.proofs.Common.{◌≡◌, ◌+◌, ℕ, suc, List, [], ◌∷◌, ◌++◌, length, sym, ap, ◌∙◌, append-nil, arith}
use Rattle.std.proofs.lemmas.List.{append_assoc}
use Rattle.doc_board.specs.declared.outcome.Outcome.{Outcome}
use Rattle.transcripts.specs.Transcript.{Run, outcome_line, outcome_lines, run_text, runs_text}

pub outcomes_text_more : (number : ℕ) (answers : List Outcome) (answer : Outcome) → outcome_lines number (answers ++ answer ∷ []) ≡ outcome_lines number answers ++ outcome_line (number + length answers) answer
outcomes_text_more number [] answer =
    append-nil (outcome_line number answer) ∙ ap (λ (n : ℕ). outcome_line n answer) (omega arith)
outcomes_text_more number (a ∷ answers) answer =
    ap (λ (text : List ℕ). outcome_line number a ++ text) (outcomes_text_more (number + 1) answers answer ∙ ap (λ (n : ℕ). outcome_lines (number + 1) answers ++ outcome_line n answer) (omega arith))
    ∙ sym (append_assoc (outcome_line number a) (outcome_lines (number + 1) answers) (outcome_line (number + suc (length answers)) answer))

pub runs_text_more : (number : ℕ) (runs : List Run) (run : Run) → runs_text number (runs ++ run ∷ []) ≡ runs_text number runs ++ run_text (number + length runs) run
runs_text_more number [] run = append-nil (run_text number run) ∙ ap (λ (n : ℕ). run_text n run) (omega arith)
runs_text_more number (r ∷ runs) run =
    ap (λ (text : List ℕ). run_text number r ++ text) (runs_text_more (number + 1) runs run ∙ ap (λ (n : ℕ). runs_text (number + 1) runs ++ run_text n run) (omega arith))
    ∙ sym (append_assoc (run_text number r) (runs_text (number + 1) runs) (run_text (number + suc (length runs)) run))
