use Rattle.std.proofs.Common.{◌≡◌, ◌∙◌, ap, codes, false, map, string_bytes, subst, sym, true, List, ℕ}
use Rattle.std.proofs.lemmas.Result.{IfOk-weaker}
use Rattle.clap.specs.Words.{app_of, found_of, is_simple_and_free, rows_of}
use Rattle.command_line.specs.CommandLines.{replay_app}
use Rattle.command_line.specs.Matches.{begins_with}
use Rattle.command_line.specs.ReplayRequest.{replay_of}
use Rattle.command_line.specs.ReplayWords.{HasReplayValues}
use Rattle.command_line.proofs.CommandLines.{replay_is_named, replay_is_simple}
use Rattle.command_line.proofs.Reading.{are_taken, not_taken, their_rows}
use Rattle.command_line.proofs.replay_words.read_replay.Goals as goal

pub returns-then-not-is_command-clause-bad : goal.returns-then-not-is_command-clause-bad
returns-then-not-is_command-clause-bad c = λ _ r is.
    let words : List (List ℕ) = map (λ w. string_bytes w) c.args.words.now in
    let begins : begins_with (codes "replay") words ≡ false = sym c.if-not-is_command.ensures in
    not_taken replay_app (codes "replay") words replay_is_named begins is.0

pub matches_by-requires : goal.matches_by-requires
matches_by-requires c = ap is_simple_and_free c.in_ok-command.ensures ∙ replay_is_simple

pub returns-clause-ok : goal.returns-clause-ok
returns-clause-ok c =
    let words : List (List ℕ) = map (λ w. string_bytes w) c.args.words.now in
    let begins : begins_with (codes "replay") words ≡ true = sym c.if-not-is_command.ensures in
    let taken = are_taken replay_app (app_of c.in_ok-command.command) (codes "replay") words c.in_ok-command.ensures replay_is_named begins c.in_ok-matches.ensures.taken in
    let rows = their_rows replay_app (app_of c.in_ok-command.command) words (rows_of (found_of c.in_ok-matches.matches)) c.in_ok-command.ensures c.in_ok-matches.ensures.rows in
    IfOk-weaker c.read_values-request.result _ _ (λ r values. (taken, subst (λ rows. HasReplayValues rows (replay_of r)) rows values)) c.read_values-request.ensures.ok

pub returns-clause-bad : goal.returns-clause-bad
returns-clause-bad c =
    let words : List (List ℕ) = map (λ w. string_bytes w) c.args.words.now in
    let rows = their_rows replay_app (app_of c.in_ok-command.command) words (rows_of (found_of c.in_ok-matches.matches)) c.in_ok-command.ensures c.in_ok-matches.ensures.rows in
    λ refused r is. c.read_values-request.ensures.bad refused r (subst (λ rows. HasReplayValues rows r) (sym rows) is.1)

pub returns-clause-only : goal.returns-clause-only
returns-clause-only c =
    let words : List (List ℕ) = map (λ w. string_bytes w) c.args.words.now in
    let rows = their_rows replay_app (app_of c.in_ok-command.command) words (rows_of (found_of c.in_ok-matches.matches)) c.in_ok-command.ensures c.in_ok-matches.ensures.rows in
    IfOk-weaker c.read_values-request.result _ _ (λ r only w is. only w (subst (λ rows. HasReplayValues rows w) (sym rows) is.1)) c.read_values-request.ensures.only
