-- What a replay prints: the outcome of each line of the script, what each session looked at and sent and how it ended, and the journal.
use Rattle.std.specs.Prelude.{ℕ, ◌+◌, List, [], ◌∷◌, ◌++◌, codes, decimal, map, if◌then◌else◌, nat_eq}
use Rattle.std.specs.List.{flat_map}
use Rattle.sg_names.specs.Hex.{hex_text}
use Rattle.sg_history.specs.History.{History}
use Rattle.sg_history.specs.Journal.{journal_text}
use Rattle.sync_values.specs.Texts.{rule_text}
use Rattle.doc_board.specs.declared.outcome.Outcome.{Outcome}
use Rattle.doc_board.specs.declared.outcome.Outcome.TheVariants as outcome
use Rattle.session_core.specs.declared.look.Look.{Look}
use Rattle.session_core.specs.declared.look.Purpose.{Purpose}
use Rattle.session_core.specs.declared.look.Purpose.TheVariants as purpose
use Rattle.session_run.specs.declared.ended.End.{End}
use Rattle.session_run.specs.declared.ended.End.TheVariants as end
use Rattle.session_run.specs.declared.ended.Ended.{Ended}

-- ---- the script

-- a text in one line: each line feed is a space
abbrev pub in_one_line : List ℕ → List ℕ
in_one_line text = map (λ c. if nat_eq c 10 then 32 else c) text

-- the outcome of a line: where it was stored, that it was known, or the code of its refusal, behind 403 with the rule that denies it
abbrev pub outcome_text : Outcome → List ℕ
outcome_text (outcome.Bad400 field) = codes "400"
outcome_text (outcome.TooLarge413 bytes) = codes "413"
outcome_text (outcome.UserGone401 at) = codes "401"
outcome_text (outcome.Known at) = codes "known"
outcome_text (outcome.BadHistory400 at) = codes "400"
outcome_text (outcome.Conflict409 at leaf) = codes "409"
outcome_text (outcome.Denied403 at rule) = codes "403 " ++ in_one_line (rule_text rule)
outcome_text (outcome.Stored sequence at) = codes "stored " ++ decimal sequence
outcome_text (outcome.Full503 at places) = codes "503"
outcome_text (outcome.LogFull509 at entries bytes) = codes "509"
outcome_text outcome.Memory507 = codes "507"

-- the script's line with this number
abbrev pub outcome_line : ℕ → Outcome → List ℕ
outcome_line number answer = decimal number ++ 32 ∷ outcome_text answer ++ 10 ∷ []

-- the script's lines from the one with this number on
abbrev pub outcome_lines : ℕ → List Outcome → List ℕ
outcome_lines number [] = []
outcome_lines number (answer ∷ answers) = outcome_line number answer ++ outcome_lines (number + 1) answers

-- ---- the sessions

-- a session that has ended: whose it was, how it ended and where it looked, and the frames that it sent
pub record Run : Type 0 where
  pub user : List ℕ
  pub ended : Ended
  pub sent : List (List ℕ)

abbrev pub purpose_text : Purpose → List ℕ
purpose_text purpose.Feed = codes "feed"
purpose_text purpose.Bodies = codes "bodies"
purpose_text purpose.Push = codes "push"
purpose_text purpose.Ask = codes "ask"

abbrev pub look_line : Look → List ℕ
look_line look = codes "look " ++ decimal look.front ++ 32 ∷ purpose_text look.purpose ++ 10 ∷ []

abbrev pub send_line : List ℕ → List ℕ
send_line frame = codes "send " ++ hex_text frame ++ 10 ∷ []

abbrev pub end_text : End → List ℕ
end_text end.Closed = codes "closed"
end_text end.WireFault = codes "wirefault"
end_text (end.BadFrame index why) = codes "badframe " ++ decimal index
end_text end.LooksFull = codes "looksfull"
end_text end.TurnsFull = codes "turnsfull"
end_text end.Memory = codes "memory"

-- the first line of a session, with its number
abbrev pub title_line : ℕ → List ℕ → List ℕ
title_line number user = codes "session " ++ decimal number ++ 32 ∷ user ++ 10 ∷ []

-- the lines of a session behind the first: the looks, then the frames that were sent, then the end
abbrev pub ended_lines : Ended → List (List ℕ) → List ℕ
ended_lines ended sent =
    flat_map look_line ended.looks ++ flat_map send_line sent ++ codes "end " ++ end_text ended.end ++ 10 ∷ []

abbrev pub run_text : ℕ → Run → List ℕ
run_text number run = title_line number run.user ++ ended_lines run.ended run.sent

-- sessions from the one with this number on
abbrev pub runs_text : ℕ → List Run → List ℕ
runs_text number [] = []
runs_text number (run ∷ runs) = run_text number run ++ runs_text (number + 1) runs

-- ---- the whole

-- the script's lines are counted from 1, of which the first is its header; sessions are counted from 1
abbrev pub transcript : List Outcome → List Run → History → List ℕ
transcript outcomes runs h =
    codes "admin\n" ++ outcome_lines 2 outcomes ++ runs_text 1 runs ++ codes "journal\n" ++ journal_text h
