-- Callers that were served at the same time over one history.
use Rattle.std.specs.Prelude.{◌≡◌, ◌⊎◌, ◌≤◌, ◌+◌, ◌^◌, ◌-◌, ℕ, true, List, [], ◌++◌, length, map, reverse, Option, Some, None}
use Rattle.std.specs.Arc.{arc_value}
use Rattle.sg_lines.specs.Door.{DoorRecord}
use Rattle.sg_lines.specs.Line.{TraceRecord}
use Rattle.sg_history.specs.declared.entries.Entry.{Entry}
use Rattle.sg_history.specs.declared.entries.Entry.TheVariants as entry
use Rattle.sg_history.specs.declared.entries.Write.{Write}
use Rattle.sg_history.specs.Board.{BoardState}
use Rattle.sg_history.specs.Book.{book_of}
use Rattle.sg_history.specs.History.{Extends}
use Rattle.seq_gate.specs.Counts.{times, total}
use Rattle.seq_gate.specs.Passes.{owed_count}
use Rattle.gateway_config.specs.declared.config.Config.{Config}
use Rattle.doc_board.specs.JudgedWrites.{IsJudgedWrite}
use Rattle.gateway_server.specs.declared.stop.DoorEnd.{DoorEnd}
use Rattle.gateway_server.specs.declared.stop.DoorEnd.TheVariants as end
use Rattle.session_threads.specs.Opening.{IsOpening}
use Rattle.session_threads.specs.Pairs.{AllPairs}
use Rattle.session_server.specs.Callers.{IsTraceOf}

-- The history of the board, at which nothing waits, begins with the configuration's roles and users. Each trace is what is left of a
-- caller, which was served over it where it was let in. Past the opening it has what the callers' sessions stored, each once, and
-- nothing else but sequences that were given up; and all its writes were judged by the configuration's program.
pub record IsServedAll (config : Config) (board : BoardState) (traces : List (Option TraceRecord)) : Type 0 where
  pub pending : board.pending ≡ []
  pub rooms : board.rooms ≡ []
  pub opening : List Entry
  pub is_opening : IsOpening config.roles config.users opening
  pub begins : Extends opening board.log
  -- for each caller the numbers that its session stored
  pub stored : List (List ℕ)
  pub callers : AllPairs (IsTraceOf board config) traces stored
  pub once : (k : ℕ) → total (times k) stored ≡ owed_count (length opening) board k
  pub judged : (k : ℕ) (w : Write) → book_of board.log k ≡ Some (entry.Write w) → IsJudgedWrite (arc_value config.program) (book_of board.log) k w

-- most callers to whom draws of sequences are handed out
abbrev pub most_callers : ℕ
most_callers = 2 ^ 30 - 2

module _ {T : Type 0} where
  -- No opening is recorded. So many callers came more, and these traces came back, the last first: each one's, but for a last one's whose job
  -- was refused, since draws were short or memory was. Serving ended only where the door answered its end or so many callers came that draws are short.
  pub record ServesDoor (traced : T → Option TraceRecord) (config : Config) (before : DoorRecord T) (ending : DoorEnd) (after : DoorRecord T) : Type 0 where
    pub opened : after.opened ≡ before.opened
    pub came : List T
    pub traces : after.traces ≡ before.traces ++ reverse came
    pub refused : ℕ
    pub few : refused ≤ 1
    pub short : (refused ≡ 0) ⊎ ((most_callers ≤ length came) ⊎ (ending ≡ end.Memory))
    pub callers : after.callers ≡ before.callers + (length came + refused)
    pub ended : ending ≡ end.Ended → (after.ended ≡ true) ⊎ (most_callers ≤ length came)
    pub board : BoardState
    pub served : IsServedAll config board (map traced came)

  -- The same where the door records; out of memory before a caller came it is as it was.
  abbrev pub ServesIfRecorded : (T → Option TraceRecord) → Config → Option (DoorRecord T) → DoorEnd → Option (DoorRecord T) → Type 0
  ServesIfRecorded traced config None ending after = after ≡ None
  ServesIfRecorded traced config (Some before) ending after = ((after ≡ Some before) × (ending ≡ end.Memory)) ⊎ ((now : DoorRecord T) × (after ≡ Some now) × ServesDoor traced config before ending now)
