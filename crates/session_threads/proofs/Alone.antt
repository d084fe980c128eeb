-- boards that nobody else has
use Rattle.std.proofs.Common.{◌≡◌, ℕ, [], refl, subst}
use Rattle.sg_history.specs.declared.entries.Entry.{Entry}
use Rattle.sg_history.specs.Board.{BoardState}
use Rattle.doc_board.specs.declared.outcome.Outcome.{Outcome}
use Rattle.doc_board.specs.declared.outcome.Outcome.TheVariants as outcome
use Rattle.doc_board.specs.Boards.{board_of}
use Rattle.doc_board.specs.Outcomes.{IsByLimits}
use Rattle.doc_board.specs.State.{State}
use Rattle.board_steps.specs.After.{IsBoardCommanded}
use Rattle.session_threads.specs.Opened.{alone}

-- a board without its checkpoints, of which limits and outcomes say nothing
abbrev pub without_checkpoints : State → State
without_checkpoints s = record { log = s.log; pending = s.pending; rooms = s.rooms; checkpoints = []; known = 0; reads = 0 }

pub board_alone : (s : State) → s.pending ≡ [] → s.rooms ≡ [] → board_of (without_checkpoints s) ≡ board_of (alone s.log)
board_alone s idle none = λ i. board_of (record { log = s.log; pending = idle i; rooms = none i; checkpoints = []; known = 0; reads = 0 })

limits_without : (s : State) (bytes : ℕ) (answer : Outcome) → IsByLimits bytes (board_of s) answer → IsByLimits bytes (board_of (without_checkpoints s)) answer
limits_without s bytes (outcome.Bad400 field) is = is
limits_without s bytes (outcome.TooLarge413 size) is = is
limits_without s bytes (outcome.UserGone401 at) is = is
limits_without s bytes (outcome.Known at) is = is
limits_without s bytes (outcome.BadHistory400 at) is = is
limits_without s bytes (outcome.Conflict409 at leaf) is = is
limits_without s bytes (outcome.Denied403 at rule) is = is
limits_without s bytes (outcome.Stored sequence at) is = is
limits_without s bytes (outcome.Full503 at places) is = is
limits_without s bytes (outcome.LogFull509 at entries sum) is = is
limits_without s bytes outcome.Memory507 is = is

pub limits_alone : (s : State) → s.pending ≡ [] → s.rooms ≡ [] → (bytes : ℕ) (answer : Outcome) → IsByLimits bytes (board_of s) answer → IsByLimits bytes (board_of (alone s.log)) answer
limits_alone s idle none bytes answer is = subst (λ (b : BoardState). IsByLimits bytes b answer) (board_alone s idle none) (limits_without s bytes answer is)

pub commanded_alone : (s t : State) (e : Entry) (answer : Outcome) → IsBoardCommanded s t e answer → IsBoardCommanded (alone s.log) (alone t.log) e answer
commanded_alone s t e (outcome.Stored sequence at) left = record { next = left.next; front = left.front; log = left.log; pending = refl; rooms = refl; checkpoints = refl }
commanded_alone s t e (outcome.Full503 at places) left = (record { log = left.0.log; pending = refl; rooms = refl; checkpoints = refl }, left.1)
commanded_alone s t e (outcome.LogFull509 at entries bytes) left = (record { log = left.0.log; pending = refl; rooms = refl; checkpoints = refl }, left.1)
commanded_alone s t e outcome.Memory507 left = record { log = left.log; pending = refl; rooms = refl; checkpoints = refl }
commanded_alone s t e (outcome.Bad400 field) left = absurd left
commanded_alone s t e (outcome.TooLarge413 bytes) left = absurd left
commanded_alone s t e (outcome.UserGone401 at) left = absurd left
commanded_alone s t e (outcome.Known at) left = absurd left
commanded_alone s t e (outcome.BadHistory400 at) left = absurd left
commanded_alone s t e (outcome.Conflict409 at leaf) left = absurd left
commanded_alone s t e (outcome.Denied403 at rule) left = absurd left
