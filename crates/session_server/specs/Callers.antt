-- What is left of a caller: by what was read of its line, and what was answered to that.
use Rattle.std.specs.Prelude.{◌≡◌, ◌⊎◌, ℕ, List, [], ◌∷◌, Option, Some, None, Result, Ok, Err, not}
use Rattle.std.specs.Arc.{arc_value}
use Rattle.sg_outside.specs.declared.sink.Gave.TheVariants as gave
use Rattle.sg_outside.specs.declared.wire.Got.{Got}
use Rattle.sg_outside.specs.Sink.{Takes}
use Rattle.sg_outside.specs.Wire.{LinkRecord, Traffic}
use Rattle.sg_lines.specs.Line.{TraceRecord, new_socket}
use Rattle.sg_history.specs.Board.{BoardState}
use Rattle.gateway_config.specs.declared.config.Config.{Config}
use Rattle.ws_door.specs.declared.answer.Refused.{Refused}
use Rattle.ws_door.specs.declared.answer.Upgrade.{Upgrade}
use Rattle.ws_door.specs.declared.heads.HeadFault.{HeadFault}
use Rattle.ws_door.specs.Greetings.{answer_text, refusal_text}
use Rattle.ws_door.specs.Heads.{head_in}
use Rattle.ws_door.specs.Upgrades.{IsUpgradeAnswer}
use Rattle.session_run.specs.declared.ended.Ended.{Ended}
use Rattle.session_threads.specs.Played.{IsSessionOf}

-- the line gave no head, and took nothing
pub record GaveNoHead (line : LinkRecord) : Type 0 where
  pub fault : HeadFault
  pub read : head_in line.read ≡ Some (Err fault)
  pub taken : line.taken ≡ []

-- the line gave a head, and took what refuses it
pub record IsRefusedCaller (config : Config) (line : LinkRecord) : Type 0 where
  pub head : List ℕ
  pub why : Refused
  pub read : head_in line.read ≡ Some (Ok head)
  pub answer : IsUpgradeAnswer head config (Err why)
  pub taken : line.taken ≡ refusal_text why
  pub gave : line.gave ≡ gave.Done ∷ []

-- the line gave a head, and took a beginning of the answer to it: the write of that failed
pub record IsCut (config : Config) (line : LinkRecord) : Type 0 where
  pub head : List ℕ
  pub reply : Result Upgrade Refused
  pub read : head_in line.read ≡ Some (Ok head)
  pub answer : IsUpgradeAnswer head config reply
  pub taken : Takes [] (answer_text reply) gave.Failed line.taken
  pub gave : line.gave ≡ gave.Failed ∷ []

-- the line gave a head, and took the upgrade that is the answer to it
pub record IsUpgraded (config : Config) (line : LinkRecord) (upgrade : Upgrade) : Type 0 where
  pub head : List ℕ
  pub read : head_in line.read ≡ Some (Ok head)
  pub answer : IsUpgradeAnswer head config (Ok upgrade)
  pub taken : line.taken ≡ upgrade.reply
  pub gave : line.gave ≡ gave.Done ∷ []

-- memory ran out: the line took nothing, or a whole upgrade
abbrev pub IsGivenUp : Config → LinkRecord → Type 0
IsGivenUp config line = (line.taken ≡ []) ⊎ ((upgrade : Upgrade) × IsUpgraded config line upgrade)

-- a caller whose line has no socket
abbrev pub HasNoSession : Config → LinkRecord → Type 0
HasNoSession config line = GaveNoHead line ⊎ (IsRefusedCaller config line ⊎ (IsCut config line ⊎ IsGivenUp config line))

-- a caller whose line took the upgrade and has a socket, over which a session of the head's user, in the head's version, was served over
-- the board; these are the numbers that it stored
pub record HasSession (board : BoardState) (config : Config) (line : LinkRecord) (traffic : Traffic) (stored : List ℕ) : Type 0 where
  pub upgrade : Upgrade
  pub upgraded : IsUpgraded config line upgrade
  -- what its socket was to receive
  pub coming : List Got
  pub before : ℕ
  pub ended : Ended
  pub after : ℕ
  pub session : IsSessionOf board (arc_value config.program) (not config.conflicts)
      (record { user = upgrade.user; version = upgrade.version; traffic = Some (new_socket line coming); faults = before })
      (record { ended = ended; traffic = Some traffic; faults = after })
  pub stored_are : ended.stored ≡ stored

-- by whether the line has a socket
abbrev pub IsLeftOf : BoardState → Config → LinkRecord → Option Traffic → List ℕ → Type 0
IsLeftOf board config line None stored = HasNoSession config line × (stored ≡ [])
IsLeftOf board config line (Some traffic) stored = HasSession board config line traffic stored

-- a trace, of which nothing is hidden, is what is left of a caller
abbrev pub IsTraceOf : BoardState → Config → Option TraceRecord → List ℕ → Type 0
IsTraceOf board config None stored = ⊥
IsTraceOf board config (Some t) stored = IsLeftOf board config t.line t.socket stored
