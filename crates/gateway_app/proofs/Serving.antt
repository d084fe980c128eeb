-- how the parts of a run of `serve` make the whole
use Rattle.std.proofs.Common.{◌≡◌, ◌⊎◌, ℕ, List, Option, Some, None, Err, refl, sym, subst, arith, inl, inr}
use Rattle.command_line.specs.declared.status.Status.{Status}
use Rattle.command_line.specs.declared.status.Status.TheVariants as status
use Rattle.command_line.specs.Run.{Counted, EndsLoaded}
use Rattle.gateway_config.specs.declared.config.Config.{Config}
use Rattle.sg_outside.specs.declared.sink.Gave.{Gave}
use Rattle.sg_outside.specs.declared.sink.Gave.TheVariants as gave
use Rattle.sg_lines.specs.Door.{DoorRecord, OpensIfRecorded}
use Rattle.sg_lines.specs.Line.{TraceRecord}
use Rattle.replay_command.specs.Inputs.{IsConfigIn}
use Rattle.replay_command.specs.Loading.{IsConfigRead}
use Rattle.gateway_server.specs.declared.stop.DoorEnd.{DoorEnd}
use Rattle.gateway_server.specs.declared.stop.DoorEnd.TheVariants as end
use Rattle.session_server.specs.Served.{ServesIfRecorded}
use Rattle.gateway_app.specs.Serves.{CountedAll, EndsServe, EndsServing, OpensAndServes, status_of}

-- without a door
pub counted_all : (s : Status) (read read' wrote wrote' door : ℕ) → Counted s read read' wrote wrote' → CountedAll s read read' wrote wrote' door door
counted_all status.Ok read read' wrote wrote' door is = tt
counted_all status.BadWords read read' wrote wrote' door is = tt
counted_all (status.BadInput file place why) read read' wrote wrote' door is = tt
counted_all status.ReadFault read read' wrote wrote' door is = is
counted_all status.WriteFault read read' wrote wrote' door is = is
counted_all status.DoorFault read read' wrote wrote' door is = absurd is
counted_all status.Memory read read' wrote wrote' door is = tt

-- whatever was counted of files and the sink, where those had no fault
pub counted_door : (s : Status) (read read' wrote wrote' door door' : ℕ) → CountedAll s 0 0 0 0 door door' → CountedAll s read read' wrote wrote' door door'
counted_door status.Ok read read' wrote wrote' door door' is = tt
counted_door status.BadWords read read' wrote wrote' door door' is = tt
counted_door (status.BadInput file place why) read read' wrote wrote' door door' is = tt
counted_door status.ReadFault read read' wrote wrote' door door' is = absurd (omega (arith, is))
counted_door status.WriteFault read read' wrote wrote' door door' is = absurd (omega (arith, is))
counted_door status.DoorFault read read' wrote wrote' door door' is = is
counted_door status.Memory read read' wrote wrote' door door' is = tt

-- serving ended in one of three ways
pub status_is : (ending : DoorEnd) (s : Status) → s ≡ status_of ending → EndsServing s
status_is end.Ended s is = inl is
status_is end.Failed s is = inr (inl is)
status_is end.Memory s is = inr (inr is)

module _ {T : Type 0} (traced : T → Option TraceRecord) where
  -- a door that was opened, and whose callers were served
  pub opened_served : (config : Config) (before after between : Option (DoorRecord T)) (s : Status) → OpensIfRecorded before config.bind config.accepts gave.Done between
      → ((ending : DoorEnd) × (s ≡ status_of ending) × ServesIfRecorded traced config between ending after) → OpensAndServes traced config before s after
  opened_served config None after between s opens (ending, is, served) = subst (λ (o : Option (DoorRecord T)). ServesIfRecorded traced config o ending after) opens served
  opened_served config (Some before) after between s opens (ending, is, served) = inr (ending, is, subst (λ (o : Option (DoorRecord T)). ServesIfRecorded traced config o ending after) opens served)

  -- a door that was not opened
  pub not_opened : (config : Config) (before after : Option (DoorRecord T)) (s : Status) → after ≡ before → (s ≡ status.DoorFault) ⊎ (s ≡ status.Memory) → OpensAndServes traced config before s after
  not_opened config None after s same is = same
  not_opened config (Some before) after s same is = inl (same, is)

  -- the record of a door whose opening did not succeed
  pub as_it_was : (before after : Option (DoorRecord T)) (bind : List ℕ) (accepts : ℕ) (answer : Gave) → (answer ≡ gave.Failed) ⊎ (answer ≡ gave.Memory) → OpensIfRecorded before bind accepts answer after → after ≡ before
  as_it_was None after bind accepts answer is opens = opens
  as_it_was (Some before) after bind accepts gave.Done (inl is) opens = absurd cc
  as_it_was (Some before) after bind accepts gave.Done (inr is) opens = absurd cc
  as_it_was (Some before) after bind accepts gave.Failed is opens = opens
  as_it_was (Some before) after bind accepts gave.Memory is opens = opens

  -- the configuration of the file was served
  pub served_file : (config : Config) (bytes : List ℕ) (before after : Option (DoorRecord T)) (s : Status) → IsConfigIn bytes config → EndsServing s → OpensAndServes traced config before s after → EndsServe traced s bytes before after
  served_file config bytes before after s good (inl is) served =
      subst (λ (t : Status). OpensAndServes traced config before t after → EndsServe traced t bytes before after) (sym is) (λ x. (config, good, x)) served
  served_file config bytes before after s good (inr (inl is)) served =
      subst (λ (t : Status). OpensAndServes traced config before t after → EndsServe traced t bytes before after) (sym is) (λ x. (config, good, x)) served
  served_file config bytes before after s good (inr (inr is)) served =
      subst (λ (t : Status). OpensAndServes traced config before t after → EndsServe traced t bytes before after) (sym is) (λ x. inr (config, good, x)) served

  -- the configuration's file was not read
  pub unread : (bytes : List ℕ) (before : Option (DoorRecord T)) (s : Status) → IsConfigRead bytes (Err s) → EndsServe traced s bytes before before
  unread bytes before status.Ok is = absurd is
  unread bytes before status.BadWords is = is
  unread bytes before (status.BadInput file place why) is = (is.0.0, is.0.1, is.1, refl)
  unread bytes before status.ReadFault is = refl
  unread bytes before status.WriteFault is = is
  unread bytes before status.DoorFault is = absurd is
  unread bytes before status.Memory is = inl refl

-- a fault of files, and a door that was not touched
pub counted_read : (s : Status) (read read' door : ℕ) → EndsLoaded {X = Config} (Err s) read read' → CountedAll s read read' 0 0 door door
counted_read status.Ok read read' door is = tt
counted_read status.BadWords read read' door is = tt
counted_read (status.BadInput file place why) read read' door is = tt
counted_read status.ReadFault read read' door is = is
counted_read status.WriteFault read read' door is = absurd is
counted_read status.DoorFault read read' door is = absurd is
counted_read status.Memory read read' door is = tt
