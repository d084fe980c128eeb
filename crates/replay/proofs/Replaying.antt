-- what was played of recorded sessions, as a replay
use Rattle.std.proofs.Common.{◌≡◌, ◌∙◌, ℕ, Bool, List, [], ◌∷◌, length, map, Option, Some, None, refl, sym, ap, subst, arith}
use Rattle.std.proofs.lemmas.List.{length-map}
use Rattle.sg_outside.specs.Wire.{Traffic}
use Rattle.sg_history.specs.History.{History}
use Rattle.sg_history.specs.Board.{BoardState}
use Rattle.principals.specs.declared.admin_line.AdminLine.{AdminLine}
use Rattle.record_file.specs.declared.record.Recorded.{Recorded}
use Rattle.gateway_config.specs.declared.config.Config.{Config}
use Rattle.sync_syntax.specs.declared.tree.Program.{Program}
use Rattle.session_run.specs.declared.ended.End.TheVariants.{WireFault}
use Rattle.session_run.specs.declared.ended.Ended.{Ended}
use Rattle.session_threads.specs.declared.played.LineOutcome.{LineOutcome}
use Rattle.session_threads.specs.Pairs.{AllOf, AllPairs}
use Rattle.session_threads.specs.Played.{Device, IsPlayed, IsSessionOf, Leaves}
use Rattle.session_threads.proofs.Pairs.{as_long}
use Rattle.transcripts.specs.Transcript.{transcript}
use Rattle.replay.specs.Replay.{AreRunsOf, IsReplay, device_of}
use Rattle.replay.specs.Runs.{outcome_of, runs_of}

-- sessions that have ended, whose wires record what they sent, and do not fail
module _ {E : Type 0} (ended_of : E → Ended) (traffic_of : E → Option Traffic) (sent_of : E → List (List ℕ)) (records_it : (e : E) → (after : Traffic) × (traffic_of e ≡ Some after) × (sent_of e ≡ after.sent)) where
  abbrev pub left_of : E → Leaves
  left_of e = record { ended = ended_of e; traffic = traffic_of e; faults = 0 }

  none_failed : (board : BoardState) (program : Program) (strict : Bool) (records : List Recorded) (es : List E) → AllPairs (IsSessionOf board program strict) (map device_of records) (map left_of es)
      → AllOf (λ (one : Leaves). one.ended.end ≡ WireFault → ⊥) (map left_of es)
  none_failed board program strict [] [] all = tt
  none_failed board program strict (r ∷ records) (e ∷ es) all = ((λ is. let fault = all.0.fault is in omega (arith, fault)), none_failed board program strict records es all.1)
  none_failed board program strict [] (e ∷ es) all = absurd all
  none_failed board program strict (r ∷ records) [] all = absurd all

  are_runs : (board : BoardState) (program : Program) (strict : Bool) (records : List Recorded) (es : List E) → AllPairs (IsSessionOf board program strict) (map device_of records) (map left_of es)
      → AreRunsOf records (map left_of es) (runs_of ended_of sent_of (map (λ (r : Recorded). r.user) records) es)
  are_runs board program strict [] [] all = tt
  are_runs board program strict (r ∷ records) (e ∷ es) all = (
    record { user = refl; ended = refl; after = (records_it e).0; traffic = (records_it e).1; sent = (records_it e).2 },
    are_runs board program strict records es all.1,
  )
  are_runs board program strict [] (e ∷ es) all = absurd all
  are_runs board program strict (r ∷ records) [] all = absurd all

  pub is_replay : (config : Config) (lines : List AdminLine) (records : List Recorded) (devices : List Device) (users : List (List ℕ)) (es : List E) (board : BoardState) (outcomes : List LineOutcome) (h : History) (text : List ℕ)
      → devices ≡ map device_of records → users ≡ map (λ (r : Recorded). r.user) records → IsPlayed config lines devices board outcomes (map left_of es)
      → h.limit ≡ None → h.entries ≡ board.log → text ≡ transcript (map outcome_of outcomes) (runs_of ended_of sent_of users es) h
      → IsReplay config lines records text
  is_replay config lines records devices users es board outcomes h text are whose given limit log printed =
      let is : IsPlayed config lines (map device_of records) board outcomes (map left_of es) = subst (λ (ds : List Device). IsPlayed config lines ds board outcomes (map left_of es)) are given in record {
        board = board;
        outcomes = outcomes;
        left = map left_of es;
        played = is;
        faultless = none_failed board _ _ records es is.sessions;
        runs = runs_of ended_of sent_of (map (λ (r : Recorded). r.user) records) es;
        are_runs = are_runs board _ _ records es is.sessions;
        history = h;
        limit = limit;
        log = log;
        printed = printed ∙ ap (λ (us : List (List ℕ)). transcript (map outcome_of outcomes) (runs_of ended_of sent_of us es) h) whose;
      }

  -- as many have ended as were given
  pub as_many : (config : Config) (lines : List AdminLine) (devices : List Device) (es : List E) (board : BoardState) (outcomes : List LineOutcome) → IsPlayed config lines devices board outcomes (map left_of es) → length devices ≡ length es
  as_many config lines devices es board outcomes is = sym (sym (length-map es left_of) ∙ as_long (IsSessionOf board _ _) devices (map left_of es) is.sessions)
