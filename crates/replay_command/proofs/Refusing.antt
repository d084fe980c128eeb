-- how a file that was loaded whole is refused
use Rattle.std.proofs.Common.{◌≡◌, ◌≤◌, ℕ, zero, suc, List, Option, Err, refl, ap, subst, arith, inl, inr}
use Rattle.sg_history.specs.declared.fault.ReadLog.{ReadLog}
use Rattle.sg_history.specs.declared.fault.ReadLog.TheVariants as read
use Rattle.sg_history.specs.declared.fault.Why.{Why}
use Rattle.sg_history.specs.declared.fault.Why.TheVariants as whys
use Rattle.record_file.specs.declared.record.Recorded.{Recorded}
use Rattle.gateway_config.specs.declared.fault.ConfigFault.{ConfigFault}
use Rattle.gateway_config.specs.declared.fault.ConfigFault.TheVariants as config
use Rattle.command_line.specs.declared.status.Status.{Status}
use Rattle.command_line.specs.declared.status.Status.TheVariants as status
use Rattle.command_line.specs.Run.{HasFile}
use Rattle.replay_command.specs.Inputs.{IsBadFileAt, IsBadSession, IsGoodFile, IsSessionIn}
use Rattle.replay_command.specs.Loading.{IsConfigRead, IsRefused, IsScriptRead, IsSessionRead, config_status}
use Rattle.replay_command.proofs.Loading.{Refuses}

-- a file behind the second is a recorded session
pub good_session : (number : ℕ) (bytes : List ℕ) → 3 ≤ number → (recorded : Recorded) × IsSessionIn bytes recorded → IsGoodFile number bytes
good_session zero bytes high is = absurd (omega (arith, high))
good_session (suc zero) bytes high is = absurd (omega (arith, high))
good_session (suc (suc zero)) bytes high is = absurd (omega (arith, high))
good_session (suc (suc (suc n))) bytes high is = is

bad_session : (number : ℕ) (bytes : List ℕ) (place : ℕ) (why : Why) → 3 ≤ number → IsBadSession bytes place why → IsBadFileAt number bytes place why
bad_session zero bytes place why high is = absurd (omega (arith, high))
bad_session (suc zero) bytes place why high is = absurd (omega (arith, high))
bad_session (suc (suc zero)) bytes place why high is = absurd (omega (arith, high))
bad_session (suc (suc (suc n))) bytes place why high is = is

module _ (recorded : Option (List ℕ → Option (List ℕ))) where
  pub config_refuses : (name : List ℕ) (fault : ConfigFault) (s : Status) → s ≡ config_status fault → ((bytes : List ℕ) → HasFile recorded name bytes → IsConfigRead bytes (Err s)) → Refuses recorded IsGoodFile IsBadFileAt 1 name s
  config_refuses name (config.Bad path why) s is read = inr (0, whys.Config path why, is, λ bytes file. let bad = subst (λ (t : Status). IsConfigRead bytes (Err t)) is (read bytes file) in bad.0.1)
  config_refuses name config.Memory s is read = inl is

  pub script_refuses : (name : List ℕ) (fault : ReadLog) (s : Status) → IsRefused 2 fault s → ((bytes : List ℕ) → HasFile recorded name bytes → IsScriptRead bytes (Err s)) → Refuses recorded IsGoodFile IsBadFileAt 2 name s
  script_refuses name (read.Bad bad) (status.BadInput file place why) is r = inr (place, why, ap (λ (n : ℕ). status.BadInput n place why) is.0, λ bytes held. (r bytes held).0.1)
  script_refuses name read.Memory status.Memory is r = inl refl
  script_refuses name (read.Bad bad) status.Ok is r = absurd is
  script_refuses name (read.Bad bad) status.BadWords is r = absurd is
  script_refuses name (read.Bad bad) status.ReadFault is r = absurd is
  script_refuses name (read.Bad bad) status.WriteFault is r = absurd is
  script_refuses name (read.Bad bad) status.DoorFault is r = absurd is
  script_refuses name (read.Bad bad) status.Memory is r = absurd is
  script_refuses name read.Memory (status.BadInput file place why) is r = absurd is
  script_refuses name read.Memory status.Ok is r = absurd is
  script_refuses name read.Memory status.BadWords is r = absurd is
  script_refuses name read.Memory status.ReadFault is r = absurd is
  script_refuses name read.Memory status.WriteFault is r = absurd is
  script_refuses name read.Memory status.DoorFault is r = absurd is

  pub session_refuses : (number : ℕ) (name : List ℕ) (fault : ReadLog) (s : Status) → 3 ≤ number → IsRefused number fault s → ((bytes : List ℕ) → HasFile recorded name bytes → IsSessionRead number bytes (Err s)) → Refuses recorded IsGoodFile IsBadFileAt number name s
  session_refuses number name (read.Bad bad) (status.BadInput file place why) high is r =
      inr (place, why, ap (λ (n : ℕ). status.BadInput n place why) is.0, λ bytes held. bad_session number bytes place why high (r bytes held).0.1)
  session_refuses number name read.Memory status.Memory high is r = inl refl
  session_refuses number name (read.Bad bad) status.Ok high is r = absurd is
  session_refuses number name (read.Bad bad) status.BadWords high is r = absurd is
  session_refuses number name (read.Bad bad) status.ReadFault high is r = absurd is
  session_refuses number name (read.Bad bad) status.WriteFault high is r = absurd is
  session_refuses number name (read.Bad bad) status.DoorFault high is r = absurd is
  session_refuses number name (read.Bad bad) status.Memory high is r = absurd is
  session_refuses number name read.Memory (status.BadInput file place why) high is r = absurd is
  session_refuses number name read.Memory status.Ok high is r = absurd is
  session_refuses number name read.Memory status.BadWords high is r = absurd is
  session_refuses number name read.Memory status.ReadFault high is r = absurd is
  session_refuses number name read.Memory status.WriteFault high is r = absurd is
  session_refuses number name read.Memory status.DoorFault high is r = absurd is
