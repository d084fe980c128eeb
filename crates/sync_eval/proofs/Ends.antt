-- A run ends with the effects of its state, or with what stopped it.
use Rattle.std.proofs.Common.{◌≡◌, Ok, Err, IfOk, IfErr, ap, sym, subst}
use Rattle.sync_values.specs.Found.{Found, Gives}
use Rattle.sync_values.specs.Values.{found_then}
use Rattle.sync_meaning.specs.declared.completion.Completion.{Completion}
use Rattle.sync_meaning.specs.declared.effects.Effects.{Effects}
use Rattle.sync_meaning.specs.declared.state.State.{State}
use Rattle.sync_meaning.specs.Acts.{Does}
use Rattle.sync_meaning.specs.Meaning.{gathered}

pub finished : (outcome : Found (Completion × State)) (done : Found Completion) (state : State) (result : Found Effects) → Does outcome done state
    → IfOk done (λ _. result ≡ Ok state.effects) → IfErr done (λ stop. result ≡ Err stop) → Gives (found_then outcome gathered) result
finished outcome (Ok how) state result d ok stop = subst (λ r. Gives (found_then outcome gathered) r) (sym ok) (ap (λ x. found_then x gathered) d)
finished outcome (Err e) state result d ok stop = subst (λ r. Gives (found_then outcome gathered) r) (sym stop) (λ n. ap (λ x. found_then x gathered) (d n))
