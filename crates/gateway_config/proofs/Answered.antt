-- what `read_config` answers
use Rattle.std.proofs.Common.{◌≡◌, ◌≢◌, ℕ, List, [], refl, sym, ap, ◌∙◌, subst, Option, Some, None}
use Rattle.std.specs.Prelude.{◌↔◌, IsOk, Result, Ok, Err}
use Rattle.serde_json.specs.Data.{Data}
use Rattle.sg_history.specs.declared.config_fault.ConfigWhy.TheVariants as why
use Rattle.gateway_config.specs.declared.config.Config.{Config}
use Rattle.gateway_config.specs.declared.fault.ConfigFault.{ConfigFault}
use Rattle.gateway_config.specs.declared.fault.ConfigFault.TheVariants.{Bad, Memory}
use Rattle.gateway_config.specs.Faults.{Fault, IsResultOf, NamesFault, config_fault, members_fault, object_fault, tree_fault}
use Rattle.gateway_config.specs.Members.{config_json}
use Rattle.gateway_config.specs.Values.{IsTextOf, SaysIn}

pub config_read : (bytes : List ℕ) (d : Data) (r : Result Config ConfigFault) → config_json bytes ≡ Some d
    → IsResultOf (object_fault [] why.NotObject (members_fault []) d) (λ config. SaysIn d config) r → IsResultOf (config_fault bytes) (λ config. IsTextOf bytes config) r
config_read bytes d (Ok c) is h =
    (ap (λ (o : Option Data). tree_fault o) is ∙ h.0, record { members = h.1.members; read = is ∙ ap Some h.1.is_object; says = h.1.says })
config_read bytes d (Err e) is h = subst (λ (f : Option Fault). NamesFault f e) (sym (ap (λ (o : Option Data). tree_fault o) is)) h

pub accepted_by : (f : Option Fault) (says : Config → Type 0) (r : Result Config ConfigFault) → IsResultOf f says r → r ≢ Err Memory → (IsOk r ↔ (f ≡ None))
accepted_by f says (Ok c) h other = ((λ _. h.0), (λ _. refl))
accepted_by f says (Err (Bad path why)) h other = ((λ k. cc (k)), (λ none. cc (none, h)))
accepted_by f says (Err Memory) h other = absurd (other refl)

pub refused_by : (f : Option Fault) (says : Config → Type 0) (r : Result Config ConfigFault) → IsResultOf f says r → (fault : Fault) → r ≢ Err Memory
    → ((r ≡ Err (Bad fault.path fault.why)) ↔ (f ≡ Some fault))
refused_by f says (Ok c) h fault other = ((λ e. cc (e)), (λ e. cc (h.0, e)))
refused_by f says (Err (Bad path why)) h fault other = (
  (λ e.
      let p : path ≡ fault.path = cc (e) in
      let w : why ≡ fault.why = cc (e) in
      h ∙ (λ i. Some (record { path = p i; why = w i }))),
  (λ e.
      let same : record { path = path; why = why } ≡ fault = cc (e, h) in
      ap (λ (x : Fault). Err (Bad x.path x.why)) same),
)
refused_by f says (Err Memory) h fault other = absurd (other refl)
