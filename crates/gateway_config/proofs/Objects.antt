-- values that are objects, as the readers of their members see them
use Rattle.std.proofs.Common.{◌≡◌, ℕ, Bool, List, [], codes, sym, ap, ◌∙◌, subst, Option, Some}
use Rattle.std.specs.Prelude.{Result, Ok, Err}
use Rattle.serde_json.specs.Data.{Data, null, boolean, number, string, array, object, Members}
use Rattle.serde_json.specs.Find.{as_object}
use Rattle.sg_history.specs.declared.config_fault.ConfigWhy.TheVariants as why
use Rattle.gateway_config.specs.declared.config.Config.{Config}
use Rattle.gateway_config.specs.declared.config.ConfigRole.{ConfigRole}
use Rattle.gateway_config.specs.declared.config.ConfigUser.{ConfigUser}
use Rattle.gateway_config.specs.declared.fault.ConfigFault.{ConfigFault}
use Rattle.gateway_config.specs.Faults.{Fault, IsResultOf, NamesFault, item_path, members_fault, object_fault, role_object_fault, user_object_fault}
use Rattle.gateway_config.specs.inner.Objects.{role_fault, user_fault}
use Rattle.gateway_config.specs.Values.{Says, SaysIn, role_in, role_of, user_in, user_of}

pub role_read : (place : ℕ) (had : List ℕ → Bool) (d : Data) (ms : Members) (path : List ℕ) (r : Result ConfigRole ConfigFault) → Some ms ≡ as_object d → path ≡ item_path (codes "roles") place
    → IsResultOf (role_object_fault path had ms) (λ role. role ≡ role_of ms) r → IsResultOf (role_fault place had d) (λ role. role ≡ role_in d) r
role_read place had d ms path r is here h = rw (sym is) (subst (λ (p : List ℕ). IsResultOf (role_object_fault p had ms) (λ role. role ≡ role_of ms) r) here h)

pub user_read : (place : ℕ) (had held : List ℕ → Bool) (d : Data) (ms : Members) (path : List ℕ) (r : Result ConfigUser ConfigFault) → Some ms ≡ as_object d → path ≡ item_path (codes "users") place
    → IsResultOf (user_object_fault path had held ms) (λ user. user ≡ user_of ms) r → IsResultOf (user_fault place had held d) (λ user. user ≡ user_in d) r
user_read place had held d ms path r is here h = rw (sym is) (subst (λ (p : List ℕ). IsResultOf (user_object_fault p had held ms) (λ user. user ≡ user_of ms) r) here h)

object_with : (d : Data) (ms : Members) → Some ms ≡ as_object d → d ≡ object ms
object_with null ms e = cc
object_with (boolean b) ms e = cc
object_with (number n) ms e = cc
object_with (string s) ms e = cc
object_with (array ds) ms e = cc
object_with (object ns) ms e = cc

whole_fault : (d : Data) (ms : Members) (path : List ℕ) → Some ms ≡ as_object d → path ≡ [] → members_fault path ms ≡ object_fault [] why.NotObject (members_fault []) d
whole_fault d ms path is here = rw (sym is) (ap (λ (p : List ℕ). members_fault p ms) here)

pub whole_read : (d : Data) (ms : Members) (path : List ℕ) (r : Result Config ConfigFault) → Some ms ≡ as_object d → path ≡ [] → IsResultOf (members_fault path ms) (λ config. Says ms config) r
    → IsResultOf (object_fault [] why.NotObject (members_fault []) d) (λ config. SaysIn d config) r
whole_read d ms path (Ok c) is here h = (sym (whole_fault d ms path is here) ∙ h.0, record { members = ms; is_object = object_with d ms is; says = h.1 })
whole_read d ms path (Err e) is here h = subst (λ (f : Option Fault). NamesFault f e) (whole_fault d ms path is here) h
