-- what bytes are read as
use Rattle.std.proofs.Common.{◌≡◌, ℕ, List, [], Bool, true, false, refl, sym, ap, subst, Option, Some, None}
use Rattle.std.specs.Prelude.{IsTrue, IsUtf8}
use Rattle.std.specs.Str.{is_utf8}
use Rattle.std.proofs.lemmas.Str.{is_utf8-from_IsUtf8, IsUtf8-from_is_utf8}
use Rattle.serde_json.specs.Data.{Data}
use Rattle.serde_json.specs.Read.{read}
use Rattle.sg_history.specs.declared.config_fault.ConfigWhy.TheVariants as why
use Rattle.gateway_config.specs.declared.fault.ConfigFault.{ConfigFault}
use Rattle.gateway_config.specs.Faults.{Fault, NamesFault, config_fault, tree_fault}
use Rattle.gateway_config.specs.Members.{config_json}

pub json-read : (bytes : List ℕ) (d : Data) → IsUtf8 bytes → read bytes ≡ Some d → config_json bytes ≡ Some d
json-read bytes d h e = rw (is_utf8-from_IsUtf8 bytes h) e

json-where : (bytes : List ℕ) (r : Bool) → is_utf8 bytes ≡ r → (IsUtf8 bytes → read bytes ≡ None) → config_json bytes ≡ None
json-where bytes true e h = rw e (h (IsUtf8-from_is_utf8 bytes e))
json-where bytes false e h = rw e refl

json-unread : (bytes : List ℕ) → (IsUtf8 bytes → read bytes ≡ None) → config_json bytes ≡ None
json-unread bytes h = json-where bytes (is_utf8 bytes) refl h

-- what is no JSON is refused as such
pub unread-named : (bytes : List ℕ) (e : ConfigFault) → (IsUtf8 bytes → read bytes ≡ None) → NamesFault (Some (record { path = []; why = why.NotJson })) e → NamesFault (config_fault bytes) e
unread-named bytes e h named = subst (λ (f : Option Fault). NamesFault f e) (sym (ap (λ (o : Option Data). tree_fault o) (json-unread bytes h))) named

pub never_true : IsTrue false → ⊥
never_true h = cc
