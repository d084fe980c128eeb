-- the fault of a sync function's text
use Rattle.std.proofs.Common.{◌≡◌, ℕ, List, [], refl, sym, ap, ◌∙◌, subst, Bool, true, false, Option, Some, None}
use Rattle.std.specs.Prelude.{IsTrue, IsUtf8, Result, Ok}
use Rattle.std.specs.Str.{is_utf8}
use Rattle.std.proofs.lemmas.Str.{IsUtf8-from_is_utf8}
use Rattle.serde_json.specs.Data.{Data}
use Rattle.serde_json.specs.Read.{read}
use Rattle.sg_history.specs.declared.config_fault.ConfigWhy.{ConfigWhy}
use Rattle.sg_history.specs.declared.config_fault.ConfigWhy.TheVariants as why
use Rattle.sync_syntax.specs.declared.fault.ParseFault.{ParseFault}
use Rattle.sync_syntax.specs.declared.tree.Program.{Program}
use Rattle.sync_syntax.specs.Statements.{parsed}
use Rattle.sync_resolve.specs.Resolving.{faults}
use Rattle.gateway_config.specs.Faults.{config_fault, is_sound, no_faults}
use Rattle.gateway_config.specs.Members.{config_json}
use Rattle.config_check.specs.declared.function.FunctionFault.{FunctionFault}
use Rattle.config_check.specs.inner.Finding.{IsFoundIn}
use Rattle.config_check.specs.Verdict.{IsPlaced, IsRefusalOf, function_text}
use Rattle.config_check.proofs.Reasons.{unsound}

sound_of : (read : Result Program ParseFault) (p : Program) → read ≡ Ok p → faults p ≡ [] → is_sound read ≡ true
sound_of read p e none = ap (λ r. is_sound r) e ∙ ap (λ fs. no_faults fs) none

-- what was found in a configuration whose function is what is bad
placed : (bytes path : List ℕ) (found : Option FunctionFault) → config_fault bytes ≡ Some (record { path = path; why = why.Sync }) → IsFoundIn bytes found → IsPlaced bytes why.Sync found
placed bytes path None e h =
    let u = unsound bytes path e in
    let found = h u.0 u.1 in
    absurd (cc (u.2, sound_of (parsed (function_text u.0)) found.0 found.1 found.2))
placed bytes path (Some fault) e h =
    let u = unsound bytes path e in
    (u.0, u.1, h u.0 u.1)

-- the refusal of a configuration whose function is what is bad
pub refused_text : (bytes path : List ℕ) (w : ConfigWhy) (found : Option FunctionFault) → w ≡ why.Sync → config_fault bytes ≡ Some (record { path = path; why = w }) → IsFoundIn bytes found
    → IsRefusalOf bytes (record { path = path; why = w; function = found })
refused_text bytes path w found is e h =
    let P : ConfigWhy → Type 0 = λ x. config_fault bytes ≡ Some (record { path = path; why = x }) → IsPlaced bytes x found in
    record { first = e; placed = subst P (sym is) (λ other. placed bytes path found other h) e }

-- ---- what bytes are read as

unread_where : (bytes : List ℕ) (r : Bool) → is_utf8 bytes ≡ r → (IsUtf8 bytes → read bytes ≡ None) → config_json bytes ≡ None
unread_where bytes true e h = rw e (h (IsUtf8-from_is_utf8 bytes e))
unread_where bytes false e h = rw e refl

-- in what is no JSON there is nothing to be found
pub found_in_none : (bytes : List ℕ) (found : Option FunctionFault) → (IsUtf8 bytes → read bytes ≡ None) → IsFoundIn bytes found
found_in_none bytes found h = λ d is. absurd (cc (unread_where bytes (is_utf8 bytes) refl h, is))

pub never_true : IsTrue false → ⊥
never_true h = cc
