-- what is wrong with the fields behind the kind of a line
use Rattle.std.proofs.Common.{◌≡◌, ℕ, zero, suc, ◌+◌, List, [], ◌∷◌, map, refl, ◌∙◌, ap, arith, Some}
use Rattle.sg_history.specs.declared.fault.Why.TheVariants as reason
use Rattle.sg_history.specs.declared.fault.LineFault.{LineFault}
use Rattle.sg_history.specs.declared.fault.LineFault.TheVariants as line
use Rattle.sg_history.specs.Faults as journal
use Rattle.sg_history.specs.Faults.{Grammar, HasReason, IsBadTextAmong, IsBadField, IsText}
use Rattle.sg_history.specs.FieldFaults.{IsFirstUnfit}
use Rattle.sg_history.proofs.FaultLemmas.{fault_at}
use Rattle.principals.specs.Faults.{ScriptField, field, parent, IsScriptField, IsScriptFault, script_parts}

first_of_parts : (gs : List Grammar) (ts : List (List ℕ)) (n : ℕ) → journal.IsFirstBad gs ts n → IsFirstUnfit IsScriptField (map field gs) ts n
first_of_parts [] ts n bad = bad
first_of_parts (g ∷ gs) [] n bad = bad
first_of_parts (g ∷ gs) (t ∷ ts) zero bad = bad
first_of_parts (g ∷ gs) (t ∷ ts) (suc n) bad = (bad.0, first_of_parts gs ts n bad.1)

-- the fields of a revision's line after its kind
abbrev doc_parts : List ScriptField
doc_parts = field journal.document ∷ parent ∷ field journal.deleted ∷ field journal.body ∷ []

-- the document of a revision's line is outside its grammar
pub bad_doc : (kind : List ℕ) (ts : List (List ℕ)) (a b c d : List ℕ) (e : LineFault) → script_parts kind ≡ Some doc_parts → ts ≡ a ∷ b ∷ c ∷ d ∷ []
    → IsBadField 2 journal.document a e → HasReason (IsScriptFault (kind ∷ ts)) e
bad_doc kind ts a b c d (line.Bad why) known same bad = fault_at IsScriptField script_parts kind doc_parts ts (a ∷ b ∷ c ∷ d ∷ []) 0 why known same refl bad.0 bad.1
bad_doc kind ts a b c d line.Memory known same bad = tt

-- its parent is
pub bad_parent : (kind : List ℕ) (ts : List (List ℕ)) (a b c d : List ℕ) (e : LineFault) → script_parts kind ≡ Some doc_parts → ts ≡ a ∷ b ∷ c ∷ d ∷ []
    → IsText journal.document a → HasReason (λ why. (why ≡ reason.Field 3) × ¬ (IsScriptField parent b)) e → HasReason (IsScriptFault (kind ∷ ts)) e
bad_parent kind ts a b c d (line.Bad why) known same doc bad = fault_at IsScriptField script_parts kind doc_parts ts (a ∷ b ∷ c ∷ d ∷ []) 1 why known same refl bad.0 (doc, bad.1)
bad_parent kind ts a b c d line.Memory known same doc bad = tt

-- its mark or its body is
pub bad_content : (kind : List ℕ) (ts : List (List ℕ)) (a b c d : List ℕ) (e : LineFault) → script_parts kind ≡ Some doc_parts → ts ≡ a ∷ b ∷ c ∷ d ∷ []
    → IsText journal.document a → IsScriptField parent b → IsBadTextAmong 4 (journal.deleted ∷ journal.body ∷ []) (c ∷ d ∷ []) e → HasReason (IsScriptFault (kind ∷ ts)) e
bad_content kind ts a b c d (line.Bad why) known same doc its_parent bad =
    let place : 4 + bad.0 ≡ suc (suc bad.0) + 2 = omega arith in
    fault_at IsScriptField script_parts kind doc_parts ts (a ∷ b ∷ c ∷ d ∷ []) (suc (suc bad.0)) why known same refl (bad.1 ∙ ap reason.Field place)
    (doc, (its_parent, first_of_parts (journal.deleted ∷ journal.body ∷ []) (c ∷ d ∷ []) bad.0 bad.2))
bad_content kind ts a b c d line.Memory known same doc its_parent bad = tt
