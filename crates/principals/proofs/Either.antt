-- a text is a script, or it has a first bad line
use Rattle.std.proofs.Common.{◌≡◌, ◌≢◌, ◌⊎◌, ℕ, Bool, true, false, List, [], ◌∷◌, refl, sym, ap, ◌∙◌, subst, inl, inr, Option, Some, None, codes, IsUtf8}
use Rattle.std.specs.Prelude.{nat_lt, if◌then◌else◌}
use Rattle.std.specs.Str.{bytes_eq}
use Rattle.std.specs.Cmp.Lexicographic.{bytes_decides}
use Rattle.std.proofs.lemmas.Bool.{and_parts, and_from, cases_Bool, false≢true}
use Rattle.sg_names.proofs.ItemTexts.{rev_has_one_text}
use Rattle.sg_names.specs.Channels.{channels_text}
use Rattle.sg_names.specs.RevId.{is_rev, rev_text}
use Rattle.sg_names.specs.declared.rev_id.RevId.{RevId}
use Rattle.sg_history.specs.declared.fault.BadLine.{BadLine}
use Rattle.sg_history.specs.declared.fault.Why.{Why}
use Rattle.sg_history.specs.Faults as journal
use Rattle.sg_history.specs.FieldFaults.{AreFit, FitAll, FitKind}
use Rattle.sg_history.specs.Files.{IsDecided}
use Rattle.sg_history.specs.Journal.{deleted_text}
use Rattle.sg_history.specs.Pieces.{pieces}
use Rattle.sg_history.proofs.DecidedTexts.{Decided, IsItem, hex_of, rev_item, same_text, text_decided, with_utf8}
use Rattle.sg_history.proofs.FaultLemmas.{fields_decided}
use Rattle.sg_history.proofs.FileLaws.{file_either}
use Rattle.sg_history.proofs.WriteFields.{body_read}
use Rattle.principals.specs.declared.command.Command.TheVariants as command
use Rattle.principals.specs.declared.admin_line.AdminLine.{AdminLine}
use Rattle.principals.specs.declared.admin_line.AdminLine.TheVariants as line
use Rattle.principals.specs.Script.{IsScriptLine, SpellsScript, script_fields, may_be_parent, script_line, script_parent, title}
use Rattle.principals.specs.Faults.{ScriptField, field, parent, IsBadScript, IsScriptFault, IsScriptField, script_parts, script_lines}
use Rattle.principals.proofs.Scripts.{spelled_file}
use Rattle.principals.proofs.Texts.{line_is, parent_rev}

-- the fields that follow each kind
abbrev user_parts : List ScriptField
user_parts = field journal.name ∷ field journal.channels ∷ field journal.names ∷ []

abbrev role_parts : List ScriptField
role_parts = field journal.name ∷ field journal.channels ∷ []

abbrev drop_parts : List ScriptField
drop_parts = field journal.name ∷ []

abbrev doc_parts : List ScriptField
doc_parts = field journal.document ∷ parent ∷ field journal.deleted ∷ field journal.body ∷ []

-- a revision's parent
abbrev Parent : List ℕ → Type 0
Parent text = (v : Option RevId) × (may_be_parent v ≡ true) × (text ≡ script_parent v)

parent_under : (text : List ℕ) → text ≢ codes "-" → Decided (IsItem rev_text is_rev text) → Decided (Parent text)
parent_under text other (inr none) = inr (λ h. no_rev h.0 h.1 h.2)
  where
    no_rev : (v : Option RevId) → may_be_parent v ≡ true → text ≢ script_parent v
    no_rev None is e = other e
    no_rev (Some rev) is e = none (record { item = rev; admitted = parent_rev rev is; spelled = e })
parent_under text other (inl found) = elim (cases_Bool (nat_lt found.item.generation 4294967295)) [
  | inl low ↦ inl (Some found.item, and_from (is_rev found.item) (nat_lt found.item.generation 4294967295) found.admitted low, found.spelled)
  | inr late ↦ inr (λ h. no_rev h.0 h.1 h.2 late)
]
  where
    no_rev : (v : Option RevId) → may_be_parent v ≡ true → text ≡ script_parent v → nat_lt found.item.generation 4294967295 ≡ false → ⊥
    no_rev None is e late = other e
    no_rev (Some rev) is e late =
        let same = rev_has_one_text found.item rev found.admitted (parent_rev rev is) (sym found.spelled ∙ e) in
        false≢true (sym late ∙ ap (λ (r : RevId). nat_lt r.generation 4294967295) same ∙ (and_parts (is_rev rev) (nat_lt rev.generation 4294967295) is).1)

parent_of : (text : List ℕ) → Decided (Parent text)
parent_of text = elim (same_text text (codes "-")) [
  | inl dash ↦ inl (None, refl, dash)
  | inr other ↦ parent_under text other (rev_item text)
]

part_decided : (part : ScriptField) (text : List ℕ) → IsScriptField part text ⊎ ¬ (IsScriptField part text)
part_decided (field grammar) text = text_decided grammar text
part_decided parent text = with_utf8 (λ v. may_be_parent v ≡ true) (λ v. text ≡ script_parent v) text (parent_of text)

-- the line of fields in their grammars
abbrev Makes : List (List ℕ) → Type 0
Makes fields = (l : AdminLine) × IsScriptLine l × (fields ≡ script_fields l)

user_line : (texts : List (List ℕ)) → FitAll IsScriptField user_parts texts → Makes (codes "user" ∷ texts)
user_line [] h = absurd h
user_line (a ∷ []) h = absurd h.1
user_line (a ∷ b ∷ []) h = absurd h.1.1
user_line (a ∷ b ∷ c ∷ []) h =
    let v = h.1.0 in
    let w = h.1.1.0 in (
      line.Command (command.PutUser a v.1 w.1),
      record { name = (h.0.1, h.0.0); channels = (v.2, subst IsUtf8 v.3 v.0); roles = (w.2, subst IsUtf8 w.3 w.0) },
      ap (λ (x : List ℕ). codes "user" ∷ a ∷ x ∷ c ∷ []) v.3 ∙ ap (λ (x : List ℕ). codes "user" ∷ a ∷ channels_text v.1 ∷ x ∷ []) w.3,
    )
user_line (a ∷ b ∷ c ∷ d ∷ more) h = absurd h.1.1.1

role_line : (texts : List (List ℕ)) → FitAll IsScriptField role_parts texts → Makes (codes "role" ∷ texts)
role_line [] h = absurd h
role_line (a ∷ []) h = absurd h.1
role_line (a ∷ b ∷ []) h =
    let v = h.1.0 in (
      line.Command (command.PutRole a v.1),
      record { name = (h.0.1, h.0.0); channels = (v.2, subst IsUtf8 v.3 v.0) },
      ap (λ (x : List ℕ). codes "role" ∷ a ∷ x ∷ []) v.3,
    )
role_line (a ∷ b ∷ c ∷ more) h = absurd h.1.1

drop_user_line : (texts : List (List ℕ)) → FitAll IsScriptField drop_parts texts → Makes (codes "dropuser" ∷ texts)
drop_user_line [] h = absurd h
drop_user_line (a ∷ []) h = (line.Command (command.DropUser a), (h.0.1, h.0.0), refl)
drop_user_line (a ∷ b ∷ more) h = absurd h.1

drop_role_line : (texts : List (List ℕ)) → FitAll IsScriptField drop_parts texts → Makes (codes "droprole" ∷ texts)
drop_role_line [] h = absurd h
drop_role_line (a ∷ []) h = (line.Command (command.DropRole a), (h.0.1, h.0.0), refl)
drop_role_line (a ∷ b ∷ more) h = absurd h.1

doc_line : (texts : List (List ℕ)) → FitAll IsScriptField doc_parts texts → Makes (codes "doc" ∷ texts)
doc_line [] h = absurd h
doc_line (a ∷ []) h = absurd h.1
doc_line (a ∷ b ∷ []) h = absurd h.1.1
doc_line (a ∷ b ∷ c ∷ []) h = absurd h.1.1.1
doc_line (a ∷ b ∷ c ∷ d ∷ []) h =
    let p = h.1.0 in
    let m = h.1.1.0 in
    let body = hex_of d h.1.1.1.0 in (
      line.Doc a p.1 m.0 body.0,
      record { doc = (h.0.1, h.0.0); parent = (p.2, subst IsUtf8 p.3 p.0); body = body_read d body.0 body.1 h.1.1.1.0 },
      ap (λ (x : List ℕ). codes "doc" ∷ a ∷ x ∷ c ∷ d ∷ []) p.3
          ∙ ap (λ (x : List ℕ). codes "doc" ∷ a ∷ script_parent p.1 ∷ x ∷ d ∷ []) m.1
          ∙ ap (λ (x : List ℕ). codes "doc" ∷ a ∷ script_parent p.1 ∷ deleted_text m.0 ∷ x ∷ []) body.1,
    )
doc_line (a ∷ b ∷ c ∷ d ∷ e ∷ more) h = absurd h.1.1.1.1

-- the fields under a kind in their grammars
abbrev Under : List ℕ → List (List ℕ) → Option (List ScriptField) → Type 0
Under kind texts parts = FitKind IsScriptField parts texts → Makes (kind ∷ texts)

known : (kind literal : List ℕ) (texts : List (List ℕ)) → bytes_eq kind literal ≡ true → Makes (literal ∷ texts) → Makes (kind ∷ texts)
known kind literal texts is makes = subst (λ (k : List ℕ). Makes (k ∷ texts)) (sym ((bytes_decides kind literal).0 is)) makes

under : (kind : List ℕ) (texts : List (List ℕ)) → Under kind texts (script_parts kind)
under kind texts = user (bytes_eq kind (codes "user")) refl
  where
    doc : (b : Bool) → bytes_eq kind (codes "doc") ≡ b → Under kind texts (if b then Some doc_parts else None)
    doc true is = λ h. known kind (codes "doc") texts is (doc_line texts h)
    doc false is = λ h. absurd h

    drop_role : (b : Bool) → bytes_eq kind (codes "droprole") ≡ b → Under kind texts (if b then Some drop_parts else (if bytes_eq kind (codes "doc") then Some doc_parts else None))
    drop_role true is = λ h. known kind (codes "droprole") texts is (drop_role_line texts h)
    drop_role false is = doc (bytes_eq kind (codes "doc")) refl

    drop_user : (b : Bool) → bytes_eq kind (codes "dropuser") ≡ b → Under kind texts (if b then Some drop_parts else (if bytes_eq kind (codes "droprole") then Some drop_parts else (if bytes_eq kind (codes "doc") then Some doc_parts else None)))
    drop_user true is = λ h. known kind (codes "dropuser") texts is (drop_user_line texts h)
    drop_user false is = drop_role (bytes_eq kind (codes "droprole")) refl

    role : (b : Bool) → bytes_eq kind (codes "role") ≡ b → Under kind texts (if b then Some role_parts else (if bytes_eq kind (codes "dropuser") then Some drop_parts else (if bytes_eq kind (codes "droprole") then Some drop_parts else (if bytes_eq kind (codes "doc") then Some doc_parts else None))))
    role true is = λ h. known kind (codes "role") texts is (role_line texts h)
    role false is = drop_user (bytes_eq kind (codes "dropuser")) refl

    user : (b : Bool) → bytes_eq kind (codes "user") ≡ b → Under kind texts (if b then Some user_parts else (if bytes_eq kind (codes "role") then Some role_parts else (if bytes_eq kind (codes "dropuser") then Some drop_parts else (if bytes_eq kind (codes "droprole") then Some drop_parts else (if bytes_eq kind (codes "doc") then Some doc_parts else None)))))
    user true is = λ h. known kind (codes "user") texts is (user_line texts h)
    user false is = role (bytes_eq kind (codes "role")) refl

line_made : (fields : List (List ℕ)) → AreFit IsScriptField script_parts fields → Makes fields
line_made [] h = absurd h
line_made (kind ∷ texts) h = under kind texts h

line_decided : (text : List ℕ) → ((l : AdminLine) × (IsScriptLine l × (text ≡ script_line l))) ⊎ ((why : Why) × IsScriptFault (pieces 9 text) why)
line_decided text = elim (fields_decided IsScriptField part_decided script_parts (pieces 9 text)) [
  | inl fit ↦ let made = line_made (pieces 9 text) fit in inl (made.0, (made.1, line_is text made.0 made.2))
  | inr fault ↦ inr fault
]

decided : IsDecided script_lines
decided = record { title = λ line. same_text line title; either = λ older text. line_decided text }

-- a text is a script, or it has a first bad line
pub script_or_bad : (bytes : List ℕ) → ((ls : List AdminLine) × SpellsScript bytes ls) ⊎ ((bad : BadLine) × IsBadScript bytes bad)
script_or_bad bytes = elim (file_either script_lines decided bytes) [
  | inl file ↦ inl (file.0, spelled_file bytes file.0 file.1)
  | inr bad ↦ inr bad
]
