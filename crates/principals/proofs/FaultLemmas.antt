-- what is wrong with a line
use Rattle.std.proofs.Common.{◌≡◌, ◌≢◌, ℕ, ◌≤◌, ◌<◌, true, List, [], ◌∷◌, length, arith, refl, sym, ap, ◌∙◌, subst, Option, Some, None, codes, get_or, IsUtf8}
use Rattle.std.proofs.lemmas.Str.{IsUtf8-from_ascii}
use Rattle.std.proofs.lemmas.Str.Ascii.{IsAscii-cons, IsAscii-nil}
use Rattle.std.specs.Prelude.{nat_lt}
use Rattle.std.proofs.lemmas.Bool.{and_parts, ltb-true}
use Rattle.sg_names.proofs.ItemTexts.{rev_has_one_text}
use Rattle.sg_names.specs.declared.rev_id.RevId.{RevId}
use Rattle.sg_names.specs.RevId.{is_rev, rev_text}
use Rattle.sg_history.specs.declared.fault.Why.{Why}
use Rattle.sg_history.specs.declared.fault.Why.TheVariants as reason
use Rattle.sg_history.specs.FieldFaults.{AreFit, IsKindFault}
use Rattle.sg_history.specs.Pieces.{pieces}
use Rattle.sg_history.proofs.FaultLemmas.{apart}
use Rattle.sg_history.proofs.WriteFields.{body_is}
use Rattle.principals.specs.declared.command.Command.TheVariants as command
use Rattle.principals.specs.declared.admin_line.AdminLine.{AdminLine}
use Rattle.principals.specs.declared.admin_line.AdminLine.TheVariants as line
use Rattle.principals.specs.Script.{IsScriptLine, script_fields, may_be_parent, script_line, script_parent}
use Rattle.principals.specs.Faults.{ScriptField, IsScriptFault, IsScriptField, script_parts}
use Rattle.principals.specs.Faults as faults
use Rattle.principals.specs.declared.kind.Kind.{Kind}
use Rattle.principals.specs.declared.kind.Kind.TheVariants as kind
use Rattle.principals.specs.inner.Kinds.{kind_text}
use Rattle.principals.proofs.Texts.{line_pieces}

abbrev AreFine : List (List ℕ) → Type 0
AreFine fields = AreFit IsScriptField script_parts fields

fine : (l : AdminLine) → IsScriptLine l → AreFine (script_fields l)
fine (line.Command (command.PutUser name channels roles)) is =
    ((is.name.1, is.name.0), ((is.channels.1, channels, is.channels.0, refl), ((is.roles.1, roles, is.roles.0, refl), tt)))
fine (line.Command (command.PutRole name channels)) is = ((is.name.1, is.name.0), ((is.channels.1, channels, is.channels.0, refl), tt))
fine (line.Command (command.DropUser name)) is = ((is.1, is.0), tt)
fine (line.Command (command.DropRole name)) is = ((is.1, is.0), tt)
fine (line.Doc doc parent deleted body) is =
    ((is.doc.1, is.doc.0), ((is.parent.1, parent, is.parent.0, refl), ((deleted, refl), (body_is body is.body, tt))))

-- nothing is wrong with the pieces of a line
pub line_fine : (text : List ℕ) (l : AdminLine) (why : Why) → IsScriptLine l → text ≡ script_line l → ¬ (IsScriptFault (pieces 9 text) why)
line_fine text l why is e fault =
    apart IsScriptField script_parts (script_fields l) why (subst (λ fields. IsScriptFault fields why) (ap (pieces 9) e ∙ line_pieces l is) fault) (fine l is)

kind_many : (k : Kind) (texts : List (List ℕ)) → 4 < length texts → IsScriptFault (kind_text k ∷ texts) reason.Fields
kind_many kind.User texts many = λ e. omega (arith, many, e)
kind_many kind.Role texts many = λ e. omega (arith, many, e)
kind_many kind.DropUser texts many = λ e. omega (arith, many, e)
kind_many kind.DropRole texts many = λ e. omega (arith, many, e)
kind_many kind.Doc texts many = λ e. omega (arith, many, e)

-- each kind has fewer fields
pub many_of_kind : (field : List ℕ) (k : Kind) → field ≡ kind_text k → (texts : List (List ℕ)) → 4 < length texts → IsScriptFault (field ∷ texts) reason.Fields
many_of_kind field k is texts many = subst (λ f. IsScriptFault (f ∷ texts) reason.Fields) (sym is) (kind_many k texts many)

-- a first field that is no kind
pub no_kind : (field : List ℕ) (texts : List (List ℕ)) → script_parts field ≡ None → IsScriptFault (field ∷ texts) reason.Kind
no_kind field texts none = subst (λ (o : Option (List ScriptField)). IsKindFault IsScriptField o texts reason.Kind) (sym none) refl

no_parent : (text : List ℕ) (rev : RevId) (v : Option RevId) → text ≡ rev_text rev → is_rev rev ≡ true → rev.generation ≡ 4294967295 → text ≢ codes "-"
    → may_be_parent v ≡ true → text ≢ script_parent v
no_parent text rev None is ok at some p e = some e
no_parent text rev (Some other) is ok at some p e =
    let parts = and_parts (is_rev other) (nat_lt other.generation 4294967295) p in
    let same = ap (λ (r : RevId). r.generation) (rev_has_one_text rev other ok parts.0 (sym is ∙ e)) in
    omega (arith, same, at, ltb-true other.generation 4294967295 parts.1)

-- a revision of the greatest generation is no parent
pub too_late : (text : List ℕ) (rev : RevId) → text ≡ rev_text rev → is_rev rev ≡ true → rev.generation ≡ 4294967295 → text ≢ codes "-" → ¬ (IsScriptField faults.parent text)
too_late text rev is ok at some h = no_parent text rev h.1 is ok at some h.2 h.3

-- a text `-` is UTF-8
pub dash_text : (text : List ℕ) → text ≡ codes "-" → IsUtf8 text
dash_text text is = subst IsUtf8 (sym is) (IsUtf8-from_ascii (codes "-") (IsAscii-cons 45 [] (omega arith) IsAscii-nil))

-- a list of four is its four items
pub four : {X : Type 0} (d : X) (xs : List X) → 4 ≤ length xs → length xs < 5
    → xs ≡ get_or xs 0 d ∷ get_or xs 1 d ∷ get_or xs 2 d ∷ get_or xs 3 d ∷ []
four d (x0 ∷ x1 ∷ x2 ∷ x3 ∷ []) low high = refl
four d _ low high = absurd (omega arith)
