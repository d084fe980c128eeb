-- the fields of a script's line and its text
use Rattle.std.proofs.Common.{◌≡◌, ◌≢◌, ℕ, codes, ◌*◌, ◌+◌, ◌<◌, Bool, true, false, List, [], ◌∷◌, length, refl, sym, ap, ◌∙◌, arith, Option, Some, None}
use Rattle.std.specs.Prelude.{nat_lt, Result, Ok, Err, IfOk}
use Rattle.sg_history.specs.declared.fault.LineFault.{LineFault}
use Rattle.std.specs.List.{list_all, join_with_byte}
use Rattle.std.proofs.lemmas.Bool.{and_parts, and_from}
use Rattle.sg_names.proofs.ItemTexts.{rev_has_one_text, rev_is_no_dash}
use Rattle.sg_names.proofs.OneText.{channels_same, names_same, hex_same}
use Rattle.sg_names.proofs.PlainTexts.{plain_hex, plain_name, plain_rev, plain_channels, plain_names}
use Rattle.sg_names.specs.declared.rev_id.RevId.{RevId}
use Rattle.sg_names.specs.Grammar.{lacks, is_plain}
use Rattle.sg_names.specs.RevId.{is_rev}
use Rattle.sg_names.specs.Channels.{channels_text}
use Rattle.sg_names.specs.Hex.{hex_text}
use Rattle.sg_names.specs.Names.{names_text}
use Rattle.sg_history.specs.Journal.{IsEntry, deleted_text}
use Rattle.sg_history.specs.Pieces.{pieces}
use Rattle.sg_history.proofs.LineTexts.{fields_pieces, fields_whole, joined_pieces, plain_doc}
use Rattle.principals.specs.declared.command.Command.{Command}
use Rattle.principals.specs.declared.command.Command.TheVariants as command
use Rattle.principals.specs.declared.admin_line.AdminLine.{AdminLine}
use Rattle.principals.specs.declared.admin_line.AdminLine.TheVariants as line
use Rattle.principals.specs.Script.{IsDoc, IsScriptLine, command_fields, entry_of, script_fields, may_be_parent, script_line, script_parent}

plain_deleted : (mark : Bool) → is_plain (deleted_text mark) ≡ true
plain_deleted true = refl
plain_deleted false = refl

pub parent_rev : (rev : RevId) → may_be_parent (Some rev) ≡ true → is_rev rev ≡ true
parent_rev rev h = (and_parts (is_rev rev) (nat_lt rev.generation 4294967295) h).0

plain_parent : (parent : Option RevId) → may_be_parent parent ≡ true → is_plain (script_parent parent) ≡ true
plain_parent None h = refl
plain_parent (Some rev) h = plain_rev rev (parent_rev rev h)

command_plain : (c : Command) → IsEntry (entry_of c) → list_all (λ f. is_plain f) (command_fields c) ≡ true
command_plain (command.PutUser name channels roles) is =
    and_from _ _ (plain_name name is.name.0) (and_from _ _ (plain_channels channels is.channels.0) (and_from _ _ (plain_names roles is.roles.0) refl))
command_plain (command.PutRole name channels) is = and_from _ _ (plain_name name is.name.0) (and_from _ _ (plain_channels channels is.channels.0) refl)
command_plain (command.DropUser name) is = and_from _ _ (plain_name name is.0) refl
command_plain (command.DropRole name) is = and_from _ _ (plain_name name is.0) refl

-- no field has a control character
fields_plain : (l : AdminLine) → IsScriptLine l → list_all (λ f. is_plain f) (script_fields l) ≡ true
fields_plain (line.Command c) is = command_plain c is
fields_plain (line.Doc doc parent deleted body) is =
    and_from _ _ (plain_doc doc is.doc.0) (and_from _ _ (plain_parent parent is.parent.0)
    (and_from _ _ (plain_deleted deleted) (and_from _ _ (plain_hex body (and_parts _ _ is.body).1) refl)))

some_fields : (l : AdminLine) → 0 < length (script_fields l)
some_fields (line.Command (command.PutUser name channels roles)) = omega arith
some_fields (line.Command (command.PutRole name channels)) = omega arith
some_fields (line.Command (command.DropUser name)) = omega arith
some_fields (line.Command (command.DropRole name)) = omega arith
some_fields (line.Doc doc parent deleted body) = omega arith

-- the pieces of a line are its fields
pub line_pieces : (l : AdminLine) → IsScriptLine l → pieces 9 (script_line l) ≡ script_fields l
line_pieces l is = fields_pieces (script_fields l) (some_fields l) (fields_plain l is)

-- a line has no line feed
pub line_whole : (l : AdminLine) → IsScriptLine l → lacks 10 (script_line l) ≡ true
line_whole l is = fields_whole (script_fields l) (fields_plain l is)

-- a line whose pieces are these fields
pub line_is : (text : List ℕ) (l : AdminLine) → pieces 9 text ≡ script_fields l → text ≡ script_line l
line_is text l e = sym (joined_pieces 9 text) ∙ ap (join_with_byte 9) e

-- a text as a number, by which short texts are distinguished
abbrev code : List ℕ → ℕ
code [] = 0
code (b ∷ bs) = b + 256 * code bs

abbrev first : List (List ℕ) → List ℕ
first [] = []
first (f ∷ fs) = f

mark_same : (a b : Bool) → deleted_text a ≡ deleted_text b → a ≡ b
mark_same true true e = refl
mark_same false false e = refl
mark_same true false e = absurd (omega (arith, ap code e))
mark_same false true e = absurd (omega (arith, ap code e))

pub parent_same : (a b : Option RevId) → may_be_parent a ≡ true → may_be_parent b ≡ true → script_parent a ≡ script_parent b → a ≡ b
parent_same None None h g e = refl
parent_same None (Some b) h g e = absurd (rev_is_no_dash b (parent_rev b g) (sym e))
parent_same (Some a) None h g e = absurd (rev_is_no_dash a (parent_rev a h) e)
parent_same (Some a) (Some b) h g e = ap Some (rev_has_one_text a b (parent_rev a h) (parent_rev b g) e)

doc_same : (d e : List ℕ) (p q : Option RevId) (x y : Bool) (b c : List ℕ) → IsDoc d p b → IsDoc e q c
    → script_fields (line.Doc d p x b) ≡ script_fields (line.Doc e q y c) → line.Doc d p x b ≡ line.Doc e q y c
doc_same d e p q x y b c is it same =
    let doc : d ≡ e = cc in
    let parent_texts : script_parent p ≡ script_parent q = cc in
    let deleted_texts : deleted_text x ≡ deleted_text y = cc in
    let body_texts : hex_text b ≡ hex_text c = cc in
    let parent = parent_same p q is.parent.0 it.parent.0 parent_texts in
    let mark = mark_same x y deleted_texts in
    let body = hex_same b c (and_parts _ _ is.body).1 (and_parts _ _ it.body).1 body_texts in
    λ i. line.Doc (doc i) (parent i) (mark i) (body i)

-- no command's line is that of a revision
no_doc : (c : Command) (fields : List (List ℕ)) → command_fields c ≢ codes "doc" ∷ fields
no_doc (command.PutUser name channels roles) fields e = omega (arith, ap (λ fs. code (first fs)) e)
no_doc (command.PutRole name channels) fields e = omega (arith, ap (λ fs. code (first fs)) e)
no_doc (command.DropUser name) fields e = omega (arith, ap (λ fs. code (first fs)) e)
no_doc (command.DropRole name) fields e = omega (arith, ap (λ fs. code (first fs)) e)

fields_same : (a b : AdminLine) → IsScriptLine a → IsScriptLine b → script_fields a ≡ script_fields b → a ≡ b
fields_same (line.Command (command.PutUser n c r)) (line.Command (command.PutUser m d s)) is it e =
    let name : n ≡ m = cc in
    let channels_texts : channels_text c ≡ channels_text d = cc in
    let roles_texts : names_text r ≡ names_text s = cc in
    let channels = channels_same c d is.channels.0 it.channels.0 channels_texts in
    let roles = names_same r s is.roles.0 it.roles.0 roles_texts in
    λ i. line.Command (command.PutUser (name i) (channels i) (roles i))
fields_same (line.Command (command.PutRole n c)) (line.Command (command.PutRole m d)) is it e =
    let name : n ≡ m = cc in
    let channels_texts : channels_text c ≡ channels_text d = cc in
    let channels = channels_same c d is.channels.0 it.channels.0 channels_texts in
    λ i. line.Command (command.PutRole (name i) (channels i))
fields_same (line.Command (command.DropUser n)) (line.Command (command.DropUser m)) is it e =
    let name : n ≡ m = cc in λ i. line.Command (command.DropUser (name i))
fields_same (line.Command (command.DropRole n)) (line.Command (command.DropRole m)) is it e =
    let name : n ≡ m = cc in λ i. line.Command (command.DropRole (name i))
fields_same (line.Doc d p x b) (line.Doc e q y c) is it same = doc_same d e p q x y b c is it same
fields_same (line.Doc d p x b) (line.Command c) is it e = absurd (no_doc c _ (sym e))
fields_same (line.Command c) (line.Doc d p x b) is it e = absurd (no_doc c _ e)
fields_same (line.Command _) (line.Command _) is it e = absurd (omega (arith, ap (λ fs. code (first fs)) e))

-- lines with the same text are the same
pub line_same : (a b : AdminLine) → IsScriptLine a → IsScriptLine b → script_line a ≡ script_line b → a ≡ b
line_same a b is it same = fields_same a b is it (sym (line_pieces a is) ∙ ap (pieces 9) same ∙ line_pieces b it)

-- the pieces of a line that was read
pub lines_read : (r : Result AdminLine LineFault) (fields : List (List ℕ)) (text : List ℕ) → fields ≡ pieces 9 text
    → IfOk r (λ l. IsScriptLine l × (fields ≡ script_fields l)) → IfOk r (λ l. IsScriptLine l × (text ≡ script_line l))
lines_read (Ok l) fields text e h = (h.0, line_is text l (sym e ∙ h.1))
lines_read (Err x) fields text e h = tt
