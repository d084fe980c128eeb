-- A `rev` that is written is read as the revision that it is of.
use Rattle.std.specs.Prelude.{codes}
use Rattle.std.proofs.Common.{◌≡◌, ℕ, Bool, true, false, if◌then◌else◌, IsTrue, List, [], ◌∷◌, ◌++◌, Some, Ok, refl, ap}
use Rattle.blip_frame.specs.Props.{Pair, value_at}
use Rattle.sg_names.specs.Grammar.{is_doc_id}
use Rattle.sg_names.specs.Key.{key_text}
use Rattle.sg_names.specs.Revs.{is_revs}
use Rattle.sg_names.specs.declared.rev_id.RevId.{RevId}
use Rattle.sg_history.specs.Feed.{is_deleted}
use Rattle.sg_history.specs.declared.row.Row.{Row}
use Rattle.repl_messages.specs.declared.request.Request.TheVariants.{Rev}
use Rattle.repl_messages.specs.declared.request.Version.{Version}
use Rattle.repl_messages.specs.declared.revision.Revision.{Revision}
use Rattle.repl_messages.specs.Properties.{truth_of}
use Rattle.repl_messages.specs.ReadAgain.{IsInGrammar, revision_of_row}
use Rattle.repl_messages.specs.Requests.{IsAnswer}
use Rattle.repl_messages.specs.Rev.{rev_payload, history_pairs}
use Rattle.repl_messages.specs.Revisions.{IsHistory, document_named, revision, revision_of}

-- what stands behind the names
abbrev rest : Bool → List ℕ → List RevId → List Pair
rest deleted key ancestors = (if deleted then (codes "deleted", codes "1") ∷ [] else []) ++ (codes "sequence", key) ∷ history_pairs ancestors

history_read : (deleted : Bool) (key : List ℕ) (ancestors : List RevId) → IsTrue (is_revs ancestors) → IsHistory (value_at (rest deleted key ancestors) (codes "history")) (Some ancestors)
history_read true key [] h = refl
history_read true key (r ∷ rs) h = (h, refl)
history_read false key [] h = refl
history_read false key (r ∷ rs) h = (h, refl)

deleted_read : (deleted : Bool) (key : List ℕ) (ancestors : List RevId) → truth_of (value_at (rest deleted key ancestors) (codes "deleted")) ≡ deleted
deleted_read true key ancestors = refl
deleted_read false key [] = refl
deleted_read false key (r ∷ rs) = refl

noconflicts_read : (deleted : Bool) (key : List ℕ) (ancestors : List RevId) → truth_of (value_at (rest deleted key ancestors) (codes "noconflicts")) ≡ false
noconflicts_read true key [] = refl
noconflicts_read true key (r ∷ rs) = refl
noconflicts_read false key [] = refl
noconflicts_read false key (r ∷ rs) = refl

same_revision : (doc : List ℕ) (rev : RevId) (ancestors : List RevId) (body : List ℕ) (deleted marked conflicts : Bool) → marked ≡ deleted → conflicts ≡ false
    → ◌≡◌ {A = Revision} (record { doc = doc; rev = rev; ancestors = ancestors; deleted = deleted; noconflicts = false; body = body })
    (record { doc = doc; rev = rev; ancestors = ancestors; deleted = marked; noconflicts = conflicts; body = body })
same_revision doc rev ancestors body deleted marked conflicts h i = rw (h, i) refl

named : (doc : List ℕ) → IsTrue (is_doc_id doc) → document_named doc ≡ Some doc
named doc h = rw h refl

pub rev_is_read : (row : Row) (ancestors : List RevId) (body : List ℕ) (version : Version) → IsInGrammar row → IsTrue (is_revs ancestors)
    → IsAnswer (rev_payload row ancestors body) version (Ok (Rev (revision_of_row row ancestors body)))
rev_is_read row ancestors body version names revs =
    let deleted = deleted_read (is_deleted row.bits) (key_text row.key) ancestors in
    let noconflicts = noconflicts_read (is_deleted row.bits) (key_text row.key) ancestors in
    let same : revision_of_row row ancestors body ≡ revision_of row.doc row.rev ancestors (rev_payload row ancestors body) =
    same_revision row.doc row.rev ancestors body (is_deleted row.bits) _ _ deleted noconflicts
    in
    let read : Ok (Rev (revision_of_row row ancestors body)) ≡ revision (Some row.rev) (Some ancestors) (rev_payload row ancestors body) =
    rw (named row.doc names.doc) (ap (λ r. Ok (Rev r)) same)
    in
    (Some row.rev, Some ancestors, (names.rev, refl), history_read (is_deleted row.bits) (key_text row.key) ancestors revs, read)
