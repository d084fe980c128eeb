-- what is kept of documents is right after each entry
use Rattle.std.proofs.Common.{◌≡◌, ◌+◌, ℕ, Bool, true, false, List, [], ◌∷◌, length, Option, Some, None, BTreeMap, String, Global, refl, sym, ap, ◌∙◌, subst, arith, if◌then◌else◌}
use Rattle.std.specs.Prelude.{MatchOption, IsTrue}
use Rattle.std.specs.BTreeMap.{get_by_text}
use Rattle.std.specs.Str.{bytes_eq}
use Rattle.std.proofs.lemmas.Slice.Eq.{bytes_eq-Decides}
use Rattle.sg_history.specs.declared.entries.Entry.{Entry}
use Rattle.sg_history.specs.declared.entries.Entry.TheVariants as entry
use Rattle.sg_history.specs.declared.entries.Write.{Write}
use Rattle.sg_history.specs.History.{write_to}
use Rattle.sg_history.specs.Current.{Sequenced, sequenced_or, last_write}
use Rattle.rev_tree.specs.declared.tree.Node.{Node}
use Rattle.rev_tree.specs.Extension.{Recorded, with_write}
use Rattle.rev_tree.specs.Writes.{tree_of, is_accepted, AreAccepted}
use Rattle.doc_board.specs.declared.document.Document.{Document}
use Rattle.doc_board.specs.Candidates.{ExtendsTree}
use Rattle.doc_board.specs.Kept.{document_at, AreKept, or_blank, placed, blank, kept_nodes}
use Rattle.rev_tree.specs.Documents.{recorded, recorded_before, writes_of, tree_at, sequence_of, last_at}

abbrev pub Documents : Type 0
Documents = BTreeMap (String Global) Document

pub same_names : (a b : List ℕ) → bytes_eq a b ≡ true → a ≡ b
same_names a b h = (bytes_eq-Decides a b).0 h

-- what is said of a document's place
abbrev pub IsPlaced : List Entry → List ℕ → Option Document → Type 0
IsPlaced es doc found = MatchOption found (writes_of es doc ≡ []) (λ kept. kept ≡ document_at es doc)

-- ---- one more entry, by the write of the document that it is, if it is one

never_next : (o : Option Write) (ws : List Recorded) (n : ℕ) (last : Option Sequenced) → (ws ≡ [] → sequence_of last ≡ 0) → recorded_before o ws ≡ [] → sequence_of (sequenced_or o n last) ≡ 0
never_next None ws n last before h = before h
never_next (Some w) ws n last before h = absurd (omega (arith, ap length h))

-- a document that was never written has no last write
pub never : (es : List Entry) (doc : List ℕ) → writes_of es doc ≡ [] → last_at es doc ≡ 0
never [] doc h = refl
never (e ∷ older) doc h = never_next (write_to e doc) (writes_of older doc) (length older + 1) (last_write older doc) (never older doc) h

-- ---- what is found of a document

pub nodes_found : (es : List Entry) (documents : Documents) (doc : List ℕ) → AreKept es documents → kept_nodes (get_by_text documents doc) ≡ tree_at es doc
nodes_found es documents doc kept = go (get_by_text documents doc) (kept doc)
  where
    go : (found : Option Document) → IsPlaced es doc found → kept_nodes found ≡ tree_at es doc
    go None h = sym (ap tree_of h)
    go (Some d) h = ap (λ (k : Document). k.tree) h

-- ---- a place for a document

blank_is : (es : List Entry) (doc : List ℕ) → writes_of es doc ≡ [] → blank ≡ document_at es doc
blank_is es doc h =
    ap (λ (n : ℕ). record { last = n; tree = [] }) (sym (never es doc h))
    ∙ ap (λ (ws : List Recorded). record { last = last_at es doc; tree = tree_of ws }) (sym h)

made_there : (es : List Entry) (doc : List ℕ) (found : Option Document) → IsPlaced es doc found → or_blank found ≡ document_at es doc
made_there es doc None h = blank_is es doc h
made_there es doc (Some d) h = h

made_one : (es : List Entry) (before : Documents) (doc name : List ℕ) → AreKept es before → (b : Bool) → bytes_eq doc name ≡ b → IsPlaced es name (if b then Some (or_blank (get_by_text before doc)) else get_by_text before name)
made_one es before doc name kept true e = made_there es doc (get_by_text before doc) (kept doc) ∙ ap (document_at es) (same_names doc name e)
made_one es before doc name kept false e = kept name

placed_is : (es : List Entry) (before : Documents) (doc : Option (List ℕ)) (name : List ℕ) → AreKept es before → IsPlaced es name (placed doc before name)
placed_is es before None name kept = kept name
placed_is es before (Some doc) name kept = made_one es before doc name kept (bytes_eq doc name) refl

pub place_made : (es : List Entry) (before after : Documents) (doc : Option (List ℕ)) → ((name : List ℕ) → get_by_text after name ≡ placed doc before name) → AreKept es before → AreKept es after
place_made es before after doc made kept name =
    let P : Option Document → Type 0 = IsPlaced es name in
    subst P (sym (made name)) (placed_is es before doc name kept)

-- ---- a write

pub kept_with : (w : Write) (es : List Entry) (before after : Documents) (sequence : ℕ) (tree : List Node) → sequence ≡ length es + 1 → ExtendsTree (tree_at es w.doc) w tree → ((name : List ℕ) → get_by_text after name ≡ (if bytes_eq w.doc name then Some (record { last = sequence; tree = tree }) else get_by_text before name)) → AreKept es before → AreKept (entry.Write w ∷ es) after
kept_with w es before after sequence tree next extends put kept doc =
    let P : Option Document → Type 0 = IsPlaced (entry.Write w ∷ es) doc in
    subst P (sym (put doc)) (go (bytes_eq w.doc doc) refl)
  where
    here : bytes_eq w.doc doc ≡ true → record { last = sequence; tree = tree } ≡ document_at (entry.Write w ∷ es) doc
    here e =
        ap (λ (n : ℕ). record { last = n; tree = tree }) next
        ∙ ap (λ (t : List Node). record { last = length es + 1; tree = t }) (extends.tree ∙ ap (λ (d : List ℕ). with_write (tree_at es d) (recorded w)) (same_names w.doc doc e))
        ∙ ap (λ (b : Bool). record { last = sequence_of (sequenced_or (if b then Some w else None) (length es + 1) (last_write es doc)); tree = tree_of (recorded_before (if b then Some w else None) (writes_of es doc)) }) (sym e)

    apart : bytes_eq w.doc doc ≡ false → (found : Option Document) → IsPlaced es doc found → IsPlaced (entry.Write w ∷ es) doc found
    apart e None none = ap (λ (b : Bool). recorded_before (if b then Some w else None) (writes_of es doc)) e ∙ none
    apart e (Some d) is = is ∙ ap (λ (b : Bool). record { last = sequence_of (sequenced_or (if b then Some w else None) (length es + 1) (last_write es doc)); tree = tree_of (recorded_before (if b then Some w else None) (writes_of es doc)) }) (sym e)

    go : (b : Bool) → bytes_eq w.doc doc ≡ b → IsPlaced (entry.Write w ∷ es) doc (if b then Some (record { last = sequence; tree = tree }) else get_by_text before doc)
    go true e = here e
    go false e = apart e (get_by_text before doc) (kept doc)

pub accepted_with : (w : Write) (es : List Entry) (tree : List Node) → ExtendsTree (tree_at es w.doc) w tree → ((doc : List ℕ) → AreAccepted (writes_of es doc)) → (doc : List ℕ) → AreAccepted (writes_of (entry.Write w ∷ es) doc)
accepted_with w es tree extends accepted doc = go (bytes_eq w.doc doc) refl
  where
    P : Bool → Type 0
    P b = AreAccepted (recorded_before (if b then Some w else None) (writes_of es doc))

    go : (b : Bool) → bytes_eq w.doc doc ≡ b → AreAccepted (writes_of (entry.Write w ∷ es) doc)
    go true e =
        let Q : List ℕ → Type 0 = λ d. IsTrue (is_accepted (tree_at es d) (recorded w)) in
        subst P (sym e) (subst Q (same_names w.doc doc e) extends.accepted, accepted doc)
    go false e = subst P (sym e) (accepted doc)
