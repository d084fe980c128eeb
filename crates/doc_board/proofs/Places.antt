-- what is kept of documents, by the writes that each has
use Rattle.std.proofs.Common.{◌≡◌, ◌≤◌, ℕ, Bool, true, false, List, [], ◌∷◌, map, Option, Some, None, refl, sym, ap, ◌∙◌, subst, arith, if◌then◌else◌}
use Rattle.std.specs.Prelude.{MatchOption}
use Rattle.std.specs.BTreeMap.{get_by_text}
use Rattle.std.specs.Str.{bytes_eq}
use Rattle.std.proofs.lemmas.Bool.{ne_eqb}
use Rattle.sg_history.specs.declared.entries.Write.{Write}
use Rattle.sg_history.specs.Book.{first_write}
use Rattle.sg_history.specs.Current.{Sequenced, sequenced_before}
use Rattle.rev_tree.specs.declared.tree.Node.{Node}
use Rattle.rev_tree.specs.Documents.{recorded, sequence_of, tree_when}
use Rattle.rev_tree.specs.Extension.{with_write}
use Rattle.doc_board.specs.declared.document.Document.{Document}
use Rattle.doc_board.specs.Kept.{AreKeptBy, document_with, trees_by, or_blank, placed, kept_last, kept_tree, kept_nodes}
use Rattle.doc_board.proofs.Documents.{Documents, same_names}

abbrev Writes : Type 0
Writes = List ℕ → List Sequenced

abbrev IsPlacedBy : List Sequenced → Option Document → Type 0
IsPlacedBy ws found = MatchOption found (ws ≡ []) (λ kept. kept ≡ document_with ws)

-- ---- what is found of a document

pub last_by : (ws : Writes) (documents : Documents) (doc : List ℕ) → AreKeptBy ws documents → kept_last (get_by_text documents doc) ≡ sequence_of (first_write (ws doc))
last_by ws documents doc kept = go (get_by_text documents doc) (kept doc)
  where
    go : (found : Option Document) → IsPlacedBy (ws doc) found → kept_last found ≡ sequence_of (first_write (ws doc))
    go None h = sym (ap (λ (s : List Sequenced). sequence_of (first_write s)) h)
    go (Some d) h = ap (λ (k : Document). k.last) h

pub nodes_by : (ws : Writes) (documents : Documents) (doc : List ℕ) → AreKeptBy ws documents → kept_nodes (get_by_text documents doc) ≡ trees_by (ws doc)
nodes_by ws documents doc kept = go (get_by_text documents doc) (kept doc)
  where
    go : (found : Option Document) → IsPlacedBy (ws doc) found → kept_nodes found ≡ trees_by (ws doc)
    go None h = sym (ap trees_by h)
    go (Some d) h = ap (λ (k : Document). k.tree) h

tree_there : (s : List Sequenced) → ((x : Sequenced) → first_write s ≡ Some x → 1 ≤ x.seq) → kept_tree (Some (document_with s)) ≡ tree_when (map (λ written. recorded written.write) s)
tree_there [] positive = refl
tree_there (x ∷ rest) positive =
    let first = positive x refl in
    ap (λ (b : Bool). if b then None else Some (trees_by (x ∷ rest))) (ne_eqb x.seq 0 (λ e. absurd (omega (arith, first, e))))

pub tree_by : (ws : Writes) (documents : Documents) (doc : List ℕ) → AreKeptBy ws documents → ((x : Sequenced) → first_write (ws doc) ≡ Some x → 1 ≤ x.seq) → kept_tree (get_by_text documents doc) ≡ tree_when (map (λ written. recorded written.write) (ws doc))
tree_by ws documents doc kept positive = go (get_by_text documents doc) (kept doc)
  where
    go : (found : Option Document) → IsPlacedBy (ws doc) found → kept_tree found ≡ tree_when (map (λ written. recorded written.write) (ws doc))
    go None h = sym (ap (λ (s : List Sequenced). tree_when (map (λ written. recorded written.write) s)) h)
    go (Some d) h = ap (λ (k : Document). kept_tree (Some k)) h ∙ tree_there (ws doc) positive

-- ---- a place for a document

made_there : (ws : List Sequenced) (found : Option Document) → IsPlacedBy ws found → or_blank found ≡ document_with ws
made_there ws None h = ap document_with (sym h)
made_there ws (Some d) h = h

made_one : (ws : Writes) (before : Documents) (doc name : List ℕ) → AreKeptBy ws before → (b : Bool) → bytes_eq doc name ≡ b → IsPlacedBy (ws name) (if b then Some (or_blank (get_by_text before doc)) else get_by_text before name)
made_one ws before doc name kept true e = made_there (ws doc) (get_by_text before doc) (kept doc) ∙ ap (λ (d : List ℕ). document_with (ws d)) (same_names doc name e)
made_one ws before doc name kept false e = kept name

placed_by : (ws : Writes) (before : Documents) (doc : Option (List ℕ)) (name : List ℕ) → AreKeptBy ws before → IsPlacedBy (ws name) (placed doc before name)
placed_by ws before None name kept = kept name
placed_by ws before (Some doc) name kept = made_one ws before doc name kept (bytes_eq doc name) refl

pub place_by : (ws : Writes) (before after : Documents) (doc : Option (List ℕ)) → ((name : List ℕ) → get_by_text after name ≡ placed doc before name) → AreKeptBy ws before → AreKeptBy ws after
place_by ws before after doc made kept name =
    subst (λ (o : Option Document). IsPlacedBy (ws name) o) (sym (made name)) (placed_by ws before doc name kept)

-- ---- other writes

pub same_by : (ws new : Writes) (documents : Documents) → ((doc : List ℕ) → new doc ≡ ws doc) → AreKeptBy ws documents → AreKeptBy new documents
same_by ws new documents same kept doc =
    subst (λ (s : List Sequenced). IsPlacedBy s (get_by_text documents doc)) (sym (same doc)) (kept doc)

-- a write more
module _ (ws new : Writes) (before after : Documents) (w : Write) (n : ℕ) (tree : List Node) (more : (doc : List ℕ) → new doc ≡ sequenced_before (if bytes_eq w.doc doc then Some w else None) n (ws doc))
    (extended : tree ≡ with_write (trees_by (ws w.doc)) (recorded w)) (put : (name : List ℕ) → get_by_text after name ≡ (if bytes_eq w.doc name then Some (record { last = n; tree = tree }) else get_by_text before name)) where
  here : (doc : List ℕ) → bytes_eq w.doc doc ≡ true → record { last = n; tree = tree } ≡ document_with (record { seq = n; write = w } ∷ ws doc)
  here doc e =
      ap (λ (t : List Node). record { last = n; tree = t }) (extended ∙ ap (λ (d : List ℕ). with_write (trees_by (ws d)) (recorded w)) (same_names w.doc doc e))

  placed_more : (doc : List ℕ) → AreKeptBy ws before → (b : Bool) → bytes_eq w.doc doc ≡ b → IsPlacedBy (sequenced_before (if b then Some w else None) n (ws doc)) (if b then Some (record { last = n; tree = tree }) else get_by_text before doc)
  placed_more doc kept true e = here doc e
  placed_more doc kept false e = kept doc

  pub more_by : AreKeptBy ws before → AreKeptBy new after
  more_by kept doc =
      subst (λ (s : List Sequenced). IsPlacedBy s (get_by_text after doc)) (sym (more doc))
      (subst (λ (o : Option Document). IsPlacedBy (sequenced_before (if bytes_eq w.doc doc then Some w else None) n (ws doc)) o) (sym (put doc)) (placed_more doc kept (bytes_eq w.doc doc) refl))
