-- what a pass knows after one entry more
use Rattle.std.proofs.Common.{◌≡◌, ℕ, refl, sym, ◌∙◌, ap, subst, Bool, true, false, ◌||◌, if◌then◌else◌, List, [], ◌∷◌, ◌++◌, length, map, Option, Some, None}
use Rattle.std.proofs.Math.Path.{fun_ext}
use Rattle.std.specs.Prelude.{slice_get, slice_set}
use Rattle.std.specs.Borrow.{Bor}
use Rattle.std.specs.BTreeMap.{BTreeMap}
use Rattle.std.specs.List.{list_any}
use Rattle.std.specs.Str.{bytes_eq}
use Rattle.std.proofs.lemmas.List.{map-append, map-id}
use Rattle.std.proofs.lemmas.Simd.{map-map}
use Rattle.sg_history.specs.declared.entries.Entry.{Entry}
use Rattle.sg_history.specs.declared.entries.Entry.TheVariants as entry
use Rattle.sg_history.specs.declared.entries.Write.{Write}
use Rattle.sg_history.specs.History.{as_write, document_of, documents, among}
use Rattle.sg_history.specs.Feed.{row_of}
use Rattle.feed_rows.specs.declared.document.Document.{Document}
use Rattle.feed_rows.specs.declared.pass.Pass.{Pass}
use Rattle.feed_rows.specs.declared.shown.Viewer.{Viewer}
use Rattle.feed_rows.specs.inner.Index.{IsIndex}
use Rattle.feed_rows.specs.Known.{Known, from_on, known_at, known_from, known_in, blank, add_blank, renews, there, written_names, distinct_of, add_name}
use Rattle.feed_rows.specs.PassAt.{PassAt}
use Rattle.feed_rows.proofs.Names.{any_distinct, distinct_names, get_there, set_there, placed_among, other_texts}
use Rattle.feed_rows.proofs.Steps.{Unwritten, current_same, current_never, renews_other, row_never, since_never, since_other}

-- a search over what a function gives
any_mapped : {X Y : Type 0} (p : Y → Bool) (f : X → Y) (xs : List X) → list_any p (map f xs) ≡ list_any (λ x. p (f x)) xs
any_mapped p f [] = refl
any_mapped p f (x ∷ xs) = ap (λ b. p (f x) || b) (any_mapped p f xs)

-- a document that an entry does not renew
pub known_same : Unwritten → (from : ℕ) (e : Entry) (es : List Entry) (user : List ℕ) (filter : Option (List (List ℕ))) (n : List ℕ) → renews e es n ≡ false → known_from from es user filter n ≡ known_from from (e ∷ es) user filter n
known_same law from e es user filter n none =
    let now = current_same law e es n none in
    let since = sym (since_other e es n none) in
    λ i. record { name = n; current = (sym now) i; since = length (since i); row = from_on from (row_of (since i) user filter n) }

-- an entry that is no write
pub no_document : (e : Entry) (es : List Entry) → as_write e ≡ None → written_names es ≡ written_names (e ∷ es)
no_document e es none = sym (ap (λ (o : Option Write). distinct_of (document_of o ++ documents es)) none)

-- a document that was never written
known_blank : Unwritten → (es : List Entry) (user : List ℕ) (filter : Option (List (List ℕ))) (name : List ℕ) → among (written_names es) name ≡ false → blank name ≡ known_at es user filter name
known_blank law es user filter name h =
    let none : among (documents es) name ≡ false = sym (any_distinct (λ t. bytes_eq t name) (documents es)) ∙ h in
    let a = sym (current_never law es name none) in
    let s = sym (since_never law es name none) in
    let b = sym (ap (from_on 1) (row_never law es user filter name none)) in
    λ i. record { name = name; current = a i; since = length (s i); row = b i }

added_blank : Unwritten → (es : List Entry) (user : List ℕ) (filter : Option (List (List ℕ))) (name : List ℕ) → add_blank name (map (known_at es user filter) (written_names es)) ≡ map (known_at es user filter) (add_name name (written_names es))
added_blank law es user filter name =
    ap (λ (b : Bool). if b then map (known_at es user filter) (written_names es) else map (known_at es user filter) (written_names es) ++ blank name ∷ []) (any_mapped (λ (k : Known). bytes_eq k.name name) (known_at es user filter) (written_names es))
    ∙ go (among (written_names es) name) refl
  where
    go : (b : Bool) → among (written_names es) name ≡ b → (if b then map (known_at es user filter) (written_names es) else map (known_at es user filter) (written_names es) ++ blank name ∷ []) ≡ map (known_at es user filter) (if b then written_names es else written_names es ++ name ∷ [])
    go true h = refl
    go false h =
        ap (λ (k : Known). map (known_at es user filter) (written_names es) ++ k ∷ []) (known_blank law es user filter name h) ∙ sym (map-append (known_at es user filter) (written_names es) (name ∷ []))

-- the names of documents
names_any : (items : List Document) (name : List ℕ) → list_any (λ (k : Known). bytes_eq k.name name) (map known_in items) ≡ among (map (λ d. d.name.now) items) name
names_any items name = any_mapped (λ (k : Known). bytes_eq k.name name) known_in items ∙ sym (any_mapped (λ t. bytes_eq t name) (λ (d : Document). d.name.now) items)

pub blank_there : (items : List Document) (name : List ℕ) (k : ℕ) → slice_get (map (λ d. d.name.now) items) k ≡ Some name → map known_in items ≡ add_blank name (map known_in items)
blank_there items name k h =
    sym (ap (λ (b : Bool). if b then map known_in items else map known_in items ++ blank name ∷ []) (names_any items name ∙ placed_among (map (λ d. d.name.now) items) k name h))

pub blank_new : (items : List Document) (name : List ℕ) → among (map (λ d. d.name.now) items) name ≡ false → map known_in items ++ blank name ∷ [] ≡ add_blank name (map known_in items)
blank_new items name h =
    sym (ap (λ (b : Bool). if b then map known_in items else map known_in items ++ blank name ∷ []) (names_any items name ∙ h))

pub names_are : (f : List ℕ → Known) (items : List Document) (names : List (List ℕ)) → ((n : List ℕ) → (f n).name ≡ n) → map known_in items ≡ map f names → map (λ d. d.name.now) items ≡ names
names_are f items names named h =
    sym (map-map (λ (k : Known). k.name) known_in items) ∙ ap (map (λ (k : Known). k.name)) h ∙ map-map (λ (k : Known). k.name) f names
    ∙ ap (λ (g : List ℕ → List ℕ). map g names) (fun_ext named) ∙ map-id names

-- a pass that gave a written document its place
module _ (law : Unwritten) (w : Write) (es : List Entry) (viewer : Viewer) (before : Pass) (known : PassAt es viewer before) (k : ℕ) (placed : List Document) (documents_are : map known_in placed ≡ add_blank w.doc (map known_in before.documents.items)) (at : slice_get (map (λ d. d.name.now) placed) k ≡ Some w.doc) where
  abbrev pub old : List ℕ → Known
  old = known_at es viewer.user.now viewer.filter.now

  abbrev pub new : List ℕ → Known
  new = known_at (entry.Write w ∷ es) viewer.user.now viewer.filter.now

  abbrev pub names : List (List ℕ)
  names = written_names (entry.Write w ∷ es)

  placed_is : map known_in placed ≡ map old names
  placed_is = documents_are ∙ ap (add_blank w.doc) known.documents ∙ added_blank law es viewer.user.now viewer.filter.now w.doc

  here : slice_get names k ≡ Some w.doc
  here = ap (λ ns. slice_get ns k) (sym (names_are old placed names (λ n. refl) placed_is)) ∙ at

  pub was : there k (map known_in placed) ≡ old w.doc
  was = ap (there k) placed_is ∙ get_there old w.doc names k (blank []) here

  pub brought : slice_set (map known_in placed) k (new w.doc) ≡ map new names
  brought =
      ap (λ (ks : List Known). slice_set ks k (new w.doc)) placed_is
      ∙ set_there old new w.doc names k (distinct_names (documents (entry.Write w ∷ es))) here
      (λ n b. known_same law 1 (entry.Write w) es viewer.user.now viewer.filter.now n (renews_other w es n (other_texts n w.doc b)))

  pub index_is : (places : BTreeMap (Bor (List ℕ)) ℕ) → IsIndex (map (λ d. d.name.now) placed) places → IsIndex names places
  index_is places is = subst (λ (ns : List (List ℕ)). IsIndex ns places) (names_are old placed names (λ n. refl) placed_is) is
