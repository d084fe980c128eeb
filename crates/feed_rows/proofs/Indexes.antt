-- the indexes of the pass over the log have what they are to have
use Rattle.std.proofs.Common.{◌≡◌, ℕ, ◌<◌, refl, sym, ◌∙◌, ap, subst, arith, Bool, true, false, if◌then◌else◌, List, [], ◌∷◌, ◌++◌, length, map, Option, Some, None, zero, suc}
use Rattle.std.specs.Prelude.{slice_get}
use Rattle.std.specs.Borrow.{Bor}
use Rattle.std.specs.BTreeMap.{BTreeMap, UpdatesBy}
use Rattle.std.specs.Ordering.{nat_cmp}
use Rattle.std.specs.Cmp.Lexicographic.{slice_cmp}
use Rattle.std.specs.Str.{bytes_eq}
use Rattle.std.proofs.lemmas.Bool.{or_from}
use Rattle.std.proofs.lemmas.List.{map-append, length-map}
use Rattle.std.proofs.lemmas.List.Folds.{list_any-append}
use Rattle.std.proofs.lemmas.Map.Text.{btree_map_updates_str}
use Rattle.std.proofs.lemmas.Option.{none-some}
use Rattle.sg_history.specs.History.{among}
use Rattle.feed_rows.specs.declared.document.Document.{Document}
use Rattle.feed_rows.specs.inner.Index.{place_in, IsIndex}
use Rattle.feed_rows.specs.Known.{PlacedBy}
use Rattle.feed_rows.proofs.Names.{same_texts}

-- what an index has after a place was put in
pub place_added : (old new : BTreeMap (Bor (List ℕ)) ℕ) (name : List ℕ) (place : ℕ) → UpdatesBy (λ x y. slice_cmp nat_cmp x.now y.now) (λ k. slice_cmp nat_cmp name k.now) old new (Some place) → (other : List ℕ) → place_in new other ≡ (if bytes_eq name other then Some place else place_in old other)
place_added old new name place h other = btree_map_updates_str name old new (Some place) h other

pub slice_get_end : {X : Type 0} (xs : List X) (x : X) → slice_get (xs ++ x ∷ []) (length xs) ≡ Some x
slice_get_end [] x = refl
slice_get_end (y ∷ xs) x = slice_get_end xs x

pub slice_get_more : {X : Type 0} (xs ys : List X) (k : ℕ) (x : X) → slice_get xs k ≡ Some x → slice_get (xs ++ ys) k ≡ Some x
slice_get_more [] ys k x h = absurd (none-some _ h)
slice_get_more (y ∷ xs) ys zero x h = h
slice_get_more (y ∷ xs) ys (suc k) x h = slice_get_more xs ys k x h

-- an index of names is one of these with one name more, once its place was put in
pub index_added : (names : List (List ℕ)) (name : List ℕ) (old new : BTreeMap (Bor (List ℕ)) ℕ) → IsIndex names old → ((other : List ℕ) → place_in new other ≡ (if bytes_eq name other then Some (length names) else place_in old other)) → IsIndex (names ++ name ∷ []) new
index_added names name old new is added other =
    let P : Option ℕ → Type 0 = PlacedBy (names ++ name ∷ []) other in
    subst P (sym (added other)) (go (bytes_eq name other) refl)
  where
    older : (place : Option ℕ) → PlacedBy names other place → bytes_eq name other ≡ false → PlacedBy (names ++ name ∷ []) other place
    older None none h = list_any-append (λ t. bytes_eq t other) names (name ∷ []) ∙ or_from (among names other) _ none (or_from (bytes_eq name other) false h refl)
    older (Some k) at h = slice_get_more names (name ∷ []) k other at

    go : (b : Bool) → bytes_eq name other ≡ b → PlacedBy (names ++ name ∷ []) other (if b then Some (length names) else place_in old other)
    go true h = slice_get_end names name ∙ ap (λ (t : List ℕ). Some t) (same_texts name other h)
    go false h = older (place_in old other) (is other) h

-- documents with one more, under its place
pub index_grown : (items : List Document) (d : Document) (old new : BTreeMap (Bor (List ℕ)) ℕ) (k : ℕ) → k ≡ length items → IsIndex (map (λ x. x.name.now) items) old → ((other : List ℕ) → place_in new other ≡ (if bytes_eq d.name.now other then Some k else place_in old other)) → IsIndex (map (λ x. x.name.now) (items ++ d ∷ [])) new
index_grown items d old new k end is added =
    let P : List (List ℕ) → Type 0 = λ names. IsIndex names new in
    let count : k ≡ length (map (λ (x : Document). x.name.now) items) = end ∙ sym (length-map items (λ (x : Document). x.name.now)) in
    subst P (sym (map-append (λ (x : Document). x.name.now) items (d ∷ [])))
    (index_added (map (λ x. x.name.now) items) d.name.now old new is (λ other. added other ∙ ap (λ (n : ℕ). if bytes_eq d.name.now other then Some n else place_in old other) count))

pub place_grown : (items : List Document) (d : Document) (k : ℕ) → k ≡ length items → slice_get (map (λ x. x.name.now) (items ++ d ∷ [])) k ≡ Some d.name.now
place_grown items d k end =
    ap (λ (n : ℕ). slice_get (map (λ (x : Document). x.name.now) (items ++ d ∷ [])) n) (end ∙ sym (length-map items (λ (x : Document). x.name.now)))
    ∙ ap (λ (names : List (List ℕ)). slice_get names (length (map (λ (x : Document). x.name.now) items))) (map-append (λ (x : Document). x.name.now) items (d ∷ []))
    ∙ slice_get_end (map (λ x. x.name.now) items) d.name.now

-- a place that was found is below the length
pub below : (items : List Document) (k : ℕ) (name : List ℕ) → slice_get (map (λ x. x.name.now) items) k ≡ Some name → k < length items
below [] k name h = absurd (none-some _ h)
below (d ∷ items) zero name h = omega arith
below (d ∷ items) (suc k) name h = omega (arith, below items k name h)
