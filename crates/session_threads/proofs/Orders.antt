-- names that were put in their order
use Rattle.std.proofs.Common.{◌≡◌, ℕ, Bool, true, ◌&&◌, List, [], ◌∷◌, IsTrue, map, refl, sym, ap, ◌∙◌, subst}
use Rattle.std.specs.Prelude.{IsUtf8}
use Rattle.std.specs.List.{All, list_all}
use Rattle.std.specs.Ordering.{nat_cmp}
use Rattle.std.specs.Cmp.Lexicographic.{slice_cmp}
use Rattle.std.proofs.lemmas.Bool.{and_from}
use Rattle.std.proofs.lemmas.List.Elements.{All-cons, All-head, All-nil, All-tail}
use Rattle.sg_names.specs.ItemList.{list_text, rises}
use Rattle.sg_history.specs.History.{among}
use Rattle.log_views.specs.Sorted.{AreSorted}
use Rattle.board_steps.proofs.NameTexts.{names_utf8}
use Rattle.session_threads.specs.Opening.{IsSortedOf}

themselves : (names : List (List ℕ)) → map (λ name. name) names ≡ names
themselves [] = refl
themselves (name ∷ names) = ap (λ (more : List (List ℕ)). name ∷ more) (themselves names)

pub in_order_is : (given sorted : List (List ℕ)) → ((name : List ℕ) → among (map (λ n. n) sorted) name ≡ among (map (λ n. n) given) name) → AreSorted (map (λ n. n) sorted) → IsSortedOf given sorted
in_order_is given sorted same rising = record {
  among = λ name. ap (λ (names : List (List ℕ)). among names name) (sym (themselves sorted)) ∙ same name ∙ ap (λ (names : List (List ℕ)). among names name) (themselves given);
  rising = subst (λ (names : List (List ℕ)). AreSorted names) (themselves sorted) rising;
}

are_names : (admits : List ℕ → Bool) (names : List (List ℕ)) → All (λ name. IsTrue (admits name) × IsUtf8 name) names → list_all admits names ≡ true
are_names admits [] all = refl
are_names admits (name ∷ names) all =
    let P : List ℕ → Type 0 = λ n. IsTrue (admits n) × IsUtf8 n in
    and_from (admits name) (list_all admits names) (All-head P name names all).0 (are_names admits names (All-tail P name names all))

are_texts : (admits : List ℕ → Bool) (names : List (List ℕ)) → All (λ name. IsTrue (admits name) × IsUtf8 name) names → All (λ name. IsUtf8 name) names
are_texts admits [] all = All-nil (λ (n : List ℕ). IsUtf8 n)
are_texts admits (name ∷ names) all =
    let P : List ℕ → Type 0 = λ n. IsTrue (admits n) × IsUtf8 n in
    All-cons (λ (n : List ℕ). IsUtf8 n) name names (All-head P name names all).1 (are_texts admits names (All-tail P name names all))

-- a list of names in their grammar, which rise
pub list_is : (admits : List ℕ → Bool) (names : List (List ℕ)) → All (λ name. IsTrue (admits name) × IsUtf8 name) names → AreSorted names → IsTrue (list_all admits names && rises (slice_cmp nat_cmp) names) × IsUtf8 (list_text names)
list_is admits names all rising =
    (and_from (list_all admits names) (rises (slice_cmp nat_cmp) names) (are_names admits names all) rising, names_utf8 names (are_texts admits names all))
