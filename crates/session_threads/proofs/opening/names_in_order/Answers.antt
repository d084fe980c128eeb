use Rattle.std.proofs.Common.{IsTrue, IsUtf8, List, ℕ, subst, sym}
use Rattle.std.specs.List.{All}
use Rattle.sg_names.specs.Names.{is_names, names_text}
use Rattle.sg_names.specs.Grammar.{is_name}
use Rattle.session_threads.specs.Opening.{IsSortedOf}
use Rattle.session_threads.proofs.Orders.{in_order_is, list_is}
use Rattle.session_threads.proofs.opening.names_in_order.Goals as goal

pub returns-clause-grammar : goal.returns-clause-grammar
returns-clause-grammar c =
    let given : List (List ℕ) = c.into_vec.result.items in
    let sorted : List (List ℕ) = c.in_order-names.result.items in
    let A : List (List ℕ) → Type 0 = λ xs. All (λ n. IsTrue (is_name n) × IsUtf8 n) xs in
    let G : List (List ℕ) → Type 0 = λ xs. IsTrue (is_names xs) × IsUtf8 (names_text xs) in
    let order : IsSortedOf given sorted = in_order_is given sorted c.in_order-names.ensures.among c.in_order-names.ensures.sorted in
    subst G (sym c.from_vec.ensures) (list_is (λ n. is_name n) sorted (subst A c.as_slice.ensures.value c.pass_names.ensures) order.rising)
