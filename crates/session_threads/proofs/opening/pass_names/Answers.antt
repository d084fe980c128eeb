use Rattle.std.proofs.Common.{IsTrue, IsUtf8, List, ℕ, arith, subst}
use Rattle.std.specs.List.{All}
use Rattle.std.proofs.lemmas.List.{take_all}
use Rattle.std.proofs.lemmas.List.Elements.{All-more}
use Rattle.sg_names.specs.Grammar.{is_name}
use Rattle.session_threads.proofs.opening.pass_names.Goals as goal

pub loop-name-preserved : goal.loop-name-preserved
loop-name-preserved c =
    let P : List ℕ → Type 0 = λ t. IsTrue (is_name t) × IsUtf8 t in
    All-more P c.args.names.now c.loop-name.name-index c.name-item.result c.loop-name-test.true c.loop-name.invariant
    (subst P c.name-item.is (c.as_str.ensures.grammar, subst (λ (t : List ℕ). IsUtf8 t) c.as_str.ensures.value c.as_str.utf8))

pub returns : goal.returns
returns c =
    let A : List (List ℕ) → Type 0 = λ xs. All (λ (t : List ℕ). IsTrue (is_name t) × IsUtf8 t) xs in
    subst A (take_all c.loop-name.name-index c.args.names.now (omega (arith, c.loop-name-test.false))) c.loop-name.invariant
