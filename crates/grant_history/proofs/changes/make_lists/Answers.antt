use Rattle.std.proofs.Common.{◌≡◌, ◌∙◌, sym, ap, subst, refl, arith, List, ℕ, take, true}
use Rattle.std.specs.Prelude.{is_some}
use Rattle.std.specs.BTreeMap.{get_by_text}
use Rattle.grant_history.specs.inner.Changes.{AreKept, DocumentFacts, facts_in_change, facts_in_changes}
use Rattle.grant_history.proofs.Changing.{all_taken, count_same, kept_more, next_change, take_next}
use Rattle.grant_history.proofs.changes.make_lists.Goals as goal

pub loop-change-init : goal.loop-change-init
loop-change-init c = record { there = tt; lists = λ other. refl }

pub loop-change-preserved : goal.loop-change-preserved
loop-change-preserved c =
    let xs = c.args.changes.now in
    let all = facts_in_changes xs in
    let i = c.loop-change.change-index in
    let x = c.change-item.result in
    let at = next_change xs i x all refl (omega arith) c.change-item.is in
    let there : is_some (get_by_text c.make_if_absent.new.lists x.doc.now) ≡ true =
    ap (λ (n : List ℕ). is_some (get_by_text c.make_if_absent.new.lists n)) (sym c.as_str.ensures.value) ∙ c.in_ok-make_if_absent.ensures.there in
    record {
      there = subst (λ (l : List DocumentFacts). AreKept c.make_if_absent.new.lists l) (sym (take_next all i (facts_in_change x) at))
          (kept_more c.loop-change.lists c.make_if_absent.new.lists (take i all) (facts_in_change x) c.loop-change.invariant.there c.make_if_absent.ensures.kept there);
      lists = λ other. c.make_if_absent.ensures.lists other ∙ c.loop-change.invariant.lists other;
    }

pub returns-clause-there : goal.returns-clause-there
returns-clause-there c =
    let all = facts_in_changes c.args.changes.now in
    subst (λ (l : List DocumentFacts). AreKept c.loop-change.lists l) (all_taken all c.loop-change.change-index (omega (arith, c.loop-change-test.false, count_same c.args.changes.now all refl))) c.loop-change.invariant.there
