use Rattle.std.proofs.Common.{◌≡◌, ◌∙◌, ℕ, List, Bor, rules}
use Rattle.std.specs.List.{dedup}
use Rattle.std.proofs.lemmas.Cmp.{nat_list_cmp_total}
use Rattle.std.proofs.lemmas.Fn.{always_returns_same, dedup_same}
use Rattle.std.proofs.lemmas.List.MinMax.{ranks_by}
use Rattle.sync_meaning.proofs.Sorting.{tie_by, same_kept, sorted_kept}
use Rattle.sync_meaning.proofs.arguments.in_order.Goals as goal

abbrev text : Bor (List ℕ) → List ℕ
text t = t.now

pub returns-clause-same : goal.returns-clause-same
returns-clause-same c =
    let kept : c.shrink_to_fit.new.self.items ≡ dedup (tie_by text) c.sort_by.new.self.items = c.shrink_to_fit.ensures.items ∙ dedup_same _ (tie_by text) _ (λ x y b f' x' y' k. search rules) _ _ c.dedup_by.ensures.filtered in
    same_kept text c.args.names.items c.sort_by.new.self.items c.shrink_to_fit.new.self.items c.in_ok-sort_by.ensures.permutation kept

pub returns-clause-sorted : goal.returns-clause-sorted
returns-clause-sorted c =
    let kept : c.shrink_to_fit.new.self.items ≡ dedup (tie_by text) c.sort_by.new.self.items = c.shrink_to_fit.ensures.items ∙ dedup_same _ (tie_by text) _ (λ x y b f' x' y' k. search rules) _ _ c.dedup_by.ensures.filtered in
    sorted_kept text c.sort_by.new.self.items c.shrink_to_fit.new.self.items
    (c.in_ok-sort_by.ensures.sorted _ (ranks_by nat_list_cmp_total text) (always_returns_same _ _ _ (λ a r f' k. search rules))) kept
