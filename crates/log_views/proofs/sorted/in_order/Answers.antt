use Rattle.std.proofs.Common.{◌≡◌, rules}
use Rattle.std.specs.List.{dedup}
use Rattle.std.proofs.lemmas.Fn.{dedup_same}
use Rattle.log_views.proofs.Sorting.{tie_by, among_kept, sorted_kept}
use Rattle.log_views.proofs.sorted.in_order.Goals as goal

pub returns-clause-among : goal.returns-clause-among
returns-clause-among g c = λ x.
    let kept : c.dedup_by.new.self.items ≡ dedup (tie_by g.T.Named.name) c.sort.new.items.items = dedup_same _ (tie_by g.T.Named.name) _ (λ x y b f' x' y' k. search rules) _ _ c.dedup_by.ensures.filtered in
    among_kept g.T.Named.name c.args.items.items c.sort.new.items.items c.dedup_by.new.self.items x c.sort.ensures.permutation kept

pub returns-clause-sorted : goal.returns-clause-sorted
returns-clause-sorted g c =
    let kept : c.dedup_by.new.self.items ≡ dedup (tie_by g.T.Named.name) c.sort.new.items.items = dedup_same _ (tie_by g.T.Named.name) _ (λ x y b f' x' y' k. search rules) _ _ c.dedup_by.ensures.filtered in
    sorted_kept g.T.Named.name c.sort.new.items.items c.dedup_by.new.self.items c.sort.ensures.sorted kept
