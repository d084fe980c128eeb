use Rattle.std.proofs.Common.{◌≡◌, ◌∙◌, sym, ap, subst, eqb, ℕ, List}
use Rattle.std.specs.List.{dedup}
use Rattle.std.specs.List.Sorted.{IsStrictlyIncreasing}
use Rattle.std.proofs.lemmas.List.Filters.{dedup_is}
use Rattle.std.proofs.lemmas.Map.Keys.{IsStrictlyIncreasing-dedup}
use Rattle.channel_cache.specs.Stands.{has}
use Rattle.channel_cache.proofs.Having.{has_dedup, has_moved}
use Rattle.channel_cache.proofs.order.in_order.Goals as goal

pub returns-clause-has : goal.returns-clause-has
returns-clause-has c = λ n.
    let is : c.dedup.new.self.items ≡ dedup eqb c.sort_unstable.new.self.items = dedup_is _ _ _ c.dedup.ensures.filtered in
    ap (λ (l : List ℕ). has l n) is ∙ has_dedup c.sort_unstable.new.self.items n ∙ has_moved _ _ n c.sort_unstable.ensures.permutation

pub returns-clause-rises : goal.returns-clause-rises
returns-clause-rises c =
    let is : c.dedup.new.self.items ≡ dedup eqb c.sort_unstable.new.self.items = dedup_is _ _ _ c.dedup.ensures.filtered in
    subst (λ (l : List ℕ). IsStrictlyIncreasing l) (sym is) (IsStrictlyIncreasing-dedup c.sort_unstable.new.self.items c.sort_unstable.ensures.sorted)
