use Rattle.std.proofs.Common.{◌≡◌, ◌∙◌, ap, rules, ℕ, List}
use Rattle.std.specs.Prelude.{filter}
use Rattle.std.proofs.lemmas.Fn.{filter_same}
use Rattle.channel_cache.specs.inner.Counting.{counts_at}
use Rattle.channel_cache.specs.Stands.{has}
use Rattle.channel_cache.proofs.Having.{has_filter}
use Rattle.channel_cache.proofs.sequences.keep_counted.Goals as goal

pub returns : goal.returns
returns c = λ n.
    let is : c.retain.new.self.items ≡ filter (counts_at c.args.index.now c.args.place) c.args.list.now.items =
    filter_same _ (counts_at c.args.index.now c.args.place) _ (λ x b f' k. search rules) _ _ c.retain.ensures.filtered in
    ap (λ (l : List ℕ). has l n) is ∙ has_filter (counts_at c.args.index.now c.args.place) c.args.list.now.items n
