use Rattle.std.proofs.Common.{◌≡◌, ◌∙◌, ap, rules, ℕ, List, Bool, ◌&&◌, not}
use Rattle.std.specs.Prelude.{filter}
use Rattle.std.proofs.lemmas.Fn.{filter_same}
use Rattle.channel_cache.specs.Stands.{has}
use Rattle.channel_cache.proofs.Having.{has_filter, has_moved}
use Rattle.channel_cache.proofs.sequences.take_out.Goals as goal

pub returns-clause-list : goal.returns-clause-list
returns-clause-list c = λ n.
    let gone = c.sort_unstable.new.self.items in
    let is : c.retain.new.self.items ≡ filter (λ s. not (has gone s)) c.args.list.now.items =
    filter_same _ (λ s. not (has gone s)) _ (λ x b f' k. search rules) _ _ c.retain.ensures.filtered in
    ap (λ (l : List ℕ). has l n) is
    ∙ has_filter (λ s. not (has gone s)) c.args.list.now.items n
    ∙ ap (λ (b : Bool). has c.args.list.now.items n && not b) (has_moved _ _ n c.sort_unstable.ensures.permutation)
