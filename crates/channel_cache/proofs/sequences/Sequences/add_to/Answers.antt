use Rattle.std.proofs.Common.{◌∙◌, ap, sym, Bool, ◌||◌, ◌++◌, ℕ, List}
use Rattle.channel_cache.specs.Stands.{has}
use Rattle.channel_cache.proofs.Having.{has_append, held_alone}
use Rattle.channel_cache.proofs.sequences.Sequences.add_to.Goals as goal

pub returns-clause-found : goal.returns-clause-found
returns-clause-found c = λ s.
    let l = c.gather.new.self in
    ap (λ (xs : List ℕ). has xs s) (c.in_ok-extend_from_slice.ensures.items ∙ ap (λ (xs : List ℕ). c.args.found.now.items ++ xs) c.as_slice.ensures.value)
    ∙ has_append c.args.found.now.items l.list.items s
    ∙ ap (λ (b : Bool). has c.args.found.now.items s || b)
    (sym (held_alone l.list.items l.left.items l.entered.items s c.in_ok-gather.ensures.left c.in_ok-gather.ensures.entered) ∙ c.in_ok-gather.ensures.same s)
