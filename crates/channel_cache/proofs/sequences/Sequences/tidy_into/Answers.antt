use Rattle.std.proofs.Common.{◌∙◌, ap, sym, Bool, ◌||◌}
use Rattle.channel_cache.specs.Stands.{has}
use Rattle.channel_cache.proofs.Changing.{on_ok, on_two}
use Rattle.channel_cache.proofs.sequences.Sequences.tidy_into.Goals as goal

pub returns-clause-same : goal.returns-clause-same
returns-clause-same c = on_ok c.add_to.result _ _ (λ same s. same s ∙ c.in_ok-tidy.ensures s) c.add_to.ensures.same

pub returns-clause-found : goal.returns-clause-found
returns-clause-found c = on_two c.add_to.result _ _ _ (λ found same s. found s ∙ ap (λ (b : Bool). has c.args.found.now.items s || b) (sym (same s))) c.add_to.ensures.found c.add_to.ensures.same
