use Rattle.std.proofs.Common.{◌∙◌, rules}
use Rattle.std.specs.Ordering.{nat_cmp}
use Rattle.std.specs.Cmp.Lexicographic.{slice_cmp}
use Rattle.std.proofs.lemmas.Fn.{always_returns_same}
use Rattle.sync_meaning.proofs.Searched.{found_by_halves}
use Rattle.sync_meaning.proofs.arguments.has_name.Goals as goal

pub returns : goal.returns
returns c =
    c.is_ok.ensures.value
    ∙ found_by_halves (λ t. t.now) c.args.names.now c.args.name.now c.binary_search_by.result c.binary_search_by.ensures.bound
    (c.binary_search_by.ensures.position (λ n. slice_cmp nat_cmp n.now c.args.name.now) (always_returns_same _ _ _ (λ a r f' k. search rules)))
    c.requires
