use Rattle.std.proofs.Common.{◌∙◌, rules}
use Rattle.std.specs.Ordering.{nat_cmp}
use Rattle.std.specs.Cmp.Lexicographic.{slice_cmp}
use Rattle.std.proofs.lemmas.Fn.{always_returns_same}
use Rattle.log_views.proofs.Searched.{found_by_halves}
use Rattle.log_views.proofs.sorted.has_name.Goals as goal

pub returns : goal.returns
returns g c =
    c.is_ok.ensures.value
    ∙ found_by_halves g.T.Named.name c.args.names.now c.args.name.now c.binary_search_by.result c.binary_search_by.ensures.bound
    (c.binary_search_by.ensures.position (λ n. slice_cmp nat_cmp (g.T.Named.name n) c.args.name.now) (always_returns_same _ _ _ (λ a r f' k. search rules)))
    c.requires
