use Rattle.std.proofs.Common.{◌≡◌, rules}
use Rattle.std.specs.Prelude.{Result, Ok, Err, OnOk}
use Rattle.std.proofs.lemmas.Fn.{always_returns_same}
use Rattle.std.proofs.lemmas.List.MinMax.{ranks_by}
use Rattle.std.proofs.lemmas.Cmp.{nat_list_cmp_total}
use Rattle.log_views.proofs.sorted.sort.Goals as goal

-- what holds on success holds where there is one
on_success : {A E : Type 0} (r : Result A E) (x : A) (P : Type 0) → r ≡ Ok x → OnOk r P → P
on_success (Ok y) x P is h = h
on_success (Err e) x P is h = cc is

pub returns-in-Ok-clause-sorted : goal.returns-in-Ok-clause-sorted
returns-in-Ok-clause-sorted g c =
    on_success c.sort_by.result _ _ c.in-Ok.is c.sort_by.ensures.sorted _ (ranks_by nat_list_cmp_total g.T.Named.name) (always_returns_same _ _ _ (λ a r f' k. search rules))

pub returns-in-Err-clause-sorted : goal.returns-in-Err-clause-sorted
returns-in-Err-clause-sorted g c =
    c.sort_unstable_by.ensures.sorted _ (ranks_by nat_list_cmp_total g.T.Named.name) (always_returns_same _ _ _ (λ a r f' k. search rules))
