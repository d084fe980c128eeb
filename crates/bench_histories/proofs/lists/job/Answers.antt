use Rattle.std.proofs.Common.{◌≡◌, ◌∙◌, List, length, reverse, sym, ap, subst, arith}
use Rattle.std.proofs.lemmas.List.{take_all}
use Rattle.sg_history.specs.declared.entries.Entry.{Entry}
use Rattle.grant_history.specs.Stands.{StandsFor}
use Rattle.bench_histories.proofs.lists.job.Goals as goal

pub by_index-requires : goal.by_index-requires
by_index-requires g c =
    let entries = c.in_ok-log.log.entries.list in
    let stands : StandsFor c.apply.new.self entries = subst (λ (es : List Entry). StandsFor c.apply.new.self es) c.new.ensures.entries c.in_ok-apply.ensures.stands in
    let applied : c.apply.new.self.applied ≡ length entries = omega (arith, c.in_ok-apply.ensures.ok, c.new-history.ensures.applied, c.len.ensures) in
    let is = c.index.ensures.whole entries stands applied in
    (length entries, omega arith, omega arith, is ∙ sym (ap (λ (es : List Entry). reverse es) (take_all (length entries) entries (omega arith))))
