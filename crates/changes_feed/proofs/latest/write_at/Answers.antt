use Rattle.std.proofs.Common.{◌∙◌, sym, ap}
use Rattle.std.specs.Option.{option_copied}
use Rattle.std.proofs.lemmas.Option.{none-some}
use Rattle.log_views.specs.At.{written}
use Rattle.changes_feed.proofs.latest.write_at.Goals as goal

pub unreachable-requires : goal.unreachable-requires
unreachable-requires c =
    none-some c.requires.is_write.0 (sym (ap (λ o. option_copied o) c.in-None.is) ∙ c.as_write.ensures.write ∙ sym (ap written c.entry.ensures.entry) ∙ c.requires.is_write.1)

pub returns-clause-write : goal.returns-clause-write
returns-clause-write c = ap written c.entry.ensures.entry ∙ sym c.as_write.ensures.write ∙ ap (λ o. option_copied o) c.in-Some.is
