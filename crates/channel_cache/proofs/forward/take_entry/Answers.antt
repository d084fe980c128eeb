use Rattle.std.proofs.Common.{◌∙◌, ap, sym, arith, Option}
use Rattle.std.specs.Prelude.{option_map}
use Rattle.log_index.specs.declared.documents.Document.{Document}
use Rattle.channel_cache.proofs.forward.take_entry.Goals as goal

pub take_write-requires-clause-winning : goal.take_write-requires-clause-winning
take_write-requires-clause-winning c = ap (λ (o : Option Document). option_map (λ (d : Document). d.winning) o) (sym c.after.ensures ∙ c.in-Some.is)

pub returns-in-None-clause-reads : goal.returns-in-None-clause-reads
returns-in-None-clause-reads c = omega (arith, c.take_other.ensures.reads, c.requires.low)

pub returns-in-Some-clause-reads : goal.returns-in-Some-clause-reads
returns-in-Some-clause-reads c = omega (arith, c.take_write.ensures.reads, c.requires.low)
