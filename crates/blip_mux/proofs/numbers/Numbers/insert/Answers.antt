use Rattle.std.proofs.Common.{ap, ◌∙◌}
use Rattle.std.specs.FinSet as set
use Rattle.blip_mux.proofs.Sets.{inserted}
use Rattle.blip_mux.proofs.numbers.Numbers.insert.Goals as goal
use Rattle.blip_mux.proofs.numbers.Numbers.insert.Goals.{in-Ok, in-Err}

pub returns-clause-ok : goal.returns-clause-ok
returns-clause-ok c = elim c.match-insert.branch [
  | in-Ok w ↦
      rw w.result-is
      (inserted c.self.inside.numbers.keys c.insert.new.self.keys c.args.number w.in-Ok.ensures.updates.0
      ∙ ap (λ s. set.insert s c.args.number) c.self.view_is)
  | in-Err w ↦ rw w.result-is tt
]
