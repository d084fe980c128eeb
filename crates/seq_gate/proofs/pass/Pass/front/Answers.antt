use Rattle.std.proofs.Common.{◌∙◌, sym, ap, arith, subst, length}
use Rattle.std.specs.Prelude.{Option}
use mathlib.Core.Option.{none}
use Rattle.atomic_table.specs.Table.{Allows, Me, step}
use Rattle.seq_gate.specs.Passes.{with_lowest_front}
use Rattle.seq_gate.specs.Rule.{IsSound}
use Rattle.seq_gate.specs.Turns.{LoadsFront}
use Rattle.seq_gate.specs.Views.{PassView}
use Rattle.seq_gate.specs.declared.known.View.{View}
use Rattle.seq_gate.proofs.Keeping.{to_front}
use Rattle.seq_gate.proofs.Resting.{draws_lowest_front, rests_as, rests}
use Rattle.seq_gate.proofs.pass.Pass.front.Goals as goal

pub load-requires : goal.load-requires
load-requires g c =
    let seat = c.self.inside.seat in
    let slots = c.gate.inside.table.shared.table_id.slots in
    let o = length (g.B.Kept.seen c.gate.inside.table.shared.key.value).log in (
      ap (λ (p : PassView). p.gate) c.self.view_is ∙ c.requires.here ∙ sym c.gate.view_is,
      (let counts = c.gate.invariant in omega arith),
      subst (λ (m : Me (Option g.row.B.Denot) View). Allows (IsSound g.B.Kept.seen o) slots seat.id m 3 (λ n. n) (LoadsFront (step slots 3 0 0 none) m)) (sym c.self.invariant.me)
          (to_front g.B.Kept.seen o slots seat.id seat.me.0.knows c.self.invariant.draws.least),
    )

pub invariant_of-self : goal.invariant_of-self
invariant_of-self g c =
    let seat = c.self.inside.seat in
    let q = with_lowest_front seat.me.0.knows c.load.result in
    rests _ q _ (rests_as seat.me _ q c.self.invariant.me c.load.ensures.2.0) (draws_lowest_front seat.me.0.knows _ _ c.self.invariant.draws)
