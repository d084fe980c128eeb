use Rattle.std.proofs.Common.{◌∙◌, sym, ap, subst, arith, length}
use Rattle.std.specs.Prelude.{Option}
use Rattle.atomic_table.specs.Table.{Me, Joins}
use Rattle.seq_gate.specs.Passes.{HasEachOnce}
use Rattle.seq_gate.specs.Rule.{IsSound, idle, spent}
use Rattle.seq_gate.specs.Turns.{view_joined}
use Rattle.seq_gate.specs.Views.{PassView}
use Rattle.seq_gate.specs.declared.known.View.{View}
use Rattle.seq_gate.proofs.Keeping.{to_share}
use Rattle.seq_gate.proofs.Passing.{to_join}
use Rattle.seq_gate.proofs.pass.Pass.join.Goals as goal

pub join_seat-requires : goal.join_seat-requires
join_seat-requires g c =
    let one = c.self.inside.seat in
    let two = c.other.inside.seat in
    let o = length (g.B.Kept.seen c.gate.inside.table.shared.key.value).log in
    let view = ap (λ (m : Me (Option g.row.B.Denot) View). m.0) c.self.invariant.me in
    let its = ap (λ (m : Me (Option g.row.B.Denot) View). m.0) c.other.invariant.me in (
      ap (λ (p : PassView). p.gate) c.self.view_is ∙ c.requires.here ∙ sym c.gate.view_is,
      ap (λ (p : PassView). p.gate) c.other.view_is ∙ c.requires.other ∙ sym c.gate.view_is,
      ap (λ (m : Me (Option g.row.B.Denot) View). m.1) c.other.invariant.me,
      (let counts = c.gate.invariant in omega arith),
      subst (λ (v : View). Joins (IsSound g.B.Kept.seen o) one.id v two.id two.me.0 (view_joined v two.me.0) spent) (sym view)
          (subst (λ (w : View). Joins (IsSound g.B.Kept.seen o) one.id (idle one.me.0.knows) two.id w (view_joined (idle one.me.0.knows) w) spent) (sym its)
          (to_join g.B.Kept.seen o one.id two.id one.me.0.knows two.me.0.knows c.self.invariant.draws.least)),
    )

pub load-requires : goal.load-requires
load-requires g c = (
  c.join_seat.ensures.0 ∙ ap (λ (p : PassView). p.gate) c.self.view_is ∙ c.requires.here ∙ sym c.gate.view_is,
  (let counts = c.gate.invariant in omega arith),
  to_share g.B.Kept.seen _ _ _ _ _,
)

pub returns-clause-each : goal.returns-clause-each
returns-clause-each g c =
    subst (λ (m : Me (Option g.row.B.Denot) View). HasEachOnce m.0.knows) (sym c.load.ensures.2.0) c.load.ensures.2.2
