use Rattle.std.proofs.Common.{◌≤◌, ◌^◌, ◌∙◌, ℕ, sym, ap, subst, arith, length}
use Rattle.std.specs.Prelude.{Option}
use Rattle.atomic_table.specs.Table.{Me, Splits}
use Rattle.seq_gate.specs.Passes.{split_from, split_off}
use Rattle.seq_gate.specs.Rule.{IsSound}
use Rattle.seq_gate.specs.Turns.{view_split_from, view_split_off}
use Rattle.seq_gate.specs.Views.{PassView}
use Rattle.seq_gate.specs.declared.known.View.{View}
use Rattle.seq_gate.proofs.Passing.{to_split}
use Rattle.seq_gate.proofs.Resting.{draws_split, draws_off, rests_as, rests}
use Rattle.seq_gate.proofs.pass.Pass.split.Goals as goal

pub split_seat-seat-requires : goal.split_seat-seat-requires
split_seat-seat-requires g c =
    let seat = c.self.inside.seat in
    let o = length (g.B.Kept.seen c.gate.inside.table.shared.key.value).log in
    let view = ap (λ (m : Me (Option g.row.B.Denot) View). m.0) c.self.invariant.me in (
      ap (λ (p : PassView). p.gate) c.self.view_is ∙ c.requires.here ∙ sym c.gate.view_is,
      (let counts = c.gate.invariant in omega arith),
      subst (λ (v : View). Splits (IsSound g.B.Kept.seen o) seat.id v (view_split_from v) (view_split_off v)) (sym view)
          (to_split g.B.Kept.seen o seat.id seat.me.0.knows (subst (λ (n : ℕ). 2 ^ 33 ≤ n) (sym (ap (λ (p : PassView). p.knows.left) c.self.view_is)) c.requires.left)),
    )

pub invariant_of-self : goal.invariant_of-self
invariant_of-self g c =
    let seat = c.self.inside.seat in
    let q = split_from seat.me.0.knows in
    let some = subst (λ (n : ℕ). 2 ^ 33 ≤ n) (sym (ap (λ (p : PassView). p.knows.left) c.self.view_is)) c.requires.left in
    rests _ q _ (rests_as seat.me _ q c.self.invariant.me c.split_seat-seat.ensures.2) (draws_split seat.me.0.knows _ c.self.invariant.draws some)

pub invariant_of-result : goal.invariant_of-result
invariant_of-result g c =
    let q = split_off c.self.inside.seat.me.0.knows in
    rests _ q _ c.split_seat-seat.ensures.4 (draws_off c.self.inside.seat.me.0.knows)
