use Rattle.std.proofs.Common.{◌∙◌, ◌<◌, suc, sym, ap, subst, arith, ℕ}
use Rattle.seq_gate.specs.Passes.{drawn_in_turn}
use Rattle.seq_gate.specs.Views.{TurnView}
use Rattle.seq_gate.proofs.Keeping.{to_draw_in_turn}
use Rattle.seq_gate.proofs.Resting.{draws_less_in_turn, serves_as, serves}
use Rattle.seq_gate.proofs.turn.Turn.draw.Goals as goal

pub fetch_add-last-requires : goal.fetch_add-last-requires
fetch_add-last-requires g c = (
  ap (λ (t : TurnView g.row.B.Denot). t.gate) c.self.view_is ∙ c.requires.here ∙ sym c.gate.view_is,
  (let counts = c.gate.invariant in omega arith),
  to_draw_in_turn g.B.Kept.seen _ _ _ _ _ (subst (λ (n : ℕ). 0 < n) (sym (ap (λ (t : TurnView g.row.B.Denot). t.knows.left) c.self.view_is)) c.requires.left),
)

pub invariant_of-self : goal.invariant_of-self
invariant_of-self g c =
    let seat = c.self.inside.seat in
    let i = c.self.invariant in
    let q = drawn_in_turn seat.me.0.knows (suc c.fetch_add-last.result) in
    let some = subst (λ (n : ℕ). 0 < n) (sym (ap (λ (t : TurnView g.row.B.Denot). t.knows.left) c.self.view_is)) c.requires.left in
    serves _ q i.ticket _ _ (serves_as seat.me _ q i.ticket _ i.me c.fetch_add-last.ensures.2.0) (draws_less_in_turn seat.me.0.knows _ _ i.draws some)
