use Rattle.std.proofs.Common.{◌∙◌, ◌<◌, suc, sym, ap, subst, arith, ℕ}
use Rattle.seq_gate.specs.Passes.{drawn}
use Rattle.seq_gate.specs.Views.{PassView}
use Rattle.seq_gate.proofs.Keeping.{to_draw}
use Rattle.seq_gate.proofs.Resting.{draws_less, rests_as, rests}
use Rattle.seq_gate.proofs.pass.Pass.draw.Goals as goal

pub fetch_add-last-requires : goal.fetch_add-last-requires
fetch_add-last-requires g c = (
  ap (λ (p : PassView). p.gate) c.self.view_is ∙ c.requires.here ∙ sym c.gate.view_is,
  (let counts = c.gate.invariant in omega arith),
  to_draw g.B.Kept.seen _ _ _ _ _ (subst (λ (n : ℕ). 0 < n) (sym (ap (λ (p : PassView). p.knows.left) c.self.view_is)) c.requires.left),
)

pub invariant_of-self : goal.invariant_of-self
invariant_of-self g c =
    let seat = c.self.inside.seat in
    let q = drawn seat.me.0.knows (suc c.fetch_add-last.result) in
    let some = subst (λ (n : ℕ). 0 < n) (sym (ap (λ (p : PassView). p.knows.left) c.self.view_is)) c.requires.left in
    rests _ q _ (rests_as seat.me _ q c.self.invariant.me c.fetch_add-last.ensures.2.0) (draws_less seat.me.0.knows _ _ c.self.invariant.draws some)
