use Rattle.std.proofs.Common.{◌≡◌, ◌≤◌, ◌<◌, ◌∷◌, ℕ, None, sym, subst}
use Rattle.std.specs.Prelude.{IfSome, IfNone}
use Rattle.sg_history.specs.Book.{waiting_at}
use Rattle.pending_front.specs.ByNumber.{rising}
use Rattle.pending_front.specs.Pending.{Reserved}
use Rattle.pending_front.proofs.Numbered.{taken_rises, taken_some, taken_none}
use Rattle.pending_front.proofs.pending.Pending.take.Goals as goal

is_lowest : (c : goal.After-remove) → (m : ℕ) → 1 ≤ m → m < c.args.number → waiting_at (rising c.self.inside.held.entries) m ≡ None
is_lowest c =
    subst (λ (r : Reserved). (m : ℕ) → 1 ≤ m → m < c.args.number → waiting_at r.waiting m ≡ None) (sym c.self.view_is) c.requires.lowest

pub invariant_of-self : goal.invariant_of-self
invariant_of-self c =
    taken_rises c.args.number c.self.inside.held.entries c.remove.new.self.entries c.remove.ensures.entries c.remove.ensures.updates.0 c.self.invariant

pub returns-clause-some : goal.returns-clause-some
returns-clause-some c =
    subst (λ (r : Reserved). IfSome c.remove.result (λ e. r.waiting ≡ record { number = c.args.number; entry = e } ∷ rising c.remove.new.self.entries)) c.self.view_is
    (taken_some c.args.number c.self.inside.held.entries c.remove.new.self.entries c.remove.ensures.entries c.remove.ensures.updates.0 c.self.invariant (is_lowest c) c.remove.result c.remove.ensures.value)

pub returns-clause-none : goal.returns-clause-none
returns-clause-none c =
    subst (λ (r : Reserved). IfNone c.remove.result (waiting_at r.waiting c.args.number ≡ None)) c.self.view_is
    (taken_none c.args.number c.self.inside.held.entries c.remove.new.self.entries c.remove.ensures.entries c.remove.ensures.updates.0 c.self.invariant (is_lowest c) c.remove.result c.remove.ensures.value)
