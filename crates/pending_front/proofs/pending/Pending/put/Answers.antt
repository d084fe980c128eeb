use Rattle.std.proofs.Common.{◌≡◌, ◌<◌, ◌∷◌, ◌∙◌, ℕ, cond, None, Some, nat_eq, sym, ap, subst}
use Rattle.std.specs.Prelude.{IsOk, IsPermutation}
use Rattle.std.specs.Map.{lookup}
use Rattle.sg_history.specs.Book.{waiting_at}
use Rattle.sg_history.specs.World.{put_waiting}
use Rattle.pending_front.specs.ByNumber.{rising}
use Rattle.pending_front.specs.Pending.{Reserved}
use Rattle.pending_front.proofs.Numbered.{ok_gives, put_moved, put_in, put_in_rises}
use Rattle.pending_front.proofs.pending.Pending.put.Goals as goal

is_free : (c : goal.After-drop) → waiting_at (rising c.self.inside.held.entries) c.args.sequence ≡ None
is_free c = subst (λ (r : Reserved). waiting_at r.waiting c.args.sequence ≡ None) (sym c.self.view_is) c.requires.free

is_put : (c : goal.After-drop) → IsOk c.insert.result
is_put c = c.insert.ensures.succeeds (subst (λ (r : Reserved). 0 < r.spare) (sym c.self.view_is) c.requires.place)

is_moved : (c : goal.After-drop) → IsPermutation ((c.args.sequence, c.args.entry) ∷ c.self.inside.held.entries) c.insert.new.self.entries
is_moved c =
    put_moved c.insert.result c.args.sequence c.args.entry c.self.inside.held.entries c.insert.new.self.entries (is_put c) c.insert.ensures.old c.insert.ensures.entries c.self.invariant (is_free c)

is_found : (c : goal.After-drop) → (q : ℕ) → lookup (nat_eq q) c.insert.new.self.entries ≡ cond (nat_eq c.args.sequence q) (Some c.args.entry) (lookup (nat_eq q) c.self.inside.held.entries)
is_found c = (ok_gives c.insert.result (is_put c) c.insert.ensures.updates).0

pub invariant_of-self : goal.invariant_of-self
invariant_of-self c =
    put_in_rises c.args.sequence c.args.entry c.self.inside.held.entries c.insert.new.self.entries (is_moved c) (is_found c) c.self.invariant c.requires.from (is_free c)

pub returns-clause-waiting : goal.returns-clause-waiting
returns-clause-waiting c =
    put_in c.args.sequence c.args.entry c.self.inside.held.entries c.insert.new.self.entries (is_moved c) (is_found c) c.self.invariant c.requires.from (is_free c)
    ∙ ap (λ (r : Reserved). put_waiting (record { number = c.args.sequence; entry = c.args.entry }) r.waiting) c.self.view_is
