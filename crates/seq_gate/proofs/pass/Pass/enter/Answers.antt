use Rattle.std.proofs.Common.{◌≡◌, ◌≤◌, ◌∙◌, ◌^◌, ◌%◌, ◌+◌, sym, ap, arith, subst, ℕ, List, [], ◌∷◌}
use Rattle.std.specs.Prelude.{Option, Some, length}
use mathlib.Core.Option.{none}
use Rattle.atomic_table.specs.Table.{Allows, Me, step, rest}
use Rattle.seq_gate.specs.Passes.{share}
use Rattle.seq_gate.specs.Rule.{IsSound}
use Rattle.seq_gate.specs.Turns.{TakesTicket, Looks}
use Rattle.seq_gate.specs.Views.{PassView}
use Rattle.seq_gate.specs.declared.known.View.{View}
use Rattle.seq_gate.proofs.Keeping.{to_ticket, to_look}
use Rattle.seq_gate.proofs.Resting.{found_turn}
use Rattle.seq_gate.proofs.pass.Pass.enter.Goals as goal

pub fetch_add-ticket-requires : goal.fetch_add-ticket-requires
fetch_add-ticket-requires g c =
    let seat = c.self.inside.seat in
    let slots = c.gate.inside.table.shared.table_id.slots in
    let o = length (g.B.Kept.seen c.gate.inside.table.shared.key.value).log in (
      ap (λ (p : PassView). p.gate) c.self.view_is ∙ c.requires.here ∙ sym c.gate.view_is,
      (let counts = c.gate.invariant in omega arith),
      subst (λ (m : Me (Option g.row.B.Denot) View). Allows (IsSound g.B.Kept.seen o) slots seat.id m 1 (λ n. (n + 1) % 2 ^ 64) (TakesTicket (step slots 1 1 0 none) m)) (sym c.self.invariant.me)
          (to_ticket g.B.Kept.seen o slots seat.id seat.me.0.knows c.self.invariant.draws.least),
    )

pub load-served-requires : goal.load-served-requires
load-served-requires g c =
    let slots = c.gate.inside.table.shared.table_id.slots in
    let o = length (g.B.Kept.seen c.gate.inside.table.shared.key.value).log in
    let n = c.loop.invariant.3.0 in
    let least = subst (λ (p : PassView). 2 ^ 32 ≤ share p.knows) c.self.view_is c.self.invariant.draws.least in (
      c.loop.invariant.2 ∙ c.requires.here ∙ sym c.gate.view_is,
      (let counts = c.gate.invariant in omega arith),
      subst (λ (m : Me (Option g.row.B.Denot) View). Allows (IsSound g.B.Kept.seen o) slots c.loop.seat.id m 2 (λ n. n) (Looks g.B.Kept.seen (step slots 2 0 0 none) m)) (sym c.loop.invariant.3.2)
          (to_look g.B.Kept.seen o slots c.loop.seat.id c.args.self.knows n least),
    )

pub exchange-requires : goal.exchange-requires
exchange-requires g c =
    let i = c.loop.invariant.3 in
    let t = found_turn g.B.Kept.seen c.args.self.knows 0 i.0 c.load-served.result _ c.load-served.new.seat.me i.2 (c.if-served-ticket.true ∙ i.1) c.load-served.ensures.2 in
    let carried : c.load-served.new.seat.me.1 ≡ (0, Some t.0) ∷ [] = ap (λ (m : Me (Option g.row.B.Denot) View). m.1) t.2 in (
      c.load-served.ensures.0 ∙ c.loop.invariant.2 ∙ c.requires.here ∙ sym c.gate.view_is,
      (Some t.0, carried ∙ ap (λ (l : List (ℕ × Option g.row.B.Denot)). (0, Some t.0) ∷ rest l) (sym carried)),
    )

pub loop-preserved : goal.loop-preserved
loop-preserved g c =
    let i = c.loop.invariant.3 in
    let looks = c.load-served.ensures.2 i.0 (ap (λ (m : Me (Option g.row.B.Denot) View). m.0.ticket) i.2) in
    let same = looks.1 (λ e. c.if-served-ticket.false (e ∙ sym i.1)) in
    (tt, tt, c.load-served.ensures.0 ∙ c.loop.invariant.2, (i.0, i.1, same ∙ i.2))
