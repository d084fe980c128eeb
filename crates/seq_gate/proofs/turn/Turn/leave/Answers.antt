use Rattle.std.proofs.Common.{◌∙◌, sym, ap, arith, subst, ◌+◌, ◌^◌, ◌%◌, max, length}
use Rattle.std.specs.Prelude.{Option}
use mathlib.Core.Option.{none}
use Rattle.atomic_table.specs.Table.{Allows, Me, step}
use Rattle.seq_gate.specs.Passes.{after_turn, MayLeave}
use Rattle.seq_gate.specs.Resting.{found_of}
use Rattle.seq_gate.specs.Rule.{IsSound}
use Rattle.seq_gate.specs.Turns.{Raises, Passes}
use Rattle.seq_gate.specs.Views.{TurnView}
use Rattle.seq_gate.specs.declared.known.View.{View}
use Rattle.seq_gate.proofs.Keeping.{to_raise, to_pass}
use Rattle.seq_gate.proofs.Resting.{draws_after, rests, put_in, raised_seat, passed_seat}
use Rattle.seq_gate.proofs.turn.Turn.leave.Goals as goal

pub fetch_max-raised-requires : goal.fetch_max-raised-requires
fetch_max-raised-requires g c =
    let i = c.self.invariant in
    let p = c.self.inside.seat.me.0.knows in
    let found = found_of c.self.inside.seat.me.0.found in
    let board = c.self.inside.board in
    let slots = c.gate.inside.table.shared.table_id.slots in
    let o = length (g.B.Kept.seen c.gate.inside.table.shared.key.value).log in
    let me = put_in g.B.Kept.seen p i.ticket found board _ c.exchange-none.new.seat.me i.me c.exchange-none.ensures.3 in
    let may = subst (λ (t : TurnView g.row.B.Denot). MayLeave t.knows t.found (g.B.Kept.seen t.board)) (sym c.self.view_is) c.requires.may in (
      c.exchange-none.ensures.0 ∙ ap (λ (t : TurnView g.row.B.Denot). t.gate) c.self.view_is ∙ c.requires.here ∙ sym c.gate.view_is,
      (let counts = c.gate.invariant in omega arith),
      subst (λ (m : Me (Option g.row.B.Denot) View). Allows (IsSound g.B.Kept.seen o) slots c.exchange-none.new.seat.id m 3 (λ n. max n c.front-front.result) (Raises g.B.Kept.seen (step slots 3 c.front-front.result 0 none) m)) (sym me)
          (to_raise g.B.Kept.seen o slots _ c.boards.ensures.itself c.boards.ensures.again p i.ticket found board c.front-front.result c.front-front.ensures may i.draws.least),
    )

pub fetch_add-served-requires : goal.fetch_add-served-requires
fetch_add-served-requires g c =
    let i = c.self.invariant in
    let p = c.self.inside.seat.me.0.knows in
    let found = found_of c.self.inside.seat.me.0.found in
    let board = c.self.inside.board in
    let slots = c.gate.inside.table.shared.table_id.slots in
    let o = length (g.B.Kept.seen c.gate.inside.table.shared.key.value).log in
    let me = put_in g.B.Kept.seen p i.ticket found board _ c.exchange-none.new.seat.me i.me c.exchange-none.ensures.3 in
    let q = after_turn p found (g.B.Kept.seen board) in
    let raised = raised_seat g.B.Kept.seen p i.ticket found board slots c.front-front.result c.fetch_max-raised.result _ c.fetch_max-raised.new.seat.me me c.fetch_max-raised.ensures.2 in (
      c.fetch_max-raised.ensures.0 ∙ c.exchange-none.ensures.0 ∙ ap (λ (t : TurnView g.row.B.Denot). t.gate) c.self.view_is ∙ c.requires.here ∙ sym c.gate.view_is,
      (let counts = c.gate.invariant in omega arith),
      subst (λ (m : Me (Option g.row.B.Denot) View). Allows (IsSound g.B.Kept.seen o) slots c.fetch_max-raised.new.seat.id m 2 (λ n. (n + 1) % 2 ^ 64) (Passes (step slots 2 1 0 none) m)) (sym raised)
          (to_pass g.B.Kept.seen o slots _ q i.ticket i.draws.least),
    )

pub invariant_of-result : goal.invariant_of-result
invariant_of-result g c =
    let i = c.self.invariant in
    let p = c.self.inside.seat.me.0.knows in
    let found = found_of c.self.inside.seat.me.0.found in
    let board = c.self.inside.board in
    let slots = c.gate.inside.table.shared.table_id.slots in
    let me = put_in g.B.Kept.seen p i.ticket found board _ c.exchange-none.new.seat.me i.me c.exchange-none.ensures.3 in
    let q = after_turn p found (g.B.Kept.seen board) in
    let raised = raised_seat g.B.Kept.seen p i.ticket found board slots c.front-front.result c.fetch_max-raised.result _ c.fetch_max-raised.new.seat.me me c.fetch_max-raised.ensures.2 in
    rests _ q _ (passed_seat g.B.Kept.seen q i.ticket slots c.fetch_add-served.result _ c.fetch_add-served.new.seat.me raised c.fetch_add-served.ensures.2) (draws_after p _ found (g.B.Kept.seen board) i.draws)

pub returns-clause-knows : goal.returns-clause-knows
returns-clause-knows g c =
    let i = c.self.invariant in
    let p = c.self.inside.seat.me.0.knows in
    let found = found_of c.self.inside.seat.me.0.found in
    let board = c.self.inside.board in
    let slots = c.gate.inside.table.shared.table_id.slots in
    let me = put_in g.B.Kept.seen p i.ticket found board _ c.exchange-none.new.seat.me i.me c.exchange-none.ensures.3 in
    let q = after_turn p found (g.B.Kept.seen board) in
    let raised = raised_seat g.B.Kept.seen p i.ticket found board slots c.front-front.result c.fetch_max-raised.result _ c.fetch_max-raised.new.seat.me me c.fetch_max-raised.ensures.2 in
    ap (λ (m : Me (Option g.row.B.Denot) View). m.0.knows) (passed_seat g.B.Kept.seen q i.ticket slots c.fetch_add-served.result _ c.fetch_add-served.new.seat.me raised c.fetch_add-served.ensures.2)
    ∙ ap (λ (t : TurnView g.row.B.Denot). after_turn t.knows t.found (g.B.Kept.seen t.board)) c.self.view_is
