use Rattle.std.proofs.Common.{◌≡◌, ◌∙◌, sym, ap, subst, refl, length}
use Rattle.std.specs.Prelude.{IsSome, Option}
use Rattle.std.proofs.lemmas.Option.{same_Some}
use Rattle.atomic_table.specs.Table.{Me}
use Rattle.seq_gate.specs.Passes.{share, Closes}
use Rattle.seq_gate.specs.Views.{PassView}
use Rattle.seq_gate.specs.declared.known.View.{View}
use Rattle.seq_gate.proofs.Passing.{closed_board}
use Rattle.seq_gate.proofs.gate.close.Goals as goal

pub unwrap-requires : goal.unwrap-requires
unwrap-requires g c =
    let seat = c.pass.inside.seat in
    let o = length (g.B.Kept.seen c.gate.inside.table.shared.key.value).log in
    let view = ap (λ (m : Me (Option g.row.B.Denot) View). m.0) c.pass.invariant.me in
    let b = closed_board g.B.Kept.seen o seat.id seat.me.0.knows seat.me.0 _ _ c.take-board.result view c.close_with-closed.ensures.values.2 c.take-board.ensures.value
    (ap (λ (p : PassView). share p.knows) c.pass.view_is ∙ c.requires.whole) (ap (λ (p : PassView). p.knows.held) c.pass.view_is ∙ c.requires.held) (ap (λ (p : PassView). p.knows.rooms) c.pass.view_is ∙ c.requires.rooms) in
    subst (λ (r : Option g.row.B.Denot). IsSome r) (sym b.1) refl

pub returns : goal.returns
returns g c =
    let seat = c.pass.inside.seat in
    let o = length (g.B.Kept.seen c.gate.inside.table.shared.key.value).log in
    let view = ap (λ (m : Me (Option g.row.B.Denot) View). m.0) c.pass.invariant.me in
    let b = closed_board g.B.Kept.seen o seat.id seat.me.0.knows seat.me.0 _ _ c.take-board.result view c.close_with-closed.ensures.values.2 c.take-board.ensures.value
    (ap (λ (p : PassView). share p.knows) c.pass.view_is ∙ c.requires.whole) (ap (λ (p : PassView). p.knows.held) c.pass.view_is ∙ c.requires.held) (ap (λ (p : PassView). p.knows.rooms) c.pass.view_is ∙ c.requires.rooms) in
    let same : b.0 ≡ c.unwrap.result = same_Some b.0 c.unwrap.result (sym b.1 ∙ c.unwrap.ensures) in
    subst (λ (x : g.row.B.Denot). Closes c.args.pass.knows (g.B.Kept.seen x)) same (subst (λ (p : PassView). Closes p.knows (g.B.Kept.seen b.0)) c.pass.view_is b.2)
