use Rattle.std.proofs.Common.{ap, rules, ◌∙◌}
use Rattle.sg_history.specs.Pieces.{pieces}
use Rattle.sg_history.proofs.PieceLemmas.{pieces-cut, pieces-lacking}
use Rattle.sg_history.proofs.Places.{cut_at, if_none, lacks_everywhere}
use Rattle.sg_history.proofs.pieces.cut.Goals as goal

pub returns-in_err-place-clause-none : goal.returns-in_err-place-clause-none
returns-in_err-place-clause-none c = if_none c.from_residual.result (lacks_everywhere c.args.at c.args.text.now c.in_err-place.ensures)

pub returns-in_err-place-clause-pieces : goal.returns-in_err-place-clause-pieces
returns-in_err-place-clause-pieces c =
    let lacking = lacks_everywhere c.args.at c.args.text.now c.in_err-place.ensures in
    let one = pieces-lacking c.args.at c.args.text.now lacking in
    search (rules, one)

pub returns-clause-some : goal.returns-clause-some
returns-clause-some c = cut_at c.args.at c.args.text.now c.in_ok-place.place c.in_ok-place.ensures.0 c.in_ok-place.ensures.1

pub returns-clause-pieces : goal.returns-clause-pieces
returns-clause-pieces c =
    let cut = cut_at c.args.at c.args.text.now c.in_ok-place.place c.in_ok-place.ensures.0 c.in_ok-place.ensures.1 in
    ap (pieces c.args.at) cut.0 ∙ pieces-cut c.args.at _ _ cut.1
