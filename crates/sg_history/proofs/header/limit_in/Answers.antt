use Rattle.std.proofs.Common.{◌≡◌, ◌∙◌, false, sym, Some}
use Rattle.sg_history.specs.Journal.{is_limit}
use Rattle.sg_history.proofs.Places.{if_none}
use Rattle.sg_history.proofs.Titles.{limit_of, no_range}
use Rattle.std.proofs.Common.{arith}
use Rattle.sg_history.proofs.header.limit_in.Goals as goal

pub returns-in_err-n-clause-none : goal.returns-in_err-n-clause-none
returns-in_err-n-clause-none c = if_none c.from_residual.result (limit_of c.args.text.now c.in_err-n.ensures.none)

pub returns-then-not-is_in_range-clause-none : goal.returns-then-not-is_in_range-clause-none
returns-then-not-is_in_range-clause-none c =
    let outside : is_limit (Some c.in_ok-n.n) ≡ false = sym c.is_in_range.ensures ∙ c.if-not-is_in_range.true in
    no_range c.args.text.now c.in_ok-n.n (omega arith) c.in_ok-n.ensures.some outside

pub returns-clause-some : goal.returns-clause-some
returns-clause-some c = (sym c.is_in_range.ensures ∙ c.if-not-is_in_range.false, c.in_ok-n.ensures.some)
