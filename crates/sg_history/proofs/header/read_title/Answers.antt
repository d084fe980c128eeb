use Rattle.std.proofs.Common.{◌++◌, ◌∙◌, List, ℕ, ap, codes, refl}
use Rattle.sg_history.proofs.Places.{if_none}
use Rattle.sg_history.proofs.Tests.{other, same}
use Rattle.sg_history.proofs.Titles.{no_limit, no_words}
use Rattle.sg_history.proofs.header.read_title.Goals as goal

pub returns-then-is_plain-clause-some : goal.returns-then-is_plain-clause-some
returns-then-is_plain-clause-some c = (refl, same c.is_plain.result c.args.line.now (codes "sgjournal 1") c.is_plain.ensures c.if-is_plain.true)

pub returns-in_err-rest-clause-none : goal.returns-in_err-rest-clause-none
returns-in_err-rest-clause-none c =
    let plain = other c.is_plain.result c.args.line.now (codes "sgjournal 1") c.is_plain.ensures c.if-is_plain.false in
    if_none c.from_residual.result (no_words c.args.line.now plain c.in_err-rest.ensures.none)

pub returns-in_err-limit-clause-none : goal.returns-in_err-limit-clause-none
returns-in_err-limit-clause-none c =
    let plain = other c.is_plain.result c.args.line.now (codes "sgjournal 1") c.is_plain.ensures c.if-is_plain.false in
    if_none c.from_residual-in_err-limit.result (no_limit c.args.line.now c.in_ok-rest.rest.now plain c.in_ok-rest.ensures.some c.in_err-limit.ensures.none)

pub returns-clause-some : goal.returns-clause-some
returns-clause-some c =
    (c.in_ok-limit.ensures.some.0, c.in_ok-rest.ensures.some ∙ ap (λ (l : List ℕ). codes "sgjournal 2 " ++ l) c.in_ok-limit.ensures.some.1)
