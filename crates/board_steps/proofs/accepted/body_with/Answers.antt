use Rattle.std.proofs.Common.{ℕ, List, Option, subst}
use Rattle.board_steps.specs.Accepted.{IsStandIn}
use Rattle.board_steps.proofs.Entries.{body_stays, braces_stand_in}
use Rattle.board_steps.proofs.accepted.body_with.Goals as goal

pub returns-in-None-clause-value : goal.returns-in-None-clause-value
returns-in-None-clause-value c =
    let S : Option (List ℕ) → Type 0 = λ braces. IsStandIn c.args.body braces in body_stays c.args.body (subst S c.in-None.is c.requires)

pub returns-in-Some-clause-value : goal.returns-in-Some-clause-value
returns-in-Some-clause-value c =
    let S : Option (List ℕ) → Type 0 = λ braces. IsStandIn c.args.body braces in
    let is = subst S c.in-Some.is c.requires in
    braces_stand_in c.args.body c.in-Some.braces is.0 is.1
