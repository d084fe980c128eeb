use Rattle.std.proofs.Common.{◌≡◌, ◌≢◌, IfNone, IfSome, List, ℕ, Some, decimal, subst}
use Rattle.std.specs.Prelude.{IsTrue}
use Rattle.sg_history.specs.Journal.{is_limit}
use Rattle.sg_history.proofs.Titles.{no_decimal}
use Rattle.sg_history.proofs.header.read_limit.Goals as goal

pub returns-in-Ok-clause-some : goal.returns-in-Ok-clause-some
returns-in-Ok-clause-some c =
    subst (λ (t : List ℕ). IfSome c.limit_in.result (λ n. IsTrue (is_limit (Some n)) × (t ≡ decimal n))) c.in-Ok.ensures.ok.0 c.limit_in.ensures.some

pub returns-in-Ok-clause-none : goal.returns-in-Ok-clause-none
returns-in-Ok-clause-none c =
    subst (λ (t : List ℕ). IfNone c.limit_in.result ((n : ℕ) → IsTrue (is_limit (Some n)) → t ≢ decimal n)) c.in-Ok.ensures.ok.0 c.limit_in.ensures.none

pub returns-in-Err-clause-none : goal.returns-in-Err-clause-none
returns-in-Err-clause-none c = no_decimal c.args.bytes.now c.in-Err.ensures.bad.1
