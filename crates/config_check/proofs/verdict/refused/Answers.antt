use Rattle.std.proofs.Common.{arith}
use Rattle.config_check.proofs.Finding.{refused_text}
use Rattle.config_check.proofs.verdict.refused.Goals as goal

pub returns-in-Ok : goal.returns-in-Ok
returns-in-Ok c = λ first. refused_text c.args.bytes.now c.args.path c.args.why c.in-Ok.function (grind arith) first c.in-Ok.ensures
