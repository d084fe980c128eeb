use Rattle.std.proofs.Common.{take, drop, sym, arith}
use Rattle.std.proofs.lemmas.List.{take-append-drop}
use Rattle.std.proofs.lemmas.Grind.{common_steps}
use Rattle.sg_lines.proofs.line_log.take_part.Goals as goal

pub returns-in-Ok-clause-taken : goal.returns-in-Ok-clause-taken
returns-in-Ok-clause-taken c =
    (take c.min.result c.args.bytes.now, drop c.min.result c.args.bytes.now, sym (take-append-drop c.min.result c.args.bytes.now), grind (arith, common_steps, c.in-Ok.ensures.ok))
