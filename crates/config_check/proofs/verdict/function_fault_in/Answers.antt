use Rattle.std.proofs.Common.{None}
use Rattle.config_check.proofs.Finding.{found_in_none, never_true}
use Rattle.config_check.proofs.verdict.function_fault_in.Goals as goal

pub returns-else-is_memory : goal.returns-else-is_memory
returns-else-is_memory c = found_in_none c.args.bytes.now None (c.in-Err.ensures.err (λ m. never_true (c.if-is_memory.ensures.1 m)))
