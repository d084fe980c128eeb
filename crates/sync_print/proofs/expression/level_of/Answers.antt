use Rattle.std.proofs.Common.{rules, arith}
use Rattle.sync_print.proofs.Steps.{chain_level}
use Rattle.sync_print.proofs.expression.level_of.Goals as goal

pub returns-in-Chain : goal.returns-in-Chain
returns-in-Chain c = let s = chain_level c.in-Chain.field-0 c.in-Chain.tails in first_of (search (rules, s), grind (arith, s))
