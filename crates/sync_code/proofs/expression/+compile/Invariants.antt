use Rattle.std.proofs.Common.{◌≡◌, IsTrue, take}
use Rattle.sync_code.specs.Code.{sources, all_fit, member_sources, members_fit, tail_sources, tails_fit, operand_sources, operands_fit}
use Rattle.sync_code.proofs.expression.+compile.Given as goal

abbrev pub invariant-codes_of-loop-expr : goal.invariant-codes_of-loop-expr
invariant-codes_of-loop-expr l = (sources l.made ≡ take l.expr-index l.exprs) × IsTrue (all_fit l.made l.fn.scope)

abbrev pub invariant-members_of-loop-member : goal.invariant-members_of-loop-member
invariant-members_of-loop-member l = (member_sources l.made ≡ take l.member-index l.members) × IsTrue (members_fit l.made l.fn.scope)

abbrev pub invariant-tails_of-loop-suffix : goal.invariant-tails_of-loop-suffix
invariant-tails_of-loop-suffix l = (tail_sources l.made ≡ take l.suffix-index l.suffixes) × IsTrue (tails_fit l.made l.fn.scope)

abbrev pub invariant-operands_of-loop-tail : goal.invariant-operands_of-loop-tail
invariant-operands_of-loop-tail l = (operand_sources l.made ≡ take l.tail-index l.tails) × IsTrue (operands_fit l.made l.fn.scope)
