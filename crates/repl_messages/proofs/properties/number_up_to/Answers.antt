use Rattle.std.proofs.Common.{sym, arith}
use Rattle.repl_messages.proofs.Numbers.{number-some, number-none, number-other}
use Rattle.repl_messages.proofs.properties.number_up_to.Goals as goal

pub returns-in-Some : goal.returns-in-Some
returns-in-Some c = sym (number-some c.args.text.now c.args.limit c.in-Some.n (omega arith) (omega arith) (omega arith) c.in-Some.ensures.some)

pub returns-in_default : goal.returns-in_default
returns-in_default c = sym (number-other c.args.text.now c.args.limit c.in-Some.n (omega arith) (omega arith) c.in-Some.ensures.some (λ low high. omega arith))

pub returns-in_default-2 : goal.returns-in_default-2
returns-in_default-2 c = sym (number-other c.args.text.now c.args.limit c.in-Some.n (omega arith) (omega arith) c.in-Some.ensures.some (λ low high. omega arith))

pub returns-in_default-3 : goal.returns-in_default-3
returns-in_default-3 c = sym (number-none c.args.text.now c.args.limit (λ n low high. c.in_default.ensures.none n (omega arith)))
