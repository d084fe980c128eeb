use Rattle.std.proofs.Common.{rules, arith}
use Rattle.sync_print.proofs.Steps.{turn_step, block_put, declare_put, simple_put, if_else_put, if_alone_put, for_put, each_put}
use Rattle.sync_print.proofs.statement.+print.Goals as goal

pub put_in_turn-loop-statement-preserved : goal.put_in_turn-loop-statement-preserved
put_in_turn-loop-statement-preserved t c =
    let s = turn_step c.args.statements.now c.loop-statement.statement-index c.statement-item.result c.loop-statement.out (omega arith) c.statement-item.is in first_of (search (rules, s), grind (arith, s))

pub put_block-returns : goal.put_block-returns
put_block-returns t c = let s = block_put c.args.statements.now c.args.out.now in first_of (search (rules, s), grind (arith, s))

pub put_statement-returns-in_ok-put_declaration-in-Declare : goal.put_statement-returns-in_ok-put_declaration-in-Declare
put_statement-returns-in_ok-put_declaration-in-Declare t c =
    let s = declare_put c.in-Declare.declaration c.args.out.now in first_of (search (rules, s), grind (arith, s))

pub put_statement-returns-in_ok-put_simple-in-Simple : goal.put_statement-returns-in_ok-put_simple-in-Simple
put_statement-returns-in_ok-put_simple-in-Simple t c =
    let s = simple_put c.in-Simple.simple c.args.out.now in first_of (search (rules, s), grind (arith, s))

pub put_statement-returns-in_ok-word-in-Some : goal.put_statement-returns-in_ok-word-in-Some
put_statement-returns-in_ok-word-in-Some t c =
    let s = if_else_put c.in-If.field-0 c.in-If.condition c.in-If.first c.in-If.other c.in-Some.other c.args.out.now c.in-Some.is in first_of (search (rules, s), grind (arith, s))

pub put_statement-returns-in-None : goal.put_statement-returns-in-None
put_statement-returns-in-None t c =
    let s = if_alone_put c.in-If.field-0 c.in-If.condition c.in-If.first c.in-If.other c.args.out.now c.in-None.is in first_of (search (rules, s), grind (arith, s))

pub put_statement-returns-in_ok-put_head-in-For : goal.put_statement-returns-in_ok-put_head-in-For
put_statement-returns-in_ok-put_head-in-For t c =
    let s = for_put c.in-For.field-0 c.in-For.start c.in-For.condition c.in-For.last c.in-For.body c.args.out.now in first_of (search (rules, s), grind (arith, s))

pub put_statement-returns-in_ok-put_each-in-ForOf : goal.put_statement-returns-in_ok-put_each-in-ForOf
put_statement-returns-in_ok-put_each-in-ForOf t c =
    let s = each_put c.in-ForOf.field-0 c.in-ForOf.how c.in-ForOf.name c.in-ForOf.items c.in-ForOf.body c.args.out.now in first_of (search (rules, s), grind (arith, s))
