use Rattle.std.proofs.Common.{◌∙◌, ap, map, rules, arith}
use Rattle.sync_print.specs.Trees.{operand_level}
use Rattle.sync_print.proofs.Layers.{spelled_tail}
use Rattle.sync_print.proofs.Steps.{list_put, object_put, postfix_put, chain_put_at, choice_put, index_put, call_put, listed_step, members_step, suffixes_step, tails_step}
use Rattle.sync_print.proofs.expression.+print.Goals as goal

pub put_expr-returns-in_ok-put_exprs-in-List : goal.put_expr-returns-in_ok-put_exprs-in-List
put_expr-returns-in_ok-put_exprs-in-List t c =
    let s = list_put c.in-List.field-0 c.in-List.exprs c.args.out.now in first_of (search (rules, s), grind (arith, s))

pub put_expr-returns-in_ok-put_members-in-Object : goal.put_expr-returns-in_ok-put_members-in-Object
put_expr-returns-in_ok-put_members-in-Object t c =
    let s = object_put c.in-Object.field-0 c.in-Object.members c.args.out.now in first_of (search (rules, s), grind (arith, s))

pub put_expr-returns-in_ok-put_within-in-Postfix : goal.put_expr-returns-in_ok-put_within-in-Postfix
put_expr-returns-in_ok-put_within-in-Postfix t c =
    let s = postfix_put c.in-Postfix.first c.in-Postfix.suffixes c.args.out.now in first_of (search (rules, s), grind (arith, s))

pub put_expr-returns-in_ok-put_within-in-Chain : goal.put_expr-returns-in_ok-put_within-in-Chain
put_expr-returns-in_ok-put_within-in-Chain t c =
    let n = c.operand_level-level.ensures.value ∙ ap (λ ts. operand_level (map spelled_tail ts)) c.as_slice-in-Chain.ensures in
    let s = chain_put_at c.in-Chain.first c.in-Chain.tails c.operand_level-level.result c.args.out.now n in first_of (search (rules, s), grind (arith, s))

pub put_expr-returns-in_ok-sign-in-Choice-2 : goal.put_expr-returns-in_ok-sign-in-Choice-2
put_expr-returns-in_ok-sign-in-Choice-2 t c =
    let s = choice_put c.in-Choice.condition c.in-Choice.first c.in-Choice.other c.args.out.now in first_of (search (rules, s), grind (arith, s))

pub put_exprs-loop-expr-preserved : goal.put_exprs-loop-expr-preserved
put_exprs-loop-expr-preserved t c =
    let s = listed_step c.loop-expr.first c.args.exprs.now c.loop-expr.expr-index c.expr-item.result c.loop-expr.out (omega arith) c.expr-item.is in first_of (search (rules, s), grind (arith, s))

pub put_members-loop-member-preserved : goal.put_members-loop-member-preserved
put_members-loop-member-preserved t c =
    let s = members_step c.loop-member.first c.args.members.now c.loop-member.member-index c.member-item.result c.loop-member.out (omega arith) c.member-item.is in first_of (search (rules, s), grind (arith, s))

pub put_suffix-returns-in_ok-put_expr-in-Index : goal.put_suffix-returns-in_ok-put_expr-in-Index
put_suffix-returns-in_ok-put_expr-in-Index t c =
    let s = index_put c.in-Index.expr c.args.out.now in first_of (search (rules, s), grind (arith, s))

pub put_suffix-returns-in_ok-put_exprs-in-Call : goal.put_suffix-returns-in_ok-put_exprs-in-Call
put_suffix-returns-in_ok-put_exprs-in-Call t c =
    let s = call_put c.in-Call.exprs c.args.out.now in first_of (search (rules, s), grind (arith, s))

pub put_suffixes-loop-suffix-preserved : goal.put_suffixes-loop-suffix-preserved
put_suffixes-loop-suffix-preserved t c =
    let s = suffixes_step c.args.suffixes.now c.loop-suffix.suffix-index c.suffix-item.result c.loop-suffix.out (omega arith) c.suffix-item.is in first_of (search (rules, s), grind (arith, s))

pub put_tails-loop-tail-preserved : goal.put_tails-loop-tail-preserved
put_tails-loop-tail-preserved t c =
    let s = tails_step c.args.level c.args.tails.now c.loop-tail.tail-index c.tail-item.result c.loop-tail.out (omega arith) c.tail-item.is in first_of (search (rules, s), grind (arith, s))
