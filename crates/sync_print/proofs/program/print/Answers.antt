use Rattle.std.proofs.Common.{◌∙◌, arith}
use Rattle.sync_print.proofs.PrintedTexts.{read_alike, back_within, on_ok}
use Rattle.sync_print.proofs.program.print.Goals as goal

pub returns-clause-reads : goal.returns-clause-reads
returns-clause-reads c =
    on_ok c.push_str.result
    (read_alike c.printed_is_read_back.ensures c.args.program.now c.as_tree.result.now c.as_str.result.now c.as_tree.ensures.text c.as_tree.ensures.value
    (c.as_str.ensures ∙ c.in_ok-text.ensures) (omega arith))

pub returns-clause-parsed : goal.returns-clause-parsed
returns-clause-parsed c =
    on_ok c.push_str.result (back_within c.printed_is_parsed.ensures c.args.program.now c.as_tree.result.now c.as_tree.ensures.text c.as_tree.ensures.value)
