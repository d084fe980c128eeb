use Rattle.sync_syntax.proofs.parsed.parse.Goals as goal

pub invariant_of-result : goal.invariant_of-result
invariant_of-result c = record { text = c.args.text.now; utf8 = c.utf8.text; short = c.in_ok-tree.ensures.short; is = c.in_ok-tree.ensures.grammar }
