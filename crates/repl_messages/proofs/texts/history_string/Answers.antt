use Rattle.std.proofs.Common.{◌∷◌, ◌++◌, ◌∙◌, sym, ap, string_bytes}
use Rattle.std.specs.List.{flat_map}
use Rattle.std.proofs.lemmas.List.{append-nil, drop_all}
use Rattle.sg_names.specs.RevId.{rev_text}
use Rattle.sg_names.specs.declared.rev_id.RevId.{RevId}
use Rattle.repl_messages.proofs.History.{joined-first}
use Rattle.repl_messages.proofs.Mapped.{flat_more}
use Rattle.repl_messages.proofs.texts.history_string.Goals as goal

pub returns : goal.returns
returns c =
    sym (append-nil (string_bytes c.loop-rev.text))
    ∙ ap (λ rest. string_bytes c.loop-rev.text ++ flat_map (λ r. 44 ∷ rev_text r) rest) (sym (drop_all c.loop-rev.rev-index c.args.others.now c.loop-rev-test.false))
    ∙ c.loop-rev.invariant
    ∙ joined-first (λ r. rev_text r) c.args.first.now c.args.others.now

pub loop-rev-preserved : goal.loop-rev-preserved
loop-rev-preserved c =
    flat_more (λ (r : RevId). 44 ∷ rev_text r) c.args.others.now c.loop-rev.rev-index c.rev-item.result (string_bytes c.loop-rev.text) (string_bytes c.push_further.new.text)
    _ c.loop-rev-test.true c.rev-item.is c.in_ok-push_further.ensures c.loop-rev.invariant
