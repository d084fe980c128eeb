use Rattle.std.proofs.Common.{ap, ◌∙◌}
use Rattle.serde_json.specs.Data.{string}
use Rattle.sg_names.specs.RevId.{rev_text}
use Rattle.sg_names.specs.declared.rev_id.RevId.{RevId}
use Rattle.repl_messages.proofs.Mapped.{mapped_more}
use Rattle.repl_messages.proofs.answers.revs_value.Goals as goal

pub loop-rev-preserved : goal.loop-rev-preserved
loop-rev-preserved c =
    mapped_more (λ (r : RevId). string (rev_text r)) c.args.revs.now c.loop-rev.rev-index c.rev-item.result c.from.result c.loop-rev.values.items
    c.push.new.self.items c.loop-rev-test.true c.rev-item.is (c.from.ensures ∙ ap string c.in_ok-rev_string.ensures) c.in_ok-push.ensures.items c.loop-rev.invariant
