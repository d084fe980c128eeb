use Rattle.std.proofs.Common.{ap, sym, ◌∙◌}
use Rattle.json_doc.specs.Tree.{field_count}
use Rattle.json_doc.specs.declared.node.Members.{out-Members}
use Rattle.json_doc.proofs.NodeTrees.{members_fields-out, field_count-entry_fields}
use Rattle.json_doc.proofs.node.Members.len.Goals as goal

pub returns : goal.returns
returns c =
    c.len.ensures.len ∙ field_count-entry_fields (out-Members c.args.self.now).map.entries
    ∙ sym (ap field_count (members_fields-out c.args.self.now))
