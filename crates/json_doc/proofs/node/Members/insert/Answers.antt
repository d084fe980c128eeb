use Rattle.std.proofs.Common.{string_bytes, ap, sym, ◌∙◌}
use Rattle.json_doc.specs.Tree.{put_field}
use Rattle.json_doc.specs.View.{node_tree, entry_fields}
use Rattle.json_doc.specs.declared.node.Members.{out-Members}
use Rattle.json_doc.proofs.NodeTrees.{members_fields-out, members_fields-roll, entry_fields-insert_entry}
use Rattle.json_doc.proofs.node.Members.insert.Goals as goal

pub returns-clause-ok : goal.returns-clause-ok
returns-clause-ok c =
    members_fields-roll c.insert.new.self
    ∙ ap entry_fields c.in_ok-insert.ensures.entries
    ∙ entry_fields-insert_entry (out-Members c.args.self.now).map.entries c.args.name c.args.node
    ∙ sym (ap (put_field (string_bytes c.args.name) (node_tree c.args.node)) (members_fields-out c.args.self.now))
