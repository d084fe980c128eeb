use Rattle.std.proofs.Common.{option_map, ap, sym, ◌∙◌}
use Rattle.json_doc.specs.Tree.{get_field}
use Rattle.json_doc.specs.View.{node_tree}
use Rattle.json_doc.specs.declared.node.Members.{out-Members}
use Rattle.json_doc.proofs.NodeTrees.{tree_of_ref, trees-lookup, members_fields-out}
use Rattle.json_doc.proofs.node.Members.get.Goals as goal

pub returns : goal.returns
returns c =
    tree_of_ref c.get.result ∙ ap (option_map node_tree) c.get.ensures.value
    ∙ trees-lookup c.args.name.now (out-Members c.args.self.now).map.entries
    ∙ sym (ap (get_field c.args.name.now) (members_fields-out c.args.self.now))
