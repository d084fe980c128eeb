use Rattle.std.proofs.Common.{◌≡◌, ◌∙◌, false, is_some, ap, sym, option_map, Option, arith, rules}
use Rattle.json_doc.specs.declared.node.Node.{Node}
use Rattle.json_doc.specs.Tree.{Tree}
use Rattle.json_doc.specs.View.{node_tree}
use Rattle.sync_meaning.specs.Meaning.{meaning}
use Rattle.board_steps.specs.Verdicts.{IsSaidOfDocument}
use Rattle.board_steps.proofs.JudgedBy.{verdict_is, said_without_old, trees_behind}
use Rattle.board_steps.proofs.judging.said_of_document.Goals as goal

pub returns-in-Ok : goal.returns-in-Ok
returns-in-Ok c =
    let document : Tree = node_tree c.args.doc.now in
    let old : Option Tree = option_map (λ d. node_tree d) c.in-Ok.old in
    verdict_is (IsSaidOfDocument c.args.program.now c.args.id.now document c.args.basis.now) c.judge-said.result _ c.judge-said.ensures (record {
      old = old;
      is_old = c.in-Ok.ensures;
      is_meant = ap (λ (o : Option Tree). meaning c.args.program.now document o c.args.basis.now.context) (ap (λ (o : Option Node). option_map (λ d. node_tree d) o) (sym c.as_ref.ensures.value) ∙ trees_behind c.as_ref.result);
    })

pub returns-then-not-takes_old : goal.returns-then-not-takes_old
returns-then-not-takes_old c =
    let one : is_some c.args.program.now.second ≡ false = first_of (search (rules, c.takes_old.ensures, c.if-not-takes_old.true), grind (arith, c.takes_old.ensures, c.if-not-takes_old.true)) in
    said_without_old c.old_is_not_asked.ensures c.args.program.now c.args.id.now (node_tree c.args.doc.now) c.args.basis.now c.judge.result
    one c.requires c.judge.ensures
