use Rattle.std.proofs.Common.{◌≡◌, ◌∙◌, ap, sym, subst, List, Option}
use Rattle.std.specs.Prelude.{IfOk}
use Rattle.rev_tree.specs.declared.tree.Node.{Node}
use Rattle.doc_board.specs.Offers.{offer_answer, nodes_or_none}
use Rattle.board_steps.proofs.ask.answer_at.Goals as goal

pub returns : goal.returns
returns c =
    let same = ap (λ (t : Option (List Node)). nodes_or_none t) c.tree.ensures.tree ∙ sym (c.boards.ensures.written c.args.board.now c.args.offer.now.doc) in
    subst (λ (t : List Node). IfOk c.answer_offer.result (λ answer. answer ≡ offer_answer t c.args.offer.now)) same c.answer_offer.ensures
