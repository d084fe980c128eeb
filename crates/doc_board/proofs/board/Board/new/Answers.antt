use Rattle.std.proofs.Common.{◌≡◌, List, ℕ, None, nat_eq, rules}
use Rattle.std.specs.BTreeMap.{get_by_text}
use Rattle.std.specs.HashMap.{get, spare}
use Rattle.doc_board.proofs.Empty.{empty_board}
use Rattle.doc_board.proofs.board.Board.new.Goals as goal

pub invariant_of-result : goal.invariant_of-result
invariant_of-result c =
    let none : (doc : List ℕ) → get_by_text c.new-3.result doc ≡ None = λ doc. search rules in (
      empty_board c.new.result.entries c.new-2.result c.new-3.result (get nat_eq c.new-4.result) (spare c.new-4.result) c.new-5.result c.new.ensures.entries c.new-2.ensures c.new-5.ensures none,
      c.new-6.ensures.stands c.new.result.entries.list,
      c.new.ensures.limit,
    )
