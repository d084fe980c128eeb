use Rattle.std.proofs.Common.{◌≡◌, ◌∙◌, [], ◌∷◌, List, ap, sym, subst}
use Rattle.std.proofs.lemmas.List.{append-nil}
use Rattle.sg_history.specs.declared.book.Waiting.{Waiting}
use Rattle.sg_history.specs.Board.{BoardState, IsAfterAll}
use Rattle.doc_board.specs.Boards.{board_of}
use Rattle.write_path.specs.Own.{EndsWith}
use Rattle.write_path.proofs.solo.SoloGround.new.Goals as goal

pub invariant_of-result : goal.invariant_of-result
invariant_of-result c =
    let s = c.args.shelf.board in
    let b : BoardState = board_of s in
    let read : c.add.new.self ≡ b ∷ [] = c.add.ensures ∙ ap (λ (earlier : List BoardState). b ∷ earlier) c.new-read.ensures in (
      subst (λ (boards : List BoardState). IsAfterAll boards b) (sym read) (c.boards.ensures.itself b, tt),
      c.requires.rooms,
      subst (λ (own : List Waiting). EndsWith s.log own) (sym c.new.ensures) (s.log, sym (append-nil s.log)),
      c.requires.pending,
    )
