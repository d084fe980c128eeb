use Rattle.std.proofs.Common.{◌≡◌, ◌∙◌, ap, sym, subst, true, List, length, ◌+◌, ℕ}
use Rattle.sg_history.specs.declared.room.RoomFor.{RoomFor}
use Rattle.sg_history.specs.World.{Released}
use Rattle.sg_history.specs.Rooms.{without_room}
use Rattle.doc_board.specs.Rooms.{is_outstanding}
use Rattle.doc_board.specs.State.{State}
use Rattle.board_steps.proofs.Alone.{alone_outstanding, alone_gone}
use Rattle.board_steps.proofs.fresh.put_next.Goals as goal

pub commit_fresh-requires-clause-out : goal.commit_fresh-requires-clause-out
commit_fresh-requires-clause-out c =
    subst (λ (rs : List RoomFor). is_outstanding rs c.args.room.made_for ≡ true) (sym c.requires.rooms) (alone_outstanding c.args.room.made_for)

pub returns-clause-log : goal.returns-clause-log
returns-clause-log c =
    let s : State = c.args.board.now in
    let next : c.new-number.result.value ≡ length s.log + 1 = c.new-number.ensures ∙ ap (λ (n : ℕ). n + 1) c.front.ensures.front in
    ap (λ (h : Released). h.log) (c.commit_fresh.ensures.stored ∙ c.alone.ensures.stored s _ _ c.requires.pending next)

pub returns-clause-pending : goal.returns-clause-pending
returns-clause-pending c =
    let s : State = c.args.board.now in
    let next : c.new-number.result.value ≡ length s.log + 1 = c.new-number.ensures ∙ ap (λ (n : ℕ). n + 1) c.front.ensures.front in
    ap (λ (h : Released). h.pending) (c.commit_fresh.ensures.stored ∙ c.alone.ensures.stored s _ _ c.requires.pending next)

pub returns-clause-rooms : goal.returns-clause-rooms
returns-clause-rooms c =
    c.commit_fresh.ensures.rooms ∙ ap (λ (rs : List RoomFor). without_room c.args.room.made_for rs) c.requires.rooms ∙ alone_gone c.args.room.made_for
