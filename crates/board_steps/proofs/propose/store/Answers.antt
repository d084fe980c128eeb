use Rattle.std.proofs.Common.{◌++◌, ◌∷◌, [], ◌∙◌, ap, sym, arith, List, length, Some}
use Rattle.sg_history.specs.declared.entries.Entry.{Entry}
use Rattle.sg_history.specs.declared.entries.Entry.TheVariants as kinds
use Rattle.sg_history.specs.declared.room.RoomFor.{RoomFor}
use Rattle.doc_board.specs.Rooms.{room_for}
use Rattle.board_steps.proofs.Alone.{fresh_on}
use Rattle.board_steps.proofs.SameBoards.{extends_still, last_still}
use Rattle.board_steps.proofs.propose.store.Goals as goal

pub put_next-requires-clause-rooms : goal.put_next-requires-clause-rooms
put_next-requires-clause-rooms c =
    c.in-Ok.ensures.ok ∙ ap (λ (rs : List RoomFor). rs ++ room_for (Some c.args.ready.entry.doc) c.len-bytes.result ∷ []) c.requires.rooms ∙ ap (λ (r : RoomFor). r ∷ []) (sym c.in-Ok.ensures.room)

pub put_next-requires-clause-candidate : goal.put_next-requires-clause-candidate
put_next-requires-clause-candidate c = (
  c.requires.ready.is_entry,
  c.requires.ready.document,
  omega (arith, c.requires.ready.at, ap (λ (es : List Entry). length es) c.in-Ok.ensures.log),
  omega (arith, ap (λ (es : List Entry). length es) c.in-Ok.ensures.log, c.requires.ready.base, c.alone.ensures.above c.args.board.now c.args.ready.entry.doc c.requires.pending),
  λ fresh. extends_still c.args.board.now c.room.new.self c.args.ready.entry c.args.ready.tree c.in-Ok.ensures.log c.in-Ok.ensures.pending c.requires.ready.extends,
)

pub put_next-requires-clause-fresh : goal.put_next-requires-clause-fresh
put_next-requires-clause-fresh c =
    fresh_on c.args.ready.base _ (c.requires.ready.base ∙ last_still c.args.board.now c.room.new.self c.args.ready.entry.doc c.in-Ok.ensures.log c.in-Ok.ensures.pending)

pub returns-in-Ok-clause-stored : goal.returns-in-Ok-clause-stored
returns-in-Ok-clause-stored c = c.put_next.ensures.log ∙ ap (λ (es : List Entry). es ++ kinds.Write c.args.ready.entry ∷ []) c.in-Ok.ensures.log
