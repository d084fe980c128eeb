use Rattle.std.proofs.Common.{refl}
use Rattle.seq_gate.proofs.Passing.{to_open}
use Rattle.seq_gate.proofs.gate.open.Goals as goal

pub new-requires : goal.new-requires
new-requires g c =
    rw (c.in_ok-push.ensures.items, c.new-slots.ensures.items, c.front-front.ensures, c.of-about.ensures)
    (to_open c.boards.ensures.itself g.B.Kept.seen c.args.board (g.B.Kept.seen c.args.board) refl c.requires.pending c.requires.rooms c.requires.short)
