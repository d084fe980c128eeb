use Rattle.std.proofs.Common.{nat_eq}
use Rattle.std.specs.HashMap.{get, spare}
use Rattle.doc_board.proofs.Steps.{ended}
use Rattle.doc_board.proofs.storage.Storage.end.Goals as goal

pub returns-clause-stands : goal.returns-clause-stands
returns-clause-stands c =
    let s = c.args.self.now in
    rw c.end.ensures (ended s.log.entries s.pending s.documents (get nat_eq s.bases) (spare s.bases) s.rooms s.stored 0 c.args.room.made_for c.requires.out c.requires.board.standing)
