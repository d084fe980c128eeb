use Rattle.std.proofs.Common.{nat_eq, arith}
use Rattle.std.specs.HashMap.{get, spare}
use Rattle.doc_board.proofs.Steps.{moved}
use Rattle.doc_board.proofs.storage.Storage.release.Goals as goal

pub release-requires-clause-room : goal.release-requires-clause-room
release-requires-clause-room c = omega (arith, c.requires.room_log)

pub release-requires-clause-beyond : goal.release-requires-clause-beyond
release-requires-clause-beyond c = c.requires.beyond

pub returns-clause-board : goal.returns-clause-board
returns-clause-board c =
    let s = c.args.self.now in
    let r = c.release.new in
    let is = c.release.ensures in
    record {
      standing = moved s.log.entries r.log.entries s.pending r.pending s.documents (get nat_eq s.bases) (get nat_eq r.bases) (spare s.bases) (spare r.bases) s.rooms s.stored 0
          is.released is.book is.beyond is.longer is.count is.spare is.log_spare is.bases is.base_spare c.requires;
      next = is.next;
    }
