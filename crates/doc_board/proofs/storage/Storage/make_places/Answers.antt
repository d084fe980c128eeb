use Rattle.std.proofs.Common.{None, nat_eq, refl, arith}
use Rattle.std.specs.HashMap.{get, spare}
use Rattle.std.specs.Option.{option_copied}
use Rattle.doc_board.specs.Rooms.{room_for}
use Rattle.doc_board.proofs.Steps.{board_spared, board_with_room}
use Rattle.doc_board.proofs.OnStorage.{on_err_given}
use Rattle.doc_board.proofs.storage.Storage.make_places.Goals as goal

pub returns-in_err-make_places-clause-err : goal.returns-in_err-make_places-clause-err
returns-in_err-make_places-clause-err c =
    let s = c.args.self.now in
    let m = c.make_places.ensures in
    on_err_given c.from_residual.result _
    (board_spared s.log.entries c.make_places.new.log.entries s.pending c.make_places.new.pending s.documents s.documents None (get nat_eq s.bases) (get nat_eq c.make_places.new.bases) (spare s.bases) (spare c.make_places.new.bases) s.rooms s.stored
    m.log m.waiting m.bases (λ name. refl) m.kept c.requires.board)

pub returns-in_err-make_place_for-clause-err : goal.returns-in_err-make_place_for-clause-err
returns-in_err-make_place_for-clause-err c =
    let s = c.args.self.now in
    let m = c.make_places.ensures in
    on_err_given c.from_residual-in_err-make_place_for.result _
    (board_spared s.log.entries c.make_places.new.log.entries s.pending c.make_places.new.pending s.documents c.make_place_for.new.documents None (get nat_eq s.bases) (get nat_eq c.make_places.new.bases) (spare s.bases) (spare c.make_places.new.bases) s.rooms s.stored
    m.log m.waiting m.bases c.in_err-make_place_for.ensures.err m.kept c.requires.board)

pub returns-clause-ok : goal.returns-clause-ok
returns-clause-ok c = λ bytes.
    let s = c.args.self.now in
    let m = c.make_places.ensures in
    let ok = c.in_ok-make_places.ensures.ok in
    let count = c.count.ensures in
    board_with_room s.log.entries c.make_places.new.log.entries s.pending c.make_places.new.pending s.documents c.make_place_for.new.documents (get nat_eq s.bases) (get nat_eq c.make_places.new.bases) (spare s.bases) (spare c.make_places.new.bases) s.rooms (room_for (option_copied c.args.doc) bytes) s.stored
    m.log m.waiting m.bases c.in_ok-make_place_for.ensures.ok (omega (arith, ok.0, count), omega (arith, ok.1, count), omega (arith, ok.2, count)) c.requires.few c.requires.board
