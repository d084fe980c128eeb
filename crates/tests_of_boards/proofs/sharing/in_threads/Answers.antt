use denote.RattleType.{RattleType}
use denote.Ref.{NamedLft}
use denote.Param.Send.{IsSend, IsSync, recorded_send, sendable, struct_send}
use denote.Struct.Declared
use Rattle.std.proofs.Crossing as heap
use Rattle.atomic_table.proofs.send_lease.SendLease.TheSendSync as lease
use Rattle.atomic_table.proofs.shared.Seat.TheSendSync as seat
use Rattle.atomic_table.proofs.shared.Shared.TheSendSync as shared
use Rattle.sync_resolve.proofs.Crossing.{resolved_sync}
use Rattle.write_path.proofs.Crossing.{shelf_send}
use Rattle.tests_of_boards.specs.contracts.sharing.Work as work
use Rattle.tests_of_boards.specs.contracts.sharing.Worked as worked
use Rattle.seq_gate.specs.contracts.gate.Gate as gate
use Rattle.seq_gate.specs.contracts.pass.Pass as pass
use Rattle.write_path.specs.contracts.shared.SharedGround as ground
use Rattle.write_path.specs.contracts.shelf.Shelf as shelf
use Rattle.write_path.specs.contracts.shelf.ShelfKept.TheImpl.{ghosts}
use Rattle.tests_of_boards.proofs.sharing.in_threads.Goals as goal

-- what works at a shared ground may go to another thread
pass_send : IsSend (pass.the_row shelf.the_row ghosts)
pass_send = search (seat.the_send, shelf_send, sendable) depth 60 fits 20000

gate_sync : IsSync (gate.the_row shelf.the_row ghosts)
gate_sync = search (shared.the_sync, lease.the_sync, shelf_send, heap.frees, heap.send, heap.sync, heap.crosses, sendable) depth 60 fits 20000

ground_send : (κ : NamedLft) (R : RattleType) → IsSync R → IsSend (ground.the_row κ R)
ground_send κ R y = search (pass_send, gate_sync, sendable) depth 60 fits 20000

work_send : (κ κ′ : NamedLft) (R : RattleType) → IsSync R → IsSend (work.the_row κ κ′ R)
work_send κ κ′ R y =
    recorded_send _ _ _ ((work.the_type κ κ′ R).to_one) (struct_send (Declared.shape (work.the_type κ κ′ R)) (search (heap.crosses, sendable) depth 30, (search (ground_send, sendable) depth 30, (search (resolved_sync, sendable) depth 30, (search sendable depth 30, tt)))))

worked_send : (κ : NamedLft) (R : RattleType) → IsSync R → IsSend (worked.the_row κ R)
worked_send κ R y =
    recorded_send _ _ _ ((worked.the_type κ R).to_one) (struct_send (Declared.shape (worked.the_type κ R)) (search (ground_send, sendable) depth 30, (search sendable depth 30, tt)))

pub split-other-requires-send-B : goal.split-other-requires-send-B
split-other-requires-send-B g c κs = search (shelf_send, sendable) depth 20

pub by_two-one-requires-send-J : goal.by_two-one-requires-send-J
by_two-one-requires-send-J g c κs within = search (work_send, sendable) depth 30

pub by_two-one-requires-send-J-Done : goal.by_two-one-requires-send-J-Done
by_two-one-requires-send-J-Done g c κs within = search (worked_send, sendable) depth 30
