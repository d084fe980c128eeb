-- what works at a shared ground may go to another thread
use denote.RattleType.{RattleType}
use denote.Ref.{NamedLft}
use denote.Param.Send.{IsSend, IsSync, recorded_send, sendable, struct_send}
use denote.Struct.Declared
use Rattle.std.proofs.Crossing as heap
use Rattle.atomic_table.proofs.send_lease.SendLease.TheSendSync as lease
use Rattle.atomic_table.proofs.shared.Seat.TheSendSync as seat
use Rattle.atomic_table.proofs.shared.Shared.TheSendSync as shared
use Rattle.sync_resolve.proofs.Crossing.{resolved_sync}
use Rattle.write_path.proofs.Crossing.{shelf_send}
use Rattle.seq_gate.specs.contracts.gate.Gate as gate
use Rattle.seq_gate.specs.contracts.pass.Pass as pass
use Rattle.write_path.specs.contracts.shared.SharedGround as ground
use Rattle.write_path.specs.contracts.shelf.Shelf as shelf
use Rattle.write_path.specs.contracts.shelf.ShelfKept.TheImpl.{ghosts}
use Rattle.bench_histories.specs.contracts.checkpoints.Keeping as keeping
use Rattle.bench_histories.specs.contracts.sharing.Looking as looking
use Rattle.bench_histories.specs.contracts.sharing.Proposing as proposing
use Rattle.bench_histories.specs.contracts.sharing.Waiting as waiting

pass_send : IsSend (pass.the_row shelf.the_row ghosts)
pass_send = search (seat.the_send, shelf_send, sendable) depth 60 fits 20000

gate_sync : IsSync (gate.the_row shelf.the_row ghosts)
gate_sync = search (shared.the_sync, lease.the_sync, shelf_send, heap.frees, heap.send, heap.sync, heap.crosses, sendable) depth 60 fits 20000

ground_send : (κ : NamedLft) (R : RattleType) → IsSync R → IsSend (ground.the_row κ R)
ground_send κ R y = search (pass_send, gate_sync, sendable) depth 60 fits 20000

pub proposing_send : (κ κ′ : NamedLft) (R : RattleType) → IsSync R → IsSend (proposing.the_row κ κ′ R)
proposing_send κ κ′ R y =
    recorded_send _ _ _ ((proposing.the_type κ κ′ R).to_one) (struct_send (Declared.shape (proposing.the_type κ κ′ R)) (search (heap.crosses, sendable) depth 30, (search (ground_send, sendable) depth 30, (search (resolved_sync, sendable) depth 30, (search (heap.crosses, sendable) depth 60, (search sendable depth 30, (search sendable depth 30, tt)))))))

pub waiting_send : (κ : NamedLft) (R : RattleType) → IsSync R → IsSend (waiting.the_row κ R)
waiting_send κ R y =
    recorded_send _ _ _ ((waiting.the_type κ R).to_one) (struct_send (Declared.shape (waiting.the_type κ R)) (search sendable depth 30, (search (gate_sync, sendable) depth 30, (search (pass_send, sendable) depth 30, (search sendable depth 30, tt)))))

pub looking_send : (κ κ′ : NamedLft) (R : RattleType) → IsSync R → IsSend (looking.the_row κ κ′ R)
looking_send κ κ′ R y =
    recorded_send _ _ _ ((looking.the_type κ κ′ R).to_one) (struct_send (Declared.shape (looking.the_type κ κ′ R)) (search sendable depth 30, (search (heap.crosses, sendable) depth 30, (search (ground_send, sendable) depth 30, (search (heap.crosses, sendable) depth 60, (search sendable depth 30, tt))))))

pub keeping_send : (κ : NamedLft) (R : RattleType) → IsSync R → IsSend (keeping.the_row κ R)
keeping_send κ R y =
    recorded_send _ _ _ ((keeping.the_type κ R).to_one) (struct_send (Declared.shape (keeping.the_type κ R)) (search (heap.crosses, sendable) depth 30, (search (ground_send, sendable) depth 30, (search sendable depth 30, (search sendable depth 30, (search sendable depth 30, (search sendable depth 30, (search sendable depth 30, tt))))))))
