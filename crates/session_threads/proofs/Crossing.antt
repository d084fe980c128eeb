-- What a session needs may go to another thread.
use denote.RattleType.{RattleType}
use denote.Ref.{NamedLft}
use denote.Param.Send.{IsSend, IsSync, recorded_send, sendable, struct_send}
use denote.Struct.Declared
use Rattle.std.proofs.Crossing as heap
use Rattle.atomic_table.proofs.send_lease.SendLease.TheSendSync as lease
use Rattle.atomic_table.proofs.shared.Seat.TheSendSync as seat
use Rattle.atomic_table.proofs.shared.Shared.TheSendSync as shared
use Rattle.sync_resolve.proofs.Crossing.{resolved_send, resolved_sync}
use Rattle.write_path.proofs.Crossing.{shelf_send}
use Rattle.sg_outside.specs.declared.wire.Wire.{Ghosts}
use Rattle.session_threads.specs.contracts.session.SessionJob as job
use Rattle.session_threads.specs.contracts.session.SessionDone as done
use Rattle.seq_gate.specs.contracts.gate.Gate as gate
use Rattle.seq_gate.specs.contracts.pass.Pass as pass
use Rattle.write_path.specs.contracts.shared.SharedGround as ground
use Rattle.write_path.specs.contracts.shelf.Shelf as shelf
use Rattle.write_path.specs.contracts.shelf.ShelfKept.TheImpl.{ghosts}
use Rattle.session_run.specs.contracts.serve.Setup as setup
use Rattle.session_run.specs.contracts.ended.Ended as ended

setup_send : IsSend (setup.the_field).row
setup_send = search (resolved_send, resolved_sync, heap.crosses, sendable) depth 60 fits 20000

ended_send : IsSend (ended.the_field).row
ended_send = search (heap.crosses, sendable) depth 60 fits 20000

pass_send : IsSend (pass.the_row shelf.the_row ghosts)
pass_send = search (seat.the_send, shelf_send, sendable) depth 60 fits 20000

gate_sync : IsSync (gate.the_row shelf.the_row ghosts)
gate_sync = search (shared.the_sync, lease.the_sync, shelf_send, heap.frees, heap.send, heap.sync, heap.crosses, sendable) depth 60 fits 20000

pub ground_send : (κ : NamedLft) (R : RattleType) → IsSync R → IsSend (ground.the_row κ R)
ground_send κ R y = search (pass_send, gate_sync, sendable) depth 60 fits 20000

pub job_send : (κ : NamedLft) (R W : RattleType) (g : Ghosts W.Denot) → IsSync R → IsSend W → IsSend (job.the_row κ R W g)
job_send κ R W g y s =
    recorded_send _ _ _ ((job.the_type κ R W g).to_one) (struct_send (Declared.shape (job.the_type κ R W g)) (search (heap.crosses, sendable) depth 30, (search (ground_send, sendable) depth 30, (search (setup_send, sendable) depth 30, (search sendable depth 30, tt)))))

pub done_send : (κ : NamedLft) (R W : RattleType) → IsSync R → IsSend W → IsSend (done.the_row κ R W)
done_send κ R W y s =
    recorded_send _ _ _ ((done.the_type κ R W).to_one) (struct_send (Declared.shape (done.the_type κ R W)) (search (ground_send, sendable) depth 30, (search sendable depth 30, (search (ended_send, sendable) depth 30, tt))))
