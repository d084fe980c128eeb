-- What a caller's job has may go to another thread.
use denote.RattleType.{RattleType}
use denote.Ref.{NamedLft}
use denote.Param.Send.{IsSend, IsSync, recorded_send, sendable, struct_send}
use denote.Struct.Declared
use Rattle.std.proofs.Crossing as heap
use Rattle.sync_resolve.proofs.Crossing.{resolved_send, resolved_sync}
use Rattle.session_threads.proofs.Crossing.{ground_send}
use Rattle.gateway_config.specs.contracts.config.Config as config
use Rattle.sg_lines.specs.declared.line.Line.{Ghosts as Lines}
use Rattle.sg_lines.specs.declared.link.Link.{Ghosts as Links}
use Rattle.sg_outside.specs.declared.wire.Wire.{Ghosts as Wires}
use Rattle.session_server.specs.contracts.caller.Caller as caller
use Rattle.session_server.specs.contracts.caller.Left as left

pub config_sync : IsSync (config.the_field).row
config_sync = search (resolved_send, resolved_sync, heap.crosses, sendable) depth 60 fits 20000

pub caller_send : (κ : NamedLft) (R L S T : RattleType) (l : Lines L.Denot S.Denot T.Denot) (k : Links L.Denot) (w : Wires S.Denot) → IsSync R → IsSend L → IsSend (caller.the_row κ R L S T l k w)
caller_send κ R L S T l k w y s =
    recorded_send _ _ _ ((caller.the_type κ R L S T l k w).to_one)
    (struct_send (Declared.shape (caller.the_type κ R L S T l k w)) (search (heap.crosses, sendable) depth 30, (search (ground_send, sendable) depth 30, (search (config_sync, sendable) depth 30, (search sendable depth 30, tt)))))

pub left_send : (κ : NamedLft) (R T : RattleType) → IsSync R → IsSend T → IsSend (left.the_row κ R T)
left_send κ R T y s =
    recorded_send _ _ _ ((left.the_type κ R T).to_one) (struct_send (Declared.shape (left.the_type κ R T)) (search (ground_send, sendable) depth 30, (search sendable depth 30, tt)))
