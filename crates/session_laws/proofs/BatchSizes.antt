-- The batch of a feed that is asked for has rows.
use Rattle.std.proofs.Common.{◌≤◌, Result, Ok, Err, IfOk}
use Rattle.blip_frame.specs.declared.payload.Payload.{Payload}
use Rattle.repl_messages.specs.declared.request.Version.{Version}
use Rattle.repl_messages.specs.declared.request.Request.{Request}
use Rattle.repl_messages.specs.declared.request.Request.TheVariants as request
use Rattle.repl_messages.specs.declared.request.RequestFault.{RequestFault}
use Rattle.repl_messages.specs.Requests.{IsBounded, IsAnswer, profile_of}
use Rattle.repl_messages.proofs.Batches.{bounded_read}

-- what is read is in bounds
pub bounded : (payload : Payload) (version : Version) (read : Result Request RequestFault) → IsAnswer payload version read → IfOk read IsBounded
bounded payload version (Ok r) is = bounded_read (profile_of payload.props) payload version (Ok r) is
bounded payload version (Err fault) is = tt

-- a feed that is asked for has a batch of one row at least
abbrev pub HasBatch : Request → Type 0
HasBatch (request.GetCheckpoint client) = Unit {0}
HasBatch (request.SetCheckpoint client rev body) = Unit {0}
HasBatch (request.SubChanges since continuous batch options) = 1 ≤ batch
HasBatch (request.Changes offers) = Unit {0}
HasBatch (request.ProposeChanges offers) = Unit {0}
HasBatch (request.Rev revision) = Unit {0}

abbrev pub ReadHasBatch : Result Request RequestFault → Type 0
ReadHasBatch (Ok r) = HasBatch r
ReadHasBatch (Err fault) = Unit {0}

has_batch : (r : Request) → IsBounded r → HasBatch r
has_batch (request.GetCheckpoint client) is = tt
has_batch (request.SetCheckpoint client rev body) is = tt
has_batch (request.SubChanges since continuous batch options) is = is.0
has_batch (request.Changes offers) is = tt
has_batch (request.ProposeChanges offers) is = tt
has_batch (request.Rev revision) is = tt

read_has : (read : Result Request RequestFault) → IfOk read IsBounded → ReadHasBatch read
read_has (Ok r) is = has_batch r is
read_has (Err fault) is = tt

pub read_batch : (payload : Payload) (version : Version) (read : Result Request RequestFault) → IsAnswer payload version read → ReadHasBatch read
read_batch payload version read is = read_has read (bounded payload version read is)
