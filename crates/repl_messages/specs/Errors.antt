-- Replies: the empty one, and those that say why a request is refused.
use Rattle.std.specs.Prelude.{ℕ, List, [], ◌∷◌, ◌++◌, codes, decimal}
use Rattle.blip_frame.specs.declared.payload.Payload.{Payload}
use Rattle.sg_names.specs.RevId.{rev_text}
use Rattle.repl_messages.specs.declared.error.ErrorKind.{ErrorKind}
use Rattle.repl_messages.specs.declared.error.ErrorKind.TheVariants.{Bad400, LowForm400, SincePast400, BadHistory400, UserGone401, Denied403, NoCheckpoint404, NoHandler404, Conflict409, Checkpoint409, FeedRuns409, UsePropose409, TooLarge413, PendingFull503, CheckpointsFull503, Memory507, LogFull509}
use Rattle.repl_messages.specs.Checkpoints.{checkpoint_rev}
use Rattle.repl_messages.specs.Fields.{field_text}

-- no properties and no body
abbrev pub ok_payload : Payload
ok_payload = record { props = []; body = [] }

-- whose code it is: the message layer's where no handler is known, else that of HTTP
abbrev pub error_domain : ErrorKind → List ℕ
error_domain NoHandler404 = codes "BLIP"
error_domain _ = codes "HTTP"

-- the code of HTTP
abbrev pub error_code : ErrorKind → ℕ
error_code (Bad400 field) = 400
error_code LowForm400 = 400
error_code (SincePast400 front) = 400
error_code BadHistory400 = 400
error_code UserGone401 = 401
error_code (Denied403 rule) = 403
error_code NoCheckpoint404 = 404
error_code NoHandler404 = 404
error_code (Conflict409 leaf) = 409
error_code (Checkpoint409 current) = 409
error_code FeedRuns409 = 409
error_code UsePropose409 = 409
error_code TooLarge413 = 413
error_code PendingFull503 = 503
error_code CheckpointsFull503 = 503
error_code Memory507 = 507
error_code LogFull509 = 509

-- what the words for the device end with: the field, number, rule or leaf of the error
abbrev pub error_subject : ErrorKind → List ℕ
error_subject (Bad400 field) = field_text field
error_subject (SincePast400 front) = decimal front
error_subject (Denied403 rule) = rule
error_subject (Conflict409 leaf) = rev_text leaf
error_subject (Checkpoint409 current) = decimal current
error_subject _ = []

-- the words for the device
abbrev pub error_text : ErrorKind → List ℕ
error_text (Bad400 field) = codes "bad " ++ field_text field
error_text LowForm400 = codes "low form"
error_text (SincePast400 front) = codes "since is past " ++ decimal front
error_text BadHistory400 = codes "bad history"
error_text UserGone401 = codes "user is gone"
error_text (Denied403 rule) = rule
error_text NoCheckpoint404 = codes "no checkpoint"
error_text NoHandler404 = codes "no handler"
error_text (Conflict409 leaf) = codes "conflict " ++ rev_text leaf
error_text (Checkpoint409 current) = codes "checkpoint is " ++ checkpoint_rev current
error_text FeedRuns409 = codes "feed is running"
error_text UsePropose409 = codes "use proposeChanges"
error_text TooLarge413 = codes "too large"
error_text PendingFull503 = codes "pending is full"
error_text CheckpointsFull503 = codes "checkpoints are full"
error_text Memory507 = codes "no memory"
error_text LogFull509 = codes "log is full"

-- domain and code as properties, and the words as body
abbrev pub error_payload : ErrorKind → Payload
error_payload error =
    record {
      props = (codes "Error-Domain", error_domain error) ∷ (codes "Error-Code", decimal (error_code error)) ∷ [];
      body = error_text error;
    }
