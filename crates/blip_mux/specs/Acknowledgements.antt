-- Acknowledgements that wait to be sent.
use Rattle.std.specs.Prelude.{ℕ, true, false}
use Rattle.blip_frame.specs.Frame.{FrameParts}
use Rattle.blip_frame.specs.Varint.{varint}
use Rattle.blip_frame.specs.declared.frame.Kind.{Kind}

-- of which kind it is, the number of the message, and how many bytes of it have come
pub record Acknowledgement : Type 0 where
  pub kind : Kind
  pub number : ℕ
  pub bytes : ℕ

-- the frame of an acknowledgement
abbrev pub ack_frame : Acknowledgement → FrameParts
ack_frame a = record { number = a.number; kind = a.kind; urgent = true; no_reply = true; more = false; payload = varint a.bytes }
