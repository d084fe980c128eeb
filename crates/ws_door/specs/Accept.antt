-- the accept value of a WebSocket handshake (RFC 6455, section 4.2.2)
use Rattle.std.specs.Prelude.{ℕ, List, ◌++◌, codes}
use Rattle.sha1.specs.Sha1.{sha1}
use Rattle.base64.specs.GeneralPurpose.{encode_of}
use Rattle.base64.specs.Engines.{standard}

unfoldable pub accept_of : List ℕ → List ℕ
accept_of key = encode_of standard (sha1 (key ++ codes "258EAFA5-E914-47DA-95CA-C5AB0DC85B11"))
