-- how the door answers the head of a request
use Rattle.std.specs.Prelude.{◌≡◌, ◌⊎◌, ℕ, ◌==◌, ◌&&◌, Bool, false, List, [], ◌∷◌, ◌++◌, length, Option, Some, None, Result, Ok, Err, if◌then◌else◌, codes}
use Rattle.std.specs.List.{concat}
use Rattle.std.specs.Str.{bytes_eq, str_eq_ignore_ascii_case}
use Rattle.sg_history.specs.Pieces.{pieces}
use Rattle.repl_messages.specs.declared.request.Version.{Version}
use Rattle.repl_messages.specs.declared.request.Version.TheVariants as version
use Rattle.gateway_config.specs.declared.config.Config.{Config}
use Rattle.gateway_config.specs.declared.config.ConfigUser.{ConfigUser}
use Rattle.ws_door.specs.declared.answer.Refused.{Refused}
use Rattle.ws_door.specs.declared.answer.Refused.TheVariants as refused
use Rattle.ws_door.specs.declared.answer.Upgrade.{Upgrade}
use Rattle.ws_door.specs.Accept.{accept_of}
use Rattle.ws_door.specs.Cookies.{session_in_cookies}
use Rattle.ws_door.specs.Items.{trim_spaces, first_given}
use Rattle.ws_door.specs.Requests.{Request, Makes, HasNoHead}

-- the target of the database's endpoint
abbrev pub target_of : List ℕ → List ℕ
target_of database = codes "/" ++ database ++ codes "/_blipsync"

-- there is a value, and it passes the test
abbrev pub passes_test : (List ℕ → Bool) → Option (List ℕ) → Bool
passes_test test None = false
passes_test test (Some value) = test value

abbrev pub if_of_24 : Option (List ℕ) → Option (List ℕ)
if_of_24 None = None
if_of_24 (Some key) = if length key == 24 then Some key else None

-- the key of 24 bytes in a request for a WebSocket of version 13
abbrev pub websocket_key : Request → Option (List ℕ)
websocket_key request =
    if passes_test (λ v. str_eq_ignore_ascii_case v (codes "websocket")) request.upgrade && passes_test (λ v. bytes_eq v (codes "13")) request.version
    then if_of_24 request.key else None

-- the name of the subprotocol in which a version is spoken
abbrev pub protocol_of : Version → List ℕ
protocol_of version.Two = codes "BLIP_3+CBMobile_2"
protocol_of version.Three = codes "BLIP_3+CBMobile_3"

-- the version whose subprotocol has this name
abbrev pub version_named : List ℕ → Option Version
version_named name = if bytes_eq name (protocol_of version.Two) then Some version.Two else (if bytes_eq name (protocol_of version.Three) then Some version.Three else None)

-- the version that an item offers; spaces around it are dropped
abbrev pub version_in_item : List ℕ → Option Version
version_in_item item = version_named (trim_spaces item)

-- the version of the first of the two subprotocols that a header's value offers, whose items stand between `,`
abbrev pub version_in_protocols : List ℕ → Option Version
version_in_protocols value = first_given version_in_item (pieces 44 value)

-- whether this is the session that a user has, if it has one
abbrev pub is_own_session : List ℕ → Option (List ℕ) → Bool
is_own_session session None = false
is_own_session session (Some own) = bytes_eq own session

-- the name of the user that has the session
abbrev pub user_with : List ℕ → List ConfigUser → Option (List ℕ)
user_with session [] = None
user_with session (user ∷ users) = if is_own_session session user.session then Some user.name else user_with session users

-- the text that answers a key with the upgrade
abbrev pub switching_text : List ℕ → Version → List ℕ
switching_text key version = concat
    (codes "HTTP/1.1 101 Switching Protocols\r\nUpgrade: websocket\r\nConnection: Upgrade\r\nSec-WebSocket-Accept: "
    ∷ accept_of key ∷ codes "\r\nSec-WebSocket-Protocol: " ∷ protocol_of version ∷ codes "\r\n\r\n" ∷ [])

module _ {A : Type 0} where
  -- the value, or else this refusal
  abbrev pub or_refused : Refused → Option A → Result A Refused
  or_refused why None = Err why
  or_refused why (Some value) = Ok value

module _ {A B : Type 0} where
  -- what a value gives, if there is one
  abbrev pub option_then : (A → Option B) → Option A → Option B
  option_then given None = None
  option_then given (Some value) = given value

  -- what follows from a value; a refusal stays
  abbrev pub then_with : Result A Refused → (A → Result B Refused) → Result B Refused
  then_with (Ok value) next = next value
  then_with (Err why) next = Err why

-- the key of a request for the database's endpoint
abbrev pub key_in : List ℕ → Request → Result (List ℕ) Refused
key_in database request =
    if bytes_eq request.method (codes "GET")
    then (if bytes_eq request.target (target_of database) then or_refused refused.Bad400 (websocket_key request) else Err refused.Path404)
    else Err refused.Bad400

abbrev pub version_in : Request → Result Version Refused
version_in request = or_refused refused.Protocol426 (option_then version_in_protocols request.protocols)

abbrev pub session_in : Request → Result (List ℕ) Refused
session_in request = or_refused refused.NoCookie401 (option_then session_in_cookies request.cookies)

abbrev pub user_of_session : List ConfigUser → List ℕ → Result (List ℕ) Refused
user_of_session users session = or_refused refused.UnknownCookie401 (user_with session users)

-- the answer to a request: the first refusal, or the upgrade
abbrev pub upgrade_answer : List ℕ → List ConfigUser → Request → Result Upgrade Refused
upgrade_answer database users request =
    then_with (key_in database request) (λ key.
    then_with (version_in request) (λ version.
    then_with (session_in request) (λ session.
    then_with (user_of_session users session) (λ user.
    Ok (record { user = user; version = version; reply = switching_text key version })))))

-- the answer to bytes: that to the request that they make, where they begin with a head of at most 256 fields
abbrev pub IsUpgradeAnswer : List ℕ → Config → Result Upgrade Refused → Type 0
IsUpgradeAnswer bytes config answer =
    ((request : Request) × Makes bytes request × (answer ≡ upgrade_answer config.database config.users request))
    ⊎ (HasNoHead bytes × (answer ≡ Err refused.Bad400))
