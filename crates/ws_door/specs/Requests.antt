-- what the door reads in the head of a request
use Rattle.std.specs.Prelude.{◌≡◌, ℕ, ◌≤◌, List, [], ◌∷◌, map, length, Option, Some, None, if◌then◌else◌, codes}
use Rattle.std.specs.Str.{str_eq_ignore_ascii_case}
use Rattle.httparse.specs.Grammar.{RequestHead, ReadsRequest}
use Rattle.httparse.specs.Spans.{name_and_value}

-- the value of the first field of this name, in letters of any case, without the blanks around it
abbrev pub value_of : List ℕ → List (List ℕ × List ℕ) → Option (List ℕ)
value_of name [] = None
value_of name (field ∷ fields) = if str_eq_ignore_ascii_case field.0 name then Some field.1 else value_of name fields

-- what the door reads in a head: method and target, and of each of these names the first field's value
pub record Request : Type 0 where
  pub method : List ℕ
  pub target : List ℕ
  pub upgrade : Option (List ℕ)
  pub version : Option (List ℕ)
  pub key : Option (List ℕ)
  pub protocols : Option (List ℕ)
  pub cookies : Option (List ℕ)

-- the same of a method, a target, and fields with their names and values
abbrev pub request_with : List ℕ → List ℕ → List (List ℕ × List ℕ) → Request
request_with method target fields = record {
  method = method;
  target = target;
  upgrade = value_of (codes "upgrade") fields;
  version = value_of (codes "sec-websocket-version") fields;
  key = value_of (codes "sec-websocket-key") fields;
  protocols = value_of (codes "sec-websocket-protocol") fields;
  cookies = value_of (codes "cookie") fields;
}

-- the request that a head of the grammar of HTTP makes
abbrev pub request_of : RequestHead → Request
request_of head = request_with head.method head.target (map name_and_value head.fields)

-- these bytes begin with a head of at most 256 fields that makes this request
abbrev pub Makes : List ℕ → Request → Type 0
Makes bytes request = (head : RequestHead) × (rest : List ℕ) × ReadsRequest bytes head rest × (length head.fields ≤ 256) × (request ≡ request_of head)

-- these bytes begin with no head of at most 256 fields
abbrev pub HasNoHead : List ℕ → Type 0
HasNoHead bytes = (head : RequestHead) (rest : List ℕ) → length head.fields ≤ 256 → ¬ (ReadsRequest bytes head rest)
