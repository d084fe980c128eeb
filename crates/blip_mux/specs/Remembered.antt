-- What an inbox is seen as.
use Rattle.std.specs.Prelude.{ℕ, Bool, List, refl}
use Rattle.std.specs.Ordering.{nat_cmp}
use Rattle.std.specs.FinSet as set
use Rattle.std.specs.FinMap as map
use Rattle.std.specs.Coded.{Coded, code_by, coded×, coded_ℕ, coded_bool, coded_list}
use Rattle.blip_frame.specs.declared.frame.Kind.{Kind}
use Rattle.blip_frame.specs.contracts.frame.Kind as kind
use Rattle.blip_mux.specs.Begun.{Begun}

-- what has arrived of messages that are not whole, by their numbers
abbrev pub Unfinished : Type 0
Unfinished = map.FinMap nat_cmp Begun

-- the greatest number of the requests that have begun, the numbers of the sent requests whose reply is expected and has not come whole, what has arrived of requests and of replies, and what these hold
pub record InboxState : Type 0 where
  pub requests : ℕ
  pub expected : set.FinSet nat_cmp
  pub requests_begun : Unfinished
  pub replies_begun : Unfinished
  pub held : ℕ

-- what has arrived of a message is stored as the tuple of its fields
abbrev pub begun_code : Coded Begun
begun_code =
    code_by (Kind × (Bool × (Bool × (List ℕ × ℕ)))) (coded× kind.the_row.coded (coded× coded_bool (coded× coded_bool (coded× (coded_list coded_ℕ) coded_ℕ)))) (λ b. (b.kind, (b.urgent, (b.no_reply, (b.bytes, b.unacknowledged))))) (λ p. record { kind = p.0; urgent = p.1.0; no_reply = p.1.1.0; bytes = p.1.1.1.0; unacknowledged = p.1.1.1.1 }) (λ _. refl)

abbrev pub unfinished_code : Coded Unfinished
unfinished_code = map.code coded_ℕ begun_code

-- and so is the state of an inbox
abbrev pub inbox_code : Coded InboxState
inbox_code =
    code_by (ℕ × (set.FinSet nat_cmp × (Unfinished × (Unfinished × ℕ)))) (coded× coded_ℕ (coded× (set.code coded_ℕ) (coded× unfinished_code (coded× unfinished_code coded_ℕ)))) (λ s. (s.requests, (s.expected, (s.requests_begun, (s.replies_begun, s.held))))) (λ p. record { requests = p.0; expected = p.1.0; requests_begun = p.1.1.0; replies_begun = p.1.1.1.0; held = p.1.1.1.1 }) (λ _. refl)
