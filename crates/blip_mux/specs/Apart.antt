-- The replies that wait, beside the requests that come.
use Rattle.std.specs.Prelude.{◌≡◌, ◌≤◌, ℕ, true, None}
use Rattle.std.specs.List.{list_any}
use Rattle.std.specs.FinMap as map
use Rattle.blip_mux.specs.Remembered.{InboxState}
use Rattle.blip_mux.specs.Sending.{Sending, is_reply_to}

-- the request of this number has begun, and no more of it is to come
abbrev pub HasCome : InboxState → ℕ → Type 0
HasCome s number = (number ≤ s.requests) × (map.get s.requests_begun number ≡ None)

-- each reply that waits is to a request that has come
abbrev pub AreApart : InboxState → Sending → Type 0
AreApart s out = (number : ℕ) → list_any (is_reply_to number) out.waiting ≡ true → HasCome s number
