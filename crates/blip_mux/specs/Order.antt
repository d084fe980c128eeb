-- The order of the messages that come.
use Rattle.std.specs.Prelude.{◌≡◌, ℕ, ◌+◌, Bool, false, not, ◌&&◌, ◌||◌, List, [], ◌∷◌, ◌==◌, if◌then◌else◌}
use Rattle.blip_frame.specs.declared.frame.Kind.{Kind}
use Rattle.blip_mux.specs.declared.message.Message.{Message}
use Rattle.blip_mux.specs.declared.inbox.Taken.{Taken}
use Rattle.blip_mux.specs.declared.inbox.Taken.TheVariants as takens
use Rattle.blip_mux.specs.Joining.{Event, came, expected, is_request}

-- the messages among what frames gave
abbrev pub messages_in : List Taken → List Message
messages_in [] = []
messages_in (takens.Nothing ∷ given) = messages_in given
messages_in (takens.Ack kind number bytes ∷ given) = messages_in given
messages_in (takens.Owed kind number bytes ∷ given) = messages_in given
messages_in (takens.Whole message ∷ given) = message ∷ messages_in given

-- how many of the messages are of this class and this number
abbrev pub times_in : (Kind → Bool) → ℕ → List Message → ℕ
times_in class number [] = 0
times_in class number (m ∷ messages) = (if class m.kind && number == m.number then 1 else 0) + times_in class number messages

-- how many times a reply to the request of this number was expected
abbrev pub times_expected : ℕ → List Event → ℕ
times_expected number [] = 0
times_expected number (came f ∷ events) = times_expected number events
times_expected number (expected other ∷ events) = (if number == other then 1 else 0) + times_expected number events

-- whether a number is among these
abbrev pub is_among : ℕ → List ℕ → Bool
is_among number [] = false
is_among number (other ∷ numbers) = number == other || is_among number numbers

-- the numbers of the requests in the order in which their first frames come, after these
abbrev pub beginnings : List ℕ → List Event → List ℕ
beginnings begun [] = []
beginnings begun (came f ∷ events) =
    if is_request f.kind && not (is_among f.number begun) then f.number ∷ beginnings (f.number ∷ begun) events else beginnings begun events
beginnings begun (expected number ∷ events) = beginnings begun events

-- the numbers count up from this one
abbrev pub CountsFrom : ℕ → List ℕ → Type 0
CountsFrom n [] = Unit {0}
CountsFrom n (x ∷ xs) = (x ≡ n) × CountsFrom (n + 1) xs
