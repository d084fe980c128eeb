-- The offers of a session: which rows stand in each, and which of them are open.
use Rattle.std.specs.Prelude.{◌≡◌, ◌⊎◌, ◌≤◌, ℕ, zero, suc, ◌+◌, Bool, true, false, ◌&&◌, not, List, [], ◌∷◌, ◌++◌, length, take, drop, filter, codes, bytes_eq, Option, Some, None, ◌==◌, if◌then◌else◌}
use Rattle.blip_frame.specs.Props.{value_at}
use Rattle.blip_mux.specs.declared.message.Message.{Message}
use Rattle.blip_mux.specs.Joining.{is_request, is_reply}
use Rattle.sg_names.specs.declared.key.Key.{Key}
use Rattle.sg_history.specs.declared.entries.Entry.{Entry}
use Rattle.sg_history.specs.declared.row.Row.{Row}
use Rattle.sg_history.specs.declared.row.Options.{Options}
use Rattle.sg_history.specs.Device.{plain}
use Rattle.sg_history.specs.Feed.{feed}
use Rattle.sg_history.specs.History.{past}
use Rattle.repl_messages.specs.declared.request.Version.{Version}
use Rattle.repl_messages.specs.Changes.{changes_payload}
use Rattle.session_core.specs.declared.event.Event.{Event}
use Rattle.session_core.specs.declared.event.Event.TheVariants as event
use Rattle.session_core.specs.Running.{is_none}
use Rattle.session_core.specs.Steps.{SessionStep}

-- ---- batches

-- rows cut into lists of this size, of which the last may be shorter; at most so many lists
abbrev pub batches_up_to : ℕ → ℕ → List Row → List (List Row)
batches_up_to zero size rows = []
batches_up_to (suc most) size [] = []
batches_up_to (suc most) size (row ∷ rows) = take size (row ∷ rows) ∷ batches_up_to most size (drop size (row ∷ rows))

-- all of them; no rows are cut into none
abbrev pub batches : ℕ → List Row → List (List Row)
batches size rows = batches_up_to (length rows) size rows

-- each list has this many rows, but for the last one, which has at least one row and no more than that
abbrev pub AreFull : ℕ → List (List Row) → Type 0
AreFull size [] = Unit {0}
AreFull size (last ∷ []) = (1 ≤ length last) × (length last ≤ size)
AreFull size (rows ∷ next ∷ later) = (length rows ≡ size) × AreFull size (next ∷ later)

-- the rows of each look of a feed, in order, at the fronts of its looks, the last of which is the first of the list: at its first
-- look from its since key, and at each later one from the plain key of the front before
abbrev pub looks_at : List Entry → List ℕ → Key → Options → List ℕ → List (List Row)
looks_at h user since options [] = []
looks_at h user since options (front ∷ []) = feed (past h front) user since options ∷ []
looks_at h user since options (front ∷ before ∷ earlier) =
    looks_at h user since options (before ∷ earlier) ++ feed (past h front) user (plain before) options ∷ []

-- ---- what is offered

-- whether the name of a message is that of an offer
abbrev pub is_changes : Option (List ℕ) → Bool
is_changes None = false
is_changes (Some name) = bytes_eq name (codes "changes")

-- whether a message of the gateway is an offer of rows, maybe an empty one
abbrev pub is_offer : Message → Bool
is_offer m = is_request m.kind && is_changes (value_at m.payload.props (codes "Profile"))

-- the offers among these messages are of these rows, one list for each offer, in order
abbrev pub AreOffers : Version → List Message → List (List Row) → Type 0
AreOffers version [] offers = offers ≡ []
AreOffers version (m ∷ messages) offers =
    ((is_offer m ≡ false) × AreOffers version messages offers)
    ⊎ ((rows : List Row) × (later : List (List Row)) × (is_offer m ≡ true) × (m.payload ≡ changes_payload rows version) × (offers ≡ rows ∷ later) × AreOffers version messages later)

-- the offers that are not empty
abbrev pub with_rows : List (List Row) → List (List Row)
with_rows offers = filter (λ rows. not (is_none rows)) offers

-- each offer that wants no reply is empty
abbrev pub WantReplies : Version → List Message → Type 0
WantReplies version [] = Unit {0}
WantReplies version (m ∷ messages) =
    (is_offer m ≡ true → m.no_reply ≡ true → m.payload ≡ changes_payload [] version) × WantReplies version messages

-- ---- what is open

-- how many of the messages are offers
abbrev pub offers_among : List Message → ℕ
offers_among [] = 0
offers_among (m ∷ messages) = (if is_offer m then 1 else 0) + offers_among messages

-- the number of the offer that is open once an event has come: a reply to it closes it
abbrev pub closed_by : Event → Option ℕ → Option ℕ
closed_by (event.Whole message) (Some number) = if is_reply message.kind && message.number == number then None else Some number
closed_by event number = number

-- the number of the offer that is open once messages were put: each that wants a reply opens
abbrev pub opened_by : List Message → Option ℕ → Option ℕ
opened_by [] number = number
opened_by (m ∷ messages) number = opened_by messages (if is_offer m && not m.no_reply then Some m.number else number)

-- the number of the offer that is open after steps, the last of which is the first of the list
abbrev pub open_after : List SessionStep → Option ℕ
open_after [] = None
open_after (s ∷ earlier) = opened_by s.puts (closed_by s.event (open_after earlier))
