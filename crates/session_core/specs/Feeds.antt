-- What a session offers of a feed.
use Rattle.std.specs.Prelude.{◌≡◌, ◌⊎◌, ℕ, Bool, true, List, [], ◌∷◌, ◌++◌, drop, codes, Option, Some, None, IsSome}
use Rattle.blip_frame.specs.Props.{value_at}
use Rattle.blip_mux.specs.declared.message.Message.{Message}
use Rattle.blip_mux.specs.Joining.{is_request}
use Rattle.sg_names.specs.declared.key.Key.{Key}
use Rattle.sg_history.specs.declared.entries.Entry.{Entry}
use Rattle.sg_history.specs.declared.row.Row.{Row}
use Rattle.sg_history.specs.declared.row.Options.{Options}
use Rattle.sg_history.specs.Device.{plain}
use Rattle.sg_history.specs.Feed.{feed}
use Rattle.sg_history.specs.History.{past}
use Rattle.repl_messages.specs.declared.request.Version.{Version}
use Rattle.repl_messages.specs.declared.looks.Fed.TheVariants as fed
use Rattle.repl_messages.specs.Changes.{changes_payload}
use Rattle.repl_messages.specs.Looks.{front_of}
use Rattle.session_core.specs.declared.event.Event.{Event}
use Rattle.session_core.specs.declared.event.Event.TheVariants as event
use Rattle.session_core.specs.declared.machine.Pending.TheVariants as pending
use Rattle.session_core.specs.declared.machine.Subscription.{Subscription}
use Rattle.session_core.specs.Running.{Running}
use Rattle.session_core.specs.State.{Machine, new_machine}
use Rattle.session_core.specs.Steps.{SessionStep, Steps, Leads}

-- ---- what is offered

-- a request of the gateway that offers rows
abbrev pub IsRowsOffer : Message → Type 0
IsRowsOffer m = (is_request m.kind ≡ true) × (value_at m.payload.props (codes "Profile") ≡ Some (codes "changes"))

-- these messages offer these rows, in order, and no others: each one that offers rows has the first of those that are left
abbrev pub AreRowsOffered : Version → List Message → List Row → Type 0
AreRowsOffered version [] rows = rows ≡ []
AreRowsOffered version (m ∷ messages) rows =
    ((IsRowsOffer m → ⊥) × AreRowsOffered version messages rows)
    ⊎ ((first : List Row) × (later : List Row) × IsRowsOffer m × (m.payload ≡ changes_payload first version) × (rows ≡ first ++ later) × AreRowsOffered version messages later)

-- the rows that a feed has not offered yet
abbrev pub not_offered : Option Running → List Row
not_offered None = []
not_offered (Some r) = drop r.batch r.rows

-- ---- what a feed is given

-- the rows of a feed at the fronts of its looks, the last of which is the first of the list: at its first look from its since key,
-- and at each later one from the plain key of the front before
abbrev pub feed_rows_at : List Entry → List ℕ → Key → Options → List ℕ → List Row
feed_rows_at h user since options [] = []
feed_rows_at h user since options (front ∷ []) = feed (past h front) user since options
feed_rows_at h user since options (front ∷ before ∷ earlier) =
    feed_rows_at h user since options (before ∷ earlier) ++ feed (past h front) user (plain before) options

-- the front of a look for a feed
abbrev pub feed_look : Event → List ℕ
feed_look (event.Fed answer) = front_of answer ∷ []
feed_look _ = []

-- the fronts of the looks for feeds among steps, as of the steps the last first
abbrev pub feed_looks : List SessionStep → List ℕ
feed_looks [] = []
feed_looks (s ∷ earlier) = feed_look s.event ++ feed_looks earlier

-- ---- while a feed runs

-- the steps lead from one state to another, and a feed runs before each of them
abbrev pub LeadsFeed : Machine → List SessionStep → Machine → Type 0
LeadsFeed start [] after = after ≡ start
LeadsFeed start (s ∷ earlier) after = (before : Machine) × LeadsFeed start earlier before × IsSome before.feed × Steps before s after

-- after earlier steps of a session a feed that a device asked for begins at a step, and runs before each of more steps
pub record RunsFeed (user : List ℕ) (version : Version) (strict : Bool) (earlier : List SessionStep) (begin : SessionStep) (more : List SessionStep) (after : Machine) : Type 0 where
  pub before : Machine
  pub first : Machine
  pub asked : Subscription
  pub front : ℕ
  pub rows : List Row
  pub leads : Leads (new_machine user version strict) earlier before
  pub awaited : before.pending ≡ pending.Feed asked
  pub event : begin.event ≡ event.Fed (fed.Rows front rows)
  pub begins : Steps before begin first
  pub runs : LeadsFeed first more after
