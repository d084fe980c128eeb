-- A feed that runs, and how it goes on.
use Rattle.std.specs.Prelude.{ℕ, ◌+◌, Bool, true, false, ◌&&◌, List, [], ◌∷◌, drop, Option, Some, None, if◌then◌else◌}
use Rattle.sg_names.specs.declared.key.Key.{Key}
use Rattle.sg_history.specs.declared.row.Row.{Row}
use Rattle.sg_history.specs.declared.row.Options.{Options}
use Rattle.sg_history.specs.Device.{plain}
use Rattle.repl_messages.specs.declared.request.Version.{Version}
use Rattle.session_core.specs.declared.act.Act.{Act}
use Rattle.session_core.specs.Acts.{offer_act}

-- the rows of its last look that are not answered yet, of which the first ones, a batch of them or all, are on offer in the gateway's
-- request of this number; the front of that look; whether it goes on once all rows are answered; and whether the device was informed, by
-- an empty offer, that it has all rows
pub record Running : Type 0 where
  pub rows : List Row
  pub batch : ℕ
  pub options : Options
  pub continuous : Bool
  pub number : ℕ
  pub front : ℕ
  pub caught_up : Bool

-- the feed once the rows on offer are answered
abbrev pub rest : Running → Running
rest r = record r { rows = drop r.batch r.rows }

-- whether no row of its last look is left
abbrev pub is_none : List Row → Bool
is_none [] = true
is_none (row ∷ rows) = false

-- whether a feed waits for the history to grow: all rows that it was given are answered
abbrev pub waits : Option Running → Bool
waits None = false
waits (Some r) = is_none r.rows

-- the since key of the next look of a feed: all up to the front of its last look was given to it
abbrev pub next_since : Running → Key
next_since r = plain r.front

-- whether there is nothing to put: no row is left, and the device was informed so
abbrev pub is_silent : Running → Bool
is_silent r = r.caught_up && (r.continuous && is_none r.rows)

-- what is put where a feed goes on: its next offer, which is empty where no row is left
abbrev pub next_acts : Version → Running → List Act
next_acts version r = if is_silent r then [] else offer_act r.rows r.batch version ∷ []

-- how many requests the gateway has then put
abbrev pub next_requests : ℕ → Running → ℕ
next_requests requests r = if is_silent r then requests else requests + 1

-- the feed then: its next rows on offer in the next request; or, where no row is left, a continuous one waits, and every other ends
abbrev pub next_feed_with : List Row → ℕ → Running → Option Running
next_feed_with [] requests r = if r.continuous then Some (record r { caught_up = true }) else None
next_feed_with (row ∷ rows) requests r = Some (record r { number = requests + 1 })

abbrev pub next_feed : ℕ → Running → Option Running
next_feed requests r = next_feed_with r.rows requests r
