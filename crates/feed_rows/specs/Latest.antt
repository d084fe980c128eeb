-- what the code's references to writes and effects stand for
use Rattle.std.specs.Prelude.{ℕ, Option, Some, None}
use Rattle.sg_history.specs.Current.{Current, current_of, recorded_effects}
use Rattle.log_views.specs.States.{effects_in}
use Rattle.feed_rows.specs.declared.document.Change.{Change}
use Rattle.feed_rows.specs.declared.document.Latest.{Latest}

-- the winner's write and its effects, with the sequence of the last write
abbrev pub winner_in : Latest → Current
winner_in latest = current_of latest.seq latest.write.now (effects_in latest.effects)

abbrev pub current_in : Option Latest → Option Current
current_in None = None
current_in (Some latest) = Some (winner_in latest)

-- the place from which on a document is what it is, 0 where it was never written
abbrev pub since_in : Option Latest → ℕ
since_in None = 0
since_in (Some latest) = latest.since

-- the winner's write where a document changed, with the sequence of the last write there
abbrev pub changed_in : Change → Current
changed_in change = current_of change.seq change.winner.now (recorded_effects change.winner.now)
