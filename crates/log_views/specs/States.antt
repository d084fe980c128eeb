-- What the code's references to writes stand for.
use Rattle.std.specs.Prelude.{ℕ, Bool, ◌&&◌, List, ◌∷◌, Option, Some, None, option_map, if◌then◌else◌}
use Rattle.std.specs.List.{list_any}
use Rattle.sg_history.specs.declared.entries.Entry.{Entry}
use Rattle.sg_history.specs.declared.entries.Write.{Write}
use Rattle.sg_history.specs.Current.{Sequenced, Current, Effects, current_of, effects_of, last_write, winning_of}
use Rattle.sg_history.specs.View.{Shown, every, passes}
use Rattle.log_index.specs.declared.marks.Marked.{Marked}
use Rattle.log_index.specs.Marks.{marked_after}
use Rattle.log_views.specs.declared.documents.DocState.{DocState}
use Rattle.log_views.specs.declared.effects.EffectsOf.{EffectsOf}

-- effects
abbrev pub effects_in : EffectsOf → Effects
effects_in effects = record { channels = effects.channels.now; grants = effects.grants.now; roles = effects.roles.now }

-- a document as it is
abbrev pub state_of : DocState → Current
state_of state = current_of state.seq state.winner.now (effects_in state.effects)

abbrev pub state_in : Option DocState → Option Current
state_in state = option_map state_of state

-- what is shown of a document that is shown
abbrev pub shown_of : DocState → Shown
shown_of state =
    record { seq = state.seq; rev = state.winner.now.rev; deleted = state.winner.now.deleted }

abbrev pub shown_in : Option DocState → Option Shown
shown_in state = option_map shown_of state

-- the write of a document's winner, with its sequence
abbrev pub winning : List Entry → List ℕ → Option Sequenced
winning es doc = option_map (winning_of es doc) (last_write es doc)

-- what is shown of a document to a user who has these channels
abbrev pub view_by : (List ℕ → Bool) → Option (List (List ℕ)) → Option Current → Option Shown
view_by has filter None = None
view_by has filter (Some c) =
    if list_any has (every ∷ c.effects.channels) && passes filter (every ∷ c.effects.channels)
    then Some (record { seq = c.seq; rev = c.rev; deleted = c.deleted })
    else None

-- since when a revision that was written at a sequence has its effects: since the replacement of the sync function that they are
-- from, or else since that write
abbrev pub since_by : Option Marked → ℕ → ℕ
since_by None seq = seq
since_by (Some marked) seq = marked.sync

-- since when the revision of a write has its effects, where there is a write
abbrev pub since_in : List Entry → Option Sequenced → Option ℕ
since_in es written = option_map (λ w. since_by (marked_after es w) w.seq) written

-- the same of the write of a sequence
abbrev pub since_at_write : List Entry → ℕ → Option Write → Option ℕ
since_at_write es seq None = None
since_at_write es seq (Some w) = Some (since_by (marked_after es (record { seq = seq; write = w })) seq)

-- the effects of the revision of the write of a sequence, where there is a write
abbrev pub effects_at_write : List Entry → ℕ → Option Write → Option Effects
effects_at_write es seq None = None
effects_at_write es seq (Some w) = Some (effects_of es (record { seq = seq; write = w }))
