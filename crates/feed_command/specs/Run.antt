-- what a run of `feed` answers and does
use Rattle.std.specs.Prelude.{◌≡◌, ◌⊎◌, ℕ, ◌≤◌, ◌<◌, List, length, Option}
use Rattle.sg_outside.specs.Files.{largest_file}
use Rattle.sg_history.specs.BadLine.{IsBadJournal}
use Rattle.sg_history.specs.History.{History}
use Rattle.sg_history.specs.Journal.{Spells}
use Rattle.sg_history.specs.declared.fault.Why.{Why}
use Rattle.sg_history.specs.declared.fault.Why.TheVariants.{Long}
use Rattle.command_line.specs.declared.status.Status.{Status}
use Rattle.command_line.specs.declared.status.Status.TheVariants as status
use Rattle.feed_command.specs.FeedText.{feed_text}
use Rattle.command_line.specs.FeedWords.{FeedWords}
use Rattle.command_line.specs.Run.{Took, TookPart}

-- the bytes are no more than a file may have, and are the journal of this history
abbrev pub IsInput : List ℕ → History → Type 0
IsInput bytes h = (length bytes ≤ largest_file) × Spells bytes h

-- what is wrong with the bytes, and where: they are more than a file may have, or else this is their first bad line
abbrev pub IsBadInput : List ℕ → ℕ → Why → Type 0
IsBadInput bytes place why =
    ((largest_file < length bytes) × (place ≡ 0) × (why ≡ Long))
    ⊎ ((length bytes ≤ largest_file) × IsBadJournal bytes (record { place = place; why = why }))

-- each status with what it says of the journal's bytes and of the sink
abbrev pub Ends : Status → FeedWords → List ℕ → Option (List ℕ) → Option (List ℕ) → Type 0
Ends status.Ok f bytes before after = (h : History) × IsInput bytes h × Took before after (feed_text h f.user f.since f.options)
Ends status.BadWords f bytes before after = ⊥
Ends (status.BadInput file place why) f bytes before after =
    (file ≡ 1) × IsBadInput bytes place why × ((h : History) → ¬ IsInput bytes h)
Ends status.ReadFault f bytes before after = Unit {0}
Ends status.WriteFault f bytes before after = (h : History) × IsInput bytes h × TookPart before after (feed_text h f.user f.since f.options)
Ends status.DoorFault f bytes before after = ⊥
Ends status.Memory f bytes before after = Unit {0}

-- how a run may end with the journal in hand, with the count of the sink's faults and what the sink took
abbrev pub EndsFeed : Status → List ℕ → FeedWords → ℕ → ℕ → Option (List ℕ) → Option (List ℕ) → Type 0
EndsFeed status.Ok journal f faults faults' before after =
    (h : History) × Spells journal h × Took before after (feed_text h f.user f.since f.options)
EndsFeed status.BadWords journal f faults faults' before after = ⊥
EndsFeed (status.BadInput file place why) journal f faults faults' before after =
    (file ≡ 1) × IsBadJournal journal (record { place = place; why = why }) × ((h : History) → ¬ Spells journal h) × (after ≡ before)
EndsFeed status.ReadFault journal f faults faults' before after = ⊥
EndsFeed status.WriteFault journal f faults faults' before after =
    (h : History) × Spells journal h × TookPart before after (feed_text h f.user f.since f.options) × (faults < faults')
EndsFeed status.DoorFault journal f faults faults' before after = ⊥
EndsFeed status.Memory journal f faults faults' before after = after ≡ before
