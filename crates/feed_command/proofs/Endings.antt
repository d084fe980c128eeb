-- how the parts of a run make the whole
use Rattle.std.proofs.Common.{◌≡◌, ℕ, ◌≤◌, List, Option, length, sym, subst, arith, Err, inl, inr}
use Rattle.sg_outside.specs.Files.{largest_file}
use Rattle.sg_history.specs.BadLine.{IsBadJournal}
use Rattle.sg_history.specs.History.{History}
use Rattle.sg_history.specs.Journal.{Spells}
use Rattle.command_line.specs.declared.status.Status.{Status}
use Rattle.command_line.specs.declared.status.Status.TheVariants as status
use Rattle.feed_command.specs.FeedText.{feed_text}
use Rattle.command_line.specs.FeedWords.{FeedWords}
use Rattle.feed_command.specs.Run.{Ends, EndsFeed}
use Rattle.command_line.specs.Run.{IsLoaded, Prints}

-- what was printed is the feed of the journal's history
pub printed : (s : Status) (h : History) (journal : List ℕ) (f : FeedWords) (faults faults' : ℕ) (before after : Option (List ℕ)) → Spells journal h → Prints s (feed_text h f.user f.since f.options) faults faults' before after → EndsFeed s journal f faults faults' before after
printed status.Ok h journal f faults faults' before after spelled p = (h, spelled, p)
printed status.BadWords h journal f faults faults' before after spelled p = p
printed (status.BadInput file place why) h journal f faults faults' before after spelled p = absurd p
printed status.ReadFault h journal f faults faults' before after spelled p = p
printed status.WriteFault h journal f faults faults' before after spelled p = (h, spelled, p.1, p.0)
printed status.DoorFault h journal f faults faults' before after spelled p = p
printed status.Memory h journal f faults faults' before after spelled p = p

-- what was found of the journal that was loaded is so of the bytes that the files record
pub with_bytes : (s : Status) (f : FeedWords) (bytes journal : List ℕ) (faults faults' : ℕ) (before after : Option (List ℕ)) → (length bytes ≤ largest_file) × (journal ≡ bytes) → EndsFeed s journal f faults faults' before after → Ends s f bytes before after
with_bytes status.Ok f bytes journal faults faults' before after loaded e =
    let P : List ℕ → Type 0 = λ b. Spells b e.0 in
    (e.0, (loaded.0, subst P loaded.1 e.1), e.2)
with_bytes status.BadWords f bytes journal faults faults' before after loaded e = e
with_bytes (status.BadInput file place why) f bytes journal faults faults' before after loaded e = (
  e.0,
  inr (loaded.0, (let P : List ℕ → Type 0 = λ b. IsBadJournal b (record { place = place; why = why }) in subst P loaded.1 e.1)),
  (λ h input.
      let P : List ℕ → Type 0 = λ b. Spells b h in
      e.2 h (subst P (sym loaded.1) input.1)),
)
with_bytes status.ReadFault f bytes journal faults faults' before after loaded e = tt
with_bytes status.WriteFault f bytes journal faults faults' before after loaded e =
    let P : List ℕ → Type 0 = λ b. Spells b e.0 in
    (e.0, (loaded.0, subst P loaded.1 e.1), e.2)
with_bytes status.DoorFault f bytes journal faults faults' before after loaded e = e
with_bytes status.Memory f bytes journal faults faults' before after loaded e = tt

-- a journal that was not loaded
pub not_loaded : (s : Status) (f : FeedWords) (bytes : List ℕ) (before after : Option (List ℕ)) → IsLoaded 1 bytes (Err s) → Ends s f bytes before after
not_loaded status.Ok f bytes before after loaded = absurd loaded
not_loaded status.BadWords f bytes before after loaded = loaded
not_loaded (status.BadInput file place why) f bytes before after loaded =
    (loaded.0, inl (loaded.1, loaded.2, loaded.3), λ h input. omega (arith, loaded.1, input.0))
not_loaded status.ReadFault f bytes before after loaded = tt
not_loaded status.WriteFault f bytes before after loaded = absurd loaded
not_loaded status.DoorFault f bytes before after loaded = absurd loaded
not_loaded status.Memory f bytes before after loaded = tt
