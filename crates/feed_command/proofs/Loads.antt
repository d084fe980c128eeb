-- what a run of `feed` loaded
use Rattle.std.proofs.Common.{◌≡◌, ◌++◌, ℕ, List, [], ◌∷◌, Option, Result, Ok, Err, inl, inr, refl, sym, subst, append-nil}
use Rattle.sg_outside.specs.Files.{Load}
use Rattle.sg_outside.specs.declared.files.Loaded.{Loaded}
use Rattle.sg_outside.specs.declared.files.Loaded.TheVariants as loaded
use Rattle.sg_history.specs.BadLine.{IsBadJournal}
use Rattle.sg_history.specs.Journal.{Spells}
use Rattle.command_line.specs.declared.status.Status.{Status}
use Rattle.command_line.specs.declared.status.Status.TheVariants as status
use Rattle.feed_command.specs.FeedLoads.{IsBadJournalAt, IsGoodJournal, LoadsJournal}
use Rattle.command_line.specs.FeedWords.{FeedWords}
use Rattle.command_line.specs.Loads.{EndsLoads, IsLoadAnswer, NeedsFile, TellsOf}
use Rattle.feed_command.specs.Run.{EndsFeed}
use Rattle.command_line.specs.Run.{HasFile, HasNoFile}

abbrev Recorded : Type 0
Recorded = Option (List ℕ → Option (List ℕ))

-- what a load of the journal's file says
abbrev pub Came : Recorded → List ℕ → List Load → List Load → Result (List ℕ) Status → Type 0
Came recorded path before after result =
    (answer : Loaded) × (after ≡ before ++ record { name = path; answer = answer } ∷ []) × IsLoadAnswer 1 answer result × NeedsFile recorded path answer

-- a file that came is there, and was so answered
is_whole : (answer : Loaded) (recorded : Recorded) (path bytes : List ℕ) → IsLoadAnswer 1 answer (Ok bytes) → NeedsFile recorded path answer → (answer ≡ loaded.Whole) × ¬ HasNoFile recorded path
is_whole loaded.Whole recorded path bytes is there = (refl, there)
is_whole loaded.Longer recorded path bytes is there = absurd is
is_whole loaded.Failed recorded path bytes is there = absurd is
is_whole loaded.Memory recorded path bytes is there = absurd is

-- how a run ends at a file that did not come
tells_of : (answer : Loaded) (s : Status) (recorded : Recorded) (path : List ℕ) → IsLoadAnswer {X = List ℕ} 1 answer (Err s) → NeedsFile recorded path answer
    → TellsOf recorded IsGoodJournal IsBadJournalAt 1 path answer s
tells_of loaded.Whole s recorded path is there = absurd is
tells_of loaded.Longer s recorded path is there = (is, there)
tells_of loaded.Failed s recorded path is there = is
tells_of loaded.Memory s recorded path is there = is

-- the journal did not come
pub not_come : (s : Status) (recorded : Recorded) (path : List ℕ) (before after : List Load) → Came recorded path before after (Err s) → LoadsJournal recorded path before after s
not_come s recorded path before after came =
    (record { name = path; answer = came.0 } ∷ [], came.1, inr (refl, tells_of came.0 s recorded path came.2 came.3))

-- one whole load, with what came of the bytes
come : (s : Status) (recorded : Recorded) (path bytes : List ℕ) (before after : List Load) → Came recorded path before after (Ok bytes)
    → (¬ HasNoFile recorded path → EndsLoads recorded IsGoodJournal IsBadJournalAt 1 (path ∷ []) (record { name = path; answer = loaded.Whole } ∷ []) s)
    → LoadsJournal recorded path before after s
come s recorded path bytes before after came ends =
    let whole = is_whole came.0 recorded path bytes came.2 came.3 in
    (record { name = path; answer = loaded.Whole } ∷ [], subst (λ a. after ≡ before ++ record { name = path; answer = a } ∷ []) whole.0 came.1, ends whole.1)

-- the journal came, and the run ended so
pub journal_came : (s : Status) (recorded : Recorded) (path journal : List ℕ) (f : FeedWords) (faults faults' : ℕ) (taken taken' : Option (List ℕ)) (before after : List Load)
    → Came recorded path before after (Ok journal) → ((bytes : List ℕ) → HasFile recorded path bytes → journal ≡ bytes) → EndsFeed s journal f faults faults' taken taken'
    → LoadsJournal recorded path before after s
journal_came status.Ok recorded path journal f faults faults' taken taken' before after came same e =
    come status.Ok recorded path journal before after came (λ there.
    inl ((record { load_is = refl; there = there; good = λ bytes file. (e.0, subst (λ b. Spells b e.0) (same bytes file) e.1) }, tt), inl refl))
journal_came status.BadWords recorded path journal f faults faults' taken taken' before after came same e = absurd e
journal_came (status.BadInput file place why) recorded path journal f faults faults' taken taken' before after came same e =
    come (status.BadInput file place why) recorded path journal before after came (λ there.
    inr (
      refl,
      inr (
        place,
        why,
        subst (λ n. status.BadInput n place why ≡ status.BadInput 1 place why) (sym e.0) refl,
        there,
        λ bytes file. subst (λ b. IsBadJournal b (record { place = place; why = why })) (same bytes file) e.1,
      ),
    ))
journal_came status.ReadFault recorded path journal f faults faults' taken taken' before after came same e = absurd e
journal_came status.WriteFault recorded path journal f faults faults' taken taken' before after came same e =
    come status.WriteFault recorded path journal before after came (λ there.
    inl ((record { load_is = refl; there = there; good = λ bytes file. (e.0, subst (λ b. Spells b e.0) (same bytes file) e.1) }, tt), inr (inl refl)))
journal_came status.DoorFault recorded path journal f faults faults' taken taken' before after came same e = absurd e
journal_came status.Memory recorded path journal f faults faults' taken taken' before after came same e =
    come status.Memory recorded path journal before after came (λ there. inr (refl, inl refl))

-- nothing was loaded, since memory ran out over the words
pub none_loaded : (recorded : Recorded) (path : List ℕ) (before : List Load) → LoadsJournal recorded path before before status.Memory
none_loaded recorded path before = ([], sym (append-nil before), inr refl)
