-- no room is found for a checkpoint only where the board at which all ended has none
use Rattle.std.proofs.Common.{◌≡◌, ◌≢◌, ◌≤◌, ◌⊎◌, ◌+◌, ℕ, Bool, true, false, List, [], ◌∷◌, length, nat_eq, nat_lt, Option, Some, None, inl, inr, refl, sym, ap, subst, le_trans, if◌then◌else◌}
use Rattle.std.proofs.lemmas.Bool.{eqb-true, false≢true, leb-true}
use Rattle.std.specs.Option.{option_map, unwrap_or}
use Rattle.sg_history.specs.Board.{After, BoardState, IsAfterAll, SideEntry, SideFollows, SideValue, side_at}
use Rattle.checkpoint_store.specs.declared.answers.SetAnswer.{SetAnswer}
use Rattle.checkpoint_store.specs.declared.answers.SetAnswer.TheVariants as set
use Rattle.checkpoint_store.specs.Answers.{is_full, set_answer}
use Rattle.checkpoint_store.specs.Checkpoints.{checkpoint_text}
use Rattle.checkpoint_store.specs.SideMaps.{IsRising, side_number}
use Rattle.sync_syntax.specs.declared.tree.Program.{Program}
use Rattle.session_core.specs.declared.act.Want.{Want}
use Rattle.session_core.specs.declared.act.Want.TheVariants as want
use Rattle.session_core.specs.declared.event.Event.{Event}
use Rattle.session_core.specs.declared.event.Event.TheVariants as event
use Rattle.session_core.specs.Steps.{SessionStep, wanted_after}
use Rattle.session_run.specs.Answered.{AreAnswered, IsEventAnswered, IsSet, Moment}
use Rattle.session_run.specs.Numbers.{number_in}
use Rattle.session_threads.specs.Bounds.{AreFullSteps, IsFullEvent}
use Rattle.session_threads.proofs.Bounding.{step_read}
use Rattle.session_threads.proofs.Reading.{after_one, after_second, was_one}

-- a side map that follows a rising one has at least as many texts
abbrev pub RisingCount : Type 0
RisingCount = (earlier later : List SideEntry) → IsRising earlier → SideFollows earlier later → length earlier ≤ length later

-- ---- what a set answers that finds no room

abbrev says_full : SetAnswer → Bool
says_full (set.Set rev) = false
says_full (set.Conflict409 current) = false
says_full (set.TooLarge413 bytes) = false
says_full set.Full503 = true
says_full set.Memory = false

not_memory : set.Full503 ≢ set.Memory
not_memory e = false≢true (sym (ap says_full e))

full_by : (large fits full : Bool) (bytes next kept : ℕ)
    → set.Full503 ≡ (if large then set.TooLarge413 bytes else (if fits then (if full then set.Full503 else set.Set next) else set.Conflict409 kept)) → full ≡ true
full_by true fits full bytes next kept e = absurd (false≢true (sym (ap says_full e)))
full_by false true true bytes next kept e = refl
full_by false true false bytes next kept e = absurd (false≢true (sym (ap says_full e)))
full_by false false full bytes next kept e = absurd (false≢true (sym (ap says_full e)))

full_there : (side : List SideEntry) (text : List ℕ) (rev : ℕ) (body : List ℕ) → set.Full503 ≡ set_answer side text rev body → is_full (side_number side text) (length side) ≡ true
full_there side text rev body =
    full_by (nat_lt 4096 (length body)) (nat_eq rev (unwrap_or (side_number side text) 0)) (is_full (side_number side text) (length side)) (length body) (unwrap_or (side_number side text) 0 + 1) (unwrap_or (side_number side text) 0)

module _ (count : RisingCount) where
  full_later : (found later : List SideEntry) (user client : List ℕ) → IsRising found → SideFollows found later → is_full (side_number found (checkpoint_text user client)) (length found) ≡ true
      → (100000 ≤ length later) ⊎ (18446744073709551615 ≤ number_in later user client)
  full_later found later user client up follows full = by (side_at found text) refl full
    where
      text : List ℕ
      text = checkpoint_text user client

      by : (o : Option SideValue) → side_at found text ≡ o → is_full (option_map (λ (v : SideValue). v.number) o) (length found) ≡ true → (100000 ≤ length later) ⊎ (18446744073709551615 ≤ number_in later user client)
      by None there is = inl (le_trans (leb-true 100000 (length found) is) (count found later up follows))
      by (Some old) there is =
          let next = follows text old there in
          let last : old.number ≡ 18446744073709551615 = eqb-true old.number 18446744073709551615 is in
          let most : 18446744073709551615 ≤ next.0.number = subst (λ (n : ℕ). n ≤ next.0.number) last next.2.number in
          inr (subst (λ (o : Option SideValue). 18446744073709551615 ≤ unwrap_or (option_map (λ (v : SideValue). v.number) o) 0) (sym next.1) most)

  module _ (board : BoardState) where
    full_set : (before after : Moment) (user client : List ℕ) (rev : ℕ) (body : List ℕ) → IsSet before user client rev body set.Full503 after → IsAfterAll after.read board
        → (100000 ≤ length board.side) ⊎ (18446744073709551615 ≤ number_in board.side user client)
    full_set before after user client rev body is behind =
        let sets = is.sets in
        let up : IsRising sets.found.side = subst (λ (side : List SideEntry). IsRising side) sets.sets.same sets.checkpoints.rising in
        let next : After sets.found board = after_one after.read sets.found board (was_one before.read after.read sets.found sets.was_found) behind in
        full_later sets.found.side board.side user client up next.side (full_there sets.found.side (checkpoint_text user client) rev body (sets.sets.answer not_memory))

    full_event : (before after : Moment) (user : List ℕ) (program : Program) (strict : Bool) (wanted : Option Want) (e : Event) → IsAfterAll after.read board → IsEventAnswered before user program strict wanted e after → IsFullEvent board.side user e wanted
    full_event before after user program strict wanted (event.Whole message) behind is = tt
    full_event before after user program strict wanted (event.Idle front) behind is = tt
    full_event before after user program strict wanted (event.Fed answer) behind is = tt
    full_event before after user program strict wanted (event.Bodies answer) behind is = tt
    full_event before after user program strict wanted (event.Asked answer) behind is = tt
    full_event before after user program strict wanted (event.Judged answer) behind is = tt
    full_event before after user program strict wanted (event.Got answer) behind is = tt
    full_event before after user program strict wanted (event.Set (set.Set rev)) behind is = tt
    full_event before after user program strict wanted (event.Set (set.Conflict409 current)) behind is = tt
    full_event before after user program strict wanted (event.Set (set.TooLarge413 bytes)) behind is = tt
    full_event before after user program strict wanted (event.Set set.Memory) behind is = tt
    full_event before after user program strict None (event.Set set.Full503) behind is = tt
    full_event before after user program strict (Some (want.Feed since options)) (event.Set set.Full503) behind is = tt
    full_event before after user program strict (Some (want.Bodies options rows most)) (event.Set set.Full503) behind is = tt
    full_event before after user program strict (Some (want.Ask offers)) (event.Set set.Full503) behind is = tt
    full_event before after user program strict (Some (want.Propose r)) (event.Set set.Full503) behind is = tt
    full_event before after user program strict (Some (want.GetCheckpoint client)) (event.Set set.Full503) behind is = tt
    full_event before after user program strict (Some (want.SetCheckpoint client rev body)) (event.Set set.Full503) behind is = full_set before after user client rev body is behind

    pub full_steps : (start now : Moment) (user : List ℕ) (program : Program) (strict : Bool) (steps : List SessionStep) → IsAfterAll now.read board → AreAnswered start user program strict steps now → AreFullSteps board.side user steps
    full_steps start now user program strict [] behind is = tt
    full_steps start now user program strict (s ∷ earlier) behind (between, before, is) =
        let more = step_read between now user program strict (wanted_after earlier) s.event is in (
          full_event between now user program strict (wanted_after earlier) s.event behind is,
          full_steps start between user program strict earlier (after_second more.0 between.read board (subst (λ (read : List BoardState). IsAfterAll read board) more.1 behind)) before,
        )
