-- where there is no room the history has many entries
use Rattle.std.proofs.Common.{◌≡◌, ◌≤◌, ◌<◌, ◌+◌, ◌*◌, ◌||◌, ◌⊎◌, ◌∙◌, ℕ, Bool, true, false, List, [], ◌∷◌, ◌++◌, length, min, nat_le, nat_lt, Option, None, Some, inl, inr, refl, sym, ap, subst, arith, if◌then◌else◌}
use Rattle.std.proofs.lemmas.Bool.{leb-true, ltb-true}
use Rattle.std.proofs.lemmas.List.{append_assoc, append_cancel_right}
use Rattle.sg_history.specs.declared.book.Waiting.{Waiting}
use Rattle.sg_history.specs.declared.entries.Entry.{Entry}
use Rattle.sg_history.specs.declared.room.RoomFor.{RoomFor}
use Rattle.sg_history.specs.Board.{After, BoardState, IsAfterAll, board_count}
use Rattle.principals.specs.declared.admin_line.AdminLine.{AdminLine}
use Rattle.principals.specs.declared.admin_line.AdminLine.TheVariants as line
use Rattle.principals.specs.Script.{entry_of}
use Rattle.repl_messages.specs.declared.revision.Revision.{Revision}
use Rattle.sync_syntax.specs.declared.tree.Program.{Program}
use Rattle.doc_board.specs.declared.candidate.NoRoom.TheVariants.{Full503, LogFull509}
use Rattle.doc_board.specs.declared.outcome.Outcome.{Outcome}
use Rattle.doc_board.specs.declared.outcome.Outcome.TheVariants as outcome
use Rattle.doc_board.specs.Limits.{entries_on, places_on, refusal}
use Rattle.doc_board.specs.Outcomes.{bytes_of}
use Rattle.board_steps.proofs.SameBoards.{small_body}
use Rattle.write_path.specs.Commands.{IsCommanded}
use Rattle.write_path.specs.Proposals.{IsProposed}
use Rattle.write_path.specs.Reads.{AreAfter, IsOneOf, Reads, WasRead}
use Rattle.session_core.specs.declared.act.Want.{Want}
use Rattle.session_core.specs.declared.act.Want.TheVariants as want
use Rattle.session_core.specs.declared.event.Event.{Event}
use Rattle.session_core.specs.declared.event.Event.TheVariants as event
use Rattle.session_core.specs.Steps.{SessionStep, wanted_after}
use Rattle.session_run.specs.Answered.{AreAnswered, IsEventAnswered, Moment}
use Rattle.session_threads.specs.declared.played.LineOutcome.{LineOutcome}
use Rattle.session_threads.specs.declared.played.LineOutcome.TheVariants.{Plain}
use Rattle.session_threads.specs.Bounds.{AreBoundedLines, AreBoundedSteps, IsOutcomeBounded, IsBoundedEvent}
use Rattle.session_threads.specs.OwnRevisions.{own_revision}
use Rattle.session_threads.specs.inner.Runs.{AreLinesRun, IsLineRun}
use Rattle.session_threads.proofs.Reading.{WasReadLaws, after_one, by_length, one_in_first, one_in_second, was_one}
use Rattle.session_threads.proofs.Lining.{line_reads, lines_read}

-- ---- the sums of a board

full_places : (board : BoardState) (bytes places : ℕ) → refusal board bytes ≡ Some (Full503 places) → 19999 ≤ length board.pending + 2 * length board.rooms
full_places board bytes places h = leb-true 19999 (places_on board) (first (nat_le 19999 (places_on board)) (nat_le 3999999 (entries_on board) || nat_lt 2147483648 (board.bytes + bytes)) h)
  where
    first : (c d : Bool) → (if c then Some (Full503 (places_on board)) else if d then Some (LogFull509 (entries_on board) (min (board.bytes + bytes) 18446744073709551615)) else None) ≡ Some (Full503 places) → c ≡ true
    first true d is = refl
    first false true is = absurd cc
    first false false is = absurd cc

either : (a b : Bool) → (a || b) ≡ true → (a ≡ true) ⊎ (b ≡ true)
either true b is = inl refl
either false b is = inr is

log_full : (board : BoardState) (bytes at entries sum : ℕ) → refusal board bytes ≡ Some (LogFull509 entries sum) → (3999999 ≤ length board.log + (length board.pending + 2 * length board.rooms)) ⊎ (2147483648 < board.bytes + bytes)
log_full board bytes at entries sum h = by (either (nat_le 3999999 (entries_on board)) (nat_lt 2147483648 (board.bytes + bytes)) (second (nat_le 19999 (places_on board)) (nat_le 3999999 (entries_on board) || nat_lt 2147483648 (board.bytes + bytes)) h))
  where
    second : (c d : Bool) → (if c then Some (Full503 (places_on board)) else if d then Some (LogFull509 (entries_on board) (min (board.bytes + bytes) 18446744073709551615)) else None) ≡ Some (LogFull509 entries sum) → d ≡ true
    second true d is = absurd cc
    second false true is = refl
    second false false is = absurd cc

    by : (nat_le 3999999 (entries_on board) ≡ true) ⊎ (nat_lt 2147483648 (board.bytes + bytes) ≡ true) → (3999999 ≤ length board.log + (length board.pending + 2 * length board.rooms)) ⊎ (2147483648 < board.bytes + bytes)
    by (inl is) = inl (leb-true 3999999 (entries_on board) is)
    by (inr is) = inr (ltb-true 2147483648 (board.bytes + bytes) is)

-- what is answered adds to the boards that were read
pub step_read : (before after : Moment) (user : List ℕ) (program : Program) (strict : Bool) (wanted : Option Want) (e : Event) → IsEventAnswered before user program strict wanted e after → (more : List BoardState) × (after.read ≡ more ++ before.read)
step_read before after user program strict None (event.Whole message) is = ([], ap (λ (m : Moment). m.read) is)
step_read before after user program strict None (event.Idle front) is = ([], is.read)
step_read before after user program strict None (event.Fed answer) is = absurd is
step_read before after user program strict None (event.Bodies answer) is = absurd is
step_read before after user program strict None (event.Asked answer) is = absurd is
step_read before after user program strict None (event.Judged answer) is = absurd is
step_read before after user program strict None (event.Got answer) is = absurd is
step_read before after user program strict None (event.Set answer) is = absurd is
step_read before after user program strict (Some (want.Feed since options)) (event.Fed answer) is = (is.0.reads.added, is.0.reads.read)
step_read before after user program strict (Some (want.Feed since options)) (event.Whole message) is = absurd is
step_read before after user program strict (Some (want.Feed since options)) (event.Idle front) is = absurd is
step_read before after user program strict (Some (want.Feed since options)) (event.Bodies answer) is = absurd is
step_read before after user program strict (Some (want.Feed since options)) (event.Asked answer) is = absurd is
step_read before after user program strict (Some (want.Feed since options)) (event.Judged answer) is = absurd is
step_read before after user program strict (Some (want.Feed since options)) (event.Got answer) is = absurd is
step_read before after user program strict (Some (want.Feed since options)) (event.Set answer) is = absurd is
step_read before after user program strict (Some (want.Bodies options rows most)) (event.Bodies answer) is = (is.0.reads.added, is.0.reads.read)
step_read before after user program strict (Some (want.Bodies options rows most)) (event.Whole message) is = absurd is
step_read before after user program strict (Some (want.Bodies options rows most)) (event.Idle front) is = absurd is
step_read before after user program strict (Some (want.Bodies options rows most)) (event.Fed answer) is = absurd is
step_read before after user program strict (Some (want.Bodies options rows most)) (event.Asked answer) is = absurd is
step_read before after user program strict (Some (want.Bodies options rows most)) (event.Judged answer) is = absurd is
step_read before after user program strict (Some (want.Bodies options rows most)) (event.Got answer) is = absurd is
step_read before after user program strict (Some (want.Bodies options rows most)) (event.Set answer) is = absurd is
step_read before after user program strict (Some (want.Ask offers)) (event.Asked answer) is = (is.0.reads.added, is.0.reads.read)
step_read before after user program strict (Some (want.Ask offers)) (event.Whole message) is = absurd is
step_read before after user program strict (Some (want.Ask offers)) (event.Idle front) is = absurd is
step_read before after user program strict (Some (want.Ask offers)) (event.Fed answer) is = absurd is
step_read before after user program strict (Some (want.Ask offers)) (event.Bodies answer) is = absurd is
step_read before after user program strict (Some (want.Ask offers)) (event.Judged answer) is = absurd is
step_read before after user program strict (Some (want.Ask offers)) (event.Got answer) is = absurd is
step_read before after user program strict (Some (want.Ask offers)) (event.Set answer) is = absurd is
step_read before after user program strict (Some (want.Propose r)) (event.Judged answer) is = (is.stores.reads.added, is.stores.reads.read)
step_read before after user program strict (Some (want.Propose r)) (event.Whole message) is = absurd is
step_read before after user program strict (Some (want.Propose r)) (event.Idle front) is = absurd is
step_read before after user program strict (Some (want.Propose r)) (event.Fed answer) is = absurd is
step_read before after user program strict (Some (want.Propose r)) (event.Bodies answer) is = absurd is
step_read before after user program strict (Some (want.Propose r)) (event.Asked answer) is = absurd is
step_read before after user program strict (Some (want.Propose r)) (event.Got answer) is = absurd is
step_read before after user program strict (Some (want.Propose r)) (event.Set answer) is = absurd is
step_read before after user program strict (Some (want.GetCheckpoint client)) (event.Whole message) is = absurd is
step_read before after user program strict (Some (want.GetCheckpoint client)) (event.Idle front) is = absurd is
step_read before after user program strict (Some (want.GetCheckpoint client)) (event.Fed answer) is = absurd is
step_read before after user program strict (Some (want.GetCheckpoint client)) (event.Bodies answer) is = absurd is
step_read before after user program strict (Some (want.GetCheckpoint client)) (event.Asked answer) is = absurd is
step_read before after user program strict (Some (want.GetCheckpoint client)) (event.Judged answer) is = absurd is
step_read before after user program strict (Some (want.GetCheckpoint client)) (event.Got answer) is = (is.0.reads.added, is.0.reads.read)
step_read before after user program strict (Some (want.GetCheckpoint client)) (event.Set answer) is = absurd is
step_read before after user program strict (Some (want.SetCheckpoint client rev body)) (event.Whole message) is = absurd is
step_read before after user program strict (Some (want.SetCheckpoint client rev body)) (event.Idle front) is = absurd is
step_read before after user program strict (Some (want.SetCheckpoint client rev body)) (event.Fed answer) is = absurd is
step_read before after user program strict (Some (want.SetCheckpoint client rev body)) (event.Bodies answer) is = absurd is
step_read before after user program strict (Some (want.SetCheckpoint client rev body)) (event.Asked answer) is = absurd is
step_read before after user program strict (Some (want.SetCheckpoint client rev body)) (event.Judged answer) is = absurd is
step_read before after user program strict (Some (want.SetCheckpoint client rev body)) (event.Got answer) is = absurd is
step_read before after user program strict (Some (want.SetCheckpoint client rev body)) (event.Set answer) is = (is.reads.added, is.reads.read)

-- ---- a board that the closed one comes after

module _ (first b : BoardState) (none : first.bytes ≡ 0) (pending : b.pending ≡ []) (rooms : b.rooms ≡ []) where
  count_is : board_count b ≡ length b.log
  count_is = omega (arith, ap (λ (ws : List Waiting). length ws) pending, ap (λ (rs : List RoomFor). length rs) rooms)

  places_in : (c : BoardState) (at : ℕ) → After c b → at ≤ length c.log → 19999 ≤ length c.pending + 2 * length c.rooms → at + 10000 ≤ length b.log
  places_in c at after low many = omega (arith, after.count, count_is, low, many)

  entries_in : (c : BoardState) (bytes : ℕ) → After c b → After first c → bytes ≤ 20971520 → (3999999 ≤ length c.log + (length c.pending + 2 * length c.rooms)) ⊎ (2147483648 < c.bytes + bytes) → 102 ≤ length b.log
  entries_in c bytes after begun small (inl many) = omega (arith, after.count, count_is, many)
  entries_in c bytes after begun small (inr many) = omega (arith, after.count, count_is, begun.bytes, begun.count, none, small, many)

  -- ---- what is answered

  module _ (laws : WasReadLaws) where
    roomed : (before after : List BoardState) (low high : ℕ) (c : BoardState) → Reads before after low high → IsOneOf before first → WasRead before after c → After first c
    roomed before after low high c reads one was = after_one before first c one (laws.before before after low high c reads was)

    bounded_command : (before after : List BoardState) (low high : ℕ) (own_before own_after : List Waiting) (recorded : Option ℕ) (e : Entry) (answer : Outcome)
        → Reads before after low high → IsOneOf before first → IsAfterAll after b → IsCommanded before after own_before own_after recorded e answer → IsOutcomeBounded b.log answer
    bounded_command before after low high own_before own_after recorded e (outcome.Full503 at places) reads one all is =
        places_in is.room.board at (after_one after is.room.board b (was_one before after is.room.board is.room.was_read) all) (omega (arith, is.front)) (full_places is.room.board 0 places is.room.limits)
    bounded_command before after low high own_before own_after recorded e (outcome.LogFull509 at entries sum) reads one all is =
        entries_in is.room.board 0 (after_one after is.room.board b (was_one before after is.room.board is.room.was_read) all) (roomed before after low high is.room.board reads one is.room.was_read) (omega arith) (log_full is.room.board 0 at entries sum is.room.limits)
    bounded_command before after low high own_before own_after recorded e (outcome.Stored sequence at) reads one all is = tt
    bounded_command before after low high own_before own_after recorded e (outcome.Bad400 field) reads one all is = tt
    bounded_command before after low high own_before own_after recorded e (outcome.TooLarge413 bytes) reads one all is = tt
    bounded_command before after low high own_before own_after recorded e (outcome.UserGone401 at) reads one all is = tt
    bounded_command before after low high own_before own_after recorded e (outcome.Known at) reads one all is = tt
    bounded_command before after low high own_before own_after recorded e (outcome.BadHistory400 at) reads one all is = tt
    bounded_command before after low high own_before own_after recorded e (outcome.Conflict409 at leaf) reads one all is = tt
    bounded_command before after low high own_before own_after recorded e (outcome.Denied403 at rule) reads one all is = tt
    bounded_command before after low high own_before own_after recorded e outcome.Memory507 reads one all is = tt

    -- a board that was read after another one of the same call has a log that is no shorter
    after_front : (more between before : List BoardState) (c : BoardState) → AreAfter (more ++ between) before → IsOneOf more c → IsAfterAll (between ++ before) c
    after_front [] between before c all one = absurd one
    after_front (x ∷ more) between before c all (inl is) = subst (λ (y : BoardState). IsAfterAll (between ++ before) y) is (past more between before x all.0)
      where
        past : (more between before : List BoardState) (x : BoardState) → IsAfterAll ((more ++ between) ++ before) x → IsAfterAll (between ++ before) x
        past [] between before x a = a
        past (y ∷ more) between before x a = past more between before x a.1
    after_front (x ∷ more) between before c all (inr one) = after_front more between before c all.1 one

    judged_first : (before middle after : List BoardState) (low high : ℕ) (judged room : BoardState) → Reads before after low high → WasRead before middle judged → WasRead middle after room → length judged.log ≤ length room.log
    judged_first before middle after low high judged room reads first_was then_was =
        let split : reads.added ≡ then_was.added ++ first_was.added =
        append_cancel_right reads.added (then_was.added ++ first_was.added) before
        (sym reads.read ∙ then_was.read ∙ ap (λ (l : List BoardState). then_was.added ++ l) first_was.read ∙ sym (append_assoc then_was.added first_was.added before)) in
        let later : IsAfterAll (first_was.added ++ before) room = after_front then_was.added first_was.added before room (subst (λ (l : List BoardState). AreAfter l before) split reads.later) then_was.one in
        by_length judged room (inr (after_one (first_was.added ++ before) judged room (one_in_first first_was.added before judged first_was.one) later))

    bounded_revision : (before after : List BoardState) (low high : ℕ) (own_before own_after : List Waiting) (recorded : Option ℕ) (program : Program) (strict : Bool) (by : Option (List ℕ)) (r : Revision) (answer : Outcome)
        → Reads before after low high → IsOneOf before first → IsAfterAll after b → IsProposed before after own_before own_after recorded program strict by r answer → IsOutcomeBounded b.log answer
    bounded_revision before after low high own_before own_after recorded program strict by r (outcome.Full503 at places) reads one all is =
        places_in is.room.board at (after_one after is.room.board b (was_one before after is.room.board is.room.was_read) all)
        (omega (arith, is.judged.outcome.0.front, judged_first before is.middle after low high is.judged.board is.room.board reads is.judged_first is.room_after)) (full_places is.room.board (bytes_of r) places is.room.limits)
    bounded_revision before after low high own_before own_after recorded program strict by r (outcome.LogFull509 at entries sum) reads one all is =
        entries_in is.room.board (bytes_of r) (after_one after is.room.board b (was_one before after is.room.board is.room.was_read) all) (roomed before after low high is.room.board reads one is.room.was_read)
        (small_body r.body is.judged.outcome.0.formed.size) (log_full is.room.board (bytes_of r) at entries sum is.room.limits)
    bounded_revision before after low high own_before own_after recorded program strict by r (outcome.Stored sequence at) reads one all is = tt
    bounded_revision before after low high own_before own_after recorded program strict by r (outcome.Bad400 field) reads one all is = tt
    bounded_revision before after low high own_before own_after recorded program strict by r (outcome.TooLarge413 bytes) reads one all is = tt
    bounded_revision before after low high own_before own_after recorded program strict by r (outcome.UserGone401 at) reads one all is = tt
    bounded_revision before after low high own_before own_after recorded program strict by r (outcome.Known at) reads one all is = tt
    bounded_revision before after low high own_before own_after recorded program strict by r (outcome.BadHistory400 at) reads one all is = tt
    bounded_revision before after low high own_before own_after recorded program strict by r (outcome.Conflict409 at leaf) reads one all is = tt
    bounded_revision before after low high own_before own_after recorded program strict by r (outcome.Denied403 at rule) reads one all is = tt
    bounded_revision before after low high own_before own_after recorded program strict by r outcome.Memory507 reads one all is = tt

    bounded_line : (program : Program) (strict : Bool) (m n : Moment) (l : AdminLine) (answer : Outcome) → IsOneOf m.read first → IsAfterAll n.read b → IsLineRun program strict m l answer n → IsOutcomeBounded b.log answer
    bounded_line program strict m n (line.Command c) answer one all run = bounded_command m.read n.read m.lowest n.lowest m.own n.own m.recorded (entry_of c) answer run.reads one all run.commanded
    bounded_line program strict m n (line.Doc doc parent deleted body) answer one all run =
        bounded_revision m.read n.read m.lowest n.lowest m.own n.own m.recorded program strict None (own_revision doc parent deleted body) answer run.reads one all run.proposed

    after_before : (more read : List BoardState) → IsAfterAll (more ++ read) b → IsAfterAll read b
    after_before [] read all = all
    after_before (x ∷ more) read all = after_before more read all.1

    pub after_then : (before after : List BoardState) → ((more : List BoardState) × (after ≡ more ++ before)) → IsAfterAll after b → IsAfterAll before b
    after_then before after (more, is) all = after_before more before (subst (λ (read : List BoardState). IsAfterAll read b) is all)

    one_then : (before after : List BoardState) → ((more : List BoardState) × (after ≡ more ++ before)) → IsOneOf before first → IsOneOf after first
    one_then before after (more, is) one = subst (λ (read : List BoardState). IsOneOf read first) (sym is) (one_in_second more before first one)

    pub bounded_lines : (program : Program) (strict : Bool) (m n : Moment) (lines : List AdminLine) (outcomes : List LineOutcome) → IsOneOf m.read first → IsAfterAll n.read b → AreLinesRun program strict m lines outcomes n → AreBoundedLines b.log outcomes
    bounded_lines program strict m n [] [] one all run = tt
    bounded_lines program strict m n [] (o ∷ outcomes) one all run = absurd run
    bounded_lines program strict m n (l ∷ lines) [] one all run = absurd run
    bounded_lines program strict m n (l ∷ lines) (Plain answer ∷ outcomes) one all (between, ran, rest) =
        let reads : Reads m.read between.read m.lowest between.lowest = line_reads program strict m between l answer ran in (
          bounded_line program strict m between l answer one (after_then between.read n.read (lines_read program strict between n lines outcomes rest) all) ran,
          bounded_lines program strict between n lines outcomes (one_then m.read between.read (reads.added, reads.read) one) all rest,
        )

    -- ---- what is answered to a session

    steps_read : (start now : Moment) (user : List ℕ) (program : Program) (strict : Bool) (steps : List SessionStep) → AreAnswered start user program strict steps now → (more : List BoardState) × (now.read ≡ more ++ start.read)
    steps_read start now user program strict [] is = ([], ap (λ (m : Moment). m.read) is)
    steps_read start now user program strict (s ∷ earlier) (between, before, is) =
        let first_read = steps_read start between user program strict earlier before in
        let more = step_read between now user program strict (wanted_after earlier) s.event is in
        (more.0 ++ first_read.0, more.1 ∙ ap (λ (l : List BoardState). more.0 ++ l) first_read.1 ∙ sym (append_assoc more.0 first_read.0 start.read))

    bounded_event : (before after : Moment) (user : List ℕ) (program : Program) (strict : Bool) (wanted : Option Want) (e : Event) → IsOneOf before.read first → IsAfterAll after.read b → IsEventAnswered before user program strict wanted e after → IsBoundedEvent b.log e
    bounded_event before after user program strict wanted (event.Whole message) one all is = tt
    bounded_event before after user program strict wanted (event.Idle front) one all is = tt
    bounded_event before after user program strict wanted (event.Fed answer) one all is = tt
    bounded_event before after user program strict wanted (event.Bodies answer) one all is = tt
    bounded_event before after user program strict wanted (event.Asked answer) one all is = tt
    bounded_event before after user program strict wanted (event.Got answer) one all is = tt
    bounded_event before after user program strict wanted (event.Set answer) one all is = tt
    bounded_event before after user program strict None (event.Judged answer) one all is = absurd is
    bounded_event before after user program strict (Some (want.Feed since options)) (event.Judged answer) one all is = absurd is
    bounded_event before after user program strict (Some (want.Bodies options rows most)) (event.Judged answer) one all is = absurd is
    bounded_event before after user program strict (Some (want.Ask offers)) (event.Judged answer) one all is = absurd is
    bounded_event before after user program strict (Some (want.GetCheckpoint client)) (event.Judged answer) one all is = absurd is
    bounded_event before after user program strict (Some (want.SetCheckpoint client rev body)) (event.Judged answer) one all is = absurd is
    bounded_event before after user program strict (Some (want.Propose r)) (event.Judged answer) one all is =
        bounded_revision before.read after.read before.lowest after.lowest before.own after.own before.recorded program (strict || r.noconflicts) (Some user) r answer is.stores.reads one all is.stores.proposed

    pub bounded_steps : (start now : Moment) (user : List ℕ) (program : Program) (strict : Bool) (steps : List SessionStep) → IsOneOf start.read first → IsAfterAll now.read b → AreAnswered start user program strict steps now → AreBoundedSteps b.log steps
    bounded_steps start now user program strict [] one all is = tt
    bounded_steps start now user program strict (s ∷ earlier) one all (between, before, is) = (
      bounded_event between now user program strict (wanted_after earlier) s.event (one_then start.read between.read (steps_read start between user program strict earlier before) one) all is,
      bounded_steps start between user program strict earlier one (after_then between.read now.read (step_read between now user program strict (wanted_after earlier) s.event is) all) before,
    )

pub bounded_parts : (h : List Entry) (steps others : List SessionStep) → AreBoundedSteps h (steps ++ others) → AreBoundedSteps h steps × AreBoundedSteps h others
bounded_parts h [] others all = (tt, all)
bounded_parts h (s ∷ steps) others all = let rest = bounded_parts h steps others all.1 in ((all.0, rest.0), rest.1)
