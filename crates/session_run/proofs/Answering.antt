-- What was answered to a session, step by step.
use Rattle.std.proofs.Common.{◌≡◌, inl, inr, ◌≤◌, ◌<◌, ℕ, Bool, ◌||◌, List, [], ◌∷◌, ◌++◌, length, map, reverse, Option, Some, None, refl, sym, ◌∙◌, ap, subst, le_refl, le_trans}
use Rattle.std.specs.Prelude.{IfSome}
use Rattle.std.proofs.lemmas.List.{append_assoc, map-append, reverse-append}
use Rattle.std.proofs.Math.Seq.{take-length}
use Rattle.std.proofs.Math.Path.{fun_ext}
use Rattle.blip_mux.specs.declared.message.Message.{Message}
use Rattle.sg_names.specs.declared.key.Key.{Key}
use Rattle.sg_history.specs.declared.book.Waiting.{Waiting}
use Rattle.sg_history.specs.declared.entries.Entry.{Entry}
use Rattle.sg_history.specs.declared.entries.Entry.TheVariants as entry
use Rattle.sg_history.specs.declared.row.Options.{Options}
use Rattle.sg_history.specs.Board.{BoardState, board_book}
use Rattle.sg_history.specs.Book.{Book, book_of, book_with, Later}
use Rattle.sg_history.specs.History.{past, Extends}
use Rattle.rev_tree.specs.declared.tree.Node.{Node}
use Rattle.rev_tree.specs.Documents.{tree_in, last_at, trees_up_to}
use Rattle.repl_messages.specs.declared.looks.Bodies.{Bodies}
use Rattle.repl_messages.specs.declared.looks.Fed.{Fed}
use Rattle.repl_messages.specs.declared.offers.Asked.{Asked}
use Rattle.repl_messages.specs.declared.offers.Offer.{Offer}
use Rattle.repl_messages.specs.declared.revision.Revision.{Revision}
use Rattle.repl_messages.specs.Looks.{IsFed, AreBodies, front_of}
use Rattle.sg_history.specs.declared.row.Row.{Row}
use Rattle.sync_syntax.specs.declared.tree.Program.{Program}
use Rattle.doc_board.specs.declared.outcome.Outcome.{Outcome}
use Rattle.doc_board.specs.declared.outcome.Outcome.TheVariants as outcome
use Rattle.doc_board.specs.Boards.{board_last, board_tree}
use Rattle.doc_board.specs.Offers.{offer_answer}
use Rattle.checkpoint_store.specs.declared.answers.Kept0.{Kept0}
use Rattle.checkpoint_store.specs.declared.answers.SetAnswer.{SetAnswer}
use Rattle.session_core.specs.declared.act.Want.{Want}
use Rattle.session_core.specs.declared.act.Want.TheVariants as want
use Rattle.session_core.specs.declared.event.Event.{Event}
use Rattle.session_core.specs.declared.event.Event.TheVariants as event
use Rattle.session_core.specs.Conduct.{AreWithin}
use Rattle.session_core.specs.declared.look.Look.{Look}
use Rattle.session_core.specs.declared.look.Purpose.{Purpose}
use Rattle.session_core.specs.declared.look.Purpose.TheVariants as purposes
use Rattle.session_core.specs.Fronts.{judged_at, look_of, stored_by, front_by, looks_of, fronts_of, stored_of, RiseBetween}
use Rattle.doc_board.specs.Outcomes.{bytes_of}
use Rattle.session_core.specs.Right.{AreAsked, IsJudgedIn, IsRefusedIn, IsRoomedIn, IsProposedIn, IsRight, AreRight}
use Rattle.session_core.specs.Steps.{SessionStep, wanted_after}
use Rattle.board_steps.specs.Asks.{AskedAt}
use Rattle.board_steps.specs.Bodies.{BodiesAt}
use Rattle.board_steps.specs.Feed.{FeedAt}
use Rattle.write_path.specs.Proposals as proposals
use Rattle.write_path.specs.Proposals.{IsAnswered, IsRefused, IsRoomed, IsStored}
use Rattle.write_path.specs.Reads.{Reads, WasRead, IsOneOf, HasLength, IsLaterThanAll}
use Rattle.session_run.specs.Judged.{IsJudgedEntry, AreJudged}
use Rattle.session_run.specs.Answered as answered
use Rattle.session_run.specs.Answered.{Moment, HasReadGround, Saw, IsFrontLoaded, IsSet, AreAnswered, AreLooksAt, look_fronts, length_after, recorded_by, AreLength, AreAtLength}

-- what the laws say
abbrev pub Since : Type 0
Since = (before after : List BoardState) (b : BoardState) (h : List Entry) → WasRead before after b → IsLaterThanAll after h → Later (board_book b) (book_of h)

abbrev pub LogExtends : Type 0
LogExtends = (log : List Entry) (waiting : List Waiting) (h : List Entry) → Later (book_with log waiting) (book_of h) → Extends log h

abbrev pub SameFronts : Type 0
SameFronts = (log h : List Entry) (front : ℕ) → Extends log h → front ≤ length log → past h front ≡ past log front

abbrev pub SameTrees : Type 0
SameTrees = (board : BoardState) (later : Book) (doc : List ℕ) → Later (board_book board) later → tree_in later (board_last board doc) doc ≡ board_tree board doc

abbrev pub LeastOfLog : Type 0
LeastOfLog = (board : BoardState) (doc : List ℕ) → last_at (reverse board.log) doc ≤ board_last board doc

abbrev pub FedLater : Type 0
FedLater = (earlier later : List Entry) (user : List ℕ) (since : Key) (options : Options) (answer : Fed) → Extends earlier later → FeedAt earlier user since options answer → IsFed later user since options answer

abbrev pub BodiesLater : Type 0
BodiesLater = (board : BoardState) (later : List Entry) (user : List ℕ) (options : Options) (rows : List Row) (most : ℕ) (bodies : Bodies) → Later (board_book board) (book_of later) → BodiesAt board user options rows most bodies → AreBodies later user options rows most bodies

abbrev pub ReadBefore : Type 0
ReadBefore = (before after : List BoardState) (low high : ℕ) (h : List Entry) → Reads before after low high → IsLaterThanAll after h → IsLaterThanAll before h

-- the laws of reads, together
pub record Laws : Type 0 where
  pub since : Since
  pub log : LogExtends
  pub fronts : SameFronts
  pub trees : SameTrees
  pub least : LeastOfLog
  pub fed : FedLater
  pub bodies : BodiesLater
  pub before : ReadBefore
  pub reflexive : (read : List BoardState) (lowest : ℕ) → Reads read read lowest lowest
  pub transitive : (first second third : List BoardState) (low middle high : ℕ) → Reads first second low middle → Reads second third middle high → Reads first third low high
  pub lowest : (before after : List BoardState) (low high : ℕ) (b : BoardState) → Reads before after low high → WasRead before after b → low ≤ length b.log
  pub front : (before after : List BoardState) (low high : ℕ) (b : BoardState) → Reads before after low high → WasRead before after b → length b.log ≤ high

pub laws_of : Since → LogExtends → SameFronts → SameTrees → LeastOfLog → FedLater → BodiesLater → ReadBefore
    → ((read : List BoardState) (lowest : ℕ) → Reads read read lowest lowest)
    → ((first second third : List BoardState) (low middle high : ℕ) → Reads first second low middle → Reads second third middle high → Reads first third low high)
    → ((before after : List BoardState) (low high : ℕ) (b : BoardState) → Reads before after low high → WasRead before after b → low ≤ length b.log)
    → ((before after : List BoardState) (low high : ℕ) (b : BoardState) → Reads before after low high → WasRead before after b → length b.log ≤ high)
    → Laws
laws_of since log fronts trees least fed bodies before reflexive transitive lowest front = record {
  since = since;
  log = log;
  fronts = fronts;
  trees = trees;
  least = least;
  fed = fed;
  bodies = bodies;
  before = before;
  reflexive = reflexive;
  transitive = transitive;
  lowest = lowest;
  front = front;
}

-- ---- what was answered is right

asked_later : Laws → (b : BoardState) (h : List Entry) (offers : List Offer) (asked : Asked) → Later (board_book b) (book_of h) → AskedAt b offers asked → AreAsked h offers asked
asked_later laws b h offers asked later at =
    let more : Extends b.log h = laws.log b.log b.pending h later in
    let whole : past h asked.front ≡ reverse b.log =
    laws.fronts b.log h asked.front more (subst (λ n. n ≤ length b.log) (sym at.front) (le_refl (length b.log))) ∙ ap (λ n. past b.log n) at.front ∙ ap (λ (es : List Entry). reverse es) (take-length b.log) in
    let trees : board_tree b ≡ trees_up_to (book_of h) (board_last b) = fun_ext (λ doc. sym (laws.trees b (book_of h) doc later)) in
    let L : List ℕ → List Entry → Type 0 = λ doc es. last_at es doc ≤ board_last b doc in
    record {
      numbers = board_last b;
      seen = λ doc. subst (L doc) (sym whole) (laws.least b doc);
      answers = at.answers ∙ ap (λ (t : List ℕ → List Node). map (λ (offer : Offer). offer_answer (t offer.doc) offer) offers) trees;
    }

judged_later : Laws → (before after : Moment) (program : Program) (strict : Bool) (by : Option (List ℕ)) (r : Revision) (answer : Outcome) (h : List Entry) → IsLaterThanAll after.read h
    → IsAnswered before.read after.read before.recorded program strict by r answer → IsJudgedIn h program strict by r answer
judged_later laws before after program strict by r answer h later was =
    record { board = was.board; later = laws.since before.read after.read was.board h was.was_read later; outcome = was.outcome }

roomed_later : Laws → (before after : Moment) (r : Revision) (answer : Outcome) (h : List Entry) → IsLaterThanAll after.read h
    → IsRoomed before.read after.read before.recorded (bytes_of r) answer → IsRoomedIn h r answer
roomed_later laws before after r answer h later was =
    record { board = was.board; later = laws.since before.read after.read was.board h was.was_read later; limits = was.limits }

refused_later : Laws → (before after : Moment) (program : Program) (strict : Bool) (by : Option (List ℕ)) (r : Revision) (answer : Outcome) (h : List Entry) → IsLaterThanAll after.read h
    → IsRefused before.read after.read before.own after.own before.recorded program strict by r answer → IsRefusedIn h program strict by r answer
refused_later laws before after program strict by r answer h later was =
    (judged_later laws before after program strict by r answer h later was.judged, roomed_later laws before after r answer h later was.room)

stored_later : Laws → (before after : Moment) (program : Program) (strict : Bool) (by : Option (List ℕ)) (r : Revision) (sequence at : ℕ) (h : List Entry) → IsLaterThanAll after.read h
    → IsStored before.read after.read before.own after.own before.recorded program strict by r sequence at → IsProposedIn h program strict by r (outcome.Stored sequence at)
stored_later laws before after program strict by r sequence at h later was = record {
  judged = record { board = was.judged; later = laws.since before.read after.read was.judged h was.was_judged later; outcome = was.outcome };
  write = was.write;
  is_write = was.is_write;
  there = (laws.since before.read after.read was.holding h was.was_read later).kept sequence _ was.there;
  room = roomed_later laws before after r (outcome.Stored sequence at) h later was.room;
}

proposed_later : Laws → (before after : Moment) (program : Program) (strict : Bool) (by : Option (List ℕ)) (r : Revision) (answer : Outcome) (h : List Entry) → IsLaterThanAll after.read h
    → proposals.IsProposed before.read after.read before.own after.own before.recorded program strict by r answer → IsProposedIn h program strict by r answer
proposed_later laws before after program strict by r (outcome.Bad400 field) h later was = was.1
proposed_later laws before after program strict by r (outcome.TooLarge413 bytes) h later was = was.1
proposed_later laws before after program strict by r (outcome.UserGone401 at) h later was = judged_later laws before after program strict by r (outcome.UserGone401 at) h later was.1
proposed_later laws before after program strict by r (outcome.Known at) h later was = judged_later laws before after program strict by r (outcome.Known at) h later was.1
proposed_later laws before after program strict by r (outcome.BadHistory400 at) h later was = judged_later laws before after program strict by r (outcome.BadHistory400 at) h later was.1
proposed_later laws before after program strict by r (outcome.Conflict409 at leaf) h later was = judged_later laws before after program strict by r (outcome.Conflict409 at leaf) h later was.1
proposed_later laws before after program strict by r (outcome.Denied403 at rule) h later was =
    judged_later laws before after program strict by r (outcome.Denied403 at rule) h later was.1
proposed_later laws before after program strict by r (outcome.Stored sequence at) h later was = stored_later laws before after program strict by r sequence at h later was
proposed_later laws before after program strict by r (outcome.Full503 at places) h later was = refused_later laws before after program strict by r (outcome.Full503 at places) h later was
proposed_later laws before after program strict by r (outcome.LogFull509 at entries bytes) h later was = refused_later laws before after program strict by r (outcome.LogFull509 at entries bytes) h later was
proposed_later laws before after program strict by r outcome.Memory507 h later was = tt

-- the entries that are own since, with their numbers, each the write of a revision of this user that the program accepts
abbrev pub OwnSince : Moment → List ℕ → Program → List ℕ → Moment → Type 0
OwnSince before user program stored after =
    (added : List Waiting) × (after.own ≡ added ++ before.own) × (map (λ (w : Waiting). w.number) added ≡ reverse stored)
    × AreJudged program user before.read after.read added

-- one event: what it was answered by is a read, and what holds of it
record OneAnswer (before : Moment) (user : List ℕ) (program : Program) (strict : Bool) (wanted : Option Want) (e : Event) (after : Moment) : Type 0 where
  pub right : (h : List Entry) → IsLaterThanAll after.read h → IsRight h user program strict wanted e
  pub reads : Reads before.read after.read before.lowest after.lowest
  pub rise : RiseBetween before.lowest (front_by e) after.lowest
  pub recorded : after.recorded ≡ length_after before.recorded e
  pub at_length : AreLength before.recorded (front_by e)
  pub own : OwnSince before user program (stored_by e) after
  pub looks : AreLooksAt before.read (look_of e) after.read

-- one look, by a board that was read for it
one_look : (before after : List BoardState) (l : Look) (b : BoardState) → WasRead before after b → l.front ≡ length b.log → AreLooksAt before (l ∷ []) after
one_look before after l b was is = (after, b, was, is, ([], refl))

-- the front is the length of the log of a board that was read
one_front : Laws → (before after : Moment) (front : ℕ) (b : BoardState) → Reads before.read after.read before.lowest after.lowest → WasRead before.read after.read b → front ≡ length b.log
    → RiseBetween before.lowest (front ∷ []) after.lowest
one_front laws before after front b reads was is =
    (subst (λ n. before.lowest ≤ n) (sym is) (laws.lowest before.read after.read before.lowest after.lowest b reads was), subst (λ n. n ≤ after.lowest) (sym is) (laws.front before.read after.read before.lowest after.lowest b reads was))

one_length : (recorded : Option ℕ) (front : ℕ) (b : BoardState) → HasLength recorded b → front ≡ length b.log → AreLength recorded (front ∷ [])
one_length None front b has is = tt
one_length (Some n) front b has is = (is ∙ has, tt)

no_front : (recorded : Option ℕ) → AreLength recorded []
no_front None = tt
no_front (Some n) = tt

answer_by_read : Laws → (before after : Moment) (user : List ℕ) (program : Program) (strict : Bool) (wanted : Want) (e : Event) (front : ℕ) (Holds : BoardState → Type 0) → HasReadGround before after → Saw before after Holds
    → front_by e ≡ front ∷ [] → (purpose : Purpose) → look_of e ≡ record { front = front; purpose = purpose } ∷ [] → stored_by e ≡ [] → length_after before.recorded e ≡ before.recorded
    → ((b : BoardState) → Holds b → front ≡ length b.log)
    → ((b : BoardState) (h : List Entry) → Holds b → Later (board_book b) (book_of h) → IsRight h user program strict (Some wanted) e)
    → OneAnswer before user program strict (Some wanted) e after
answer_by_read laws before after user program strict wanted e front Holds read (b, was, has, holds) fronts_are purpose look none same is right = record {
  right = λ h later. right b h holds (laws.since before.read after.read b h was later);
  reads = read.reads;
  rise = subst (λ fs. RiseBetween before.lowest fs after.lowest) (sym fronts_are) (one_front laws before after front b read.reads was (is b holds));
  recorded = read.recorded ∙ sym same;
  at_length = subst (AreLength before.recorded) (sym fronts_are) (one_length before.recorded front b has (is b holds));
  own = ([], read.own, ap (λ ns. reverse ns) (sym none), tt);
  looks = subst (λ ls. AreLooksAt before.read ls after.read) (sym look) (one_look before.read after.read (record { front = front; purpose = purpose }) b was (is b holds));
}

loaded_length : (recorded : Option ℕ) (front : ℕ) → IfSome recorded (λ n. front ≡ n) → AreLength recorded (front ∷ [])
loaded_length None front is = tt
loaded_length (Some n) front is = (is, tt)

-- to read nothing, with a lowest front that rises
risen : (before after : Moment) → before.read ≡ after.read → before.lowest ≤ after.lowest → Reads before.read after.read before.lowest after.lowest
risen before after same rises = record { added = []; read = sym same; later = tt; lengths = tt; rises = rises }

loaded_answer : Laws → (before after : Moment) (user : List ℕ) (program : Program) (strict : Bool) (front : ℕ) → IsFrontLoaded before front after → OneAnswer before user program strict None (event.Idle front) after
loaded_answer laws before after user program strict front loaded = record {
  right = λ h later. tt;
  reads = risen before after (sym loaded.read) (subst (λ n. before.lowest ≤ n) (sym loaded.lowest) loaded.rises);
  rise = (loaded.rises, subst (λ n. front ≤ n) (sym loaded.lowest) (le_refl front));
  recorded = loaded.recorded;
  at_length = loaded_length before.recorded front loaded.length;
  own = ([], loaded.own, refl, tt);
  looks = ([], loaded.read);
}

-- ---- proposals

judged_rise : Laws → (before after : Moment) (program : Program) (strict : Bool) (by : Option (List ℕ)) (r : Revision) (answer : Outcome) (at : ℕ) → Reads before.read after.read before.lowest after.lowest
    → (was : IsAnswered before.read after.read before.recorded program strict by r answer) → at ≡ length was.board.log → RiseBetween before.lowest (at ∷ []) after.lowest × AreLength before.recorded (at ∷ [])
judged_rise laws before after program strict by r answer at reads was is =
    (one_front laws before after at was.board reads was.was_read is, one_length before.recorded at was.board was.has_length is)

proposed_rise : Laws → (before after : Moment) (program : Program) (strict : Bool) (by : Option (List ℕ)) (r : Revision) (answer : Outcome) → Reads before.read after.read before.lowest after.lowest
    → proposals.IsProposed before.read after.read before.own after.own before.recorded program strict by r answer
    → RiseBetween before.lowest (judged_at answer) after.lowest × AreLength before.recorded (judged_at answer)
proposed_rise laws before after program strict by r (outcome.Bad400 field) reads was = (reads.rises, no_front before.recorded)
proposed_rise laws before after program strict by r (outcome.TooLarge413 bytes) reads was = (reads.rises, no_front before.recorded)
proposed_rise laws before after program strict by r (outcome.UserGone401 at) reads was = judged_rise laws before after program strict by r (outcome.UserGone401 at) at reads was.1 was.1.outcome.front
proposed_rise laws before after program strict by r (outcome.Known at) reads was = judged_rise laws before after program strict by r (outcome.Known at) at reads was.1 was.1.outcome.front
proposed_rise laws before after program strict by r (outcome.BadHistory400 at) reads was = judged_rise laws before after program strict by r (outcome.BadHistory400 at) at reads was.1 was.1.outcome.front
proposed_rise laws before after program strict by r (outcome.Conflict409 at leaf) reads was = judged_rise laws before after program strict by r (outcome.Conflict409 at leaf) at reads was.1 was.1.outcome.0.front
proposed_rise laws before after program strict by r (outcome.Denied403 at rule) reads was =
    judged_rise laws before after program strict by r (outcome.Denied403 at rule) at reads was.1 was.1.outcome.0.front
proposed_rise laws before after program strict by r (outcome.Stored sequence at) reads was =
    (one_front laws before after at was.judged reads was.was_judged was.outcome.0.front, one_length before.recorded at was.judged was.has_length was.outcome.0.front)
proposed_rise laws before after program strict by r (outcome.Full503 at places) reads was =
    judged_rise laws before after program strict by r (outcome.Full503 at places) at reads was.judged was.judged.outcome.0.front
proposed_rise laws before after program strict by r (outcome.LogFull509 at entries bytes) reads was =
    judged_rise laws before after program strict by r (outcome.LogFull509 at entries bytes) at reads was.judged was.judged.outcome.0.front
proposed_rise laws before after program strict by r outcome.Memory507 reads was = (reads.rises, no_front before.recorded)

stored_own : (before after : Moment) (program : Program) (strict : Bool) (user : List ℕ) (r : Revision) (sequence at : ℕ)
    → IsStored before.read after.read before.own after.own before.recorded program strict (Some user) r sequence at → OwnSince before user program (sequence ∷ []) after
stored_own before after program strict user r sequence at was = (
  record { number = sequence; entry = entry.Write was.write } ∷ [],
  was.own,
  refl,
  (
    record {
      revision = r;
      board = was.judged;
      was_read = was.was_judged;
      write = was.write;
      entry_is = refl;
      is_write = was.is_write;
      below = subst (λ n. n < sequence) (was.outcome.0.front ∙ sym was.is_write.at) was.outcome.2;
      holding = was.holding;
      holding_read = was.was_read;
      there = was.there;
      judged_write = was.judged_write;
    },
    tt,
  ),
)

proposed_own : (before after : Moment) (program : Program) (strict : Bool) (user : List ℕ) (r : Revision) (answer : Outcome)
    → proposals.IsProposed before.read after.read before.own after.own before.recorded program strict (Some user) r answer
    → OwnSince before user program (stored_by (event.Judged answer)) after
proposed_own before after program strict user r (outcome.Bad400 field) was = ([], was.0, refl, tt)
proposed_own before after program strict user r (outcome.TooLarge413 bytes) was = ([], was.0, refl, tt)
proposed_own before after program strict user r (outcome.UserGone401 at) was = ([], was.0, refl, tt)
proposed_own before after program strict user r (outcome.Known at) was = ([], was.0, refl, tt)
proposed_own before after program strict user r (outcome.BadHistory400 at) was = ([], was.0, refl, tt)
proposed_own before after program strict user r (outcome.Conflict409 at leaf) was = ([], was.0, refl, tt)
proposed_own before after program strict user r (outcome.Denied403 at rule) was = ([], was.0, refl, tt)
proposed_own before after program strict user r (outcome.Stored sequence at) was = stored_own before after program strict user r sequence at was
proposed_own before after program strict user r (outcome.Full503 at places) was = ([], was.own, refl, tt)
proposed_own before after program strict user r (outcome.LogFull509 at entries bytes) was = ([], was.own, refl, tt)
proposed_own before after program strict user r outcome.Memory507 was = ([], was, refl, tt)

judged_look : (before after : Moment) (program : Program) (strict : Bool) (by : Option (List ℕ)) (r : Revision) (answer : Outcome) (at : ℕ)
    → (was : IsAnswered before.read after.read before.recorded program strict by r answer) → at ≡ length was.board.log
    → AreLooksAt before.read (record { front = at; purpose = purposes.Push } ∷ []) after.read
judged_look before after program strict by r answer at was is = one_look before.read after.read (record { front = at; purpose = purposes.Push }) was.board was.was_read is

proposed_looks : (before after : Moment) (program : Program) (strict : Bool) (by : Option (List ℕ)) (r : Revision) (answer : Outcome) → Reads before.read after.read before.lowest after.lowest
    → proposals.IsProposed before.read after.read before.own after.own before.recorded program strict by r answer
    → AreLooksAt before.read (look_of (event.Judged answer)) after.read
proposed_looks before after program strict by r (outcome.Bad400 field) reads was = (reads.added, reads.read)
proposed_looks before after program strict by r (outcome.TooLarge413 bytes) reads was = (reads.added, reads.read)
proposed_looks before after program strict by r (outcome.UserGone401 at) reads was = judged_look before after program strict by r (outcome.UserGone401 at) at was.1 was.1.outcome.front
proposed_looks before after program strict by r (outcome.Known at) reads was = judged_look before after program strict by r (outcome.Known at) at was.1 was.1.outcome.front
proposed_looks before after program strict by r (outcome.BadHistory400 at) reads was = judged_look before after program strict by r (outcome.BadHistory400 at) at was.1 was.1.outcome.front
proposed_looks before after program strict by r (outcome.Conflict409 at leaf) reads was = judged_look before after program strict by r (outcome.Conflict409 at leaf) at was.1 was.1.outcome.0.front
proposed_looks before after program strict by r (outcome.Denied403 at rule) reads was =
    judged_look before after program strict by r (outcome.Denied403 at rule) at was.1 was.1.outcome.0.front
proposed_looks before after program strict by r (outcome.Stored sequence at) reads was =
    one_look before.read after.read (record { front = at; purpose = purposes.Push }) was.judged was.was_judged was.outcome.0.front
proposed_looks before after program strict by r (outcome.Full503 at places) reads was =
    judged_look before after program strict by r (outcome.Full503 at places) at was.judged was.judged.outcome.0.front
proposed_looks before after program strict by r (outcome.LogFull509 at entries bytes) reads was =
    judged_look before after program strict by r (outcome.LogFull509 at entries bytes) at was.judged was.judged.outcome.0.front
proposed_looks before after program strict by r outcome.Memory507 reads was = (reads.added, reads.read)

proposed_answer : Laws → (before after : Moment) (user : List ℕ) (program : Program) (strict : Bool) (r : Revision) (answer : Outcome) → answered.IsProposalAnswered before user program (strict || r.noconflicts) r answer after
    → OneAnswer before user program strict (Some (want.Propose r)) (event.Judged answer) after
proposed_answer laws before after user program strict r answer was =
    let both : RiseBetween before.lowest (judged_at answer) after.lowest × AreLength before.recorded (judged_at answer) =
    proposed_rise laws before after program (strict || r.noconflicts) (Some user) r answer was.stores.reads was.stores.proposed in
    record {
      right = λ h later. proposed_later laws before after program (strict || r.noconflicts) (Some user) r answer h later was.stores.proposed;
      reads = was.stores.reads;
      rise = both.0;
      recorded = was.recorded;
      at_length = both.1;
      own = proposed_own before after program (strict || r.noconflicts) user r answer was.stores.proposed;
      looks = proposed_looks before after program (strict || r.noconflicts) (Some user) r answer was.stores.reads was.stores.proposed;
    }

-- ---- each event

fed_answer : Laws → (before after : Moment) (user : List ℕ) (program : Program) (strict : Bool) (since : Key) (options : Options) (answer : Fed) → HasReadGround before after → Saw before after (λ b. FeedAt b.log user since options answer)
    → OneAnswer before user program strict (Some (want.Feed since options)) (event.Fed answer) after
fed_answer laws before after user program strict since options answer read saw =
    answer_by_read laws before after user program strict (want.Feed since options) (event.Fed answer) (front_of answer) (λ b. FeedAt b.log user since options answer) read saw refl purposes.Feed refl refl refl
    (λ b at. at.0)
    (λ b h at later. laws.fed b.log h user since options answer (laws.log b.log b.pending h later) at)

bodies_answer : Laws → (before after : Moment) (user : List ℕ) (program : Program) (strict : Bool) (options : Options) (rows : List Row) (most : ℕ) (answer : Bodies) → HasReadGround before after → Saw before after (λ b. BodiesAt b user options rows most answer)
    → OneAnswer before user program strict (Some (want.Bodies options rows most)) (event.Bodies answer) after
bodies_answer laws before after user program strict options rows most answer read saw =
    answer_by_read laws before after user program strict (want.Bodies options rows most) (event.Bodies answer) answer.front (λ b. BodiesAt b user options rows most answer) read saw refl purposes.Bodies refl refl refl
    (λ b at. at.front)
    (λ b h at later. laws.bodies b h user options rows most answer later at)

asked_answer : Laws → (before after : Moment) (user : List ℕ) (program : Program) (strict : Bool) (offers : List Offer) (answer : Asked) → HasReadGround before after → Saw before after (λ b. AskedAt b offers answer)
    → OneAnswer before user program strict (Some (want.Ask offers)) (event.Asked answer) after
asked_answer laws before after user program strict offers answer read saw =
    answer_by_read laws before after user program strict (want.Ask offers) (event.Asked answer) answer.front (λ b. AskedAt b offers answer) read saw refl purposes.Ask refl refl refl
    (λ b at. at.front)
    (λ b h at later. asked_later laws b h offers answer later at)

came_answer : Laws → (before after : Moment) (user : List ℕ) (program : Program) (strict : Bool) (message : Message) → after ≡ before → OneAnswer before user program strict None (event.Whole message) after
came_answer laws before after user program strict message same = record {
  right = λ h later. tt;
  reads = subst (λ (m : Moment). Reads before.read m.read before.lowest m.lowest) (sym same) (laws.reflexive before.read before.lowest);
  rise = subst (λ (m : Moment). before.lowest ≤ m.lowest) (sym same) (le_refl before.lowest);
  recorded = ap (λ (m : Moment). m.recorded) same;
  at_length = no_front before.recorded;
  own = ([], ap (λ (m : Moment). m.own) same, refl, tt);
  looks = ([], ap (λ (m : Moment). m.read) same);
}

-- an answer without a look
no_look_answer : Laws → (before after : Moment) (user : List ℕ) (program : Program) (strict : Bool) (wanted : Want) (e : Event)
    → Reads before.read after.read before.lowest after.lowest → after.recorded ≡ before.recorded → after.own ≡ before.own
    → front_by e ≡ [] → look_of e ≡ [] → stored_by e ≡ [] → length_after before.recorded e ≡ before.recorded
    → ((h : List Entry) → IsRight h user program strict (Some wanted) e)
    → OneAnswer before user program strict (Some wanted) e after
no_look_answer laws before after user program strict wanted e reads recorded own fronts look none same right = record {
  right = λ h later. right h;
  reads = reads;
  rise = subst (λ fs. RiseBetween before.lowest fs after.lowest) (sym fronts) reads.rises;
  recorded = recorded ∙ sym same;
  at_length = subst (AreLength before.recorded) (sym fronts) (no_front before.recorded);
  own = ([], own, ap (λ ns. reverse ns) (sym none), tt);
  looks = subst (λ ls. AreLooksAt before.read ls after.read) (sym look) (reads.added, reads.read);
}

got_answer : Laws → (before after : Moment) (user : List ℕ) (program : Program) (strict : Bool) (client : List ℕ) (answer : Kept0) → HasReadGround before after
    → OneAnswer before user program strict (Some (want.GetCheckpoint client)) (event.Got answer) after
got_answer laws before after user program strict client answer read =
    no_look_answer laws before after user program strict (want.GetCheckpoint client) (event.Got answer) read.reads read.recorded read.own refl refl refl refl (λ h. tt)

set_answer : Laws → (before after : Moment) (user : List ℕ) (program : Program) (strict : Bool) (client : List ℕ) (rev : ℕ) (body : List ℕ) (answer : SetAnswer) → IsSet before user client rev body answer after
    → OneAnswer before user program strict (Some (want.SetCheckpoint client rev body)) (event.Set answer) after
set_answer laws before after user program strict client rev body answer is =
    no_look_answer laws before after user program strict (want.SetCheckpoint client rev body) (event.Set answer) is.reads is.recorded is.own refl refl refl refl (λ h. tt)

one_answer : Laws → (before after : Moment) (user : List ℕ) (program : Program) (strict : Bool) (wanted : Option Want) (e : Event) → answered.IsEventAnswered before user program strict wanted e after → OneAnswer before user program strict wanted e after
one_answer laws before after user program strict None (event.Whole message) a = came_answer laws before after user program strict message a
one_answer laws before after user program strict None (event.Idle front) a = loaded_answer laws before after user program strict front a
one_answer laws before after user program strict None (event.Fed answer) a = absurd a
one_answer laws before after user program strict None (event.Bodies answer) a = absurd a
one_answer laws before after user program strict None (event.Asked answer) a = absurd a
one_answer laws before after user program strict None (event.Judged answer) a = absurd a
one_answer laws before after user program strict None (event.Got answer) a = absurd a
one_answer laws before after user program strict None (event.Set answer) a = absurd a
one_answer laws before after user program strict (Some (want.Feed since options)) (event.Fed answer) a = fed_answer laws before after user program strict since options answer a.0 a.1
one_answer laws before after user program strict (Some (want.Feed since options)) (event.Whole message) a = absurd a
one_answer laws before after user program strict (Some (want.Feed since options)) (event.Idle front) a = absurd a
one_answer laws before after user program strict (Some (want.Feed since options)) (event.Bodies answer) a = absurd a
one_answer laws before after user program strict (Some (want.Feed since options)) (event.Asked answer) a = absurd a
one_answer laws before after user program strict (Some (want.Feed since options)) (event.Judged answer) a = absurd a
one_answer laws before after user program strict (Some (want.Feed since options)) (event.Got answer) a = absurd a
one_answer laws before after user program strict (Some (want.Feed since options)) (event.Set answer) a = absurd a
one_answer laws before after user program strict (Some (want.Bodies options rows most)) (event.Bodies answer) a = bodies_answer laws before after user program strict options rows most answer a.0 a.1
one_answer laws before after user program strict (Some (want.Bodies options rows most)) (event.Whole message) a = absurd a
one_answer laws before after user program strict (Some (want.Bodies options rows most)) (event.Idle front) a = absurd a
one_answer laws before after user program strict (Some (want.Bodies options rows most)) (event.Fed answer) a = absurd a
one_answer laws before after user program strict (Some (want.Bodies options rows most)) (event.Asked answer) a = absurd a
one_answer laws before after user program strict (Some (want.Bodies options rows most)) (event.Judged answer) a = absurd a
one_answer laws before after user program strict (Some (want.Bodies options rows most)) (event.Got answer) a = absurd a
one_answer laws before after user program strict (Some (want.Bodies options rows most)) (event.Set answer) a = absurd a
one_answer laws before after user program strict (Some (want.Ask offers)) (event.Asked answer) a = asked_answer laws before after user program strict offers answer a.0 a.1
one_answer laws before after user program strict (Some (want.Ask offers)) (event.Whole message) a = absurd a
one_answer laws before after user program strict (Some (want.Ask offers)) (event.Idle front) a = absurd a
one_answer laws before after user program strict (Some (want.Ask offers)) (event.Fed answer) a = absurd a
one_answer laws before after user program strict (Some (want.Ask offers)) (event.Bodies answer) a = absurd a
one_answer laws before after user program strict (Some (want.Ask offers)) (event.Judged answer) a = absurd a
one_answer laws before after user program strict (Some (want.Ask offers)) (event.Got answer) a = absurd a
one_answer laws before after user program strict (Some (want.Ask offers)) (event.Set answer) a = absurd a
one_answer laws before after user program strict (Some (want.Propose r)) (event.Judged answer) a = proposed_answer laws before after user program strict r answer a
one_answer laws before after user program strict (Some (want.Propose r)) (event.Whole message) a = absurd a
one_answer laws before after user program strict (Some (want.Propose r)) (event.Idle front) a = absurd a
one_answer laws before after user program strict (Some (want.Propose r)) (event.Fed answer) a = absurd a
one_answer laws before after user program strict (Some (want.Propose r)) (event.Bodies answer) a = absurd a
one_answer laws before after user program strict (Some (want.Propose r)) (event.Asked answer) a = absurd a
one_answer laws before after user program strict (Some (want.Propose r)) (event.Got answer) a = absurd a
one_answer laws before after user program strict (Some (want.Propose r)) (event.Set answer) a = absurd a
one_answer laws before after user program strict (Some (want.GetCheckpoint client)) (event.Got answer) a = got_answer laws before after user program strict client answer a.0
one_answer laws before after user program strict (Some (want.GetCheckpoint client)) (event.Whole message) a = absurd a
one_answer laws before after user program strict (Some (want.GetCheckpoint client)) (event.Idle front) a = absurd a
one_answer laws before after user program strict (Some (want.GetCheckpoint client)) (event.Fed answer) a = absurd a
one_answer laws before after user program strict (Some (want.GetCheckpoint client)) (event.Bodies answer) a = absurd a
one_answer laws before after user program strict (Some (want.GetCheckpoint client)) (event.Asked answer) a = absurd a
one_answer laws before after user program strict (Some (want.GetCheckpoint client)) (event.Judged answer) a = absurd a
one_answer laws before after user program strict (Some (want.GetCheckpoint client)) (event.Set answer) a = absurd a
one_answer laws before after user program strict (Some (want.SetCheckpoint client rev body)) (event.Set answer) a = set_answer laws before after user program strict client rev body answer a
one_answer laws before after user program strict (Some (want.SetCheckpoint client rev body)) (event.Whole message) a = absurd a
one_answer laws before after user program strict (Some (want.SetCheckpoint client rev body)) (event.Idle front) a = absurd a
one_answer laws before after user program strict (Some (want.SetCheckpoint client rev body)) (event.Fed answer) a = absurd a
one_answer laws before after user program strict (Some (want.SetCheckpoint client rev body)) (event.Bodies answer) a = absurd a
one_answer laws before after user program strict (Some (want.SetCheckpoint client rev body)) (event.Asked answer) a = absurd a
one_answer laws before after user program strict (Some (want.SetCheckpoint client rev body)) (event.Judged answer) a = absurd a
one_answer laws before after user program strict (Some (want.SetCheckpoint client rev body)) (event.Got answer) a = absurd a

-- no front of an event is above the lowest front after it, which does not fall
rise_within : (low : ℕ) (fronts : List ℕ) (high : ℕ) → RiseBetween low fronts high → (low ≤ high) × AreWithin high fronts
rise_within low [] high rise = (rise, tt)
rise_within low (front ∷ fronts) high (first, rise) =
    let later : (front ≤ high) × AreWithin high fronts = rise_within front fronts high rise in
    (le_trans first later.0, (later.0, later.1))

pub event_within : Laws → (before after : Moment) (user : List ℕ) (program : Program) (strict : Bool) (wanted : Option Want) (e : Event) → answered.IsEventAnswered before user program strict wanted e after
    → (before.lowest ≤ after.lowest) × AreWithin after.lowest (front_by e)
event_within laws before after user program strict wanted e a = rise_within before.lowest (front_by e) after.lowest (one_answer laws before after user program strict wanted e a).rise

-- ---- all of them

rise_from : (least low high : ℕ) (fronts : List ℕ) → least ≤ low → RiseBetween low fronts high → RiseBetween least fronts high
rise_from least low high [] a rise = le_trans a rise
rise_from least low high (front ∷ fronts) a (first, rise) = (le_trans a first, rise)

pub rise_on : (low middle high : ℕ) (fronts later : List ℕ) → RiseBetween low fronts middle → RiseBetween middle later high → RiseBetween low (fronts ++ later) high
rise_on low middle high [] later a b = rise_from low middle high later a b
rise_on low middle high (front ∷ fronts) later (first, a) b = (first, rise_on front middle high fronts later a b)

one_of_first : (first second : List BoardState) (b : BoardState) → IsOneOf first b → IsOneOf (first ++ second) b
one_of_first [] second b one = absurd one
one_of_first (c ∷ first) second b (inl is) = inl is
one_of_first (c ∷ first) second b (inr one) = inr (one_of_first first second b one)

one_of_second : (first second : List BoardState) (b : BoardState) → IsOneOf second b → IsOneOf (first ++ second) b
one_of_second [] second b one = one
one_of_second (c ∷ first) second b one = inr (one_of_second first second b one)

-- looks since more boards were read are looks since fewer were
looks_from : (added before : List BoardState) (looks : List Look) (after : List BoardState) → AreLooksAt (added ++ before) looks after → AreLooksAt before looks after
looks_from added before [] after (more, is) = (more ++ added, is ∙ sym (append_assoc more added before))
looks_from added before (l ∷ looks) after (between, b, was, is, later) = (
  between,
  b,
  record { added = was.added ++ added; read = was.read ∙ sym (append_assoc was.added added before); one = one_of_first was.added added b was.one },
  is,
  later,
)

pub looks_on : (before between after : List BoardState) (first second : List Look) → AreLooksAt before first between → AreLooksAt between second after → AreLooksAt before (first ++ second) after
looks_on before between after [] second (added, is) at = looks_from added before second after (subst (λ read. AreLooksAt read second after) is at)
looks_on before between after (l ∷ first) second (middle, b, was, is, later) at = (middle, b, was, is, looks_on middle between after first second later at)

-- the fronts of looks alone
looks_rise : (low high : ℕ) (e : Event) → RiseBetween low (front_by e) high → RiseBetween low (look_fronts (look_of e)) high
looks_rise low high (event.Whole message) rise = rise
looks_rise low high (event.Idle front) (first, rise) = le_trans first rise
looks_rise low high (event.Fed answer) rise = rise
looks_rise low high (event.Bodies b) rise = rise
looks_rise low high (event.Asked answer) rise = rise
looks_rise low high (event.Got answer) rise = rise
looks_rise low high (event.Set answer) rise = rise
looks_rise low high (event.Judged (outcome.Bad400 field)) rise = rise
looks_rise low high (event.Judged (outcome.TooLarge413 bytes)) rise = rise
looks_rise low high (event.Judged (outcome.UserGone401 at)) rise = rise
looks_rise low high (event.Judged (outcome.Known at)) rise = rise
looks_rise low high (event.Judged (outcome.BadHistory400 at)) rise = rise
looks_rise low high (event.Judged (outcome.Conflict409 at leaf)) rise = rise
looks_rise low high (event.Judged (outcome.Denied403 at rule)) rise = rise
looks_rise low high (event.Judged (outcome.Stored sequence at)) rise = rise
looks_rise low high (event.Judged (outcome.Full503 at places)) rise = rise
looks_rise low high (event.Judged (outcome.LogFull509 at entries bytes)) rise = rise
looks_rise low high (event.Judged outcome.Memory507) rise = rise

numbers_on : (first second : List Waiting) → map (λ (w : Waiting). w.number) (first ++ second) ≡ map (λ (w : Waiting). w.number) first ++ map (λ (w : Waiting). w.number) second
numbers_on [] second = refl
numbers_on (w ∷ first) second = ap (λ ns. w.number ∷ ns) (numbers_on first second)

-- all that holds of the steps that were answered
pub record AllAnswers (start : Moment) (user : List ℕ) (program : Program) (strict : Bool) (steps : List SessionStep) (now : Moment) : Type 0 where
  pub right : (h : List Entry) → IsLaterThanAll now.read h → AreRight h user program strict steps
  pub reads : Reads start.read now.read start.lowest now.lowest
  pub rise : RiseBetween start.lowest (fronts_of steps) now.lowest
  pub recorded : now.recorded ≡ recorded_by start.recorded steps
  pub at_length : AreAtLength start.recorded steps
  pub own : OwnSince start user program (stored_of steps) now
  pub looks : AreLooksAt start.read (looks_of steps) now.read
  pub looks_rise : RiseBetween start.lowest (look_fronts (looks_of steps)) now.lowest

none_answered : Laws → (start : Moment) (user : List ℕ) (program : Program) (strict : Bool) → AllAnswers start user program strict [] start
none_answered laws start user program strict = record {
  right = λ h later. tt;
  reads = laws.reflexive start.read start.lowest;
  rise = le_refl start.lowest;
  recorded = refl;
  at_length = tt;
  own = ([], refl, refl, tt);
  looks = ([], refl);
  looks_rise = le_refl start.lowest;
}

-- a board that was read by then was read by now
read_by_now : (start between now : List BoardState) (b : BoardState) (more : List BoardState) → now ≡ more ++ between → WasRead start between b → WasRead start now b
read_by_now start between now b more is was = record {
  added = more ++ was.added;
  read = is ∙ ap (λ read. more ++ read) was.read ∙ sym (append_assoc more was.added start);
  one = one_of_second more was.added b was.one;
}

-- and one that was read since then was read since the start
read_since_start : (start between now : List BoardState) (b : BoardState) (first : List BoardState) → between ≡ first ++ start → WasRead between now b → WasRead start now b
read_since_start start between now b first is was = record {
  added = was.added ++ first;
  read = was.read ∙ ap (λ read. was.added ++ read) is ∙ sym (append_assoc was.added first start);
  one = one_of_first was.added first b was.one;
}

judged_since : (program : Program) (user : List ℕ) (before after since now : List BoardState) (w : Waiting)
    → (one : IsJudgedEntry program user before after w) → WasRead since now one.board → WasRead since now one.holding → IsJudgedEntry program user since now w
judged_since program user before after since now w one was held = record {
  revision = one.revision;
  board = one.board;
  was_read = was;
  write = one.write;
  entry_is = one.entry_is;
  is_write = one.is_write;
  below = one.below;
  holding = one.holding;
  holding_read = held;
  there = one.there;
  judged_write = one.judged_write;
}

judged_by_now : (program : Program) (user : List ℕ) (start between now : List BoardState) (more : List BoardState) → now ≡ more ++ between → (ws : List Waiting)
    → AreJudged program user start between ws → AreJudged program user start now ws
judged_by_now program user start between now more is [] a = tt
judged_by_now program user start between now more is (w ∷ ws) (one, a) =
    (judged_since program user start between start now w one (read_by_now start between now one.board more is one.was_read) (read_by_now start between now one.holding more is one.holding_read), judged_by_now program user start between now more is ws a)

judged_on : (program : Program) (user : List ℕ) (start between now : List BoardState) (first : List BoardState) → between ≡ first ++ start → (ws others : List Waiting)
    → AreJudged program user between now ws → AreJudged program user start now others → AreJudged program user start now (ws ++ others)
judged_on program user start between now first is [] others a b = b
judged_on program user start between now first is (w ∷ ws) others (one, a) b =
    (judged_since program user between now start now w one (read_since_start start between now one.board first is one.was_read) (read_since_start start between now one.holding first is one.holding_read), judged_on program user start between now first is ws others a b)

own_on : (start between now : Moment) (user : List ℕ) (program : Program) (stored more : List ℕ) → Reads start.read between.read start.lowest between.lowest
    → Reads between.read now.read between.lowest now.lowest → OwnSince start user program stored between → OwnSince between user program more now
    → OwnSince start user program (stored ++ more) now
own_on start between now user program stored more earlier later (first, first_is, first_numbers, first_judged) (second, second_is, second_numbers, second_judged) = (
  second ++ first,
  second_is ∙ ap (λ l. second ++ l) first_is ∙ sym (append_assoc second first start.own),
  numbers_on second first ∙ ap (λ ns. ns ++ map (λ (w : Waiting). w.number) first) second_numbers ∙ ap (λ ns. reverse more ++ ns) first_numbers ∙ sym (reverse-append stored more),
  judged_on program user start.read between.read now.read earlier.added earlier.read second first second_judged
      (judged_by_now program user start.read between.read now.read later.added later.read first first_judged),
)

-- the own entries once the ground has read, and nothing more
pub own_read : (start now final : Moment) (user : List ℕ) (program : Program) (stored : List ℕ) → HasReadGround now final → OwnSince start user program stored now → OwnSince start user program stored final
own_read start now final user program stored reads (added, is, numbers, judged) =
    (added, reads.own ∙ is, numbers, judged_by_now program user start.read now.read final.read reads.reads.added reads.reads.read added judged)

answers_on : Laws → (start between now : Moment) (user : List ℕ) (program : Program) (strict : Bool) (s : SessionStep) (earlier : List SessionStep) → AllAnswers start user program strict earlier between → OneAnswer between user program strict (wanted_after earlier) s.event now → AllAnswers start user program strict (s ∷ earlier) now
answers_on laws start between now user program strict s earlier all one = record {
  right = λ h later. (one.right h later, all.right h (laws.before between.read now.read between.lowest now.lowest h one.reads later));
  reads = laws.transitive start.read between.read now.read start.lowest between.lowest now.lowest all.reads one.reads;
  rise = rise_on start.lowest between.lowest now.lowest (fronts_of earlier) (front_by s.event) all.rise one.rise;
  recorded = one.recorded ∙ ap (λ n. length_after n s.event) all.recorded;
  at_length = (subst (λ n. AreLength n (front_by s.event)) all.recorded one.at_length, all.at_length);
  own = own_on start between now user program (stored_of earlier) (stored_by s.event) all.reads one.reads all.own one.own;
  looks = looks_on start.read between.read now.read (looks_of earlier) (look_of s.event) all.looks one.looks;
  looks_rise = subst (λ fs. RiseBetween start.lowest fs now.lowest) (sym (map-append _ (looks_of earlier) (look_of s.event)))
      (rise_on start.lowest between.lowest now.lowest (look_fronts (looks_of earlier)) (look_fronts (look_of s.event)) all.looks_rise
      (looks_rise between.lowest now.lowest s.event one.rise));
}

pub all_answers : Laws → (start now : Moment) (user : List ℕ) (program : Program) (strict : Bool) (steps : List SessionStep) → AreAnswered start user program strict steps now → AllAnswers start user program strict steps now
all_answers laws start now user program strict [] a = subst (AllAnswers start user program strict []) (sym a) (none_answered laws start user program strict)
all_answers laws start now user program strict (s ∷ earlier) (between, a, one) =
    answers_on laws start between now user program strict s earlier (all_answers laws start between user program strict earlier a) (one_answer laws between now user program strict (wanted_after earlier) s.event one)
