-- what the lines of a script come to, by a history that is later than all boards that were read for them
use Rattle.std.proofs.Common.{◌≡◌, ◌≤◌, ◌⊎◌, ◌∙◌, ℕ, Bool, List, [], ◌∷◌, ◌++◌, append-nil, length, reverse, Option, None, Some, inl, inr, refl, sym, ap, subst, arith}
use Rattle.std.proofs.lemmas.List.{append_assoc, reverse-append}
use Rattle.sg_history.specs.declared.book.Waiting.{Waiting}
use Rattle.sg_history.specs.declared.entries.Entry.{Entry}
use Rattle.sg_history.specs.declared.entries.Entry.TheVariants as entry
use Rattle.sg_history.specs.declared.entries.Write.{Write}
use Rattle.sg_history.specs.Board.{BoardState, board_book}
use Rattle.sg_history.specs.Book.{Book, Later, book_of}
use Rattle.seq_gate.specs.Boards.{HasAll}
use Rattle.seq_gate.specs.Counts.{numbers}
use Rattle.principals.specs.declared.admin_line.AdminLine.{AdminLine}
use Rattle.principals.specs.declared.admin_line.AdminLine.TheVariants as line
use Rattle.principals.specs.declared.command.Command.{Command}
use Rattle.principals.specs.declared.command.Command.TheVariants as command
use Rattle.principals.specs.Script.{entry_of}
use Rattle.repl_messages.specs.declared.revision.Revision.{Revision}
use Rattle.sync_syntax.specs.declared.tree.Program.{Program}
use Rattle.doc_board.specs.declared.outcome.Outcome.{Outcome}
use Rattle.doc_board.specs.declared.outcome.Outcome.TheVariants as outcome
use Rattle.doc_board.specs.JudgedWrites.{IsJudgedWrite}
use Rattle.doc_board.specs.Outcomes.{bytes_of}
use Rattle.write_path.specs.Commands.{IsCommanded}
use Rattle.write_path.specs.Own.{own_after, own_before}
use Rattle.write_path.specs.Proposals.{IsProposed, IsRoomed}
use Rattle.write_path.specs.Reads.{IsLaterThanAll, IsOneOf, Reads, WasRead}
use Rattle.session_run.specs.Answered.{Moment}
use Rattle.session_threads.specs.declared.played.LineOutcome.{LineOutcome}
use Rattle.session_threads.specs.declared.played.LineOutcome.TheVariants.{Plain}
use Rattle.session_threads.specs.Lines.{AreLinesAt, IsLimited, IsLineAt, IsLineBy, IsRevisionBy, sequence_before, stored_sequences}
use Rattle.session_threads.specs.OwnRevisions.{own_revision}
use Rattle.session_threads.specs.inner.Runs.{AreLinesRun, IsLineRun}
use Rattle.session_threads.proofs.Reading.{IsBy, Newest, WasReadLaws, after_one, by_all, by_kept, by_length, by_newest, later_one, next_newest, read_one, was_one}

-- ---- entries that stand in the history, of which the writes were judged

pub record IsJudgedIn (h : List Entry) (program : Program) (w : Waiting) : Type 0 where
  pub there : book_of h w.number ≡ Some w.entry
  pub judged : (x : Write) → w.entry ≡ entry.Write x → IsJudgedWrite program (book_of h) w.number x

abbrev pub AllJudgedIn : List Entry → Program → List Waiting → Type 0
AllJudgedIn h program [] = Unit {0}
AllJudgedIn h program (w ∷ ws) = IsJudgedIn h program w × AllJudgedIn h program ws

pub all_judged : (h : List Entry) (program : Program) (ws vs : List Waiting) → AllJudgedIn h program ws → AllJudgedIn h program vs → AllJudgedIn h program (ws ++ vs)
all_judged h program [] vs a b = b
all_judged h program (w ∷ ws) vs a b = (a.0, all_judged h program ws vs a.1 b)

-- a judged write of a book is one of each later book
abbrev pub JudgedLater : Type 0
JudgedLater = (program : Program) (earlier later : Book) (sequence : ℕ) (w : Write) → Later earlier later → earlier sequence ≡ Some (entry.Write w) → IsJudgedWrite program earlier sequence w → IsJudgedWrite program later sequence w

same_write : (w x : Write) (P : Write → Type 0) → entry.Write w ≡ entry.Write x → P w → P x
same_write w x P is p = subst P (write_is is) p
  where
    write_in : Entry → Write
    write_in (entry.Write y) = y
    write_in other = w

    write_is : entry.Write w ≡ entry.Write x → w ≡ x
    write_is is = ap write_in is

pub judged_in : JudgedLater → (h : List Entry) (program : Program) (b : BoardState) (number : ℕ) (w : Write) → Later (board_book b) (book_of h) → board_book b number ≡ Some (entry.Write w) → IsJudgedWrite program (board_book b) number w
    → IsJudgedIn h program (record { number = number; entry = entry.Write w })
judged_in on h program b number w later there judged = record {
  there = later.kept number (entry.Write w) there;
  judged = λ x is. same_write w x (λ (y : Write). IsJudgedWrite program (book_of h) number y) is (on program (board_book b) (book_of h) number w later there judged);
}

no_write : (c : Command) (w : Write) → entry_of c ≡ entry.Write w → ⊥
no_write (command.PutUser name channels roles) w is = absurd cc
no_write (command.PutRole name channels) w is = absurd cc
no_write (command.DropUser name) w is = absurd cc
no_write (command.DropRole name) w is = absurd cc

-- ---- one line

module _ (h : List Entry) (program : Program) (strict : Bool) (m n : Moment) (all : IsLaterThanAll n.read h) where
  later_read : (b : BoardState) → WasRead m.read n.read b → Later (board_book b) (book_of h)
  later_read b was = later_one n.read b h (was_one m.read n.read b was) all

  limited : (bytes : ℕ) (answer : Outcome) → IsRoomed m.read n.read m.recorded bytes answer → IsLimited h bytes answer
  limited bytes answer room = record { board = room.board; later = later_read room.board room.was_read; limits = room.limits }

  -- a board by which the line has its outcome: the newest one before, or one that was read for it
  abbrev Chosen : AdminLine → Outcome → BoardState → Type 0
  Chosen l answer newest = (b : BoardState) × IsLineBy h program strict l b answer × ((b ≡ newest) ⊎ WasRead m.read n.read b)

  command_by : (c : Command) (answer : Outcome) (newest : BoardState) → IsCommanded m.read n.read m.own n.own m.recorded (entry_of c) answer → Chosen (line.Command c) answer newest
  command_by c (outcome.Stored sequence at) newest is = (
    is.earlier,
    (is.front, is.next, (later_read is.holding is.was_read).kept sequence (entry_of c) is.there, limited 0 (outcome.Stored sequence at) is.room),
    inr is.was_earlier,
  )
  command_by c (outcome.Full503 at places) newest is = (is.room.board, (is.front, is.room.limits), inr is.room.was_read)
  command_by c (outcome.LogFull509 at entries bytes) newest is = (is.room.board, (is.front, is.room.limits), inr is.room.was_read)
  command_by c outcome.Memory507 newest is = (newest, tt, inl refl)
  command_by c (outcome.Bad400 field) newest is = absurd is
  command_by c (outcome.TooLarge413 bytes) newest is = absurd is
  command_by c (outcome.UserGone401 at) newest is = absurd is
  command_by c (outcome.Known at) newest is = absurd is
  command_by c (outcome.BadHistory400 at) newest is = absurd is
  command_by c (outcome.Conflict409 at leaf) newest is = absurd is
  command_by c (outcome.Denied403 at rule) newest is = absurd is

  -- a board by which a revision has its outcome
  abbrev ChosenFor : Revision → Outcome → BoardState → Type 0
  ChosenFor r answer newest = (b : BoardState) × IsRevisionBy h program strict r b answer × ((b ≡ newest) ⊎ WasRead m.read n.read b)

  revision_by : (r : Revision) (answer : Outcome) (newest : BoardState) → IsProposed m.read n.read m.own n.own m.recorded program strict None r answer → ChosenFor r answer newest
  revision_by r (outcome.Bad400 field) newest is = (newest, record { outcome = is.1; kept = tt }, inl refl)
  revision_by r (outcome.TooLarge413 bytes) newest is = (newest, record { outcome = is.1; kept = tt }, inl refl)
  revision_by r (outcome.UserGone401 at) newest is = (is.1.board, record { outcome = is.1.outcome; kept = tt }, inr is.1.was_read)
  revision_by r (outcome.Known at) newest is = (is.1.board, record { outcome = is.1.outcome; kept = tt }, inr is.1.was_read)
  revision_by r (outcome.BadHistory400 at) newest is = (is.1.board, record { outcome = is.1.outcome; kept = tt }, inr is.1.was_read)
  revision_by r (outcome.Conflict409 at leaf) newest is = (is.1.board, record { outcome = is.1.outcome; kept = tt }, inr is.1.was_read)
  revision_by r (outcome.Denied403 at rule) newest is = (is.1.board, record { outcome = is.1.outcome; kept = tt }, inr is.1.was_read)
  revision_by r (outcome.Stored sequence at) newest is = (
    is.judged,
    record {
      outcome = is.outcome;
      kept = (is.write, is.is_write, (later_read is.holding is.was_read).kept sequence (entry.Write is.write) is.there, limited (bytes_of r) (outcome.Stored sequence at) is.room);
    },
    inr is.was_judged,
  )
  revision_by r (outcome.Full503 at places) newest is =
      (is.judged.board, record { outcome = is.judged.outcome; kept = limited (bytes_of r) (outcome.Full503 at places) is.room }, inr is.judged.was_read)
  revision_by r (outcome.LogFull509 at entries bytes) newest is =
      (is.judged.board, record { outcome = is.judged.outcome; kept = limited (bytes_of r) (outcome.LogFull509 at entries bytes) is.room }, inr is.judged.was_read)
  revision_by r outcome.Memory507 newest is = (newest, record { outcome = tt; kept = tt }, inl refl)

  pub line_by : (l : AdminLine) (answer : Outcome) (newest : BoardState) → IsLineRun program strict m l answer n → Chosen l answer newest
  line_by (line.Command c) answer newest run = command_by c answer newest run.commanded
  line_by (line.Doc doc parent deleted body) answer newest run = revision_by (own_revision doc parent deleted body) answer newest run.proposed

  -- ---- what is stored

  -- the entry that is own since, if one is: it stands in a board that was read for it
  pub record Added (answer : Outcome) : Type 0 where
    pub added : List Waiting
    pub own : n.own ≡ added ++ m.own
    pub numbers_are : numbers added ≡ sequence_before answer []
    pub judged : AllJudgedIn h program added
    pub stored : (ws : List Waiting) → own_after ws h answer ≡ added ++ ws
    pub holding : (b : BoardState) → Newest n b → HasAll b added

  none_added : (answer : Outcome) → n.own ≡ m.own → sequence_before answer [] ≡ [] → ((ws : List Waiting) → own_after ws h answer ≡ ws) → Added answer
  none_added answer own none still = record { added = []; own = own; numbers_are = sym none; judged = tt; stored = still; holding = λ b newest. tt }

  one_added : (number at : ℕ) (e : Entry) (b : BoardState) → n.own ≡ record { number = number; entry = e } ∷ m.own → WasRead m.read n.read b → board_book b number ≡ Some e → IsJudgedIn h program (record { number = number; entry = e })
      → Added (outcome.Stored number at)
  one_added number at e b own was there judged = record {
    added = record { number = number; entry = e } ∷ [];
    own = own;
    numbers_are = refl;
    judged = (judged, tt);
    stored = λ ws. ap (λ o. own_before o number ws) judged.there;
    holding = λ c newest. (by_kept b c number e (by_newest n b c newest (was_one m.read n.read b was)) there, tt);
  }

  command_added : (c : Command) (answer : Outcome) → IsCommanded m.read n.read m.own n.own m.recorded (entry_of c) answer → Added answer
  command_added c (outcome.Stored sequence at) is = one_added sequence at (entry_of c) is.holding is.own is.was_read is.there (record {
    there = (later_read is.holding is.was_read).kept sequence (entry_of c) is.there;
    judged = λ x written. absurd (no_write c x written);
  })
  command_added c (outcome.Full503 at places) is = none_added (outcome.Full503 at places) is.own refl (λ ws. refl)
  command_added c (outcome.LogFull509 at entries bytes) is = none_added (outcome.LogFull509 at entries bytes) is.own refl (λ ws. refl)
  command_added c outcome.Memory507 is = none_added outcome.Memory507 is refl (λ ws. refl)
  command_added c (outcome.Bad400 field) is = absurd is
  command_added c (outcome.TooLarge413 bytes) is = absurd is
  command_added c (outcome.UserGone401 at) is = absurd is
  command_added c (outcome.Known at) is = absurd is
  command_added c (outcome.BadHistory400 at) is = absurd is
  command_added c (outcome.Conflict409 at leaf) is = absurd is
  command_added c (outcome.Denied403 at rule) is = absurd is

  revision_added : JudgedLater → (by : Option (List ℕ)) (r : Revision) (answer : Outcome) → IsProposed m.read n.read m.own n.own m.recorded program strict by r answer → Added answer
  revision_added on by r (outcome.Bad400 field) is = none_added (outcome.Bad400 field) is.0 refl (λ ws. refl)
  revision_added on by r (outcome.TooLarge413 bytes) is = none_added (outcome.TooLarge413 bytes) is.0 refl (λ ws. refl)
  revision_added on by r (outcome.UserGone401 at) is = none_added (outcome.UserGone401 at) is.0 refl (λ ws. refl)
  revision_added on by r (outcome.Known at) is = none_added (outcome.Known at) is.0 refl (λ ws. refl)
  revision_added on by r (outcome.BadHistory400 at) is = none_added (outcome.BadHistory400 at) is.0 refl (λ ws. refl)
  revision_added on by r (outcome.Conflict409 at leaf) is = none_added (outcome.Conflict409 at leaf) is.0 refl (λ ws. refl)
  revision_added on by r (outcome.Denied403 at rule) is = none_added (outcome.Denied403 at rule) is.0 refl (λ ws. refl)
  revision_added on by r (outcome.Stored sequence at) is =
      one_added sequence at (entry.Write is.write) is.holding is.own is.was_read is.there (judged_in on h program is.holding sequence is.write (later_read is.holding is.was_read) is.there is.judged_write)
  revision_added on by r (outcome.Full503 at places) is = none_added (outcome.Full503 at places) is.own refl (λ ws. refl)
  revision_added on by r (outcome.LogFull509 at entries bytes) is = none_added (outcome.LogFull509 at entries bytes) is.own refl (λ ws. refl)
  revision_added on by r outcome.Memory507 is = none_added outcome.Memory507 is refl (λ ws. refl)

  pub line_added : JudgedLater → (l : AdminLine) (answer : Outcome) → IsLineRun program strict m l answer n → Added answer
  line_added on (line.Command c) answer run = command_added c answer run.commanded
  line_added on (line.Doc doc parent deleted body) answer run = revision_added on None (own_revision doc parent deleted body) answer run.proposed

-- one line more
pub run_more : (program : Program) (strict : Bool) (m n k : Moment) (lines : List AdminLine) (outcomes : List LineOutcome) (l : AdminLine) (answer : Outcome)
    → AreLinesRun program strict m lines outcomes n → IsLineRun program strict n l answer k → AreLinesRun program strict m (lines ++ l ∷ []) (outcomes ++ Plain answer ∷ []) k
run_more program strict m n k [] [] l answer run one = (k, subst (λ (x : Moment). IsLineRun program strict x l answer k) run one, refl)
run_more program strict m n k [] (o ∷ outcomes) l answer run one = absurd run
run_more program strict m n k (x ∷ lines) [] l answer run one = absurd run
run_more program strict m n k (x ∷ lines) (Plain o ∷ outcomes) l answer (between, first, rest) one = (between, first, run_more program strict between n k lines outcomes l answer rest one)

-- what a line did to the boards that were read
pub line_reads : (program : Program) (strict : Bool) (m n : Moment) (l : AdminLine) (answer : Outcome) → IsLineRun program strict m l answer n → Reads m.read n.read m.lowest n.lowest
line_reads program strict m n (line.Command c) answer run = run.reads
line_reads program strict m n (line.Doc doc parent deleted body) answer run = run.reads

-- ---- all lines

-- what was read before lines were run was read by the end, too
pub lines_read : (program : Program) (strict : Bool) (m n : Moment) (lines : List AdminLine) (outcomes : List LineOutcome) → AreLinesRun program strict m lines outcomes n → (more : List BoardState) × (n.read ≡ more ++ m.read)
lines_read program strict m n [] [] run = ([], ap (λ (x : Moment). x.read) run)
lines_read program strict m n [] (o ∷ outcomes) run = absurd run
lines_read program strict m n (l ∷ lines) [] run = absurd run
lines_read program strict m n (l ∷ lines) (Plain answer ∷ outcomes) (between, one, rest) =
    let reads : Reads m.read between.read m.lowest between.lowest = line_reads program strict m between l answer one in
    let more : (more : List BoardState) × (n.read ≡ more ++ between.read) = lines_read program strict between n lines outcomes rest in
    (more.0 ++ reads.added, more.1 ∙ ap (λ (read : List BoardState). more.0 ++ read) reads.read ∙ sym (append_assoc more.0 reads.added m.read))

later_before : (more read : List BoardState) (h : List Entry) → IsLaterThanAll (more ++ read) h → IsLaterThanAll read h
later_before [] read h all = all
later_before (b ∷ more) read h all = later_before more read h all.1

pub later_then : (h : List Entry) (m n : Moment) → ((more : List BoardState) × (n.read ≡ more ++ m.read)) → IsLaterThanAll n.read h → IsLaterThanAll m.read h
later_then h m n (more, is) all = later_before more m.read h (subst (λ (read : List BoardState). IsLaterThanAll read h) is all)

has_both : (b : BoardState) (ws vs : List Waiting) → HasAll b ws → HasAll b vs → HasAll b (ws ++ vs)
has_both b [] vs all others = others
has_both b (w ∷ ws) vs all others = (all.0, has_both b ws vs all.1 others)

chosen_by : (m n : Moment) (newest b c : BoardState) → Newest n c → IsBy newest c → (b ≡ newest) ⊎ WasRead m.read n.read b → IsBy b c
chosen_by m n newest b c is by (inl same) = subst (λ (x : BoardState). IsBy x c) (sym same) by
chosen_by m n newest b c is by (inr was) = by_newest n b c is (was_one m.read n.read b was)

chosen_at : WasReadLaws → (h : List Entry) (program : Program) (strict : Bool) (m n : Moment) (stored : List Waiting) (least : ℕ) (l : AdminLine) (answer : Outcome) (newest b : BoardState)
    → IsLaterThanAll n.read h → Reads m.read n.read m.lowest n.lowest → Newest m newest → HasAll newest stored → least ≤ length newest.log
    → IsLineBy h program strict l b answer → (b ≡ newest) ⊎ WasRead m.read n.read b → IsLineAt h program strict stored least l answer b
chosen_at laws h program strict m n stored least l answer newest b all reads is has low by (inl same) = record {
  later = later_one n.read b h (subst (λ (x : BoardState). IsOneOf n.read x) (sym same) (read_one m.read n.read newest reads.added reads.read (subst (λ (read : List BoardState). IsOneOf read newest) (sym is.read) (inl refl)))) all;
  has = subst (λ (x : BoardState). HasAll x stored) (sym same) has;
  front = omega (arith, low, ap (λ (x : BoardState). length x.log) same);
  by = by;
}
chosen_at laws h program strict m n stored least l answer newest b all reads is has low by (inr was) = record {
  later = later_one n.read b h (was_one m.read n.read b was) all;
  has = by_all newest b stored (inr (after_one m.read newest b (subst (λ (read : List BoardState). IsOneOf read newest) (sym is.read) (inl refl)) (laws.before m.read n.read m.lowest n.lowest b reads was))) has;
  front = omega (arith, low, is.low, laws.lowest m.read n.read m.lowest n.lowest b reads was);
  by = by;
}

pub lines_at : WasReadLaws → JudgedLater → (h : List Entry) (program : Program) (strict : Bool) (m n : Moment) (stored : List Waiting) (least : ℕ) (lines : List AdminLine) (outcomes : List LineOutcome) (newest : BoardState)
    → IsLaterThanAll n.read h → Newest m newest → HasAll newest stored → least ≤ length newest.log → AreLinesRun program strict m lines outcomes n → AreLinesAt h program strict stored least lines outcomes
lines_at laws on h program strict m n stored least [] [] newest all is has low run = tt
lines_at laws on h program strict m n stored least [] (o ∷ outcomes) newest all is has low run = absurd run
lines_at laws on h program strict m n stored least (l ∷ lines) [] newest all is has low run = absurd run
lines_at laws on h program strict m n stored least (l ∷ lines) (Plain answer ∷ outcomes) newest all is has low (between, one, rest) =
    let reads : Reads m.read between.read m.lowest between.lowest = line_reads program strict m between l answer one in
    let then : IsLaterThanAll between.read h = later_then h between n (lines_read program strict between n lines outcomes rest) all in
    let chosen = line_by h program strict m between then l answer newest one in
    let at : IsLineAt h program strict stored least l answer chosen.0 = chosen_at laws h program strict m between stored least l answer newest chosen.0 then reads is has low chosen.1 chosen.2 in
    let more = line_added h program strict m between then on l answer one in
    let next : (c : BoardState) × Newest between c × IsBy newest c = next_newest m between newest reads is in
    let has_more : HasAll next.0 (own_after stored h answer) =
    subst (λ (ws : List Waiting). HasAll next.0 ws) (sym (more.stored stored)) (has_both next.0 more.added stored (more.holding next.0 next.1) (by_all newest next.0 stored next.2 has)) in
    (chosen.0, at, lines_at laws on h program strict between n (own_after stored h answer) (length chosen.0.log) lines outcomes next.0 all next.1 has_more (by_length chosen.0 next.0 (chosen_by m between newest chosen.0 next.0 next.1 next.2 chosen.2)) rest)

numbers-append : (ws vs : List Waiting) → numbers (ws ++ vs) ≡ numbers ws ++ numbers vs
numbers-append [] vs = refl
numbers-append (w ∷ ws) vs = ap (λ (ns : List ℕ). w.number ∷ ns) (numbers-append ws vs)

sequence_last : (answer : Outcome) (others : List ℕ) → reverse others ++ sequence_before answer [] ≡ reverse (sequence_before answer others)
sequence_last (outcome.Stored sequence at) others = sym (reverse-append (sequence ∷ []) others)
sequence_last (outcome.Bad400 field) others = append-nil (reverse others)
sequence_last (outcome.TooLarge413 bytes) others = append-nil (reverse others)
sequence_last (outcome.UserGone401 at) others = append-nil (reverse others)
sequence_last (outcome.Known at) others = append-nil (reverse others)
sequence_last (outcome.BadHistory400 at) others = append-nil (reverse others)
sequence_last (outcome.Conflict409 at leaf) others = append-nil (reverse others)
sequence_last (outcome.Denied403 at rule) others = append-nil (reverse others)
sequence_last (outcome.Full503 at places) others = append-nil (reverse others)
sequence_last (outcome.LogFull509 at entries bytes) others = append-nil (reverse others)
sequence_last outcome.Memory507 others = append-nil (reverse others)

-- what the lines stored is own since
pub lines_own : JudgedLater → (h : List Entry) (program : Program) (strict : Bool) (m n : Moment) (lines : List AdminLine) (outcomes : List LineOutcome) → IsLaterThanAll n.read h → AreLinesRun program strict m lines outcomes n
    → (added : List Waiting) × (n.own ≡ added ++ m.own) × (numbers added ≡ reverse (stored_sequences outcomes)) × AllJudgedIn h program added
lines_own on h program strict m n [] [] all run = ([], ap (λ (x : Moment). x.own) run, refl, tt)
lines_own on h program strict m n [] (o ∷ outcomes) all run = absurd run
lines_own on h program strict m n (l ∷ lines) [] all run = absurd run
lines_own on h program strict m n (l ∷ lines) (Plain answer ∷ outcomes) all (between, one, rest) =
    let then : IsLaterThanAll between.read h = later_then h between n (lines_read program strict between n lines outcomes rest) all in
    let more = line_added h program strict m between then on l answer one in
    let others = lines_own on h program strict between n lines outcomes all rest in (
      others.0 ++ more.added,
      others.1 ∙ ap (λ (own : List Waiting). others.0 ++ own) more.own ∙ sym (append_assoc others.0 more.added m.own),
      numbers-append others.0 more.added ∙ ap (λ (ns : List ℕ). ns ++ numbers more.added) others.2 ∙ ap (λ (ns : List ℕ). reverse (stored_sequences outcomes) ++ ns) more.numbers_are ∙ sequence_last answer (stored_sequences outcomes),
      all_judged h program others.0 more.added others.3 more.judged,
    )
