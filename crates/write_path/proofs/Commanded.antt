-- what a command at a ground with one owner leaves
use Rattle.std.proofs.Common.{◌≡◌, ◌≤◌, ℕ, List, [], ◌∷◌, length, Option, Some, refl, sym, ap, ◌∙◌, subst, arith}
use Rattle.std.proofs.lemmas.List.{length-append}
use Rattle.sg_history.specs.declared.book.Waiting.{Waiting}
use Rattle.sg_history.specs.declared.entries.Entry.{Entry}
use Rattle.sg_history.specs.Board.{BoardState, After, IsAfterAll}
use Rattle.sg_history.specs.Book.{Book, book_of}
use Rattle.sg_history.specs.History.{as_write}
use Rattle.principals.specs.declared.command.Command.{Command}
use Rattle.principals.specs.declared.command.Command.TheVariants as command
use Rattle.principals.specs.Script.{entry_of}
use Rattle.doc_board.specs.declared.outcome.Outcome.{Outcome}
use Rattle.doc_board.specs.declared.outcome.Outcome.TheVariants as outcome
use Rattle.doc_board.specs.Boards.{board_of, body_size}
use Rattle.doc_board.specs.Outcomes.{IsByLimits}
use Rattle.doc_board.specs.State.{State}
use Rattle.write_path.specs.Commands.{Commands, IsCommanded}
use Rattle.board_steps.specs.After.{IsBoardCommanded}
use Rattle.write_path.specs.Proposals.{recorded_after}
use Rattle.write_path.specs.Own.{own_before, own_after}
use Rattle.write_path.proofs.Grown.{Extended, after_entry}
use Rattle.write_path.proofs.OneRead.{same_book}
use Rattle.write_path.proofs.Proposed.{Again, Itself, at_sequence, first_read, roomed, same_after, same_length, second_read, two_reads}

-- a command's entry has no body
no_body : (c : Command) → body_size (as_write (entry_of c)) ≤ 20971520
no_body (command.PutUser name channels roles) = omega arith
no_body (command.PutRole name channels) = omega arith
no_body (command.DropUser name) = omega arith
no_body (command.DropRole name) = omega arith

pub after_command : Extended → Itself → (s t : State) (c : Command) (answer : Outcome) → s.pending ≡ [] → IsBoardCommanded s t (entry_of c) answer → After (board_of s) (board_of t)
after_command extended itself s t c (outcome.Stored sequence at) alone left = after_entry extended s t (entry_of c) alone left.pending left.log left.rooms left.checkpoints (no_body c)
after_command extended itself s t c (outcome.Full503 at places) alone left = same_after itself s t left.0
after_command extended itself s t c (outcome.LogFull509 at entries bytes) alone left = same_after itself s t left.0
after_command extended itself s t c outcome.Memory507 alone left = same_after itself s t left
after_command extended itself s t c (outcome.Bad400 field) alone left = absurd left
after_command extended itself s t c (outcome.TooLarge413 bytes) alone left = absurd left
after_command extended itself s t c (outcome.UserGone401 at) alone left = absurd left
after_command extended itself s t c (outcome.Known at) alone left = absurd left
after_command extended itself s t c (outcome.BadHistory400 at) alone left = absurd left
after_command extended itself s t c (outcome.Conflict409 at leaf) alone left = absurd left
after_command extended itself s t c (outcome.Denied403 at rule) alone left = absurd left

pub no_rooms : (s t : State) (e : Entry) (answer : Outcome) → s.rooms ≡ [] → IsBoardCommanded s t e answer → t.rooms ≡ []
no_rooms s t e (outcome.Stored sequence at) none left = left.rooms ∙ none
no_rooms s t e (outcome.Full503 at places) none left = left.0.rooms ∙ none
no_rooms s t e (outcome.LogFull509 at entries bytes) none left = left.0.rooms ∙ none
no_rooms s t e outcome.Memory507 none left = left.rooms ∙ none
no_rooms s t e (outcome.Bad400 field) none left = absurd left
no_rooms s t e (outcome.TooLarge413 bytes) none left = absurd left
no_rooms s t e (outcome.UserGone401 at) none left = absurd left
no_rooms s t e (outcome.Known at) none left = absurd left
no_rooms s t e (outcome.BadHistory400 at) none left = absurd left
no_rooms s t e (outcome.Conflict409 at leaf) none left = absurd left
no_rooms s t e (outcome.Denied403 at rule) none left = absurd left

pub none_waits : (s t : State) (e : Entry) (answer : Outcome) → s.pending ≡ [] → IsBoardCommanded s t e answer → t.pending ≡ []
none_waits s t e (outcome.Stored sequence at) none left = left.pending ∙ none
none_waits s t e (outcome.Full503 at places) none left = left.0.pending ∙ none
none_waits s t e (outcome.LogFull509 at entries bytes) none left = left.0.pending ∙ none
none_waits s t e outcome.Memory507 none left = left.pending ∙ none
none_waits s t e (outcome.Bad400 field) none left = absurd left
none_waits s t e (outcome.TooLarge413 bytes) none left = absurd left
none_waits s t e (outcome.UserGone401 at) none left = absurd left
none_waits s t e (outcome.Known at) none left = absurd left
none_waits s t e (outcome.BadHistory400 at) none left = absurd left
none_waits s t e (outcome.Conflict409 at leaf) none left = absurd left
none_waits s t e (outcome.Denied403 at rule) none left = absurd left

pub recorded_then : (s t : State) (e : Entry) (answer : Outcome) → IsBoardCommanded s t e answer → Some (length t.log) ≡ recorded_after (Some (length s.log)) answer
recorded_then s t e (outcome.Stored sequence at) left =
    ap (λ (es : List Entry). Some (length es)) left.log ∙ ap (λ (n : ℕ). Some n) (length-append s.log (e ∷ []))
recorded_then s t e (outcome.Full503 at places) left = same_length s t left.0
recorded_then s t e (outcome.LogFull509 at entries bytes) left = same_length s t left.0
recorded_then s t e outcome.Memory507 left = same_length s t left
recorded_then s t e (outcome.Bad400 field) left = absurd left
recorded_then s t e (outcome.TooLarge413 bytes) left = absurd left
recorded_then s t e (outcome.UserGone401 at) left = absurd left
recorded_then s t e (outcome.Known at) left = absurd left
recorded_then s t e (outcome.BadHistory400 at) left = absurd left
recorded_then s t e (outcome.Conflict409 at leaf) left = absurd left
recorded_then s t e (outcome.Denied403 at rule) left = absurd left

commanded : (before after : List BoardState) (own : List Waiting) (s t : State) (e : Entry) (answer : Outcome) → s.pending ≡ [] → after ≡ board_of t ∷ board_of s ∷ before → IsByLimits 0 (board_of s) answer → IsBoardCommanded s t e answer → IsCommanded before after own (own_after own t.log answer) (Some (length s.log)) e answer
commanded before after own s t e (outcome.Stored sequence at) alone read limits left =
    let there : book_of t.log sequence ≡ Some e = at_sequence s t e sequence left.log left.next in
    record {
      own = ap (λ (found : Option Entry). own_before found sequence own) there;
      holding = board_of t;
      was_read = second_read before after (board_of s) (board_of t) read;
      there = ap (λ (book : Book). book sequence) (same_book t (left.pending ∙ alone)) ∙ there;
      earlier = board_of s;
      was_earlier = first_read before after (board_of s) (board_of t) read;
      has_length = refl;
      front = left.front;
      next = omega (arith, left.next, left.front);
      room = roomed before after s t 0 (outcome.Stored sequence at) read limits;
    }
commanded before after own s t e (outcome.Full503 at places) alone read limits left =
    record { own = refl; room = roomed before after s t 0 (outcome.Full503 at places) read limits; front = left.1 }
commanded before after own s t e (outcome.LogFull509 at entries bytes) alone read limits left =
    record { own = refl; room = roomed before after s t 0 (outcome.LogFull509 at entries bytes) read limits; front = left.1 }
commanded before after own s t e outcome.Memory507 alone read limits left = refl
commanded before after own s t e (outcome.Bad400 field) alone read limits left = absurd left
commanded before after own s t e (outcome.TooLarge413 bytes) alone read limits left = absurd left
commanded before after own s t e (outcome.UserGone401 at) alone read limits left = absurd left
commanded before after own s t e (outcome.Known at) alone read limits left = absurd left
commanded before after own s t e (outcome.BadHistory400 at) alone read limits left = absurd left
commanded before after own s t e (outcome.Conflict409 at leaf) alone read limits left = absurd left
commanded before after own s t e (outcome.Denied403 at rule) alone read limits left = absurd left

pub commands : Extended → Itself → Again → (before after : List BoardState) (own later_own : List Waiting) (s t : State) (c : Command) (answer : Outcome) → s.pending ≡ [] → after ≡ board_of t ∷ board_of s ∷ before → later_own ≡ own_after own t.log answer → IsAfterAll before (board_of s) → IsByLimits 0 (board_of s) answer → IsBoardCommanded s t (entry_of c) answer → Commands before after (length s.log) (length t.log) own later_own (Some (length s.log)) (entry_of c) answer
commands extended itself again before after own later_own s t c answer alone read owns all limits left = record {
  reads = two_reads again before after (board_of s) (board_of t) read all (after_command extended itself s t c answer alone left);
  commanded = subst (λ (o : List Waiting). IsCommanded before after own o (Some (length s.log)) (entry_of c) answer) (sym owns) (commanded before after own s t (entry_of c) answer alone read limits left);
}
