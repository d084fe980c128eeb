-- what a second try stands on
use Rattle.std.proofs.Common.{slice_get, ◌≡◌, ◌<◌, ◌≤◌, ◌⊎◌, ◌∙◌, inl, inr, ℕ, zero, suc, Bool, List, [], ◌∷◌, length, Option, Some, None, refl, sym, ap, subst, arith}
use Rattle.std.proofs.lemmas.Bool.{cases_lt}
use Rattle.sg_history.specs.declared.book.Waiting.{Waiting}
use Rattle.sg_history.specs.declared.entries.Entry.{Entry}
use Rattle.sg_history.specs.declared.entries.Entry.TheVariants as kinds
use Rattle.sg_history.specs.declared.number.Number.{Number}
use Rattle.sg_history.specs.declared.room.RoomFor.{RoomFor}
use Rattle.sg_history.specs.Book.{Book, book_with, entry_or, waiting_at}
use Rattle.sg_history.specs.World.{put_waiting, release}
use Rattle.pending_front.specs.Storing.{MayStore}
use Rattle.repl_messages.specs.declared.revision.Revision.{Revision}
use Rattle.sync_syntax.specs.declared.tree.Program.{Program}
use Rattle.doc_board.specs.declared.room.Room.{Room}
use Rattle.doc_board.specs.Lawful.{AreEntries}
use Rattle.doc_board.specs.Outcomes.{bytes_of}
use Rattle.sg_history.specs.Rooms.{without_room}
use Rattle.doc_board.specs.State.{State, book_on}
use Rattle.doc_board.specs.Steps.{with_entry}
use Rattle.board_steps.specs.declared.retry.Ready.{Ready}
use Rattle.board_steps.specs.declared.retry.Retried.{Retried}
use Rattle.board_steps.specs.declared.retry.Retried.TheVariants as retried
use Rattle.board_steps.specs.After.{IsAsBefore}
use Rattle.board_steps.specs.Retry.{FitsReady, IsHeldReady, IsHeldStored, IsMade, IsReady, IsSpent, IsTriedAgain}
use Rattle.board_steps.proofs.SameBoards.{extends_still, last_still}

-- ---- a number at which an entry may be stored stands past the log

has_entry : (log : List Entry) (place : ℕ) → place < length log → slice_get log place ≡ None → ⊥
has_entry [] place low none = omega (arith, low)
has_entry (e ∷ log) zero low none = cc
has_entry (e ∷ log) (suc place) low none = has_entry log place (omega (arith, low)) none

none_first : (a b : Option Entry) → entry_or a b ≡ None → a ≡ None
none_first None b none = refl
none_first (Some e) b none = absurd cc

past_by : (log : List Entry) (waiting : List Waiting) (place : ℕ) → book_with log waiting (suc place) ≡ None → (place < length log) ⊎ (length log ≤ place) → length log < suc place
past_by log waiting place none (inl low) = absurd (has_entry log place low (none_first (slice_get log place) (waiting_at waiting (suc place)) none))
past_by log waiting place none (inr past) = omega (arith, past)

pub past_log : (log : List Entry) (waiting : List Waiting) (number : ℕ) → MayStore log waiting number → length log < number
past_log log waiting zero may = absurd (omega (arith, may.0))
past_log log waiting (suc place) may = past_by log waiting place may.1 (cases_lt place (length log))

-- ---- boards with the same log, the same that waits and the same rooms

pub held_still : (s m : State) (c : Ready) → IsAsBefore s m → IsHeldReady s c → IsHeldReady m c
held_still s m c same h = let book : book_on m ≡ book_on s = λ i. book_with (same.log i) (same.pending i) in record {
  is_entry = h.is_entry;
  document = h.document;
  at = h.at ∙ sym (ap (λ (es : List Entry). length es) same.log);
  base = h.base ∙ last_still s m c.entry.doc same.log same.pending;
  extends = extends_still s m c.entry c.tree same.log same.pending h.extends;
  entries = subst (λ (b : Book). AreEntries b) (sym book) h.entries;
}

pub fits_ready : (s : State) (program : Program) (by : Option (List ℕ)) (r : Revision) (room : RoomFor) (c : Ready) → IsMade s program by r c → room.doc ≡ Some r.doc → bytes_of r ≤ room.bytes → FitsReady room c
fits_ready s program by r room c made doc bytes = record {
  doc = doc ∙ ap (λ (d : List ℕ). Some d) (sym made.is_write.doc);
  bytes = omega (arith, bytes, ap (λ (b : List ℕ). length b) made.is_write.body);
}

pub may_still : (s m : State) (number : ℕ) → IsAsBefore s m → MayStore s.log s.pending number → MayStore m.log m.pending number
may_still s m number same may =
    (may.0, ap (λ (es : List Entry). book_with es m.pending number) same.log ∙ ap (λ (ws : List Waiting). book_with s.log ws number) same.pending ∙ may.1)

spent_still : (s m t : State) (room : Room) (number : Number) (e : Entry) → IsAsBefore s m → IsSpent m t room number e → IsSpent s t room number e
spent_still s m t room number e same spent = record {
  book = spent.book ∙ (λ i. with_entry number.value e (book_with (same.log i) (same.pending i)));
  stored = spent.stored
      ∙ ap (λ (es : List Entry). release es (put_waiting (record { number = number.value; entry = e }) m.pending)) same.log
      ∙ ap (λ (ws : List Waiting). release s.log (put_waiting (record { number = number.value; entry = e }) ws)) same.pending;
  rooms = spent.rooms ∙ ap (λ (rooms : List RoomFor). without_room room.made_for rooms) same.rooms;
  checkpoints = spent.checkpoints ∙ same.checkpoints;
}

pub stored_again : (s m t : State) (program : Program) (strict : Bool) (by : Option (List ℕ)) (r : Revision) (room : Room) (number : Number) (c : Ready) (result : Retried)
    → IsAsBefore s m → IsReady s program strict by r c → IsHeldStored m t room number c result → IsTriedAgain s t program strict by r room number result
stored_again s m t program strict by r room number c (retried.Answered answer) same ready (is, above, spent) =
    inl (record { ready = c; is_ready = ready; above = above; answered = is; spent = spent_still s m t room number (kinds.Write c.entry) same spent })
stored_again s m t program strict by r room number c (retried.Overtaken given held back) same ready (a, b, is, above, after) = (
  a,
  b,
  record {
    is_ready = subst (λ (x : Ready). IsReady s program strict by r x) (sym is) ready;
    above = subst (λ (x : Ready). number.value ≤ x.base) (sym is) above;
    same = record { log = after.log ∙ same.log; pending = after.pending ∙ same.pending; rooms = after.rooms ∙ same.rooms; checkpoints = after.checkpoints ∙ same.checkpoints };
  },
)
