-- what a second try leaves
use Rattle.std.proofs.Common.{slice_get, ◌≡◌, ◌≢◌, ◌<◌, ◌≤◌, ◌∙◌, ◌⊎◌, inl, inr, ℕ, zero, suc, Bool, true, List, [], ◌∷◌, length, Option, Some, None, refl, sym, ap, subst, arith, if◌then◌else◌}
use Rattle.std.specs.Prelude.{IsTrue}
use Rattle.sg_names.specs.Grammar.{is_doc_id}
use Rattle.sg_names.specs.RevId.{is_rev}
use Rattle.sg_names.specs.Revs.{is_revs}
use Rattle.sg_names.specs.declared.rev_id.RevId.{RevId}
use Rattle.doc_board.specs.Outcomes.{IsWellFormed}
use Rattle.doc_board.specs.Recorded.{HasDocument}
use Rattle.std.proofs.lemmas.Bool.{cases_lt, ne_eqb}
use Rattle.sg_history.specs.declared.book.Waiting.{Waiting}
use Rattle.sg_history.specs.declared.entries.Entry.{Entry}
use Rattle.sg_history.specs.declared.entries.Entry.TheVariants as kinds
use Rattle.sg_history.specs.declared.number.Number.{Number}
use Rattle.sg_history.specs.declared.room.RoomFor.{RoomFor}
use Rattle.sg_history.specs.Book.{book_with, entry_or, waiting_at}
use Rattle.sg_history.specs.World.{Released, release, put_waiting}
use Rattle.pending_front.specs.Storing.{MayStore}
use Rattle.rev_tree.specs.Documents.{last_in, tree_in}
use Rattle.repl_messages.specs.declared.revision.Revision.{Revision}
use Rattle.sync_syntax.specs.declared.tree.Program.{Program}
use Rattle.doc_board.specs.declared.room.Room.{Room}
use Rattle.doc_board.specs.declared.candidate.Candidate.{Candidate}
use Rattle.doc_board.specs.declared.candidate.Candidate.TheVariants.{Write}
use Rattle.doc_board.specs.Candidates.{ExtendsTree}
use Rattle.doc_board.specs.Judging.{body_or_empty}
use Rattle.doc_board.specs.Lawful.{AreEntries}
use Rattle.doc_board.specs.Rooms.{is_outstanding, room_for}
use Rattle.doc_board.specs.State.{State, last_on, top_of}
use Rattle.doc_board.specs.Steps.{history_on, stored_at}
use Rattle.board_steps.specs.declared.retry.Ready.{Ready}
use Rattle.board_steps.specs.declared.retry.Retried.{Retried}
use Rattle.board_steps.specs.declared.retry.Retried.TheVariants.{Answered, Overtaken}
use Rattle.board_steps.specs.Retry.{FitsReady, IsHeldReady, IsTriedAgain}
use Rattle.tests_of_boards.specs.inner.Again.{IsReadyAfter, Leaves}

-- a body `{}` has two bytes
pub small_document : (body : List ℕ) → body ≡ 123 ∷ 125 ∷ [] → length (body_or_empty body) ≤ 2
small_document body is = subst (λ (b : List ℕ). length (body_or_empty b) ≤ 2) (sym is) (omega arith)

-- a revision without ancestors whose body is `{}`
pub well_formed : (r : Revision) → IsTrue (is_doc_id r.doc) → IsTrue (is_rev r.rev) → r.ancestors ≡ [] → r.body ≡ 123 ∷ 125 ∷ [] → HasDocument r.body → IsWellFormed r
well_formed r doc rev ancestors body document = record {
  named = record { doc = doc; rev = rev; history = subst (λ (rs : List RevId). IsTrue (is_revs rs)) (sym ancestors) refl };
  size = omega (arith, ap (λ (b : List ℕ). length b) body);
  body = document;
}

same_stored : (s between t : State) (number at : ℕ) (e : Entry) → between.log ≡ s.log → between.pending ≡ s.pending → at ≡ number → history_on t ≡ stored_at between at e → history_on t ≡ stored_at s number e
same_stored s between t number at e log pending same is =
    is ∙ ap (λ (es : List Entry). release es (put_waiting (record { number = at; entry = e }) between.pending)) log
    ∙ ap (λ (ws : List Waiting). release s.log (put_waiting (record { number = at; entry = e }) ws)) pending
    ∙ ap (λ (n : ℕ). release s.log (put_waiting (record { number = n; entry = e }) s.pending)) same

ready_still : (s t : State) (c : Ready) → t.log ≡ s.log → t.pending ≡ s.pending → IsHeldReady s c → IsHeldReady t c
ready_still s t c log pending is = record {
  is_entry = is.is_entry;
  document = is.document;
  at = is.at ∙ ap (λ (es : List Entry). length es) (sym log);
  base = is.base ∙ ap (λ (es : List Entry). last_in (book_with es s.pending) (top_of es s.pending) c.entry.doc) (sym log)
      ∙ ap (λ (ws : List Waiting). last_in (book_with t.log ws) (top_of t.log ws) c.entry.doc) (sym pending);
  extends = subst (λ (ws : List Waiting). ExtendsTree (tree_in (book_with t.log ws) (top_of t.log ws) c.entry.doc) c.entry c.tree) (sym pending)
      (subst (λ (es : List Entry). ExtendsTree (tree_in (book_with es s.pending) (top_of es s.pending) c.entry.doc) c.entry c.tree) (sym log) is.extends);
  entries = subst (λ (ws : List Waiting). AreEntries (book_with t.log ws)) (sym pending) (subst (λ (es : List Entry). AreEntries (book_with es s.pending)) (sym log) is.entries);
}

-- of a try in a room that was made for the revision
pub leaves : (s between t : State) (program : Program) (strict : Bool) (by : Option (List ℕ)) (r : Revision) (room : Room) (held : Number) (number : ℕ) (tried : Retried)
    → between.log ≡ s.log → between.pending ≡ s.pending → held.value ≡ number → room.made_for ≡ room_for (Some r.doc) 2 → length (body_or_empty r.body) ≤ 2
    → IsTrue (is_outstanding between.rooms room.made_for) → IsTriedAgain between t program strict by r room held tried → Leaves s t number tried
leaves s between t program strict by r room held number (Answered answer) log pending same made small out (inl is) =
    (kinds.Write is.ready.entry, same_stored s between t number held.value (kinds.Write is.ready.entry) log pending same is.spent.stored)
leaves s between t program strict by r room held number (Answered answer) log pending same made small out (inr is) =
    (kinds.Unused, same_stored s between t number held.value kinds.Unused log pending same is.spent.stored)
leaves s between t program strict by r room held number (Overtaken given kept ready) log pending same made small out is = (
  ap (λ (n : Number). n.value) is.1 ∙ same,
  is.2.same.log ∙ log,
  is.2.same.pending ∙ pending,
  subst (λ (given_room : Room). is_outstanding t.rooms given_room.made_for ≡ true) (sym is.0) (subst (λ (rs : List RoomFor). is_outstanding rs room.made_for ≡ true) (sym is.2.same.rooms) out),
  subst (λ (given_room : Room). FitsReady given_room.made_for ready) (sym is.0) (record {
    doc = ap (λ (f : RoomFor). f.doc) made ∙ ap (λ (d : List ℕ). Some d) (sym is.2.is_ready.made.is_write.doc);
    bytes = omega (arith, small, ap (λ (b : List ℕ). length b) is.2.is_ready.made.is_write.body, ap (λ (f : RoomFor). f.bytes) made);
  }),
  ready_still between t ready is.2.same.log is.2.same.pending is.2.is_ready.made.held,
)

has_entry : (log : List Entry) (place : ℕ) → place < length log → slice_get log place ≡ None → ⊥
has_entry [] place low none = omega (arith, low)
has_entry (e ∷ log) zero low none = cc
has_entry (e ∷ log) (suc place) low none = has_entry log place (omega (arith, low)) none

none_first : (a b : Option Entry) → entry_or a b ≡ None → a ≡ None
none_first None b none = refl
none_first (Some e) b none = absurd cc

past_by : (log : List Entry) (waiting : List Waiting) (place : ℕ) → book_with log waiting (suc place) ≡ None → (place < length log) ⊎ (length log ≤ place) → length log < suc place
past_by log waiting place none (inl low) = absurd (has_entry log place low (none_first (slice_get log place) (waiting_at waiting (suc place)) none))
past_by log waiting place none (inr past) = omega (arith, past)

-- a number at which an entry may be stored stands past the log
pub past_log : (log : List Entry) (waiting : List Waiting) (number : ℕ) → MayStore log waiting number → length log < number
past_log log waiting zero may = absurd (omega (arith, may.0))
past_log log waiting (suc place) may = past_by log waiting place may.1 (cases_lt place (length log))

alone_free : (e : Entry) (number : ℕ) → 1 ≤ number → 4 ≢ number → MayStore [] (record { number = 4; entry = e } ∷ []) number
alone_free e zero from apart = absurd (omega (arith, from))
alone_free e (suc place) from apart = (from, ap (λ (b : Bool). if b then Some e else None) (ne_eqb 4 (suc place) apart))

-- where an entry waits at 4 alone, each other number is free
pub others_free : (s t : State) (e : Entry) → s.log ≡ [] → s.pending ≡ [] → history_on t ≡ stored_at s 4 e → (number : ℕ) → 1 ≤ number → 4 ≢ number → MayStore t.log t.pending number
others_free s t e log pending is number from apart =
    let waits : history_on t ≡ record { log = []; pending = record { number = 4; entry = e } ∷ [] } =
    is ∙ ap (λ (es : List Entry). release es (put_waiting (record { number = 4; entry = e }) s.pending)) log
    ∙ ap (λ (ws : List Waiting). release [] (put_waiting (record { number = 4; entry = e }) ws)) pending in
    subst (λ (r : Released). MayStore r.log r.pending number) (sym waits) (alone_free e number from apart)

-- a write that is handed back by a board that stays as it is may be stored there above its document's last write
pub handed_back : (s t : State) (room given : RoomFor) (c : Candidate) (r : Ready) (last : ℕ) → t ≡ s → given ≡ room → c ≡ Write r.entry r.tree 0
    → last ≡ last_on s r.entry.doc → FitsReady room r → IsHeldReady s r → IsReadyAfter t given last c
handed_back s t room given c r last same rooms back above fits held =
    subst (λ (d : Candidate). IsReadyAfter t given last d) (sym back)
    (subst (λ (f : RoomFor). IsReadyAfter t f last (Write r.entry r.tree 0)) (sym rooms)
    (subst (λ (u : State). IsReadyAfter u room last (Write r.entry r.tree 0)) (sym same) (
      record { doc = fits.doc; bytes = fits.bytes },
      record { is_entry = held.is_entry; document = held.document; at = held.at; base = above; extends = held.extends; entries = held.entries },
    )))
