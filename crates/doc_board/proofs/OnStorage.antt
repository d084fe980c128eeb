-- what a storage is once a room of its board ended, with fewer places, and once the entries that come next are moved
use Rattle.std.proofs.Common.{◌≡◌, ◌≢◌, ◌≤◌, ◌∙◌, ◌⊎◌, inl, inr, ℕ, Bool, false, true≢false, Result, Ok, Err, List, nat_eq, ap, subst, sym}
use Rattle.std.specs.Prelude.{not, OnErr}
use Rattle.std.proofs.lemmas.Bool.{cases_eq, ne_eqb}
use Rattle.std.specs.HashMap.{get, spare}
use Rattle.sg_history.specs.declared.book.Waiting.{Waiting}
use Rattle.sg_history.specs.declared.entries.Entry.{Entry}
use Rattle.sg_history.specs.Book.{book_with}
use Rattle.sg_history.specs.World.{Released, release}
use Rattle.doc_board.specs.declared.storage.Storage.{Storage}
use Rattle.doc_board.specs.State.{State, book_on}
use Rattle.doc_board.specs.Storage.{StandsWith, book_in}
use Rattle.doc_board.proofs.SameOn.{same_on}
use Rattle.doc_board.proofs.Steps.{fewer}

pub fewer_in : (s : Storage) (more less : ℕ) → less ≤ more → StandsWith s more → StandsWith s less
fewer_in s more less low it = fewer s.log.entries s.pending s.documents (get nat_eq s.bases) (spare s.bases) s.rooms s.stored more less low it

-- what holds of a board's log and of what waits holds of a storage with these
pub holds_in : (P : List Entry → List Waiting → Type 0) (now : State) (s : Storage) → s.log.entries.list ≡ now.log → s.pending.waiting ≡ now.pending
    → P now.log now.pending → P s.log.entries.list s.pending.waiting
holds_in P now s log waiting it = subst (λ (es : List Entry). P es s.pending.waiting) (sym log) (subst (λ (ws : List Waiting). P now.log ws) (sym waiting) it)

pub book_is : (now : State) (s : Storage) → s.log.entries.list ≡ now.log → s.pending.waiting ≡ now.pending → book_in s ≡ book_on now
book_is now s log waiting =
    same_on (λ log ws. book_with log ws) now (record { log = s.log.entries.list; pending = s.pending.waiting; rooms = now.rooms; checkpoints = now.checkpoints; known = now.known; reads = now.reads }) log waiting

-- those that come next are moved to a board's log
pub released_on : (log : List Entry) (ws : List Waiting) (put new : Storage) → put.log.entries.list ≡ log → put.pending.waiting ≡ ws
    → ◌≡◌ {A = Released} (record { log = new.log.entries.list; pending = new.pending.waiting }) (release put.log.entries.list put.pending.waiting)
    → ◌≡◌ {A = Released} (record { log = new.log.entries.list; pending = new.pending.waiting }) (release log ws)
released_on log ws put new is waits moved = moved ∙ ap (λ (es : List Entry). release es put.pending.waiting) is ∙ ap (λ (w : List Waiting). release log w) waits

-- a base that is not stale is the last write
pub current_base : (base last : ℕ) → not (nat_eq base last) ≡ false → base ≡ last
current_base base last h = go (cases_eq base last)
  where
    go : (base ≡ last) ⊎ (base ≢ last) → base ≡ last
    go (inl same) = same
    go (inr ne) = absurd (true≢false (sym (ap (λ (b : Bool). not b) (ne_eqb base last ne)) ∙ h))

-- what holds whatever a result is holds where it is an error
pub on_err_given : {T E : Type 0} (r : Result T E) (P : Type 0) → P → OnErr r P
on_err_given (Ok x) P it = tt
on_err_given (Err e) P it = it
