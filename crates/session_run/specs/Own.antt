-- The bodies that a session puts.
use Rattle.std.specs.Prelude.{◌≡◌, ◌⊎◌, ℕ, true, List, [], ◌∷◌, take, codes, Some, None}
use Rattle.blip_frame.specs.Props.{value_at}
use Rattle.blip_mux.specs.declared.message.Message.{Message}
use Rattle.sg_history.specs.declared.entries.Entry.{Entry}
use Rattle.sg_history.specs.declared.entries.Write.{Write}
use Rattle.sg_history.specs.declared.row.Row.{Row}
use Rattle.sg_history.specs.Book.{book_of}
use Rattle.sg_history.specs.History.{past}
use Rattle.sg_history.specs.View.{view}
use Rattle.rev_tree.specs.declared.tree.Node.{Node}
use Rattle.rev_tree.specs.Documents.{trees_up_to}
use Rattle.rev_tree.specs.Tree.{ancestors_of}
use Rattle.repl_messages.specs.declared.looks.Bodies.{Bodies}
use Rattle.repl_messages.specs.Looks.{SeenUpTo, winning_write, said_by, left_by_write}
use Rattle.repl_messages.specs.Rev.{rev_payload}
use Rattle.session_core.specs.declared.event.Event.TheVariants as event
use Rattle.session_core.specs.Acts.{removed_body}
use Rattle.session_core.specs.Running.{Running}
use Rattle.session_core.specs.State.{Machine}
use Rattle.session_core.specs.Steps.{SessionStep, Leads}

-- a message that carries a body
abbrev pub IsRev : Message → Type 0
IsRev m = value_at m.payload.props (codes "Profile") ≡ Some (codes "rev")

-- the row is one of these
abbrev pub IsAmong : Row → List Row → Type 0
IsAmong row [] = ⊥
IsAmong row (first ∷ rows) = (row ≡ first) ⊎ IsAmong row rows

-- the message is the current revision of a document whose row is on offer, with its body and that revision's first ancestors in the
-- document's tree, and is what the feed's filter shows to the user
pub record IsShown (es : List Entry) (trees : List ℕ → List Node) (user : List ℕ) (r : Running) (m : Message) : Type 0 where
  pub row : Row
  pub on_offer : IsAmong row (take r.batch r.rows)
  pub most : ℕ
  pub write : Write
  pub payload : m.payload ≡ rev_payload row (ancestors_of (trees row.doc) write.rev most) write.body
  pub shown : view es user r.options.filter row.doc ≡ Some (said_by row)
  pub winner : winning_write es row.doc ≡ Some write
  pub revision : write.rev ≡ row.rev

-- the message says that a document whose row is on offer was removed, which left by a write of its own and is not shown to the user by
-- the feed's filter
pub record IsRemoval (es : List Entry) (user : List ℕ) (r : Running) (m : Message) : Type 0 where
  pub row : Row
  pub on_offer : IsAmong row (take r.batch r.rows)
  pub payload : m.payload ≡ rev_payload row [] removed_body
  pub left : left_by_write row.bits ≡ true
  pub gone : view es user r.options.filter row.doc ≡ None

-- each of these messages that carries a body carries one that is shown to the user, or says that a document was removed
abbrev pub AreOwn : List Entry → (List ℕ → List Node) → List ℕ → Running → List Message → Type 0
AreOwn es trees user r [] = Unit {0}
AreOwn es trees user r (m ∷ messages) = (IsRev m → IsShown es trees user r m ⊎ IsRemoval es user r m) × AreOwn es trees user r messages

-- none of these messages carries a body
abbrev pub CarryNone : List Message → Type 0
CarryNone [] = Unit {0}
CarryNone (m ∷ messages) = (IsRev m → ⊥) × CarryNone messages

-- at the look by which the bodies of rows on offer were answered, by the history at its front and by the documents' trees as they were
-- seen, no less than up to that front
pub record OwnAt (h : List Entry) (user : List ℕ) (before : Machine) (s : SessionStep) : Type 0 where
  pub feed : Running
  pub runs : before.feed ≡ Some feed
  pub answer : Bodies
  pub answered : s.event ≡ event.Bodies answer
  pub numbers : List ℕ → ℕ
  pub seen : SeenUpTo (past h answer.front) numbers
  pub own : AreOwn (past h answer.front) (trees_up_to (book_of h) numbers) user feed s.puts

-- a step puts no body but the user's own, as the feed that runs shows them
abbrev pub HasOwnBodies : List Entry → List ℕ → Machine → SessionStep → Type 0
HasOwnBodies h user before s = CarryNone s.puts ⊎ OwnAt h user before s

-- the same of each of these steps, which lead on from one state; the last step is the first of the list
abbrev pub HaveOwnBodies : List Entry → List ℕ → Machine → List SessionStep → Type 0
HaveOwnBodies h user start [] = Unit {0}
HaveOwnBodies h user start (s ∷ earlier) =
    ((before : Machine) × Leads start earlier before × HasOwnBodies h user before s) × HaveOwnBodies h user start earlier
