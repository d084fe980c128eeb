-- The replies to offered revisions.
use Rattle.std.specs.Prelude.{ℕ, Bool, true, false, ◌&&◌, ◌||◌, not, List, [], map, Option, Some, None, if◌then◌else◌}
use Rattle.blip_frame.specs.declared.payload.Payload.{Payload}
use Rattle.rev_tree.specs.declared.leaf.Leaf.{Leaf}
use Rattle.serde_json.specs.Data.{Data, array, number, string, unsigned}
use Rattle.serde_json.specs.View.{items_of}
use Rattle.serde_json.specs.Written.{compact_text}
use Rattle.sg_names.specs.RevId.{rev_text}
use Rattle.sg_names.specs.declared.rev_id.RevId.{RevId}
use Rattle.repl_messages.specs.declared.offers.OfferAnswer.{OfferAnswer}

-- the texts of revisions
abbrev pub revs_data : List RevId → Data
revs_data revs = array (items_of (map (λ r. string (rev_text r)) revs))

-- to `changes`: 0 where the revision is known, else the leaves from which it may descend
abbrev pub change_data : OfferAnswer → Data
change_data a = if a.known then number (unsigned 0) else revs_data a.ancestors

-- whether a document is not there: it has no winner, or a deleted one
abbrev pub is_absent : Option Leaf → Bool
is_absent None = true
is_absent (Some leaf) = leaf.deleted

-- to `proposeChanges`: 304 where the revision is known; 0 where its parent is the winner, or it has none and the document is not there; else 409
abbrev pub proposal_status : OfferAnswer → ℕ
proposal_status a = if a.known then 304 else if a.parent_wins || (not a.parent && is_absent a.winner) then 0 else 409

abbrev pub answer_data : Bool → OfferAnswer → Data
answer_data true a = number (unsigned (proposal_status a))
answer_data false a = change_data a

-- one item for each offer, in their order
abbrev pub answers_data : Bool → List OfferAnswer → Data
answers_data proposed answers = array (items_of (map (λ a. answer_data proposed a) answers))

-- no properties, and the items as JSON with no space
abbrev pub answers_payload : List OfferAnswer → Bool → Payload
answers_payload answers proposed = record { props = []; body = compact_text (answers_data proposed answers) }
