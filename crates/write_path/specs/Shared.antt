-- What a ground that others share has of its gate, and what its calls make of what its pass knows.
use Rattle.std.specs.Prelude.{◌≡◌, ◌⊎◌, ◌≤◌, ◌<◌, ◌+◌, ℕ, Bool, true, false, List, [], ◌∷◌, ◌++◌, length, Option, Some, None}
use Rattle.atomic_table.specs.Seated.{TableId}
use Rattle.sg_history.specs.declared.entries.Entry.TheVariants.{Unused, Write as WriteEntry}
use Rattle.sg_history.specs.declared.entries.Write.{Write}
use Rattle.sg_history.specs.Board.{BoardState, After, IsAfterAll, board_book}
use Rattle.seq_gate.specs.Passes.{share}
use Rattle.seq_gate.specs.Rule.{spent}
use Rattle.seq_gate.specs.Views.{PassView}
use Rattle.seq_gate.specs.declared.known.Known.{Known}
use Rattle.doc_board.specs.declared.outcome.Outcome.{Outcome}
use Rattle.doc_board.specs.declared.outcome.Outcome.TheVariants as outcome
use Rattle.write_path.specs.Origins.{Origin}

-- the gate, and what the pass knows
pub record Shared : Type 0 where
  pub gate : TableId
  pub knows : Known

-- its draws come from its gate
abbrev pub shared_origin : Shared → Origin
shared_origin g = record { gate = Some g.gate; draws = share g.knows }

-- a pass holds no number and no room
pub record Rests (p : Known) : Type 0 where
  pub held : p.held ≡ []
  pub rooms : p.rooms ≡ []

-- the pass that a ground has between its calls is of its gate, and rests
abbrev pub IsPassOf : TableId → Option PassView → Type 0
IsPassOf gate None = ⊥
IsPassOf gate (Some pass) = (pass.gate ≡ gate) × Rests pass.knows

-- what it knows
abbrev pub knows_of : Option PassView → Known
knows_of None = spent.knows
knows_of (Some pass) = pass.knows

-- ---- one turn

-- a pass took a turn, in which it found one board and left another, and drew nothing
pub record IsTurn (before after : Known) (found left : BoardState) : Type 0 where
  pub read : after.read ≡ left ∷ found ∷ before.read
  pub later : IsAfterAll before.read found
  pub next : After found left
  pub least : before.lowest_front ≤ length found.log
  pub lowest : after.lowest_front ≡ length left.log
  pub left_is : after.left ≡ before.left
  pub made : after.made ≡ before.made
  pub in_turns : after.in_turns ≡ before.in_turns

-- a pass that rests took a turn in which it left the board as it found it
pub record IsLookTurn (before after : Known) (found : BoardState) : Type 0 where
  pub turn : IsTurn before after found found
  pub own : after.own ≡ before.own
  pub rests : Rests after

-- ---- draws in turns

-- in a turn a number was given up, above which the board that was found has a write of the document
pub record IsOvertaken (found left : BoardState) (doc : List ℕ) : Type 0 where
  pub number : ℕ
  pub free : board_book found number ≡ None
  pub given_up : board_book left number ≡ Some Unused
  pub last : ℕ
  pub above : number < last
  pub write : Write
  pub written : board_book found last ≡ Some (WriteEntry write)
  pub same : write.doc ≡ doc

-- one number was drawn in a turn, the last that was taken, in which another was given up for it
pub record IsDrawnInTurn (before after : Known) (doc : List ℕ) : Type 0 where
  pub once : after.in_turns ≡ before.in_turns + 1
  pub found : BoardState
  pub left : BoardState
  pub older : List BoardState
  pub read : after.read ≡ left ∷ found ∷ older ++ before.read
  pub overtaken : IsOvertaken found left doc

-- no number was drawn in a turn, or one for this reason
abbrev pub MayDrawInTurn : Known → Known → List ℕ → Type 0
MayDrawInTurn before after doc = (after.in_turns ≡ before.in_turns) ⊎ IsDrawnInTurn before after doc

-- ---- outcomes

-- whether an outcome may come without a turn: where the revision itself is refused, or memory is short
abbrev pub needs_no_turn : Outcome → Bool
needs_no_turn (outcome.Bad400 field) = true
needs_no_turn (outcome.TooLarge413 bytes) = true
needs_no_turn outcome.Memory507 = true
needs_no_turn other = false
