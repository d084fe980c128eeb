-- What each step on a word does to a view, and what it answers.
use Rattle.std.specs.Prelude.{◌≡◌, ◌≢◌, ◌≤◌, ◌^◌, ◌%◌, ℕ, suc, true, false, [], ◌∷◌, Option, Some, None}
use Rattle.atomic_table.specs.Table.{Step, Me}
use Rattle.sg_history.specs.Board.{BoardState}
use Rattle.seq_gate.specs.Passes.{share, drawn, drawn_in_turn, with_lowest_front, after_turn, split_from, split_off, joined_passes, HasEachOnce, IsNew, IsAboveBook, Finds}
use Rattle.sg_history.specs.Board.{board_book}
use Rattle.seq_gate.specs.declared.known.Known.{Known}
use Rattle.seq_gate.specs.declared.known.View.{View}

-- a view that knows this now
abbrev pub knowing : View → Known → View
knowing v p = record v { knows = p }

abbrev pub ticketed : View → ℕ → View
ticketed v n = record v { ticket = Some n }

abbrev pub in_turn : View → BoardState → View
in_turn v found = record v { found = Some found }

-- the board is back, and the turn not passed on yet
abbrev pub leaving : View → BoardState → BoardState → View
leaving v found left = record v { knows = after_turn v.knows found left; found = None; back = true }

-- what it is then, of a pass with this ticket
abbrev pub passing : Known → ℕ → View
passing p ticket = record { knows = p; ticket = Some ticket; found = None; back = true }

abbrev pub passed : View → View
passed v = record v { ticket = None; back = false }

module _ {B : Type 0} where
  -- a draw outside of turns, and in one
  abbrev pub Draws : Step (Option B) → Me (Option B) View → ℕ → Me (Option B) View → Type 0
  Draws step before found after =
      (after ≡ (knowing before.0 (drawn before.0.knows (suc found)), before.1)) × IsNew before.0.knows (suc found)

  abbrev pub DrawsInTurn : Step (Option B) → Me (Option B) View → ℕ → Me (Option B) View → Type 0
  DrawsInTurn step before found after =
      (after ≡ (knowing before.0 (drawn_in_turn before.0.knows (suc found)), before.1)) × IsNew before.0.knows (suc found)
      × ((board : BoardState) → before.0.found ≡ Some board → IsAboveBook (suc found) (board_book board))

  abbrev pub TakesTicket : Step (Option B) → Me (Option B) View → ℕ → Me (Option B) View → Type 0
  TakesTicket step before found after = (n : ℕ) × (found ≡ n % 2 ^ 64) × (after ≡ (ticketed before.0 n, before.1))

  -- the ticket that is served is loaded: where it is one's own, the turn has come
  abbrev pub Looks : (B → BoardState) → Step (Option B) → Me (Option B) View → ℕ → Me (Option B) View → Type 0
  Looks seen step before found after = (n : ℕ) → before.0.ticket ≡ Some n
      → (found ≡ n % 2 ^ 64 → (board : B) × Finds before.0.knows (seen board) × (after ≡ (in_turn before.0 (seen board), (0, Some board) ∷ before.1)))
      × (found ≢ n % 2 ^ 64 → after ≡ before)

  -- the front is raised with the board back
  abbrev pub Raises : (B → BoardState) → Step (Option B) → Me (Option B) View → ℕ → Me (Option B) View → Type 0
  Raises seen step before found after = (left : B) (board : BoardState) → before.1 ≡ (0, Some left) ∷ [] → before.0.found ≡ Some board
      → after ≡ (leaving before.0 board (seen left), [])

  abbrev pub Passes : Step (Option B) → Me (Option B) View → ℕ → Me (Option B) View → Type 0
  Passes step before found after = after ≡ (passed before.0, before.1)

  -- the front is loaded
  abbrev pub LoadsFront : Step (Option B) → Me (Option B) View → ℕ → Me (Option B) View → Type 0
  LoadsFront step before found after =
      (after ≡ (knowing before.0 (with_lowest_front before.0.knows found), before.1)) × (before.0.knows.lowest_front ≤ found)

  -- a view learns that it has no more draws than there are, and no number twice
  abbrev pub LoadsShare : Step (Option B) → Me (Option B) View → ℕ → Me (Option B) View → Type 0
  LoadsShare step before found after = (after ≡ before) × (share before.0.knows ≤ 2 ^ 62) × HasEachOnce before.0.knows

-- views that are split and joined
abbrev pub view_split_from : View → View
view_split_from v = knowing v (split_from v.knows)

abbrev pub view_split_off : View → View
view_split_off v = record { knows = split_off v.knows; ticket = None; found = None; back = false }

abbrev pub view_joined : View → View → View
view_joined v other = knowing v (joined_passes v.knows other.knows)
