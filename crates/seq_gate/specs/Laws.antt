-- What the rule of a gate is kept by, and what follows from it.
use Rattle.std.specs.Prelude.{◌≡◌, ◌<◌, ◌≤◌, ◌+◌, ◌^◌, ◌%◌, ℕ, max, List, [], ◌∷◌, ◌++◌, length, Option, Some}
use mathlib.Core.Option.{none, some}
use lib.ListN.{get_elem?}
use Rattle.atomic_table.specs.Table.{State, Allows, Splits, Joins, opening, step}
use Rattle.sg_history.specs.Board.{BoardState}
use Rattle.sg_history.specs.World.{World}
use Rattle.seq_gate.specs.Passes.{share, MayLeave, Closes}
use Rattle.seq_gate.specs.Rule.{IsSound, idle, first_view, spent}
use Rattle.seq_gate.specs.Turns.{ticketed, in_turn, passing, Draws, DrawsInTurn, TakesTicket, Looks, Raises, Passes, LoadsFront, LoadsShare, view_split_from, view_split_off, view_joined}
use Rattle.seq_gate.specs.declared.known.Known.{Known}
use Rattle.seq_gate.specs.declared.known.View.{View}

-- whatever a gate is that meets the rule when a step changes or reads a word, it meets it afterwards, and the step answers what it
-- is said to answer; a step that the slot takes part in takes the board or gives it back
pub record KeepsRule {B : Type 0} (seen : B → BoardState) (o slots id : ℕ) : Type 0 where
  -- one is added to the last number drawn, outside of a turn and in one
  pub draw : (v : View) (carried : List (ℕ × Option B)) → 0 < v.knows.left
      → Allows (IsSound seen o) slots id (v, carried) 0 (λ n. (n + 1) % 2 ^ 64) (Draws (step slots 0 1 0 none) (v, carried))
  pub draw_in_turn : (v : View) (carried : List (ℕ × Option B)) → 0 < v.knows.left
      → Allows (IsSound seen o) slots id (v, carried) 0 (λ n. (n + 1) % 2 ^ 64) (DrawsInTurn (step slots 0 1 0 none) (v, carried))
  -- one is added to the tickets
  pub take_ticket : (p : Known) → 2 ^ 32 ≤ share p
      → Allows (IsSound seen o) slots id (idle p, []) 1 (λ n. (n + 1) % 2 ^ 64) (TakesTicket (step slots 1 1 0 none) (idle p, []))
  -- the ticket that is served is loaded, and where it is one's own the board is taken
  pub look : (p : Known) (ticket : ℕ) → 2 ^ 32 ≤ share p
      → Allows (IsSound seen o) slots id (ticketed (idle p) ticket, []) 2 (λ n. n) (Looks seen (step slots 2 0 0 none) (ticketed (idle p) ticket, []))
  -- the front is raised to the length of the log of the board that is given back
  pub raise : (p : Known) (ticket : ℕ) (found : BoardState) (left : B) (front : ℕ)
      → front ≡ length (seen left).log → MayLeave p found (seen left) → 2 ^ 32 ≤ share p
      → Allows (IsSound seen o) slots id (in_turn (ticketed (idle p) ticket) found, (0, Some left) ∷ []) 3 (λ n. max n front) (Raises seen (step slots 3 front 0 none) (in_turn (ticketed (idle p) ticket) found, (0, Some left) ∷ []))
  -- one is added to the ticket that is served
  pub pass : (p : Known) (ticket : ℕ) → 2 ^ 32 ≤ share p
      → Allows (IsSound seen o) slots id (passing p ticket, []) 2 (λ n. (n + 1) % 2 ^ 64) (Passes (step slots 2 1 0 none) (passing p ticket, []))
  -- the front is loaded
  pub load_front : (p : Known) → 2 ^ 32 ≤ share p
      → Allows (IsSound seen o) slots id (idle p, []) 3 (λ n. n) (LoadsFront (step slots 3 0 0 none) (idle p, []))
  -- the last number drawn is loaded, for what it answers alone
  pub load_share : (v : View) (carried : List (ℕ × Option B))
      → Allows (IsSound seen o) slots id (v, carried) 0 (λ n. n) (LoadsShare (step slots 0 0 0 none) (v, carried))
  -- a pass is split, and takes in another
  pub split : (p : Known) → 2 ^ 33 ≤ p.left → Splits (IsSound seen o) id (idle p) (view_split_from (idle p)) (view_split_off (idle p))
  pub join : (other : ℕ) (p q : Known) → 2 ^ 32 ≤ share p
      → Joins (IsSound seen o) id (idle p) other (idle q) (view_joined (idle p) (idle q)) spent

-- a gate to a board at which nothing waits and no room is outstanding meets the rule
abbrev pub Opens : {B : Type 0} → (B → BoardState) → Type 0
Opens {B} seen =
    (board : B) → (seen board).pending ≡ [] → (seen board).rooms ≡ [] → length (seen board).log ≤ 2 ^ 62
    → IsSound seen (length (seen board).log) (opening (length (seen board).log ∷ 0 ∷ 0 ∷ length (seen board).log ∷ []) (Some board ∷ []) (first_view (seen board)))

-- where one pass has all draws, and holds no number and no room, the board is in the slot, and is what it must be
abbrev pub ClosesWhole : {B : Type 0} → (B → BoardState) → Type 0
ClosesWhole {B} seen =
    (o id : ℕ) (p : Known) (s : State (Option B) View) → IsSound seen o s → get_elem? s.views id ≡ some (idle p)
    → share p ≡ 2 ^ 62 → p.held ≡ [] → p.rooms ≡ []
    → (board : B) × (get_elem? s.homes 0 ≡ some (some (Some board))) × Closes p (seen board)

-- the numbers that views hold
abbrev pub all_held : List View → List ℕ
all_held [] = []
all_held (v ∷ others) = v.knows.held ++ all_held others

-- the world of a gate: the last number drawn, the numbers that passes hold, and the board's log and what waits
abbrev pub world_of_gate : ℕ → BoardState → List View → World
world_of_gate n last views = record { count = n; held = all_held views; pending = last.pending; log = last.log }
