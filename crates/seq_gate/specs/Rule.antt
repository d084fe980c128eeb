-- The rule of a gate. Word 0 is the last number that was drawn, word 1 counts tickets, word 2 is the ticket that is served, and
-- word 3 is the front, the length of the board's log. The slot has the board, or nothing.
use Rattle.std.specs.Prelude.{◌≡◌, ◌⊎◌, ◌<◌, ◌≤◌, ◌+◌, ◌^◌, ◌%◌, ℕ, nat_eq, true, false, List, [], ◌∷◌, length, Option, Some, None, IsTrue}
use lib.ListN.{get_elem?}
use mathlib.Core.Option.{some}
use Rattle.atomic_table.specs.Table.{State}
use Rattle.sg_history.specs.declared.room.RoomFor.{RoomFor}
use Rattle.sg_history.specs.Board.{BoardState, board_book, IsAfterAll}
use Rattle.sg_history.specs.History.{Extends}
use Rattle.sg_history.specs.World.{once_among, rises_from}
use Rattle.sg_history.specs.Rooms.{room_times}
use Rattle.seq_gate.specs.Boards.{HasAll}
use Rattle.seq_gate.specs.Counts.{count_once, times, numbers, stands, below, total}
use Rattle.seq_gate.specs.Passes.{first_pass, share, owed_count}
use Rattle.seq_gate.specs.declared.known.Known.{Known}
use Rattle.seq_gate.specs.declared.known.View.{View}

-- how often a number is the ticket that a view has, if it has one
abbrev pub is_ticket : ℕ → Option ℕ → ℕ
is_ticket k None = 0
is_ticket k (Some n) = count_once (nat_eq n k)

-- one where there is one
abbrev pub one_if_some : {X : Type 0} → Option X → ℕ
one_if_some None = 0
one_if_some (Some x) = 1

-- a view that knows this, and neither waits nor is in turn
abbrev pub idle : Known → View
idle p = record { knows = p; ticket = None; found = None; back = false }

abbrev pub first_view : BoardState → View
first_view board = idle (first_pass board)

-- a view that was joined
abbrev pub spent : View
spent =
    idle
    record { opening = 0; left = 0; made = 0; in_turns = 0; held = []; seen = []; lowest_front = 0; rooms = []; read = []; own = [] }

-- what the rule says of one view, with the board in the slot or, while that is empty, as it was found
pub record Fits (opening served : ℕ) (last : BoardState) (v : View) : Type 0 where
  pub opened : 0 < share v.knows → v.knows.opening ≡ opening
  pub part : (2 ^ 32 ≤ share v.knows) ⊎ (v ≡ spent)
  -- what it has seen is a beginning of the log, no longer than its lowest front, which the log is no shorter than
  pub seen : Extends v.knows.seen last.log
  pub lowest_front : length v.knows.seen ≤ v.knows.lowest_front
  pub front : v.knows.lowest_front ≤ length last.log
  pub read : IsAfterAll v.knows.read last
  pub own : HasAll last v.knows.own
  -- the one in turn has the ticket that is served, and found this board
  pub turn : (board : BoardState) → v.found ≡ Some board → (v.ticket ≡ Some served) × (board ≡ last)
  pub back : v.back ≡ true → v.ticket ≡ Some served

-- what it says of all together, with the last number drawn, the tickets given and those served
pub record Sums (opening n given served : ℕ) (last : BoardState) (views : List View) : Type 0 where
  pub shares : total (λ v. share v.knows) views ≡ 2 ^ 62
  pub opened : opening ≤ 2 ^ 62
  pub grown : opening ≤ length last.log
  pub draws : n ≡ opening + total (λ v. v.knows.made) views
  -- each ticket that was given was served, or is that of exactly one view
  pub tickets : (k : ℕ) → below k served + total (λ v. is_ticket k v.ticket) views ≡ below k given
  pub queued : served + total (λ v. one_if_some v.ticket) views ≡ given
  -- each of 1 to n is exactly one of: a number at which the board has an entry, and one that one view holds
  pub world : (k : ℕ) → stands (board_book last k) + total (λ v. times k v.knows.held) views ≡ once_among k n
  pub waiting : IsTrue (rises_from (length last.log + 1) last.pending)
  -- each room that is outstanding is that of one view
  pub rooms : (room : RoomFor) → total (λ v. room_times room v.knows.rooms) views ≡ room_times room last.rooms
  -- each entry beyond the opening ones, sequences given up apart, is an own one of exactly one view
  pub owners : (k : ℕ) → total (λ v. times k (numbers v.knows.own)) views ≡ owed_count opening last k

pub record IsSound {B : Type 0} (seen : B → BoardState) (opening : ℕ) (s : State (Option B) View) : Type 0 where
  pub n : ℕ
  pub given : ℕ
  pub served : ℕ
  -- the board in the slot, or as it was found by the view in turn
  pub last : BoardState
  pub words : s.words ≡ n ∷ given % 2 ^ 64 ∷ served % 2 ^ 64 ∷ length last.log ∷ []
  pub homes : length s.homes ≡ 1
  pub fits : (k : ℕ) (v : View) → get_elem? s.views k ≡ some v → Fits opening served last v
  pub sums : Sums opening n given served last s.views
  pub home : total (λ v. one_if_some v.found) s.views ≡ 0 → (board : B) × (get_elem? s.homes 0 ≡ some (some (Some board))) × (seen board ≡ last)
