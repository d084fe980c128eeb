-- Each step keeps what the rule says of all views together.
use Rattle.std.proofs.Common.{◌≡◌, ◌⊎◌, inl, inr, ◌≤◌, ◌+◌, ℕ, zero, suc, refl, sym, ap, ◌∙◌, arith, Bool, true, false, List, ◌++◌, length, length-append, set, Option, if◌then◌else◌}
use Rattle.std.specs.Prelude.{nat_lt, IsTrue}
use Rattle.std.proofs.lemmas.Bool.{ltb-false}
use mathlib.Core.Option.{some}
use lib.ListN.{get_elem?}
use Rattle.sg_history.specs.declared.book.Waiting.{Waiting}
use Rattle.sg_history.specs.declared.entries.Entry.{Entry}
use Rattle.sg_history.specs.declared.room.RoomFor.{RoomFor}
use Rattle.sg_history.specs.Board.{BoardState, board_book}
use Rattle.sg_history.specs.History.{Extends}
use Rattle.sg_history.specs.World.{once_among, rises_from}
use Rattle.sg_history.specs.Rooms.{room_times}
use Rattle.seq_gate.specs.Counts.{times, numbers, stands, count_used, below, total}
use Rattle.seq_gate.specs.Passes.{HasEachOnce, share, owed_count, stored_at, IsAboveBook, MayLeave}
use Rattle.seq_gate.specs.Rule.{is_ticket, one_if_some, Sums}
use Rattle.seq_gate.specs.Turns.{leaving}
use Rattle.seq_gate.specs.declared.known.View.{View}
use Rattle.seq_gate.proofs.Counting.{times-append, numbers-append, once_some, once_most, total_set, total_has}
use Rattle.seq_gate.proofs.Holding.{some_stands, in_log, used_most, moved, stored_once, stored_within}
use Rattle.seq_gate.proofs.Rooms.{room_times-append, without_all}

pub extends_length : (a b : List Entry) → Extends a b → length a ≤ length b
extends_length a b more = let l : length b ≡ length a + length more.0 = ap (λ (es : List Entry). length es) more.1 ∙ length-append a more.0 in omega (arith, l)

owed_most : (o : ℕ) (b : BoardState) (k : ℕ) → owed_count o b k ≤ 1
owed_most o b k = go (nat_lt o k) (used_most (board_book b k))
  where
    go : (t : Bool) → (count_used (board_book b k) ≡ 0) ⊎ (count_used (board_book b k) ≡ 1) → (if t then count_used (board_book b k) else 0) ≤ 1
    go true (inl z) = omega (arith, z)
    go true (inr one) = omega (arith, one)
    go false u = omega arith

-- what a step changes, where one view becomes another
pub record Moves (o n g sv : ℕ) (last : BoardState) (v : View) (m h t : ℕ) (now : BoardState) (w : View) : Type 0 where
  pub shares : share w.knows ≡ share v.knows
  pub draws : m + v.knows.made ≡ n + w.knows.made
  pub tickets : (k : ℕ) → below k t + below k g + is_ticket k w.ticket ≡ below k h + below k sv + is_ticket k v.ticket
  pub queued : t + g + one_if_some w.ticket ≡ h + sv + one_if_some v.ticket
  pub world : (k : ℕ) → stands (board_book now k) + once_among k n + times k w.knows.held ≡ once_among k m + stands (board_book last k) + times k v.knows.held
  pub waiting : IsTrue (rises_from (length now.log + 1) now.pending)
  pub grown : o ≤ length now.log
  pub rooms : (room : RoomFor) → room_times room last.rooms + room_times room w.knows.rooms ≡ room_times room now.rooms + room_times room v.knows.rooms
  pub owners : (k : ℕ) → owed_count o last k + times k (numbers w.knows.own) ≡ owed_count o now k + times k (numbers v.knows.own)

-- all that is counted of views is the same
pub record SameTotals (views others : List View) : Type 0 where
  pub shares : total (λ (u : View). share u.knows) others ≡ total (λ (u : View). share u.knows) views
  pub draws : total (λ (u : View). u.knows.made) others ≡ total (λ (u : View). u.knows.made) views
  pub tickets : (k : ℕ) → total (λ (u : View). is_ticket k u.ticket) others ≡ total (λ (u : View). is_ticket k u.ticket) views
  pub queued : total (λ (u : View). one_if_some u.ticket) others ≡ total (λ (u : View). one_if_some u.ticket) views
  pub world : (k : ℕ) → total (λ (u : View). times k u.knows.held) others ≡ total (λ (u : View). times k u.knows.held) views
  pub rooms : (room : RoomFor) → total (λ (u : View). room_times room u.knows.rooms) others ≡ total (λ (u : View). room_times room u.knows.rooms) views
  pub owners : (k : ℕ) → total (λ (u : View). times k (numbers u.knows.own)) others ≡ total (λ (u : View). times k (numbers u.knows.own)) views

pub same_sums : (o n g sv : ℕ) (last : BoardState) (views others : List View) → Sums o n g sv last views → SameTotals views others → Sums o n g sv last others
same_sums o n g sv last views others sums same =
    record {
      shares = same.shares ∙ sums.shares;
      opened = sums.opened;
      grown = sums.grown;
      draws = sums.draws ∙ ap (λ (x : ℕ). o + x) (sym same.draws);
      tickets = λ k. ap (λ (x : ℕ). below k sv + x) (same.tickets k) ∙ sums.tickets k;
      queued = ap (λ (x : ℕ). sv + x) same.queued ∙ sums.queued;
      world = λ k. ap (λ (x : ℕ). stands (board_book last k) + x) (same.world k) ∙ sums.world k;
      waiting = sums.waiting;
      rooms = λ room. same.rooms room ∙ sums.rooms room;
      owners = λ k. same.owners k ∙ sums.owners k;
    }

module _ (o n g sv : ℕ) (last : BoardState) (views : List View) (sums : Sums o n g sv last views) where
  pub above_last : IsAboveBook (suc n) (board_book last)
  above_last k e is =
      let one = some_stands (board_book last k) e is in
      let all = sums.world k in
      let within = once_some k n (omega (arith, one, all)) in
      let low = within.1 in omega (arith, low)

  -- each place of the log was drawn
  pub log_drawn : length last.log ≤ n
  log_drawn = go (length last.log) refl
    where
      go : (k : ℕ) → length last.log ≡ k → k ≤ n
      go zero is = omega arith
      go (suc k) is =
          let one = in_log last (suc k) (omega arith) (omega (arith, is)) in
          let all = sums.world (suc k) in
          (once_some (suc k) n (omega (arith, one, all))).1

  module _ (id : ℕ) (v : View) (at : get_elem? views id ≡ some v) where
    -- all that is held lies within what was drawn
    pub held_within : (k : ℕ) → stands (board_book last k) + times k v.knows.held ≤ once_among k n
    held_within k = let h = total_has (λ (u : View). times k u.knows.held) views id v at in let d = sums.world k in omega (arith, h, d)

    pub rooms_within : (room : RoomFor) → room_times room v.knows.rooms ≤ room_times room last.rooms
    rooms_within room = let h = total_has (λ (u : View). room_times room u.knows.rooms) views id v at in let d = sums.rooms room in omega (arith, h, d)

    -- no number is held twice, nor that of two own entries
    pub each_once : HasEachOnce v.knows
    each_once =
        record {
          held = λ k. let a = held_within k in let most = once_most k n in omega (arith, a, most);
          own = λ k.
              let h = total_has (λ (u : View). times k (numbers u.knows.own)) views id v at in
              let d = sums.owners k in
              let most = owed_most o last k in
              omega (arith, h, d, most);
        }

    -- no place of the log is held
    held_old : (k : ℕ) → k ≤ length last.log → times k v.knows.held ≡ 0
    held_old zero low = let w = held_within 0 in omega (arith, w)
    held_old (suc k) low =
        let w = held_within (suc k) in
        let one = in_log last (suc k) (omega arith) low in
        let most = once_most (suc k) n in omega (arith, w, one, most)

    pub set_sums : (m h t : ℕ) (now : BoardState) (w : View) → Moves o n g sv last v m h t now w → Sums o m h t now (set views id w)
    set_sums m h t now w moves =
        record {
          shares = let a = total_set (λ (u : View). share u.knows) views id v w at in let b = sums.shares in let c = moves.shares in omega (arith, a, b, c);
          opened = sums.opened;
          grown = moves.grown;
          draws = let a = total_set (λ (u : View). u.knows.made) views id v w at in let b = sums.draws in let c = moves.draws in omega (arith, a, b, c);
          tickets = λ k. let a = total_set (λ (u : View). is_ticket k u.ticket) views id v w at in let b = sums.tickets k in let c = moves.tickets k in omega (arith, a, b, c);
          queued = let a = total_set (λ (u : View). one_if_some u.ticket) views id v w at in let b = sums.queued in let c = moves.queued in omega (arith, a, b, c);
          world = λ k. let a = total_set (λ (u : View). times k u.knows.held) views id v w at in let b = sums.world k in let c = moves.world k in omega (arith, a, b, c);
          waiting = moves.waiting;
          rooms = λ room. let a = total_set (λ (u : View). room_times room u.knows.rooms) views id v w at in let b = sums.rooms room in let c = moves.rooms room in omega (arith, a, b, c);
          owners = λ k. let a = total_set (λ (u : View). times k (numbers u.knows.own)) views id v w at in let b = sums.owners k in let c = moves.owners k in omega (arith, a, b, c);
        }

    -- a step that changes nothing that is counted
    pub still : (w : View) → share w.knows ≡ share v.knows → w.knows.made ≡ v.knows.made → w.ticket ≡ v.ticket → w.knows.held ≡ v.knows.held → w.knows.rooms ≡ v.knows.rooms → w.knows.own ≡ v.knows.own → Moves o n g sv last v n g sv last w
    still w shares made ticket held rooms own =
        record {
          shares = shares;
          draws = omega (arith, made);
          tickets = λ k. let a = ap (is_ticket k) ticket in omega (arith, a);
          queued = let a : one_if_some w.ticket ≡ one_if_some v.ticket = ap (λ (t : Option ℕ). one_if_some t) ticket in omega (arith, a);
          world = λ k. let a = ap (times k) held in omega (arith, a);
          waiting = sums.waiting;
          grown = sums.grown;
          rooms = λ room. let a = ap (room_times room) rooms in omega (arith, a);
          owners = λ k. let a = ap (λ (ps : List Waiting). times k (numbers ps)) own in omega (arith, a);
        }

    -- the board comes back
    pub raised : (left : BoardState) → MayLeave v.knows last left → Moves o n g sv last v n g sv left (leaving v last left)
    raised left may =
        record {
          shares = refl;
          draws = refl;
          tickets = λ k. omega arith;
          queued = omega arith;
          world = λ k. let a = moved last left v.knows.held k n (may.after.book.kept k) (may.stored k) (held_within k) in omega (arith, a);
          waiting = may.waiting;
          grown = let a = sums.grown in let b = extends_length last.log left.log may.after.log in omega (arith, a, b);
          rooms = λ room.
              let all = without_all last.rooms (left.rooms ++ v.knows.rooms) (λ r. let a = may.rooms r in let b = room_times-append r left.rooms v.knows.rooms in omega (arith, a, b)) room in
              let both = room_times-append room left.rooms v.knows.rooms in
              omega (arith, all, both);
          owners = λ k. own_at k (nat_lt o k) refl;
        }
      where
        own_at : (k : ℕ) (b : Bool) → nat_lt o k ≡ b
            → (if b then count_used (board_book last k) else 0) + times k (numbers (stored_at (board_book left) v.knows.held ++ v.knows.own)) ≡ (if b then count_used (board_book left k) else 0) + times k (numbers v.knows.own)
        own_at k b is = go b is
          where
            both : times k (numbers (stored_at (board_book left) v.knows.held ++ v.knows.own)) ≡ times k (numbers (stored_at (board_book left) v.knows.held)) + times k (numbers v.knows.own)
            both = ap (times k) (numbers-append (stored_at (board_book left) v.knows.held) v.knows.own) ∙ times-append k (numbers (stored_at (board_book left) v.knows.held)) (numbers v.knows.own)

            go : (b : Bool) → nat_lt o k ≡ b
                → (if b then count_used (board_book last k) else 0) + times k (numbers (stored_at (board_book left) v.knows.held ++ v.knows.own)) ≡ (if b then count_used (board_book left k) else 0) + times k (numbers v.knows.own)
            go true is =
                let a = stored_once last left v.knows.held k n (may.after.book.kept k) (may.stored k) (held_within k) in omega (arith, a, both)
            go false is =
                let low = ltb-false o k is in
                let grew = sums.grown in
                let none = held_old k (omega (arith, low, grew)) in
                let a = stored_within last left v.knows.held k n (may.after.book.kept k) (may.stored k) (held_within k) none in omega (arith, a, both)
