-- The rule's sums make a sound world.
use Rattle.std.proofs.Common.{◌≡◌, ◌≢◌, ◌⊎◌, inl, inr, ◌≤◌, ◌<◌, ◌+◌, ℕ, zero, suc, Bool, cond, nat_eq, refl, ap, ◌∙◌, arith, List, [], ◌∷◌, length, Option, Some, if◌then◌else◌}
use Rattle.std.specs.Prelude.{count_by, IsTrue}
use Rattle.std.proofs.lemmas.Bool.{cases_lt, ne_eqb, eq-eqb}
use Rattle.std.proofs.lemmas.List.Sums.{sum_by-cons}
use Rattle.sg_history.specs.declared.book.Waiting.{Waiting}
use Rattle.sg_history.specs.declared.entries.Entry.{Entry}
use Rattle.sg_history.specs.Board.{BoardState, board_book}
use Rattle.sg_history.specs.Book.{entry_or, waiting_at}
use Rattle.sg_history.specs.World.{IsSound, once_among, rises_from}
use Rattle.seq_gate.specs.Counts.{count_once, times, stands, total}
use Rattle.seq_gate.specs.Laws.{all_held, world_of_gate}
use Rattle.seq_gate.specs.Rule.{Sums}
use Rattle.seq_gate.specs.declared.known.View.{View}
use Rattle.seq_gate.proofs.Counting.{tick_cases, times-append, once_in, once_past}
use Rattle.seq_gate.proofs.Holding.{in_log, get_beyond, rises_parts, rises_free}

count_held : (k : ℕ) (ns : List ℕ) → count_by (λ (n : ℕ). nat_eq n k) ns ≡ times k ns
count_held k [] = refl
count_held k (n ∷ ns) = sum_by-cons (λ (x : ℕ). cond (nat_eq x k) 1 0) n ns ∙ ap (λ (x : ℕ). count_once (nat_eq n k) + x) (count_held k ns)

held_by_all : (k : ℕ) (views : List View) → times k (all_held views) ≡ total (λ (v : View). times k v.knows.held) views
held_by_all k [] = refl
held_by_all k (v ∷ others) = times-append k v.knows.held (all_held others) ∙ ap (λ (x : ℕ). times k v.knows.held + x) (held_by_all k others)

-- how often a number is that of an entry that waits
count_waiting : (k low : ℕ) (ws : List Waiting) → IsTrue (rises_from low ws) → count_by (λ (w : Waiting). nat_eq w.number k) ws ≡ stands (waiting_at ws k)
count_waiting k low [] up = refl
count_waiting k low (w ∷ ws) up =
    sum_by-cons (λ (x : Waiting). cond (nat_eq x.number k) 1 0) w ws ∙ go (tick_cases k w.number) (count_waiting k w.number ws (rises_parts low w ws up).1) (rises_parts low w ws up).1
  where
    go : ((w.number ≡ k) × (count_once (nat_eq w.number k) ≡ 1)) ⊎ ((w.number ≢ k) × (count_once (nat_eq w.number k) ≡ 0))
        → count_by (λ (x : Waiting). nat_eq x.number k) ws ≡ stands (waiting_at ws k) → IsTrue (rises_from w.number ws)
        → count_once (nat_eq w.number k) + count_by (λ (x : Waiting). nat_eq x.number k) ws ≡ stands (if nat_eq w.number k then Some w.entry else waiting_at ws k)
    go (inl e) rest above =
        let one = e.1 in
        let same = e.0 in
        let none = ap stands (rises_free w.number ws k above (omega (arith, same))) in
        let here = ap (λ (b : Bool). stands (if b then Some w.entry else waiting_at ws k)) (eq-eqb w.number k e.0) in
        omega (arith, one, rest, none, here)
    go (inr e) rest above =
        let none = e.1 in
        let here = ap (λ (b : Bool). stands (if b then Some w.entry else waiting_at ws k)) (ne_eqb w.number k e.0) in
        omega (arith, none, rest, here)

-- a number is a place of the log or that of an entry that waits just where the board has an entry there
board_count : (b : BoardState) → IsTrue (rises_from (length b.log + 1) b.pending) → (k : ℕ)
    → once_among k (length b.log) + count_by (λ (w : Waiting). nat_eq w.number k) b.pending ≡ stands (board_book b k)
board_count b up zero = ap (λ (x : ℕ). 0 + x) (count_waiting zero (length b.log + 1) b.pending up) ∙ omega arith
board_count b up (suc k) = go (cases_lt (length b.log) (suc k))
  where
    counted : count_by (λ (w : Waiting). nat_eq w.number (suc k)) b.pending ≡ stands (waiting_at b.pending (suc k))
    counted = count_waiting (suc k) (length b.log + 1) b.pending up

    go : (length b.log < suc k) ⊎ (suc k ≤ length b.log) → once_among (suc k) (length b.log) + count_by (λ (w : Waiting). nat_eq w.number (suc k)) b.pending ≡ stands (board_book b (suc k))
    go (inl high) =
        let none = once_past (suc k) (length b.log) (omega arith) high in
        let here = ap (λ (o : Option Entry). stands (entry_or o (waiting_at b.pending (suc k)))) (get_beyond b.log k (omega (arith, high))) in
        omega (arith, none, here, counted)
    go (inr low) =
        let one = once_in (suc k) (length b.log) (omega arith) low in
        let here = in_log b (suc k) (omega arith) low in
        let free = ap stands (rises_free (length b.log + 1) b.pending (suc k) up (omega (arith, low))) in
        omega (arith, one, here, counted, free)

pub sums_world : (o n g sv : ℕ) (last : BoardState) (views : List View) → Sums o n g sv last views → IsSound (world_of_gate n last views)
sums_world o n g sv last views sums =
    record {
      taken = λ k.
          let board = board_count last sums.waiting k in
          let held = count_held k (all_held views) ∙ held_by_all k views in
          let all = sums.world k in
          omega (arith, board, held, all);
      waiting = sums.waiting;
    }
