-- Splitting, joining, opening and closing keep the rule.
use Rattle.std.proofs.Common.{◌≡◌, ◌≢◌, ◌⊎◌, ◌≤◌, ◌<◌, ◌+◌, ◌^◌, ℕ, zero, suc, max, refl, sym, ap, subst, ◌∙◌, inl, inr, ⊎_elim, arith, Bool, true, false, true≢false, List, [], ◌∷◌, ◌++◌, length, set, Option, Some, None, if◌then◌else◌}
use Rattle.std.specs.Prelude.{nat_le, nat_lt, IsTrue}
use Rattle.std.proofs.lemmas.Bool.{cases_lt, ltb-true}
use Rattle.std.proofs.lemmas.List.{append-nil}
use Rattle.std.proofs.lemmas.Option.{none-some}
use mathlib.Core.Option.{some, some-injective, some-ne-none}
use lib.ListN.{get_elem?}
use Rattle.atomic_table.specs.Table.{State, Splits, Joins, Final, Seen as Ends, opening}
use Rattle.atomic_table.proofs.Lists.{at_set, at_snoc}
use Rattle.sg_history.specs.declared.book.Waiting.{Waiting}
use Rattle.sg_history.specs.declared.entries.Entry.{Entry}
use Rattle.sg_history.specs.declared.room.RoomFor.{RoomFor}
use Rattle.sg_history.specs.Board.{BoardState, board_book, After}
use Rattle.sg_history.specs.Book.{entry_or, waiting_at}
use Rattle.sg_history.specs.History.{Extends}
use Rattle.sg_history.specs.World.{once_among, rises_from}
use Rattle.sg_history.specs.Rooms.{room_times}
use Rattle.seq_gate.specs.Counts.{times, numbers, stands, count_used, total}
use Rattle.seq_gate.specs.Passes.{share, longer, owed_count, Closes}
use Rattle.seq_gate.specs.Rule.{is_ticket, one_if_some, idle, spent, first_view, Fits, IsSound}
use Rattle.seq_gate.specs.Turns.{view_split_from, view_split_off, view_joined}
use Rattle.seq_gate.specs.declared.known.Known.{Known}
use Rattle.seq_gate.specs.declared.known.View.{View}
use Rattle.seq_gate.proofs.Counting.{times-append, numbers-append, once_in, once_past, once_some, total_set, total_snoc, total_whole}
use Rattle.seq_gate.proofs.Holding.{after_both, has_both, in_log, get_beyond, next_free, first_waits}
use Rattle.seq_gate.proofs.Rooms.{room_times-append, no_rooms}
use Rattle.seq_gate.proofs.Sums.{same_sums}

-- ---- splitting

split_total : (f : View → ℕ) (views : List View) (id : ℕ) (v l r : View) → get_elem? views id ≡ some v → f l + f r ≡ f v → total f (set views id l ++ r ∷ []) ≡ total f views
split_total f views id v l r at same = let t = total_set f views id v l at in let s = total_snoc f (set views id l) r in omega (arith, t, s, same)

pub to_split : {B : Type 0} (seen : B → BoardState) (o id : ℕ) (p : Known) → 2 ^ 33 ≤ p.left → Splits (IsSound seen o) id (idle p) (view_split_from (idle p)) (view_split_off (idle p))
to_split seen o id p left s sound at =
    let v = idle p in
    let l = view_split_from v in
    let r = view_split_off v in
    let mine = sound.fits id v at in
    let same = λ (f : View → ℕ) (e : f l + f r ≡ f v). split_total f s.views id v l r at e in
    record {
      n = sound.n;
      given = sound.given;
      served = sound.served;
      last = sound.last;
      words = sound.words;
      homes = sound.homes;
      fits = λ k u there. ⊎_elim
          (λ (x : get_elem? (set s.views id l) k ≡ some u). ⊎_elim
          (λ (y : (k ≡ id) × (l ≡ u)). subst (Fits o sound.served sound.last) y.1 record {
            opened = λ least. mine.opened (omega (arith, left));
            part = inl (omega (arith, left));
            seen = mine.seen;
            lowest_front = mine.lowest_front;
            front = mine.front;
            read = mine.read;
            own = mine.own;
            turn = λ board off. absurd (none-some board off);
            back = λ on. absurd (true≢false (sym on));
          })
          (λ (y : (k ≢ id) × (get_elem? s.views k ≡ some u)). sound.fits k u y.1)
          (at_set s.views id k l u x))
          (λ (e : r ≡ u). subst (Fits o sound.served sound.last) e record {
            opened = λ least. mine.opened (omega (arith, left));
            part = inl (omega arith);
            seen = mine.seen;
            lowest_front = mine.lowest_front;
            front = mine.front;
            read = mine.read;
            own = tt;
            turn = λ board off. absurd (none-some board off);
            back = λ on. absurd (true≢false (sym on));
          })
          (at_snoc (set s.views id l) r u k there);
      sums = same_sums o sound.n sound.given sound.served sound.last s.views (set s.views id l ++ r ∷ []) sound.sums record {
        shares = same (λ (u : View). share u.knows) (omega (arith, left));
        draws = same (λ (u : View). u.knows.made) (omega arith);
        tickets = λ k. same (λ (u : View). is_ticket k u.ticket) (omega arith);
        queued = same (λ (u : View). one_if_some u.ticket) (omega arith);
        world = λ k. same (λ (u : View). times k u.knows.held) (omega arith);
        rooms = λ room. same (λ (u : View). room_times room u.knows.rooms) (omega arith);
        owners = λ k. same (λ (u : View). times k (numbers u.knows.own)) (omega arith);
      };
      home = λ none_serves. sound.home (sym (same (λ (u : View). one_if_some u.found) (omega arith)) ∙ none_serves);
    }

-- ---- joining

join_total : (f : View → ℕ) (views : List View) (id other : ℕ) (v w b z : View) → get_elem? views id ≡ some v → get_elem? (set views id b) other ≡ some w → f b ≡ f v + f w → f z ≡ 0 → total f (set (set views id b) other z) ≡ total f views
join_total f views id other v w b z at there both gone =
    let t = total_set f views id v b at in
    let s = total_set f (set views id b) other w z there in
    omega (arith, t, s, both, gone)

longer_extends : (one other log : List Entry) → Extends one log → Extends other log → Extends (longer one other) log
longer_extends one other log a b = go (nat_le (length one) (length other))
  where
    go : (t : Bool) → Extends (if t then other else one) log
    go true = b
    go false = a

longer_within : (one other : List Entry) (n m : ℕ) → length one ≤ n → length other ≤ m → length (longer one other) ≤ max n m
longer_within one other n m a b = go (nat_le (length one) (length other))
  where
    go : (t : Bool) → length (if t then other else one) ≤ max n m
    go true = omega (arith, b)
    go false = omega (arith, a)

spent_fits : (o served : ℕ) (last : BoardState) → Fits o served last spent
spent_fits o served last =
    record {
      opened = λ least. absurd (omega (arith, least));
      part = inr refl;
      seen = (last.log, refl);
      lowest_front = omega arith;
      front = omega arith;
      read = tt;
      own = tt;
      turn = λ board off. absurd (none-some board off);
      back = λ on. absurd (true≢false (sym on));
    }

pub to_join : {B : Type 0} (seen : B → BoardState) (o id other : ℕ) (p q : Known) → 2 ^ 32 ≤ share p → Joins (IsSound seen o) id (idle p) other (idle q) (view_joined (idle p) (idle q)) spent
to_join seen o id other p q part s sound at apart there =
    let v = idle p in
    let w = idle q in
    let b = view_joined v w in
    let mine = sound.fits id v at in
    let its : Fits o sound.served sound.last w = ⊎_elim
    (λ (x : (other ≡ id) × (b ≡ w)). absurd (apart x.0))
    (λ (x : (other ≢ id) × (get_elem? s.views other ≡ some w)). sound.fits other w x.1)
    (at_set s.views id other b w there) in
    let same = λ (f : View → ℕ) (e : f b ≡ f v + f w) (z : f spent ≡ 0). join_total f s.views id other v w b spent at there e z in
    record {
      n = sound.n;
      given = sound.given;
      served = sound.served;
      last = sound.last;
      words = sound.words;
      homes = sound.homes;
      fits = λ k u here. ⊎_elim
          (λ (x : (k ≡ other) × (spent ≡ u)). subst (Fits o sound.served sound.last) x.1 (spent_fits o sound.served sound.last))
          (λ (x : (k ≢ other) × (get_elem? (set s.views id b) k ≡ some u)). ⊎_elim
          (λ (y : (k ≡ id) × (b ≡ u)). subst (Fits o sound.served sound.last) y.1 record {
            opened = λ least. mine.opened (omega (arith, part));
            part = inl (omega (arith, part));
            seen = longer_extends p.seen q.seen sound.last.log mine.seen its.seen;
            lowest_front = longer_within p.seen q.seen p.lowest_front q.lowest_front mine.lowest_front its.lowest_front;
            front = let f = mine.front in let g = its.front in omega (arith, f, g);
            read = after_both p.read q.read sound.last mine.read its.read;
            own = has_both sound.last p.own q.own mine.own its.own;
            turn = λ board off. absurd (none-some board off);
            back = λ on. absurd (true≢false (sym on));
          })
          (λ (y : (k ≢ id) × (get_elem? s.views k ≡ some u)). sound.fits k u y.1)
          (at_set s.views id k b u x.1))
          (at_set (set s.views id b) other k spent u here);
      sums = same_sums o sound.n sound.given sound.served sound.last s.views (set (set s.views id b) other spent) sound.sums record {
        shares = same (λ (u : View). share u.knows) (omega arith) refl;
        draws = same (λ (u : View). u.knows.made) refl refl;
        tickets = λ k. same (λ (u : View). is_ticket k u.ticket) (omega arith) refl;
        queued = same (λ (u : View). one_if_some u.ticket) (omega arith) refl;
        world = λ k. same (λ (u : View). times k u.knows.held) (times-append k p.held q.held) refl;
        rooms = λ room. same (λ (u : View). room_times room u.knows.rooms) (room_times-append room p.rooms q.rooms) refl;
        owners = λ k. same (λ (u : View). times k (numbers u.knows.own)) (ap (times k) (numbers-append p.own q.own) ∙ times-append k (numbers p.own) (numbers q.own)) refl;
      };
      home = λ none_serves. sound.home (sym (same (λ (u : View). one_if_some u.found) (omega arith) refl) ∙ none_serves);
    }

-- ---- opening

pub to_open : ((b : BoardState) → After b b) → {B : Type 0} (seen : B → BoardState) (board : B) (b : BoardState) → seen board ≡ b → b.pending ≡ [] → b.rooms ≡ [] → length b.log ≤ 2 ^ 62
    → IsSound seen (length b.log) (opening (length b.log ∷ 0 ∷ 0 ∷ length b.log ∷ []) (Some board ∷ []) (first_view b))
to_open itself seen board b is empty no_rooms_outstanding least =
    record {
      n = length b.log;
      given = 0;
      served = 0;
      last = b;
      words = refl;
      homes = refl;
      fits = λ k u there. fits_one k u there;
      sums = record {
        shares = refl;
        opened = least;
        grown = omega arith;
        draws = omega arith;
        tickets = λ k. omega arith;
        queued = refl;
        world = λ k. let a = all_logged k in omega (arith, a);
        waiting = ap (λ (ws : List Waiting). rises_from (length b.log + 1) ws) empty;
        rooms = λ room. sym (ap (λ (rs : List RoomFor). room_times room rs) no_rooms_outstanding);
        owners = λ k. let a = none_owed k in omega (arith, a);
      };
      home = λ _. (board, refl, is);
    }
  where
    past_log : (k : ℕ) → length b.log < k → board_book b k ≡ None
    past_log zero high = absurd (omega (arith, high))
    past_log (suc k) high =
        ap (λ (o : Option Entry). entry_or o (waiting_at b.pending (suc k))) (get_beyond b.log k (omega (arith, high)))
        ∙ ap (λ (ws : List Waiting). waiting_at ws (suc k)) empty

    all_logged : (k : ℕ) → stands (board_book b k) ≡ once_among k (length b.log)
    all_logged zero = ap (λ (ws : List Waiting). stands (waiting_at ws 0)) empty
    all_logged (suc k) = go (cases_lt (length b.log) (suc k))
      where
        go : (length b.log < suc k) ⊎ (suc k ≤ length b.log) → stands (board_book b (suc k)) ≡ once_among (suc k) (length b.log)
        go (inl high) = ap stands (past_log (suc k) high) ∙ sym (once_past (suc k) (length b.log) (omega arith) high)
        go (inr low) = in_log b (suc k) (omega arith) low ∙ sym (once_in (suc k) (length b.log) (omega arith) low)

    none_owed : (k : ℕ) → owed_count (length b.log) b k ≡ 0
    none_owed k = go (nat_lt (length b.log) k) refl
      where
        go : (t : Bool) → nat_lt (length b.log) k ≡ t → (if t then count_used (board_book b k) else 0) ≡ 0
        go true high = ap count_used (past_log k (ltb-true (length b.log) k high))
        go false low = refl

    fits_one : (k : ℕ) (u : View) → get_elem? (first_view b ∷ []) k ≡ some u → Fits (length b.log) 0 b u
    fits_one zero u there =
        subst (Fits (length b.log) 0 b) (some-injective (first_view b) u there) record {
          opened = λ _. refl;
          part = inl (omega arith);
          seen = ([], sym (append-nil b.log));
          lowest_front = omega arith;
          front = omega arith;
          read = (itself b, tt);
          own = tt;
          turn = λ board off. absurd (none-some board off);
          back = λ on. absurd (true≢false (sym on));
        }
    fits_one (suc k) u there = absurd (some-ne-none u (sym there))

-- ---- closing

-- nothing waits where an entry stands at each number that was drawn
none_waits : (b : BoardState) (n : ℕ) → ((k : ℕ) → stands (board_book b k) ≡ once_among k n) → IsTrue (rises_from (length b.log + 1) b.pending) → (ps : List Waiting) → b.pending ≡ ps → b.pending ≡ []
none_waits b n all up [] is = is
none_waits b n all up (p ∷ ps) is =
    let first = first_waits b p ps is up in
    let past = first.0 in
    let there = first.1 in
    let here = all p.number in
    let drawn = (once_some p.number n (omega (arith, here, there))).1 in
    let next = suc (length b.log) in
    let one = once_in next n (omega arith) (omega (arith, past, drawn)) in
    let free = ap stands (next_free b up) in
    let same = all next in
    absurd (omega (arith, one, free, same))

pub to_close : {B : Type 0} (seen : B → BoardState) (o id : ℕ) (p : Known) (s : State (Option B) View) → (sound : IsSound seen o s) → get_elem? s.views id ≡ some (idle p) → share p ≡ 2 ^ 62 → p.held ≡ [] → p.rooms ≡ []
    → (b : B) × (get_elem? s.homes 0 ≡ some (some (Some b))) × Closes p (seen b)
to_close seen o id p s sound at whole held rooms =
    let v = idle p in
    let mine = sound.fits id v at in
    let all : total (λ (u : View). share u.knows) s.views ≡ share p = sound.sums.shares ∙ sym whole in
    let gone : (k : ℕ) (u : View) → get_elem? s.views k ≡ some u → share u.knows ≡ 0 → u ≡ spent = λ k u there none. ⊎_elim
    (λ (x : 2 ^ 32 ≤ share u.knows). absurd (omega (arith, x, none)))
    (λ (x : u ≡ spent). x)
    (sound.fits k u there).part in
    let whole_of = λ (f : View → ℕ) (z : f spent ≡ 0). total_whole f (λ (u : View). share u.knows) s.views id v at all (λ k u there none. ap f (gone k u there none) ∙ z) in
    let nobody = whole_of (λ (u : View). one_if_some u.found) refl in
    let world : (k : ℕ) → stands (board_book sound.last k) ≡ once_among k sound.n = λ k.
    let h = whole_of (λ (u : View). times k u.knows.held) refl ∙ ap (times k) held in
    let w = sound.sums.world k in omega (arith, h, w) in (
      (sound.home nobody).0,
      (sound.home nobody).1,
      subst (λ (x : BoardState). Closes p x) (sym (sound.home nobody).2) record {
        pending = none_waits sound.last sound.n world sound.sums.waiting sound.last.pending refl;
        rooms = no_rooms sound.last.rooms (λ room. sym (sound.sums.rooms room) ∙ whole_of (λ (u : View). room_times room u.knows.rooms) refl ∙ ap (λ (rs : List RoomFor). room_times room rs) rooms);
        read = mine.read;
        own = mine.own;
        owners = λ k.
            sym (whole_of (λ (u : View). times k (numbers u.knows.own)) refl) ∙ sound.sums.owners k
            ∙ ap (λ (x : ℕ). owed_count x sound.last k) (sym (mine.opened (omega (arith, whole))));
      },
    )

pub closed_board : {B : Type 0} (seen : B → BoardState) (o id : ℕ) (p : Known) (v : View) (ws : List ℕ) (xs : List (Option B)) (r : Option B) → v ≡ idle p → Final (Ends (IsSound seen o) id v) ws xs → get_elem? xs 0 ≡ some r → share p ≡ 2 ^ 62 → p.held ≡ [] → p.rooms ≡ []
    → (b : B) × (r ≡ Some b) × Closes p (seen b)
closed_board seen o id p v ws xs r is end got whole held rooms =
    let t = to_close seen o id p end.0 end.1.0 (end.1.1 ∙ ap (λ (w : View). some w) is) whole held rooms in
    let there = end.4 0 (Some t.0) t.1 in
    (t.0, some-injective r (Some t.0) (sym got ∙ there), t.2)
