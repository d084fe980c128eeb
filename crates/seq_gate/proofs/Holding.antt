-- Lemmas on boards, their books and the numbers in them.
use Rattle.std.proofs.Common.{◌≡◌, ◌⊎◌, inl, inr, ◌≤◌, ◌<◌, ◌+◌, ℕ, zero, suc, refl, sym, ap, subst, ◌∙◌, arith, Bool, true, false, nat_eq, List, [], ◌∷◌, ◌++◌, length, Option, Some, None, if◌then◌else◌, append_assoc}
use Rattle.std.specs.Prelude.{slice_get, nat_lt, IsTrue}
use Rattle.std.proofs.lemmas.Bool.{and_parts, ltb-true, ne_eqb, eq-eqb}
use Rattle.std.proofs.lemmas.Option.{none-some}
use Rattle.sg_history.specs.declared.book.Waiting.{Waiting}
use Rattle.sg_history.specs.declared.entries.Entry.{Entry}
use Rattle.sg_history.specs.Board.{BoardState, board_book, After, IsAfterAll}
use Rattle.sg_history.specs.Book.{Book, book_of, entry_or, waiting_at}
use Rattle.sg_history.specs.History.{Extends}
use Rattle.sg_history.specs.World.{once_among, rises_from}
use Rattle.seq_gate.specs.Boards.{HasAll}
use Rattle.seq_gate.specs.Counts.{count_once, times, numbers, is_unused, stands, count_used}
use Rattle.seq_gate.specs.Passes.{before_if_none, still_held, before_if_used, stored_at, IsAboveBook, IsAboveAll}
use Rattle.seq_gate.proofs.Counting.{tick_else, once_most}

-- ---- one board after another

pub extends_again : (a b c : List Entry) → Extends a b → Extends b c → Extends a c
extends_again a b c first second =
    (first.0 ++ second.0, second.1 ∙ ap (λ (log : List Entry). log ++ second.0) first.1 ∙ append_assoc a first.0 second.0)

pub after_all : ((a b c : BoardState) → After a b → After b c → After a c) → (boards : List BoardState) (b c : BoardState) → IsAfterAll boards b → After b c → IsAfterAll boards c
after_all again [] b c all next = tt
after_all again (earlier ∷ others) b c all next = (again earlier b c all.0 next, after_all again others b c all.1 next)

pub after_each : (xs ys : List BoardState) (b : BoardState) → IsAfterAll (xs ++ ys) b → IsAfterAll xs b × IsAfterAll ys b
after_each [] ys b all = (tt, all)
after_each (x ∷ xs) ys b all = let rest = after_each xs ys b all.1 in ((all.0, rest.0), rest.1)

pub after_both : (xs ys : List BoardState) (b : BoardState) → IsAfterAll xs b → IsAfterAll ys b → IsAfterAll (xs ++ ys) b
after_both [] ys b all more = more
after_both (x ∷ xs) ys b all more = (all.0, after_both xs ys b all.1 more)

pub has_after : (ps : List Waiting) (b c : BoardState) → HasAll b ps → After b c → HasAll c ps
has_after [] b c all next = tt
has_after (p ∷ ps) b c all next = (next.book.kept p.number p.entry all.0, has_after ps b c all.1 next)

pub has_both : (b : BoardState) (ps qs : List Waiting) → HasAll b ps → HasAll b qs → HasAll b (ps ++ qs)
has_both b [] qs all more = more
has_both b (p ∷ ps) qs all more = (all.0, has_both b ps qs all.1 more)

-- ---- where an entry stands

pub none_of : (o : Option Entry) → stands o ≡ 0 → o ≡ None
none_of None z = refl
none_of (Some e) z = absurd (omega (arith, z))

pub some_stands : (o : Option Entry) (e : Entry) → o ≡ Some e → stands o ≡ 1
some_stands o e is = ap stands is

get_some : (xs : List Entry) (i : ℕ) (o : Option Entry) → i < length xs → stands (entry_or (slice_get xs i) o) ≡ 1
get_some [] i o h = absurd (omega (arith, h))
get_some (x ∷ xs) zero o h = refl
get_some (x ∷ xs) (suc i) o h = get_some xs i o (omega (arith, h))

-- each place of the log has an entry
pub in_log : (b : BoardState) (k : ℕ) → 0 < k → k ≤ length b.log → stands (board_book b k) ≡ 1
in_log b zero some low = absurd (omega (arith, some))
in_log b (suc k) some low = get_some b.log k (waiting_at b.pending (suc k)) (omega (arith, low))

pub above_all : (boards : List BoardState) (last : BoardState) (n : ℕ) → IsAfterAll boards last → IsAboveBook n (board_book last) → IsAboveAll n boards
above_all [] last n all above = tt
above_all (b ∷ bs) last n all above = ((λ k e is. above k e (all.0.book.kept k e is)), above_all bs last n all.1 above)

-- ---- what a turn stores leaves the numbers held

-- where the book has no entry at k, it is held as before; else no more
pub held_none : (book : Book) (k : ℕ) (ns : List ℕ) → book k ≡ None → times k (still_held book ns) ≡ times k ns
held_none book k [] h = refl
held_none book k (n ∷ ns) h = go (book n) refl (held_none book k ns h)
  where
    go : (o : Option Entry) → book n ≡ o → times k (still_held book ns) ≡ times k ns → times k (before_if_none o n (still_held book ns)) ≡ count_once (nat_eq n k) + times k ns
    go None is rest = omega (arith, rest)
    go (Some e) is rest =
        let this = tick_else k n (λ same. none-some e (sym h ∙ ap book (sym same) ∙ is)) in
        omega (arith, rest, this)

pub held_some : (book : Book) (k : ℕ) (e : Entry) (ns : List ℕ) → book k ≡ Some e → times k (still_held book ns) ≡ 0
held_some book k e [] h = refl
held_some book k e (n ∷ ns) h = go (book n) refl (held_some book k e ns h)
  where
    go : (o : Option Entry) → book n ≡ o → times k (still_held book ns) ≡ 0 → times k (before_if_none o n (still_held book ns)) ≡ 0
    go None is rest =
        let this = tick_else k n (λ same. none-some e (sym is ∙ ap book same ∙ h)) in
        omega (arith, rest, this)
    go (Some x) is rest = rest

pub stored_has : (b : BoardState) (ns : List ℕ) → HasAll b (stored_at (board_book b) ns)
stored_has b [] = tt
stored_has b (n ∷ ns) = go (board_book b n) refl (stored_has b ns)
  where
    pick : (u : Bool) (e : Entry) → board_book b n ≡ Some e → HasAll b (stored_at (board_book b) ns) → HasAll b (if u then stored_at (board_book b) ns else record { number = n; entry = e } ∷ stored_at (board_book b) ns)
    pick true e is rest = rest
    pick false e is rest = (is, rest)

    go : (o : Option Entry) → board_book b n ≡ o → HasAll b (stored_at (board_book b) ns) → HasAll b (before_if_used o n (stored_at (board_book b) ns))
    go None is rest = rest
    go (Some e) is rest = pick (is_unused e) e is rest

-- how often a number is that of an entry stored at these: where the book has one that was not given up, as often as it stands there
stored_used : (book : Book) (k : ℕ) (ns : List ℕ) → count_used (book k) ≡ 1 → times k (numbers (stored_at book ns)) ≡ times k ns
stored_used book k [] one = refl
stored_used book k (n ∷ ns) one = go (book n) refl (stored_used book k ns one)
  where
    other : (o : Option Entry) → book n ≡ o → count_used o ≡ 0 → count_once (nat_eq n k) ≡ 0
    other o is none = tick_else k n (λ same. let a : count_used (book n) ≡ count_used (book k) = ap (λ (i : ℕ). count_used (book i)) same in let c : count_used (book n) ≡ 0 = ap count_used is ∙ none in absurd (omega (arith, a, c, one)))

    pick : (u : Bool) (e : Entry) → book n ≡ Some e → is_unused e ≡ u → times k (numbers (stored_at book ns)) ≡ times k ns
        → times k (numbers (if u then stored_at book ns else record { number = n; entry = e } ∷ stored_at book ns)) ≡ count_once (nat_eq n k) + times k ns
    pick true e is given rest = let none = other (Some e) is (ap (λ (b : Bool). if b then 0 else 1) given) in omega (arith, rest, none)
    pick false e is given rest = omega (arith, rest)

    go : (o : Option Entry) → book n ≡ o → times k (numbers (stored_at book ns)) ≡ times k ns → times k (numbers (before_if_used o n (stored_at book ns))) ≡ count_once (nat_eq n k) + times k ns
    go None is rest = let none = other None is refl in omega (arith, rest, none)
    go (Some e) is rest = pick (is_unused e) e is refl rest

stored_none : (book : Book) (k : ℕ) (ns : List ℕ) → count_used (book k) ≡ 0 → times k (numbers (stored_at book ns)) ≡ 0
stored_none book k [] none = refl
stored_none book k (n ∷ ns) none = go (book n) refl (stored_none book k ns none)
  where
    pick : (u : Bool) (e : Entry) → book n ≡ Some e → is_unused e ≡ u → times k (numbers (stored_at book ns)) ≡ 0
        → times k (numbers (if u then stored_at book ns else record { number = n; entry = e } ∷ stored_at book ns)) ≡ 0
    pick true e is given rest = rest
    pick false e is given rest =
        let this = tick_else k n (λ same. let a : count_used (book n) ≡ count_used (book k) = ap (λ (i : ℕ). count_used (book i)) same in let c : count_used (book n) ≡ 1 = ap count_used is ∙ ap (λ (b : Bool). if b then 0 else 1) given in absurd (omega (arith, a, c, none))) in
        omega (arith, rest, this)

    go : (o : Option Entry) → book n ≡ o → times k (numbers (stored_at book ns)) ≡ 0 → times k (numbers (before_if_used o n (stored_at book ns))) ≡ 0
    go None is rest = rest
    go (Some e) is rest = pick (is_unused e) e is refl rest

pub used_most : (o : Option Entry) → (count_used o ≡ 0) ⊎ (count_used o ≡ 1)
used_most None = inl refl
used_most (Some e) = go (is_unused e)
  where
    pick : Bool → ℕ
    pick b = if b then 0 else 1

    go : (b : Bool) → (pick b ≡ 0) ⊎ (pick b ≡ 1)
    go true = inl refl
    go false = inr refl

-- what a turn does at one number
module _ (found left : BoardState) (held : List ℕ) (k n : ℕ) (kept : (e : Entry) → board_book found k ≡ Some e → board_book left k ≡ Some e)
    (more : (e : Entry) → board_book left k ≡ Some e → board_book found k ≡ None → 0 < times k held) (within : stands (board_book found k) + times k held ≤ once_among k n) where
  -- each number that the board left has or that is still held is one that the board found had or that was held
  pub moved : stands (board_book left k) + times k (still_held (board_book left) held) ≡ stands (board_book found k) + times k held
  moved = go (board_book left k) refl (board_book found k) refl
    where
      go : (o : Option Entry) → board_book left k ≡ o → (p : Option Entry) → board_book found k ≡ p → stands (board_book left k) + times k (still_held (board_book left) held) ≡ stands (board_book found k) + times k held
      go None is None was = let a = ap stands is in let b = ap stands was in let still = held_none (board_book left) k held is in omega (arith, a, b, still)
      go None is (Some e) was = absurd (none-some e (sym is ∙ kept e was))
      go (Some e) is None was =
          let a = ap stands is in
          let b = ap stands was in
          let gone = held_some (board_book left) k e held is in
          let some = more e is was in
          let most = once_most k n in
          omega (arith, a, b, gone, some, most, within)
      go (Some e) is (Some f) was =
          let a = ap stands is in
          let b = ap stands was in
          let gone = held_some (board_book left) k e held is in
          let most = once_most k n in
          omega (arith, a, b, gone, most, within)

  -- and the entry there is a new own one just where the board found had none
  pub stored_once : count_used (board_book left k) ≡ count_used (board_book found k) + times k (numbers (stored_at (board_book left) held))
  stored_once = go (board_book left k) refl (board_book found k) refl (used_most (board_book left k))
    where
      go : (o : Option Entry) → board_book left k ≡ o → (p : Option Entry) → board_book found k ≡ p → (count_used (board_book left k) ≡ 0) ⊎ (count_used (board_book left k) ≡ 1)
          → count_used (board_book left k) ≡ count_used (board_book found k) + times k (numbers (stored_at (board_book left) held))
      go None is None was u = let a = ap count_used is in let b = ap count_used was in let none = stored_none (board_book left) k held a in omega (arith, a, b, none)
      go None is (Some e) was u = absurd (none-some e (sym is ∙ kept e was))
      go (Some e) is None was (inl z) =
          let b = ap count_used was in let none = stored_none (board_book left) k held z in omega (arith, z, b, none)
      go (Some e) is None was (inr one) =
          let b = ap count_used was in
          let c = ap stands was in
          let all = stored_used (board_book left) k held one in
          let some = more e is was in
          let most = once_most k n in
          omega (arith, one, b, c, all, some, most, within)
      go (Some e) is (Some f) was u =
          let same : count_used (board_book left k) ≡ count_used (board_book found k) = ap count_used (kept f was) ∙ sym (ap count_used was) in
          let c = ap stands was in
          let most = once_most k n in
          let none = at_none (omega (arith, c, most, within)) u in
          omega (arith, same, none)
        where
          at_none : times k held ≡ 0 → (count_used (board_book left k) ≡ 0) ⊎ (count_used (board_book left k) ≡ 1) → times k (numbers (stored_at (board_book left) held)) ≡ 0
          at_none none (inl z) = stored_none (board_book left) k held z
          at_none none (inr one) = stored_used (board_book left) k held one ∙ none

  -- nothing is stored where nothing was held
  pub stored_within : times k held ≡ 0 → times k (numbers (stored_at (board_book left) held)) ≡ 0
  stored_within none = go (used_most (board_book left k))
    where
      go : (count_used (board_book left k) ≡ 0) ⊎ (count_used (board_book left k) ≡ 1) → times k (numbers (stored_at (board_book left) held)) ≡ 0
      go (inl z) = stored_none (board_book left) k held z
      go (inr one) = stored_used (board_book left) k held one ∙ none

-- ---- entries that wait

pub rises_parts : (low : ℕ) (f : Waiting) (fs : List Waiting) → IsTrue (rises_from low (f ∷ fs)) → (low < f.number) × IsTrue (rises_from f.number fs)
rises_parts low f fs up =
    let parts = and_parts (nat_lt low f.number) (rises_from f.number fs) up in (ltb-true low f.number parts.0, parts.1)

-- none waits at or below a number above which all wait
pub rises_free : (low : ℕ) (ws : List Waiting) (n : ℕ) → IsTrue (rises_from low ws) → n ≤ low → waiting_at ws n ≡ None
rises_free low [] n up h = refl
rises_free low (f ∷ fs) n up h =
    let parts = rises_parts low f fs up in
    let first = parts.0 in
    ap (λ (b : Bool). if b then Some f.entry else waiting_at fs n) (ne_eqb f.number n (λ e. absurd (omega (arith, e, first, h))))
    ∙ rises_free f.number fs n parts.1 (omega (arith, first, h))

pub get_beyond : (xs : List Entry) (k : ℕ) → length xs ≤ k → slice_get xs k ≡ None
get_beyond [] k h = refl
get_beyond (y ∷ ys) zero h = absurd (omega (arith, h))
get_beyond (y ∷ ys) (suc k) h = get_beyond ys k (omega (arith, h))

-- nothing stands next to the log's end
pub next_free : (b : BoardState) → IsTrue (rises_from (length b.log + 1) b.pending) → board_book b (suc (length b.log)) ≡ None
next_free b up =
    ap (λ (o : Option Entry). entry_or o (waiting_at b.pending (suc (length b.log)))) (get_beyond b.log (length b.log) (omega arith))
    ∙ rises_free (length b.log + 1) b.pending (suc (length b.log)) up (omega arith)

waits_or : (o : Option Entry) (e : Entry) → stands (entry_or o (Some e)) ≡ 1
waits_or None e = refl
waits_or (Some x) e = refl

-- what waits first stands past the next place
pub first_waits : (b : BoardState) (f : Waiting) (fs : List Waiting) → b.pending ≡ f ∷ fs → IsTrue (rises_from (length b.log + 1) b.pending)
    → (length b.log + 1 < f.number) × (stands (board_book b f.number) ≡ 1)
first_waits b f fs is up = (
  (rises_parts (length b.log + 1) f fs (subst (λ (ws : List Waiting). IsTrue (rises_from (length b.log + 1) ws)) is up)).0,
  ap (λ (o : Option Entry). stands (entry_or (book_of b.log f.number) o)) (ap (λ (ws : List Waiting). waiting_at ws f.number) is ∙ ap (λ (t : Bool). if t then Some f.entry else waiting_at fs f.number) (eq-eqb f.number f.number refl))
      ∙ waits_or (book_of b.log f.number) f.entry,
)
