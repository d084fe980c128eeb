-- Each step keeps the rule of the gate.
use Rattle.std.proofs.Common.{◌≡◌, ◌≢◌, ◌≤◌, ◌<◌, ◌+◌, ◌-◌, ◌^◌, ◌%◌, ℕ, suc, max, refl, sym, ap, subst, ◌∙◌, inl, ⊎_elim, arith, mod-eq_of_lt, true≢false, List, [], ◌∷◌, length, set, Option, Some, None, nat_eq}
use Rattle.std.specs.Prelude.{slice_index}
use Rattle.std.proofs.lemmas.List.{length-set, append-nil}
use Rattle.std.proofs.Math.Nat.{mod-add-mod}
use Rattle.std.proofs.lemmas.Option.{same_Some, none-some}
use mathlib.Core.Option.{none, some}
use mathlib.Core.Option as maybe
use native.Mathlib.Decide.{ℕ_discrete}
use lib.ListN.{get_elem?}
use Rattle.atomic_table.specs.Table.{State, Allows, step, keeps, takes, gives}
use Rattle.atomic_table.proofs.Lists.{at_set, set_here, one_turn}
use Rattle.sg_history.specs.Board.{BoardState, board_book, After}
use Rattle.sg_history.specs.World.{once_among}
use Rattle.seq_gate.specs.Counts.{count_once, total}
use Rattle.seq_gate.specs.Passes.{share, drawn, drawn_in_turn, with_lowest_front, stored_at, IsNew, IsAboveBook, Finds, MayLeave}
use Rattle.seq_gate.specs.Rule.{is_ticket, one_if_some, idle, spent, Fits, IsSound}
use Rattle.seq_gate.specs.Turns.{knowing, ticketed, in_turn, leaving, passing, passed, Draws, DrawsInTurn, TakesTicket, Looks, Raises, Passes, LoadsFront, LoadsShare}
use Rattle.seq_gate.specs.declared.known.Known.{Known}
use Rattle.seq_gate.specs.declared.known.View.{View}
use Rattle.seq_gate.proofs.Counting.{tick_same, once_some, once_most, once_more, below_most, below_some, below_zero, below_more, same_total, total_set, total_has, total_two, total_least, total_less}
use Rattle.seq_gate.proofs.Holding.{none_of, after_all, has_after, has_both, stored_has, above_all, extends_again}
use Rattle.seq_gate.proofs.Sums.{each_once, Moves, extends_length, above_last, log_drawn, held_within, rooms_within, set_sums, still, raised}

-- ---- what the rule says at once

no_share : (v : View) → v ≡ spent → 0 < share v.knows → ⊥
no_share v is least = let z : share v.knows ≡ 0 = ap (λ (u : View). share u.knows) is in omega (arith, z, least)

module _ {B : Type 0} (seen : B → BoardState) (o : ℕ) (s : State (Option B) View) (sound : IsSound seen o s) where
  made_most : total (λ (u : View). u.knows.made) s.views ≤ 2 ^ 62
  made_most =
      let least = total_least (λ (u : View). u.knows.made) (λ (u : View). share u.knows) s.views (λ k u at. omega arith) in
      let all = sound.sums.shares in omega (arith, least, all)

  -- no number wraps
  pub drawn_most : sound.n ≤ 2 ^ 63
  drawn_most = let m = made_most in let d = sound.sums.draws in let b = sound.sums.opened in omega (arith, m, d, b)

  -- no view has more draws than there are
  pub share_most : (id : ℕ) (v : View) → get_elem? s.views id ≡ some v → share v.knows ≤ 2 ^ 62
  share_most id v at = let h = total_has (λ (u : View). share u.knows) s.views id v at in let all = sound.sums.shares in omega (arith, h, all)

  waits_share : (k : ℕ) (u : View) → get_elem? s.views k ≡ some u → one_if_some u.ticket ≤ share u.knows
  waits_share k u at = ⊎_elim
      (λ (x : 2 ^ 32 ≤ share u.knows). let most : one_if_some u.ticket ≤ 1 = at_most u.ticket in omega (arith, x, most))
      (λ (x : u ≡ spent). let z : one_if_some u.ticket ≡ 0 = ap (λ (y : View). one_if_some y.ticket) x in omega (arith, z))
      (sound.fits k u at).part
    where
      at_most : (t : Option ℕ) → one_if_some t ≤ 1
      at_most None = omega arith
      at_most (Some t) = omega arith

  -- there are few tickets that wait
  few : sound.given ≤ sound.served + 2 ^ 62
  few =
      let least = total_least (λ (u : View). one_if_some u.ticket) (λ (u : View). share u.knows) s.views waits_share in
      let all = sound.sums.shares in
      let w = sound.sums.queued in omega (arith, least, all, w)

  module _ (id m : ℕ) (v : View) (at : get_elem? s.views id ≡ some v) (mine : v.ticket ≡ Some m) where
    my_tick : (k : ℕ) → m ≡ k → is_ticket k v.ticket ≡ 1
    my_tick k e = ap (is_ticket k) mine ∙ tick_same k m e

    -- a ticket lies between those served and those given
    pub ticket_within : (sound.served ≤ m) × (m < sound.given)
    ticket_within =
        let has = total_has (λ (u : View). is_ticket m u.ticket) s.views id v at in
        let one = my_tick m refl in
        let all = sound.sums.tickets m in
        let most = below_most m sound.given in (
          below_zero m sound.served (omega (arith, has, one, all, most)),
          below_some m sound.given (omega (arith, has, one, all)),
        )

    -- the word says the ticket's number just where it is the one served
    pub is_served : sound.served % 2 ^ 64 ≡ m % 2 ^ 64 → sound.served ≡ m
    is_served same = let w = ticket_within in let f = few in one_turn sound.served m (2 ^ 64) w.0 (let a = w.1 in omega (arith, a, f)) same

    module _ (now : sound.served ≡ m) where
      one_ticket : total (λ (u : View). is_ticket m u.ticket) s.views ≤ 1
      one_ticket = let all = sound.sums.tickets m in let most = below_most m sound.given in omega (arith, all, most)

      -- nobody else has it
      pub alone : (k : ℕ) (u : View) → k ≢ id → get_elem? s.views k ≡ some u → u.ticket ≡ Some sound.served → ⊥
      alone k u apart there its =
          let two = total_two (λ (y : View). is_ticket m y.ticket) s.views k id u v there at apart in
          let a = my_tick m refl in
          let b : is_ticket m u.ticket ≡ 1 = ap (is_ticket m) its ∙ tick_same m sound.served now in
          let most = one_ticket in
          omega (arith, two, a, b, most)

      found_ticket : (k : ℕ) (u : View) → get_elem? s.views k ≡ some u → one_if_some u.found ≤ is_ticket m u.ticket
      found_ticket k u there = go u.found refl
        where
          go : (f : Option BoardState) → u.found ≡ f → one_if_some f ≤ is_ticket m u.ticket
          go None is = omega arith
          go (Some b) is =
              let one : is_ticket m u.ticket ≡ 1 = ap (is_ticket m) ((sound.fits k u there).turn b is).0 ∙ tick_same m sound.served now in
              omega (arith, one)

      -- where it isn't in turn, nobody is
      pub nobody : v.found ≡ None → total (λ (u : View). one_if_some u.found) s.views ≡ 0
      nobody off =
          let less = total_less (λ (u : View). one_if_some u.found) (λ (u : View). is_ticket m u.ticket) s.views id v found_ticket at in
          let a = my_tick m refl in
          let b : one_if_some v.found ≡ 0 = ap (λ (f : Option BoardState). one_if_some f) off in
          let most = one_ticket in
          omega (arith, less, a, b, most)

-- ---- the steps

word : (ws : List ℕ) (i : ℕ) (x y z u : ℕ) → ws ≡ x ∷ y ∷ z ∷ u ∷ [] → slice_index ws i ≡ slice_index (x ∷ y ∷ z ∷ u ∷ []) i
word ws i x y z u is = ap (λ (l : List ℕ). slice_index l i) is

module _ {B : Type 0} (seen : B → BoardState) (o : ℕ) where
  -- the board is at home, as it was last
  abbrev IsHome : List (maybe.Option (Option B)) → BoardState → Type 0
  IsHome homes last = (board : B) × (get_elem? homes 0 ≡ some (some (Some board))) × (seen board ≡ last)

  module _ (s : State (Option B) View) (sound : IsSound seen o s) (id : ℕ) (v : View) (at : get_elem? s.views id ≡ some v) where
    put_sound : (m h t : ℕ) (now : BoardState) (w : View) (words : List ℕ) (homes : List (maybe.Option (Option B)))
        → words ≡ m ∷ h % 2 ^ 64 ∷ t % 2 ^ 64 ∷ length now.log ∷ [] → length homes ≡ 1
        → Moves o sound.n sound.given sound.served sound.last v m h t now w → Fits o t now w
        → ((k : ℕ) (u : View) → k ≢ id → get_elem? s.views k ≡ some u → Fits o t now u)
        → (total (λ (u : View). one_if_some u.found) (set s.views id w) ≡ 0 → IsHome homes now)
        → IsSound seen o record { words = words; homes = homes; views = set s.views id w }
    put_sound m h t now w words homes is one moves mine others home =
        record {
          n = m;
          given = h;
          served = t;
          last = now;
          words = is;
          homes = one;
          fits = λ k u there. ⊎_elim
              (λ (x : (k ≡ id) × (w ≡ u)). subst (Fits o t now) x.1 mine)
              (λ (x : (k ≢ id) × (get_elem? s.views k ≡ some u)). others k u x.0 x.1)
              (at_set s.views id k w u there);
          sums = set_sums o sound.n sound.given sound.served sound.last s.views sound.sums id v at m h t now w moves;
          home = home;
        }

    still_home : (w : View) → w.found ≡ v.found → total (λ (u : View). one_if_some u.found) (set s.views id w) ≡ 0 → IsHome s.homes sound.last
    still_home w same nobody_now = sound.home (sym (same_total (λ (u : View). one_if_some u.found) s.views id v w at (ap (λ (f : Option BoardState). one_if_some f) same)) ∙ nobody_now)

    fits_others : (k : ℕ) (u : View) → k ≢ id → get_elem? s.views k ≡ some u → Fits o sound.served sound.last u
    fits_others k u apart there = sound.fits k u there

abbrev drawn_as : Known → ℕ → ℕ → Known
drawn_as p n t = record p { left = p.left - 1; made = suc p.made; in_turns = t; held = n ∷ p.held }

module _ {B : Type 0} (seen : B → BoardState) (o slots id : ℕ) where
  -- ---- drawing

  module _ (v : View) (t : ℕ) (left : 0 < v.knows.left) (s : State (Option B) View) (sound : IsSound seen o s) (at : get_elem? s.views id ≡ some v) where
    first_word : slice_index s.words 0 ≡ sound.n
    first_word = word s.words 0 sound.n (sound.given % 2 ^ 64) (sound.served % 2 ^ 64) (length sound.last.log) sound.words

    no_wrap : (slice_index s.words 0 + 1) % 2 ^ 64 ≡ suc sound.n
    no_wrap = let is = first_word in let most = drawn_most seen o s sound in mod-eq_of_lt (omega (arith, is, most)) ∙ omega (arith, is)

    new_number : IsNew v.knows (suc sound.n)
    new_number =
        let mine = sound.fits id v at in
        let most = drawn_most seen o s sound in
        let logged = log_drawn o sound.n sound.given sound.served sound.last s.views sound.sums in
        let front = mine.front in
        record {
          least = omega arith;
          small = omega (arith, most);
          lowest_front = omega (arith, front, logged);
          held = λ k some_held.
              let a = held_within o sound.n sound.given sound.served sound.last s.views sound.sums id v at k in
              let low = (once_some k sound.n (omega (arith, a, some_held))).1 in omega (arith, low);
          read = above_all v.knows.read sound.last (suc sound.n) mine.read (above_last o sound.n sound.given sound.served sound.last s.views sound.sums);
        }

    above_found : (board : BoardState) → v.found ≡ Some board → IsAboveBook (suc sound.n) (board_book board)
    above_found board is =
        subst (λ (b : BoardState). IsAboveBook (suc sound.n) (board_book b)) (sym ((sound.fits id v at).turn board is).1) (above_last o sound.n sound.given sound.served sound.last s.views sound.sums)

    drawn_sound : (n : ℕ) → n ≡ sound.n → IsSound seen o record { words = set s.words 0 (suc n); homes = s.homes; views = set s.views id (knowing v (drawn_as v.knows (suc n) t)) }
    drawn_sound n is =
        let w = knowing v (drawn_as v.knows (suc n) t) in
        let mine = sound.fits id v at in
        put_sound seen o s sound id v at (suc n) sound.given sound.served sound.last w (set s.words 0 (suc n)) s.homes
        (ap (λ (l : List ℕ). set l 0 (suc n)) sound.words)
        sound.homes
        record {
          shares = omega (arith, left);
          draws = omega (arith, is);
          tickets = λ k. omega arith;
          queued = omega arith;
          world = λ k. let more = once_more k n in let same : once_among k sound.n ≡ once_among k n = ap (once_among k) (sym is) in omega (arith, more, same);
          waiting = sound.sums.waiting;
          grown = sound.sums.grown;
          rooms = λ room. refl;
          owners = λ k. refl;
        }
        record {
          opened = λ least. mine.opened (omega (arith, left));
          part = ⊎_elim
              (λ (p : 2 ^ 32 ≤ share v.knows). inl (omega (arith, p, left)))
              (λ (p : v ≡ spent). absurd (no_share v p (omega (arith, left))))
              mine.part;
          seen = mine.seen;
          lowest_front = mine.lowest_front;
          front = mine.front;
          read = mine.read;
          own = mine.own;
          turn = mine.turn;
          back = mine.back;
        }
        (fits_others seen o s sound id v at)
        (still_home seen o s sound id v at w refl)

    -- with the number as the word has it
    drawn_word : IsSound seen o record { words = set s.words 0 ((slice_index s.words 0 + 1) % 2 ^ 64); homes = s.homes; views = set s.views id (knowing v (drawn_as v.knows (suc (slice_index s.words 0)) t)) }
    drawn_word =
        let m = slice_index s.words 0 in
        subst (λ (x : ℕ). IsSound seen o record { words = set s.words 0 x; homes = s.homes; views = set s.views id (knowing v (drawn_as v.knows (suc m) t)) }) (omega (arith, no_wrap, first_word)) (drawn_sound m first_word)

    new_word : IsNew v.knows (suc (slice_index s.words 0))
    new_word = subst (λ (x : ℕ). IsNew v.knows (suc x)) (sym first_word) new_number

    above_word : (board : BoardState) → v.found ≡ Some board → IsAboveBook (suc (slice_index s.words 0)) (board_book board)
    above_word = subst (λ (x : ℕ). (board : BoardState) → v.found ≡ Some board → IsAboveBook (suc x) (board_book board)) (sym first_word) above_found

  pub to_draw : (v : View) (c : List (ℕ × Option B)) → 0 < v.knows.left → Allows (IsSound seen o) slots id (v, c) 0 (λ n. (n + 1) % 2 ^ 64) (Draws (step slots 0 1 0 none) (v, c))
  to_draw v c left s sound room at small = (
    knowing v (drawn v.knows (suc (slice_index s.words 0))),
    keeps,
    tt,
    drawn_word v v.knows.in_turns left s sound at,
    (refl, new_word v v.knows.in_turns left s sound at),
  )

  pub to_draw_in_turn : (v : View) (c : List (ℕ × Option B)) → 0 < v.knows.left → Allows (IsSound seen o) slots id (v, c) 0 (λ n. (n + 1) % 2 ^ 64) (DrawsInTurn (step slots 0 1 0 none) (v, c))
  to_draw_in_turn v c left s sound room at small = (
    knowing v (drawn_in_turn v.knows (suc (slice_index s.words 0))),
    keeps,
    tt,
    drawn_word v (suc v.knows.in_turns) left s sound at,
    (refl, new_word v (suc v.knows.in_turns) left s sound at, above_word v (suc v.knows.in_turns) left s sound at),
  )

  -- ---- the ticket

  pub to_ticket : (p : Known) → 2 ^ 32 ≤ share p → Allows (IsSound seen o) slots id (idle p, []) 1 (λ n. (n + 1) % 2 ^ 64) (TakesTicket (step slots 1 1 0 none) (idle p, []))
  to_ticket p part s sound room at small =
      let t = sound.given in
      let v = idle p in
      let w = ticketed v t in
      let mine = sound.fits id v at in
      let is : slice_index s.words 1 ≡ t % 2 ^ 64 = word s.words 1 sound.n (t % 2 ^ 64) (sound.served % 2 ^ 64) (length sound.last.log) sound.words in
      let next : (slice_index s.words 1 + 1) % 2 ^ 64 ≡ suc t % 2 ^ 64 = ap (λ (x : ℕ). (x + 1) % 2 ^ 64) is ∙ mod-add-mod t (2 ^ 64) 1 ∙ ap (λ (x : ℕ). x % 2 ^ 64) (omega arith) in (
        w,
        keeps,
        tt,
        put_sound seen o s sound id v at sound.n (suc t) sound.served sound.last w (set s.words 1 ((slice_index s.words 1 + 1) % 2 ^ 64)) s.homes
            (ap (λ (l : List ℕ). set l 1 ((slice_index s.words 1 + 1) % 2 ^ 64)) sound.words ∙ ap (λ (x : ℕ). sound.n ∷ x ∷ sound.served % 2 ^ 64 ∷ length sound.last.log ∷ []) next)
            sound.homes
            record {
              shares = refl;
              draws = omega arith;
              tickets = λ k. let more = below_more k t in omega (arith, more);
              queued = omega arith;
              world = λ k. omega arith;
              waiting = sound.sums.waiting;
              grown = sound.sums.grown;
              rooms = λ r. refl;
              owners = λ k. refl;
            }
            record {
              opened = mine.opened;
              part = inl part;
              seen = mine.seen;
              lowest_front = mine.lowest_front;
              front = mine.front;
              read = mine.read;
              own = mine.own;
              turn = λ board off. absurd (none-some board off);
              back = λ on. absurd (true≢false (sym on));
            }
            (fits_others seen o s sound id v at)
            (still_home seen o s sound id v at w refl),
        (t, is, refl),
      )

  -- ---- steps that change nothing that is counted

  -- a word that is loaded stays
  same_words : (s : State (Option B) View) (sound : IsSound seen o s) (i : ℕ) → set s.words i (slice_index s.words i) ≡ set (sound.n ∷ sound.given % 2 ^ 64 ∷ sound.served % 2 ^ 64 ∷ length sound.last.log ∷ []) i (slice_index (sound.n ∷ sound.given % 2 ^ 64 ∷ sound.served % 2 ^ 64 ∷ length sound.last.log ∷ []) i)
  same_words s sound i = ap (λ (l : List ℕ). set l i (slice_index l i)) sound.words

  stays : (s : State (Option B) View) (sound : IsSound seen o s) (v : View) → get_elem? s.views id ≡ some v → (words : List ℕ) → words ≡ sound.n ∷ sound.given % 2 ^ 64 ∷ sound.served % 2 ^ 64 ∷ length sound.last.log ∷ []
      → IsSound seen o record { words = words; homes = s.homes; views = set s.views id v }
  stays s sound v at words is =
      put_sound seen o s sound id v at sound.n sound.given sound.served sound.last v words s.homes is sound.homes
      (still o sound.n sound.given sound.served sound.last s.views sound.sums id v at v refl refl refl refl refl refl)
      (sound.fits id v at) (fits_others seen o s sound id v at) (still_home seen o s sound id v at v refl)

  pub to_share : (v : View) (c : List (ℕ × Option B)) → Allows (IsSound seen o) slots id (v, c) 0 (λ n. n) (LoadsShare (step slots 0 0 0 none) (v, c))
  to_share v c s sound room at small =
      (v, keeps, tt, stays s sound v at (set s.words 0 (slice_index s.words 0)) (same_words s sound 0), (refl, share_most seen o s sound id v at, each_once o sound.n sound.given sound.served sound.last s.views sound.sums id v at))

  pub to_front : (p : Known) → 2 ^ 32 ≤ share p → Allows (IsSound seen o) slots id (idle p, []) 3 (λ n. n) (LoadsFront (step slots 3 0 0 none) (idle p, []))
  to_front p part s sound room at small =
      let v = idle p in
      let front = slice_index s.words 3 in
      let is : front ≡ length sound.last.log = word s.words 3 sound.n (sound.given % 2 ^ 64) (sound.served % 2 ^ 64) (length sound.last.log) sound.words in
      let w = idle (with_lowest_front p front) in
      let mine = sound.fits id v at in
      let before = mine.front in (
        w,
        keeps,
        tt,
        put_sound seen o s sound id v at sound.n sound.given sound.served sound.last w (set s.words 3 front) s.homes (same_words s sound 3) sound.homes
            (still o sound.n sound.given sound.served sound.last s.views sound.sums id v at w refl refl refl refl refl refl)
            record {
              opened = mine.opened;
              part = inl part;
              seen = mine.seen;
              lowest_front = let a = extends_length p.seen sound.last.log mine.seen in omega (arith, a, is);
              front = omega (arith, is);
              read = mine.read;
              own = mine.own;
              turn = λ board off. absurd (none-some board off);
              back = λ on. absurd (true≢false (sym on));
            }
            (fits_others seen o s sound id v at)
            (still_home seen o s sound id v at w refl),
        (refl, omega (arith, before, is)),
      )

  -- ---- the turn comes

  pub to_look : (p : Known) (m : ℕ) → 2 ^ 32 ≤ share p → Allows (IsSound seen o) slots id (ticketed (idle p) m, []) 2 (λ n. n) (Looks seen (step slots 2 0 0 none) (ticketed (idle p) m, []))
  to_look p m part s sound room at small = elim (ℕ_discrete (slice_index s.words 2) (m % 2 ^ 64)) [
    | yes e ↦
        let now : sound.served ≡ m = is_served seen o s sound id m v at refl (sym is ∙ e) in
        let none_serves = nobody seen o s sound id m v at refl now refl in
        let out = sound.home none_serves in
        let b = sound.last in
        let w = in_turn v (seen out.0) in
        let mine = sound.fits id v at in (
          w,
          takes 0 (Some out.0),
          out.1,
          put_sound seen o s sound id v at sound.n sound.given sound.served b w (set s.words 2 (slice_index s.words 2)) (set s.homes 0 none) (same_words s sound 2) (length-set s.homes 0 none ∙ sound.homes)
              (still o sound.n sound.given sound.served b s.views sound.sums id v at w refl refl refl refl refl refl)
              record {
                opened = mine.opened;
                part = inl part;
                seen = mine.seen;
                lowest_front = mine.lowest_front;
                front = mine.front;
                read = mine.read;
                own = mine.own;
                turn = λ board its. (ap (λ (x : ℕ). Some x) (sym now), sym (same_Some (seen out.0) board its) ∙ out.2);
                back = λ on. absurd (true≢false (sym on));
              }
              (fits_others seen o s sound id v at)
              (λ none_serve.
              let t = total_set (λ (u : View). one_if_some u.found) s.views id v w at in
              absurd (omega (arith, t, none_serve))),
          (λ n its.
              let same : n ≡ m = same_Some n m (sym its) in (
                (λ _. (out.0, subst (λ (x : BoardState). Finds p x) (sym out.2) (found_last mine), refl)),
                (λ other. absurd (other (e ∙ ap (λ (x : ℕ). x % 2 ^ 64) (sym same)))),
              )),
        )
    | no e ↦ (
      v,
      keeps,
      tt,
      stays s sound v at (set s.words 2 (slice_index s.words 2)) (same_words s sound 2),
      (λ n its.
          let same : n ≡ m = same_Some n m (sym its) in
          ((λ f. absurd (e (f ∙ ap (λ (x : ℕ). x % 2 ^ 64) same))), (λ _. refl))),
    )
  ]
    where
      v : View
      v = ticketed (idle p) m

      is : slice_index s.words 2 ≡ sound.served % 2 ^ 64
      is = word s.words 2 sound.n (sound.given % 2 ^ 64) (sound.served % 2 ^ 64) (length sound.last.log) sound.words

      found_last : Fits o sound.served sound.last v → Finds p sound.last
      found_last mine =
          record {
            seen = mine.seen;
            lowest_front = mine.front;
            read = mine.read;
            own = mine.own;
            held = λ k some_held.
                let a = held_within o sound.n sound.given sound.served sound.last s.views sound.sums id v at k in
                let most = once_most k sound.n in
                let c = once_some k sound.n (omega (arith, a, some_held)) in
                (c.0, none_of (board_book sound.last k) (omega (arith, a, most, some_held)));
            rooms = rooms_within o sound.n sound.given sound.served sound.last s.views sound.sums id v at;
            waiting = sound.sums.waiting;
          }

  -- ---- the board comes back, and the front is raised

  pub to_raise : ((b : BoardState) → After b b) → ((a b c : BoardState) → After a b → After b c → After a c) → (p : Known) (ticket : ℕ) (found : BoardState) (kept : B) (front : ℕ) → front ≡ length (seen kept).log → MayLeave p found (seen kept) → 2 ^ 32 ≤ share p
      → Allows (IsSound seen o) slots id (in_turn (ticketed (idle p) ticket) found, (0, Some kept) ∷ []) 3 (λ n. max n front) (Raises seen (step slots 3 front 0 none) (in_turn (ticketed (idle p) ticket) found, (0, Some kept) ∷ []))
  to_raise itself again p ticket found kept front long may_leave part s sound room at small = (
    w,
    gives,
    tt,
    put_sound seen o s sound id v at sound.n sound.given sound.served left w (set s.words 3 (max (slice_index s.words 3) front)) (set s.homes 0 (some (Some kept)))
        (ap (λ (l : List ℕ). set l 3 (max (slice_index s.words 3) front)) sound.words ∙ ap (λ (x : ℕ). sound.n ∷ sound.given % 2 ^ 64 ∷ sound.served % 2 ^ 64 ∷ x ∷ []) (omega (arith, is, long, grew)))
        (length-set s.homes 0 (some (Some kept)) ∙ sound.homes)
        (subst (λ (b : BoardState). Moves o sound.n sound.given sound.served sound.last v sound.n sound.given sound.served left (leaving v b left)) (sym here.1) (raised o sound.n sound.given sound.served sound.last s.views sound.sums id v at left may))
        record {
          opened = mine.opened;
          part = inl part;
          seen = ([], sym (append-nil left.log));
          lowest_front = omega arith;
          front = omega arith;
          read = (itself left, (may_leave.after, after_all again p.read sound.last left mine.read may.after));
          own = has_both left (stored_at (board_book left) p.held) p.own (stored_has left p.held) (has_after p.own sound.last left mine.own may.after);
          turn = λ board off. absurd (none-some board off);
          back = λ _. here.0;
        }
        (λ k u apart there.
        let u_fits = sound.fits k u there in
        record {
          opened = u_fits.opened;
          part = u_fits.part;
          seen = extends_again u.knows.seen sound.last.log left.log u_fits.seen may.after.log;
          lowest_front = u_fits.lowest_front;
          front = let f = u_fits.front in omega (arith, f, grew);
          read = after_all again u.knows.read sound.last left u_fits.read may.after;
          own = has_after u.knows.own sound.last left u_fits.own may.after;
          turn = λ board its. absurd (alone seen o s sound id sound.served v at here.0 refl k u apart there (u_fits.turn board its).0);
          back = u_fits.back;
        })
        (λ _. (kept, set_here s.homes 0 (some (Some kept)) (let one = sound.homes in omega (arith, one)), refl)),
    (λ other board e its.
        let pair : ◌≡◌ {A = ℕ × Option B} (0, Some kept) (0, Some other) = cc in
        let same = same_Some kept other (ap (λ (x : ℕ × Option B). x.1) pair) in
        let same_board = same_Some found board its in
        λ i. (leaving v (same_board i) (seen (same i)), [])),
  )
    where
      v : View
      v = in_turn (ticketed (idle p) ticket) found

      left : BoardState
      left = seen kept

      w : View
      w = leaving v found left

      mine : Fits o sound.served sound.last v
      mine = sound.fits id v at

      here : (v.ticket ≡ Some sound.served) × (found ≡ sound.last)
      here = mine.turn found refl

      may : MayLeave p sound.last left
      may = subst (λ (b : BoardState). MayLeave p b left) here.1 may_leave

      grew : length sound.last.log ≤ length left.log
      grew = extends_length sound.last.log left.log may.after.log

      is : slice_index s.words 3 ≡ length sound.last.log
      is = word s.words 3 sound.n (sound.given % 2 ^ 64) (sound.served % 2 ^ 64) (length sound.last.log) sound.words

  -- ---- the turn is passed on

  pub to_pass : (p : Known) (ticket : ℕ) → 2 ^ 32 ≤ share p
      → Allows (IsSound seen o) slots id (passing p ticket, []) 2 (λ n. (n + 1) % 2 ^ 64) (Passes (step slots 2 1 0 none) (passing p ticket, []))
  to_pass p ticket part s sound room at small = (
    w,
    keeps,
    tt,
    put_sound seen o s sound id v at sound.n sound.given (suc t) sound.last w (set s.words 2 ((slice_index s.words 2 + 1) % 2 ^ 64)) s.homes
        (ap (λ (l : List ℕ). set l 2 ((slice_index s.words 2 + 1) % 2 ^ 64)) sound.words ∙ ap (λ (x : ℕ). sound.n ∷ sound.given % 2 ^ 64 ∷ x ∷ length sound.last.log ∷ []) next)
        sound.homes
        record {
          shares = refl;
          draws = omega arith;
          tickets = λ k. let more = below_more k t in let mark : is_ticket k (Some ticket) ≡ count_once (nat_eq t k) = ap (is_ticket k) (mine.back refl) in omega (arith, more, mark);
          queued = omega arith;
          world = λ k. omega arith;
          waiting = sound.sums.waiting;
          grown = sound.sums.grown;
          rooms = λ r. refl;
          owners = λ k. refl;
        }
        record {
          opened = mine.opened;
          part = inl part;
          seen = mine.seen;
          lowest_front = mine.lowest_front;
          front = mine.front;
          read = mine.read;
          own = mine.own;
          turn = λ board off. absurd (none-some board off);
          back = λ on. absurd (true≢false (sym on));
        }
        (λ k u apart there.
        let u_fits = sound.fits k u there in
        let others = alone seen o s sound id t v at (mine.back refl) refl k u apart there in
        record {
          opened = u_fits.opened;
          part = u_fits.part;
          seen = u_fits.seen;
          lowest_front = u_fits.lowest_front;
          front = u_fits.front;
          read = u_fits.read;
          own = u_fits.own;
          turn = λ board its. absurd (others (u_fits.turn board its).0);
          back = λ on. absurd (others (u_fits.back on));
        })
        (still_home seen o s sound id v at w refl),
    refl,
  )
    where
      v : View
      v = passing p ticket

      w : View
      w = passed v

      t : ℕ
      t = sound.served

      mine : Fits o sound.served sound.last v
      mine = sound.fits id v at

      next : (slice_index s.words 2 + 1) % 2 ^ 64 ≡ suc t % 2 ^ 64
      next =
          ap (λ (x : ℕ). (x + 1) % 2 ^ 64) (word s.words 2 sound.n (sound.given % 2 ^ 64) (t % 2 ^ 64) (length sound.last.log) sound.words)
          ∙ mod-add-mod t (2 ^ 64) 1 ∙ ap (λ (x : ℕ). x % 2 ^ 64) (omega arith)
