-- what a history is that a gate was closed with: a session is one over it, and all its writes were judged
use Rattle.std.proofs.Common.{◌≡◌, ◌≤◌, ◌<◌, ◌+◌, ◌∙◌, ℕ, suc, zero, Bool, true, false, List, [], ◌∷◌, ◌++◌, append-nil, length, map, reverse, take, slice_get, nat_eq, nat_lt, Option, None, Some, refl, sym, ap, subst, arith, if◌then◌else◌}
use Rattle.std.proofs.lemmas.Bool.{eqb-true, ltb-false}
use Rattle.std.proofs.lemmas.List.{reverse-append}
use Rattle.std.specs.Arc.{arc_value}
use Rattle.sg_history.specs.declared.book.Waiting.{Waiting}
use Rattle.sg_history.specs.declared.entries.Entry.{Entry}
use Rattle.sg_history.specs.declared.entries.Entry.TheVariants as entry
use Rattle.sg_history.specs.declared.entries.Write.{Write}
use Rattle.sg_history.specs.Board.{BoardState, IsAfterAll, board_book}
use Rattle.sg_history.specs.Book.{book_of, entry_or, waiting_at}
use Rattle.sg_history.specs.History.{Extends}
use Rattle.seq_gate.specs.Counts.{numbers, count_once, times, count_used}
use Rattle.seq_gate.specs.Passes.{owed_count}
use Rattle.gateway_config.specs.declared.config.ConfigRole.{ConfigRole}
use Rattle.gateway_config.specs.declared.config.ConfigUser.{ConfigUser}
use Rattle.sync_syntax.specs.declared.tree.Program.{Program}
use Rattle.doc_board.specs.JudgedWrites.{IsJudgedWrite}
use Rattle.write_path.specs.Reads.{IsLaterThanAll, IsOneOf}
use Rattle.session_run.specs.declared.ended.End.TheVariants.{WireFault}
use Rattle.session_run.specs.declared.ended.Ended.{Ended}
use Rattle.session_run.specs.declared.serve.Setup.{Setup}
use Rattle.session_run.specs.Answered.{Moment}
use Rattle.session_run.specs.Judged.{AreJudged}
use Rattle.session_run.specs.Numbers.{named_of, AreNamedRising, AreNamedWithin}
use Rattle.session_run.specs.Served.{IsServed, IsSession}
use Rattle.session_run.specs.Turns.{steps_of, undone}
use Rattle.sg_outside.specs.declared.sink.Gave.{Gave}
use Rattle.sg_outside.specs.declared.wire.Got.{Got}
use Rattle.session_threads.specs.Opening.{AreOf, IsOpening, IsRoleEntry, IsUserEntry}
use Rattle.session_threads.specs.Played.{Device, IsSessionOf, IsSetup, Leaves}
use Rattle.session_threads.proofs.Reading.{WasReadLaws, later_one, was_one}
use Rattle.session_threads.proofs.Lining.{AllJudgedIn, IsJudgedIn, JudgedLater, judged_in}
use Rattle.session_threads.proofs.Bounding.{bounded_parts, bounded_steps}
use Rattle.session_threads.proofs.Checkpointing.{RisingCount, full_steps}

-- ---- counting

pub numbers-append : (ws vs : List Waiting) → numbers (ws ++ vs) ≡ numbers ws ++ numbers vs
numbers-append [] vs = refl
numbers-append (w ∷ ws) vs = ap (λ (ns : List ℕ). w.number ∷ ns) (numbers-append ws vs)

pub times-append : (k : ℕ) (ns ms : List ℕ) → times k (ns ++ ms) ≡ times k ns + times k ms
times-append k [] ms = omega arith
times-append k (n ∷ ns) ms = let more = times-append k ns ms in omega (arith, more)

pub times-reverse : (k : ℕ) (ns : List ℕ) → times k (reverse ns) ≡ times k ns
times-reverse k [] = refl
times-reverse k (n ∷ ns) =
    ap (times k) (reverse-append (n ∷ []) ns) ∙ times-append k (reverse ns) (n ∷ []) ∙ (let r = times-reverse k ns in omega (arith, r))

pub numbers_mapped : (ws : List Waiting) → map (λ (w : Waiting). w.number) ws ≡ numbers ws
numbers_mapped [] = refl
numbers_mapped (w ∷ ws) = ap (λ (ns : List ℕ). w.number ∷ ns) (numbers_mapped ws)

-- one of the entries has a number that stands among theirs
eq_number : (n k : ℕ) → nat_eq n k ≡ true → n ≡ k
eq_number n k is = eqb-true n k is

pub found : (h : List Entry) (program : Program) (k : ℕ) (ws : List Waiting) → 0 < times k (numbers ws) → AllJudgedIn h program ws → (w : Waiting) × (w.number ≡ k) × IsJudgedIn h program w
found h program k [] some all = absurd (omega (arith, some))
found h program k (w ∷ ws) some all = at_first (nat_eq w.number k) refl (λ more. found h program k ws more all.1)
  where
    at_first : (b : Bool) → nat_eq w.number k ≡ b → (0 < times k (numbers ws) → (v : Waiting) × (v.number ≡ k) × IsJudgedIn h program v) → (v : Waiting) × (v.number ≡ k) × IsJudgedIn h program v
    at_first true is others = (w, eq_number w.number k is, all.0)
    at_first false is others = others (let none : 0 < count_once false + times k (numbers ws) = subst (λ (b : Bool). 0 < count_once b + times k (numbers ws)) is some in omega (arith, none))

pub later_parts : (xs ys : List BoardState) (h : List Entry) → IsLaterThanAll (xs ++ ys) h → IsLaterThanAll xs h × IsLaterThanAll ys h
later_parts [] ys h all = (tt, all)
later_parts (x ∷ xs) ys h all = let rest = later_parts xs ys h all.1 in ((all.0, rest.0), rest.1)

pub after_parts : (xs ys : List BoardState) (b : BoardState) → IsAfterAll (xs ++ ys) b → IsAfterAll xs b × IsAfterAll ys b
after_parts [] ys b all = (tt, all)
after_parts (x ∷ xs) ys b all = let rest = after_parts xs ys b all.1 in ((all.0, rest.0), rest.1)

-- ---- an opening has no write

abbrev NoWrites : List Entry → Type 0
NoWrites [] = Unit {0}
NoWrites (e ∷ es) = ((w : Write) → e ≡ entry.Write w → ⊥) × NoWrites es

roles_none : (roles : List ConfigRole) (es : List Entry) → AreOf IsRoleEntry roles es → NoWrites es
roles_none [] [] are = tt
roles_none (r ∷ roles) (e ∷ es) are = (λ w is. put_role (sym are.0.entry ∙ is), roles_none roles es are.1)
  where
    put_role : {w : Write} {name : List ℕ} {channels : List (List ℕ)} → entry.PutRole name channels ≡ entry.Write w → ⊥
    put_role is = absurd cc
roles_none [] (e ∷ es) are = absurd are
roles_none (r ∷ roles) [] are = absurd are

users_none : (users : List ConfigUser) (es : List Entry) → AreOf IsUserEntry users es → NoWrites es
users_none [] [] are = tt
users_none (u ∷ users) (e ∷ es) are = (λ w is. put_user (sym are.0.entry ∙ is), users_none users es are.1)
  where
    put_user : {w : Write} {name : List ℕ} {channels roles : List (List ℕ)} → entry.PutUser name channels roles ≡ entry.Write w → ⊥
    put_user is = absurd cc
users_none [] (e ∷ es) are = absurd are
users_none (u ∷ users) [] are = absurd are

both_none : (es fs : List Entry) → NoWrites es → NoWrites fs → NoWrites (es ++ fs)
both_none [] fs a b = b
both_none (e ∷ es) fs a b = (a.0, both_none es fs a.1 b)

taken_none : (n : ℕ) (es : List Entry) → NoWrites es → NoWrites (take n es)
taken_none zero es none = tt
taken_none (suc n) [] none = tt
taken_none (suc n) (e ∷ es) none = (none.0, taken_none n es none.1)

none_at : (es : List Entry) (place : ℕ) (w : Write) → NoWrites es → slice_get es place ≡ Some (entry.Write w) → ⊥
none_at [] place w none is = absurd cc
none_at (e ∷ es) zero w none is = none.0 w (some_is is)
  where
    some_is : Some e ≡ Some (entry.Write w) → e ≡ entry.Write w
    some_is is = ap (λ (o : Option Entry). entry_in o) is
      where
        entry_in : Option Entry → Entry
        entry_in None = e
        entry_in (Some x) = x
none_at (e ∷ es) (suc place) w none is = none_at es place w none.1 is

opening_none : (roles : List ConfigRole) (users : List ConfigUser) (opening : List Entry) → IsOpening roles users opening → NoWrites opening
opening_none roles users opening is =
    subst NoWrites (sym is.entries) (taken_none 3999999 (is.roles ++ is.users) (both_none is.roles is.users (roles_none roles is.roles is.are_roles) (users_none users is.users is.are_users)))

-- before its end stands what stood there
before_end : (es more : List Entry) (place : ℕ) → place < length es → slice_get (es ++ more) place ≡ slice_get es place
before_end [] more place low = absurd (omega (arith, low))
before_end (e ∷ es) more zero low = refl
before_end (e ∷ es) more (suc place) low = before_end es more place (omega (arith, low))

in_opening : (opening h : List Entry) (k : ℕ) (w : Write) → Extends opening h → NoWrites opening → k ≤ length opening → book_of h k ≡ Some (entry.Write w) → ⊥
in_opening opening h zero w on none low is = absurd cc
in_opening opening h (suc place) w (more, on) none low is =
    none_at opening place w none (sym (before_end opening more place (omega (arith, low))) ∙ ap (λ (es : List Entry). slice_get es place) (sym on) ∙ is)

-- what the laws of sessions say
pub record SessionLaws : Type 0 where
  pub own : (setup : Setup) (start final : Moment) (ended : Ended) (results : List Got) (sent : List (List ℕ)) (failed : List Gave)
      → IsSession setup start final ended results sent failed
      → (added : List Waiting) × (final.own ≡ added ++ start.own) × (map (λ (w : Waiting). w.number) added ≡ reverse ended.stored) × AreJudged (arc_value setup.program) setup.user start.read final.read added
  pub numbers : (setup : Setup) (start final : Moment) (ended : Ended) (results : List Got) (sent : List (List ℕ)) (failed : List Gave)
      → (session : IsSession setup start final ended results sent failed) → AreNamedRising (named_of (undone session.halted ++ steps_of session.turns))
  pub closing : (setup : Setup) (start final : Moment) (ended : Ended) (results : List Got) (sent : List (List ℕ)) (failed : List Gave) (board : BoardState)
      → (session : IsSession setup start final ended results sent failed) → IsAfterAll final.read board → AreNamedWithin setup.user board.side (named_of (undone session.halted ++ steps_of session.turns))
  pub count : RisingCount

-- the entries of a session stand in the history, judged
session_judged : JudgedLater → (h : List Entry) (program : Program) (user : List ℕ) (before after : List BoardState) → IsLaterThanAll after h → (ws : List Waiting) → AreJudged program user before after ws → AllJudgedIn h program ws
session_judged on h program user before after all [] are = tt
session_judged on h program user before after all (w ∷ ws) (one, are) = (
  record {
    there = subst (λ (e : Entry). book_of h w.number ≡ Some e) (sym one.entry_is) judged.there;
    judged = λ x is. judged.judged x (sym one.entry_is ∙ is);
  },
  session_judged on h program user before after all ws are,
)
  where
    judged : IsJudgedIn h program (record { number = w.number; entry = entry.Write one.write })
    judged = judged_in on h program one.holding w.number one.write (later_one after one.holding h (was_one before after one.holding one.holding_read) all) one.there one.judged_write

-- what a session has of its own stands at the numbers that it lists, judged
pub record Stored (h : List Entry) (program : Program) (own : List Waiting) (stored : List ℕ) : Type 0 where
  pub judged : AllJudgedIn h program own
  pub count : (k : ℕ) → times k (numbers own) ≡ times k stored

pub stored_of : SessionLaws → JudgedLater → (h : List Entry) (program : Program) (setup : Setup) (start final : Moment) (ended : Ended) (results : List Got) (sent : List (List ℕ)) (failed : List Gave)
    → IsSession setup start final ended results sent failed → start.own ≡ [] → arc_value setup.program ≡ program → IsLaterThanAll final.read h → Stored h program final.own ended.stored
stored_of sessions on h program setup start final ended results sent failed session none judged_by all =
    let mine = sessions.own setup start final ended results sent failed session in
    let own : final.own ≡ mine.0 = mine.1 ∙ ap (λ (ws : List Waiting). mine.0 ++ ws) none ∙ append-nil mine.0 in record {
      judged = subst (λ (ws : List Waiting). AllJudgedIn h program ws) (sym own)
          (subst (λ (p : Program). AllJudgedIn h p mine.0) judged_by (session_judged on h (arc_value setup.program) setup.user start.read final.read all mine.0 mine.3));
      count = λ k. ap (λ (ws : List Waiting). times k (numbers ws)) own ∙ ap (times k) (sym (numbers_mapped mine.0) ∙ mine.2) ∙ times-reverse k ended.stored;
    }

-- a session that begins with a board of the gate's opening is one over the history that the gate was closed with
module _ (reads : WasReadLaws) (sessions : SessionLaws) (opened board : BoardState) (program : Program) (strict : Bool) (none : opened.bytes ≡ 0) (pending : board.pending ≡ []) (rooms : board.rooms ≡ []) where
  pub session_of : (d : Device) (left : Leaves) (setup : Setup) (start final : Moment) → IsSetup program strict d setup → IsServed setup start final d.traffic left.ended left.traffic → (left.ended.end ≡ WireFault → d.faults < left.faults)
      → IsOneOf start.read opened → IsLaterThanAll final.read board.log → IsAfterAll final.read board → IsSessionOf board program strict d left
  session_of d left setup start final is_setup served fault one later behind =
      let session = served.session in
      let now_after : IsAfterAll session.now.read board = (after_parts session.reads.reads.added session.now.read board (subst (λ (read : List BoardState). IsAfterAll read board) session.reads.reads.read behind)).1 in
      record {
        setup = setup;
        is_setup = is_setup;
        start = start;
        final = final;
        served = served;
        later = later;
        fault = fault;
        bounded = bounded_parts board.log (undone session.halted) (steps_of session.turns)
            (bounded_steps opened board none pending rooms reads start session.now setup.user (arc_value setup.program) setup.strict (undone session.halted ++ steps_of session.turns) one now_after session.answered);
        checkpoints = record {
          rising = sessions.numbers setup start final left.ended served.results served.sent served.failed session;
          within = sessions.closing setup start final left.ended served.results served.sent served.failed board session behind;
          full = full_steps sessions.count board start session.now setup.user (arc_value setup.program) setup.strict (undone session.halted ++ steps_of session.turns) now_after session.answered;
        };
      }

-- all writes of that history were judged, where the entries past the opening are judged ones, each once
module _ (opened board : BoardState) (program : Program) (begins : Extends opened.log board.log) (pending : board.pending ≡ []) (own : List Waiting) (judged : AllJudgedIn board.log program own)
    (owners : (k : ℕ) → times k (numbers own) ≡ owed_count (length opened.log) board k) where
  abbrev h : List Entry
  h = board.log

  same_entry : (k : ℕ) (w : Write) (v : Waiting) → v.number ≡ k → IsJudgedIn h program v → book_of h k ≡ Some (entry.Write w) → v.entry ≡ entry.Write w
  same_entry k w v at is there = same_some (sym is.there ∙ ap (λ (n : ℕ). book_of h n) at ∙ there)
    where
      entry_in : Option Entry → Entry
      entry_in None = v.entry
      entry_in (Some e) = e

      same_some : Some v.entry ≡ Some (entry.Write w) → v.entry ≡ entry.Write w
      same_some same = ap entry_in same

  book_is : (k : ℕ) (w : Write) → book_of h k ≡ Some (entry.Write w) → board_book board k ≡ Some (entry.Write w)
  book_is k w there = ap (λ (ws : List Waiting). entry_or (book_of h k) (waiting_at ws k)) pending ∙ ap (λ (o : Option Entry). entry_or o None) there

  pub all_judged_writes : (roles : List ConfigRole) (users : List ConfigUser) → IsOpening roles users opened.log → (k : ℕ) (w : Write) → book_of h k ≡ Some (entry.Write w) → IsJudgedWrite program (book_of h) k w
  all_judged_writes roles users opening k w there = by (nat_lt (length opened.log) k) refl
    where
      by : (past : Bool) → nat_lt (length opened.log) k ≡ past → IsJudgedWrite program (book_of h) k w
      by false low = absurd (in_opening opened.log h k w begins (opening_none roles users opened.log opening) (ltb-false (length opened.log) k low) there)
      by true past =
          let one : 0 < times k (numbers own) =
          omega (arith, owners k ∙ ap (λ (b : Bool). if b then count_used (board_book board k) else 0) past ∙ ap (λ (o : Option Entry). count_used o) (book_is k w there)) in
          let it = found h program k own one judged in
          subst (λ (n : ℕ). IsJudgedWrite program (book_of h) n w) it.1 (it.2.judged w (same_entry k w it.0 it.1 it.2 there))
