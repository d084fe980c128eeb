-- passes that were taken in, and what a history is that a gate was closed with behind a script and sessions
use Rattle.std.proofs.Common.{◌≡◌, ◌<◌, ◌+◌, ◌*◌, ◌^◌, ◌∙◌, ◌⊎◌, ℕ, suc, Bool, List, [], ◌∷◌, ◌++◌, append-nil, length, map, reverse, not, Option, Some, inl, inr, refl, sym, ap, subst, arith, le_refl}
use Rattle.std.specs.Arc.{arc_value}
use Rattle.atomic_table.specs.Seated.{TableId}
use Rattle.sg_history.specs.declared.book.Waiting.{Waiting}
use Rattle.sg_history.specs.declared.entries.Entry.{Entry}
use Rattle.sg_history.specs.declared.entries.Entry.TheVariants as entry
use Rattle.sg_history.specs.declared.entries.Write.{Write}
use Rattle.sg_history.specs.declared.room.RoomFor.{RoomFor}
use Rattle.sg_history.specs.Board.{After, BoardState, IsAfterAll}
use Rattle.sg_history.specs.Book.{book_of}
use Rattle.seq_gate.specs.Counts.{numbers, times, total}
use Rattle.seq_gate.specs.Passes.{first_pass, joined_passes, owed_count, share, split_off}
use Rattle.seq_gate.specs.Views.{PassView}
use Rattle.seq_gate.specs.declared.known.Known.{Known}
use Rattle.principals.specs.declared.admin_line.AdminLine.{AdminLine}
use Rattle.gateway_config.specs.declared.config.Config.{Config}
use Rattle.gateway_config.specs.declared.config.ConfigRole.{ConfigRole}
use Rattle.gateway_config.specs.declared.config.ConfigUser.{ConfigUser}
use Rattle.sync_syntax.specs.declared.tree.Program.{Program}
use Rattle.doc_board.specs.Boards.{board_of, bytes_stored, bytes_waiting, bytes_asked}
use Rattle.doc_board.specs.JudgedWrites.{IsJudgedWrite}
use Rattle.doc_board.specs.State.{State}
use Rattle.write_path.specs.Reads.{IsLaterThanAll}
use Rattle.write_path.specs.Shared.{Rests}
use Rattle.sg_outside.specs.Wire.{Traffic}
use Rattle.session_run.specs.Served.{IsServed}
use Rattle.session_threads.specs.declared.played.LineOutcome.{LineOutcome}
use Rattle.session_threads.specs.Bounds.{AreBoundedLines}
use Rattle.session_threads.specs.Lines.{AreLinesAt, stored_sequences}
use Rattle.session_threads.specs.Opening.{IsOpening}
use Rattle.session_threads.specs.Pairs.{AllPairs}
use Rattle.session_threads.specs.Played.{Device, IsPlayed, IsSessionOf, Leaves}
use Rattle.session_threads.specs.inner.Runs.{AreClosed, AreThreaded, Begun, Gone, IsGone, IsReadyFor, joined_all, moment_at}
use Rattle.session_threads.proofs.Reading.{Newest, WasReadLaws}
use Rattle.session_threads.proofs.Lining.{AllJudgedIn, JudgedLater, all_judged, lines_at, lines_own}
use Rattle.session_threads.proofs.Bounding.{bounded_lines}
use Rattle.session_threads.proofs.Closing as closing
use Rattle.session_threads.proofs.Closing.{SessionLaws, Stored, after_parts, later_parts, numbers-append, stored_of, times-append, times-reverse}

-- ---- passes that were taken in

abbrev pub AllLater : List Entry → List Gone → Type 0
AllLater h [] = Unit {0}
AllLater h (g ∷ gone) = IsLaterThanAll g.knows.read h × AllLater h gone

abbrev pub AllAfter : BoardState → List Gone → Type 0
AllAfter b [] = Unit {0}
AllAfter b (g ∷ gone) = IsAfterAll g.knows.read b × AllAfter b gone

abbrev pub AllRest : List Gone → Type 0
AllRest [] = Unit {0}
AllRest (g ∷ gone) = Rests g.knows × AllRest gone

abbrev pub AllShare : List Gone → Type 0
AllShare [] = Unit {0}
AllShare (g ∷ gone) = (share g.knows ≡ 2 ^ 32) × AllShare gone

abbrev pub IsAmong : Gone → List Gone → Type 0
IsAmong g [] = ⊥
IsAmong g (first ∷ gone) = (first ≡ g) ⊎ IsAmong g gone

abbrev knows_of : List Gone → List Known
knows_of gone = map (λ (g : Gone). g.knows) gone

all_later : (h : List Entry) (p : Known) (gone : List Gone) → IsLaterThanAll (joined_all p (knows_of gone)).read h → IsLaterThanAll p.read h × AllLater h gone
all_later h p [] all = (all, tt)
all_later h p (g ∷ gone) all =
    let rest = all_later h (joined_passes p g.knows) gone all in
    let parts = later_parts p.read g.knows.read h rest.0 in
    (parts.0, (parts.1, rest.1))

all_after : (b : BoardState) (p : Known) (gone : List Gone) → IsAfterAll (joined_all p (knows_of gone)).read b → IsAfterAll p.read b × AllAfter b gone
all_after b p [] all = (all, tt)
all_after b p (g ∷ gone) all =
    let rest = all_after b (joined_passes p g.knows) gone all in
    let parts = after_parts p.read g.knows.read b rest.0 in
    (parts.0, (parts.1, rest.1))

all_opening : (p : Known) (gone : List Gone) → (joined_all p (knows_of gone)).opening ≡ p.opening
all_opening p [] = refl
all_opening p (g ∷ gone) = all_opening (joined_passes p g.knows) gone

all_times : (k : ℕ) (p : Known) (gone : List Gone) → times k (numbers (joined_all p (knows_of gone)).own) ≡ times k (numbers p.own) + total (λ (g : Gone). times k (numbers g.knows.own)) gone
all_times k p [] = omega arith
all_times k p (g ∷ gone) =
    let rest = all_times k (joined_passes p g.knows) gone in
    let both = ap (times k) (numbers-append p.own g.knows.own) ∙ times-append k (numbers p.own) (numbers g.knows.own) in
    omega (arith, rest, both)

all_own : (h : List Entry) (program : Program) (p : Known) (gone : List Gone) → AllJudgedIn h program p.own → ((g : Gone) → IsAmong g gone → AllJudgedIn h program g.knows.own) → AllJudgedIn h program (joined_all p (knows_of gone)).own
all_own h program p [] mine all = mine
all_own h program p (g ∷ gone) mine all =
    all_own h program (joined_passes p g.knows) gone (all_judged h program p.own g.knows.own mine (all g (inl refl))) (λ other among. all other (inr among))

-- that the passes rest, and have all draws
pub all_held : (p : Known) (gone : List Gone) → p.held ≡ [] → AllRest gone → (joined_all p (knows_of gone)).held ≡ []
all_held p [] mine all = mine
all_held p (g ∷ gone) mine all = all_held (joined_passes p g.knows) gone (ap (λ (ns : List ℕ). ns ++ g.knows.held) mine ∙ all.0.held) all.1

pub all_rooms : (p : Known) (gone : List Gone) → p.rooms ≡ [] → AllRest gone → (joined_all p (knows_of gone)).rooms ≡ []
all_rooms p [] mine all = mine
all_rooms p (g ∷ gone) mine all = all_rooms (joined_passes p g.knows) gone (ap (λ (rs : List RoomFor). rs ++ g.knows.rooms) mine ∙ all.0.rooms) all.1

pub all_share : (p : Known) (gone : List Gone) → AllShare gone → share (joined_all p (knows_of gone)) ≡ share p + 2 ^ 32 * length gone
all_share p [] all = omega arith
all_share p (g ∷ gone) all = let rest = all_share (joined_passes p g.knows) gone all.1 in omega (arith, rest, all.0)

-- what each session left
module _ (before : Known) (fresh : share before ≡ 2 ^ 32) where
  pub gone_rest : (begun : List Begun) (gone : List Gone) → AllPairs (IsGone before) begun gone → AllRest gone
  gone_rest [] [] all = tt
  gone_rest (b ∷ begun) (g ∷ gone) all = (all.0.rests, gone_rest begun gone all.1)
  gone_rest [] (g ∷ gone) all = absurd all
  gone_rest (b ∷ begun) [] all = absurd all

  pub gone_share : (begun : List Begun) (gone : List Gone) → AllPairs (IsGone before) begun gone → AllShare gone
  gone_share [] [] all = tt
  gone_share (b ∷ begun) (g ∷ gone) all = (all.0.share_is ∙ fresh, gone_share begun gone all.1)
  gone_share [] (g ∷ gone) all = absurd all
  gone_share (b ∷ begun) [] all = absurd all

  pub gone_length : (begun : List Begun) (gone : List Gone) → AllPairs (IsGone before) begun gone → length gone ≡ length begun
  gone_length [] [] all = refl
  gone_length (b ∷ begun) (g ∷ gone) all = ap (λ (n : ℕ). suc n) (gone_length begun gone all.1)
  gone_length [] (g ∷ gone) all = absurd all
  gone_length (b ∷ begun) [] all = absurd all

-- once all passes were taken in, one has all draws, and holds nothing
module _ (gate : TableId) (first : Known) (program : Program) (strict : Bool) (lines : List AdminLine) (begun : List Begun) (pass : PassView) (outcomes : List LineOutcome) (leaves : List Leaves)
    (is : AreThreaded gate first program strict lines begun pass outcomes leaves) where
  fresh : share (split_off first) ≡ 2 ^ 32
  fresh = omega arith

  pub whole_again : share first ≡ 2 ^ 62 → share pass.knows ≡ 2 ^ 62
  whole_again all =
      let same = gone_length (split_off first) fresh begun is.gone is.sessions in
      let sum = all_share (joined_passes is.rest is.script.knows) is.gone (gone_share (split_off first) fresh begun is.gone is.sessions) in
      let script = is.script_done.share_is in
      let left = is.less.left in
      let made = is.less.made in
      ap share is.joined_are ∙ omega (arith, same, sum, script, left, made, all)

  pub none_held : Rests first → pass.knows.held ≡ []
  none_held rests =
      ap (λ (k : Known). k.held) is.joined_are
      ∙ all_held (joined_passes is.rest is.script.knows) is.gone (ap (λ (ns : List ℕ). ns ++ is.script.knows.held) (is.less.rests rests).held ∙ is.script_done.rests.held) (gone_rest (split_off first) fresh begun is.gone is.sessions)

  pub none_roomed : Rests first → pass.knows.rooms ≡ []
  none_roomed rests =
      ap (λ (k : Known). k.rooms) is.joined_are
      ∙ all_rooms (joined_passes is.rest is.script.knows) is.gone (ap (λ (rs : List RoomFor). rs ++ is.script.knows.rooms) (is.less.rests rests).rooms ∙ is.script_done.rests.rooms) (gone_rest (split_off first) fresh begun is.gone is.sessions)

-- ---- the whole

module _ (reads : WasReadLaws) (on : JudgedLater) (sessions : SessionLaws)
    (opened board : BoardState) (program : Program) (strict : Bool) (lines : List AdminLine) (devices : List Device) (begun : List Begun) (outcomes : List LineOutcome) (leaves : List Leaves)
    (is : AreClosed (first_pass opened) program strict lines begun board outcomes leaves) (ready : AllPairs (λ (d : Device) (b : Begun). IsReadyFor program strict d b.setup b.traffic b.faults) devices begun)
    (later_log : IsLaterThanAll is.pass.knows.read board.log) (none : opened.bytes ≡ 0) where
  abbrev first : Known
  first = first_pass opened

  abbrev split : Known
  split = split_off first

  abbrev h : List Entry
  h = board.log

  abbrev threaded : AreThreaded is.gate first program strict lines begun is.pass outcomes leaves
  threaded = is.threaded

  abbrev rest_and_script : Known
  rest_and_script = joined_passes threaded.rest threaded.script.knows

  later : IsLaterThanAll rest_and_script.read h × AllLater h threaded.gone
  later = all_later h rest_and_script threaded.gone (subst (λ (p : Known). IsLaterThanAll p.read h) threaded.joined_are later_log)

  after : IsAfterAll rest_and_script.read board × AllAfter board threaded.gone
  after = all_after board rest_and_script threaded.gone (subst (λ (p : Known). IsAfterAll p.read board) threaded.joined_are is.closes.read)

  script_later : IsLaterThanAll threaded.script.knows.read h
  script_later = (later_parts threaded.rest.read threaded.script.knows.read h later.0).1

  script_after : IsAfterAll threaded.script.knows.read board
  script_after = (after_parts threaded.rest.read threaded.script.knows.read board after.0).1

  begins : After opened board
  begins = (subst (λ (read : List BoardState). IsAfterAll read board) threaded.less.read (after_parts threaded.rest.read threaded.script.knows.read board after.0).0).0

  newest : Newest (moment_at split) opened
  newest = record { older = []; read = refl; later = tt; low = le_refl (length opened.log) }

  script : AreLinesAt h program strict [] (length opened.log) lines outcomes
  script = lines_at reads on h program strict (moment_at split) (moment_at threaded.script.knows) [] (length opened.log) lines outcomes opened script_later newest tt (le_refl (length opened.log)) threaded.script_done.run

  pub bounded : AreBoundedLines h outcomes
  bounded = bounded_lines opened board none is.closes.pending is.closes.rooms reads program strict (moment_at split) (moment_at threaded.script.knows) lines outcomes (inl refl) script_after threaded.script_done.run

  session_of : (d : Device) (b : Begun) (g : Gone) → IsReadyFor program strict d b.setup b.traffic b.faults → IsGone split b g → IsLaterThanAll g.knows.read h → IsAfterAll g.knows.read board → IsSessionOf board program strict d g.leaves
  session_of d b g r done all behind =
      closing.session_of reads sessions opened board program strict none is.closes.pending is.closes.rooms d g.leaves b.setup (moment_at split) (moment_at g.knows) r.is_setup
      (subst (λ (t : Option Traffic). IsServed b.setup (moment_at split) (moment_at g.knows) t g.leaves.ended g.leaves.traffic) r.traffic_is done.served)
      (λ failed. subst (λ (n : ℕ). n < g.leaves.faults) r.faults_is (done.fault failed)) (inl refl) all behind

  sessions_of : (ds : List Device) (bs : List Begun) (gs : List Gone) → AllPairs (λ (d : Device) (b : Begun). IsReadyFor program strict d b.setup b.traffic b.faults) ds bs → AllPairs (IsGone split) bs gs → AllLater h gs → AllAfter board gs
      → AllPairs (IsSessionOf board program strict) ds (map (λ (g : Gone). g.leaves) gs)
  sessions_of [] [] [] r d l a = tt
  sessions_of (d ∷ ds) (b ∷ bs) (g ∷ gs) r done l a = (session_of d b g r.0 done.0 l.0 a.0, sessions_of ds bs gs r.1 done.1 l.1 a.1)
  sessions_of [] (b ∷ bs) gs r done l a = absurd r
  sessions_of (d ∷ ds) [] gs r done l a = absurd r
  sessions_of [] [] (g ∷ gs) r done l a = absurd done
  sessions_of (d ∷ ds) (b ∷ bs) [] r done l a = absurd done

  pub all_sessions : AllPairs (IsSessionOf board program strict) devices leaves
  all_sessions = subst (λ (ls : List Leaves). AllPairs (IsSessionOf board program strict) devices ls) (sym threaded.leaves_are) (sessions_of devices begun threaded.gone ready threaded.sessions later.1 after.1)

  -- ---- what is stored, each once

  script_own : (added : List Waiting) × (threaded.script.knows.own ≡ added ++ []) × (numbers added ≡ reverse (stored_sequences outcomes)) × AllJudgedIn h program added
  script_own = lines_own on h program strict (moment_at split) (moment_at threaded.script.knows) lines outcomes script_later threaded.script_done.run

  stored_by : (d : Device) (b : Begun) (g : Gone) → IsReadyFor program strict d b.setup b.traffic b.faults → IsGone split b g → IsLaterThanAll g.knows.read h → Stored h program g.knows.own g.leaves.ended.stored
  stored_by d b g r done all = stored_of sessions on h program b.setup (moment_at split) (moment_at g.knows) g.leaves.ended done.served.results done.served.sent done.served.failed done.served.session refl r.is_setup.judged_by all

  abbrev AllStored : List Gone → Type 0
  AllStored [] = Unit {0}
  AllStored (g ∷ gs) = Stored h program g.knows.own g.leaves.ended.stored × AllStored gs

  all_stored : (ds : List Device) (bs : List Begun) (gs : List Gone) → AllPairs (λ (d : Device) (b : Begun). IsReadyFor program strict d b.setup b.traffic b.faults) ds bs → AllPairs (IsGone split) bs gs → AllLater h gs → AllStored gs
  all_stored [] [] [] r done l = tt
  all_stored (d ∷ ds) (b ∷ bs) (g ∷ gs) r done l = (stored_by d b g r.0 done.0 l.0, all_stored ds bs gs r.1 done.1 l.1)
  all_stored [] (b ∷ bs) gs r done l = absurd r
  all_stored (d ∷ ds) [] gs r done l = absurd r
  all_stored [] [] (g ∷ gs) r done l = absurd done
  all_stored (d ∷ ds) (b ∷ bs) [] r done l = absurd done

  stored : AllStored threaded.gone
  stored = all_stored devices begun threaded.gone ready threaded.sessions later.1

  totals : (k : ℕ) (gs : List Gone) → AllStored gs → total (λ (g : Gone). times k (numbers g.knows.own)) gs ≡ total (λ (l : Leaves). times k l.ended.stored) (map (λ (g : Gone). g.leaves) gs)
  totals k [] all = refl
  totals k (g ∷ gs) all = let rest = totals k gs all.1 in omega (arith, rest, all.0.count k)

  rest_own : threaded.rest.own ≡ []
  rest_own = threaded.less.own

  script_count : (k : ℕ) → times k (numbers rest_and_script.own) ≡ times k (stored_sequences outcomes)
  script_count k =
      ap (λ (ws : List Waiting). times k (numbers (ws ++ threaded.script.knows.own))) rest_own
      ∙ ap (λ (ws : List Waiting). times k (numbers ws)) (script_own.1 ∙ append-nil script_own.0)
      ∙ ap (times k) script_own.2 ∙ times-reverse k (stored_sequences outcomes)

  own_count : (k : ℕ) → times k (numbers is.pass.knows.own) ≡ times k (stored_sequences outcomes) + total (λ (l : Leaves). times k l.ended.stored) leaves
  own_count k =
      let all = ap (λ (p : Known). times k (numbers p.own)) threaded.joined_are ∙ all_times k rest_and_script threaded.gone in
      let gone = totals k threaded.gone stored ∙ ap (λ (ls : List Leaves). total (λ (l : Leaves). times k l.ended.stored) ls) (sym threaded.leaves_are) in
      let lines = script_count k in omega (arith, all, gone, lines)

  opening_is : is.pass.knows.opening ≡ length opened.log
  opening_is = ap (λ (p : Known). p.opening) threaded.joined_are ∙ all_opening rest_and_script threaded.gone ∙ threaded.less.opening

  pub once_each : (k : ℕ) → times k (stored_sequences outcomes) + total (λ (l : Leaves). times k l.ended.stored) leaves ≡ owed_count (length opened.log) board k
  once_each k = sym (own_count k) ∙ is.closes.owners k ∙ ap (λ (n : ℕ). owed_count n board k) opening_is

  -- ---- all writes were judged

  among_stored : (g : Gone) (gs : List Gone) → AllStored gs → IsAmong g gs → AllJudgedIn h program g.knows.own
  among_stored g [] all among = absurd among
  among_stored g (x ∷ gs) all (inl same) = subst (λ (y : Gone). AllJudgedIn h program y.knows.own) same all.0.judged
  among_stored g (x ∷ gs) all (inr among) = among_stored g gs all.1 among

  script_judged : AllJudgedIn h program rest_and_script.own
  script_judged =
      subst (λ (ws : List Waiting). AllJudgedIn h program (ws ++ threaded.script.knows.own)) (sym rest_own)
      (subst (λ (ws : List Waiting). AllJudgedIn h program ws) (sym (script_own.1 ∙ append-nil script_own.0)) script_own.3)

  own_judged : AllJudgedIn h program is.pass.knows.own
  own_judged = subst (λ (p : Known). AllJudgedIn h program p.own) (sym threaded.joined_are) (all_own h program rest_and_script threaded.gone script_judged (λ g among. among_stored g threaded.gone stored among))

  pub all_judged_writes : (roles : List ConfigRole) (users : List ConfigUser) → IsOpening roles users opened.log → (k : ℕ) (w : Write) → book_of h k ≡ Some (entry.Write w) → IsJudgedWrite program (book_of h) k w
  all_judged_writes = closing.all_judged_writes opened board program begins.log is.closes.pending is.pass.knows.own own_judged (λ k. is.closes.owners k ∙ ap (λ (n : ℕ). owed_count n board k) opening_is)

  -- all of it, by the configuration
  pub played : (config : Config) → program ≡ arc_value config.program → strict ≡ not config.conflicts → IsOpening config.roles config.users opened.log → IsPlayed config lines devices board outcomes leaves
  played config by_program by_conflicts opening = record {
    pending = is.closes.pending;
    rooms = is.closes.rooms;
    opening = opened.log;
    is_opening = opening;
    begins = begins.log;
    script = subst (λ (p : Program). AreLinesAt h p (not config.conflicts) [] (length opened.log) lines outcomes) by_program
        (subst (λ (b : Bool). AreLinesAt h program b [] (length opened.log) lines outcomes) by_conflicts script);
    sessions = subst (λ (p : Program). AllPairs (IsSessionOf board p (not config.conflicts)) devices leaves) by_program
        (subst (λ (b : Bool). AllPairs (IsSessionOf board program b) devices leaves) by_conflicts all_sessions);
    once = once_each;
    judged = λ k w there. subst (λ (p : Program). IsJudgedWrite p (book_of h) k w) by_program (all_judged_writes config.roles config.users opening k w there);
    bounded = bounded;
  }

-- a board at which nothing waits and no room is out, and whose log has no body, has none
pub no_bytes : (s : State) → s.pending ≡ [] → s.rooms ≡ [] → bytes_stored s.log ≡ 0 → (board_of s).bytes ≡ 0
no_bytes s pending rooms none = omega (arith, none, ap (λ (ws : List Waiting). bytes_waiting ws) pending, ap (λ (rs : List RoomFor). bytes_asked rs) rooms)
