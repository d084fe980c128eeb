-- callers that were served, over the history that their gate was closed with
use Rattle.std.proofs.Common.{◌≡◌, ◌≤◌, ◌+◌, ◌∙◌, ◌⊎◌, ℕ, Bool, true, List, [], ◌∷◌, length, map, not, Option, None, Some, inl, inr, append-nil, refl, sym, ap, subst, arith}
use Rattle.std.specs.Arc.{arc_value}
use Rattle.sg_lines.specs.Line.{TraceRecord, new_socket}
use Rattle.sg_history.specs.declared.book.Waiting.{Waiting}
use Rattle.sg_history.specs.declared.entries.Entry.{Entry}
use Rattle.sg_history.specs.Board.{After, BoardState, IsAfterAll}
use Rattle.seq_gate.specs.Counts.{numbers, times, total}
use Rattle.seq_gate.specs.Passes.{Closes, owed_count}
use Rattle.seq_gate.specs.declared.known.Known.{Known}
use Rattle.gateway_config.specs.declared.config.Config.{Config}
use Rattle.sync_syntax.specs.declared.tree.Program.{Program}
use Rattle.write_path.specs.Reads.{IsLaterThanAll, IsOneOf}
use Rattle.session_threads.specs.Opening.{IsOpening}
use Rattle.session_threads.specs.Pairs.{AllPairs}
use Rattle.session_threads.specs.Played.{IsSetup}
use Rattle.session_threads.specs.inner.Runs.{moment_at}
use Rattle.session_threads.proofs.Closing as closing
use Rattle.session_threads.proofs.Closing.{SessionLaws, Stored, numbers-append, stored_of, times-append}
use Rattle.session_threads.proofs.Lining.{AllJudgedIn, JudgedLater, all_judged}
use Rattle.session_threads.proofs.Reading.{WasReadLaws, after_one}
use Rattle.session_server.specs.Callers.{HasSession, IsTraceOf}
use Rattle.session_server.specs.inner.Runs.{AllAfter, AllLater, Call, Holds, IsCall, IsCaller, IsServedCaller, own_of}
use Rattle.sg_lines.specs.Door.{DoorRecord}
use Rattle.gateway_server.specs.declared.serve.NoJob.{NoJob}
use Rattle.gateway_server.specs.declared.serve.NoJob.TheVariants as refusal
use Rattle.gateway_server.specs.declared.stop.DoorEnd.{DoorEnd}
use Rattle.gateway_server.specs.declared.stop.DoorEnd.TheVariants as end
use Rattle.gateway_server.specs.declared.stop.Stop.{Stop}
use Rattle.gateway_server.specs.declared.stop.Stop.TheVariants as stop
use Rattle.gateway_server.specs.Serving.{ServedIfRecorded, end_of, ended_after, refusal_after, refused_by, served_after}
use Rattle.session_server.specs.Served.{IsServedAll, ServesIfRecorded, most_callers}

module _ (reads : WasReadLaws) (on : JudgedLater) (sessions : SessionLaws) (opened board : BoardState) (config : Config) (pass : Known) (closes : Closes pass board) (later_log : IsLaterThanAll pass.read board.log)
    (one : IsOneOf pass.read opened) (opening_is : pass.opening ≡ length opened.log) (none : opened.bytes ≡ 0) (opening : IsOpening config.roles config.users opened.log) where
  abbrev h : List Entry
  h = board.log

  abbrev program : Program
  program = arc_value config.program

  abbrev strict : Bool
  strict = not config.conflicts

  begins : After opened board
  begins = after_one pass.read opened board one closes.read

  -- ---- one caller

  served_trace : (t : Option TraceRecord) (c : Call) → IsOneOf c.before.read opened → IsServedCaller config c.before t c.knows c.stored → IsLaterThanAll c.knows.read h → IsAfterAll c.knows.read board → IsTraceOf board config t c.stored
  served_trace t c split is later after =
      let its_setup : IsSetup program strict (record { user = is.upgrade.user; version = is.upgrade.version; traffic = Some (new_socket is.line is.coming); faults = is.over.faults }) is.setup =
      record { user = is.is_setup.user; version = is.is_setup.version; strictness = is.is_setup.strictness; judged_by = is.is_setup.judged_by } in
      let session : HasSession board config is.line is.over.traffic c.stored = record {
        upgrade = is.upgrade;
        upgraded = is.upgraded;
        coming = is.coming;
        before = is.over.faults;
        ended = is.over.ended;
        after = is.over.faults_after;
        session = closing.session_of reads sessions opened board program strict none closes.pending closes.rooms
            (record { user = is.upgrade.user; version = is.upgrade.version; traffic = Some (new_socket is.line is.coming); faults = is.over.faults })
            (record { ended = is.over.ended; traffic = Some is.over.traffic; faults = is.over.faults_after })
            is.setup (moment_at c.before) (moment_at c.knows) its_setup is.over.served is.over.fault split later after;
        stored_are = is.stored_are;
      } in
      subst (λ (o : Option TraceRecord). IsTraceOf board config o c.stored) (sym is.over.trace_is) session

  trace_of : (t : Option TraceRecord) (c : Call) → IsCall opened config t c → IsLaterThanAll c.knows.read h → IsAfterAll c.knows.read board → IsTraceOf board config t c.stored
  trace_of t c is later after = by is.left
    where
      by : IsCaller config c.before t c.knows c.stored → IsTraceOf board config t c.stored
      by (inl served) = served_trace t c is.split.read served later after
      by (inr shut) = subst (λ (o : Option TraceRecord). IsTraceOf board config o c.stored) (sym shut.trace_is) (shut.none, shut.stored_are)

  own_is : (t : Option TraceRecord) (c : Call) → IsCall opened config t c → IsLaterThanAll c.knows.read h → Stored h program c.knows.own c.stored
  own_is t c is later = by is.left
    where
      by : IsCaller config c.before t c.knows c.stored → Stored h program c.knows.own c.stored
      by (inl served) =
          let session = served.over.served.session in
          subst (λ (ns : List ℕ). Stored h program c.knows.own ns) served.stored_are
          (stored_of sessions on h program served.setup (moment_at c.before) (moment_at c.knows) served.over.ended served.over.served.results served.over.served.sent served.over.served.failed session is.split.own served.is_setup.judged_by later)
      by (inr shut) =
          let own : c.knows.own ≡ [] = ap (λ (k : Known). k.own) shut.same ∙ is.split.own in record {
            judged = subst (λ (ws : List Waiting). AllJudgedIn h program ws) (sym own) tt;
            count = λ k. ap (λ (ws : List Waiting). times k (numbers ws)) own ∙ sym (ap (times k) shut.stored_are);
          }

  -- ---- all callers

  abbrev stored_by : List Call → List (List ℕ)
  stored_by calls = map (λ (c : Call). c.stored) calls

  traces_of : (ts : List (Option TraceRecord)) (cs : List Call) → AllPairs (IsCall opened config) ts cs → AllLater h cs → AllAfter board cs → AllPairs (IsTraceOf board config) ts (stored_by cs)
  traces_of [] [] are l a = tt
  traces_of (t ∷ ts) (c ∷ cs) are l a = (trace_of t c are.0 l.0 a.0, traces_of ts cs are.1 l.1 a.1)
  traces_of [] (c ∷ cs) are l a = absurd are
  traces_of (t ∷ ts) [] are l a = absurd are

  all_own : (ts : List (Option TraceRecord)) (cs : List Call) → AllPairs (IsCall opened config) ts cs → AllLater h cs → AllJudgedIn h program (own_of cs)
  all_own [] [] are l = tt
  all_own (t ∷ ts) (c ∷ cs) are l = all_judged h program (own_of cs) c.knows.own (all_own ts cs are.1 l.1) (own_is t c are.0 l.0).judged
  all_own [] (c ∷ cs) are l = absurd are
  all_own (t ∷ ts) [] are l = absurd are

  own_count : (k : ℕ) (ts : List (Option TraceRecord)) (cs : List Call) → AllPairs (IsCall opened config) ts cs → AllLater h cs → times k (numbers (own_of cs)) ≡ total (times k) (stored_by cs)
  own_count k [] [] are l = refl
  own_count k (t ∷ ts) (c ∷ cs) are l =
      let both = ap (times k) (numbers-append (own_of cs) c.knows.own) ∙ times-append k (numbers (own_of cs)) (numbers c.knows.own) in
      let rest = own_count k ts cs are.1 l.1 in
      let first = (own_is t c are.0 l.0).count k in
      omega (arith, both, rest, first)
  own_count k [] (c ∷ cs) are l = absurd are
  own_count k (t ∷ ts) [] are l = absurd are

  pub served_all : (ts : List (Option TraceRecord)) → Holds opened config pass ts → IsServedAll config board ts
  served_all ts holds =
      let later = holds.later h later_log in
      let owners : (k : ℕ) → times k (numbers pass.own) ≡ owed_count (length opened.log) board k = λ k. closes.owners k ∙ ap (λ (n : ℕ). owed_count n board k) opening_is in
      let judged : AllJudgedIn h program pass.own = subst (λ (ws : List Waiting). AllJudgedIn h program ws) (sym holds.own) (all_own ts holds.calls holds.are later) in
      record {
        pending = closes.pending;
        rooms = closes.rooms;
        opening = opened.log;
        is_opening = opening;
        begins = begins.log;
        stored = stored_by holds.calls;
        callers = traces_of ts holds.calls holds.are later (holds.after board closes.read);
        once = λ k. sym (own_count k ts holds.calls holds.are later) ∙ ap (λ (ws : List Waiting). times k (numbers ws)) (sym holds.own) ∙ owners k;
        judged = closing.all_judged_writes opened board program begins.log closes.pending pass.own judged owners config.roles config.users opening;
      }

-- ---- what the door has recorded then

no_ending : end.Memory ≡ end.Ended → ⊥
no_ending is = absurd cc

failed_not_ended : end.Failed ≡ end.Ended → ⊥
failed_not_ended is = absurd cc

module _ {T : Type 0} (traced : T → Option TraceRecord) (config : Config) (board : BoardState) (held holds : List T → Type 0) (none : held []) (all : (ts : List T) → holds ts → IsServedAll config board (map traced ts))
    (ending : DoorEnd) (why : Stop) (ends : ending ≡ end_of why) (spent : (ts : List T) → why ≡ stop.Refused refusal.Spent → holds ts → most_callers ≤ length ts) where
  ended : (b : DoorRecord T) (callers : ℕ) (came : List T) → holds came → ending ≡ end.Ended → ((served_after b callers came (Some why)).ended ≡ true) ⊎ (most_callers ≤ length came)
  ended b callers came is so = by why refl (sym ends ∙ so)
    where
      by : (w : Stop) → why ≡ w → end_of w ≡ end.Ended → (ended_after b.ended (Some w) ≡ true) ⊎ (most_callers ≤ length came)
      by stop.End same is_end = inl refl
      by stop.Failed same is_end = absurd (failed_not_ended is_end)
      by (stop.Refused refusal.Spent) same is_end = inr (spent came same is)
      by (stop.Refused refusal.Memory) same is_end = absurd (no_ending is_end)
      by stop.Memory same is_end = absurd (no_ending is_end)

  short_of : (came : List T) → holds came → (refused_by (Some why) ≡ 0) ⊎ ((most_callers ≤ length came) ⊎ (ending ≡ end.Memory))
  short_of came is = by why refl ends
    where
      by : (w : Stop) → why ≡ w → ending ≡ end_of w → (refused_by (Some w) ≡ 0) ⊎ ((most_callers ≤ length came) ⊎ (ending ≡ end.Memory))
      by stop.End same is_end = inl refl
      by stop.Failed same is_end = inl refl
      by (stop.Refused refusal.Spent) same is_end = inr (inl (spent came same is))
      by (stop.Refused refusal.Memory) same is_end = inr (inr is_end)
      by stop.Memory same is_end = inl refl

  one_at_most : (w : Stop) → refused_by (Some w) ≤ 1
  one_at_most stop.End = omega arith
  one_at_most stop.Failed = omega arith
  one_at_most (stop.Refused r) = omega arith
  one_at_most stop.Memory = omega arith

  pub serves : (before after : Option (DoorRecord T)) → ServedIfRecorded held before why holds after → ServesIfRecorded traced config before ending after
  serves None after (came, is, kept) = is
  serves (Some b) after (came, is, kept) =
      let here : holds came = subst holds (append-nil came) (kept refl [] none) in
      inr (
        served_after b (length came + refused_by (Some why)) came (Some why),
        is,
        record {
          opened = refl;
          came = came;
          traces = refl;
          refused = refused_by (Some why);
          few = one_at_most why;
          short = short_of came here;
          callers = refl;
          ended = ended b (length came + refused_by (Some why)) came here;
          board = board;
          served = all came here;
        },
      )

-- what a server names as its last refusal, where that is that it makes no more jobs
pub spent_is : (before after : Option NoJob) (why : Stop) → after ≡ refusal_after before (Some why) → why ≡ stop.Refused refusal.Spent → after ≡ Some refusal.Spent
spent_is before after why is same = is ∙ ap (λ (w : Stop). refusal_after before (Some w)) same

-- what holds of a server's traces, once its pass was handed on
pub handed_on : (opened : BoardState) (its_config config : Config) (known pass : Known) (ts : List (Option TraceRecord)) → its_config ≡ config → pass ≡ known → Holds opened its_config known ts → Holds opened config pass ts
handed_on opened its_config config known pass ts same is holds =
    subst (λ (k : Known). Holds opened config k ts) (sym is) (subst (λ (c : Config). Holds opened c known ts) same holds)
