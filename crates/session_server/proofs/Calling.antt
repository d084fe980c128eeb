-- one caller, step by step
use Rattle.std.proofs.Common.{◌≡◌, ◌<◌, ◌∙◌, ℕ, List, [], Option, None, Some, Ok, Err, inl, inr, refl, sym, ap, subst}
use Rattle.sg_outside.specs.declared.wire.Got.{Got}
use Rattle.sg_outside.specs.Wire.{LineRead, LinkRecord, Traffic, no_line}
use Rattle.sg_lines.specs.Line.{BeginsIfRecorded, TraceRecord, new_socket, shut_trace, socket_trace}
use Rattle.seq_gate.specs.declared.known.Known.{Known}
use Rattle.gateway_config.specs.declared.config.Config.{Config}
use Rattle.ws_door.specs.declared.answer.Upgrade.{Upgrade}
use Rattle.ws_door.specs.declared.greeting.GreetFault.{GreetFault}
use Rattle.ws_door.specs.declared.greeting.GreetFault.TheVariants as greeting
use Rattle.ws_door.specs.declared.heads.HeadFault.{HeadFault}
use Rattle.ws_door.specs.declared.heads.HeadFault.TheVariants as fault
use Rattle.ws_door.specs.Greetings.{Greets, GreetsIfRecorded}
use Rattle.ws_door.specs.Heads.{ReadsHead, ReadsHeadIfRecorded, head_in}
use Rattle.session_run.specs.declared.ended.End.TheVariants.{WireFault}
use Rattle.session_run.specs.declared.ended.Ended.{Ended}
use Rattle.session_run.specs.declared.serve.Setup.{Setup}
use Rattle.session_run.specs.Served.{IsServed}
use Rattle.session_threads.specs.inner.Runs.{moment_at}
use Rattle.session_server.specs.Callers.{HasNoSession}
use Rattle.session_server.specs.inner.Runs.{IsCallLeft, IsLetIn, IsServedOver, IsSetupOf, read_line}

-- a line without a socket was shut, and its pass knows what it knew
pub shut_left : (config : Config) (before after : Known) (recorded : Option LinkRecord) (line : LinkRecord) (trace : Option TraceRecord) → recorded ≡ Some line → trace ≡ shut_trace recorded → HasNoSession config line → after ≡ before → IsCallLeft config before trace after
shut_left config before after recorded line trace is left none same =
    ([], inr (record { line = line; trace_is = left ∙ ap shut_trace is; none = none; same = same; stored_are = refl }))

-- no head was read
no_head : (config : Config) (why : HeadFault) (link : LinkRecord) → ReadsHead no_line (Err why) link → HasNoSession config link
no_head config fault.Ended link (results, ends, single, is) = subst (λ (l : LinkRecord). HasNoSession config l) (sym is) (inl (record { fault = fault.Ended; read = ends; taken = refl }))
no_head config fault.Slow link (results, ends, single, is) = subst (λ (l : LinkRecord). HasNoSession config l) (sym is) (inl (record { fault = fault.Slow; read = ends; taken = refl }))
no_head config fault.LinkFault link (results, ends, single, is) = subst (λ (l : LinkRecord). HasNoSession config l) (sym is) (inl (record { fault = fault.LinkFault; read = ends; taken = refl }))
no_head config fault.Memory link is = inr (inr (inr (inl (ap (λ (l : LinkRecord). l.taken) is))))

pub headless : (config : Config) (old recorded : Option LinkRecord) (why : HeadFault) → ReadsHeadIfRecorded old (Err why) recorded → old ≡ Some no_line → IsLetIn config None recorded
headless config old recorded why reads is =
    let from : ReadsHeadIfRecorded (Some no_line) (Err why) recorded = subst (λ (o : Option LinkRecord). ReadsHeadIfRecorded o (Err why) recorded) is reads in
    (from.0, from.1, no_head config why from.0 from.2)

-- a head was read
pub record HasHead (recorded : Option LinkRecord) (head : List ℕ) : Type 0 where
  pub results : List LineRead
  pub recorded_are : recorded ≡ Some (read_line results)
  pub read : head_in results ≡ Some (Ok head)

pub has_head : (old recorded : Option LinkRecord) (head : List ℕ) → ReadsHeadIfRecorded old (Ok head) recorded → old ≡ Some no_line → HasHead recorded head
has_head old recorded head reads is =
    let from : ReadsHeadIfRecorded (Some no_line) (Ok head) recorded = subst (λ (o : Option LinkRecord). ReadsHeadIfRecorded o (Ok head) recorded) is reads in
    record { results = from.2.0; recorded_are = from.1 ∙ ap (λ (l : LinkRecord). Some l) from.2.3; read = from.2.1 }

-- memory ran out before the head was answered
pub unanswered : (config : Config) (recorded : Option LinkRecord) (results : List LineRead) → recorded ≡ Some (read_line results) → IsLetIn config None recorded
unanswered config recorded results is = (read_line results, is, inr (inr (inr (inl refl))))

-- the answer was no upgrade, or was not written whole
not_upgraded : (config : Config) (results : List LineRead) (head : List ℕ) (why : GreetFault) (link : LinkRecord) → head_in results ≡ Some (Ok head) → Greets head config (read_line results) (Err why) link → HasNoSession config link
not_upgraded config results head (greeting.Refused why) link is (answer, wrote) =
    inr (inl (record { head = head; why = why; read = ap head_in wrote.2 ∙ is; answer = answer; taken = wrote.0; gave = wrote.1 }))
not_upgraded config results head greeting.LinkFault link is (reply, answer, wrote) =
    inr (inr (inl (record { head = head; reply = reply; read = ap head_in wrote.2 ∙ is; answer = answer; taken = wrote.0; gave = wrote.1 })))
not_upgraded config results head greeting.Memory link is same = inr (inr (inr (inl (ap (λ (l : LinkRecord). l.taken) same))))

pub refused : (config : Config) (old recorded : Option LinkRecord) (head : List ℕ) (why : GreetFault) (results : List LineRead) → GreetsIfRecorded head config old (Err why) recorded → old ≡ Some (read_line results) → head_in results ≡ Some (Ok head) → IsLetIn config None recorded
refused config old recorded head why results greets is read =
    let from : GreetsIfRecorded head config (Some (read_line results)) (Err why) recorded = subst (λ (o : Option LinkRecord). GreetsIfRecorded head config o (Err why) recorded) is greets in
    (from.0, from.1, not_upgraded config results head why from.0 read from.2)

-- the answer was an upgrade, and was written
pub upgraded : (config : Config) (old recorded : Option LinkRecord) (head : List ℕ) (upgrade : Upgrade) (setup : Setup) (results : List LineRead) → GreetsIfRecorded head config old (Ok upgrade) recorded → IsSetupOf config upgrade setup → old ≡ Some (read_line results) → head_in results ≡ Some (Ok head)
    → IsLetIn config (Some setup) recorded
upgraded config old recorded head upgrade setup results greets is_setup is read =
    let from : GreetsIfRecorded head config (Some (read_line results)) (Ok upgrade) recorded = subst (λ (o : Option LinkRecord). GreetsIfRecorded head config o (Ok upgrade) recorded) is greets in
    (from.0, upgrade, from.1, record { head = head; read = ap head_in from.2.1.2 ∙ read; answer = from.2.0; taken = from.2.1.0; gave = from.2.1.1 }, is_setup)

-- the line of a caller that was not let in was shut
pub shut : (config : Config) (before after : Known) (recorded : Option LinkRecord) (trace : Option TraceRecord) → IsLetIn config None recorded → trace ≡ shut_trace recorded → after ≡ before → IsCallLeft config before trace after
shut config before after recorded trace is left same = shut_left config before after recorded is.0 trace is.1 left is.2 same

-- memory ran out where the socket was to be made
pub no_socket : (config : Config) (before after : Known) (setup : Setup) (recorded : Option LinkRecord) (trace : Option TraceRecord) → IsLetIn config (Some setup) recorded → trace ≡ shut_trace recorded → after ≡ before → IsCallLeft config before trace after
no_socket config before after setup recorded trace is left same = shut_left config before after recorded is.0 trace is.2 left (inr (inr (inr (inr (is.1, is.3))))) same

-- a session was served over the socket
pub over : (line : LinkRecord) (coming : List Got) (setup : Setup) (before after : Known) (ended : Ended) (from to : Option Traffic) (faults faults_after : ℕ) (trace : Option TraceRecord)
    → IsServed setup (moment_at before) (moment_at after) from ended to → (ended.end ≡ WireFault → faults < faults_after) → trace ≡ socket_trace to → from ≡ Some (new_socket line coming) → IsServedOver line coming setup before trace after
over line coming setup before after ended from to faults faults_after trace served fault left is =
    let begun : IsServed setup (moment_at before) (moment_at after) (Some (new_socket line coming)) ended to = subst (λ (o : Option Traffic). IsServed setup (moment_at before) (moment_at after) o ended to) is served in
    let t = begun.records in
    record {
      traffic = t.0;
      trace_is = left ∙ ap socket_trace t.1 ∙ ap (λ (l : LinkRecord). Some (record { line = l; socket = Some t.0 })) t.5;
      ended = ended;
      served = subst (λ (o : Option Traffic). IsServed setup (moment_at before) (moment_at after) (Some (new_socket line coming)) ended o) t.1 begun;
      faults = faults;
      faults_after = faults_after;
      fault = fault;
    }

pub served : (config : Config) (before after : Known) (setup : Setup) (recorded : Option LinkRecord) (ended : Ended) (from to : Option Traffic) (faults faults_after : ℕ) (trace : Option TraceRecord)
    → IsLetIn config (Some setup) recorded → BeginsIfRecorded recorded from → IsServed setup (moment_at before) (moment_at after) from ended to → (ended.end ≡ WireFault → faults < faults_after) → trace ≡ socket_trace to → IsCallLeft config before trace after
served config before after setup recorded ended from to faults faults_after trace is begins ran fault left =
    let begun : BeginsIfRecorded (Some is.0) from = subst (λ (o : Option LinkRecord). BeginsIfRecorded o from) is.2 begins in
    let session : IsServedOver is.0 begun.0 setup before trace after = over is.0 begun.0 setup before after ended from to faults faults_after trace ran fault left begun.1 in
    (session.ended.stored, inl (record { line = is.0; coming = begun.0; upgrade = is.1; setup = setup; upgraded = is.3; is_setup = is.4; over = session; stored_are = refl }))
