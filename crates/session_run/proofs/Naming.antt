-- The numbers of checkpoints that are named don't fall, and none is above that of a board which comes after all that were read.
use Rattle.std.proofs.Common.{◌≡◌, ◌≢◌, ◌≤◌, inl, inr, ℕ, ◌+◌, Bool, true, false, List, [], ◌∷◌, ◌++◌, length, Option, Some, None, refl, sym, ◌∙◌, ap, subst, if◌then◌else◌, arith, le_trans}
use Rattle.std.proofs.lemmas.Bool.{false≢true}
use Rattle.std.specs.Prelude.{nat_lt, nat_eq}
use Rattle.std.specs.Option.{option_map, unwrap_or}
use Rattle.std.specs.Arc.{arc_value}
use Rattle.sg_outside.specs.declared.sink.Gave.{Gave}
use Rattle.sg_outside.specs.declared.wire.Got.{Got}
use Rattle.sg_history.specs.Board.{BoardState, SideEntry, SideValue, side_at, SideFollows, After, IsAfterAll}
use Rattle.checkpoint_store.specs.declared.answers.Kept0.{Kept0}
use Rattle.checkpoint_store.specs.declared.answers.Kept0.TheVariants as kept0
use Rattle.checkpoint_store.specs.declared.answers.SetAnswer.{SetAnswer}
use Rattle.checkpoint_store.specs.declared.answers.SetAnswer.TheVariants as set
use Rattle.checkpoint_store.specs.Answers.{kept_of, kept_at, is_full, Sets}
use Rattle.checkpoint_store.specs.Checkpoints.{checkpoint_text}
use Rattle.checkpoint_store.specs.SideMaps.{side_number, IsPut}
use Rattle.sync_syntax.specs.declared.tree.Program.{Program}
use Rattle.session_core.specs.declared.act.Want.{Want}
use Rattle.session_core.specs.declared.act.Want.TheVariants as want
use Rattle.session_core.specs.declared.event.Event.{Event}
use Rattle.session_core.specs.declared.event.Event.TheVariants as event
use Rattle.session_core.specs.Steps.{SessionStep, wanted_after}
use Rattle.write_path.specs.Reads.{Reads, WasRead, IsOneOf}
use Rattle.session_run.specs.Answered.{Moment, IsEventAnswered, AreAnswered}
use Rattle.session_run.specs.Served.{IsSession}
use Rattle.session_run.specs.Turns.{undone, steps_of}
use Rattle.session_run.specs.declared.ended.Ended.{Ended}
use Rattle.session_run.specs.declared.serve.Setup.{Setup}
use Rattle.session_run.specs.Numbers.{ClientNumber, named_by, named_of, number_in, AreNamedWithin, AreNamedBelow, AreNamedRising}

-- ---- side maps

abbrev number_of : Option SideValue → ℕ
number_of None = 0
number_of (Some value) = value.number

number_is : (o : Option SideValue) → unwrap_or (option_map (λ (v : SideValue). v.number) o) 0 ≡ number_of o
number_is None = refl
number_is (Some value) = refl

follows_by : (a b : List SideEntry) (text : List ℕ) (old : Option SideValue) → side_at a text ≡ old → SideFollows a b → number_of old ≤ number_of (side_at b text)
follows_by a b text None e f = omega arith
follows_by a b text (Some value) e f =
    let more = f text value e in
    subst (λ (o : Option SideValue). value.number ≤ number_of o) (sym more.1) more.2.number

-- a number does not fall
number_follows : (a b : List SideEntry) (user client : List ℕ) → SideFollows a b → number_in a user client ≤ number_in b user client
number_follows a b user client f =
    let text : List ℕ = checkpoint_text user client in
    subst (λ n. n ≤ number_in b user client) (sym (number_is (side_at a text)))
    (subst (λ n. number_of (side_at a text) ≤ n) (sym (number_is (side_at b text))) (follows_by a b text (side_at a text) refl f))

-- ---- boards

one_after : (bs : List BoardState) (b x : BoardState) → IsOneOf bs b → IsAfterAll bs x → After b x
one_after [] b x one all = absurd one
one_after (c ∷ bs) b x (inl is) (after, all) = subst (λ (y : BoardState). After y x) is after
one_after (c ∷ bs) b x (inr one) (after, all) = one_after bs b x one all

after_added : (added before : List BoardState) (x : BoardState) → IsAfterAll (added ++ before) x → IsAfterAll added x
after_added [] before x all = tt
after_added (c ∷ added) before x (after, all) = (after, after_added added before x all)

after_before : (added before : List BoardState) (x : BoardState) → IsAfterAll (added ++ before) x → IsAfterAll before x
after_before [] before x all = all
after_before (c ∷ added) before x (after, all) = after_before added before x all

was_after : (before after : List BoardState) (b x : BoardState) → WasRead before after b → IsAfterAll after x → After b x
was_after before after b x was all = one_after was.added b x was.one (after_added was.added before x (subst (λ bs. IsAfterAll bs x) was.read all))

reads_before : (before after : List BoardState) (low high : ℕ) (x : BoardState) → Reads before after low high → IsAfterAll after x → IsAfterAll before x
reads_before before after low high x reads all = after_before reads.added before x (subst (λ bs. IsAfterAll bs x) reads.read all)

-- ---- what is named

within_more : (user : List ℕ) (a b : List SideEntry) (ns : List ClientNumber) → SideFollows a b → AreNamedWithin user a ns → AreNamedWithin user b ns
within_more user a b [] f within = tt
within_more user a b (n ∷ ns) f (most, within) = (le_trans most (number_follows a b user n.client f), within_more user a b ns f within)

below_of : (user : List ℕ) (side : List SideEntry) (n : ClientNumber) (ns : List ClientNumber) → number_in side user n.client ≡ n.number → AreNamedWithin user side ns → AreNamedBelow n ns
below_of user side n [] is within = tt
below_of user side n (m ∷ ns) is (most, within) = (
  (λ same. subst (λ k. m.number ≤ k) (ap (number_in side user) same ∙ is) most),
  below_of user side n ns is within,
)

-- what the law of read boards says
abbrev pub ReadAfter : Type 0
ReadAfter = (before after : List BoardState) (low high : ℕ) (b : BoardState) → Reads before after low high → WasRead before after b → IsAfterAll before b

-- what the law of checkpoints says of one that is put
abbrev pub IsPutThere : Type 0
IsPutThere = (before after : List SideEntry) (user client : List ℕ) (value : SideValue) → IsPut before (checkpoint_text user client) value after → side_at after (checkpoint_text user client) ≡ Some value

-- what holds of the numbers that were named by a moment
abbrev pub NamedWithin : List ℕ → Moment → List ClientNumber → Type 0
NamedWithin user now ns = (x : BoardState) → IsAfterAll now.read x → AreNamedWithin user x.side ns

abbrev pub Named : List ℕ → Moment → List ClientNumber → Type 0
Named user now ns = AreNamedRising ns × NamedWithin user now ns

same_named : (before after : Moment) (user : List ℕ) (earlier : List ClientNumber) → Reads before.read after.read before.lowest after.lowest → Named user before earlier → Named user after earlier
same_named before after user earlier reads (rising, within) = (rising, (λ x all. within x (reads_before before.read after.read before.lowest after.lowest x reads all)))

one_named : ReadAfter → (before after : Moment) (user : List ℕ) (n : ClientNumber) (earlier : List ClientNumber) (b : BoardState) → Reads before.read after.read before.lowest after.lowest → WasRead before.read after.read b
    → number_in b.side user n.client ≡ n.number → Named user before earlier → Named user after (n ∷ earlier)
one_named law before after user n earlier b reads was is (rising, within) = (
  (below_of user b.side n earlier is (within b (law before.read after.read before.lowest after.lowest b reads was)), rising),
  (λ x all. (
    subst (λ k. k ≤ number_in x.side user n.client) is (number_follows b.side x.side user n.client (was_after before.read after.read b x was all).side),
    within x (reads_before before.read after.read before.lowest after.lowest x reads all),
  )),
)

-- ---- what is answered

abbrev kept_number : Kept0 → ℕ
kept_number (kept0.Found rev body) = rev
kept_number kept0.Absent404 = 0

kept_is : (o : Option SideValue) → kept_number (kept_of o) ≡ number_of o
kept_is None = refl
kept_is (Some value) = refl

got_number : (side : List SideEntry) (user client : List ℕ) (answer : Kept0) → answer ≡ kept_at side (checkpoint_text user client) → number_in side user client ≡ kept_number answer
got_number side user client answer is =
    let o : Option SideValue = side_at side (checkpoint_text user client) in
    number_is o ∙ sym (kept_is o) ∙ ap kept_number (sym is)

put_number : IsPutThere → (before after : List SideEntry) (user client : List ℕ) (value : SideValue) → IsPut before (checkpoint_text user client) value after → number_in after user client ≡ value.number
put_number law before after user client value put =
    number_is (side_at after (checkpoint_text user client)) ∙ ap number_of (law before after user client value put)

abbrev is_conflict : SetAnswer → Bool
is_conflict (set.Conflict409 current) = true
is_conflict (set.Set rev) = false
is_conflict (set.TooLarge413 bytes) = false
is_conflict set.Full503 = false
is_conflict set.Memory = false

abbrev conflict_of : SetAnswer → ℕ
conflict_of (set.Conflict409 current) = current
conflict_of (set.Set rev) = 0
conflict_of (set.TooLarge413 bytes) = 0
conflict_of set.Full503 = 0
conflict_of set.Memory = 0

conflict_by : (large fits full : Bool) (bytes next kept current : ℕ)
    → set.Conflict409 current ≡ (if large then set.TooLarge413 bytes else (if fits then (if full then set.Full503 else set.Set next) else set.Conflict409 kept)) → current ≡ kept
conflict_by true fits full bytes next kept current e = absurd (false≢true (sym (ap is_conflict e)))
conflict_by false true true bytes next kept current e = absurd (false≢true (sym (ap is_conflict e)))
conflict_by false true false bytes next kept current e = absurd (false≢true (sym (ap is_conflict e)))
conflict_by false false full bytes next kept current e = ap conflict_of e

no_memory : (current : ℕ) → set.Conflict409 current ≢ set.Memory
no_memory current e = false≢true (sym (ap is_conflict e))

conflict_number : (before after : List SideEntry) (user client : List ℕ) (rev : ℕ) (body : List ℕ) (current : ℕ) → Sets before (checkpoint_text user client) rev body (set.Conflict409 current) after → number_in before user client ≡ current
conflict_number before after user client rev body current sets =
    sym (conflict_by (nat_lt 4096 (length body)) (nat_eq rev (number_in before user client)) (is_full (side_number before (checkpoint_text user client)) (length before)) (length body)
    (number_in before user client + 1) (number_in before user client) current (sets.answer (no_memory current)))

one_named_event : ReadAfter → IsPutThere → (before after : Moment) (user : List ℕ) (program : Program) (strict : Bool) (wanted : Option Want) (e : Event) (earlier : List ClientNumber)
    → IsEventAnswered before user program strict wanted e after → Named user before earlier → Named user after (named_by wanted e ++ earlier)
one_named_event law put before after user program strict None (event.Whole message) earlier a named = subst (λ (m : Moment). Named user m earlier) (sym a) named
one_named_event law put before after user program strict None (event.Idle front) earlier a named = (named.0, (λ x all. named.1 x (subst (λ bs. IsAfterAll bs x) a.read all)))
one_named_event law put before after user program strict None (event.Fed answer) earlier a named = absurd a
one_named_event law put before after user program strict None (event.Bodies answer) earlier a named = absurd a
one_named_event law put before after user program strict None (event.Asked answer) earlier a named = absurd a
one_named_event law put before after user program strict None (event.Judged answer) earlier a named = absurd a
one_named_event law put before after user program strict None (event.Got answer) earlier a named = absurd a
one_named_event law put before after user program strict None (event.Set answer) earlier a named = absurd a
one_named_event law put before after user program strict (Some (want.Feed since options)) (event.Whole message) earlier a named = absurd a
one_named_event law put before after user program strict (Some (want.Feed since options)) (event.Idle front) earlier a named = absurd a
one_named_event law put before after user program strict (Some (want.Feed since options)) (event.Fed answer) earlier a named = same_named before after user earlier a.0.reads named
one_named_event law put before after user program strict (Some (want.Feed since options)) (event.Bodies answer) earlier a named = absurd a
one_named_event law put before after user program strict (Some (want.Feed since options)) (event.Asked answer) earlier a named = absurd a
one_named_event law put before after user program strict (Some (want.Feed since options)) (event.Judged answer) earlier a named = absurd a
one_named_event law put before after user program strict (Some (want.Feed since options)) (event.Got answer) earlier a named = absurd a
one_named_event law put before after user program strict (Some (want.Feed since options)) (event.Set answer) earlier a named = absurd a
one_named_event law put before after user program strict (Some (want.Bodies options rows most)) (event.Whole message) earlier a named = absurd a
one_named_event law put before after user program strict (Some (want.Bodies options rows most)) (event.Idle front) earlier a named = absurd a
one_named_event law put before after user program strict (Some (want.Bodies options rows most)) (event.Fed answer) earlier a named = absurd a
one_named_event law put before after user program strict (Some (want.Bodies options rows most)) (event.Bodies answer) earlier a named = same_named before after user earlier a.0.reads named
one_named_event law put before after user program strict (Some (want.Bodies options rows most)) (event.Asked answer) earlier a named = absurd a
one_named_event law put before after user program strict (Some (want.Bodies options rows most)) (event.Judged answer) earlier a named = absurd a
one_named_event law put before after user program strict (Some (want.Bodies options rows most)) (event.Got answer) earlier a named = absurd a
one_named_event law put before after user program strict (Some (want.Bodies options rows most)) (event.Set answer) earlier a named = absurd a
one_named_event law put before after user program strict (Some (want.Ask offers)) (event.Whole message) earlier a named = absurd a
one_named_event law put before after user program strict (Some (want.Ask offers)) (event.Idle front) earlier a named = absurd a
one_named_event law put before after user program strict (Some (want.Ask offers)) (event.Fed answer) earlier a named = absurd a
one_named_event law put before after user program strict (Some (want.Ask offers)) (event.Bodies answer) earlier a named = absurd a
one_named_event law put before after user program strict (Some (want.Ask offers)) (event.Asked answer) earlier a named = same_named before after user earlier a.0.reads named
one_named_event law put before after user program strict (Some (want.Ask offers)) (event.Judged answer) earlier a named = absurd a
one_named_event law put before after user program strict (Some (want.Ask offers)) (event.Got answer) earlier a named = absurd a
one_named_event law put before after user program strict (Some (want.Ask offers)) (event.Set answer) earlier a named = absurd a
one_named_event law put before after user program strict (Some (want.Propose r)) (event.Whole message) earlier a named = absurd a
one_named_event law put before after user program strict (Some (want.Propose r)) (event.Idle front) earlier a named = absurd a
one_named_event law put before after user program strict (Some (want.Propose r)) (event.Fed answer) earlier a named = absurd a
one_named_event law put before after user program strict (Some (want.Propose r)) (event.Bodies answer) earlier a named = absurd a
one_named_event law put before after user program strict (Some (want.Propose r)) (event.Asked answer) earlier a named = absurd a
one_named_event law put before after user program strict (Some (want.Propose r)) (event.Judged answer) earlier a named = same_named before after user earlier a.stores.reads named
one_named_event law put before after user program strict (Some (want.Propose r)) (event.Got answer) earlier a named = absurd a
one_named_event law put before after user program strict (Some (want.Propose r)) (event.Set answer) earlier a named = absurd a
one_named_event law put before after user program strict (Some (want.GetCheckpoint client)) (event.Whole message) earlier a named = absurd a
one_named_event law put before after user program strict (Some (want.GetCheckpoint client)) (event.Idle front) earlier a named = absurd a
one_named_event law put before after user program strict (Some (want.GetCheckpoint client)) (event.Fed answer) earlier a named = absurd a
one_named_event law put before after user program strict (Some (want.GetCheckpoint client)) (event.Bodies answer) earlier a named = absurd a
one_named_event law put before after user program strict (Some (want.GetCheckpoint client)) (event.Asked answer) earlier a named = absurd a
one_named_event law put before after user program strict (Some (want.GetCheckpoint client)) (event.Judged answer) earlier a named = absurd a
one_named_event law put before after user program strict (Some (want.GetCheckpoint client)) (event.Got (kept0.Found rev body)) earlier (read, (b, was, has, is)) named =
    one_named law before after user (record { client = client; number = rev }) earlier b read.reads was (got_number b.side user client (kept0.Found rev body) is) named
one_named_event law put before after user program strict (Some (want.GetCheckpoint client)) (event.Got kept0.Absent404) earlier (read, (b, was, has, is)) named =
    one_named law before after user (record { client = client; number = 0 }) earlier b read.reads was (got_number b.side user client kept0.Absent404 is) named
one_named_event law put before after user program strict (Some (want.GetCheckpoint client)) (event.Set answer) earlier a named = absurd a
one_named_event law put before after user program strict (Some (want.SetCheckpoint client rev body)) (event.Whole message) earlier a named = absurd a
one_named_event law put before after user program strict (Some (want.SetCheckpoint client rev body)) (event.Idle front) earlier a named = absurd a
one_named_event law put before after user program strict (Some (want.SetCheckpoint client rev body)) (event.Fed answer) earlier a named = absurd a
one_named_event law put before after user program strict (Some (want.SetCheckpoint client rev body)) (event.Bodies answer) earlier a named = absurd a
one_named_event law put before after user program strict (Some (want.SetCheckpoint client rev body)) (event.Asked answer) earlier a named = absurd a
one_named_event law put before after user program strict (Some (want.SetCheckpoint client rev body)) (event.Judged answer) earlier a named = absurd a
one_named_event law put before after user program strict (Some (want.SetCheckpoint client rev body)) (event.Got answer) earlier a named = absurd a
one_named_event law put before after user program strict (Some (want.SetCheckpoint client rev body)) (event.Set (set.Set number)) earlier a named =
    one_named law before after user (record { client = client; number = number }) earlier a.sets.left a.reads a.sets.was_left
    (put_number put a.sets.found.side a.sets.left.side user client (record { number = number; bytes = body }) a.sets.sets.put) named
one_named_event law put before after user program strict (Some (want.SetCheckpoint client rev body)) (event.Set (set.Conflict409 current)) earlier a named =
    one_named law before after user (record { client = client; number = current }) earlier a.sets.found a.reads a.sets.was_found
    (conflict_number a.sets.found.side a.sets.left.side user client rev body current a.sets.sets) named
one_named_event law put before after user program strict (Some (want.SetCheckpoint client rev body)) (event.Set (set.TooLarge413 bytes)) earlier a named = same_named before after user earlier a.reads named
one_named_event law put before after user program strict (Some (want.SetCheckpoint client rev body)) (event.Set set.Full503) earlier a named = same_named before after user earlier a.reads named
one_named_event law put before after user program strict (Some (want.SetCheckpoint client rev body)) (event.Set set.Memory) earlier a named = same_named before after user earlier a.reads named

pub all_named : ReadAfter → IsPutThere → (start now : Moment) (user : List ℕ) (program : Program) (strict : Bool) (steps : List SessionStep) → AreAnswered start user program strict steps now → Named user now (named_of steps)
all_named law put start now user program strict [] a = (tt, (λ x all. tt))
all_named law put start now user program strict (s ∷ earlier) (between, a, one) =
    one_named_event law put between now user program strict (wanted_after earlier) s.event (named_of earlier) one (all_named law put start between user program strict earlier a)

-- of a whole session
pub session_named : ReadAfter → IsPutThere → (setup : Setup) (start final : Moment) (ended : Ended) (results : List Got) (sent : List (List ℕ)) (failed : List Gave)
    → (session : IsSession setup start final ended results sent failed) → Named setup.user final (named_of (undone session.halted ++ steps_of session.turns))
session_named law put setup start final ended results sent failed session =
    same_named session.now final setup.user (named_of (undone session.halted ++ steps_of session.turns)) session.reads.reads
    (all_named law put start session.now setup.user (arc_value setup.program) setup.strict (undone session.halted ++ steps_of session.turns) session.answered)
