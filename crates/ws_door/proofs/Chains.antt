-- How the answer to a head is put together.
use Rattle.std.proofs.Common.{◌≡◌, ◌≢◌, ◌≤◌, ℕ, Bool, true, false, List, ◌++◌, length, Option, Some, None, Result, Ok, Err, refl, sym, ap, ◌∙◌, inl, inr, append-nil}
use Rattle.std.specs.Prelude.{codes, MatchResult}
use Rattle.std.specs.Bool.{Decides}
use Rattle.std.specs.Str.{bytes_eq}
use Rattle.std.proofs.lemmas.Bool.Decides.{same_from_decides, Decides-like, Decides-at}
use Rattle.std.proofs.lemmas.List.{append_cancel_left}
use Rattle.std.proofs.lemmas.Slice.Eq.{bytes_eq-Decides}
use Rattle.httparse.specs.Grammar.{RequestHead, ReadsRequest}
use Rattle.httparse.proofs.GrammarLemmas.{request_unique}
use Rattle.sg_outside.specs.declared.sink.Gave.{Gave}
use Rattle.sg_outside.specs.declared.sink.Gave.TheVariants as gave
use Rattle.sg_outside.specs.Wire.{LinkRecord}
use Rattle.sg_lines.specs.Link.{Writes, WritesIfRecorded}
use Rattle.repl_messages.specs.declared.request.Version.{Version}
use Rattle.gateway_config.specs.declared.config.Config.{Config}
use Rattle.gateway_config.specs.declared.config.ConfigUser.{ConfigUser}
use Rattle.ws_door.specs.declared.answer.Refused.{Refused}
use Rattle.ws_door.specs.declared.answer.Refused.TheVariants as refused
use Rattle.ws_door.specs.declared.answer.Upgrade.{Upgrade}
use Rattle.ws_door.specs.declared.greeting.GreetFault.TheVariants as greeting
use Rattle.ws_door.specs.Requests.{Request, request_of, Makes}
use Rattle.ws_door.specs.Upgrades.{target_of, then_with, key_in, version_in, session_in, user_of_session, switching_text, upgrade_answer, IsUpgradeAnswer}
use Rattle.ws_door.specs.Greetings.{answer_text, greeted, AnswersHead, GreetsIfRecorded}

-- ---- the target

false_unless : (P : Type 0) (b : Bool) → Decides b P → ¬ P → b ≡ false
false_unless P true d never = absurd (never (d.0 refl))
false_unless P false d never = refl

pub no_target : (target database : List ℕ) → ((path : List ℕ) → target ≢ codes "/" ++ path) → false ≡ bytes_eq target (target_of database)
no_target target database never =
    sym (false_unless (target ≡ target_of database) (bytes_eq target (target_of database)) (bytes_eq-Decides target (target_of database))
    (λ e. never (database ++ codes "/_blipsync") e))

pub other_target : (target path database : List ℕ) → target ≡ codes "/" ++ path → ((rest : List ℕ) → path ≢ database ++ rest) → false ≡ bytes_eq target (target_of database)
other_target target path database is never =
    sym (false_unless (target ≡ target_of database) (bytes_eq target (target_of database)) (bytes_eq-Decides target (target_of database))
    (λ e. never (codes "/_blipsync") (append_cancel_left (codes "/") path (database ++ codes "/_blipsync") (sym is ∙ e))))

pub target_by : (target path database rest : List ℕ) (same : Bool) → target ≡ codes "/" ++ path → path ≡ database ++ rest → same ≡ bytes_eq rest (codes "/_blipsync")
    → same ≡ bytes_eq target (target_of database)
target_by target path database rest same is behind e =
    let along : rest ≡ codes "/_blipsync" → target ≡ target_of database = λ r. is ∙ ap (λ p. codes "/" ++ p) (behind ∙ ap (λ r. database ++ r) r) in
    let back : target ≡ target_of database → rest ≡ codes "/_blipsync" = λ t.
    append_cancel_left database rest (codes "/_blipsync") (sym behind ∙ append_cancel_left (codes "/") path (database ++ codes "/_blipsync") (sym is ∙ t)) in
    same_from_decides same (bytes_eq target (target_of database))
    (Decides-like same along back (Decides-at same (bytes_eq rest (codes "/_blipsync")) e (bytes_eq-Decides rest (codes "/_blipsync"))))
    (bytes_eq-Decides target (target_of database))

-- ---- the request

pub made : (bytes : List ℕ) (request : Request) (head : RequestHead) (rest : List ℕ) → ReadsRequest bytes head rest → length head.fields ≤ 256 → request ≡ request_of head → Makes bytes request
made bytes request head rest reads few is = (head, rest, reads, few, is)

-- ---- the answer

abbrev with_user : List ℕ → Version → List ℕ → Result Upgrade Refused
with_user key version user = Ok (record { user = user; version = version; reply = switching_text key version })

abbrev with_session : List ConfigUser → List ℕ → Version → List ℕ → Result Upgrade Refused
with_session users key version session = then_with (user_of_session users session) (with_user key version)

abbrev with_version : List ConfigUser → Request → List ℕ → Version → Result Upgrade Refused
with_version users request key version = then_with (session_in request) (with_session users key version)

abbrev with_key : List ConfigUser → Request → List ℕ → Result Upgrade Refused
with_key users request key = then_with (version_in request) (with_version users request key)

pub refused_by_key : (database : List ℕ) (users : List ConfigUser) (request : Request) (why : Refused) → key_in database request ≡ Err why
    → Err why ≡ upgrade_answer database users request
refused_by_key database users request why never = sym (ap (λ (r : Result (List ℕ) Refused). then_with r (with_key users request)) never)

by_key : (database : List ℕ) (users : List ConfigUser) (request : Request) (key : List ℕ) → key_in database request ≡ Ok key
    → upgrade_answer database users request ≡ with_key users request key
by_key database users request key is = ap (λ (r : Result (List ℕ) Refused). then_with r (with_key users request)) is

pub refused_by_version : (database : List ℕ) (users : List ConfigUser) (request : Request) (key : List ℕ) (why : Refused) → key_in database request ≡ Ok key
    → version_in request ≡ Err why → Err why ≡ upgrade_answer database users request
refused_by_version database users request key why k never =
    sym (by_key database users request key k ∙ ap (λ (r : Result Version Refused). then_with r (with_version users request key)) never)

by_version : (database : List ℕ) (users : List ConfigUser) (request : Request) (key : List ℕ) (version : Version) → key_in database request ≡ Ok key
    → version_in request ≡ Ok version → upgrade_answer database users request ≡ with_version users request key version
by_version database users request key version k v =
    by_key database users request key k ∙ ap (λ (r : Result Version Refused). then_with r (with_version users request key)) v

pub refused_by_session : (database : List ℕ) (users : List ConfigUser) (request : Request) (key : List ℕ) (version : Version) (why : Refused) → key_in database request ≡ Ok key
    → version_in request ≡ Ok version → session_in request ≡ Err why → Err why ≡ upgrade_answer database users request
refused_by_session database users request key version why k v never =
    sym (by_version database users request key version k v ∙ ap (λ (r : Result (List ℕ) Refused). then_with r (with_session users key version)) never)

by_session : (database : List ℕ) (users : List ConfigUser) (request : Request) (key : List ℕ) (version : Version) (session : List ℕ) → key_in database request ≡ Ok key
    → version_in request ≡ Ok version → session_in request ≡ Ok session → upgrade_answer database users request ≡ with_session users key version session
by_session database users request key version session k v s =
    by_version database users request key version k v ∙ ap (λ (r : Result (List ℕ) Refused). then_with r (with_session users key version)) s

pub refused_by_user : (database : List ℕ) (users : List ConfigUser) (request : Request) (key : List ℕ) (version : Version) (session : List ℕ) (why : Refused)
    → key_in database request ≡ Ok key → version_in request ≡ Ok version → session_in request ≡ Ok session → user_of_session users session ≡ Err why
    → Err why ≡ upgrade_answer database users request
refused_by_user database users request key version session why k v s never =
    sym (by_session database users request key version session k v s ∙ ap (λ (r : Result (List ℕ) Refused). then_with r (with_user key version)) never)

pub answered_by_user : (database : List ℕ) (users : List ConfigUser) (request : Request) (key : List ℕ) (version : Version) (session user : List ℕ)
    → key_in database request ≡ Ok key → version_in request ≡ Ok version → session_in request ≡ Ok session → user_of_session users session ≡ Ok user
    → Ok (record { user = user; version = version; reply = switching_text key version }) ≡ upgrade_answer database users request
answered_by_user database users request key version session user k v s u =
    sym (by_session database users request key version session k v s ∙ ap (λ (r : Result (List ℕ) Refused). then_with r (with_user key version)) u)

-- the upgrade is the answer, and else memory ran out
pub answered : (answer : Result Upgrade Refused) (upgrade : Upgrade) (right : Result Upgrade Refused) → Ok upgrade ≡ right
    → MatchResult answer (λ u. u ≡ upgrade) (λ e. e ≡ refused.Memory) → answer ≢ Err refused.Memory → answer ≡ right
answered (Ok u) upgrade right is h never = ap (λ (u : Upgrade). Ok u) h ∙ is
answered (Err e) upgrade right is h never = absurd (never (ap (λ (e : Refused). Err e) h))

pub answer_for : (bytes : List ℕ) (config : Config) (request : Request) (answer : Result Upgrade Refused) → Makes bytes request
    → answer ≡ upgrade_answer config.database config.users request → IsUpgradeAnswer bytes config answer
answer_for bytes config request answer makes is = inl (request, makes, is)

-- ---- bytes and configuration determine the answer

one_request : (bytes : List ℕ) (one other : Request) → Makes bytes one → Makes bytes other → one ≡ other
one_request bytes one other m n =
    let same = request_unique bytes m.0 n.0 m.1 n.1 m.2 n.2 in m.4 ∙ ap request_of same.0 ∙ sym n.4

pub one_answer : (bytes : List ℕ) (config : Config) (one other : Result Upgrade Refused) → IsUpgradeAnswer bytes config one → IsUpgradeAnswer bytes config other → one ≡ other
one_answer bytes config one other (inl m) (inl n) =
    m.2 ∙ ap (upgrade_answer config.database config.users) (one_request bytes m.0 n.0 m.1 n.1) ∙ sym n.2
one_answer bytes config one other (inl m) (inr n) = absurd (n.0 m.1.0 m.1.1 m.1.3 m.1.2)
one_answer bytes config one other (inr m) (inl n) = absurd (m.0 n.1.0 n.1.1 n.1.3 n.1.2)
one_answer bytes config one other (inr m) (inr n) = m.1 ∙ sym n.1

-- ---- what is written

unwritten : (before after : LinkRecord) (bytes : List ℕ) → Writes before bytes gave.Memory after → after ≡ before
unwritten before after bytes w = λ i. record { read = w.2 i; taken = w.0 i; gave = nothing_more i }
  where
    nothing_more : after.gave ≡ before.gave
    nothing_more = w.1 ∙ append-nil before.gave

pub greets : (bytes : List ℕ) (config : Config) (from to : Option LinkRecord) (answer : Result Upgrade Refused) (given : Gave)
    → IsUpgradeAnswer bytes config answer → WritesIfRecorded from (answer_text answer) given to → GreetsIfRecorded bytes config from (greeted answer given) to
greets bytes config None to (Ok u) gave.Done is w = w
greets bytes config None to (Err e) gave.Done is w = w
greets bytes config None to answer gave.Failed is w = w
greets bytes config None to answer gave.Memory is w = w
greets bytes config (Some from) to (Ok u) gave.Done is w = (w.0, w.1, (is, w.2))
greets bytes config (Some from) to (Err e) gave.Done is w = (w.0, w.1, (is, w.2))
greets bytes config (Some from) to answer gave.Failed is w = (w.0, w.1, (answer, is, w.2))
greets bytes config (Some from) to answer gave.Memory is w = (w.0, w.1, unwritten from w.0 (answer_text answer) w.2)

pub greets_answer : (bytes : List ℕ) (config : Config) (answer : Result Upgrade Refused) (given : Gave) → IsUpgradeAnswer bytes config answer → AnswersHead bytes config (greeted answer given)
greets_answer bytes config (Ok u) gave.Done is = is
greets_answer bytes config (Err e) gave.Done is = is
greets_answer bytes config answer gave.Failed is = tt
greets_answer bytes config answer gave.Memory is = tt

-- out of memory nothing is written
pub greets_nothing : (bytes : List ℕ) (config : Config) (recorded : Option LinkRecord) → GreetsIfRecorded bytes config recorded (Err greeting.Memory) recorded
greets_nothing bytes config None = refl
greets_nothing bytes config (Some from) = (from, refl, refl)
