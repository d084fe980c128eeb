-- What is written has no NUL and no key twice.
use Rattle.std.proofs.Common.{◌≡◌, ◌≢◌, ℕ, Bool, true, false, ◌&&◌, if◌then◌else◌, List, [], ◌∷◌, ◌++◌, All, codes, decimal, ◌<◌, ◌^◌, lit<, refl}
use Rattle.std.specs.List.{AllByRecursion}
use Rattle.std.proofs.lemmas.List.Elements.{All-from_recursion}
use Rattle.blip_frame.specs.Payload.{HasNoNul}
use Rattle.blip_frame.specs.Props.{Pair, keys_of, stands_twice}
use Rattle.sg_names.specs.Grammar.{is_plain, is_plain_byte, is_plain_text, is_doc_id}
use Rattle.sg_names.specs.Key.{key_text}
use Rattle.sg_names.specs.RevId.{rev_text}
use Rattle.sg_names.specs.Revs.{revs_text}
use Rattle.sg_names.specs.declared.rev_id.RevId.{RevId}
use Rattle.sg_history.specs.Feed.{is_deleted}
use Rattle.sg_history.specs.declared.row.Row.{Row}
use Rattle.repl_messages.specs.declared.error.ErrorKind.{ErrorKind}
use Rattle.repl_messages.specs.declared.error.ErrorKind.TheVariants.{Bad400, LowForm400, SincePast400, BadHistory400, UserGone401, Denied403, NoCheckpoint404, NoHandler404, Conflict409, Checkpoint409, FeedRuns409, UsePropose409, TooLarge413, PendingFull503, CheckpointsFull503, Memory507, LogFull509}
use Rattle.repl_messages.specs.Rev.{rev_payload, norev_payload, deleted_pairs, history_pairs}
use Rattle.repl_messages.specs.Checkpoints.{checkpoint_payload, checkpoint_rev}
use Rattle.repl_messages.specs.Errors.{error_payload, error_domain, error_code}
use Rattle.repl_messages.specs.ReadAgain.{IsReadAgain}

both : (x y : Bool) → (x && y) ≡ true → (x ≡ true) × (y ≡ true)
both true true h = (refl, refl)
both true false h = cc
both false true h = cc
both false false h = cc

byte_plain : (b : ℕ) → is_plain_byte b ≡ true → b ≢ 0
byte_plain b h e = let zero_plain : is_plain_byte 0 ≡ true = rw e at h in cc

plain_bytes : (text : List ℕ) → is_plain text ≡ true → AllByRecursion (λ b. b ≢ 0) text
plain_bytes [] h = tt
plain_bytes (b ∷ bs) h = let k = both (is_plain_byte b) (is_plain bs) h in (byte_plain b k.0, plain_bytes bs k.1)

-- a text with no control character has no NUL
no_nul : (text : List ℕ) → is_plain text ≡ true → All (λ b. b ≢ 0) text
no_nul text h = All-from_recursion (λ b. b ≢ 0) text (plain_bytes text h)

pair_closable : (key value : List ℕ) → is_plain key ≡ true → is_plain value ≡ true → HasNoNul (key, value)
pair_closable key value h i = (no_nul key h, no_nul value i)

-- the name of a document has no control character
pub doc_plain : (doc : List ℕ) → is_doc_id doc ≡ true → is_plain doc ≡ true
doc_plain doc h = (both _ (is_plain doc) (both (is_plain_text doc) _ h).0).1

-- no key and no value of the pairs has a NUL
pub record AreClosable (pairs : List Pair) : Type 0 where
  pub each : AllByRecursion HasNoNul pairs

none : AreClosable []
none = record { each = tt }

with_pair : (key value : List ℕ) (pairs : List Pair) → is_plain key ≡ true → is_plain value ≡ true → AreClosable pairs → AreClosable ((key, value) ∷ pairs)
with_pair key value pairs h i k = record { each = (pair_closable key value h i, k.each) }

with_deleted : (deleted : Bool) (pairs : List Pair) → AreClosable pairs → AreClosable ((if deleted then (codes "deleted", codes "1") ∷ [] else []) ++ pairs)
with_deleted true pairs k = with_pair (codes "deleted") (codes "1") pairs refl refl k
with_deleted false pairs k = k

history_closable : (ancestors : List RevId) → is_plain (revs_text ancestors) ≡ true → AreClosable (history_pairs ancestors)
history_closable [] h = none
history_closable (rev ∷ revs) h = with_pair (codes "history") (revs_text (rev ∷ revs)) [] refl h none

all_closable : (pairs : List Pair) → AreClosable pairs → All HasNoNul pairs
all_closable pairs k = All-from_recursion HasNoNul pairs k.each

rev_once : (deleted : Bool) (doc rev key : List ℕ) (ancestors : List RevId) → stands_twice
    (keys_of
    ((codes "Profile", codes "rev")
    ∷ (codes "id", doc)
    ∷ (codes "rev", rev)
    ∷ (if deleted then (codes "deleted", codes "1") ∷ [] else []) ++ (codes "sequence", key)
    ∷ history_pairs ancestors)) ≡ false
rev_once true doc rev key [] = refl
rev_once true doc rev key (r ∷ rs) = refl
rev_once false doc rev key [] = refl
rev_once false doc rev key (r ∷ rs) = refl

pub rev_read : (row : Row) (ancestors : List RevId) (body : List ℕ) → is_plain row.doc ≡ true → is_plain (rev_text row.rev) ≡ true → is_plain (key_text row.key) ≡ true
    → is_plain (revs_text ancestors) ≡ true → IsReadAgain (rev_payload row ancestors body)
rev_read row ancestors body doc rev key revs =
    let back : List Pair = (codes "sequence", key_text row.key) ∷ history_pairs ancestors in
    let marked : List Pair = deleted_pairs row.bits ++ back in
    let named : List Pair = (codes "rev", rev_text row.rev) ∷ marked in
    let closable : AreClosable ((codes "Profile", codes "rev") ∷ (codes "id", row.doc) ∷ named) =
    with_pair (codes "Profile") (codes "rev") ((codes "id", row.doc) ∷ named) refl refl (
    with_pair (codes "id") row.doc named refl doc (
    with_pair (codes "rev") (rev_text row.rev) marked refl rev (
    with_deleted (is_deleted row.bits) back (
    with_pair (codes "sequence") (key_text row.key) (history_pairs ancestors) refl key (history_closable ancestors revs)))))
    in
    record {
      closable = all_closable (rev_payload row ancestors body).props closable;
      once = rev_once (is_deleted row.bits) row.doc (rev_text row.rev) (key_text row.key) ancestors;
    }

pub norev_read : (row : Row) → is_plain row.doc ≡ true → is_plain (rev_text row.rev) ≡ true → is_plain (key_text row.key) ≡ true → IsReadAgain (norev_payload row)
norev_read row doc rev key =
    let last : List Pair = (codes "reason", codes "not available") ∷ [] in
    let error : List Pair = (codes "error", codes "404") ∷ last in
    let sequence : List Pair = (codes "sequence", key_text row.key) ∷ error in
    let named : List Pair = (codes "rev", rev_text row.rev) ∷ sequence in
    let closable : AreClosable ((codes "Profile", codes "norev") ∷ (codes "id", row.doc) ∷ named) =
    with_pair (codes "Profile") (codes "norev") ((codes "id", row.doc) ∷ named) refl refl (
    with_pair (codes "id") row.doc named refl doc (
    with_pair (codes "rev") (rev_text row.rev) sequence refl rev (
    with_pair (codes "sequence") (key_text row.key) error refl key (
    with_pair (codes "error") (codes "404") last refl refl (
    with_pair (codes "reason") (codes "not available") [] refl refl none)))))
    in
    record { closable = all_closable (norev_payload row).props closable; once = refl }

domain_plain : (error : ErrorKind) → is_plain (error_domain error) ≡ true
domain_plain (Bad400 field) = refl
domain_plain LowForm400 = refl
domain_plain (SincePast400 front) = refl
domain_plain BadHistory400 = refl
domain_plain UserGone401 = refl
domain_plain (Denied403 rule) = refl
domain_plain NoCheckpoint404 = refl
domain_plain NoHandler404 = refl
domain_plain (Conflict409 leaf) = refl
domain_plain (Checkpoint409 current) = refl
domain_plain FeedRuns409 = refl
domain_plain UsePropose409 = refl
domain_plain TooLarge413 = refl
domain_plain PendingFull503 = refl
domain_plain CheckpointsFull503 = refl
domain_plain Memory507 = refl
domain_plain LogFull509 = refl

pub code_fits : (error : ErrorKind) → error_code error < 2 ^ 64
code_fits (Bad400 field) = lit< tt
code_fits LowForm400 = lit< tt
code_fits (SincePast400 front) = lit< tt
code_fits BadHistory400 = lit< tt
code_fits UserGone401 = lit< tt
code_fits (Denied403 rule) = lit< tt
code_fits NoCheckpoint404 = lit< tt
code_fits NoHandler404 = lit< tt
code_fits (Conflict409 leaf) = lit< tt
code_fits (Checkpoint409 current) = lit< tt
code_fits FeedRuns409 = lit< tt
code_fits UsePropose409 = lit< tt
code_fits TooLarge413 = lit< tt
code_fits PendingFull503 = lit< tt
code_fits CheckpointsFull503 = lit< tt
code_fits Memory507 = lit< tt
code_fits LogFull509 = lit< tt

pub error_read : (error : ErrorKind) → is_plain (decimal (error_code error)) ≡ true → IsReadAgain (error_payload error)
error_read error code =
    let last : List Pair = (codes "Error-Code", decimal (error_code error)) ∷ [] in
    let closable : AreClosable ((codes "Error-Domain", error_domain error) ∷ last) =
    with_pair (codes "Error-Domain") (error_domain error) last refl (domain_plain error) (with_pair (codes "Error-Code") (decimal (error_code error)) [] refl code none)
    in
    record { closable = all_closable (error_payload error).props closable; once = refl }

pub one_closable : All HasNoNul ((codes "Profile", codes "changes") ∷ [])
one_closable = all_closable ((codes "Profile", codes "changes") ∷ []) (with_pair (codes "Profile") (codes "changes") [] refl refl none)

pub none_closable : All HasNoNul []
none_closable = all_closable [] none

pub checkpoint_read : (number : ℕ) (body : List ℕ) → is_plain (decimal number) ≡ true → IsReadAgain (checkpoint_payload number body)
checkpoint_read number body h =
    let closable : AreClosable ((codes "rev", checkpoint_rev number) ∷ []) = with_pair (codes "rev") (checkpoint_rev number) [] refl h none in
    record { closable = all_closable (checkpoint_payload number body).props closable; once = refl }
