-- Replies that wait are to requests that have come.
use Rattle.std.proofs.Common.{◌≡◌, ◌≤◌, ℕ, ◌+◌, Bool, true, false, ◌&&◌, ◌||◌, cond, eqb, List, [], ◌∷◌, ◌++◌, Option, Some, None, Result, Ok, Err, refl, sym, ◌∙◌, ap, subst, arith, if◌then◌else◌, length, nat_le, suc-ne-zero}
use Rattle.std.specs.Prelude.{max, option_map}
use Rattle.std.specs.Option.{option_or, option_map_or}
use Rattle.std.specs.List.{list_any}
use Rattle.std.specs.FinSet as set
use Rattle.std.specs.FinMap as map
use Rattle.std.proofs.lemmas.Bool.{false≢true, eqb-true, eq-eqb}
use Rattle.blip_frame.specs.Frame.{FrameParts, kind_number, has_checksum}
use Rattle.blip_frame.specs.Payload.{payload_at}
use Rattle.blip_frame.specs.Props.{Pair}
use Rattle.blip_frame.specs.Varint.{number_at}
use Rattle.blip_frame.specs.declared.frame.Kind.{Kind}
use Rattle.blip_frame.specs.declared.frame.Kind.TheVariants as kinds
use Rattle.blip_mux.specs.declared.message.Message.{Message}
use Rattle.blip_mux.specs.declared.inbox.Taken.{Taken}
use Rattle.blip_mux.specs.declared.inbox.Taken.TheVariants as takens
use Rattle.blip_mux.specs.declared.inbox.TakeFault.{TakeFault}
use Rattle.blip_mux.specs.declared.inbox.TakeFault.TheVariants as faults
use Rattle.blip_mux.specs.Apart.{HasCome, AreApart}
use Rattle.blip_mux.specs.Begun.{Begun}
use Rattle.blip_mux.specs.Cutting.{with_message}
use Rattle.blip_mux.specs.Joining.{is_request, is_reply, begun_or, with_frame, may_come, given_by, within, part_by, message_by, whole, read_as, with_fault, acknowledged, acknowledges, acknowledge_after, count_in}
use Rattle.blip_mux.specs.Remembered.{InboxState, Unfinished}
use Rattle.blip_mux.specs.Sending.{Waiting, Sending, is_reply_to, is_of, acked, acked_in, taken_out, may_send, chosen, back, has_more, without_piece, picked_from, after_picked}
use Rattle.blip_mux.specs.InboxStates.{begun_after, held_after, so_far_at, answer_at, taken_after}
use Rattle.blip_mux.specs.Acknowledgements.{Acknowledgement}
use Rattle.blip_mux.proofs.Joins.{got}
use Rattle.blip_mux.proofs.Within.{inside}

-- ---- what waits

or_swap : (a b c : Bool) → (a || (b || c)) ≡ (b || (a || c))
or_swap true true c = refl
or_swap true false c = refl
or_swap false true c = refl
or_swap false false c = refl

or_cases : (a b : Bool) → (a || b) ≡ true → (b ≡ true → a ≡ true) → a ≡ true
or_cases true b e f = refl
or_cases false b e f = f e

any_behind : (n : ℕ) (xs ys : List Waiting) → list_any (is_reply_to n) (xs ++ ys) ≡ (list_any (is_reply_to n) xs || list_any (is_reply_to n) ys)
any_behind n [] ys = refl
any_behind n (w ∷ xs) ys =
    elim (is_reply_to n w) as (λ b. (b || list_any (is_reply_to n) (xs ++ ys)) ≡ ((b || list_any (is_reply_to n) xs) || list_any (is_reply_to n) ys)) [ true ↦ refl | false ↦ any_behind n xs ys ]

-- what was taken out of these messages, and the others, are the same
abbrev OutAny : ℕ → List Waiting → Option (Waiting × List Waiting) → Type 0
OutAny n ws None = Unit {0}
OutAny n ws (Some found) = list_any (is_reply_to n) (found.0 ∷ found.1) ≡ list_any (is_reply_to n) ws

out_step : (n : ℕ) (w : Waiting) (ws : List Waiting) (o : Option (Waiting × List Waiting)) → OutAny n ws o → OutAny n (w ∷ ws) (option_map (λ found. (found.0, w ∷ found.1)) o)
out_step n w ws None h = tt
out_step n w ws (Some found) h =
    or_swap (is_reply_to n found.0) (is_reply_to n w) (list_any (is_reply_to n) found.1) ∙ ap (λ (b : Bool). is_reply_to n w || b) h

out_any : (passes : Waiting → Bool) (n : ℕ) (ws : List Waiting) → OutAny n ws (taken_out passes ws)
out_any passes n [] = tt
out_any passes n (w ∷ ws) =
    elim (passes w) as (λ b. OutAny n (w ∷ ws) (if b then Some (w, ws) else option_map (λ found. (found.0, w ∷ found.1)) (taken_out passes ws)))
    [ true ↦ refl | false ↦ out_step n w ws (taken_out passes ws) (out_any passes n ws) ]

out_or : (n : ℕ) (ws : List Waiting) (a b : Option (Waiting × List Waiting)) → OutAny n ws a → OutAny n ws b → OutAny n ws (option_or a b)
out_or n ws None b h k = k
out_or n ws (Some found) b h k = h

any_back : (n : ℕ) (w : Waiting) (b : Bool) → list_any (is_reply_to n) (if b then without_piece w ∷ [] else []) ≡ true → is_reply_to n w ≡ true
any_back n w true e = or_cases (is_reply_to n w) false e (λ e. absurd (false≢true e))
any_back n w false e = absurd (false≢true e)

any_of_two : (a b c : Bool) → (b || c) ≡ true → (c ≡ true → a ≡ true) → (a || b) ≡ true
any_of_two true b c e f = refl
any_of_two false true c e f = refl
any_of_two false false c e f = f e

any_after : (n : ℕ) (ws : List Waiting) (o : Option (Waiting × List Waiting)) → OutAny n ws o → list_any (is_reply_to n) (option_map_or (λ found. found.1 ++ back found.0) o ws) ≡ true → list_any (is_reply_to n) ws ≡ true
any_after n ws None h e = e
any_after n ws (Some found) h e =
    sym h ∙ any_of_two (is_reply_to n found.0) (list_any (is_reply_to n) found.1) (list_any (is_reply_to n) (back found.0)) (sym (any_behind n found.1 (back found.0)) ∙ e) (any_back n found.0 (has_more found.0))

acked_any : (n : ℕ) (kind : Kind) (number bytes : ℕ) (ws : List Waiting) → list_any (is_reply_to n) (acked_in kind number bytes ws) ≡ list_any (is_reply_to n) ws
acked_any n kind number bytes [] = refl
acked_any n kind number bytes (w ∷ ws) =
    elim (is_of kind number w) as (λ b. list_any (is_reply_to n) (if b then acked bytes w ∷ ws else w ∷ acked_in kind number bytes ws) ≡ list_any (is_reply_to n) (w ∷ ws))
    [ true ↦ refl | false ↦ ap (λ (b : Bool). is_reply_to n w || b) (acked_any n kind number bytes ws) ]

-- ---- the outbox

picked_apart : (s : InboxState) (acknowledgements : List Acknowledgement) (out : Sending) → AreApart s out → AreApart s (picked_from acknowledgements out)
picked_apart s [] out apart n e =
    apart n (any_after n out.waiting (chosen out.waiting) (out_or n out.waiting (taken_out (λ w. w.urgent && may_send w) out.waiting) (taken_out may_send out.waiting)
    (out_any (λ w. w.urgent && may_send w) n out.waiting) (out_any may_send n out.waiting)) e)
picked_apart s (a ∷ acknowledgements) out apart n e = apart n e

pub pick_apart : (s : InboxState) (out : Sending) → AreApart s out → AreApart s (after_picked out)
pick_apart s out apart = picked_apart s out.acknowledgements out apart

pub ack_apart : (s : InboxState) (out : Sending) (kind : Kind) (number bytes : ℕ) → AreApart s out → AreApart s (record out { waiting = acked_in kind number bytes out.waiting })
ack_apart s out kind number bytes apart n e = apart n (sym (acked_any n kind number bytes out.waiting) ∙ e)

of_two : (a b : Bool) → (a || b) ≡ true → (a ≡ true → ⊥) → b ≡ true
of_two true b e f = absurd (f refl)
of_two false b e f = e

one_any : (b : Bool) → (b || false) ≡ true → b ≡ true
one_any true e = refl
one_any false e = e

both_true : (a b : Bool) → (a && b) ≡ true → (a ≡ true) × (b ≡ true)
both_true true b e = (refl, e)
both_true false b e = absurd (false≢true e)

put_cases : (s : InboxState) (out : Sending) (w : Waiting) (n : ℕ) → AreApart s out → (is_reply w.kind ≡ true → HasCome s w.number) → (b : Bool) → list_any (is_reply_to n) out.waiting ≡ b
    → (list_any (is_reply_to n) out.waiting || (is_reply_to n w || false)) ≡ true → HasCome s n
put_cases s out w n apart may true is e = apart n is
put_cases s out w n apart may false is e =
    let both : (is_reply w.kind ≡ true) × (eqb w.number n ≡ true) = both_true (is_reply w.kind) (eqb w.number n) (one_any (is_reply_to n w) (ap (λ (b : Bool). b || (is_reply_to n w || false)) (sym is) ∙ e)) in
    subst (HasCome s) (eqb-true w.number n both.1) (may both.0)

pub put_apart : (s : InboxState) (out : Sending) (w : Waiting) → AreApart s out → (is_reply w.kind ≡ true → HasCome s w.number) → AreApart s (with_message out w)
put_apart s out w apart may n e =
    put_cases s out w n apart may (list_any (is_reply_to n) out.waiting) refl (sym (any_behind n out.waiting (w ∷ [])) ∙ e)

-- ---- the inbox

abbrev is_nothing : Option Begun → Bool
is_nothing None = true
is_nothing (Some b) = false

some_none : (b : Begun) → ◌≡◌ {A = Option Begun} (Some b) None → ⊥
some_none b e = false≢true (ap is_nothing e)

next_number : (requests : ℕ) (awaited : Bool) (kind : Kind) (number : ℕ) → kind ≡ kinds.Msg → ((is_request kind && eqb number (requests + 1)) || (is_reply kind && awaited)) ≡ true → number ≡ requests + 1
next_number requests awaited kinds.Msg number is e = eqb-true number (requests + 1) (one_any (eqb number (requests + 1)) e)
next_number requests awaited kinds.Rpy number is e = absurd (false≢true (ap is_request is))
next_number requests awaited kinds.Err number is e = absurd (false≢true (ap is_request is))
next_number requests awaited kinds.AckMsg number is e = absurd (false≢true (ap is_request is))
next_number requests awaited kinds.AckRpy number is e = absurd (false≢true (ap is_request is))

-- a frame that may come, where nothing of its request is on its way, begins the next request
begins_next : (s : InboxState) (f : FrameParts) (awaited : Bool) (o : Option Begun) → f.kind ≡ kinds.Msg → o ≡ None → may_come s.requests awaited o f ≡ true → f.number ≡ s.requests + 1
begins_next s f awaited None kind none e = next_number s.requests awaited f.kind f.number kind e
begins_next s f awaited (Some b) kind none e = absurd (some_none b none)

abbrev is_taken : Result Taken TakeFault → Bool
is_taken (Ok taken) = true
is_taken (Err fault) = false

err_ok : {fault : TakeFault} {taken : Taken} → ◌≡◌ {A = Result Taken TakeFault} (Err fault) (Ok taken) → ⊥
err_ok e = false≢true (ap is_taken e)

ok_only : (b : Bool) (r : Result Taken TakeFault) (number : ℕ) (taken : Taken) → (if b then r else Err (faults.OutOfOrder number)) ≡ Ok taken → (b ≡ true) × (r ≡ Ok taken)
ok_only true r number taken e = (refl, e)
ok_only false r number taken e = absurd (err_ok e)

request_kind : (k : Kind) → is_request k ≡ true → k ≡ kinds.Msg
request_kind kinds.Msg e = refl
request_kind kinds.Rpy e = absurd (false≢true e)
request_kind kinds.Err e = absurd (false≢true e)
request_kind kinds.AckMsg e = absurd (false≢true e)
request_kind kinds.AckRpy e = absurd (false≢true e)

-- of a frame with a checksum, what may come and gives this
came_by : (s : InboxState) (f : FrameParts) (taken : Taken) → has_checksum f.kind ≡ true → answer_at s f ≡ Ok taken
    → (may_come s.requests (set.contains s.expected f.number) (so_far_at s f) f ≡ true) × (given_by (begun_or (so_far_at s f) f) f ≡ Ok taken)
came_by s f taken checked e =
    let by : (may_come s.requests (set.contains s.expected f.number) (so_far_at s f) f ≡ true) × (within s.held (so_far_at s f) f ≡ Ok taken) =
    ok_only (may_come s.requests (set.contains s.expected f.number) (so_far_at s f) f) (within s.held (so_far_at s f) f) f.number taken
    (sym (ap (λ b. if b then (if may_come s.requests (set.contains s.expected f.number) (so_far_at s f) f then within s.held (so_far_at s f) f else Err (faults.OutOfOrder f.number)) else acknowledged f (count_in (number_at f.payload))) checked) ∙ e) in
    (by.0, inside s.held (so_far_at s f) f taken by.1)

-- the request that a frame is of has no reply that waits
no_reply_waits : (s : InboxState) (out : Sending) (f : FrameParts) (taken : Taken) → f.kind ≡ kinds.Msg → answer_at s f ≡ Ok taken → AreApart s out → list_any (is_reply_to f.number) out.waiting ≡ true → ⊥
no_reply_waits s out f taken kind e apart waits =
    let come : HasCome s f.number = apart f.number waits in
    let none : so_far_at s f ≡ None = ap (λ b. if b then map.get s.requests_begun f.number else map.get s.replies_begun f.number) (ap is_request kind) ∙ come.1 in
    let next : f.number ≡ s.requests + 1 = begins_next s f (set.contains s.expected f.number) (so_far_at s f) kind none (came_by s f taken (ap has_checksum kind) e).0 in
    absurd (omega (arith, next, come.0))

begun_none : (more t : Bool) (b : Begun) (o : Option Begun) → o ≡ None → (t ≡ true → ⊥) → cond more (cond t (Some b) o) (cond t None o) ≡ None
begun_none true true b o e f = absurd (f refl)
begun_none true false b o e f = e
begun_none false true b o e f = refl
begun_none false false b o e f = e

le_max_right : (a b n : ℕ) → n ≤ b → n ≤ max a b
le_max_right a b n h = omega (arith, h)

request_taken : (s : InboxState) (out : Sending) (f : FrameParts) (taken : Taken) (n : ℕ) → f.kind ≡ kinds.Msg → answer_at s f ≡ Ok taken → AreApart s out → list_any (is_reply_to n) out.waiting ≡ true
    → HasCome (record s { requests = max f.number s.requests; requests_begun = begun_after s.requests_begun f }) n
request_taken s out f taken n kind e apart waits = (
  le_max_right f.number s.requests n (apart n waits).0,
  got f.more s.requests_begun f.number n (with_frame (begun_or (map.get s.requests_begun f.number) f) f)
      ∙ begun_none f.more (eqb n f.number) (with_frame (begun_or (map.get s.requests_begun f.number) f) f) (map.get s.requests_begun n) (apart n waits).1
      (λ same. no_reply_waits s out f taken kind e apart (subst (λ k. list_any (is_reply_to k) out.waiting ≡ true) (eqb-true n f.number same) waits)),
)

pub take_apart : (s : InboxState) (out : Sending) (f : FrameParts) (taken : Taken) → answer_at s f ≡ Ok taken → AreApart s out → AreApart (taken_after s f) out
take_apart s out f taken e apart n waits =
    (elim (is_request f.kind) as (λ b. is_request f.kind ≡ b → HasCome (if b then record s { requests = max f.number s.requests; requests_begun = begun_after s.requests_begun f; held = held_after s.held (so_far_at s f) f }
    else if is_reply f.kind then record s { expected = (if f.more then s.expected else set.remove s.expected f.number); replies_begun = begun_after s.replies_begun f; held = held_after s.held (so_far_at s f) f } else s) n) [
      | true ↦ λ is. request_taken s out f taken n (request_kind f.kind is) e apart waits
      | false ↦ λ is. elim (is_reply f.kind) as (λ b. HasCome (if b then record s { expected = (if f.more then s.expected else set.remove s.expected f.number); replies_begun = begun_after s.replies_begun f; held = held_after s.held (so_far_at s f) f } else s) n)
          [ true ↦ apart n waits | false ↦ apart n waits ]
    ]) refl

-- ---- a request that comes whole

abbrev is_whole : Result Taken TakeFault → Bool
is_whole (Ok takens.Nothing) = false
is_whole (Ok (takens.Ack kind number bytes)) = false
is_whole (Ok (takens.Owed kind number bytes)) = false
is_whole (Ok (takens.Whole message)) = true
is_whole (Err fault) = false

abbrev message_or : Message → Result Taken TakeFault → Message
message_or other (Ok takens.Nothing) = other
message_or other (Ok (takens.Ack kind number bytes)) = other
message_or other (Ok (takens.Owed kind number bytes)) = other
message_or other (Ok (takens.Whole message)) = message
message_or other (Err fault) = other

part_not_whole : (b : Begun) (f : FrameParts) → is_whole (Ok (part_by b f)) ≡ false
part_not_whole b f =
    elim (nat_le acknowledge_after (b.unacknowledged + length f.payload)) as (λ t. is_whole (Ok (if t then takens.Owed (acknowledges f.kind) f.number (length (b.bytes ++ f.payload)) else takens.Nothing)) ≡ false)
    [ true ↦ refl | false ↦ refl ]

acknowledged_not_whole : (f : FrameParts) (o : Option ℕ) → is_whole (acknowledged f o) ≡ false
acknowledged_not_whole f None = refl
acknowledged_not_whole f (Some bytes) = refl

-- a message has the number of the frame and the kind of what had come
read_is : (number : ℕ) (b : Begun) (r : Result (List Pair × List ℕ) TakeFault) (message : Message) → whole (read_as number b r) ≡ Ok (takens.Whole message) → (message.number ≡ number) × (message.kind ≡ b.kind)
read_is number b (Ok read) message e = (sym (ap (λ r. (message_or message r).number) e), sym (ap (λ r. (message_or message r).kind) e))
read_is number b (Err fault) message e = absurd (err_ok e)

given_is : (more : Bool) (b : Begun) (f : FrameParts) (message : Message) → (if more then Ok (part_by b f) else whole (message_by b f)) ≡ Ok (takens.Whole message) → (more ≡ false) × (message.number ≡ f.number) × (message.kind ≡ b.kind)
given_is true b f message e = absurd (false≢true (sym (part_not_whole b f) ∙ ap is_whole e))
given_is false b f message e =
    let is : (message.number ≡ f.number) × (message.kind ≡ b.kind) = read_is f.number b (with_fault (payload_at (b.bytes ++ f.payload))) message e in
    (refl, is.0, is.1)

kind_zero : (k : Kind) → kind_number k ≡ 0 → k ≡ kinds.Msg
kind_zero kinds.Msg e = refl
kind_zero kinds.Rpy e = absurd (suc-ne-zero 0 e)
kind_zero kinds.Err e = absurd (suc-ne-zero 1 e)
kind_zero kinds.AckMsg e = absurd (suc-ne-zero 3 e)
kind_zero kinds.AckRpy e = absurd (suc-ne-zero 4 e)

-- a frame is of a request where what had arrived of its message is
of_request : (requests : ℕ) (awaited : Bool) (o : Option Begun) (f : FrameParts) → may_come requests awaited o f ≡ true → (begun_or o f).kind ≡ kinds.Msg → f.kind ≡ kinds.Msg
of_request requests awaited None f may is = is
of_request requests awaited (Some b) f may is = kind_zero f.kind (sym (eqb-true (kind_number b.kind) (kind_number f.kind) may) ∙ ap kind_number is)

checked_by : (b : Bool) (s : InboxState) (f : FrameParts) (message : Message) → has_checksum f.kind ≡ b → answer_at s f ≡ Ok (takens.Whole message) → has_checksum f.kind ≡ true
checked_by true s f message is e = is
checked_by false s f message is e =
    absurd (false≢true (sym (acknowledged_not_whole f (count_in (number_at f.payload))) ∙ ap is_whole (sym (ap (λ b. if b then (if may_come s.requests (set.contains s.expected f.number) (so_far_at s f) f then within s.held (so_far_at s f) f else Err (faults.OutOfOrder f.number)) else acknowledged f (count_in (number_at f.payload))) is) ∙ e)))

remove_same : (m : Unfinished) (k : ℕ) (more : Bool) (b : Begun) → more ≡ false → map.get (if more then map.insert m k b else map.remove m k) k ≡ None
remove_same m k more b is = got more m k k b ∙ ap (λ (t : Bool). cond t (cond (eqb k k) (Some b) (map.get m k)) (cond (eqb k k) None (map.get m k))) is ∙ ap (λ (t : Bool). cond t None (map.get m k)) (eq-eqb k k refl)

whole_frame : (s : InboxState) (f : FrameParts) (message : Message) → answer_at s f ≡ Ok (takens.Whole message) → is_request message.kind ≡ true → (f.kind ≡ kinds.Msg) × (message.number ≡ f.number) × (f.more ≡ false)
whole_frame s f message e request =
    let by : (may_come s.requests (set.contains s.expected f.number) (so_far_at s f) f ≡ true) × (given_by (begun_or (so_far_at s f) f) f ≡ Ok (takens.Whole message)) = came_by s f (takens.Whole message) (checked_by (has_checksum f.kind) s f message refl e) e in
    let is : (f.more ≡ false) × (message.number ≡ f.number) × (message.kind ≡ (begun_or (so_far_at s f) f).kind) = given_is f.more (begun_or (so_far_at s f) f) f message by.1 in
    (of_request s.requests (set.contains s.expected f.number) (so_far_at s f) f by.0 (sym is.2 ∙ request_kind message.kind request), is.1, is.0)

whole_come : (s : InboxState) (f : FrameParts) → f.kind ≡ kinds.Msg → f.more ≡ false → HasCome (taken_after s f) f.number
whole_come s f kind last =
    subst (λ b. HasCome (if b then record s { requests = max f.number s.requests; requests_begun = begun_after s.requests_begun f; held = held_after s.held (so_far_at s f) f }
    else if is_reply f.kind then record s { expected = (if f.more then s.expected else set.remove s.expected f.number); replies_begun = begun_after s.replies_begun f; held = held_after s.held (so_far_at s f) f } else s) f.number) (sym (ap is_request kind))
    (omega arith, remove_same s.requests_begun f.number f.more (with_frame (begun_or (map.get s.requests_begun f.number) f) f) last)

-- no reply to a request waits that comes whole, and it has come then
pub whole_apart : (s : InboxState) (out : Sending) (f : FrameParts) (message : Message) → answer_at s f ≡ Ok (takens.Whole message) → is_request message.kind ≡ true → AreApart s out
    → (list_any (is_reply_to message.number) out.waiting ≡ false) × HasCome (taken_after s f) message.number
whole_apart s out f message e request apart =
    let is : (f.kind ≡ kinds.Msg) × (message.number ≡ f.number) × (f.more ≡ false) = whole_frame s f message e request in (
      (elim (list_any (is_reply_to message.number) out.waiting) as (λ b. list_any (is_reply_to message.number) out.waiting ≡ b → b ≡ false) [
        | true ↦ λ waits. absurd (no_reply_waits s out f (takens.Whole message) is.0 e apart (subst (λ k. list_any (is_reply_to k) out.waiting ≡ true) is.1 waits))
        | false ↦ λ none. refl
      ]) refl,
      subst (HasCome (taken_after s f)) (sym is.1) (whole_come s f is.0 is.2),
    )
