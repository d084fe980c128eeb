-- Messages under way from an outbox to an inbox.
use Rattle.std.proofs.Common.{◌^◌, ◌≡◌, ℕ, ◌+◌, ◌-◌, ◌<◌, ◌≤◌, Bool, true, false, ◌&&◌, ◌||◌, cond, eqb, ltb, List, [], ◌∷◌, ◌++◌, length, take, drop, Result, Ok, Err, Some, None, refl, sym, ap, subst, ◌∙◌, arith}
use Rattle.std.specs.Prelude.{not, Option}
use Rattle.std.proofs.lemmas.Bool.{eq-eqb, ltb-false, le-ltb}
use Rattle.std.proofs.lemmas.List.{take_all, take-append-drop, drop-drop, length-append, length-take, length-drop}
use Rattle.std.proofs.Math.Seq.{take-add}
use Rattle.blip_frame.specs.Frame.{FrameParts, kind_number, has_checksum, largest_written}
use Rattle.blip_frame.specs.Props.{Pair}
use Rattle.blip_frame.specs.Varint.{varint}
use Rattle.blip_frame.specs.Payload.{AreProps, block_of, payload_at, payload_text}
use Rattle.blip_frame.specs.declared.frame.Kind.{Kind}
use Rattle.blip_frame.specs.declared.frame.Kind.TheVariants as kinds
use Rattle.blip_frame.specs.declared.payload.PayloadFault.{PayloadFault}
use Rattle.blip_mux.specs.declared.message.Message.{Message}
use Rattle.blip_mux.specs.declared.inbox.Taken.TheVariants as takens
use Rattle.blip_mux.specs.declared.inbox.TakeFault.{TakeFault}
use Rattle.blip_mux.specs.declared.inbox.TakeFault.TheVariants as faults
use Rattle.blip_mux.specs.Begun.{Begun}
use Rattle.blip_mux.proofs.Classes.{other_class}
use Rattle.blip_mux.proofs.Held.{held_came}
use Rattle.blip_mux.specs.Joining.{Event, came, expected, is_request, is_reply, begun_by, begun_or, with_frame, brought_by, with_fault, read_as, part_by, whole, message_by, given_by, longest_message, most_held, held_by, within, may_come, answer_in, held_in, acknowledged, count_in, frames_of, requests_in, is_awaited}
use Rattle.blip_frame.specs.Varint.{number_at}
use Rattle.blip_mux.specs.Sending.{Waiting, has_more, first_piece, without_piece}
use Rattle.blip_mux.specs.Between.{CanBeRead}

abbrev pub text : Message → List ℕ
text m = payload_text m.payload.props m.payload.body

-- a message, how much of it was sent, and how much of that was acknowledged
pub record Pending : Type 0 where
  pub message : Message
  pub sent : ℕ
  pub acked_bytes : ℕ

-- what waits of it
abbrev pub waits : Pending → Waiting
waits p = record { number = p.message.number; kind = p.message.kind; urgent = p.message.urgent; no_reply = p.message.no_reply; sent = p.sent; acknowledged = p.acked_bytes; rest = drop p.sent (text p.message) }

-- once its next frame has gone
abbrev pub further : Pending → Pending
further p = record p { sent = p.sent + largest_written }

pub waits_further : (p : Pending) → waits (further p) ≡ without_piece (waits p)
waits_further p = ap (λ (xs : List ℕ). record (waits p) { sent = p.sent + largest_written; rest = xs }) (sym (drop-drop largest_written p.sent (text p.message)))

-- what has arrived of a message
abbrev pub got : List Event → Message → Option Begun
got before m = brought_by (cond (is_request m.kind) (frames_of is_request m.number before) (frames_of is_reply m.number before))

-- it is the bytes that were sent
abbrev pub IsGot : Option Begun → Message → ℕ → Type 0
IsGot None m n = n ≡ 0
IsGot (Some b) m n = (0 < n) × (b.kind ≡ m.kind) × (b.urgent ≡ m.urgent) × (b.no_reply ≡ m.no_reply) × (b.bytes ≡ take n (text m))

pub record IsPending (before : List Event) (p : Pending) : Type 0 where
  pub readable : CanBeRead p.message
  pub carried : has_checksum p.message.kind ≡ true
  pub calm : is_request p.message.kind ≡ true → p.message.urgent ≡ false
  pub awaited : is_reply p.message.kind ≡ true → is_awaited before p.message.number ≡ true
  pub begun : IsGot (got before p.message) p.message p.sent

-- ---- a frame of the message comes

of_kind : (k : Kind) → has_checksum k ≡ true → (x a : Bool) → (is_request k ≡ true → x ≡ true) → (is_reply k ≡ true → a ≡ true) → ((is_request k && x) || (is_reply k && a)) ≡ true
of_kind kinds.Msg e x a here there = or_first x (here refl) where
  or_first : (b : Bool) → b ≡ true → (b || false) ≡ true
  or_first true e = refl
  or_first false e = absurd cc
of_kind kinds.Rpy e x a here there = there refl
of_kind kinds.Err e x a here there = there refl
of_kind kinds.AckMsg e x a here there = absurd cc
of_kind kinds.AckRpy e x a here there = absurd cc

-- the next frame may come: the first one of a request where its number is the next
pub may_come_next : (before : List Event) (p : Pending) → IsPending before p → (is_request p.message.kind ≡ true → p.sent ≡ 0 → p.message.number ≡ requests_in before + 1)
    → may_come (requests_in before) (is_awaited before p.message.number) (got before p.message) (first_piece (waits p)) ≡ true
may_come_next before p is turn = go (got before p.message) is.begun where
  go : (o : Option Begun) → IsGot o p.message p.sent → may_come (requests_in before) (is_awaited before p.message.number) o (first_piece (waits p)) ≡ true
  go None none = of_kind p.message.kind is.carried (eqb p.message.number (requests_in before + 1)) (is_awaited before p.message.number)
      (λ request. eq-eqb p.message.number (requests_in before + 1) (turn request none)) is.awaited
  go (Some b) some = eq-eqb (kind_number b.kind) (kind_number p.message.kind) (ap kind_number some.1)

-- its next frame does not make it too long, and has room among the messages that are not whole
pub record HasRoom (before : List Event) (p : Pending) : Type 0 where
  pub short : ltb longest_message (length ((begun_or (got before p.message) (first_piece (waits p))).bytes ++ take largest_written (drop p.sent (text p.message)))) ≡ false
  pub room : (has_more (waits p) && ltb most_held (held_in before - held_by (got before p.message) + held_by (Some (with_frame (begun_or (got before p.message) (first_piece (waits p))) (first_piece (waits p)))))) ≡ false

no_longer : (o : Option Begun) (p : Pending) → IsGot o p.message p.sent → length ((begun_or o (first_piece (waits p))).bytes ++ take largest_written (drop p.sent (text p.message))) ≤ length (text p.message)
no_longer None p is = omega (arith, length-take largest_written (drop p.sent (text p.message)), length-drop p.sent (text p.message))
no_longer (Some b) p is =
    omega (arith, length-append b.bytes (take largest_written (drop p.sent (text p.message))), ap length is.4, length-take p.sent (text p.message), length-take largest_written (drop p.sent (text p.message)), length-drop p.sent (text p.message))

room_by : (more : Bool) (others now : ℕ) → others + cond more now 0 ≤ most_held → (more && ltb most_held (others + now)) ≡ false
room_by true others now h = le-ltb most_held (others + now) h
room_by false others now h = refl

pub has_room : (before : List Event) (p : Pending) → IsPending before p → held_in (came (first_piece (waits p)) ∷ before) ≤ most_held → HasRoom before p
has_room before p is low = record {
  short = le-ltb longest_message (length ((begun_or (got before p.message) (first_piece (waits p))).bytes ++ take largest_written (drop p.sent (text p.message)))) (omega (arith, no_longer (got before p.message) p is.begun, is.readable.1));
  room = room_by (has_more (waits p)) (held_in before - held_by (got before p.message)) (held_by (Some (with_frame (begun_or (got before p.message) (first_piece (waits p))) (first_piece (waits p)))))
      (subst (λ (n : ℕ). n ≤ most_held) (held_came before (first_piece (waits p)) is.carried) low);
}

answer_is : (before : List Event) (p : Pending) → has_checksum p.message.kind ≡ true → HasRoom before p → may_come (requests_in before) (is_awaited before p.message.number) (got before p.message) (first_piece (waits p)) ≡ true
    → answer_in before (first_piece (waits p)) ≡ given_by (begun_or (got before p.message) (first_piece (waits p))) (first_piece (waits p))
answer_is before p carried has may =
    let f = first_piece (waits p) in
    let o = got before p.message in
    ap (λ (b : Bool). cond b (cond (may_come (requests_in before) (is_awaited before p.message.number) o f) (within (held_in before) o f) (Err (faults.OutOfOrder p.message.number))) (acknowledged f (count_in (number_at f.payload)))) carried
    ∙ ap (λ (b : Bool). cond b (within (held_in before) o f) (Err (faults.OutOfOrder p.message.number))) may
    ∙ ap (λ (b : Bool). cond b (Err (faults.TooLong p.message.number)) (cond (has_more (waits p) && ltb most_held (held_in before - held_by o + held_by (Some (with_frame (begun_or o f) f)))) (Err (faults.Full p.message.number)) (given_by (begun_or o f) f))) has.short
    ∙ ap (λ (b : Bool). cond b (Err (faults.Full p.message.number)) (given_by (begun_or o f) f)) has.room

pub answer_more : (before : List Event) (p : Pending) → has_checksum p.message.kind ≡ true → HasRoom before p → may_come (requests_in before) (is_awaited before p.message.number) (got before p.message) (first_piece (waits p)) ≡ true
    → has_more (waits p) ≡ true → answer_in before (first_piece (waits p)) ≡ Ok (part_by (begun_or (got before p.message) (first_piece (waits p))) (first_piece (waits p)))
answer_more before p carried has may more =
    let f = first_piece (waits p) in
    answer_is before p carried has may
    ∙ ap (λ (b : Bool). cond b (Ok (part_by (begun_or (got before p.message) f) f)) (whole (message_by (begun_or (got before p.message) f) f))) more

-- the law of payloads
abbrev pub ReadsAgain : Type 0
ReadsAgain = (props : List Pair) (body : List ℕ) → length (block_of props) < 2 ^ 64 → AreProps props → payload_at (payload_text props body) ≡ Ok (props, body)

-- the bytes that had come and the last ones are all
all_come : (o : Option Begun) (p : Pending) → IsGot o p.message p.sent → has_more (waits p) ≡ false
    → (begun_or o (first_piece (waits p))).bytes ++ take largest_written (drop p.sent (text p.message)) ≡ text p.message
all_come o p is last =
    let rest = drop p.sent (text p.message) in
    let all : take largest_written rest ≡ rest = take_all largest_written rest (ltb-false largest_written (length rest) last) in
    ap (λ (xs : List ℕ). (begun_or o (first_piece (waits p))).bytes ++ xs) all ∙ go o is where
      go : (o : Option Begun) → IsGot o p.message p.sent → (begun_or o (first_piece (waits p))).bytes ++ drop p.sent (text p.message) ≡ text p.message
      go None none = ap (λ (n : ℕ). drop n (text p.message)) none
      go (Some b) some = ap (λ (xs : List ℕ). xs ++ drop p.sent (text p.message)) some.4 ∙ take-append-drop p.sent (text p.message)

marks : (o : Option Begun) (p : Pending) (props : List Pair) (body : List ℕ) → IsGot o p.message p.sent → props ≡ p.message.payload.props → body ≡ p.message.payload.body
    → read_as p.message.number (begun_or o (first_piece (waits p))) (Ok (props, body)) ≡ Ok p.message
marks None p props body is a b = ap (λ (ps : List Pair). read_as p.message.number (begun_by (first_piece (waits p))) (Ok (ps, body))) a ∙ ap (λ (bs : List ℕ). read_as p.message.number (begun_by (first_piece (waits p))) (Ok (p.message.payload.props, bs))) b
marks (Some x) p props body is a b =
    let of : Kind → Bool → Bool → Result Message TakeFault = λ k u n. Ok (record p.message { kind = k; urgent = u; no_reply = n }) in
    ap (λ (ps : List Pair). read_as p.message.number x (Ok (ps, body))) a ∙ ap (λ (bs : List ℕ). read_as p.message.number x (Ok (p.message.payload.props, bs))) b
    ∙ ap (λ (k : Kind). of k x.urgent x.no_reply) is.1 ∙ ap (λ (u : Bool). of p.message.kind u x.no_reply) is.2 ∙ ap (λ (n : Bool). of p.message.kind p.message.urgent n) is.3

-- the block of a payload that is not too long
block_fits : (props : List Pair) (body : List ℕ) → length (payload_text props body) ≤ longest_message → length (block_of props) < 2 ^ 64
block_fits props body h = omega (arith, h, length-append (varint (length (block_of props))) (block_of props ++ body), length-append (block_of props) body)

pub answer_last : ReadsAgain → (before : List Event) (p : Pending) → IsPending before p → HasRoom before p → may_come (requests_in before) (is_awaited before p.message.number) (got before p.message) (first_piece (waits p)) ≡ true
    → has_more (waits p) ≡ false → answer_in before (first_piece (waits p)) ≡ Ok (takens.Whole p.message)
answer_last again before p is has may last =
    let f = first_piece (waits p) in
    let b = begun_or (got before p.message) f in
    answer_is before p is.carried has may
    ∙ ap (λ (t : Bool). cond t (Ok (part_by b f)) (whole (message_by b f))) last
    ∙ ap (λ (xs : List ℕ). whole (read_as p.message.number b (with_fault (payload_at xs)))) (all_come (got before p.message) p is.begun last)
    ∙ ap (λ (x : Result (List Pair × List ℕ) PayloadFault). whole (read_as p.message.number b (with_fault x)))
    (again p.message.payload.props p.message.payload.body (block_fits p.message.payload.props p.message.payload.body is.readable.1) is.readable.0)
    ∙ ap whole (marks (got before p.message) p p.message.payload.props p.message.payload.body is.begun refl refl)

next_of_kind : (k : Kind) (t more : Bool) (f : FrameParts) (xs ys : List FrameParts) → has_checksum k ≡ true → t ≡ true → more ≡ true
    → cond (is_request k) (cond (is_request k && t) (cond more (f ∷ xs) []) xs) (cond (is_reply k && t) (cond more (f ∷ ys) []) ys) ≡ f ∷ cond (is_request k) xs ys
next_of_kind k true true f xs ys carried same more = go k carried where
  go : (k : Kind) → has_checksum k ≡ true → cond (is_request k) (cond (is_request k && true) (f ∷ xs) xs) (cond (is_reply k && true) (f ∷ ys) ys) ≡ f ∷ cond (is_request k) xs ys
  go kinds.Msg e = refl
  go kinds.Rpy e = refl
  go kinds.Err e = refl
  go kinds.AckMsg e = absurd cc
  go kinds.AckRpy e = absurd cc
next_of_kind k true false f xs ys carried same more = absurd cc
next_of_kind k false more f xs ys carried same also = absurd cc

got_more : (o : Option Begun) (p : Pending) → IsGot o p.message p.sent → IsGot (Some (with_frame (begun_or o (first_piece (waits p))) (first_piece (waits p)))) p.message (p.sent + largest_written)
got_more None p is =
    (omega arith, refl, refl, refl, ap (λ (n : ℕ). take largest_written (drop n (text p.message))) is ∙ ap (λ (n : ℕ). take n (text p.message)) (let e : largest_written ≡ p.sent + largest_written = omega arith in e))
got_more (Some b) p is =
    (omega arith, is.1, is.2, is.3, ap (λ (xs : List ℕ). xs ++ take largest_written (drop p.sent (text p.message))) is.4 ∙ sym (take-add p.sent largest_written (text p.message)))

and_not : (k : Kind) (t : Bool) (a : Bool) → (is_reply k ≡ true → a ≡ true) → is_reply k ≡ true → (not (is_reply k && false && t) && a) ≡ true
and_not kinds.Msg t a there e = absurd cc
and_not kinds.Rpy t a there e = there e
and_not kinds.Err t a there e = there e
and_not kinds.AckMsg t a there e = absurd cc
and_not kinds.AckRpy t a there e = absurd cc

-- a message is under way with one frame more
pub pending_further : (before : List Event) (p : Pending) → IsPending before p → has_more (waits p) ≡ true → IsPending (came (first_piece (waits p)) ∷ before) (further p)
pending_further before p is more = record {
  readable = is.readable;
  carried = is.carried;
  calm = is.calm;
  awaited = λ reply. subst (λ (b : Bool). (not (is_reply p.message.kind && not b && eqb p.message.number p.message.number) && is_awaited before p.message.number) ≡ true) (sym more)
      (and_not p.message.kind (eqb p.message.number p.message.number) (is_awaited before p.message.number) is.awaited reply);
  begun = subst (λ (fs : List FrameParts). IsGot (brought_by fs) p.message (p.sent + largest_written))
      (sym (next_of_kind p.message.kind (eqb p.message.number p.message.number) (has_more (waits p)) (first_piece (waits p)) (frames_of is_request p.message.number before) (frames_of is_reply p.message.number before) is.carried (eq-eqb p.message.number p.message.number refl) more))
      (got_more (got before p.message) p is.begun);
}

-- ---- a frame of another message comes

-- whether both kinds are of requests, or both of replies
abbrev pub class_of : Bool → Kind → Bool
class_of true k = is_request k
class_of false k = is_reply k

kept_in : (r r' t : Bool) (xs xs' ys ys' : List FrameParts) → (cond r r' (not r') && t) ≡ false → cond r' (cond (r && t) xs' xs) (cond (not r && t) ys' ys) ≡ cond r' xs ys
kept_in true true t xs xs' ys ys' apart = ap (λ (b : Bool). cond b xs' xs) apart
kept_in true false t xs xs' ys ys' apart = refl
kept_in false true t xs xs' ys ys' apart = refl
kept_in false false t xs xs' ys ys' apart = ap (λ (b : Bool). cond b ys' ys) apart

class_by : (r : Bool) (k : Kind) → has_checksum k ≡ true → class_of r k ≡ cond r (is_request k) (not (is_request k))
class_by true k message = refl
class_by false k message = other_class k message

kept_of_kind : (k k' : Kind) (t : Bool) (xs xs' ys ys' : List FrameParts) → has_checksum k ≡ true → has_checksum k' ≡ true → (class_of (is_request k) k' && t) ≡ false
    → cond (is_request k') (cond (is_request k && t) xs' xs) (cond (is_reply k && t) ys' ys) ≡ cond (is_request k') xs ys
kept_of_kind k k' t xs xs' ys ys' message message' apart =
    ap (λ (b : Bool). cond (is_request k') (cond (is_request k && t) xs' xs) (cond (b && t) ys' ys)) (other_class k message)
    ∙ kept_in (is_request k) (is_request k') t xs xs' ys ys' (sym (ap (λ (b : Bool). b && t) (class_by (is_request k) k' message')) ∙ apart)

awaited_kept : (k k' : Kind) (t more a : Bool) → has_checksum k ≡ true → (class_of (is_request k) k' && t) ≡ false → is_reply k' ≡ true → a ≡ true → (not (is_reply k && not more && t) && a) ≡ true
awaited_kept kinds.Msg k' t more a carried apart reply there = there
awaited_kept kinds.Rpy k' t more a carried apart reply there = go t more (sym (ap (λ (b : Bool). b && t) reply) ∙ apart) where
  go : (t more : Bool) → t ≡ false → (not (true && not more && t) && a) ≡ true
  go true more e = absurd cc
  go false true e = there
  go false false e = there
awaited_kept kinds.Err k' t more a carried apart reply there = go t more (sym (ap (λ (b : Bool). b && t) reply) ∙ apart) where
  go : (t more : Bool) → t ≡ false → (not (true && not more && t) && a) ≡ true
  go true more e = absurd cc
  go false true e = there
  go false false e = there
awaited_kept kinds.AckMsg k' t more a carried apart reply there = absurd cc
awaited_kept kinds.AckRpy k' t more a carried apart reply there = absurd cc

pub pending_beside : (before : List Event) (f : FrameParts) (p : Pending) → has_checksum f.kind ≡ true → (class_of (is_request f.kind) p.message.kind && eqb p.message.number f.number) ≡ false
    → IsPending before p → IsPending (came f ∷ before) p
pending_beside before f p carried apart is = record {
  readable = is.readable;
  carried = is.carried;
  calm = is.calm;
  awaited = λ reply. awaited_kept f.kind p.message.kind (eqb p.message.number f.number) f.more (is_awaited before p.message.number) carried apart reply (is.awaited reply);
  begun = subst (λ (fs : List FrameParts). IsGot (brought_by fs) p.message p.sent)
      (sym (kept_of_kind f.kind p.message.kind (eqb p.message.number f.number) (frames_of is_request p.message.number before) (cond f.more (f ∷ frames_of is_request p.message.number before) []) (frames_of is_reply p.message.number before) (cond f.more (f ∷ frames_of is_reply p.message.number before) []) carried is.carried apart))
      is.begun;
}

or_true : (b a : Bool) → a ≡ true → (b || a) ≡ true
or_true true a e = refl
or_true false a e = e

pub pending_expected : (before : List Event) (n : ℕ) (p : Pending) → IsPending before p → IsPending (expected n ∷ before) p
pending_expected before n p is = record {
  readable = is.readable;
  carried = is.carried;
  calm = is.calm;
  awaited = λ reply. or_true (eqb p.message.number n) (is_awaited before p.message.number) (is.awaited reply);
  begun = is.begun;
}

-- an acknowledgement comes
acked_of_kind : (k : Kind) (k' : Kind) (t : Bool) (xs xs' ys ys' : List FrameParts) → has_checksum k ≡ false → cond (is_request k') (cond (is_request k && t) xs' xs) (cond (is_reply k && t) ys' ys) ≡ cond (is_request k') xs ys
acked_of_kind kinds.Msg k' t xs xs' ys ys' e = absurd cc
acked_of_kind kinds.Rpy k' t xs xs' ys ys' e = absurd cc
acked_of_kind kinds.Err k' t xs xs' ys ys' e = absurd cc
acked_of_kind kinds.AckMsg k' t xs xs' ys ys' e = refl
acked_of_kind kinds.AckRpy k' t xs xs' ys ys' e = refl

acked_awaited : (k : Kind) (t more a : Bool) → has_checksum k ≡ false → a ≡ true → (not (is_reply k && not more && t) && a) ≡ true
acked_awaited kinds.Msg t more a e there = there
acked_awaited kinds.Rpy t more a e there = absurd cc
acked_awaited kinds.Err t more a e there = absurd cc
acked_awaited kinds.AckMsg t more a e there = there
acked_awaited kinds.AckRpy t more a e there = there

pub pending_acked : (before : List Event) (f : FrameParts) (p : Pending) → has_checksum f.kind ≡ false → IsPending before p → IsPending (came f ∷ before) p
pending_acked before f p none is = record {
  readable = is.readable;
  carried = is.carried;
  calm = is.calm;
  awaited = λ reply. acked_awaited f.kind (eqb p.message.number f.number) f.more (is_awaited before p.message.number) none (is.awaited reply);
  begun = subst (λ (fs : List FrameParts). IsGot (brought_by fs) p.message p.sent)
      (sym (acked_of_kind f.kind p.message.kind (eqb p.message.number f.number) (frames_of is_request p.message.number before) (cond f.more (f ∷ frames_of is_request p.message.number before) []) (frames_of is_reply p.message.number before) (cond f.more (f ∷ frames_of is_reply p.message.number before) []) none))
      is.begun;
}
