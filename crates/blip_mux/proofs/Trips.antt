-- From an outbox to an inbox, step by step.
use Rattle.std.proofs.Common.{◌≡◌, ℕ, ◌+◌, ◌^◌, ◌<◌, ◌≤◌, Bool, true, false, ◌&&◌, cond, eqb, leb, List, [], ◌∷◌, ◌++◌, length, Result, Ok, Err, Some, None, refl, sym, ap, subst, ◌∙◌, arith, ◌⊎◌, inl, inr, append_assoc}
use Rattle.std.specs.Prelude.{map, max, Option, option_map}
use Rattle.std.specs.Option.{option_map_or}
use Rattle.std.proofs.lemmas.Bool.{eqb-true, eq-eqb, ne_eqb, cases_Bool, both_ways, and_parts}
use Rattle.std.proofs.lemmas.List.{append-nil, length-append}
use Rattle.blip_frame.specs.Frame.{FrameParts, has_checksum}
use Rattle.blip_frame.specs.Varint.{varint, number_at}
use Rattle.blip_frame.specs.declared.frame.Kind.{Kind}
use Rattle.blip_frame.specs.declared.frame.Kind.TheVariants as kinds
use Rattle.blip_frame.specs.declared.varint.VarintFault.{VarintFault}
use Rattle.blip_mux.specs.declared.message.Message.{Message}
use Rattle.blip_mux.specs.declared.inbox.Taken.{Taken}
use Rattle.blip_mux.specs.declared.inbox.Taken.TheVariants as takens
use Rattle.blip_mux.specs.declared.inbox.TakeFault.{TakeFault}
use Rattle.blip_mux.specs.declared.inbox.TakeFault.TheVariants as faults
use Rattle.blip_mux.specs.Begun.{Begun}
use Rattle.blip_mux.specs.Joining.{Event, came, expected, is_request, is_reply, begun_or, brought_by, acknowledges, acknowledge_after, part_by, most_held, held_in, within, may_come, answer_in, acknowledged, count_in, frames_of, so_far_in, requests_in, is_awaited, Joined, followed_by, joined_after, joined}
use Rattle.blip_mux.specs.Order.{messages_in, CountsFrom}
use Rattle.blip_mux.specs.Acknowledgements.{Acknowledgement, ack_frame}
use Rattle.blip_mux.specs.Sending.{Waiting, Sending, new_sending, has_more, first_piece, without_piece, back, chosen, next_piece, after_piece, picked, after_picked, is_of, acked, acked_in}
use Rattle.blip_mux.specs.Cutting.{times_waiting}
use Rattle.blip_mux.specs.Between.{Step, put, owe, take_ack, send, expect, waiting_of, sending_in, sent_to, events_in, put_in, messages_of, CanBeRead, HasItsTurn, AreAllowed}
use Rattle.blip_mux.proofs.Cuts.{Found}
use Rattle.blip_mux.proofs.Orders.{IsSound, sound_start, sound_came, sound_acknowledged, sound_expected, has_some}
use Rattle.blip_mux.proofs.Classes.{no_request}
use Rattle.blip_mux.proofs.Classes as classes
use Rattle.blip_mux.proofs.Shares.{times-append, times_split, times_after}
use Rattle.blip_mux.proofs.Pending.{Pending, waits, further, got, IsGot, IsPending, has_room, class_of, ReadsAgain, may_come_next, answer_more, answer_last, pending_further, pending_beside, pending_expected, pending_acked}
use Rattle.blip_mux.proofs.Choices.{map-append, is_fresh, fresh, fresh-append, Choice, choice, split_of, goes_back, back_is, counts-append, fresh_before, fresh_after}

-- ---- lists of messages under way

abbrev Each : List Event → List Pending → Type 0
Each before [] = Unit {0}
Each before (p ∷ ps) = IsPending before p × Each before ps

each-append : (before : List Event) (ps qs : List Pending) → Each before ps → Each before qs → Each before (ps ++ qs)
each-append before [] qs a b = b
each-append before (p ∷ ps) qs a b = (a.0, each-append before ps qs a.1 b)

each_front : (before : List Event) (ps : List Pending) (p : Pending) (qs : List Pending) → Each before (ps ++ p ∷ qs) → Each before ps × IsPending before p × Each before qs
each_front before [] p qs all = (tt, all.0, all.1)
each_front before (x ∷ ps) p qs all = let rest = each_front before ps p qs all.1 in ((all.0, rest.0), rest.1, rest.2)

each_expected : (before : List Event) (n : ℕ) (ps : List Pending) → Each before ps → Each (expected n ∷ before) ps
each_expected before n [] all = tt
each_expected before n (p ∷ ps) all = (pending_expected before n p all.0, each_expected before n ps all.1)

each_acked : (before : List Event) (f : FrameParts) (ps : List Pending) → has_checksum f.kind ≡ false → Each before ps → Each (came f ∷ before) ps
each_acked before f [] none all = tt
each_acked before f (p ∷ ps) none all = (pending_acked before f p none all.0, each_acked before f ps none all.1)

eqb_sym : (a b : ℕ) → eqb a b ≡ eqb b a
eqb_sym a b = elim (cases_Bool (eqb a b)) [
  | inl same ↦ same ∙ sym (eq-eqb b a (sym (eqb-true a b same)))
  | inr other ↦ other ∙ sym (ne_eqb b a (λ e. both_ways (eqb a b) other (eq-eqb a b (sym e))))
]

not_one : (t : Bool) (n : ℕ) → cond t 1 0 + n ≤ 0 → (t ≡ false) × (n ≤ 0)
not_one true n h = absurd (omega arith)
not_one false n h = (refl, omega arith)

each_beside : (before : List Event) (f : FrameParts) (ps : List Pending) → has_checksum f.kind ≡ true → times_waiting (class_of (is_request f.kind)) f.number (map waits ps) ≤ 0 → Each before ps → Each (came f ∷ before) ps
each_beside before f [] carried none all = tt
each_beside before f (p ∷ ps) carried none all =
    let parts = not_one (class_of (is_request f.kind) p.message.kind && eqb f.number p.message.number) (times_waiting (class_of (is_request f.kind)) f.number (map waits ps)) none in
    let apart = ap (λ (b : Bool). class_of (is_request f.kind) p.message.kind && b) (eqb_sym p.message.number f.number) ∙ parts.0 in
    (pending_beside before f p carried apart all.0, each_beside before f ps carried parts.1 all.1)

abbrev messages : List Pending → List Message
messages [] = []
messages (p ∷ ps) = p.message ∷ messages ps

messages-append : (ps qs : List Pending) → messages (ps ++ qs) ≡ messages ps ++ messages qs
messages-append [] qs = refl
messages-append (p ∷ ps) qs = ap (λ (ms : List Message). p.message ∷ ms) (messages-append ps qs)

of-append : (class : Kind → Bool) (q : ℕ) (xs ys : List Message) → messages_of class q (xs ++ ys) ≡ messages_of class q xs ++ messages_of class q ys
of-append class q [] ys = refl
of-append class q (x ∷ xs) ys = go (class x.kind && eqb q x.number) (of-append class q xs ys) where
  go : (b : Bool) → messages_of class q (xs ++ ys) ≡ messages_of class q xs ++ messages_of class q ys
      → cond b (x ∷ messages_of class q (xs ++ ys)) (messages_of class q (xs ++ ys)) ≡ cond b (x ∷ messages_of class q xs) (messages_of class q xs) ++ messages_of class q ys
  go true e = ap (λ (ms : List Message). x ∷ ms) e
  go false e = e

none_of : (class : Kind → Bool) (q : ℕ) (ps : List Pending) → times_waiting class q (map waits ps) ≤ 0 → messages_of class q (messages ps) ≡ []
none_of class q [] h = refl
none_of class q (p ∷ ps) h =
    let parts = not_one (class p.message.kind && eqb q p.message.number) (times_waiting class q (map waits ps)) h in
    ap (λ (b : Bool). cond b (p.message ∷ messages_of class q (messages ps)) (messages_of class q (messages ps))) parts.0 ∙ none_of class q ps parts.1

-- ---- what holds at each step

abbrev AreAcks : List Acknowledgement → Type 0
AreAcks [] = Unit {0}
AreAcks (a ∷ waiting_acks) = ((has_checksum a.kind ≡ false) × (a.bytes < 2 ^ 64)) × AreAcks waiting_acks

waiting_acks-append : (waiting_acks : List Acknowledgement) (a : Acknowledgement) → AreAcks waiting_acks → (has_checksum a.kind ≡ false) × (a.bytes < 2 ^ 64) → AreAcks (waiting_acks ++ a ∷ [])
waiting_acks-append [] a are is = (is, tt)
waiting_acks-append (b ∷ waiting_acks) a are is = (are.0, waiting_acks-append waiting_acks a are.1 is)

record Holds (requests : ℕ) (ps : List Pending) (before : List Event) : Type 0 where
  each : Each before ps
  sound : IsSound before
  once : (c : Bool) (q : ℕ) → times_waiting (class_of c) q (map waits ps) ≤ 1
  order : CountsFrom (requests_in before + 1) (fresh (map waits ps))
  last : requests ≡ requests_in before + length (fresh (map waits ps))
  none_above : (q : ℕ) → requests < q → times_waiting is_request q (map waits ps) ≡ 0
  replies_wait : (q : ℕ) → times_waiting is_reply q (map waits ps) ≡ 0 → has_some (frames_of is_reply q before) ≡ false

abbrev sending_of : ℕ → ℕ → List Acknowledgement → List Pending → Sending
sending_of requests replies waiting_acks ps = record { requests = requests; replies = replies; acknowledgements = waiting_acks; waiting = map waits ps }

-- ---- a message is put

abbrev begun_with : Message → Pending
begun_with m = record { message = m; sent = 0; acked_bytes = 0 }

abbrev with_last : List Pending → Message → List Pending
with_last ps m = ps ++ begun_with m ∷ []

none_brought : (fs : List FrameParts) → has_some fs ≡ false → brought_by fs ≡ None
none_brought [] e = refl
none_brought (f ∷ fs) e = absurd cc

-- what the turn of a message says
record IsRequest (requests : ℕ) (m : Message) : Type 0 where
  kind : m.kind ≡ kinds.Msg
  number : m.number ≡ requests + 1
  calm : m.urgent ≡ false

record IsReply (ps : List Pending) (before : List Event) (m : Message) : Type 0 where
  request : is_request m.kind ≡ false
  reply : is_reply m.kind ≡ true
  carried : has_checksum m.kind ≡ true
  awaited : is_awaited before m.number ≡ true
  alone : times_waiting is_reply m.number (map waits ps) ≡ 0

turn_of : (requests replies : ℕ) (waiting_acks : List Acknowledgement) (ps : List Pending) (before : List Event) (m : Message) (k : Kind) → m.kind ≡ k → HasItsTurn (sending_of requests replies waiting_acks ps) before m k → IsRequest requests m ⊎ IsReply ps before m
turn_of requests replies waiting_acks ps before m kinds.Msg is turn = inl (record { kind = is; number = turn.0; calm = turn.1 })
turn_of requests replies waiting_acks ps before m kinds.Rpy is turn =
    inr (record { request = ap is_request is; reply = ap is_reply is; carried = ap has_checksum is; awaited = turn.0; alone = turn.1 })
turn_of requests replies waiting_acks ps before m kinds.Err is turn =
    inr (record { request = ap is_request is; reply = ap is_reply is; carried = ap has_checksum is; awaited = turn.0; alone = turn.1 })
turn_of requests replies waiting_acks ps before m kinds.AckMsg is turn = absurd turn
turn_of requests replies waiting_acks ps before m kinds.AckRpy is turn = absurd turn

false_true : (b : Bool) (P : Type 0) → b ≡ false → b ≡ true → P
false_true b P e h = absurd cc

not_there : (b : Bool) → (b ≡ true → ⊥) → b ≡ false
not_there true h = absurd (h refl)
not_there false h = refl

-- how often a message waits, with one put last
times_last : (class : Kind → Bool) (q : ℕ) (ps : List Pending) (m : Message) → times_waiting class q (map waits (with_last ps m)) ≡ times_waiting class q (map waits ps) + cond (class m.kind && eqb q m.number) 1 0
times_last class q ps m =
    omega (arith, ap (times_waiting class q) (map-append ps (begun_with m ∷ [])), times-append class q (map waits ps) (waits (begun_with m) ∷ []))

one_more : (t : Bool) (n : ℕ) → n ≤ 1 → (t ≡ true → n ≡ 0) → n + cond t 1 0 ≤ 1
one_more true n few none = let e = none refl in omega arith
one_more false n few none = omega arith

put_request : (requests : ℕ) (ps : List Pending) (before : List Event) (m : Message) → CanBeRead m → IsRequest requests m → Holds requests ps before → Holds m.number (with_last ps m) before
put_request requests ps before m readable turn holds =
    let request : is_request m.kind ≡ true = ap is_request turn.kind in
    let no_reply : is_reply m.kind ≡ false = ap is_reply turn.kind in
    let freshly : fresh (map waits (with_last ps m)) ≡ fresh (map waits ps) ++ m.number ∷ [] =
    ap fresh (map-append ps (begun_with m ∷ [])) ∙ fresh-append (map waits ps) (waits (begun_with m) ∷ [])
    ∙ ap (λ (b : Bool). fresh (map waits ps) ++ cond (b && eqb 0 0) (m.number ∷ []) []) request in
    let number : m.number ≡ requests_in before + 1 + length (fresh (map waits ps)) = let n = turn.number in let l = holds.last in omega arith in
    record {
      each = each-append before ps (begun_with m ∷ []) holds.each (
        record {
          readable = readable;
          carried = ap has_checksum turn.kind;
          calm = λ _. turn.calm;
          awaited = λ reply. false_true (is_reply m.kind) _ no_reply reply;
          begun = subst (λ (o : Option Begun). IsGot o m 0)
              (sym (ap (λ (b : Bool). brought_by (cond b (frames_of is_request m.number before) (frames_of is_reply m.number before))) request
              ∙ none_brought (frames_of is_request m.number before) (not_there (has_some (frames_of is_request m.number before)) (λ h. let a = (holds.sound.requests m.number h).1 in absurd (omega arith))))) refl;
        },
        tt,
      );
      sound = holds.sound;
      once = λ c q. subst (λ (n : ℕ). n ≤ 1) (sym (times_last (class_of c) q ps m))
          (one_more (class_of c m.kind && eqb q m.number) (times_waiting (class_of c) q (map waits ps)) (holds.once c q) (at_new c q request no_reply));
      order = subst (CountsFrom (requests_in before + 1)) (sym (freshly ∙ ap (λ (n : ℕ). fresh (map waits ps) ++ n ∷ []) number)) (counts-append (requests_in before + 1) (fresh (map waits ps)) holds.order);
      last = let l = ap length freshly in let a = length-append (fresh (map waits ps)) (m.number ∷ []) in omega arith;
      none_above = λ q above.
          let old = holds.none_above q (let n = turn.number in omega arith) in
          let other : eqb q m.number ≡ false = ne_eqb q m.number (λ e. absurd (omega arith)) in
          times_last is_request q ps m ∙ ap (λ (n : ℕ). n + cond (is_request m.kind && eqb q m.number) 1 0) old ∙ ap (λ (b : Bool). 0 + cond (is_request m.kind && b) 1 0) other ∙ none_more (is_request m.kind);
      replies_wait = λ q none. holds.replies_wait q (let t = times_last is_reply q ps m in omega arith);
    } where
      none_more : (b : Bool) → ◌≡◌ {A = ℕ} (0 + cond (b && false) 1 0) 0
      none_more true = refl
      none_more false = refl

      at_new : (c : Bool) (q : ℕ) → is_request m.kind ≡ true → is_reply m.kind ≡ false → (class_of c m.kind && eqb q m.number) ≡ true → times_waiting (class_of c) q (map waits ps) ≡ 0
      at_new true q request reply is = holds.none_above q (let e = eqb-true q m.number (and_parts (is_request m.kind) (eqb q m.number) is).1 in let n = turn.number in omega arith)
      at_new false q request reply is = false_true (is_reply m.kind) _ reply (and_parts (is_reply m.kind) (eqb q m.number) is).0

put_reply : (requests : ℕ) (ps : List Pending) (before : List Event) (m : Message) → CanBeRead m → IsReply ps before m → Holds requests ps before → Holds requests (with_last ps m) before
put_reply requests ps before m readable turn holds =
    let freshly : fresh (map waits (with_last ps m)) ≡ fresh (map waits ps) =
    ap fresh (map-append ps (begun_with m ∷ [])) ∙ fresh-append (map waits ps) (waits (begun_with m) ∷ [])
    ∙ ap (λ (b : Bool). fresh (map waits ps) ++ cond (b && eqb 0 0) (m.number ∷ []) []) turn.request ∙ append-nil (fresh (map waits ps)) in
    record {
      each = each-append before ps (begun_with m ∷ []) holds.each (
        record {
          readable = readable;
          carried = turn.carried;
          calm = λ request. false_true (is_request m.kind) _ turn.request request;
          awaited = λ _. turn.awaited;
          begun = subst (λ (o : Option Begun). IsGot o m 0)
              (sym (ap (λ (b : Bool). brought_by (cond b (frames_of is_request m.number before) (frames_of is_reply m.number before))) turn.request
              ∙ none_brought (frames_of is_reply m.number before) (holds.replies_wait m.number turn.alone))) refl;
        },
        tt,
      );
      sound = holds.sound;
      once = λ c q. subst (λ (n : ℕ). n ≤ 1) (sym (times_last (class_of c) q ps m))
          (one_more (class_of c m.kind && eqb q m.number) (times_waiting (class_of c) q (map waits ps)) (holds.once c q) (at_new c q));
      order = subst (CountsFrom (requests_in before + 1)) (sym freshly) holds.order;
      last = holds.last ∙ ap (λ (ns : List ℕ). requests_in before + length ns) (sym freshly);
      none_above = λ q above.
          times_last is_request q ps m ∙ ap (λ (n : ℕ). n + cond (is_request m.kind && eqb q m.number) 1 0) (holds.none_above q above) ∙ ap (λ (b : Bool). 0 + cond {A = ℕ} (b && eqb q m.number) 1 0) turn.request;
      replies_wait = λ q none. holds.replies_wait q (let t = times_last is_reply q ps m in omega arith);
    } where
      at_new : (c : Bool) (q : ℕ) → (class_of c m.kind && eqb q m.number) ≡ true → times_waiting (class_of c) q (map waits ps) ≡ 0
      at_new true q is = false_true (is_request m.kind) _ turn.request (and_parts (is_request m.kind) (eqb q m.number) is).0
      at_new false q is = ap (λ (n : ℕ). times_waiting is_reply n (map waits ps)) (eqb-true q m.number (and_parts (is_reply m.kind) (eqb q m.number) is).1) ∙ turn.alone

-- ---- a reply is expected

held_expected : (requests : ℕ) (ps : List Pending) (before : List Event) (n : ℕ) → Holds requests ps before → Holds requests ps (expected n ∷ before)
held_expected requests ps before n holds = record {
  each = each_expected before n ps holds.each;
  sound = sound_expected before n holds.sound;
  once = holds.once;
  order = holds.order;
  last = holds.last;
  none_above = holds.none_above;
  replies_wait = holds.replies_wait;
}

-- ---- an acknowledgement has come

abbrev pub acked_pending : Kind → ℕ → ℕ → List Pending → List Pending
acked_pending kind number bytes [] = []
acked_pending kind number bytes (p ∷ ps) = cond (is_of kind number (waits p)) (record p { acked_bytes = max bytes p.acked_bytes } ∷ ps) (p ∷ acked_pending kind number bytes ps)

module _ (kind : Kind) (number bytes : ℕ) where
  acked_waits : (ps : List Pending) → map waits (acked_pending kind number bytes ps) ≡ acked_in kind number bytes (map waits ps)
  acked_waits [] = refl
  acked_waits (p ∷ ps) = go (is_of kind number (waits p)) (acked_waits ps) where
    go : (b : Bool) → map waits (acked_pending kind number bytes ps) ≡ acked_in kind number bytes (map waits ps)
        → map waits (cond b (record p { acked_bytes = max bytes p.acked_bytes } ∷ ps) (p ∷ acked_pending kind number bytes ps)) ≡ cond b (acked bytes (waits p) ∷ map waits ps) (waits p ∷ acked_in kind number bytes (map waits ps))
    go true e = refl
    go false e = ap (λ (ws : List Waiting). waits p ∷ ws) e

  acked_each : (before : List Event) (ps : List Pending) → Each before ps → Each before (acked_pending kind number bytes ps)
  acked_each before [] all = tt
  acked_each before (p ∷ ps) all = go (is_of kind number (waits p)) (acked_each before ps all.1) where
    go : (b : Bool) → Each before (acked_pending kind number bytes ps) → Each before (cond b (record p { acked_bytes = max bytes p.acked_bytes } ∷ ps) (p ∷ acked_pending kind number bytes ps))
    go true rest = (record { readable = all.0.readable; carried = all.0.carried; calm = all.0.calm; awaited = all.0.awaited; begun = all.0.begun }, all.1)
    go false rest = (all.0, rest)

  acked_times : (class : Kind → Bool) (q : ℕ) (ps : List Pending) → times_waiting class q (map waits (acked_pending kind number bytes ps)) ≡ times_waiting class q (map waits ps)
  acked_times class q [] = refl
  acked_times class q (p ∷ ps) = go (is_of kind number (waits p)) (acked_times class q ps) where
    go : (b : Bool) → times_waiting class q (map waits (acked_pending kind number bytes ps)) ≡ times_waiting class q (map waits ps)
        → times_waiting class q (map waits (cond b (record p { acked_bytes = max bytes p.acked_bytes } ∷ ps) (p ∷ acked_pending kind number bytes ps))) ≡ times_waiting class q (map waits (p ∷ ps))
    go true e = refl
    go false e = ap (λ (n : ℕ). cond (class p.message.kind && eqb q p.message.number) 1 0 + n) e

  acked_fresh : (ps : List Pending) → fresh (map waits (acked_pending kind number bytes ps)) ≡ fresh (map waits ps)
  acked_fresh [] = refl
  acked_fresh (p ∷ ps) = go (is_of kind number (waits p)) (acked_fresh ps) where
    go : (b : Bool) → fresh (map waits (acked_pending kind number bytes ps)) ≡ fresh (map waits ps)
        → fresh (map waits (cond b (record p { acked_bytes = max bytes p.acked_bytes } ∷ ps) (p ∷ acked_pending kind number bytes ps))) ≡ fresh (map waits (p ∷ ps))
    go true e = refl
    go false e = ap (λ (ns : List ℕ). cond (is_fresh (waits p)) (p.message.number ∷ ns) ns) e

  acked_messages : (ps : List Pending) → messages (acked_pending kind number bytes ps) ≡ messages ps
  acked_messages [] = refl
  acked_messages (p ∷ ps) = go (is_of kind number (waits p)) (acked_messages ps) where
    go : (b : Bool) → messages (acked_pending kind number bytes ps) ≡ messages ps → messages (cond b (record p { acked_bytes = max bytes p.acked_bytes } ∷ ps) (p ∷ acked_pending kind number bytes ps)) ≡ messages (p ∷ ps)
    go true e = refl
    go false e = ap (λ (ms : List Message). p.message ∷ ms) e

  held_acked : (requests : ℕ) (ps : List Pending) (before : List Event) → Holds requests ps before → Holds requests (acked_pending kind number bytes ps) before
  held_acked requests ps before holds = record {
    each = acked_each before ps holds.each;
    sound = holds.sound;
    once = λ c q. subst (λ (n : ℕ). n ≤ 1) (sym (acked_times (class_of c) q ps)) (holds.once c q);
    order = subst (CountsFrom (requests_in before + 1)) (sym (acked_fresh ps)) holds.order;
    last = holds.last ∙ ap (λ (ns : List ℕ). requests_in before + length ns) (sym (acked_fresh ps));
    none_above = λ q above. acked_times is_request q ps ∙ holds.none_above q above;
    replies_wait = λ q none. holds.replies_wait q (sym (acked_times is_reply q ps) ∙ none);
  }

-- ---- an acknowledgement is sent

-- the law of varints
abbrev pub VarintsAgain : Type 0
VarintsAgain = (n : ℕ) (rest : List ℕ) → n < 2 ^ 64 → number_at (varint n ++ rest) ≡ Ok (n, rest)

answer_acked : VarintsAgain → (before : List Event) (a : Acknowledgement) → has_checksum a.kind ≡ false → a.bytes < 2 ^ 64
    → answer_in before (ack_frame a) ≡ Ok (takens.Ack a.kind a.number a.bytes)
answer_acked again before a none small =
    let f = ack_frame a in
    ap (λ (b : Bool). cond b (cond (may_come (requests_in before) (is_awaited before a.number) (so_far_in before f) f) (within (held_in before) (so_far_in before f) f) (Err (faults.OutOfOrder a.number))) (acknowledged f (count_in (number_at (varint a.bytes))))) none
    ∙ ap (λ (x : Result (ℕ × List ℕ) VarintFault). acknowledged f (count_in x)) (ap number_at (sym (append-nil (varint a.bytes))) ∙ again a.bytes [] small)

held_sent_ack : (requests : ℕ) (ps : List Pending) (before : List Event) (a : Acknowledgement) → has_checksum a.kind ≡ false → Holds requests ps before → Holds requests ps (came (ack_frame a) ∷ before)
held_sent_ack requests ps before a none holds =
    let same : requests_in before ≡ cond (is_request a.kind) (max a.number (requests_in before)) (requests_in before) = ap (λ (b : Bool). cond b (max a.number (requests_in before)) (requests_in before)) (sym (no_request a.kind none)) in
    record {
      each = each_acked before (ack_frame a) ps none holds.each;
      sound = sound_acknowledged before (ack_frame a) holds.sound none;
      once = holds.once;
      order = subst (λ (r : ℕ). CountsFrom (r + 1) (fresh (map waits ps))) same holds.order;
      last = holds.last ∙ ap (λ (r : ℕ). r + length (fresh (map waits ps))) same;
      none_above = holds.none_above;
      replies_wait = λ q alone. ap (λ (b : Bool). has_some (cond (b && eqb q a.number) [] (frames_of is_reply q before))) (classes.no_reply a.kind none) ∙ holds.replies_wait q alone;
    }

-- ---- a frame of a message is sent

class_itself : (k : Kind) → has_checksum k ≡ true → class_of (is_request k) k ≡ true
class_itself kinds.Msg e = refl
class_itself kinds.Rpy e = refl
class_itself kinds.Err e = refl
class_itself kinds.AckMsg e = absurd cc
class_itself kinds.AckRpy e = absurd cc

module _ (requests : ℕ) (ps : List Pending) (before : List Event) (c : Choice ps) (holds : Holds requests ps before) where
  abbrev others : List Pending
  others = c.front ++ c.rear

  abbrev sent : FrameParts
  sent = first_piece (waits c.it)

  abbrev then : List Pending
  then = others ++ goes_back c.it

  parts : Each before c.front × IsPending before c.it × Each before c.rear
  parts = each_front before c.front c.it c.rear (subst (Each before) c.whole holds.each)

  fresh_first : is_fresh (waits c.it) ≡ true → fresh (map waits c.front) ≡ []
  fresh_first is = c.first is parts.1.calm

  -- the number of a request that begins is the next one
  next_number : is_fresh (waits c.it) ≡ true → c.it.message.number ≡ requests_in before + 1
  next_number is =
      let shown : fresh (map waits ps) ≡ c.it.message.number ∷ fresh (map waits c.rear) =
      fresh_before ps c
      ∙ ap (λ (ns : List ℕ). ns ++ cond (is_fresh (waits c.it)) (c.it.message.number ∷ fresh (map waits c.rear)) (fresh (map waits c.rear))) (fresh_first is)
      ∙ ap (λ (b : Bool). cond b (c.it.message.number ∷ fresh (map waits c.rear)) (fresh (map waits c.rear))) is in
      (subst (CountsFrom (requests_in before + 1)) shown holds.order).0

  both : (a b : Bool) → a ≡ true → b ≡ true → (a && b) ≡ true
  both true true e f = refl
  both true false e f = absurd cc
  both false b e f = absurd cc

  may : may_come (requests_in before) (is_awaited before c.it.message.number) (got before c.it.message) sent ≡ true
  may = may_come_next before c.it parts.1 (λ request none. next_number (both (is_request c.it.message.kind) (eqb c.it.sent 0) request (eq-eqb c.it.sent 0 none)))

  -- nothing else of its class and number waits
  alone : times_waiting (class_of (is_request c.it.message.kind)) c.it.message.number (map waits others) ≤ 0
  alone =
      let class = class_of (is_request c.it.message.kind) in
      let it : (class c.it.message.kind && eqb c.it.message.number c.it.message.number) ≡ true =
      both (class c.it.message.kind) (eqb c.it.message.number c.it.message.number) (class_itself c.it.message.kind parts.1.carried) (eq-eqb c.it.message.number c.it.message.number refl) in
      let one : ◌≡◌ {A = ℕ} (cond (class c.it.message.kind && eqb c.it.message.number c.it.message.number) 1 0) 1 = ap (λ (b : Bool). cond {A = ℕ} b 1 0) it in
      omega (arith, times_split class c.it.message.number (map waits ps) (waits c.it) (map waits others) (split_of ps c), holds.once (is_request c.it.message.kind) c.it.message.number)

  abbrev after : List Event
  after = came sent ∷ before

  each_back : Each after (goes_back c.it)
  each_back = go (has_more (waits c.it)) refl where
    go : (b : Bool) → has_more (waits c.it) ≡ b → Each after (cond b (further c.it ∷ []) [])
    go true more = (pending_further before c.it parts.1 more, tt)
    go false last = tt

  each_other : Each after others
  each_other = each_beside before sent others parts.1.carried alone (each-append before c.front c.rear parts.0 parts.2)

  then_waits : map waits then ≡ map waits others ++ back (waits c.it)
  then_waits = map-append others (goes_back c.it) ∙ ap (λ (ws : List Waiting). map waits others ++ ws) (back_is c.it)

  fewer : (class : Kind → Bool) (q : ℕ) → times_waiting class q (map waits then) ≤ times_waiting class q (map waits ps)
  fewer class q = omega (arith, ap (times_waiting class q) then_waits, times_after class q (map waits ps) (waits c.it) (map waits others) (split_of ps c))

  -- ---- what is fresh afterwards

  fresh_then : fresh (map waits then) ≡ fresh (map waits c.front) ++ fresh (map waits c.rear)
  fresh_then = ap fresh then_waits ∙ fresh_after ps c

  -- a request that has begun has one of the numbers so far
  begun_number : is_request c.it.message.kind ≡ true → eqb c.it.sent 0 ≡ false → c.it.message.number ≤ requests_in before
  begun_number request some =
      (holds.sound.requests c.it.message.number
      (go (frames_of is_request c.it.message.number before)
      (subst (λ (b : Bool). IsGot (brought_by (cond b (frames_of is_request c.it.message.number before) (frames_of is_reply c.it.message.number before))) c.it.message c.it.sent) request parts.1.begun))).1 where
        go : (fs : List FrameParts) → IsGot (brought_by fs) c.it.message c.it.sent → has_some fs ≡ true
        go [] none = absurd (both_ways (eqb c.it.sent 0) some (eq-eqb c.it.sent 0 none))
        go (f ∷ fs) is = refl

  FreshAfter : Type 0
  FreshAfter = CountsFrom (requests_in after + 1) (fresh (map waits then)) × (requests ≡ requests_in after + length (fresh (map waits then)))

  begins : is_fresh (waits c.it) ≡ true → CountsFrom (requests_in after + 1) (fresh (map waits then)) × (requests ≡ requests_in after + length (fresh (map waits then)))
  begins is =
      let request : is_request c.it.message.kind ≡ true = (and_parts (is_request c.it.message.kind) (eqb c.it.sent 0) is).0 in
      let shown : fresh (map waits ps) ≡ c.it.message.number ∷ fresh (map waits c.rear) =
      fresh_before ps c
      ∙ ap (λ (ns : List ℕ). ns ++ cond (is_fresh (waits c.it)) (c.it.message.number ∷ fresh (map waits c.rear)) (fresh (map waits c.rear))) (fresh_first is)
      ∙ ap (λ (b : Bool). cond b (c.it.message.number ∷ fresh (map waits c.rear)) (fresh (map waits c.rear))) is in
      let rest : fresh (map waits then) ≡ fresh (map waits c.rear) = fresh_then ∙ ap (λ (ns : List ℕ). ns ++ fresh (map waits c.rear)) (fresh_first is) in
      let counts = subst (CountsFrom (requests_in before + 1)) shown holds.order in
      let next : requests_in after ≡ requests_in before + 1 =
      ap (λ (b : Bool). cond b (max c.it.message.number (requests_in before)) (requests_in before)) request ∙ (let n = counts.0 in omega arith) in
      (subst (CountsFrom (requests_in after + 1)) (sym rest) (subst (λ (r : ℕ). CountsFrom (r + 1) (fresh (map waits c.rear))) (sym next) counts.1), omega (arith, holds.last, ap length shown, ap length rest, next))

  goes_on : is_fresh (waits c.it) ≡ false → CountsFrom (requests_in after + 1) (fresh (map waits then)) × (requests ≡ requests_in after + length (fresh (map waits then)))
  goes_on is =
      let same : fresh (map waits ps) ≡ fresh (map waits then) =
      fresh_before ps c ∙ ap (λ (b : Bool). fresh (map waits c.front) ++ cond b (c.it.message.number ∷ fresh (map waits c.rear)) (fresh (map waits c.rear))) is ∙ sym fresh_then in
      let still : requests_in after ≡ requests_in before = go (is_request c.it.message.kind) refl is in
      (subst (λ (r : ℕ). CountsFrom (r + 1) (fresh (map waits then))) (sym still) (subst (CountsFrom (requests_in before + 1)) same holds.order), omega (arith, holds.last, ap length same, still)) where
        go : (b : Bool) → is_request c.it.message.kind ≡ b → (b && eqb c.it.sent 0) ≡ false → cond b (max c.it.message.number (requests_in before)) (requests_in before) ≡ requests_in before
        go true request some = let low = begun_number request some in omega arith
        go false request some = refl

  in_turn : CountsFrom (requests_in after + 1) (fresh (map waits then)) × (requests ≡ requests_in after + length (fresh (map waits then)))
  in_turn = elim (cases_Bool (is_fresh (waits c.it))) [
    | inl is ↦ begins is
    | inr is ↦ goes_on is
  ]

  -- ---- replies that have begun wait

  back_times : (class : Kind → Bool) (q : ℕ) → has_more (waits c.it) ≡ true → times_waiting class q (back (waits c.it)) ≡ cond (class c.it.message.kind && eqb q c.it.message.number) 1 0 + 0
  back_times class q more = ap (λ (b : Bool). times_waiting class q (cond b (without_piece (waits c.it) ∷ []) [])) more

  then_times : (class : Kind → Bool) (q : ℕ) → times_waiting class q (map waits then) ≡ times_waiting class q (map waits others) + times_waiting class q (back (waits c.it))
  then_times class q = ap (times_waiting class q) then_waits ∙ times-append class q (map waits others) (back (waits c.it))

  still_waits : (q : ℕ) → times_waiting is_reply q (map waits then) ≡ 0 → has_some (frames_of is_reply q after) ≡ false
  still_waits q none = go (is_reply c.it.message.kind && eqb q c.it.message.number) (has_more (waits c.it)) (λ more. back_times is_reply q more) (times_split is_reply q (map waits ps) (waits c.it) (map waits others) (split_of ps c)) where
    go : (t more : Bool) → (more ≡ true → times_waiting is_reply q (back (waits c.it)) ≡ cond t 1 0 + 0) → times_waiting is_reply q (map waits ps) ≡ cond t 1 0 + times_waiting is_reply q (map waits others)
        → has_some (cond t (cond more (sent ∷ frames_of is_reply q before) []) (frames_of is_reply q before)) ≡ false
    go true true back_is split = absurd (let b = back_is refl in let t = then_times is_reply q in omega arith)
    go true false back_is split = refl
    go false more back_is split = holds.replies_wait q (let t = then_times is_reply q in omega arith)

  held_sent : Holds requests then after
  held_sent = record {
    each = each-append after others (goes_back c.it) each_other each_back;
    sound = sound_came before sent holds.sound may;
    once = λ b q. let f = fewer (class_of b) q in let o = holds.once b q in omega arith;
    order = in_turn.0;
    last = in_turn.1;
    none_above = λ q above. let f = fewer is_request q in let o = holds.none_above q above in omega arith;
    replies_wait = still_waits;
  }

  -- ---- the messages that wait

  of_parts : (class : Kind → Bool) (q : ℕ) → messages_of class q (messages ps) ≡ messages_of class q (messages c.front) ++ messages_of class q (c.it.message ∷ messages c.rear)
  of_parts class q = ap (λ (xs : List Pending). messages_of class q (messages xs)) c.whole ∙ ap (messages_of class q) (messages-append c.front (c.it ∷ c.rear)) ∙ of-append class q (messages c.front) (c.it.message ∷ messages c.rear)

  of_others : (class : Kind → Bool) (q : ℕ) → messages_of class q (messages others) ≡ messages_of class q (messages c.front) ++ messages_of class q (messages c.rear)
  of_others class q = ap (messages_of class q) (messages-append c.front c.rear) ∙ of-append class q (messages c.front) (messages c.rear)

  -- the message that sends, before the others or after them
  of_it : (b : Bool) (q : ℕ)
      → (messages_of (class_of b) q (messages ps) ≡ messages_of (class_of b) q (c.it.message ∷ []) ++ messages_of (class_of b) q (messages others))
      × (messages_of (class_of b) q (messages ps) ≡ messages_of (class_of b) q (messages others) ++ messages_of (class_of b) q (c.it.message ∷ []))
  of_it b q = go (class_of b c.it.message.kind && eqb q c.it.message.number) (times_split (class_of b) q (map waits ps) (waits c.it) (map waits others) (split_of ps c)) (of_parts (class_of b) q) where
    go : (t : Bool) → times_waiting (class_of b) q (map waits ps) ≡ cond t 1 0 + times_waiting (class_of b) q (map waits others) → messages_of (class_of b) q (messages ps) ≡ messages_of (class_of b) q (messages c.front) ++ cond t (c.it.message ∷ messages_of (class_of b) q (messages c.rear)) (messages_of (class_of b) q (messages c.rear))
        → (messages_of (class_of b) q (messages ps) ≡ cond t (c.it.message ∷ []) [] ++ messages_of (class_of b) q (messages others))
        × (messages_of (class_of b) q (messages ps) ≡ messages_of (class_of b) q (messages others) ++ cond t (c.it.message ∷ []) [])
    go true split whole =
        let few = times-append (class_of b) q (map waits c.front) (map waits c.rear) in
        let all = ap (times_waiting (class_of b) q) (map-append c.front c.rear) in
        let o = holds.once b q in
        let front : messages_of (class_of b) q (messages c.front) ≡ [] = none_of (class_of b) q c.front (omega arith) in
        let rear : messages_of (class_of b) q (messages c.rear) ≡ [] = none_of (class_of b) q c.rear (omega arith) in
        let left : messages_of (class_of b) q (messages others) ≡ [] = of_others (class_of b) q ∙ ap (λ (ms : List Message). ms ++ messages_of (class_of b) q (messages c.rear)) front ∙ rear in
        let it : messages_of (class_of b) q (messages ps) ≡ c.it.message ∷ [] = whole ∙ ap (λ (ms : List Message). ms ++ c.it.message ∷ messages_of (class_of b) q (messages c.rear)) front ∙ ap (λ (ms : List Message). c.it.message ∷ ms) rear in
        (it ∙ ap (λ (ms : List Message). c.it.message ∷ ms) (sym left), it ∙ ap (λ (ms : List Message). ms ++ c.it.message ∷ []) (sym left))
    go false split whole = (whole ∙ sym (of_others (class_of b) q), whole ∙ sym (of_others (class_of b) q) ∙ sym (append-nil (messages_of (class_of b) q (messages others))))

-- ---- what the other side joins

-- no frame is refused, and what is given is what was under way and what is put
abbrev Carries : Sending → List Event → List Pending → List Step → Type 0
Carries s before ps steps =
    ((joined_after before (events_in s steps)).1 ≡ None)
    × ((b : Bool) (q : ℕ) → times_waiting (class_of b) q (sending_in s steps).waiting ≡ 0
    → messages_of (class_of b) q (messages_in (joined_after before (events_in s steps)).0) ≡ messages_of (class_of b) q (messages ps) ++ messages_of (class_of b) q (put_in steps))

given_first : (class : Kind → Bool) (q : ℕ) (taken : Taken) (given : List Taken)
    → messages_of class q (messages_in (taken ∷ given)) ≡ messages_of class q (messages_in (taken ∷ [])) ++ messages_of class q (messages_in given)
given_first class q takens.Nothing given = refl
given_first class q (takens.Ack kind number bytes) given = refl
given_first class q (takens.Owed kind number bytes) given = refl
given_first class q (takens.Whole m) given = of-append class q (m ∷ []) (messages_in given)

-- a frame is sent, which gives this
carried_by : (s : Sending) (before : List Event) (ps qs : List Pending) (steps : List Step) (f : FrameParts) (taken : Taken) → picked s ≡ Some f → answer_in before f ≡ Ok taken
    → ((b : Bool) (q : ℕ) → messages_of (class_of b) q (messages ps) ≡ messages_of (class_of b) q (messages_in (taken ∷ [])) ++ messages_of (class_of b) q (messages qs))
    → Carries (after_picked s) (came f ∷ before) qs steps → Carries s before ps (send ∷ steps)
carried_by s before ps qs steps f taken is answer given rest =
    let events = events_in (after_picked s) steps in
    let same : joined_after before (sent_to (picked s) events) ≡ followed_by (Ok taken) (joined_after (came f ∷ before) events) =
    ap (λ (o : Option FrameParts). joined_after before (sent_to o events)) is ∙ ap (λ (x : Result Taken TakeFault). followed_by x (joined_after (came f ∷ before) events)) answer in (
      ap (λ (j : Joined). j.1) same ∙ rest.0,
      λ b q none.
          ap (λ (j : Joined). messages_of (class_of b) q (messages_in j.0)) same
          ∙ given_first (class_of b) q taken (joined_after (came f ∷ before) events).0
          ∙ ap (λ (ms : List Message). messages_of (class_of b) q (messages_in (taken ∷ [])) ++ ms) (rest.1 b q none)
          ∙ sym (append_assoc (messages_of (class_of b) q (messages_in (taken ∷ []))) (messages_of (class_of b) q (messages qs)) (messages_of (class_of b) q (put_in steps)))
          ∙ ap (λ (ms : List Message). ms ++ messages_of (class_of b) q (put_in steps)) (sym (given b q)),
    )

part_gives : (class : Kind → Bool) (q : ℕ) (b : Begun) (f : FrameParts) → messages_of class q (messages_in (part_by b f ∷ [])) ≡ []
part_gives class q b f = go (leb acknowledge_after (b.unacknowledged + length f.payload)) where
  go : (t : Bool) → messages_of class q (messages_in ((cond t (takens.Owed (acknowledges f.kind) f.number (length (b.bytes ++ f.payload))) takens.Nothing) ∷ [])) ≡ []
  go true = refl
  go false = refl

-- a frame of a message is sent
carried_message : ReadsAgain → (requests replies : ℕ) (ps : List Pending) (before : List Event) (c : Choice ps) (holds : Holds requests ps before) (steps : List Step) → held_in (came (first_piece (waits c.it)) ∷ before) ≤ most_held
    → Carries (sending_of requests replies [] (then requests ps before c holds)) (came (first_piece (waits c.it)) ∷ before) (then requests ps before c holds) steps
    → Carries (sending_of requests replies [] ps) before ps (send ∷ steps)
carried_message again requests replies ps before c holds steps low rest =
    let f = first_piece (waits c.it) in
    let is = (parts requests ps before c holds).1 in
    let has = has_room before c.it is low in
    let next : next_piece (map waits ps) ≡ Some f = ap (option_map (λ found. first_piece found.0)) c.taken in
    let left : map waits (then requests ps before c holds) ≡ after_piece (map waits ps) =
    then_waits requests ps before c holds ∙ ap (λ (o : Found). option_map_or (λ found. found.1 ++ back found.0) o (map waits ps)) (sym c.taken) in
    let on = subst (λ (ws : List Waiting). Carries (record { requests = requests; replies = replies; acknowledgements = []; waiting = ws }) (came f ∷ before) (then requests ps before c holds) steps) left rest in
    elim (cases_Bool (has_more (waits c.it))) [
      | inl more ↦
          carried_by (sending_of requests replies [] ps) before ps (then requests ps before c holds) steps f (part_by (begun_or (got before c.it.message) f) f) next
          (answer_more before c.it is.carried has (may requests ps before c holds) more)
          (λ b q. (of_it requests ps before c holds b q).1
          ∙ sym (of-append (class_of b) q (messages (c.front ++ c.rear)) (c.it.message ∷ []))
          ∙ ap (messages_of (class_of b) q) (sym (messages-append (c.front ++ c.rear) (further c.it ∷ [])))
          ∙ ap (λ (t : Bool). messages_of (class_of b) q (messages ((c.front ++ c.rear) ++ cond t (further c.it ∷ []) []))) (sym more)
          ∙ ap (λ (ms : List Message). ms ++ messages_of (class_of b) q (messages (then requests ps before c holds))) (sym (part_gives (class_of b) q (begun_or (got before c.it.message) f) f)))
          on
      | inr last ↦
          carried_by (sending_of requests replies [] ps) before ps (then requests ps before c holds) steps f (takens.Whole c.it.message) next
          (answer_last again before c.it is has (may requests ps before c holds) last)
          (λ b q. (of_it requests ps before c holds b q).0
          ∙ ap (λ (qs : List Pending). messages_of (class_of b) q (c.it.message ∷ []) ++ messages_of (class_of b) q (messages qs)) (sym (append-nil (c.front ++ c.rear)))
          ∙ ap (λ (t : Bool). messages_of (class_of b) q (c.it.message ∷ []) ++ messages_of (class_of b) q (messages ((c.front ++ c.rear) ++ cond t (further c.it ∷ []) []))) (sym last))
          on
    ]

-- an acknowledgement is sent
carried_ack : VarintsAgain → (requests replies : ℕ) (a : Acknowledgement) (waiting_acks : List Acknowledgement) (ps : List Pending) (before : List Event) (steps : List Step) → has_checksum a.kind ≡ false → a.bytes < 2 ^ 64
    → Carries (sending_of requests replies waiting_acks ps) (came (ack_frame a) ∷ before) ps steps → Carries (sending_of requests replies (a ∷ waiting_acks) ps) before ps (send ∷ steps)
carried_ack again requests replies a waiting_acks ps before steps none small rest =
    carried_by (sending_of requests replies (a ∷ waiting_acks) ps) before ps ps steps (ack_frame a) (takens.Ack a.kind a.number a.bytes) refl (answer_acked again before a none small) (λ b q. refl) rest

-- nothing is sent
carried_none : (requests replies : ℕ) (ps : List Pending) (before : List Event) (steps : List Step) → chosen (map waits ps) ≡ None
    → Carries (sending_of requests replies [] ps) before ps steps → Carries (sending_of requests replies [] ps) before ps (send ∷ steps)
carried_none requests replies ps before steps none rest =
    let next : next_piece (map waits ps) ≡ None = ap (option_map (λ found. first_piece found.0)) none in
    let left : map waits ps ≡ after_piece (map waits ps) = ap (λ (o : Found). option_map_or (λ found. found.1 ++ back found.0) o (map waits ps)) (sym none) in
    let on = subst (λ (ws : List Waiting). Carries (record { requests = requests; replies = replies; acknowledgements = []; waiting = ws }) before ps steps) left rest in
    let events = events_in (after_picked (sending_of requests replies [] ps)) steps in
    let same : joined_after before (sent_to (next_piece (map waits ps)) events) ≡ joined_after before events = ap (λ (o : Option FrameParts). joined_after before (sent_to o events)) next in
    (ap (λ (j : Joined). j.1) same ∙ on.0, λ b q alone. ap (λ (j : Joined). messages_of (class_of b) q (messages_in j.0)) same ∙ on.1 b q alone)

allowed_none : (requests replies : ℕ) (ps : List Pending) (before : List Event) (steps : List Step) → chosen (map waits ps) ≡ None
    → AreAllowed (after_picked (sending_of requests replies [] ps)) (sent_to (next_piece (map waits ps)) before) steps → AreAllowed (sending_of requests replies [] ps) before steps
allowed_none requests replies ps before steps none allowed =
    let next : next_piece (map waits ps) ≡ None = ap (option_map (λ found. first_piece found.0)) none in
    let left : after_piece (map waits ps) ≡ map waits ps = ap (λ (o : Found). option_map_or (λ found. found.1 ++ back found.0) o (map waits ps)) none in
    subst (λ (ws : List Waiting). AreAllowed (record { requests = requests; replies = replies; acknowledgements = []; waiting = ws }) before steps) left
    (subst (λ (o : Option FrameParts). AreAllowed (after_picked (sending_of requests replies [] ps)) (sent_to o before) steps) next allowed)

allowed_message : (requests replies : ℕ) (ps : List Pending) (before : List Event) (c : Choice ps) (holds : Holds requests ps before) (steps : List Step)
    → AreAllowed (after_picked (sending_of requests replies [] ps)) (sent_to (next_piece (map waits ps)) before) steps
    → AreAllowed (sending_of requests replies [] (then requests ps before c holds)) (came (first_piece (waits c.it)) ∷ before) steps
allowed_message requests replies ps before c holds steps allowed =
    let next : next_piece (map waits ps) ≡ Some (first_piece (waits c.it)) = ap (option_map (λ found. first_piece found.0)) c.taken in
    let left : after_piece (map waits ps) ≡ map waits (then requests ps before c holds) =
    ap (λ (o : Found). option_map_or (λ found. found.1 ++ back found.0) o (map waits ps)) c.taken ∙ sym (then_waits requests ps before c holds) in
    subst (λ (ws : List Waiting). AreAllowed (record { requests = requests; replies = replies; acknowledgements = []; waiting = ws }) (came (first_piece (waits c.it)) ∷ before) steps) left
    (subst (λ (o : Option FrameParts). AreAllowed (after_picked (sending_of requests replies [] ps)) (sent_to o before) steps) next allowed)

-- what a frame of a message that is sent leaves held
allowed_held : (ps : List Pending) (before : List Event) (c : Choice ps) → held_in (sent_to (next_piece (map waits ps)) before) ≤ most_held → held_in (came (first_piece (waits c.it)) ∷ before) ≤ most_held
allowed_held ps before c low =
    let next : next_piece (map waits ps) ≡ Some (first_piece (waits c.it)) = ap (option_map (λ found. first_piece found.0)) c.taken in
    subst (λ (o : Option FrameParts). held_in (sent_to o before) ≤ most_held) next low

-- what waits once a message is put
put_waits : (ps : List Pending) (m : Message) → map waits (with_last ps m) ≡ map waits ps ++ waiting_of m ∷ []
put_waits ps m = map-append ps (begun_with m ∷ [])

messages_put : (b : Bool) (q : ℕ) (ps : List Pending) (m : Message) (steps : List Step)
    → messages_of (class_of b) q (messages (with_last ps m)) ++ messages_of (class_of b) q (put_in steps) ≡ messages_of (class_of b) q (messages ps) ++ messages_of (class_of b) q (put_in (put m ∷ steps))
messages_put b q ps m steps =
    ap (λ (ms : List Message). messages_of (class_of b) q ms ++ messages_of (class_of b) q (put_in steps)) (messages-append ps (begun_with m ∷ []))
    ∙ ap (λ (ms : List Message). ms ++ messages_of (class_of b) q (put_in steps)) (of-append (class_of b) q (messages ps) (m ∷ []))
    ∙ append_assoc (messages_of (class_of b) q (messages ps)) (messages_of (class_of b) q (m ∷ [])) (messages_of (class_of b) q (put_in steps))
    ∙ ap (λ (ms : List Message). messages_of (class_of b) q (messages ps) ++ ms) (sym (of-append (class_of b) q (m ∷ []) (put_in steps)))

held_put : (requests replies : ℕ) (waiting_acks : List Acknowledgement) (ps : List Pending) (before : List Event) (m : Message) → CanBeRead m → HasItsTurn (sending_of requests replies waiting_acks ps) before m m.kind → Holds requests ps before
    → Holds (cond (is_request m.kind) m.number requests) (with_last ps m) before
held_put requests replies waiting_acks ps before m readable turn holds = elim (turn_of requests replies waiting_acks ps before m m.kind refl turn) [
  | inl request ↦ subst (λ (b : Bool). Holds (cond b m.number requests) (with_last ps m) before) (sym (ap is_request request.kind)) (put_request requests ps before m readable request holds)
  | inr reply ↦ subst (λ (b : Bool). Holds (cond b m.number requests) (with_last ps m) before) (sym reply.request) (put_reply requests ps before m readable reply holds)
]

carried : ReadsAgain → VarintsAgain → (requests replies : ℕ) (waiting_acks : List Acknowledgement) (ps : List Pending) (before : List Event) → AreAcks waiting_acks → Holds requests ps before
    → (steps : List Step) → AreAllowed (sending_of requests replies waiting_acks ps) before steps → Carries (sending_of requests replies waiting_acks ps) before ps steps
carried again varints requests replies waiting_acks ps before are holds [] allowed =
    (refl, λ b q alone. sym (append-nil (messages_of (class_of b) q (messages ps)) ∙ none_of (class_of b) q ps (omega arith)))
carried again varints requests replies waiting_acks ps before are holds (put m ∷ steps) allowed =
    let requests' = cond (is_request m.kind) m.number requests in
    let replies' = cond (is_request m.kind) replies (max m.number replies) in
    let S : List Waiting → Sending = λ ws. record { requests = requests'; replies = replies'; acknowledgements = waiting_acks; waiting = ws } in
    let rest = carried again varints requests' replies' waiting_acks (with_last ps m) before are (held_put requests replies waiting_acks ps before m allowed.0.0 allowed.0.1 holds) steps
    (subst (λ (ws : List Waiting). AreAllowed (S ws) before steps) (sym (put_waits ps m)) allowed.1) in
    let on = subst (λ (ws : List Waiting). Carries (S ws) before (with_last ps m) steps) (put_waits ps m) rest in
    (on.0, λ b q alone. on.1 b q alone ∙ messages_put b q ps m steps)
carried again varints requests replies waiting_acks ps before are holds (owe a ∷ steps) allowed =
    carried again varints requests replies (waiting_acks ++ a ∷ []) ps before (waiting_acks-append waiting_acks a are allowed.0) holds steps allowed.1
carried again varints requests replies waiting_acks ps before are holds (take_ack kind number bytes ∷ steps) allowed =
    let S : List Waiting → Sending = λ ws. record { requests = requests; replies = replies; acknowledgements = waiting_acks; waiting = ws } in
    let rest = carried again varints requests replies waiting_acks (acked_pending kind number bytes ps) before are (held_acked kind number bytes requests ps before holds) steps
    (subst (λ (ws : List Waiting). AreAllowed (S ws) before steps) (sym (acked_waits kind number bytes ps)) allowed.1) in
    let on = subst (λ (ws : List Waiting). Carries (S ws) before (acked_pending kind number bytes ps) steps) (acked_waits kind number bytes ps) rest in
    (on.0, λ b q alone. on.1 b q alone ∙ ap (λ (ms : List Message). messages_of (class_of b) q ms ++ messages_of (class_of b) q (put_in steps)) (acked_messages kind number bytes ps))
carried again varints requests replies (a ∷ waiting_acks) ps before are holds (send ∷ steps) allowed =
    carried_ack varints requests replies a waiting_acks ps before steps are.0.0 are.0.1
    (carried again varints requests replies waiting_acks ps (came (ack_frame a) ∷ before) are.1 (held_sent_ack requests ps before a are.0.0 holds) steps allowed.1)
carried again varints requests replies [] ps before are holds (send ∷ steps) allowed = elim (choice ps) [
  | inl none ↦ carried_none requests replies ps before steps none (carried again varints requests replies [] ps before tt holds steps (allowed_none requests replies ps before steps none allowed.1))
  | inr c ↦
      carried_message again requests replies ps before c holds steps (allowed_held ps before c allowed.0)
      (carried again varints requests replies [] (then requests ps before c holds) (came (first_piece (waits c.it)) ∷ before) tt (held_sent requests ps before c holds) steps (allowed_message requests replies ps before c holds steps allowed.1))
]
carried again varints requests replies waiting_acks ps before are holds (expect n ∷ steps) allowed =
    carried again varints requests replies waiting_acks ps (expected n ∷ before) are (held_expected requests ps before n holds) steps allowed.1

held_start : Holds 0 [] []
held_start = record {
  each = tt;
  sound = sound_start;
  once = λ c q. omega arith;
  order = tt;
  last = omega arith;
  none_above = λ q above. refl;
  replies_wait = λ q none. refl;
}

pub none_refused : ReadsAgain → VarintsAgain → (steps : List Step) → AreAllowed new_sending [] steps → (joined (events_in new_sending steps)).1 ≡ None
none_refused again varints steps allowed = (carried again varints 0 0 [] [] [] tt held_start steps allowed).0

pub requests_come : ReadsAgain → VarintsAgain → (number : ℕ) (steps : List Step) → AreAllowed new_sending [] steps → times_waiting is_request number (sending_in new_sending steps).waiting ≡ 0
    → messages_of is_request number (messages_in (joined (events_in new_sending steps)).0) ≡ messages_of is_request number (put_in steps)
requests_come again varints number steps allowed none = (carried again varints 0 0 [] [] [] tt held_start steps allowed).1 true number none

pub replies_come : ReadsAgain → VarintsAgain → (number : ℕ) (steps : List Step) → AreAllowed new_sending [] steps → times_waiting is_reply number (sending_in new_sending steps).waiting ≡ 0
    → messages_of is_reply number (messages_in (joined (events_in new_sending steps)).0) ≡ messages_of is_reply number (put_in steps)
replies_come again varints number steps allowed none = (carried again varints 0 0 [] [] [] tt held_start steps allowed).1 false number none
