-- The order of the messages that come.
use Rattle.std.proofs.Common.{◌≡◌, ℕ, ◌+◌, ◌-◌, ◌≤◌, Bool, true, false, ◌&&◌, ◌||◌, cond, eqb, ltb, leb, List, [], ◌∷◌, ◌++◌, length, Result, Ok, Err, Some, None, refl, sym, ap, subst, ◌∙◌, arith, ◌⊎◌, inl, inr}
use Rattle.std.specs.Prelude.{not, max, Option}
use Rattle.std.proofs.lemmas.Bool.{eqb-true, eq-eqb, ltb-true, ltb-false, lt-ltb, le-ltb}
use Rattle.blip_frame.specs.Frame.{FrameParts, has_checksum}
use Rattle.blip_frame.specs.Payload.{payload_at}
use Rattle.blip_frame.specs.Props.{Pair}
use Rattle.blip_frame.specs.Varint.{number_at}
use Rattle.blip_frame.specs.declared.frame.Kind.{Kind}
use Rattle.blip_frame.specs.declared.frame.Kind.TheVariants as kinds
use Rattle.blip_frame.specs.declared.payload.PayloadFault.{PayloadFault}
use Rattle.blip_mux.specs.declared.message.Message.{Message}
use Rattle.blip_mux.specs.declared.inbox.Taken.TheVariants as takens
use Rattle.blip_mux.specs.declared.inbox.TakeFault.{TakeFault}
use Rattle.blip_mux.specs.declared.inbox.TakeFault.TheVariants as faults
use Rattle.blip_mux.specs.Begun.{Begun}
use Rattle.blip_mux.specs.Joining.{Event, came, expected, is_request, is_reply, acknowledges, acknowledge_after, longest_message, most_held, begun_or, with_frame, brought_by, held_by, held_in, count_in, acknowledged, with_fault, read_as, part_by, whole, may_come, answer_to, frames_of, so_far_in, requests_in, is_awaited, Joined, followed_by, joined_after, joined}
use Rattle.blip_mux.proofs.Classes.{same_kind, no_request, no_reply}
use Rattle.blip_mux.specs.Order.{messages_in, times_in, times_expected, is_among, beginnings, CountsFrom}

-- ---- what an answer says

-- the kind of a message that a frame may be of
kind_kept : (r : ℕ) (a : Bool) (o : Option Begun) (f : FrameParts) → may_come r a o f ≡ true → (begun_or o f).kind ≡ f.kind
kind_kept r a None f e = refl
kind_kept r a (Some b) f e = same_kind b.kind f.kind e

-- what holds of the messages after a frame, by what the frame gave
by_message : (P : List Message → Type 0) (r : ℕ) (a : Bool) (h : ℕ) (o : Option Begun) (f : FrameParts) (rest : Joined)
    → ((fault : TakeFault) → P [])
    → (has_checksum f.kind ≡ false → P (messages_in rest.0))
    → (may_come r a o f ≡ true → f.more ≡ true → P (messages_in rest.0))
    → (may_come r a o f ≡ true → f.more ≡ false → (m : Message) → m.number ≡ f.number → m.kind ≡ f.kind → P (m ∷ messages_in rest.0))
    → P (messages_in (followed_by (answer_to r a h o f) rest).0)
by_message P r a h o f rest bad ack part last =
    go (has_checksum f.kind) (may_come r a o f) (ltb longest_message (length ((begun_or o f).bytes ++ f.payload))) (ltb most_held (h - held_by o + held_by (Some (with_frame (begun_or o f) f)))) f.more (count_in (number_at f.payload)) (payload_at ((begun_or o f).bytes ++ f.payload)) ack part
    (λ may more read. last may more (record { number = f.number; kind = (begun_or o f).kind; urgent = (begun_or o f).urgent; no_reply = (begun_or o f).no_reply; payload = record { props = read.0; body = read.1 } }) refl (kind_kept r a o f may)) where
      owed : (b : Bool) (n : ℕ) → P (messages_in rest.0) → P (messages_in ((cond b (takens.Owed (acknowledges f.kind) f.number n) takens.Nothing) ∷ rest.0))
      owed true n p = p
      owed false n p = p

      go : (checksum may long full more : Bool) (count : Option ℕ) (read : Result (List Pair × List ℕ) PayloadFault)
          → (checksum ≡ false → P (messages_in rest.0))
          → (may ≡ true → more ≡ true → P (messages_in rest.0))
          → (may ≡ true → more ≡ false → (x : List Pair × List ℕ) → P ((record { number = f.number; kind = (begun_or o f).kind; urgent = (begun_or o f).urgent; no_reply = (begun_or o f).no_reply; payload = record { props = x.0; body = x.1 } }) ∷ messages_in rest.0))
          → P (messages_in (followed_by (cond checksum (cond may (cond long (Err (faults.TooLong f.number)) (cond (more && full) (Err (faults.Full f.number)) (cond more (Ok (part_by (begun_or o f) f)) (whole (read_as f.number (begun_or o f) (with_fault read)))))) (Err (faults.OutOfOrder f.number))) (acknowledged f count)) rest).0)
      go false may long full more (Some n) read ack part last = ack refl
      go false may long full more None read ack part last = bad faults.BadAckPayload
      go true false long full more count read ack part last = bad (faults.OutOfOrder f.number)
      go true true true full more count read ack part last = bad (faults.TooLong f.number)
      go true true false true true count read ack part last = bad (faults.Full f.number)
      go true true false false true count read ack part last = owed (leb acknowledge_after ((begun_or o f).unacknowledged + length f.payload)) (length ((begun_or o f).bytes ++ f.payload)) (part refl refl)
      go true true false full false count (Err fault) ack part last = bad (faults.Payload fault)
      go true true false full false count (Ok x) ack part last = last refl refl x

-- ---- requests come whole once

abbrev pub has_some : List FrameParts → Bool
has_some [] = false
has_some (f ∷ fs) = true

some_brought : (fs : List FrameParts) (b : Begun) → brought_by fs ≡ Some b → has_some fs ≡ true
some_brought [] b e = absurd cc
some_brought (f ∷ fs) b e = refl

or_false : (b : Bool) → (b || false) ≡ true → b ≡ true
or_false true e = refl
or_false false e = e

next_request : (k : Kind) (n r : ℕ) (a : Bool) → is_request k ≡ true → ((is_request k && eqb n (r + 1)) || (is_reply k && a)) ≡ true → n ≡ r + 1
next_request kinds.Msg n r a is e = eqb-true n (r + 1) (or_false (eqb n (r + 1)) e)
next_request kinds.Rpy n r a is e = absurd cc
next_request kinds.Err n r a is e = absurd cc
next_request kinds.AckMsg n r a is e = absurd cc
next_request kinds.AckRpy n r a is e = absurd cc

awaited_reply : (k : Kind) (x a : Bool) → is_reply k ≡ true → ((is_request k && x) || (is_reply k && a)) ≡ true → a ≡ true
awaited_reply kinds.Msg x a is e = absurd cc
awaited_reply kinds.Rpy x a is e = e
awaited_reply kinds.Err x a is e = e
awaited_reply kinds.AckMsg x a is e = absurd cc
awaited_reply kinds.AckRpy x a is e = absurd cc

-- the frames of a message that has begun, by the kind of the frame that comes
of_requests : (k : Kind) (xs ys : List FrameParts) → is_request k ≡ true → cond (is_request k) xs ys ≡ xs
of_requests k xs ys is = ap (λ (b : Bool). cond b xs ys) is

of_replies : (k : Kind) (xs ys : List FrameParts) → is_reply k ≡ true → cond (is_request k) xs ys ≡ ys
of_replies kinds.Msg xs ys is = absurd cc
of_replies kinds.Rpy xs ys is = refl
of_replies kinds.Err xs ys is = refl
of_replies kinds.AckMsg xs ys is = absurd cc
of_replies kinds.AckRpy xs ys is = absurd cc

-- a frame of a request that may come is one of a message that has begun, or the first of the next request
pub request_comes : (before : List Event) (f : FrameParts) → is_request f.kind ≡ true → may_come (requests_in before) (is_awaited before f.number) (so_far_in before f) f ≡ true
    → (has_some (frames_of is_request f.number before) ≡ true) ⊎ (f.number ≡ requests_in before + 1)
request_comes before f is may = go (so_far_in before f) (ap brought_by (of_requests f.kind (frames_of is_request f.number before) (frames_of is_reply f.number before) is)) may where
  go : (o : Option Begun) → o ≡ brought_by (frames_of is_request f.number before) → may_come (requests_in before) (is_awaited before f.number) o f ≡ true
      → (has_some (frames_of is_request f.number before) ≡ true) ⊎ (f.number ≡ requests_in before + 1)
  go (Some b) e may = inl (some_brought (frames_of is_request f.number before) b (sym e))
  go None e may = inr (next_request f.kind f.number (requests_in before) (is_awaited before f.number) is may)

-- one of a reply is one of a message that has begun, or the first of a reply that is awaited
reply_comes : (before : List Event) (f : FrameParts) → is_reply f.kind ≡ true → may_come (requests_in before) (is_awaited before f.number) (so_far_in before f) f ≡ true
    → (has_some (frames_of is_reply f.number before) ≡ true) ⊎ (is_awaited before f.number ≡ true)
reply_comes before f is may = go (so_far_in before f) (ap brought_by (of_replies f.kind (frames_of is_request f.number before) (frames_of is_reply f.number before) is)) may where
  go : (o : Option Begun) → o ≡ brought_by (frames_of is_reply f.number before) → may_come (requests_in before) (is_awaited before f.number) o f ≡ true
      → (has_some (frames_of is_reply f.number before) ≡ true) ⊎ (is_awaited before f.number ≡ true)
  go (Some b) e may = inl (some_brought (frames_of is_reply f.number before) b (sym e))
  go None e may = inr (awaited_reply f.kind (eqb f.number (requests_in before + 1)) (is_awaited before f.number) is may)

-- ---- what holds while no frame was refused

-- a request that has begun has a number up to the last one's, and a reply that has begun is awaited
pub record IsSound (before : List Event) : Type 0 where
  pub requests : (q : ℕ) → has_some (frames_of is_request q before) ≡ true → (1 ≤ q) × (q ≤ requests_in before)
  pub replies : (q : ℕ) → has_some (frames_of is_reply q before) ≡ true → is_awaited before q ≡ true

pub sound_start : IsSound []
sound_start = record { requests = λ q e. absurd cc; replies = λ q e. absurd cc }

request_sound : (k : Kind) (t more : Bool) (f : FrameParts) (fs : List FrameParts) (q n r : ℕ) → (t ≡ true → q ≡ n) → (has_some fs ≡ true → (1 ≤ q) × (q ≤ r)) → (is_request k ≡ true → 1 ≤ n)
    → has_some (cond (is_request k && t) (cond more (f ∷ fs) []) fs) ≡ true → (1 ≤ q) × (q ≤ cond (is_request k) (max n r) r)
request_sound kinds.Msg true true f fs q n r same old some e = (let p = some refl in let s = same refl in omega arith, let s = same refl in omega arith)
request_sound kinds.Msg true false f fs q n r same old some e = absurd cc
request_sound kinds.Msg false more f fs q n r same old some e = ((old e).0, let p = (old e).1 in omega arith)
request_sound kinds.Rpy t more f fs q n r same old some e = old e
request_sound kinds.Err t more f fs q n r same old some e = old e
request_sound kinds.AckMsg t more f fs q n r same old some e = old e
request_sound kinds.AckRpy t more f fs q n r same old some e = old e

reply_sound : (k : Kind) (t more a : Bool) (f : FrameParts) (fs : List FrameParts) → (has_some fs ≡ true → a ≡ true) → (is_reply k ≡ true → t ≡ true → a ≡ true)
    → has_some (cond (is_reply k && t) (cond more (f ∷ fs) []) fs) ≡ true → (not (is_reply k && not more && t) && a) ≡ true
reply_sound kinds.Msg t more a f fs old new e = old e
reply_sound kinds.Rpy true true a f fs old new e = new refl refl
reply_sound kinds.Rpy true false a f fs old new e = absurd cc
reply_sound kinds.Rpy false true a f fs old new e = old e
reply_sound kinds.Rpy false false a f fs old new e = old e
reply_sound kinds.Err true true a f fs old new e = new refl refl
reply_sound kinds.Err true false a f fs old new e = absurd cc
reply_sound kinds.Err false true a f fs old new e = old e
reply_sound kinds.Err false false a f fs old new e = old e
reply_sound kinds.AckMsg t more a f fs old new e = old e
reply_sound kinds.AckRpy t more a f fs old new e = old e

sound_after : (before : List Event) (f : FrameParts) → IsSound before
    → (is_request f.kind ≡ true → (has_some (frames_of is_request f.number before) ≡ true) ⊎ (f.number ≡ requests_in before + 1))
    → (is_reply f.kind ≡ true → (has_some (frames_of is_reply f.number before) ≡ true) ⊎ (is_awaited before f.number ≡ true))
    → IsSound (came f ∷ before)
sound_after before f sound request reply = record {
  requests = λ q. request_sound f.kind (eqb q f.number) f.more f (frames_of is_request q before) q f.number (requests_in before) (eqb-true q f.number) (sound.requests q)
      (λ is. elim (request is) [ inl h ↦ (sound.requests f.number h).0 | inr e ↦ omega arith ]);
  replies = λ q. reply_sound f.kind (eqb q f.number) f.more (is_awaited before q) f (frames_of is_reply q before) (sound.replies q)
      (λ is t. elim (reply is) [ inl h ↦ sound.replies q (ap (λ (n : ℕ). has_some (frames_of is_reply n before)) (eqb-true q f.number t) ∙ h) | inr e ↦ ap (is_awaited before) (eqb-true q f.number t) ∙ e ]);
}

or_true : (b a : Bool) → a ≡ true → (b || a) ≡ true
or_true true a e = refl
or_true false a e = e

pub sound_expected : (before : List Event) (n : ℕ) → IsSound before → IsSound (expected n ∷ before)
sound_expected before n sound = record {
  requests = sound.requests;
  replies = λ q e. or_true (eqb q n) (is_awaited before q) (sound.replies q e);
}

-- ---- a request comes whole once

weaker : (b c h : Bool) → (b ≡ true → c ≡ true) → cond (b || h) 1 0 ≤ cond (c || h) 1 0
weaker true true h e = omega arith
weaker true false h e = absurd (let x = e refl in cc)
weaker false true true e = omega arith
weaker false true false e = omega arith
weaker false false h e = omega arith

later : (n r q : ℕ) (h : Bool) → cond (ltb (max n r) q || h) 1 0 ≤ cond (ltb r q || h) 1 0
later n r q h = weaker (ltb (max n r) q) (ltb r q) h (λ e. let l = ltb-true (max n r) q e in lt-ltb r q (omega arith))

reached : (r n q : ℕ) (fs : List FrameParts) → q ≡ n → (has_some fs ≡ true) ⊎ (n ≡ r + 1) → (ltb r q || has_some fs) ≡ true
reached r n q fs same (inl h) = or_true (ltb r q) (has_some fs) h
reached r n q fs same (inr e) = ap (λ (b : Bool). b || has_some fs) (lt-ltb r q (omega arith))

ended : (n r q : ℕ) → q ≡ n → ltb (max n r) q ≡ false
ended n r q same = le-ltb (max n r) q (omega arith)

one_of : (b : Bool) → b ≡ true → ◌≡◌ {A = ℕ} (cond b 1 0) 1
one_of b e = ap (λ (x : Bool). cond {A = ℕ} x 1 0) e

once_part : (k : Kind) (t : Bool) (f : FrameParts) (fs : List FrameParts) (q n r times : ℕ) → (t ≡ true → q ≡ n) → (is_request k ≡ true → t ≡ true → (has_some fs ≡ true) ⊎ (n ≡ r + 1))
    → times ≤ cond (ltb (cond (is_request k) (max n r) r) q || has_some (cond (is_request k && t) (f ∷ fs) fs)) 1 0 → times ≤ cond (ltb r q || has_some fs) 1 0
once_part kinds.Msg true f fs q n r times same comes h =
    let all : ◌≡◌ {A = ℕ} (cond (ltb r q || has_some fs) 1 0) 1 = one_of (ltb r q || has_some fs) (reached r n q fs (same refl) (comes refl refl)) in
    let most : ◌≡◌ {A = ℕ} (cond (ltb (max n r) q || true) 1 0) 1 = one_of (ltb (max n r) q || true) (or_true (ltb (max n r) q) true refl) in
    omega arith
once_part kinds.Msg false f fs q n r times same comes h = let l = later n r q (has_some fs) in omega arith
once_part kinds.Rpy t f fs q n r times same comes h = h
once_part kinds.Err t f fs q n r times same comes h = h
once_part kinds.AckMsg t f fs q n r times same comes h = h
once_part kinds.AckRpy t f fs q n r times same comes h = h

once_last : (k : Kind) (t : Bool) (fs : List FrameParts) (q n r times : ℕ) → (t ≡ true → q ≡ n) → (is_request k ≡ true → t ≡ true → (has_some fs ≡ true) ⊎ (n ≡ r + 1))
    → times ≤ cond (ltb (cond (is_request k) (max n r) r) q || has_some (cond (is_request k && t) [] fs)) 1 0 → cond (is_request k && t) 1 0 + times ≤ cond (ltb r q || has_some fs) 1 0
once_last kinds.Msg true fs q n r times same comes h =
    let all : ◌≡◌ {A = ℕ} (cond (ltb r q || has_some fs) 1 0) 1 = one_of (ltb r q || has_some fs) (reached r n q fs (same refl) (comes refl refl)) in
    let none : ◌≡◌ {A = ℕ} (cond (ltb (max n r) q || false) 1 0) 0 = ap (λ (x : Bool). cond {A = ℕ} (x || false) 1 0) (ended n r q (same refl)) in
    omega arith
once_last kinds.Msg false fs q n r times same comes h = let l = later n r q (has_some fs) in omega arith
once_last kinds.Rpy t fs q n r times same comes h = omega arith
once_last kinds.Err t fs q n r times same comes h = omega arith
once_last kinds.AckMsg t fs q n r times same comes h = omega arith
once_last kinds.AckRpy t fs q n r times same comes h = omega arith

once_ack : (k : Kind) (t more : Bool) (f : FrameParts) (fs : List FrameParts) (q n r times : ℕ) → is_request k ≡ false
    → times ≤ cond (ltb (cond (is_request k) (max n r) r) q || has_some (cond (is_request k && t) (cond more (f ∷ fs) []) fs)) 1 0 → times ≤ cond (ltb r q || has_some fs) 1 0
once_ack kinds.Msg t more f fs q n r times is h = absurd cc
once_ack kinds.Rpy t more f fs q n r times is h = h
once_ack kinds.Err t more f fs q n r times is h = h
once_ack kinds.AckMsg t more f fs q n r times is h = h
once_ack kinds.AckRpy t more f fs q n r times is h = h

-- the message that came is counted where it is of the class
counted : (class : Kind → Bool) (q n : ℕ) (k : Kind) (m : Message) (ms : List Message) (bound : ℕ) → m.number ≡ n → m.kind ≡ k
    → cond (class k && eqb q n) 1 0 + times_in class q ms ≤ bound → times_in class q (m ∷ ms) ≤ bound
counted class q n k m ms bound number kind h =
    let e : ◌≡◌ {A = ℕ} (cond (class m.kind && eqb q m.number) 1 0) (cond (class k && eqb q n) 1 0) = ap (λ (x : Kind). cond {A = ℕ} (class x && eqb q m.number) 1 0) kind ∙ ap (λ (x : ℕ). cond {A = ℕ} (class k && eqb q x) 1 0) number in
    omega arith

at_number : (q : ℕ) (class : Kind → Bool) (before : List Event) (f : FrameParts) (P : Type 0) → eqb q f.number ≡ true
    → (has_some (frames_of class f.number before) ≡ true) ⊎ P → (has_some (frames_of class q before) ≡ true) ⊎ P
at_number q class before f P t (inl h) = inl (ap (λ (n : ℕ). has_some (frames_of class n before)) (eqb-true q f.number t) ∙ h)
at_number q class before f P t (inr p) = inr p

once_from : (q : ℕ) (before events : List Event) → times_in is_request q (messages_in (joined_after before events).0) ≤ cond (ltb (requests_in before) q || has_some (frames_of is_request q before)) 1 0
once_from q before [] = omega arith
once_from q before (came f ∷ events) =
    let ms = messages_in (joined_after (came f ∷ before) events).0 in
    let fs = frames_of is_request q before in
    let r = requests_in before in
    let t = eqb q f.number in
    let rest = once_from q (came f ∷ before) events in
    by_message (λ x. times_in is_request q x ≤ cond (ltb r q || has_some fs) 1 0) r (is_awaited before f.number) (held_in before) (so_far_in before f) f (joined_after (came f ∷ before) events)
    (λ _. omega arith)
    (λ none. once_ack f.kind t f.more f fs q f.number r (times_in is_request q ms) (no_request f.kind none) rest)
    (λ may more. once_part f.kind t f fs q f.number r (times_in is_request q ms) (eqb-true q f.number)
    (λ is same. at_number q is_request before f (f.number ≡ r + 1) same (request_comes before f is may))
    (subst (λ (b : Bool). times_in is_request q ms ≤ cond (ltb (cond (is_request f.kind) (max f.number r) r) q || has_some (cond (is_request f.kind && t) (cond b (f ∷ fs) []) fs)) 1 0) more rest))
    (λ may more m number kind. counted is_request q f.number f.kind m ms (cond (ltb r q || has_some fs) 1 0) number kind
    (once_last f.kind t fs q f.number r (times_in is_request q ms) (eqb-true q f.number)
    (λ is same. at_number q is_request before f (f.number ≡ r + 1) same (request_comes before f is may))
    (subst (λ (b : Bool). times_in is_request q ms ≤ cond (ltb (cond (is_request f.kind) (max f.number r) r) q || has_some (cond (is_request f.kind && t) (cond b (f ∷ fs) []) fs)) 1 0) more rest)))
once_from q before (expected n ∷ events) = once_from q (expected n ∷ before) events

at_most_one : (b : Bool) → cond b 1 0 ≤ 1
at_most_one true = omega arith
at_most_one false = omega arith

pub once : (q : ℕ) (events : List Event) → times_in is_request q (messages_in (joined events).0) ≤ 1
once q events = let h = once_from q [] events in let b = at_most_one (ltb 0 q || false) in omega arith

-- ---- the replies to a request

reply_part : (k : Kind) (t a : Bool) (times bound : ℕ) → times ≤ bound + cond (not (is_reply k && false && t) && a) 1 0 → times ≤ bound + cond a 1 0
reply_part kinds.Msg t a times bound h = h
reply_part kinds.Rpy t a times bound h = h
reply_part kinds.Err t a times bound h = h
reply_part kinds.AckMsg t a times bound h = h
reply_part kinds.AckRpy t a times bound h = h

reply_tested : (t a : Bool) (times bound : ℕ) → (t ≡ true → a ≡ true) → times ≤ bound + cond (not t && a) 1 0 → cond t 1 0 + times ≤ bound + cond a 1 0
reply_tested true true times bound awaited h = omega arith
reply_tested true false times bound awaited h = absurd (let e = awaited refl in cc)
reply_tested false true times bound awaited h = omega arith
reply_tested false false times bound awaited h = omega arith

reply_last : (k : Kind) (t a : Bool) (times bound : ℕ) → (is_reply k ≡ true → t ≡ true → a ≡ true) → times ≤ bound + cond (not (is_reply k && true && t) && a) 1 0
    → cond (is_reply k && t) 1 0 + times ≤ bound + cond a 1 0
reply_last kinds.Msg t a times bound awaited h = omega arith
reply_last kinds.Rpy t a times bound awaited h = reply_tested t a times bound (awaited refl) h
reply_last kinds.Err t a times bound awaited h = reply_tested t a times bound (awaited refl) h
reply_last kinds.AckMsg t a times bound awaited h = omega arith
reply_last kinds.AckRpy t a times bound awaited h = omega arith

reply_ack : (k : Kind) (t more a : Bool) (times bound : ℕ) → is_reply k ≡ false → times ≤ bound + cond (not (is_reply k && not more && t) && a) 1 0 → times ≤ bound + cond a 1 0
reply_ack kinds.Msg t more a times bound is h = h
reply_ack kinds.Rpy t more a times bound is h = absurd cc
reply_ack kinds.Err t more a times bound is h = absurd cc
reply_ack kinds.AckMsg t more a times bound is h = h
reply_ack kinds.AckRpy t more a times bound is h = h

expected_next : (t b : Bool) (times bound : ℕ) → times ≤ bound + cond (t || b) 1 0 → times ≤ (cond t 1 0 + bound) + cond b 1 0
expected_next true true times bound h = omega arith
expected_next true false times bound h = omega arith
expected_next false true times bound h = omega arith
expected_next false false times bound h = omega arith

reply_comes_at : (q : ℕ) (before : List Event) (f : FrameParts) → IsSound before → is_reply f.kind ≡ true → eqb q f.number ≡ true
    → may_come (requests_in before) (is_awaited before f.number) (so_far_in before f) f ≡ true → is_awaited before q ≡ true
reply_comes_at q before f sound is same may = elim (reply_comes before f is may) [
  | inl h ↦ ap (is_awaited before) (eqb-true q f.number same) ∙ sound.replies f.number h
  | inr e ↦ ap (is_awaited before) (eqb-true q f.number same) ∙ e
]

false_true : (b : Bool) (P : Type 0) → b ≡ false → b ≡ true → P
false_true b P e h = absurd cc

-- what holds goes on to hold with a frame that may come
pub sound_came : (before : List Event) (f : FrameParts) → IsSound before → may_come (requests_in before) (is_awaited before f.number) (so_far_in before f) f ≡ true → IsSound (came f ∷ before)
sound_came before f sound may = sound_after before f sound (λ is. request_comes before f is may) (λ is. reply_comes before f is may)

-- and with an acknowledgement
pub sound_acknowledged : (before : List Event) (f : FrameParts) → IsSound before → has_checksum f.kind ≡ false → IsSound (came f ∷ before)
sound_acknowledged before f sound none =
    sound_after before f sound (λ is. false_true (is_request f.kind) _ (no_request f.kind none) is) (λ is. false_true (is_reply f.kind) _ (no_reply f.kind none) is)

replies_from : (q : ℕ) (before events : List Event) → IsSound before → times_in is_reply q (messages_in (joined_after before events).0) ≤ times_expected q events + cond (is_awaited before q) 1 0
replies_from q before [] sound = omega arith
replies_from q before (came f ∷ events) sound =
    let ms = messages_in (joined_after (came f ∷ before) events).0 in
    let a = is_awaited before q in
    let t = eqb q f.number in
    by_message (λ x. times_in is_reply q x ≤ times_expected q events + cond a 1 0) (requests_in before) (is_awaited before f.number) (held_in before) (so_far_in before f) f (joined_after (came f ∷ before) events)
    (λ _. omega arith)
    (λ none. reply_ack f.kind t f.more a (times_in is_reply q ms) (times_expected q events) (no_reply f.kind none) (replies_from q (came f ∷ before) events (sound_acknowledged before f sound none)))
    (λ may more. reply_part f.kind t a (times_in is_reply q ms) (times_expected q events)
    (subst (λ (b : Bool). times_in is_reply q ms ≤ times_expected q events + cond (not (is_reply f.kind && not b && t) && a) 1 0) more (replies_from q (came f ∷ before) events (sound_came before f sound may))))
    (λ may more m number kind. counted is_reply q f.number f.kind m ms (times_expected q events + cond a 1 0) number kind
    (reply_last f.kind t a (times_in is_reply q ms) (times_expected q events) (λ is same. reply_comes_at q before f sound is same may)
    (subst (λ (b : Bool). times_in is_reply q ms ≤ times_expected q events + cond (not (is_reply f.kind && not b && t) && a) 1 0) more (replies_from q (came f ∷ before) events (sound_came before f sound may)))))
replies_from q before (expected n ∷ events) sound =
    expected_next (eqb q n) (is_awaited before q) (times_in is_reply q (messages_in (joined_after (expected n ∷ before) events).0)) (times_expected q events) (replies_from q (expected n ∷ before) events (sound_expected before n sound))

pub replied : (q : ℕ) (events : List Event) → times_in is_reply q (messages_in (joined events).0) ≤ times_expected q events
replied q events = let h = replies_from q [] events sound_start in omega arith

-- ---- requests begin in order

-- where no frame is refused, the first may come and the others are not refused
pub accepted : (r : ℕ) (a : Bool) (h : ℕ) (o : Option Begun) (f : FrameParts) (rest : Joined) → (followed_by (answer_to r a h o f) rest).1 ≡ None
    → (rest.1 ≡ None) × (has_checksum f.kind ≡ true → (may_come r a o f ≡ true) × (f.more ≡ true → h - held_by o + held_by (Some (with_frame (begun_or o f) f)) ≤ most_held))
accepted r a h o f rest =
    go (has_checksum f.kind) (may_come r a o f) (ltb longest_message (length ((begun_or o f).bytes ++ f.payload))) (ltb most_held (h - held_by o + held_by (Some (with_frame (begun_or o f) f)))) f.more (count_in (number_at f.payload)) (payload_at ((begun_or o f).bytes ++ f.payload))
    (ltb-false most_held (h - held_by o + held_by (Some (with_frame (begun_or o f) f)))) where
      go : (checksum may long full more : Bool) (count : Option ℕ) (read : Result (List Pair × List ℕ) PayloadFault) {P : Type 0} → (full ≡ false → P)
          → (followed_by (cond checksum (cond may (cond long (Err (faults.TooLong f.number)) (cond (more && full) (Err (faults.Full f.number)) (cond more (Ok (part_by (begun_or o f) f)) (whole (read_as f.number (begun_or o f) (with_fault read)))))) (Err (faults.OutOfOrder f.number))) (acknowledged f count)) rest).1 ≡ None
          → (rest.1 ≡ None) × (checksum ≡ true → (may ≡ true) × (more ≡ true → P))
      go false may long full more (Some n) read room e = (e, λ h. absurd cc)
      go false may long full more None read room e = absurd cc
      go true false long full more count read room e = absurd cc
      go true true true full more count read room e = absurd cc
      go true true false true true count read room e = absurd cc
      go true true false false true count read room e = (e, λ h. (refl, λ more. room refl))
      go true true false full false count (Err fault) room e = absurd cc
      go true true false full false count (Ok x) room e = (e, λ h. (refl, λ more. absurd cc))

-- these numbers are those of the requests that have begun
record AreBegun (begun : List ℕ) (r : ℕ) : Type 0 where
  has : (n : ℕ) → 1 ≤ n → n ≤ r → is_among n begun ≡ true
  only : (n : ℕ) → is_among n begun ≡ true → n ≤ r

true_or : (b a : Bool) → b ≡ true → (b || a) ≡ true
true_or true a e = refl
true_or false a e = absurd cc

begun_next : (begun : List ℕ) (r n : ℕ) → n ≡ r + 1 → AreBegun begun r → AreBegun (n ∷ begun) (max n r)
begun_next begun r n next are = record {
  has = λ m low high. go_has m low high (le_or_next m);
  only = λ m e. go_only m (eqb m n) (is_among m begun) (λ h. eqb-true m n h) (are.only m) e;
} where
  le_or_next : (m : ℕ) → m ≤ max n r → (m ≤ r) ⊎ (m ≡ n)
  le_or_next m h = grind arith

  go_has : (m : ℕ) → 1 ≤ m → m ≤ max n r → (m ≤ max n r → (m ≤ r) ⊎ (m ≡ n)) → (eqb m n || is_among m begun) ≡ true
  go_has m low high split = elim (split high) [
    | inl le ↦ or_true (eqb m n) (is_among m begun) (are.has m low le)
    | inr e ↦ true_or (eqb m n) (is_among m begun) (eq-eqb m n e)
  ]

  go_only : (m : ℕ) (b c : Bool) → (b ≡ true → m ≡ n) → (c ≡ true → m ≤ r) → (b || c) ≡ true → m ≤ max n r
  go_only m true c here there e = let h = here refl in omega arith
  go_only m false c here there e = let h = there e in omega arith

begun_again : (begun : List ℕ) (r n : ℕ) → n ≤ r → AreBegun begun r → AreBegun begun (max n r)
begun_again begun r n low are = record { has = λ m one most. are.has m one (omega arith); only = λ m e. let h = are.only m e in omega arith }

not_yet : (b : Bool) → (b ≡ true → ⊥) → b ≡ false
not_yet true h = absurd (h refl)
not_yet false h = refl

-- the step of a frame, by its kind
begins : (k : Kind) (f : FrameParts) (begun : List ℕ) (r : ℕ) (events : List Event) → AreBegun begun r → (is_request k ≡ true → (1 ≤ f.number) × (f.number ≤ r) ⊎ (f.number ≡ r + 1))
    → ((others : List ℕ) → AreBegun others (cond (is_request k) (max f.number r) r) → CountsFrom (cond (is_request k) (max f.number r) r + 1) (beginnings others events))
    → CountsFrom (r + 1) (cond (is_request k && not (is_among f.number begun)) (f.number ∷ beginnings (f.number ∷ begun) events) (beginnings begun events))
begins kinds.Msg f begun r events are comes rest = elim (comes refl) [
  | inl old ↦
      let known : is_among f.number begun ≡ true = are.has f.number old.0 old.1 in
      let same : max f.number r ≡ r = let l = old.1 in omega arith in
      subst (λ (b : Bool). CountsFrom (r + 1) (cond (not b) (f.number ∷ beginnings (f.number ∷ begun) events) (beginnings begun events))) (sym known)
      (subst (λ (m : ℕ). CountsFrom (m + 1) (beginnings begun events)) same (rest begun (begun_again begun r f.number old.1 are)))
  | inr next ↦
      let new : is_among f.number begun ≡ false = not_yet (is_among f.number begun) (λ e. let h = are.only f.number e in absurd (omega arith)) in
      let last : max f.number r ≡ r + 1 = omega arith in
      subst (λ (b : Bool). CountsFrom (r + 1) (cond (not b) (f.number ∷ beginnings (f.number ∷ begun) events) (beginnings begun events))) (sym new)
      (next, subst (λ (m : ℕ). CountsFrom (m + 1) (beginnings (f.number ∷ begun) events)) last (rest (f.number ∷ begun) (begun_next begun r f.number next are)))
]
begins kinds.Rpy f begun r events are comes rest = rest begun are
begins kinds.Err f begun r events are comes rest = rest begun are
begins kinds.AckMsg f begun r events are comes rest = rest begun are
begins kinds.AckRpy f begun r events are comes rest = rest begun are

by_checksum : (b : Bool) → (b ≡ true) ⊎ (b ≡ false)
by_checksum true = inl refl
by_checksum false = inr refl

in_order_from : (before events : List Event) (begun : List ℕ) → IsSound before → AreBegun begun (requests_in before) → (joined_after before events).1 ≡ None
    → CountsFrom (requests_in before + 1) (beginnings begun events)
in_order_from before [] begun sound are none = tt
in_order_from before (came f ∷ events) begun sound are none =
    let taken = accepted (requests_in before) (is_awaited before f.number) (held_in before) (so_far_in before f) f (joined_after (came f ∷ before) events) none in
    begins f.kind f begun (requests_in before) events are
    (λ is. elim (by_checksum (has_checksum f.kind)) [
      | inl one ↦ elim (request_comes before f is (taken.1 one).0) [ inl h ↦ inl (sound.requests f.number h) | inr e ↦ inr e ]
      | inr none_kept ↦ false_true (is_request f.kind) _ (no_request f.kind none_kept) is
    ])
    (λ others are_others. in_order_from (came f ∷ before) events others
    (elim (by_checksum (has_checksum f.kind)) [
      | inl one ↦ sound_came before f sound (taken.1 one).0
      | inr none_kept ↦ sound_acknowledged before f sound none_kept
    ]) are_others taken.0)
in_order_from before (expected n ∷ events) begun sound are none = in_order_from (expected n ∷ before) events begun (sound_expected before n sound) are none

pub in_order : (events : List Event) → (joined events).1 ≡ None → CountsFrom 1 (beginnings [] events)
in_order events none = in_order_from [] events [] sound_start (record { has = λ n one most. absurd (omega arith); only = λ n e. absurd cc }) none
