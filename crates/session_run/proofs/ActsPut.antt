-- What acts put.
use Rattle.std.proofs.Common.{◌≡◌, ℕ, ◌+◌, Bool, true, false, List, [], ◌∷◌, Option, Some, refl, sym, ◌∙◌, ap, subst, arith, zero-add}
use Rattle.std.specs.List.{list_any}
use Rattle.std.proofs.lemmas.Bool.{false≢true}
use Rattle.blip_frame.specs.declared.frame.Kind.{Kind}
use Rattle.blip_frame.specs.declared.frame.Kind.TheVariants as kinds
use Rattle.blip_frame.specs.declared.payload.Payload.{Payload}
use Rattle.blip_frame.specs.Frame.{FrameParts}
use Rattle.blip_mux.specs.Apart.{AreApart, HasCome}
use Rattle.blip_mux.specs.Between.{waiting_of}
use Rattle.blip_mux.specs.Cutting.{with_message, ArePicked}
use Rattle.blip_mux.specs.Joining.{is_reply}
use Rattle.blip_mux.specs.Remembered.{InboxState}
use Rattle.blip_mux.specs.Sending.{Waiting, Sending, is_reply_to, picked_from, after_picked}
use Rattle.blip_mux.specs.Acknowledgements.{Acknowledgement}
use Rattle.session_core.specs.declared.act.Act.{Act}
use Rattle.session_core.specs.declared.act.Act.TheVariants as act
use Rattle.session_core.specs.Acts.{messages_from, act_request, act_reply}
use Rattle.session_core.specs.Conduct.{AreAnswers, are_requests, requests_among}
use Rattle.session_mux.specs.declared.mux.Mux.{Mux}
use Rattle.session_mux.specs.Sent.{expecting_by}
use Rattle.session_run.specs.inner.Putting.{MayReply, put_one, put_all, put_as}

requests_put : (acts : List Act) (m : Mux) → are_requests acts ≡ true → put_all acts m ≡ put_as m (messages_from (m.outbox.requests + 1) acts)
requests_put [] m e = refl
requests_put (act.Reply to kind urgent payload ∷ acts) m e = absurd (false≢true e)
requests_put (act.Request payload no_reply ∷ acts) m e = requests_put acts (put_one (act.Request payload no_reply) m) e
requests_put (act.Want want ∷ acts) m e = absurd (false≢true e)

-- a reply is no request
reply_requests : (s : Sending) (to : ℕ) (kind : Kind) (urgent : Bool) (payload : Payload) → is_reply kind ≡ true → (with_message s (waiting_of (act_reply to kind urgent payload))).requests ≡ s.requests
reply_requests s to kinds.Msg urgent payload e = absurd (false≢true e)
reply_requests s to kinds.Rpy urgent payload e = refl
reply_requests s to kinds.Err urgent payload e = refl
reply_requests s to kinds.AckMsg urgent payload e = absurd (false≢true e)
reply_requests s to kinds.AckRpy urgent payload e = absurd (false≢true e)

-- acts that are put one after another are their messages put at once
pub acts_put : (due : Option ℕ) (acts : List Act) (m : Mux) → AreAnswers due acts → put_all acts m ≡ put_as m (messages_from (m.outbox.requests + 1) acts)
acts_put due [] m a = refl
acts_put due (act.Reply to kind urgent payload ∷ acts) m (is, reply, requests) =
    requests_put acts (put_one (act.Reply to kind urgent payload) m) requests
    ∙ ap (λ n. put_as (put_one (act.Reply to kind urgent payload) m) (messages_from (n + 1) acts)) (reply_requests m.outbox to kind urgent payload reply)
acts_put due (act.Request payload no_reply ∷ acts) m a = requests_put acts (put_one (act.Request payload no_reply) m) a
acts_put due (act.Want want ∷ acts) m a = absurd a

-- ---- the requests are counted

requests_counted : (acts : List Act) (m : Mux) → are_requests acts ≡ true → (put_all acts m).outbox.requests ≡ requests_among acts + m.outbox.requests
requests_counted [] m e = sym (zero-add m.outbox.requests)
requests_counted (act.Reply to kind urgent payload ∷ acts) m e = absurd (false≢true e)
requests_counted (act.Request payload no_reply ∷ acts) m e = omega (arith, requests_counted acts (put_one (act.Request payload no_reply) m) e)
requests_counted (act.Want want ∷ acts) m e = absurd (false≢true e)

pub acts_counted : (due : Option ℕ) (acts : List Act) (m : Mux) → AreAnswers due acts → (put_all acts m).outbox.requests ≡ requests_among acts + m.outbox.requests
acts_counted due [] m a = sym (zero-add m.outbox.requests)
acts_counted due (act.Reply to kind urgent payload ∷ acts) m (is, reply, requests) =
    requests_counted acts (put_one (act.Reply to kind urgent payload) m) requests ∙ ap (λ n. requests_among acts + n) (reply_requests m.outbox to kind urgent payload reply)
acts_counted due (act.Request payload no_reply ∷ acts) m a = omega (arith, requests_counted acts (put_one (act.Request payload no_reply) m) a)
acts_counted due (act.Want want ∷ acts) m a = absurd a

-- ---- may they be put?

none_waits : (m : Mux) (due : Option ℕ) (to : ℕ) → MayReply m due → due ≡ Some to → list_any (is_reply_to to) m.outbox.waiting ≡ false
none_waits m due to may is = (subst (MayReply m) is may).0

come : (m : Mux) (due : Option ℕ) (to : ℕ) → MayReply m due → due ≡ Some to → HasCome m.inbox to
come m due to may is = (subst (MayReply m) is may).1

-- ---- replies are to requests that have come

-- what the laws of the multiplexer say
abbrev pub PutsApart : Type 0
PutsApart = (s : InboxState) (out : Sending) (w : Waiting) → AreApart s out → (is_reply w.kind ≡ true → HasCome s w.number) → AreApart s (with_message out w)

abbrev pub PicksApart : Type 0
PicksApart = (s : InboxState) (out : Sending) → AreApart s out → AreApart s (after_picked out)

request_no_reply : (number : ℕ) (no_reply : Bool) (payload : Payload) (s : InboxState) → is_reply (waiting_of (act_request number no_reply payload)).kind ≡ true → HasCome s number
request_no_reply number no_reply payload s e = absurd (false≢true e)

expected_apart : (s : InboxState) (number : ℕ) (no_reply : Bool) (payload : Payload) (out : Sending) → AreApart s out → AreApart (expecting_by (act_request number no_reply payload) s) out
expected_apart s number true payload out apart = apart
expected_apart s number false payload out apart = apart

requests_apart : PutsApart → (acts : List Act) (m : Mux) → are_requests acts ≡ true → AreApart m.inbox m.outbox → AreApart (put_all acts m).inbox (put_all acts m).outbox
requests_apart law [] m e apart = apart
requests_apart law (act.Reply to kind urgent payload ∷ acts) m e apart = absurd (false≢true e)
requests_apart law (act.Request payload no_reply ∷ acts) m e apart =
    requests_apart law acts (put_one (act.Request payload no_reply) m) e
    (expected_apart m.inbox (m.outbox.requests + 1) no_reply payload (with_message m.outbox (waiting_of (act_request (m.outbox.requests + 1) no_reply payload)))
    (law m.inbox m.outbox (waiting_of (act_request (m.outbox.requests + 1) no_reply payload)) apart (request_no_reply (m.outbox.requests + 1) no_reply payload m.inbox)))
requests_apart law (act.Want want ∷ acts) m e apart = absurd (false≢true e)

-- a reply expects none
reply_expects : (to : ℕ) (kind : Kind) (urgent : Bool) (payload : Payload) (s : InboxState) → is_reply kind ≡ true → s ≡ expecting_by (act_reply to kind urgent payload) s
reply_expects to kinds.Msg urgent payload s e = absurd (false≢true e)
reply_expects to kinds.Rpy urgent payload s e = refl
reply_expects to kinds.Err urgent payload s e = refl
reply_expects to kinds.AckMsg urgent payload s e = absurd (false≢true e)
reply_expects to kinds.AckRpy urgent payload s e = absurd (false≢true e)

pub answers_apart : PutsApart → (due : Option ℕ) (acts : List Act) (m : Mux) → AreAnswers due acts → MayReply m due → AreApart m.inbox m.outbox
    → AreApart (put_all acts m).inbox (put_all acts m).outbox
answers_apart law due [] m a may apart = apart
answers_apart law due (act.Reply to kind urgent payload ∷ acts) m (is, reply, requests) may apart =
    requests_apart law acts (put_one (act.Reply to kind urgent payload) m) requests
    (subst (λ s. AreApart s (with_message m.outbox (waiting_of (act_reply to kind urgent payload)))) (reply_expects to kind urgent payload m.inbox reply)
    (law m.inbox m.outbox (waiting_of (act_reply to kind urgent payload)) apart (λ e. come m due to may is)))
answers_apart law due (act.Request payload no_reply ∷ acts) m a may apart = requests_apart law (act.Request payload no_reply ∷ acts) m a apart
answers_apart law due (act.Want want ∷ acts) m a may apart = absurd a

-- ---- and stay so as frames are picked

pub picked_apart : PicksApart → (s : InboxState) (out : Sending) (frames : List FrameParts) (left : Sending) → ArePicked out frames left → AreApart s out → AreApart s left
picked_apart law s out [] left e apart = subst (AreApart s) (sym e) apart
picked_apart law s out (f ∷ frames) left (next, rest) apart = picked_apart law s (after_picked out) frames left rest (law s out apart)

same_requests : (s : Sending) (acknowledgements : List Acknowledgement) → (picked_from acknowledgements s).requests ≡ s.requests
same_requests s [] = refl
same_requests s (a ∷ acknowledgements) = refl

pub picked_requests : (out : Sending) (frames : List FrameParts) (left : Sending) → ArePicked out frames left → left.requests ≡ out.requests
picked_requests out [] left e = ap (λ (s : Sending). s.requests) e
picked_requests out (f ∷ frames) left (next, rest) = picked_requests (after_picked out) frames left rest ∙ same_requests out out.acknowledgements
