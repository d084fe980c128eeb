-- Messages that are put. Only proofs need this.
use Rattle.std.specs.Prelude.{◌≡◌, ℕ, ◌+◌, true, false, List, [], ◌∷◌, Option, Some, None}
use Rattle.std.specs.List.{list_any}
use Rattle.blip_mux.specs.declared.message.Message.{Message}
use Rattle.blip_mux.specs.Apart.{HasCome}
use Rattle.blip_mux.specs.Cutting.{after_outbox_steps}
use Rattle.blip_mux.specs.Joining.{is_reply}
use Rattle.blip_mux.specs.Sending.{Waiting, is_reply_to}
use Rattle.session_core.specs.declared.act.Act.{Act}
use Rattle.session_core.specs.declared.act.Act.TheVariants as act
use Rattle.session_core.specs.Conduct.{are_requests}
use Rattle.session_mux.specs.declared.mux.Mux.{Mux}
use Rattle.session_mux.specs.Muxed.{with_put, request_message, reply_message}
use Rattle.session_mux.specs.Sent.{expecting_all}
use Rattle.session_run.specs.Turns.{puts_all}

-- one act is put
abbrev pub put_one : Act → Mux → Mux
put_one (act.Reply to kind urgent payload) m = with_put (reply_message to kind urgent payload) m
put_one (act.Request payload no_reply) m = with_put (request_message (m.outbox.requests + 1) no_reply payload) m
put_one (act.Want want) m = m

abbrev pub put_all : List Act → Mux → Mux
put_all [] m = m
put_all (a ∷ acts) m = put_all acts (put_one a m)

-- a reply may be put where none of its number waits
abbrev pub MayPut : List Waiting → Act → Type 0
MayPut waiting (act.Reply to kind urgent payload) = (is_reply kind ≡ true) × (list_any (is_reply_to to) waiting ≡ false)
MayPut waiting (act.Request payload no_reply) = Unit {0}
MayPut waiting (act.Want want) = ⊥

-- the first act is a request, or a reply that may be put, and all others are requests
abbrev pub MayPutAll : List Waiting → List Act → Type 0
MayPutAll waiting [] = Unit {0}
MayPutAll waiting (a ∷ acts) = MayPut waiting a × (are_requests acts ≡ true)

-- these messages put at once
abbrev pub put_as : Mux → List Message → Mux
put_as m messages = record m { inbox = expecting_all messages m.inbox; outbox = after_outbox_steps m.outbox (puts_all messages) }

-- the reply that is due, if one is, may be put: the request has come, and no reply to it waits
abbrev pub MayReply : Mux → Option ℕ → Type 0
MayReply m None = Unit {0}
MayReply m (Some number) = (list_any (is_reply_to number) m.outbox.waiting ≡ false) × HasCome m.inbox number
