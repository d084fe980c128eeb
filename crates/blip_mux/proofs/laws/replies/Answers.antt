use Rattle.std.proofs.lemmas.Bool.{false≢true}
use Rattle.blip_mux.proofs.Apart.{take_apart, whole_apart, put_apart, ack_apart, pick_apart}
use Rattle.blip_mux.proofs.laws.replies.Goals as goal

pub returns-clause-new : goal.returns-clause-new
returns-clause-new c number waits = absurd (false≢true waits)

pub returns-clause-taken : goal.returns-clause-taken
returns-clause-taken c = take_apart

pub returns-clause-whole : goal.returns-clause-whole
returns-clause-whole c = whole_apart

pub returns-clause-put : goal.returns-clause-put
returns-clause-put c = put_apart

pub returns-clause-acked : goal.returns-clause-acked
returns-clause-acked c = ack_apart

pub returns-clause-picked : goal.returns-clause-picked
returns-clause-picked c = pick_apart
