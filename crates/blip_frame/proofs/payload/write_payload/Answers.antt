use Rattle.blip_frame.proofs.Payloads.{text_again}
use Rattle.blip_frame.proofs.payload.write_payload.Goals as goal

pub returns-in-Ok-clause-again : goal.returns-in-Ok-clause-again
returns-in-Ok-clause-again c = λ closable once.
    text_again c.args.payload.now.props c.args.payload.now.body c.in_ok-write_front.ensures.below c.as_slice.ensures.texts closable once
