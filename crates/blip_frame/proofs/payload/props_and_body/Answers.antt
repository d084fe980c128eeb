use Rattle.blip_frame.proofs.Blocks.{after_both}
use Rattle.blip_frame.proofs.payload.props_and_body.Goals as goal

pub returns-clause-last : goal.returns-clause-last
returns-clause-last c =
    let found = c.in_ok-size.ensures.found in
    after_both c.args.bytes.now found.0 c.in_ok-size.rest.now c.in_ok-size.size c.split_at.result.1.now found.2 c.split_at.ensures.back
