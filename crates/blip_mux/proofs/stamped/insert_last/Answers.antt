use Rattle.std.proofs.Common.{◌∙◌}
use Rattle.blip_mux.proofs.Listed.{put_last, are_below}
use Rattle.blip_mux.proofs.Moved.{place_gone}
use Rattle.blip_mux.proofs.stamped.insert_last.Goals as goal

pub returns-clause-messages : goal.returns-clause-messages
returns-clause-messages c = c.in_ok-put.ensures.ok ∙ put_last c.args.stamp c.args.message c.args.messages.now.entries (are_below c.args.stamp c.args.messages.now.entries c.requires.ordered c.requires.last)

pub returns-in-Err-clause-err : goal.returns-in-Err-clause-err
returns-in-Err-clause-err c =
    (c.remove.ensures.others ∙ place_gone c.args.messages.now.entries c.put.new.messages.entries c.args.stamp c.args.message c.requires.ordered c.requires.last c.in_ok-put.ensures.ok, c.in-Err.ensures.err)
