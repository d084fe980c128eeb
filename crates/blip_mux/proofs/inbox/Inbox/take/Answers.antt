use Rattle.std.proofs.Common.{rules}
use Rattle.blip_frame.specs.Frame.{parts_of}
use Rattle.blip_mux.proofs.Within.{no_early}
use Rattle.blip_mux.proofs.inbox.Inbox.take.Goals as goal

pub returns-clause-early : goal.returns-clause-early
returns-clause-early c fault early e =
    absurd (no_early c.args.self.now (parts_of c.args.frame.now) fault c.in_ok-held.held (search rules) (search rules) (search rules) early e)
