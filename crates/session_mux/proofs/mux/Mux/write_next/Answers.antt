use Rattle.session_mux.proofs.Fitting.{fits_after}
use Rattle.session_mux.proofs.mux.Mux.write_next.Goals as goal

pub returns-clause-fits : goal.returns-clause-fits
returns-clause-fits c =
    fits_after _ _ c.args.self.now.outbox c.next_frame.result c.args.self.now.sent.value c.next_frame.new.crc.value c.truncate.new.self c.next_frame.new.out
    c.truncate.ensures c.next_frame.ensures.frame c.next_frame.ensures.err
