use Rattle.std.proofs.Common.{refl, sym, append-nil}
use Rattle.session_run.proofs.Turning.{nothing_goes, read_nothing}
use Rattle.session_run.proofs.session.Session.go_on.Goals as goal

pub returns-clause-goes : goal.returns-clause-goes
returns-clause-goes g c program now front =
    nothing_goes program c.replies.ensures.picked c.args.self.now (record { core = c.args.self.now.core; mux = c.send_all.new.self; listing = c.args.self.now.listing; frames = c.args.self.now.frames }) now
    (g.W.Wire.recorded c.args.wire.now) (g.W.Wire.recorded c.send_all.new.wire) c.send_all.result c.end_of.result c.requires.pending c.requires.ready front (read_nothing now) refl refl c.send_all.ensures.inbox
    (sym (append-nil c.args.self.now.listing.looks)) (sym (append-nil c.args.self.now.listing.stored)) c.send_all.ensures.sent c.end_of.ensures
