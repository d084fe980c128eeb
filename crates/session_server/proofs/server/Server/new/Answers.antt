use Rattle.std.proofs.Common.{ap, length, subst, sym}
use Rattle.write_path.specs.Shelf.{shelf_state}
use Rattle.session_server.specs.inner.Lines.{AreFresh}
use Rattle.session_server.proofs.Holding.{holds_first}
use Rattle.session_server.proofs.LineLists.{no_lines}
use Rattle.session_server.proofs.server.Server.new.Goals as goal

pub returns-clause-holds : goal.returns-clause-holds
returns-clause-holds g c = (subst (λ ls. AreFresh g.L.Link.recorded ls) (sym no_lines) tt, holds_first (shelf_state c.args.opened.value) c.args.config.now c.args.pass.knows c.requires.first, sym (ap length no_lines))
