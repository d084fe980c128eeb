-- the lines that snapshots stand for, one after another
use Rattle.std.proofs.Common.{rules, ◌≡◌, []}
use Rattle.session_server.specs.declared.server.Lines.{the_lemmas}
use Rattle.session_server.specs.declared.server.Lines.TheVariants as lines
use Rattle.session_server.specs.inner.Lines.{lines_in}

pub no_lines : {L : Type 0} → lines_in {L = L} lines.Nothing ≡ []
no_lines = search (rules, the_lemmas)
