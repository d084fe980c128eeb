-- What a program is printed as.
use Rattle.std.specs.Prelude.{ℕ, List, []}
use Rattle.sync_syntax.specs.declared.tree.Program.{Program}
use Rattle.sync_print.specs.declared.printer.Last.TheVariants.{Opening}
use Rattle.sync_print.specs.declared.printer.Printer.{Printer}
use Rattle.sync_print.specs.Spelling.{put_all}
use Rattle.sync_print.specs.Trees.{program}

-- nothing yet
abbrev pub nothing : Printer
nothing = record { text = []; last = Opening }

-- the text of a program
unfoldable pub printed : Program → List ℕ
printed p = (put_all (program p) nothing).text
