use Rattle.std.proofs.Common.{◌≡◌, ◌∙◌, List, Option, length, reverse, ap, sym, subst, Bor}
use Rattle.std.specs.Prelude.{IfOk}
use Rattle.std.specs.Option.{option_copied}
use Rattle.sg_history.specs.declared.entries.Entry.{Entry}
use Rattle.sg_history.specs.declared.entries.Write.{Write}
use Rattle.sg_history.specs.Current.{Sequenced, write_alone, write_of_rev}
use Rattle.doc_board.specs.inner.Based.{IsFound}
use Rattle.doc_board.proofs.OnBoards.{whole}
use Rattle.doc_board.proofs.base.write_of.Goals as goal

pub returns-in-None : goal.returns-in-None
returns-in-None c =
    let h = c.args.storage.now.log.entries.list in
    let doc = c.args.doc.now in
    let rev = c.args.rev.now in
    let found = subst (λ (o : Option (Bor Write)). IsFound h c.args.storage.now.pending.waiting doc rev (option_copied o)) c.in-None.is (c.waiting_write.ensures doc c.requires.last) in
    let is = found
    ∙ ap (λ (s : Option Sequenced). write_alone s) (c.books.ensures.of_rev h (length h) doc rev)
    ∙ whole (λ (es : List Entry). write_alone (write_of_rev es doc rev)) h
    ∙ ap (λ (es : List Entry). write_alone (write_of_rev (reverse es) doc rev)) (sym c.as_slice.ensures) in
    subst (λ (o : Option Write). IfOk c.write_of_rev.result (λ x. option_copied x ≡ o)) (sym is) c.write_of_rev.ensures
