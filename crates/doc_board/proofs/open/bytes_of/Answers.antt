use Rattle.std.proofs.Common.{◌≡◌, ◌+◌, ◌∷◌, ◌∙◌, List, drop, ap, sym, arith}
use Rattle.std.proofs.lemmas.List.{drop_more}
use Rattle.sg_history.specs.declared.entries.Entry.{Entry}
use Rattle.sg_history.specs.History.{as_write}
use Rattle.doc_board.specs.Boards.{body_size, bytes_stored}
use Rattle.doc_board.proofs.Sizes.{none_past}
use Rattle.doc_board.proofs.open.bytes_of.Goals as goal

pub loop-entry-preserved : goal.loop-entry-preserved
loop-entry-preserved c =
    let es = c.args.entries.now in
    let i = c.loop-entry.entry-index in
    let e = c.entry-item.result in
    let rest : List Entry = drop (i + 1) es in
    let split : bytes_stored (drop i es) ≡ body_size (as_write e) + bytes_stored rest =
    ap (λ (x : List Entry). bytes_stored x) (drop_more es i e c.loop-entry-test.true ∙ ap (λ (x : Entry). x ∷ rest) (sym c.entry-item.is)) in
    record {
      sum = omega (arith, split, c.loop-entry.invariant.sum, c.size_of.ensures, c.saturating_add-bytes.ensures);
      small = omega (arith, c.saturating_add-bytes.ensures);
    }

pub returns : goal.returns
returns c =
    let none = none_past c.args.entries.now c.loop-entry.entry-index (omega arith) in
    omega (arith, none, c.loop-entry.invariant.sum, c.loop-entry.invariant.small)
