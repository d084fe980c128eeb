use Rattle.std.proofs.Common.{List, reverse, nat_eq, refl, subst, ap, ◌∙◌, ◌≡◌, Err}
use Rattle.std.specs.Prelude.{min}
use Rattle.std.specs.HashMap.{get, spare}
use Rattle.sg_history.specs.declared.entries.Entry.{Entry}
use Rattle.sg_history.specs.History.{entries_of}
use Rattle.rev_tree.specs.Documents.{writes_of}
use Rattle.rev_tree.specs.Writes.{AreAccepted}
use Rattle.doc_board.specs.Boards.{bytes_stored}
use Rattle.doc_board.specs.Kept.{AreKept}
use Rattle.doc_board.specs.Recorded.{AreFollowing, IsFirstRefused}
use Rattle.doc_board.specs.declared.open.OpenFault.{OpenFault}
use Rattle.doc_board.proofs.Opening.{memory_alone, opened}
use Rattle.doc_board.proofs.board.Board.open.Goals as goal

pub invariant_of-result : goal.invariant_of-result
invariant_of-result c =
    let h = c.args.log.entries in
    let es : List Entry = c.as_slice.result.now in
    let same : es ≡ h.list = c.as_slice.ensures in
    let kept = subst (λ (x : List Entry). AreKept (reverse x) c.in-Ok.documents) same c.in-Ok.ensures.kept in
    let accepted = subst (λ (x : List Entry). (doc : _) → AreAccepted (writes_of (reverse x) doc)) same c.in-Ok.ensures.accepted in
    let following = subst (λ (x : List Entry). AreFollowing (reverse x)) same c.in-Ok.ensures.following in (
      opened c.histories.ensures.writes c.histories.ensures.last c.books.ensures.of_rev h c.in-Ok.documents c.new.result (get nat_eq c.new-2.result) (spare c.new-2.result) c.bytes_of-stored.result c.new-3.result c.new.ensures c.new-3.ensures kept accepted following c.requires
          (c.bytes_of-stored.ensures ∙ ap (λ (x : List Entry). min (bytes_stored x) 18446744073709551615) c.as_slice-2.ensures),
      c.new-4.ensures.stands h.list,
      refl,
    )

pub returns-in-Err-clause-accepts : goal.returns-in-Err-clause-accepts
returns-in-Err-clause-accepts c = λ following.
    memory_alone (entries_of c.args.log) c.in-Err.fault
    (λ sequence is. subst (λ (es : List Entry). IsFirstRefused es sequence) c.as_slice.ensures (c.in-Err.ensures.bad sequence (ap (λ (fault : OpenFault). Err fault) is)))
    following
