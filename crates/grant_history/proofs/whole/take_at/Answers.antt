use Rattle.std.proofs.Common.{◌≡◌, ◌∙◌, ◌+◌, sym, ap, subst, arith, List, Some}
use Rattle.std.specs.Prelude.{slice_get}
use Rattle.std.proofs.lemmas.Option.{slice_get-get_or}
use Rattle.sg_history.specs.declared.entries.Entry.{Entry}
use Rattle.sg_history.specs.declared.entries.Mark.{Mark}
use Rattle.sg_history.specs.History.{as_write, past}
use Rattle.grant_history.specs.inner.Changes.{IsMarking}
use Rattle.grant_tracks.proofs.Tracked.{on_ok}
use Rattle.grant_history.proofs.Applied.{no_sync, no_write}
use Rattle.grant_history.proofs.Winning.{state_of_write, marking_at, place_at, write_step_at, kept_after}
use Rattle.grant_history.proofs.whole.take_at.Goals as goal

pub take-requires : goal.take-requires
take-requires c =
    let entries = c.args.entries.now in
    let i = c.args.i in
    let e = c.index-entries-i.result in
    let w = c.in-Write.write in
    let is : slice_get entries i ≡ Some e = slice_get-get_or entries i e c.requires.more ∙ ap (λ (x : Entry). Some x) (sym c.index-entries-i.is) in
    let same = c.requires.written ∙ state_of_write entries i e is w (ap as_write c.in-Write.is) in
    let now = c.in_ok-facts-in-Write.ensures (i + 1) w.doc (omega (arith, c.requires.more)) same in
    (e, past entries i, write_step_at c.args.ledger.now entries i e is c.requires.more c.requires.kept c.currents.ensures.unwritten w c.in-Write.is c.in_ok-facts-in-Write.facts.items now)

pub returns-in_ok-facts-in-Write : goal.returns-in_ok-facts-in-Write
returns-in_ok-facts-in-Write c =
    let entries = c.args.entries.now in
    let i = c.args.i in
    let e = c.index-entries-i.result in
    let w = c.in-Write.write in
    let is : slice_get entries i ≡ Some e = slice_get-get_or entries i e c.requires.more ∙ ap (λ (x : Entry). Some x) (sym c.index-entries-i.is) in
    let same = c.requires.written ∙ state_of_write entries i e is w (ap as_write c.in-Write.is) in
    let now = c.in_ok-facts-in-Write.ensures (i + 1) w.doc (omega (arith, c.requires.more)) same in
    on_ok c.take.result _ _ (λ takes. kept_after c.args.ledger.now entries i e is c.requires.more c.requires.kept c.take.new.self c.take.ensures.before
    (takes e (past entries i) (write_step_at c.args.ledger.now entries i e is c.requires.more c.requires.kept c.currents.ensures.unwritten w c.in-Write.is c.in_ok-facts-in-Write.facts.items now))) c.take.ensures.ok

pub take_marked-requires : goal.take_marked-requires
take_marked-requires c =
    let entries = c.args.entries.now in
    let i = c.args.i in
    let e = c.index-entries-i.result in
    let is : slice_get entries i ≡ Some e = slice_get-get_or entries i e c.requires.more ∙ ap (λ (x : Entry). Some x) (sym c.index-entries-i.is) in (
      e,
      past entries i,
      subst (λ (marks : List Mark). IsMarking c.args.ledger.now (i + 1) marks c.args.marked.now e (past entries i)) (sym c.as_slice.ensures)
          (marking_at c.args.ledger.now entries i e is c.requires.more c.requires.kept _ _ c.in-Sync.is c.args.marked.now c.requires.marked),
    )

pub returns-in-Sync : goal.returns-in-Sync
returns-in-Sync c =
    let entries = c.args.entries.now in
    let i = c.args.i in
    let e = c.index-entries-i.result in
    let is : slice_get entries i ≡ Some e = slice_get-get_or entries i e c.requires.more ∙ ap (λ (x : Entry). Some x) (sym c.index-entries-i.is) in
    on_ok c.take_marked.result _ _ (λ takes. kept_after c.args.ledger.now entries i e is c.requires.more c.requires.kept c.take_marked.new.ledger c.take_marked.ensures.before
    (takes e (past entries i) (subst (λ (marks : List Mark). IsMarking c.args.ledger.now (i + 1) marks c.args.marked.now e (past entries i)) (sym c.as_slice.ensures)
    (marking_at c.args.ledger.now entries i e is c.requires.more c.requires.kept _ _ c.in-Sync.is c.args.marked.now c.requires.marked)))) c.take_marked.ensures.ok

pub take_put-requires : goal.take_put-requires
take_put-requires c =
    let entries = c.args.entries.now in
    let i = c.args.i in
    let e = c.index-entries-i.result in
    let is : slice_get entries i ≡ Some e = slice_get-get_or entries i e c.requires.more ∙ ap (λ (x : Entry). Some x) (sym c.index-entries-i.is) in
    record {
      before = record {
        es = past entries i;
        place = place_at c.args.ledger.now entries i e is c.requires.more c.requires.kept;
        is_kept = c.requires.kept.is_kept;
      };
      no_write = no_write e c.in_default.not-Write;
      no_sync = no_sync e c.in_default.not-Sync;
    }

pub returns-in_default : goal.returns-in_default
returns-in_default c =
    let entries = c.args.entries.now in
    let i = c.args.i in
    let e = c.index-entries-i.result in
    let is : slice_get entries i ≡ Some e = slice_get-get_or entries i e c.requires.more ∙ ap (λ (x : Entry). Some x) (sym c.index-entries-i.is) in
    on_ok c.take_put.result _ _ (λ takes. kept_after c.args.ledger.now entries i e is c.requires.more c.requires.kept c.take_put.new.self c.take_put.ensures.before
    (takes (past entries i) (place_at c.args.ledger.now entries i e is c.requires.more c.requires.kept) c.requires.kept.is_kept)) c.take_put.ensures.ok
