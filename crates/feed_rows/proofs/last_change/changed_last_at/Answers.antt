use Rattle.std.proofs.Common.{◌∙◌, sym, ap, arith, ℕ, List, reverse, nat_eq}
use Rattle.std.proofs.lemmas.Bool.{ne_eqb}
use Rattle.sg_history.specs.declared.entries.Entry.{Entry}
use Rattle.log_index.specs.Places.{document_at}
use Rattle.feed_rows.specs.LastChange.{place_in}
use Rattle.feed_rows.proofs.LastChanges.{place_at_most, whole}
use Rattle.feed_rows.proofs.last_change.changed_last_at.Goals as goal

pub loop-to-init : goal.loop-to-init
loop-to-init c =
    let entries = c.args.entries.now in
    record {
      stands = record {
        within = omega arith;
        document = c.document-stood.ensures ∙ ap (λ (es : List Entry). document_at es c.args.doc.now) c.requires.index ∙ ap (λ (es : List Entry). document_at es c.args.doc.now) (whole entries);
        is_viewer = c.requires.viewer;
        indexes = c.requires.index;
      };
      last = ap (λ (es : List Entry). place_in es c.args.viewer.now c.args.doc.now) (whole entries);
    }

pub loop-to-preserved : goal.loop-to-preserved
loop-to-preserved c =
    let found = c.in-Before.ensures c.args.doc.now c.loop-to.invariant.stands in
    record {
      stands = record {
        within = omega (arith, found.0, c.loop-to.invariant.stands.within);
        document = found.1;
        is_viewer = c.requires.viewer;
        indexes = c.requires.index;
      };
      last = c.loop-to.invariant.last ∙ found.2;
    }

pub returns-in-At : goal.returns-in-At
returns-in-At c =
    let found = c.in-At.ensures c.args.doc.now c.loop-to.invariant.stands in
    ap (λ (n : ℕ). nat_eq n c.args.place) (sym found ∙ sym c.loop-to.invariant.last)

pub returns : goal.returns
returns c =
    let last = c.loop-to.invariant.last in
    let most = place_at_most c.args.entries.now c.args.viewer.now c.args.doc.now c.loop-to.to c.loop-to.invariant.stands.within in
    sym (ne_eqb (place_in (reverse c.args.entries.now) c.args.viewer.now c.args.doc.now) c.args.place (λ same. omega (arith, last, most, same, c.loop-to-test.false)))
