use Rattle.std.proofs.Common.{◌+◌, ◌-◌, ◌++◌, ◌∙◌, ap, sym, refl, arith, ℕ, List, drop, get_or, length, append_assoc}
use Rattle.std.specs.Prelude.{slice_get, nat_eq}
use Rattle.std.proofs.lemmas.Bool.{eq-eqb}
use Rattle.std.proofs.lemmas.List.{append-nil, drop_all, drop_more}
use Rattle.std.proofs.lemmas.List.Folds.{list_any_at}
use Rattle.sg_history.specs.declared.entries.Entry.{Entry}
use Rattle.channel_cache.specs.inner.DocumentsRead.{document_read, documents_read}
use Rattle.channel_cache.specs.declared.found.DocSeq.{DocSeq}
use Rattle.channel_cache.proofs.caches.documents_at.Goals as goal

pub loop-seq-init : goal.loop-seq-init
loop-seq-init c = record { documents = ap (λ (l : List DocSeq). l ++ documents_read c.args.log.now.entries c.args.sequences.now) c.in_ok-documents.ensures.items; log = refl; reads = omega arith }

pub add_document-requires-clause-low : goal.add_document-requires-clause-low
add_document-requires-clause-low c =
    let x = get_or c.args.sequences.now c.loop-seq.seq-index 0 in
    (c.requires x (list_any_at (nat_eq x) c.args.sequences.now c.loop-seq.seq-index 0 (omega arith) (eq-eqb x x refl))).0

pub add_document-requires-clause-high : goal.add_document-requires-clause-high
add_document-requires-clause-high c =
    let x = get_or c.args.sequences.now c.loop-seq.seq-index 0 in
    omega (arith, (c.requires x (list_any_at (nat_eq x) c.args.sequences.now c.loop-seq.seq-index 0 (omega arith) (eq-eqb x x refl))).1, ap length c.loop-seq.invariant.log)

pub loop-seq-preserved : goal.loop-seq-preserved
loop-seq-preserved c =
    let entries = c.args.log.now.entries in
    let xs = c.args.sequences.now in
    let i = c.loop-seq.seq-index in
    let x = get_or c.args.sequences.now c.loop-seq.seq-index 0 in
    let before = c.loop-seq.documents.items in
    record {
      documents =
          ap (λ (l : List DocSeq). l ++ documents_read entries (drop (i + 1) xs))
          (c.in_ok-add_document.ensures.document ∙ ap (λ (l : List Entry). before ++ document_read (slice_get l (x - 1)) x) c.loop-seq.invariant.log)
          ∙ append_assoc before (document_read (slice_get entries (x - 1)) x) (documents_read entries (drop (i + 1) xs))
          ∙ ap (λ (l : List ℕ). before ++ documents_read entries l) (sym (drop_more xs i 0 (omega arith)))
          ∙ c.loop-seq.invariant.documents;
      log = c.add_document.ensures.log ∙ c.loop-seq.invariant.log;
      reads = omega (arith, c.add_document.ensures.reads, c.loop-seq.invariant.reads);
    }

pub returns-clause-documents : goal.returns-clause-documents
returns-clause-documents c =
    let entries = c.args.log.now.entries in
    let built = c.loop-seq.documents.items in
    sym (ap (λ (l : List ℕ). built ++ documents_read entries l) (drop_all c.loop-seq.seq-index c.args.sequences.now (omega (arith, c.loop-seq-test.false))) ∙ append-nil built)
    ∙ c.loop-seq.invariant.documents
