use Rattle.sg_history.proofs.KindLines.{nth, texts}
use Rattle.std.proofs.lemmas.Result.{err_from_is_err_and}
use Rattle.std.proofs.Common.{◌∙◌, [], ◌∷◌, Bor, List, ℕ, ap, arith, codes, map, refl, subst, sym, IsUtf8}
use Rattle.sg_history.proofs.WriteFields.{body_read}
use Rattle.principals.proofs.FaultLemmas.{four}
use Rattle.principals.proofs.KindLines.{bad_doc, bad_parent, bad_content}
use Rattle.principals.proofs.doc_line.read_doc.Goals as goal

pub returns-clause-ok : goal.returns-clause-ok
returns-clause-ok c =
    let doc = c.in_ok-doc.ensures.ok in
    let parent = c.in_ok-parent.ensures.ok in
    let deleted = c.in_ok-deleted.ensures.first in
    let body = c.in_ok-deleted.ensures.second in
    let fields = four (record { ref_ptr = (0, 0); now = [] }) c.args.fields.now (omega arith) (omega arith) in (
      record {
        doc = (doc.1, subst IsUtf8 (sym doc.0) doc.2);
        parent = (parent.1, subst IsUtf8 parent.0 parent.2);
        body = body_read _ _ body.0 body.1;
      },
      ap (λ (texts : List (List ℕ)). codes "doc" ∷ texts)
          (ap (map (λ (p : Bor (List ℕ)). p.now)) fields
          ∙ (λ i. sym doc.0 i ∷ parent.0 i ∷ deleted i ∷ body.0 i ∷ [])),
    )

pub returns-in_err-doc-clause-reason : goal.returns-in_err-doc-clause-reason
returns-in_err-doc-clause-reason c =
    let fields = c.args.fields.now in
    let four_texts = ap (map (λ (p : Bor (List ℕ)). p.now)) (four (record { ref_ptr = (0, 0); now = [] }) fields (omega arith) (omega arith)) in
    let exit = err_from_is_err_and c.from_residual.result c.from_residual.ensures.1 in
    rw (exit.1, exit.2)
    (bad_doc (codes "doc") (texts fields) (nth fields 0) (nth fields 1) (nth fields 2) (nth fields 3) c.in_err-doc.field-0.0 refl four_texts c.in_err-doc.ensures.fault)

pub returns-in_err-parent-clause-reason : goal.returns-in_err-parent-clause-reason
returns-in_err-parent-clause-reason c =
    let fields = c.args.fields.now in
    let four_texts = ap (map (λ (p : Bor (List ℕ)). p.now)) (four (record { ref_ptr = (0, 0); now = [] }) fields (omega arith) (omega arith)) in
    let exit = err_from_is_err_and c.from_residual-in_err-parent.result c.from_residual-in_err-parent.ensures.1 in
    rw (exit.1, exit.2)
    (bad_parent (codes "doc") (texts fields) (nth fields 0) (nth fields 1) (nth fields 2) (nth fields 3) c.in_err-parent.field-0.0 refl four_texts c.in_ok-doc.ensures.text c.in_err-parent.ensures.reason)

pub returns-in_err-deleted-clause-reason : goal.returns-in_err-deleted-clause-reason
returns-in_err-deleted-clause-reason c =
    let fields = c.args.fields.now in
    let four_texts = ap (map (λ (p : Bor (List ℕ)). p.now)) (four (record { ref_ptr = (0, 0); now = [] }) fields (omega arith) (omega arith)) in
    let exit = err_from_is_err_and c.from_residual-in_err-deleted.result c.from_residual-in_err-deleted.ensures.1 in
    rw (exit.1, exit.2)
    (bad_content (codes "doc") (texts fields) (nth fields 0) (nth fields 1) (nth fields 2) (nth fields 3) c.in_err-deleted.field-0.0 refl four_texts c.in_ok-doc.ensures.text
    (c.in_ok-parent.ensures.ok.2, c.in_ok-parent.parent, c.in_ok-parent.ensures.ok.1, c.in_ok-parent.ensures.ok.0) c.in_err-deleted.ensures.fault)
