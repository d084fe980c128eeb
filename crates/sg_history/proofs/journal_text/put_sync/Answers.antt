use Rattle.std.proofs.Common.{◌≡◌, ◌∙◌, ◌++◌, ◌∷◌, [], List, OnOk, ℕ, ap, append_assoc, subst}
use Rattle.sg_names.specs.Hex.{hex_text}
use Rattle.sg_history.specs.declared.entries.Mark.{Mark}
use Rattle.sg_history.specs.Journal.{marks_fields}
use Rattle.sg_history.specs.Line.{behind_tabs}
use Rattle.sg_history.proofs.Appended.{both_kept, sync_put}
use Rattle.sg_history.proofs.journal_text.put_sync.Goals as goal

pub returns-clause-ok : goal.returns-clause-ok
returns-clause-ok c =
    let before = c.args.out.now in
    let middle : c.write_hex.new.out ≡ before ++ (83 ∷ 9 ∷ hex_text c.args.text.now) =
    c.in_ok-write_hex.ensures.ok ∙ ap (λ (l : List ℕ). l ++ hex_text c.as_bytes.result.now) c.in_ok-extend_from_slice.ensures.ok
    ∙ append_assoc before (83 ∷ 9 ∷ []) (hex_text c.as_bytes.result.now) ∙ ap (λ (t : List ℕ). before ++ (83 ∷ 9 ∷ hex_text t)) c.as_bytes.ensures.value
    in
    sync_put c.put_marks.result before c.write_hex.new.out c.put_marks.new.out c.args.text.now c.args.marks.now middle
    (subst (λ (ms : List Mark). OnOk c.put_marks.result (c.put_marks.new.out ≡ c.write_hex.new.out ++ behind_tabs (marks_fields ms))) c.as_slice.ensures c.put_marks.ensures.ok)

pub returns-clause-err : goal.returns-clause-err
returns-clause-err c =
    let before = c.args.out.now in
    let middle : c.write_hex.new.out ≡ before ++ (83 ∷ 9 ∷ hex_text c.args.text.now) =
    c.in_ok-write_hex.ensures.ok ∙ ap (λ (l : List ℕ). l ++ hex_text c.as_bytes.result.now) c.in_ok-extend_from_slice.ensures.ok
    ∙ append_assoc before (83 ∷ 9 ∷ []) (hex_text c.as_bytes.result.now) ∙ ap (λ (t : List ℕ). before ++ (83 ∷ 9 ∷ hex_text t)) c.as_bytes.ensures.value
    in
    both_kept c.put_marks.result before c.write_hex.new.out c.put_marks.new.out (83 ∷ 9 ∷ hex_text c.args.text.now) middle c.put_marks.ensures.err
