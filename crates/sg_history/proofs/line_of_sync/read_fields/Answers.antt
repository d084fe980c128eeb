use Rattle.std.proofs.Common.{◌≡◌, ◌*◌, ◌∙◌, ◌∷◌, List, ℕ, ap, arith, codes, length, subst, sym}
use Rattle.std.proofs.lemmas.Result.{err_from_is_err_and}
use Rattle.sg_history.specs.Faults.{HasReason, IsFault}
use Rattle.sg_history.specs.Pieces.{pieces}
use Rattle.sg_history.proofs.FaultLemmas.{sync_marks_bad, sync_text_bad}
use Rattle.sg_history.proofs.line_of_sync.read_fields.Goals as goal

pub returns-in_err-text-clause-reason : goal.returns-in_err-text-clause-reason
returns-in_err-text-clause-reason c =
    let exit = err_from_is_err_and c.from_residual.result c.from_residual.ensures.1 in
    let cut : pieces 9 c.args.line.now ≡ c.next.result.now ∷ c.next.new.self = sym c.new-fields.ensures ∙ c.next.ensures in
    let many : length c.next.new.self ≡ 5 * c.args.count = omega (arith, c.requires.fields, ap length cut) in
    rw (exit.1, exit.2)
    (subst (λ (fs : List (List ℕ)). HasReason (IsFault (codes "S" ∷ fs)) c.in_err-text.field-0.0) (sym cut)
    (sync_text_bad c.args.count c.next.result.now c.next.new.self c.in_err-text.field-0.0 many c.in_err-text.ensures.fault))

pub read_marks-requires-clause-count : goal.read_marks-requires-clause-count
read_marks-requires-clause-count c =
    let cut : pieces 9 c.args.line.now ≡ c.next.result.now ∷ c.next.new.self = sym c.new-fields.ensures ∙ c.next.ensures in
    omega (arith, c.requires.fields, ap length cut)

pub returns-in-Ok-clause-ok : goal.returns-in-Ok-clause-ok
returns-in-Ok-clause-ok c =
    let cut : pieces 9 c.args.line.now ≡ c.next.result.now ∷ c.next.new.self = sym c.new-fields.ensures ∙ c.next.ensures in
    let text = c.in_ok-text.ensures.ok in
    let marks = c.in-Ok.ensures.fields in
    (record { text = (text.1, text.2); marks = c.in-Ok.ensures.marks }, ap (λ (fs : List (List ℕ)). codes "S" ∷ fs) (cut ∙ (λ i. text.0 i ∷ marks i)))

pub returns-in-Err-clause-reason : goal.returns-in-Err-clause-reason
returns-in-Err-clause-reason c =
    let cut : pieces 9 c.args.line.now ≡ c.next.result.now ∷ c.next.new.self = sym c.new-fields.ensures ∙ c.next.ensures in
    let many : length c.next.new.self ≡ 5 * c.args.count = omega (arith, c.requires.fields, ap length cut) in
    subst (λ (fs : List (List ℕ)). HasReason (IsFault (codes "S" ∷ fs)) c.in-Err.fault) (sym cut)
    (sync_marks_bad c.args.count c.next.result.now c.next.new.self c.in-Err.fault many c.in_ok-text.ensures.text c.in-Err.ensures.reason)
