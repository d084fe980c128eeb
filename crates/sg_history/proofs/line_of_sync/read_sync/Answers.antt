use Rattle.std.proofs.Common.{◌≡◌, ◌≢◌, ◌%◌, ◌∙◌, arith, length, sym}
use Rattle.std.proofs.lemmas.Bool.{eq-eqb, eqb-true, false≢true}
use Rattle.sg_history.specs.Pieces.{pieces}
use Rattle.sg_history.proofs.FaultLemmas.{sync_miscounted}
use Rattle.sg_history.proofs.line_of_sync.read_sync.Goals as goal

pub returns-then-not-is_count-clause-reason : goal.returns-then-not-is_count-clause-reason
returns-then-not-is_count-clause-reason c =
    let fields = pieces 9 c.args.line.now in
    let count : c.field_count-count.result ≡ length fields = c.field_count-count.ensures in
    let odd : length fields % 5 ≢ 1 =
    λ e. false≢true (sym c.if-not-is_count.true ∙ c.is_count.ensures ∙ eq-eqb (c.field_count-count.result % 5) 1 (omega (arith, e, count))) in
    sync_miscounted fields odd

pub read_fields-requires-clause-fields : goal.read_fields-requires-clause-fields
read_fields-requires-clause-fields c =
    let one : c.field_count-count.result % 5 ≡ 1 = eqb-true (c.field_count-count.result % 5) 1 (sym c.is_count.ensures ∙ c.if-not-is_count.false) in
    omega (arith, one, c.field_count-count.ensures)

pub read_fields-requires-clause-few : goal.read_fields-requires-clause-few
read_fields-requires-clause-few c =
    let one : c.field_count-count.result % 5 ≡ 1 = eqb-true (c.field_count-count.result % 5) 1 (sym c.is_count.ensures ∙ c.if-not-is_count.false) in
    omega (arith, one)
