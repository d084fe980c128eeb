use Rattle.std.proofs.Common.{◌≡◌, ◌∙◌, ◌++◌, Err, List, ℕ, ap, sym}
use Rattle.std.proofs.lemmas.Result.{err_from_is_err_and}
use Rattle.sg_names.specs.Hex.{hex_text}
use Rattle.sg_names.specs.declared.fault.TextFault.TheVariants.{Bad}
use Rattle.sg_history.proofs.SyncTexts.{hex_bad, sync_bad, sync_is_text, sync_read}
use Rattle.sg_history.proofs.field.SyncTextField.read_field.Goals as goal

pub returns-in_err-from_hex-clause-bad : goal.returns-in_err-from_hex-clause-bad
returns-in_err-from_hex-clause-bad c = λ fault.
    let exit = err_from_is_err_and c.from_residual.result c.from_residual.ensures.1 in
    let inner : c.in_err-from_hex.field-0.0 ≡ Bad = cc in
    hex_bad c.args.field.now (c.in_err-from_hex.ensures.bad (ap Err inner))

pub returns-clause-ok : goal.returns-clause-ok
returns-clause-ok c =
    let read = c.in_ok-from_hex.ensures.ok in
    let same : c.as_slice.result.now ≡ read.0 = c.as_slice.ensures ∙ read.2 ∙ ap (λ (l : List ℕ). l ++ read.0) c.new-bytes.ensures in
    sync_read c.read_sync_text.result c.args.field.now c.as_slice.result.now (read.1 ∙ ap hex_text (sym same)) c.read_sync_text.ensures.ok

pub returns-clause-text : goal.returns-clause-text
returns-clause-text c =
    let read = c.in_ok-from_hex.ensures.ok in
    let same : c.as_slice.result.now ≡ read.0 = c.as_slice.ensures ∙ read.2 ∙ ap (λ (l : List ℕ). l ++ read.0) c.new-bytes.ensures in
    sync_is_text c.read_sync_text.result c.args.field.now c.as_slice.result.now (read.1 ∙ ap hex_text (sym same)) c.read_sync_text.ensures.ok

pub returns-clause-bad : goal.returns-clause-bad
returns-clause-bad c = λ fault.
    let read = c.in_ok-from_hex.ensures.ok in
    let same : c.as_slice.result.now ≡ read.0 = c.as_slice.ensures ∙ read.2 ∙ ap (λ (l : List ℕ). l ++ read.0) c.new-bytes.ensures in
    sync_bad c.args.field.now c.as_slice.result.now c.in_ok-from_hex.ensures.grammar (read.1 ∙ ap hex_text (sym same)) (c.read_sync_text.ensures.bad fault)
