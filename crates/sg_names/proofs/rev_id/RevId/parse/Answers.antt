use Rattle.std.proofs.Common.{◌≡◌, Err, ap, ◌∙◌, arith}
use Rattle.std.proofs.lemmas.Result.{err_from_is_err_and}
use Rattle.sg_names.specs.Grammar.{is_digest}
use Rattle.sg_names.specs.declared.fault.TextFault.TheVariants.{Bad}
use Rattle.sg_names.proofs.RevTexts.{rev_cut, rev_parts, rev_spelled}
use Rattle.sg_names.proofs.rev_id.RevId.parse.Goals as goal

pub returns-in_default-read_generation-clause-bad :
    goal.returns-in_default-read_generation-clause-bad
returns-in_default-read_generation-clause-bad c = λ fault r h e.
    let parts = rev_parts r h in
    let seam = c.in-Some.ensures.some in
    let cut = rev_cut c.args.text.now c.in-Some.front.now c.in-Some.back.now r seam.0 seam.1 h e in
    c.in_default-read_generation.ensures.none r.generation parts.low parts.high cut.0

pub returns-in_err-parse-clause-bad : goal.returns-in_err-parse-clause-bad
returns-in_err-parse-clause-bad c = λ fault r h e.
    let seam = c.in-Some.ensures.some in
    let cut = rev_cut c.args.text.now c.in-Some.front.now c.in-Some.back.now r seam.0 seam.1 h e in
    let exit = err_from_is_err_and c.from_residual.result c.from_residual.ensures.1 in
    let inner : c.in_err-parse.field-0.0 ≡ Bad = cc in
    c.in_err-parse.ensures.bad (ap Err inner) (ap is_digest cut.1 ∙ (rev_parts r h).digest)

pub returns-in_err-parse-clause-outside : goal.returns-in_err-parse-clause-outside
returns-in_err-parse-clause-outside c = λ none.
    let seam = c.in-Some.ensures.some in
    let generation = c.in-Some-read_generation.ensures.some in
    let exit = err_from_is_err_and c.from_residual.result c.from_residual.ensures.1 in
    let bad = c.in_err-parse.ensures.outside (rev_spelled c.args.text.now c.in-Some.front.now c.in-Some.back.now c.in-Some-read_generation.generation seam.0 generation.0 generation.1 (omega arith) none) in
    cc

pub returns-clause-outside : goal.returns-clause-outside
returns-clause-outside c = λ none.
    let seam = c.in-Some.ensures.some in
    let generation = c.in-Some-read_generation.ensures.some in
    absurd (rev_spelled c.args.text.now c.in-Some.front.now c.in-Some.back.now c.in-Some-read_generation.generation seam.0 generation.0 generation.1 (omega arith) none c.in_ok-parse.ensures.ok.1)
