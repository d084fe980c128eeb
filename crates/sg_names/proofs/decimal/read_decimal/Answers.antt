use Rattle.std.proofs.Common.{arith}
use Rattle.std.proofs.lemmas.Fmt.{parse-decimal}
use Rattle.std.proofs.lemmas.Slice.Eq.{bytes_eq-Decides}
use Rattle.sg_names.proofs.decimal.read_decimal.Goals as goal

pub returns-else-eq-clause-none : goal.returns-else-eq-clause-none
returns-else-eq-clause-none c = λ n small e.
    let read = parse-decimal 64 n c.args.text.now c.parse.result small small e c.parse.ensures.value.0 in
    let decides = (bytes_eq-Decides c.format.result.now c.args.text.now).1 in
    let written = c.format.ensures.text in
    let parsed = c.in-Ok.is in
    let test = c.eq.ensures in
    let failed = c.if-eq.false in
    grind (arith, read, decides, written, parsed, test, failed, e)

pub returns-in-Err-clause-none : goal.returns-in-Err-clause-none
returns-in-Err-clause-none c = λ n small e.
    let read = parse-decimal 64 n c.args.text.now c.parse.result small small e c.parse.ensures.value.0 in
    let failed = c.in-Err.is in
    grind (arith, read, failed)
