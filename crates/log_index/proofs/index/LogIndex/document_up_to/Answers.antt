use Rattle.std.proofs.Common.{◌<◌, ◌≤◌, arith}
use Rattle.log_index.proofs.GoingBack.{first_found, is_found, next_found}
use Rattle.log_index.proofs.index.LogIndex.document_up_to.Goals as goal

pub loop-last-init : goal.loop-last-init
loop-last-init c = (first_found c.args.self.now c.args.doc.now c.args.place c.document-found.result c.document-found.ensures, c.last_of-last.ensures)

pub loop-last-preserved : goal.loop-last-preserved
loop-last-preserved c =
    let more : c.args.place < c.loop-last.last = omega (arith, c.loop-last-test.true) in
    let step = next_found c.args.self.now c.args.doc.now c.args.place c.loop-last.found c.before-found.result c.loop-last.last c.loop-last.invariant.0 c.loop-last.invariant.1 more c.before-found.ensures in
    (step.0, c.last_of-last-in-loop-last.ensures)

pub loop-last-smaller : goal.loop-last-smaller
loop-last-smaller c =
    let more : c.args.place < c.loop-last.last = omega (arith, c.loop-last-test.true) in
    let step = next_found c.args.self.now c.args.doc.now c.args.place c.loop-last.found c.before-found.result c.loop-last.last c.loop-last.invariant.0 c.loop-last.invariant.1 more c.before-found.ensures in
    omega (arith, step.1, c.last_of-last-in-loop-last.ensures)

pub returns : goal.returns
returns c =
    let low : c.loop-last.last ≤ c.args.place = omega (arith, c.loop-last-test.false) in
    is_found c.args.self.now c.args.doc.now c.args.place c.loop-last.found c.loop-last.invariant.0 (omega (arith, low, c.loop-last.invariant.1))
