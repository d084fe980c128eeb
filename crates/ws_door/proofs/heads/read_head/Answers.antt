use Rattle.std.proofs.Common.{ℕ, List, Ok, sym, subst, arith}
use Rattle.std.proofs.lemmas.Result.{err_from_is_err_and}
use Rattle.ws_door.specs.Heads.{ReadsHeadIfRecorded}
use Rattle.ws_door.proofs.Readings.{follows_on, room_left, ends_refused, ends_whole}
use Rattle.ws_door.proofs.heads.read_head.Goals as goal

pub returns-in_err-whole-clause-recorded : goal.returns-in_err-whole-clause-recorded
returns-in_err-whole-clause-recorded g c =
    let p = err_from_is_err_and c.from_residual-in_err-whole.result c.from_residual-in_err-whole.ensures.1 in
    rw (p.1, p.2)
    (ends_refused (g.L.Link.recorded c.args.link.now) (g.L.Link.recorded c.reads.link) (g.L.Link.recorded c.read_on.new.link)
    c.reads.head c.read_on.new.self c.in_err-whole.field-0.0 c.reads.invariant.recorded c.in_err-whole.ensures.read)

pub returns-then-whole-clause-recorded : goal.returns-then-whole-clause-recorded
returns-then-whole-clause-recorded g c =
    let P : List ℕ → Type 0 = λ head. ReadsHeadIfRecorded (g.L.Link.recorded c.args.link.now) (Ok head) (g.L.Link.recorded c.read_on.new.link) in
    subst P (sym c.into_bytes.ensures)
    (ends_whole (g.L.Link.recorded c.args.link.now) (g.L.Link.recorded c.reads.link) (g.L.Link.recorded c.read_on.new.link)
    c.reads.head c.read_on.new.self c.in_ok-whole.whole c.if-whole.true c.reads.invariant.recorded c.in_ok-whole.ensures.read)

pub reads-preserved : goal.reads-preserved
reads-preserved g c = record {
  room = room_left c.reads.head c.read_on.new.self c.in_ok-whole.whole c.if-whole.false c.in_ok-whole.ensures.read.2.continues;
  counted = omega (arith, c.in_ok-whole.ensures.counted);
  recorded =
      follows_on (g.L.Link.recorded c.args.link.now) (g.L.Link.recorded c.reads.link) (g.L.Link.recorded c.read_on.new.link)
      c.reads.head c.read_on.new.self c.in_ok-whole.whole c.if-whole.false c.reads.invariant.recorded c.in_ok-whole.ensures.read;
}
