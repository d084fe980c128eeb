use Rattle.std.proofs.Common.{◌∙◌, ◌+◌, ◌-◌, ◌++◌, sym, ap, refl, subst, arith, drop, map, List, append_assoc}
use Rattle.std.proofs.lemmas.List.{append-nil, drop_all}
use Rattle.sg_history.specs.declared.entries.Entry.{Entry}
use Rattle.sg_history.specs.declared.entries.Mark.{Mark}
use Rattle.sg_history.specs.History.{past}
use Rattle.channel_cache.specs.inner.Moves.{Move, move_in, move_of, moves_of}
use Rattle.channel_cache.specs.Stands.{IndexesTo}
use Rattle.channel_cache.specs.declared.moved.Moved.{Moved}
use Rattle.channel_cache.proofs.Changing.{split}
use Rattle.channel_cache.proofs.moved.moved_by_all.Goals as goal

pub loop-i-init : goal.loop-i-init
loop-i-init c = record {
  moved = ap (λ (l : List Moved). map move_in l ++ moves_of (past c.args.log.now.entries (c.args.at - 1)) (past c.args.log.now.entries c.args.at) c.args.marks.now 0) c.new-moved.ensures.items;
  log = refl;
  reads = omega arith;
}

pub add_moved-requires-clause-index : goal.add_moved-requires-clause-index
add_moved-requires-clause-index c = subst (λ (l : List Entry). IndexesTo c.args.index.now l c.args.at) (sym c.loop-i.invariant.log) c.requires.index

pub loop-i-preserved : goal.loop-i-preserved
loop-i-preserved c =
    let older = past c.args.log.now.entries (c.args.at - 1) in
    let es = past c.args.log.now.entries c.args.at in
    let marks = c.args.marks.now in
    let i = c.loop-i.i in
    let m = c.index-marks-i.result in
    let before = map move_in c.loop-i.moved.items in
    record {
      moved =
          ap (λ (l : List Move). l ++ moves_of older es (drop (i + 1) marks) (i + 1))
          (c.in_ok-add_moved.ensures.moved ∙ ap (λ (l : List Entry). before ++ move_of (past l (c.args.at - 1)) (past l c.args.at) m i) c.loop-i.invariant.log)
          ∙ append_assoc before (move_of older es m i) (moves_of older es (drop (i + 1) marks) (i + 1))
          ∙ ap (λ (l : List Mark). before ++ moves_of older es l i) (split marks i m (omega arith) c.index-marks-i.is)
          ∙ c.loop-i.invariant.moved;
      log = c.add_moved.ensures.log ∙ c.loop-i.invariant.log;
      reads = omega (arith, c.add_moved.ensures.reads, c.loop-i.invariant.reads);
    }

pub returns-clause-moved : goal.returns-clause-moved
returns-clause-moved c =
    let older = past c.args.log.now.entries (c.args.at - 1) in
    let es = past c.args.log.now.entries c.args.at in
    let i = c.loop-i.i in
    let built = map move_in c.loop-i.moved.items in
    sym (ap (λ (l : List Mark). built ++ moves_of older es l i) (drop_all i c.args.marks.now (omega (arith, c.loop-i-test.false))) ∙ append-nil built)
    ∙ c.loop-i.invariant.moved
