use Rattle.std.proofs.Common.{◌≡◌, ◌+◌, ap, refl, arith, List}
use Rattle.grant_history.specs.declared.facts.Fact.{Fact}
use Rattle.grant_history.specs.Facts.{times}
use Rattle.grant_history.specs.Store.{count_at}
use Rattle.grant_history.proofs.Changing.{left_split}
use Rattle.grant_history.proofs.Storing.{chained}
use Rattle.grant_history.proofs.changes.take_back.Goals as goal

pub take_all-requires : goal.take_all-requires
take_all-requires c =
    let xs = c.args.changes.now in
    let i = c.loop-change.change-index in
    let x = c.change-item.result in
    record {
      given = λ f.
          let same : times c.as_slice.result.now f ≡ times x.list.facts.items f = ap (λ (l : List Fact). times l f) c.as_slice.ensures.value in
          omega (arith, same, left_split xs i x f (omega arith) c.change-item.is, c.loop-change.invariant.counts f, c.requires.given f);
      up_to = c.loop-change.invariant.dated.up_to c.args.at (omega arith) c.requires.up_to;
    }

pub loop-change-preserved : goal.loop-change-preserved
loop-change-preserved c =
    let xs = c.args.changes.now in
    let i = c.loop-change.change-index in
    let x = c.change-item.result in
    let d = chained c.args.store.now c.loop-change.store c.take_all.new.self c.args.at _ _ c.loop-change.invariant.dated c.take_all.ensures in
    record {
      counts = λ f.
          let same : times c.as_slice.result.now f ≡ times x.list.facts.items f = ap (λ (l : List Fact). times l f) c.as_slice.ensures.value in
          let after : count_at c.take_all.new.self f + times x.list.facts.items f ≡ count_at c.loop-change.store f =
          omega (arith, same, c.take_all.ensures.counts f, left_split xs i x f (omega arith) c.change-item.is, c.loop-change.invariant.counts f, c.requires.given f) in
          omega (arith, after, left_split xs i x f (omega arith) c.change-item.is, c.loop-change.invariant.counts f);
      dated = record { counts = λ f. refl; before = d.before; up_to = d.up_to };
    }
