use Rattle.std.proofs.Common.{ℕ, ◌+◌, ◌≡◌, ◌∙◌, sym, ap, refl, arith, List, drop, if◌then◌else◌, Bool}
use Rattle.std.proofs.lemmas.List.{drop_more}
use Rattle.grant_history.specs.declared.facts.Fact.{Fact}
use Rattle.grant_history.specs.Facts.{times, same_fact}
use Rattle.grant_history.specs.Store.{count_at}
use Rattle.grant_history.proofs.Storing.{chained, less_step}
use Rattle.grant_history.proofs.Same.{fact_itself}
use Rattle.grant_history.proofs.store.Store.take_all.Goals as goal

pub take-requires : goal.take-requires
take-requires c =
    let i = c.loop-i.i in
    let x = c.index-facts-i.result in
    let split : times (drop i c.args.facts.now) x ≡ (if same_fact x x then 1 else 0) + times (drop (i + 1) c.args.facts.now) x =
    ap (λ (l : List Fact). times l x) (drop_more c.args.facts.now i x (omega arith))
    ∙ ap (λ (y : Fact). (if same_fact y x then 1 else 0) + times (drop (i + 1) c.args.facts.now) x) (sym c.index-facts-i.is) in
    let one : ◌≡◌ {A = ℕ} (if same_fact x x then 1 else 0) 1 = ap (λ (b : Bool). if b then 1 else 0) (fact_itself x) in
    record {
      given = omega (arith, split, one, c.loop-i.invariant.counts x, c.requires.given x);
      up_to = c.loop-i.invariant.dated.up_to c.args.at (omega arith) c.requires.up_to;
    }

pub loop-i-preserved : goal.loop-i-preserved
loop-i-preserved c =
    let i = c.loop-i.i in
    let x = c.index-facts-i.result in
    let split : (f : Fact) → times (drop i c.args.facts.now) f ≡ (if same_fact x f then 1 else 0) + times (drop (i + 1) c.args.facts.now) f = λ f.
    ap (λ (l : List Fact). times l f) (drop_more c.args.facts.now i x (omega arith))
    ∙ ap (λ (y : Fact). (if same_fact y f then 1 else 0) + times (drop (i + 1) c.args.facts.now) f) (sym c.index-facts-i.is) in
    let d = chained c.args.self.now c.loop-i.self c.take.new.self c.args.at _ _ c.loop-i.invariant.dated c.take.ensures in
    record {
      counts = λ f. ap (λ (n : ℕ). n + times c.args.facts.now f) (c.take.ensures.counts f)
          ∙ less_step (same_fact x f) (count_at c.loop-i.self f) (times c.args.facts.now f) (count_at c.args.self.now f) (times (drop (i + 1) c.args.facts.now) f) (times (drop i c.args.facts.now) f) (c.loop-i.invariant.counts f) (split f) (c.requires.given f);
      dated = record { counts = λ f. refl; before = d.before; up_to = d.up_to };
    }
