use Rattle.std.proofs.Common.{◌∙◌, ◌<◌, ◌≤◌, ◌||◌, Bool, List, sym, ap, take, length, arith}
use Rattle.std.specs.List.{list_any}
use Rattle.grant_history.specs.declared.periods.Period.{Period}
use Rattle.changes_feed.specs.inner.Bounds.{is_bound_of}
use Rattle.changes_feed.proofs.Loops.{any_more, take_all}
use Rattle.changes_feed.proofs.switched.bounds.Goals as goal

pub loop-period-preserved : goal.loop-period-preserved
loop-period-preserved c = λ x.
    let periods = c.args.periods.now in
    let i = c.loop-period.period-index in
    let f = is_bound_of c.args.start c.args.front x in
    let within : i < length periods = omega arith in
    c.in_ok-add_bound.ensures x
    ∙ ap (λ (b : Bool). b || f c.period-item.result) (c.loop-period.invariant x)
    ∙ sym (any_more f periods i c.period-item.result within ∙ ap (λ (p : Period). list_any f (take i periods) || f p) (sym c.period-item.is))

pub returns : goal.returns
returns c = λ x.
    let periods = c.args.periods.now in
    let i = c.loop-period.period-index in
    let all : length periods ≤ i = omega arith in
    c.loop-period.invariant x ∙ ap (λ (l : List Period). list_any (is_bound_of c.args.start c.args.front x) l) (take_all periods i all)
