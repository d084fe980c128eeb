use Rattle.std.proofs.Common.{◌≡◌, ◌∙◌, inl, List, [], ◌∷◌, ℕ, ap, sym, subst, map, refl, arith}
use Rattle.sg_history.specs.History.{among}
use Rattle.log_views.specs.Sorted.{AreSorted}
use Rattle.changes_feed.specs.Switches.{AreSwitches}
use Rattle.changes_feed.proofs.Turning.{are_switches, no_switches}
use Rattle.changes_feed.proofs.switched.switched.Goals as goal

same_names : (xs : List (List ℕ)) → map (λ n. n) xs ≡ xs
same_names [] = refl
same_names (x ∷ xs) = ap (λ (l : List (List ℕ)). x ∷ l) (same_names xs)

pub returns : goal.returns
returns c =
    let found = c.in_ok-found.found.items in
    let channels = c.in_order.result.items in
    are_switches c.args.periods.now channels c.args.start c.args.front (omega (arith, c.if-start-le1.false))
    (subst AreSorted (same_names channels) c.in_order.ensures.sorted)
    (λ x. sym (ap (λ (l : List (List ℕ)). among l x) (same_names channels))
    ∙ c.in_order.ensures.among x
    ∙ ap (λ (l : List (List ℕ)). among l x) (same_names found)
    ∙ c.in_ok-found.ensures x)

pub returns-then-start-le1 : goal.returns-then-start-le1
returns-then-start-le1 c = λ entries user last behind is.
    subst (λ (l : List (List ℕ)). AreSwitches l entries user c.args.start c.args.front) (sym c.new.ensures.items)
    (no_switches entries user c.args.start c.args.front (inl (λ more. omega (arith, more, c.if-start-le1.true))))
