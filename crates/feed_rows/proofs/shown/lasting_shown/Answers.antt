use Rattle.std.proofs.Common.{◌≡◌, ◌∷◌, ◌∙◌, true, ℕ, List, ap, sym, subst, arith}
use Rattle.std.specs.List.{list_any}
use Rattle.sg_history.specs.View.{every, passes}
use Rattle.grant_history.specs.Periods.{periods_have}
use Rattle.feed_rows.specs.Lasting.{Lasts}
use Rattle.feed_rows.proofs.Lastings.{shown_through}
use Rattle.feed_rows.proofs.shown.lasting_shown.Goals as goal

pub returns : goal.returns
returns c =
    let periods = c.args.viewer.now.periods.now in
    let filter = c.args.viewer.now.filter.now in
    let had = subst (λ (l : List (List ℕ)). Lasts (λ j. list_any (λ x. periods_have periods x j) (every ∷ l)) c.args.k c.lasting_of_every.result) c.as_slice-channels.ensures c.lasting_of_every.ensures in
    let passed : c.passes.result ≡ true = grind arith in
    let lets = sym (ap (λ (l : List (List ℕ)). passes filter (every ∷ l)) c.as_slice-channels.ensures) ∙ sym c.passes.ensures ∙ passed in
    shown_through periods filter c.args.channels.now c.args.k c.lasting_of_every.result lets had
