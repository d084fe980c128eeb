use Rattle.std.proofs.Common.{◌∙◌, ap, List, ℕ, Bor}
use Rattle.sg_history.specs.History.{among}
use Rattle.grant_tracks.specs.declared.held.Held.{Held}
use Rattle.grant_history.specs.Periods.{may_have, names_of}
use Rattle.grant_history.proofs.periods.periods_with.Goals as goal

pub periods_among-requires-clause-among : goal.periods_among-requires-clause-among
periods_among-requires-clause-among c = λ x.
    ap (λ (l : List (Bor (List ℕ))). among (names_of l) x) c.as_slice.ensures.value
    ∙ c.in_ok-channels.ensures.among x
    ∙ ap (λ (l : List Held). may_have c.args.roles.now l x) c.all.ensures
