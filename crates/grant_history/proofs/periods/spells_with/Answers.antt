use Rattle.std.proofs.Common.{◌∙◌, ap, Bool}
use Rattle.std.proofs.lemmas.Result.{IfOk-weaker}
use Rattle.grant_tracks.specs.Reads.{has_by}
use Rattle.grant_history.proofs.periods.spells_with.Goals as goal

pub returns-clause-says : goal.returns-clause-says
returns-clause-says c = IfOk-weaker c.spells_of.result _ _ (λ list is k.
    is k ∙ c.ways_of-ways.ensures k ∙ ap (λ (b : Bool). has_by c.args.all.now.items c.args.channel.now k b) (c.in_ok-events.ensures k)) c.spells_of.ensures.says
