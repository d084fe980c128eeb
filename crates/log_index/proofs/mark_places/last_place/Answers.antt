use Rattle.log_index.proofs.LastPlace.{no_place, last_is}
use Rattle.log_index.proofs.mark_places.last_place.Goals as goal

pub returns-in-None : goal.returns-in-None
returns-in-None c =
    no_place c.args.places.now c.args.first c.args.after c.args.up_to c.range-found.result (c.range-found.ensures.in_range tt) c.in-None.ensures.steps.0

pub returns-in-Some : goal.returns-in-Some
returns-in-Some c =
    last_is c.args.places.now c.args.first c.args.after c.args.up_to c.range-found.result (c.range-found.ensures.in_range tt) c.in-Some.key.now c.in-Some.mark.now c.next_back.new.self c.in-Some.ensures.steps
