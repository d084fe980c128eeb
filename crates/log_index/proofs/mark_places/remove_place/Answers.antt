use Rattle.std.proofs.Common.{◌∙◌, sym, ap, ℕ, ◌&&◌, Option, None, if◌then◌else◌, nat_eq}
use Rattle.log_index.specs.Representation.{is_seq, place_at}
use Rattle.log_index.proofs.PlaceKeys.{place_updated}
use Rattle.log_index.proofs.mark_places.remove_place.Goals as goal

pub returns-in-Some : goal.returns-in-Some
returns-in-Some c = λ f s.
    place_updated c.args.places.now c.remove.new.self c.in-Some.first c.args.sync None c.remove.ensures.updates f s
    ∙ ap (λ (o : Option ℕ). if nat_eq c.args.sync s && is_seq o f then None else place_at c.args.places.now f s) (sym c.in-Some.is)
