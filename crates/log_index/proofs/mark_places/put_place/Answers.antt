use Rattle.std.proofs.Common.{◌∙◌, sym, ap, ℕ, ◌&&◌, Option, Some, if◌then◌else◌, nat_eq}
use Rattle.log_index.specs.Representation.{is_seq, place_at}
use Rattle.log_index.proofs.PlaceKeys.{place_updated}
use Rattle.log_index.proofs.mark_places.put_place.Goals as goal

pub returns-in_ok-insert-clause-ok : goal.returns-in_ok-insert-clause-ok
returns-in_ok-insert-clause-ok c = λ f s.
    place_updated c.args.places.now c.insert.new.self c.in-Some.first c.args.sync (Some c.args.place) c.in_ok-insert.ensures.updates f s
    ∙ ap (λ (o : Option ℕ). if nat_eq c.args.sync s && is_seq o f then Some c.args.place else place_at c.args.places.now f s) (sym c.in-Some.is)
