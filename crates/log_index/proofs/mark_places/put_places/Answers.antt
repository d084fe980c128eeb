use Rattle.log_index.specs.Representation.{place_at}
use Rattle.log_index.proofs.SomePut.{taken_back}
use Rattle.log_index.proofs.mark_places.put_places.Goals as goal

pub returns-in-Err-clause-err : goal.returns-in-Err-clause-err
returns-in-Err-clause-err c =
    taken_back (place_at c.args.places.now) (place_at c.put_some.new.places) (place_at c.remove_places.new.places) c.args.firsts.now c.args.sync c.in-Err.ensures.err c.remove_places.ensures
