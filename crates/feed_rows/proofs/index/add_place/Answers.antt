use Rattle.std.proofs.Common.{◌∙◌, ap, ℕ, List, Some, if◌then◌else◌}
use Rattle.std.specs.Str.{bytes_eq}
use Rattle.feed_rows.specs.inner.Index.{place_in}
use Rattle.feed_rows.proofs.Indexes.{place_added}
use Rattle.feed_rows.proofs.index.add_place.Goals as goal

pub returns : goal.returns
returns c = λ other.
    place_added c.args.places.now c.insert.new.self c.as_str.result.now c.args.place c.in_ok-insert.ensures.updates other
    ∙ ap (λ (name : List ℕ). if bytes_eq name other then Some c.args.place else place_in c.args.places.now other) c.as_str.ensures.value
