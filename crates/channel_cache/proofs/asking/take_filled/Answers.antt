use Rattle.std.proofs.Common.{◌∙◌, ap, Bool, if◌then◌else◌}
use Rattle.std.specs.Str.{bytes_eq}
use Rattle.channel_cache.specs.Sequences.{holds_of}
use Rattle.channel_cache.proofs.asking.take_filled.Goals as goal

pub returns-clause-lists : goal.returns-clause-lists
returns-clause-lists c = λ x s kept.
    c.put_filled.ensures.lists x s kept
    ∙ ap (λ (b : Bool). if bytes_eq c.args.channel.now x then b else holds_of c.args.lists.now.entries x s) (c.in_ok-add_to.ensures.same s)
