use Rattle.std.proofs.Common.{ap, ◌∙◌}
use Rattle.std.proofs.lemmas.List.{map-id}
use Rattle.sg_names.specs.ItemList.{list_text}
use Rattle.sg_names.proofs.ItemTexts.{channels_apart}
use Rattle.sg_names.proofs.channels.«List+ChannelName».parse.Goals as goal

pub read_rising-requires : goal.read_rising-requires
read_rising-requires c = channels_apart

pub returns-clause-ok : goal.returns-clause-ok
returns-clause-ok c =
    let read = c.in_ok-read_rising.ensures.ok in
    rw c.from_vec.ensures (read.0 ∙ ap list_text (map-id c.in_ok-read_rising.field-0.items), read.1)

pub returns-clause-outside : goal.returns-clause-outside
returns-clause-outside c =
    let read = c.in_ok-read_rising.ensures.ok in
    let items = c.in_ok-read_rising.field-0.items in
    λ none. absurd (none items read.1 (read.0 ∙ ap list_text (map-id items)))

pub returns-clause-bad : goal.returns-clause-bad
returns-clause-bad c = λ e. absurd (cc (e))
