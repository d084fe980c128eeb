use Rattle.std.proofs.Common.{◌≡◌, ◌++◌, drop}
use Rattle.std.specs.Prelude.{option_map}
use Rattle.serde_json.specs.View.{items_view}
use Rattle.sg_names.specs.Grammar.{is_channel_name}
use Rattle.gateway_config.specs.Members.{grammar_texts}
use Rattle.gateway_config.proofs.lists.channels.Given as goal

abbrev pub invariant-loop-item : goal.invariant-loop-item
invariant-loop-item l =
    option_map (λ more. l.list ++ more) (grammar_texts (λ t. is_channel_name t) (items_view (drop l.item-index l.items)))
    ≡ grammar_texts (λ t. is_channel_name t) (items_view l.items)
