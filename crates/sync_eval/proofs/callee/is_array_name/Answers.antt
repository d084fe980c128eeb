use Rattle.std.proofs.Common.{◌≡◌, ◌∙◌, ap, sym, codes, rules}
use Rattle.std.specs.Str.{bytes_eq}
use Rattle.sync_meaning.specs.Expressions as spec
use Rattle.sync_meaning.specs.Expressions.{is_array_name_at}
use Rattle.sync_code.specs.Code.{source}
use Rattle.sync_eval.proofs.Layers.{name_layer}
use Rattle.sync_eval.proofs.callee.is_array_name.Goals as goal

pub returns-in-Name : goal.returns-in-Name
returns-in-Name c =
    let b : c.eq.result ≡ bytes_eq c.in-Name.slot.name (codes "Array") = search rules in
    b ∙ sym (ap (λ x. spec.is_array_name (source x)) c.in-Name.is ∙ ap is_array_name_at (name_layer c.in-Name.field-0 c.in-Name.slot))
