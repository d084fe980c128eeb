use Rattle.std.proofs.Common.{◌≡◌, ◌∙◌, ap, sym, codes, rules}
use Rattle.std.specs.Str.{bytes_eq}
use Rattle.sync_meaning.specs.Expressions as spec
use Rattle.sync_meaning.specs.Expressions.{is_array_member_at}
use Rattle.sync_code.specs.Code.{tail_source}
use Rattle.sync_eval.proofs.Layers.{member_layer}
use Rattle.sync_eval.proofs.callee.is_array_member.Goals as goal

pub returns-in-Member : goal.returns-in-Member
returns-in-Member c =
    let b : c.eq.result ≡ bytes_eq c.in-Member.name (codes "isArray") = search rules in
    b ∙ sym (ap (λ t. spec.is_array_member (tail_source t)) c.in-Member.is ∙ ap is_array_member_at (member_layer c.in-Member.name))
