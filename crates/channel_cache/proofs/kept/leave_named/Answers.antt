use Rattle.std.proofs.Common.{◌∙◌, sym, subst, ℕ, List}
use Rattle.std.specs.Str.{bytes_eq}
use Rattle.channel_cache.specs.Sequences.{Changed, left}
use Rattle.channel_cache.proofs.Changing.{leaves_other, on_ok, stays}
use Rattle.channel_cache.proofs.kept.leave_named.Goals as goal

pub returns-then-is_every-clause-ok : goal.returns-then-is_every-clause-ok
returns-then-is_every-clause-ok c = stays c.args.lists.now.entries c.args.channel.now c.args.seq (sym c.is_every.ensures ∙ c.if-is_every.true)

pub returns-clause-ok : goal.returns-clause-ok
returns-clause-ok c =
    let old = c.args.lists.now.entries in
    let new = c.leave.new.lists.entries in
    on_ok c.leave.result _ _ (λ changed. leaves_other old new c.args.channel.now c.args.seq (sym c.is_every.ensures ∙ c.if-is_every.false)
    (subst (λ (n : List ℕ). Changed old new (left (bytes_eq n) c.args.seq)) c.as_str.ensures.value changed)) c.leave.ensures.ok
