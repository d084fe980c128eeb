use Rattle.std.proofs.Common.{◌∙◌, ap, refl, sym}
use Rattle.std.specs.Option.{option_copied_mut}
use Rattle.channel_cache.proofs.Changing.{left_none, left_one, on_ok}
use Rattle.channel_cache.proofs.kept.leave.Goals as goal

pub returns-in-None-clause-ok : goal.returns-in-None-clause-ok
returns-in-None-clause-ok c = left_none c.args.lists.now.entries c.args.channel.now c.args.seq (sym c.peek_mut.ensures.value ∙ ap option_copied_mut c.in-None.is)

pub returns-in-Some-clause-ok : goal.returns-in-Some-clause-ok
returns-in-Some-clause-ok c =
    on_ok c.leave.result _ _ (λ made. left_one c.args.lists.now.entries _ c.args.channel.now c.args.seq c.in-Some.list.now c.leave.new.self (sym c.peek_mut.ensures.value ∙ ap option_copied_mut c.in-Some.is) refl made) c.leave.ensures
