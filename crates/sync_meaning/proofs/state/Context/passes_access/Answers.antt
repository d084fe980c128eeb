use Rattle.std.proofs.Common.{◌∙◌, codes, sym, ap}
use Rattle.sync_meaning.specs.inner.Arguments.{texts}
use Rattle.sync_meaning.specs.Builtins.{is_one_of, share_one}
use Rattle.sync_meaning.proofs.Calls.{access_passes}
use Rattle.sync_meaning.proofs.state.Context.passes_access.Goals as goal

pub returns-else-has_every : goal.returns-else-has_every
returns-else-has_every c =
    access_passes c.args.self.now c.in-Some.field-0 (texts c.args.channels.now) c.shares_channel.result c.in-Some.is
    (sym (ap (λ l. is_one_of l (codes "*")) c.as_slice.ensures) ∙ sym c.has_every.ensures ∙ c.if-has_every.false)
    (c.shares_channel.ensures ∙ ap (λ l. share_one l (texts c.args.channels.now)) c.as_slice-else-has_every.ensures)
