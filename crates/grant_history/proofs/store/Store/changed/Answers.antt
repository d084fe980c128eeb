use Rattle.std.proofs.Common.{◌∙◌, sym, arith}
use Rattle.grant_tracks.proofs.Settling.{changed_within}
use Rattle.grant_history.proofs.Latest.{changed_user}
use Rattle.grant_history.proofs.store.Store.changed.Goals as goal

pub returns-clause-within : goal.returns-clause-within
returns-clause-within c = λ n up.
    omega (arith, c.changed_of.ensures.last, changed_within c.args.self.now.users c.args.self.now.roles n up.users up.roles c.args.user.now)

pub returns-clause-last : goal.returns-clause-last
returns-clause-last c = c.changed_of.ensures.last ∙ sym (changed_user c.args.self.now.roles c.args.user.now c.args.self.now.users.entries)
