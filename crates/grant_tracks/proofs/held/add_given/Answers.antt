use Rattle.std.proofs.Common.{◌∙◌, sym}
use Rattle.std.specs.Prelude.{nat_eq}
use Rattle.grant_tracks.specs.Listed.{is_in}
use Rattle.grant_tracks.specs.inner.Passing.{is_given_at}
use Rattle.grant_tracks.proofs.Gathered.{one_put, none_put}
use Rattle.grant_tracks.proofs.held.add_given.Goals as goal

pub returns-then-not-is_given : goal.returns-then-not-is_given
returns-then-not-is_given c = λ x.
    none_put (is_in c.args.given.now.items x) (nat_eq x c.args.i) (is_given_at c.args.all.now c.args.i) (sym c.is_given.ensures ∙ c.if-not-is_given.true)

pub returns : goal.returns
returns c = λ x.
    one_put (nat_eq x) c.args.given.now.items c.push.new.self.items c.args.i (is_given_at c.args.all.now c.args.i) c.in_ok-push.ensures.items (sym c.is_given.ensures ∙ c.if-not-is_given.false)
