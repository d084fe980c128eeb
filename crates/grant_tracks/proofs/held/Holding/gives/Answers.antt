use Rattle.std.proofs.Common.{◌≡◌, ◌∙◌, sym, ap, arith, nat_lt, true, Some}
use Rattle.std.proofs.lemmas.Bool.{leb-true}
use Rattle.grant_tracks.specs.Things.{Things}
use Rattle.grant_tracks.specs.HeldLists.{place_of, count_in}
use Rattle.grant_tracks.proofs.Once.{place_within}
use Rattle.grant_tracks.proofs.Tracked.{count_here}
use Rattle.grant_tracks.proofs.held.Holding.gives.Goals as goal

pub index-requires : goal.index-requires
index-requires c =
    let list = c.self.inside.list.items in
    let place : place_of list c.args.what.now ≡ Some c.args.i = ap (λ (t : Things). place_of t.items c.args.what.now) c.self.view_is ∙ c.requires in
    let within = place_within list c.args.what.now c.args.i place in
    omega (arith, within, c.self.invariant.2)

pub returns : goal.returns
returns c = λ is.
    let list = c.self.inside.list.items in
    let place : place_of list c.args.what.now ≡ Some c.args.i = ap (λ (t : Things). place_of t.items c.args.what.now) c.self.view_is ∙ c.requires in
    let given : nat_lt 0 c.index.result.now.track.count ≡ true = sym c.is_given.ensures ∙ is in
    omega (arith, leb-true 1 c.index.result.now.track.count given, ap (λ (t : Things). count_in t.items c.args.what.now) c.self.view_is, count_here list c.args.what.now c.args.i c.index.result.now place c.index.ensures)
