use Rattle.std.proofs.Common.{◌≡◌, ◌∙◌, ◌<◌, sym, ap, Some, arith, List, length, get_or}
use Rattle.std.specs.Prelude.{slice_get}
use Rattle.std.proofs.lemmas.Option.{slice_get-get_or}
use Rattle.grant_tracks.specs.declared.held.Held.{Held}
use Rattle.grant_tracks.specs.Things.{Things}
use Rattle.grant_tracks.specs.HeldLists.{place_of}
use Rattle.grant_tracks.proofs.Once.{place_here}
use Rattle.grant_tracks.proofs.held.Holding.stands_at.Goals as goal

pub returns-in-Some : goal.returns-in-Some
returns-in-Some c h =
    let list = c.self.inside.list.items in
    let low : c.args.near < length c.deref.result.now = grind (arith) in
    let at : c.in-Some.held.now ≡ get_or c.deref.result.now c.args.near c.in-Some.held.now = grind (arith) in
    let is : slice_get list c.args.near ≡ Some c.in-Some.held.now =
    ap (λ (l : List Held). slice_get l c.args.near) (sym c.deref.ensures.value)
    ∙ slice_get-get_or c.deref.result.now c.args.near c.in-Some.held.now low ∙ ap (λ (x : Held). Some x) (sym at) in
    ap (λ (t : Things). place_of t.items c.args.what.now) (sym c.self.view_is)
    ∙ place_here list c.args.what.now c.args.near c.in-Some.held.now c.self.invariant.1 is (sym c.equals.ensures ∙ h)
