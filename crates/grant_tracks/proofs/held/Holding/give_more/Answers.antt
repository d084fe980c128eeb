use Rattle.std.proofs.Common.{◌≡◌, ◌<◌, ◌∙◌, sym, ap, subst, arith, Some}
use Rattle.std.specs.Prelude.{slice_set}
use Rattle.grant_tracks.specs.declared.held.Held.{Held}
use Rattle.grant_tracks.specs.Dated.{Dated}
use Rattle.grant_tracks.specs.Near.{MissNothing}
use Rattle.grant_tracks.specs.Things.{Things}
use Rattle.grant_tracks.specs.HeldLists.{place_of, count_in, held_in, AreUpTo}
use Rattle.grant_tracks.specs.Holdings.{one_more}
use Rattle.grant_tracks.proofs.Once.{length_set, once_set, place_within, places_set, what_here}
use Rattle.grant_tracks.proofs.Tracked.{gave, gave_none, got_old, count_here, up_here, moved_up, on_ok, on_err, either}
use Rattle.grant_tracks.proofs.Picking.{moved_given}
use Rattle.grant_tracks.proofs.held.Holding.give_more.Goals as goal

pub invariant_of-self : goal.invariant_of-self
invariant_of-self c =
    let list = c.self.inside.list.items in
    let old = c.index_mut.result.now in
    let new : Held = record { what = old.what; track = c.give.new.self } in
    let place : place_of list c.args.what.now ≡ Some c.args.i = ap (λ (t : Things). place_of t.items c.args.what.now) c.self.view_is ∙ c.requires.place in
    let is = what_here list c.args.what.now c.args.i old place c.index_mut.ensures.value in
    let got = got_old list c.args.what.now c.args.i old place c.index_mut.ensures.value in
    let same : c.self.inside.changed ≡ c.args.at = ap (λ (t : Things). t.changed) c.self.view_is ∙ c.requires.changed in
    let up = subst (λ (t : Things). AreUpTo t.items c.args.at) (sym c.self.view_is) c.requires.up_to in
    let pos : 0 < old.track.count = omega (arith, c.requires.given, ap (λ (t : Things). count_in t.items c.args.what.now) c.self.view_is, count_here list c.args.what.now c.args.i old place c.index_mut.ensures.value) in (
      places_set c.self.inside.places list c.args.what.now c.args.i new place is c.self.invariant.0,
      once_set list c.args.what.now c.args.i new place is c.self.invariant.1,
      c.self.invariant.2 ∙ sym (length_set list c.args.i new),
      either c.give.result (MissNothing (slice_set list c.args.i new) c.self.inside.blocks)
          (on_ok c.give.result _ _ (λ moves. moved_given list c.self.inside.blocks c.self.inside.blocks c.args.i c.args.at _ old c.give.new.self got up c.self.invariant.3 (λ k y h. h) moves pos) c.give.ensures.ok)
          (on_err c.give.result _ _ (λ moves. moved_given list c.self.inside.blocks c.self.inside.blocks c.args.i c.args.at _ old c.give.new.self got up c.self.invariant.3 (λ k y h. h) moves pos) c.give.ensures.err),
      either c.give.result (AreUpTo (slice_set list c.args.i new) c.self.inside.changed)
          (on_ok c.give.result _ _ (λ moves. moved_up list (slice_set list c.args.i new) c.args.at c.self.inside.changed _ same c.self.invariant.4 (gave list c.args.what.now c.args.i old place c.index_mut.ensures.value c.give.new.self c.args.at moves)) c.give.ensures.ok)
          (on_err c.give.result _ _ (λ moves. moved_up list (slice_set list c.args.i new) c.args.at c.self.inside.changed _ same c.self.invariant.4 (gave_none list c.args.what.now c.args.i old place c.index_mut.ensures.value c.give.new.self c.args.at moves)) c.give.ensures.err),
    )

pub index_mut-requires : goal.index_mut-requires
index_mut-requires c =
    let list = c.self.inside.list.items in
    let place : place_of list c.args.what.now ≡ Some c.args.i = ap (λ (t : Things). place_of t.items c.args.what.now) c.self.view_is ∙ c.requires.place in
    let within = place_within list c.args.what.now c.args.i place in
    omega (arith, within, c.self.invariant.2)

pub give-requires : goal.give-requires
give-requires c =
    let list = c.self.inside.list.items in
    let place : place_of list c.args.what.now ≡ Some c.args.i = ap (λ (t : Things). place_of t.items c.args.what.now) c.self.view_is ∙ c.requires.place in
    up_here list c.args.what.now c.args.i c.index_mut.result.now place c.index_mut.ensures.value c.args.at (subst (λ (t : Things). AreUpTo t.items c.args.at) (sym c.self.view_is) c.requires.up_to)

pub returns-clause-ok : goal.returns-clause-ok
returns-clause-ok c =
    let list = c.self.inside.list.items in
    let place : place_of list c.args.what.now ≡ Some c.args.i = ap (λ (t : Things). place_of t.items c.args.what.now) c.self.view_is ∙ c.requires.place in
    on_ok c.give.result _ _ (λ moves.
    subst (λ (t : Things). Dated count_in held_in AreUpTo t.items (slice_set list c.args.i (record { what = c.index_mut.result.now.what; track = c.give.new.self })) c.args.at (one_more (count_in t.items) c.args.what.now)) c.self.view_is
    (gave list c.args.what.now c.args.i c.index_mut.result.now place c.index_mut.ensures.value c.give.new.self c.args.at moves)) c.give.ensures.ok

pub returns-clause-err : goal.returns-clause-err
returns-clause-err c =
    let list = c.self.inside.list.items in
    let place : place_of list c.args.what.now ≡ Some c.args.i = ap (λ (t : Things). place_of t.items c.args.what.now) c.self.view_is ∙ c.requires.place in
    on_err c.give.result _ _ (λ moves.
    subst (λ (t : Things). Dated count_in held_in AreUpTo t.items (slice_set list c.args.i (record { what = c.index_mut.result.now.what; track = c.give.new.self })) c.args.at (count_in t.items)) c.self.view_is
    (gave_none list c.args.what.now c.args.i c.index_mut.result.now place c.index_mut.ensures.value c.give.new.self c.args.at moves)) c.give.ensures.err
