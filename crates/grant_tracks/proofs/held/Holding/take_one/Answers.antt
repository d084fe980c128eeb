use Rattle.std.proofs.Common.{◌≡◌, ◌<◌, ◌∙◌, sym, ap, subst, arith, List, ℕ}
use Rattle.std.specs.Prelude.{slice_set}
use Rattle.grant_tracks.specs.declared.held.Held.{Held}
use Rattle.grant_tracks.specs.Dated.{Dated}
use Rattle.grant_tracks.specs.Things.{Things}
use Rattle.grant_tracks.specs.HeldLists.{place_of, count_in, held_in, AreUpTo}
use Rattle.grant_tracks.specs.Holdings.{one_less}
use Rattle.grant_tracks.proofs.Once.{length_set, once_set, place_within, places_set, what_here}
use Rattle.grant_tracks.proofs.Tracked.{took, count_here, up_here, moved_up, nowhere_count, got_old}
use Rattle.grant_tracks.specs.Listed.{is_in}
use Rattle.grant_tracks.proofs.Picking.{moved_given}
use Rattle.grant_tracks.proofs.held.Holding.take_one.Goals as goal

pub invariant_of-self : goal.invariant_of-self
invariant_of-self c =
    let list = c.self.inside.list.items in
    let new : Held = record { what = c.index_mut.result.now.what; track = c.take.new.self } in
    let place = ap (λ (t : Things). place_of t.items c.args.what.now) c.self.view_is ∙ sym c.place_near.ensures ∙ c.in-Some.is in
    let is = what_here list c.args.what.now c.in-Some.i c.index_mut.result.now place c.index_mut.ensures.value in
    let same : c.self.inside.changed ≡ c.args.at = ap (λ (t : Things). t.changed) c.self.view_is ∙ c.requires.changed in
    let pos : 0 < c.index_mut.result.now.track.count = omega (arith, c.requires.given, ap (λ (t : Things). count_in t.items c.args.what.now) c.self.view_is, count_here list c.args.what.now c.in-Some.i c.index_mut.result.now place c.index_mut.ensures.value) in (
      places_set c.self.inside.places list c.args.what.now c.in-Some.i new place is c.self.invariant.0,
      once_set list c.args.what.now c.in-Some.i new place is c.self.invariant.1,
      c.self.invariant.2 ∙ sym (length_set list c.in-Some.i new),
      moved_given list c.self.inside.blocks c.count.new.self c.in-Some.i c.args.at _ c.index_mut.result.now c.take.new.self
          (got_old list c.args.what.now c.in-Some.i c.index_mut.result.now place c.index_mut.ensures.value)
          (subst (λ (t : Things). AreUpTo t.items c.args.at) (sym c.self.view_is) c.requires.up_to) c.self.invariant.3
          (λ k y h. ap (λ (l : List ℕ). is_in l y) (c.count.ensures.near k) ∙ h) c.take.ensures pos,
      moved_up list (slice_set list c.in-Some.i new) c.args.at c.self.inside.changed _ same c.self.invariant.4
          (took list c.args.what.now c.in-Some.i c.index_mut.result.now place c.index_mut.ensures.value c.take.new.self c.args.at c.take.ensures),
    )

pub index_mut-requires : goal.index_mut-requires
index_mut-requires c =
    let place = ap (λ (t : Things). place_of t.items c.args.what.now) c.self.view_is ∙ sym c.place_near.ensures ∙ c.in-Some.is in
    let within = place_within c.self.inside.list.items c.args.what.now c.in-Some.i place in
    omega (arith, within, c.self.invariant.2)

pub take-requires-clause-given : goal.take-requires-clause-given
take-requires-clause-given c =
    let place = ap (λ (t : Things). place_of t.items c.args.what.now) c.self.view_is ∙ sym c.place_near.ensures ∙ c.in-Some.is in
    omega (arith, c.requires.given, ap (λ (t : Things). count_in t.items c.args.what.now) c.self.view_is, count_here c.self.inside.list.items c.args.what.now c.in-Some.i c.index_mut.result.now place c.index_mut.ensures.value)

pub take-requires-clause-room : goal.take-requires-clause-room
take-requires-clause-room c =
    let place = ap (λ (t : Things). place_of t.items c.args.what.now) c.self.view_is ∙ sym c.place_near.ensures ∙ c.in-Some.is in
    up_here c.self.inside.list.items c.args.what.now c.in-Some.i c.index_mut.result.now place c.index_mut.ensures.value c.args.at (subst (λ (t : Things). AreUpTo t.items c.args.at) (sym c.self.view_is) c.requires.up_to)

pub returns-in-Some-clause-dated : goal.returns-in-Some-clause-dated
returns-in-Some-clause-dated c =
    let list = c.self.inside.list.items in
    let place = ap (λ (t : Things). place_of t.items c.args.what.now) c.self.view_is ∙ sym c.place_near.ensures ∙ c.in-Some.is in
    subst (λ (t : Things). Dated count_in held_in AreUpTo t.items (slice_set list c.in-Some.i (record { what = c.index_mut.result.now.what; track = c.take.new.self })) c.args.at (one_less (count_in t.items) c.args.what.now)) c.self.view_is
    (took list c.args.what.now c.in-Some.i c.index_mut.result.now place c.index_mut.ensures.value c.take.new.self c.args.at c.take.ensures)

pub returns-in_default-clause-dated : goal.returns-in_default-clause-dated
returns-in_default-clause-dated c =
    let place = ap (λ (t : Things). place_of t.items c.args.what.now) c.self.view_is ∙ sym c.place_near.ensures ∙ c.in_default.is in
    absurd (omega (arith, c.requires.given, ap (λ (t : Things). count_in t.items c.args.what.now) c.self.view_is, nowhere_count c.self.inside.list.items c.args.what.now place))
