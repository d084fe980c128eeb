use Rattle.std.proofs.Common.{◌≡◌, ◌≤◌, ◌∙◌, refl, sym, ap, subst, arith, ℕ, List, [], ◌∷◌, ◌++◌, length, None, Some, if◌then◌else◌}
use Rattle.grant_tracks.specs.declared.held.Held.{Held}
use Rattle.grant_tracks.specs.What.{same_what}
use Rattle.grant_tracks.specs.Things.{Things}
use Rattle.grant_tracks.specs.HeldLists.{place_of}
use Rattle.grant_tracks.specs.Listed.{is_in}
use Rattle.grant_tracks.specs.Blocks.{near}
use Rattle.grant_tracks.specs.Near.{MissNothing}
use Rattle.grant_tracks.specs.Places.{ArePlaces, StandOnce, found}
use Rattle.grant_tracks.proofs.Once.{length_added, places_added, once_added}
use Rattle.grant_tracks.proofs.Picking.{added_miss}
use Rattle.grant_tracks.proofs.Tracked.{begun, moved_up}
use Rattle.grant_tracks.proofs.held.Holding.keep.Goals as goal

pub invariant_of-self-2 : goal.invariant_of-self-2
invariant_of-self-2 c =
    let list = c.self.inside.list.items in
    let x = c.args.held in
    let pushed : c.push_reserved.new.self.items ≡ list ++ x ∷ [] = c.push_reserved.ensures.items ∙ ap (λ (l : List Held). l ++ x ∷ []) c.reserve.ensures.items in
    let none : place_of list x.what ≡ None = ap (λ (t : Things). place_of t.items x.what) c.self.view_is ∙ c.requires.place in
    let same : c.self.inside.changed ≡ c.args.at = ap (λ (t : Things). t.changed) c.self.view_is ∙ c.requires.changed in
    let place : c.len-place.result ≡ length list = c.len-place.ensures ∙ c.self.invariant.2 in
    let low : c.self.inside.blocks.from ≤ c.args.at = omega (arith, c.requires.since, ap (λ (t : Things). t.since) c.self.view_is) in (
      subst (λ (l : List Held). ArePlaces c.put.new.self l) (sym pushed)
          (places_added c.self.inside.places c.put.new.self list x c.self.invariant.0 none
          (λ w. c.in_ok-put.ensures.ok w ∙ ap (λ (n : ℕ). if same_what x.what w then Some n else found c.self.inside.places w) place)),
      subst (λ (l : List Held). StandOnce l) (sym pushed) (once_added list x none c.self.invariant.1),
      omega (arith, c.push_reserved.ensures.len, c.reserve.ensures.len, c.self.invariant.2, ap length pushed, length_added list x),
      subst (λ (l : List Held). MissNothing l c.add.new.self) (sym pushed)
          (added_miss list c.self.inside.blocks c.add.new.self x c.args.at c.self.invariant.3 c.add.ensures.kept
          (λ k le. ap (λ (m : ℕ). is_in (near c.add.new.self k) m) (sym place) ∙ c.in_ok-add.ensures.ok k (omega (arith, low, le))) c.requires.begins),
      moved_up list c.push_reserved.new.self.items c.args.at c.self.inside.changed _ same c.self.invariant.4
          (begun x.what x c.args.at refl c.requires.begins list c.push_reserved.new.self.items pushed none),
    )
