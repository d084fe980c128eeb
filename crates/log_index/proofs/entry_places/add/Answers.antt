use Rattle.std.proofs.Common.{◌≡◌, ◌≢◌, ◌<◌, ◌≤◌, ◌∙◌, ap, sym, subst, List, [], ◌∷◌, ◌++◌, ℕ, length}
use Rattle.log_index.specs.declared.entry_places.EntryPlaces.{EntryPlaces}
use Rattle.log_index.specs.Representation.{KeepsPlaces, kept_at}
use Rattle.log_index.proofs.EntryPlaces.{pushed, whole}
use Rattle.log_index.proofs.entry_places.add.Goals as goal

pub returns : goal.returns
returns c =
    let old = c.args.list.now.items in
    let mid = c.as_mut_slice.result.now in
    let new = c.put_next.new.list in
    let made = c.as_mut_slice.ensures.value ∙ c.push_reserved.ensures.items ∙ ap (λ (x : EntryPlaces). old ++ x ∷ []) c.newest.ensures in
    let own = subst (λ (n : ℕ). 0 < n → n ≤ length mid → kept_at new n ≡ record (kept_at mid n) { next = c.args.seq }) c.last_of.ensures c.put_next.ensures.own in
    let others = subst (λ (n : ℕ). (other : ℕ) → other ≢ n → kept_at new other ≡ kept_at mid other) c.last_of.ensures c.put_next.ensures.others in
    let all = whole new _ _ (sym c.as_mut_slice.ensures.len ∙ sym c.put_next.ensures.count) in
    λ es e next was is keeps. subst (λ (l : List EntryPlaces). KeepsPlaces l (e ∷ es)) (sym all) (pushed old mid new es e c.args.before c.args.after c.args.seq keeps next was is made c.put_next.ensures.count own others)
