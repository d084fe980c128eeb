-- a viewer at earlier places, and a document that no entry renews from a place on
use Rattle.std.proofs.Common.{◌≡◌, ◌<◌, ◌≤◌, ◌-◌, ◌⊎◌, inl, inr, ℕ, zero, suc, refl, sym, ◌∙◌, ap, subst, arith, Bool, true, false, if◌then◌else◌, List, ◌∷◌, length, Some}
use Rattle.std.specs.Prelude.{slice_get}
use Rattle.std.proofs.lemmas.Bool.{cases_lt, true≢false}
use Rattle.sg_history.specs.declared.entries.Entry.{Entry}
use Rattle.sg_history.specs.History.{past}
use Rattle.feed_rows.specs.declared.shown.Viewer.{Viewer}
use Rattle.feed_rows.specs.Known.{renews, since_renewed}
use Rattle.feed_rows.specs.PassAt.{IsViewer}
use Rattle.channel_cache.proofs.Past.{got, past_count, past_next}
use Rattle.changes_feed.specs.inner.Segment.{renewed_last}

-- the entry at a place, before which stand the others
pub record IsNext (entries : List Entry) (at : ℕ) : Type 0 where
  pub entry : Entry
  pub there : slice_get entries (at - 1) ≡ Some entry
  pub all : past entries at ≡ entry ∷ past entries (at - 1)
  pub count : length (past entries (at - 1)) ≡ at - 1
  pub whole : length (past entries at) ≡ at

pub next : (entries : List Entry) (at : ℕ) → 0 < at → at ≤ length entries → IsNext entries at
next entries at pos high =
    let one = got entries (at - 1) (omega (arith, pos, high)) in
    let minus : suc (at - 1) ≡ at = omega (arith, pos) in
    record {
      entry = one.0;
      there = one.1;
      all = ap (λ (n : ℕ). past entries n) (sym minus) ∙ past_next entries (at - 1) one.0 one.1;
      count = past_count entries (at - 1) (omega (arith, high));
      whole = past_count entries at high;
    }

older_viewer : (viewer : Viewer) (e : Entry) (es : List Entry) → IsViewer viewer (e ∷ es) → IsViewer viewer es
older_viewer viewer e es is = record { to_search = is.to_search; dated = is.dated.1 }

pub viewer_at : (viewer : Viewer) (entries : List Entry) (k front : ℕ) → k ≤ front → front ≤ length entries → IsViewer viewer (past entries front) → IsViewer viewer (past entries k)
viewer_at viewer entries k zero low high is =
    let none : 0 ≡ k = omega (arith, low) in
    subst (λ (n : ℕ). IsViewer viewer (past entries n)) none is
viewer_at viewer entries k (suc front) low high is =
    let one = got entries front (omega (arith, high)) in
    let before = older_viewer viewer one.0 (past entries front) (subst (λ (es : List Entry). IsViewer viewer es) (past_next entries front one.0 one.1) is) in
    by (cases_lt front k) (λ le. viewer_at viewer entries k front le (omega (arith, high)) before)
  where
    by : (front < k) ⊎ (k ≤ front) → (k ≤ front → IsViewer viewer (past entries k)) → IsViewer viewer (past entries k)
    by (inl above) rest =
        let same : suc front ≡ k = omega (arith, above, low) in
        subst (λ (n : ℕ). IsViewer viewer (past entries n)) same is
    by (inr le) rest = rest le

-- a document that is not renewed from a place on was renewed last before it
pub renewed_before : (entries : List Entry) (doc : List ℕ) (start k : ℕ) → 0 < start → k ≤ length entries → ((j : ℕ) → start ≤ j → j ≤ k → renewed_last (past entries j) doc ≡ false) → length (since_renewed (past entries k) doc) < start
renewed_before entries doc start zero pos high none = pos
renewed_before entries doc start (suc k) pos high none =
    let one = got entries k (omega (arith, high)) in
    let all = past_next entries k one.0 one.1 in
    let count : length (one.0 ∷ past entries k) ≡ suc k = sym (ap length all) ∙ past_count entries (suc k) high in
    let rest : length (since_renewed (past entries k) doc) < start = renewed_before entries doc start k pos (omega (arith, high)) (λ j low le. none j low (omega (arith, le))) in
    subst (λ (es : List Entry). length (since_renewed es doc) < start) (sym all) (by one.0 (past entries k) count rest (renews one.0 (past entries k) doc) refl (λ low. sym (ap (λ (es : List Entry). renewed_last es doc) all) ∙ none (suc k) low (omega arith)))
  where
    by : (e : Entry) (es : List Entry) → length (e ∷ es) ≡ suc k → length (since_renewed es doc) < start → (b : Bool) → renews e es doc ≡ b → (start ≤ suc k → renews e es doc ≡ false) → length (since_renewed (e ∷ es) doc) < start
    by e es count rest false is not =
        subst (λ (b : Bool). length (if b then e ∷ es else since_renewed es doc) < start) (sym is) rest
    by e es count rest true is not =
        subst (λ (b : Bool). length (if b then e ∷ es else since_renewed es doc) < start) (sym is) (early (cases_lt (suc k) start))
      where
        early : (suc k < start) ⊎ (start ≤ suc k) → length (e ∷ es) < start
        early (inl low) = omega (arith, low, count)
        early (inr high) = absurd (true≢false (sym is ∙ not high))
