-- the row of a document that an entry renews, by what the code knows of it
use Rattle.std.proofs.Common.{◌≡◌, ℕ, ◌+◌, ◌-◌, sym, ◌∙◌, ap, arith, Bool, ◌&&◌, true, false, List, ◌∷◌, length, Some}
use Rattle.std.specs.Prelude.{is_some, nat_eq}
use Rattle.sg_history.specs.declared.entries.Entry.{Entry}
use Rattle.sg_history.specs.Current.{Current}
use Rattle.sg_history.specs.Feed.{row_of, row_with}
use Rattle.sg_history.specs.View.{view}
use Rattle.grant_history.specs.Periods.{periods_have}
use Rattle.feed_rows.specs.declared.document.Latest.{Latest}
use Rattle.feed_rows.specs.declared.shown.Viewer.{Viewer}
use Rattle.feed_rows.specs.Known.{row_before, since_renewed, view_when}
use Rattle.feed_rows.specs.Latest.{winner_in}
use Rattle.feed_rows.specs.PassAt.{IsRenewed, IsViewer}
use Rattle.feed_rows.proofs.Settled.{Test, turned_by_view, turned_by_write, unturned_there}
use Rattle.feed_rows.proofs.Steps.{Unwritten, since_own}

module _ (viewer : Viewer) (e : Entry) (es : List Entry) (doc : List ℕ) (latest : Latest) (renewed : IsRenewed viewer e es doc latest) where
  abbrev pub has : List ℕ → ℕ → Bool
  has = periods_have viewer.periods.now

  abbrev pub now : Current
  now = winner_in latest

  pub viewer_before : IsViewer viewer es
  viewer_before = record { to_search = renewed.is_viewer.to_search; dated = renewed.is_viewer.dated.1 }

  pub place_before : latest.since - 1 ≡ length es
  place_before = omega (arith, renewed.since)

  end_is : latest.since ≡ length (e ∷ es)
  end_is = omega (arith, renewed.since)

  shown_then : (shown : Bool) → shown ≡ Test has viewer.filter.now now latest.since → shown ≡ Test has viewer.filter.now now (length (e ∷ es))
  shown_then shown at = at ∙ ap (Test has viewer.filter.now now) end_is

  own_is : (wrote : Bool) → wrote ≡ nat_eq latest.seq latest.since → wrote ≡ nat_eq latest.seq (length es + 1)
  own_is wrote h = h ∙ ap (nat_eq latest.seq) renewed.since

  module _ (law : Unwritten) (wrote shown : Bool) (own : wrote ≡ nat_eq latest.seq latest.since) (at : shown ≡ Test has viewer.filter.now now latest.since) where
    pub by_write : (wrote && shown) ≡ true → row_with latest.since wrote (view_when shown now) doc (Some now) ≡ row_of (e ∷ es) viewer.user.now viewer.filter.now doc
    by_write both =
        ap (λ (n : ℕ). row_with n wrote (view_when shown now) doc (Some now)) renewed.since
        ∙ turned_by_write has viewer.user.now viewer.filter.now doc law e es now renewed.is_viewer.dated (sym renewed.state) wrote shown (own_is wrote own) (shown_then shown at) both

    pub by_view : (was : Bool) → was ≡ is_some (view es viewer.user.now viewer.filter.now doc) → ¬ (shown ≡ was) → row_with latest.since wrote (view_when shown now) doc (Some now) ≡ row_of (e ∷ es) viewer.user.now viewer.filter.now doc
    by_view was before not =
        ap (λ (n : ℕ). row_with n wrote (view_when shown now) doc (Some now)) renewed.since
        ∙ turned_by_view has viewer.user.now viewer.filter.now doc law e es now renewed.is_viewer.dated (sym renewed.state) wrote shown was (own_is wrote own) (shown_then shown at) before not

    pub as_before : (was : Bool) → was ≡ is_some (view es viewer.user.now viewer.filter.now doc) → (wrote && shown) ≡ false → shown ≡ was → row_of es viewer.user.now viewer.filter.now doc ≡ row_of (e ∷ es) viewer.user.now viewer.filter.now doc
    as_before was before not kept =
        unturned_there has viewer.user.now viewer.filter.now doc law e es now renewed.is_viewer.dated (sym renewed.state) wrote shown was (own_is wrote own) (shown_then shown at) before not kept

  -- from there on it is known as this
  pub since_now : latest.since ≡ length (since_renewed (e ∷ es) doc)
  since_now = let all = ap length (since_own e es doc renewed.renewed) in omega (arith, all, renewed.since)

  pub row_now : row_before (e ∷ es) viewer.user.now viewer.filter.now doc ≡ row_of (e ∷ es) viewer.user.now viewer.filter.now doc
  row_now = ap (λ (at : List Entry). row_of at viewer.user.now viewer.filter.now doc) (since_own e es doc renewed.renewed)
