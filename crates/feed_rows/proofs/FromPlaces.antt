-- rows from a place on
use Rattle.std.proofs.Common.{◌≡◌, inl, inr, ℕ, ◌+◌, ◌<◌, ◌≤◌, refl, sym, ◌∙◌, ap, arith, Bool, true, false, if◌then◌else◌, List, [], ◌∷◌, length, map, Option, Some, None}
use Rattle.std.specs.Prelude.{max}
use Rattle.std.proofs.lemmas.Bool.{cases_lt, le-leb, leb-true}
use Rattle.std.proofs.Math.Dec.{leb}
use Rattle.std.proofs.lemmas.Option.{none-some}
use Rattle.sg_names.specs.declared.key.Key.{Key}
use Rattle.sg_history.specs.declared.entries.Entry.{Entry}
use Rattle.sg_history.specs.declared.row.Row.{Row}
use Rattle.sg_history.specs.declared.row.Options.{Options}
use Rattle.sg_history.specs.Current.{Current, current}
use Rattle.sg_history.specs.View.{Shown}
use Rattle.sg_history.specs.Feed.{keeps, row_of, row_with}
use Rattle.feed_rows.specs.Known.{from_on, renews, row_before, since_renewed}
use Rattle.feed_rows.specs.inner.Ordered.{asked_rows, insert_asked, insert_over}
use Rattle.feed_rows.specs.PassAt.{Dated}
use Rattle.feed_rows.proofs.AnyFeed.{kept_above}
use Rattle.feed_rows.proofs.Keys.{Under, under_from_below}
use Rattle.feed_rows.proofs.Settled.{Test, unturned}
use Rattle.feed_rows.proofs.ShownRows.{feed_facts}
use Rattle.feed_rows.proofs.Steps.{Unwritten, current_same, seq_is, since_other, since_own}

-- a row that is made at a place from there on
pub from_with : (from by : ℕ) (wrote : Bool) (shown : Option Shown) (doc : List ℕ) (now : Option Current) → from ≤ by → row_with by wrote shown doc now ≡ from_on from (row_with by wrote shown doc now)
from_with from by wrote shown doc None le = refl
from_with from by wrote shown doc (Some c) le =
    sym (ap (λ (b : Bool). if b then row_with by wrote shown doc (Some c) else None) (le-leb from by le))

-- entries before a place have no row from there on
pub early : (from : ℕ) (es : List Entry) (user : List ℕ) (filter : Option (List (List ℕ))) (doc : List ℕ) → length es < from → from_on from (row_of es user filter doc) ≡ None
early from es user filter doc low = go (row_of es user filter doc) (λ r is. (feed_facts user filter).by_bound es doc r is)
  where
    past : (r : Row) (b : Bool) → leb from r.key.by ≡ b → r.key.by ≤ length es → (if b then Some r else None) ≡ None
    past r false h le = refl
    past r true h le = absurd (omega (arith, leb-true from r.key.by h, le, low))

    go : (o : Option Row) → ((r : Row) → o ≡ Some r → r.key.by ≤ length es) → from_on from o ≡ None
    go None bound = refl
    go (Some r) bound = past r (leb from r.key.by) refl (bound r refl)

module _ (has : List ℕ → ℕ → Bool) (user : List ℕ) (filter : Option (List (List ℕ))) (doc : List ℕ) (law : Unwritten) (c : Current) (from : ℕ) where
  -- where the document is shown at all places since it was last renewed, from a place on, or at none of them
  pub settled_from : (es : List Entry) → Dated has user es → current es doc ≡ Some c → ((j : ℕ) → length (since_renewed es doc) ≤ j → from ≤ j + 1 → j ≤ length es → Test has filter c j ≡ Test has filter c (length es)) → from_on from (row_before es user filter doc) ≡ from_on from (row_of es user filter doc)
  settled_from [] dated is same = absurd (none-some _ is)
  settled_from (e ∷ older) dated is same = go (renews e older doc) refl (λ was rest. settled_from older dated.1 was rest)
    where
      go : (b : Bool) → renews e older doc ≡ b → (current older doc ≡ Some c → ((j : ℕ) → length (since_renewed older doc) ≤ j → from ≤ j + 1 → j ≤ length older → Test has filter c j ≡ Test has filter c (length older)) → from_on from (row_before older user filter doc) ≡ from_on from (row_of older user filter doc)) → from_on from (row_before (e ∷ older) user filter doc) ≡ from_on from (row_of (e ∷ older) user filter doc)
      go true h before = ap (λ (at : List Entry). from_on from (row_of at user filter doc)) (since_own e older doc h)
      go false h before =
          let was : current older doc ≡ Some c = sym (current_same law e older doc h) ∙ is in
          let high : length (since_renewed older doc) ≤ length older = (seq_is law older doc c was).since in
          let since : length (since_renewed (e ∷ older) doc) ≡ length (since_renewed older doc) = ap length (since_other e older doc h) in
          elim (cases_lt (length (e ∷ older)) from) [
            | inl low ↦
                early from (since_renewed (e ∷ older) doc) user filter doc (omega (arith, since, high, low))
                ∙ sym (early from (e ∷ older) user filter doc low)
            | inr within ↦
                let step : Test has filter c (length older) ≡ Test has filter c (length (e ∷ older)) = same (length older) (omega (arith, since, high)) (omega (arith, within)) (omega arith) in
                ap (λ (at : List Entry). from_on from (row_of at user filter doc)) (since_other e older doc h)
                ∙ before was (λ j a f b. same j (omega (arith, since, a)) f (omega (arith, b)) ∙ sym step)
                ∙ sym (ap (from_on from) (unturned has user filter doc law c e older dated h was (sym step)))
          ]

-- a row of a place before the key's first number is not asked for
module _ (es : List Entry) (user : List ℕ) (since : Key) (options : Options) (from : ℕ) (first : from ≤ max since.by 1) where
  from_key : (doc : List ℕ) (r : Row) → row_of es user options.filter doc ≡ Some r → keeps options since r ≡ true → from ≤ r.key.by
  from_key doc r is kept = go (under_from_below since r.key (kept_above options since r kept))
    where
      go : Under since r.key → from ≤ r.key.by
      go (inl low) = omega (arith, first, low)
      go (inr same) = omega (arith, first, same.0, (feed_facts user options.filter).positive es doc r is, (feed_facts user options.filter).seq_bound es doc r is)

  same_asked : (doc : List ℕ) (rows : List Row) → insert_asked options since (from_on from (row_of es user options.filter doc)) rows ≡ insert_asked options since (row_of es user options.filter doc) rows
  same_asked doc rows = go (row_of es user options.filter doc) (λ r is. from_key doc r is)
    where
      in_time : (r : Row) (b k : Bool) → leb from r.key.by ≡ b → keeps options since r ≡ k → (k ≡ true → from ≤ r.key.by) → insert_asked options since (if b then Some r else None) rows ≡ (if k then insert_over r rows else rows)
      in_time r true k h kept late = ap (λ (x : Bool). if x then insert_over r rows else rows) kept
      in_time r false false h kept late = refl
      in_time r false true h kept late = absurd (let le : leb from r.key.by ≡ true = le-leb from r.key.by (late refl) in cc)

      go : (o : Option Row) → ((r : Row) → o ≡ Some r → keeps options since r ≡ true → from ≤ r.key.by) → insert_asked options since (from_on from o) rows ≡ insert_asked options since o rows
      go None late = refl
      go (Some r) late = in_time r (leb from r.key.by) (keeps options since r) refl refl (late r refl)

  -- so what is asked for of rows from there on is what is asked for of all
  pub all_asked : (docs : List (List ℕ)) → asked_rows options since (map (λ d. from_on from (row_of es user options.filter d)) docs) ≡ asked_rows options since (map (row_of es user options.filter) docs)
  all_asked [] = refl
  all_asked (d ∷ ds) =
      same_asked d (asked_rows options since (map (λ x. from_on from (row_of es user options.filter x)) ds))
      ∙ ap (insert_asked options since (row_of es user options.filter d)) (all_asked ds)
