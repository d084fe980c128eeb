-- the last change of a document, going back from where it was last renewed
use Rattle.std.proofs.Common.{◌≡◌, ◌<◌, ◌≤◌, ◌+◌, ◌-◌, ℕ, zero, suc, refl, sym, ◌∙◌, ap, subst, arith, Bool, true, false, if◌then◌else◌, List, [], ◌∷◌, ◌++◌, length, reverse, take, append-nil, Option, Some, None, nat_eq, max, ◌&&◌}
use Rattle.std.specs.Prelude.{slice_get, is_some}
use Rattle.std.proofs.Math.Seq.{take-length}
use Rattle.std.proofs.lemmas.Bool.{true≢false, eq-eqb, eqb-true, ne_eqb}
use Rattle.std.proofs.lemmas.List.{length-append, reverse-reverse}
use Rattle.std.proofs.lemmas.Option.{none-some}
use Rattle.sg_history.specs.declared.entries.Entry.{Entry}
use Rattle.sg_history.specs.declared.entries.Write.{Write}
use Rattle.sg_history.specs.History.{as_write, write_to, past}
use Rattle.sg_history.specs.Current.{Current, Effects, Sequenced, current, current_after, current_of, effects_of, last_write, marked_by, sequenced_or, winning_of, with_rev_or, write_of_rev, write_or}
use Rattle.sg_history.specs.Feed.{changed, row_at, row_of, row_with, writes}
use Rattle.sg_history.specs.View.{Shown, same_view, view}
use Rattle.log_index.specs.declared.documents.Document.{Document}
use Rattle.log_index.specs.declared.index.LogIndex.{LogIndex}
use Rattle.log_index.specs.Marks.{marked_after}
use Rattle.log_index.specs.Places.{before_at, document_at, document_before, document_by, earlier_or, first_seq}
use Rattle.log_views.specs.At.{written, write_at}
use Rattle.log_views.specs.States.{effects_at_write, since_at_write, since_by}
use Rattle.log_views.proofs.Placed.{found, nothing, writes_it}
use Rattle.feed_rows.specs.Known.{renews, row_before, since_renewed}
use Rattle.feed_rows.specs.LastChange.{Stood, place_by, place_in}
use Rattle.feed_rows.specs.Latest.{current_in, winner_in}
use Rattle.feed_rows.specs.PassAt.{Dated, IsViewer}
use Rattle.grant_history.specs.Periods.{periods_have}
use Rattle.feed_rows.specs.declared.document.Latest.{Latest}
use Rattle.feed_rows.specs.declared.shown.Viewer.{Viewer}
use Rattle.feed_rows.proofs.Settled.{Test, turned_by_view, turned_by_write, unturned_there, wrote_is}
use Rattle.feed_rows.proofs.Places.{dated_within, past_extends, past_length, past_more}
use Rattle.feed_rows.proofs.Marked.{most}
use Rattle.feed_rows.proofs.Steps.{Unwritten, current_same, none_renewed, not_written_to, since_other, since_own}

-- ---- places

row_place : (at : List Entry) (user : List ℕ) (filter : Option (List (List ℕ))) (doc : List ℕ) → place_by (row_at at user filter doc) ≤ length at
row_place [] user filter doc = omega arith
row_place (e ∷ older) user filter doc = go (view (e ∷ older) user filter doc) (current (e ∷ older) doc)
  where
    go : (v : Option Shown) (o : Option Current) → place_by (row_with (length older + 1) (writes e doc) v doc o) ≤ length (e ∷ older)
    go v None = omega arith
    go v (Some c) = omega arith

changed_within : (es : List Entry) (user : List ℕ) (filter : Option (List (List ℕ))) (doc : List ℕ) → length (changed es user filter doc) ≤ length es
changed_within [] user filter doc = omega arith
changed_within (e ∷ older) user filter doc = go (same_view (view (e ∷ older) user filter doc) (view older user filter doc)) (changed_within older user filter doc)
  where
    go : (b : Bool) → length (changed older user filter doc) ≤ length older → length (if b then changed older user filter doc else e ∷ older) ≤ length (e ∷ older)
    go true h = omega (arith, h)
    go false h = omega arith

pub place_within : (es : List Entry) (user : List ℕ) (filter : Option (List (List ℕ))) (doc : List ℕ) → place_by (row_of es user filter doc) ≤ length es
place_within es user filter doc =
    let a = row_place (changed es user filter doc) user filter doc in
    let b = changed_within es user filter doc in
    omega (arith, a, b)

-- ---- a document that was never written

written_there : (o : Option Sequenced) (es : List Entry) (doc : List ℕ) → current_after es doc o ≡ None → o ≡ None
written_there None es doc h = refl
written_there (Some last) es doc h = absurd (none-some _ (sym h))

none_marked : (e : Entry) (doc : List ℕ) (o : Option Current) → marked_by e doc o ≡ None → o ≡ None
none_marked e doc None h = refl
none_marked e doc (Some c) h = absurd (none-some _ (sym h))

since_none : Unwritten → (es : List Entry) (doc : List ℕ) → current es doc ≡ None → since_renewed es doc ≡ []
since_none law [] doc h = refl
since_none law (e ∷ older) doc h = go (write_to e doc) refl (since_none law older doc)
  where
    go : (o : Option Write) → write_to e doc ≡ o → (current older doc ≡ None → since_renewed older doc ≡ []) → since_renewed (e ∷ older) doc ≡ []
    go None is rest =
        let was = none_marked e doc (current older doc) (sym (law e older doc is) ∙ h) in
        since_other e older doc (none_renewed e older doc is was) ∙ rest was
    go (Some w) is rest =
        let last : last_write (e ∷ older) doc ≡ Some (record { seq = length older + 1; write = w }) = cc in
        absurd (none-some _ (sym (written_there (last_write (e ∷ older) doc) (e ∷ older) doc h) ∙ last))

pub never_renewed : Unwritten → (es : List Entry) (doc : List ℕ) → current es doc ≡ None → 0 ≡ length (since_renewed es doc)
never_renewed law es doc h = sym (ap length (since_none law es doc h))

pub place_none : Unwritten → (es : List Entry) (user : List ℕ) (filter : Option (List (List ℕ))) (doc : List ℕ) → current es doc ≡ None → row_before es user filter doc ≡ row_of es user filter doc → place_by (row_of es user filter doc) ≡ 0
place_none law es user filter doc none same =
    ap place_by (sym same ∙ ap (λ (at : List Entry). row_of at user filter doc) (since_none law es doc none))

-- ---- where a document stands, which an entry does not write

document_same : (e : Entry) (es : List Entry) (doc : List ℕ) → write_to e doc ≡ None → document_at (e ∷ es) doc ≡ document_at es doc
document_same e es doc h =
    ap (λ (o : Option Write). document_by (e ∷ es) doc (sequenced_or o (length es + 1) (last_write es doc))) h ∙ go (last_write es doc)
  where
    go : (o : Option Sequenced) → document_by (e ∷ es) doc o ≡ document_by es doc o
    go None = refl
    go (Some last) =
        ap (λ (o : Option Write). Some (record { first = earlier_or o (length es + 1) (first_seq es doc); last = last.seq; winning = (write_or (with_rev_or o (length es + 1) last.write.winner (write_of_rev es doc last.write.winner)) last).seq })) h

-- ---- the entries up to where a document was last renewed

-- the entry that renewed a document last stands at the end of those up to it
pub record Renewal (entries : List Entry) (n : ℕ) (doc : List ℕ) (since : ℕ) : Type 0 where
  pub by : Entry
  pub renewed : renews by (past entries (since - 1)) doc ≡ true
  pub low : 0 < since
  pub high : since ≤ n
  pub newest : past entries since ≡ by ∷ past entries (since - 1)
  pub since_is : since_renewed (past entries n) doc ≡ past entries since
  pub same : current (past entries since) doc ≡ current (past entries n) doc
  pub stood : document_at (past entries n) doc ≡ document_at (past entries since) doc

pub last_renewed : Unwritten → (entries : List Entry) (doc : List ℕ) (n : ℕ) (c : Current) → n ≤ length entries → current (past entries n) doc ≡ Some c → (since : ℕ) × (since ≡ length (since_renewed (past entries n) doc)) × Renewal entries n doc since
last_renewed law entries doc zero c high h = absurd (none-some c h)
last_renewed law entries doc (suc n) c high h =
    let more = past_more entries n (omega (arith, high)) in
    go more.0 more.1 (renews more.0 (past entries n) doc) refl (λ k. last_renewed law entries doc n c (omega (arith, high)) k)
  where
    own : (e : Entry) → past entries (suc n) ≡ e ∷ past entries n → renews e (past entries n) doc ≡ true → (since : ℕ) × (since ≡ length (since_renewed (past entries (suc n)) doc)) × Renewal entries (suc n) doc since
    own e next is =
        let older = past entries n in
        let count : length older ≡ n = past_length entries n (omega (arith, high)) in
        let all : since_renewed (past entries (suc n)) doc ≡ e ∷ older = ap (λ (es : List Entry). since_renewed es doc) next ∙ since_own e older doc is in
        let before : ◌≡◌ {A = ℕ} (suc n - 1) n = omega arith in (
          suc n,
          omega (arith, ap length all, count),
          record {
            by = e;
            renewed = ap (λ (m : ℕ). renews e (past entries m) doc) before ∙ is;
            low = omega arith;
            high = omega arith;
            newest = next ∙ ap (λ (m : ℕ). e ∷ past entries m) (sym before);
            since_is = all ∙ sym next;
            same = refl;
            stood = refl;
          },
        )

    other : (e : Entry) → past entries (suc n) ≡ e ∷ past entries n → renews e (past entries n) doc ≡ false → (since : ℕ) × (since ≡ length (since_renewed (past entries n) doc)) × Renewal entries n doc since → (since : ℕ) × (since ≡ length (since_renewed (past entries (suc n)) doc)) × Renewal entries (suc n) doc since
    other e next is before =
        let r = before.2 in
        let all : since_renewed (past entries (suc n)) doc ≡ since_renewed (past entries n) doc = ap (λ (es : List Entry). since_renewed es doc) next ∙ since_other e (past entries n) doc is in (
          before.0,
          before.1 ∙ ap length (sym all),
          record {
            by = r.by;
            renewed = r.renewed;
            low = r.low;
            high = omega (arith, r.high);
            newest = r.newest;
            since_is = all ∙ r.since_is;
            same = r.same ∙ sym (current_same law e (past entries n) doc is) ∙ ap (λ (es : List Entry). current es doc) (sym next);
            stood = ap (λ (es : List Entry). document_at es doc) next ∙ document_same e (past entries n) doc (not_written_to e (past entries n) doc is) ∙ r.stood;
          },
        )

    go : (e : Entry) → past entries (suc n) ≡ e ∷ past entries n → (b : Bool) → renews e (past entries n) doc ≡ b
        → (current (past entries n) doc ≡ Some c → (since : ℕ) × (since ≡ length (since_renewed (past entries n) doc)) × Renewal entries n doc since) → (since : ℕ) × (since ≡ length (since_renewed (past entries (suc n)) doc)) × Renewal entries (suc n) doc since
    go e next true is rest = own e next is
    go e next false is rest =
        other e next is (rest (sym (current_same law e (past entries n) doc is) ∙ ap (λ (es : List Entry). current es doc) (sym next) ∙ h))

-- ---- where a document stood before it was last renewed

before_older : (newer : List Entry) (e : Entry) (older : List Entry) → before_at (newer ++ e ∷ older) (length older + 1) ≡ document_before older (as_write e)
before_older [] e older =
    ap (λ (b : Bool). if b then document_before older (as_write e) else before_at older (length older + 1)) (eq-eqb (length older + 1) (length older + 1) refl)
before_older (x ∷ newer) e older =
    let long : length (newer ++ e ∷ older) ≡ length newer + length (e ∷ older) = length-append newer (e ∷ older) in
    let other : nat_eq (length older + 1) (length (newer ++ e ∷ older) + 1) ≡ false = ne_eqb (length older + 1) (length (newer ++ e ∷ older) + 1) (λ same. omega (arith, same, long)) in
    ap (λ (b : Bool). if b then document_before (newer ++ e ∷ older) (as_write x) else before_at (newer ++ e ∷ older) (length older + 1)) other
    ∙ before_older newer e older

module _ (entries : List Entry) (n : ℕ) (doc : List ℕ) (high : n ≤ length entries) where
  stood_before : (since : ℕ) (r : Renewal entries n doc since) (w : Write) → write_to r.by doc ≡ Some w → before_at (reverse entries) since ≡ document_at (past entries (since - 1)) doc
  stood_before since r w is =
      let end = past_extends entries [] since (length entries) (omega (arith, r.high, high)) (omega (arith, r.high, high)) in
      let all : reverse entries ≡ end.0 ++ past entries since = sym all_past ∙ end.1 in
      let older = past entries (since - 1) in
      let count : length older ≡ since - 1 = past_length entries (since - 1) (omega (arith, r.high, high)) in
      let place : since ≡ length older + 1 = omega (arith, count, r.low) in
      let one = writes_it (as_write r.by) doc w is in
      ap (λ (es : List Entry). before_at es since) (all ∙ ap (λ (es : List Entry). end.0 ++ es) r.newest)
      ∙ ap (λ (m : ℕ). before_at (end.0 ++ r.by ∷ older) m) place
      ∙ before_older end.0 r.by older
      ∙ ap (document_before older) one.0
      ∙ ap (λ (d : List ℕ). document_at older d) one.1
    where
      all_past : past (entries ++ []) (length entries) ≡ reverse entries
      all_past = ap (λ (l : List Entry). past l (length entries)) (append-nil entries) ∙ ap (λ (l : List Entry). reverse l) (take-length entries)

  -- ---- what a document is by where it stood

  pub latest_none : document_at (past entries n) doc ≡ None → None ≡ current (past entries n) doc
  latest_none h = sym (ap (λ (o : Option Sequenced). current_after (past entries n) doc o) (nothing (past entries n) doc h))

  module _ (d : Document) (at : Some d ≡ document_at (past entries n) doc) where
    abbrev pub won : Sequenced
    won = winning_of (past entries n) doc (found (past entries n) doc d (sym at)).last

    pub won_is : (v : Write) → v ≡ won.write → record { seq = d.winning; write = v } ≡ won
    won_is v same =
        let f = found (past entries n) doc d (sym at) in
        λ i. record { seq = f.winning i; write = same i }

    pub won_doc : won.write.doc ≡ doc
    won_doc = (found (past entries n) doc d (sym at)).doc_is

    pub winning_low : 0 < d.winning
    winning_low = let f = found (past entries n) doc d (sym at) in omega (arith, f.winning, f.at.low)

    pub written_by : write_at entries d.winning ≡ Some won.write
    written_by =
        let f = found (past entries n) doc d (sym at) in
        let up : won.seq ≤ n = omega (arith, f.at.high, past_length entries n high) in
        let place : d.winning - 1 < n = omega (arith, f.winning, f.at.low, up) in
        ap written (sym (got_taken entries n (d.winning - 1) place))
        ∙ ap (λ (l : List Entry). write_at l d.winning) (sym (reverse-reverse (take n entries)))
        ∙ ap (λ (m : ℕ). write_at (reverse (past entries n)) m) f.winning
        ∙ f.at.there
      where
        got_taken : (all : List Entry) (k i : ℕ) → i < k → slice_get (take k all) i ≡ slice_get all i
        got_taken all zero i h = absurd (omega (arith, h))
        got_taken [] (suc k) i h = refl
        got_taken (x ∷ xs) (suc k) zero h = refl
        got_taken (x ∷ xs) (suc k) (suc i) h = got_taken xs k i (omega (arith, h))

    pub effects_are : effects_at_write (past entries n) d.winning (write_at entries d.winning) ≡ Some (effects_of (past entries n) won)
    effects_are =
        ap (effects_at_write (past entries n) d.winning) written_by
        ∙ ap (λ (m : ℕ). effects_at_write (past entries n) m (Some won.write)) (found (past entries n) doc d (sym at)).winning

    pub since_are : since_at_write (past entries n) d.winning (write_at entries d.winning) ≡ Some (since_by (marked_after (past entries n) won) won.seq)
    since_are =
        ap (since_at_write (past entries n) d.winning) written_by
        ∙ ap (λ (m : ℕ). since_at_write (past entries n) m (Some won.write)) (found (past entries n) doc d (sym at)).winning

    -- it is this by its winner and the winner's effects
    pub latest_is : (v : Write) (effects : Effects) → v ≡ won.write → effects ≡ effects_of (past entries n) won → Some (current_of d.last v effects) ≡ current (past entries n) doc
    latest_is v effects same have =
        let f = found (past entries n) doc d (sym at) in
        ap (λ (m : ℕ). Some (current_of m v effects)) f.seq
        ∙ ap (λ (x : Write). Some (current_of f.last.seq x effects)) same
        ∙ ap (λ (x : Effects). Some (current_of f.last.seq won.write x)) have
        ∙ sym (ap (λ (o : Option Sequenced). current_after (past entries n) doc o) f.last_is)

    pub since_most : max d.last (since_by (marked_after (past entries n) won) won.seq) ≡ length (since_renewed (past entries n) doc)
    since_most =
        let f = found (past entries n) doc d (sym at) in
        ap (λ (m : ℕ). max m (since_by (marked_after (past entries n) won) won.seq)) f.seq
        ∙ most (past entries n) doc f.last f.last_is

-- ---- from a place back to where the document was last renewed before it

-- what is shown did not change since then
module _ (law : Unwritten) (entries : List Entry) (index : LogIndex) (viewer : Viewer) (doc : List ℕ) (to : ℕ) (stood : Option Document) (s : Stood entries index viewer doc to stood) (latest : Latest) (is : current_in (Some latest) ≡ current (past entries to) doc)
    (since_at : latest.since ≡ length (since_renewed (past entries to) doc)) (same : row_before (past entries to) viewer.user.now viewer.filter.now doc ≡ row_of (past entries to) viewer.user.now viewer.filter.now doc) where
  abbrev pub has : List ℕ → ℕ → Bool
  has = periods_have viewer.periods.now

  abbrev pub now : Current
  now = winner_in latest

  last : Renewal entries to doc latest.since
  last =
      let l = last_renewed law entries doc to now s.within (sym is) in
      subst (λ (m : ℕ). Renewal entries to doc m) (l.1 ∙ sym since_at) l.2

  abbrev pub older : List Entry
  older = past entries (latest.since - 1)

  older_length : length older ≡ latest.since - 1
  older_length = past_length entries (latest.since - 1) (omega (arith, last.high, s.within))

  pub since_is_next : latest.since ≡ length older + 1
  since_is_next = omega (arith, older_length, last.low)

  dated : Dated has viewer.user.now (last.by ∷ older)
  dated = subst (λ (es : List Entry). Dated has viewer.user.now es) last.newest (dated_within has viewer.user.now entries latest.since s.is_viewer.dated)

  current_is : current (last.by ∷ older) doc ≡ Some now
  current_is = ap (λ (es : List Entry). current es doc) (sym last.newest) ∙ last.same ∙ sym is

  rows_are : row_of (past entries to) viewer.user.now viewer.filter.now doc ≡ row_of (last.by ∷ older) viewer.user.now viewer.filter.now doc
  rows_are = sym same ∙ ap (λ (at : List Entry). row_of at viewer.user.now viewer.filter.now doc) (last.since_is ∙ last.newest)

  end_is : length (last.by ∷ older) ≡ latest.since
  end_is = omega (arith, since_is_next)

  pub viewer_before : IsViewer viewer older
  viewer_before = record { to_search = s.is_viewer.to_search; dated = dated.1 }

  pub earlier : latest.since - 1 < to
  earlier = omega (arith, last.low, last.high)

  pub within_before : latest.since - 1 ≤ length entries
  within_before = omega (arith, last.high, s.within)

  -- where it stood before that
  pub stood_so : (if nat_eq latest.seq latest.since then before_at index latest.seq else stood) ≡ document_at older doc
  stood_so = go (nat_eq latest.seq latest.since) refl
    where
      wrote : nat_eq latest.seq latest.since ≡ is_some (write_to last.by doc)
      wrote = ap (nat_eq latest.seq) since_is_next ∙ wrote_is has viewer.user.now viewer.filter.now doc law last.by older now dated current_is

      by_write : (o : Option Write) → write_to last.by doc ≡ o → is_some o ≡ true → nat_eq latest.seq latest.since ≡ true → before_at index latest.seq ≡ document_at older doc
      by_write None at there own = absurd (true≢false (sym there))
      by_write (Some w) at there own =
          ap (λ (es : List Entry). before_at es latest.seq) s.indexes
          ∙ ap (before_at (reverse entries)) (eqb-true latest.seq latest.since own)
          ∙ stood_before entries to doc s.within latest.since last w at

      by_mark : (o : Option Write) → write_to last.by doc ≡ o → is_some o ≡ false → stood ≡ document_at older doc
      by_mark None at there = s.document ∙ last.stood ∙ ap (λ (es : List Entry). document_at es doc) last.newest ∙ document_same last.by older doc at
      by_mark (Some w) at there = absurd (true≢false there)

      go : (b : Bool) → nat_eq latest.seq latest.since ≡ b → (if b then before_at index latest.seq else stood) ≡ document_at older doc
      go true h = by_write (write_to last.by doc) refl (sym wrote ∙ h) h
      go false h = by_mark (write_to last.by doc) refl (sym wrote ∙ h)

  shown_then : (shown : Bool) → shown ≡ Test has viewer.filter.now now latest.since → shown ≡ Test has viewer.filter.now now (length (last.by ∷ older))
  shown_then shown at = at ∙ ap (Test has viewer.filter.now now) (sym end_is)

  own_is : (wrote : Bool) → wrote ≡ nat_eq latest.seq latest.since → wrote ≡ nat_eq latest.seq (length older + 1)
  own_is wrote h = h ∙ ap (nat_eq latest.seq) since_is_next

  pub found_shown : (wrote shown : Bool) → wrote ≡ nat_eq latest.seq latest.since → shown ≡ Test has viewer.filter.now now latest.since → (wrote && shown) ≡ true → place_in (past entries to) viewer doc ≡ latest.since
  found_shown wrote shown own at both =
      ap place_by (rows_are ∙ sym (turned_by_write has viewer.user.now viewer.filter.now doc law last.by older now dated current_is wrote shown (own_is wrote own) (shown_then shown at) both))
      ∙ sym since_is_next

  pub found_turned : (shown was : Bool) → shown ≡ Test has viewer.filter.now now latest.since → was ≡ is_some (view older viewer.user.now viewer.filter.now doc) → ¬ (shown ≡ was) → place_in (past entries to) viewer doc ≡ latest.since
  found_turned shown was at before not =
      ap place_by (rows_are ∙ sym (turned_by_view has viewer.user.now viewer.filter.now doc law last.by older now dated current_is (nat_eq latest.seq (length older + 1)) shown was refl (shown_then shown at) before not))
      ∙ sym since_is_next

  pub found_before : (wrote shown was : Bool) → wrote ≡ nat_eq latest.seq latest.since → shown ≡ Test has viewer.filter.now now latest.since → was ≡ is_some (view older viewer.user.now viewer.filter.now doc) → (wrote && shown) ≡ false → shown ≡ was → place_in (past entries to) viewer doc ≡ place_in older viewer doc
  found_before wrote shown was own at before not kept =
      ap place_by (rows_are ∙ sym (unturned_there has viewer.user.now viewer.filter.now doc law last.by older now dated current_is wrote shown was (own_is wrote own) (shown_then shown at) before not kept))

-- ---- all of the entries

pub whole : (entries : List Entry) → reverse entries ≡ past entries (length entries)
whole entries = ap (λ (l : List Entry). reverse l) (sym (take-length entries))

pub place_at_most : (entries : List Entry) (viewer : Viewer) (doc : List ℕ) (to : ℕ) → to ≤ length entries → place_in (past entries to) viewer doc ≤ to
place_at_most entries viewer doc to high =
    let h = place_within (past entries to) viewer.user.now viewer.filter.now doc in
    omega (arith, h, past_length entries to high)
