-- What the row of a document says: the place of its last change.
use Rattle.std.proofs.Common.{◌≡◌, ℕ, ◌+◌, refl, sym, inl, inr, ◌⊎◌, arith, Bool, true, false, if◌then◌else◌, List, [], ◌∷◌, length, Option, Some, None}
use Rattle.std.proofs.lemmas.Bool.{false≢true}
use Rattle.std.proofs.lemmas.Option.{none-some, same_Some}
use Rattle.sg_history.specs.declared.entries.Entry.{Entry}
use Rattle.sg_history.specs.declared.entries.Write.{Write}
use Rattle.sg_history.specs.History.{write_to}
use Rattle.sg_history.specs.Current.{Current, Sequenced, sequenced_or, last_write, current, current_after}
use Rattle.sg_history.specs.View.{Shown, view, view_of, is_shown, same_view}
use Rattle.sg_history.specs.Feed.{changed, writes, row_with, row_at, row_of}
use Rattle.feed_rows.specs.LastChange.{place_by}

-- a document that was written stays
current_there : (es : List Entry) (doc : List ℕ) (o : Option Sequenced) (l : Sequenced) → o ≡ Some l → (c : Current) × (current_after es doc o ≡ Some c)
current_there es doc None l h = absurd (none-some _ h)
current_there es doc (Some m) l h = (_, refl)

current_last : (es : List Entry) (doc : List ℕ) (o : Option Sequenced) (c : Current) → current_after es doc o ≡ Some c → (l : Sequenced) × (o ≡ Some l)
current_last es doc None c h = absurd (none-some _ h)
current_last es doc (Some l) c h = (l, refl)

next_there : (w : Option Write) (seq : ℕ) (before : Option Sequenced) (l : Sequenced) → before ≡ Some l → (m : Sequenced) × (sequenced_or w seq before ≡ Some m)
next_there None seq before l h = (l, h)
next_there (Some w) seq before l h = (record { seq = seq; write = w }, refl)

stays : (e : Entry) (es : List Entry) (doc : List ℕ) (c : Current) → current es doc ≡ Some c → (d : Current) × (current (e ∷ es) doc ≡ Some d)
stays e es doc c h =
    let last = current_last es doc (last_write es doc) c h in
    let next = next_there (write_to e doc) (length es + 1) (last_write es doc) last.0 last.1 in
    current_there (e ∷ es) doc (last_write (e ∷ es) doc) next.0 next.1

-- a view is of the current state, and the user has one of its channels
pub seen : (es : List Entry) (user : List ℕ) (filter : Option (List (List ℕ))) (o : Option Current) (s : Shown) → view_of es user filter o ≡ Some s → (c : Current) × (o ≡ Some c) × (is_shown es user filter c ≡ true) × (s ≡ record { seq = c.seq; rev = c.rev; deleted = c.deleted })
seen es user filter None s h = absurd (none-some _ h)
seen es user filter (Some c) s h = let x = go (is_shown es user filter c) h in (c, refl, x.0, x.1)
  where
    go : (b : Bool) → (if b then Some (record { seq = c.seq; rev = c.rev; deleted = c.deleted }) else None) ≡ Some s → (b ≡ true) × (s ≡ record { seq = c.seq; rev = c.rev; deleted = c.deleted })
    go true h = (refl, sym (same_Some _ s h))
    go false h = absurd (none-some _ h)

-- at a change there is a document
changed_has : (es : List Entry) (user : List ℕ) (filter : Option (List (List ℕ))) (doc : List ℕ) → (changed es user filter doc ≡ []) ⊎ ((c : Current) × (current (changed es user filter doc) doc ≡ Some c))
changed_has [] user filter doc = inl refl
changed_has (e ∷ older) user filter doc =
    go (same_view (view (e ∷ older) user filter doc) (view older user filter doc)) refl (changed older user filter doc) (changed_has older user filter doc)
  where
    at : (a b : Option Shown) → view (e ∷ older) user filter doc ≡ a → view older user filter doc ≡ b → same_view a b ≡ false → (c : Current) × (current (e ∷ older) doc ≡ Some c)
    at None None h k x = absurd (false≢true (sym x))
    at None (Some s) h k x = let there = seen older user filter (current older doc) s k in stays e older doc there.0 there.1
    at (Some s) b h k x = let there = seen (e ∷ older) user filter (current (e ∷ older) doc) s h in (there.0, there.1)

    go : (b : Bool) → same_view (view (e ∷ older) user filter doc) (view older user filter doc) ≡ b → (before : List Entry) → (before ≡ []) ⊎ ((c : Current) × (current before doc ≡ Some c)) → ((if b then before else e ∷ older) ≡ []) ⊎ ((c : Current) × (current (if b then before else e ∷ older) doc ≡ Some c))
    go true h before x = x
    go false h before x = inr (at (view (e ∷ older) user filter doc) (view older user filter doc) refl refl h)

-- a row at a change says its place
module _ (user : List ℕ) (filter : Option (List (List ℕ))) (doc : List ℕ) where
  place_at : (at : List Entry) → (at ≡ []) ⊎ ((c : Current) × (current at doc ≡ Some c)) → place_by (row_at at user filter doc) ≡ length at
  place_at [] x = refl
  place_at (e ∷ older) (inl h) = absurd (cc)
  place_at (e ∷ older) (inr x) = go (current (e ∷ older) doc) x.0 x.1
    where
      go : (o : Option Current) (c : Current) → o ≡ Some c → place_by (row_with (length older + 1) (writes e doc) (view_of (e ∷ older) user filter o) doc o) ≡ length (e ∷ older)
      go None c h = absurd (none-some _ h)
      go (Some d) c h = omega arith

pub place_now : (es : List Entry) (user : List ℕ) (filter : Option (List (List ℕ))) (doc : List ℕ) → place_by (row_of es user filter doc) ≡ length (changed es user filter doc)
place_now es user filter doc = place_at user filter doc (changed es user filter doc) (changed_has es user filter doc)
