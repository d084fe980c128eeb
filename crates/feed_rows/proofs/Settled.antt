-- the row of a document, by that where it was last renewed and by when it is shown
use Rattle.std.proofs.Common.{◌≡◌, inl, inr, ℕ, ◌+◌, ◌-◌, ◌<◌, ◌≤◌, refl, sym, ◌∙◌, ap, arith, Bool, true, false, ◌&&◌, if◌then◌else◌, List, [], ◌∷◌, length, Option, Some, None}
use Rattle.std.specs.Prelude.{is_some, nat_eq}
use Rattle.std.specs.Bool.{beq}
use Rattle.std.specs.List.{list_any}
use Rattle.std.proofs.Math.Path.{fun_ext}
use Rattle.std.proofs.lemmas.Bool.{false≢true, and_from, eq-eqb, eqb-true, ne_eqb, cases_lt}
use Rattle.std.proofs.lemmas.Option.{none-some}
use Rattle.sg_names.specs.RevId.{same_rev}
use Rattle.sg_names.specs.declared.rev_id.RevId.{RevId}
use Rattle.sg_history.specs.declared.entries.Entry.{Entry}
use Rattle.sg_history.specs.declared.entries.Entry.TheVariants as entry
use Rattle.sg_history.specs.declared.entries.Write.{Write}
use Rattle.sg_history.specs.History.{write_to}
use Rattle.sg_history.specs.Current.{Current, current}
use Rattle.sg_history.specs.Principals.{has_channel}
use Rattle.sg_history.specs.View.{Shown, every, passes, view, view_of, same_view}
use Rattle.sg_history.specs.Feed.{changed, row_at, row_of, row_with, writes}
use Rattle.feed_rows.specs.Known.{renews, row_before, since_renewed, view_when}
use Rattle.feed_rows.specs.PassAt.{Dated, IsNow}
use Rattle.feed_rows.specs.inner.Shown.{sought}
use Rattle.feed_rows.proofs.Names.{text_is_itself}
use Rattle.feed_rows.proofs.Steps.{Left, Unwritten, current_same, left_there, not_written_to, seq_is, seq_written, since_other, since_own}

-- a view is the same as itself
mark_is_itself : (b : Bool) → beq b b ≡ true
mark_is_itself true = refl
mark_is_itself false = refl

view_is_itself : (v : Option Shown) → same_view v v ≡ true
view_is_itself None = refl
view_is_itself (Some s) =
    and_from _ _ (and_from _ _ (eq-eqb s.seq s.seq refl) (and_from _ _ (eq-eqb s.rev.generation s.rev.generation refl) (text_is_itself s.rev.digest))) (mark_is_itself s.deleted)

and_true : (b : Bool) → b ≡ (b && true)
and_true true = refl
and_true false = refl

and_false : (b : Bool) → false ≡ (b && false)
and_false true = refl
and_false false = refl

sought_is : (has : List ℕ → Bool) (channels : List (List ℕ)) (p : Bool) → list_any has (if p then channels else []) ≡ (list_any has channels && p)
sought_is has channels true = and_true (list_any has channels)
sought_is has channels false = and_false (list_any has channels)

-- what is shown of a document, by the channels that the user has
view_is : (es : List Entry) (user : List ℕ) (filter : Option (List (List ℕ))) (c : Current) (has : List ℕ → Bool) → ((ch : List ℕ) → has ch ≡ has_channel es user ch) → view_of es user filter (Some c) ≡ view_when (list_any has (sought filter c.effects.channels)) c
view_is es user filter c has is =
    sym (ap (λ (b : Bool). view_when b c) (sought_is has (every ∷ c.effects.channels) (passes filter (every ∷ c.effects.channels)))
    ∙ ap (λ (f : List ℕ → Bool). view_when (list_any f (every ∷ c.effects.channels) && passes filter (every ∷ c.effects.channels)) c) (fun_ext is))

pub at_front : (has : List ℕ → ℕ → Bool) (user : List ℕ) (es : List Entry) → Dated has user es → IsNow has user es
at_front has user [] dated = dated
at_front has user (e ∷ older) dated = dated.0

differ : (c : Current) (a b : Bool) → ¬ (a ≡ b) → same_view (view_when a c) (view_when b c) ≡ false
differ c true true not = absurd (not refl)
differ c true false not = refl
differ c false true not = refl
differ c false false not = absurd (not refl)

-- the last change, where the newest entry changes what is shown, and where it does not
pub row_stays : (e : Entry) (older : List Entry) (user : List ℕ) (filter : Option (List (List ℕ))) (doc : List ℕ) → same_view (view (e ∷ older) user filter doc) (view older user filter doc) ≡ true → row_of (e ∷ older) user filter doc ≡ row_of older user filter doc
row_stays e older user filter doc h =
    ap (λ (b : Bool). row_at (if b then changed older user filter doc else e ∷ older) user filter doc) h

pub row_turns : (e : Entry) (older : List Entry) (user : List ℕ) (filter : Option (List (List ℕ))) (doc : List ℕ) → same_view (view (e ∷ older) user filter doc) (view older user filter doc) ≡ false → row_of (e ∷ older) user filter doc ≡ row_with (length older + 1) (writes e doc) (view (e ∷ older) user filter doc) doc (current (e ∷ older) doc)
row_turns e older user filter doc h =
    ap (λ (b : Bool). row_at (if b then changed older user filter doc else e ∷ older) user filter doc) h

-- a document that was never written has no row
pub settled_never : Unwritten → (es : List Entry) (user : List ℕ) (filter : Option (List (List ℕ))) (doc : List ℕ) → current es doc ≡ None → row_before es user filter doc ≡ row_of es user filter doc
settled_never law [] user filter doc is = refl
settled_never law (e ∷ older) user filter doc is = go (renews e older doc) refl (λ was. settled_never law older user filter doc was)
  where
    go : (b : Bool) → renews e older doc ≡ b → (current older doc ≡ None → row_before older user filter doc ≡ row_of older user filter doc) → row_before (e ∷ older) user filter doc ≡ row_of (e ∷ older) user filter doc
    go true h before = ap (λ (at : List Entry). row_of at user filter doc) (since_own e older doc h)
    go false h before =
        let was : current older doc ≡ None = sym (current_same law e older doc h) ∙ is in
        ap (λ (at : List Entry). row_of at user filter doc) (since_other e older doc h)
        ∙ before was
        ∙ sym (row_stays e older user filter doc
        (ap (λ (o : Option Current). same_view (view_of (e ∷ older) user filter o) (view older user filter doc)) is
        ∙ ap (λ (o : Option Current). same_view None (view_of older user filter o)) was))

pub shown_some : (b : Bool) (c : Current) → b ≡ is_some (view_when b c)
shown_some true c = refl
shown_some false c = refl

-- whether the document that is this is shown at a place
abbrev pub Test : (List ℕ → ℕ → Bool) → Option (List (List ℕ)) → Current → ℕ → Bool
Test has filter c k = list_any (λ ch. has ch k) (sought filter c.effects.channels)

module _ (has : List ℕ → ℕ → Bool) (user : List ℕ) (filter : Option (List (List ℕ))) (doc : List ℕ) where
  pub view_now : (es : List Entry) (c : Current) → Dated has user es → current es doc ≡ Some c → view es user filter doc ≡ view_when (Test has filter c (length es)) c
  view_now es c dated is =
      ap (view_of es user filter) is ∙ view_is es user filter c (λ ch. has ch (length es)) (at_front has user es dated)

  module _ (law : Unwritten) where
    module _ (c : Current) where
      -- a document that the newest entry does not renew
      module _ (e : Entry) (older : List Entry) (dated : Dated has user (e ∷ older)) (other : renews e older doc ≡ false) (is : current older doc ≡ Some c) where
        still : current (e ∷ older) doc ≡ Some c
        still = current_same law e older doc other ∙ is

        views : same_view (view (e ∷ older) user filter doc) (view older user filter doc) ≡ same_view (view_when (Test has filter c (length (e ∷ older))) c) (view_when (Test has filter c (length older)) c)
        views =
            ap (λ (v : Option Shown). same_view v (view older user filter doc)) (view_now (e ∷ older) c dated still)
            ∙ ap (λ (v : Option Shown). same_view (view_when (Test has filter c (length (e ∷ older))) c) v) (view_now older c dated.1 is)

        pub unturned : Test has filter c (length (e ∷ older)) ≡ Test has filter c (length older) → row_of (e ∷ older) user filter doc ≡ row_of older user filter doc
        unturned same =
            row_stays e older user filter doc (views ∙ ap (λ (b : Bool). same_view (view_when b c) (view_when (Test has filter c (length older)) c)) same ∙ view_is_itself (view_when (Test has filter c (length older)) c))

        pub turned : ¬ (Test has filter c (length (e ∷ older)) ≡ Test has filter c (length older)) → row_of (e ∷ older) user filter doc ≡ row_with (length older + 1) false (view_when (Test has filter c (length (e ∷ older))) c) doc (Some c)
        turned not =
            row_turns e older user filter doc (views ∙ differ c _ _ not)
            ∙ ap (λ (o : Option Write). row_with (length older + 1) (is_some o) (view (e ∷ older) user filter doc) doc (current (e ∷ older) doc)) (not_written_to e older doc other)
            ∙ ap (λ (v : Option Shown). row_with (length older + 1) false v doc (current (e ∷ older) doc)) (view_now (e ∷ older) c dated still)
            ∙ ap (λ (o : Option Current). row_with (length older + 1) false (view_when (Test has filter c (length (e ∷ older))) c) doc o) still

      -- where it is shown at all places since it was last renewed, or at none
      pub settled_none : (es : List Entry) → Dated has user es → current es doc ≡ Some c → ((j : ℕ) → length (since_renewed es doc) ≤ j → j ≤ length es → Test has filter c j ≡ Test has filter c (length es)) → row_before es user filter doc ≡ row_of es user filter doc
      settled_none [] dated is same = absurd (none-some _ is)
      settled_none (e ∷ older) dated is same = go (renews e older doc) refl (λ was rest. settled_none older dated.1 was rest)
        where
          go : (b : Bool) → renews e older doc ≡ b → (current older doc ≡ Some c → ((j : ℕ) → length (since_renewed older doc) ≤ j → j ≤ length older → Test has filter c j ≡ Test has filter c (length older)) → row_before older user filter doc ≡ row_of older user filter doc) → row_before (e ∷ older) user filter doc ≡ row_of (e ∷ older) user filter doc
          go true h before = ap (λ (at : List Entry). row_of at user filter doc) (since_own e older doc h)
          go false h before =
              let was : current older doc ≡ Some c = sym (current_same law e older doc h) ∙ is in
              let high : length (since_renewed older doc) ≤ length older = (seq_is law older doc c was).since in
              let since : length (since_renewed (e ∷ older) doc) ≡ length (since_renewed older doc) = ap length (since_other e older doc h) in
              let step : Test has filter c (length older) ≡ Test has filter c (length (e ∷ older)) = same (length older) (omega (arith, since, high)) (omega arith) in
              ap (λ (at : List Entry). row_of at user filter doc) (since_other e older doc h)
              ∙ before was (λ j a b. same j (omega (arith, since, a)) (omega (arith, b)) ∙ sym step)
              ∙ sym (unturned e older dated h was (sym step))

      -- where that changed last at this place
      pub settled_some : (es : List Entry) (by : ℕ) → Dated has user es → current es doc ≡ Some c → length (since_renewed es doc) < by → by ≤ length es → ((j : ℕ) → by ≤ j → j ≤ length es → Test has filter c j ≡ Test has filter c (length es)) → ¬ (Test has filter c (by - 1) ≡ Test has filter c (length es)) → row_with by false (view_when (Test has filter c (length es)) c) doc (Some c) ≡ row_of es user filter doc
      settled_some [] by dated is low high same not = absurd (none-some _ is)
      settled_some (e ∷ older) by dated is low high same not = go (renews e older doc) refl (λ was since le rest other. settled_some older by dated.1 was since le rest other)
        where
          -- it changed at the newest entry
          last : renews e older doc ≡ false → current older doc ≡ Some c → by ≡ length older + 1 → row_with by false (view_when (Test has filter c (length (e ∷ older))) c) doc (Some c) ≡ row_of (e ∷ older) user filter doc
          last h was at =
              let prior : by - 1 ≡ length older = omega (arith, at) in
              ap (λ (n : ℕ). row_with n false (view_when (Test has filter c (length (e ∷ older))) c) doc (Some c)) at
              ∙ sym (turned e older dated h was (λ k. not (ap (Test has filter c) prior ∙ sym k)))

          -- or before it
          earlier : renews e older doc ≡ false → current older doc ≡ Some c → by ≤ length older → length (since_renewed older doc) < by → (current older doc ≡ Some c → length (since_renewed older doc) < by → by ≤ length older → ((j : ℕ) → by ≤ j → j ≤ length older → Test has filter c j ≡ Test has filter c (length older)) → ¬ (Test has filter c (by - 1) ≡ Test has filter c (length older)) → row_with by false (view_when (Test has filter c (length older)) c) doc (Some c) ≡ row_of older user filter doc) → row_with by false (view_when (Test has filter c (length (e ∷ older))) c) doc (Some c) ≡ row_of (e ∷ older) user filter doc
          earlier h was le since before =
              let step : Test has filter c (length older) ≡ Test has filter c (length (e ∷ older)) = same (length older) le (omega arith) in
              ap (λ (b : Bool). row_with by false (view_when b c) doc (Some c)) (sym step)
              ∙ before was since le (λ j a b. same j a (omega (arith, b)) ∙ sym step) (λ k. not (k ∙ step))
              ∙ sym (unturned e older dated h was (sym step))

          go : (b : Bool) → renews e older doc ≡ b → (current older doc ≡ Some c → length (since_renewed older doc) < by → by ≤ length older → ((j : ℕ) → by ≤ j → j ≤ length older → Test has filter c j ≡ Test has filter c (length older)) → ¬ (Test has filter c (by - 1) ≡ Test has filter c (length older)) → row_with by false (view_when (Test has filter c (length older)) c) doc (Some c) ≡ row_of older user filter doc) → row_with by false (view_when (Test has filter c (length (e ∷ older))) c) doc (Some c) ≡ row_of (e ∷ older) user filter doc
          go true h before =
              let all : length (since_renewed (e ∷ older) doc) ≡ length (e ∷ older) = ap length (since_own e older doc h) in
              absurd (omega (arith, all, low, high))
          go false h before =
              let was : current older doc ≡ Some c = sym (current_same law e older doc h) ∙ is in
              let since : length (since_renewed (e ∷ older) doc) ≡ length (since_renewed older doc) = ap length (since_other e older doc h) in
              elim (cases_lt (length older) by) [
                | inl past ↦ last h was (omega (arith, past, high))
                | inr within ↦ earlier h was within (omega (arith, since, low)) before
              ]

    -- a document that the newest entry renews
    module _ (e : Entry) (es : List Entry) (now : Current) (dated : Dated has user (e ∷ es)) (is : current (e ∷ es) doc ≡ Some now) where
      seen : (shown : Bool) → shown ≡ Test has filter now (length (e ∷ es)) → view (e ∷ es) user filter doc ≡ view_when shown now
      seen shown at = view_now (e ∷ es) now dated is ∙ ap (λ (b : Bool). view_when b now) (sym at)

      -- it is a write of the document where the document's last write stands at its place
      pub wrote_is : nat_eq now.seq (length es + 1) ≡ writes e doc
      wrote_is = go (write_to e doc) refl
        where
          go : (o : Option Write) → write_to e doc ≡ o → nat_eq now.seq (length es + 1) ≡ writes e doc
          go None h =
              let l = left_there law e es doc now h is in
              let before = seq_is law es doc l.0 l.1 in
              ne_eqb now.seq (length es + 1) (λ same. omega (arith, same, l.2.seq, before.seq, before.since)) ∙ sym (ap (λ (o : Option Write). is_some o) h)
          go (Some w) h = eq-eqb now.seq (length es + 1) (seq_written e es doc w now h is) ∙ sym (ap (λ (o : Option Write). is_some o) h)

      turns : (wrote shown : Bool) → wrote ≡ writes e doc → shown ≡ Test has filter now (length (e ∷ es)) → same_view (view_when shown now) (view es user filter doc) ≡ false → row_with (length es + 1) wrote (view_when shown now) doc (Some now) ≡ row_of (e ∷ es) user filter doc
      turns wrote shown own at other =
          sym (row_turns e es user filter doc (ap (λ (v : Option Shown). same_view v (view es user filter doc)) (seen shown at) ∙ other)
          ∙ ap (λ (b : Bool). row_with (length es + 1) b (view (e ∷ es) user filter doc) doc (current (e ∷ es) doc)) (sym own)
          ∙ ap (λ (v : Option Shown). row_with (length es + 1) wrote v doc (current (e ∷ es) doc)) (seen shown at)
          ∙ ap (λ (o : Option Current). row_with (length es + 1) wrote (view_when shown now) doc o) is)

      -- it is written, and shown
      pub turned_by_write : (wrote shown : Bool) → wrote ≡ nat_eq now.seq (length es + 1) → shown ≡ Test has filter now (length (e ∷ es)) → (wrote && shown) ≡ true → row_with (length es + 1) wrote (view_when shown now) doc (Some now) ≡ row_of (e ∷ es) user filter doc
      turned_by_write false shown own at both = absurd (false≢true both)
      turned_by_write true false own at both = absurd (false≢true both)
      turned_by_write true true own at both = turns true true (own ∙ wrote_is) at (go (current es doc) refl)
        where
          later : (c : Current) → current es doc ≡ Some c → nat_eq now.seq c.seq ≡ false
          later c was =
              let before = seq_is law es doc c was in
              let here : now.seq ≡ length es + 1 = eqb-true now.seq (length es + 1) (sym own) in
              ne_eqb now.seq c.seq (λ same. omega (arith, same, here, before.seq, before.since))

          by : (c : Current) → nat_eq now.seq c.seq ≡ false → (b : Bool) → same_view (view_when true now) (view_when b c) ≡ false
          by c h false = refl
          by c h true = ap (λ (b : Bool). (b && same_rev now.rev c.rev) && beq now.deleted c.deleted) h

          go : (o : Option Current) → current es doc ≡ o → same_view (view_when true now) (view es user filter doc) ≡ false
          go None h = ap (λ (o : Option Current). same_view (view_when true now) (view_of es user filter o)) h
          go (Some c) h =
              ap (λ (x : Option Shown). same_view (view_when true now) x) (view_now es c dated.1 h)
              ∙ by c (later c h) (Test has filter c (length es))

      -- it is shown and was not, or was shown and is not
      pub turned_by_view : (wrote shown was : Bool) → wrote ≡ nat_eq now.seq (length es + 1) → shown ≡ Test has filter now (length (e ∷ es)) → was ≡ is_some (view es user filter doc) → ¬ (shown ≡ was) → row_with (length es + 1) wrote (view_when shown now) doc (Some now) ≡ row_of (e ∷ es) user filter doc
      turned_by_view wrote shown was own at before not = turns wrote shown (own ∙ wrote_is) at (go shown (view es user filter doc) (λ same. not (same ∙ sym before)))
        where
          go : (b : Bool) (x : Option Shown) → ¬ (b ≡ is_some x) → same_view (view_when b now) x ≡ false
          go true None other = refl
          go true (Some x) other = absurd (other refl)
          go false None other = absurd (other refl)
          go false (Some x) other = refl

      -- it is shown as before
      pub unturned_there : (wrote shown was : Bool) → wrote ≡ nat_eq now.seq (length es + 1) → shown ≡ Test has filter now (length (e ∷ es)) → was ≡ is_some (view es user filter doc) → (wrote && shown) ≡ false → shown ≡ was → row_of es user filter doc ≡ row_of (e ∷ es) user filter doc
      unturned_there wrote shown was own at before not same =
          sym (row_stays e es user filter doc (ap (λ (v : Option Shown). same_view v (view es user filter doc)) (seen shown at) ∙ go wrote shown (own ∙ wrote_is) not (same ∙ before)))
        where
          no_write : (o : Option Write) → is_some o ≡ false → o ≡ None
          no_write None h = refl
          no_write (Some w) h = absurd (false≢true (sym h))

          hidden : (x : Option Shown) → false ≡ is_some x → same_view None x ≡ true
          hidden None h = refl
          hidden (Some x) h = absurd (false≢true h)

          left : (c : Current) → Left c now → (b : Bool) → true ≡ is_some (view_when b c) → same_view (view_when true now) (view_when b c) ≡ true
          left c l false h = absurd (false≢true (sym h))
          left c l true h =
              ap (λ (n : ℕ). (nat_eq n c.seq && same_rev now.rev c.rev) && beq now.deleted c.deleted) l.seq
              ∙ ap (λ (r : RevId). (nat_eq c.seq c.seq && same_rev r c.rev) && beq now.deleted c.deleted) l.rev
              ∙ ap (λ (b : Bool). (nat_eq c.seq c.seq && same_rev c.rev c.rev) && beq b c.deleted) l.deleted
              ∙ view_is_itself (view_when true c)

          unwritten : writes e doc ≡ false → true ≡ is_some (view es user filter doc) → same_view (view_when true now) (view es user filter doc) ≡ true
          unwritten none there =
              let l = left_there law e es doc now (no_write (write_to e doc) none) is in
              let v = view_now es l.0 dated.1 l.1 in
              ap (λ (x : Option Shown). same_view (view_when true now) x) v
              ∙ left l.0 l.2 (Test has filter l.0 (length es)) (there ∙ ap (λ (x : Option Shown). is_some x) v)

          go : (w b : Bool) → w ≡ writes e doc → (w && b) ≡ false → b ≡ is_some (view es user filter doc) → same_view (view_when b now) (view es user filter doc) ≡ true
          go w false own both there = hidden (view es user filter doc) there
          go true true own both there = absurd (false≢true (sym both))
          go false true own both there = unwritten (sym own) there

pub own_write : (w : Write) → write_to (entry.Write w) w.doc ≡ Some w
own_write w = ap (λ (b : Bool). if b then Some w else None) (text_is_itself w.doc)
