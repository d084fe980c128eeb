-- where the periods of a channel begin or end, it is gained or lost
use Rattle.std.proofs.Common.{◌≡◌, ◌⊎◌, inl, inr, ◌<◌, ◌≤◌, ◌+◌, ◌-◌, ℕ, refl, sym, ◌∙◌, ap, subst, arith, Bool, true, false, ◌&&◌, ◌||◌, List, [], ◌∷◌, Option, Some, None}
use Rattle.std.specs.Prelude.{nat_le, nat_lt}
use Rattle.std.specs.List.{list_any}
use Rattle.std.specs.Str.{bytes_eq}
use Rattle.std.proofs.lemmas.Bool.{false≢true, true≢false, le-leb, leb-true, leb-false, lt-leb, lt-ltb, le-ltb, ltb-true, ltb-false}
use Rattle.sg_history.specs.declared.entries.Entry.{Entry}
use Rattle.sg_history.specs.History.{among}
use Rattle.log_views.specs.Sorted.{AreSorted}
use Rattle.grant_history.specs.declared.periods.Period.{Period}
use Rattle.grant_history.specs.Periods.{ArePeriods, ArePeriodsApart, EndsBeforeLater, HavePlaces, period_has, periods_have}
use Rattle.grant_tracks.specs.Spells.{EndsBefore, ends_after}
use Rattle.changes_feed.specs.inner.Bounds.{IsSteady, ends_within, is_bound, is_bound_of, is_within}
use Rattle.changes_feed.specs.Switches.{AreSwitches, IsSwitched, has_at}
use Rattle.changes_feed.proofs.OneOrder.{same_name}

and_parts : (a b : Bool) → (a && b) ≡ true → (a ≡ true) × (b ≡ true)
and_parts true b h = (refl, h)
and_parts false b h = absurd (false≢true h)

or_both : (a b : Bool) → (a || b) ≡ false → (a ≡ false) × (b ≡ false)
or_both true b h = absurd (true≢false h)
or_both false b h = (refl, h)

or_none : (a b : Bool) → a ≡ false → b ≡ false → (a || b) ≡ false
or_none true b h g = h
or_none false b h g = g

and_left : (a b : Bool) → a ≡ false → (a && b) ≡ false
and_left true b h = absurd (true≢false h)
and_left false b h = refl

and_right : (a b : Bool) → b ≡ false → (a && b) ≡ false
and_right true b h = h
and_right false b h = refl

within_parts : (start front k : ℕ) → is_within start front k ≡ true → (start ≤ k) × (k ≤ front)
within_parts start front k h =
    let parts = and_parts (nat_le start k) (nat_le k front) h in
    (leb-true start k parts.0, leb-true k front parts.1)

within_is : (start front k : ℕ) → start ≤ k → k ≤ front → is_within start front k ≡ true
within_is start front k low high = ap (λ (b : Bool). b && nat_le k front) (le-leb start k low) ∙ le-leb k front high

-- a period begins or ends at a place
abbrev Ends : Option ℕ → ℕ → Type 0
Ends None k = ⊥
Ends (Some to) k = to ≡ k

abbrev At : Period → ℕ → Type 0
At p k = (p.from ≡ k) ⊎ Ends p.to k

record Bound (start front : ℕ) (p : Period) : Type 0 where
  place : ℕ
  first : start ≤ place
  last : place ≤ front
  at : At p place

bound_place : (start front : ℕ) (p : Period) → is_bound start front p ≡ true → Bound start front p
bound_place start front p h = by (is_within start front p.from) refl h
  where
    ended : (o : Option ℕ) → p.to ≡ o → ends_within start front o ≡ true → Bound start front p
    ended None is h = absurd (false≢true h)
    ended (Some to) is h =
        let parts = within_parts start front to h in
        record { place = to; first = parts.0; last = parts.1; at = inr (subst (λ (o : Option ℕ). Ends o to) (sym is) refl) }

    by : (b : Bool) → is_within start front p.from ≡ b → (b || ends_within start front p.to) ≡ true → Bound start front p
    by true is h =
        let parts = within_parts start front p.from is in
        record { place = p.from; first = parts.0; last = parts.1; at = inl refl }
    by false is h = ended p.to refl h

ended_before : (o : Option ℕ) (to j : ℕ) → o ≡ Some to → to ≤ j → ends_after o j ≡ false
ended_before o to j is le = ap (λ (o : Option ℕ). ends_after o j) is ∙ le-ltb j to le

lasts_until : (o : Option ℕ) (to j : ℕ) → o ≡ Some to → ends_after o j ≡ true → j < to
lasts_until o to j is h = ltb-true j to (sym (ap (λ (o : Option ℕ). ends_after o j) is) ∙ h)

-- a period that begins or ends at a place begins there at the latest, and ends there at the earliest
begun_there : (p : Period) (k : ℕ) → ends_after p.to p.from ≡ true → At p k → p.from ≤ k
begun_there p k place (inl is) = omega (arith, is)
begun_there p k place (inr is) = by p.to refl is
  where
    by : (o : Option ℕ) → p.to ≡ o → Ends o k → p.from ≤ k
    by None at is = absurd is
    by (Some to) at is = omega (arith, is, lasts_until p.to to p.from at place)

ends_there : (p : Period) (k to : ℕ) → ends_after p.to p.from ≡ true → p.to ≡ Some to → At p k → k ≤ to
ends_there p k to place at (inl is) = omega (arith, is, lasts_until p.to to p.from at place)
ends_there p k to place at (inr is) = omega (arith, subst (λ (o : Option ℕ). Ends o k) at is)

module _ (c : List ℕ) where
  of_one : (p q : Period) → bytes_eq p.channel c ≡ true → bytes_eq q.channel c ≡ true → bytes_eq p.channel q.channel ≡ true
  of_one p q one other = ap (bytes_eq p.channel) (same_name q.channel c other) ∙ one

  -- behind one that begins or ends at a place no other has begun there
  later_none : (k : ℕ) (p : Period) (ps : List Period) → ends_after p.to p.from ≡ true → bytes_eq p.channel c ≡ true → At p k → EndsBeforeLater p ps → (j : ℕ) → j ≤ k → periods_have ps c j ≡ false
  later_none k p [] place own at before j le = refl
  later_none k p (q ∷ qs) place own at before j le =
      or_none (bytes_eq q.channel c && period_has j q) (periods_have qs c j) (by (bytes_eq q.channel c) refl) (later_none k p qs place own at before.1 j le)
    where
      by : (b : Bool) → bytes_eq q.channel c ≡ b → (b && period_has j q) ≡ false
      by false other = refl
      by true same =
          let ends : EndsBefore p.to q.from = before.0 (of_one p q own same) in
          and_left (nat_le q.from j) (ends_after q.to j) (lt-leb q.from j (omega (arith, le, ends_there p k ends.0 place ends.1 at, ends.2)))

  -- it is gained or lost there
  own_turns : (k : ℕ) (p : Period) → 0 < k → ends_after p.to p.from ≡ true → At p k → ¬ (period_has k p ≡ period_has (k - 1) p)
  own_turns k p pos place (inl is) same =
      let now : period_has k p ≡ true = ap (λ (b : Bool). b && ends_after p.to k) (le-leb p.from k (omega (arith, is))) ∙ ap (ends_after p.to) (sym is) ∙ place in
      let then : period_has (k - 1) p ≡ false = and_left (nat_le p.from (k - 1)) (ends_after p.to (k - 1)) (lt-leb p.from (k - 1) (omega (arith, is, pos))) in
      true≢false (sym now ∙ same ∙ then)
  own_turns k p pos place (inr is) same = by p.to refl is
    where
      by : (o : Option ℕ) → p.to ≡ o → Ends o k → ⊥
      by None at is = is
      by (Some to) at is =
          let begun : p.from < to = lasts_until p.to to p.from at place in
          let now : period_has k p ≡ false = and_right (nat_le p.from k) (ends_after p.to k) (ended_before p.to to k at (omega (arith, is))) in
          let on : ends_after p.to (k - 1) ≡ true = ap (λ (o : Option ℕ). ends_after o (k - 1)) at ∙ lt-ltb (k - 1) to (omega (arith, is, pos)) in
          let then : period_has (k - 1) p ≡ true = ap (λ (b : Bool). b && ends_after p.to (k - 1)) (le-leb p.from (k - 1) (omega (arith, is, begun))) ∙ on in
          true≢false (sym then ∙ sym same ∙ now)

  record Turned (ps : List Period) (start front : ℕ) : Type 0 where
    place : ℕ
    first : start ≤ place
    last : place ≤ front
    turns : ¬ (periods_have ps c place ≡ periods_have ps c (place - 1))
    ended : (p : Period) → bytes_eq p.channel c ≡ true → EndsBeforeLater p ps → (j : ℕ) → place ≤ j + 1 → ends_after p.to j ≡ false

  or_left_none : (a b : Bool) → b ≡ false → (a || b) ≡ a
  or_left_none true b h = refl
  or_left_none false b h = h

  turned : (ps : List Period) (start front : ℕ) → 0 < start → ArePeriodsApart ps → HavePlaces ps → list_any (is_bound_of start front c) ps ≡ true → Turned ps start front
  turned [] start front pos apart places h = absurd (false≢true h)
  turned (p ∷ ps) start front pos apart places h = by (is_bound_of start front c p) refl h (λ h. turned ps start front pos apart.1 places.1 h)
    where
      here : bytes_eq p.channel c ≡ true → Bound start front p → Turned (p ∷ ps) start front
      here own b =
          let k = b.place in
          let none : (j : ℕ) → j ≤ k → periods_have (p ∷ ps) c j ≡ period_has j p =
          λ j le. or_left_none (bytes_eq p.channel c && period_has j p) (periods_have ps c j) (later_none k p ps places.0 own b.at apart.0 j le)
          ∙ ap (λ (o : Bool). o && period_has j p) own in
          record {
            place = k;
            first = b.first;
            last = b.last;
            turns = λ same. own_turns k p (omega (arith, pos, b.first)) places.0 b.at (sym (none k (omega arith)) ∙ same ∙ none (k - 1) (omega arith));
            ended = λ q other before j le.
                let ends : EndsBefore q.to p.from = before.0 (of_one q p other own) in
                ended_before q.to ends.0 j ends.1 (omega (arith, le, ends.2, begun_there p k places.0 b.at));
          }

      there : Turned ps start front → Turned (p ∷ ps) start front
      there r =
          let first : (j : ℕ) → r.place ≤ j + 1 → periods_have (p ∷ ps) c j ≡ periods_have ps c j = λ j le. ap (λ (b : Bool). b || periods_have ps c j) (none (bytes_eq p.channel c) refl j le) in
          record {
            place = r.place;
            first = r.first;
            last = r.last;
            turns = λ same. r.turns (sym (first r.place (omega arith)) ∙ same ∙ first (r.place - 1) (omega arith));
            ended = λ q other before j le. r.ended q other before.1 j le;
          }
        where
          none : (b : Bool) → bytes_eq p.channel c ≡ b → (j : ℕ) → r.place ≤ j + 1 → (bytes_eq p.channel c && period_has j p) ≡ false
          none false is j le = and_left (bytes_eq p.channel c) (period_has j p) is
          none true is j le = and_right (bytes_eq p.channel c) (period_has j p) (and_right (nat_le p.from j) (ends_after p.to j) (r.ended p is apart.0 j le))

      by : (b : Bool) → is_bound_of start front c p ≡ b → (b || list_any (is_bound_of start front c) ps) ≡ true → (list_any (is_bound_of start front c) ps ≡ true → Turned ps start front) → Turned (p ∷ ps) start front
      by true is h rest = let parts = and_parts (bytes_eq p.channel c) (is_bound start front p) is in here parts.0 (bound_place start front p parts.1)
      by false is h rest = there (rest h)

  -- where none begins or ends it is neither gained nor lost
  le_before : (from k : ℕ) → 0 < k → ¬ (from ≡ k) → nat_le from k ≡ nat_le from (k - 1)
  le_before from k pos other = by (nat_le from k) (nat_le from (k - 1)) refl refl
    where
      by : (a b : Bool) → nat_le from k ≡ a → nat_le from (k - 1) ≡ b → a ≡ b
      by true true one two = refl
      by false false one two = refl
      by true false one two = absurd (other (omega (arith, pos, leb-true from k one, leb-false from (k - 1) two)))
      by false true one two = absurd (omega (arith, pos, leb-false from k one, leb-true from (k - 1) two))

  lt_before : (k to : ℕ) → 0 < k → ¬ (to ≡ k) → nat_lt k to ≡ nat_lt (k - 1) to
  lt_before k to pos other = by (nat_lt k to) (nat_lt (k - 1) to) refl refl
    where
      by : (a b : Bool) → nat_lt k to ≡ a → nat_lt (k - 1) to ≡ b → a ≡ b
      by true true one two = refl
      by false false one two = refl
      by true false one two = absurd (omega (arith, pos, ltb-true k to one, ltb-false (k - 1) to two))
      by false true one two = absurd (other (omega (arith, pos, ltb-false k to one, ltb-true (k - 1) to two)))

  module _ (start front k : ℕ) (pos : 0 < k) (low : start ≤ k) (high : k ≤ front) where
    stays_until : (o : Option ℕ) → ends_within start front o ≡ false → ends_after o k ≡ ends_after o (k - 1)
    stays_until None h = refl
    stays_until (Some to) h = lt_before k to pos (λ is. true≢false (sym (within_is start front to (omega (arith, is, low)) (omega (arith, is, high))) ∙ h))

    stays : (p : Period) → is_bound_of start front c p ≡ false → (bytes_eq p.channel c && period_has k p) ≡ (bytes_eq p.channel c && period_has (k - 1) p)
    stays p h = by (bytes_eq p.channel c) h
      where
        by : (b : Bool) → (b && is_bound start front p) ≡ false → (b && period_has k p) ≡ (b && period_has (k - 1) p)
        by false h = refl
        by true h =
            let parts = or_both (is_within start front p.from) (ends_within start front p.to) h in
            ap (λ (b : Bool). b && ends_after p.to k)
            (le_before p.from k pos (λ is. true≢false (sym (within_is start front p.from (omega (arith, is, low)) (omega (arith, is, high))) ∙ parts.0)))
            ∙ ap (λ (b : Bool). nat_le p.from (k - 1) && b) (stays_until p.to parts.1)

    stay : (ps : List Period) → list_any (is_bound_of start front c) ps ≡ false → periods_have ps c k ≡ periods_have ps c (k - 1)
    stay [] h = refl
    stay (p ∷ ps) h =
        let parts = or_both (is_bound_of start front c p) (list_any (is_bound_of start front c) ps) h in
        ap (λ (b : Bool). b || periods_have ps c k) (stays p parts.0)
        ∙ ap (λ (b : Bool). (bytes_eq p.channel c && period_has (k - 1) p) || b) (stay ps parts.1)

-- the channels of the periods that begin or end in a segment are those that the user gained or lost in it
pub are_switches : (periods : List Period) (channels : List (List ℕ)) (start front : ℕ) → 1 < start → AreSorted channels → ((c : List ℕ) → among channels c ≡ list_any (is_bound_of start front c) periods)
    → (entries : List Entry) (user : List ℕ) (last : ℕ) → front ≤ last → ArePeriods periods (has_at entries user) last → AreSwitches channels entries user start front
are_switches periods channels start front more sorted are entries user last behind is = record {
  in_order = sorted;
  are = λ c. (
    (λ h.
        let t = turned c periods start front (omega (arith, more)) is.apart is.have_places (sym (are c) ∙ h) in
        record {
          more = more;
          place = t.place;
          first = t.first;
          last = t.last;
          turns = λ same. t.turns (is.says c t.place (omega (arith, t.last, behind)) ∙ same ∙ sym (is.says c (t.place - 1) (omega (arith, t.last, behind))));
        }),
    (λ s. are c ∙ found c s (list_any (is_bound_of start front c) periods) refl),
  );
}
  where
    found : (c : List ℕ) → IsSwitched entries user start front c → (b : Bool) → list_any (is_bound_of start front c) periods ≡ b → b ≡ true
    found c s true h = refl
    found c s false h =
        absurd (s.turns (sym (is.says c s.place (omega (arith, s.last, behind)))
        ∙ stay c start front s.place (omega (arith, s.more, s.first)) s.first s.last periods h
        ∙ is.says c (s.place - 1) (omega (arith, s.last, behind))))

-- none where the segment begins with the log
pub no_switches : (entries : List Entry) (user : List ℕ) (start front : ℕ) → (¬ (1 < start)) ⊎ (front < start) → AreSwitches [] entries user start front
no_switches entries user start front none = record {
  in_order = refl;
  are = λ c. ((λ h. absurd (false≢true h)), (λ s. absurd (by none s)));
}
  where
    by : {c : List ℕ} → (¬ (1 < start)) ⊎ (front < start) → IsSwitched entries user start front c → ⊥
    by (inl begun) s = begun s.more
    by (inr past) s = omega (arith, past, s.first, s.last)

-- nor where the user has the same channels from a place before the segment on
pub none_when_steady : (entries : List Entry) (user : List ℕ) (changed start front last : ℕ) → changed < start → front ≤ last → IsSteady entries user changed last → AreSwitches [] entries user start front
none_when_steady entries user changed start front last before behind steady = record {
  in_order = refl;
  are = λ c. (
    (λ h. absurd (false≢true h)),
    (λ s. absurd (s.turns (
        steady s.place (omega (arith, before, s.first)) (omega (arith, s.last, behind)) c
        ∙ sym (steady (s.place - 1) (omega (arith, before, s.first)) (omega (arith, s.last, behind)) c)))),
  );
}
