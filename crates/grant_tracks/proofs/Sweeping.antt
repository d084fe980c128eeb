-- a sweep that went on to the next place
use Rattle.std.proofs.Common.{◌≡◌, inl, inr, ◌<◌, ◌≤◌, ◌+◌, ◌-◌, ℕ, zero, suc, refl, sym, ◌∙◌, ap, subst, arith, Bool, true, false, ◌&&◌, ◌||◌, nat_le, nat_lt, List, [], ◌∷◌, ◌++◌, Option, Some, None}
use Rattle.std.specs.Prelude.{is_some}
use Rattle.std.proofs.lemmas.Bool.{cases_lt}
use Rattle.std.proofs.lemmas.Option.{none-some, same_Some}
use Rattle.grant_tracks.specs.declared.spells.Spell.{Spell}
use Rattle.grant_tracks.specs.declared.spells.Sweep.{Sweep}
use Rattle.grant_tracks.specs.Spells.{ends_after, spell_has, spells_have, EndsBefore, AllEndBefore, IsBeforeAll, AreApart, Stays, open_has, Swept}

any_append : (k : ℕ) (xs : List Spell) (s : Spell) → spells_have (xs ++ s ∷ []) k ≡ (spells_have xs k || spell_has k s)
any_append k [] s = by (spell_has k s)
  where
    by : (b : Bool) → (b || false) ≡ b
    by true = refl
    by false = refl
any_append k (x ∷ xs) s = ap (λ (b : Bool). spell_has k x || b) (any_append k xs s) ∙ by (spell_has k x)
  where
    by : (b : Bool) → (b || (spells_have xs k || spell_has k s)) ≡ ((b || spells_have xs k) || spell_has k s)
    by true = refl
    by false = refl

later_ends : (list : List Spell) (n m : ℕ) → n ≤ m → AllEndBefore list n → AllEndBefore list m
later_ends [] n m le h = tt
later_ends (s ∷ ss) n m le h = ((h.0.0, h.0.1, omega (arith, le, h.0.2)), omega (arith, le, h.1), later_ends ss n m le h.2)

-- spells that have ended have no later place
spell_over : (s : Spell) (n k : ℕ) → EndsBefore s.to n → n ≤ k + 1 → spell_has k s ≡ false
spell_over s n k ends le =
    ap (λ (o : Option ℕ). nat_le s.from k && ends_after o k) ends.1 ∙ grind (arith, ends.2, le)

over : (list : List Spell) (n k : ℕ) → AllEndBefore list n → n ≤ k + 1 → spells_have list k ≡ false
over [] n k h le = refl
over (s ∷ ss) n k h le = ap (λ (b : Bool). b || spells_have ss k) (spell_over s n k h.0 le) ∙ over ss n k h.2 le

ends_append : (list : List Spell) (s : Spell) (n : ℕ) → AllEndBefore list n → EndsBefore s.to n → s.from < n → AllEndBefore (list ++ s ∷ []) n
ends_append [] s n h e f = (e, f, tt)
ends_append (x ∷ xs) s n h e f = (h.0, h.1, ends_append xs s n h.2 e f)

before_append : (x : Spell) (list : List Spell) (s : Spell) → IsBeforeAll x list → EndsBefore x.to s.from → x.from < s.from → IsBeforeAll x (list ++ s ∷ [])
before_append x [] s h e f = (e, f, tt)
before_append x (y ∷ ys) s h e f = (h.0, h.1, before_append x ys s h.2 e f)

pub apart_append : (list : List Spell) (s : Spell) → AreApart list → AllEndBefore list s.from → ends_after s.to s.from ≡ true → AreApart (list ++ s ∷ [])
apart_append [] s h e some = (some, tt, tt)
apart_append (x ∷ xs) s h e some = (h.0, before_append x xs s h.1 e.0 e.1, apart_append xs s h.2 e.2 some)

pub swept_new : (sweep : Sweep) → sweep.list.items ≡ [] → sweep.begun ≡ None → (test : ℕ → Bool) → test 0 ≡ false → Swept sweep test 0
swept_new sweep empty none test first = record {
  says = λ j le.
      let here : j ≡ 0 = omega (arith, le) in
      ap (λ (l : List Spell). spells_have l j || open_has sweep.begun j) empty ∙ ap (λ (o : Option ℕ). open_has o j) none ∙ sym first ∙ ap test (sym here);
  now = ap (λ (o : Option ℕ). is_some o) none ∙ sym first;
  ended = subst (λ (l : List Spell). AllEndBefore l (0 + 1)) (sym empty) tt;
  begun = λ from is. absurd (none-some from (sym none ∙ is));
  apart = subst (λ (l : List Spell). AreApart l) (sym empty) tt;
}

pub swept_begun : (sweep : Sweep) → sweep.list.items ≡ [] → sweep.begun ≡ Some 0 → (test : ℕ → Bool) → test 0 ≡ true → Swept sweep test 0
swept_begun sweep empty some test first = record {
  says = λ j le.
      let here : j ≡ 0 = omega (arith, le) in
      ap (λ (l : List Spell). spells_have l j || open_has sweep.begun j) empty ∙ ap (λ (o : Option ℕ). open_has o j) some ∙ low j ∙ sym first ∙ ap test (sym here);
  now = ap (λ (o : Option ℕ). is_some o) some ∙ sym first;
  ended = subst (λ (l : List Spell). AllEndBefore l (0 + 1)) (sym empty) tt;
  begun = λ from is.
      let one : 0 ≡ from = same_Some 0 from (sym some ∙ is) in
      (omega (arith, one), subst (λ (l : List Spell). AllEndBefore l from) (sym empty) tt);
  apart = subst (λ (l : List Spell). AreApart l) (sym empty) tt;
}
  where
    low : (j : ℕ) → nat_le 0 j ≡ true
    low j = grind arith

module _ (old new : Sweep) (test : ℕ → Bool) (n k : ℕ) (s : Swept old test n) (place : k ≡ n + 1) where
  abbrev said : ℕ → Bool
  said j = spells_have new.list.items j || open_has new.begun j

  -- at places before, and at this one
  split : ((j : ℕ) → j ≤ n → said j ≡ (spells_have old.list.items j || open_has old.begun j)) → said k ≡ test k → (j : ℕ) → j ≤ k → said j ≡ test j
  split earlier here j le = elim (cases_lt j k) [
    | inl below ↦ earlier j (omega (arith, below, place)) ∙ s.says j (omega (arith, below, place))
    | inr above ↦ let one : j ≡ k = omega (arith, above, le) in ap said one ∙ here ∙ ap test (sym one)
  ]

  ended_later : AllEndBefore old.list.items (k + 1)
  ended_later = later_ends old.list.items (n + 1) (k + 1) (omega (arith, place)) s.ended

  -- it began
  pub begins : old.begun ≡ None → new.list ≡ old.list → new.begun ≡ Some k → test k ≡ true → Swept new test k
  begins none kept is holds = record {
    says = split
        (λ j le. ap (λ l. spells_have l.items j || open_has new.begun j) kept ∙ ap (λ (o : Option ℕ). spells_have old.list.items j || open_has o j) is
        ∙ ap (λ (b : Bool). spells_have old.list.items j || b) (early j le) ∙ ap (λ (o : Option ℕ). spells_have old.list.items j || open_has o j) (sym none))
        (ap (λ (o : Option ℕ). spells_have new.list.items k || open_has o k) is ∙ ap (λ (b : Bool). spells_have new.list.items k || b) (itself k) ∙ true_right (spells_have new.list.items k) ∙ sym holds);
    now = ap (λ (o : Option ℕ). is_some o) is ∙ sym holds;
    ended = subst (λ l. AllEndBefore l.items (k + 1)) (sym kept) ended_later;
    begun = λ from at.
        let one : k ≡ from = same_Some k from (sym is ∙ at) in
        (omega (arith, one), subst (λ l. AllEndBefore l.items from) (sym kept) (subst (λ (m : ℕ). AllEndBefore old.list.items m) (sym place ∙ one) s.ended));
    apart = subst (λ l. AreApart l.items) (sym kept) s.apart;
  }
    where
      early : (j : ℕ) → j ≤ n → nat_le k j ≡ false
      early j le = grind (arith, le, place)

      itself : (m : ℕ) → nat_le m m ≡ true
      itself m = grind arith

      true_right : (b : Bool) → (b || true) ≡ true
      true_right true = refl
      true_right false = refl

  -- it ended
  pub ends : (from : ℕ) → old.begun ≡ Some from → new.list.items ≡ old.list.items ++ record { from = from; to = Some k } ∷ [] → new.begun ≡ None → test k ≡ false → Swept new test k
  ends from was pushed none holds =
      let began = s.begun from was in
      record {
        says = split
            (λ j le. ap (λ (l : List Spell). spells_have l j || open_has new.begun j) pushed ∙ ap (λ (o : Option ℕ). spells_have (old.list.items ++ record { from = from; to = Some k } ∷ []) j || open_has o j) none
            ∙ or_none (spells_have (old.list.items ++ record { from = from; to = Some k } ∷ []) j) ∙ any_append j old.list.items (record { from = from; to = Some k })
            ∙ ap (λ (b : Bool). spells_have old.list.items j || b) (inside j le) ∙ ap (λ (o : Option ℕ). spells_have old.list.items j || open_has o j) (sym was))
            (ap (λ (l : List Spell). spells_have l k || open_has new.begun k) pushed ∙ ap (λ (o : Option ℕ). spells_have (old.list.items ++ record { from = from; to = Some k } ∷ []) k || open_has o k) none
            ∙ or_none (spells_have (old.list.items ++ record { from = from; to = Some k } ∷ []) k) ∙ over (old.list.items ++ record { from = from; to = Some k } ∷ []) (k + 1) k ended_new (omega arith) ∙ sym holds);
        now = ap (λ (o : Option ℕ). is_some o) none ∙ sym holds;
        ended = subst (λ (l : List Spell). AllEndBefore l (k + 1)) (sym pushed) ended_new;
        begun = λ f at. absurd (none-some f (sym none ∙ at));
        apart = subst (λ (l : List Spell). AreApart l) (sym pushed) (apart_append old.list.items (record { from = from; to = Some k }) s.apart began.1 lasting);
      }
    where
      ended_new : AllEndBefore (old.list.items ++ record { from = from; to = Some k } ∷ []) (k + 1)
      ended_new = ends_append old.list.items (record { from = from; to = Some k }) (k + 1) ended_later (k, refl, omega arith) (omega (arith, (s.begun from was).0, place))

      lasting : nat_lt from k ≡ true
      lasting = let below : from < k = omega (arith, (s.begun from was).0, place) in grind (arith, below)

      inside : (j : ℕ) → j ≤ n → (nat_le from j && nat_lt j k) ≡ nat_le from j
      inside j le = let below : j < k = omega (arith, le, place) in grind (arith, below)

      or_none : (b : Bool) → (b || false) ≡ b
      or_none true = refl
      or_none false = refl

  -- it goes on as before
  pub stays : new ≡ old → test k ≡ is_some old.begun → Swept new test k
  stays same holds = subst (λ (w : Sweep). Swept w test k) (sym same) still
    where
      here : (o : Option ℕ) → old.begun ≡ o → (spells_have old.list.items k || open_has o k) ≡ is_some o
      here None is = ap (λ (b : Bool). b || false) (over old.list.items (n + 1) k s.ended (omega (arith, place)))
      here (Some from) is =
          let began = s.begun from is in
          let low : from ≤ k = omega (arith, began.0, place) in
          ap (λ (b : Bool). b || nat_le from k) (over old.list.items (n + 1) k s.ended (omega (arith, place))) ∙ grind (arith, low)

      still : Swept old test k
      still = record {
        says = λ j le. elim (cases_lt j k) [
          | inl below ↦ s.says j (omega (arith, below, place))
          | inr above ↦
              let one : j ≡ k = omega (arith, above, le) in
              ap (λ (m : ℕ). spells_have old.list.items m || open_has old.begun m) one ∙ here old.begun refl ∙ sym holds ∙ ap test (sym one)
        ];
        now = sym holds;
        ended = ended_later;
        begun = λ from is. let began = s.begun from is in (omega (arith, began.0, place), began.1);
        apart = s.apart;
      }

-- a spell without an end is the last
pub last_apart : (list : List Spell) (from : ℕ) → AreApart list → AllEndBefore list from → AreApart (list ++ record { from = from; to = None } ∷ [])
last_apart list from apart before = apart_append list (record { from = from; to = None }) apart before refl

pub last_says : (list : List Spell) (from k : ℕ) → spells_have (list ++ record { from = from; to = None } ∷ []) k ≡ (spells_have list k || nat_le from k)
last_says list from k = any_append k list (record { from = from; to = None }) ∙ ap (λ (b : Bool). spells_have list k || b) (by (nat_le from k))
  where
    by : (b : Bool) → (b && true) ≡ b
    by true = refl
    by false = refl

pub finished : (sweep : Sweep) (test : ℕ → Bool) (n from : ℕ) (list : List Spell) → Swept sweep test n → sweep.begun ≡ Some from → list ≡ sweep.list.items ++ record { from = from; to = None } ∷ []
    → AreApart list × ((k : ℕ) → spells_have list k ≡ (spells_have sweep.list.items k || open_has sweep.begun k))
finished sweep test n from list s was pushed = (
  subst (λ (l : List Spell). AreApart l) (sym pushed) (last_apart sweep.list.items from s.apart (s.begun from was).1),
  λ k. ap (λ (l : List Spell). spells_have l k) pushed ∙ last_says sweep.list.items from k ∙ ap (λ (o : Option ℕ). spells_have sweep.list.items k || open_has o k) (sym was),
)

pub finished_none : (sweep : Sweep) (test : ℕ → Bool) (n : ℕ) → Swept sweep test n → sweep.begun ≡ None
    → AreApart sweep.list.items × ((k : ℕ) → spells_have sweep.list.items k ≡ (spells_have sweep.list.items k || open_has sweep.begun k))
finished_none sweep test n s none = (s.apart, λ k. sym (ap (λ (o : Option ℕ). spells_have sweep.list.items k || open_has o k) none ∙ by (spells_have sweep.list.items k)))
  where
    by : (b : Bool) → (b || false) ≡ b
    by true = refl
    by false = refl

-- a sweep is one up to each later place before which the test does not change
module _ (sweep : Sweep) (test : ℕ → Bool) (n : ℕ) (s : Swept sweep test n) where
  one_on : test (n + 1) ≡ test n → Swept sweep test (n + 1)
  one_on same = stays sweep sweep test n (n + 1) s refl refl (same ∙ sym s.now)

pub stretched : (sweep : Sweep) (test : ℕ → Bool) (n more : ℕ) → Swept sweep test n → ((j : ℕ) → n ≤ j → j ≤ n + more → test j ≡ test n) → Swept sweep test (n + more)
stretched sweep test n zero s same = subst (λ (m : ℕ). Swept sweep test m) (omega arith) s
stretched sweep test n (suc more) s same =
    let one : test (n + 1) ≡ test n = same (n + 1) (omega arith) (omega arith) in
    subst (λ (m : ℕ). Swept sweep test m) (omega arith)
    (stretched sweep test (n + 1) more (one_on sweep test n s one) (λ j le below. same j (omega (arith, le)) (omega (arith, below)) ∙ sym one))

-- a sweep up to a place is one up to each place before a later one, up to which the test does not change
pub swept_to : (sweep : Sweep) (test : ℕ → Bool) (n k : ℕ) → Swept sweep test n → n < k → Stays test n k → Swept sweep test (k - 1)
swept_to sweep test n k s below same =
    subst (λ (m : ℕ). Swept sweep test m) (omega (arith, below))
    (stretched sweep test n (k - 1 - n) s (λ j le to. same j le (omega (arith, to, below))))
