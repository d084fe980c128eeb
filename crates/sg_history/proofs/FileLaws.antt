-- a text is one file or has one first bad line, and not both
use Rattle.std.proofs.Common.{◌≡◌, ◌⊎◌, ℕ, suc, ◌+◌, ◌<◌, Bool, true, false, List, [], ◌∷◌, ◌++◌, length, reverse, refl, sym, ap, ◌∙◌, subst, arith, inl, inr, append_assoc}
use Rattle.std.proofs.lemmas.Bool.{false≢true}
use Rattle.std.proofs.lemmas.List.{reverse-append, append-nil}
use Rattle.sg_history.specs.declared.fault.BadLine.{BadLine}
use Rattle.sg_history.specs.declared.fault.Why.{Why}
use Rattle.sg_history.specs.declared.fault.Why.TheVariants as reason
use Rattle.sg_history.specs.Files.{LineGrammar, Begins, Stops, IsBadBehind, IsTitleFault, IsBadAmong, IsBadFile, AreAmong, IsFileOf, IsLawful, IsDecided}
use Rattle.sg_history.specs.Pieces.{pieces}
use Rattle.sg_history.proofs.PieceLemmas.{pieces-some}

line_at : (a b : BadLine) → a.place ≡ b.place → a.why ≡ b.why → a ≡ b
line_at a b place why = λ i. record { place = place i; why = why i }

pub reversed : {X : Type 0} (x : X) (xs older : List X) → reverse xs ++ x ∷ older ≡ reverse (x ∷ xs) ++ older
reversed x xs older = sym (ap (λ ys. ys ++ older) (reverse-append (x ∷ []) xs) ∙ append_assoc (reverse xs) (x ∷ []) older)

module _ {X : Type 0} (g : LineGrammar X) (lawful : IsLawful g) where
  stops_one : (older : List X) (lines : List (List ℕ)) (a b : Why) → Stops g older lines a → Stops g older lines b → a ≡ b
  stops_one older [] a b x y = absurd x
  stops_one older (end ∷ []) a b x y = x.0 ∙ sym y.0
  stops_one older (line ∷ next ∷ more) a b x y = lawful.one_fault older line a b x y

  -- two readings of lines that both stop are the same
  one_behind : (older : List X) (lines : List (List ℕ)) (xs ys : List X) (left other : List (List ℕ)) (a b : Why)
      → Begins g older lines xs left → Begins g older lines ys other → Stops g (reverse xs ++ older) left a → Stops g (reverse ys ++ older) other b
      → (length xs ≡ length ys) × (a ≡ b)
  one_behind older lines [] [] left other a b h k x y =
      (refl, stops_one older lines a b (subst (λ ls. Stops g older ls a) (sym h) x) (subst (λ ls. Stops g older ls b) (sym k) y))
  one_behind older [] (p ∷ xs) ys left other a b h k x y = absurd h
  one_behind older (end ∷ []) (p ∷ xs) ys left other a b h k x y = absurd h
  one_behind older [] [] (q ∷ ys) left other a b h k x y = absurd k
  one_behind older (end ∷ []) [] (q ∷ ys) left other a b h k x y = absurd k
  one_behind older (line ∷ next ∷ more) [] (q ∷ ys) left other a b h k x y =
      absurd (lawful.apart older line q a k.0 (subst (λ ls. Stops g older ls a) (sym h) x))
  one_behind older (line ∷ next ∷ more) (p ∷ xs) [] left other a b h k x y =
      absurd (lawful.apart older line p b h.0 (subst (λ ls. Stops g older ls b) (sym k) y))
  one_behind older (line ∷ next ∷ more) (p ∷ xs) (q ∷ ys) left other a b h k x y =
      let same : p ≡ q = lawful.one older line p q h.0 k.0 in
      let further = subst (λ o. Begins g (o ∷ older) (next ∷ more) xs left) same h.1 in
      let stop = subst (λ o. Stops g (reverse xs ++ o ∷ older) left a) same (subst (λ o. Stops g o left a) (sym (reversed p xs older)) x) in
      let more_same = one_behind (q ∷ older) (next ∷ more) xs ys left other a b further k.1 stop (subst (λ o. Stops g o other b) (sym (reversed q ys older)) y) in
      (ap suc more_same.0, more_same.1)

  -- lines that all say items do not stop
  none_behind : (older : List X) (lines : List (List ℕ)) (xs ys : List X) (left : List (List ℕ)) (why : Why)
      → Begins g older lines xs left → Begins g older lines ys ([] ∷ []) → g.may_end (reverse ys ++ older) ≡ true → ¬ (Stops g (reverse xs ++ older) left why)
  none_behind older lines [] [] left why h k ends x = (subst (λ ls. Stops g older ls why) (sym h ∙ k) x).1 (refl, ends)
  none_behind older [] (p ∷ xs) ys left why h k ends x = h
  none_behind older (end ∷ []) (p ∷ xs) ys left why h k ends x = h
  none_behind older [] [] (q ∷ ys) left why h k ends x = k
  none_behind older (end ∷ []) [] (q ∷ ys) left why h k ends x = k
  none_behind older (line ∷ next ∷ more) [] (q ∷ ys) left why h k ends x =
      lawful.apart older line q why k.0 (subst (λ ls. Stops g older ls why) (sym h) x)
  none_behind older (line ∷ next ∷ more) (p ∷ xs) [] left why h k ends x = cc (k)
  none_behind older (line ∷ next ∷ more) (p ∷ xs) (q ∷ ys) left why h k ends x =
      let same : p ≡ q = lawful.one older line p q h.0 k.0 in
      let further = subst (λ o. Begins g (o ∷ older) (next ∷ more) xs left) same h.1 in
      let stop = subst (λ o. Stops g (reverse xs ++ o ∷ older) left why) same (subst (λ o. Stops g o left why) (sym (reversed p xs older)) x) in
      none_behind (q ∷ older) (next ∷ more) xs ys left why further k.1 (ap g.may_end (reversed q ys older) ∙ ends) stop

  -- lines say the items of one list at most
  said_one : (older : List X) (lines : List (List ℕ)) (xs ys : List X) → Begins g older lines xs ([] ∷ []) → Begins g older lines ys ([] ∷ []) → xs ≡ ys
  said_one older lines [] [] h k = refl
  said_one older [] (p ∷ xs) ys h k = absurd h
  said_one older (end ∷ []) (p ∷ xs) ys h k = absurd h
  said_one older [] [] (q ∷ ys) h k = absurd k
  said_one older (end ∷ []) [] (q ∷ ys) h k = absurd k
  said_one older (line ∷ next ∷ more) [] (q ∷ ys) h k = absurd (cc (h))
  said_one older (line ∷ next ∷ more) (p ∷ xs) [] h k = absurd (cc (k))
  said_one older (line ∷ next ∷ more) (p ∷ xs) (q ∷ ys) h k =
      let same : p ≡ q = lawful.one older line p q h.0 k.0 in
      let more_same = said_one (q ∷ older) (next ∷ more) xs ys (subst (λ o. Begins g (o ∷ older) (next ∷ more) xs ([] ∷ [])) same h.1) k.1 in
      λ i. same i ∷ more_same i

  head_one : (first : List ℕ) (a b : Why) → IsTitleFault g.IsTitle first a → IsTitleFault g.IsTitle first b → a ≡ b
  head_one first a b x y = elim x [
    | inl ending ↦ elim y [
      | inl other ↦ ending.0 ∙ sym other.0
      | inr other ↦ absurd (other.1 ending.1)
    ]
    | inr head ↦ elim y [
      | inl other ↦ absurd (head.1 other.1)
      | inr other ↦ head.0 ∙ sym other.0
    ]
  ]

  behind_one : (lines : List (List ℕ)) (a b : BadLine) → IsBadBehind g lines a → IsBadBehind g lines b → a ≡ b
  behind_one lines a b x y =
      let both = one_behind [] lines x.items y.items x.left y.left a.why b.why x.begun y.begun
      (subst (λ o. Stops g o x.left a.why) (sym (append-nil (reverse x.items))) x.fault) (subst (λ o. Stops g o y.left b.why) (sym (append-nil (reverse y.items))) y.fault) in
      line_at a b (omega (arith, x.place, y.place, both.0)) both.1

  among_one : (lines : List (List ℕ)) (a b : BadLine) → IsBadAmong g lines a → IsBadAmong g lines b → a ≡ b
  among_one [] a b x y = absurd x
  among_one (first ∷ []) a b x y = line_at a b (x.0 ∙ sym y.0) (head_one first a.why b.why x.1 y.1)
  among_one (first ∷ next ∷ more) a b x y = elim x [
    | inl head ↦ elim y [
      | inl other ↦ line_at a b (head.0 ∙ sym other.0) (head.1 ∙ sym other.1)
      | inr other ↦ absurd (head.2 other.0)
    ]
    | inr behind ↦ elim y [
      | inl other ↦ absurd (other.2 behind.0)
      | inr other ↦ behind_one (next ∷ more) a b behind.1 other.1
    ]
  ]

  among_same : (lines : List (List ℕ)) (xs ys : List X) → AreAmong g lines xs → AreAmong g lines ys → xs ≡ ys
  among_same [] xs ys x y = absurd x
  among_same (first ∷ more) xs ys x y = said_one [] more xs ys x.1.0 y.1.0

  among_apart : (lines : List (List ℕ)) (bad : BadLine) (xs : List X) → IsBadAmong g lines bad → ¬ (AreAmong g lines xs)
  among_apart [] bad xs x y = x
  among_apart (first ∷ []) bad [] x y = cc (y.1.0)
  among_apart (first ∷ []) bad (p ∷ xs) x y = y.1.0
  among_apart (first ∷ next ∷ more) bad xs x y = elim x [
    | inl head ↦ head.2 y.0
    | inr behind ↦
        let is = behind.1 in
        none_behind [] (next ∷ more) is.items xs is.left bad.why is.begun y.1.0 (ap g.may_end (append-nil (reverse xs)) ∙ y.1.1)
        (subst (λ o. Stops g o is.left bad.why) (sym (append-nil (reverse is.items))) is.fault)
  ]

  -- a text is the file of one list of items at most
  pub file_same : (bytes : List ℕ) (xs ys : List X) → IsFileOf g bytes xs → IsFileOf g bytes ys → xs ≡ ys
  file_same bytes xs ys = among_same (pieces 10 bytes) xs ys

  -- it has one first bad line at most
  pub file_one_bad : (bytes : List ℕ) (a b : BadLine) → IsBadFile g bytes a → IsBadFile g bytes b → a ≡ b
  file_one_bad bytes a b = among_one (pieces 10 bytes) a b

  -- it has none where it is a file
  pub file_apart : (bytes : List ℕ) (bad : BadLine) (xs : List X) → IsBadFile g bytes bad → ¬ (IsFileOf g bytes xs)
  file_apart bytes bad xs = among_apart (pieces 10 bytes) bad xs

module _ {X : Type 0} (g : LineGrammar X) (decided : IsDecided g) where
  -- lines that say items up to one that stops
  abbrev IsStopped : List X → List (List ℕ) → Type 0
  IsStopped older lines = (xs : List X) × (left : List (List ℕ)) × (why : Why) × Begins g older lines xs left × Stops g (reverse xs ++ older) left why

  -- lines that all say items
  abbrev AreFine : List X → List (List ℕ) → Type 0
  AreFine older lines = (xs : List X) × Begins g older lines xs ([] ∷ []) × (g.may_end (reverse xs ++ older) ≡ true)

  fine_more : (older : List X) (line next : List ℕ) (more : List (List ℕ)) (p : X) → g.Says older line p → AreFine (p ∷ older) (next ∷ more)
      → AreFine older (line ∷ next ∷ more)
  fine_more older line next more p says later = (p ∷ later.0, (says, later.1), ap g.may_end (sym (reversed p later.0 older)) ∙ later.2)

  stopped_more : (older : List X) (line next : List ℕ) (more : List (List ℕ)) (p : X) → g.Says older line p → IsStopped (p ∷ older) (next ∷ more)
      → IsStopped older (line ∷ next ∷ more)
  stopped_more older line next more p says later =
      (p ∷ later.0, later.1, later.2, (says, later.3), subst (λ o. Stops g o later.1 later.2) (reversed p later.0 older) later.4)

  ending : (older : List X) (end : List ℕ) (ends : Bool) → g.may_end older ≡ ends → AreFine older (end ∷ []) ⊎ IsStopped older (end ∷ [])
  ending older [] true e = inl ([], refl, e)
  ending older [] false e = inr ([], [] ∷ [], reason.Ending, refl, (refl, λ both. false≢true (sym e ∙ both.1)))
  ending older (b ∷ bs) ends e = inr ([], (b ∷ bs) ∷ [], reason.Ending, refl, (refl, λ both. cc (both.0)))

  fine_or_stopped : (older : List X) (line : List ℕ) (more : List (List ℕ)) → AreFine older (line ∷ more) ⊎ IsStopped older (line ∷ more)
  fine_or_stopped older end [] = ending older end (g.may_end older) refl
  fine_or_stopped older line (next ∷ more) = elim (decided.either older line) [
    | inl says ↦ elim (fine_or_stopped (says.0 ∷ older) next more) [
      | inl fine ↦ inl (fine_more older line next more says.0 says.1 fine)
      | inr stopped ↦ inr (stopped_more older line next more says.0 says.1 stopped)
    ]
    | inr fails ↦ inr ([], line ∷ next ∷ more, fails.0, refl, fails.1)
  ]

  abbrev Either : List (List ℕ) → Type 0
  Either lines = ((xs : List X) × AreAmong g lines xs) ⊎ ((bad : BadLine) × IsBadAmong g lines bad)

  behind_either : (first next : List ℕ) (more : List (List ℕ)) → g.IsTitle first → Either (first ∷ next ∷ more)
  behind_either first next more is = elim (fine_or_stopped [] next more) [
    | inl fine ↦ inl (fine.0, (is, (fine.1, ap g.may_end (sym (append-nil (reverse fine.0))) ∙ fine.2)))
    | inr stopped ↦ inr (
      record { place = length stopped.0 + 2; why = stopped.2 },
      inr (
        is,
        record {
          items = stopped.0;
          left = stopped.1;
          begun = stopped.3;
          place = refl;
          fault = subst (λ o. Stops g o stopped.1 stopped.2) (append-nil (reverse stopped.0)) stopped.4;
        },
      ),
    )
  ]

  among_either : (lines : List (List ℕ)) → 0 < length lines → Either lines
  among_either [] some = absurd (omega arith)
  among_either (first ∷ []) some = elim (decided.title first) [
    | inl is ↦ inr (record { place = 1; why = reason.Ending }, (refl, inl (refl, is)))
    | inr other ↦ inr (record { place = 1; why = reason.Head }, (refl, inr (refl, other)))
  ]
  among_either (first ∷ next ∷ more) some = elim (decided.title first) [
    | inl is ↦ behind_either first next more is
    | inr other ↦ inr (record { place = 1; why = reason.Head }, inl (refl, refl, other))
  ]

  -- it is a file or has one
  pub file_either : (bytes : List ℕ) → ((xs : List X) × IsFileOf g bytes xs) ⊎ ((bad : BadLine) × IsBadFile g bytes bad)
  file_either bytes = among_either (pieces 10 bytes) (pieces-some 10 bytes)
