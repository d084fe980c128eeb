-- Messages by their stamps, as a list: the first of those that pass.
use Rattle.std.proofs.Common.{◌≡◌, ℕ, ◌<◌, ◌≤◌, Bool, true, false, ◌||◌, cond, eqb, List, [], ◌∷◌, ◌++◌, Some, None, refl, sym, ap, ◌∙◌, arith, ◌⊎◌, inl, inr}
use Rattle.std.specs.Prelude.{Option, find}
use Rattle.std.specs.List.{list_any}
use Rattle.std.specs.List.Sorted.{IsStrictlySortedBy}
use Rattle.std.specs.Map.{keys_of, values_of}
use Rattle.std.specs.BTreeMap.{is_at, insert_entry}
use Rattle.std.specs.Ordering.{nat_cmp, match_ordering}
use Rattle.std.specs.declared.cmp.Ordering.TheVariants.{Less, Equal, Greater}
use Rattle.std.specs.Cmp.{unsigned_tied, nat_cmp_is}
use Rattle.std.proofs.lemmas.Cmp.{ranked}
use Rattle.std.proofs.lemmas.Bool.{eqb-true, eq-eqb, ne_eqb, cases_lt}
use Rattle.std.proofs.lemmas.Map.Keys.{sorted_head, sorted_tail}
use Rattle.std.specs.List.{AllByRecursion}
use Rattle.blip_frame.specs.declared.frame.Kind.{Kind}
use Rattle.blip_mux.specs.Sending.{Waiting, taken_out, is_of, acked, acked_in}
use Rattle.blip_mux.specs.inner.Entries.{Entries, look, with_message, without}
use Rattle.blip_mux.proofs.Cuts.{Found, behind}

-- ---- the test of a stamp

pub at_is : (s k : ℕ) → is_at (nat_cmp s) k ≡ eqb s k
at_is s k = unsigned_tied s k

pub at_other : (s k : ℕ) → (s ≡ k → ⊥) → is_at (nat_cmp s) k ≡ false
at_other s k differ = at_is s k ∙ ne_eqb s k differ

pub at_same : (s k : ℕ) → s ≡ k → is_at (nat_cmp s) k ≡ true
at_same s k same = at_is s k ∙ eq-eqb s k same

pub look_head : (s : ℕ) (e : ℕ × Waiting) (es : Entries) → s ≡ e.0 → look (e ∷ es) s ≡ Some e.1
look_head s e es same = ap (λ (b : Bool). cond b (Some e.1) (look es s)) (at_same s e.0 same)

pub look_tail : (s : ℕ) (e : ℕ × Waiting) (es : Entries) → (s ≡ e.0 → ⊥) → look (e ∷ es) s ≡ look es s
look_tail s e es differ = ap (λ (b : Bool). cond b (Some e.1) (look es s)) (at_other s e.0 differ)

pub some_none : {A : Type 0} {C : Type 0} {a : A} → Some a ≡ None → C
some_none e = absurd cc

-- the stamps behind the first are above it
above_all : (k : ℕ) (es : Entries) → AllByRecursion (λ y. nat_cmp k y ≡ Less) (keys_of es) → (q : ℕ) (w : Waiting) → look es q ≡ Some w → k < q
above_all k [] all q w at = absurd cc
above_all k (e ∷ es) all q w at = go (is_at (nat_cmp q) e.0) (λ is. eqb-true q e.0 (sym (at_is q e.0) ∙ is)) at (λ h. above_all k es all.1 q w h) where
  go : (b : Bool) → (b ≡ true → q ≡ e.0) → cond b (Some e.1) (look es q) ≡ Some w → (look es q ≡ Some w → k < q) → k < q
  go true same at rest = let below : k < e.0 = ranked k e.0 Less (sym all.0) in let s = same refl in omega arith
  go false same at rest = rest at

pub above : (e : ℕ × Waiting) (es : Entries) → IsStrictlySortedBy nat_cmp (keys_of (e ∷ es)) → (q : ℕ) (w : Waiting) → look es q ≡ Some w → e.0 < q
above e es sorted = above_all e.0 es (sorted_head nat_cmp e.0 (keys_of es) sorted)

pub look_behind : (e : ℕ × Waiting) (es : Entries) → IsStrictlySortedBy nat_cmp (keys_of (e ∷ es)) → (q : ℕ) (w : Waiting) → look es q ≡ Some w → look (e ∷ es) q ≡ Some w
look_behind e es sorted q w at = look_tail q e es (λ same. absurd (let h = above e es sorted q w at in omega arith)) ∙ at

-- ---- the messages before one of a stamp

-- each of these has a stamp below this one, at which it stands among all
abbrev pub AreBefore : ℕ → Entries → Entries → Type 0
AreBefore s es [] = Unit {0}
AreBefore s es (e ∷ front) = (e.0 < s) × (look es e.0 ≡ Some e.1) × AreBefore s es front

further : (e : ℕ × Waiting) (es : Entries) (s : ℕ) (front : Entries) → IsStrictlySortedBy nat_cmp (keys_of (e ∷ es)) → AreBefore s es front → AreBefore s (e ∷ es) front
further e es s [] sorted before = tt
further e es s (x ∷ front) sorted before = (before.0, look_behind e es sorted x.0 x.1 before.1, further e es s front sorted before.2)

pub record Parted (s : ℕ) (w : Waiting) (es : Entries) : Type 0 where
  pub front : Entries
  pub rear : Entries
  pub whole : es ≡ front ++ (s, w) ∷ rear
  pub others : without s es ≡ front ++ rear
  pub changed : (v : Waiting) → with_message s es v ≡ front ++ (s, v) ∷ rear
  pub before : AreBefore s es front

pub parted : (s : ℕ) (w : Waiting) (es : Entries) → IsStrictlySortedBy nat_cmp (keys_of es) → look es s ≡ Some w → Parted s w es
parted s w [] sorted at = absurd cc
parted s w (e ∷ es) sorted at = go (is_at (nat_cmp s) e.0) refl at (λ h. parted s w es (sorted_tail nat_cmp e.0 (keys_of es) sorted) h) where
  go : (b : Bool) → is_at (nat_cmp s) e.0 ≡ b → cond b (Some e.1) (look es s) ≡ Some w → (look es s ≡ Some w → Parted s w es) → Parted s w (e ∷ es)
  go true is at behind_it =
      let same : s ≡ e.0 = eqb-true s e.0 (sym (at_is s e.0) ∙ is) in
      let its : e.1 ≡ w = cc in
      record {
        front = [];
        rear = es;
        whole = ap (λ (k : ℕ). (k, e.1) ∷ es) (sym same) ∙ ap (λ (v : Waiting). (s, v) ∷ es) its;
        others = ap (λ (b : Bool). cond b es (e ∷ without s es)) is;
        changed = λ v. ap (λ (b : Bool). cond b ((e.0, v) ∷ es) (e ∷ with_message s es v)) is ∙ ap (λ (k : ℕ). (k, v) ∷ es) (sym same);
        before = tt;
      }
  go false is at behind_it =
      let rest = behind_it at in
      record {
        front = e ∷ rest.front;
        rear = rest.rear;
        whole = ap (λ (xs : Entries). e ∷ xs) rest.whole;
        others = ap (λ (b : Bool). cond b es (e ∷ without s es)) is ∙ ap (λ (xs : Entries). e ∷ xs) rest.others;
        changed = λ v. ap (λ (b : Bool). cond b ((e.0, v) ∷ es) (e ∷ with_message s es v)) is ∙ ap (λ (xs : Entries). e ∷ xs) (rest.changed v);
        before = (above e es sorted s w at, look_head e.0 e es refl, further e es s rest.front sorted rest.before);
      }

-- ---- those that pass

abbrev pub AllFail : (Waiting → Bool) → Entries → Type 0
AllFail p [] = Unit {0}
AllFail p (e ∷ es) = (p e.1 ≡ false) × AllFail p es

before_fail : (p : Waiting → Bool) (s : ℕ) (es front : Entries) → AreBefore s es front → ((q : ℕ) (v : Waiting) → q < s → look es q ≡ Some v → p v ≡ false) → AllFail p front
before_fail p s es [] before fails = tt
before_fail p s es (e ∷ front) before fails = (fails e.0 e.1 before.0 before.1, before_fail p s es front before.2 fails)

all_fail : (p : Waiting → Bool) (es : Entries) → IsStrictlySortedBy nat_cmp (keys_of es) → ((q : ℕ) (v : Waiting) → look es q ≡ Some v → p v ≡ false) → AllFail p es
all_fail p [] sorted fails = tt
all_fail p (e ∷ es) sorted fails =
    (fails e.0 e.1 (look_head e.0 e es refl), all_fail p es (sorted_tail nat_cmp e.0 (keys_of es) sorted) (λ q v at. fails q v (look_behind e es sorted q v at)))

taken_behind : (p : Waiting → Bool) (s : ℕ) (w : Waiting) (front rear : Entries) → AllFail p front → p w ≡ true → taken_out p (values_of (front ++ (s, w) ∷ rear)) ≡ Some (w, values_of (front ++ rear))
taken_behind p s w [] rear fail pass = ap (λ (b : Bool). cond {A = Found} b (Some (w, values_of rear)) (behind w (taken_out p (values_of rear)))) pass
taken_behind p s w (e ∷ front) rear fail pass =
    ap (λ (b : Bool). cond {A = Found} b (Some (e.1, values_of (front ++ (s, w) ∷ rear))) (behind e.1 (taken_out p (values_of (front ++ (s, w) ∷ rear))))) fail.0
    ∙ ap (behind e.1) (taken_behind p s w front rear fail.1 pass)

none_taken : (p : Waiting → Bool) (es : Entries) → AllFail p es → taken_out p (values_of es) ≡ None
none_taken p [] fail = refl
none_taken p (e ∷ es) fail =
    ap (λ (b : Bool). cond {A = Found} b (Some (e.1, values_of es)) (behind e.1 (taken_out p (values_of es)))) fail.0 ∙ ap (behind e.1) (none_taken p es fail.1)

found_behind : (p : Waiting → Bool) (s : ℕ) (w : Waiting) (front rear : Entries) → AllFail p front → p w ≡ true → find p (values_of (front ++ (s, w) ∷ rear)) ≡ Some w
found_behind p s w [] rear fail pass = ap (λ (b : Bool). cond b (Some w) (find p (values_of rear))) pass
found_behind p s w (e ∷ front) rear fail pass =
    ap (λ (b : Bool). cond b (Some e.1) (find p (values_of (front ++ (s, w) ∷ rear)))) fail.0 ∙ found_behind p s w front rear fail.1 pass

none_found : (p : Waiting → Bool) (es : Entries) → AllFail p es → find p (values_of es) ≡ None
none_found p [] fail = refl
none_found p (e ∷ es) fail = ap (λ (b : Bool). cond b (Some e.1) (find p (values_of es))) fail.0 ∙ none_found p es fail.1

any_behind : (p : Waiting → Bool) (s : ℕ) (w : Waiting) (front rear : Entries) → p w ≡ true → list_any p (values_of (front ++ (s, w) ∷ rear)) ≡ true
any_behind p s w [] rear pass = ap (λ (b : Bool). b || list_any p (values_of rear)) pass
any_behind p s w (e ∷ front) rear pass = go (p e.1) (any_behind p s w front rear pass) where
  go : (b : Bool) → list_any p (values_of (front ++ (s, w) ∷ rear)) ≡ true → (b || list_any p (values_of (front ++ (s, w) ∷ rear))) ≡ true
  go true rest = refl
  go false rest = rest

none_of_any : (p : Waiting → Bool) (es : Entries) → AllFail p es → list_any p (values_of es) ≡ false
none_of_any p [] fail = refl
none_of_any p (e ∷ es) fail = ap (λ (b : Bool). b || list_any p (values_of es)) fail.0 ∙ none_of_any p es fail.1

acked_behind : (kind : Kind) (number bytes : ℕ) (s : ℕ) (w : Waiting) (front rear : Entries) → AllFail (is_of kind number) front → is_of kind number w ≡ true
    → acked_in kind number bytes (values_of (front ++ (s, w) ∷ rear)) ≡ values_of (front ++ (s, acked bytes w) ∷ rear)
acked_behind kind number bytes s w [] rear fail pass =
    ap (λ (b : Bool). cond b (acked bytes w ∷ values_of rear) (w ∷ acked_in kind number bytes (values_of rear))) pass
acked_behind kind number bytes s w (e ∷ front) rear fail pass =
    ap (λ (b : Bool). cond b (acked bytes e.1 ∷ values_of (front ++ (s, w) ∷ rear)) (e.1 ∷ acked_in kind number bytes (values_of (front ++ (s, w) ∷ rear)))) fail.0
    ∙ ap (λ (ws : List Waiting). e.1 ∷ ws) (acked_behind kind number bytes s w front rear fail.1 pass)

none_acked : (kind : Kind) (number bytes : ℕ) (es : Entries) → AllFail (is_of kind number) es → acked_in kind number bytes (values_of es) ≡ values_of es
none_acked kind number bytes [] fail = refl
none_acked kind number bytes (e ∷ es) fail =
    ap (λ (b : Bool). cond b (acked bytes e.1 ∷ values_of es) (e.1 ∷ acked_in kind number bytes (values_of es))) fail.0
    ∙ ap (λ (ws : List Waiting). e.1 ∷ ws) (none_acked kind number bytes es fail.1)

-- ---- the same of messages that are found by their stamps

module _ (es : Entries) (sorted : IsStrictlySortedBy nat_cmp (keys_of es)) where
  pub out_of_all : (p : Waiting → Bool) (s : ℕ) (w : Waiting) → look es s ≡ Some w → p w ≡ true → ((q : ℕ) (v : Waiting) → q < s → look es q ≡ Some v → p v ≡ false)
      → taken_out p (values_of es) ≡ Some (w, values_of (without s es))
  out_of_all p s w at pass fails =
      let cut = parted s w es sorted at in
      ap (λ (xs : Entries). taken_out p (values_of xs)) cut.whole
      ∙ taken_behind p s w cut.front cut.rear (before_fail p s es cut.front cut.before fails) pass
      ∙ ap (λ (xs : Entries). Some (w, values_of xs)) (sym cut.others)

  pub none_out : (p : Waiting → Bool) → ((q : ℕ) (v : Waiting) → look es q ≡ Some v → p v ≡ false) → taken_out p (values_of es) ≡ None
  none_out p fails = none_taken p es (all_fail p es sorted fails)

  pub find_of : (p : Waiting → Bool) (s : ℕ) (w : Waiting) → look es s ≡ Some w → p w ≡ true → ((q : ℕ) (v : Waiting) → q < s → look es q ≡ Some v → p v ≡ false) → find p (values_of es) ≡ Some w
  find_of p s w at pass fails =
      let cut = parted s w es sorted at in
      ap (λ (xs : Entries). find p (values_of xs)) cut.whole ∙ found_behind p s w cut.front cut.rear (before_fail p s es cut.front cut.before fails) pass

  pub find_none : (p : Waiting → Bool) → ((q : ℕ) (v : Waiting) → look es q ≡ Some v → p v ≡ false) → find p (values_of es) ≡ None
  find_none p fails = none_found p es (all_fail p es sorted fails)

  pub any_of : (p : Waiting → Bool) (s : ℕ) (w : Waiting) → look es s ≡ Some w → p w ≡ true → list_any p (values_of es) ≡ true
  any_of p s w at pass = let cut = parted s w es sorted at in ap (λ (xs : Entries). list_any p (values_of xs)) cut.whole ∙ any_behind p s w cut.front cut.rear pass

  pub any_none : (p : Waiting → Bool) → ((q : ℕ) (v : Waiting) → look es q ≡ Some v → p v ≡ false) → list_any p (values_of es) ≡ false
  any_none p fails = none_of_any p es (all_fail p es sorted fails)

  pub acked_of_all : (kind : Kind) (number bytes : ℕ) (s : ℕ) (w : Waiting) → look es s ≡ Some w → is_of kind number w ≡ true → ((q : ℕ) (v : Waiting) → q < s → look es q ≡ Some v → is_of kind number v ≡ false)
      → acked_in kind number bytes (values_of es) ≡ values_of (with_message s es (acked bytes w))
  acked_of_all kind number bytes s w at pass fails =
      let cut = parted s w es sorted at in
      ap (λ (xs : Entries). acked_in kind number bytes (values_of xs)) cut.whole
      ∙ acked_behind kind number bytes s w cut.front cut.rear (before_fail (is_of kind number) s es cut.front cut.before fails) pass
      ∙ ap values_of (sym (cut.changed (acked bytes w)))

  pub acked_by_none : (kind : Kind) (number bytes : ℕ) → ((q : ℕ) (v : Waiting) → look es q ≡ Some v → is_of kind number v ≡ false) → acked_in kind number bytes (values_of es) ≡ values_of es
  acked_by_none kind number bytes fails = none_acked kind number bytes es (all_fail (is_of kind number) es sorted fails)

-- ---- a stamp above all

abbrev pub AreBelow : ℕ → Entries → Type 0
AreBelow k [] = Unit {0}
AreBelow k (e ∷ es) = (e.0 < k) × AreBelow k es

pub are_below : (k : ℕ) (es : Entries) → IsStrictlySortedBy nat_cmp (keys_of es) → ((q : ℕ) → k ≤ q → look es q ≡ None) → AreBelow k es
are_below k [] sorted none = tt
are_below k (e ∷ es) sorted none =
    (first (cases_lt e.0 k), are_below k es (sorted_tail nat_cmp e.0 (keys_of es) sorted) (λ q past. tail q past (look es q) refl)) where
      first : (e.0 < k) ⊎ (k ≤ e.0) → e.0 < k
      first (inl below) = below
      first (inr past) = some_none (sym (look_head e.0 e es refl) ∙ none e.0 past)

      tail : (q : ℕ) → k ≤ q → (o : Option Waiting) → look es q ≡ o → o ≡ None
      tail q past None is = refl
      tail q past (Some w) is = sym (look_behind e es sorted q w is) ∙ none q past

passed_by : {A : Type 0} (k x : ℕ) (l e g : A) → x < k → match_ordering (nat_cmp k x) l e g ≡ g
passed_by k x l e g below = ap (λ o. match_ordering o l e g) (sym (nat_cmp_is k x Greater below))

equal_by : {A : Type 0} (k : ℕ) (l e g : A) → match_ordering (nat_cmp k k) l e g ≡ e
equal_by k l e g = ap (λ o. match_ordering o l e g) (sym (nat_cmp_is k k Equal refl))

pub put_last : (k : ℕ) (v : Waiting) (es : Entries) → AreBelow k es → insert_entry nat_cmp es k v ≡ es ++ (k, v) ∷ []
put_last k v [] below = refl
put_last k v (e ∷ es) below =
    passed_by k e.0 ((k, v) ∷ e ∷ es) ((e.0, v) ∷ es) (e ∷ insert_entry nat_cmp es k v) below.0 ∙ ap (λ (xs : Entries). e ∷ xs) (put_last k v es below.1)

pub put_over : (k : ℕ) (u v : Waiting) (es : Entries) → AreBelow k es → insert_entry nat_cmp (es ++ (k, u) ∷ []) k v ≡ es ++ (k, v) ∷ []
put_over k u v [] below = equal_by k ((k, v) ∷ (k, u) ∷ []) ((k, v) ∷ []) ((k, u) ∷ (k, v) ∷ [])
put_over k u v (e ∷ es) below =
    passed_by k e.0 ((k, v) ∷ e ∷ es ++ (k, u) ∷ []) ((e.0, v) ∷ es ++ (k, u) ∷ []) (e ∷ insert_entry nat_cmp (es ++ (k, u) ∷ []) k v) below.0
    ∙ ap (λ (xs : Entries). e ∷ xs) (put_over k u v es below.1)

pub below_without : (k s : ℕ) (es : Entries) → AreBelow k es → AreBelow k (without s es)
below_without k s [] below = tt
below_without k s (e ∷ es) below = go (is_at (nat_cmp s) e.0) (below_without k s es below.1) where
  go : (b : Bool) → AreBelow k (without s es) → AreBelow k (cond b es (e ∷ without s es))
  go true rest = below.1
  go false rest = (below.0, rest)

pub without_front : (s : ℕ) (w : Waiting) (es ys : Entries) → look es s ≡ Some w → without s (es ++ ys) ≡ without s es ++ ys
without_front s w [] ys at = absurd cc
without_front s w (e ∷ es) ys at = go (is_at (nat_cmp s) e.0) at (λ h. without_front s w es ys h) where
  go : (b : Bool) → cond b (Some e.1) (look es s) ≡ Some w → (look es s ≡ Some w → without s (es ++ ys) ≡ without s es ++ ys)
      → cond b (es ++ ys) (e ∷ without s (es ++ ys)) ≡ cond b es (e ∷ without s es) ++ ys
  go true at rest = refl
  go false at rest = ap (λ (xs : Entries). e ∷ xs) (rest at)

pub without_last : (k : ℕ) (v : Waiting) (es : Entries) → AreBelow k es → without k (es ++ (k, v) ∷ []) ≡ es
without_last k v [] below = ap (λ (b : Bool). cond {A = Entries} b [] ((k, v) ∷ [])) (at_same k k refl)
without_last k v (e ∷ es) below =
    ap (λ (b : Bool). cond b (es ++ (k, v) ∷ []) (e ∷ without k (es ++ (k, v) ∷ []))) (at_other k e.0 (λ same. absurd (let h = below.0 in omega arith)))
    ∙ ap (λ (xs : Entries). e ∷ xs) (without_last k v es below.1)

pub values_last : (es : Entries) (k : ℕ) (v : Waiting) → values_of (es ++ (k, v) ∷ []) ≡ values_of es ++ v ∷ []
values_last [] k v = refl
values_last (e ∷ es) k v = ap (λ (ws : List Waiting). e.1 ∷ ws) (values_last es k v)
