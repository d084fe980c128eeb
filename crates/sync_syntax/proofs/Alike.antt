-- What a rule reads of other tokens that begin alike: the same where it reads something, and the same fault where no rule reads the
-- next token. The other rule may be any of a family, such as that with so much more room; where too much is open, it is the first.
use Rattle.std.proofs.Common.{◌≡◌, ℕ, suc, ◌-◌, ◌≤◌, Bool, true, false, cond, [], ◌∷◌, ◌++◌, length, Ok, Err, refl, sym, subst, ap, ◌∙◌, append_assoc, arith}
use Rattle.sync_tokens.specs.Spellable.{IsLast, AreTokens}
use Rattle.sync_tokens.specs.declared.token.Kind.{Kind}
use Rattle.sync_tokens.specs.declared.token.Kind.TheVariants as kinds
use Rattle.sync_tokens.specs.declared.token.Sign.{Sign}
use Rattle.sync_tokens.specs.declared.token.Token.{Token}
use Rattle.sync_tokens.specs.declared.token.Word.{Word}
use Rattle.sync_syntax.specs.declared.fault.ParseFault.{ParseFault}
use Rattle.sync_syntax.specs.Reading.{Tokens, Outcome, Rule, read_then, kind, next, place, sees, sees_word, after, after_word, expect, expect_word, name_by, name_rule, refuse, refused_at, too_deep}
use Rattle.sync_syntax.specs.Faults.{is_written}
use Rattle.sync_syntax.specs.Grammar.{Takes}
use Rattle.sync_syntax.proofs.Holds.{sees-takes, sees_word-takes}

-- at least one, where that is said
abbrev pub Some : Bool → Tokens → Type 0
Some true [] = ⊥
Some _ _ = Unit {0}

pub record Passes {A : Type 0} (k : Bool) (rule : ℕ → Rule A) (ts : Tokens) (x : A) (us : Tokens) : Type 0 where
  pub before : Tokens
  pub token : Token
  pub rest : Tokens
  pub behind : us ≡ token ∷ rest
  pub split : ts ≡ before ++ token ∷ rest
  pub some : Some k before
  pub are : AreTokens (token ∷ rest)
  pub alike : (m : ℕ) (other : Tokens) → AreTokens (before ++ token ∷ other) → rule m (before ++ token ∷ other) ≡ Ok (x, token ∷ other)

pub data Stops {A : Type 0} (k : Bool) (rule : ℕ → Rule A) (ts : Tokens) (e : ParseFault) : Type 0 where
  deep : (before : Tokens) (token : Token) (rest : Tokens) → ts ≡ before ++ token ∷ rest → Some k before → e ≡ too_deep (token ∷ rest)
      → ((other : Tokens) → is_written token.kind (kind other) ≡ false → AreTokens (before ++ token ∷ other) → rule 0 (before ++ token ∷ other) ≡ Err e) → Stops k rule ts e
  unexpected : (before : Tokens) (token : Token) (rest : Tokens) → ts ≡ before ++ token ∷ rest → Some k before → e ≡ refused_at (token ∷ rest)
      → ((m : ℕ) (other : Tokens) → AreTokens (before ++ token ∷ other) → rule m (before ++ token ∷ other) ≡ Err e) → Stops k rule ts e

abbrev pub Alike : {A : Type 0} → Bool → Outcome A → (ℕ → Rule A) → Tokens → Type 0
Alike k (Ok p) rule ts = Passes k rule ts p.0 p.1
Alike k (Err e) rule ts = Stops k rule ts e

-- ---- tokens behind some

are_behind : (before : Tokens) (t : Token) (r : Tokens) → AreTokens (before ++ t ∷ r) → AreTokens (t ∷ r)
are_behind [] t r a = a
are_behind (u ∷ []) t r a = a.1
are_behind (u ∷ v ∷ us) t r a = are_behind (v ∷ us) t r a.1

are_rest : (before more : Tokens) (t : Token) (r : Tokens) → AreTokens (before ++ (more ++ t ∷ r)) → AreTokens (more ++ t ∷ r)
are_rest before [] t r a = are_behind before t r a
are_rest before (w ∷ ws) t r a = are_behind before w (ws ++ t ∷ r) a

some_more : (k : Bool) (xs ys : Tokens) → Some k xs → Some k (xs ++ ys)
some_more true [] ys h = absurd h
some_more true (x ∷ xs) ys h = tt
some_more false xs ys h = tt

-- ---- one rule after another

replay : {A : Type 0} (k : Bool) (rule : ℕ → Rule A) (ts : Tokens) (x : A) (us : Tokens) (p : Passes k rule ts x us) (more : Tokens) (t : Token) (r : Tokens) → us ≡ more ++ t ∷ r
    → (m : ℕ) (other : Tokens) → AreTokens (p.before ++ (more ++ t ∷ other)) → rule m (p.before ++ (more ++ t ∷ other)) ≡ Ok (x, more ++ t ∷ other)
replay k rule ts x us p [] t r is m other a =
    let e : p.token ∷ p.rest ≡ t ∷ r = sym p.behind ∙ is in
    let same : p.token ≡ t = cc in
    subst (λ w. AreTokens (p.before ++ w ∷ other) → rule m (p.before ++ w ∷ other) ≡ Ok (x, w ∷ other)) same (p.alike m other) a
replay k rule ts x us p (v ∷ vs) t r is m other a =
    let e : p.token ∷ p.rest ≡ v ∷ (vs ++ t ∷ r) = sym p.behind ∙ is in
    let same : p.token ≡ v = cc in
    subst (λ w. AreTokens (p.before ++ w ∷ (vs ++ t ∷ other)) → rule m (p.before ++ w ∷ (vs ++ t ∷ other)) ≡ Ok (x, w ∷ (vs ++ t ∷ other))) same (p.alike m (vs ++ t ∷ other)) a

module _ {A B : Type 0} (k : Bool) (rule : ℕ → Rule A) (more : ℕ → A → Rule B) (ts : Tokens) (x : A) (us : Tokens) (p : Passes k rule ts x us) where
  abbrev both : ℕ → Rule B
  both m vs = read_then (rule m vs) (more m)

  split_both : (before : Tokens) (t : Token) (r : Tokens) → us ≡ before ++ t ∷ r → ts ≡ (p.before ++ before) ++ t ∷ r
  split_both before t r is = p.split ∙ ap (λ z. p.before ++ z) (sym p.behind ∙ is) ∙ sym (append_assoc p.before before (t ∷ r))

  -- the second rule, behind the first
  run_both : (before : Tokens) (t : Token) (r : Tokens) (out : Outcome B) (m : ℕ) (other : Tokens) → us ≡ before ++ t ∷ r → AreTokens ((p.before ++ before) ++ t ∷ other)
      → (AreTokens (before ++ t ∷ other) → more m x (before ++ t ∷ other) ≡ out) → both m ((p.before ++ before) ++ t ∷ other) ≡ out
  run_both before t r out m other is a h =
      let e : (p.before ++ before) ++ t ∷ other ≡ p.before ++ (before ++ t ∷ other) = append_assoc p.before before (t ∷ other) in
      let b : AreTokens (p.before ++ (before ++ t ∷ other)) = subst AreTokens e a in
      ap (λ z. read_then (rule m z) (more m)) e ∙ ap (λ z. read_then z (more m)) (replay k rule ts x us p before t r is m other b) ∙ h (are_rest p.before before t other b)

  pub second_alike : (q : Outcome B) → Alike false q (λ m. more m x) us → Alike k q both ts
  second_alike (Ok y) q = record {
    before = p.before ++ q.before;
    token = q.token;
    rest = q.rest;
    behind = q.behind;
    split = split_both q.before q.token q.rest q.split;
    some = some_more k p.before q.before p.some;
    are = q.are;
    alike = λ m other a. run_both q.before q.token q.rest (Ok (y.0, q.token ∷ other)) m other q.split a (q.alike m other);
  }
  second_alike (Err e) (deep before t r is some fault h) =
      deep (p.before ++ before) t r (split_both before t r is) (some_more k p.before before p.some) fault (λ other none a. run_both before t r (Err e) 0 other is a (h other none))
  second_alike (Err e) (unexpected before t r is some fault h) =
      unexpected (p.before ++ before) t r (split_both before t r is) (some_more k p.before before p.some) fault (λ m other a. run_both before t r (Err e) m other is a (h m other))

pub bind_alike : {A B : Type 0} (k : Bool) (r : Outcome A) (rule : ℕ → Rule A) (f : A → Rule B) (more : ℕ → A → Rule B) (ts : Tokens) → Alike k r rule ts
    → ((x : A) (us : Tokens) → r ≡ Ok (x, us) → AreTokens us → Alike false (f x us) (λ m. more m x) us) → Alike k (read_then r f) (λ m vs. read_then (rule m vs) (more m)) ts
bind_alike k (Ok p) rule f more ts q h = second_alike k rule more ts p.0 p.1 q (f p.0 p.1) (h p.0 p.1 refl (subst AreTokens (sym q.behind) q.are))
bind_alike k (Err e) rule f more ts (deep before t r is some fault g) h = deep before t r is some fault (λ other none a. ap (λ z. read_then z (more 0)) (g other none a))
bind_alike k (Err e) rule f more ts (unexpected before t r is some fault g) h = unexpected before t r is some fault (λ m other a. ap (λ z. read_then z (more m)) (g m other a))

-- ---- rules that agree

record Begins (t : Token) (us : Tokens) : Type 0 where
  tail : Tokens
  is : us ≡ t ∷ tail

same_first : (t : Token) (r before : Tokens) (u : Token) (rest : Tokens) → t ∷ r ≡ before ++ u ∷ rest → (other : Tokens) → Begins t (before ++ u ∷ other)
same_first t r [] u rest is other = let same : t ≡ u = cc in record { tail = other; is = ap (λ z. z ∷ other) (sym same) }
same_first t r (w ∷ ws) u rest is other = let same : t ≡ w = cc in record { tail = ws ++ u ∷ other; is = ap (λ z. z ∷ (ws ++ u ∷ other)) (sym same) }

module _ {A : Type 0} (rule rule' : ℕ → Rule A) where
  -- at tokens with this first one
  module _ (t : Token) (r : Tokens) (same : (m : ℕ) (other : Tokens) → AreTokens (t ∷ other) → rule m (t ∷ other) ≡ rule' m (t ∷ other)) where
    at_first : (before : Tokens) (u : Token) (rest : Tokens) → t ∷ r ≡ before ++ u ∷ rest → (m : ℕ) (other : Tokens) → AreTokens (before ++ u ∷ other) → rule m (before ++ u ∷ other) ≡ rule' m (before ++ u ∷ other)
    at_first before u rest is m other a =
        let b : Begins t (before ++ u ∷ other) = same_first t r before u rest is other in
        subst (λ z. AreTokens z → rule m z ≡ rule' m z) (sym b.is) (same m b.tail) a

    pub first_alike : (k : Bool) (q : Outcome A) → Alike k q rule' (t ∷ r) → Alike k q rule (t ∷ r)
    first_alike k (Ok y) q = record {
      before = q.before;
      token = q.token;
      rest = q.rest;
      behind = q.behind;
      split = q.split;
      some = q.some;
      are = q.are;
      alike = λ m other a. at_first q.before q.token q.rest q.split m other a ∙ q.alike m other a;
    }
    first_alike k (Err e) (deep before u rest is some fault g) = deep before u rest is some fault (λ other none a. at_first before u rest is 0 other a ∙ g other none a)
    first_alike k (Err e) (unexpected before u rest is some fault g) = unexpected before u rest is some fault (λ m other a. at_first before u rest is m other a ∙ g m other a)

  -- at all tokens
  pub all_alike : ((m : ℕ) (us : Tokens) → AreTokens us → rule m us ≡ rule' m us) → (k : Bool) (q : Outcome A) (ts : Tokens) → AreTokens ts → Alike k q rule' ts → Alike k q rule ts
  all_alike same k q [] a h = absurd a
  all_alike same k q (t ∷ r) a h = first_alike t r (λ m other b. same m (t ∷ other) b) k q h

record BeginsTwo (t u : Token) (us : Tokens) : Type 0 where
  tail : Tokens
  is : us ≡ t ∷ u ∷ tail

same_two : (t u : Token) (r before : Tokens) (v : Token) (rest : Tokens) → Some true before → t ∷ u ∷ r ≡ before ++ v ∷ rest → (other : Tokens) → BeginsTwo t u (before ++ v ∷ other)
same_two t u r [] v rest some is other = absurd some
same_two t u r (w ∷ []) v rest some is other =
    let first : t ≡ w = cc in
    let second : u ≡ v = cc in
    record { tail = other; is = ap (λ z. z ∷ v ∷ other) (sym first) ∙ ap (λ z. t ∷ z ∷ other) (sym second) }
same_two t u r (w ∷ x ∷ xs) v rest some is other =
    let first : t ≡ w = cc in
    let second : u ≡ x = cc in
    record { tail = xs ++ v ∷ other; is = ap (λ z. z ∷ x ∷ (xs ++ v ∷ other)) (sym first) ∙ ap (λ z. t ∷ z ∷ (xs ++ v ∷ other)) (sym second) }

-- at tokens with these first two, where at least one is taken
module _ {A : Type 0} (rule rule' : ℕ → Rule A) (t u : Token) (r : Tokens) (same : (m : ℕ) (other : Tokens) → rule m (t ∷ u ∷ other) ≡ rule' m (t ∷ u ∷ other)) where
  at_two : (before : Tokens) (v : Token) (rest : Tokens) → Some true before → t ∷ u ∷ r ≡ before ++ v ∷ rest → (m : ℕ) (other : Tokens) → rule m (before ++ v ∷ other) ≡ rule' m (before ++ v ∷ other)
  at_two before v rest some is m other =
      let b : BeginsTwo t u (before ++ v ∷ other) = same_two t u r before v rest some is other in
      subst (λ z. rule m z ≡ rule' m z) (sym b.is) (same m b.tail)

  pub two_alike : (q : Outcome A) → Alike true q rule' (t ∷ u ∷ r) → Alike true q rule (t ∷ u ∷ r)
  two_alike (Ok y) q = record {
    before = q.before;
    token = q.token;
    rest = q.rest;
    behind = q.behind;
    split = q.split;
    some = q.some;
    are = q.are;
    alike = λ m other a. at_two q.before q.token q.rest q.some q.split m other ∙ q.alike m other a;
  }
  two_alike (Err e) (deep before v rest is some fault g) = deep before v rest is some fault (λ other none a. at_two before v rest some is 0 other ∙ g other none a)
  two_alike (Err e) (unexpected before v rest is some fault g) = unexpected before v rest is some fault (λ m other a. at_two before v rest some is m other ∙ g m other a)

pub loosely : {A : Type 0} (q : Outcome A) (rule : ℕ → Rule A) (ts : Tokens) → Alike true q rule ts → Alike false q rule ts
loosely (Ok y) rule ts q = record {
  before = q.before;
  token = q.token;
  rest = q.rest;
  behind = q.behind;
  split = q.split;
  some = tt;
  are = q.are;
  alike = q.alike;
}
loosely (Err e) rule ts (deep before v rest is some fault g) = deep before v rest is tt fault g
loosely (Err e) rule ts (unexpected before v rest is some fault g) = unexpected before v rest is tt fault g

-- ---- single steps

pub pure_alike : {A : Type 0} (x : A) (ts : Tokens) → AreTokens ts → Alike false (Ok (x, ts)) (λ m us. Ok (x, us)) ts
pure_alike x [] a = absurd a
pure_alike x (t ∷ r) a = record { before = []; token = t; rest = r; behind = refl; split = refl; some = tt; are = a; alike = λ m other b. refl }

pub token_alike : {A : Type 0} (x : A) (ts : Tokens) → (IsLast (kind ts) → ⊥) → AreTokens ts → Alike true (Ok (x, next ts)) (λ m us. Ok (x, next us)) ts
unfolding kind next
token_alike x [] other a = absurd a
token_alike x (t ∷ []) other a = absurd (other a)
token_alike x (t ∷ u ∷ r) other a = record { before = t ∷ []; token = u; rest = r; behind = refl; split = refl; some = tt; are = a.1; alike = λ m other b. refl }

pub refuse_alike : {A : Type 0} (ts : Tokens) → AreTokens ts → Alike {A = A} false (refuse ts) (λ m. refuse) ts
unfolding refused_at kind place
refuse_alike [] a = absurd a
refuse_alike (t ∷ r) a = unexpected [] t r refl tt refl (λ m other b. refl)

-- where nothing more may be open
pub deep_alike : {A : Type 0} (rule : ℕ → Rule A) (ts : Tokens) → ((us : Tokens) → rule 0 us ≡ Err (too_deep us)) → AreTokens ts → Alike false (Err (too_deep ts)) rule ts
unfolding too_deep kind place
deep_alike rule [] h a = absurd a
deep_alike rule (t ∷ r) h a = deep [] t r refl tt refl (λ other _ b. h (t ∷ other))

-- the same where that is so but of a name that is written
pub deep_unwritten : {A : Type 0} (rule : ℕ → Rule A) (t : Token) (r : Tokens) → ((other : Tokens) → is_written t.kind (kind other) ≡ false → rule 0 (t ∷ other) ≡ Err (too_deep (t ∷ other)))
    → Alike false (Err (too_deep (t ∷ r))) rule (t ∷ r)
unfolding too_deep kind place
deep_unwritten rule t r h = deep [] t r refl tt refl (λ other none b. h other none)

-- so much may be open at the family's first rule, and no less at another
pub record More (room : ℕ) (more : ℕ → ℕ) : Type 0 where
  pub first : more 0 ≡ room
  pub low : (m : ℕ) → room ≤ more m

pub one_less : (room : ℕ) (more : ℕ → ℕ) → More (suc room) more → More room (λ m. more m - 1)
one_less room more h = record { first = omega (arith, h.first); low = λ m. omega (arith, h.low m) }

next_past : (ts : Tokens) → (IsLast (kind ts) → ⊥) → AreTokens ts → AreTokens (next ts) × (suc (length (next ts)) ≤ length ts)
unfolding kind next
next_past [] other a = absurd a
next_past (t ∷ []) other a = absurd (other a)
next_past (t ∷ u ∷ ts) other a = (a.1, omega arith)

abbrev steps : ℕ → Rule (Unit {0})
steps m us = Ok (tt, next us)

-- what is read behind the next token
pub taken_alike : {B : Type 0} (f : Rule B) (deeper : ℕ → Rule B) (ts : Tokens) → (IsLast (kind ts) → ⊥) → AreTokens ts
    → (AreTokens (next ts) → suc (length (next ts)) ≤ length ts → Alike false (f (next ts)) deeper (next ts)) → Alike true (f (next ts)) (λ m us. deeper m (next us)) ts
taken_alike f deeper ts other a h =
    let p = next_past ts other a in
    let step : Alike {A = Unit {0}} true (Ok (tt, next ts)) steps ts = token_alike tt ts other a in
    second_alike true steps (λ m _. deeper m) ts tt (next ts) step (f (next ts)) (h p.0 p.1)

module _ {A : Type 0} (k : Bool) (test : Tokens → Bool) (x y : Outcome A) (f g : ℕ → Rule A) where
  test_by : (t : Token) (r : Tokens) (b : Bool) → ((other : Tokens) → test (t ∷ other) ≡ b) → (test (t ∷ r) ≡ true → Alike k x f (t ∷ r)) → (test (t ∷ r) ≡ false → Alike k y g (t ∷ r))
      → Alike k (cond b x y) (λ m us. cond (test us) (f m us) (g m us)) (t ∷ r)
  test_by t r true is h i = first_alike (λ m us. cond (test us) (f m us) (g m us)) f t r (λ m other _. ap (λ c. cond c (f m (t ∷ other)) (g m (t ∷ other))) (is other)) k x (h (is r))
  test_by t r false is h i = first_alike (λ m us. cond (test us) (f m us) (g m us)) g t r (λ m other _. ap (λ c. cond c (f m (t ∷ other)) (g m (t ∷ other))) (is other)) k y (i (is r))

-- by a test of the next token
pub test_alike : {A : Type 0} (k : Bool) (test : Tokens → Bool) → ((t : Token) (r other : Tokens) → test (t ∷ other) ≡ test (t ∷ r)) → (x y : Outcome A) (f g : ℕ → Rule A) (ts : Tokens) → AreTokens ts
    → (test ts ≡ true → Alike k x f ts) → (test ts ≡ false → Alike k y g ts) → Alike k (cond (test ts) x y) (λ m us. cond (test us) (f m us) (g m us)) ts
test_alike k test same x y f g [] a h i = absurd a
test_alike k test same x y f g (t ∷ r) a h i = test_by k test x y f g t r (test (t ∷ r)) (λ other. same t r other) h i

sees_first : (s : Sign) (t : Token) (r other : Tokens) → sees s (t ∷ other) ≡ sees s (t ∷ r)
unfolding sees kind
sees_first s t r other = refl

sees_word_first : (w : Word) (t : Token) (r other : Tokens) → sees_word w (t ∷ other) ≡ sees_word w (t ∷ r)
unfolding sees_word kind
sees_word_first w t r other = refl

pub see_alike : {A : Type 0} (k : Bool) (s : Sign) (x y : Outcome A) (f g : ℕ → Rule A) (ts : Tokens) → AreTokens ts
    → (sees s ts ≡ true → Alike k x f ts) → (sees s ts ≡ false → Alike k y g ts) → Alike k (cond (sees s ts) x y) (λ m us. cond (sees s us) (f m us) (g m us)) ts
see_alike k s x y f g ts a h i = test_alike k (sees s) (sees_first s) x y f g ts a h i

sign_no_last : (s : Sign) (ts : Tokens) → sees s ts ≡ true → IsLast (kind ts) → ⊥
sign_no_last s ts h l = let k : Takes (kinds.Sign s) ts (next ts) = sees-takes s ts h in subst IsLast k.is l

word_no_last : (w : Word) (ts : Tokens) → sees_word w ts ≡ true → IsLast (kind ts) → ⊥
word_no_last w ts h l = let k : Takes (kinds.Word w) ts (next ts) = sees_word-takes w ts h in subst IsLast k.is l

cond_after : {A : Type 0} (b : Bool) (f g : Rule A) (us : Tokens) → cond b f g (cond b (next us) us) ≡ cond b (f (next us)) (g us)
cond_after true f g us = refl
cond_after false f g us = refl

-- a sign is taken, if it comes next
pub eat_alike : {A : Type 0} (s : Sign) (f g : Rule A) (f' g' : ℕ → Rule A) (ts : Tokens) → AreTokens ts
    → (sees s ts ≡ true → AreTokens (next ts) → suc (length (next ts)) ≤ length ts → Alike false (f (next ts)) f' (next ts)) → (sees s ts ≡ false → Alike false (g ts) g' ts)
    → Alike false (cond (sees s ts) f g (after s ts)) (λ m us. cond (sees s us) (f' m) (g' m) (after s us)) ts
unfolding after
eat_alike s f g f' g' ts a h i =
    subst (λ (q : Outcome _). Alike false q (λ m us. cond (sees s us) (f' m) (g' m) (after s us)) ts) (sym (cond_after (sees s ts) f g ts))
    (all_alike (λ m us. cond (sees s us) (f' m) (g' m) (after s us)) (λ m us. cond (sees s us) (f' m (next us)) (g' m us)) (λ m us _. cond_after (sees s us) (f' m) (g' m) us) false
    (cond (sees s ts) (f (next ts)) (g ts)) ts a
    (see_alike false s (f (next ts)) (g ts) (λ m us. f' m (next us)) g' ts a (λ e. loosely (f (next ts)) (λ m us. f' m (next us)) ts (taken_alike f f' ts (sign_no_last s ts e) a (h e))) i))

pub eat_word_alike : {A : Type 0} (w : Word) (f g : Rule A) (f' g' : ℕ → Rule A) (ts : Tokens) → AreTokens ts
    → (sees_word w ts ≡ true → AreTokens (next ts) → suc (length (next ts)) ≤ length ts → Alike false (f (next ts)) f' (next ts)) → (sees_word w ts ≡ false → Alike false (g ts) g' ts)
    → Alike false (cond (sees_word w ts) f g (after_word w ts)) (λ m us. cond (sees_word w us) (f' m) (g' m) (after_word w us)) ts
unfolding after_word
eat_word_alike w f g f' g' ts a h i =
    subst (λ (q : Outcome _). Alike false q (λ m us. cond (sees_word w us) (f' m) (g' m) (after_word w us)) ts) (sym (cond_after (sees_word w ts) f g ts))
    (all_alike (λ m us. cond (sees_word w us) (f' m) (g' m) (after_word w us)) (λ m us. cond (sees_word w us) (f' m (next us)) (g' m us)) (λ m us _. cond_after (sees_word w us) (f' m) (g' m) us) false
    (cond (sees_word w ts) (f (next ts)) (g ts)) ts a
    (test_alike false (sees_word w) (sees_word_first w) (f (next ts)) (g ts) (λ m us. f' m (next us)) g' ts a (λ e. loosely (f (next ts)) (λ m us. f' m (next us)) ts (taken_alike f f' ts (word_no_last w ts e) a (h e))) i))

pub expect_alike : (s : Sign) (ts : Tokens) → AreTokens ts → Alike false (expect s ts) (λ m. expect s) ts
unfolding expect
expect_alike s ts a =
    see_alike false s (Ok (tt, next ts)) (refuse ts) (λ m us. Ok (tt, next us)) (λ m. refuse) ts a
    (λ e. loosely (Ok (tt, next ts)) (λ m us. Ok (tt, next us)) ts (token_alike tt ts (sign_no_last s ts e) a)) (λ _. refuse_alike ts a)

pub expect_word_alike : (w : Word) (ts : Tokens) → AreTokens ts → Alike false (expect_word w ts) (λ m. expect_word w) ts
unfolding expect_word
expect_word_alike w ts a =
    test_alike false (sees_word w) (sees_word_first w) (Ok (tt, next ts)) (refuse ts) (λ m us. Ok (tt, next us)) (λ m. refuse) ts a
    (λ e. loosely (Ok (tt, next ts)) (λ m us. Ok (tt, next us)) ts (token_alike tt ts (word_no_last w ts e) a)) (λ _. refuse_alike ts a)

-- a token of this kind, which is not the last
pub kind_alike : {A : Type 0} (x : A) (k : Kind) (ts : Tokens) → kind ts ≡ k → (IsLast k → ⊥) → AreTokens ts → Alike true (Ok (x, next ts)) (λ m us. Ok (x, next us)) ts
kind_alike x k ts is other a = token_alike x ts (λ l. other (subst IsLast is l)) a

name_by_alike : (k : Kind) (ts : Tokens) → kind ts ≡ k → AreTokens ts → Alike false (name_by k ts) (λ m. name_by k) ts
name_by_alike (kinds.Name n) ts is a = loosely (Ok (n, next ts)) (λ m us. Ok (n, next us)) ts (kind_alike n (kinds.Name n) ts is (λ l. l) a)
name_by_alike _ ts is a = refuse_alike ts a

pub name_alike : (ts : Tokens) → AreTokens ts → Alike false (name_rule ts) (λ m. name_rule) ts
unfolding name_rule kind
name_alike [] a = absurd a
name_alike (t ∷ r) a = first_alike (λ m. name_rule) (λ m. name_by t.kind) t r (λ m other _. refl) false (name_rule (t ∷ r)) (name_by_alike t.kind (t ∷ r) refl a)
