-- What stands before a fault begins something that the rule reads: some tokens more make it whole.
use Rattle.std.proofs.Common.{◌≡◌, ℕ, Bool, true, false, cond, List, [], ◌∷◌, ◌++◌, Ok, Err, refl, sym, subst, ap, ◌∙◌, append_assoc}
use Rattle.sync_tokens.specs.Places.{first_place}
use Rattle.sync_tokens.specs.Spellable.{IsIdentifier, IsSpellable, IsLast, AreTokens}
use Rattle.sync_tokens.specs.Words.{reserved}
use Rattle.sync_tokens.specs.declared.place.SyntaxWhy.{SyntaxWhy}
use Rattle.sync_tokens.specs.declared.place.SyntaxWhy.TheVariants.{Unexpected, TooDeep}
use Rattle.sync_tokens.specs.declared.token.Kind.{Kind}
use Rattle.sync_tokens.specs.declared.token.Kind.TheVariants as kinds
use Rattle.sync_tokens.specs.declared.token.Sign.{Sign}
use Rattle.sync_tokens.specs.declared.token.Token.{Token}
use Rattle.sync_tokens.specs.declared.token.Word.{Word}
use Rattle.sync_syntax.specs.declared.fault.ParseFault.{ParseFault}
use Rattle.sync_syntax.specs.Reading.{Tokens, Outcome, Rule, read_then, kind, next, sees, sees_word, after, after_word, expect, expect_word, name_by, name_rule, fault_here, refuse, refused_at, too_deep}
use Rattle.sync_syntax.specs.Grammar.{Takes}
use Rattle.sync_syntax.proofs.Holds.{sees-takes, sees_word-takes}

-- some tokens, before any others
abbrev pub Front : Type 0
Front = Tokens → Tokens

abbrev pub Full : Tokens → Type 0
Full [] = ⊥
Full (t ∷ ts) = Unit {0}

pub record Found {A : Type 0} (G : Tokens → A → Tokens → Type 0) (ts us : Tokens) : Type 0 where
  pub tree : A
  pub is : G ts tree us

-- these tokens spell something before any others that meet a condition
pub record Spells {A : Type 0} (G : Tokens → A → Tokens → Type 0) (C : Tokens → Type 0) (d : Front) : Type 0 where
  pub any : (ts : Tokens) → Full ts → C ts → Found G (d ts) ts
  pub full : (ts : Tokens) → Full ts → Full (d ts)

abbrev pub Always : Tokens → Type 0
Always ts = Unit {0}

pub record Ends {A : Type 0} (P : A → Tokens → Front → Type 0) (ts : Tokens) (x : A) (us : Tokens) : Type 0 where
  pub front : Front
  pub before : Tokens
  pub law : (w : Tokens) → front w ≡ before ++ w
  pub split : ts ≡ front us
  pub are : AreTokens us
  pub is : P x us front

pub record Halts (S : Front → Type 0) (ts : Tokens) (e : ParseFault) : Type 0 where
  pub front : Front
  pub before : Tokens
  pub law : (w : Tokens) → front w ≡ before ++ w
  pub token : Token
  pub rest : Tokens
  pub split : ts ≡ front (token ∷ rest)
  pub why : SyntaxWhy
  pub at : e ≡ fault_here why (token ∷ rest)
  pub more : Front
  pub good : (w : Tokens) → AreTokens w → AreTokens (more w)
  pub is : S (λ w. front (more w))

abbrev pub Grows : {A : Type 0} → (A → Tokens → Front → Type 0) → (Front → Type 0) → Outcome A → Tokens → Type 0
Grows P S (Ok p) ts = Ends P ts p.0 p.1
Grows P S (Err e) ts = Halts S ts e

pub record Filled (S : Front → Type 0) (d : Front) : Type 0 where
  pub more : Front
  pub good : (w : Tokens) → AreTokens w → AreTokens (more w)
  pub is : S (λ w. d (more w))

pub join_grows : {A : Type 0} (P : A → Tokens → Front → Type 0) (S : Front → Type 0) (ts us : Tokens) (d : Front) (before : Tokens) → ((w : Tokens) → d w ≡ before ++ w) → ts ≡ d us → (q : Outcome A)
    → Grows (λ y vs c. P y vs (λ w. d (c w))) (λ c. S (λ w. d (c w))) q us → Grows P S q ts
join_grows P S ts us d before law split (Ok y) h = record {
  front = λ w. d (h.front w);
  before = before ++ h.before;
  law = λ w. law (h.front w) ∙ ap (λ z. before ++ z) (h.law w) ∙ sym (append_assoc before h.before w);
  split = split ∙ ap d h.split;
  are = h.are;
  is = h.is;
}
join_grows P S ts us d before law split (Err e) h = record {
  front = λ w. d (h.front w);
  before = before ++ h.before;
  law = λ w. law (h.front w) ∙ ap (λ z. before ++ z) (h.law w) ∙ sym (append_assoc before h.before w);
  token = h.token;
  rest = h.rest;
  split = split ∙ ap d h.split;
  why = h.why;
  at = h.at;
  more = h.more;
  good = h.good;
  is = h.is;
}

pub then_grows : {A B : Type 0} (P : A → Tokens → Front → Type 0) (S : Front → Type 0) (P2 : B → Tokens → Front → Type 0) (S2 : Front → Type 0) (r : Outcome A) (f : A → Rule B) (ts : Tokens) → Grows P S r ts
    → ((x : A) (us : Tokens) (d : Front) → AreTokens us → P x us d → Grows (λ y vs c. P2 y vs (λ w. d (c w))) (λ c. S2 (λ w. d (c w))) (f x us) us)
    → ((d : Front) → S d → Filled S2 d) → Grows P2 S2 (read_then r f) ts
then_grows P S P2 S2 (Ok p) f ts h k fill = join_grows P2 S2 ts p.1 h.front h.before h.law h.split (f p.0 p.1) (k p.0 p.1 h.front h.are h.is)
then_grows P S P2 S2 (Err e) f ts h k fill =
    let c : Filled S2 (λ w. h.front (h.more w)) = fill (λ w. h.front (h.more w)) h.is in
    record {
      front = h.front;
      before = h.before;
      law = h.law;
      token = h.token;
      rest = h.rest;
      split = h.split;
      why = h.why;
      at = h.at;
      more = λ w. h.more (c.more w);
      good = λ w a. h.good (c.more w) (c.good w a);
      is = c.is;
    }

-- what says more says less
pub map_grows : {A : Type 0} (P Q : A → Tokens → Front → Type 0) (S T : Front → Type 0) (r : Outcome A) (ts : Tokens) → Grows P S r ts → ((x : A) (us : Tokens) (d : Front) → P x us d → Q x us d)
    → ((d : Front) → S d → T d) → Grows Q T r ts
map_grows P Q S T (Ok p) ts h f g = record { front = h.front; before = h.before; law = h.law; split = h.split; are = h.are; is = f p.0 p.1 h.front h.is }
map_grows P Q S T (Err e) ts h f g = record {
  front = h.front;
  before = h.before;
  law = h.law;
  token = h.token;
  rest = h.rest;
  split = h.split;
  why = h.why;
  at = h.at;
  more = h.more;
  good = h.good;
  is = g (λ w. h.front (h.more w)) h.is;
}

-- ---- single tokens

abbrev pub madeof : Kind → Token
madeof k = record { place = first_place; kind = k }

pub good_token : (k : Kind) → IsSpellable k → (w : Tokens) → AreTokens w → AreTokens (madeof k ∷ w)
good_token k s [] a = absurd a
good_token k s (t ∷ w) a = (s, a)

-- this kind alone
abbrev pub One : Kind → Front → Type 0
One k = Spells {A = Unit {0}} (λ ts _ us. Takes k ts us) Always

pub one_token : (t : Token) (k : Kind) → t.kind ≡ k → One k (λ w. t ∷ w)
unfolding kind next
one_token t k is = record { any = by_tokens; full = λ ts f. tt }
  where
    by_tokens : (ts : Tokens) → Full ts → Always ts → Found {A = Unit {0}} (λ us _ vs. Takes k us vs) (t ∷ ts) ts
    by_tokens [] f c = absurd f
    by_tokens (u ∷ ts) f c = record { tree = tt; is = record { is = is; rest = refl } }

pub one_made : (k : Kind) → One k (λ w. madeof k ∷ w)
one_made k = one_token (madeof k) k refl

pub pure_grows : {A : Type 0} (P : A → Tokens → Front → Type 0) (S : Front → Type 0) (x : A) (ts : Tokens) → AreTokens ts → P x ts (λ w. w) → Grows P S (Ok (x, ts)) ts
pure_grows P S x ts a h = record { front = λ w. w; before = []; law = λ w. refl; split = refl; are = a; is = h }

pub token_grows : {A : Type 0} (P : A → Tokens → Front → Type 0) (S : Front → Type 0) (x : A) (ts : Tokens) → (IsLast (kind ts) → ⊥) → AreTokens ts
    → ((t : Token) → t.kind ≡ kind ts → P x (next ts) (λ w. t ∷ w)) → Grows P S (Ok (x, next ts)) ts
unfolding kind next
token_grows P S x [] other a h = absurd a
token_grows P S x (t ∷ []) other a h = absurd (other a)
token_grows P S x (t ∷ u ∷ r) other a h = record { front = λ w. t ∷ w; before = t ∷ []; law = λ w. refl; split = refl; are = a.1; is = h t refl }

pub refuse_grows : {A : Type 0} (P : A → Tokens → Front → Type 0) (S : Front → Type 0) (ts : Tokens) → AreTokens ts → Filled S (λ w. w) → Grows P S (refuse ts) ts
unfolding refused_at
refuse_grows P S [] a c = absurd a
refuse_grows P S (t ∷ r) a c = record {
  front = λ w. w;
  before = [];
  law = λ w. refl;
  token = t;
  rest = r;
  split = refl;
  why = Unexpected;
  at = refl;
  more = c.more;
  good = c.good;
  is = c.is;
}

pub deep_grows : {A : Type 0} (P : A → Tokens → Front → Type 0) (S : Front → Type 0) (ts : Tokens) → AreTokens ts → Filled S (λ w. w) → Grows P S (Err (too_deep ts)) ts
unfolding too_deep
deep_grows P S [] a c = absurd a
deep_grows P S (t ∷ r) a c = record {
  front = λ w. w;
  before = [];
  law = λ w. refl;
  token = t;
  rest = r;
  split = refl;
  why = TooDeep;
  at = refl;
  more = c.more;
  good = c.good;
  is = c.is;
}

pub by_bool : {P : Type 0} (b : Bool) → (b ≡ true → P) → (b ≡ false → P) → P
by_bool true f g = f refl
by_bool false f g = g refl

-- behind the next token
pub behind_grows : {A : Type 0} (P : A → Tokens → Front → Type 0) (S : Front → Type 0) (ts : Tokens) (k : Kind) → kind ts ≡ k → (IsLast k → ⊥) → AreTokens ts → (q : Outcome A)
    → ((t : Token) → t.kind ≡ k → AreTokens (next ts) → Grows (λ y vs d. P y vs (λ w. t ∷ d w)) (λ d. S (λ w. t ∷ d w)) q (next ts)) → Grows P S q ts
unfolding kind next
behind_grows P S [] k is other a q h = absurd a
behind_grows P S (t ∷ []) k is other a q h = absurd (other (subst IsLast is a))
behind_grows P S (t ∷ u ∷ r) k is other a q h = join_grows P S (t ∷ u ∷ r) (u ∷ r) (λ w. t ∷ w) (t ∷ []) (λ w. refl) refl q (h t is a.1)

pub see_grows : {A : Type 0} (P : A → Tokens → Front → Type 0) (S : Front → Type 0) (b : Bool) (x y : Outcome A) (ts : Tokens) → (b ≡ true → Grows P S x ts) → (b ≡ false → Grows P S y ts) → Grows P S (cond b x y) ts
see_grows P S true x y ts h i = h refl
see_grows P S false x y ts h i = i refl

eat_by : {A : Type 0} (P : A → Tokens → Front → Type 0) (S : Front → Type 0) (b : Bool) (f g : Rule A) (ts : Tokens) → (b ≡ true → Grows P S (f (next ts)) ts) → (b ≡ false → Grows P S (g ts) ts)
    → Grows P S (cond b f g (cond b (next ts) ts)) ts
eat_by P S true f g ts h i = h refl
eat_by P S false f g ts h i = i refl

pub eat_grows : {A : Type 0} (P : A → Tokens → Front → Type 0) (S : Front → Type 0) (s : Sign) (f g : Rule A) (ts : Tokens) → AreTokens ts
    → ((t : Token) → t.kind ≡ kinds.Sign s → AreTokens (next ts) → Grows (λ y vs d. P y vs (λ w. t ∷ d w)) (λ d. S (λ w. t ∷ d w)) (f (next ts)) (next ts))
    → (sees s ts ≡ false → Grows P S (g ts) ts) → Grows P S (cond (sees s ts) f g (after s ts)) ts
unfolding after
eat_grows P S s f g ts a h i =
    eat_by P S (sees s ts) f g ts
    (λ e. (let k : Takes (kinds.Sign s) ts (next ts) = sees-takes s ts e in behind_grows P S ts (kinds.Sign s) k.is (λ l. l) a (f (next ts)) h)) i

pub eat_word_grows : {A : Type 0} (P : A → Tokens → Front → Type 0) (S : Front → Type 0) (s : Word) (f g : Rule A) (ts : Tokens) → AreTokens ts
    → ((t : Token) → sees_word s ts ≡ true → t.kind ≡ kinds.Word s → AreTokens (next ts) → Grows (λ y vs d. P y vs (λ w. t ∷ d w)) (λ d. S (λ w. t ∷ d w)) (f (next ts)) (next ts))
    → (sees_word s ts ≡ false → Grows P S (g ts) ts) → Grows P S (cond (sees_word s ts) f g (after_word s ts)) ts
unfolding after_word
eat_word_grows P S s f g ts a h i =
    eat_by P S (sees_word s ts) f g ts
    (λ e. (let k : Takes (kinds.Word s) ts (next ts) = sees_word-takes s ts e in behind_grows P S ts (kinds.Word s) k.is (λ l. l) a (f (next ts)) (λ t is b. h t e is b))) i

-- a token of this kind
pub kind_grows : {A : Type 0} (x : A) (k : Kind) (ts : Tokens) → kind ts ≡ k → (IsLast k → ⊥) → AreTokens ts → Grows (λ _ _ d. One k d) (One k) (Ok (x, next ts)) ts
kind_grows x k ts is other a = token_grows (λ _ _ d. One k d) (One k) x ts (λ l. other (subst IsLast is l)) a (λ t e. one_token t k (e ∙ is))

pub made_filled : (k : Kind) → IsSpellable k → Filled (One k) (λ w. w)
made_filled k s = record { more = λ w. madeof k ∷ w; good = good_token k s; is = one_made k }

pub expect_grows : (s : Sign) (ts : Tokens) → AreTokens ts → Grows (λ _ _ d. One (kinds.Sign s) d) (One (kinds.Sign s)) (expect s ts) ts
unfolding expect
expect_grows s ts a =
    see_grows (λ _ _ d. One (kinds.Sign s) d) (One (kinds.Sign s)) (sees s ts) (Ok (tt, next ts)) (refuse ts) ts
    (λ e. (let k : Takes (kinds.Sign s) ts (next ts) = sees-takes s ts e in kind_grows tt (kinds.Sign s) ts k.is (λ l. l) a))
    (λ _. refuse_grows {A = Unit {0}} (λ _ _ d. One (kinds.Sign s) d) (One (kinds.Sign s)) ts a (made_filled (kinds.Sign s) tt))

pub expect_word_grows : (s : Word) (ts : Tokens) → AreTokens ts → Grows (λ _ _ d. One (kinds.Word s) d) (One (kinds.Word s)) (expect_word s ts) ts
unfolding expect_word
expect_word_grows s ts a =
    see_grows (λ _ _ d. One (kinds.Word s) d) (One (kinds.Word s)) (sees_word s ts) (Ok (tt, next ts)) (refuse ts) ts
    (λ e. (let k : Takes (kinds.Word s) ts (next ts) = sees_word-takes s ts e in kind_grows tt (kinds.Word s) ts k.is (λ l. l) a))
    (λ _. refuse_grows {A = Unit {0}} (λ _ _ d. One (kinds.Word s) d) (One (kinds.Word s)) ts a (made_filled (kinds.Word s) tt))

-- a name, whatever
abbrev pub IsName : Tokens → List ℕ → Tokens → Type 0
IsName ts n us = Takes (kinds.Name n) ts us

pub name_token : (t : Token) (n : List ℕ) → t.kind ≡ kinds.Name n → Spells IsName Always (λ w. t ∷ w)
name_token t n is =
    let o : One (kinds.Name n) (λ w. t ∷ w) = one_token t (kinds.Name n) is in
    record { any = λ ts f c. record { tree = n; is = (o.any ts f c).is }; full = o.full }

pub a_name : IsIdentifier (97 ∷ [])
unfolding reserved
a_name = record { first = 97; rest = []; is = refl; letter = refl; parts = tt; free = refl }

abbrev pub a_kind : Kind
a_kind = kinds.Name (97 ∷ [])

pub name_filled : Filled (Spells IsName Always) (λ w. w)
name_filled = record { more = λ w. madeof a_kind ∷ w; good = good_token a_kind a_name; is = name_token (madeof a_kind) (97 ∷ []) refl }

name_by_grows : (k : Kind) (ts : Tokens) → kind ts ≡ k → AreTokens ts → Grows (λ _ _ d. Spells IsName Always d) (Spells IsName Always) (name_by k ts) ts
name_by_grows (kinds.Name n) ts is a =
    token_grows (λ _ _ d. Spells IsName Always d) (Spells IsName Always) n ts (λ l. subst IsLast is l) a (λ t e. name_token t n (e ∙ is))
name_by_grows _ ts is a = refuse_grows {A = List ℕ} (λ _ _ d. Spells IsName Always d) (Spells IsName Always) ts a name_filled

pub name_grows : (ts : Tokens) → AreTokens ts → Grows (λ _ _ d. Spells IsName Always d) (Spells IsName Always) (name_rule ts) ts
unfolding name_rule
name_grows ts a = name_by_grows (kind ts) ts refl a
