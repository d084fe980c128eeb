-- What holds of what a rule reads, where it reads something.
use Rattle.std.proofs.Common.{◌≡◌, ℕ, zero, suc, Bool, true, false, cond, List, [], ◌∷◌, ◌++◌, Ok, Err, refl, sym, subst, ap, ◌∙◌, append_assoc, rules}
use denote.Enum.Bare.{same_true}
use Rattle.sync_tokens.specs.declared.token.Kind.{Kind}
use Rattle.sync_tokens.specs.declared.token.Kind.TheVariants as kinds
use Rattle.sync_tokens.specs.declared.token.Sign.{Sign}
use Rattle.sync_tokens.specs.declared.token.Sign.TheVariants as signs
use Rattle.sync_tokens.specs.declared.token.Word.{Word}
use Rattle.sync_tokens.specs.contracts.token.Sign as the_signs
use Rattle.sync_tokens.specs.contracts.token.Word as the_words
use Rattle.sync_syntax.specs.declared.fault.ParseFault.{ParseFault}
use Rattle.sync_syntax.specs.Reading.{Tokens, Outcome, Rule, read_then, ◌>>=◌, pure_rule, kind, next, is_sign, is_word, same_sign, same_word, sees, sees_word, after, after_word, eat, expect, expect_word, name_by, name_rule, turns, separated_from, separated, refused_at}
use Rattle.sync_syntax.specs.Grammar.{Takes}

abbrev pub Holds : {A : Type 0} → Outcome A → (A → Tokens → Type 0) → Type 0
Holds (Ok p) P = P p.0 p.1
Holds (Err f) P = Unit {0}

pub holds_then : {A B : Type 0} (r : Outcome A) (f : A → Rule B) (P : A → Tokens → Type 0) (Q : B → Tokens → Type 0) → Holds r P → ((a : A) (us : Tokens) → P a us → Holds (f a us) Q) → Holds (read_then r f) Q
holds_then (Ok p) f P Q h k = k p.0 p.1 h
holds_then (Err e) f P Q h k = tt

pub holds_map : {A : Type 0} (r : Outcome A) (P Q : A → Tokens → Type 0) → Holds r P → ((a : A) (us : Tokens) → P a us → Q a us) → Holds r Q
holds_map (Ok p) P Q h k = k p.0 p.1 h
holds_map (Err e) P Q h k = tt

pub holds_cond : {A : Type 0} (b : Bool) (f g : Rule A) (ts : Tokens) (Q : A → Tokens → Type 0) → (b ≡ true → Holds (f ts) Q) → (b ≡ false → Holds (g ts) Q) → Holds (cond b f g ts) Q
holds_cond true f g ts Q first other = first refl
holds_cond false f g ts Q first other = other refl

pub holds_choice : {A : Type 0} (b : Bool) (r q : Outcome A) (Q : A → Tokens → Type 0) → (b ≡ true → Holds r Q) → (b ≡ false → Holds q Q) → Holds (cond b r q) Q
holds_choice true r q Q first other = first refl
holds_choice false r q Q first other = other refl

is_sign-is : (s : Sign) (k : Kind) → is_sign s k ≡ true → k ≡ kinds.Sign s
unfolding same_sign
is_sign-is s (kinds.Sign t) h = ap kinds.Sign (same_true the_signs.the_type (search rules) t s h)
is_sign-is s k h = absurd cc

is_word-is : (w : Word) (k : Kind) → is_word w k ≡ true → k ≡ kinds.Word w
unfolding same_word
is_word-is w (kinds.Word v) h = ap kinds.Word (same_true the_words.the_type (search rules) v w h)
is_word-is w k h = absurd cc

pub sees-takes : (s : Sign) (ts : Tokens) → sees s ts ≡ true → Takes (kinds.Sign s) ts (next ts)
unfolding sees
sees-takes s ts h = record { is = is_sign-is s (kind ts) h; rest = refl }

pub sees_word-takes : (w : Word) (ts : Tokens) → sees_word w ts ≡ true → Takes (kinds.Word w) ts (next ts)
unfolding sees_word
sees_word-takes w ts h = record { is = is_word-is w (kind ts) h; rest = refl }

abbrev tested : Bool → Tokens → ParseFault → Outcome (Unit {0})
tested b us e = cond b (Ok (tt, us)) (Err e)

expect_by : {B : Type 0} (b : Bool) (us : Tokens) (e : ParseFault) (f : Rule B) (Q : B → Tokens → Type 0) → (b ≡ true → Holds (f us) Q) → Holds (read_then (tested b us e) (λ _. f)) Q
expect_by true us e f Q k = k refl
expect_by false us e f Q k = tt

pub holds_expect : {B : Type 0} (s : Sign) (ts : Tokens) (f : Rule B) (Q : B → Tokens → Type 0) → (Takes (kinds.Sign s) ts (next ts) → Holds (f (next ts)) Q) → Holds (read_then (expect s ts) (λ _. f)) Q
unfolding expect
holds_expect s ts f Q k = expect_by (sees s ts) (next ts) (refused_at ts) f Q (λ h. k (sees-takes s ts h))

pub holds_expect_word : {B : Type 0} (w : Word) (ts : Tokens) (f : Rule B) (Q : B → Tokens → Type 0) → (Takes (kinds.Word w) ts (next ts) → Holds (f (next ts)) Q) → Holds (read_then (expect_word w ts) (λ _. f)) Q
unfolding expect_word
holds_expect_word w ts f Q k = expect_by (sees_word w ts) (next ts) (refused_at ts) f Q (λ h. k (sees_word-takes w ts h))

-- the sign alone
pub expect-holds : (s : Sign) (ts : Tokens) → Holds (expect s ts) (λ _ us. Takes (kinds.Sign s) ts us)
unfolding expect
expect-holds s ts = holds_choice (sees s ts) (Ok (tt, next ts)) (Err (refused_at ts)) (λ _ us. Takes (kinds.Sign s) ts us) (λ h. sees-takes s ts h) (λ _. tt)

eat_by : {B : Type 0} (b : Bool) (ts : Tokens) (f g : Rule B) (Q : B → Tokens → Type 0) → (b ≡ true → Holds (f (next ts)) Q) → (b ≡ false → Holds (g ts) Q) → Holds (cond b f g (cond b (next ts) ts)) Q
eat_by true ts f g Q first other = first refl
eat_by false ts f g Q first other = other refl

pub holds_eat : {B : Type 0} (s : Sign) (ts : Tokens) (f g : Rule B) (Q : B → Tokens → Type 0) → (Takes (kinds.Sign s) ts (next ts) → Holds (f (next ts)) Q) → (sees s ts ≡ false → Holds (g ts) Q) → Holds (cond (sees s ts) f g (after s ts)) Q
unfolding after
holds_eat s ts f g Q first other = eat_by (sees s ts) ts f g Q (λ h. first (sees-takes s ts h)) other

pub holds_eatw : {B : Type 0} (w : Word) (ts : Tokens) (f g : Rule B) (Q : B → Tokens → Type 0) → (Takes (kinds.Word w) ts (next ts) → Holds (f (next ts)) Q) → (sees_word w ts ≡ false → Holds (g ts) Q) → Holds (cond (sees_word w ts) f g (after_word w ts)) Q
unfolding after_word
holds_eatw w ts f g Q first other = eat_by (sees_word w ts) ts f g Q (λ h. first (sees_word-takes w ts h)) other

name_by-holds : (k : Kind) (ts : Tokens) → kind ts ≡ k → Holds (name_by k ts) (λ n us. Takes (kinds.Name n) ts us)
name_by-holds (kinds.Name n) ts h = record { is = h; rest = refl }
name_by-holds _ ts h = tt

pub name-holds : (ts : Tokens) → Holds (name_rule ts) (λ n us. Takes (kinds.Name n) ts us)
unfolding name_rule
name-holds ts = name_by-holds (kind ts) ts refl

module _ {A : Type 0} (item : Rule A) (R : Tokens → A → Tokens → Type 0) (S : Tokens → List A → Tokens → Type 0)
    (item-holds : (ts : Tokens) → Holds (item ts) (R ts))
    (one : (ts us : Tokens) (x : A) → R ts x us → S ts (x ∷ []) us)
    (more : (ts us vs : Tokens) (x : A) (xs : List A) → R ts x us → Takes (kinds.Sign signs.Comma) us (next us) → S (next us) xs vs → S ts (x ∷ xs) vs) where
  abbrev Found : Tokens → List A → List A → Tokens → Type 0
  Found ts found all us = (others : List A) × (all ≡ found ++ others) × S ts others us

  separated_from-holds : (n : ℕ) (found : List A) (ts : Tokens) → Holds (separated_from item n found ts) (Found ts found)
  unfolding separated_from
  separated_from-holds zero found ts = tt
  separated_from-holds (suc n) found ts =
      holds_then (item ts) (λ x. (eat signs.Comma >>= λ b. cond b (separated_from item n (found ++ x ∷ [])) (pure_rule (found ++ x ∷ [])))) (R ts) (Found ts found) (item-holds ts)
      (λ x us h. holds_eat signs.Comma us (separated_from item n (found ++ x ∷ [])) (pure_rule (found ++ x ∷ [])) (Found ts found)
      (λ k. holds_map (separated_from item n (found ++ x ∷ []) (next us)) (Found (next us) (found ++ x ∷ [])) (Found ts found) (separated_from-holds n (found ++ x ∷ []) (next us))
      (λ all vs f. (x ∷ f.0, f.1 ∙ append_assoc found (x ∷ []) f.0, more ts us vs x f.0 h k f.2)))
      (λ _. (x ∷ [], refl, one ts us x h)))

  pub separated-holds : (ts : Tokens) → Holds (separated item ts) (S ts)
  unfolding separated
  separated-holds ts =
      holds_map (separated_from item (turns ts) [] ts) (Found ts []) (S ts) (separated_from-holds (turns ts) [] ts)
      (λ all us f. subst (λ (l : List A). S ts l us) (sym f.1) f.2)
