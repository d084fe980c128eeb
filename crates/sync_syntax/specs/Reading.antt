-- What a rule reads from, and the steps that every rule is made of.
use Rattle.std.specs.Prelude.{◌≡◌, ◌≢◌, ℕ, zero, suc, Bool, false, if◌then◌else◌, List, [], ◌∷◌, ◌++◌, length, Result, Ok, Err}
use denote.Enum.Bare.{sameb}
use Rattle.sync_tokens.specs.Places.{first_place}
use Rattle.sync_tokens.specs.declared.place.Place.{Place}
use Rattle.sync_tokens.specs.declared.place.SyntaxWhy.{SyntaxWhy}
use Rattle.sync_tokens.specs.declared.place.SyntaxWhy.TheVariants.{Unexpected, TooDeep}
use Rattle.sync_tokens.specs.declared.token.Token.{Token}
use Rattle.sync_tokens.specs.declared.token.Kind.{Kind}
use Rattle.sync_tokens.specs.declared.token.Kind.TheVariants as kinds
use Rattle.sync_tokens.specs.declared.token.Sign.{Sign}
use Rattle.sync_tokens.specs.declared.token.Sign.TheVariants as signs
use Rattle.sync_tokens.specs.declared.token.Word.{Word}
use Rattle.sync_tokens.specs.contracts.token.Sign as the_signs
use Rattle.sync_tokens.specs.contracts.token.Word as the_words
use Rattle.sync_syntax.specs.declared.fault.ParseFault.{ParseFault}
use Rattle.sync_syntax.specs.declared.fault.ParseFault.TheVariants.{Bad, Memory}

-- the tokens from one on
abbrev pub Tokens : Type 0
Tokens = List Token

-- ---- the next token; past the last one, that one again

unfoldable pub kind : Tokens → Kind
kind [] = kinds.End
kind (t ∷ ts) = t.kind

unfoldable pub place : Tokens → Place
place [] = first_place
place (t ∷ ts) = t.place

unfoldable pub next : Tokens → Tokens
next [] = []
next (t ∷ []) = t ∷ []
next (t ∷ u ∷ ts) = u ∷ ts

-- the token after the next
unfoldable pub second : Tokens → Kind
second ts = kind (next ts)

unfoldable pub same_sign : Sign → Sign → Bool
same_sign = sameb the_signs.the_type

unfoldable pub same_word : Word → Word → Bool
same_word = sameb the_words.the_type

abbrev pub is_sign : Sign → Kind → Bool
is_sign s (kinds.Sign t) = same_sign t s
is_sign s _ = false

abbrev pub is_word : Word → Kind → Bool
is_word w (kinds.Word v) = same_word v w
is_word w _ = false

unfoldable pub sees : Sign → Tokens → Bool
sees s ts = is_sign s (kind ts)

unfoldable pub sees_word : Word → Tokens → Bool
sees_word w ts = is_word w (kind ts)

-- ---- rules

-- what a rule reads, and the tokens after it, or the fault
abbrev pub Outcome : Type 0 → Type 0
Outcome A = Result (A × Tokens) ParseFault

abbrev pub Rule : Type 0 → Type 0
Rule A = Tokens → Outcome A

abbrev pub read_then : {A B : Type 0} → Outcome A → (A → Rule B) → Outcome B
read_then (Ok p) f = f p.0 p.1
read_then (Err e) f = Err e

infixl 10 ◌>>=◌
abbrev pub ◌>>=◌ : {A B : Type 0} → Rule A → (A → Rule B) → Rule B
p >>= f = λ ts. read_then (p ts) f

infixl 10 ◌>>◌
abbrev pub ◌>>◌ : {A B : Type 0} → Rule A → Rule B → Rule B
p >> q = p >>= (λ _. q)

abbrev pub pure_rule : {A : Type 0} → A → Rule A
pure_rule a = λ ts. Ok (a, ts)

infixr 11 ◌<$>◌
abbrev pub ◌<$>◌ : {A B : Type 0} → (A → B) → Rule A → Rule B
f <$> p = p >>= (λ x. pure_rule (f x))

-- the fault at a token: its own, if it is none, else this one
abbrev pub why_at : Kind → SyntaxWhy → SyntaxWhy
why_at (kinds.Bad why) other = why
why_at _ other = other

abbrev pub fault_here : SyntaxWhy → Tokens → ParseFault
fault_here why ts = Bad (record { place = place ts; why = why_at (kind ts) why })

unfoldable pub refused_at : Tokens → ParseFault
refused_at = fault_here Unexpected

abbrev pub refuse : {A : Type 0} → Rule A
refuse = λ ts. Err (refused_at ts)

unfoldable pub too_deep : Tokens → ParseFault
too_deep = fault_here TooDeep

abbrev pub take : Rule (Unit {0})
take = λ ts. Ok (tt, next ts)

abbrev pub here : Rule Place
here = λ ts. Ok (place ts, ts)

unfoldable pub after : Sign → Tokens → Tokens
after s ts = if sees s ts then next ts else ts

unfoldable pub after_word : Word → Tokens → Tokens
after_word w ts = if sees_word w ts then next ts else ts

-- takes this sign, if it comes next
abbrev pub eat : Sign → Rule Bool
eat s = λ ts. Ok (sees s ts, after s ts)

abbrev pub eat_word : Word → Rule Bool
eat_word w = λ ts. Ok (sees_word w ts, after_word w ts)

unfoldable pub expect : Sign → Rule (Unit {0})
expect s = λ ts. if sees s ts then Ok (tt, next ts) else refuse ts

unfoldable pub expect_word : Word → Rule (Unit {0})
expect_word w = λ ts. if sees_word w ts then Ok (tt, next ts) else refuse ts

abbrev pub name_by : Kind → Rule (List ℕ)
name_by (kinds.Name n) = λ ts. Ok (n, next ts)
name_by _ = refuse

unfoldable pub name_rule : Rule (List ℕ)
name_rule = λ ts. name_by (kind ts) ts

-- ---- lists. The number bounds the turns, and each turn takes a token, so the count of tokens is enough.

unfoldable pub turns : Tokens → ℕ
turns ts = length ts

unfoldable pub separated_from : {A : Type 0} → Rule A → ℕ → List A → Rule (List A)
separated_from item zero found = refuse
separated_from item (suc n) found = do
  x ← item
  more ← eat signs.Comma
  if more then separated_from item n (found ++ x ∷ []) else pure_rule (found ++ x ∷ [])

-- one or more, with commas between
unfoldable pub separated : {A : Type 0} → Rule A → Rule (List A)
separated item = λ ts. separated_from item (turns ts) [] ts

-- ---- what a function that reads by a rule ensures: what the rule gives, unless memory fails

abbrev pub ReadsByRule : {A : Type 0} → Outcome A → Result A ParseFault → Tokens → Type 0
ReadsByRule outcome (Ok a) new = outcome ≡ Ok (a, new)
ReadsByRule outcome (Err e) new = e ≢ Memory → outcome ≡ Err e
