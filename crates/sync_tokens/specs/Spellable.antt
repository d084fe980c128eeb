-- Tokens that can be spelled.
use Rattle.std.specs.Prelude.{◌≡◌, ℕ, ◌≤◌, ◌||◌, Bool, true, List, [], ◌∷◌, None, IsUtf8}
use Rattle.std.specs.Char.{is_ascii_digit}
use Rattle.sync_tokens.specs.Literals.{max_integer}
use Rattle.sync_tokens.specs.Words.{is_letter, reserved}
use Rattle.sync_tokens.specs.declared.token.Kind.{Kind}
use Rattle.sync_tokens.specs.declared.token.Kind.TheVariants as kinds
use Rattle.sync_tokens.specs.declared.token.Token.{Token}
use Rattle.sync_tokens.specs.Scan.{tokens_of}

-- a letter or a digit
abbrev pub is_part : ℕ → Bool
is_part c = is_letter c || is_ascii_digit c

-- letters and digits
abbrev pub AllParts : List ℕ → Type 0
AllParts [] = Unit {0}
AllParts (c ∷ cs) = (is_part c ≡ true) × AllParts cs

-- a letter, with letters and digits behind it, and no reserved word
pub record IsIdentifier (n : List ℕ) : Type 0 where
  pub first : ℕ
  pub rest : List ℕ
  pub is : n ≡ first ∷ rest
  pub letter : is_letter first ≡ true
  pub parts : AllParts rest
  pub free : reserved n ≡ None

-- a name that is an identifier, an integer that is not too large, a text in UTF-8, a reserved word or a sign
abbrev pub IsSpellable : Kind → Type 0
IsSpellable (kinds.Name n) = IsIdentifier n
IsSpellable (kinds.Integer n) = n ≤ max_integer
IsSpellable (kinds.Text t) = IsUtf8 t
IsSpellable (kinds.Word w) = Unit {0}
IsSpellable (kinds.Sign s) = Unit {0}
IsSpellable kinds.End = ⊥
IsSpellable (kinds.Bad why) = ⊥

-- each of them can be spelled
abbrev pub AreSpellable : List Kind → Type 0
AreSpellable [] = Unit {0}
AreSpellable (k ∷ ks) = IsSpellable k × AreSpellable ks

-- the end of a text, or characters that are no token
abbrev pub IsLast : Kind → Type 0
IsLast kinds.End = Unit {0}
IsLast (kinds.Bad why) = Unit {0}
IsLast _ = ⊥

-- the tokens of a text: the last is the end or no token, and each before it can be spelled
abbrev pub AreTokens : List Token → Type 0
AreTokens [] = ⊥
AreTokens (t ∷ []) = IsLast t.kind
AreTokens (t ∷ u ∷ ts) = IsSpellable t.kind × AreTokens (u ∷ ts)

-- each text has such tokens
abbrev pub TextsHaveTokens : Type 0
TextsHaveTokens = (text : List ℕ) → IsUtf8 text → AreTokens (tokens_of text)
