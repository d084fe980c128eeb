-- Words: letters and digits with a letter first. Some are reserved, the others are names.
use Rattle.std.specs.Prelude.{ℕ, ◌+◌, ◌==◌, ◌||◌, Bool, List, [], ◌∷◌, flat_map, encode_utf8, codes, Option, Some, None, if◌then◌else◌}
use Rattle.std.specs.Char.{is_ascii_alphabetic, is_ascii_digit}
use Rattle.std.specs.Str.{bytes_eq}
use Rattle.sync_tokens.specs.declared.token.Kind.{Kind}
use Rattle.sync_tokens.specs.declared.token.Kind.TheVariants.{Name}
use Rattle.sync_tokens.specs.declared.token.Kind.TheVariants as kinds
use Rattle.sync_tokens.specs.declared.token.Word.{Word}
use Rattle.sync_tokens.specs.declared.token.Word.TheVariants as w

-- a letter of ASCII, `_` or `$`
abbrev pub is_letter : ℕ → Bool
is_letter c = is_ascii_alphabetic c || c == 95 || c == 36

-- how many characters there are before the first that is neither letter nor digit
abbrev pub word_len : List ℕ → ℕ
word_len [] = 0
word_len (c ∷ cs) = if is_letter c || is_ascii_digit c then 1 + word_len cs else 0

-- the bytes of these characters in UTF-8
abbrev pub utf8 : List ℕ → List ℕ
utf8 = flat_map encode_utf8

-- the reserved words
abbrev pub words : List (List ℕ × Word)
words =
    (codes "function", w.Function) ∷ (codes "if", w.If) ∷ (codes "else", w.Else) ∷ (codes "for", w.For) ∷
    (codes "var", w.Var) ∷ (codes "let", w.Let) ∷ (codes "const", w.Const) ∷ (codes "of", w.Of) ∷
    (codes "return", w.Return) ∷ (codes "throw", w.Throw) ∷ (codes "break", w.Break) ∷
    (codes "continue", w.Continue) ∷ (codes "typeof", w.Typeof) ∷ (codes "true", w.True) ∷ (codes "false", w.False) ∷
    (codes "null", w.Null) ∷ (codes "undefined", w.Undefined) ∷ (codes "while", w.Other) ∷ (codes "do", w.Other) ∷
    (codes "new", w.Other) ∷ (codes "delete", w.Other) ∷ (codes "in", w.Other) ∷ (codes "switch", w.Other) ∷
    (codes "case", w.Other) ∷ (codes "try", w.Other) ∷ (codes "catch", w.Other) ∷ (codes "class", w.Other) ∷
    (codes "this", w.Other) ∷ (codes "with", w.Other) ∷ (codes "yield", w.Other) ∷ []

-- the word at this spelling in the table
abbrev pub lookup_word : List (List ℕ × Word) → List ℕ → Option Word
lookup_word [] text = None
lookup_word (entry ∷ table) text = if bytes_eq entry.0 text then Some entry.1 else lookup_word table text

-- the reserved word that the text is
unfoldable pub reserved : List ℕ → Option Word
reserved = lookup_word words

abbrev pub kind_by : Option Word → List ℕ → Kind
kind_by None text = Name text
kind_by (Some word) text = kinds.Word word

-- what a word is: reserved, or a name
unfoldable pub word_kind : List ℕ → Kind
word_kind chars = kind_by (reserved (utf8 chars)) (utf8 chars)
