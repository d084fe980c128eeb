-- How tokens are spelled, and which of them stand with a space between.
use Rattle.std.specs.Prelude.{ℕ, ◌==◌, ◌||◌, Bool, true, false, if◌then◌else◌, codes, decimal, chars, encode_utf8, flat_map, List, [], ◌∷◌, ◌++◌}
use Rattle.sync_tokens.specs.declared.token.Kind.{Kind}
use Rattle.sync_tokens.specs.declared.token.Kind.TheVariants as kinds
use Rattle.sync_tokens.specs.declared.token.Sign.{Sign}
use Rattle.sync_tokens.specs.declared.token.Sign.TheVariants as signs
use Rattle.sync_tokens.specs.declared.token.Word.{Word}
use Rattle.sync_tokens.specs.declared.token.Word.TheVariants as words
use Rattle.sync_syntax.specs.declared.tree.Declares.{Declares}
use Rattle.sync_syntax.specs.declared.tree.Declares.TheVariants as declares
use Rattle.sync_syntax.specs.declared.tree.Operator.{Operator}
use Rattle.sync_syntax.specs.declared.tree.Operator.TheVariants as operators
use Rattle.sync_syntax.specs.declared.tree.Prefix.{Prefix}
use Rattle.sync_syntax.specs.declared.tree.Prefix.TheVariants as prefixes
use Rattle.sync_syntax.specs.declared.tree.Writes.{Writes}
use Rattle.sync_syntax.specs.declared.tree.Writes.TheVariants as writes
use Rattle.sync_print.specs.declared.printer.Last.{Last}
use Rattle.sync_print.specs.declared.printer.Last.TheVariants.{Opening, Callable, Other}
use Rattle.sync_print.specs.declared.printer.Printer.{Printer}

-- ---- what tokens are written as

-- a sign
abbrev pub sign_text : Sign → List ℕ
sign_text signs.ParenOpen = codes "("
sign_text signs.ParenClose = codes ")"
sign_text signs.BraceOpen = codes "{"
sign_text signs.BraceClose = codes "}"
sign_text signs.BracketOpen = codes "["
sign_text signs.BracketClose = codes "]"
sign_text signs.Comma = codes ","
sign_text signs.Semicolon = codes ";"
sign_text signs.Colon = codes ":"
sign_text signs.Dot = codes "."
sign_text signs.Question = codes "?"
sign_text signs.Assign = codes "="
sign_text signs.PlusAssign = codes "+="
sign_text signs.MinusAssign = codes "-="
sign_text signs.Increment = codes "++"
sign_text signs.Decrement = codes "--"
sign_text signs.Plus = codes "+"
sign_text signs.Minus = codes "-"
sign_text signs.Star = codes "*"
sign_text signs.Not = codes "!"
sign_text signs.Or = codes "||"
sign_text signs.And = codes "&&"
sign_text signs.Equal = codes "=="
sign_text signs.NotEqual = codes "!="
sign_text signs.Same = codes "==="
sign_text signs.NotSame = codes "!=="
sign_text signs.Less = codes "<"
sign_text signs.LessOrEqual = codes "<="
sign_text signs.Greater = codes ">"
sign_text signs.GreaterOrEqual = codes ">="

-- of the words that no rule names, one
abbrev pub word_text : Word → List ℕ
word_text words.Function = codes "function"
word_text words.If = codes "if"
word_text words.Else = codes "else"
word_text words.For = codes "for"
word_text words.Var = codes "var"
word_text words.Let = codes "let"
word_text words.Const = codes "const"
word_text words.Of = codes "of"
word_text words.Return = codes "return"
word_text words.Throw = codes "throw"
word_text words.Break = codes "break"
word_text words.Continue = codes "continue"
word_text words.Typeof = codes "typeof"
word_text words.True = codes "true"
word_text words.False = codes "false"
word_text words.Null = codes "null"
word_text words.Undefined = codes "undefined"
word_text words.Other = codes "yield"

-- a character as it stands in quotes
abbrev pub escaped : ℕ → List ℕ
escaped c =
    if c == 92 then codes "\\\\"
    else (if c == 34 then codes "\\\""
    else (if c == 10 then codes "\\n" else encode_utf8 c))

-- a text in quotes
unfoldable pub quoted : List ℕ → List ℕ
quoted text = codes "\"" ++ (flat_map escaped (chars text) ++ codes "\"")

-- what a token is written as
abbrev pub spelling : Kind → List ℕ
spelling (kinds.Name n) = n
spelling (kinds.Integer n) = decimal n
spelling (kinds.Text t) = quoted t
spelling (kinds.Word w) = word_text w
spelling (kinds.Sign s) = sign_text s
spelling _ = []

-- ---- spaces

-- what a sign leaves last
abbrev pub left_by_sign : Sign → Last
left_by_sign signs.ParenOpen = Opening
left_by_sign signs.BracketOpen = Opening
left_by_sign signs.Dot = Opening
left_by_sign signs.ParenClose = Callable
left_by_sign signs.BracketClose = Callable
left_by_sign _ = Other

-- what a token leaves last
abbrev pub left_by : Kind → Last
left_by (kinds.Word w) = Other
left_by (kinds.Sign s) = left_by_sign s
left_by _ = Callable

-- the signs that no space stands before
abbrev pub follows_all : Sign → Bool
follows_all signs.ParenClose = true
follows_all signs.BracketClose = true
follows_all signs.Comma = true
follows_all signs.Semicolon = true
follows_all signs.Colon = true
follows_all signs.Dot = true
follows_all _ = false

-- the signs by which a call and an index begin
abbrev pub follows_callable : Sign → Bool
follows_callable signs.ParenOpen = true
follows_callable signs.BracketOpen = true
follows_callable _ = false

-- whether no space stands before a sign
abbrev pub joins_sign : Last → Sign → Bool
joins_sign Opening s = true
joins_sign Callable s = follows_all s || follows_callable s
joins_sign Other s = follows_all s

-- whether no space stands before a token that is no sign
abbrev pub is_opening : Last → Bool
is_opening Opening = true
is_opening _ = false

-- whether no space stands before a token
abbrev pub joins : Last → Kind → Bool
joins last (kinds.Sign s) = joins_sign last s
joins last k = is_opening last

-- nothing, or a space
abbrev pub gap : Bool → List ℕ
gap joins = if joins then [] else codes " "

-- ---- a text that grows

-- a text more, behind a space or none
unfoldable pub put_text : Bool → List ℕ → Last → Printer → Printer
put_text joins text last p = record { text = p.text ++ (gap joins ++ text); last = last }

-- a token more
abbrev pub put : Kind → Printer → Printer
put k p = put_text (joins p.last k) (spelling k) (left_by k) p

-- these tokens more
abbrev pub put_all : List Kind → Printer → Printer
put_all [] p = p
put_all (k ∷ ks) p = put_all ks (put k p)

-- ---- what stands for the parts of a tree

-- the sign of an operator between operands
abbrev pub operator_sign : Operator → Sign
operator_sign operators.Or = signs.Or
operator_sign operators.And = signs.And
operator_sign operators.Equal = signs.Equal
operator_sign operators.NotEqual = signs.NotEqual
operator_sign operators.Same = signs.Same
operator_sign operators.NotSame = signs.NotSame
operator_sign operators.Less = signs.Less
operator_sign operators.LessOrEqual = signs.LessOrEqual
operator_sign operators.Greater = signs.Greater
operator_sign operators.GreaterOrEqual = signs.GreaterOrEqual
operator_sign operators.Add = signs.Plus
operator_sign operators.Subtract = signs.Minus
operator_sign operators.Multiply = signs.Star

-- the token of an operator before its operand
abbrev pub prefix_kind : Prefix → Kind
prefix_kind prefixes.Not = kinds.Sign signs.Not
prefix_kind prefixes.Negate = kinds.Sign signs.Minus
prefix_kind prefixes.Typeof = kinds.Word words.Typeof

-- the sign by which a variable is written
abbrev pub writes_sign : Writes → Sign
writes_sign writes.Set = signs.Assign
writes_sign writes.Add = signs.PlusAssign
writes_sign writes.Subtract = signs.MinusAssign

-- the word by which variables are declared
abbrev pub declares_word : Declares → Word
declares_word declares.Var = words.Var
declares_word declares.Let = words.Let
declares_word declares.Const = words.Const
