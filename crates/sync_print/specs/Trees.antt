-- Which tokens a tree is printed as.
use Rattle.std.specs.Prelude.{ℕ, ◌+◌, nat_le, Bool, true, false, if◌then◌else◌, List, [], ◌∷◌, ◌++◌, map, Option, Some, None}
use Rattle.sync_tokens.specs.declared.token.Kind.{Kind}
use Rattle.sync_tokens.specs.declared.token.Kind.TheVariants as kinds
use Rattle.sync_tokens.specs.declared.token.Sign.{Sign}
use Rattle.sync_tokens.specs.declared.token.Sign.TheVariants as signs
use Rattle.sync_tokens.specs.declared.token.Word.{Word}
use Rattle.sync_tokens.specs.declared.token.Word.TheVariants as words
use Rattle.sync_syntax.specs.Operators.{level}
use Rattle.sync_syntax.specs.declared.tree.Declares.{Declares}
use Rattle.sync_syntax.specs.declared.tree.Declaration.{Declaration}
use Rattle.sync_syntax.specs.declared.tree.Expr.{Expr, fold-Expr}
use Rattle.sync_syntax.specs.declared.tree.Expr.TheOpen.{Expr-F, Suffix-F}
use Rattle.sync_syntax.specs.declared.tree.Named.{Named}
use Rattle.sync_syntax.specs.declared.tree.Operator.{Operator}
use Rattle.sync_syntax.specs.declared.tree.Program.{Program}
use Rattle.sync_syntax.specs.declared.tree.Simple.{Simple}
use Rattle.sync_syntax.specs.declared.tree.Simple.TheVariants as simples
use Rattle.sync_syntax.specs.declared.tree.Start.{Start}
use Rattle.sync_syntax.specs.declared.tree.Start.TheVariants as starts
use Rattle.sync_syntax.specs.declared.tree.Statement.{Statement, fold-Statement}
use Rattle.sync_syntax.specs.declared.tree.Statement.TheOpen.{Statement-F}
use Rattle.sync_syntax.specs.declared.tree.Suffix.{Suffix, fold-Suffix}
use Rattle.sync_print.specs.Spelling.{operator_sign, prefix_kind, writes_sign, declares_word}

-- a sign alone
abbrev pub sign : Sign → List Kind
sign s = kinds.Sign s ∷ []

-- a word alone
abbrev pub word : Word → List Kind
word w = kinds.Word w ∷ []

-- a name alone
abbrev pub name : List ℕ → List Kind
name n = kinds.Name n ∷ []

-- tokens between two signs
abbrev pub between : Sign → List Kind → Sign → List Kind
between left ks right = kinds.Sign left ∷ (ks ++ sign right)

-- tokens in parentheses
abbrev pub parenthesized : List Kind → List Kind
parenthesized ks = between signs.ParenOpen ks signs.ParenClose

-- ---- expressions

-- how an expression is printed: how loosely it binds, whether an object stands leftmost in it, and its tokens
pub record Spelled : Type 0 where
  pub level : ℕ
  pub object_first : Bool
  pub tokens : List Kind

-- what can have something behind it
abbrev pub primary : List Kind → Spelled
primary ks = record { level = 0; object_first = false; tokens = ks }

-- in parentheses where it binds more loosely than this
abbrev pub within : ℕ → Spelled → List Kind
within n x = if nat_le x.level n then x.tokens else parenthesized x.tokens

-- a comma, but for the first of a list
abbrev pub comma : Bool → List Kind
comma first = if first then [] else sign signs.Comma

-- expressions, each with a comma before it but for the first of the list
abbrev pub listed_from : Bool → List Spelled → List Kind
listed_from first [] = []
listed_from first (x ∷ xs) = comma first ++ (x.tokens ++ listed_from false xs)

-- each with a comma before it
abbrev pub more : List Spelled → List Kind
more = listed_from false

-- with commas between
abbrev pub listed : List Spelled → List Kind
listed = listed_from true

-- a member, whose key is a text
abbrev pub member : List ℕ × Spelled → List Kind
member m = kinds.Text m.0 ∷ kinds.Sign signs.Colon ∷ m.1.tokens

-- members, each with a comma before it but for the first of the list
abbrev pub members_from : Bool → List (List ℕ × Spelled) → List Kind
members_from first [] = []
members_from first (m ∷ ms) = comma first ++ (member m ++ members_from false ms)

-- members, each with a comma before it
abbrev pub more_members : List (List ℕ × Spelled) → List Kind
more_members = members_from false

-- members with commas between
abbrev pub members : List (List ℕ × Spelled) → List Kind
members = members_from true

-- what follows an expression
abbrev pub suffixes : List (List Kind) → List Kind
suffixes [] = []
suffixes (s ∷ ss) = s ++ suffixes ss

-- operators with their right operands, which bind at least so tightly
abbrev pub tails : ℕ → List (Operator × Spelled) → List Kind
tails n [] = []
tails n (t ∷ ts) = kinds.Sign (operator_sign t.0) ∷ (within n t.1 ++ tails n ts)

-- how loosely the operands of operators may bind
abbrev pub operand_level : List (Operator × Spelled) → ℕ
operand_level [] = 7
operand_level (t ∷ ts) = level t.0

-- the word of a truth value
abbrev pub truth : Bool → Word
truth b = if b then words.True else words.False

-- one level of an expression
abbrev pub spell : Expr-F Spelled (List Kind) → Spelled
spell (Expr-F.Undefined p) = primary (word words.Undefined)
spell (Expr-F.Null p) = primary (word words.Null)
spell (Expr-F.Bool p b) = primary (word (truth b))
spell (Expr-F.Integer p n) = primary (kinds.Integer n ∷ [])
spell (Expr-F.Text p t) = primary (kinds.Text t ∷ [])
spell (Expr-F.Name p n) = primary (name n)
spell (Expr-F.List p xs) = primary (between signs.BracketOpen (listed xs) signs.BracketClose)
spell (Expr-F.Object p ms) = record { level = 0; object_first = true; tokens = between signs.BraceOpen (members ms) signs.BraceClose }
spell (Expr-F.Prefix p o x) = record { level = 1; object_first = false; tokens = prefix_kind o ∷ within 1 x }
spell (Expr-F.Postfix x ss) = record { level = 1; object_first = x.object_first; tokens = within 0 x ++ suffixes ss }
spell (Expr-F.Chain x ts) = record { level = operand_level ts + 1; object_first = x.object_first; tokens = within (operand_level ts) x ++ tails (operand_level ts) ts }
spell (Expr-F.Choice c x y) = record {
  level = 8;
  object_first = c.object_first;
  tokens = within 7 c ++ kinds.Sign signs.Question ∷ (x.tokens ++ kinds.Sign signs.Colon ∷ y.tokens);
}

-- one suffix
abbrev pub spell_suffix : Suffix-F Spelled (List Kind) → List Kind
spell_suffix (Suffix-F.Member n) = kinds.Sign signs.Dot ∷ name n
spell_suffix (Suffix-F.Index x) = between signs.BracketOpen x.tokens signs.BracketClose
spell_suffix (Suffix-F.Call xs) = between signs.ParenOpen (listed xs) signs.ParenClose

-- how an expression is printed
abbrev pub spelled : Expr → Spelled
spelled = fold-Expr Spelled (List Kind) spell spell_suffix

-- the tokens of what follows an expression
abbrev pub spelled_suffix : Suffix → List Kind
spelled_suffix = fold-Suffix Spelled (List Kind) spell spell_suffix

-- the tokens of an expression
abbrev pub expr : Expr → List Kind
expr x = (spelled x).tokens

-- ---- statements

-- what a variable is given, if it is
abbrev pub given : Option Expr → List Kind
given None = []
given (Some x) = kinds.Sign signs.Assign ∷ expr x

-- a name that is declared
abbrev pub declared : Named × Option Expr → List Kind
declared n = kinds.Name n.0.name ∷ given n.1

-- names that are declared, each with a comma before it but for the first of the list
abbrev pub declared_from : Bool → List (Named × Option Expr) → List Kind
declared_from first [] = []
declared_from first (n ∷ ns) = comma first ++ (declared n ++ declared_from false ns)

-- names that are declared, each with a comma before it
abbrev pub more_declared : List (Named × Option Expr) → List Kind
more_declared = declared_from false

-- names that are declared, with commas between
abbrev pub all_declared : List (Named × Option Expr) → List Kind
all_declared = declared_from true

-- a declaration of variables
abbrev pub declaration : Declaration → List Kind
declaration d = kinds.Word (declares_word d.declares) ∷ all_declared d.names

-- an expression that is a statement, which doesn't begin with a brace
abbrev pub value : Spelled → List Kind
value x = if x.object_first then parenthesized x.tokens else x.tokens

-- a simple statement, without its semicolon
abbrev pub simple : Simple → List Kind
simple (simples.Write n how x) = kinds.Name n.name ∷ kinds.Sign (writes_sign how) ∷ expr x
simple (simples.Increment n) = kinds.Name n.name ∷ sign signs.Increment
simple (simples.Decrement n) = kinds.Name n.name ∷ sign signs.Decrement
simple (simples.Value p x) = value (spelled x)

-- what a `for` does behind each round, which may be absent
abbrev pub last : Option Simple → List Kind
last None = []
last (Some x) = simple x

-- how a `for` begins, which may be absent
abbrev pub start : Option Start → List Kind
start None = []
start (Some (starts.Declare d)) = declaration d
start (Some (starts.Simple x)) = simple x

-- an expression, which may be absent
abbrev pub expr_or_none : Option Expr → List Kind
expr_or_none None = []
expr_or_none (Some x) = expr x

-- what stands in the parentheses of a `for` that counts
abbrev pub head : Option Start → Option Expr → Option Simple → List Kind
head begin condition step = start begin ++ kinds.Sign signs.Semicolon ∷ (expr_or_none condition ++ kinds.Sign signs.Semicolon ∷ last step)

-- what stands in the parentheses of a `for` over a list
abbrev pub each : Declares → Named → Expr → List Kind
each how n x = kinds.Word (declares_word how) ∷ kinds.Name n.name ∷ kinds.Word words.Of ∷ expr x

-- statements one after the other
abbrev pub in_turn : List (List Kind) → List Kind
in_turn [] = []
in_turn (s ∷ ss) = s ++ in_turn ss

-- statements in braces
abbrev pub block : List (List Kind) → List Kind
block ss = between signs.BraceOpen (in_turn ss) signs.BraceClose

-- what stands behind `else`, which may be absent
abbrev pub otherwise : Option (List Kind) → List Kind
otherwise None = []
otherwise (Some s) = kinds.Word words.Else ∷ s

-- one level of a statement
abbrev pub spell_statement : Statement-F (List Kind) → List Kind
spell_statement (Statement-F.Block p ss) = block ss
spell_statement (Statement-F.Empty p) = sign signs.Semicolon
spell_statement (Statement-F.Declare d) = declaration d ++ sign signs.Semicolon
spell_statement (Statement-F.If p c s t) = kinds.Word words.If ∷ (parenthesized (expr c) ++ (s ++ otherwise t))
spell_statement (Statement-F.For p begin c step s) = kinds.Word words.For ∷ (parenthesized (head begin c step) ++ s)
spell_statement (Statement-F.ForOf p how n x s) = kinds.Word words.For ∷ (parenthesized (each how n x) ++ s)
spell_statement (Statement-F.Return p x) = kinds.Word words.Return ∷ (expr_or_none x ++ sign signs.Semicolon)
spell_statement (Statement-F.Throw p x) = kinds.Word words.Throw ∷ (expr x ++ sign signs.Semicolon)
spell_statement (Statement-F.Break p) = kinds.Word words.Break ∷ sign signs.Semicolon
spell_statement (Statement-F.Continue p) = kinds.Word words.Continue ∷ sign signs.Semicolon
spell_statement (Statement-F.Simple x) = simple x ++ sign signs.Semicolon

-- the tokens of a statement
abbrev pub statement : Statement → List Kind
statement = fold-Statement (List Kind) spell_statement

-- ---- programs

-- a function's own name, which may be absent
abbrev pub own_name : Option (List ℕ) → List Kind
own_name None = []
own_name (Some n) = name n

-- the second parameter, which may be absent
abbrev pub second : Option Named → List Kind
second None = []
second (Some n) = kinds.Sign signs.Comma ∷ name n.name

-- the parameters
abbrev pub parameters : Named → Option Named → List Kind
parameters n m = kinds.Name n.name ∷ second m

-- the tokens of a program
unfoldable pub program : Program → List Kind
program p = kinds.Word words.Function ∷ (own_name p.name ++ (parenthesized (parameters p.first p.second) ++ block (map statement p.body)))
