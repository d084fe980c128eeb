-- The grammar: which tokens spell which tree, rule by rule, however they are read. `IsExpr ts x us` says that the
-- tokens ts begin with a spelling of x, behind which come the tokens us.
use Rattle.std.specs.Prelude.{◌≡◌, ℕ, suc, Bool, true, false, List, [], ◌∷◌, Option, Some, None}
use Rattle.sync_tokens.specs.declared.token.Kind.{Kind}
use Rattle.sync_tokens.specs.declared.token.Kind.TheVariants as kinds
use Rattle.sync_tokens.specs.declared.token.Sign.{Sign}
use Rattle.sync_tokens.specs.declared.token.Sign.TheVariants as signs
use Rattle.sync_tokens.specs.declared.token.Word.TheVariants as words
use Rattle.sync_syntax.specs.declared.operator.Writing.TheVariants as writing
use Rattle.sync_syntax.specs.declared.tree.Operator.{Operator}
use Rattle.sync_syntax.specs.declared.tree.Prefix.{Prefix}
use Rattle.sync_syntax.specs.declared.tree.Expr.{Expr}
use Rattle.sync_syntax.specs.declared.tree.Expr.TheVariants as e
use Rattle.sync_syntax.specs.declared.tree.Suffix.{Suffix}
use Rattle.sync_syntax.specs.declared.tree.Suffix.TheVariants as suffixes
use Rattle.sync_syntax.specs.declared.tree.Named.{Named}
use Rattle.sync_syntax.specs.declared.tree.Declares.{Declares}
use Rattle.sync_syntax.specs.declared.tree.Declaration.{Declaration}
use Rattle.sync_syntax.specs.declared.tree.Writes.{Writes}
use Rattle.sync_syntax.specs.declared.tree.Simple.{Simple}
use Rattle.sync_syntax.specs.declared.tree.Simple.TheVariants as simples
use Rattle.sync_syntax.specs.declared.tree.Start.{Start}
use Rattle.sync_syntax.specs.declared.tree.Start.TheVariants as starts
use Rattle.sync_syntax.specs.declared.tree.Statement.{Statement}
use Rattle.sync_syntax.specs.declared.tree.Statement.TheVariants as s
use Rattle.sync_syntax.specs.declared.tree.Program.{Program}
use Rattle.sync_syntax.specs.Reading.{Tokens, kind, next, place, sees, sees_word}
use Rattle.sync_syntax.specs.Operators.{operator_at, prefix_by, declares_by, writing_by}
use Rattle.sync_syntax.specs.Expressions.{followed, chained}

-- the next token of ts is this one, and us come behind it
pub record Takes (k : Kind) (ts us : Tokens) : Type 0 where
  pub is : kind ts ≡ k
  pub rest : us ≡ next ts

-- the key of a member: a name or a text
pub data IsKey : Tokens → List ℕ → Tokens → Type 0 where
  name_key : {ts us : Tokens} {n : List ℕ} → Takes (kinds.Name n) ts us → IsKey ts n us
  text_key : {ts us : Tokens} {n : List ℕ} → Takes (kinds.Text n) ts us → IsKey ts n us

mutual
  -- expr = or ["?" expr ":" expr]
  pub data IsExpr : Tokens → Expr → Tokens → Type 0 where
    no_choice : {ts us : Tokens} {x : Expr} → IsChain 6 ts x us → IsExpr ts x us
    choice : {ts us vs ws xs ys : Tokens} {x a b : Expr} → IsChain 6 ts x us → Takes (kinds.Sign signs.Question) us vs → IsExpr vs a ws
        → Takes (kinds.Sign signs.Colon) ws xs → IsExpr xs b ys → IsExpr ts (e.Choice x a b) ys

  -- or, and, equal, order, sum and product, from level 6 down to 1: operands of the level below with operators of
  -- the level between
  pub data IsChain : ℕ → Tokens → Expr → Tokens → Type 0 where
    operand : {ts us : Tokens} {x : Expr} → IsUnary ts x us → IsChain 0 ts x us
    chain : {level : ℕ} {ts us vs : Tokens} {x : Expr} {tails : List (Operator × Expr)} → IsChain level ts x us → AreTails level us tails vs
        → IsChain (suc level) ts (chained x tails) vs

  pub data AreTails : ℕ → Tokens → List (Operator × Expr) → Tokens → Type 0 where
    no_tail : {level : ℕ} {ts : Tokens} → AreTails level ts [] ts
    tail : {level : ℕ} {ts us vs ws : Tokens} {k : Kind} {op : Operator} {x : Expr} {tails : List (Operator × Expr)} → Takes k ts us → operator_at (suc level) k ≡ Some op
        → IsChain level us x vs → AreTails level vs tails ws → AreTails level ts ((op, x) ∷ tails) ws

  -- unary = ("!"|"-"|"typeof") unary | postfix, where postfix = primary and its suffixes
  pub data IsUnary : Tokens → Expr → Tokens → Type 0 where
    prefixed : {ts us vs : Tokens} {k : Kind} {op : Prefix} {x : Expr} → Takes k ts us → prefix_by k ≡ Some op → IsUnary us x vs → IsUnary ts (e.Prefix (place ts) op x) vs
    postfix : {ts us vs : Tokens} {x : Expr} {found : List Suffix} → IsPrimary ts x us → AreSuffixes us found vs → IsUnary ts (followed x found) vs

  pub data AreSuffixes : Tokens → List Suffix → Tokens → Type 0 where
    no_suffix : {ts : Tokens} → AreSuffixes ts [] ts
    one_suffix : {ts us vs : Tokens} {x : Suffix} {found : List Suffix} → IsSuffix ts x us → AreSuffixes us found vs → AreSuffixes ts (x ∷ found) vs

  -- "." ident | "[" expr "]" | "(" [expr {"," expr}] ")"
  pub data IsSuffix : Tokens → Suffix → Tokens → Type 0 where
    member_suffix : {ts us vs : Tokens} {n : List ℕ} → Takes (kinds.Sign signs.Dot) ts us → Takes (kinds.Name n) us vs → IsSuffix ts (suffixes.Member n) vs
    index_suffix : {ts us vs ws : Tokens} {x : Expr} → Takes (kinds.Sign signs.BracketOpen) ts us → IsExpr us x vs → Takes (kinds.Sign signs.BracketClose) vs ws
        → IsSuffix ts (suffixes.Index x) ws
    call_suffix : {ts us vs : Tokens} {found : List Expr} → Takes (kinds.Sign signs.ParenOpen) ts us → AreListed signs.ParenClose us found vs
        → IsSuffix ts (suffixes.Call found) vs

  -- [expr {"," expr}] and the sign behind it
  pub data AreListed : Sign → Tokens → List Expr → Tokens → Type 0 where
    none_listed : {close : Sign} {ts us : Tokens} → Takes (kinds.Sign close) ts us → AreListed close ts [] us
    some_listed : {close : Sign} {ts us vs : Tokens} {found : List Expr} → AreExprs ts found us → Takes (kinds.Sign close) us vs → AreListed close ts found vs

  pub data AreExprs : Tokens → List Expr → Tokens → Type 0 where
    one_expr : {ts us : Tokens} {x : Expr} → IsExpr ts x us → AreExprs ts (x ∷ []) us
    more_exprs : {ts us vs ws : Tokens} {x : Expr} {found : List Expr} → IsExpr ts x us → Takes (kinds.Sign signs.Comma) us vs → AreExprs vs found ws
        → AreExprs ts (x ∷ found) ws

  -- [member {"," member}] "}", where member = (ident | text) ":" expr
  pub data AreFields : Tokens → List (List ℕ × Expr) → Tokens → Type 0 where
    no_fields : {ts us : Tokens} → Takes (kinds.Sign signs.BraceClose) ts us → AreFields ts [] us
    some_fields : {ts us vs : Tokens} {found : List (List ℕ × Expr)} → AreMembers ts found us → Takes (kinds.Sign signs.BraceClose) us vs → AreFields ts found vs

  pub data AreMembers : Tokens → List (List ℕ × Expr) → Tokens → Type 0 where
    one_member : {ts us : Tokens} {m : List ℕ × Expr} → IsMember ts m us → AreMembers ts (m ∷ []) us
    more_members : {ts us vs ws : Tokens} {m : List ℕ × Expr} {found : List (List ℕ × Expr)} → IsMember ts m us → Takes (kinds.Sign signs.Comma) us vs
        → AreMembers vs found ws → AreMembers ts (m ∷ found) ws

  pub data IsMember : Tokens → List ℕ × Expr → Tokens → Type 0 where
    member : {ts us vs ws : Tokens} {key : List ℕ} {x : Expr} → IsKey ts key us → Takes (kinds.Sign signs.Colon) us vs → IsExpr vs x ws → IsMember ts (key, x) ws

  -- integer | text | "true" | "false" | "null" | "undefined" | ident | "(" expr ")" | list | object
  pub data IsPrimary : Tokens → Expr → Tokens → Type 0 where
    integer : {ts us : Tokens} {n : ℕ} → Takes (kinds.Integer n) ts us → IsPrimary ts (e.Integer (place ts) n) us
    text : {ts us : Tokens} {n : List ℕ} → Takes (kinds.Text n) ts us → IsPrimary ts (e.Text (place ts) n) us
    name : {ts us : Tokens} {n : List ℕ} → Takes (kinds.Name n) ts us → IsPrimary ts (e.Name (place ts) n) us
    yes : {ts us : Tokens} → Takes (kinds.Word words.True) ts us → IsPrimary ts (e.Bool (place ts) true) us
    no : {ts us : Tokens} → Takes (kinds.Word words.False) ts us → IsPrimary ts (e.Bool (place ts) false) us
    null : {ts us : Tokens} → Takes (kinds.Word words.Null) ts us → IsPrimary ts (e.Null (place ts)) us
    undefined : {ts us : Tokens} → Takes (kinds.Word words.Undefined) ts us → IsPrimary ts (e.Undefined (place ts)) us
    parentheses : {ts us vs ws : Tokens} {x : Expr} → Takes (kinds.Sign signs.ParenOpen) ts us → IsExpr us x vs → Takes (kinds.Sign signs.ParenClose) vs ws → IsPrimary ts x ws
    list : {ts us vs : Tokens} {found : List Expr} → Takes (kinds.Sign signs.BracketOpen) ts us → AreListed signs.BracketClose us found vs
        → IsPrimary ts (e.List (place ts) found) vs
    object : {ts us vs : Tokens} {found : List (List ℕ × Expr)} → Takes (kinds.Sign signs.BraceOpen) ts us → AreFields us found vs
        → IsPrimary ts (e.Object (place ts) found) vs

-- ---- statements

pub data IsNamed : Tokens → Named → Tokens → Type 0 where
  named : {ts us : Tokens} {n : List ℕ} → Takes (kinds.Name n) ts us → IsNamed ts (record { place = place ts; name = n }) us

-- a `;`, which may be absent directly before a `}`
pub data Ends : Tokens → Tokens → Type 0 where
  ended : {ts us : Tokens} → Takes (kinds.Sign signs.Semicolon) ts us → Ends ts us
  left_out : {ts us : Tokens} → Takes (kinds.Sign signs.BraceClose) ts us → Ends ts ts

-- ["=" expr]
pub data IsGiven : Tokens → Option Expr → Tokens → Type 0 where
  not_given : {ts : Tokens} → IsGiven ts None ts
  given : {ts us vs : Tokens} {x : Expr} → Takes (kinds.Sign signs.Assign) ts us → IsExpr us x vs → IsGiven ts (Some x) vs

-- ident ["=" expr] {"," ident ["=" expr]}
pub data AreDeclared : Tokens → List (Named × Option Expr) → Tokens → Type 0 where
  one_declared : {ts us vs : Tokens} {n : Named} {x : Option Expr} → IsNamed ts n us → IsGiven us x vs → AreDeclared ts ((n, x) ∷ []) vs
  more_declared : {ts us vs ws xs : Tokens} {n : Named} {x : Option Expr} {others : List (Named × Option Expr)} → IsNamed ts n us → IsGiven us x vs
      → Takes (kinds.Sign signs.Comma) vs ws → AreDeclared ws others xs → AreDeclared ts ((n, x) ∷ others) xs

-- declare = ("var"|"let"|"const") and what it declares
pub data IsDeclaration : Tokens → Declaration → Tokens → Type 0 where
  declaration : {ts us vs : Tokens} {k : Kind} {how : Declares} {names : List (Named × Option Expr)} → Takes k ts us → declares_by k ≡ Some how → AreDeclared us names vs
      → IsDeclaration ts (record { place = place ts; declares = how; names = names }) vs

-- simple = ident ("=" | "+=" | "-=") expr | ident ("++" | "--") | expr
pub data IsSimple : Tokens → Simple → Tokens → Type 0 where
  write : {ts us vs ws : Tokens} {n : Named} {k : Kind} {how : Writes} {x : Expr} → IsNamed ts n us → Takes k us vs → writing_by k ≡ Some (writing.Sets how) → IsExpr vs x ws
      → IsSimple ts (simples.Write n how x) ws
  increment : {ts us vs : Tokens} {n : Named} {k : Kind} → IsNamed ts n us → Takes k us vs → writing_by k ≡ Some writing.Increments → IsSimple ts (simples.Increment n) vs
  decrement : {ts us vs : Tokens} {n : Named} {k : Kind} → IsNamed ts n us → Takes k us vs → writing_by k ≡ Some writing.Decrements → IsSimple ts (simples.Decrement n) vs
  value : {ts us : Tokens} {x : Expr} → IsExpr ts x us → IsSimple ts (simples.Value (place ts) x) us

-- [expr] and the sign behind it
pub data IsExprOrNone : Sign → Tokens → Option Expr → Tokens → Type 0 where
  no_expr : {close : Sign} {ts us : Tokens} → Takes (kinds.Sign close) ts us → IsExprOrNone close ts None us
  an_expr : {close : Sign} {ts us vs : Tokens} {x : Expr} → IsExpr ts x us → Takes (kinds.Sign close) us vs → IsExprOrNone close ts (Some x) vs

-- [simple] ")"
pub data IsLast : Tokens → Option Simple → Tokens → Type 0 where
  no_last : {ts us : Tokens} → Takes (kinds.Sign signs.ParenClose) ts us → IsLast ts None us
  last : {ts us vs : Tokens} {x : Simple} → IsSimple ts x us → Takes (kinds.Sign signs.ParenClose) us vs → IsLast ts (Some x) vs

-- [declare | simple] ";"
pub data IsStart : Tokens → Option Start → Tokens → Type 0 where
  no_start : {ts us : Tokens} → Takes (kinds.Sign signs.Semicolon) ts us → IsStart ts None us
  declares : {ts us vs : Tokens} {d : Declaration} → IsDeclaration ts d us → Takes (kinds.Sign signs.Semicolon) us vs → IsStart ts (Some (starts.Declare d)) vs
  starts_simple : {ts us vs : Tokens} {x : Simple} → IsSimple ts x us → Takes (kinds.Sign signs.Semicolon) us vs → IsStart ts (Some (starts.Simple x)) vs

-- The first argument says whether the statement stands in a loop.
mutual
  pub data IsStatement : Bool → Tokens → Statement → Tokens → Type 0 where
    block : {l : Bool} {ts us vs : Tokens} {found : List Statement} → Takes (kinds.Sign signs.BraceOpen) ts us → AreStatements l us found vs
        → IsStatement l ts (s.Block (place ts) found) vs
    empty : {l : Bool} {ts us : Tokens} → Takes (kinds.Sign signs.Semicolon) ts us → IsStatement l ts (s.Empty (place ts)) us
    declare : {l : Bool} {ts us vs : Tokens} {d : Declaration} → IsDeclaration ts d us → Ends us vs → IsStatement l ts (s.Declare d) vs
    choose : {l : Bool} {ts us vs ws xs ys zs : Tokens} {x : Expr} {first : Statement} {other : Option Statement} → Takes (kinds.Word words.If) ts us
        → Takes (kinds.Sign signs.ParenOpen) us vs → IsExpr vs x ws → Takes (kinds.Sign signs.ParenClose) ws xs → IsStatement l xs first ys → IsOtherwise l ys other zs
        → IsStatement l ts (s.If (place ts) x first other) zs
    repeat : {l : Bool} {ts us vs ws xs ys zs : Tokens} {begins : Option Start} {x : Option Expr} {step : Option Simple} {body : Statement} → Takes (kinds.Word words.For) ts us
        → Takes (kinds.Sign signs.ParenOpen) us vs → IsStart vs begins ws → IsExprOrNone signs.Semicolon ws x xs → IsLast xs step ys → IsStatement true ys body zs
        → IsStatement l ts (s.For (place ts) begins x step body) zs
    each : {l : Bool} {ts us vs ws xs ys zs cs bs : Tokens} {k : Kind} {how : Declares} {n : Named} {x : Expr} {body : Statement} → Takes (kinds.Word words.For) ts us
        → Takes (kinds.Sign signs.ParenOpen) us vs → Takes k vs ws → declares_by k ≡ Some how → IsNamed ws n xs → Takes (kinds.Word words.Of) xs ys → IsExpr ys x zs
        → Takes (kinds.Sign signs.ParenClose) zs cs → IsStatement true cs body bs → IsStatement l ts (s.ForOf (place ts) how n x body) bs
    return_none : {l : Bool} {ts us vs : Tokens} → Takes (kinds.Word words.Return) ts us → Ends us vs → IsStatement l ts (s.Return (place ts) None) vs
    return_some : {l : Bool} {ts us vs ws : Tokens} {x : Expr} → Takes (kinds.Word words.Return) ts us → IsExpr us x vs → Ends vs ws
        → IsStatement l ts (s.Return (place ts) (Some x)) ws
    throw : {l : Bool} {ts us vs ws : Tokens} {x : Expr} → Takes (kinds.Word words.Throw) ts us → IsExpr us x vs → Ends vs ws → IsStatement l ts (s.Throw (place ts) x) ws
    break : {ts us vs : Tokens} → Takes (kinds.Word words.Break) ts us → Ends us vs → IsStatement true ts (s.Break (place ts)) vs
    continue : {ts us vs : Tokens} → Takes (kinds.Word words.Continue) ts us → Ends us vs → IsStatement true ts (s.Continue (place ts)) vs
    -- one that begins with `{` is a block
    simple : {l : Bool} {ts us vs : Tokens} {x : Simple} → sees signs.BraceOpen ts ≡ false → IsSimple ts x us → Ends us vs → IsStatement l ts (s.Simple x) vs

  -- an `else` belongs to the nearest `if`
  pub data IsOtherwise : Bool → Tokens → Option Statement → Tokens → Type 0 where
    no_else : {l : Bool} {ts : Tokens} → sees_word words.Else ts ≡ false → IsOtherwise l ts None ts
    other : {l : Bool} {ts us vs : Tokens} {x : Statement} → Takes (kinds.Word words.Else) ts us → IsStatement l us x vs → IsOtherwise l ts (Some x) vs

  -- {statement} "}"
  pub data AreStatements : Bool → Tokens → List Statement → Tokens → Type 0 where
    no_statement : {l : Bool} {ts us : Tokens} → Takes (kinds.Sign signs.BraceClose) ts us → AreStatements l ts [] us
    one_statement : {l : Bool} {ts us vs : Tokens} {x : Statement} {others : List Statement} → IsStatement l ts x us → AreStatements l us others vs
        → AreStatements l ts (x ∷ others) vs

-- ---- programs

pub data IsOwnName : Tokens → Option (List ℕ) → Tokens → Type 0 where
  no_own_name : {ts : Tokens} → IsOwnName ts None ts
  own_name : {ts us : Tokens} {n : List ℕ} → Takes (kinds.Name n) ts us → IsOwnName ts (Some n) us

pub data IsSecond : Tokens → Option Named → Tokens → Type 0 where
  no_second : {ts : Tokens} → IsSecond ts None ts
  second : {ts us vs : Tokens} {n : Named} → Takes (kinds.Sign signs.Comma) ts us → IsNamed us n vs → IsSecond ts (Some n) vs

-- "function" [ident] "(" ident ["," ident] ")"
pub data IsHead : Tokens → Option (List ℕ) → Named → Option Named → Tokens → Type 0 where
  head : {ts us vs ws xs ys zs : Tokens} {own : Option (List ℕ)} {n : Named} {m : Option Named} → Takes (kinds.Word words.Function) ts us → IsOwnName us own vs
      → Takes (kinds.Sign signs.ParenOpen) vs ws → IsNamed ws n xs → IsSecond xs m ys → Takes (kinds.Sign signs.ParenClose) ys zs → IsHead ts own n m zs

-- after a program may stand one `;`
pub data IsTail : Tokens → Tokens → Type 0 where
  no_semicolon : {ts : Tokens} → IsTail ts ts
  semicolon : {ts us : Tokens} → Takes (kinds.Sign signs.Semicolon) ts us → IsTail ts us

-- the tokens are a program, up to the end of the text
pub data IsProgram : Tokens → Program → Type 0 where
  program : {ts us vs ws xs : Tokens} {own : Option (List ℕ)} {n : Named} {m : Option Named} {body : List Statement} → IsHead ts own n m us
      → Takes (kinds.Sign signs.BraceOpen) us vs → AreStatements false vs body ws → IsTail ws xs → kind xs ≡ kinds.End
      → IsProgram ts (record { name = own; first = n; second = m; place = place us; body = body })
