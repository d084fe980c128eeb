-- How much is open at once where tokens are a program by the grammar. A statement, an expression and the operand of a
-- prefix operator are open until their last token; what is read one after the other is not open at once.
use Rattle.std.specs.Prelude.{ℕ, ◌+◌, max, List, Bool, Option}
use Rattle.sync_tokens.specs.declared.token.Sign.{Sign}
use Rattle.sync_syntax.specs.declared.tree.Operator.{Operator}
use Rattle.sync_syntax.specs.declared.tree.Expr.{Expr}
use Rattle.sync_syntax.specs.declared.tree.Suffix.{Suffix}
use Rattle.sync_syntax.specs.declared.tree.Named.{Named}
use Rattle.sync_syntax.specs.declared.tree.Declaration.{Declaration}
use Rattle.sync_syntax.specs.declared.tree.Simple.{Simple}
use Rattle.sync_syntax.specs.declared.tree.Start.{Start}
use Rattle.sync_syntax.specs.declared.tree.Statement.{Statement}
use Rattle.sync_syntax.specs.declared.tree.Program.{Program}
use Rattle.sync_syntax.specs.Reading.{Tokens}
use Rattle.sync_syntax.specs.Grammar as g
use Rattle.sync_syntax.specs.Grammar.{IsExpr, IsChain, AreTails, IsUnary, AreSuffixes, IsSuffix, AreListed, AreExprs, AreFields, AreMembers, IsMember, IsPrimary, IsGiven, AreDeclared, IsDeclaration, IsSimple, IsExprOrNone, IsLast, IsStart, IsStatement, IsOtherwise, AreStatements, IsProgram}

-- ---- expressions

abbrev mutual
  -- an expression is one more than what is in it
  pub expr_depth : {ts us : Tokens} {x : Expr} → IsExpr ts x us → ℕ
  expr_depth (g.no_choice c) = 1 + chain_depth c
  expr_depth (g.choice c question a colon b) = 1 + max (chain_depth c) (max (expr_depth a) (expr_depth b))

  pub chain_depth : {level : ℕ} {ts us : Tokens} {x : Expr} → IsChain level ts x us → ℕ
  chain_depth (g.operand u) = unary_depth u
  chain_depth (g.chain c tails) = max (chain_depth c) (tails_depth tails)

  pub tails_depth : {level : ℕ} {ts us : Tokens} {xs : List (Operator × Expr)} → AreTails level ts xs us → ℕ
  tails_depth g.no_tail = 0
  tails_depth (g.tail take is c tails) = max (chain_depth c) (tails_depth tails)

  -- so is the operand of a prefix operator
  pub unary_depth : {ts us : Tokens} {x : Expr} → IsUnary ts x us → ℕ
  unary_depth (g.prefixed take is u) = 1 + unary_depth u
  unary_depth (g.postfix p found) = max (primary_depth p) (suffixes_depth found)

  pub suffixes_depth : {ts us : Tokens} {xs : List Suffix} → AreSuffixes ts xs us → ℕ
  suffixes_depth g.no_suffix = 0
  suffixes_depth (g.one_suffix s found) = max (suffix_depth s) (suffixes_depth found)

  pub suffix_depth : {ts us : Tokens} {x : Suffix} → IsSuffix ts x us → ℕ
  suffix_depth (g.member_suffix dot n) = 0
  suffix_depth (g.index_suffix begin x end) = expr_depth x
  suffix_depth (g.call_suffix begin found) = listed_depth found

  pub listed_depth : {close : Sign} {ts us : Tokens} {xs : List Expr} → AreListed close ts xs us → ℕ
  listed_depth (g.none_listed k) = 0
  listed_depth (g.some_listed found k) = exprs_depth found

  pub exprs_depth : {ts us : Tokens} {xs : List Expr} → AreExprs ts xs us → ℕ
  exprs_depth (g.one_expr x) = expr_depth x
  exprs_depth (g.more_exprs x comma found) = max (expr_depth x) (exprs_depth found)

  pub fields_depth : {ts us : Tokens} {xs : List (List ℕ × Expr)} → AreFields ts xs us → ℕ
  fields_depth (g.no_fields k) = 0
  fields_depth (g.some_fields found k) = members_depth found

  pub members_depth : {ts us : Tokens} {xs : List (List ℕ × Expr)} → AreMembers ts xs us → ℕ
  members_depth (g.one_member m) = member_depth m
  members_depth (g.more_members m comma found) = max (member_depth m) (members_depth found)

  pub member_depth : {ts us : Tokens} {x : List ℕ × Expr} → IsMember ts x us → ℕ
  member_depth (g.member key colon x) = expr_depth x

  pub primary_depth : {ts us : Tokens} {x : Expr} → IsPrimary ts x us → ℕ
  primary_depth (g.parentheses begin x end) = expr_depth x
  primary_depth (g.list begin found) = listed_depth found
  primary_depth (g.object begin found) = fields_depth found
  primary_depth _ = 0

-- ---- what stands in statements

abbrev pub given_depth : {ts us : Tokens} {x : Option Expr} → IsGiven ts x us → ℕ
given_depth g.not_given = 0
given_depth (g.given assign x) = expr_depth x

abbrev pub declared_depth : {ts us : Tokens} {xs : List (Named × Option Expr)} → AreDeclared ts xs us → ℕ
declared_depth (g.one_declared n x) = given_depth x
declared_depth (g.more_declared n x comma others) = max (given_depth x) (declared_depth others)

abbrev pub declaration_depth : {ts us : Tokens} {d : Declaration} → IsDeclaration ts d us → ℕ
declaration_depth (g.declaration take is names) = declared_depth names

abbrev pub simple_depth : {ts us : Tokens} {x : Simple} → IsSimple ts x us → ℕ
simple_depth (g.write n take is x) = expr_depth x
simple_depth (g.increment n take is) = 0
simple_depth (g.decrement n take is) = 0
simple_depth (g.value x) = expr_depth x

abbrev pub expr_or_none_depth : {close : Sign} {ts us : Tokens} {x : Option Expr} → IsExprOrNone close ts x us → ℕ
expr_or_none_depth (g.no_expr k) = 0
expr_or_none_depth (g.an_expr x k) = expr_depth x

abbrev pub last_depth : {ts us : Tokens} {x : Option Simple} → IsLast ts x us → ℕ
last_depth (g.no_last k) = 0
last_depth (g.last x k) = simple_depth x

abbrev pub start_depth : {ts us : Tokens} {x : Option Start} → IsStart ts x us → ℕ
start_depth (g.no_start k) = 0
start_depth (g.declares d k) = declaration_depth d
start_depth (g.starts_simple x k) = simple_depth x

-- ---- statements and programs

abbrev mutual
  -- a statement is one more than what is in it
  pub statement_depth : {l : Bool} {ts us : Tokens} {x : Statement} → IsStatement l ts x us → ℕ
  statement_depth (g.block begin found) = 1 + statements_depth found
  statement_depth (g.empty k) = 1
  statement_depth (g.declare d end) = 1 + declaration_depth d
  statement_depth (g.choose word begin x end first others) = 1 + max (expr_depth x) (max (statement_depth first) (otherwise_depth others))
  statement_depth (g.repeat word begin starts x step body) =
      1 + max (start_depth starts) (max (expr_or_none_depth x) (max (last_depth step) (statement_depth body)))
  statement_depth (g.each word begin how is n of x end body) = 1 + max (expr_depth x) (statement_depth body)
  statement_depth (g.return_none word end) = 1
  statement_depth (g.return_some word x end) = 1 + expr_depth x
  statement_depth (g.throw word x end) = 1 + expr_depth x
  statement_depth (g.break word end) = 1
  statement_depth (g.continue word end) = 1
  statement_depth (g.simple no_block x end) = 1 + simple_depth x

  pub otherwise_depth : {l : Bool} {ts us : Tokens} {x : Option Statement} → IsOtherwise l ts x us → ℕ
  otherwise_depth (g.no_else k) = 0
  otherwise_depth (g.other word x) = statement_depth x

  pub statements_depth : {l : Bool} {ts us : Tokens} {xs : List Statement} → AreStatements l ts xs us → ℕ
  statements_depth (g.no_statement k) = 0
  statements_depth (g.one_statement x others) = max (statement_depth x) (statements_depth others)

-- the body of a program is open too
abbrev pub depth : {ts : Tokens} {p : Program} → IsProgram ts p → ℕ
depth (g.program front begin body back end) = 1 + statements_depth body
