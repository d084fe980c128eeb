-- What is seen of a program that is moved.
use Rattle.std.proofs.Common.{◌≡◌, ℕ, List, map, option_map, rules}
use Rattle.sync_tokens.specs.declared.place.Place.{Place}
use Rattle.sync_syntax.specs.declared.tree.Operator.{Operator}
use Rattle.sync_syntax.specs.declared.tree.Expr.{Expr, out-Expr, the_lemmas}
use Rattle.sync_syntax.specs.declared.tree.Expr.TheOpen.{Expr-F, Suffix-F}
use Rattle.sync_syntax.specs.declared.tree.Suffix.{Suffix, out-Suffix}
use Rattle.sync_syntax.specs.declared.tree.Statement.{Statement, out-Statement}
use Rattle.sync_syntax.specs.declared.tree.Statement.TheOpen.{Statement-F}
use Rattle.sync_syntax.specs.declared.tree.Statement as statements
use Rattle.sync_meaning.specs.Expressions.{ExprLayer, SuffixLayer}
use Rattle.sync_meaning.specs.Statements.{StatementLayer}
use Rattle.sync_syntax.specs.Moved.{moved_expr, moved_suffix, moved_named, moved_declaration, moved_simple, moved_start, moved_statement}

module _ (f : Place → Place) where
  abbrev pub moved_member : List ℕ × Expr → List ℕ × Expr
  moved_member m = (m.0, moved_expr f m.1)

  abbrev pub moved_tail : Operator × Expr → Operator × Expr
  moved_tail o = (o.0, moved_expr f o.1)

  abbrev pub moved_layer : ExprLayer → ExprLayer
  moved_layer (Expr-F.Undefined p) = Expr-F.Undefined (f p)
  moved_layer (Expr-F.Null p) = Expr-F.Null (f p)
  moved_layer (Expr-F.Bool p b) = Expr-F.Bool (f p) b
  moved_layer (Expr-F.Integer p n) = Expr-F.Integer (f p) n
  moved_layer (Expr-F.Text p x) = Expr-F.Text (f p) x
  moved_layer (Expr-F.Name p n) = Expr-F.Name (f p) n
  moved_layer (Expr-F.List p es) = Expr-F.List (f p) (map (moved_expr f) es)
  moved_layer (Expr-F.Object p ms) = Expr-F.Object (f p) (map moved_member ms)
  moved_layer (Expr-F.Prefix p o x) = Expr-F.Prefix (f p) o (moved_expr f x)
  moved_layer (Expr-F.Postfix first ss) = Expr-F.Postfix (moved_expr f first) (map (moved_suffix f) ss)
  moved_layer (Expr-F.Chain first os) = Expr-F.Chain (moved_expr f first) (map moved_tail os)
  moved_layer (Expr-F.Choice c x y) = Expr-F.Choice (moved_expr f c) (moved_expr f x) (moved_expr f y)

  abbrev pub moved_suffix_layer : SuffixLayer → SuffixLayer
  moved_suffix_layer (Suffix-F.Member n) = Suffix-F.Member n
  moved_suffix_layer (Suffix-F.Index x) = Suffix-F.Index (moved_expr f x)
  moved_suffix_layer (Suffix-F.Call xs) = Suffix-F.Call (map (moved_expr f) xs)

  abbrev pub moved_statement_layer : StatementLayer → StatementLayer
  moved_statement_layer (Statement-F.Block p xs) = Statement-F.Block (f p) (map (moved_statement f) xs)
  moved_statement_layer (Statement-F.Empty p) = Statement-F.Empty (f p)
  moved_statement_layer (Statement-F.Declare d) = Statement-F.Declare (moved_declaration f d)
  moved_statement_layer (Statement-F.If p c x y) = Statement-F.If (f p) (moved_expr f c) (moved_statement f x) (option_map (moved_statement f) y)
  moved_statement_layer (Statement-F.For p begin c last x) = Statement-F.For (f p) (option_map (moved_start f) begin) (option_map (moved_expr f) c) (option_map (moved_simple f) last) (moved_statement f x)
  moved_statement_layer (Statement-F.ForOf p how n x y) = Statement-F.ForOf (f p) how (moved_named f n) (moved_expr f x) (moved_statement f y)
  moved_statement_layer (Statement-F.Return p x) = Statement-F.Return (f p) (option_map (moved_expr f) x)
  moved_statement_layer (Statement-F.Throw p x) = Statement-F.Throw (f p) (moved_expr f x)
  moved_statement_layer (Statement-F.Break p) = Statement-F.Break (f p)
  moved_statement_layer (Statement-F.Continue p) = Statement-F.Continue (f p)
  moved_statement_layer (Statement-F.Simple x) = Statement-F.Simple (moved_simple f x)

  pub out-moved_expr : (x : Expr) → out-Expr (moved_expr f x) ≡ moved_layer (out-Expr x)
  out-moved_expr x = search (rules, the_lemmas)

  pub out-moved_suffix : (x : Suffix) → out-Suffix (moved_suffix f x) ≡ moved_suffix_layer (out-Suffix x)
  out-moved_suffix x = search (rules, the_lemmas)

  pub out-moved_statement : (x : Statement) → out-Statement (moved_statement f x) ≡ moved_statement_layer (out-Statement x)
  out-moved_statement x = search (rules, statements.the_lemmas)
