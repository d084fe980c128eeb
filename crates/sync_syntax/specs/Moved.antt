-- A program with each of its places moved.
use Rattle.std.specs.Prelude.{Option, option_map, map}
use Rattle.sync_tokens.specs.declared.place.Place.{Place}
use Rattle.sync_syntax.specs.declared.tree.Expr.{Expr, fold-Expr}
use Rattle.sync_syntax.specs.declared.tree.Expr.TheOpen.{Expr-F, Suffix-F}
use Rattle.sync_syntax.specs.declared.tree.Expr.TheVariants as e
use Rattle.sync_syntax.specs.declared.tree.Suffix.{Suffix, fold-Suffix}
use Rattle.sync_syntax.specs.declared.tree.Suffix.TheVariants as suffixes
use Rattle.sync_syntax.specs.declared.tree.Named.{Named}
use Rattle.sync_syntax.specs.declared.tree.Declaration.{Declaration}
use Rattle.sync_syntax.specs.declared.tree.Simple.{Simple}
use Rattle.sync_syntax.specs.declared.tree.Simple.TheVariants as simples
use Rattle.sync_syntax.specs.declared.tree.Start.{Start}
use Rattle.sync_syntax.specs.declared.tree.Start.TheVariants as starts
use Rattle.sync_syntax.specs.declared.tree.Statement.{Statement, fold-Statement}
use Rattle.sync_syntax.specs.declared.tree.Statement.TheOpen.{Statement-F}
use Rattle.sync_syntax.specs.declared.tree.Statement.TheVariants as s
use Rattle.sync_syntax.specs.declared.tree.Program.{Program}

-- The argument says where a place goes.
module _ (f : Place → Place) where
  -- one level of an expression, whose parts are moved already
  abbrev pub move_expr : Expr-F Expr Suffix → Expr
  move_expr (Expr-F.Undefined p) = e.Undefined (f p)
  move_expr (Expr-F.Null p) = e.Null (f p)
  move_expr (Expr-F.Bool p b) = e.Bool (f p) b
  move_expr (Expr-F.Integer p n) = e.Integer (f p) n
  move_expr (Expr-F.Text p x) = e.Text (f p) x
  move_expr (Expr-F.Name p n) = e.Name (f p) n
  move_expr (Expr-F.List p es) = e.List (f p) es
  move_expr (Expr-F.Object p ms) = e.Object (f p) ms
  move_expr (Expr-F.Prefix p o x) = e.Prefix (f p) o x
  move_expr (Expr-F.Postfix first ss) = e.Postfix first ss
  move_expr (Expr-F.Chain first os) = e.Chain first os
  move_expr (Expr-F.Choice c x y) = e.Choice c x y

  -- one level of what follows an expression, whose parts are moved already
  abbrev pub move_suffix : Suffix-F Expr Suffix → Suffix
  move_suffix (Suffix-F.Member n) = suffixes.Member n
  move_suffix (Suffix-F.Index x) = suffixes.Index x
  move_suffix (Suffix-F.Call xs) = suffixes.Call xs

  -- an expression with its places moved
  abbrev pub moved_expr : Expr → Expr
  moved_expr = fold-Expr Expr Suffix move_expr move_suffix

  -- what follows an expression, with its places moved
  abbrev pub moved_suffix : Suffix → Suffix
  moved_suffix = fold-Suffix Expr Suffix move_expr move_suffix

  -- a name with its place moved
  abbrev pub moved_named : Named → Named
  moved_named n = record { place = f n.place; name = n.name }

  -- a name and the value that it is given, moved
  abbrev pub moved_given : Named × Option Expr → Named × Option Expr
  moved_given x = (moved_named x.0, option_map moved_expr x.1)

  -- a declaration with its places moved
  abbrev pub moved_declaration : Declaration → Declaration
  moved_declaration d = record { place = f d.place; declares = d.declares; names = map moved_given d.names }

  -- a simple statement with its places moved
  abbrev pub moved_simple : Simple → Simple
  moved_simple (simples.Write n how x) = simples.Write (moved_named n) how (moved_expr x)
  moved_simple (simples.Increment n) = simples.Increment (moved_named n)
  moved_simple (simples.Decrement n) = simples.Decrement (moved_named n)
  moved_simple (simples.Value p x) = simples.Value (f p) (moved_expr x)

  -- the beginning of a `for` with its places moved
  abbrev pub moved_start : Start → Start
  moved_start (starts.Declare d) = starts.Declare (moved_declaration d)
  moved_start (starts.Simple x) = starts.Simple (moved_simple x)

  -- one level of a statement, whose statements are moved already
  abbrev pub move_statement : Statement-F Statement → Statement
  move_statement (Statement-F.Block p xs) = s.Block (f p) xs
  move_statement (Statement-F.Empty p) = s.Empty (f p)
  move_statement (Statement-F.Declare d) = s.Declare (moved_declaration d)
  move_statement (Statement-F.If p c x y) = s.If (f p) (moved_expr c) x y
  move_statement (Statement-F.For p begin c last x) = s.For (f p) (option_map moved_start begin) (option_map moved_expr c) (option_map moved_simple last) x
  move_statement (Statement-F.ForOf p how n x y) = s.ForOf (f p) how (moved_named n) (moved_expr x) y
  move_statement (Statement-F.Return p x) = s.Return (f p) (option_map moved_expr x)
  move_statement (Statement-F.Throw p x) = s.Throw (f p) (moved_expr x)
  move_statement (Statement-F.Break p) = s.Break (f p)
  move_statement (Statement-F.Continue p) = s.Continue (f p)
  move_statement (Statement-F.Simple x) = s.Simple (moved_simple x)

  -- a statement with its places moved
  abbrev pub moved_statement : Statement → Statement
  moved_statement = fold-Statement Statement move_statement

  -- a program with its places moved
  abbrev pub moved : Program → Program
  moved p = record { name = p.name; first = moved_named p.first; second = option_map moved_named p.second; place = f p.place; body = map moved_statement p.body }
