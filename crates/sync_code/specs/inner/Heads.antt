-- The code of the heads of loops.
use Rattle.std.specs.Prelude.{Option}
use Rattle.sync_syntax.specs.declared.tree.Declares.{Declares}
use Rattle.sync_syntax.specs.declared.tree.Expr.{Expr}
use Rattle.sync_syntax.specs.declared.tree.Named.{Named}
use Rattle.sync_syntax.specs.declared.tree.Simple.{Simple}
use Rattle.sync_syntax.specs.declared.tree.Start.{Start}
use Rattle.sync_meaning.specs.declared.scope.Scope.{Scope}
use Rattle.sync_meaning.specs.Variables.{started}
use Rattle.sync_code.specs.declared.statement.OfHead.{OfHead}
use Rattle.sync_code.specs.declared.statement.WhileHead.{WhileHead}
use Rattle.sync_code.specs.Code.{fits, fits_or_none, source, source_or_none}
use Rattle.sync_code.specs.Made.{IsCode}
use Rattle.sync_code.specs.Steps.{begin_or_none, begin_or_none_fits, held_source, new_fits, plain_or_none, plain_or_none_fits}

-- the head of a `for`, of which the condition and what is done last see what its beginning declares
pub record IsWhileHead (start : Option Start) (c : Option Expr) (s : Option Simple) (scope : Scope) (head : WhileHead) : Type 0 where
  pub begin : IsCode (begin_or_none head.begin) start (begin_or_none_fits head.begin scope)
  pub condition : IsCode (source_or_none head.condition) c (fits_or_none head.condition (started start scope))
  pub last : IsCode (plain_or_none head.last) s (plain_or_none_fits head.last (started start scope))

-- the head of a `for .. of`, whose list sees nothing of the variable
pub record IsOfHead (how : Declares) (name : Named) (list : Expr) (scope : Scope) (head : OfHead) : Type 0 where
  pub held : IsCode (held_source head.held) name (new_fits how head.held scope)
  pub code : IsCode (source head.code) list (fits head.code scope)
