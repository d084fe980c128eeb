-- The code of an expression: the expression that it is the code of, and whether it fits what is seen.
use Rattle.std.specs.Prelude.{ℕ, ◌==◌, Bool, true, ◌&&◌, List, map, Option, Some, None}
use Rattle.std.specs.List.{list_all}
use Rattle.sync_syntax.specs.declared.tree.Operator.{Operator}
use Rattle.sync_syntax.specs.declared.tree.Expr.{Expr}
use Rattle.sync_syntax.specs.declared.tree.Expr.TheVariants as exprs
use Rattle.sync_syntax.specs.declared.tree.Suffix.{Suffix}
use Rattle.sync_syntax.specs.declared.tree.Suffix.TheVariants as suffixes
use Rattle.sync_meaning.specs.declared.scope.Scope.{Scope}
use Rattle.sync_meaning.specs.declared.variables.Slot.{Slot}
use Rattle.sync_meaning.specs.Variables.{number_of}
use Rattle.sync_code.specs.declared.code.Code.{Code, fold-Code}
use Rattle.sync_code.specs.declared.code.Code.TheOpen.{Code-F, Tail-F}
use Rattle.sync_code.specs.declared.code.Tail.{Tail, fold-Tail}

-- ---- what it is the code of: the same without numbers and slots

-- one level, where what is inside is known
abbrev pub source_at : Code-F Expr Suffix → Expr
source_at (Code-F.Undefined p) = exprs.Undefined p
source_at (Code-F.Null p) = exprs.Null p
source_at (Code-F.Bool p b) = exprs.Bool p b
source_at (Code-F.Integer p n) = exprs.Integer p n
source_at (Code-F.Text p l) = exprs.Text p l.text
source_at (Code-F.Name p x) = exprs.Name p x.name
source_at (Code-F.List p es) = exprs.List p es
source_at (Code-F.Object p ms) = exprs.Object p ms
source_at (Code-F.Prefix p o e) = exprs.Prefix p o e
source_at (Code-F.Postfix first ss) = exprs.Postfix first ss
source_at (Code-F.Chain first os) = exprs.Chain first os
source_at (Code-F.Choice c x y) = exprs.Choice c x y

-- one level of what follows an expression
abbrev pub tail_source_at : Tail-F Expr Suffix → Suffix
tail_source_at (Tail-F.Member n) = suffixes.Member n
tail_source_at (Tail-F.Index e) = suffixes.Index e
tail_source_at (Tail-F.Call es) = suffixes.Call es

-- the expression that this is the code of
abbrev pub source : Code → Expr
source = fold-Code Expr Suffix source_at tail_source_at

-- the suffix that this is the code of
abbrev pub tail_source : Tail → Suffix
tail_source = fold-Tail Expr Suffix source_at tail_source_at

-- expressions
abbrev pub sources : List Code → List Expr
sources cs = map source cs

-- suffixes
abbrev pub tail_sources : List Tail → List Suffix
tail_sources ts = map tail_source ts

-- members of an object
abbrev pub member_sources : List (List ℕ × Code) → List (List ℕ × Expr)
member_sources ms = map (λ m. (m.0, source m.1)) ms

-- operators with their right operands
abbrev pub operand_sources : List (Operator × Code) → List (Operator × Expr)
operand_sources os = map (λ o. (o.0, source o.1)) os

-- an expression that may be absent
abbrev pub source_or_none : Option Code → Option Expr
source_or_none None = None
source_or_none (Some c) = Some (source c)

-- ---- whether each use of a variable has the number of the variable that is seen

-- whether something fits what is seen
abbrev pub Fits : Type 0
Fits = Scope → Bool

-- a use of a variable
abbrev pub slot_fits : Slot → Fits
slot_fits x scope = x.number == number_of x.name scope

-- all of these
abbrev pub all_of : List Fits → Fits
all_of fs scope = list_all (λ f. f scope) fs

-- all of what stands second
abbrev pub all_second : {A : Type 0} → List (A × Fits) → Fits
all_second fs scope = list_all (λ f. f.1 scope) fs

-- one level, where it is known of what is inside
abbrev pub fits_at : Code-F Fits Fits → Fits
fits_at (Code-F.Name p x) scope = slot_fits x scope
fits_at (Code-F.List p fs) scope = all_of fs scope
fits_at (Code-F.Object p fs) scope = all_second fs scope
fits_at (Code-F.Prefix p o f) scope = f scope
fits_at (Code-F.Postfix f fs) scope = f scope && all_of fs scope
fits_at (Code-F.Chain f fs) scope = f scope && all_second fs scope
fits_at (Code-F.Choice f g h) scope = f scope && (g scope && h scope)
fits_at _ scope = true

-- one level of what follows an expression
abbrev pub tail_fits_at : Tail-F Fits Fits → Fits
tail_fits_at (Tail-F.Member n) scope = true
tail_fits_at (Tail-F.Index f) scope = f scope
tail_fits_at (Tail-F.Call fs) scope = all_of fs scope

-- an expression
abbrev pub fits : Code → Fits
fits = fold-Code Fits Fits fits_at tail_fits_at

-- what follows one
abbrev pub tail_fits : Tail → Fits
tail_fits = fold-Tail Fits Fits fits_at tail_fits_at

-- expressions
abbrev pub all_fit : List Code → Fits
all_fit cs scope = all_of (map fits cs) scope

-- suffixes
abbrev pub tails_fit : List Tail → Fits
tails_fit ts scope = all_of (map tail_fits ts) scope

-- members of an object
abbrev pub members_fit : List (List ℕ × Code) → Fits
members_fit ms scope = all_second (map (λ m. (m.0, fits m.1)) ms) scope

-- operators with their right operands
abbrev pub operands_fit : List (Operator × Code) → Fits
operands_fit os scope = all_second (map (λ o. (o.0, fits o.1)) os) scope

-- an expression that may be absent
abbrev pub fits_or_none : Option Code → Fits
fits_or_none None scope = true
fits_or_none (Some c) scope = fits c scope
