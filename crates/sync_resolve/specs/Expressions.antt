-- The faults of the names in expressions.
use Rattle.std.specs.Prelude.{ℕ, ◌==◌, nat_lt, Bool, true, false, ◌&&◌, if◌then◌else◌, codes, List, [], ◌∷◌, ◌++◌, length, Option, Some, None}
use Rattle.std.specs.Str.{bytes_eq}
use Rattle.sync_tokens.specs.declared.place.Place.{Place}
use Rattle.sync_syntax.specs.declared.tree.Operator.{Operator}
use Rattle.sync_syntax.specs.declared.tree.Expr.{Expr, fold-Expr}
use Rattle.sync_syntax.specs.declared.tree.Expr.TheOpen.{Expr-F, Suffix-F}
use Rattle.sync_syntax.specs.declared.tree.Suffix.{Suffix, fold-Suffix}
use Rattle.sync_resolve.specs.declared.callee.Takes.{Takes}
use Rattle.sync_resolve.specs.declared.callee.Takes.TheVariants as takes
use Rattle.sync_resolve.specs.declared.fault.ResolveFault.{ResolveFault}
use Rattle.sync_resolve.specs.declared.fault.ResolveFault.TheVariants.{UnknownName, WrongCount}
use Rattle.sync_resolve.specs.declared.scope.Scope.{Scope}
use Rattle.sync_resolve.specs.Names.{function_takes, method_takes, used}

-- the faults of something, by what is seen at it
abbrev pub Faults : Type 0
Faults = Scope → List ResolveFault

-- What is said of an expression: its place, whether it is the name `Array`, its faults, where it is given true those where it
-- is called, and how many arguments a call of it takes, if it can be called.
pub record Said : Type 0 where
  pub place : Place
  pub is_array : Bool
  pub faults : Bool → Faults
  pub takes : Option Takes

-- What is said of what follows an expression: whether it is a call, whether it is `.isArray`, how many arguments a call of
-- the whole takes, and the faults, by the place of the expression and what a call of what stands before takes.
pub record SaidBehind : Type 0 where
  pub is_call : Bool
  pub is_array_member : Bool
  pub takes : Option Takes
  pub faults : Place → Option Takes → Faults

-- ---- calls

-- whether so many arguments are taken
abbrev pub fits : Takes → ℕ → Bool
fits takes.Nothing n = n == 0
fits takes.One n = n == 1
fits takes.Two n = n == 2
fits takes.OneOrMore n = nat_lt 0 n

-- a call with so many arguments, by what can be called: its fault stands at its first character
abbrev pub call_faults : Place → Option Takes → ℕ → List ResolveFault
call_faults p None n = UnknownName p ∷ []
call_faults p (Some t) n = if fits t n then [] else WrongCount p ∷ []

-- the faults of expressions whose values are wanted, in order
abbrev pub values_faults : List Said → Faults
values_faults [] scope = []
values_faults (e ∷ es) scope = e.faults false scope ++ values_faults es scope

-- ---- what follows an expression

-- one suffix, by what is said of the expressions in it
abbrev pub suffix_says : Suffix-F Said SaidBehind → SaidBehind
suffix_says (Suffix-F.Member n) = record {
  is_call = false;
  is_array_member = bytes_eq n (codes "isArray");
  takes = method_takes n;
  faults = λ p t scope. [];
}
suffix_says (Suffix-F.Index e) = record {
  is_call = false;
  is_array_member = false;
  takes = None;
  faults = λ p t. e.faults false;
}
suffix_says (Suffix-F.Call es) = record {
  is_call = true;
  is_array_member = false;
  takes = None;
  faults = λ p t scope. call_faults p t (length es) ++ values_faults es scope;
}

-- whether a call comes next; behind the last suffix as it is said
abbrev pub is_said_called : Bool → List SaidBehind → Bool
is_said_called behind [] = behind
is_said_called behind (s ∷ ss) = s.is_call

-- `Array.isArray` before a call, in which `Array` is no name of a variable
abbrev pub says_is_array : Bool → Said → List SaidBehind → Bool
says_is_array behind first [] = false
says_is_array behind first (s ∷ ss) = first.is_array && (s.is_array_member && is_said_called behind ss)

-- how many arguments a call takes behind a suffix; behind `Array.isArray` one
abbrev pub takes_next : Bool → SaidBehind → Option Takes
takes_next is_array s = if is_array then Some takes.One else s.takes

-- the faults of suffixes from left to right, by what a call of what stands before them takes; the second argument says
-- whether the first of them is that of `Array.isArray`
abbrev pub suffixes_faults : Place → Bool → Option Takes → List SaidBehind → Faults
suffixes_faults p is_array t [] scope = []
suffixes_faults p is_array t (s ∷ ss) scope = s.faults p t scope ++ suffixes_faults p false (takes_next is_array s) ss scope

-- how many arguments a call takes behind suffixes
abbrev pub takes_behind : Bool → Option Takes → List SaidBehind → Option Takes
takes_behind is_array t [] = t
takes_behind is_array t (s ∷ ss) = takes_behind false (takes_next is_array s) ss

-- an expression with suffixes; the first argument says whether a call follows
abbrev pub postfix_faults : Bool → Said → List SaidBehind → Faults
postfix_faults behind first ss scope =
    if says_is_array behind first ss then suffixes_faults first.place true None ss scope
    else first.faults (is_said_called behind ss) scope ++ suffixes_faults first.place false first.takes ss scope

-- how many arguments a call of an expression with suffixes takes
abbrev pub postfix_takes : Said → List SaidBehind → Option Takes
postfix_takes first ss = if says_is_array true first ss then takes_behind true None ss else takes_behind false first.takes ss

-- ---- expressions

-- what can't be called
abbrev pub plain_said : Place → Faults → Said
plain_said p faults = record { place = p; is_array = false; faults = λ called. faults; takes = None }

-- nothing is wrong
abbrev pub nothing : Faults
nothing scope = []

-- the operands behind the first
abbrev pub operands : List (Operator × Said) → Faults
operands [] scope = []
operands (o ∷ os) scope = o.1.faults false scope ++ operands os scope

-- the values of members
abbrev pub members_faults : List (List ℕ × Said) → Faults
members_faults [] scope = []
members_faults (m ∷ ms) scope = m.1.faults false scope ++ members_faults ms scope

-- a name: where it is called it is that of a function, else it stands for a variable
abbrev pub name_faults : Place → List ℕ → Bool → Faults
name_faults p n true scope = []
name_faults p n false scope = used p n scope

-- one level of an expression, by what is said of the expressions in it
abbrev pub expr_says : Expr-F Said SaidBehind → Said
expr_says (Expr-F.Undefined p) = plain_said p nothing
expr_says (Expr-F.Null p) = plain_said p nothing
expr_says (Expr-F.Bool p b) = plain_said p nothing
expr_says (Expr-F.Integer p n) = plain_said p nothing
expr_says (Expr-F.Text p s) = plain_said p nothing
expr_says (Expr-F.Name p n) = record {
  place = p;
  is_array = bytes_eq n (codes "Array");
  faults = name_faults p n;
  takes = function_takes n;
}
expr_says (Expr-F.List p es) = plain_said p (values_faults es)
expr_says (Expr-F.Object p ms) = plain_said p (members_faults ms)
expr_says (Expr-F.Prefix p o e) = plain_said p (e.faults false)
expr_says (Expr-F.Postfix first ss) = record {
  place = first.place;
  is_array = false;
  faults = λ called. postfix_faults called first ss;
  takes = postfix_takes first ss;
}
expr_says (Expr-F.Chain first os) = plain_said first.place (λ scope. first.faults false scope ++ operands os scope)
expr_says (Expr-F.Choice c x y) = plain_said c.place (λ scope. c.faults false scope ++ x.faults false scope ++ y.faults false scope)

-- what is said of an expression
abbrev pub said : Expr → Said
said = fold-Expr Said SaidBehind expr_says suffix_says

-- what is said of what follows one
abbrev pub said_behind : Suffix → SaidBehind
said_behind = fold-Suffix Said SaidBehind expr_says suffix_says

-- the faults of an expression whose value is wanted
unfoldable pub value_faults : Expr → Faults
value_faults e scope = (said e).faults false scope

-- the same where there may be none
abbrev pub value_or_none : Option Expr → Faults
value_or_none None scope = []
value_or_none (Some e) scope = value_faults e scope
