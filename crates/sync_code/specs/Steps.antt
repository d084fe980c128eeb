-- The code of statements: the statement that it is the code of, and whether it fits what is seen.
use Rattle.std.specs.Prelude.{◌==◌, true, ◌&&◌, List, [], ◌∷◌, map, Option, Some, None}
use Rattle.sync_syntax.specs.declared.tree.Declares.{Declares}
use Rattle.sync_syntax.specs.declared.tree.Declaration.{Declaration}
use Rattle.sync_syntax.specs.declared.tree.Expr.{Expr}
use Rattle.sync_syntax.specs.declared.tree.Named.{Named}
use Rattle.sync_syntax.specs.declared.tree.Simple.{Simple}
use Rattle.sync_syntax.specs.declared.tree.Simple.TheVariants as simples
use Rattle.sync_syntax.specs.declared.tree.Start.{Start}
use Rattle.sync_syntax.specs.declared.tree.Start.TheVariants as starts
use Rattle.sync_syntax.specs.declared.tree.Statement.{Statement}
use Rattle.sync_syntax.specs.declared.tree.Statement.TheVariants as statements
use Rattle.sync_meaning.specs.Variables.{new_number, declared, started, behind}
use Rattle.sync_code.specs.declared.code.Begin.{Begin}
use Rattle.sync_code.specs.declared.code.Begin.TheVariants as begins
use Rattle.sync_code.specs.declared.code.Code.{Code}
use Rattle.sync_code.specs.declared.code.Held.{Held}
use Rattle.sync_code.specs.declared.code.Opening.{Opening}
use Rattle.sync_code.specs.declared.code.Plain.{Plain}
use Rattle.sync_code.specs.declared.code.Plain.TheVariants as plains
use Rattle.sync_code.specs.declared.code.Step.{Step, fold-Step}
use Rattle.sync_code.specs.declared.code.Step.TheOpen.{Step-F}
use Rattle.sync_code.specs.Code.{source, source_or_none, Fits, fits, fits_or_none, slot_fits}

-- ---- what parts of statements are the code of

-- a name with its place
abbrev pub held_source : Held → Named
held_source h = record { place = h.place; name = h.slot.name }

-- names with the values that they are given
abbrev pub name_sources : List (Held × Option Code) → List (Named × Option Expr)
name_sources ns = map (λ n. (held_source n.0, source_or_none n.1)) ns

-- a declaration
abbrev pub opening_source : Opening → Declaration
opening_source d = record { place = d.place; declares = d.declares; names = name_sources d.names }

-- a simple statement
abbrev pub plain_source : Plain → Simple
plain_source (plains.Write h how e) = simples.Write (held_source h) how (source e)
plain_source (plains.Increment h) = simples.Increment (held_source h)
plain_source (plains.Decrement h) = simples.Decrement (held_source h)
plain_source (plains.Value p e) = simples.Value p (source e)

-- a simple statement that may be absent
abbrev pub plain_or_none : Option Plain → Option Simple
plain_or_none None = None
plain_or_none (Some s) = Some (plain_source s)

-- the beginning of a `for`
abbrev pub begin_source : Begin → Start
begin_source (begins.Declare d) = starts.Declare (opening_source d)
begin_source (begins.Simple s) = starts.Simple (plain_source s)

-- the beginning of a `for`, which may be absent
abbrev pub begin_or_none : Option Begin → Option Start
begin_or_none None = None
begin_or_none (Some b) = Some (begin_source b)

-- ---- whether they fit what is seen

-- a variable that is declared
abbrev pub new_fits : Declares → Held → Fits
new_fits how h scope = h.slot.number == new_number how scope

-- variables that are declared together, each of which sees those before it
abbrev pub names_fit : Declares → List (Held × Option Code) → Fits
names_fit how [] scope = true
names_fit how (n ∷ ns) scope =
    (new_fits how n.0 scope && fits_or_none n.1 scope) && names_fit how ns (declared how n.0.slot.name scope)

-- a declaration
abbrev pub opening_fits : Opening → Fits
opening_fits d scope = names_fit d.declares d.names scope

-- a simple statement
abbrev pub plain_fits : Plain → Fits
plain_fits (plains.Write h how e) scope = slot_fits h.slot scope && fits e scope
plain_fits (plains.Increment h) scope = slot_fits h.slot scope
plain_fits (plains.Decrement h) scope = slot_fits h.slot scope
plain_fits (plains.Value p e) scope = fits e scope

-- a simple statement that may be absent
abbrev pub plain_or_none_fits : Option Plain → Fits
plain_or_none_fits None scope = true
plain_or_none_fits (Some s) scope = plain_fits s scope

-- the beginning of a `for`
abbrev pub begin_fits : Begin → Fits
begin_fits (begins.Declare d) scope = opening_fits d scope
begin_fits (begins.Simple s) scope = plain_fits s scope

-- the beginning of a `for`, which may be absent
abbrev pub begin_or_none_fits : Option Begin → Fits
begin_or_none_fits None scope = true
begin_or_none_fits (Some b) scope = begin_fits b scope

-- what the rounds of a `for` evaluate and do
abbrev pub rounds_fit : Option Code → Option Plain → Fits → Fits
rounds_fit c last body scope = fits_or_none c scope && (plain_or_none_fits last scope && body scope)

-- ---- statements

-- What is said of a statement: what it is the code of, and whether it fits what is seen.
pub record Said : Type 0 where
  pub source : Statement
  pub fits : Fits

-- what statements are the code of
abbrev pub said_sources : List Said → List Statement
said_sources as_ = map (λ a. a.source) as_

-- whether statements in turn fit, each of which sees what is declared before it
abbrev pub all_said : List Said → Fits
all_said [] scope = true
all_said (a ∷ as_) scope = a.fits scope && all_said as_ (behind a.source scope)

-- what a statement that may be absent is the code of
abbrev pub other_source : Option Said → Option Statement
other_source None = None
other_source (Some a) = Some a.source

-- whether a statement behind `else` fits, which sees what the first one declares
abbrev pub other_said : Statement → Option Said → Fits
other_said first None scope = true
other_said first (Some a) scope = a.fits (behind first scope)

-- a statement is the code of, where it is known of those in it
abbrev pub source_at : Step-F Said → Statement
source_at (Step-F.Block p as_) = statements.Block p (said_sources as_)
source_at (Step-F.Empty p) = statements.Empty p
source_at (Step-F.Declare d) = statements.Declare (opening_source d)
source_at (Step-F.If p c a b) = statements.If p (source c) a.source (other_source b)
source_at (Step-F.For p begin c last a) = statements.For p (begin_or_none begin) (source_or_none c) (plain_or_none last) a.source
source_at (Step-F.ForOf p how h e a) = statements.ForOf p how (held_source h) (source e) a.source
source_at (Step-F.Return p e) = statements.Return p (source_or_none e)
source_at (Step-F.Throw p e) = statements.Throw p (source e)
source_at (Step-F.Break p) = statements.Break p
source_at (Step-F.Continue p) = statements.Continue p
source_at (Step-F.Simple s) = statements.Simple (plain_source s)

-- a statement fits, where it is known of those in it
abbrev pub fits_at : Step-F Said → Fits
fits_at (Step-F.Block p as_) scope = all_said as_ scope
fits_at (Step-F.Declare d) scope = opening_fits d scope
fits_at (Step-F.If p c a b) scope = fits c scope && (a.fits scope && other_said a.source b scope)
fits_at (Step-F.For p begin c last a) scope =
    begin_or_none_fits begin scope && rounds_fit c last a.fits (started (begin_or_none begin) scope)
fits_at (Step-F.ForOf p how h e a) scope = new_fits how h scope && (fits e scope && a.fits (declared how h.slot.name scope))
fits_at (Step-F.Return p e) scope = fits_or_none e scope
fits_at (Step-F.Throw p e) scope = fits e scope
fits_at (Step-F.Simple s) scope = plain_fits s scope
fits_at _ scope = true

-- what is said of a statement
abbrev pub said : Step → Said
said = fold-Step Said (λ l. record { source = source_at l; fits = fits_at l })

-- the statement that this is the code of
abbrev pub step_source : Step → Statement
step_source s = (said s).source

-- whether it fits what is seen
abbrev pub step_fits : Step → Fits
step_fits s = (said s).fits

-- statements in turn
abbrev pub step_sources : List Step → List Statement
step_sources ss = said_sources (map said ss)

-- whether they fit
abbrev pub steps_fit : List Step → Fits
steps_fit ss = all_said (map said ss)

-- a statement that may be absent
abbrev pub other_of : Option Step → Option Said
other_of None = None
other_of (Some s) = Some (said s)
