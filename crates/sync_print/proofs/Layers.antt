-- One level of a tree: what it is printed as, and what it is without its places.
use Rattle.std.proofs.Common.{◌≡◌, ℕ, Bool, List, map, Option, option_map, rules}
use Rattle.sync_tokens.specs.Places.{first_place}
use Rattle.sync_tokens.specs.declared.place.Place.{Place}
use Rattle.sync_syntax.specs.declared.tree.Declares.{Declares}
use Rattle.sync_syntax.specs.declared.tree.Declaration.{Declaration}
use Rattle.sync_syntax.specs.declared.tree.Expr.{Expr, the_lemmas}
use Rattle.sync_syntax.specs.declared.tree.Expr.TheOpen.{Expr-F, Suffix-F}
use Rattle.sync_syntax.specs.declared.tree.Expr.TheVariants as e
use Rattle.sync_syntax.specs.declared.tree.Named.{Named}
use Rattle.sync_syntax.specs.declared.tree.Operator.{Operator}
use Rattle.sync_syntax.specs.declared.tree.Prefix.{Prefix}
use Rattle.sync_syntax.specs.declared.tree.Simple.{Simple}
use Rattle.sync_syntax.specs.declared.tree.Start.{Start}
use Rattle.sync_syntax.specs.declared.tree.Statement.{Statement}
use Rattle.sync_syntax.specs.declared.tree.Statement as statements
use Rattle.sync_syntax.specs.declared.tree.Statement.TheOpen.{Statement-F}
use Rattle.sync_syntax.specs.declared.tree.Statement.TheVariants as s
use Rattle.sync_syntax.specs.declared.tree.Suffix.{Suffix}
use Rattle.sync_syntax.specs.declared.tree.Suffix.TheVariants as suffix
use Rattle.sync_syntax.specs.Moved.{moved_expr, moved_suffix, moved_named, moved_given, moved_declaration, moved_simple, moved_start, moved_statement}
use Rattle.sync_print.specs.Trees.{Spelled, spell, spell_suffix, spell_statement, spelled, spelled_suffix, statement}

abbrev pub at_start : Place → Place
at_start = λ _. first_place

-- an expression without its places
abbrev pub bare : Expr → Expr
bare = moved_expr at_start

abbrev pub bare_suffix : Suffix → Suffix
bare_suffix = moved_suffix at_start

abbrev pub bare_member : List ℕ × Expr → List ℕ × Expr
bare_member m = (m.0, bare m.1)

abbrev pub bare_tail : Operator × Expr → Operator × Expr
bare_tail x = (x.0, bare x.1)

abbrev pub bare_named : Named → Named
bare_named = moved_named at_start

abbrev pub bare_given : Named × Option Expr → Named × Option Expr
bare_given = moved_given at_start

abbrev pub bare_declaration : Declaration → Declaration
bare_declaration = moved_declaration at_start

abbrev pub bare_simple : Simple → Simple
bare_simple = moved_simple at_start

abbrev pub bare_start : Start → Start
bare_start = moved_start at_start

abbrev pub bare_statement : Statement → Statement
bare_statement = moved_statement at_start

abbrev pub spelled_member : List ℕ × Expr → List ℕ × Spelled
spelled_member m = (m.0, spelled m.1)

abbrev pub spelled_tail : Operator × Expr → Operator × Spelled
spelled_tail x = (x.0, spelled x.1)

pub spelled_undefined : (p : Place) → spelled (e.Undefined p) ≡ spell (Expr-F.Undefined p)
spelled_undefined p = search (rules, the_lemmas)

pub bare_undefined : (p : Place) → bare (e.Undefined p) ≡ e.Undefined first_place
bare_undefined p = search (rules, the_lemmas)

pub spelled_null : (p : Place) → spelled (e.Null p) ≡ spell (Expr-F.Null p)
spelled_null p = search (rules, the_lemmas)

pub bare_null : (p : Place) → bare (e.Null p) ≡ e.Null first_place
bare_null p = search (rules, the_lemmas)

pub spelled_bool : (p : Place) (b : Bool) → spelled (e.Bool p b) ≡ spell (Expr-F.Bool p b)
spelled_bool p b = search (rules, the_lemmas)

pub bare_bool : (p : Place) (b : Bool) → bare (e.Bool p b) ≡ e.Bool first_place b
bare_bool p b = search (rules, the_lemmas)

pub spelled_integer : (p : Place) (n : ℕ) → spelled (e.Integer p n) ≡ spell (Expr-F.Integer p n)
spelled_integer p n = search (rules, the_lemmas)

pub bare_integer : (p : Place) (n : ℕ) → bare (e.Integer p n) ≡ e.Integer first_place n
bare_integer p n = search (rules, the_lemmas)

pub spelled_text : (p : Place) (x : List ℕ) → spelled (e.Text p x) ≡ spell (Expr-F.Text p x)
spelled_text p x = search (rules, the_lemmas)

pub bare_text : (p : Place) (x : List ℕ) → bare (e.Text p x) ≡ e.Text first_place x
bare_text p x = search (rules, the_lemmas)

pub spelled_name : (p : Place) (x : List ℕ) → spelled (e.Name p x) ≡ spell (Expr-F.Name p x)
spelled_name p x = search (rules, the_lemmas)

pub bare_name : (p : Place) (x : List ℕ) → bare (e.Name p x) ≡ e.Name first_place x
bare_name p x = search (rules, the_lemmas)

pub spelled_list : (p : Place) (xs : List Expr) → spelled (e.List p xs) ≡ spell (Expr-F.List p (map spelled xs))
spelled_list p xs = search (rules, the_lemmas)

pub bare_list : (p : Place) (xs : List Expr) → bare (e.List p xs) ≡ e.List first_place (map bare xs)
bare_list p xs = search (rules, the_lemmas)

pub spelled_object : (p : Place) (ms : List (List ℕ × Expr)) → spelled (e.Object p ms) ≡ spell (Expr-F.Object p (map spelled_member ms))
spelled_object p ms = search (rules, the_lemmas)

pub bare_object : (p : Place) (ms : List (List ℕ × Expr)) → bare (e.Object p ms) ≡ e.Object first_place (map bare_member ms)
bare_object p ms = search (rules, the_lemmas)

pub spelled_prefix : (p : Place) (o : Prefix) (x : Expr) → spelled (e.Prefix p o x) ≡ spell (Expr-F.Prefix p o (spelled x))
spelled_prefix p o x = search (rules, the_lemmas)

pub bare_prefix : (p : Place) (o : Prefix) (x : Expr) → bare (e.Prefix p o x) ≡ e.Prefix first_place o (bare x)
bare_prefix p o x = search (rules, the_lemmas)

pub spelled_postfix : (x : Expr) (ss : List Suffix) → spelled (e.Postfix x ss) ≡ spell (Expr-F.Postfix (spelled x) (map spelled_suffix ss))
spelled_postfix x ss = search (rules, the_lemmas)

pub bare_postfix : (x : Expr) (ss : List Suffix) → bare (e.Postfix x ss) ≡ e.Postfix (bare x) (map bare_suffix ss)
bare_postfix x ss = search (rules, the_lemmas)

pub spelled_chain : (x : Expr) (ts : List (Operator × Expr)) → spelled (e.Chain x ts) ≡ spell (Expr-F.Chain (spelled x) (map spelled_tail ts))
spelled_chain x ts = search (rules, the_lemmas)

pub bare_chain : (x : Expr) (ts : List (Operator × Expr)) → bare (e.Chain x ts) ≡ e.Chain (bare x) (map bare_tail ts)
bare_chain x ts = search (rules, the_lemmas)

pub spelled_choice : (c : Expr) (x : Expr) (y : Expr) → spelled (e.Choice c x y) ≡ spell (Expr-F.Choice (spelled c) (spelled x) (spelled y))
spelled_choice c x y = search (rules, the_lemmas)

pub bare_choice : (c : Expr) (x : Expr) (y : Expr) → bare (e.Choice c x y) ≡ e.Choice (bare c) (bare x) (bare y)
bare_choice c x y = search (rules, the_lemmas)

pub spelled_suffix_member : (n : List ℕ) → spelled_suffix (suffix.Member n) ≡ spell_suffix (Suffix-F.Member n)
spelled_suffix_member n = search (rules, the_lemmas)

pub bare_suffix_member : (n : List ℕ) → bare_suffix (suffix.Member n) ≡ suffix.Member n
bare_suffix_member n = search (rules, the_lemmas)

pub spelled_suffix_index : (x : Expr) → spelled_suffix (suffix.Index x) ≡ spell_suffix (Suffix-F.Index (spelled x))
spelled_suffix_index x = search (rules, the_lemmas)

pub bare_suffix_index : (x : Expr) → bare_suffix (suffix.Index x) ≡ suffix.Index (bare x)
bare_suffix_index x = search (rules, the_lemmas)

pub spelled_suffix_call : (xs : List Expr) → spelled_suffix (suffix.Call xs) ≡ spell_suffix (Suffix-F.Call (map spelled xs))
spelled_suffix_call xs = search (rules, the_lemmas)

pub bare_suffix_call : (xs : List Expr) → bare_suffix (suffix.Call xs) ≡ suffix.Call (map bare xs)
bare_suffix_call xs = search (rules, the_lemmas)

pub spelled_statement_block : (p : Place) (xs : List Statement) → statement (s.Block p xs) ≡ spell_statement (Statement-F.Block p (map statement xs))
spelled_statement_block p xs = search (rules, statements.the_lemmas)

pub bare_statement_block : (p : Place) (xs : List Statement) → bare_statement (s.Block p xs) ≡ s.Block first_place (map bare_statement xs)
bare_statement_block p xs = search (rules, statements.the_lemmas)

pub spelled_statement_empty : (p : Place) → statement (s.Empty p) ≡ spell_statement (Statement-F.Empty p)
spelled_statement_empty p = search (rules, statements.the_lemmas)

pub bare_statement_empty : (p : Place) → bare_statement (s.Empty p) ≡ s.Empty first_place
bare_statement_empty p = search (rules, statements.the_lemmas)

pub spelled_statement_declare : (d : Declaration) → statement (s.Declare d) ≡ spell_statement (Statement-F.Declare d)
spelled_statement_declare d = search (rules, statements.the_lemmas)

pub bare_statement_declare : (d : Declaration) → bare_statement (s.Declare d) ≡ s.Declare (bare_declaration d)
bare_statement_declare d = search (rules, statements.the_lemmas)

pub spelled_statement_if : (p : Place) (c : Expr) (x : Statement) (y : Option Statement) → statement (s.If p c x y) ≡ spell_statement (Statement-F.If p c (statement x) (option_map statement y))
spelled_statement_if p c x y = search (rules, statements.the_lemmas)

pub bare_statement_if : (p : Place) (c : Expr) (x : Statement) (y : Option Statement) → bare_statement (s.If p c x y) ≡ s.If first_place (bare c) (bare_statement x) (option_map bare_statement y)
bare_statement_if p c x y = search (rules, statements.the_lemmas)

pub spelled_statement_for : (p : Place) (begin : Option Start) (c : Option Expr) (step : Option Simple) (x : Statement) → statement (s.For p begin c step x) ≡ spell_statement (Statement-F.For p begin c step (statement x))
spelled_statement_for p begin c step x = search (rules, statements.the_lemmas)

pub bare_statement_for : (p : Place) (begin : Option Start) (c : Option Expr) (step : Option Simple) (x : Statement) → bare_statement (s.For p begin c step x) ≡ s.For first_place (option_map bare_start begin) (option_map bare c) (option_map bare_simple step) (bare_statement x)
bare_statement_for p begin c step x = search (rules, statements.the_lemmas)

pub spelled_statement_forof : (p : Place) (how : Declares) (n : Named) (c : Expr) (x : Statement) → statement (s.ForOf p how n c x) ≡ spell_statement (Statement-F.ForOf p how n c (statement x))
spelled_statement_forof p how n c x = search (rules, statements.the_lemmas)

pub bare_statement_forof : (p : Place) (how : Declares) (n : Named) (c : Expr) (x : Statement) → bare_statement (s.ForOf p how n c x) ≡ s.ForOf first_place how (bare_named n) (bare c) (bare_statement x)
bare_statement_forof p how n c x = search (rules, statements.the_lemmas)

pub spelled_statement_return : (p : Place) (c : Option Expr) → statement (s.Return p c) ≡ spell_statement (Statement-F.Return p c)
spelled_statement_return p c = search (rules, statements.the_lemmas)

pub bare_statement_return : (p : Place) (c : Option Expr) → bare_statement (s.Return p c) ≡ s.Return first_place (option_map bare c)
bare_statement_return p c = search (rules, statements.the_lemmas)

pub spelled_statement_throw : (p : Place) (c : Expr) → statement (s.Throw p c) ≡ spell_statement (Statement-F.Throw p c)
spelled_statement_throw p c = search (rules, statements.the_lemmas)

pub bare_statement_throw : (p : Place) (c : Expr) → bare_statement (s.Throw p c) ≡ s.Throw first_place (bare c)
bare_statement_throw p c = search (rules, statements.the_lemmas)

pub spelled_statement_break : (p : Place) → statement (s.Break p) ≡ spell_statement (Statement-F.Break p)
spelled_statement_break p = search (rules, statements.the_lemmas)

pub bare_statement_break : (p : Place) → bare_statement (s.Break p) ≡ s.Break first_place
bare_statement_break p = search (rules, statements.the_lemmas)

pub spelled_statement_continue : (p : Place) → statement (s.Continue p) ≡ spell_statement (Statement-F.Continue p)
spelled_statement_continue p = search (rules, statements.the_lemmas)

pub bare_statement_continue : (p : Place) → bare_statement (s.Continue p) ≡ s.Continue first_place
bare_statement_continue p = search (rules, statements.the_lemmas)

pub spelled_statement_simple : (x : Simple) → statement (s.Simple x) ≡ spell_statement (Statement-F.Simple x)
spelled_statement_simple x = search (rules, statements.the_lemmas)

pub bare_statement_simple : (x : Simple) → bare_statement (s.Simple x) ≡ s.Simple (bare_simple x)
bare_statement_simple x = search (rules, statements.the_lemmas)
