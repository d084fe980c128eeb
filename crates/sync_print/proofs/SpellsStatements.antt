-- What is printed of a program by the grammar can be spelled, where the tokens are those of a text.
use Rattle.std.proofs.Common.{ℕ, Bool, true, false, List, [], ◌∷◌, ◌++◌, map, Option, Some, None, option_map, sym, subst}
use Rattle.sync_tokens.specs.Spellable.{IsSpellable, AreSpellable, AreTokens}
use Rattle.sync_tokens.specs.declared.token.Kind.TheVariants as kinds
use Rattle.sync_tokens.specs.declared.token.Sign.{Sign}
use Rattle.sync_tokens.specs.declared.token.Sign.TheVariants as signs
use Rattle.sync_syntax.specs.declared.tree.Declaration.{Declaration}
use Rattle.sync_syntax.specs.declared.tree.Expr.{Expr}
use Rattle.sync_syntax.specs.declared.tree.Named.{Named}
use Rattle.sync_syntax.specs.declared.tree.Program.{Program}
use Rattle.sync_syntax.specs.declared.tree.Simple.{Simple}
use Rattle.sync_syntax.specs.declared.tree.Start.{Start}
use Rattle.sync_syntax.specs.declared.tree.Statement.{Statement}
use Rattle.sync_syntax.specs.Reading.{Tokens, place}
use Rattle.sync_syntax.specs.Grammar as g
use Rattle.sync_syntax.specs.Grammar.{IsNamed, Ends, IsGiven, AreDeclared, IsDeclaration, IsSimple, IsExprOrNone, IsLast, IsStart, IsStatement, IsOtherwise, AreStatements, IsOwnName, IsSecond, IsProgram}
use Rattle.sync_print.specs.Trees as t
use Rattle.sync_print.specs.Trees.{Spelled, spelled, expr, parenthesized, sign}
use Rattle.sync_print.proofs.Layers.{spelled_statement_block, spelled_statement_empty, spelled_statement_declare, spelled_statement_if, spelled_statement_for, spelled_statement_forof, spelled_statement_return, spelled_statement_throw, spelled_statement_break, spelled_statement_continue, spelled_statement_simple}
use Rattle.sync_print.proofs.SpellsExpressions.{And, are_both, between_spells, behind, token_spells, comma_spells, expr_spells}

-- ---- what stands in statements

named_spells : {ts us : Tokens} {n : Named} → IsNamed ts n us → AreTokens ts → And (IsSpellable (kinds.Name n.name)) us
named_spells (g.named {n = n} k) a = (token_spells (kinds.Name n) k (λ l. l) a, behind k a)

ends_on : {ts us : Tokens} → Ends ts us → AreTokens ts → AreTokens us
ends_on (g.ended k) a = behind k a
ends_on (g.left_out k) a = a

given_spells : {ts us : Tokens} {x : Option Expr} → IsGiven ts x us → AreTokens ts → And (AreSpellable (t.given x)) us
given_spells g.not_given a = (tt, a)
given_spells (g.given k x) a = let r = expr_spells x (behind k a) in ((tt, r.0), r.1)

abbrev AllDeclaredSpell : List (Named × Option Expr) → Type 0
AllDeclaredSpell [] = Unit {0}
AllDeclaredSpell (n ∷ ns) = AreSpellable (t.declared n) × AllDeclaredSpell ns

declared_spell : {ts us : Tokens} {xs : List (Named × Option Expr)} → AreDeclared ts xs us → AreTokens ts → And (AllDeclaredSpell xs) us
declared_spell (g.one_declared n x) a = let r = named_spells n a in let s = given_spells x r.1 in (((r.0, s.0), tt), s.1)
declared_spell (g.more_declared n x k h) a =
    let r = named_spells n a in
    let s = given_spells x r.1 in
    let u = declared_spell h (behind k s.1) in
    (((r.0, s.0), u.0), u.1)

all_declared_spell : (first : Bool) (xs : List (Named × Option Expr)) → AllDeclaredSpell xs → AreSpellable (t.declared_from first xs)
all_declared_spell first [] a = tt
all_declared_spell first (n ∷ ns) a =
    are_both (t.comma first) (t.declared n ++ t.more_declared ns) (comma_spells first) (are_both (t.declared n) (t.more_declared ns) a.0 (all_declared_spell false ns a.1))

declaration_spells : {ts us : Tokens} {d : Declaration} → IsDeclaration ts d us → AreTokens ts → And (AreSpellable (t.declaration d)) us
declaration_spells (g.declaration {names = xs} take is h) a = let r = declared_spell h (behind take a) in ((tt, all_declared_spell true xs r.0), r.1)

value_spells : (x : Spelled) → AreSpellable x.tokens → AreSpellable (t.value x)
value_spells x a = by_first x.object_first
  where
    by_first : (b : Bool) → AreSpellable (t.value (record { level = x.level; object_first = b; tokens = x.tokens }))
    by_first true = between_spells signs.ParenOpen signs.ParenClose x.tokens a
    by_first false = a

simple_spells : {ts us : Tokens} {x : Simple} → IsSimple ts x us → AreTokens ts → And (AreSpellable (t.simple x)) us
simple_spells (g.write n k is x) a = let r = named_spells n a in let u = expr_spells x (behind k r.1) in ((r.0, (tt, u.0)), u.1)
simple_spells (g.increment n k is) a = let r = named_spells n a in ((r.0, (tt, tt)), behind k r.1)
simple_spells (g.decrement n k is) a = let r = named_spells n a in ((r.0, (tt, tt)), behind k r.1)
simple_spells (g.value {x = y} x) a = let r = expr_spells x a in (value_spells (spelled y) r.0, r.1)

or_none_spells : {close : Sign} {ts us : Tokens} {x : Option Expr} → IsExprOrNone close ts x us → AreTokens ts → And (AreSpellable (t.expr_or_none x)) us
or_none_spells (g.no_expr k) a = (tt, behind k a)
or_none_spells (g.an_expr x k) a = let r = expr_spells x a in (r.0, behind k r.1)

last_spells : {ts us : Tokens} {x : Option Simple} → IsLast ts x us → AreTokens ts → And (AreSpellable (t.last x)) us
last_spells (g.no_last k) a = (tt, behind k a)
last_spells (g.last x k) a = let r = simple_spells x a in (r.0, behind k r.1)

start_spells : {ts us : Tokens} {x : Option Start} → IsStart ts x us → AreTokens ts → And (AreSpellable (t.start x)) us
start_spells (g.no_start k) a = (tt, behind k a)
start_spells (g.declares d k) a = let r = declaration_spells d a in (r.0, behind k r.1)
start_spells (g.starts_simple x k) a = let r = simple_spells x a in (r.0, behind k r.1)

-- ---- statements

abbrev Spells : Statement → Type 0
Spells x = AreSpellable (t.statement x)

abbrev AllSpell : List Statement → Type 0
AllSpell [] = Unit {0}
AllSpell (x ∷ xs) = Spells x × AllSpell xs

in_turn_spells : (xs : List Statement) → AllSpell xs → AreSpellable (t.in_turn (map t.statement xs))
in_turn_spells [] a = tt
in_turn_spells (x ∷ xs) a = are_both (t.statement x) (t.in_turn (map t.statement xs)) a.0 (in_turn_spells xs a.1)

block_spells : (xs : List Statement) → AllSpell xs → AreSpellable (t.block (map t.statement xs))
block_spells xs a = between_spells signs.BraceOpen signs.BraceClose (t.in_turn (map t.statement xs)) (in_turn_spells xs a)

semicolon : (ks : _) → AreSpellable ks → AreSpellable (ks ++ sign signs.Semicolon)
semicolon ks a = are_both ks (sign signs.Semicolon) a (tt, tt)

head_spells : (begin : Option Start) (x : Option Expr) (step : Option Simple) → AreSpellable (t.start begin) → AreSpellable (t.expr_or_none x) → AreSpellable (t.last step)
    → AreSpellable (parenthesized (t.head begin x step))
head_spells begin x step a b c =
    between_spells signs.ParenOpen signs.ParenClose (t.head begin x step)
    (are_both (t.start begin) (kinds.Sign signs.Semicolon ∷ (t.expr_or_none x ++ kinds.Sign signs.Semicolon ∷ t.last step)) a
    (tt, are_both (t.expr_or_none x) (kinds.Sign signs.Semicolon ∷ t.last step) b (tt, c)))

mutual
  statement_spells : {l : Bool} {ts us : Tokens} {x : Statement} → IsStatement l ts x us → AreTokens ts → And (Spells x) us
  statement_spells (g.block {ts = ts} {found = xs} k h) a =
      let r = statements_spell h (behind k a) in (subst AreSpellable (sym (spelled_statement_block (place ts) xs)) (block_spells xs r.0), r.1)
  statement_spells (g.empty {ts = ts} k) a = (subst AreSpellable (sym (spelled_statement_empty (place ts))) (tt, tt), behind k a)
  statement_spells (g.declare {d = d} h e) a =
      let r = declaration_spells h a in (subst AreSpellable (sym (spelled_statement_declare d)) (semicolon (t.declaration d) r.0), ends_on e r.1)
  statement_spells (g.choose {ts = ts} {x = c} {first = x} {other = y} w k h m i o) a =
      let r = expr_spells h (behind k (behind w a)) in
      let u = statement_spells i (behind m r.1) in
      let v = otherwise_spells o u.1 in (
        subst AreSpellable (sym (spelled_statement_if (place ts) c x y)) (
          tt,
          are_both (parenthesized (expr c)) (t.statement x ++ t.otherwise (option_map t.statement y)) (between_spells signs.ParenOpen signs.ParenClose (expr c) r.0)
              (are_both (t.statement x) (t.otherwise (option_map t.statement y)) u.0 v.0),
        ),
        v.1,
      )
  statement_spells (g.repeat {ts = ts} {begins = b} {x = c} {step = d} {body = x} w k st y z body) a =
      let r = start_spells st (behind k (behind w a)) in
      let u = or_none_spells y r.1 in
      let v = last_spells z u.1 in
      let q = statement_spells body v.1 in
      (subst AreSpellable (sym (spelled_statement_for (place ts) b c d x)) (tt, are_both (parenthesized (t.head b c d)) (t.statement x) (head_spells b c d r.0 u.0 v.0) q.0), q.1)
  statement_spells (g.each {ts = ts} {how = how} {n = n} {x = c} {body = x} w o k is m f h i body) a =
      let r = named_spells m (behind k (behind o (behind w a))) in
      let u = expr_spells h (behind f r.1) in
      let q = statement_spells body (behind i u.1) in (
        subst AreSpellable (sym (spelled_statement_forof (place ts) how n c x))
            (tt, are_both (parenthesized (t.each how n c)) (t.statement x) (between_spells signs.ParenOpen signs.ParenClose (t.each how n c) (tt, (r.0, (tt, u.0)))) q.0),
        q.1,
      )
  statement_spells (g.return_none {ts = ts} w e) a = (subst AreSpellable (sym (spelled_statement_return (place ts) None)) (tt, (tt, tt)), ends_on e (behind w a))
  statement_spells (g.return_some {ts = ts} {x = x} w h e) a =
      let r = expr_spells h (behind w a) in (subst AreSpellable (sym (spelled_statement_return (place ts) (Some x))) (tt, semicolon (expr x) r.0), ends_on e r.1)
  statement_spells (g.throw {ts = ts} {x = x} w h e) a =
      let r = expr_spells h (behind w a) in (subst AreSpellable (sym (spelled_statement_throw (place ts) x)) (tt, semicolon (expr x) r.0), ends_on e r.1)
  statement_spells (g.break {ts = ts} w e) a = (subst AreSpellable (sym (spelled_statement_break (place ts))) (tt, (tt, tt)), ends_on e (behind w a))
  statement_spells (g.continue {ts = ts} w e) a = (subst AreSpellable (sym (spelled_statement_continue (place ts))) (tt, (tt, tt)), ends_on e (behind w a))
  statement_spells (g.simple {x = x} b h e) a =
      let r = simple_spells h a in (subst AreSpellable (sym (spelled_statement_simple x)) (semicolon (t.simple x) r.0), ends_on e r.1)

  otherwise_spells : {l : Bool} {ts us : Tokens} {x : Option Statement} → IsOtherwise l ts x us → AreTokens ts → And (AreSpellable (t.otherwise (option_map t.statement x))) us
  otherwise_spells (g.no_else none) a = (tt, a)
  otherwise_spells (g.other w h) a = let r = statement_spells h (behind w a) in ((tt, r.0), r.1)

  statements_spell : {l : Bool} {ts us : Tokens} {xs : List Statement} → AreStatements l ts xs us → AreTokens ts → And (AllSpell xs) us
  statements_spell (g.no_statement k) a = (tt, behind k a)
  statements_spell (g.one_statement h i) a = let r = statement_spells h a in let u = statements_spell i r.1 in ((r.0, u.0), u.1)

-- ---- programs

own_name_spells : {ts us : Tokens} {n : Option (List ℕ)} → IsOwnName ts n us → AreTokens ts → And (AreSpellable (t.own_name n)) us
own_name_spells g.no_own_name a = (tt, a)
own_name_spells (g.own_name {n = n} k) a = ((token_spells (kinds.Name n) k (λ l. l) a, tt), behind k a)

second_spells : {ts us : Tokens} {n : Option Named} → IsSecond ts n us → AreTokens ts → And (AreSpellable (t.second n)) us
second_spells g.no_second a = (tt, a)
second_spells (g.second k n) a = let r = named_spells n (behind k a) in ((tt, (r.0, tt)), r.1)

pub program_spells : {ts : Tokens} {p : Program} → IsProgram ts p → AreTokens ts → AreSpellable (t.program p)
unfolding t.program
program_spells {ts} {p} (g.program (g.head w o k n m l) brace h tail end) a =
    let r = own_name_spells o (behind w a) in
    let u = named_spells n (behind k r.1) in
    let v = second_spells m u.1 in
    let q = statements_spell h (behind brace (behind l v.1)) in (
      tt,
      are_both (t.own_name p.name) (parenthesized (t.parameters p.first p.second) ++ t.block (map t.statement p.body)) r.0
          (are_both (parenthesized (t.parameters p.first p.second)) (t.block (map t.statement p.body))
          (between_spells signs.ParenOpen signs.ParenClose (t.parameters p.first p.second) (u.0, v.0)) (block_spells p.body q.0)),
    )
