-- What is printed of a program of the grammar is read as it, its places apart.
use Rattle.std.proofs.Common.{◌≡◌, ℕ, Bool, true, false, List, [], ◌∷◌, ◌++◌, map, Option, Some, None, option_map, refl, sym, subst, ap, ◌∙◌, cond, arith}
use Rattle.sync_tokens.specs.Places.{first_place}
use Rattle.sync_tokens.specs.declared.place.Place.{Place}
use Rattle.sync_tokens.specs.declared.token.Kind.{Kind}
use Rattle.sync_tokens.specs.declared.token.Kind.TheVariants as kinds
use Rattle.sync_tokens.specs.declared.token.Sign.{Sign}
use Rattle.sync_tokens.specs.declared.token.Sign.TheVariants as signs
use Rattle.sync_tokens.specs.declared.token.Word.TheVariants as words
use Rattle.sync_syntax.specs.declared.tree.Declares.{Declares}
use Rattle.sync_syntax.specs.declared.tree.Declares.TheVariants as declares
use Rattle.sync_syntax.specs.declared.tree.Declaration.{Declaration}
use Rattle.sync_syntax.specs.declared.tree.Expr.{Expr}
use Rattle.sync_syntax.specs.declared.tree.Named.{Named}
use Rattle.sync_syntax.specs.declared.tree.Program.{Program}
use Rattle.sync_syntax.specs.declared.tree.Simple.{Simple}
use Rattle.sync_syntax.specs.declared.tree.Simple.TheVariants as simples
use Rattle.sync_syntax.specs.declared.tree.Start.{Start}
use Rattle.sync_syntax.specs.declared.tree.Start.TheVariants as starts
use Rattle.sync_syntax.specs.declared.tree.Statement.{Statement}
use Rattle.sync_syntax.specs.declared.tree.Statement.TheOpen.{Statement-F}
use Rattle.sync_syntax.specs.declared.tree.Statement.TheVariants as s
use Rattle.sync_syntax.specs.declared.tree.Writes.{Writes}
use Rattle.sync_syntax.specs.declared.tree.Writes.TheVariants as writes
use Rattle.sync_syntax.specs.Reading.{Tokens, kind, next, place, same_word, sees, sees_word, is_word}
use Rattle.sync_syntax.specs.Operators.{declares_by, writing_by, prefix_by}
use Rattle.sync_syntax.specs.Grammar as g
use Rattle.sync_syntax.specs.Grammar.{Takes, IsExpr, IsChain, IsUnary, IsPrimary, IsNamed, Ends, IsGiven, AreDeclared, IsDeclaration, IsSimple, IsExprOrNone, IsLast, IsStart, IsStatement, IsOtherwise, AreStatements, IsOwnName, IsSecond, IsProgram}
use Rattle.sync_syntax.specs.Moved.{moved}
use Rattle.sync_print.specs.Spelling.{writes_sign, declares_word}
use Rattle.sync_print.specs.Trees as t
use Rattle.sync_print.specs.Trees.{spelled, sign, parenthesized}
use Rattle.sync_print.proofs.Layers.{at_start, bare, bare_named, bare_given, bare_declaration, bare_simple, bare_start, bare_statement, spelled_statement_block, spelled_statement_empty, spelled_statement_declare, spelled_statement_if, spelled_statement_for, spelled_statement_forof, spelled_statement_return, spelled_statement_throw, spelled_statement_break, spelled_statement_continue, spelled_statement_simple, bare_statement_block, bare_statement_empty, bare_statement_declare, bare_statement_if, bare_statement_for, bare_statement_forof, bare_statement_return, bare_statement_throw, bare_statement_break, bare_statement_continue, bare_statement_simple}
use Rattle.sync_print.proofs.Shown.{Shows, Split, split, taken, taken_last, Printed, Prints, as_expr, as_chain, as_unary, in_parentheses, unseen, paren_unseen}
use Rattle.sync_print.proofs.PrintsExpressions.{expr_prints}

both : {A : Type 0} {x y : A} {xs ys : List A} → x ≡ y → xs ≡ ys → x ∷ xs ≡ y ∷ ys
both {A} {x} {y} {xs} {ys} p q = ap (λ z. z ∷ xs) p ∙ ap (λ zs. y ∷ zs) q

joined : (ks ls : List Kind) (ts us vs : Tokens) → Shows ks ts us → Shows ls us vs → Shows (ks ++ ls) ts vs
joined [] ls ts us vs h k = subst (λ xs. Shows ls xs vs) h k
joined (x ∷ ks) ls ts us vs h k = (h.0, joined ks ls (next ts) us vs h.1 k)

-- ---- what begins with no `else`

no_else : (k : Kind) (ts us : Tokens) → Takes k ts us → is_word words.Else k ≡ false → sees_word words.Else ts ≡ false
unfolding sees_word
no_else k ts us take other = ap (is_word words.Else) take.is ∙ other

-- a token that is something is no `else`
other_token : {A : Type 0} (f : Kind → Option A) (k : Kind) (x : A) → f (kinds.Word words.Else) ≡ None → f k ≡ Some x → is_word words.Else k ≡ false
unfolding same_word
other_token f (kinds.Word words.Else) x none some = absurd cc
other_token f (kinds.Word words.Function) x none some = refl
other_token f (kinds.Word words.If) x none some = refl
other_token f (kinds.Word words.For) x none some = refl
other_token f (kinds.Word words.Var) x none some = refl
other_token f (kinds.Word words.Let) x none some = refl
other_token f (kinds.Word words.Const) x none some = refl
other_token f (kinds.Word words.Of) x none some = refl
other_token f (kinds.Word words.Return) x none some = refl
other_token f (kinds.Word words.Throw) x none some = refl
other_token f (kinds.Word words.Break) x none some = refl
other_token f (kinds.Word words.Continue) x none some = refl
other_token f (kinds.Word words.Typeof) x none some = refl
other_token f (kinds.Word words.True) x none some = refl
other_token f (kinds.Word words.False) x none some = refl
other_token f (kinds.Word words.Null) x none some = refl
other_token f (kinds.Word words.Undefined) x none some = refl
other_token f (kinds.Word words.Other) x none some = refl
other_token f (kinds.Name n) x none some = refl
other_token f (kinds.Integer n) x none some = refl
other_token f (kinds.Text n) x none some = refl
other_token f (kinds.Sign n) x none some = refl
other_token f kinds.End x none some = refl
other_token f (kinds.Bad n) x none some = refl

prefix_none : prefix_by (kinds.Word words.Else) ≡ None
unfolding prefix_by
prefix_none = refl

declares_none : declares_by (kinds.Word words.Else) ≡ None
unfolding declares_by
declares_none = refl

primary_begins : {ts us : Tokens} {x : Expr} → IsPrimary ts x us → sees_word words.Else ts ≡ false
unfolding same_word
primary_begins (g.integer k) = no_else _ _ _ k refl
primary_begins (g.text k) = no_else _ _ _ k refl
primary_begins (g.name k) = no_else _ _ _ k refl
primary_begins (g.yes k) = no_else _ _ _ k refl
primary_begins (g.no k) = no_else _ _ _ k refl
primary_begins (g.null k) = no_else _ _ _ k refl
primary_begins (g.undefined k) = no_else _ _ _ k refl
primary_begins (g.parentheses k h l) = no_else _ _ _ k refl
primary_begins (g.list k h) = no_else _ _ _ k refl
primary_begins (g.object k h) = no_else _ _ _ k refl

unary_begins : {ts us : Tokens} {x : Expr} → IsUnary ts x us → sees_word words.Else ts ≡ false
unary_begins (g.prefixed {k = k} {op = o} take is u) = no_else k _ _ take (other_token prefix_by k o prefix_none is)
unary_begins (g.postfix p h) = primary_begins p

chain_begins : {n : ℕ} {ts us : Tokens} {x : Expr} → IsChain n ts x us → sees_word words.Else ts ≡ false
chain_begins (g.operand u) = unary_begins u
chain_begins (g.chain c h) = chain_begins c

expr_begins : {ts us : Tokens} {x : Expr} → IsExpr ts x us → sees_word words.Else ts ≡ false
expr_begins (g.no_choice c) = chain_begins c
expr_begins (g.choice c q h k i) = chain_begins c

named_begins : {ts us : Tokens} {n : Named} → IsNamed ts n us → sees_word words.Else ts ≡ false
named_begins (g.named k) = no_else _ _ _ k refl

simple_begins : {ts us : Tokens} {x : Simple} → IsSimple ts x us → sees_word words.Else ts ≡ false
simple_begins (g.write n k is h) = named_begins n
simple_begins (g.increment n k is) = named_begins n
simple_begins (g.decrement n k is) = named_begins n
simple_begins (g.value h) = expr_begins h

declaration_begins : {ts us : Tokens} {d : Declaration} → IsDeclaration ts d us → sees_word words.Else ts ≡ false
declaration_begins (g.declaration {k = k} {how = how} take is h) = no_else k _ _ take (other_token declares_by k how declares_none is)

statement_begins : {l : Bool} {ts us : Tokens} {x : Statement} → IsStatement l ts x us → sees_word words.Else ts ≡ false
unfolding same_word
statement_begins (g.block k h) = no_else _ _ _ k refl
statement_begins (g.empty k) = no_else _ _ _ k refl
statement_begins (g.declare d e) = declaration_begins d
statement_begins (g.choose k a b c d e) = no_else _ _ _ k refl
statement_begins (g.repeat k a b c d e) = no_else _ _ _ k refl
statement_begins (g.each k a b c d e f h i) = no_else _ _ _ k refl
statement_begins (g.return_none k e) = no_else _ _ _ k refl
statement_begins (g.return_some k h e) = no_else _ _ _ k refl
statement_begins (g.throw k h e) = no_else _ _ _ k refl
statement_begins (g.break k e) = no_else _ _ _ k refl
statement_begins (g.continue k e) = no_else _ _ _ k refl
statement_begins (g.simple _ x e) = simple_begins x

statements_begin : {l : Bool} {ts us : Tokens} {xs : List Statement} → AreStatements l ts xs us → sees_word words.Else ts ≡ false
statements_begin (g.no_statement k) = no_else _ _ _ k refl
statements_begin (g.one_statement x h) = statement_begins x

-- ---- what stands in statements

-- a name, where its token stands
abbrev placed : Tokens → Named → Named
placed ts n = record { place = place ts; name = n.name }

named_read : (n : Named) (ts : Tokens) → kind ts ≡ kinds.Name n.name → IsNamed ts (placed ts n) (next ts)
named_read n ts h = g.named (taken (kinds.Name n.name) ts h)

abbrev GivenPrints : Option Expr → Type 0
GivenPrints None = Unit {0}
GivenPrints (Some x) = Prints x

given_prints : {ts us : Tokens} {x : Option Expr} → IsGiven ts x us → GivenPrints x
given_prints g.not_given = tt
given_prints (g.given k h) = expr_prints h

given_read : (x : Option Expr) → GivenPrints x → (ts us : Tokens) → Shows (t.given x) ts us → (y : Option Expr) × IsGiven ts y us × (option_map bare y ≡ option_map bare x)
given_read None p ts us h = (None, subst (λ vs. IsGiven ts None vs) (sym h) g.not_given, refl)
given_read (Some x) p ts us h =
    let q : Printed IsExpr (next ts) x us = p.any (next ts) us h.1 in
    (Some q.tree, g.given (taken (kinds.Sign signs.Assign) ts h.0) q.is, ap Some q.same)

abbrev AllGivenPrint : List (Named × Option Expr) → Type 0
AllGivenPrint [] = Unit {0}
AllGivenPrint (n ∷ ns) = GivenPrints n.1 × AllGivenPrint ns

declared_prints : {ts us : Tokens} {ns : List (Named × Option Expr)} → AreDeclared ts ns us → AllGivenPrint ns
declared_prints (g.one_declared n h) = (given_prints h, tt)
declared_prints (g.more_declared n h k i) = (given_prints h, declared_prints i)

record One (n : Named × Option Expr) (ts us : Tokens) : Type 0 where
  value : Option Expr
  middle : Tokens
  name : IsNamed ts (placed ts n.0) middle
  is : IsGiven middle value us
  same : bare_given (placed ts n.0, value) ≡ bare_given n

one_read : (n : Named × Option Expr) → GivenPrints n.1 → (ts us : Tokens) → Shows (t.declared n) ts us → One n ts us
one_read n p ts us h =
    let r : ((y : Option Expr) × IsGiven (next ts) y us × (option_map bare y ≡ option_map bare n.1)) = given_read n.1 p (next ts) us h.1 in
    record { value = r.0; middle = next ts; name = named_read n.0 ts h.0; is = r.1; same = ap (λ z. (bare_named n.0, z)) r.2 }

more_read : (ns : List (Named × Option Expr)) → AllGivenPrint ns → (m : Named × Option Expr) (first ts us : Tokens) → One m first ts → Shows (t.more_declared ns) ts us
    → (os : List (Named × Option Expr)) × AreDeclared first os us × (map bare_given os ≡ map bare_given (m ∷ ns))
more_read [] ps m first ts us o h =
    ((placed first m.0, o.value) ∷ [], subst (λ vs. AreDeclared first ((placed first m.0, o.value) ∷ []) vs) (sym h) (g.one_declared o.name o.is), both o.same refl)
more_read (n ∷ ns) ps m first ts us o h =
    let c : Split (t.declared n) (t.more_declared ns) (next ts) us = split (t.declared n) (t.more_declared ns) (next ts) us h.1 in
    let p : One n (next ts) c.middle = one_read n ps.0 (next ts) c.middle c.first in
    let r : ((os : List (Named × Option Expr)) × AreDeclared (next ts) os us × (map bare_given os ≡ map bare_given (n ∷ ns))) = more_read ns ps.1 n (next ts) c.middle us p c.rest in
    ((placed first m.0, o.value) ∷ r.0, g.more_declared o.name o.is (taken (kinds.Sign signs.Comma) ts h.0) r.1, both o.same r.2)

declares_is : (how : Declares) → declares_by (kinds.Word (declares_word how)) ≡ Some how
unfolding declares_by
declares_is declares.Var = refl
declares_is declares.Let = refl
declares_is declares.Const = refl

record PrintsDeclaration (d : Declaration) : Type 0 where
  from : (ts us : Tokens) → Shows (t.declaration d) ts us → (r : Declaration) × IsDeclaration ts r us × (bare_declaration r ≡ bare_declaration d)

declaration_by : (p : Place) (how : Declares) (n : Named × Option Expr) (ns : List (Named × Option Expr)) → AllGivenPrint (n ∷ ns)
    → PrintsDeclaration (record { place = p; declares = how; names = n ∷ ns })
declaration_by p how n ns ps = record {
  from = λ ts us h. (
      let c : Split (t.declared n) (t.more_declared ns) (next ts) us = split (t.declared n) (t.more_declared ns) (next ts) us h.1 in
      let o : One n (next ts) c.middle = one_read n ps.0 (next ts) c.middle c.first in
      let r : ((os : List (Named × Option Expr)) × AreDeclared (next ts) os us × (map bare_given os ≡ map bare_given (n ∷ ns))) = more_read ns ps.1 n (next ts) c.middle us o c.rest in (
        record { place = place ts; declares = how; names = r.0 },
        g.declaration (taken (kinds.Word (declares_word how)) ts h.0) (declares_is how) r.1,
        ap (λ z. record { place = first_place; declares = how; names = z }) r.2,
      ));
}

declared_nonempty : {ts us : Tokens} {ns : List (Named × Option Expr)} (p : Place) (how : Declares) → AreDeclared ts ns us → PrintsDeclaration (record { place = p; declares = how; names = ns })
declared_nonempty p how (g.one_declared {n = n} {x = x} i h) = declaration_by p how (n, x) [] (given_prints h, tt)
declared_nonempty p how (g.more_declared {n = n} {x = x} {others = ns} i h k r) = declaration_by p how (n, x) ns (given_prints h, declared_prints r)

declaration_prints : {ts us : Tokens} {d : Declaration} → IsDeclaration ts d us → PrintsDeclaration d
declaration_prints (g.declaration {ts = ts} {how = how} k is h) = declared_nonempty (place ts) how h

-- ---- simple statements

write_read : (how : Writes) {ts us vs : Tokens} {n : Named} {x : Expr} → IsNamed ts n us → kind us ≡ kinds.Sign (writes_sign how) → IsExpr (next us) x vs → IsSimple ts (simples.Write n how x) vs
unfolding writing_by
write_read writes.Set {us = us} i k h = g.write i (taken (kinds.Sign signs.Assign) us k) refl h
write_read writes.Add {us = us} i k h = g.write i (taken (kinds.Sign signs.PlusAssign) us k) refl h
write_read writes.Subtract {us = us} i k h = g.write i (taken (kinds.Sign signs.MinusAssign) us k) refl h

increment_read : {ts us vs : Tokens} {n : Named} → IsNamed ts n us → Takes (kinds.Sign signs.Increment) us vs → IsSimple ts (simples.Increment n) vs
unfolding writing_by
increment_read i k = g.increment i k refl

decrement_read : {ts us vs : Tokens} {n : Named} → IsNamed ts n us → Takes (kinds.Sign signs.Decrement) us vs → IsSimple ts (simples.Decrement n) vs
unfolding writing_by
decrement_read i k = g.decrement i k refl

record PrintsSimple (x : Simple) : Type 0 where
  from : (ts us : Tokens) → Shows (t.simple x) ts us → (r : Simple) × IsSimple ts r us × (bare_simple r ≡ bare_simple x)
  plain : (ts us : Tokens) → Shows (t.simple x) ts us → sees signs.BraceOpen ts ≡ false

value_by : (p : Place) (x : Expr) → Prints x → (b : Bool) → (spelled x).object_first ≡ b → (ts us : Tokens) → Shows (cond b (parenthesized (spelled x).tokens) (spelled x).tokens) ts us
    → Printed IsExpr ts x us × (sees signs.BraceOpen ts ≡ false)
value_by p x px true first ts us h =
    let q : Printed IsPrimary ts x us = in_parentheses x (spelled x) px ts us h in
    (record { tree = q.tree; is = as_expr 0 (omega arith) (as_chain 0 (as_unary q.is)); same = q.same }, paren_unseen ts h.0)
value_by p x px false first ts us h = (px.any ts us h, px.plain first ts us h)

simple_prints : {ts us : Tokens} {x : Simple} → IsSimple ts x us → PrintsSimple x
simple_prints (g.write {n = n} {how = how} {x = x} i k is h) = record {
  from = λ ts us j. (let q : Printed IsExpr (next (next ts)) x us = (expr_prints h).any (next (next ts)) us j.1.1 in
      (simples.Write (placed ts n) how q.tree, write_read how (named_read n ts j.0) j.1.0 q.is, ap (simples.Write (bare_named n) how) q.same));
  plain = λ ts us j. unseen (kinds.Name n.name) ts j.0 refl;
}
simple_prints (g.increment {n = n} i k is) = record {
  from = λ ts us j. (simples.Increment (placed ts n), increment_read (named_read n ts j.0) (taken_last (kinds.Sign signs.Increment) (next ts) us j.1), refl);
  plain = λ ts us j. unseen (kinds.Name n.name) ts j.0 refl;
}
simple_prints (g.decrement {n = n} i k is) = record {
  from = λ ts us j. (simples.Decrement (placed ts n), decrement_read (named_read n ts j.0) (taken_last (kinds.Sign signs.Decrement) (next ts) us j.1), refl);
  plain = λ ts us j. unseen (kinds.Name n.name) ts j.0 refl;
}
simple_prints (g.value {ts = ps} {x = x} h) = record {
  from = λ ts us j. (let q : Printed IsExpr ts x us × (sees signs.BraceOpen ts ≡ false) = value_by (place ps) x (expr_prints h) (spelled x).object_first refl ts us j in
      (simples.Value (place ts) q.0.tree, g.value q.0.is, ap (simples.Value first_place) q.0.same));
  plain = λ ts us j. (value_by (place ps) x (expr_prints h) (spelled x).object_first refl ts us j).1;
}

-- ---- the parentheses of a `for`

abbrev ExprOrNonePrints : Option Expr → Type 0
ExprOrNonePrints = GivenPrints

expr_or_none_read : (close : Sign) (x : Option Expr) → GivenPrints x → (ts ms us : Tokens) → Shows (t.expr_or_none x) ts ms → Takes (kinds.Sign close) ms us
    → (y : Option Expr) × IsExprOrNone close ts y us × (option_map bare y ≡ option_map bare x)
expr_or_none_read close None p ts ms us h k = (None, g.no_expr (subst (λ vs. Takes (kinds.Sign close) vs us) h k), refl)
expr_or_none_read close (Some x) p ts ms us h k = let q : Printed IsExpr ts x ms = p.any ts ms h in (Some q.tree, g.an_expr q.is k, ap Some q.same)

expr_or_none_prints : {close : Sign} {ts us : Tokens} {x : Option Expr} → IsExprOrNone close ts x us → GivenPrints x
expr_or_none_prints (g.no_expr k) = tt
expr_or_none_prints (g.an_expr h k) = expr_prints h

abbrev LastPrints : Option Simple → Type 0
LastPrints None = Unit {0}
LastPrints (Some x) = PrintsSimple x

last_prints : {ts us : Tokens} {x : Option Simple} → IsLast ts x us → LastPrints x
last_prints (g.no_last k) = tt
last_prints (g.last h k) = simple_prints h

last_read : (x : Option Simple) → LastPrints x → (ts ms us : Tokens) → Shows (t.last x) ts ms → Takes (kinds.Sign signs.ParenClose) ms us
    → (y : Option Simple) × IsLast ts y us × (option_map bare_simple y ≡ option_map bare_simple x)
last_read None p ts ms us h k = (None, g.no_last (subst (λ vs. Takes (kinds.Sign signs.ParenClose) vs us) h k), refl)
last_read (Some x) p ts ms us h k =
    let q : ((r : Simple) × IsSimple ts r ms × (bare_simple r ≡ bare_simple x)) = p.from ts ms h in (Some q.0, g.last q.1 k, ap Some q.2)

abbrev StartPrints : Option Start → Type 0
StartPrints None = Unit {0}
StartPrints (Some (starts.Declare d)) = PrintsDeclaration d
StartPrints (Some (starts.Simple x)) = PrintsSimple x

start_prints : {ts us : Tokens} {x : Option Start} → IsStart ts x us → StartPrints x
start_prints (g.no_start k) = tt
start_prints (g.declares h k) = declaration_prints h
start_prints (g.starts_simple h k) = simple_prints h

start_read : (x : Option Start) → StartPrints x → (ts ms us : Tokens) → Shows (t.start x) ts ms → Takes (kinds.Sign signs.Semicolon) ms us
    → (y : Option Start) × IsStart ts y us × (option_map bare_start y ≡ option_map bare_start x)
start_read None p ts ms us h k = (None, g.no_start (subst (λ vs. Takes (kinds.Sign signs.Semicolon) vs us) h k), refl)
start_read (Some (starts.Declare d)) p ts ms us h k =
    let q : ((r : Declaration) × IsDeclaration ts r ms × (bare_declaration r ≡ bare_declaration d)) = p.from ts ms h in
    (Some (starts.Declare q.0), g.declares q.1 k, ap (λ z. Some (starts.Declare z)) q.2)
start_read (Some (starts.Simple x)) p ts ms us h k =
    let q : ((r : Simple) × IsSimple ts r ms × (bare_simple r ≡ bare_simple x)) = p.from ts ms h in
    (Some (starts.Simple q.0), g.starts_simple q.1 k, ap (λ z. Some (starts.Simple z)) q.2)

-- ---- statements

-- Behind a statement of which this is not true stands no `else`, where it is printed either.
record PrintsStatement (l : Bool) (other : Bool) (x : Statement) : Type 0 where
  from : (ts us : Tokens) → Shows (t.statement x) ts us → (other ≡ false → sees_word words.Else us ≡ false) → (r : Statement) × IsStatement l ts r us × (bare_statement r ≡ bare_statement x)

abbrev Read : Bool → Statement → Tokens → Tokens → Type 0
Read l x ts us = (r : Statement) × IsStatement l ts r us × (bare_statement r ≡ bare_statement x)

-- where no `else` stands behind it
record PrintsAlone (l : Bool) (x : Statement) : Type 0 where
  from : (ts us : Tokens) → Shows (t.statement x) ts us → sees_word words.Else us ≡ false → Read l x ts us

-- what reads what a statement is printed as, level by level
layered : (l other : Bool) (x : Statement) (ks : List Kind) → t.statement x ≡ ks → ((ts us : Tokens) → Shows ks ts us → (other ≡ false → sees_word words.Else us ≡ false) → Read l x ts us) → PrintsStatement l other x
layered l other x ks is f = record { from = λ ts us h none. f ts us (subst (λ z. Shows z ts us) is h) none }

alone : {l other : Bool} {x : Statement} → PrintsStatement l other x → PrintsAlone l x
alone p = record { from = λ ts us h none. p.from ts us h (λ _. none) }

abbrev AllPrintAlone : Bool → List Statement → Type 0
AllPrintAlone l [] = Unit {0}
AllPrintAlone l (x ∷ xs) = PrintsAlone l x × AllPrintAlone l xs

statements_read : (l : Bool) (xs : List Statement) → AllPrintAlone l xs → (ts us : Tokens) → Shows (t.in_turn (map t.statement xs) ++ sign signs.BraceClose) ts us
    → (rs : List Statement) × AreStatements l ts rs us × (map bare_statement rs ≡ map bare_statement xs)
statements_read l [] ps ts us h = ([], g.no_statement (taken_last (kinds.Sign signs.BraceClose) ts us h), refl)
statements_read l (x ∷ xs) ps ts us h =
    let o : Split (t.in_turn (map t.statement (x ∷ xs))) (sign signs.BraceClose) ts us = split (t.in_turn (map t.statement (x ∷ xs))) (sign signs.BraceClose) ts us h in
    let c : Split (t.statement x) (t.in_turn (map t.statement xs)) ts o.middle = split (t.statement x) (t.in_turn (map t.statement xs)) ts o.middle o.first in
    let rest : Shows (t.in_turn (map t.statement xs) ++ sign signs.BraceClose) c.middle us = joined (t.in_turn (map t.statement xs)) (sign signs.BraceClose) c.middle o.middle us c.rest o.rest in
    let r : ((rs : List Statement) × AreStatements l c.middle rs us × (map bare_statement rs ≡ map bare_statement xs)) = statements_read l xs ps.1 c.middle us rest in
    let q : Read l x ts c.middle = ps.0.from ts c.middle c.first (statements_begin r.1) in
    (q.0 ∷ r.0, g.one_statement q.1 r.1, both q.2 r.2)

block_prints : (l other : Bool) (p : Place) (xs : List Statement) → AllPrintAlone l xs → PrintsStatement l other (s.Block p xs)
block_prints l other p xs ps = layered l other (s.Block p xs) (t.spell_statement (Statement-F.Block p (map t.statement xs))) (spelled_statement_block p xs) (λ ts us h alone_too. (
    let r : ((rs : List Statement) × AreStatements l (next ts) rs us × (map bare_statement rs ≡ map bare_statement xs)) = statements_read l xs ps (next ts) us h.1 in
    (s.Block (place ts) r.0, g.block (taken (kinds.Sign signs.BraceOpen) ts h.0) r.1, bare_statement_block (place ts) r.0 ∙ ap (s.Block first_place) r.2 ∙ sym (bare_statement_block p xs))))

ended : (ts us : Tokens) → Shows (sign signs.Semicolon) ts us → Ends ts us
ended ts us h = g.ended (taken_last (kinds.Sign signs.Semicolon) ts us h)

empty_prints : (l other : Bool) (p : Place) → PrintsStatement l other (s.Empty p)
empty_prints l other p = layered l other (s.Empty p) (t.spell_statement (Statement-F.Empty p)) (spelled_statement_empty p) (λ ts us h alone_too. (s.Empty (place ts), g.empty (taken_last (kinds.Sign signs.Semicolon) ts us h), bare_statement_empty (place ts) ∙ sym (bare_statement_empty p)))

declare_prints : (l other : Bool) (d : Declaration) → PrintsDeclaration d → PrintsStatement l other (s.Declare d)
declare_prints l other d p = layered l other (s.Declare d) (t.spell_statement (Statement-F.Declare d)) (spelled_statement_declare d) (λ ts us h alone_too. (
    let c : Split (t.declaration d) (sign signs.Semicolon) ts us = split (t.declaration d) (sign signs.Semicolon) ts us h in
    let q : ((r : Declaration) × IsDeclaration ts r c.middle × (bare_declaration r ≡ bare_declaration d)) = p.from ts c.middle c.first in
    (s.Declare q.0, g.declare q.1 (ended c.middle us c.rest), bare_statement_declare q.0 ∙ ap s.Declare q.2 ∙ sym (bare_statement_declare d))))

simple_statement_prints : (l other : Bool) (x : Simple) → PrintsSimple x → PrintsStatement l other (s.Simple x)
simple_statement_prints l other x p = layered l other (s.Simple x) (t.spell_statement (Statement-F.Simple x)) (spelled_statement_simple x) (λ ts us h alone_too. (
    let c : Split (t.simple x) (sign signs.Semicolon) ts us = split (t.simple x) (sign signs.Semicolon) ts us h in
    let q : ((r : Simple) × IsSimple ts r c.middle × (bare_simple r ≡ bare_simple x)) = p.from ts c.middle c.first in
    (s.Simple q.0, g.simple (p.plain ts c.middle c.first) q.1 (ended c.middle us c.rest), bare_statement_simple q.0 ∙ ap s.Simple q.2 ∙ sym (bare_statement_simple x))))

jump_break_prints : (other : Bool) (p : Place) → PrintsStatement true other (s.Break p)
jump_break_prints other p = layered true other (s.Break p) (t.spell_statement (Statement-F.Break p)) (spelled_statement_break p) (λ ts us h alone_too. (s.Break (place ts), g.break (taken (kinds.Word words.Break) ts h.0) (ended (next ts) us h.1), bare_statement_break (place ts) ∙ sym (bare_statement_break p)))

jump_continue_prints : (other : Bool) (p : Place) → PrintsStatement true other (s.Continue p)
jump_continue_prints other p = layered true other (s.Continue p) (t.spell_statement (Statement-F.Continue p)) (spelled_statement_continue p) (λ ts us h alone_too. (s.Continue (place ts), g.continue (taken (kinds.Word words.Continue) ts h.0) (ended (next ts) us h.1), bare_statement_continue (place ts) ∙ sym (bare_statement_continue p)))

return_prints : (l other : Bool) (p : Place) → PrintsStatement l other (s.Return p None)
return_prints l other p = layered l other (s.Return p None) (t.spell_statement (Statement-F.Return p None)) (spelled_statement_return p None) (λ ts us h alone_too. (s.Return (place ts) None, g.return_none (taken (kinds.Word words.Return) ts h.0) (ended (next ts) us h.1), bare_statement_return (place ts) None ∙ sym (bare_statement_return p None)))

return_some_prints : (l other : Bool) (p : Place) (x : Expr) → Prints x → PrintsStatement l other (s.Return p (Some x))
return_some_prints l other p x px = layered l other (s.Return p (Some x)) (t.spell_statement (Statement-F.Return p (Some x))) (spelled_statement_return p (Some x)) (λ ts us h alone_too. (
    let c : Split (spelled x).tokens (sign signs.Semicolon) (next ts) us = split (spelled x).tokens (sign signs.Semicolon) (next ts) us h.1 in
    let q : Printed IsExpr (next ts) x c.middle = px.any (next ts) c.middle c.first in
    (s.Return (place ts) (Some q.tree), g.return_some (taken (kinds.Word words.Return) ts h.0) q.is (ended c.middle us c.rest), bare_statement_return (place ts) (Some q.tree) ∙ ap (λ z. s.Return first_place (Some z)) q.same ∙ sym (bare_statement_return p (Some x)))))

throw_prints : (l other : Bool) (p : Place) (x : Expr) → Prints x → PrintsStatement l other (s.Throw p x)
throw_prints l other p x px = layered l other (s.Throw p x) (t.spell_statement (Statement-F.Throw p x)) (spelled_statement_throw p x) (λ ts us h alone_too. (
    let c : Split (spelled x).tokens (sign signs.Semicolon) (next ts) us = split (spelled x).tokens (sign signs.Semicolon) (next ts) us h.1 in
    let q : Printed IsExpr (next ts) x c.middle = px.any (next ts) c.middle c.first in
    (s.Throw (place ts) q.tree, g.throw (taken (kinds.Word words.Throw) ts h.0) q.is (ended c.middle us c.rest), bare_statement_throw (place ts) q.tree ∙ ap (s.Throw first_place) q.same ∙ sym (bare_statement_throw p x))))

-- ---- statements in statements

-- an expression in parentheses, and what stands behind it
record InParentheses (x : Expr) (ts us : Tokens) : Type 0 where
  tree : Expr
  middle : Tokens
  opens : Takes (kinds.Sign signs.ParenOpen) ts (next ts)
  is : IsExpr (next ts) tree middle
  close : Takes (kinds.Sign signs.ParenClose) middle us
  same : bare tree ≡ bare x

in_parens : (x : Expr) → Prints x → (ts us : Tokens) → Shows (parenthesized (spelled x).tokens) ts us → InParentheses x ts us
in_parens x px ts us h =
    let c : Split (spelled x).tokens (sign signs.ParenClose) (next ts) us = split (spelled x).tokens (sign signs.ParenClose) (next ts) us h.1 in
    let q : Printed IsExpr (next ts) x c.middle = px.any (next ts) c.middle c.first in
    record { tree = q.tree; middle = c.middle; opens = taken (kinds.Sign signs.ParenOpen) ts h.0; is = q.is; close = taken_last (kinds.Sign signs.ParenClose) c.middle us c.rest; same = q.same }

if_prints : (l other : Bool) (p : Place) (x : Expr) (a : Statement) → Prints x → PrintsStatement l other a → other ≡ false → PrintsStatement l other (s.If p x a None)
if_prints l other p x a px pa none = layered l other (s.If p x a None) (t.spell_statement (Statement-F.If p x (t.statement a) None)) (spelled_statement_if p x a None) (λ ts us h alone_too. (
    let c : Split (parenthesized (spelled x).tokens) (t.statement a ++ []) (next ts) us = split (parenthesized (spelled x).tokens) (t.statement a ++ []) (next ts) us h.1 in
    let q : InParentheses x (next ts) c.middle = in_parens x px (next ts) c.middle c.first in
    let d : Split (t.statement a) [] c.middle us = split (t.statement a) [] c.middle us c.rest in
    let k : Shows (t.statement a) c.middle us = subst (λ vs. Shows (t.statement a) c.middle vs) (sym d.rest) d.first in
    let r : Read l a c.middle us = pa.from c.middle us k alone_too in (
      s.If (place ts) q.tree r.0 None,
      g.choose (taken (kinds.Word words.If) ts h.0) q.opens q.is q.close r.1 (g.no_else (alone_too none)),
      bare_statement_if (place ts) q.tree r.0 None ∙ ap (λ z. s.If first_place z (bare_statement r.0) None) q.same ∙ ap (λ z. s.If first_place (bare x) z None) r.2 ∙ sym (bare_statement_if p x a None),
    )))

if_else_prints : (l other : Bool) (p : Place) (x : Expr) (a b : Statement) → Prints x → PrintsStatement l true a → PrintsStatement l other b → PrintsStatement l other (s.If p x a (Some b))
if_else_prints l other p x a b px pa pb = layered l other (s.If p x a (Some b)) (t.spell_statement (Statement-F.If p x (t.statement a) (Some (t.statement b)))) (spelled_statement_if p x a (Some b)) (λ ts us h alone_too. (
    let c : Split (parenthesized (spelled x).tokens) (t.statement a ++ kinds.Word words.Else ∷ t.statement b) (next ts) us = split (parenthesized (spelled x).tokens) (t.statement a ++ kinds.Word words.Else ∷ t.statement b) (next ts) us h.1 in
    let q : InParentheses x (next ts) c.middle = in_parens x px (next ts) c.middle c.first in
    let d : Split (t.statement a) (kinds.Word words.Else ∷ t.statement b) c.middle us = split (t.statement a) (kinds.Word words.Else ∷ t.statement b) c.middle us c.rest in
    let r : Read l a c.middle d.middle = pa.from c.middle d.middle d.first (λ not_so. absurd cc) in
    let v : Read l b (next d.middle) us = pb.from (next d.middle) us d.rest.1 alone_too in (
      s.If (place ts) q.tree r.0 (Some v.0),
      g.choose (taken (kinds.Word words.If) ts h.0) q.opens q.is q.close r.1 (g.other (taken (kinds.Word words.Else) d.middle d.rest.0) v.1),
      bare_statement_if (place ts) q.tree r.0 (Some v.0) ∙ ap (λ z. s.If first_place z (bare_statement r.0) (Some (bare_statement v.0))) q.same ∙ ap (λ z. s.If first_place (bare x) z (Some (bare_statement v.0))) r.2 ∙ ap (λ z. s.If first_place (bare x) (bare_statement a) (Some z)) v.2 ∙ sym (bare_statement_if p x a (Some b)),
    )))

each_prints : (l other : Bool) (p : Place) (how : Declares) (n : Named) (x : Expr) (a : Statement) → Prints x → PrintsStatement true other a → PrintsStatement l other (s.ForOf p how n x a)
each_prints l other p how n x a px pa = layered l other (s.ForOf p how n x a) (t.spell_statement (Statement-F.ForOf p how n x (t.statement a))) (spelled_statement_forof p how n x a) (λ ts us h alone_too. (
    let c : Split (parenthesized (t.each how n x)) (t.statement a) (next ts) us = split (parenthesized (t.each how n x)) (t.statement a) (next ts) us h.1 in
    let d : Split (t.each how n x) (sign signs.ParenClose) (next (next ts)) c.middle = split (t.each how n x) (sign signs.ParenClose) (next (next ts)) c.middle c.first.1 in
    let q : Printed IsExpr (next (next (next (next (next ts))))) x d.middle = px.any (next (next (next (next (next ts))))) d.middle d.first.1.1.1 in
    let r : Read true a c.middle us = pa.from c.middle us c.rest alone_too in (
      s.ForOf (place ts) how (placed (next (next (next ts))) n) q.tree r.0,
      g.each (taken (kinds.Word words.For) ts h.0) (taken (kinds.Sign signs.ParenOpen) (next ts) c.first.0) (taken (kinds.Word (declares_word how)) (next (next ts)) d.first.0) (declares_is how)
          (named_read n (next (next (next ts))) d.first.1.0) (taken (kinds.Word words.Of) (next (next (next (next ts)))) d.first.1.1.0) q.is
          (taken_last (kinds.Sign signs.ParenClose) d.middle c.middle d.rest) r.1,
      bare_statement_forof (place ts) how (placed (next (next (next ts))) n) q.tree r.0 ∙ ap (λ z. s.ForOf first_place how (bare_named n) z (bare_statement r.0)) q.same ∙ ap (s.ForOf first_place how (bare_named n) (bare x)) r.2 ∙ sym (bare_statement_forof p how n x a),
    )))

abbrev head_tail : Option Expr → Option Simple → List Kind
head_tail x step = t.expr_or_none x ++ kinds.Sign signs.Semicolon ∷ t.last step

repeat_prints : (l other : Bool) (p : Place) (begins : Option Start) (x : Option Expr) (step : Option Simple) (a : Statement) → StartPrints begins → GivenPrints x → LastPrints step → PrintsStatement true other a
    → PrintsStatement l other (s.For p begins x step a)
repeat_prints l other p begins x step a pb px ps pa = layered l other (s.For p begins x step a) (t.spell_statement (Statement-F.For p begins x step (t.statement a))) (spelled_statement_for p begins x step a) (λ ts us h alone_too. (
    let c : Split (parenthesized (t.head begins x step)) (t.statement a) (next ts) us = split (parenthesized (t.head begins x step)) (t.statement a) (next ts) us h.1 in
    let d : Split (t.head begins x step) (sign signs.ParenClose) (next (next ts)) c.middle = split (t.head begins x step) (sign signs.ParenClose) (next (next ts)) c.middle c.first.1 in
    let i : Split (t.start begins) (kinds.Sign signs.Semicolon ∷ head_tail x step) (next (next ts)) d.middle = split (t.start begins) (kinds.Sign signs.Semicolon ∷ head_tail x step) (next (next ts)) d.middle d.first in
    let j : Split (t.expr_or_none x) (kinds.Sign signs.Semicolon ∷ t.last step) (next i.middle) d.middle = split (t.expr_or_none x) (kinds.Sign signs.Semicolon ∷ t.last step) (next i.middle) d.middle i.rest.1 in
    let u : ((y : Option Start) × IsStart (next (next ts)) y (next i.middle) × (option_map bare_start y ≡ option_map bare_start begins)) =
    start_read begins pb (next (next ts)) i.middle (next i.middle) i.first (taken (kinds.Sign signs.Semicolon) i.middle i.rest.0) in
    let v : ((y : Option Expr) × IsExprOrNone signs.Semicolon (next i.middle) y (next j.middle) × (option_map bare y ≡ option_map bare x)) =
    expr_or_none_read signs.Semicolon x px (next i.middle) j.middle (next j.middle) j.first (taken (kinds.Sign signs.Semicolon) j.middle j.rest.0) in
    let w : ((y : Option Simple) × IsLast (next j.middle) y c.middle × (option_map bare_simple y ≡ option_map bare_simple step)) =
    last_read step ps (next j.middle) d.middle c.middle j.rest.1 (taken_last (kinds.Sign signs.ParenClose) d.middle c.middle d.rest) in
    let r : Read true a c.middle us = pa.from c.middle us c.rest alone_too in (
      s.For (place ts) u.0 v.0 w.0 r.0,
      g.repeat (taken (kinds.Word words.For) ts h.0) (taken (kinds.Sign signs.ParenOpen) (next ts) c.first.0) u.1 v.1 w.1 r.1,
      bare_statement_for (place ts) u.0 v.0 w.0 r.0 ∙ ap (λ z. s.For first_place z (option_map bare v.0) (option_map bare_simple w.0) (bare_statement r.0)) u.2
          ∙ ap (λ z. s.For first_place (option_map bare_start begins) z (option_map bare_simple w.0) (bare_statement r.0)) v.2
          ∙ ap (λ z. s.For first_place (option_map bare_start begins) (option_map bare x) z (bare_statement r.0)) w.2
          ∙ ap (s.For first_place (option_map bare_start begins) (option_map bare x) (option_map bare_simple step)) r.2 ∙ sym (bare_statement_for p begins x step a),
    )))

-- ---- statements of the grammar

else_seen : (ts : Tokens) {us : Tokens} → Takes (kinds.Word words.Else) ts us → sees_word words.Else ts ≡ true
unfolding sees_word same_word
else_seen ts k = ap (is_word words.Else) k.is

mutual
  statement_prints : {l : Bool} {ts us : Tokens} {x : Statement} → IsStatement l ts x us → PrintsStatement l (sees_word words.Else us) x
  statement_prints (g.block {l = l} {ts = ts} {vs = vs} {found = xs} k h) = block_prints l (sees_word words.Else vs) (place ts) xs (statements_print h)
  statement_prints (g.empty {l = l} {ts = ts} {us = us} k) = empty_prints l (sees_word words.Else us) (place ts)
  statement_prints (g.declare {l = l} {vs = vs} {d = d} h e) = declare_prints l (sees_word words.Else vs) d (declaration_prints h)
  statement_prints (g.choose {l = l} {ts = ts} {x = x} {first = a} k i h j b o) = otherwise_prints (place ts) x a (expr_prints h) (statement_prints b) o
  statement_prints (g.repeat {l = l} {ts = ts} {zs = zs} {begins = begins} {x = x} {step = step} {body = a} k i b c d h) =
      repeat_prints l (sees_word words.Else zs) (place ts) begins x step a (start_prints b) (expr_or_none_prints c) (last_prints d) (statement_prints h)
  statement_prints (g.each {l = l} {ts = ts} {bs = bs} {how = how} {n = n} {x = x} {body = a} k i d is m o h c b) = each_prints l (sees_word words.Else bs) (place ts) how n x a (expr_prints h) (statement_prints b)
  statement_prints (g.return_none {l = l} {ts = ts} {vs = vs} k e) = return_prints l (sees_word words.Else vs) (place ts)
  statement_prints (g.return_some {l = l} {ts = ts} {ws = ws} {x = x} k h e) = return_some_prints l (sees_word words.Else ws) (place ts) x (expr_prints h)
  statement_prints (g.throw {l = l} {ts = ts} {ws = ws} {x = x} k h e) = throw_prints l (sees_word words.Else ws) (place ts) x (expr_prints h)
  statement_prints (g.break {ts = ts} {vs = vs} k e) = jump_break_prints (sees_word words.Else vs) (place ts)
  statement_prints (g.continue {ts = ts} {vs = vs} k e) = jump_continue_prints (sees_word words.Else vs) (place ts)
  statement_prints (g.simple {l = l} {vs = vs} {x = x} _ h e) = simple_statement_prints l (sees_word words.Else vs) x (simple_prints h)

  otherwise_prints : {l : Bool} {ts us : Tokens} {o : Option Statement} (p : Place) (x : Expr) (a : Statement) → Prints x → PrintsStatement l (sees_word words.Else ts) a → IsOtherwise l ts o us
      → PrintsStatement l (sees_word words.Else us) (s.If p x a o)
  otherwise_prints {l} p x a px pa (g.no_else {ts = ts} none) = if_prints l (sees_word words.Else ts) p x a px pa none
  otherwise_prints {l} p x a px pa (g.other {ts = ts} {vs = vs} {x = b} k h) =
      if_else_prints l (sees_word words.Else vs) p x a b px (subst (λ c. PrintsStatement l c a) (else_seen ts k) pa) (statement_prints h)

  statements_print : {l : Bool} {ts us : Tokens} {xs : List Statement} → AreStatements l ts xs us → AllPrintAlone l xs
  statements_print (g.no_statement k) = tt
  statements_print (g.one_statement x h) = (alone (statement_prints x), statements_print h)

-- ---- programs

own_name_read : (n : Option (List ℕ)) (ts us : Tokens) → Shows (t.own_name n) ts us → IsOwnName ts n us
own_name_read None ts us h = subst (λ vs. IsOwnName ts None vs) (sym h) g.no_own_name
own_name_read (Some n) ts us h = g.own_name (taken_last (kinds.Name n) ts us h)

second_read : (m : Option Named) (ts us : Tokens) → Shows (t.second m) ts us → (o : Option Named) × IsSecond ts o us × (option_map bare_named o ≡ option_map bare_named m)
second_read None ts us h = (None, subst (λ vs. IsSecond ts None vs) (sym h) g.no_second, refl)
second_read (Some m) ts us h =
    (Some (placed (next ts) m), g.second (taken (kinds.Sign signs.Comma) ts h.0) (subst (λ vs. IsNamed (next ts) (placed (next ts) m) vs) (sym h.1.1) (named_read m (next ts) h.1.0)), refl)

abbrev behind_own_name : Named → Option Named → List Statement → List Kind
behind_own_name n m xs = parenthesized (t.parameters n m) ++ t.block (map t.statement xs)

program_by : (own : Option (List ℕ)) (n : Named) (m : Option Named) (p : Place) (xs : List Statement) → AllPrintAlone false xs
    → (ts us : Tokens) → Shows (t.program (record { name = own; first = n; second = m; place = p; body = xs })) ts us → kind us ≡ kinds.End
    → (r : Program) × IsProgram ts r × (moved at_start r ≡ moved at_start (record { name = own; first = n; second = m; place = p; body = xs }))
unfolding t.program
program_by own n m p xs ps ts us h end =
    let c : Split (t.own_name own) (behind_own_name n m xs) (next ts) us = split (t.own_name own) (behind_own_name n m xs) (next ts) us h.1 in
    let d : Split (parenthesized (t.parameters n m)) (t.block (map t.statement xs)) c.middle us = split (parenthesized (t.parameters n m)) (t.block (map t.statement xs)) c.middle us c.rest in
    let i : Split (t.parameters n m) (sign signs.ParenClose) (next c.middle) d.middle = split (t.parameters n m) (sign signs.ParenClose) (next c.middle) d.middle d.first.1 in
    let o : ((q : Option Named) × IsSecond (next (next c.middle)) q i.middle × (option_map bare_named q ≡ option_map bare_named m)) = second_read m (next (next c.middle)) i.middle i.first.1 in
    let r : ((rs : List Statement) × AreStatements false (next d.middle) rs us × (map bare_statement rs ≡ map bare_statement xs)) = statements_read false xs ps (next d.middle) us d.rest.1 in (
      record { name = own; first = placed (next c.middle) n; second = o.0; place = place d.middle; body = r.0 },
      g.program (g.head (taken (kinds.Word words.Function) ts h.0) (own_name_read own (next ts) c.middle c.first) (taken (kinds.Sign signs.ParenOpen) c.middle d.first.0)
          (named_read n (next c.middle) i.first.0) o.1 (taken_last (kinds.Sign signs.ParenClose) i.middle d.middle i.rest))
          (taken (kinds.Sign signs.BraceOpen) d.middle d.rest.0) r.1 g.no_semicolon end,
      ap (λ z. record { name = own; first = bare_named n; second = z; place = first_place; body = map bare_statement r.0 }) o.2
          ∙ ap (λ z. record { name = own; first = bare_named n; second = option_map bare_named m; place = first_place; body = z }) r.2,
    )

-- what is printed of a program of the grammar is read as it, its places apart
pub program_prints : (ps : Tokens) (x : Program) → IsProgram ps x → (ts us : Tokens) → Shows (t.program x) ts us → kind us ≡ kinds.End
    → (r : Program) × IsProgram ts r × (moved at_start r ≡ moved at_start x)
program_prints ps x (g.program {us = qs} {own = own} {n = n} {m = m} {body = xs} h k b tail is) ts us shown end = program_by own n m (place qs) xs (statements_print b) ts us shown end
