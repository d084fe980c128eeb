-- What each rule of statements reads, where the rules that it is made of read what they should.
use Rattle.std.proofs.Common.{◌≡◌, ℕ, suc, Bool, true, false, List, [], ◌∷◌, ◌++◌, Option, Some, None, Ok, refl, sym, ap, ◌∙◌}
use Rattle.sync_tokens.specs.declared.place.Place.{Place}
use Rattle.sync_tokens.specs.declared.token.Kind.{Kind}
use Rattle.sync_tokens.specs.declared.token.Kind.TheVariants as kinds
use Rattle.sync_tokens.specs.declared.token.Sign.{Sign}
use Rattle.sync_tokens.specs.declared.token.Sign.TheVariants as signs
use Rattle.sync_tokens.specs.declared.token.Word.TheVariants as words
use Rattle.sync_syntax.specs.declared.operator.Writing.TheVariants as writing
use Rattle.sync_syntax.specs.declared.tree.Expr.{Expr}
use Rattle.sync_syntax.specs.declared.tree.Named.{Named}
use Rattle.sync_syntax.specs.declared.tree.Declares.{Declares}
use Rattle.sync_syntax.specs.declared.tree.Declaration.{Declaration}
use Rattle.sync_syntax.specs.declared.tree.Writes.{Writes}
use Rattle.sync_syntax.specs.declared.tree.Simple.{Simple}
use Rattle.sync_syntax.specs.declared.tree.Simple.TheVariants as simples
use Rattle.sync_syntax.specs.declared.tree.Start.{Start}
use Rattle.sync_syntax.specs.declared.tree.Start.TheVariants as starts
use Rattle.sync_syntax.specs.declared.tree.Statement.{Statement}
use Rattle.sync_syntax.specs.declared.tree.Statement.TheVariants as s
use Rattle.sync_syntax.specs.Reading.{Tokens, Outcome, Rule, kind, second, place, same_sign, is_sign, sees, sees_word}
use Rattle.sync_syntax.specs.Operators.{declares_by, writing_by, is_name_kind}
use Rattle.sync_syntax.specs.Statements.{named_rule, statement_end, expr, given, declared_rule, more_declared, declaration, write, value_rule, simple_rule, expr_unless, simple_unless, returned_rule, return_at, throw_rule, declare_rule, only_simple, plain_rule, jump_rule, block_from, else_rule, if_rule, repeat, each_rule, for_declared, for_simple, for_at, statement_by, statement_rule, statement, block_in, else_rule_in, repeat_in, for_in}
use Rattle.sync_syntax.specs.Grammar as g
use Rattle.sync_syntax.specs.Grammar.{Takes, IsNamed, Ends}
use Rattle.sync_syntax.proofs.Fronts.{takes_sees, takes_sees_word, unseen, begins, begins_no_declares}
use Rattle.sync_syntax.proofs.Steps.{got, after_taken, after_none, after_taken_word, after_none_word, expect_read, name_read}

-- ---- names and ends

pub named_read : {ts us : Tokens} {n : Named} → IsNamed ts n us → named_rule ts ≡ Ok (n, us)
unfolding named_rule
named_read (g.named k) = rw (name_read k) refl

pub named_is : {ts us : Tokens} {n : Named} → IsNamed ts n us → is_name_kind (kind ts) ≡ true
named_is (g.named k) = ap is_name_kind k.is

pub second_is : {ts us vs : Tokens} {n : Named} {k : Kind} → IsNamed ts n us → Takes k us vs → second ts ≡ k
unfolding second
second_is (g.named k) take = ap kind (sym k.rest) ∙ take.is

semicolon_no_brace : is_sign signs.BraceClose (kinds.Sign signs.Semicolon) ≡ false
unfolding same_sign
semicolon_no_brace = refl

pub ending_read : {ts us : Tokens} → Ends ts us → statement_end ts ≡ Ok (tt, us)
unfolding statement_end
ending_read (g.ended k) = rw (unseen signs.BraceClose _ k semicolon_no_brace) (expect_read signs.Semicolon k)
ending_read (g.left_out k) = rw (takes_sees signs.BraceClose k) refl

-- ---- what stands in statements

pub given_none : (room : ℕ) (ts : Tokens) → sees signs.Assign ts ≡ false → given room ts ≡ Ok (None, ts)
unfolding given
given_none room ts h = rw (h, after_none signs.Assign h) refl

pub given_some : (room : ℕ) {ts us vs : Tokens} {x : Expr} → Takes (kinds.Sign signs.Assign) ts us → expr room us ≡ Ok (x, vs) → given room ts ≡ Ok (Some x, vs)
unfolding given
given_some room k r = rw (takes_sees signs.Assign k, after_taken signs.Assign k, r) refl

pub declared_step : (room : ℕ) {ts us vs : Tokens} {n : Named} {x : Option Expr} → IsNamed ts n us → given room us ≡ Ok (x, vs) → declared_rule room ts ≡ Ok ((n, x), vs)
unfolding declared_rule
declared_step room n r = rw (named_read n, r) refl

pub declaration_one : (room : ℕ) (p : Place) (how : Declares) (n : Named) (ts us : Tokens) (x : Option Expr) → given room ts ≡ Ok (x, us) → sees signs.Comma us ≡ false
    → declaration room p how n ts ≡ Ok (record { place = p; declares = how; names = (n, x) ∷ [] }, us)
unfolding declaration
declaration_one room p how n ts us x r h = rw (r, h, after_none signs.Comma h) refl

pub declaration_more : (room : ℕ) (p : Place) (how : Declares) (n : Named) (ts : Tokens) {us vs ws : Tokens} (x : Option Expr) (xs : List (Named × Option Expr)) → given room ts ≡ Ok (x, us)
    → Takes (kinds.Sign signs.Comma) us vs → more_declared room vs ≡ Ok (xs, ws) → declaration room p how n ts ≡ Ok (record { place = p; declares = how; names = (n, x) ∷ xs }, ws)
unfolding declaration
declaration_more room p how n ts x xs r k t = rw (r, takes_sees signs.Comma k, after_taken signs.Comma k, t) refl

pub sets_step : (room : ℕ) {ts us vs ws : Tokens} {n : Named} {k : Kind} {how : Writes} {x : Expr} → IsNamed ts n us → Takes k us vs → writing_by k ≡ Some (writing.Sets how)
    → expr room vs ≡ Ok (x, ws) → simple_rule room ts ≡ Ok (simples.Write n how x, ws)
unfolding simple_rule write
sets_step room n take is r = rw (named_is n, second_is n take, is, named_read n, ← take.rest, r) refl

pub increments_step : (room : ℕ) {ts us vs : Tokens} {n : Named} {k : Kind} → IsNamed ts n us → Takes k us vs → writing_by k ≡ Some writing.Increments
    → simple_rule room ts ≡ Ok (simples.Increment n, vs)
unfolding simple_rule write
increments_step room n take is = rw (named_is n, second_is n take, is, named_read n) (got _ take.rest)

pub decrements_step : (room : ℕ) {ts us vs : Tokens} {n : Named} {k : Kind} → IsNamed ts n us → Takes k us vs → writing_by k ≡ Some writing.Decrements
    → simple_rule room ts ≡ Ok (simples.Decrement n, vs)
unfolding simple_rule write
decrements_step room n take is = rw (named_is n, second_is n take, is, named_read n) (got _ take.rest)

value_read : (room : ℕ) (ts us : Tokens) (x : Expr) → expr room ts ≡ Ok (x, us) → value_rule room ts ≡ Ok (simples.Value (place ts) x, us)
unfolding value_rule
value_read room ts us x r = rw r refl

by_name : (room : ℕ) (ts us : Tokens) (x : Expr) (b : Bool) → is_name_kind (kind ts) ≡ b → (is_name_kind (kind ts) ≡ true → writing_by (second ts) ≡ None) → value_rule room ts ≡ Ok (simples.Value (place ts) x, us)
    → simple_rule room ts ≡ Ok (simples.Value (place ts) x, us)
unfolding simple_rule
by_name room ts us x true is none r = rw (is, none is) r
by_name room ts us x false is none r = rw is r

pub value_step : (room : ℕ) (ts us : Tokens) (x : Expr) → (is_name_kind (kind ts) ≡ true → writing_by (second ts) ≡ None) → expr room ts ≡ Ok (x, us)
    → simple_rule room ts ≡ Ok (simples.Value (place ts) x, us)
value_step room ts us x none r = by_name room ts us x (is_name_kind (kind ts)) refl none (value_read room ts us x r)

pub expr_unless_none : (room : ℕ) (close : Sign) {ts us : Tokens} → Takes (kinds.Sign close) ts us → expr_unless room close ts ≡ Ok (None, ts)
unfolding expr_unless
expr_unless_none room close k = rw (takes_sees close k) refl

pub expr_unless_some : (room : ℕ) (close : Sign) (ts us : Tokens) (x : Expr) → sees close ts ≡ false → expr room ts ≡ Ok (x, us) → expr_unless room close ts ≡ Ok (Some x, us)
unfolding expr_unless
expr_unless_some room close ts us x h r = rw (h, r) refl

pub simple_unless_none : (room : ℕ) (close : Sign) {ts us : Tokens} → Takes (kinds.Sign close) ts us → simple_unless room close ts ≡ Ok (None, ts)
unfolding simple_unless
simple_unless_none room close k = rw (takes_sees close k) refl

pub simple_unless_some : (room : ℕ) (close : Sign) (ts us : Tokens) (x : Simple) → sees close ts ≡ false → simple_rule room ts ≡ Ok (x, us) → simple_unless room close ts ≡ Ok (Some x, us)
unfolding simple_unless
simple_unless_some room close ts us x h r = rw (h, r) refl

pub returned_none : (room : ℕ) {ts us : Tokens} → Ends ts us → returned_rule room ts ≡ Ok (None, ts)
unfolding returned_rule
returned_none room (g.ended k) = rw (unseen signs.BraceClose _ k semicolon_no_brace) (expr_unless_none room signs.Semicolon k)
returned_none room (g.left_out k) = rw (takes_sees signs.BraceClose k) refl

pub returned_some : (room : ℕ) (ts us : Tokens) (x : Expr) → sees signs.BraceClose ts ≡ false → sees signs.Semicolon ts ≡ false → expr room ts ≡ Ok (x, us) → returned_rule room ts ≡ Ok (Some x, us)
unfolding returned_rule
returned_some room ts us x h k r = rw h (expr_unless_some room signs.Semicolon ts us x k r)

-- ---- statements

pub block_step : (room : ℕ) (l : Bool) {ts us vs : Tokens} {xs : List Statement} → Takes (kinds.Sign signs.BraceOpen) ts us → block_in room l us ≡ Ok (xs, vs)
    → statement (suc room) l ts ≡ Ok (s.Block (place ts) xs, vs)
unfolding statement statement_rule
block_step room l k r = rw (k.is, ← k.rest, r) refl

pub empty_step : (room : ℕ) (l : Bool) {ts us : Tokens} → Takes (kinds.Sign signs.Semicolon) ts us → statement (suc room) l ts ≡ Ok (s.Empty (place ts), us)
unfolding statement statement_rule
empty_step room l k = rw k.is (got _ k.rest)

pub return_step : (room : ℕ) (l : Bool) {ts us vs ws : Tokens} {x : Option Expr} → Takes (kinds.Word words.Return) ts us → returned_rule room us ≡ Ok (x, vs) → Ends vs ws
    → statement (suc room) l ts ≡ Ok (s.Return (place ts) x, ws)
unfolding statement statement_rule return_at
return_step room l k r d = rw (k.is, ← k.rest, r, ending_read d) refl

pub throw_step : (room : ℕ) (l : Bool) {ts us vs ws : Tokens} {x : Expr} → Takes (kinds.Word words.Throw) ts us → expr room us ≡ Ok (x, vs) → Ends vs ws
    → statement (suc room) l ts ≡ Ok (s.Throw (place ts) x, ws)
unfolding statement statement_rule throw_rule
throw_step room l k r d = rw (k.is, ← k.rest, r, ending_read d) refl

pub break_step : (room : ℕ) {ts us vs : Tokens} → Takes (kinds.Word words.Break) ts us → Ends us vs → statement (suc room) true ts ≡ Ok (s.Break (place ts), vs)
unfolding statement statement_rule jump_rule
break_step room k d = rw (k.is, ← k.rest, ending_read d) refl

pub continue_step : (room : ℕ) {ts us vs : Tokens} → Takes (kinds.Word words.Continue) ts us → Ends us vs → statement (suc room) true ts ≡ Ok (s.Continue (place ts), vs)
unfolding statement statement_rule jump_rule
continue_step room k d = rw (k.is, ← k.rest, ending_read d) refl

plain_at : (room : ℕ) (inner : Bool → Rule Statement) (p : Place) (l : Bool) (k : Kind) → begins k ≡ true → is_sign signs.BraceOpen k ≡ false → statement_by room inner p l k ≡ plain_rule room p
unfolding same_sign
plain_at room inner p l (kinds.Sign signs.BraceOpen) b none = absurd cc
plain_at room inner p l (kinds.Sign signs.Semicolon) b none = absurd cc
plain_at room inner p l (kinds.Word words.If) b none = absurd cc
plain_at room inner p l (kinds.Word words.For) b none = absurd cc
plain_at room inner p l (kinds.Word words.Return) b none = absurd cc
plain_at room inner p l (kinds.Word words.Throw) b none = absurd cc
plain_at room inner p l (kinds.Word words.Break) b none = absurd cc
plain_at room inner p l (kinds.Word words.Continue) b none = absurd cc
plain_at room inner p l _ b none = refl

declare_at : (room : ℕ) (inner : Bool → Rule Statement) (p : Place) (l : Bool) (k : Kind) (how : Declares) → declares_by k ≡ Some how → statement_by room inner p l k ≡ plain_rule room p
unfolding declares_by
declare_at room inner p l (kinds.Word words.Var) how is = refl
declare_at room inner p l (kinds.Word words.Let) how is = refl
declare_at room inner p l (kinds.Word words.Const) how is = refl
declare_at room inner p l _ how is = absurd cc

opened_plain : (room : ℕ) (l : Bool) (ts : Tokens) → statement_by room (statement room) (place ts) l (kind ts) ≡ plain_rule room (place ts) → statement (suc room) l ts ≡ plain_rule room (place ts) ts
unfolding statement statement_rule
opened_plain room l ts is = ap (λ r. r ts) is

pub declare_step : (room : ℕ) (l : Bool) {ts us vs ws xs : Tokens} {k : Kind} {how : Declares} {n : Named} {d : Declaration} → Takes k ts us → declares_by k ≡ Some how
    → named_rule us ≡ Ok (n, vs) → declaration room (place ts) how n vs ≡ Ok (d, ws) → Ends ws xs → statement (suc room) l ts ≡ Ok (s.Declare d, xs)
unfolding plain_rule declare_rule
declare_step room l {ts} {us} {k = k} {how = how} take is n r e =
    opened_plain room l ts (ap (λ z. statement_by room (statement room) (place ts) l z) take.is ∙ declare_at room (statement room) (place ts) l k how is)
    ∙ rw (take.is, is, ← take.rest, n, r, ending_read e) refl

pub simple_step : (room : ℕ) (l : Bool) (ts us : Tokens) {vs : Tokens} {x : Simple} → begins (kind ts) ≡ true → sees signs.BraceOpen ts ≡ false → simple_rule room ts ≡ Ok (x, us) → Ends us vs
    → statement (suc room) l ts ≡ Ok (s.Simple x, vs)
unfolding plain_rule only_simple sees
simple_step room l ts us b none r e =
    opened_plain room l ts (plain_at room (statement room) (place ts) l (kind ts) b none) ∙ rw (begins_no_declares (kind ts) b, r, ending_read e) refl

pub otherwise_none : (room : ℕ) (l : Bool) (ts : Tokens) → sees_word words.Else ts ≡ false → else_rule_in room l ts ≡ Ok (None, ts)
unfolding else_rule
otherwise_none room l ts h = rw (h, after_none_word words.Else h) refl

pub otherwise_some : (room : ℕ) (l : Bool) {ts us vs : Tokens} {x : Statement} → Takes (kinds.Word words.Else) ts us → statement room l us ≡ Ok (x, vs) → else_rule_in room l ts ≡ Ok (Some x, vs)
unfolding else_rule
otherwise_some room l k r = rw (takes_sees_word words.Else k, after_taken_word words.Else k, r) refl

pub choose_step : (room : ℕ) (l : Bool) {ts us vs ws xs ys zs : Tokens} {x : Expr} {first : Statement} {others : Option Statement} → Takes (kinds.Word words.If) ts us
    → Takes (kinds.Sign signs.ParenOpen) us vs → expr room vs ≡ Ok (x, ws) → Takes (kinds.Sign signs.ParenClose) ws xs → statement room l xs ≡ Ok (first, ys)
    → else_rule_in room l ys ≡ Ok (others, zs) → statement (suc room) l ts ≡ Ok (s.If (place ts) x first others, zs)
unfolding statement statement_rule if_rule
choose_step room l w k r m t o = rw (w.is, ← w.rest, expect_read signs.ParenOpen k, r, expect_read signs.ParenClose m, t, o) refl

-- what begins a `for`
pub for_begins : (room : ℕ) (l : Bool) {ts us : Tokens} {out : Outcome Statement} → Takes (kinds.Word words.For) ts us → for_in room (place ts) ts ≡ out
    → statement (suc room) l ts ≡ out
unfolding statement statement_rule
for_begins room l w r = rw w.is r

pub each_step : (room : ℕ) (p : Place) {ts us vs ws xs ys zs cs bs : Tokens} {k : Kind} {how : Declares} {n : Named} {x : Expr} {body : Statement} → Takes (kinds.Word words.For) ts us
    → Takes (kinds.Sign signs.ParenOpen) us vs → Takes k vs ws → declares_by k ≡ Some how → IsNamed ws n xs → Takes (kinds.Word words.Of) xs ys → expr room ys ≡ Ok (x, zs)
    → Takes (kinds.Sign signs.ParenClose) zs cs → statement room true cs ≡ Ok (body, bs) → for_in room p ts ≡ Ok (s.ForOf p how n x body, bs)
unfolding for_at for_declared each_rule
each_step room p w o take is n f r c t =
    rw (← w.rest, expect_read signs.ParenOpen o, take.is, is, ← take.rest, named_read n, takes_sees_word words.Of f, after_taken_word words.Of f, r, expect_read signs.ParenClose c, t) refl

pub repeat_step : (room : ℕ) (p : Place) (begin : Option Start) {ts us vs ws xs ys zs : Tokens} {x : Option Expr} {step : Option Simple} {body : Statement}
    → Takes (kinds.Sign signs.Semicolon) ts us → expr_unless room signs.Semicolon us ≡ Ok (x, vs) → Takes (kinds.Sign signs.Semicolon) vs ws
    → simple_unless room signs.ParenClose ws ≡ Ok (step, xs) → Takes (kinds.Sign signs.ParenClose) xs ys → statement room true ys ≡ Ok (body, zs)
    → repeat_in room p begin ts ≡ Ok (s.For p begin x step body, zs)
unfolding repeat
repeat_step room p begin k r l t m b = rw (expect_read signs.Semicolon k, r, expect_read signs.Semicolon l, t, expect_read signs.ParenClose m, b) refl

pub for_none : (room : ℕ) (p : Place) {ts us vs ws : Tokens} {out : Outcome Statement} → Takes (kinds.Word words.For) ts us → Takes (kinds.Sign signs.ParenOpen) us vs
    → Takes (kinds.Sign signs.Semicolon) vs ws → repeat_in room p None vs ≡ out → for_in room p ts ≡ out
unfolding for_at for_simple declares_by
for_none room p w o k r = rw (← w.rest, expect_read signs.ParenOpen o, k.is, takes_sees signs.Semicolon k) r

pub for_simply : (room : ℕ) (p : Place) {ts us vs : Tokens} (ws : Tokens) {x : Simple} {out : Outcome Statement} → Takes (kinds.Word words.For) ts us → Takes (kinds.Sign signs.ParenOpen) us vs
    → begins (kind vs) ≡ true → sees signs.Semicolon vs ≡ false → simple_rule room vs ≡ Ok (x, ws) → repeat_in room p (Some (starts.Simple x)) ws ≡ out → for_in room p ts ≡ out
unfolding for_at for_simple
for_simply room p {vs = vs} ws w o b h t r = rw (← w.rest, expect_read signs.ParenOpen o, begins_no_declares (kind vs) b, h, t) r

pub for_declares : (room : ℕ) (p : Place) {ts us vs ws : Tokens} (xs ys : Tokens) {k : Kind} {how : Declares} {n : Named} {d : Declaration} {out : Outcome Statement} → Takes (kinds.Word words.For) ts us
    → Takes (kinds.Sign signs.ParenOpen) us vs → Takes k vs ws → declares_by k ≡ Some how → named_rule ws ≡ Ok (n, xs) → sees_word words.Of xs ≡ false
    → declaration room (place vs) how n xs ≡ Ok (d, ys) → repeat_in room p (Some (starts.Declare d)) ys ≡ out → for_in room p ts ≡ out
unfolding for_at for_declared
for_declares room p xs ys w o take is n h t r =
    rw (← w.rest, expect_read signs.ParenOpen o, take.is, is, ← take.rest, n, h, after_none_word words.Of h, t) r

pub statements_stop : (room : ℕ) (l : Bool) (count : ℕ) (found : List Statement) {ts us : Tokens} → Takes (kinds.Sign signs.BraceClose) ts us
    → block_from room (statement room) l (suc count) found ts ≡ Ok (found, us)
unfolding block_from
statements_stop room l count found k = rw (takes_sees signs.BraceClose k, after_taken signs.BraceClose k) refl

pub statements_more : (room : ℕ) (l : Bool) (count : ℕ) (found : List Statement) (ts us : Tokens) {x : Statement} {out : Outcome (List Statement)} → sees signs.BraceClose ts ≡ false
    → statement room l ts ≡ Ok (x, us) → block_from room (statement room) l count (found ++ x ∷ []) us ≡ out → block_from room (statement room) l (suc count) found ts ≡ out
unfolding block_from
statements_more room l count found ts us h r t = rw (h, after_none signs.BraceClose h, r) t
