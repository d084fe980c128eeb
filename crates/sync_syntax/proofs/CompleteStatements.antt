-- What is a statement or a program by the grammar is read as it, where no more is open than may be.
use Rattle.std.proofs.Common.{◌≡◌, ℕ, zero, suc, ◌+◌, ◌≤◌, nat_lt, Bool, true, false, List, [], ◌∷◌, ◌++◌, length, Option, Result, Ok, refl, sym, subst, ap, ◌∙◌, append_assoc, append-nil, le-ltb, arith}
use Rattle.sync_tokens.specs.Scan.{tokens_of}
use Rattle.sync_tokens.specs.Spellable.{AreTokens, TextsHaveTokens}
use Rattle.sync_tokens.specs.declared.place.Place.{Place}
use Rattle.sync_tokens.specs.declared.token.Kind.{Kind}
use Rattle.sync_tokens.specs.declared.token.Kind.TheVariants as kinds
use Rattle.sync_tokens.specs.declared.token.Sign.{Sign}
use Rattle.sync_tokens.specs.declared.token.Sign.TheVariants as signs
use Rattle.sync_tokens.specs.declared.token.Word.TheVariants as words
use Rattle.sync_syntax.specs.declared.fault.ParseFault.{ParseFault}
use Rattle.sync_syntax.specs.declared.tree.Expr.{Expr}
use Rattle.sync_syntax.specs.declared.tree.Named.{Named}
use Rattle.sync_syntax.specs.declared.tree.Declares.{Declares}
use Rattle.sync_syntax.specs.declared.tree.Program.{Program}
use Rattle.sync_syntax.specs.declared.tree.Simple.{Simple}
use Rattle.sync_syntax.specs.declared.tree.Start.{Start}
use Rattle.sync_syntax.specs.declared.tree.Statement.{Statement}
use Rattle.sync_syntax.specs.Depth.{given_depth, declared_depth, simple_depth, expr_or_none_depth, last_depth, start_depth, statement_depth, otherwise_depth, statements_depth, depth}
use Rattle.sync_syntax.specs.Grammar as g
use Rattle.sync_syntax.specs.Grammar.{Takes, Ends, IsGiven, AreDeclared, IsSimple, IsExprOrNone, IsLast, IsStart, IsStatement, IsOtherwise, AreStatements, IsOwnName, IsSecond, IsHead, IsTail, IsProgram}
use Rattle.sync_syntax.specs.Laws.{max_depth, ProgramsAreRead, GrammarIsUnambiguous}
use Rattle.sync_syntax.specs.Reading.{Tokens, Outcome, Rule, kind, next, place, same_sign, is_sign, sees, sees_word, is_word, turns, separated_from}
use Rattle.sync_syntax.specs.Statements.{named_rule, given, declared_rule, declaration, simple_rule, expr_unless, simple_unless, block_from, block_rule, statement, block_in, else_rule_in, repeat_in, for_in, max_len, body_room, end, own_name, second_parameter, head, function_body, program, whole_program, parsed, GivesParsed}
use Rattle.sync_syntax.proofs.Fronts.{takes_sees, closing, closing_unseen, closing_writes_none, expr_begins, expr_second, simple_begins, begins_unseen, statement_unseen, unseen, unseen_word}
use Rattle.sync_syntax.proofs.Past.{sign_past, word_past, declares_past, writing_past, expr_past, named_past, given_on, expr_or_none_past, last_past, start_past, statement_past, head_past}
use Rattle.sync_syntax.proofs.Steps.{some_tokens, after_taken, after_none, expect_read, expect_word_read, name_read, separated_last, separated_more}
use Rattle.sync_syntax.proofs.CompleteExpressions.{expr_read, all_separated}
use Rattle.sync_syntax.proofs.StatementSteps as s

-- a sign that closes, and is no comma
closes : (t : Sign) {ts us : Tokens} → Takes (kinds.Sign t) ts us → closing (kinds.Sign t) ≡ true → closing (kind ts) ≡ true
closes t k is = ap closing k.is ∙ is

semicolon_no_comma : is_sign signs.Comma (kinds.Sign signs.Semicolon) ≡ false
unfolding same_sign
semicolon_no_comma = refl

brace_no_comma : is_sign signs.Comma (kinds.Sign signs.BraceClose) ≡ false
unfolding same_sign
brace_no_comma = refl

ends_closing : {ts us : Tokens} → Ends ts us → closing (kind ts) ≡ true
ends_closing (g.ended k) = closes signs.Semicolon k refl
ends_closing (g.left_out k) = closes signs.BraceClose k refl

ends_no_comma : {ts us : Tokens} → Ends ts us → sees signs.Comma ts ≡ false
ends_no_comma (g.ended k) = unseen signs.Comma _ k semicolon_no_comma
ends_no_comma (g.left_out k) = unseen signs.Comma _ k brace_no_comma

-- ---- declarations

given_read : {ts us : Tokens} {x : Option Expr} (d : IsGiven ts x us) (room : ℕ) → given_depth d ≤ room → AreTokens ts → closing (kind us) ≡ true → given room ts ≡ Ok (x, us)
given_read (g.not_given {ts = ts}) room h a e = s.given_none room ts (closing_unseen signs.Assign ts refl e)
given_read (g.given k x) room h a e = s.given_some room k (expr_read x room h (sign_past k a).are e)

declared_read : {ts us : Tokens} {xs : List (Named × Option Expr)} (d : AreDeclared ts xs us) (room : ℕ) → declared_depth d ≤ room → AreTokens ts → closing (kind us) ≡ true → sees signs.Comma us ≡ false
    → (count : ℕ) → length ts ≤ count → (found : List (Named × Option Expr)) → separated_from (declared_rule room) count found ts ≡ Ok (found ++ xs, us)
declared_read (g.one_declared {ts = ts} n x) room h a e no_comma zero l found = some_tokens ts a l
declared_read (g.one_declared n x) room h a e no_comma (suc count) l found =
    separated_last (declared_rule room) count found (s.declared_step room n (given_read x room h (named_past n a).are e)) no_comma
declared_read (g.more_declared {ts = ts} n x k t) room h a e no_comma zero l found = some_tokens ts a l
declared_read (g.more_declared {xs = vs} {n = m} {x = y} {others = ys} n x k t) room h a e no_comma (suc count) l found =
    let p = named_past n a in
    let q = given_on x p.are in
    let r = sign_past k q.are in
    separated_more (declared_rule room) count found (s.declared_step room n (given_read x room (omega arith) p.are (closes signs.Comma k refl))) k
    (declared_read t room (omega arith) r.are e no_comma count (omega (arith, p.shorter, q.no_longer, r.shorter)) (found ++ (m, y) ∷ [])
    ∙ ap (λ z. Ok (z, vs)) (append_assoc found ((m, y) ∷ []) ys))

no_of : (k : Kind) {ts us : Tokens} → Takes k ts us → is_word words.Of k ≡ false → sees_word words.Of ts ≡ false
no_of k take other = unseen_word words.Of k take other

closing_no_of : (k : Kind) → closing k ≡ true → is_word words.Of k ≡ false
closing_no_of (kinds.Sign t) h = refl
closing_no_of _ h = absurd cc

closed_no_of : (ts : Tokens) → closing (kind ts) ≡ true → sees_word words.Of ts ≡ false
unfolding sees_word
closed_no_of ts e = closing_no_of (kind ts) e

given_no_of : {ts us : Tokens} {x : Option Expr} → IsGiven ts x us → closing (kind us) ≡ true → sees_word words.Of ts ≡ false
given_no_of (g.not_given {ts = ts}) e = closed_no_of ts e
given_no_of (g.given k x) e = no_of _ k refl

-- how a declaration behind its first word is read
record Declared (room : ℕ) (p : Place) (how : Declares) (names : List (Named × Option Expr)) (ts us : Tokens) : Type 0 where
  first : Named
  middle : Tokens
  names_first : named_rule ts ≡ Ok (first, middle)
  reads : declaration room p how first middle ≡ Ok (record { place = p; declares = how; names = names }, us)
  no_each : sees_word words.Of middle ≡ false

all_declared : {ts us : Tokens} {xs : List (Named × Option Expr)} (d : AreDeclared ts xs us) (room : ℕ) (p : Place) (how : Declares) → declared_depth d ≤ room → AreTokens ts → closing (kind us) ≡ true
    → sees signs.Comma us ≡ false → Declared room p how xs ts us
all_declared (g.one_declared {us = us} {vs = vs} {n = m} {x = y} n x) room p how h a e no_comma = record {
  first = m;
  middle = us;
  names_first = s.named_read n;
  reads = s.declaration_one room p how m us vs y (given_read x room h (named_past n a).are e) no_comma;
  no_each = given_no_of x e;
}
all_declared (g.more_declared {us = us} {vs = vs} {ws = ws} {xs = xs} {n = m} {x = y} {others = ys} n x k t) room p how h a e no_comma =
    let q = named_past n a in
    let r = given_on x q.are in
    let w = sign_past k r.are in
    record {
      first = m;
      middle = us;
      names_first = s.named_read n;
      reads =
          s.declaration_more room p how m us y ys (given_read x room (omega arith) q.are (closes signs.Comma k refl)) k
          (all_separated (declared_rule room) ws xs ys (declared_read t room (omega arith) w.are e no_comma (length ws) (omega arith) []));
      no_each = given_no_of x (closes signs.Comma k refl);
    }

-- ---- simple statements and what may be absent

simple_read : {ts us : Tokens} {x : Simple} (d : IsSimple ts x us) (room : ℕ) → simple_depth d ≤ room → AreTokens ts → closing (kind us) ≡ true → simple_rule room ts ≡ Ok (x, us)
simple_read (g.write {k = k} n take is x) room h a e =
    let p = named_past n a in
    let q = writing_past k _ take is p.are in
    s.sets_step room n take is (expr_read x room h q.are e)
simple_read (g.increment n take is) room h a e = s.increments_step room n take is
simple_read (g.decrement n take is) room h a e = s.decrements_step room n take is
simple_read (g.value {ts = ts} {us = us} {x = y} x) room h a e =
    s.value_step room ts us y (λ n. expr_second x n (closing_writes_none (kind us) e)) (expr_read x room h a e)

-- what may be absent before a sign, and the sign
record Before {A : Type 0} (rule : Rule A) (close : Sign) (x : A) (ts us : Tokens) : Type 0 where
  middle : Tokens
  reads : rule ts ≡ Ok (x, middle)
  takes : Takes (kinds.Sign close) middle us

or_none_read : {ts us : Tokens} {x : Option Expr} (d : IsExprOrNone signs.Semicolon ts x us) (room : ℕ) → expr_or_none_depth d ≤ room → AreTokens ts
    → Before (expr_unless room signs.Semicolon) signs.Semicolon x ts us
or_none_read (g.no_expr {ts = ts} k) room h a = record { middle = ts; reads = s.expr_unless_none room signs.Semicolon k; takes = k }
or_none_read (g.an_expr {ts = ts} {us = us} {x = y} x k) room h a = record {
  middle = us;
  reads = s.expr_unless_some room signs.Semicolon ts us y (begins_unseen signs.Semicolon ts refl (expr_begins x)) (expr_read x room h a (closes signs.Semicolon k refl));
  takes = k;
}

last_read : {ts us : Tokens} {x : Option Simple} (d : IsLast ts x us) (room : ℕ) → last_depth d ≤ room → AreTokens ts → Before (simple_unless room signs.ParenClose) signs.ParenClose x ts us
last_read (g.no_last {ts = ts} k) room h a = record { middle = ts; reads = s.simple_unless_none room signs.ParenClose k; takes = k }
last_read (g.last {ts = ts} {us = us} {x = y} x k) room h a = record {
  middle = us;
  reads = s.simple_unless_some room signs.ParenClose ts us y (begins_unseen signs.ParenClose ts refl (simple_begins x)) (simple_read x room h a (closes signs.ParenClose k refl));
  takes = k;
}

-- how a `for` begins, where its rest is read
start_read : {ts us vs ws : Tokens} {x : Option Start} {out : Outcome Statement} (d : IsStart vs x ws) (room : ℕ) (p : Place) → start_depth d ≤ room → AreTokens vs → Takes (kinds.Word words.For) ts us
    → Takes (kinds.Sign signs.ParenOpen) us vs → ((middle : Tokens) → Takes (kinds.Sign signs.Semicolon) middle ws → repeat_in room p x middle ≡ out) → for_in room p ts ≡ out
start_read (g.no_start {ts = vs} k) room p h a w o r = s.for_none room p w o k (r vs k)
start_read {vs = vs} (g.declares {us = ms} (g.declaration {us = us} {k = q} {how = how} take is t) k) room p h a w o r =
    let d : Declared room (place vs) how _ us ms = all_declared t room (place vs) how h (declares_past q how take is a).are (closes signs.Semicolon k refl) (unseen signs.Comma _ k semicolon_no_comma) in
    s.for_declares room p d.middle ms w o take is d.names_first d.no_each d.reads (r ms k)
start_read {vs = vs} (g.starts_simple {us = ms} x k) room p h a w o r =
    s.for_simply room p ms w o (simple_begins x) (begins_unseen signs.Semicolon vs refl (simple_begins x)) (simple_read x room h a (closes signs.Semicolon k refl)) (r ms k)

-- ---- statements

some_depth : {l : Bool} {ts us : Tokens} {x : Statement} (d : IsStatement l ts x us) → statement_depth d ≤ 0 → ⊥
some_depth (g.block k t) h = omega arith
some_depth (g.empty k) h = omega arith
some_depth (g.declare d e) h = omega arith
some_depth (g.choose w k x m t o) h = omega arith
some_depth (g.repeat w k b x t y) h = omega arith
some_depth (g.each w o k is n f x c t) h = omega arith
some_depth (g.return_none k e) h = omega arith
some_depth (g.return_some k x e) h = omega arith
some_depth (g.throw k x e) h = omega arith
some_depth (g.break k e) h = omega arith
some_depth (g.continue k e) h = omega arith
some_depth (g.simple b x e) h = omega arith

all_statements : (room : ℕ) (l : Bool) (ts us : Tokens) (xs : List Statement) → block_from room (statement room) l (length ts) [] ts ≡ Ok (xs, us) → block_in room l ts ≡ Ok (xs, us)
unfolding block_rule turns
all_statements room l ts us xs h = h

mutual
  statement_read : {l : Bool} {ts us : Tokens} {x : Statement} (d : IsStatement l ts x us) (room : ℕ) → statement_depth d ≤ room → AreTokens ts → statement room l ts ≡ Ok (x, us)
  statement_read d zero h a = absurd (some_depth d h)
  statement_read (g.block {l = l} {us = us} {vs = vs} {found = xs} k t) (suc room) h a =
      let p = sign_past k a in
      s.block_step room l k (all_statements room l us vs xs (statements_read t room (omega arith) p.are (length us) (omega arith) []))
  statement_read (g.empty {l = l} k) (suc room) h a = s.empty_step room l k
  statement_read (g.declare {l = l} {ts = ts} {us = us} (g.declaration {us = vs} {k = k} {how = how} take is t) e) (suc room) h a =
      let d : Declared room (place ts) how _ vs us = all_declared t room (place ts) how (omega arith) (declares_past k how take is a).are (ends_closing e) (ends_no_comma e) in
      s.declare_step room l take is d.names_first d.reads e
  statement_read (g.choose {l = l} w k x m t o) (suc room) h a =
      let p = word_past w a in
      let q = sign_past k p.are in
      let r = expr_past x q.are in
      let u = sign_past m r.are in
      let v = statement_past t u.are in
      s.choose_step room l w k (expr_read x room (omega arith) q.are (closes signs.ParenClose m refl)) m (statement_read t room (omega arith) u.are) (otherwise_read o room (omega arith) v.are)
  statement_read (g.repeat {l = l} {ts = ts} {ws = ws} {xs = xs} {ys = ys} {begins = b} {x = cond_x} {step = last_x} w k st x t function_body) (suc room) h a =
      let p = word_past w a in
      let q = sign_past k p.are in
      let r = start_past st q.are in
      let u = expr_or_none_past x r.are in
      let v = last_past t u.are in
      let c : Before (expr_unless room signs.Semicolon) signs.Semicolon cond_x ws xs = or_none_read x room (omega arith) r.are in
      let d : Before (simple_unless room signs.ParenClose) signs.ParenClose last_x xs ys = last_read t room (omega arith) u.are in
      s.for_begins room l w
      (start_read st room (place ts) (omega arith) q.are w k
      (λ middle m. s.repeat_step room (place ts) b {vs = c.middle} {xs = d.middle} m c.reads c.takes d.reads d.takes (statement_read function_body room (omega arith) v.are)))
  statement_read (g.each {l = l} {ts = ts} {k = q} {how = how} w o take is n f x c function_body) (suc room) h a =
      let p = word_past w a in
      let r = sign_past o p.are in
      let t = declares_past q how take is r.are in
      let u = named_past n t.are in
      let v = word_past f u.are in
      let y = expr_past x v.are in
      let z = sign_past c y.are in
      s.for_begins room l w
      (s.each_step room (place ts) w o take is n f (expr_read x room (omega arith) v.are (closes signs.ParenClose c refl)) c (statement_read function_body room (omega arith) z.are))
  statement_read (g.return_none {l = l} w e) (suc room) h a = s.return_step room l w (s.returned_none room e) e
  statement_read (g.return_some {l = l} {us = us} {vs = vs} {x = y} w x e) (suc room) h a =
      s.return_step room l w
      (s.returned_some room us vs y (begins_unseen signs.BraceClose us refl (expr_begins x)) (begins_unseen signs.Semicolon us refl (expr_begins x)) (expr_read x room (omega arith) (word_past w a).are (ends_closing e))) e
  statement_read (g.throw {l = l} w x e) (suc room) h a = s.throw_step room l w (expr_read x room (omega arith) (word_past w a).are (ends_closing e)) e
  statement_read (g.break w e) (suc room) h a = s.break_step room w e
  statement_read (g.continue w e) (suc room) h a = s.continue_step room w e
  statement_read (g.simple {l = l} {ts = ts} {us = us} b x e) (suc room) h a =
      s.simple_step room l ts us (simple_begins x) b (simple_read x room (omega arith) a (ends_closing e)) e

  otherwise_read : {l : Bool} {ts us : Tokens} {x : Option Statement} (d : IsOtherwise l ts x us) (room : ℕ) → otherwise_depth d ≤ room → AreTokens ts → else_rule_in room l ts ≡ Ok (x, us)
  otherwise_read (g.no_else {l = l} {ts = ts} none) room h a = s.otherwise_none room l ts none
  otherwise_read (g.other {l = l} w t) room h a = s.otherwise_some room l w (statement_read t room h (word_past w a).are)

  statements_read : {l : Bool} {ts us : Tokens} {xs : List Statement} (d : AreStatements l ts xs us) (room : ℕ) → statements_depth d ≤ room → AreTokens ts
      → (count : ℕ) → length ts ≤ count → (found : List Statement) → block_from room (statement room) l count found ts ≡ Ok (found ++ xs, us)
  statements_read (g.no_statement {ts = ts} k) room h a zero n found = some_tokens ts a n
  statements_read (g.no_statement {l = l} {us = us} k) room h a (suc count) n found = s.statements_stop room l count found k ∙ ap (λ z. Ok (z, us)) (sym (append-nil found))
  statements_read (g.one_statement {ts = ts} x t) room h a zero n found = some_tokens ts a n
  statements_read (g.one_statement {l = l} {ts = ts} {us = us} {vs = vs} {x = y} {others = ys} x t) room h a (suc count) n found =
      let p = statement_past x a in
      s.statements_more room l count found ts us (statement_unseen x) (statement_read x room (omega arith) a)
      (statements_read t room (omega arith) p.are count (omega (arith, p.shorter)) (found ++ y ∷ []) ∙ ap (λ z. Ok (z, vs)) (append_assoc found (y ∷ []) ys))

pub block_read : {l : Bool} {ts us : Tokens} {xs : List Statement} (d : AreStatements l ts xs us) (room : ℕ) → statements_depth d ≤ room → AreTokens ts → block_in room l ts ≡ Ok (xs, us)
block_read {l} {ts} {us} {xs} d room h a = all_statements room l ts us xs (statements_read d room h a (length ts) (omega arith) [])

-- ---- programs

own_name_read : {ts us vs : Tokens} {n : Option (List ℕ)} → IsOwnName ts n us → Takes (kinds.Sign signs.ParenOpen) us vs → own_name ts ≡ Ok (n, us)
unfolding own_name
own_name_read g.no_own_name k = rw k.is refl
own_name_read (g.own_name n) k = rw (n.is, name_read n) refl

paren_no_comma : is_sign signs.Comma (kinds.Sign signs.ParenClose) ≡ false
unfolding same_sign
paren_no_comma = refl

second_read : {ts us vs : Tokens} {n : Option Named} → IsSecond ts n us → Takes (kinds.Sign signs.ParenClose) us vs → second_parameter ts ≡ Ok (n, us)
unfolding second_parameter
second_read g.no_second k = let none = unseen signs.Comma _ k paren_no_comma in rw (none, after_none signs.Comma none) refl
second_read (g.second c n) k = rw (takes_sees signs.Comma c, after_taken signs.Comma c, s.named_read n) refl

pub head_read : {ts us : Tokens} {own : Option (List ℕ)} {n : Named} {m : Option Named} → IsHead ts own n m us → head ts ≡ Ok ((own, n, m), us)
unfolding head
head_read (g.head w o k n m l) = rw (expect_word_read words.Function w, own_name_read o k, expect_read signs.ParenOpen k, s.named_read n, second_read m l, expect_read signs.ParenClose l) refl

pub end_read : (ts : Tokens) → kind ts ≡ kinds.End → end ts ≡ Ok (tt, ts)
unfolding end
end_read ts is = rw is refl

pub end_no_semicolon : (ts : Tokens) → kind ts ≡ kinds.End → sees signs.Semicolon ts ≡ false
unfolding sees
end_no_semicolon ts is = ap (is_sign signs.Semicolon) is

body_read : {us vs ws xs : Tokens} {found : List Statement} → Takes (kinds.Sign signs.BraceOpen) us vs → block_in body_room false vs ≡ Ok (found, ws) → IsTail ws xs → kind xs ≡ kinds.End
    → function_body us ≡ Ok (found, xs)
unfolding function_body
body_read k r (g.no_semicolon {ts = ws}) is =
    let none = end_no_semicolon ws is in rw (expect_read signs.BraceOpen k, r, after_none signs.Semicolon none, end_read ws is) refl
body_read k r (g.semicolon {us = xs} c) is = rw (expect_read signs.BraceOpen k, r, after_taken signs.Semicolon c, end_read xs is) refl

pub program_read : {ts : Tokens} {p : Program} (d : IsProgram ts p) → depth d ≤ max_depth → AreTokens ts → whole_program (program ts) ≡ Ok p
unfolding program
program_read (g.program {us = us} {vs = vs} {ws = ws} h k t b is) low a =
    let p = head_past h a in
    let q = sign_past k p.are in
    rw (head_read h, body_read k (block_read t body_room (omega arith) q.are) b is) refl

pub programs_are_read : TextsHaveTokens → ProgramsAreRead
unfolding parsed
programs_are_read tokens text u short p d low =
    let fits : nat_lt max_len (length text) ≡ false = le-ltb max_len (length text) short in
    rw fits (program_read d low (tokens text u))

-- ---- one program at most

record Parts (ts : Tokens) (p : Program) : Type 0 where
  behind : Tokens
  inside : Tokens
  rest : Tokens
  heads : head ts ≡ Ok ((p.name, p.first, p.second), behind)
  places : p.place ≡ place behind
  takes : inside ≡ next behind
  are : AreTokens inside
  body : AreStatements false inside p.body rest

parts : {ts : Tokens} {p : Program} → IsProgram ts p → AreTokens ts → Parts ts p
parts (g.program {us = us} {vs = vs} {ws = ws} h k t b is) a =
    let q = head_past h a in
    record { behind = us; inside = vs; rest = ws; heads = head_read h; places = refl; takes = k.rest; are = (sign_past k q.are).are; body = t }

pub read_same : {A : Type 0} {r : Outcome A} {x y : A} {us vs : Tokens} → r ≡ Ok (x, us) → r ≡ Ok (y, vs) → (x ≡ y) × (us ≡ vs)
read_same {A} {r} {x} {y} {us} {vs} h k = let pair : ◌≡◌ {A = A × Tokens} (x, us) (y, vs) = cc in (ap (λ z. z.0) pair, ap (λ z. z.1) pair)

abbrev pub Heading : Type 0
Heading = Option (List ℕ) × Named × Option Named

abbrev pub made : Heading → Place → List Statement → Program
made h p found = record { name = h.0; first = h.1; second = h.2; place = p; body = found }

made_same : {h i : Heading} {p q : Place} {xs ys : List Statement} → h ≡ i → p ≡ q → xs ≡ ys → made h p xs ≡ made i q ys
made_same {h} {i} {p} {q} {xs} {ys} a b c = ap (λ z. made z p xs) a ∙ ap (λ z. made i z xs) b ∙ ap (λ z. made i q z) c

pub one_program : (ts : Tokens) (p q : Program) → AreTokens ts → IsProgram ts p → IsProgram ts q → p ≡ q
one_program ts p q a d e =
    let x : Parts ts p = parts d a in
    let y : Parts ts q = parts e a in
    let heads = read_same x.heads y.heads in
    let inside : x.inside ≡ y.inside = x.takes ∙ ap next heads.1 ∙ sym y.takes in
    let room : ℕ = statements_depth x.body + statements_depth y.body in
    let first : block_in room false x.inside ≡ Ok (p.body, x.rest) = block_read x.body room (omega arith) x.are in
    let other : block_in room false y.inside ≡ Ok (q.body, y.rest) = block_read y.body room (omega arith) y.are in
    let bodies = read_same first (ap (block_in room false) inside ∙ other) in
    made_same heads.0 (x.places ∙ ap place heads.1 ∙ sym y.places) bodies.0

pub grammar_is_unambiguous : TextsHaveTokens → GrammarIsUnambiguous
grammar_is_unambiguous tokens text u p q d e = one_program (tokens_of text) p q (tokens text u) d e

pub given_complete : (text : List ℕ) (ts us : Tokens) (r : Result Program ParseFault) → AreTokens ts → ts ≡ tokens_of text → us ≡ ts → GivesParsed (whole_program (program us)) r
    → (p : Program) (d : IsProgram (tokens_of text) p) → length text ≤ max_len → depth d ≤ max_depth → GivesParsed (Ok p) r
given_complete text ts us r a is same given p d short low =
    subst (λ z. GivesParsed z r) (ap (λ z. whole_program (program z)) (same ∙ is) ∙ program_read d low (subst AreTokens is a)) given
