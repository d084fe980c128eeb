-- Which token an expression or a statement begins with, and which may stand behind one.
use Rattle.std.proofs.Common.{◌≡◌, ◌≢◌, ℕ, suc, ◌≤◌, Bool, true, false, cond, ◌||◌, List, Option, Some, None, refl, sym, subst, ap, ◌∙◌, true≢false, eqb-true, rules, arith}
use Rattle.std.specs.Prelude.{◌==◌}
use denote.Enum.Bare.{same_true, true_same}
use Rattle.sync_tokens.specs.declared.token.Kind.{Kind}
use Rattle.sync_tokens.specs.declared.token.Kind.TheVariants as kinds
use Rattle.sync_tokens.specs.declared.token.Sign.{Sign}
use Rattle.sync_tokens.specs.declared.token.Sign.TheVariants as signs
use Rattle.sync_tokens.specs.declared.token.Word.{Word}
use Rattle.sync_tokens.specs.declared.token.Word.TheVariants as words
use Rattle.sync_tokens.specs.contracts.token.Sign as the_signs
use Rattle.sync_tokens.specs.contracts.token.Word as the_words
use Rattle.sync_syntax.specs.declared.tree.Declares.{Declares}
use Rattle.sync_syntax.specs.declared.tree.Operator.{Operator}
use Rattle.sync_syntax.specs.declared.tree.Prefix.{Prefix}
use Rattle.sync_syntax.specs.declared.tree.Expr.{Expr}
use Rattle.sync_syntax.specs.declared.tree.Simple.{Simple}
use Rattle.sync_syntax.specs.declared.tree.Suffix.{Suffix}
use Rattle.sync_syntax.specs.declared.tree.Statement.{Statement}
use Rattle.sync_syntax.specs.Reading.{Tokens, kind, next, second, same_sign, same_word, is_sign, is_word, sees, sees_word}
use Rattle.sync_syntax.specs.Operators.{level, operator, only_at, operator_at, prefix_by, declares_by, writing_by, is_name_kind}
use Rattle.sync_syntax.specs.Grammar as g
use Rattle.sync_syntax.specs.Grammar.{Takes, IsExpr, IsChain, AreTails, IsUnary, AreSuffixes, IsSuffix, IsPrimary, IsNamed, IsDeclaration, IsSimple, IsStatement}

-- ---- a token that is taken is seen, and no other

pub takes_sees : (s : Sign) {ts us : Tokens} → Takes (kinds.Sign s) ts us → sees s ts ≡ true
unfolding sees same_sign
takes_sees s k = ap (is_sign s) k.is ∙ true_same the_signs.the_type s s refl

pub takes_sees_word : (w : Word) {ts us : Tokens} → Takes (kinds.Word w) ts us → sees_word w ts ≡ true
unfolding sees_word same_word
takes_sees_word w k = ap (is_word w) k.is ∙ true_same the_words.the_type w w refl

pub unseen : (s : Sign) (k : Kind) {ts us : Tokens} → Takes k ts us → is_sign s k ≡ false → sees s ts ≡ false
unfolding sees
unseen s k take other = ap (is_sign s) take.is ∙ other

pub unseen_word : (w : Word) (k : Kind) {ts us : Tokens} → Takes k ts us → is_word w k ≡ false → sees_word w ts ≡ false
unfolding sees_word
unseen_word w k take other = ap (is_word w) take.is ∙ other

-- ---- which tokens begin an expression

abbrev word_begins : Word → Bool
word_begins words.True = true
word_begins words.False = true
word_begins words.Null = true
word_begins words.Undefined = true
word_begins words.Typeof = true
word_begins _ = false

abbrev pub sign_begins : Sign → Bool
sign_begins signs.ParenOpen = true
sign_begins signs.BracketOpen = true
sign_begins signs.BraceOpen = true
sign_begins signs.Not = true
sign_begins signs.Minus = true
sign_begins _ = false

abbrev pub begins : Kind → Bool
begins (kinds.Name n) = true
begins (kinds.Integer n) = true
begins (kinds.Text n) = true
begins (kinds.Word w) = word_begins w
begins (kinds.Sign s) = sign_begins s
begins _ = false

by_bool : {P : Type 0} (b : Bool) → (b ≡ true → P) → (b ≡ false → P) → P
by_bool true f g = f refl
by_bool false f g = g refl

prefix_begins : (k : Kind) (o : Prefix) → prefix_by k ≡ Some o → begins k ≡ true
unfolding prefix_by
prefix_begins (kinds.Sign signs.Not) o is = refl
prefix_begins (kinds.Sign signs.Minus) o is = refl
prefix_begins (kinds.Word words.Typeof) o is = refl
prefix_begins _ o is = absurd cc

primary_begins : {ts us : Tokens} {x : Expr} → IsPrimary ts x us → begins (kind ts) ≡ true
primary_begins (g.integer k) = ap begins k.is
primary_begins (g.text k) = ap begins k.is
primary_begins (g.name k) = ap begins k.is
primary_begins (g.yes k) = ap begins k.is
primary_begins (g.no k) = ap begins k.is
primary_begins (g.null k) = ap begins k.is
primary_begins (g.undefined k) = ap begins k.is
primary_begins (g.parentheses k x l) = ap begins k.is
primary_begins (g.list k h) = ap begins k.is
primary_begins (g.object k h) = ap begins k.is

unary_begins : {ts us : Tokens} {x : Expr} → IsUnary ts x us → begins (kind ts) ≡ true
unary_begins (g.prefixed {k = k} {op = o} take is u) = ap begins take.is ∙ prefix_begins k o is
unary_begins (g.postfix p h) = primary_begins p

chain_begins : {n : ℕ} {ts us : Tokens} {x : Expr} → IsChain n ts x us → begins (kind ts) ≡ true
chain_begins (g.operand u) = unary_begins u
chain_begins (g.chain c h) = chain_begins c

pub expr_begins : {ts us : Tokens} {x : Expr} → IsExpr ts x us → begins (kind ts) ≡ true
expr_begins (g.no_choice c) = chain_begins c
expr_begins (g.choice c q a k b) = chain_begins c

named_begins : {ts us : Tokens} {n : _} → IsNamed ts n us → begins (kind ts) ≡ true
named_begins (g.named k) = ap begins k.is

pub simple_begins : {ts us : Tokens} {x : Simple} → IsSimple ts x us → begins (kind ts) ≡ true
simple_begins (g.write n k is x) = named_begins n
simple_begins (g.increment n k is) = named_begins n
simple_begins (g.decrement n k is) = named_begins n
simple_begins (g.value x) = expr_begins x

-- a sign that a test distinguishes from the next token is not seen
distinguished : (f : Kind → Bool) (s : Sign) (k : Kind) → f (kinds.Sign s) ≡ false → f k ≡ true → is_sign s k ≡ false
unfolding same_sign
distinguished f s (kinds.Sign t) other is =
    by_bool (same_sign t s) (λ h. (let same : t ≡ s = same_true the_signs.the_type (search rules) t s h in
    absurd (true≢false (sym is ∙ ap (λ z. f (kinds.Sign z)) same ∙ other)))) (λ h. h)
distinguished f s _ other is = refl

pub begins_unseen : (s : Sign) (ts : Tokens) → sign_begins s ≡ false → begins (kind ts) ≡ true → sees s ts ≡ false
unfolding sees
begins_unseen s ts other is = distinguished begins s (kind ts) other is

-- ---- a primary is no prefix

pub no_prefix : {ts us : Tokens} {x : Expr} → IsPrimary ts x us → prefix_by (kind ts) ≡ None
unfolding prefix_by
no_prefix (g.integer k) = ap prefix_by k.is
no_prefix (g.text k) = ap prefix_by k.is
no_prefix (g.name k) = ap prefix_by k.is
no_prefix (g.yes k) = ap prefix_by k.is
no_prefix (g.no k) = ap prefix_by k.is
no_prefix (g.null k) = ap prefix_by k.is
no_prefix (g.undefined k) = ap prefix_by k.is
no_prefix (g.parentheses k x l) = ap prefix_by k.is
no_prefix (g.list k h) = ap prefix_by k.is
no_prefix (g.object k h) = ap prefix_by k.is

-- ---- which tokens end an expression

abbrev pub suffix_sign : Kind → Bool
suffix_sign k = is_sign signs.Dot k || is_sign signs.BracketOpen k || is_sign signs.ParenOpen k

-- neither a suffix nor an operator that binds no more loosely than this
pub record EndsChain (n : ℕ) (k : Kind) : Type 0 where
  pub no_suffix : suffix_sign k ≡ false
  pub no_operator : (m : ℕ) → m ≤ n → operator_at m k ≡ None

abbrev pub sign_closes : Sign → Bool
sign_closes signs.Colon = true
sign_closes signs.BracketClose = true
sign_closes signs.Comma = true
sign_closes signs.ParenClose = true
sign_closes signs.Semicolon = true
sign_closes signs.BraceClose = true
sign_closes _ = false

-- what stands behind an expression
abbrev pub closing : Kind → Bool
closing (kinds.Sign s) = sign_closes s
closing _ = false

pub closing_unseen : (s : Sign) (ts : Tokens) → sign_closes s ≡ false → closing (kind ts) ≡ true → sees s ts ≡ false
unfolding sees
closing_unseen s ts other is = distinguished closing s (kind ts) other is

pub closing_ends : (n : ℕ) (k : Kind) → closing k ≡ true → EndsChain n k
unfolding same_sign operator_at operator
closing_ends n (kinds.Sign signs.Colon) h = record { no_suffix = refl; no_operator = λ m _. refl }
closing_ends n (kinds.Sign signs.BracketClose) h = record { no_suffix = refl; no_operator = λ m _. refl }
closing_ends n (kinds.Sign signs.Comma) h = record { no_suffix = refl; no_operator = λ m _. refl }
closing_ends n (kinds.Sign signs.ParenClose) h = record { no_suffix = refl; no_operator = λ m _. refl }
closing_ends n (kinds.Sign signs.Semicolon) h = record { no_suffix = refl; no_operator = λ m _. refl }
closing_ends n (kinds.Sign signs.BraceClose) h = record { no_suffix = refl; no_operator = λ m _. refl }
closing_ends n _ h = absurd cc

pub question_ends : (n : ℕ) → EndsChain n (kinds.Sign signs.Question)
unfolding same_sign operator_at operator
question_ends n = record { no_suffix = refl; no_operator = λ m _. refl }

no_suffix_operator : (n : ℕ) (k : Kind) (o : Operator) → operator_at n k ≡ Some o → suffix_sign k ≡ false
unfolding same_sign operator_at operator
no_suffix_operator n (kinds.Sign signs.Dot) o is = absurd cc
no_suffix_operator n (kinds.Sign signs.BracketOpen) o is = absurd cc
no_suffix_operator n (kinds.Sign signs.ParenOpen) o is = absurd cc
no_suffix_operator n _ o is = refl

only_level : (n : ℕ) (p o : Operator) (b : Bool) → (level p == n) ≡ b → cond b (Some p) None ≡ Some o → level p ≡ n
only_level n p o true t h = eqb-true (level p) n t
only_level n p o false t h = absurd cc

other_level : (m : ℕ) (p : Operator) (b : Bool) → (level p == m) ≡ b → level p ≢ m → cond b (Some p) None ≡ None
other_level m p true t other = absurd (other (eqb-true (level p) m t))
other_level m p false t other = refl

looser : (n m : ℕ) (r : Option Operator) (o : Operator) → only_at (suc n) r ≡ Some o → m ≤ n → only_at m r ≡ None
looser n m None o is below = refl
looser n m (Some p) o is below =
    let l : level p ≡ suc n = only_level (suc n) p o (level p == suc n) refl is in
    other_level m p (level p == m) refl (λ h. omega arith)

pub operator_ends : (n : ℕ) (k : Kind) (o : Operator) → operator_at (suc n) k ≡ Some o → EndsChain n k
unfolding operator_at
operator_ends n k o is = record { no_suffix = no_suffix_operator (suc n) k o is; no_operator = λ m below. looser n m (operator k) o is below }

pub tighter : (n : ℕ) (k : Kind) → EndsChain (suc n) k → EndsChain n k
tighter n k e = record { no_suffix = e.no_suffix; no_operator = λ m below. e.no_operator m (omega arith) }

pub ends_at : (n : ℕ) {k : Kind} {ts us : Tokens} → Takes k ts us → EndsChain n k → EndsChain n (kind ts)
ends_at n take e = subst (EndsChain n) (sym take.is) e

-- ---- behind a name that begins an expression stands nothing that writes

prefix_no_name : (k : Kind) (o : Prefix) → prefix_by k ≡ Some o → is_name_kind k ≡ false
unfolding prefix_by
prefix_no_name (kinds.Name n) o is = absurd cc
prefix_no_name _ o is = refl

operator_writes_none : (n : ℕ) (k : Kind) (o : Operator) → operator_at n k ≡ Some o → writing_by k ≡ None
unfolding operator_at operator writing_by
operator_writes_none n (kinds.Sign signs.Assign) o is = absurd cc
operator_writes_none n (kinds.Sign signs.PlusAssign) o is = absurd cc
operator_writes_none n (kinds.Sign signs.MinusAssign) o is = absurd cc
operator_writes_none n (kinds.Sign signs.Increment) o is = absurd cc
operator_writes_none n (kinds.Sign signs.Decrement) o is = absurd cc
operator_writes_none n _ o is = refl

pub closing_writes_none : (k : Kind) → closing k ≡ true → writing_by k ≡ None
unfolding writing_by
closing_writes_none (kinds.Sign signs.Assign) h = absurd cc
closing_writes_none (kinds.Sign signs.PlusAssign) h = absurd cc
closing_writes_none (kinds.Sign signs.MinusAssign) h = absurd cc
closing_writes_none (kinds.Sign signs.Increment) h = absurd cc
closing_writes_none (kinds.Sign signs.Decrement) h = absurd cc
closing_writes_none _ h = refl

suffix_writes_none : {ts us : Tokens} {x : Suffix} → IsSuffix ts x us → writing_by (kind ts) ≡ None
unfolding writing_by
suffix_writes_none (g.member_suffix k n) = ap writing_by k.is
suffix_writes_none (g.index_suffix k x l) = ap writing_by k.is
suffix_writes_none (g.call_suffix k h) = ap writing_by k.is

suffixes_write_none : {ts us : Tokens} {xs : List Suffix} → AreSuffixes ts xs us → writing_by (kind us) ≡ None → writing_by (kind ts) ≡ None
suffixes_write_none g.no_suffix h = h
suffixes_write_none (g.one_suffix s found) h = suffix_writes_none s

tails_write_none : {n : ℕ} {ts us : Tokens} {xs : List (Operator × Expr)} → AreTails n ts xs us → writing_by (kind us) ≡ None → writing_by (kind ts) ≡ None
tails_write_none g.no_tail h = h
tails_write_none (g.tail {level = n} {k = k} {op = o} take is c found) h = ap writing_by take.is ∙ operator_writes_none (suc n) k o is

abbrev NoName : Kind → Type 0
NoName k = is_name_kind k ≡ false

no_name : {P : Type 0} (k : Kind) (ts : Tokens) → kind ts ≡ k → is_name_kind k ≡ false → is_name_kind (kind ts) ≡ true → P
no_name k ts is other h = absurd (true≢false (sym h ∙ ap is_name_kind is ∙ other))

primary_next : {ts us : Tokens} {x : Expr} → IsPrimary ts x us → is_name_kind (kind ts) ≡ true → us ≡ next ts
primary_next (g.name k) h = k.rest
primary_next (g.integer {ts = ts} {n = n} k) h = no_name (kinds.Integer n) ts k.is refl h
primary_next (g.text {ts = ts} {n = n} k) h = no_name (kinds.Text n) ts k.is refl h
primary_next (g.yes {ts = ts} k) h = no_name (kinds.Word words.True) ts k.is refl h
primary_next (g.no {ts = ts} k) h = no_name (kinds.Word words.False) ts k.is refl h
primary_next (g.null {ts = ts} k) h = no_name (kinds.Word words.Null) ts k.is refl h
primary_next (g.undefined {ts = ts} k) h = no_name (kinds.Word words.Undefined) ts k.is refl h
primary_next (g.parentheses {ts = ts} k x l) h = no_name (kinds.Sign signs.ParenOpen) ts k.is refl h
primary_next (g.list {ts = ts} k found) h = no_name (kinds.Sign signs.BracketOpen) ts k.is refl h
primary_next (g.object {ts = ts} k found) h = no_name (kinds.Sign signs.BraceOpen) ts k.is refl h

unary_second : {ts us : Tokens} {x : Expr} → IsUnary ts x us → is_name_kind (kind ts) ≡ true → writing_by (kind us) ≡ None → writing_by (second ts) ≡ None
unfolding second
unary_second (g.prefixed {ts = ts} {k = k} {op = o} take is u) n h = no_name k ts take.is (prefix_no_name k o is) n
unary_second (g.postfix p found) n h = ap (λ vs. writing_by (kind vs)) (sym (primary_next p n)) ∙ suffixes_write_none found h

chain_second : {n : ℕ} {ts us : Tokens} {x : Expr} → IsChain n ts x us → is_name_kind (kind ts) ≡ true → writing_by (kind us) ≡ None → writing_by (second ts) ≡ None
chain_second (g.operand u) n h = unary_second u n h
chain_second (g.chain c found) n h = chain_second c n (tails_write_none found h)

pub expr_second : {ts us : Tokens} {x : Expr} → IsExpr ts x us → is_name_kind (kind ts) ≡ true → writing_by (kind us) ≡ None → writing_by (second ts) ≡ None
unfolding writing_by
expr_second (g.no_choice c) n h = chain_second c n h
expr_second (g.choice c q a k b) n h = chain_second c n (ap writing_by q.is)

-- ---- what begins a statement

pub begins_no_declares : (k : Kind) → begins k ≡ true → declares_by k ≡ None
unfolding declares_by
begins_no_declares (kinds.Word words.Var) h = absurd cc
begins_no_declares (kinds.Word words.Let) h = absurd cc
begins_no_declares (kinds.Word words.Const) h = absurd cc
begins_no_declares _ h = refl

declares_no_sign : (s : Sign) (k : Kind) (how : Declares) → declares_by k ≡ Some how → is_sign s k ≡ false
unfolding declares_by
declares_no_sign s (kinds.Sign t) how is = absurd cc
declares_no_sign s _ how is = refl

pub declaration_unseen : (s : Sign) {ts us : Tokens} {d : _} → IsDeclaration ts d us → sees s ts ≡ false
declaration_unseen s (g.declaration {k = k} {how = how} take is h) = unseen s k take (declares_no_sign s k how is)

pub statement_unseen : {l : Bool} {ts us : Tokens} {x : Statement} → IsStatement l ts x us → sees signs.BraceClose ts ≡ false
unfolding same_sign
statement_unseen (g.block k h) = unseen signs.BraceClose _ k refl
statement_unseen (g.empty k) = unseen signs.BraceClose _ k refl
statement_unseen (g.declare d e) = declaration_unseen signs.BraceClose d
statement_unseen (g.choose k a b c d e) = unseen signs.BraceClose _ k refl
statement_unseen (g.repeat k a b c d e) = unseen signs.BraceClose _ k refl
statement_unseen (g.each k a b c d e f h i) = unseen signs.BraceClose _ k refl
statement_unseen (g.return_none k e) = unseen signs.BraceClose _ k refl
statement_unseen (g.return_some k h e) = unseen signs.BraceClose _ k refl
statement_unseen (g.throw k h e) = unseen signs.BraceClose _ k refl
statement_unseen (g.break k e) = unseen signs.BraceClose _ k refl
statement_unseen (g.continue k e) = unseen signs.BraceClose _ k refl
statement_unseen (g.simple {ts = ts} b x e) = begins_unseen signs.BraceClose ts refl (simple_begins x)
