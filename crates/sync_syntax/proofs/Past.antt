-- What stands behind a part of the tokens of a text is the tokens of a text too, and shorter.
use Rattle.std.proofs.Common.{◌≡◌, ℕ, suc, ◌≤◌, Bool, List, [], ◌∷◌, length, Option, Some, None, refl, sym, subst, arith}
use Rattle.sync_tokens.specs.Spellable.{IsLast, AreTokens}
use Rattle.sync_tokens.specs.declared.token.Kind.{Kind}
use Rattle.sync_tokens.specs.declared.token.Kind.TheVariants as kinds
use Rattle.sync_tokens.specs.declared.token.Sign.{Sign}
use Rattle.sync_tokens.specs.declared.token.Word.{Word}
use Rattle.sync_syntax.specs.declared.operator.Writing.{Writing}
use Rattle.sync_syntax.specs.declared.tree.Operator.{Operator}
use Rattle.sync_syntax.specs.declared.tree.Prefix.{Prefix}
use Rattle.sync_syntax.specs.declared.tree.Expr.{Expr}
use Rattle.sync_syntax.specs.declared.tree.Suffix.{Suffix}
use Rattle.sync_syntax.specs.declared.tree.Named.{Named}
use Rattle.sync_syntax.specs.declared.tree.Declares.{Declares}
use Rattle.sync_syntax.specs.declared.tree.Declaration.{Declaration}
use Rattle.sync_syntax.specs.declared.tree.Simple.{Simple}
use Rattle.sync_syntax.specs.declared.tree.Start.{Start}
use Rattle.sync_syntax.specs.declared.tree.Statement.{Statement}
use Rattle.sync_syntax.specs.Reading.{Tokens, kind, next}
use Rattle.sync_syntax.specs.Operators.{operator, operator_at, prefix_by, declares_by, writing_by}
use Rattle.sync_syntax.specs.Grammar as g
use Rattle.sync_syntax.specs.Grammar.{Takes, IsKey, IsExpr, IsChain, AreTails, IsUnary, AreSuffixes, IsSuffix, AreListed, AreExprs, AreFields, AreMembers, IsMember, IsPrimary, IsNamed, Ends, IsGiven, AreDeclared, IsDeclaration, IsSimple, IsExprOrNone, IsStart, IsStatement, IsOtherwise, AreStatements, IsOwnName, IsSecond, IsHead}

-- us come behind ts, or are ts
pub record Behind (ts us : Tokens) : Type 0 where
  pub are : AreTokens us
  pub no_longer : length us ≤ length ts

-- us come behind ts
pub record Past (ts us : Tokens) : Type 0 where
  pub are : AreTokens us
  pub shorter : suc (length us) ≤ length ts

abbrev pub GoesPast : Tokens → Tokens → Type 0
GoesPast ts us = AreTokens ts → Past ts us

abbrev pub GoesOn : Tokens → Tokens → Type 0
GoesOn ts us = AreTokens ts → Behind ts us

pub stays : (ts : Tokens) → GoesOn ts ts
stays ts a = record { are = a; no_longer = omega arith }

-- one after the other
pub past : {ts us vs : Tokens} → GoesPast ts us → GoesPast us vs → GoesPast ts vs
past p q a = let r = p a in let s = q r.are in record { are = s.are; shorter = omega (arith, r.shorter, s.shorter) }

pub past_on : {ts us vs : Tokens} → GoesPast ts us → GoesOn us vs → GoesPast ts vs
past_on p q a = let r = p a in let s = q r.are in record { are = s.are; shorter = omega (arith, r.shorter, s.no_longer) }

pub on_past : {ts us vs : Tokens} → GoesOn ts us → GoesPast us vs → GoesPast ts vs
on_past p q a = let r = p a in let s = q r.are in record { are = s.are; shorter = omega (arith, r.no_longer, s.shorter) }

pub on : {ts us : Tokens} → GoesPast ts us → GoesOn ts us
on p a = let r = p a in record { are = r.are; no_longer = omega (arith, r.shorter) }

pub on_on : {ts us vs : Tokens} → GoesOn ts us → GoesOn us vs → GoesOn ts vs
on_on p q a = let r = p a in let s = q r.are in record { are = s.are; no_longer = omega (arith, r.no_longer, s.no_longer) }

-- ---- one token

next_past : (ts : Tokens) → (IsLast (kind ts) → ⊥) → GoesPast ts (next ts)
unfolding kind next
next_past [] other a = absurd a
next_past (t ∷ []) other a = absurd (other a)
next_past (t ∷ u ∷ ts) other a = record { are = a.1; shorter = omega arith }

pub token_past : (k : Kind) {ts us : Tokens} → Takes k ts us → (IsLast k → ⊥) → GoesPast ts us
token_past k {ts} take other =
    subst (λ vs. GoesPast ts vs) (sym take.rest) (next_past ts (λ l. other (subst IsLast take.is l)))

pub sign_past : {s : Sign} {ts us : Tokens} → Takes (kinds.Sign s) ts us → GoesPast ts us
sign_past {s} k = token_past (kinds.Sign s) k (λ l. l)

pub word_past : {w : Word} {ts us : Tokens} → Takes (kinds.Word w) ts us → GoesPast ts us
word_past {w} k = token_past (kinds.Word w) k (λ l. l)

pub name_past : {n : List ℕ} {ts us : Tokens} → Takes (kinds.Name n) ts us → GoesPast ts us
name_past {n} k = token_past (kinds.Name n) k (λ l. l)

pub text_past : {n : List ℕ} {ts us : Tokens} → Takes (kinds.Text n) ts us → GoesPast ts us
text_past {n} k = token_past (kinds.Text n) k (λ l. l)

pub integer_past : {n : ℕ} {ts us : Tokens} → Takes (kinds.Integer n) ts us → GoesPast ts us
integer_past {n} k = token_past (kinds.Integer n) k (λ l. l)

-- a token that is something else than the end, by a function that gives nothing for the end and no token
not_last : {A : Type 0} (f : Kind → Option A) (k : Kind) (x : A) → f kinds.End ≡ None → ((why : _) → f (kinds.Bad why) ≡ None) → f k ≡ Some x → IsLast k → ⊥
not_last f (kinds.Name n) x e b is l = l
not_last f (kinds.Integer n) x e b is l = l
not_last f (kinds.Text n) x e b is l = l
not_last f (kinds.Word n) x e b is l = l
not_last f (kinds.Sign n) x e b is l = l
not_last f kinds.End x e b is l = absurd cc
not_last f (kinds.Bad why) x e b is l = let none = b why in absurd cc

pub operator_past : (n : ℕ) (k : Kind) (o : Operator) {ts us : Tokens} → Takes k ts us → operator_at n k ≡ Some o → GoesPast ts us
unfolding operator_at operator
operator_past n k o take is = token_past k take (not_last (operator_at n) k o refl (λ why. refl) is)

pub prefix_past : (k : Kind) (o : Prefix) {ts us : Tokens} → Takes k ts us → prefix_by k ≡ Some o → GoesPast ts us
unfolding prefix_by
prefix_past k o take is = token_past k take (not_last prefix_by k o refl (λ why. refl) is)

pub declares_past : (k : Kind) (o : Declares) {ts us : Tokens} → Takes k ts us → declares_by k ≡ Some o → GoesPast ts us
unfolding declares_by
declares_past k o take is = token_past k take (not_last declares_by k o refl (λ why. refl) is)

pub writing_past : (k : Kind) (o : Writing) {ts us : Tokens} → Takes k ts us → writing_by k ≡ Some o → GoesPast ts us
unfolding writing_by
writing_past k o take is = token_past k take (not_last writing_by k o refl (λ why. refl) is)

-- ---- expressions

pub key_past : {ts us : Tokens} {n : List ℕ} → IsKey ts n us → GoesPast ts us
key_past (g.name_key k) = name_past k
key_past (g.text_key k) = text_past k

mutual
  pub expr_past : {ts us : Tokens} {x : Expr} → IsExpr ts x us → GoesPast ts us
  expr_past (g.no_choice c) = chain_past c
  expr_past (g.choice c q a k b) = past (chain_past c) (past (sign_past q) (past (expr_past a) (past (sign_past k) (expr_past b))))

  pub chain_past : {n : ℕ} {ts us : Tokens} {x : Expr} → IsChain n ts x us → GoesPast ts us
  chain_past (g.operand u) = unary_past u
  chain_past (g.chain c h) = past_on (chain_past c) (tails_on h)

  pub tails_on : {n : ℕ} {ts us : Tokens} {xs : List (Operator × Expr)} → AreTails n ts xs us → GoesOn ts us
  tails_on (g.no_tail {ts = ts}) = stays ts
  tails_on (g.tail {level = n} {k = k} {op = o} take is c h) = on (past_on (past (operator_past (suc n) k o take is) (chain_past c)) (tails_on h))

  pub unary_past : {ts us : Tokens} {x : Expr} → IsUnary ts x us → GoesPast ts us
  unary_past (g.prefixed {k = k} {op = o} take is u) = past (prefix_past k o take is) (unary_past u)
  unary_past (g.postfix p h) = past_on (primary_past p) (suffixes_on h)

  pub suffixes_on : {ts us : Tokens} {xs : List Suffix} → AreSuffixes ts xs us → GoesOn ts us
  suffixes_on (g.no_suffix {ts = ts}) = stays ts
  suffixes_on (g.one_suffix s h) = on (past_on (suffix_past s) (suffixes_on h))

  pub suffix_past : {ts us : Tokens} {x : Suffix} → IsSuffix ts x us → GoesPast ts us
  suffix_past (g.member_suffix k n) = past (sign_past k) (name_past n)
  suffix_past (g.index_suffix k x l) = past (sign_past k) (past (expr_past x) (sign_past l))
  suffix_past (g.call_suffix k h) = past (sign_past k) (listed_past h)

  pub listed_past : {close : Sign} {ts us : Tokens} {xs : List Expr} → AreListed close ts xs us → GoesPast ts us
  listed_past (g.none_listed k) = sign_past k
  listed_past (g.some_listed h k) = past (exprs_past h) (sign_past k)

  pub exprs_past : {ts us : Tokens} {xs : List Expr} → AreExprs ts xs us → GoesPast ts us
  exprs_past (g.one_expr x) = expr_past x
  exprs_past (g.more_exprs x k h) = past (expr_past x) (past (sign_past k) (exprs_past h))

  pub fields_past : {ts us : Tokens} {xs : List (List ℕ × Expr)} → AreFields ts xs us → GoesPast ts us
  fields_past (g.no_fields k) = sign_past k
  fields_past (g.some_fields h k) = past (members_past h) (sign_past k)

  pub members_past : {ts us : Tokens} {xs : List (List ℕ × Expr)} → AreMembers ts xs us → GoesPast ts us
  members_past (g.one_member m) = member_past m
  members_past (g.more_members m k h) = past (member_past m) (past (sign_past k) (members_past h))

  pub member_past : {ts us : Tokens} {x : List ℕ × Expr} → IsMember ts x us → GoesPast ts us
  member_past (g.member i k x) = past (key_past i) (past (sign_past k) (expr_past x))

  pub primary_past : {ts us : Tokens} {x : Expr} → IsPrimary ts x us → GoesPast ts us
  primary_past (g.integer k) = integer_past k
  primary_past (g.text k) = text_past k
  primary_past (g.name k) = name_past k
  primary_past (g.yes k) = word_past k
  primary_past (g.no k) = word_past k
  primary_past (g.null k) = word_past k
  primary_past (g.undefined k) = word_past k
  primary_past (g.parentheses k x l) = past (sign_past k) (past (expr_past x) (sign_past l))
  primary_past (g.list k h) = past (sign_past k) (listed_past h)
  primary_past (g.object k h) = past (sign_past k) (fields_past h)

-- ---- statements

pub named_past : {ts us : Tokens} {n : Named} → IsNamed ts n us → GoesPast ts us
named_past (g.named k) = name_past k

pub ends_on : {ts us : Tokens} → Ends ts us → GoesOn ts us
ends_on (g.ended k) = on (sign_past k)
ends_on (g.left_out {ts = ts} k) = stays ts

pub given_on : {ts us : Tokens} {x : Option Expr} → IsGiven ts x us → GoesOn ts us
given_on (g.not_given {ts = ts}) = stays ts
given_on (g.given k x) = on (past (sign_past k) (expr_past x))

pub declared_past : {ts us : Tokens} {xs : List (Named × Option Expr)} → AreDeclared ts xs us → GoesPast ts us
declared_past (g.one_declared n x) = past_on (named_past n) (given_on x)
declared_past (g.more_declared n x k h) = past (past_on (named_past n) (given_on x)) (past (sign_past k) (declared_past h))

pub declaration_past : {ts us : Tokens} {d : Declaration} → IsDeclaration ts d us → GoesPast ts us
declaration_past (g.declaration {k = k} {how = how} take is h) = past (declares_past k how take is) (declared_past h)

pub simple_past : {ts us : Tokens} {x : Simple} → IsSimple ts x us → GoesPast ts us
simple_past (g.write {k = k} n take is x) = past (named_past n) (past (writing_past k _ take is) (expr_past x))
simple_past (g.increment {k = k} n take is) = past (named_past n) (writing_past k _ take is)
simple_past (g.decrement {k = k} n take is) = past (named_past n) (writing_past k _ take is)
simple_past (g.value x) = expr_past x

pub expr_or_none_past : {close : Sign} {ts us : Tokens} {x : Option Expr} → IsExprOrNone close ts x us → GoesPast ts us
expr_or_none_past (g.no_expr k) = sign_past k
expr_or_none_past (g.an_expr x k) = past (expr_past x) (sign_past k)

pub last_past : {ts us : Tokens} {x : Option Simple} → g.IsLast ts x us → GoesPast ts us
last_past (g.no_last k) = sign_past k
last_past (g.last x k) = past (simple_past x) (sign_past k)

pub start_past : {ts us : Tokens} {x : Option Start} → IsStart ts x us → GoesPast ts us
start_past (g.no_start k) = sign_past k
start_past (g.declares d k) = past (declaration_past d) (sign_past k)
start_past (g.starts_simple x k) = past (simple_past x) (sign_past k)

mutual
  pub statement_past : {l : Bool} {ts us : Tokens} {x : Statement} → IsStatement l ts x us → GoesPast ts us
  statement_past (g.block k h) = past (sign_past k) (statements_past h)
  statement_past (g.empty k) = sign_past k
  statement_past (g.declare d e) = past_on (declaration_past d) (ends_on e)
  statement_past (g.choose w k x m first others) =
      past (word_past w) (past (sign_past k) (past (expr_past x) (past (sign_past m) (past_on (statement_past first) (otherwise_on others)))))
  statement_past (g.repeat w k b x s body) =
      past (word_past w) (past (sign_past k) (past (start_past b) (past (expr_or_none_past x) (past (last_past s) (statement_past body)))))
  statement_past (g.each {k = k} {how = how} w o take is n f x c body) =
      past (word_past w) (past (sign_past o) (past (declares_past k how take is) (past (named_past n) (past (word_past f) (past (expr_past x) (past (sign_past c) (statement_past body)))))))
  statement_past (g.return_none w e) = past_on (word_past w) (ends_on e)
  statement_past (g.return_some w x e) = past (word_past w) (past_on (expr_past x) (ends_on e))
  statement_past (g.throw w x e) = past (word_past w) (past_on (expr_past x) (ends_on e))
  statement_past (g.break w e) = past_on (word_past w) (ends_on e)
  statement_past (g.continue w e) = past_on (word_past w) (ends_on e)
  statement_past (g.simple b x e) = past_on (simple_past x) (ends_on e)

  pub otherwise_on : {l : Bool} {ts us : Tokens} {x : Option Statement} → IsOtherwise l ts x us → GoesOn ts us
  otherwise_on (g.no_else {ts = ts} k) = stays ts
  otherwise_on (g.other w x) = on (past (word_past w) (statement_past x))

  pub statements_past : {l : Bool} {ts us : Tokens} {xs : List Statement} → AreStatements l ts xs us → GoesPast ts us
  statements_past (g.no_statement k) = sign_past k
  statements_past (g.one_statement x h) = past (statement_past x) (statements_past h)

-- ---- heads

own_name_on : {ts us : Tokens} {n : Option (List ℕ)} → IsOwnName ts n us → GoesOn ts us
own_name_on (g.no_own_name {ts = ts}) = stays ts
own_name_on (g.own_name k) = on (name_past k)

second_on : {ts us : Tokens} {n : Option Named} → IsSecond ts n us → GoesOn ts us
second_on (g.no_second {ts = ts}) = stays ts
second_on (g.second k n) = on (past (sign_past k) (named_past n))

pub head_past : {ts us : Tokens} {own : Option (List ℕ)} {n : Named} {m : Option Named} → IsHead ts own n m us → GoesPast ts us
head_past (g.head w o k n m l) = past (word_past w) (on_past (own_name_on o) (past (sign_past k) (past (named_past n) (on_past (second_on m) (sign_past l)))))
