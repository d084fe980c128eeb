-- Tokens that are spelled, wherever they stand, and what the grammar reads of them.
use Rattle.std.proofs.Common.{◌≡◌, ℕ, zero, suc, ◌+◌, ◌-◌, ◌≤◌, nat_le, Bool, true, false, cond, List, [], ◌∷◌, ◌++◌, refl, subst, ap, ◌∙◌, leb-true, arith}
use Rattle.sync_tokens.specs.declared.token.Kind.{Kind}
use Rattle.sync_tokens.specs.declared.token.Kind.TheVariants as kinds
use Rattle.sync_tokens.specs.declared.token.Sign.{Sign}
use Rattle.sync_tokens.specs.declared.token.Sign.TheVariants as signs
use Rattle.sync_syntax.specs.declared.tree.Expr.{Expr}
use Rattle.sync_syntax.specs.Reading.{Tokens, kind, next, same_sign, is_sign, sees}
use Rattle.sync_syntax.specs.Grammar as g
use Rattle.sync_syntax.specs.Grammar.{Takes, IsExpr, IsChain, IsUnary, IsPrimary}
use Rattle.sync_print.specs.Trees.{Spelled, spelled, parenthesized, within, sign}
use Rattle.sync_print.proofs.Layers.{bare}

-- the tokens ts begin with these, behind which come us
abbrev pub Shows : List Kind → Tokens → Tokens → Type 0
Shows [] ts us = us ≡ ts
Shows (k ∷ ks) ts us = (kind ts ≡ k) × Shows ks (next ts) us

pub record Split (ks ls : List Kind) (ts us : Tokens) : Type 0 where
  pub middle : Tokens
  pub first : Shows ks ts middle
  pub rest : Shows ls middle us

pub split : (ks ls : List Kind) (ts us : Tokens) → Shows (ks ++ ls) ts us → Split ks ls ts us
split [] ls ts us h = record { middle = ts; first = refl; rest = h }
split (k ∷ ks) ls ts us h = let s : Split ks ls (next ts) us = split ks ls (next ts) us h.1 in record { middle = s.middle; first = (h.0, s.first); rest = s.rest }

pub taken : (k : Kind) (ts : Tokens) → kind ts ≡ k → Takes k ts (next ts)
taken k ts is = record { is = is; rest = refl }

pub taken_last : (k : Kind) (ts us : Tokens) → Shows (k ∷ []) ts us → Takes k ts us
taken_last k ts us h = record { is = h.0; rest = h.1 }

-- ts begin with a tree that is x but for its places, behind which come us
pub record Printed (R : Tokens → Expr → Tokens → Type 0) (ts : Tokens) (x : Expr) (us : Tokens) : Type 0 where
  pub tree : Expr
  pub is : R ts tree us
  pub same : bare tree ≡ bare x

-- ---- a tree of a tighter level is one of a looser one

pub as_unary : {ts us : Tokens} {x : Expr} → IsPrimary ts x us → IsUnary ts x us
as_unary p = g.postfix p g.no_suffix

pub as_chain : (n : ℕ) {ts us : Tokens} {x : Expr} → IsUnary ts x us → IsChain n ts x us
as_chain zero u = g.operand u
as_chain (suc n) u = g.chain (as_chain n u) g.no_tail

raised : (d m : ℕ) {ts us : Tokens} {x : Expr} → IsChain m ts x us → IsChain (d + m) ts x us
raised zero m {ts} {us} {x} c = let e : m ≡ 0 + m = omega arith in subst (λ n. IsChain n ts x us) e c
raised (suc d) m {ts} {us} {x} c = let e : suc (d + m) ≡ suc d + m = omega arith in subst (λ n. IsChain n ts x us) e (g.chain (raised d m c) g.no_tail)

pub as_looser : (m n : ℕ) {ts us : Tokens} {x : Expr} → m ≤ n → IsChain m ts x us → IsChain n ts x us
as_looser m n {ts} {us} {x} l c = let e : (n - m) + m ≡ n = omega arith in subst (λ k. IsChain k ts x us) e (raised (n - m) m c)

pub as_expr : (n : ℕ) {ts us : Tokens} {x : Expr} → n ≤ 6 → IsChain n ts x us → IsExpr ts x us
as_expr n l c = g.no_choice (as_looser n 6 l c)

-- ---- what is printed of an expression is read as it, at each level that it is tight enough for

pub record Reads (x : Expr) (s : Spelled) : Type 0 where
  pub any : (ts us : Tokens) → Shows s.tokens ts us → Printed IsExpr ts x us
  pub chain : (n : ℕ) → s.level ≤ n + 1 → n ≤ 6 → (ts us : Tokens) → Shows s.tokens ts us → Printed (IsChain n) ts x us
  pub primary : s.level ≤ 0 → (ts us : Tokens) → Shows s.tokens ts us → Printed IsPrimary ts x us
  -- no brace stands first unless an object does
  pub plain : s.object_first ≡ false → (ts us : Tokens) → Shows s.tokens ts us → sees signs.BraceOpen ts ≡ false

abbrev pub Prints : Expr → Type 0
Prints x = Reads x (spelled x)

abbrev pub IsPlain : Spelled → Type 0
IsPlain s = s.object_first ≡ false → (ts us : Tokens) → Shows s.tokens ts us → sees signs.BraceOpen ts ≡ false

pub from_primary : (x : Expr) (s : Spelled) → ((ts us : Tokens) → Shows s.tokens ts us → Printed IsPrimary ts x us) → IsPlain s → Reads x s
from_primary x s f plain = record {
  any = λ ts us h. (let p : Printed IsPrimary ts x us = f ts us h in record { tree = p.tree; is = as_expr 0 (omega arith) (as_chain 0 (as_unary p.is)); same = p.same });
  chain = λ n _ _ ts us h. (let p : Printed IsPrimary ts x us = f ts us h in record { tree = p.tree; is = as_chain n (as_unary p.is); same = p.same });
  primary = λ _. f;
  plain = plain;
}

-- one of this level, which is 1 at least
pub from_chain : (x : Expr) (s : Spelled) (n : ℕ) → n ≤ 6 → s.level ≡ n + 1 → ((ts us : Tokens) → Shows s.tokens ts us → Printed (IsChain n) ts x us) → IsPlain s → Reads x s
from_chain x s n small level f plain = record {
  any = λ ts us h. (let p : Printed (IsChain n) ts x us = f ts us h in record { tree = p.tree; is = as_expr n small p.is; same = p.same });
  chain = λ m above _ ts us h. (let p : Printed (IsChain n) ts x us = f ts us h in let l : n ≤ m = omega (arith, level, above) in record { tree = p.tree; is = as_looser n m l p.is; same = p.same });
  primary = λ below. absurd (omega (arith, level, below));
  plain = plain;
}

pub from_choice : (x : Expr) (s : Spelled) → s.level ≡ 8 → ((ts us : Tokens) → Shows s.tokens ts us → Printed IsExpr ts x us) → IsPlain s → Reads x s
from_choice x s level f plain = record {
  any = f;
  chain = λ n above small. absurd (omega (arith, level, above, small));
  primary = λ below. absurd (omega (arith, level, below));
  plain = plain;
}

-- ---- parentheses

pub unseen : (k : Kind) (ts : Tokens) → kind ts ≡ k → is_sign signs.BraceOpen k ≡ false → sees signs.BraceOpen ts ≡ false
unfolding sees
unseen k ts is other = ap (is_sign signs.BraceOpen) is ∙ other

-- a sign that is no brace
pub unseen_sign : (s : Sign) (ts : Tokens) → kind ts ≡ kinds.Sign s → same_sign s signs.BraceOpen ≡ false → sees signs.BraceOpen ts ≡ false
unseen_sign s ts is other = unseen (kinds.Sign s) ts is other

pub paren_unseen : (ts : Tokens) → kind ts ≡ kinds.Sign signs.ParenOpen → sees signs.BraceOpen ts ≡ false
unfolding same_sign
paren_unseen ts is = unseen_sign signs.ParenOpen ts is refl

pub in_parentheses : (x : Expr) (s : Spelled) → Reads x s → (ts us : Tokens) → Shows (parenthesized s.tokens) ts us → Printed IsPrimary ts x us
in_parentheses x s p ts us h =
    let c : Split s.tokens (sign signs.ParenClose) (next ts) us = split s.tokens (sign signs.ParenClose) (next ts) us h.1 in
    let q : Printed IsExpr (next ts) x c.middle = p.any (next ts) c.middle c.first in
    record { tree = q.tree; is = g.parentheses (taken (kinds.Sign signs.ParenOpen) ts h.0) q.is (taken_last (kinds.Sign signs.ParenClose) c.middle us c.rest); same = q.same }

by_choice : {P : Type 0} (b : Bool) (ks ls : List Kind) (ts us : Tokens) → Shows (cond b ks ls) ts us → (b ≡ true → Shows ks ts us → P) → (Shows ls ts us → P) → P
by_choice true ks ls ts us h f g = f refl h
by_choice false ks ls ts us h f g = g h

pub primary_within : (x : Expr) (s : Spelled) → Reads x s → (ts us : Tokens) → Shows (within 0 s) ts us → Printed IsPrimary ts x us
primary_within x s p ts us h =
    by_choice (nat_le s.level 0) s.tokens (parenthesized s.tokens) ts us h
    (λ low k. p.primary (leb-true s.level 0 low) ts us k)
    (λ k. in_parentheses x s p ts us k)

pub chain_within : (x : Expr) (s : Spelled) → Reads x s → (n : ℕ) → n ≤ 6 → (ts us : Tokens) → Shows (within (n + 1) s) ts us → Printed (IsChain n) ts x us
chain_within x s p n small ts us h =
    by_choice (nat_le s.level (n + 1)) s.tokens (parenthesized s.tokens) ts us h
    (λ low k. p.chain n (leb-true s.level (n + 1) low) small ts us k)
    (λ k. let q : Printed IsPrimary ts x us = in_parentheses x s p ts us k in record { tree = q.tree; is = as_chain n (as_unary q.is); same = q.same })

pub plain_within : (x : Expr) (s : Spelled) → Reads x s → (n : ℕ) → s.object_first ≡ false → (ts us : Tokens) → Shows (within n s) ts us → sees signs.BraceOpen ts ≡ false
plain_within x s p n none ts us h =
    by_choice (nat_le s.level n) s.tokens (parenthesized s.tokens) ts us h
    (λ low k. p.plain none ts us k)
    (λ k. paren_unseen ts k.0)
