-- What is printed of an expression of the grammar is read as it.
use Rattle.std.proofs.Common.{◌≡◌, ℕ, suc, ◌≤◌, Bool, true, false, cond, List, [], ◌∷◌, Option, Some, None, refl, subst, eqb-true, arith}
use Rattle.std.specs.Prelude.{◌==◌}
use Rattle.sync_tokens.specs.declared.token.Kind.{Kind}
use Rattle.sync_syntax.specs.declared.tree.Operator.{Operator}
use Rattle.sync_syntax.specs.declared.tree.Operator.TheVariants as operators
use Rattle.sync_syntax.specs.declared.tree.Expr.{Expr}
use Rattle.sync_syntax.specs.declared.tree.Suffix.{Suffix}
use Rattle.sync_syntax.specs.Reading.{Tokens, place}
use Rattle.sync_syntax.specs.Expressions.{followed, chained}
use Rattle.sync_syntax.specs.Operators.{level, operator, only_at, operator_at}
use Rattle.sync_syntax.specs.Grammar as g
use Rattle.sync_syntax.specs.Grammar.{IsExpr, IsChain, AreTails, IsUnary, AreSuffixes, IsSuffix, AreListed, AreExprs, AreFields, AreMembers, IsMember, IsPrimary}
use Rattle.sync_print.proofs.Shown.{Prints}
use Rattle.sync_print.proofs.PrintsNodes.{AllPrint, AllMembersPrint, PrintsSuffix, AllSuffixesPrint, AllTailsPrint, undefined_prints, null_prints, truth_prints, integer_prints, text_prints, name_prints, list_prints, object_prints, prefix_prints, member_suffix_prints, index_suffix_prints, call_suffix_prints, postfix_prints, chain_prints, choice_prints}

only_level : (n : ℕ) (p o : Operator) (b : Bool) → (level p == n) ≡ b → cond b (Some p) None ≡ Some o → level o ≡ n
only_level n p o true t h = let same : p ≡ o = cc in subst (λ q. level q ≡ n) same (eqb-true (level p) n t)
only_level n p o false t h = absurd cc

level_from : (n : ℕ) (r : Option Operator) (o : Operator) → only_at n r ≡ Some o → level o ≡ n
level_from n None o h = absurd cc
level_from n (Some p) o h = only_level n p o (level p == n) refl h

level_is : (n : ℕ) (k : Kind) (o : Operator) → operator_at (suc n) k ≡ Some o → level o ≡ suc n
unfolding operator_at
level_is n k o h = level_from (suc n) (operator k) o h

level_small : (n : ℕ) (o : Operator) → level o ≡ suc n → n ≤ 5
unfolding level
level_small n operators.Or h = omega (arith, h)
level_small n operators.And h = omega (arith, h)
level_small n operators.Equal h = omega (arith, h)
level_small n operators.NotEqual h = omega (arith, h)
level_small n operators.Same h = omega (arith, h)
level_small n operators.NotSame h = omega (arith, h)
level_small n operators.Less h = omega (arith, h)
level_small n operators.LessOrEqual h = omega (arith, h)
level_small n operators.Greater h = omega (arith, h)
level_small n operators.GreaterOrEqual h = omega (arith, h)
level_small n operators.Add h = omega (arith, h)
level_small n operators.Subtract h = omega (arith, h)
level_small n operators.Multiply h = omega (arith, h)

followed_prints : (x : Expr) (ss : List Suffix) → Prints x → AllSuffixesPrint ss → Prints (followed x ss)
followed_prints x [] p ps = p
followed_prints x (s ∷ ss) p ps = postfix_prints x s ss p ps

chained_prints : (n : ℕ) → (x : Expr) (ss : List (Operator × Expr)) → Prints x → AllTailsPrint n ss → Prints (chained x ss)
chained_prints n x [] p ps = p
chained_prints n x (s ∷ ss) p ps = chain_prints n (level_small n s.0 ps.0) x s ss p ps

mutual
  pub expr_prints : {ts us : Tokens} {x : Expr} → IsExpr ts x us → Prints x
  expr_prints (g.no_choice c) = chain_level_prints c
  expr_prints (g.choice {x = x} {a = a} {b = b} c q h k i) = choice_prints x a b (chain_level_prints c) (expr_prints h) (expr_prints i)

  chain_level_prints : {n : ℕ} {ts us : Tokens} {x : Expr} → IsChain n ts x us → Prints x
  chain_level_prints (g.operand u) = unary_prints u
  chain_level_prints (g.chain {level = n} {x = x} {tails = ss} c h) = chained_prints n x ss (chain_level_prints c) (tails_print h)

  tails_print : {n : ℕ} {ts us : Tokens} {xs : List (Operator × Expr)} → AreTails n ts xs us → AllTailsPrint n xs
  tails_print g.no_tail = tt
  tails_print (g.tail {level = n} {k = k} {op = o} take is c h) = (level_is n k o is, chain_level_prints c, tails_print h)

  unary_prints : {ts us : Tokens} {x : Expr} → IsUnary ts x us → Prints x
  unary_prints (g.prefixed {ts = ts} {op = o} {x = x} take is u) = prefix_prints (place ts) o x (unary_prints u)
  unary_prints (g.postfix {x = x} {found = ss} p h) = followed_prints x ss (primary_prints p) (suffixes_print h)

  suffixes_print : {ts us : Tokens} {ss : List Suffix} → AreSuffixes ts ss us → AllSuffixesPrint ss
  suffixes_print g.no_suffix = tt
  suffixes_print (g.one_suffix s h) = (suffix_prints s, suffixes_print h)

  suffix_prints : {ts us : Tokens} {s : Suffix} → IsSuffix ts s us → PrintsSuffix s
  suffix_prints (g.member_suffix {n = n} k l) = member_suffix_prints n
  suffix_prints (g.index_suffix {x = x} k h l) = index_suffix_prints x (expr_prints h)
  suffix_prints (g.call_suffix {found = xs} k h) = call_suffix_prints xs (listed_print h)

  listed_print : {close : _} {ts us : Tokens} {xs : List Expr} → AreListed close ts xs us → AllPrint xs
  listed_print (g.none_listed k) = tt
  listed_print (g.some_listed h k) = exprs_print h

  exprs_print : {ts us : Tokens} {xs : List Expr} → AreExprs ts xs us → AllPrint xs
  exprs_print (g.one_expr h) = (expr_prints h, tt)
  exprs_print (g.more_exprs h k i) = (expr_prints h, exprs_print i)

  fields_print : {ts us : Tokens} {ms : List (List ℕ × Expr)} → AreFields ts ms us → AllMembersPrint ms
  fields_print (g.no_fields k) = tt
  fields_print (g.some_fields h k) = members_print h

  members_print : {ts us : Tokens} {ms : List (List ℕ × Expr)} → AreMembers ts ms us → AllMembersPrint ms
  members_print (g.one_member m) = (member_prints m, tt)
  members_print (g.more_members m k h) = (member_prints m, members_print h)

  member_prints : {ts us : Tokens} {m : List ℕ × Expr} → IsMember ts m us → Prints m.1
  member_prints (g.member i k h) = expr_prints h

  primary_prints : {ts us : Tokens} {x : Expr} → IsPrimary ts x us → Prints x
  primary_prints (g.integer {ts = ts} {n = n} k) = integer_prints (place ts) n
  primary_prints (g.text {ts = ts} {n = n} k) = text_prints (place ts) n
  primary_prints (g.name {ts = ts} {n = n} k) = name_prints (place ts) n
  primary_prints (g.yes {ts = ts} k) = truth_prints (place ts) true
  primary_prints (g.no {ts = ts} k) = truth_prints (place ts) false
  primary_prints (g.null {ts = ts} k) = null_prints (place ts)
  primary_prints (g.undefined {ts = ts} k) = undefined_prints (place ts)
  primary_prints (g.parentheses k h l) = expr_prints h
  primary_prints (g.list {ts = ts} {found = xs} k h) = list_prints (place ts) xs (listed_print h)
  primary_prints (g.object {ts = ts} {found = ms} k h) = object_prints (place ts) ms (fields_print h)
