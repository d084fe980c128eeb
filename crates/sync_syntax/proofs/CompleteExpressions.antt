-- What is an expression by the grammar is read as it, where no more is open than may be.
use Rattle.std.proofs.Common.{◌≡◌, ℕ, zero, suc, ◌≤◌, Bool, true, false, List, [], ◌∷◌, ◌++◌, length, Ok, refl, sym, ap, ◌∙◌, append_assoc, append-nil, arith}
use Rattle.sync_tokens.specs.Spellable.{AreTokens}
use Rattle.sync_tokens.specs.declared.token.Kind.TheVariants as kinds
use Rattle.sync_tokens.specs.declared.token.Sign.{Sign}
use Rattle.sync_tokens.specs.declared.token.Sign.TheVariants as signs
use Rattle.sync_syntax.specs.declared.tree.Operator.{Operator}
use Rattle.sync_syntax.specs.declared.tree.Expr.{Expr}
use Rattle.sync_syntax.specs.declared.tree.Suffix.{Suffix}
use Rattle.sync_syntax.specs.Depth.{expr_depth, chain_depth, tails_depth, unary_depth, suffixes_depth, suffix_depth, listed_depth, exprs_depth, fields_depth, members_depth, member_depth, primary_depth}
use Rattle.sync_syntax.specs.Expressions.{begins_suffix, tails_from, tails, list_rule, member_rule, members_rule, primary, suffix_rule, suffixes_from, all_suffixes, unary_in, chain_in, nested}
use Rattle.sync_syntax.specs.Grammar as g
use Rattle.sync_syntax.specs.Grammar.{Takes, IsExpr, IsChain, AreTails, IsUnary, AreSuffixes, IsSuffix, AreListed, AreExprs, AreFields, AreMembers, IsMember, IsPrimary}
use Rattle.sync_syntax.specs.Reading.{Tokens, Rule, kind, same_sign, is_sign, sees, turns, separated, separated_from}
use Rattle.sync_syntax.proofs.Fronts.{EndsChain, sign_begins, sign_closes, closing, closing_ends, closing_unseen, question_ends, operator_ends, tighter, ends_at, expr_begins, begins_unseen, no_prefix, unseen}
use Rattle.sync_syntax.proofs.Past.{sign_past, operator_past, prefix_past, key_past, expr_past, chain_past, suffix_past, primary_past, member_past}
use Rattle.sync_syntax.proofs.Steps as s
use Rattle.sync_syntax.proofs.Steps.{some_tokens}

-- a sign that closes, behind an expression
closes : (t : Sign) {ts us : Tokens} → Takes (kinds.Sign t) ts us → sign_closes t ≡ true → closing (kind ts) ≡ true
closes t k is = ap closing k.is ∙ is

close_no_comma : (t : Sign) {ts us : Tokens} → Takes (kinds.Sign t) ts us → is_sign signs.Comma (kinds.Sign t) ≡ false → sees signs.Comma ts ≡ false
close_no_comma t k other = unseen signs.Comma (kinds.Sign t) k other

brace_no_comma : is_sign signs.Comma (kinds.Sign signs.BraceClose) ≡ false
unfolding same_sign
brace_no_comma = refl

bracket_no_comma : is_sign signs.Comma (kinds.Sign signs.BracketClose) ≡ false
unfolding same_sign
bracket_no_comma = refl

paren_no_comma : is_sign signs.Comma (kinds.Sign signs.ParenClose) ≡ false
unfolding same_sign
paren_no_comma = refl

no_suffix : (n : ℕ) (ts : Tokens) → EndsChain n (kind ts) → begins_suffix ts ≡ false
unfolding begins_suffix sees
no_suffix n ts e = e.no_suffix

tails_end : {n : ℕ} {ts us : Tokens} {xs : List (Operator × Expr)} → AreTails n ts xs us → EndsChain (suc n) (kind us) → EndsChain n (kind ts)
tails_end (g.no_tail {level = n} {ts = ts}) e = tighter n (kind ts) e
tails_end (g.tail {level = n} {k = k} {op = o} take is c h) e = ends_at n take (operator_ends n k o is)

suffix_ends : {ts us : Tokens} {x : Suffix} → IsSuffix ts x us → Unit {0}
suffix_ends s = tt

-- all that are found, by a count of turns that is enough
all_tails : (n : ℕ) (operand : Rule Expr) (ts us : Tokens) (xs : List (Operator × Expr)) → tails_from n operand (length ts) [] ts ≡ Ok (xs, us) → tails n operand ts ≡ Ok (xs, us)
unfolding tails turns
all_tails n operand ts us xs h = h

all_of_suffixes : (n : Bool → Rule Expr) (ts us : Tokens) (xs : List Suffix) → suffixes_from n (length ts) [] ts ≡ Ok (xs, us) → all_suffixes n ts ≡ Ok (xs, us)
unfolding all_suffixes turns
all_of_suffixes n ts us xs h = h

pub all_separated : {A : Type 0} (item : Rule A) (ts us : Tokens) (xs : List A) → separated_from item (length ts) [] ts ≡ Ok (xs, us) → separated item ts ≡ Ok (xs, us)
unfolding separated turns
all_separated item ts us xs h = h

mutual
  pub expr_read : {ts us : Tokens} {x : Expr} (d : IsExpr ts x us) (room : ℕ) → expr_depth d ≤ room → AreTokens ts → closing (kind us) ≡ true → nested room false ts ≡ Ok (x, us)
  expr_read (g.no_choice c) zero h a e = absurd (omega arith)
  expr_read (g.no_choice {ts = ts} {us = us} c) (suc room) h a e =
      s.no_choice_step room ts us (chain_read c room (omega arith) a (closing_ends 6 (kind us) e)) (closing_unseen signs.Question us refl e)
  expr_read (g.choice c q x k y) zero h a e = absurd (omega arith)
  expr_read (g.choice {ts = ts} c q x k y) (suc room) h a e =
      let p = chain_past c a in
      let r = sign_past q p.are in
      let t = expr_past x r.are in
      let u = sign_past k t.are in
      s.choice_step room ts (chain_read c room (omega arith) a (ends_at 6 q (question_ends 6))) q
      (expr_read x room (omega arith) r.are (closes signs.Colon k refl)) k (expr_read y room (omega arith) u.are e)

  pub chain_read : {n : ℕ} {ts us : Tokens} {x : Expr} (d : IsChain n ts x us) (room : ℕ) → chain_depth d ≤ room → AreTokens ts → EndsChain n (kind us) → chain_in room n ts ≡ Ok (x, us)
  chain_read (g.operand {ts = ts} u) room h a e = s.chain_zero room ts ∙ unary_read u room h a e
  chain_read (g.chain {level = n} {ts = ts} {us = us} {vs = vs} {tails = xs} c t) room h a e =
      s.chain_step room n ts us (chain_read c room (omega arith) a (tails_end t e))
      (all_tails (suc n) (chain_in room n) us vs xs (tails_read t room (omega arith) (chain_past c a).are e (length us) (omega arith) []))

  tails_read : {n : ℕ} {ts us : Tokens} {xs : List (Operator × Expr)} (d : AreTails n ts xs us) (room : ℕ) → tails_depth d ≤ room → AreTokens ts → EndsChain (suc n) (kind us)
      → (count : ℕ) → length ts ≤ count → (found : List (Operator × Expr)) → tails_from (suc n) (chain_in room n) count found ts ≡ Ok (found ++ xs, us)
  tails_read (g.no_tail {ts = ts}) room h a e zero l found = some_tokens ts a l
  tails_read (g.no_tail {level = n} {ts = ts}) room h a e (suc count) l found =
      s.tails_stop (suc n) (chain_in room n) count found ts (e.no_operator (suc n) (omega arith)) ∙ ap (λ z. Ok (z, ts)) (sym (append-nil found))
  tails_read (g.tail {ts = ts} take is c t) room h a e zero l found = some_tokens ts a l
  tails_read (g.tail {level = n} {us = us} {vs = vs} {ws = ws} {k = k} {op = o} {x = x} {tails = xs} take is c t) room h a e (suc count) l found =
      let p = operator_past (suc n) k o take is a in
      let q = chain_past c p.are in
      s.tails_more (suc n) (chain_in room n) count found take is (chain_read c room (omega arith) p.are (tails_end t e))
      (tails_read t room (omega arith) q.are e count (omega (arith, p.shorter, q.shorter)) (found ++ (o, x) ∷ []) ∙ ap (λ z. Ok (z, ws)) (append_assoc found ((o, x) ∷ []) xs))

  unary_read : {ts us : Tokens} {x : Expr} (d : IsUnary ts x us) (room : ℕ) → unary_depth d ≤ room → AreTokens ts → EndsChain 0 (kind us) → unary_in room ts ≡ Ok (x, us)
  unary_read (g.prefixed take is u) zero h a e = absurd (omega arith)
  unary_read (g.prefixed {us = us} {k = k} {op = o} take is u) (suc room) h a e =
      s.prefixed_step room take is (s.operand_step room us ∙ unary_read u room (omega arith) (prefix_past k o take is a).are e)
  unary_read (g.postfix {ts = ts} {us = us} {vs = vs} {found = xs} p t) room h a e =
      s.postfix_step room (nested room) ts us (no_prefix p) (primary_read p room (omega arith) a)
      (all_of_suffixes (nested room) us vs xs (suffixes_read t room (omega arith) (primary_past p a).are e (length us) (omega arith) []))

  suffixes_read : {ts us : Tokens} {xs : List Suffix} (d : AreSuffixes ts xs us) (room : ℕ) → suffixes_depth d ≤ room → AreTokens ts → EndsChain 0 (kind us)
      → (count : ℕ) → length ts ≤ count → (found : List Suffix) → suffixes_from (nested room) count found ts ≡ Ok (found ++ xs, us)
  suffixes_read (g.no_suffix {ts = ts}) room h a e zero l found = some_tokens ts a l
  suffixes_read (g.no_suffix {ts = ts}) room h a e (suc count) l found =
      s.suffixes_stop (nested room) count found ts (no_suffix 0 ts e) ∙ ap (λ z. Ok (z, ts)) (sym (append-nil found))
  suffixes_read (g.one_suffix {ts = ts} x t) room h a e zero l found = some_tokens ts a l
  suffixes_read (g.one_suffix {us = us} {vs = vs} {x = y} {found = ys} x t) room h a e (suc count) l found =
      let p = suffix_past x a in
      s.suffixes_more (nested room) count found x (suffix_read x room (omega arith) a)
      (suffixes_read t room (omega arith) p.are e count (omega (arith, p.shorter)) (found ++ y ∷ []) ∙ ap (λ z. Ok (z, vs)) (append_assoc found (y ∷ []) ys))

  suffix_read : {ts us : Tokens} {x : Suffix} (d : IsSuffix ts x us) (room : ℕ) → suffix_depth d ≤ room → AreTokens ts → suffix_rule (nested room) ts ≡ Ok (x, us)
  suffix_read (g.member_suffix k n) room h a = s.member_suffix_step (nested room) k n
  suffix_read (g.index_suffix k x l) room h a = s.index_suffix_step (nested room) k (expr_read x room h (sign_past k a).are (closes signs.BracketClose l refl)) l
  suffix_read (g.call_suffix k t) room h a = s.call_suffix_step (nested room) k (listed_read t room h (sign_past k a).are refl refl paren_no_comma)

  listed_read : {close : Sign} {ts us : Tokens} {xs : List Expr} (d : AreListed close ts xs us) (room : ℕ) → listed_depth d ≤ room → AreTokens ts
      → sign_closes close ≡ true → sign_begins close ≡ false → is_sign signs.Comma (kinds.Sign close) ≡ false → list_rule (nested room) close ts ≡ Ok (xs, us)
  listed_read (g.none_listed {close = close} k) room h a c b no_comma = s.list_none (nested room) close k
  listed_read (g.some_listed {close = close} {ts = ts} {us = us} {found = xs} t k) room h a c b no_comma =
      s.list_some (nested room) close ts (exprs_unseen close t b)
      (all_separated (nested room false) ts us xs (exprs_read t room h a (closes close k c) (close_no_comma close k no_comma) (length ts) (omega arith) [])) k

  exprs_unseen : (close : Sign) {ts us : Tokens} {xs : List Expr} → AreExprs ts xs us → sign_begins close ≡ false → sees close ts ≡ false
  exprs_unseen close (g.one_expr {ts = ts} x) b = begins_unseen close ts b (expr_begins x)
  exprs_unseen close (g.more_exprs {ts = ts} x k t) b = begins_unseen close ts b (expr_begins x)

  exprs_read : {ts us : Tokens} {xs : List Expr} (d : AreExprs ts xs us) (room : ℕ) → exprs_depth d ≤ room → AreTokens ts → closing (kind us) ≡ true → sees signs.Comma us ≡ false
      → (count : ℕ) → length ts ≤ count → (found : List Expr) → separated_from (nested room false) count found ts ≡ Ok (found ++ xs, us)
  exprs_read (g.one_expr {ts = ts} x) room h a e no_comma zero l found = some_tokens ts a l
  exprs_read (g.one_expr x) room h a e no_comma (suc count) l found = s.separated_last (nested room false) count found (expr_read x room h a e) no_comma
  exprs_read (g.more_exprs {ts = ts} x k t) room h a e no_comma zero l found = some_tokens ts a l
  exprs_read (g.more_exprs {ws = ws} {x = y} {found = ys} x k t) room h a e no_comma (suc count) l found =
      let p = expr_past x a in
      let q = sign_past k p.are in
      s.separated_more (nested room false) count found (expr_read x room (omega arith) a (closes signs.Comma k refl)) k
      (exprs_read t room (omega arith) q.are e no_comma count (omega (arith, p.shorter, q.shorter)) (found ++ y ∷ []) ∙ ap (λ z. Ok (z, ws)) (append_assoc found (y ∷ []) ys))

  fields_read : {ts us : Tokens} {xs : List (List ℕ × Expr)} (d : AreFields ts xs us) (room : ℕ) → fields_depth d ≤ room → AreTokens ts → members_rule (nested room) ts ≡ Ok (xs, us)
  fields_read (g.no_fields k) room h a = s.members_none (nested room) k
  fields_read (g.some_fields {ts = ts} {us = us} {found = xs} t k) room h a =
      s.members_some (nested room) ts (members_unseen t)
      (all_separated (member_rule (nested room)) ts us xs (members_read t room h a (closes signs.BraceClose k refl) (close_no_comma signs.BraceClose k brace_no_comma) (length ts) (omega arith) [])) k

  members_unseen : {ts us : Tokens} {xs : List (List ℕ × Expr)} → AreMembers ts xs us → sees signs.BraceClose ts ≡ false
  members_unseen (g.one_member m) = member_unseen m
  members_unseen (g.more_members m k t) = member_unseen m

  member_unseen : {ts us : Tokens} {x : List ℕ × Expr} → IsMember ts x us → sees signs.BraceClose ts ≡ false
  member_unseen (g.member (g.name_key n) k x) = unseen signs.BraceClose (kinds.Name _) n refl
  member_unseen (g.member (g.text_key n) k x) = unseen signs.BraceClose (kinds.Text _) n refl

  members_read : {ts us : Tokens} {xs : List (List ℕ × Expr)} (d : AreMembers ts xs us) (room : ℕ) → members_depth d ≤ room → AreTokens ts → closing (kind us) ≡ true → sees signs.Comma us ≡ false
      → (count : ℕ) → length ts ≤ count → (found : List (List ℕ × Expr)) → separated_from (member_rule (nested room)) count found ts ≡ Ok (found ++ xs, us)
  members_read (g.one_member {ts = ts} x) room h a e no_comma zero l found = some_tokens ts a l
  members_read (g.one_member x) room h a e no_comma (suc count) l found = s.separated_last (member_rule (nested room)) count found (member_read x room h a e) no_comma
  members_read (g.more_members {ts = ts} x k t) room h a e no_comma zero l found = some_tokens ts a l
  members_read (g.more_members {ws = ws} {m = y} {found = ys} x k t) room h a e no_comma (suc count) l found =
      let p = member_past x a in
      let q = sign_past k p.are in
      s.separated_more (member_rule (nested room)) count found (member_read x room (omega arith) a (closes signs.Comma k refl)) k
      (members_read t room (omega arith) q.are e no_comma count (omega (arith, p.shorter, q.shorter)) (found ++ y ∷ []) ∙ ap (λ z. Ok (z, ws)) (append_assoc found (y ∷ []) ys))

  member_read : {ts us : Tokens} {x : List ℕ × Expr} (d : IsMember ts x us) (room : ℕ) → member_depth d ≤ room → AreTokens ts → closing (kind us) ≡ true → member_rule (nested room) ts ≡ Ok (x, us)
  member_read (g.member i k x) room h a e =
      let p = key_past i a in
      let q = sign_past k p.are in
      s.member_step (nested room) i k (expr_read x room h q.are e)

  primary_read : {ts us : Tokens} {x : Expr} (d : IsPrimary ts x us) (room : ℕ) → primary_depth d ≤ room → AreTokens ts → primary (nested room) ts ≡ Ok (x, us)
  primary_read (g.integer k) room h a = s.integer_step (nested room) k
  primary_read (g.text k) room h a = s.text_step (nested room) k
  primary_read (g.name k) room h a = s.name_step (nested room) k
  primary_read (g.yes k) room h a = s.yes_step (nested room) k
  primary_read (g.no k) room h a = s.no_step (nested room) k
  primary_read (g.null k) room h a = s.null_step (nested room) k
  primary_read (g.undefined k) room h a = s.undefined_step (nested room) k
  primary_read (g.parentheses k x l) room h a = s.parentheses_step (nested room) k (expr_read x room h (sign_past k a).are (closes signs.ParenClose l refl)) l
  primary_read (g.list k t) room h a = s.list_step (nested room) k (listed_read t room h (sign_past k a).are refl refl bracket_no_comma)
  primary_read (g.object k t) room h a = s.object_step (nested room) k (fields_read t room h (sign_past k a).are)
