-- What is printed of each node is read as it, where that of its parts is.
use Rattle.std.proofs.Common.{◌≡◌, ℕ, suc, ◌+◌, ◌≤◌, Bool, true, false, List, [], ◌∷◌, ◌++◌, map, Some, refl, sym, subst, ap, ◌∙◌, arith}
use Rattle.sync_tokens.specs.Places.{first_place}
use Rattle.sync_tokens.specs.declared.place.Place.{Place}
use Rattle.sync_tokens.specs.declared.token.Kind.{Kind}
use Rattle.sync_tokens.specs.declared.token.Kind.TheVariants as kinds
use Rattle.sync_tokens.specs.declared.token.Sign.{Sign}
use Rattle.sync_tokens.specs.declared.token.Sign.TheVariants as signs
use Rattle.sync_tokens.specs.declared.token.Word.TheVariants as words
use Rattle.sync_syntax.specs.declared.tree.Operator.{Operator}
use Rattle.sync_syntax.specs.declared.tree.Operator.TheVariants as operators
use Rattle.sync_syntax.specs.declared.tree.Prefix.{Prefix}
use Rattle.sync_syntax.specs.declared.tree.Prefix.TheVariants as prefixes
use Rattle.sync_syntax.specs.declared.tree.Expr.{Expr}
use Rattle.sync_syntax.specs.declared.tree.Expr.TheOpen.{Expr-F, Suffix-F}
use Rattle.sync_syntax.specs.declared.tree.Expr.TheVariants as e
use Rattle.sync_syntax.specs.declared.tree.Suffix.{Suffix}
use Rattle.sync_syntax.specs.declared.tree.Suffix.TheVariants as suffix
use Rattle.sync_syntax.specs.Reading.{Tokens, kind, next, place, same_sign, sees}
use Rattle.sync_syntax.specs.Operators.{level, operator, operator_at}
use Rattle.sync_syntax.specs.Operators as ops
use Rattle.sync_syntax.specs.Grammar as g
use Rattle.sync_syntax.specs.Grammar.{IsExpr, IsChain, AreTails, IsUnary, AreSuffixes, IsSuffix, AreListed, AreExprs, AreFields, AreMembers, IsMember, IsPrimary}
use Rattle.sync_print.specs.Spelling.{prefix_kind, operator_sign}
use Rattle.sync_print.specs.Trees as t
use Rattle.sync_print.specs.Trees.{Spelled, spell, spell_suffix, spelled, spelled_suffix, within, sign}
use Rattle.sync_print.proofs.Layers.{bare, bare_suffix, bare_member, bare_tail, spelled_member, spelled_tail, spelled_undefined, spelled_null, spelled_bool, spelled_integer, spelled_text, spelled_name, spelled_list, spelled_object, spelled_prefix, spelled_postfix, spelled_chain, spelled_choice, spelled_suffix_member, spelled_suffix_index, spelled_suffix_call, bare_undefined, bare_null, bare_bool, bare_integer, bare_text, bare_name, bare_list, bare_object, bare_prefix, bare_postfix, bare_chain, bare_choice, bare_suffix_index, bare_suffix_call}
use Rattle.sync_print.proofs.Shown.{Shows, Split, split, taken, taken_last, Printed, Reads, Prints, from_primary, from_chain, from_choice, unseen, unseen_sign, primary_within, chain_within, plain_within}

both : {A : Type 0} {x y : A} {xs ys : List A} → x ≡ y → xs ≡ ys → x ∷ xs ≡ y ∷ ys
both {A} {x} {y} {xs} {ys} p q = ap (λ z. z ∷ xs) p ∙ ap (λ zs. y ∷ zs) q

-- ---- nodes without parts

-- what reads what a node is printed as, reads what the node is printed as
layered : (x : Expr) (s : Spelled) → spelled x ≡ s → Reads x s → Prints x
layered x s is r = subst (λ z. Reads x z) (sym is) r

pub undefined_prints : (p : Place) → Prints (e.Undefined p)
undefined_prints p = layered (e.Undefined p) (spell (Expr-F.Undefined p)) (spelled_undefined p) (from_primary (e.Undefined p) (spell (Expr-F.Undefined p))
    (λ ts us h. record { tree = e.Undefined (place ts); is = g.undefined (taken_last (kinds.Word words.Undefined) ts us h); same = bare_undefined (place ts) ∙ sym (bare_undefined p) })
    (λ _ ts us h. unseen (kinds.Word words.Undefined) ts h.0 refl))

pub null_prints : (p : Place) → Prints (e.Null p)
null_prints p = layered (e.Null p) (spell (Expr-F.Null p)) (spelled_null p) (from_primary (e.Null p) (spell (Expr-F.Null p))
    (λ ts us h. record { tree = e.Null (place ts); is = g.null (taken_last (kinds.Word words.Null) ts us h); same = bare_null (place ts) ∙ sym (bare_null p) })
    (λ _ ts us h. unseen (kinds.Word words.Null) ts h.0 refl))

pub truth_prints : (p : Place) (b : Bool) → Prints (e.Bool p b)
truth_prints p true = layered (e.Bool p true) (spell (Expr-F.Bool p true)) (spelled_bool p true) (from_primary (e.Bool p true) (spell (Expr-F.Bool p true))
    (λ ts us h. record { tree = e.Bool (place ts) true; is = g.yes (taken_last (kinds.Word words.True) ts us h); same = bare_bool (place ts) true ∙ sym (bare_bool p true) })
    (λ _ ts us h. unseen (kinds.Word words.True) ts h.0 refl))
truth_prints p false = layered (e.Bool p false) (spell (Expr-F.Bool p false)) (spelled_bool p false) (from_primary (e.Bool p false) (spell (Expr-F.Bool p false))
    (λ ts us h. record { tree = e.Bool (place ts) false; is = g.no (taken_last (kinds.Word words.False) ts us h); same = bare_bool (place ts) false ∙ sym (bare_bool p false) })
    (λ _ ts us h. unseen (kinds.Word words.False) ts h.0 refl))

pub integer_prints : (p : Place) (n : ℕ) → Prints (e.Integer p n)
integer_prints p n = layered (e.Integer p n) (spell (Expr-F.Integer p n)) (spelled_integer p n) (from_primary (e.Integer p n) (spell (Expr-F.Integer p n))
    (λ ts us h. record { tree = e.Integer (place ts) n; is = g.integer (taken_last (kinds.Integer n) ts us h); same = bare_integer (place ts) n ∙ sym (bare_integer p n) })
    (λ _ ts us h. unseen (kinds.Integer n) ts h.0 refl))

pub text_prints : (p : Place) (x : List ℕ) → Prints (e.Text p x)
text_prints p x = layered (e.Text p x) (spell (Expr-F.Text p x)) (spelled_text p x) (from_primary (e.Text p x) (spell (Expr-F.Text p x))
    (λ ts us h. record { tree = e.Text (place ts) x; is = g.text (taken_last (kinds.Text x) ts us h); same = bare_text (place ts) x ∙ sym (bare_text p x) })
    (λ _ ts us h. unseen (kinds.Text x) ts h.0 refl))

pub name_prints : (p : Place) (x : List ℕ) → Prints (e.Name p x)
name_prints p x = layered (e.Name p x) (spell (Expr-F.Name p x)) (spelled_name p x) (from_primary (e.Name p x) (spell (Expr-F.Name p x))
    (λ ts us h. record { tree = e.Name (place ts) x; is = g.name (taken_last (kinds.Name x) ts us h); same = bare_name (place ts) x ∙ sym (bare_name p x) })
    (λ _ ts us h. unseen (kinds.Name x) ts h.0 refl))

-- ---- expressions with commas between

abbrev pub AllPrint : List Expr → Type 0
AllPrint [] = Unit {0}
AllPrint (x ∷ xs) = Prints x × AllPrint xs

record PrintedList (R : Tokens → List Expr → Tokens → Type 0) (ts : Tokens) (xs : List Expr) (us : Tokens) : Type 0 where
  trees : List Expr
  are : R ts trees us
  same : map bare trees ≡ map bare xs

-- behind an expression that is read already
more_print : (xs : List Expr) → AllPrint xs → (first : Tokens) (y : Expr) (ts us : Tokens) → IsExpr first y ts → Shows (t.more (map spelled xs)) ts us
    → (ys : List Expr) × AreExprs first (y ∷ ys) us × (map bare ys ≡ map bare xs)
more_print [] ps first y ts us is h = ([], subst (λ vs. AreExprs first (y ∷ []) vs) (sym h) (g.one_expr is), refl)
more_print (x ∷ xs) ps first y ts us is h =
    let s : Split (spelled x).tokens (t.more (map spelled xs)) (next ts) us = split (spelled x).tokens (t.more (map spelled xs)) (next ts) us h.1 in
    let p : Printed IsExpr (next ts) x s.middle = ps.0.any (next ts) s.middle s.first in
    let r : ((ys : List Expr) × AreExprs (next ts) (p.tree ∷ ys) us × (map bare ys ≡ map bare xs)) = more_print xs ps.1 (next ts) p.tree s.middle us p.is s.rest in
    (p.tree ∷ r.0, g.more_exprs is (taken (kinds.Sign signs.Comma) ts h.0) r.1, both p.same r.2)

listed_print : (close : Sign) (xs : List Expr) → AllPrint xs → (ts us : Tokens) → Shows (t.listed (map spelled xs) ++ sign close) ts us → PrintedList (AreListed close) ts xs us
listed_print close [] ps ts us h = record { trees = []; are = g.none_listed (taken_last (kinds.Sign close) ts us h); same = refl }
listed_print close (x ∷ xs) ps ts us h =
    let o : Split (t.listed (map spelled (x ∷ xs))) (sign close) ts us = split (t.listed (map spelled (x ∷ xs))) (sign close) ts us h in
    let s : Split (spelled x).tokens (t.more (map spelled xs)) ts o.middle = split (spelled x).tokens (t.more (map spelled xs)) ts o.middle o.first in
    let p : Printed IsExpr ts x s.middle = ps.0.any ts s.middle s.first in
    let r : ((ys : List Expr) × AreExprs ts (p.tree ∷ ys) o.middle × (map bare ys ≡ map bare xs)) = more_print xs ps.1 ts p.tree s.middle o.middle p.is s.rest in
    record { trees = p.tree ∷ r.0; are = g.some_listed r.1 (taken_last (kinds.Sign close) o.middle us o.rest); same = both p.same r.2 }

pub list_prints : (p : Place) (xs : List Expr) → AllPrint xs → Prints (e.List p xs)
unfolding same_sign
list_prints p xs ps = layered (e.List p xs) (spell (Expr-F.List p (map spelled xs))) (spelled_list p xs) (from_primary (e.List p xs) (spell (Expr-F.List p (map spelled xs)))
    (λ ts us h. (let r : PrintedList (AreListed signs.BracketClose) (next ts) xs us = listed_print signs.BracketClose xs ps (next ts) us h.1 in
    record { tree = e.List (place ts) r.trees; is = g.list (taken (kinds.Sign signs.BracketOpen) ts h.0) r.are; same = bare_list (place ts) r.trees ∙ ap (e.List first_place) r.same ∙ sym (bare_list p xs) }))
    (λ _ ts us h. unseen_sign signs.BracketOpen ts h.0 refl))

-- ---- members

abbrev pub AllMembersPrint : List (List ℕ × Expr) → Type 0
AllMembersPrint [] = Unit {0}
AllMembersPrint (m ∷ ms) = Prints m.1 × AllMembersPrint ms

member_print : (m : List ℕ × Expr) → Prints m.1 → (ts us : Tokens) → Shows (t.member (spelled_member m)) ts us → (n : List ℕ × Expr) × IsMember ts n us × (bare_member n ≡ bare_member m)
member_print m p ts us h =
    let q : Printed IsExpr (next (next ts)) m.1 us = p.any (next (next ts)) us h.1.1 in
    ((m.0, q.tree), g.member (g.text_key (taken (kinds.Text m.0) ts h.0)) (taken (kinds.Sign signs.Colon) (next ts) h.1.0) q.is, ap (λ x. (m.0, x)) q.same)

more_members_print : (ms : List (List ℕ × Expr)) → AllMembersPrint ms → (first : Tokens) (n : List ℕ × Expr) (ts us : Tokens) → IsMember first n ts
    → Shows (t.more_members (map spelled_member ms)) ts us → (ns : List (List ℕ × Expr)) × AreMembers first (n ∷ ns) us × (map bare_member ns ≡ map bare_member ms)
more_members_print [] ps first n ts us is h = ([], subst (λ vs. AreMembers first (n ∷ []) vs) (sym h) (g.one_member is), refl)
more_members_print (m ∷ ms) ps first n ts us is h =
    let s : Split (t.member (spelled_member m)) (t.more_members (map spelled_member ms)) (next ts) us = split (t.member (spelled_member m)) (t.more_members (map spelled_member ms)) (next ts) us h.1 in
    let p : ((o : List ℕ × Expr) × IsMember (next ts) o s.middle × (bare_member o ≡ bare_member m)) = member_print m ps.0 (next ts) s.middle s.first in
    let r : ((ns : List (List ℕ × Expr)) × AreMembers (next ts) (p.0 ∷ ns) us × (map bare_member ns ≡ map bare_member ms)) = more_members_print ms ps.1 (next ts) p.0 s.middle us p.1 s.rest in
    (p.0 ∷ r.0, g.more_members is (taken (kinds.Sign signs.Comma) ts h.0) r.1, both p.2 r.2)

fields_print : (ms : List (List ℕ × Expr)) → AllMembersPrint ms → (ts us : Tokens) → Shows (t.members (map spelled_member ms) ++ sign signs.BraceClose) ts us
    → (ns : List (List ℕ × Expr)) × AreFields ts ns us × (map bare_member ns ≡ map bare_member ms)
fields_print [] ps ts us h = ([], g.no_fields (taken_last (kinds.Sign signs.BraceClose) ts us h), refl)
fields_print (m ∷ ms) ps ts us h =
    let o : Split (t.members (map spelled_member (m ∷ ms))) (sign signs.BraceClose) ts us = split (t.members (map spelled_member (m ∷ ms))) (sign signs.BraceClose) ts us h in
    let s : Split (t.member (spelled_member m)) (t.more_members (map spelled_member ms)) ts o.middle = split (t.member (spelled_member m)) (t.more_members (map spelled_member ms)) ts o.middle o.first in
    let p : ((q : List ℕ × Expr) × IsMember ts q s.middle × (bare_member q ≡ bare_member m)) = member_print m ps.0 ts s.middle s.first in
    let r : ((ns : List (List ℕ × Expr)) × AreMembers ts (p.0 ∷ ns) o.middle × (map bare_member ns ≡ map bare_member ms)) = more_members_print ms ps.1 ts p.0 s.middle o.middle p.1 s.rest in
    (p.0 ∷ r.0, g.some_fields r.1 (taken_last (kinds.Sign signs.BraceClose) o.middle us o.rest), both p.2 r.2)

pub object_prints : (p : Place) (ms : List (List ℕ × Expr)) → AllMembersPrint ms → Prints (e.Object p ms)
object_prints p ms ps = layered (e.Object p ms) (spell (Expr-F.Object p (map spelled_member ms))) (spelled_object p ms) (from_primary (e.Object p ms) (spell (Expr-F.Object p (map spelled_member ms)))
    (λ ts us h. (let r : ((ns : List (List ℕ × Expr)) × AreFields (next ts) ns us × (map bare_member ns ≡ map bare_member ms)) = fields_print ms ps (next ts) us h.1 in
    record { tree = e.Object (place ts) r.0; is = g.object (taken (kinds.Sign signs.BraceOpen) ts h.0) r.1; same = bare_object (place ts) r.0 ∙ ap (e.Object first_place) r.2 ∙ sym (bare_object p ms) }))
    (λ not_so ts us h. absurd cc))

-- ---- operators before their operand

prefix_is : (o : Prefix) → ops.prefix_by (prefix_kind o) ≡ Some o
unfolding ops.prefix_by
prefix_is prefixes.Not = refl
prefix_is prefixes.Negate = refl
prefix_is prefixes.Typeof = refl

prefix_plain : (o : Prefix) (ts : Tokens) → kind ts ≡ prefix_kind o → sees signs.BraceOpen ts ≡ false
unfolding same_sign
prefix_plain prefixes.Not ts h = unseen_sign signs.Not ts h refl
prefix_plain prefixes.Negate ts h = unseen_sign signs.Minus ts h refl
prefix_plain prefixes.Typeof ts h = unseen (kinds.Word words.Typeof) ts h refl

-- an operand of an operator before it
operand_of : {ts us : Tokens} {x : Expr} → IsChain 0 ts x us → IsUnary ts x us
operand_of (g.operand u) = u

pub prefix_prints : (p : Place) (o : Prefix) (x : Expr) → Prints x → Prints (e.Prefix p o x)
prefix_prints p o x px = layered (e.Prefix p o x) (spell (Expr-F.Prefix p o (spelled x))) (spelled_prefix p o x) (from_chain (e.Prefix p o x) (spell (Expr-F.Prefix p o (spelled x))) 0 (omega arith) refl
    (λ ts us h. (let q : Printed (IsChain 0) (next ts) x us = chain_within x (spelled x) px 0 (omega arith) (next ts) us h.1 in
    record { tree = e.Prefix (place ts) o q.tree; is = g.operand (g.prefixed (taken (prefix_kind o) ts h.0) (prefix_is o) (operand_of q.is)); same = bare_prefix (place ts) o q.tree ∙ ap (e.Prefix first_place o) q.same ∙ sym (bare_prefix p o x) }))
    (λ _ ts us h. prefix_plain o ts h.0))

-- ---- what follows an expression

pub record PrintsSuffix (s : Suffix) : Type 0 where
  pub from : (ts us : Tokens) → Shows (spelled_suffix s) ts us → (r : Suffix) × IsSuffix ts r us × (bare_suffix r ≡ bare_suffix s)

abbrev pub AllSuffixesPrint : List Suffix → Type 0
AllSuffixesPrint [] = Unit {0}
AllSuffixesPrint (s ∷ ss) = PrintsSuffix s × AllSuffixesPrint ss

suffix_layered : (s : Suffix) (ks : List Kind) → spelled_suffix s ≡ ks → ((ts us : Tokens) → Shows ks ts us → (r : Suffix) × IsSuffix ts r us × (bare_suffix r ≡ bare_suffix s)) → PrintsSuffix s
suffix_layered s ks is f = record { from = λ ts us h. f ts us (subst (λ z. Shows z ts us) is h) }

pub member_suffix_prints : (n : List ℕ) → PrintsSuffix (suffix.Member n)
member_suffix_prints n = suffix_layered (suffix.Member n) (spell_suffix (Suffix-F.Member n)) (spelled_suffix_member n)
    (λ ts us h. (suffix.Member n, g.member_suffix (taken (kinds.Sign signs.Dot) ts h.0) (taken_last (kinds.Name n) (next ts) us h.1), refl))

pub index_suffix_prints : (x : Expr) → Prints x → PrintsSuffix (suffix.Index x)
index_suffix_prints x p = suffix_layered (suffix.Index x) (spell_suffix (Suffix-F.Index (spelled x))) (spelled_suffix_index x) (λ ts us h. (
    let s : Split (spelled x).tokens (sign signs.BracketClose) (next ts) us = split (spelled x).tokens (sign signs.BracketClose) (next ts) us h.1 in
    let q : Printed IsExpr (next ts) x s.middle = p.any (next ts) s.middle s.first in (
      suffix.Index q.tree,
      g.index_suffix (taken (kinds.Sign signs.BracketOpen) ts h.0) q.is (taken_last (kinds.Sign signs.BracketClose) s.middle us s.rest),
      bare_suffix_index q.tree ∙ ap suffix.Index q.same ∙ sym (bare_suffix_index x),
    )))

pub call_suffix_prints : (xs : List Expr) → AllPrint xs → PrintsSuffix (suffix.Call xs)
call_suffix_prints xs ps = suffix_layered (suffix.Call xs) (spell_suffix (Suffix-F.Call (map spelled xs))) (spelled_suffix_call xs) (λ ts us h. (
    let r : PrintedList (AreListed signs.ParenClose) (next ts) xs us = listed_print signs.ParenClose xs ps (next ts) us h.1 in
    (suffix.Call r.trees, g.call_suffix (taken (kinds.Sign signs.ParenOpen) ts h.0) r.are, bare_suffix_call r.trees ∙ ap suffix.Call r.same ∙ sym (bare_suffix_call xs))))

suffixes_print : (ss : List Suffix) → AllSuffixesPrint ss → (ts us : Tokens) → Shows (t.suffixes (map spelled_suffix ss)) ts us
    → (rs : List Suffix) × AreSuffixes ts rs us × (map bare_suffix rs ≡ map bare_suffix ss)
suffixes_print [] ps ts us h = ([], subst (λ vs. AreSuffixes ts [] vs) (sym h) g.no_suffix, refl)
suffixes_print (s ∷ ss) ps ts us h =
    let c : Split (spelled_suffix s) (t.suffixes (map spelled_suffix ss)) ts us = split (spelled_suffix s) (t.suffixes (map spelled_suffix ss)) ts us h in
    let p : ((r : Suffix) × IsSuffix ts r c.middle × (bare_suffix r ≡ bare_suffix s)) = ps.0.from ts c.middle c.first in
    let r : ((rs : List Suffix) × AreSuffixes c.middle rs us × (map bare_suffix rs ≡ map bare_suffix ss)) = suffixes_print ss ps.1 c.middle us c.rest in
    (p.0 ∷ r.0, g.one_suffix p.1 r.1, both p.2 r.2)

-- at least one
postfix_read : (x y : Expr) (s : Suffix) (ss : List Suffix) → bare y ≡ bare x → (ts ms us : Tokens) → IsPrimary ts y ms
    → (rs : List Suffix) → AreSuffixes ms rs us → map bare_suffix rs ≡ map bare_suffix (s ∷ ss) → Printed (IsChain 0) ts (e.Postfix x (s ∷ ss)) us
postfix_read x y s ss same ts ms us is [] are none = absurd cc
postfix_read x y s ss same ts ms us is (r ∷ rs) are some =
    record {
      tree = e.Postfix y (r ∷ rs);
      is = g.operand (g.postfix is are);
      same = bare_postfix y (r ∷ rs) ∙ ap (λ z. e.Postfix z (map bare_suffix (r ∷ rs))) same ∙ ap (e.Postfix (bare x)) some ∙ sym (bare_postfix x (s ∷ ss));
    }

abbrev postfix_layer : Expr → List Suffix → Spelled
postfix_layer x ss = spell (Expr-F.Postfix (spelled x) (map spelled_suffix ss))

pub postfix_prints : (x : Expr) (s : Suffix) (ss : List Suffix) → Prints x → AllSuffixesPrint (s ∷ ss) → Prints (e.Postfix x (s ∷ ss))
postfix_prints x s ss px ps = layered (e.Postfix x (s ∷ ss)) (postfix_layer x (s ∷ ss)) (spelled_postfix x (s ∷ ss)) (from_chain (e.Postfix x (s ∷ ss)) (postfix_layer x (s ∷ ss)) 0 (omega arith) refl
    (λ ts us h. (
    let c : Split (within 0 (spelled x)) (t.suffixes (map spelled_suffix (s ∷ ss))) ts us = split (within 0 (spelled x)) (t.suffixes (map spelled_suffix (s ∷ ss))) ts us h in
    let q : Printed IsPrimary ts x c.middle = primary_within x (spelled x) px ts c.middle c.first in
    let r : ((rs : List Suffix) × AreSuffixes c.middle rs us × (map bare_suffix rs ≡ map bare_suffix (s ∷ ss))) = suffixes_print (s ∷ ss) ps c.middle us c.rest in
    postfix_read x q.tree s ss q.same ts c.middle us q.is r.0 r.1 r.2))
    (λ none ts us h. (
    let c : Split (within 0 (spelled x)) (t.suffixes (map spelled_suffix (s ∷ ss))) ts us = split (within 0 (spelled x)) (t.suffixes (map spelled_suffix (s ∷ ss))) ts us h in
    plain_within x (spelled x) px 0 none ts c.middle c.first)))

-- ---- operators

abbrev pub AllTailsPrint : ℕ → List (Operator × Expr) → Type 0
AllTailsPrint n [] = Unit {0}
AllTailsPrint n (x ∷ xs) = (level x.0 ≡ suc n) × Prints x.1 × AllTailsPrint n xs

operator_is : (o : Operator) → operator_at (level o) (kinds.Sign (operator_sign o)) ≡ Some o
unfolding operator_at operator level
operator_is operators.Or = refl
operator_is operators.And = refl
operator_is operators.Equal = refl
operator_is operators.NotEqual = refl
operator_is operators.Same = refl
operator_is operators.NotSame = refl
operator_is operators.Less = refl
operator_is operators.LessOrEqual = refl
operator_is operators.Greater = refl
operator_is operators.GreaterOrEqual = refl
operator_is operators.Add = refl
operator_is operators.Subtract = refl
operator_is operators.Multiply = refl

operator_of_level : (n : ℕ) (o : Operator) → level o ≡ suc n → operator_at (suc n) (kinds.Sign (operator_sign o)) ≡ Some o
operator_of_level n o is = subst (λ m. operator_at m (kinds.Sign (operator_sign o)) ≡ Some o) is (operator_is o)

tails_print : (n : ℕ) → n ≤ 6 → (xs : List (Operator × Expr)) → AllTailsPrint n xs → (ts us : Tokens) → Shows (t.tails (n + 1) (map spelled_tail xs)) ts us
    → (ys : List (Operator × Expr)) × AreTails n ts ys us × (map bare_tail ys ≡ map bare_tail xs)
tails_print n small [] ps ts us h = ([], subst (λ vs. AreTails n ts [] vs) (sym h) g.no_tail, refl)
tails_print n small (x ∷ xs) ps ts us h =
    let c : Split (within (n + 1) (spelled x.1)) (t.tails (n + 1) (map spelled_tail xs)) (next ts) us = split (within (n + 1) (spelled x.1)) (t.tails (n + 1) (map spelled_tail xs)) (next ts) us h.1 in
    let q : Printed (IsChain n) (next ts) x.1 c.middle = chain_within x.1 (spelled x.1) ps.1 n small (next ts) c.middle c.first in
    let r : ((ys : List (Operator × Expr)) × AreTails n c.middle ys us × (map bare_tail ys ≡ map bare_tail xs)) = tails_print n small xs ps.2 c.middle us c.rest in
    ((x.0, q.tree) ∷ r.0, g.tail (taken (kinds.Sign (operator_sign x.0)) ts h.0) (operator_of_level n x.0 ps.0) q.is r.1, both (ap (λ z. (x.0, z)) q.same) r.2)

chain_read : (n : ℕ) (x y : Expr) (s : Operator × Expr) (ss : List (Operator × Expr)) → bare y ≡ bare x → (ts ms us : Tokens) → IsChain n ts y ms
    → (rs : List (Operator × Expr)) → AreTails n ms rs us → map bare_tail rs ≡ map bare_tail (s ∷ ss) → Printed (IsChain (suc n)) ts (e.Chain x (s ∷ ss)) us
chain_read n x y s ss same ts ms us is [] are none = absurd cc
chain_read n x y s ss same ts ms us is (r ∷ rs) are some =
    record {
      tree = e.Chain y (r ∷ rs);
      is = g.chain is are;
      same = bare_chain y (r ∷ rs) ∙ ap (λ z. e.Chain z (map bare_tail (r ∷ rs))) same ∙ ap (e.Chain (bare x)) some ∙ sym (bare_chain x (s ∷ ss));
    }

abbrev chain_tokens : ℕ → Expr → List (Operator × Expr) → List Kind
chain_tokens n x ss = within n (spelled x) ++ t.tails n (map spelled_tail ss)

abbrev chain_layer : Expr → List (Operator × Expr) → Spelled
chain_layer x ss = spell (Expr-F.Chain (spelled x) (map spelled_tail ss))

pub chain_prints : (n : ℕ) → n ≤ 5 → (x : Expr) (s : Operator × Expr) (ss : List (Operator × Expr)) → Prints x → AllTailsPrint n (s ∷ ss) → Prints (e.Chain x (s ∷ ss))
chain_prints n small x s ss px ps =
    let same : level s.0 ≡ n + 1 = omega (arith, ps.0) in
    let higher : level s.0 + 1 ≡ suc n + 1 = omega (arith, ps.0) in
    let below : suc n ≤ 6 = omega (arith, small) in
    let lower : n ≤ 6 = omega (arith, small) in
    layered (e.Chain x (s ∷ ss)) (chain_layer x (s ∷ ss)) (spelled_chain x (s ∷ ss)) (from_chain (e.Chain x (s ∷ ss)) (chain_layer x (s ∷ ss)) (suc n) below higher
    (λ ts us h. (
    let k : Shows (chain_tokens (n + 1) x (s ∷ ss)) ts us = subst (λ m. Shows (chain_tokens m x (s ∷ ss)) ts us) same h in
    let c : Split (within (n + 1) (spelled x)) (t.tails (n + 1) (map spelled_tail (s ∷ ss))) ts us = split (within (n + 1) (spelled x)) (t.tails (n + 1) (map spelled_tail (s ∷ ss))) ts us k in
    let q : Printed (IsChain n) ts x c.middle = chain_within x (spelled x) px n lower ts c.middle c.first in
    let r : ((rs : List (Operator × Expr)) × AreTails n c.middle rs us × (map bare_tail rs ≡ map bare_tail (s ∷ ss))) = tails_print n lower (s ∷ ss) ps c.middle us c.rest in
    chain_read n x q.tree s ss q.same ts c.middle us q.is r.0 r.1 r.2))
    (λ none ts us h. (
    let c : Split (within (level s.0) (spelled x)) (t.tails (level s.0) (map spelled_tail (s ∷ ss))) ts us = split (within (level s.0) (spelled x)) (t.tails (level s.0) (map spelled_tail (s ∷ ss))) ts us h in
    plain_within x (spelled x) px (level s.0) none ts c.middle c.first)))

-- ---- choices

abbrev choice_layer : Expr → Expr → Expr → Spelled
choice_layer x a b = spell (Expr-F.Choice (spelled x) (spelled a) (spelled b))

abbrev choice_tail : Expr → Expr → List Kind
choice_tail a b = kinds.Sign signs.Question ∷ ((spelled a).tokens ++ kinds.Sign signs.Colon ∷ (spelled b).tokens)

pub choice_prints : (x a b : Expr) → Prints x → Prints a → Prints b → Prints (e.Choice x a b)
choice_prints x a b px pa pb = layered (e.Choice x a b) (choice_layer x a b) (spelled_choice x a b) (from_choice (e.Choice x a b) (choice_layer x a b) refl
    (λ ts us h. (
    let c : Split (within 7 (spelled x)) (choice_tail a b) ts us = split (within 7 (spelled x)) (choice_tail a b) ts us h in
    let q : Printed (IsChain 6) ts x c.middle = chain_within x (spelled x) px 6 (omega arith) ts c.middle c.first in
    let d : Split (spelled a).tokens (kinds.Sign signs.Colon ∷ (spelled b).tokens) (next c.middle) us = split (spelled a).tokens (kinds.Sign signs.Colon ∷ (spelled b).tokens) (next c.middle) us c.rest.1 in
    let r : Printed IsExpr (next c.middle) a d.middle = pa.any (next c.middle) d.middle d.first in
    let s : Printed IsExpr (next d.middle) b us = pb.any (next d.middle) us d.rest.1 in
    record {
      tree = e.Choice q.tree r.tree s.tree;
      is = g.choice q.is (taken (kinds.Sign signs.Question) c.middle c.rest.0) r.is (taken (kinds.Sign signs.Colon) d.middle d.rest.0) s.is;
      same = bare_choice q.tree r.tree s.tree ∙ ap (λ z. e.Choice z (bare r.tree) (bare s.tree)) q.same ∙ ap (λ z. e.Choice (bare x) z (bare s.tree)) r.same ∙ ap (e.Choice (bare x) (bare a)) s.same ∙ sym (bare_choice x a b);
    }))
    (λ none ts us h. (
    let c : Split (within 7 (spelled x)) (choice_tail a b) ts us = split (within 7 (spelled x)) (choice_tail a b) ts us h in
    plain_within x (spelled x) px 7 none ts c.middle c.first)))
