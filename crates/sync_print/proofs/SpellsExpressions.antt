-- What is printed of an expression by the grammar can be spelled, where the tokens are those of a text.
use Rattle.std.proofs.Common.{◌≡◌, ℕ, ◌<◌, nat_le, nat_lt, Bool, true, false, cond, List, [], ◌∷◌, ◌++◌, map, sym, subst, ltb-true, arith}
use Rattle.std.specs.Prelude.{IsUtf8}
use Rattle.std.proofs.lemmas.Str.{encode_ascii, IsUtf8-append, IsUtf8-encode, IsUtf8-nil}
use lib.Utf8.{scalar}
use Rattle.sync_tokens.specs.Spellable.{IsIdentifier, IsSpellable, AreSpellable, IsLast, AreTokens}
use Rattle.sync_tokens.specs.declared.place.Place.{Place}
use Rattle.sync_tokens.specs.declared.token.Kind.{Kind}
use Rattle.sync_tokens.specs.declared.token.Kind.TheVariants as kinds
use Rattle.sync_tokens.specs.declared.token.Sign.{Sign}
use Rattle.sync_tokens.specs.declared.token.Sign.TheVariants as signs
use Rattle.sync_syntax.specs.declared.tree.Operator.{Operator}
use Rattle.sync_syntax.specs.declared.tree.Prefix.{Prefix}
use Rattle.sync_syntax.specs.declared.tree.Prefix.TheVariants as prefixes
use Rattle.sync_syntax.specs.declared.tree.Expr.{Expr}
use Rattle.sync_syntax.specs.declared.tree.Expr.TheVariants as e
use Rattle.sync_syntax.specs.declared.tree.Suffix.{Suffix}
use Rattle.sync_syntax.specs.Reading.{Tokens, kind, next, place}
use Rattle.sync_syntax.specs.Expressions.{followed, chained}
use Rattle.sync_syntax.specs.Grammar as g
use Rattle.sync_syntax.specs.Grammar.{Takes, IsKey, IsExpr, IsChain, AreTails, IsUnary, AreSuffixes, IsSuffix, AreListed, AreExprs, AreFields, AreMembers, IsMember, IsPrimary}
use Rattle.sync_print.specs.Spelling.{prefix_kind}
use Rattle.sync_print.specs.Trees as t
use Rattle.sync_print.specs.Trees.{Spelled, spelled, spelled_suffix, expr, within, operand_level}
use Rattle.sync_print.proofs.Layers.{spelled_member, spelled_tail, spelled_undefined, spelled_null, spelled_bool, spelled_integer, spelled_text, spelled_name, spelled_list, spelled_object, spelled_prefix, spelled_postfix, spelled_chain, spelled_choice, spelled_suffix_member, spelled_suffix_index, spelled_suffix_call}
use Rattle.sync_print.proofs.CutWords.{AllAscii, letter_part, parts_ascii}

-- ---- lists of tokens

pub are_both : (ks ls : List Kind) → AreSpellable ks → AreSpellable ls → AreSpellable (ks ++ ls)
are_both [] ls a b = b
are_both (k ∷ ks) ls a b = (a.0, are_both ks ls a.1 b)

pub between_spells : (left right : Sign) (ks : List Kind) → AreSpellable ks → AreSpellable (t.between left ks right)
between_spells left right ks a = (tt, are_both ks (t.sign right) a (tt, tt))

within_spells : (n : ℕ) (x : Spelled) → AreSpellable x.tokens → AreSpellable (within n x)
within_spells n x a = by_level (nat_le x.level n)
  where
    by_level : (b : Bool) → AreSpellable (cond b x.tokens (t.parenthesized x.tokens))
    by_level true = a
    by_level false = between_spells signs.ParenOpen signs.ParenClose x.tokens a

-- ---- tokens of a text

next_tokens : (ts : Tokens) → AreTokens ts → AreTokens (next ts)
unfolding next
next_tokens [] a = a
next_tokens (t ∷ []) a = a
next_tokens (t ∷ u ∷ ts) a = a.1

first_spells : (ts : Tokens) → (IsLast (kind ts) → ⊥) → AreTokens ts → IsSpellable (kind ts)
unfolding kind
first_spells [] other a = absurd a
first_spells (t ∷ []) other a = absurd (other a)
first_spells (t ∷ u ∷ ts) other a = a.0

pub behind : {k : Kind} {ts us : Tokens} → Takes k ts us → AreTokens ts → AreTokens us
behind {ts = ts} k a = subst AreTokens (sym k.rest) (next_tokens ts a)

pub token_spells : (k : Kind) {ts us : Tokens} → Takes k ts us → (IsLast k → ⊥) → AreTokens ts → IsSpellable k
token_spells k {ts} take other a = subst IsSpellable take.is (first_spells ts (λ l. other (subst IsLast take.is l)) a)

-- ---- names are texts

one_utf8 : (c : ℕ) → nat_lt c 128 ≡ true → IsUtf8 (c ∷ [])
one_utf8 c h =
    let small : c < 128 = ltb-true c 128 h in
    let is : scalar c ≡ true = grind (arith, small) in
    subst IsUtf8 (encode_ascii c small) (IsUtf8-encode c is)

pub ascii_utf8 : (bs : List ℕ) → AllAscii bs → IsUtf8 bs
ascii_utf8 [] a = IsUtf8-nil
ascii_utf8 (c ∷ bs) a = IsUtf8-append (c ∷ []) bs (one_utf8 c a.0) (ascii_utf8 bs a.1)

pub name_utf8 : (n : List ℕ) → IsIdentifier n → IsUtf8 n
name_utf8 n i = subst IsUtf8 (sym i.is) (ascii_utf8 (i.first ∷ i.rest) (parts_ascii (i.first ∷ i.rest) (letter_part i.first i.letter, i.parts)))

-- ---- nodes

-- what is printed of an expression can be spelled
abbrev pub CanSpell : Expr → Type 0
CanSpell x = AreSpellable (expr x)

layered : (x : Expr) (s : Spelled) → spelled x ≡ s → AreSpellable s.tokens → CanSpell x
layered x s is a = subst (λ z. AreSpellable z.tokens) (sym is) a

abbrev pub AllSpell : List Expr → Type 0
AllSpell [] = Unit {0}
AllSpell (x ∷ xs) = CanSpell x × AllSpell xs

abbrev pub AllMembersSpell : List (List ℕ × Expr) → Type 0
AllMembersSpell [] = Unit {0}
AllMembersSpell (m ∷ ms) = (IsUtf8 m.0 × CanSpell m.1) × AllMembersSpell ms

abbrev pub AllTailsSpell : List (Operator × Expr) → Type 0
AllTailsSpell [] = Unit {0}
AllTailsSpell (x ∷ xs) = CanSpell x.1 × AllTailsSpell xs

abbrev pub AllSuffixesSpell : List Suffix → Type 0
AllSuffixesSpell [] = Unit {0}
AllSuffixesSpell (x ∷ xs) = AreSpellable (spelled_suffix x) × AllSuffixesSpell xs

pub comma_spells : (first : Bool) → AreSpellable (t.comma first)
comma_spells true = tt
comma_spells false = (tt, tt)

listed_spells : (first : Bool) (xs : List Expr) → AllSpell xs → AreSpellable (t.listed_from first (map spelled xs))
listed_spells first [] a = tt
listed_spells first (x ∷ xs) a =
    are_both (t.comma first) (expr x ++ t.more (map spelled xs)) (comma_spells first) (are_both (expr x) (t.more (map spelled xs)) a.0 (listed_spells false xs a.1))

members_spell : (first : Bool) (ms : List (List ℕ × Expr)) → AllMembersSpell ms → AreSpellable (t.members_from first (map spelled_member ms))
members_spell first [] a = tt
members_spell first (m ∷ ms) a =
    are_both (t.comma first) (t.member (spelled_member m) ++ t.more_members (map spelled_member ms)) (comma_spells first)
    (are_both (t.member (spelled_member m)) (t.more_members (map spelled_member ms)) (a.0.0, (tt, a.0.1)) (members_spell false ms a.1))

suffixes_spell : (xs : List Suffix) → AllSuffixesSpell xs → AreSpellable (t.suffixes (map spelled_suffix xs))
suffixes_spell [] a = tt
suffixes_spell (x ∷ xs) a = are_both (spelled_suffix x) (t.suffixes (map spelled_suffix xs)) a.0 (suffixes_spell xs a.1)

tails_spell : (n : ℕ) (xs : List (Operator × Expr)) → AllTailsSpell xs → AreSpellable (t.tails n (map spelled_tail xs))
tails_spell n [] a = tt
tails_spell n (x ∷ xs) a = (tt, are_both (within n (spelled x.1)) (t.tails n (map spelled_tail xs)) (within_spells n (spelled x.1) a.0) (tails_spell n xs a.1))

followed_spells : (x : Expr) (xs : List Suffix) → CanSpell x → AllSuffixesSpell xs → CanSpell (followed x xs)
followed_spells x [] a b = a
followed_spells x (y ∷ ys) a b =
    layered (e.Postfix x (y ∷ ys)) _ (spelled_postfix x (y ∷ ys))
    (are_both (within 0 (spelled x)) (t.suffixes (map spelled_suffix (y ∷ ys))) (within_spells 0 (spelled x) a) (suffixes_spell (y ∷ ys) b))

chained_spells : (x : Expr) (xs : List (Operator × Expr)) → CanSpell x → AllTailsSpell xs → CanSpell (chained x xs)
chained_spells x [] a b = a
chained_spells x (y ∷ ys) a b =
    let n : ℕ = operand_level (map spelled_tail (y ∷ ys)) in
    layered (e.Chain x (y ∷ ys)) _ (spelled_chain x (y ∷ ys))
    (are_both (within n (spelled x)) (t.tails n (map spelled_tail (y ∷ ys))) (within_spells n (spelled x) a) (tails_spell n (y ∷ ys) b))

choice_spells : (c x y : Expr) → CanSpell c → CanSpell x → CanSpell y → CanSpell (e.Choice c x y)
choice_spells c x y a b d =
    layered (e.Choice c x y) _ (spelled_choice c x y)
    (are_both (within 7 (spelled c)) (kinds.Sign signs.Question ∷ (expr x ++ kinds.Sign signs.Colon ∷ expr y)) (within_spells 7 (spelled c) a)
    (tt, are_both (expr x) (kinds.Sign signs.Colon ∷ expr y) b (tt, d)))

prefix_spells : (p : Place) (o : Prefix) (x : Expr) → CanSpell x → CanSpell (e.Prefix p o x)
prefix_spells p o x a = layered (e.Prefix p o x) _ (spelled_prefix p o x) (operator_spells o, within_spells 1 (spelled x) a)
  where
    operator_spells : (o : Prefix) → IsSpellable (prefix_kind o)
    operator_spells prefixes.Not = tt
    operator_spells prefixes.Negate = tt
    operator_spells prefixes.Typeof = tt

-- ---- by the grammar

-- what can be spelled, with the tokens of a text behind it
abbrev pub And : Type 0 → Tokens → Type 0
And A us = A × AreTokens us

key_spells : {ts us : Tokens} {n : List ℕ} → IsKey ts n us → AreTokens ts → And (IsUtf8 n) us
key_spells {n = n} (g.name_key k) a = (name_utf8 n (token_spells (kinds.Name n) k (λ l. l) a), behind k a)
key_spells {n = n} (g.text_key k) a = (token_spells (kinds.Text n) k (λ l. l) a, behind k a)

mutual
  pub expr_spells : {ts us : Tokens} {x : Expr} → IsExpr ts x us → AreTokens ts → And (CanSpell x) us
  expr_spells (g.no_choice c) a = chain_spells c a
  expr_spells (g.choice {x = c} {a = x} {b = y} d q h k i) a =
      let r = chain_spells d a in
      let s = expr_spells h (behind q r.1) in
      let t = expr_spells i (behind k s.1) in
      (choice_spells c x y r.0 s.0 t.0, t.1)

  chain_spells : {n : ℕ} {ts us : Tokens} {x : Expr} → IsChain n ts x us → AreTokens ts → And (CanSpell x) us
  chain_spells (g.operand u) a = unary_spells u a
  chain_spells (g.chain {x = x} {tails = xs} c h) a = let r = chain_spells c a in let s = all_tails_spell h r.1 in (chained_spells x xs r.0 s.0, s.1)

  all_tails_spell : {n : ℕ} {ts us : Tokens} {xs : List (Operator × Expr)} → AreTails n ts xs us → AreTokens ts → And (AllTailsSpell xs) us
  all_tails_spell g.no_tail a = (tt, a)
  all_tails_spell (g.tail take is c h) a = let r = chain_spells c (behind take a) in let s = all_tails_spell h r.1 in ((r.0, s.0), s.1)

  unary_spells : {ts us : Tokens} {x : Expr} → IsUnary ts x us → AreTokens ts → And (CanSpell x) us
  unary_spells (g.prefixed {ts = ts} {op = o} {x = x} take is u) a = let r = unary_spells u (behind take a) in (prefix_spells (place ts) o x r.0, r.1)
  unary_spells (g.postfix {x = x} {found = xs} p h) a = let r = primary_spells p a in let s = all_suffixes_spell h r.1 in (followed_spells x xs r.0 s.0, s.1)

  all_suffixes_spell : {ts us : Tokens} {xs : List Suffix} → AreSuffixes ts xs us → AreTokens ts → And (AllSuffixesSpell xs) us
  all_suffixes_spell g.no_suffix a = (tt, a)
  all_suffixes_spell (g.one_suffix x h) a = let r = suffix_spells x a in let s = all_suffixes_spell h r.1 in ((r.0, s.0), s.1)

  suffix_spells : {ts us : Tokens} {x : Suffix} → IsSuffix ts x us → AreTokens ts → And (AreSpellable (spelled_suffix x)) us
  suffix_spells (g.member_suffix {n = n} k l) a =
      let b = behind k a in
      (subst AreSpellable (sym (spelled_suffix_member n)) (tt, (token_spells (kinds.Name n) l (λ z. z) b, tt)), behind l b)
  suffix_spells (g.index_suffix {x = x} k h l) a =
      let r = expr_spells h (behind k a) in
      (subst AreSpellable (sym (spelled_suffix_index x)) (between_spells signs.BracketOpen signs.BracketClose (expr x) r.0), behind l r.1)
  suffix_spells (g.call_suffix {found = xs} k h) a =
      let r = all_listed_spell h (behind k a) in
      (subst AreSpellable (sym (spelled_suffix_call xs)) (between_spells signs.ParenOpen signs.ParenClose (t.listed (map spelled xs)) (listed_spells true xs r.0)), r.1)

  all_listed_spell : {close : Sign} {ts us : Tokens} {xs : List Expr} → AreListed close ts xs us → AreTokens ts → And (AllSpell xs) us
  all_listed_spell (g.none_listed k) a = (tt, behind k a)
  all_listed_spell (g.some_listed h k) a = let r = exprs_spell h a in (r.0, behind k r.1)

  exprs_spell : {ts us : Tokens} {xs : List Expr} → AreExprs ts xs us → AreTokens ts → And (AllSpell xs) us
  exprs_spell (g.one_expr x) a = let r = expr_spells x a in ((r.0, tt), r.1)
  exprs_spell (g.more_exprs x k h) a = let r = expr_spells x a in let s = exprs_spell h (behind k r.1) in ((r.0, s.0), s.1)

  fields_spell : {ts us : Tokens} {xs : List (List ℕ × Expr)} → AreFields ts xs us → AreTokens ts → And (AllMembersSpell xs) us
  fields_spell (g.no_fields k) a = (tt, behind k a)
  fields_spell (g.some_fields h k) a = let r = all_members_spell h a in (r.0, behind k r.1)

  all_members_spell : {ts us : Tokens} {xs : List (List ℕ × Expr)} → AreMembers ts xs us → AreTokens ts → And (AllMembersSpell xs) us
  all_members_spell (g.one_member m) a = let r = member_spells m a in ((r.0, tt), r.1)
  all_members_spell (g.more_members m k h) a = let r = member_spells m a in let s = all_members_spell h (behind k r.1) in ((r.0, s.0), s.1)

  member_spells : {ts us : Tokens} {m : List ℕ × Expr} → IsMember ts m us → AreTokens ts → And (IsUtf8 m.0 × CanSpell m.1) us
  member_spells (g.member i k x) a = let r = key_spells i a in let s = expr_spells x (behind k r.1) in ((r.0, s.0), s.1)

  primary_spells : {ts us : Tokens} {x : Expr} → IsPrimary ts x us → AreTokens ts → And (CanSpell x) us
  primary_spells (g.integer {ts = ts} {n = n} k) a = (layered (e.Integer (place ts) n) _ (spelled_integer (place ts) n) (token_spells (kinds.Integer n) k (λ l. l) a, tt), behind k a)
  primary_spells (g.text {ts = ts} {n = n} k) a = (layered (e.Text (place ts) n) _ (spelled_text (place ts) n) (token_spells (kinds.Text n) k (λ l. l) a, tt), behind k a)
  primary_spells (g.name {ts = ts} {n = n} k) a = (layered (e.Name (place ts) n) _ (spelled_name (place ts) n) (token_spells (kinds.Name n) k (λ l. l) a, tt), behind k a)
  primary_spells (g.yes {ts = ts} k) a = (layered (e.Bool (place ts) true) _ (spelled_bool (place ts) true) (tt, tt), behind k a)
  primary_spells (g.no {ts = ts} k) a = (layered (e.Bool (place ts) false) _ (spelled_bool (place ts) false) (tt, tt), behind k a)
  primary_spells (g.null {ts = ts} k) a = (layered (e.Null (place ts)) _ (spelled_null (place ts)) (tt, tt), behind k a)
  primary_spells (g.undefined {ts = ts} k) a = (layered (e.Undefined (place ts)) _ (spelled_undefined (place ts)) (tt, tt), behind k a)
  primary_spells (g.parentheses k x l) a = let r = expr_spells x (behind k a) in (r.0, behind l r.1)
  primary_spells (g.list {ts = ts} {found = xs} k h) a =
      let r = all_listed_spell h (behind k a) in
      (layered (e.List (place ts) xs) _ (spelled_list (place ts) xs) (between_spells signs.BracketOpen signs.BracketClose (t.listed (map spelled xs)) (listed_spells true xs r.0)), r.1)
  primary_spells (g.object {ts = ts} {found = xs} k h) a =
      let r = fields_spell h (behind k a) in
      (layered (e.Object (place ts) xs) _ (spelled_object (place ts) xs) (between_spells signs.BraceOpen signs.BraceClose (t.members (map spelled_member xs)) (members_spell true xs r.0)), r.1)
