-- Expressions are read alike of tokens that begin alike, and where more may be open.
use Rattle.std.proofs.Common.{◌≡◌, ℕ, zero, suc, ◌-◌, ◌<◌, ◌≤◌, Bool, true, false, cond, if◌then◌else◌, List, [], ◌∷◌, Option, Some, None, Ok, Err, refl, sym, subst, ap, ◌∙◌, eqb-true, true≢false, arith}
use Rattle.std.specs.Prelude.{◌==◌}
use Rattle.sync_tokens.specs.Spellable.{IsLast, AreTokens}
use Rattle.sync_tokens.specs.declared.place.Place.{Place}
use Rattle.sync_tokens.specs.declared.token.Kind.{Kind}
use Rattle.sync_tokens.specs.declared.token.Kind.TheVariants as kinds
use Rattle.sync_tokens.specs.declared.token.Sign.{Sign}
use Rattle.sync_tokens.specs.declared.token.Sign.TheVariants as signs
use Rattle.sync_tokens.specs.declared.token.Word.{Word}
use Rattle.sync_tokens.specs.declared.token.Word.TheVariants as words
use Rattle.sync_syntax.specs.declared.tree.Prefix.{Prefix}
use Rattle.sync_syntax.specs.declared.tree.Expr.{Expr}
use Rattle.sync_syntax.specs.declared.tree.Expr.TheVariants as e
use Rattle.sync_syntax.specs.declared.tree.Suffix.TheVariants as suffixes
use Rattle.sync_syntax.specs.Reading.{Tokens, Rule, ◌>>=◌, pure_rule, take, kind, next, place, eat, expect, name_rule, too_deep}
use Rattle.sync_syntax.specs.Operators.{prefix_by}
use Rattle.sync_syntax.specs.Expressions.{key_by, key, expr_by_word, followed, chained, list_rule, member_rule, members_rule, bracketed, primary_by, primary, suffix_rule, all_suffixes, postfix_rule, prefixed_rule, unary_by, unary, tails, chain_rule, choice_rule, expr_or_operand, nested, separated_in, some_members}
use Rattle.sync_syntax.proofs.Alike.{Alike, More, one_less, bind_alike, first_alike, all_alike, loosely, pure_alike, refuse_alike, deep_alike, taken_alike, kind_alike, eat_alike, expect_alike, name_alike}
use Rattle.sync_syntax.proofs.Loops.{separated_alike, suffixes_alike, tails_alike}
use Rattle.sync_syntax.proofs.Pasts.{nested_goes, member_goes, suffix_goes, chain_goes}
use Rattle.sync_syntax.proofs.Turns.{deeper}

key_by_alike : (k : Kind) (ts : Tokens) → kind ts ≡ k → AreTokens ts → Alike false (key_by k ts) (λ m. key_by k) ts
key_by_alike (kinds.Name n) ts is a = loosely (Ok (n, next ts)) (λ m us. Ok (n, next us)) ts (kind_alike n (kinds.Name n) ts is (λ l. l) a)
key_by_alike (kinds.Text n) ts is a = loosely (Ok (n, next ts)) (λ m us. Ok (n, next us)) ts (kind_alike n (kinds.Text n) ts is (λ l. l) a)
key_by_alike _ ts is a = refuse_alike ts a

key_alike : (ts : Tokens) → AreTokens ts → Alike false (key ts) (λ m. key) ts
unfolding key kind
key_alike [] a = absurd a
key_alike (t ∷ r) a = first_alike (λ m. key) (λ m. key_by t.kind) t r (λ m other _. refl) false (key (t ∷ r)) (key_by_alike t.kind (t ∷ r) refl a)

one_word : (x : Expr) (w : Word) (ts : Tokens) → kind ts ≡ kinds.Word w → AreTokens ts → Alike false (Ok (x, next ts)) (λ m us. Ok (x, next us)) ts
one_word x w ts is a = loosely (Ok (x, next ts)) (λ m us. Ok (x, next us)) ts (kind_alike x (kinds.Word w) ts is (λ l. l) a)

word_by_alike : (p : Place) (w : Word) (ts : Tokens) → kind ts ≡ kinds.Word w → AreTokens ts → Alike false (expr_by_word p w ts) (λ m. expr_by_word p w) ts
word_by_alike p words.True ts is a = one_word (e.Bool p true) words.True ts is a
word_by_alike p words.False ts is a = one_word (e.Bool p false) words.False ts is a
word_by_alike p words.Null ts is a = one_word (e.Null p) words.Null ts is a
word_by_alike p words.Undefined ts is a = one_word (e.Undefined p) words.Undefined ts is a
word_by_alike p _ ts is a = refuse_alike ts a

some_prefix : (k : Kind) (op : Prefix) → prefix_by k ≡ Some op → IsLast k → ⊥
unfolding prefix_by
some_prefix kinds.End op is l = absurd cc
some_prefix (kinds.Bad why) op is l = absurd cc
some_prefix (kinds.Name n) op is l = l
some_prefix (kinds.Integer n) op is l = l
some_prefix (kinds.Text n) op is l = l
some_prefix (kinds.Word n) op is l = l
some_prefix (kinds.Sign n) op is l = l

more_room : (r s : ℕ) → r ≤ s → (r == 0) ≡ false → (b : Bool) → (s == 0) ≡ b → b ≡ false
more_room r s low some true is = let none : r ≡ 0 = (let zero_too : s ≡ 0 = eqb-true s 0 is in omega arith) in absurd (true≢false (sym (rw none refl) ∙ some))
more_room r s low some false is = refl

module _ (room : ℕ) (more : ℕ → ℕ) (low : More room more)
    (hn : (o : Bool) (ts : Tokens) → AreTokens ts → Alike false (nested room o ts) (λ m. nested (more m) o) ts) where
  abbrev n : Bool → Rule Expr
  n = nested room

  abbrev other_n : ℕ → Bool → Rule Expr
  other_n m = nested (more m)

  exprs_alike : (ts : Tokens) → AreTokens ts → Alike false (separated_in n ts) (λ m. separated_in (other_n m)) ts
  exprs_alike ts a = separated_alike (n false) (λ m. other_n m false) (hn false) (nested_goes room) (λ m. nested_goes (more m)) ts a

  list_alike : (close : Sign) (ts : Tokens) → AreTokens ts → Alike false (list_rule n close ts) (λ m. list_rule (other_n m) close) ts
  unfolding list_rule
  list_alike close ts a = eat_alike close (pure_rule ([])) ((separated_in n >>= λ found. (expect close >>= λ _. pure_rule (found)))) (λ m. pure_rule ([])) (λ m. (separated_in (other_n m) >>= λ found. (expect close >>= λ _. pure_rule (found)))) ts a (λ _ a1 _. pure_alike ([]) (next ts) a1) (λ _. bind_alike false ((separated_in n) ts) (λ m. separated_in (other_n m)) (λ found. (expect close >>= λ _. pure_rule (found))) (λ m found. (expect close >>= λ _. pure_rule (found))) ts (exprs_alike ts a) (λ found us2 _ a2. bind_alike false ((expect close) us2) (λ m. expect close) (λ _. pure_rule (found)) (λ m _. pure_rule (found)) us2 (expect_alike close us2 a2) (λ _ us3 _ a3. pure_alike (found) us3 a3)))

  member_alike : (ts : Tokens) → AreTokens ts → Alike false (member_rule n ts) (λ m. member_rule (other_n m)) ts
  unfolding member_rule
  member_alike ts a = bind_alike false ((key) ts) (λ m. key) (λ k. (expect signs.Colon >>= λ _. (n false >>= λ value. pure_rule ((k, value))))) (λ m k. (expect signs.Colon >>= λ _. ((other_n m) false >>= λ value. pure_rule ((k, value))))) ts (key_alike ts a) (λ k us4 _ a4. bind_alike false ((expect signs.Colon) us4) (λ m. expect signs.Colon) (λ _. (n false >>= λ value. pure_rule ((k, value)))) (λ m _. ((other_n m) false >>= λ value. pure_rule ((k, value)))) us4 (expect_alike signs.Colon us4 a4) (λ _ us5 _ a5. bind_alike false ((n false) us5) (λ m. (other_n m) false) (λ value. pure_rule ((k, value))) (λ m value. pure_rule ((k, value))) us5 (hn false us5 a5) (λ value us6 _ a6. pure_alike ((k, value)) us6 a6)))

  some_members_alike : (ts : Tokens) → AreTokens ts → Alike false (some_members n ts) (λ m. some_members (other_n m)) ts
  some_members_alike ts a = separated_alike (member_rule n) (λ m. member_rule (other_n m)) member_alike (member_goes room) (λ m. member_goes (more m)) ts a

  members_alike : (ts : Tokens) → AreTokens ts → Alike false (members_rule n ts) (λ m. members_rule (other_n m)) ts
  unfolding members_rule
  members_alike ts a = eat_alike signs.BraceClose (pure_rule ([])) ((some_members n >>= λ found. (expect signs.BraceClose >>= λ _. pure_rule (found)))) (λ m. pure_rule ([])) (λ m. (some_members (other_n m) >>= λ found. (expect signs.BraceClose >>= λ _. pure_rule (found)))) ts a (λ _ a7 _. pure_alike ([]) (next ts) a7) (λ _. bind_alike false ((some_members n) ts) (λ m. some_members (other_n m)) (λ found. (expect signs.BraceClose >>= λ _. pure_rule (found))) (λ m found. (expect signs.BraceClose >>= λ _. pure_rule (found))) ts (some_members_alike ts a) (λ found us8 _ a8. bind_alike false ((expect signs.BraceClose) us8) (λ m. expect signs.BraceClose) (λ _. pure_rule (found)) (λ m _. pure_rule (found)) us8 (expect_alike signs.BraceClose us8 a8) (λ _ us9 _ a9. pure_alike (found) us9 a9)))

  bracketed_alike : (p : Place) (s : Sign) (ts : Tokens) → kind ts ≡ kinds.Sign s → AreTokens ts → Alike false (bracketed n p s ts) (λ m. bracketed (other_n m) p s) ts
  bracketed_alike p signs.ParenOpen ts is a = loosely (((n false >>= λ inner. (expect signs.ParenClose >>= λ _. pure_rule (inner)))) (next ts)) (λ m us. (((other_n m) false >>= λ inner. (expect signs.ParenClose >>= λ _. pure_rule (inner)))) (next us)) ts (taken_alike ((n false >>= λ inner. (expect signs.ParenClose >>= λ _. pure_rule (inner)))) (λ m. ((other_n m) false >>= λ inner. (expect signs.ParenClose >>= λ _. pure_rule (inner)))) ts ((λ l. subst IsLast is l)) a (λ a10 _. bind_alike false ((n false) (next ts)) (λ m. (other_n m) false) (λ inner. (expect signs.ParenClose >>= λ _. pure_rule (inner))) (λ m inner. (expect signs.ParenClose >>= λ _. pure_rule (inner))) (next ts) (hn false (next ts) a10) (λ inner us11 _ a11. bind_alike false ((expect signs.ParenClose) us11) (λ m. expect signs.ParenClose) (λ _. pure_rule (inner)) (λ m _. pure_rule (inner)) us11 (expect_alike signs.ParenClose us11 a11) (λ _ us12 _ a12. pure_alike (inner) us12 a12))))
  bracketed_alike p signs.BracketOpen ts is a = loosely (((list_rule n signs.BracketClose >>= λ found. pure_rule (e.List p found))) (next ts)) (λ m us. ((list_rule (other_n m) signs.BracketClose >>= λ found. pure_rule (e.List p found))) (next us)) ts (taken_alike ((list_rule n signs.BracketClose >>= λ found. pure_rule (e.List p found))) (λ m. (list_rule (other_n m) signs.BracketClose >>= λ found. pure_rule (e.List p found))) ts ((λ l. subst IsLast is l)) a (λ a13 _. bind_alike false ((list_rule n signs.BracketClose) (next ts)) (λ m. list_rule (other_n m) signs.BracketClose) (λ found. pure_rule (e.List p found)) (λ m found. pure_rule (e.List p found)) (next ts) (list_alike signs.BracketClose (next ts) a13) (λ found us14 _ a14. pure_alike (e.List p found) us14 a14)))
  bracketed_alike p signs.BraceOpen ts is a = loosely (((members_rule n >>= λ found. pure_rule (e.Object p found))) (next ts)) (λ m us. ((members_rule (other_n m) >>= λ found. pure_rule (e.Object p found))) (next us)) ts (taken_alike ((members_rule n >>= λ found. pure_rule (e.Object p found))) (λ m. (members_rule (other_n m) >>= λ found. pure_rule (e.Object p found))) ts ((λ l. subst IsLast is l)) a (λ a15 _. bind_alike false ((members_rule n) (next ts)) (λ m. members_rule (other_n m)) (λ found. pure_rule (e.Object p found)) (λ m found. pure_rule (e.Object p found)) (next ts) (members_alike (next ts) a15) (λ found us16 _ a16. pure_alike (e.Object p found) us16 a16)))
  bracketed_alike p _ ts is a = refuse_alike ts a

  primary_by_alike : (p : Place) (k : Kind) (ts : Tokens) → kind ts ≡ k → AreTokens ts → Alike false (primary_by n p k ts) (λ m. primary_by (other_n m) p k) ts
  primary_by_alike p (kinds.Integer x) ts is a = loosely (Ok (e.Integer p x, next ts)) (λ m us. Ok (e.Integer p x, next us)) ts (kind_alike (e.Integer p x) (kinds.Integer x) ts is (λ l. l) a)
  primary_by_alike p (kinds.Text x) ts is a = loosely (Ok (e.Text p x, next ts)) (λ m us. Ok (e.Text p x, next us)) ts (kind_alike (e.Text p x) (kinds.Text x) ts is (λ l. l) a)
  primary_by_alike p (kinds.Name x) ts is a = loosely (Ok (e.Name p x, next ts)) (λ m us. Ok (e.Name p x, next us)) ts (kind_alike (e.Name p x) (kinds.Name x) ts is (λ l. l) a)
  primary_by_alike p (kinds.Word w) ts is a = word_by_alike p w ts is a
  primary_by_alike p (kinds.Sign s) ts is a = bracketed_alike p s ts is a
  primary_by_alike p _ ts is a = refuse_alike ts a

  primary_alike : (ts : Tokens) → AreTokens ts → Alike false (primary n ts) (λ m. primary (other_n m)) ts
  unfolding primary kind place
  primary_alike [] a = absurd a
  primary_alike (t ∷ r) a = first_alike (λ m. primary (other_n m)) (λ m. primary_by (other_n m) t.place t.kind) t r (λ m other _. refl) false (primary n (t ∷ r)) (primary_by_alike t.place t.kind (t ∷ r) refl a)

  suffix_alike : (ts : Tokens) → AreTokens ts → Alike false (suffix_rule n ts) (λ m. suffix_rule (other_n m)) ts
  unfolding suffix_rule
  suffix_alike ts a = eat_alike signs.Dot ((name_rule >>= λ x. pure_rule (suffixes.Member x))) ((eat signs.BracketOpen >>= λ b. if b then (n false >>= λ at. (expect signs.BracketClose >>= λ _. pure_rule (suffixes.Index at))) else (expect signs.ParenOpen >>= λ _. (list_rule n signs.ParenClose >>= λ found. pure_rule (suffixes.Call found))))) (λ m. (name_rule >>= λ x. pure_rule (suffixes.Member x))) (λ m. (eat signs.BracketOpen >>= λ b. if b then ((other_n m) false >>= λ at. (expect signs.BracketClose >>= λ _. pure_rule (suffixes.Index at))) else (expect signs.ParenOpen >>= λ _. (list_rule (other_n m) signs.ParenClose >>= λ found. pure_rule (suffixes.Call found))))) ts a (λ _ a17 _. bind_alike false ((name_rule) (next ts)) (λ m. name_rule) (λ x. pure_rule (suffixes.Member x)) (λ m x. pure_rule (suffixes.Member x)) (next ts) (name_alike (next ts) a17) (λ x us18 _ a18. pure_alike (suffixes.Member x) us18 a18)) (λ _. eat_alike signs.BracketOpen ((n false >>= λ at. (expect signs.BracketClose >>= λ _. pure_rule (suffixes.Index at)))) ((expect signs.ParenOpen >>= λ _. (list_rule n signs.ParenClose >>= λ found. pure_rule (suffixes.Call found)))) (λ m. ((other_n m) false >>= λ at. (expect signs.BracketClose >>= λ _. pure_rule (suffixes.Index at)))) (λ m. (expect signs.ParenOpen >>= λ _. (list_rule (other_n m) signs.ParenClose >>= λ found. pure_rule (suffixes.Call found)))) ts a (λ _ a19 _. bind_alike false ((n false) (next ts)) (λ m. (other_n m) false) (λ at. (expect signs.BracketClose >>= λ _. pure_rule (suffixes.Index at))) (λ m at. (expect signs.BracketClose >>= λ _. pure_rule (suffixes.Index at))) (next ts) (hn false (next ts) a19) (λ at us20 _ a20. bind_alike false ((expect signs.BracketClose) us20) (λ m. expect signs.BracketClose) (λ _. pure_rule (suffixes.Index at)) (λ m _. pure_rule (suffixes.Index at)) us20 (expect_alike signs.BracketClose us20 a20) (λ _ us21 _ a21. pure_alike (suffixes.Index at) us21 a21))) (λ _. bind_alike false ((expect signs.ParenOpen) ts) (λ m. expect signs.ParenOpen) (λ _. (list_rule n signs.ParenClose >>= λ found. pure_rule (suffixes.Call found))) (λ m _. (list_rule (other_n m) signs.ParenClose >>= λ found. pure_rule (suffixes.Call found))) ts (expect_alike signs.ParenOpen ts a) (λ _ us22 _ a22. bind_alike false ((list_rule n signs.ParenClose) us22) (λ m. list_rule (other_n m) signs.ParenClose) (λ found. pure_rule (suffixes.Call found)) (λ m found. pure_rule (suffixes.Call found)) us22 (list_alike signs.ParenClose us22 a22) (λ found us23 _ a23. pure_alike (suffixes.Call found) us23 a23))))

  all_suffixes_alike : (ts : Tokens) → AreTokens ts → Alike false (all_suffixes n ts) (λ m. all_suffixes (other_n m)) ts
  all_suffixes_alike ts a = suffixes_alike n other_n suffix_alike (suffix_goes room) (λ m. suffix_goes (more m)) ts a

  postfix_alike : (k : Bool) (ts : Tokens) → AreTokens ts → Alike k (primary n ts) (λ m. primary (other_n m)) ts → Alike k (postfix_rule n ts) (λ m. postfix_rule (other_n m)) ts
  unfolding postfix_rule
  postfix_alike k ts a h = bind_alike k ((primary n) ts) (λ m. primary (other_n m)) (λ first. (all_suffixes n >>= λ found. pure_rule (followed first found))) (λ m first. (all_suffixes (other_n m) >>= λ found. pure_rule (followed first found))) ts (h) (λ first us24 _ a24. bind_alike false ((all_suffixes n) us24) (λ m. all_suffixes (other_n m)) (λ found. pure_rule (followed first found)) (λ m found. pure_rule (followed first found)) us24 (all_suffixes_alike us24 a24) (λ found us25 _ a25. pure_alike (followed first found) us25 a25))

  abbrev behind : (Bool → Rule Expr) → Place → Prefix → Rule Expr
  behind inner p op = take >>= λ _. (inner true >>= λ x. pure_rule (e.Prefix p op x))

  prefixed_by : (b : Bool) (p : Place) (op : Prefix) (ts : Tokens) → (room == 0) ≡ b → prefix_by (kind ts) ≡ Some op → AreTokens ts
      → Alike false (cond b (λ us. Err (too_deep us)) (behind n p op) ts) (λ m. prefixed_rule (more m) (other_n m) p op) ts
  prefixed_by true p op ts none is a =
      deep_alike (λ m. prefixed_rule (more m) (other_n m) p op) ts (λ us. ap (λ c. cond c (λ vs. Err (too_deep vs)) (behind (other_n 0) p op) us) (ap (λ k. k == 0) low.first ∙ none)) a
  prefixed_by false p op ts some is a =
      let other : IsLast (kind ts) → ⊥ = some_prefix (kind ts) op is in
      all_alike (λ m. prefixed_rule (more m) (other_n m) p op) (λ m. behind (other_n m) p op)
      (λ m us _. ap (λ c. cond c (λ vs. Err (too_deep vs)) (behind (other_n m) p op) us) (more_room room (more m) (low.low m) some (more m == 0) refl)) false (behind n p op ts) ts a
      (loosely (((n true >>= λ x. pure_rule (e.Prefix p op x))) (next ts)) (λ m us. (((other_n m) true >>= λ x. pure_rule (e.Prefix p op x))) (next us)) ts (taken_alike ((n true >>= λ x. pure_rule (e.Prefix p op x))) (λ m. ((other_n m) true >>= λ x. pure_rule (e.Prefix p op x))) ts (other) a (λ a26 _. bind_alike false ((n true) (next ts)) (λ m. (other_n m) true) (λ x. pure_rule (e.Prefix p op x)) (λ m x. pure_rule (e.Prefix p op x)) (next ts) (hn true (next ts) a26) (λ x us27 _ a27. pure_alike (e.Prefix p op x) us27 a27))))

  prefixed_alike : (p : Place) (op : Prefix) (ts : Tokens) → prefix_by (kind ts) ≡ Some op → AreTokens ts → Alike false (prefixed_rule room n p op ts) (λ m. prefixed_rule (more m) (other_n m) p op) ts
  prefixed_alike p op ts is a = prefixed_by (room == 0) p op ts refl is a

  unary_by_alike : (p : Place) (o : Option Prefix) (ts : Tokens) → prefix_by (kind ts) ≡ o → AreTokens ts → Alike false (unary_by room n p o ts) (λ m. unary_by (more m) (other_n m) p o) ts
  unary_by_alike p None ts is a = postfix_alike false ts a (primary_alike ts a)
  unary_by_alike p (Some op) ts is a = prefixed_alike p op ts is a

  unary_alike : (ts : Tokens) → AreTokens ts → Alike false (unary room n ts) (λ m. unary (more m) (other_n m)) ts
  unfolding unary kind place
  unary_alike [] a = absurd a
  unary_alike (t ∷ r) a =
      first_alike (λ m. unary (more m) (other_n m)) (λ m. unary_by (more m) (other_n m) t.place (prefix_by t.kind)) t r (λ m other _. refl) false (unary room n (t ∷ r)) (unary_by_alike t.place (prefix_by t.kind) (t ∷ r) refl a)

  chain_alike : (k : Bool) (ts : Tokens) → AreTokens ts → Alike k (unary room n ts) (λ m. unary (more m) (other_n m)) ts → (level : ℕ)
      → Alike k (chain_rule room n level ts) (λ m. chain_rule (more m) (other_n m) level) ts
  unfolding chain_rule
  chain_alike k ts a h zero = h
  chain_alike k ts a h (suc level) =
      let operands : (us : Tokens) → AreTokens us → Alike false (chain_rule room n level us) (λ m. chain_rule (more m) (other_n m) level) us = λ us b. chain_alike false us b (unary_alike us b) level in
      bind_alike k ((chain_rule room n level) ts) (λ m. chain_rule (more m) (other_n m) level) (λ first. (tails (suc level) (chain_rule room n level) >>= λ found. pure_rule (chained first found))) (λ m first. (tails (suc level) (chain_rule (more m) (other_n m) level) >>= λ found. pure_rule (chained first found))) ts (chain_alike k ts a h level) (λ first us28 _ a28. bind_alike false ((tails (suc level) (chain_rule room n level)) us28) (λ m. tails (suc level) (chain_rule (more m) (other_n m) level)) (λ found. pure_rule (chained first found)) (λ m found. pure_rule (chained first found)) us28 (tails_alike (suc level) (chain_rule room n level) (λ m. chain_rule (more m) (other_n m) level) operands (chain_goes room level) (λ m. chain_goes (more m) level) us28 a28) (λ found us29 _ a29. pure_alike (chained first found) us29 a29))

  choice_alike : (k : Bool) (ts : Tokens) → AreTokens ts → Alike k (unary room n ts) (λ m. unary (more m) (other_n m)) ts → Alike k (choice_rule room n ts) (λ m. choice_rule (more m) (other_n m)) ts
  unfolding choice_rule
  choice_alike k ts a h = bind_alike k ((chain_rule room n 6) ts) (λ m. chain_rule (more m) (other_n m) 6) (λ condition. (eat signs.Question >>= λ b. if b then (n false >>= λ first. (expect signs.Colon >>= λ _. (n false >>= λ second. pure_rule (e.Choice condition first second)))) else pure_rule (condition))) (λ m condition. (eat signs.Question >>= λ b. if b then ((other_n m) false >>= λ first. (expect signs.Colon >>= λ _. ((other_n m) false >>= λ second. pure_rule (e.Choice condition first second)))) else pure_rule (condition))) ts (chain_alike k ts a h 6) (λ condition us30 _ a30. eat_alike signs.Question ((n false >>= λ first. (expect signs.Colon >>= λ _. (n false >>= λ second. pure_rule (e.Choice condition first second))))) (pure_rule (condition)) (λ m. ((other_n m) false >>= λ first. (expect signs.Colon >>= λ _. ((other_n m) false >>= λ second. pure_rule (e.Choice condition first second))))) (λ m. pure_rule (condition)) us30 a30 (λ _ a31 _. bind_alike false ((n false) (next us30)) (λ m. (other_n m) false) (λ first. (expect signs.Colon >>= λ _. (n false >>= λ second. pure_rule (e.Choice condition first second)))) (λ m first. (expect signs.Colon >>= λ _. ((other_n m) false >>= λ second. pure_rule (e.Choice condition first second)))) (next us30) (hn false (next us30) a31) (λ first us32 _ a32. bind_alike false ((expect signs.Colon) us32) (λ m. expect signs.Colon) (λ _. (n false >>= λ second. pure_rule (e.Choice condition first second))) (λ m _. ((other_n m) false >>= λ second. pure_rule (e.Choice condition first second))) us32 (expect_alike signs.Colon us32 a32) (λ _ us33 _ a33. bind_alike false ((n false) us33) (λ m. (other_n m) false) (λ second. pure_rule (e.Choice condition first second)) (λ m second. pure_rule (e.Choice condition first second)) us33 (hn false us33 a33) (λ second us34 _ a34. pure_alike (e.Choice condition first second) us34 a34)))) (λ _. pure_alike (condition) us30 a30))

  opened_alike : (o : Bool) (ts : Tokens) → AreTokens ts → Alike false (expr_or_operand room n o ts) (λ m. expr_or_operand (more m) (other_n m) o) ts
  unfolding expr_or_operand
  opened_alike true ts a = unary_alike ts a
  opened_alike false ts a = choice_alike false ts a (unary_alike ts a)

  -- a name is taken in any case
  name_primary : (x : List ℕ) (ts : Tokens) → kind ts ≡ kinds.Name x → AreTokens ts → Alike true (primary n ts) (λ m. primary (other_n m)) ts
  unfolding primary kind place
  name_primary x [] is a = absurd a
  name_primary x (t ∷ r) is a =
      let step : Alike true (Ok (e.Name t.place x, next (t ∷ r))) (λ m us. Ok (e.Name t.place x, next us)) (t ∷ r) = kind_alike (e.Name t.place x) (kinds.Name x) (t ∷ r) is (λ l. l) a in
      subst (λ (k : Kind). Alike true (primary_by n t.place k (t ∷ r)) (λ m. primary (other_n m)) (t ∷ r)) (sym is)
      (first_alike (λ m. primary (other_n m)) (λ m us. Ok (e.Name t.place x, next us)) t r (λ m other _. ap (λ k. primary_by (other_n m) t.place k (t ∷ other)) is) true (Ok (e.Name t.place x, next (t ∷ r))) step)

  name_unary : (x : List ℕ) (ts : Tokens) → kind ts ≡ kinds.Name x → AreTokens ts → Alike true (unary room n ts) (λ m. unary (more m) (other_n m)) ts
  unfolding unary kind place prefix_by
  name_unary x [] is a = absurd a
  name_unary x (t ∷ r) is a =
      subst (λ (k : Kind). Alike true (unary_by room n t.place (prefix_by k) (t ∷ r)) (λ m. unary (more m) (other_n m)) (t ∷ r)) (sym is)
      (first_alike (λ m. unary (more m) (other_n m)) (λ m. postfix_rule (other_n m)) t r (λ m other _. ap (λ k. unary_by (more m) (other_n m) t.place (prefix_by k) (t ∷ other)) is) true (postfix_rule n (t ∷ r))
      (postfix_alike true (t ∷ r) a (name_primary x (t ∷ r) is a)))

-- an expression, or the operand of a prefix operator, where so much may be open and where more may be
pub nested_alike : (room : ℕ) (more : ℕ → ℕ) → More room more → (o : Bool) (ts : Tokens) → AreTokens ts → Alike false (nested room o ts) (λ m. nested (more m) o) ts
unfolding nested
nested_alike zero more low o ts a = deep_alike (λ m. nested (more m) o) ts (λ us. subst (λ (k : ℕ). nested k o us ≡ Err (too_deep us)) (sym low.first) refl) a
nested_alike (suc room) more low o ts a =
    let less : More room (λ m. more m - 1) = one_less room more low in
    all_alike (λ m. nested (more m) o) (λ m. expr_or_operand (more m - 1) (nested (more m - 1)) o) (λ m us _. deeper (λ k. nested k o us) (more m) (omega (arith, low.low m))) false (expr_or_operand room (nested room) o ts) ts a
    (opened_alike room (λ m. more m - 1) less (nested_alike room (λ m. more m - 1) less) o ts a)

-- the same at a name, which is taken where something may be open
pub name_nested : (room : ℕ) (more : ℕ → ℕ) → More room more → 0 < room → (x : List ℕ) (ts : Tokens) → kind ts ≡ kinds.Name x → AreTokens ts
    → Alike true (nested room false ts) (λ m. nested (more m) false) ts
unfolding nested expr_or_operand
name_nested zero more low some x ts is a = absurd (omega (arith, some))
name_nested (suc room) more low some x ts is a =
    let less : More room (λ m. more m - 1) = one_less room more low in
    all_alike (λ m. nested (more m) false) (λ m. choice_rule (more m - 1) (nested (more m - 1))) (λ m us _. deeper (λ k. nested k false us) (more m) (omega (arith, low.low m))) true (choice_rule room (nested room) ts) ts a
    (choice_alike room (λ m. more m - 1) less (nested_alike room (λ m. more m - 1) less) true ts a
    (name_unary room (λ m. more m - 1) less (nested_alike room (λ m. more m - 1) less) x ts is a))
