-- Rules with a count of turns are read alike too, since any count is enough that is no less than the count of tokens.
use Rattle.std.proofs.Common.{◌≡◌, ℕ, zero, suc, ◌≤◌, Bool, true, false, cond, List, [], ◌∷◌, ◌++◌, length, Option, Some, None, Ok, Err, refl, ◌∙◌, arith}
use Rattle.sync_tokens.specs.Spellable.{IsLast, AreTokens}
use Rattle.sync_tokens.specs.declared.token.Kind.{Kind}
use Rattle.sync_tokens.specs.declared.token.Kind.TheVariants as kinds
use Rattle.sync_tokens.specs.declared.token.Sign.{Sign}
use Rattle.sync_tokens.specs.declared.token.Sign.TheVariants as signs
use Rattle.sync_tokens.specs.declared.token.Token.{Token}
use Rattle.sync_syntax.specs.declared.tree.Operator.{Operator}
use Rattle.sync_syntax.specs.declared.tree.Expr.{Expr}
use Rattle.sync_syntax.specs.declared.tree.Statement.{Statement}
use Rattle.sync_syntax.specs.declared.tree.Suffix.{Suffix}
use Rattle.sync_syntax.specs.Reading.{Tokens, Outcome, Rule, read_then, pure_rule, kind, next, sees, after, turns, separated_from, separated}
use Rattle.sync_syntax.specs.Operators.{operator, operator_at}
use Rattle.sync_syntax.specs.Expressions.{begins_suffix, suffix_rule, suffixes_from, all_suffixes, tail_by, tails_from, tails}
use Rattle.sync_syntax.specs.Statements.{block_from, block_rule}
use Rattle.sync_syntax.proofs.Alike.{Alike, bind_alike, first_alike, all_alike, loosely, pure_alike, taken_alike, test_alike, eat_alike}
use Rattle.sync_syntax.proofs.Past.{Past, Behind, GoesPast, operator_past}
use Rattle.sync_syntax.proofs.Steps.{some_tokens}

pub same_then : {A B : Type 0} (q : Outcome A) (f g : A → Rule B) → ((x : A) (us : Tokens) → q ≡ Ok (x, us) → f x us ≡ g x us) → read_then q f ≡ read_then q g
same_then (Ok p) f g h = h p.0 p.1 refl
same_then (Err e) f g h = refl

same_first : {B : Type 0} (b : Bool) (f g h : Rule B) (us : Tokens) → f us ≡ g us → cond b f h us ≡ cond b g h us
same_first true f g h us e = e
same_first false f g h us e = refl

same_other : {B : Type 0} (b : Bool) (f g h : Rule B) (us : Tokens) → f us ≡ g us → cond b h f us ≡ cond b h g us
same_other true f g h us e = refl
same_other false f g h us e = e

next_behind : (ts : Tokens) → AreTokens ts → Behind ts (next ts)
unfolding next
next_behind [] a = absurd a
next_behind (t ∷ []) a = record { are = a; no_longer = omega arith }
next_behind (t ∷ u ∷ ts) a = record { are = a.1; no_longer = omega arith }

after_behind : (s : Sign) (ts : Tokens) → AreTokens ts → Behind ts (after s ts)
unfolding after
after_behind s ts a = by_sign (sees s ts)
  where
    by_sign : (b : Bool) → Behind ts (cond b (next ts) ts)
    by_sign true = next_behind ts a
    by_sign false = record { are = a; no_longer = omega arith }

-- ---- with commas between

module _ {A : Type 0} (item : Rule A) (goes : (ts us : Tokens) (x : A) → item ts ≡ Ok (x, us) → GoesPast ts us) where
  separated_enough : (n m : ℕ) (found : List A) (ts : Tokens) → AreTokens ts → length ts ≤ n → length ts ≤ m → separated_from item n found ts ≡ separated_from item m found ts
  unfolding separated_from
  separated_enough zero m found ts a h i = some_tokens ts a h
  separated_enough (suc n) zero found ts a h i = some_tokens ts a i
  separated_enough (suc n) (suc m) found ts a h i =
      same_then (item ts) (λ x us. cond (sees signs.Comma us) (separated_from item n (found ++ x ∷ [])) (pure_rule (found ++ x ∷ [])) (after signs.Comma us))
      (λ x us. cond (sees signs.Comma us) (separated_from item m (found ++ x ∷ [])) (pure_rule (found ++ x ∷ [])) (after signs.Comma us))
      (λ x us is. (let p : Past ts us = goes ts us x is a in
      let b : Behind us (after signs.Comma us) = after_behind signs.Comma us p.are in
      same_first (sees signs.Comma us) (separated_from item n (found ++ x ∷ [])) (separated_from item m (found ++ x ∷ [])) (pure_rule (found ++ x ∷ [])) (after signs.Comma us)
      (separated_enough n m (found ++ x ∷ []) (after signs.Comma us) b.are (omega (arith, p.shorter, b.no_longer)) (omega (arith, p.shorter, b.no_longer)))))

  abbrev rest_separated : List A → Rule (List A)
  rest_separated found us = separated_from item (length us) found us

  abbrev one_more : List A → Rule (List A)
  one_more found us = read_then (item us) (λ x vs. cond (sees signs.Comma vs) (rest_separated (found ++ x ∷ [])) (pure_rule (found ++ x ∷ [])) (after signs.Comma vs))

  separated_turn : (found : List A) (ts : Tokens) → AreTokens ts → rest_separated found ts ≡ one_more found ts
  unfolding separated_from
  separated_turn found ts a =
      separated_enough (length ts) (suc (length ts)) found ts a (omega arith) (omega arith)
      ∙ same_then (item ts) (λ x us. cond (sees signs.Comma us) (separated_from item (length ts) (found ++ x ∷ [])) (pure_rule (found ++ x ∷ [])) (after signs.Comma us))
      (λ x us. cond (sees signs.Comma us) (rest_separated (found ++ x ∷ [])) (pure_rule (found ++ x ∷ [])) (after signs.Comma us))
      (λ x us is. (let p : Past ts us = goes ts us x is a in
      let b : Behind us (after signs.Comma us) = after_behind signs.Comma us p.are in
      same_first (sees signs.Comma us) (separated_from item (length ts) (found ++ x ∷ [])) (rest_separated (found ++ x ∷ [])) (pure_rule (found ++ x ∷ [])) (after signs.Comma us)
      (separated_enough (length ts) (length (after signs.Comma us)) (found ++ x ∷ []) (after signs.Comma us) b.are (omega (arith, p.shorter, b.no_longer)) (omega arith))))

module _ {A : Type 0} (item : Rule A) (deeper : ℕ → Rule A) (hi : (ts : Tokens) → AreTokens ts → Alike false (item ts) deeper ts)
    (goes : (ts us : Tokens) (x : A) → item ts ≡ Ok (x, us) → GoesPast ts us) (goes' : (m : ℕ) (ts us : Tokens) (x : A) → deeper m ts ≡ Ok (x, us) → GoesPast ts us) where
  separated_from_alike : (count : ℕ) (found : List A) (ts : Tokens) → length ts ≤ count → AreTokens ts → Alike false (separated_from item count found ts) (λ m. rest_separated (deeper m) (goes' m) found) ts
  unfolding separated_from
  separated_from_alike zero found ts l a = some_tokens ts a l
  separated_from_alike (suc count) found ts l a =
      all_alike (λ m. rest_separated (deeper m) (goes' m) found) (λ m. one_more (deeper m) (goes' m) found) (λ m us b. separated_turn (deeper m) (goes' m) found us b) false
      (separated_from item (suc count) found ts) ts a
      (bind_alike false (item ts) deeper (λ x us. cond (sees signs.Comma us) (separated_from item count (found ++ x ∷ [])) (pure_rule (found ++ x ∷ [])) (after signs.Comma us))
      (λ m x us. cond (sees signs.Comma us) (rest_separated (deeper m) (goes' m) (found ++ x ∷ [])) (pure_rule (found ++ x ∷ [])) (after signs.Comma us)) ts (hi ts a)
      (λ x us is b. (let p : Past ts us = goes ts us x is a in
      eat_alike signs.Comma (separated_from item count (found ++ x ∷ [])) (pure_rule (found ++ x ∷ [])) (λ m. rest_separated (deeper m) (goes' m) (found ++ x ∷ [])) (λ m. pure_rule (found ++ x ∷ [])) us b
      (λ _ c shorter. separated_from_alike count (found ++ x ∷ []) (next us) (omega (arith, p.shorter, shorter)) c) (λ _. pure_alike (found ++ x ∷ []) us b))))

  pub separated_alike : (ts : Tokens) → AreTokens ts → Alike false (separated item ts) (λ m. separated (deeper m)) ts
  unfolding separated turns
  separated_alike ts a = separated_from_alike (length ts) [] ts (omega arith) a

-- ---- suffixes

begins_first : (t : Token) (r other : Tokens) → begins_suffix (t ∷ other) ≡ begins_suffix (t ∷ r)
unfolding begins_suffix sees kind
begins_first t r other = refl

module _ (n : Bool → Rule Expr) (goes : (ts us : Tokens) (x : Suffix) → suffix_rule n ts ≡ Ok (x, us) → GoesPast ts us) where
  abbrev found_more : ℕ → List Suffix → Rule (List Suffix)
  found_more count found us = read_then (suffix_rule n us) (λ x. suffixes_from n count (found ++ x ∷ []))

  same_test : (b : Bool) (x y z : Outcome (List Suffix)) → x ≡ y → cond b x z ≡ cond b y z
  same_test true x y z e = e
  same_test false x y z e = refl

  suffixes_enough : (c d : ℕ) (found : List Suffix) (ts : Tokens) → AreTokens ts → length ts ≤ c → length ts ≤ d → suffixes_from n c found ts ≡ suffixes_from n d found ts
  unfolding suffixes_from
  suffixes_enough zero d found ts a h i = some_tokens ts a h
  suffixes_enough (suc c) zero found ts a h i = some_tokens ts a i
  suffixes_enough (suc c) (suc d) found ts a h i =
      same_test (begins_suffix ts) (found_more c found ts) (found_more d found ts) (Ok (found, ts))
      (same_then (suffix_rule n ts) (λ x. suffixes_from n c (found ++ x ∷ [])) (λ x. suffixes_from n d (found ++ x ∷ []))
      (λ x us is. (let p : Past ts us = goes ts us x is a in suffixes_enough c d (found ++ x ∷ []) us p.are (omega (arith, p.shorter)) (omega (arith, p.shorter)))))

  abbrev rest_suffixes : List Suffix → Rule (List Suffix)
  rest_suffixes found us = suffixes_from n (length us) found us

  abbrev one_suffix : List Suffix → Rule (List Suffix)
  one_suffix found us = cond (begins_suffix us) (read_then (suffix_rule n us) (λ x. rest_suffixes (found ++ x ∷ []))) (Ok (found, us))

  suffixes_turn : (found : List Suffix) (ts : Tokens) → AreTokens ts → rest_suffixes found ts ≡ one_suffix found ts
  unfolding suffixes_from
  suffixes_turn found ts a =
      suffixes_enough (length ts) (suc (length ts)) found ts a (omega arith) (omega arith)
      ∙ same_test (begins_suffix ts) (found_more (length ts) found ts) (read_then (suffix_rule n ts) (λ x. rest_suffixes (found ++ x ∷ []))) (Ok (found, ts))
      (same_then (suffix_rule n ts) (λ x. suffixes_from n (length ts) (found ++ x ∷ [])) (λ x. rest_suffixes (found ++ x ∷ []))
      (λ x us is. (let p : Past ts us = goes ts us x is a in suffixes_enough (length ts) (length us) (found ++ x ∷ []) us p.are (omega (arith, p.shorter)) (omega arith))))

module _ (n : Bool → Rule Expr) (deeper : ℕ → Bool → Rule Expr) (hs : (ts : Tokens) → AreTokens ts → Alike false (suffix_rule n ts) (λ m. suffix_rule (deeper m)) ts)
    (goes : (ts us : Tokens) (x : Suffix) → suffix_rule n ts ≡ Ok (x, us) → GoesPast ts us)
    (goes' : (m : ℕ) (ts us : Tokens) (x : Suffix) → suffix_rule (deeper m) ts ≡ Ok (x, us) → GoesPast ts us) where
  suffixes_from_alike : (count : ℕ) (found : List Suffix) (ts : Tokens) → length ts ≤ count → AreTokens ts → Alike false (suffixes_from n count found ts) (λ m. rest_suffixes (deeper m) (goes' m) found) ts
  unfolding suffixes_from
  suffixes_from_alike zero found ts l a = some_tokens ts a l
  suffixes_from_alike (suc count) found ts l a =
      all_alike (λ m. rest_suffixes (deeper m) (goes' m) found) (λ m. one_suffix (deeper m) (goes' m) found) (λ m us b. suffixes_turn (deeper m) (goes' m) found us b) false
      (suffixes_from n (suc count) found ts) ts a
      (test_alike false begins_suffix begins_first (read_then (suffix_rule n ts) (λ x. suffixes_from n count (found ++ x ∷ []))) (Ok (found, ts))
      (λ m us. read_then (suffix_rule (deeper m) us) (λ x. rest_suffixes (deeper m) (goes' m) (found ++ x ∷ []))) (λ m us. Ok (found, us)) ts a
      (λ _. bind_alike false (suffix_rule n ts) (λ m. suffix_rule (deeper m)) (λ x. suffixes_from n count (found ++ x ∷ [])) (λ m x. rest_suffixes (deeper m) (goes' m) (found ++ x ∷ [])) ts (hs ts a)
      (λ x us is b. (let p : Past ts us = goes ts us x is a in suffixes_from_alike count (found ++ x ∷ []) us (omega (arith, p.shorter)) b)))
      (λ _. pure_alike found ts a))

  pub suffixes_alike : (ts : Tokens) → AreTokens ts → Alike false (all_suffixes n ts) (λ m. all_suffixes (deeper m)) ts
  unfolding all_suffixes turns
  suffixes_alike ts a = suffixes_from_alike (length ts) [] ts (omega arith) a

-- ---- operators

abbrev Tail : Type 0
Tail = Operator × Expr

operator_no_last : (level : ℕ) (k : Kind) (op : Operator) → operator_at level k ≡ Some op → IsLast k → ⊥
unfolding operator_at operator
operator_no_last level kinds.End op is l = absurd cc
operator_no_last level (kinds.Bad why) op is l = absurd cc
operator_no_last level (kinds.Name n) op is l = l
operator_no_last level (kinds.Integer n) op is l = l
operator_no_last level (kinds.Text n) op is l = l
operator_no_last level (kinds.Word n) op is l = l
operator_no_last level (kinds.Sign n) op is l = l

module _ (level : ℕ) (operand : Rule Expr) (goes : (ts us : Tokens) (x : Expr) → operand ts ≡ Ok (x, us) → GoesPast ts us) where
  tail_same : (o : Option Operator) (found : List Tail) (f g : List Tail → Rule (List Tail)) (ts : Tokens) → operator_at level (kind ts) ≡ o → AreTokens ts
      → ((longer : List Tail) (us : Tokens) → AreTokens us → suc (length us) ≤ length ts → f longer us ≡ g longer us) → tail_by operand o found f ts ≡ tail_by operand o found g ts
  tail_same None found f g ts is a h = refl
  tail_same (Some op) found f g ts is a h =
      let p : Past ts (next ts) = operator_past level (kind ts) op (record { is = refl; rest = refl }) is a in
      same_then (operand (next ts)) (λ right. f (found ++ (op, right) ∷ [])) (λ right. g (found ++ (op, right) ∷ []))
      (λ x us e. (let q : Past (next ts) us = goes (next ts) us x e p.are in h (found ++ (op, x) ∷ []) us q.are (omega (arith, p.shorter, q.shorter))))

  tails_enough : (c d : ℕ) (found : List Tail) (ts : Tokens) → AreTokens ts → length ts ≤ c → length ts ≤ d → tails_from level operand c found ts ≡ tails_from level operand d found ts
  unfolding tails_from
  tails_enough zero d found ts a h i = some_tokens ts a h
  tails_enough (suc c) zero found ts a h i = some_tokens ts a i
  tails_enough (suc c) (suc d) found ts a h i =
      tail_same (operator_at level (kind ts)) found (λ longer. tails_from level operand c longer) (λ longer. tails_from level operand d longer) ts refl a
      (λ longer us b shorter. tails_enough c d longer us b (omega (arith, shorter)) (omega (arith, shorter)))

  abbrev rest_tails : List Tail → Rule (List Tail)
  rest_tails found us = tails_from level operand (length us) found us

  abbrev one_tail : List Tail → Rule (List Tail)
  one_tail found us = tail_by operand (operator_at level (kind us)) found rest_tails us

  tails_turn : (found : List Tail) (ts : Tokens) → AreTokens ts → rest_tails found ts ≡ one_tail found ts
  unfolding tails_from
  tails_turn found ts a =
      tails_enough (length ts) (suc (length ts)) found ts a (omega arith) (omega arith)
      ∙ tail_same (operator_at level (kind ts)) found (λ longer. tails_from level operand (length ts) longer) rest_tails ts refl a
      (λ longer us b shorter. tails_enough (length ts) (length us) longer us b (omega (arith, shorter)) (omega arith))

module _ (level : ℕ) (operand : Rule Expr) (deeper : ℕ → Rule Expr) (ho : (ts : Tokens) → AreTokens ts → Alike false (operand ts) deeper ts)
    (goes : (ts us : Tokens) (x : Expr) → operand ts ≡ Ok (x, us) → GoesPast ts us) (goes' : (m : ℕ) (ts us : Tokens) (x : Expr) → deeper m ts ≡ Ok (x, us) → GoesPast ts us) where
  abbrev after_tail : Operator → List Tail → (List Tail → Rule (List Tail)) → Expr → Rule (List Tail)
  after_tail op found rest right = rest (found ++ (op, right) ∷ [])

  tail_alike : (o : Option Operator) (found : List Tail) (rest : List Tail → Rule (List Tail)) (ts : Tokens) → operator_at level (kind ts) ≡ o → AreTokens ts
      → ((longer : List Tail) (us : Tokens) → suc (length us) ≤ length ts → AreTokens us → Alike false (rest longer us) (λ m. rest_tails level (deeper m) (goes' m) longer) us)
      → Alike false (tail_by operand o found rest ts) (λ m. tail_by (deeper m) o found (rest_tails level (deeper m) (goes' m))) ts
  tail_alike None found rest ts is a h = pure_alike found ts a
  tail_alike (Some op) found rest ts is a h =
      loosely (read_then (operand (next ts)) (after_tail op found rest)) (λ m us. read_then (deeper m (next us)) (after_tail op found (rest_tails level (deeper m) (goes' m)))) ts
      (taken_alike (λ us. read_then (operand us) (after_tail op found rest)) (λ m us. read_then (deeper m us) (after_tail op found (rest_tails level (deeper m) (goes' m)))) ts
      (operator_no_last level (kind ts) op is) a
      (λ b shorter. bind_alike false (operand (next ts)) deeper (after_tail op found rest) (λ m. after_tail op found (rest_tails level (deeper m) (goes' m))) (next ts) (ho (next ts) b)
      (λ x us e c. (let q : Past (next ts) us = goes (next ts) us x e b in h (found ++ (op, x) ∷ []) us (omega (arith, shorter, q.shorter)) c))))

  tails_from_alike : (count : ℕ) (found : List Tail) (ts : Tokens) → length ts ≤ count → AreTokens ts → Alike false (tails_from level operand count found ts) (λ m. rest_tails level (deeper m) (goes' m) found) ts
  unfolding tails_from kind
  tails_from_alike zero found ts l a = some_tokens ts a l
  tails_from_alike (suc count) found [] l a = absurd a
  tails_from_alike (suc count) found (t ∷ r) l a =
      all_alike (λ m. rest_tails level (deeper m) (goes' m) found) (λ m. one_tail level (deeper m) (goes' m) found) (λ m us b. tails_turn level (deeper m) (goes' m) found us b) false
      (tails_from level operand (suc count) found (t ∷ r)) (t ∷ r) a
      (first_alike (λ m. one_tail level (deeper m) (goes' m) found) (λ m. tail_by (deeper m) (operator_at level t.kind) found (rest_tails level (deeper m) (goes' m))) t r (λ m other _. refl) false
      (tails_from level operand (suc count) found (t ∷ r))
      (tail_alike (operator_at level t.kind) found (λ longer. tails_from level operand count longer) (t ∷ r) refl a
      (λ longer us shorter b. tails_from_alike count longer us (omega (arith, shorter)) b)))

  pub tails_alike : (ts : Tokens) → AreTokens ts → Alike false (tails level operand ts) (λ m. tails level (deeper m)) ts
  unfolding tails turns
  tails_alike ts a = tails_from_alike (length ts) [] ts (omega arith) a

-- ---- statements

module _ (room : ℕ) (inner : Bool → Rule Statement) (l : Bool) (goes : (ts us : Tokens) (x : Statement) → inner l ts ≡ Ok (x, us) → GoesPast ts us) where
  abbrev block_more : ℕ → List Statement → Rule (List Statement)
  block_more count found us = read_then (inner l us) (λ x. block_from room inner l count (found ++ x ∷ []))

  block_enough : (c d : ℕ) (found : List Statement) (ts : Tokens) → AreTokens ts → length ts ≤ c → length ts ≤ d → block_from room inner l c found ts ≡ block_from room inner l d found ts
  unfolding block_from
  block_enough zero d found ts a h i = some_tokens ts a h
  block_enough (suc c) zero found ts a h i = some_tokens ts a i
  block_enough (suc c) (suc d) found ts a h i =
      let b : Behind ts (after signs.BraceClose ts) = after_behind signs.BraceClose ts a in
      same_other (sees signs.BraceClose ts) (block_more c found) (block_more d found) (pure_rule found) (after signs.BraceClose ts)
      (same_then (inner l (after signs.BraceClose ts)) (λ x. block_from room inner l c (found ++ x ∷ [])) (λ x. block_from room inner l d (found ++ x ∷ []))
      (λ x us is. (let p : Past (after signs.BraceClose ts) us = goes (after signs.BraceClose ts) us x is b.are in
      block_enough c d (found ++ x ∷ []) us p.are (omega (arith, p.shorter, b.no_longer)) (omega (arith, p.shorter, b.no_longer)))))

  abbrev rest_block : List Statement → Rule (List Statement)
  rest_block found us = block_from room inner l (length us) found us

  abbrev one_statement : List Statement → Rule (List Statement)
  one_statement found us = cond (sees signs.BraceClose us) (pure_rule found) (λ vs. read_then (inner l vs) (λ x. rest_block (found ++ x ∷ []))) (after signs.BraceClose us)

  block_turn : (found : List Statement) (ts : Tokens) → AreTokens ts → rest_block found ts ≡ one_statement found ts
  unfolding block_from
  block_turn found ts a =
      let b : Behind ts (after signs.BraceClose ts) = after_behind signs.BraceClose ts a in
      block_enough (length ts) (suc (length ts)) found ts a (omega arith) (omega arith)
      ∙ same_other (sees signs.BraceClose ts) (block_more (length ts) found) (λ vs. read_then (inner l vs) (λ x. rest_block (found ++ x ∷ []))) (pure_rule found) (after signs.BraceClose ts)
      (same_then (inner l (after signs.BraceClose ts)) (λ x. block_from room inner l (length ts) (found ++ x ∷ [])) (λ x. rest_block (found ++ x ∷ []))
      (λ x us is. (let p : Past (after signs.BraceClose ts) us = goes (after signs.BraceClose ts) us x is b.are in
      block_enough (length ts) (length us) (found ++ x ∷ []) us p.are (omega (arith, p.shorter, b.no_longer)) (omega arith))))

module _ (room : ℕ) (more : ℕ → ℕ) (inner : Bool → Rule Statement) (deeper : ℕ → Bool → Rule Statement) (l : Bool)
    (hi : (ts : Tokens) → AreTokens ts → Alike false (inner l ts) (λ m. deeper m l) ts) (goes : (ts us : Tokens) (x : Statement) → inner l ts ≡ Ok (x, us) → GoesPast ts us)
    (goes' : (m : ℕ) (ts us : Tokens) (x : Statement) → deeper m l ts ≡ Ok (x, us) → GoesPast ts us) where
  block_from_alike : (count : ℕ) (found : List Statement) (ts : Tokens) → length ts ≤ count → AreTokens ts
      → Alike false (block_from room inner l count found ts) (λ m. rest_block (more m) (deeper m) l (goes' m) found) ts
  unfolding block_from
  block_from_alike zero found ts c a = some_tokens ts a c
  block_from_alike (suc count) found ts c a =
      all_alike (λ m. rest_block (more m) (deeper m) l (goes' m) found) (λ m. one_statement (more m) (deeper m) l (goes' m) found) (λ m us b. block_turn (more m) (deeper m) l (goes' m) found us b) false
      (block_from room inner l (suc count) found ts) ts a
      (eat_alike signs.BraceClose (pure_rule found) (λ us. read_then (inner l us) (λ x. block_from room inner l count (found ++ x ∷ []))) (λ m. pure_rule found)
      (λ m us. read_then (deeper m l us) (λ x. rest_block (more m) (deeper m) l (goes' m) (found ++ x ∷ []))) ts a
      (λ _ b _. pure_alike found (next ts) b)
      (λ _. bind_alike false (inner l ts) (λ m. deeper m l) (λ x. block_from room inner l count (found ++ x ∷ [])) (λ m x. rest_block (more m) (deeper m) l (goes' m) (found ++ x ∷ [])) ts (hi ts a)
      (λ x us is b. (let p : Past ts us = goes ts us x is a in block_from_alike count (found ++ x ∷ []) us (omega (arith, p.shorter)) b))))

  pub block_alike : (ts : Tokens) → AreTokens ts → Alike false (block_rule room inner l ts) (λ m. block_rule (more m) (deeper m) l) ts
  unfolding block_rule turns
  block_alike ts a = block_from_alike (length ts) [] ts (omega arith) a
