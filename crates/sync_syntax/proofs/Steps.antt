-- What each rule of expressions reads, where the rules that it is made of read what they should.
use Rattle.std.proofs.Common.{◌≡◌, ℕ, suc, ◌≤◌, Bool, true, false, cond, List, [], ◌∷◌, ◌++◌, length, Some, None, Ok, refl, sym, ap, ◌∙◌, eqb-true, arith}
use Rattle.std.specs.Prelude.{◌==◌}
use Rattle.sync_tokens.specs.Spellable.{AreTokens}
use Rattle.sync_tokens.specs.declared.token.Kind.{Kind}
use Rattle.sync_tokens.specs.declared.token.Kind.TheVariants as kinds
use Rattle.sync_tokens.specs.declared.token.Sign.{Sign}
use Rattle.sync_tokens.specs.declared.token.Sign.TheVariants as signs
use Rattle.sync_tokens.specs.declared.token.Word.{Word}
use Rattle.sync_tokens.specs.declared.token.Word.TheVariants as words
use Rattle.sync_syntax.specs.declared.tree.Operator.{Operator}
use Rattle.sync_syntax.specs.declared.tree.Prefix.{Prefix}
use Rattle.sync_syntax.specs.declared.tree.Expr.{Expr}
use Rattle.sync_syntax.specs.declared.tree.Expr.TheVariants as e
use Rattle.sync_syntax.specs.declared.tree.Suffix.{Suffix}
use Rattle.sync_syntax.specs.declared.tree.Suffix.TheVariants as suffixes
use Rattle.sync_syntax.specs.Reading.{Tokens, Outcome, Rule, kind, next, place, same_sign, is_sign, sees, sees_word, after, after_word, expect, expect_word, name_rule, separated_from}
use Rattle.sync_syntax.specs.Operators.{operator_at, prefix_by}
use Rattle.sync_syntax.specs.Expressions.{key, followed, chained, begins_suffix, tails_from, tails, list_rule, member_rule, members_rule, separated_in, some_members, primary, suffix_rule, suffixes_from, all_suffixes, postfix_rule, unary, unary_in, chain_rule, chain_in, choice_rule, expr_or_operand, nested}
use Rattle.sync_syntax.specs.Grammar as g
use Rattle.sync_syntax.specs.Grammar.{Takes, IsKey, IsSuffix}
use Rattle.sync_syntax.proofs.Fronts.{takes_sees, takes_sees_word, unseen}

pub some_tokens : {P : Type 0} (ts : Tokens) → AreTokens ts → length ts ≤ 0 → P
some_tokens [] a none = absurd a
some_tokens (t ∷ ts) a none = absurd (omega arith)

-- ---- single tokens

abbrev gives : {A : Type 0} → A → Tokens → Outcome A
gives x us = Ok (x, us)

-- what stands behind the next token
pub got : {A : Type 0} (x : A) {vs us : Tokens} → us ≡ vs → gives x vs ≡ gives x us
got x rest = ap (λ vs. Ok (x, vs)) (sym rest)

pub after_taken : (s : Sign) {ts us : Tokens} → Takes (kinds.Sign s) ts us → after s ts ≡ us
unfolding after
after_taken s {ts} k = ap (λ b. cond b (next ts) ts) (takes_sees s k) ∙ sym k.rest

pub after_none : (s : Sign) {ts : Tokens} → sees s ts ≡ false → after s ts ≡ ts
unfolding after
after_none s {ts} h = ap (λ b. cond b (next ts) ts) h

pub after_taken_word : (w : Word) {ts us : Tokens} → Takes (kinds.Word w) ts us → after_word w ts ≡ us
unfolding after_word
after_taken_word w {ts} k = ap (λ b. cond b (next ts) ts) (takes_sees_word w k) ∙ sym k.rest

pub after_none_word : (w : Word) {ts : Tokens} → sees_word w ts ≡ false → after_word w ts ≡ ts
unfolding after_word
after_none_word w {ts} h = ap (λ b. cond b (next ts) ts) h

pub expect_read : (s : Sign) {ts us : Tokens} → Takes (kinds.Sign s) ts us → expect s ts ≡ Ok (tt, us)
unfolding expect
expect_read s k = rw (takes_sees s k) (got tt k.rest)

pub expect_word_read : (w : Word) {ts us : Tokens} → Takes (kinds.Word w) ts us → expect_word w ts ≡ Ok (tt, us)
unfolding expect_word
expect_word_read w k = rw (takes_sees_word w k) (got tt k.rest)

pub name_read : {n : List ℕ} {ts us : Tokens} → Takes (kinds.Name n) ts us → name_rule ts ≡ Ok (n, us)
unfolding name_rule
name_read {n} k = rw k.is (got n k.rest)

pub key_read : {ts us : Tokens} {n : List ℕ} → IsKey ts n us → key ts ≡ Ok (n, us)
unfolding key
key_read {n = n} (g.name_key k) = rw k.is (got n k.rest)
key_read {n = n} (g.text_key k) = rw k.is (got n k.rest)

-- ---- with commas between

pub separated_last : {A : Type 0} (item : Rule A) (count : ℕ) (found : List A) {ts us : Tokens} {x : A} → item ts ≡ Ok (x, us) → sees signs.Comma us ≡ false
    → separated_from item (suc count) found ts ≡ Ok (found ++ x ∷ [], us)
unfolding separated_from
separated_last item count found i h = rw (i, h, after_none signs.Comma h) refl

pub separated_more : {A : Type 0} (item : Rule A) (count : ℕ) (found : List A) {ts us vs : Tokens} {x : A} {out : Outcome (List A)} → item ts ≡ Ok (x, us)
    → Takes (kinds.Sign signs.Comma) us vs → separated_from item count (found ++ x ∷ []) vs ≡ out → separated_from item (suc count) found ts ≡ out
unfolding separated_from
separated_more item count found i k r = rw (i, takes_sees signs.Comma k, after_taken signs.Comma k) r

-- ---- what stands in brackets

pub list_none : (n : Bool → Rule Expr) (close : Sign) {ts us : Tokens} → Takes (kinds.Sign close) ts us → list_rule n close ts ≡ Ok ([], us)
unfolding list_rule
list_none n close k = rw (takes_sees close k, after_taken close k) refl

pub list_some : (n : Bool → Rule Expr) (close : Sign) (ts : Tokens) {us vs : Tokens} {xs : List Expr} → sees close ts ≡ false → separated_in n ts ≡ Ok (xs, us)
    → Takes (kinds.Sign close) us vs → list_rule n close ts ≡ Ok (xs, vs)
unfolding list_rule
list_some n close ts h r k = rw (h, after_none close h, r, expect_read close k) refl

pub members_none : (n : Bool → Rule Expr) {ts us : Tokens} → Takes (kinds.Sign signs.BraceClose) ts us → members_rule n ts ≡ Ok ([], us)
unfolding members_rule
members_none n k = rw (takes_sees signs.BraceClose k, after_taken signs.BraceClose k) refl

pub members_some : (n : Bool → Rule Expr) (ts : Tokens) {us vs : Tokens} {xs : List (List ℕ × Expr)} → sees signs.BraceClose ts ≡ false → some_members n ts ≡ Ok (xs, us)
    → Takes (kinds.Sign signs.BraceClose) us vs → members_rule n ts ≡ Ok (xs, vs)
unfolding members_rule
members_some n ts h r k = rw (h, after_none signs.BraceClose h, r, expect_read signs.BraceClose k) refl

pub member_step : (n : Bool → Rule Expr) {ts us vs ws : Tokens} {key : List ℕ} {x : Expr} → IsKey ts key us → Takes (kinds.Sign signs.Colon) us vs
    → n false vs ≡ Ok (x, ws) → member_rule n ts ≡ Ok ((key, x), ws)
unfolding member_rule
member_step n i k r = rw (key_read i, expect_read signs.Colon k, r) refl

-- ---- primaries

pub integer_step : (n : Bool → Rule Expr) {m : ℕ} {ts us : Tokens} → Takes (kinds.Integer m) ts us → primary n ts ≡ Ok (e.Integer (place ts) m, us)
unfolding primary
integer_step n k = rw k.is (got _ k.rest)

pub text_step : (n : Bool → Rule Expr) {m : List ℕ} {ts us : Tokens} → Takes (kinds.Text m) ts us → primary n ts ≡ Ok (e.Text (place ts) m, us)
unfolding primary
text_step n k = rw k.is (got _ k.rest)

pub name_step : (n : Bool → Rule Expr) {m : List ℕ} {ts us : Tokens} → Takes (kinds.Name m) ts us → primary n ts ≡ Ok (e.Name (place ts) m, us)
unfolding primary
name_step n k = rw k.is (got _ k.rest)

pub yes_step : (n : Bool → Rule Expr) {ts us : Tokens} → Takes (kinds.Word words.True) ts us → primary n ts ≡ Ok (e.Bool (place ts) true, us)
unfolding primary
yes_step n k = rw k.is (got _ k.rest)

pub no_step : (n : Bool → Rule Expr) {ts us : Tokens} → Takes (kinds.Word words.False) ts us → primary n ts ≡ Ok (e.Bool (place ts) false, us)
unfolding primary
no_step n k = rw k.is (got _ k.rest)

pub null_step : (n : Bool → Rule Expr) {ts us : Tokens} → Takes (kinds.Word words.Null) ts us → primary n ts ≡ Ok (e.Null (place ts), us)
unfolding primary
null_step n k = rw k.is (got _ k.rest)

pub undefined_step : (n : Bool → Rule Expr) {ts us : Tokens} → Takes (kinds.Word words.Undefined) ts us → primary n ts ≡ Ok (e.Undefined (place ts), us)
unfolding primary
undefined_step n k = rw k.is (got _ k.rest)

pub parentheses_step : (n : Bool → Rule Expr) {ts us vs ws : Tokens} {x : Expr} → Takes (kinds.Sign signs.ParenOpen) ts us → n false us ≡ Ok (x, vs)
    → Takes (kinds.Sign signs.ParenClose) vs ws → primary n ts ≡ Ok (x, ws)
unfolding primary
parentheses_step n k r l = rw (k.is, ← k.rest, r, expect_read signs.ParenClose l) refl

pub list_step : (n : Bool → Rule Expr) {ts us vs : Tokens} {xs : List Expr} → Takes (kinds.Sign signs.BracketOpen) ts us → list_rule n signs.BracketClose us ≡ Ok (xs, vs)
    → primary n ts ≡ Ok (e.List (place ts) xs, vs)
unfolding primary
list_step n k r = rw (k.is, ← k.rest, r) refl

pub object_step : (n : Bool → Rule Expr) {ts us vs : Tokens} {xs : List (List ℕ × Expr)} → Takes (kinds.Sign signs.BraceOpen) ts us → members_rule n us ≡ Ok (xs, vs)
    → primary n ts ≡ Ok (e.Object (place ts) xs, vs)
unfolding primary
object_step n k r = rw (k.is, ← k.rest, r) refl

-- ---- suffixes

pub member_suffix_step : (n : Bool → Rule Expr) {ts us vs : Tokens} {m : List ℕ} → Takes (kinds.Sign signs.Dot) ts us → Takes (kinds.Name m) us vs
    → suffix_rule n ts ≡ Ok (suffixes.Member m, vs)
unfolding suffix_rule
member_suffix_step n k m = rw (takes_sees signs.Dot k, after_taken signs.Dot k, name_read m) refl

bracket_no_dot : is_sign signs.Dot (kinds.Sign signs.BracketOpen) ≡ false
unfolding same_sign
bracket_no_dot = refl

paren_no_dot : is_sign signs.Dot (kinds.Sign signs.ParenOpen) ≡ false
unfolding same_sign
paren_no_dot = refl

paren_no_bracket : is_sign signs.BracketOpen (kinds.Sign signs.ParenOpen) ≡ false
unfolding same_sign
paren_no_bracket = refl

pub index_suffix_step : (n : Bool → Rule Expr) {ts us vs ws : Tokens} {x : Expr} → Takes (kinds.Sign signs.BracketOpen) ts us → n false us ≡ Ok (x, vs)
    → Takes (kinds.Sign signs.BracketClose) vs ws → suffix_rule n ts ≡ Ok (suffixes.Index x, ws)
unfolding suffix_rule
index_suffix_step n k r l =
    let no_dot = unseen signs.Dot _ k bracket_no_dot in
    rw (no_dot, after_none signs.Dot no_dot, takes_sees signs.BracketOpen k, after_taken signs.BracketOpen k, r, expect_read signs.BracketClose l) refl

pub call_suffix_step : (n : Bool → Rule Expr) {ts us vs : Tokens} {xs : List Expr} → Takes (kinds.Sign signs.ParenOpen) ts us → list_rule n signs.ParenClose us ≡ Ok (xs, vs)
    → suffix_rule n ts ≡ Ok (suffixes.Call xs, vs)
unfolding suffix_rule
call_suffix_step n k r =
    let no_dot = unseen signs.Dot _ k paren_no_dot in
    let no_bracket = unseen signs.BracketOpen _ k paren_no_bracket in
    rw (no_dot, after_none signs.Dot no_dot, no_bracket, after_none signs.BracketOpen no_bracket, expect_read signs.ParenOpen k, r) refl

suffix_begins : {ts us : Tokens} {x : Suffix} → IsSuffix ts x us → begins_suffix ts ≡ true
unfolding begins_suffix
suffix_begins (g.member_suffix k m) = rw (takes_sees signs.Dot k) refl
suffix_begins (g.index_suffix k x l) = rw (unseen signs.Dot _ k bracket_no_dot, takes_sees signs.BracketOpen k) refl
suffix_begins (g.call_suffix k h) = rw (unseen signs.Dot _ k paren_no_dot, unseen signs.BracketOpen _ k paren_no_bracket, takes_sees signs.ParenOpen k) refl

pub suffixes_stop : (n : Bool → Rule Expr) (count : ℕ) (found : List Suffix) (ts : Tokens) → begins_suffix ts ≡ false → suffixes_from n (suc count) found ts ≡ Ok (found, ts)
unfolding suffixes_from
suffixes_stop n count found ts h = rw h refl

pub suffixes_more : (n : Bool → Rule Expr) (count : ℕ) (found : List Suffix) {ts us : Tokens} {x : Suffix} {out : Outcome (List Suffix)} → IsSuffix ts x us
    → suffix_rule n ts ≡ Ok (x, us) → suffixes_from n count (found ++ x ∷ []) us ≡ out → suffixes_from n (suc count) found ts ≡ out
unfolding suffixes_from
suffixes_more n count found s r h = rw (suffix_begins s, r) h

pub postfix_step : (room : ℕ) (n : Bool → Rule Expr) (ts us : Tokens) {vs : Tokens} {x : Expr} {xs : List Suffix} → prefix_by (kind ts) ≡ None → primary n ts ≡ Ok (x, us)
    → all_suffixes n us ≡ Ok (xs, vs) → unary room n ts ≡ Ok (followed x xs, vs)
unfolding unary postfix_rule
postfix_step room n ts us none r s = rw (none, r, s) refl

-- ---- operators

pub operand_step : (room : ℕ) (ts : Tokens) → nested (suc room) true ts ≡ unary_in room ts
unfolding nested expr_or_operand
operand_step room ts = refl

some_room : (n : ℕ) (b : Bool) → (suc n == 0) ≡ b → b ≡ false
some_room n true h = absurd (let none : suc n ≡ 0 = eqb-true (suc n) 0 h in omega arith)
some_room n false h = refl

pub prefixed_step : (room : ℕ) {k : Kind} {op : Prefix} {ts us vs : Tokens} {x : Expr} → Takes k ts us → prefix_by k ≡ Some op
    → nested (suc room) true us ≡ Ok (x, vs) → unary_in (suc room) ts ≡ Ok (e.Prefix (place ts) op x, vs)
unfolding unary
prefixed_step room take is r = rw (take.is, is, some_room room (suc room == 0) refl, ← take.rest, r) refl

pub tails_stop : (level : ℕ) (operand : Rule Expr) (count : ℕ) (found : List (Operator × Expr)) (ts : Tokens) → operator_at level (kind ts) ≡ None
    → tails_from level operand (suc count) found ts ≡ Ok (found, ts)
unfolding tails_from
tails_stop level operand count found ts none = rw none refl

pub tails_more : (level : ℕ) (operand : Rule Expr) (count : ℕ) (found : List (Operator × Expr)) {k : Kind} {op : Operator} {ts us vs : Tokens} {x : Expr}
    {out : Outcome (List (Operator × Expr))} → Takes k ts us → operator_at level k ≡ Some op → operand us ≡ Ok (x, vs)
    → tails_from level operand count (found ++ (op, x) ∷ []) vs ≡ out → tails_from level operand (suc count) found ts ≡ out
unfolding tails_from
tails_more level operand count found take is r h = rw (take.is, is, ← take.rest, r) h

pub chain_zero : (room : ℕ) (ts : Tokens) → chain_in room 0 ts ≡ unary_in room ts
unfolding chain_rule
chain_zero room ts = refl

pub chain_step : (room level : ℕ) (ts us : Tokens) {vs : Tokens} {x : Expr} {xs : List (Operator × Expr)} → chain_in room level ts ≡ Ok (x, us)
    → tails (suc level) (chain_in room level) us ≡ Ok (xs, vs) → chain_in room (suc level) ts ≡ Ok (chained x xs, vs)
unfolding chain_rule
chain_step room level ts us r s = rw (r, s) refl

pub no_choice_step : (room : ℕ) (ts us : Tokens) {x : Expr} → chain_in room 6 ts ≡ Ok (x, us) → sees signs.Question us ≡ false → nested (suc room) false ts ≡ Ok (x, us)
unfolding nested expr_or_operand choice_rule
no_choice_step room ts us r none = rw (r, none, after_none signs.Question none) refl

pub choice_step : (room : ℕ) (ts : Tokens) {us vs ws xs ys : Tokens} {x a b : Expr} → chain_in room 6 ts ≡ Ok (x, us) → Takes (kinds.Sign signs.Question) us vs
    → nested room false vs ≡ Ok (a, ws) → Takes (kinds.Sign signs.Colon) ws xs → nested room false xs ≡ Ok (b, ys)
    → nested (suc room) false ts ≡ Ok (e.Choice x a b, ys)
unfolding nested expr_or_operand choice_rule
choice_step room ts r q s k t = rw (r, takes_sees signs.Question q, after_taken signs.Question q, s, expect_read signs.Colon k, t) refl
