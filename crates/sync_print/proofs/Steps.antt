-- What the printing of each node gives, part by part.
use Rattle.std.proofs.Common.{◌≡◌, ℕ, suc, ◌+◌, ◌<◌, Bool, false, Option, Some, None, option_map, List, ◌∷◌, ◌++◌, map, drop, length, get_or, drop-cons, sym, ap, ◌∙◌, arith}
use Rattle.sync_tokens.specs.declared.place.Place.{Place}
use Rattle.sync_tokens.specs.declared.token.Kind.TheVariants as kinds
use Rattle.sync_tokens.specs.declared.token.Sign.TheVariants as signs
use Rattle.sync_tokens.specs.declared.token.Word.TheVariants as words
use Rattle.sync_syntax.specs.declared.tree.Declares.{Declares}
use Rattle.sync_syntax.specs.declared.tree.Declaration.{Declaration}
use Rattle.sync_syntax.specs.declared.tree.Expr.{Expr}
use Rattle.sync_syntax.specs.declared.tree.Expr.TheVariants as e
use Rattle.sync_syntax.specs.declared.tree.Named.{Named}
use Rattle.sync_syntax.specs.declared.tree.Operator.{Operator}
use Rattle.sync_syntax.specs.declared.tree.Simple.{Simple}
use Rattle.sync_syntax.specs.declared.tree.Start.{Start}
use Rattle.sync_syntax.specs.declared.tree.Statement.{Statement}
use Rattle.sync_syntax.specs.declared.tree.Statement.TheVariants as s
use Rattle.sync_syntax.specs.declared.tree.Suffix.{Suffix}
use Rattle.sync_syntax.specs.declared.tree.Suffix.TheVariants as suffix
use Rattle.sync_print.specs.declared.printer.Printer.{Printer}
use Rattle.sync_print.specs.Spelling.{operator_sign, put, put_all}
use Rattle.sync_print.specs.Trees as t
use Rattle.sync_print.specs.Trees.{spelled, spelled_suffix, expr, within, sign, operand_level}
use Rattle.sync_print.proofs.Puts.{put_both}
use Rattle.sync_print.proofs.Layers.{spelled_member, spelled_tail, spelled_list, spelled_object, spelled_postfix, spelled_chain, spelled_choice, spelled_suffix_index, spelled_suffix_call, spelled_statement_declare, spelled_statement_simple, spelled_statement_if, spelled_statement_for, spelled_statement_forof}

pub chain_level : (x : Expr) (ts : List (Operator × Expr)) → (spelled (e.Chain x ts)).level ≡ operand_level (map spelled_tail ts) + 1
chain_level x ts = ap (λ z. z.level) (spelled_chain x ts)

pub list_put : (p : Place) (xs : List Expr) (o : Printer) → put_all (expr (e.List p xs)) o ≡ put (kinds.Sign signs.BracketClose) (put_all (t.listed (map spelled xs)) (put (kinds.Sign signs.BracketOpen) o))
list_put p xs o = ap (λ z. put_all z.tokens o) (spelled_list p xs) ∙ put_both (t.listed (map spelled xs)) (sign signs.BracketClose) (put (kinds.Sign signs.BracketOpen) o)

pub object_put : (p : Place) (ms : List (List ℕ × Expr)) (o : Printer) → put_all (expr (e.Object p ms)) o ≡ put (kinds.Sign signs.BraceClose) (put_all (t.members (map spelled_member ms)) (put (kinds.Sign signs.BraceOpen) o))
object_put p ms o = ap (λ z. put_all z.tokens o) (spelled_object p ms) ∙ put_both (t.members (map spelled_member ms)) (sign signs.BraceClose) (put (kinds.Sign signs.BraceOpen) o)

pub postfix_put : (x : Expr) (ss : List Suffix) (o : Printer) → put_all (expr (e.Postfix x ss)) o ≡ put_all (t.suffixes (map spelled_suffix ss)) (put_all (within 0 (spelled x)) o)
postfix_put x ss o = ap (λ z. put_all z.tokens o) (spelled_postfix x ss) ∙ put_both (within 0 (spelled x)) (t.suffixes (map spelled_suffix ss)) o

abbrev level_in : List (Operator × Expr) → ℕ
level_in ts = operand_level (map spelled_tail ts)

pub chain_put : (x : Expr) (ts : List (Operator × Expr)) (o : Printer) → put_all (expr (e.Chain x ts)) o ≡ put_all (t.tails (operand_level (map spelled_tail ts)) (map spelled_tail ts)) (put_all (within (operand_level (map spelled_tail ts)) (spelled x)) o)
chain_put x ts o = ap (λ z. put_all z.tokens o) (spelled_chain x ts) ∙ put_both (within (level_in ts) (spelled x)) (t.tails (level_in ts) (map spelled_tail ts)) o

pub choice_put : (x a b : Expr) (o : Printer) → put_all (expr (e.Choice x a b)) o ≡ put_all (expr b) (put (kinds.Sign signs.Colon) (put_all (expr a) (put (kinds.Sign signs.Question) (put_all (within 7 (spelled x)) o))))
choice_put x a b o =
    ap (λ z. put_all z.tokens o) (spelled_choice x a b)
    ∙ put_both (within 7 (spelled x)) (kinds.Sign signs.Question ∷ (expr a ++ kinds.Sign signs.Colon ∷ expr b)) o
    ∙ put_both (expr a) (kinds.Sign signs.Colon ∷ expr b) (put (kinds.Sign signs.Question) (put_all (within 7 (spelled x)) o))

pub index_put : (x : Expr) (o : Printer) → put_all (spelled_suffix (suffix.Index x)) o ≡ put (kinds.Sign signs.BracketClose) (put_all (expr x) (put (kinds.Sign signs.BracketOpen) o))
index_put x o = ap (λ z. put_all z o) (spelled_suffix_index x) ∙ put_both (expr x) (sign signs.BracketClose) (put (kinds.Sign signs.BracketOpen) o)

pub call_put : (xs : List Expr) (o : Printer) → put_all (spelled_suffix (suffix.Call xs)) o ≡ put (kinds.Sign signs.ParenClose) (put_all (t.listed (map spelled xs)) (put (kinds.Sign signs.ParenOpen) o))
call_put xs o = ap (λ z. put_all z o) (spelled_suffix_call xs) ∙ put_both (t.listed (map spelled xs)) (sign signs.ParenClose) (put (kinds.Sign signs.ParenOpen) o)

pub chain_put_at : (x : Expr) (ts : List (Operator × Expr)) (n : ℕ) (o : Printer) → n ≡ operand_level (map spelled_tail ts) → put_all (expr (e.Chain x ts)) o ≡ put_all (t.tails n (map spelled_tail ts)) (put_all (within n (spelled x)) o)
chain_put_at x ts n o is = chain_put x ts o ∙ ap (λ m. put_all (t.tails m (map spelled_tail ts)) (put_all (within m (spelled x)) o)) (sym is)

-- ---- lists, item by item

drops : {A : Type 0} (xs : List A) (i : ℕ) (x : A) → i < length xs → x ≡ get_or xs i x → drop i xs ≡ x ∷ drop (i + 1) xs
drops xs i x below is = let next : suc i ≡ i + 1 = omega arith in drop-cons xs i x below ∙ ap (λ y. y ∷ drop (suc i) xs) (sym is) ∙ ap (λ n. x ∷ drop n xs) next

pub listed_step : (first : Bool) (xs : List Expr) (i : ℕ) (x : Expr) (o : Printer) → i < length xs → x ≡ get_or xs i x
    → put_all (t.listed_from first (map spelled (drop i xs))) o ≡ put_all (t.listed_from false (map spelled (drop (i + 1) xs))) (put_all (expr x) (put_all (t.comma first) o))
listed_step first xs i x o below is =
    ap (λ ys. put_all (t.listed_from first (map spelled ys)) o) (drops xs i x below is)
    ∙ put_both (t.comma first) (expr x ++ t.more (map spelled (drop (i + 1) xs))) o
    ∙ put_both (expr x) (t.more (map spelled (drop (i + 1) xs))) (put_all (t.comma first) o)

pub members_step : (first : Bool) (xs : List (List ℕ × Expr)) (i : ℕ) (x : List ℕ × Expr) (o : Printer) → i < length xs → x ≡ get_or xs i x
    → put_all (t.members_from first (map spelled_member (drop i xs))) o
    ≡ put_all (t.members_from false (map spelled_member (drop (i + 1) xs))) (put_all (expr x.1) (put (kinds.Sign signs.Colon) (put (kinds.Text x.0) (put_all (t.comma first) o))))
members_step first xs i x o below is =
    ap (λ ys. put_all (t.members_from first (map spelled_member ys)) o) (drops xs i x below is)
    ∙ put_both (t.comma first) (t.member (spelled_member x) ++ t.more_members (map spelled_member (drop (i + 1) xs))) o
    ∙ put_both (t.member (spelled_member x)) (t.more_members (map spelled_member (drop (i + 1) xs))) (put_all (t.comma first) o)

pub declared_step : (first : Bool) (xs : List (Named × Option Expr)) (i : ℕ) (x : Named × Option Expr) (o : Printer) → i < length xs → x ≡ get_or xs i x
    → put_all (t.declared_from first (drop i xs)) o ≡ put_all (t.declared_from false (drop (i + 1) xs)) (put_all (t.declared x) (put_all (t.comma first) o))
declared_step first xs i x o below is =
    ap (λ ys. put_all (t.declared_from first ys) o) (drops xs i x below is)
    ∙ put_both (t.comma first) (t.declared x ++ t.more_declared (drop (i + 1) xs)) o
    ∙ put_both (t.declared x) (t.more_declared (drop (i + 1) xs)) (put_all (t.comma first) o)

pub suffixes_step : (xs : List Suffix) (i : ℕ) (x : Suffix) (o : Printer) → i < length xs → x ≡ get_or xs i x
    → put_all (t.suffixes (map spelled_suffix (drop i xs))) o ≡ put_all (t.suffixes (map spelled_suffix (drop (i + 1) xs))) (put_all (spelled_suffix x) o)
suffixes_step xs i x o below is =
    ap (λ ys. put_all (t.suffixes (map spelled_suffix ys)) o) (drops xs i x below is) ∙ put_both (spelled_suffix x) (t.suffixes (map spelled_suffix (drop (i + 1) xs))) o

pub tails_step : (n : ℕ) (xs : List (Operator × Expr)) (i : ℕ) (x : Operator × Expr) (o : Printer) → i < length xs → x ≡ get_or xs i x
    → put_all (t.tails n (map spelled_tail (drop i xs))) o
    ≡ put_all (t.tails n (map spelled_tail (drop (i + 1) xs))) (put_all (within n (spelled x.1)) (put (kinds.Sign (operator_sign x.0)) o))
tails_step n xs i x o below is =
    ap (λ ys. put_all (t.tails n (map spelled_tail ys)) o) (drops xs i x below is)
    ∙ put_both (within n (spelled x.1)) (t.tails n (map spelled_tail (drop (i + 1) xs))) (put (kinds.Sign (operator_sign x.0)) o)

pub turn_step : (xs : List Statement) (i : ℕ) (x : Statement) (o : Printer) → i < length xs → x ≡ get_or xs i x
    → put_all (t.in_turn (map t.statement (drop i xs))) o ≡ put_all (t.in_turn (map t.statement (drop (i + 1) xs))) (put_all (t.statement x) o)
turn_step xs i x o below is =
    ap (λ ys. put_all (t.in_turn (map t.statement ys)) o) (drops xs i x below is) ∙ put_both (t.statement x) (t.in_turn (map t.statement (drop (i + 1) xs))) o

-- ---- statements

pub block_put : (xs : List Statement) (o : Printer) → put_all (t.block (map t.statement xs)) o ≡ put (kinds.Sign signs.BraceClose) (put_all (t.in_turn (map t.statement xs)) (put (kinds.Sign signs.BraceOpen) o))
block_put xs o = put_both (t.in_turn (map t.statement xs)) (sign signs.BraceClose) (put (kinds.Sign signs.BraceOpen) o)

pub declare_put : (d : Declaration) (o : Printer) → put_all (t.statement (s.Declare d)) o ≡ put (kinds.Sign signs.Semicolon) (put_all (t.declaration d) o)
declare_put d o = ap (λ ks. put_all ks o) (spelled_statement_declare d) ∙ put_both (t.declaration d) (sign signs.Semicolon) o

pub simple_put : (x : Simple) (o : Printer) → put_all (t.statement (s.Simple x)) o ≡ put (kinds.Sign signs.Semicolon) (put_all (t.simple x) o)
simple_put x o = ap (λ ks. put_all ks o) (spelled_statement_simple x) ∙ put_both (t.simple x) (sign signs.Semicolon) o

if_put : (p : Place) (c : Expr) (x : Statement) (y : Option Statement) (o : Printer)
    → put_all (t.statement (s.If p c x y)) o ≡ put_all (t.otherwise (option_map t.statement y)) (put_all (t.statement x) (put_all (t.parenthesized (expr c)) (put (kinds.Word words.If) o)))
if_put p c x y o =
    ap (λ ks. put_all ks o) (spelled_statement_if p c x y)
    ∙ put_both (t.parenthesized (expr c)) (t.statement x ++ t.otherwise (option_map t.statement y)) (put (kinds.Word words.If) o)
    ∙ put_both (t.statement x) (t.otherwise (option_map t.statement y)) (put_all (t.parenthesized (expr c)) (put (kinds.Word words.If) o))

pub if_else_put : (p : Place) (c : Expr) (x : Statement) (y : Option Statement) (b : Statement) (o : Printer) → y ≡ Some b
    → put_all (t.statement (s.If p c x y)) o ≡ put_all (t.statement b) (put (kinds.Word words.Else) (put_all (t.statement x) (put_all (t.parenthesized (expr c)) (put (kinds.Word words.If) o))))
if_else_put p c x y b o is = ap (λ z. put_all (t.statement (s.If p c x z)) o) is ∙ if_put p c x (Some b) o

pub if_alone_put : (p : Place) (c : Expr) (x : Statement) (y : Option Statement) (o : Printer) → y ≡ None
    → put_all (t.statement (s.If p c x y)) o ≡ put_all (t.statement x) (put_all (t.parenthesized (expr c)) (put (kinds.Word words.If) o))
if_alone_put p c x y o is = ap (λ z. put_all (t.statement (s.If p c x z)) o) is ∙ if_put p c x None o

pub for_put : (p : Place) (begin : Option Start) (c : Option Expr) (step : Option Simple) (x : Statement) (o : Printer)
    → put_all (t.statement (s.For p begin c step x)) o ≡ put_all (t.statement x) (put_all (t.parenthesized (t.head begin c step)) (put (kinds.Word words.For) o))
for_put p begin c step x o = ap (λ ks. put_all ks o) (spelled_statement_for p begin c step x) ∙ put_both (t.parenthesized (t.head begin c step)) (t.statement x) (put (kinds.Word words.For) o)

pub each_put : (p : Place) (how : Declares) (n : Named) (c : Expr) (x : Statement) (o : Printer)
    → put_all (t.statement (s.ForOf p how n c x)) o ≡ put_all (t.statement x) (put_all (t.parenthesized (t.each how n c)) (put (kinds.Word words.For) o))
each_put p how n c x o = ap (λ ks. put_all ks o) (spelled_statement_forof p how n c x) ∙ put_both (t.parenthesized (t.each how n c)) (t.statement x) (put (kinds.Word words.For) o)
