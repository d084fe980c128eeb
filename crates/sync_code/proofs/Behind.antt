-- What is seen behind a statement: by its kind, and that it begins with what was seen before.
use Rattle.std.proofs.Common.{◌≡◌, ℕ, List, [], ◌∷◌, ◌++◌, map, length, take, Option, Some, None, option_map, refl, sym, subst, ap, ◌∙◌, append_assoc, rules}
use Rattle.std.proofs.Math.Seq.{take-append_seam}
use Rattle.sync_tokens.specs.declared.place.Place.{Place}
use Rattle.sync_syntax.specs.declared.tree.Declares.{Declares}
use Rattle.sync_syntax.specs.declared.tree.Declares.TheVariants.{Var, Let, Const}
use Rattle.sync_syntax.specs.declared.tree.Expr.{Expr}
use Rattle.sync_syntax.specs.declared.tree.Named.{Named}
use Rattle.sync_syntax.specs.declared.tree.Simple.{Simple}
use Rattle.sync_syntax.specs.declared.tree.Start.{Start}
use Rattle.sync_syntax.specs.declared.tree.Start.TheVariants as starts
use Rattle.sync_syntax.specs.declared.tree.Statement.{Statement, roll-Statement, map-Statement, ind-Statement, the_lemmas}
use Rattle.sync_syntax.specs.declared.tree.Statement.TheOpen.{Statement-F}
use Rattle.sync_syntax.specs.declared.tree.Statement.TheVariants as statements
use Rattle.sync_meaning.specs.declared.scope.Scope.{Scope}
use Rattle.sync_meaning.specs.Variables.{declared, all_declared, left, started, through, through_other, behind, behind_all}

through_behind : (ss : List Statement) (scope : Scope) → behind_all ss scope ≡ through (map behind ss) scope
through_behind [] scope = refl
through_behind (s ∷ ss) scope = through_behind ss (behind s scope)

-- what is seen behind a statement that may be absent
abbrev pub behind_other : Option Statement → Scope → Scope
behind_other None scope = scope
behind_other (Some s) scope = behind s scope

other_through : (o : Option Statement) (scope : Scope) → through_other (option_map behind o) scope ≡ behind_other o scope
other_through None scope = refl
other_through (Some s) scope = refl

pub behind_Block : (p : Place) (ss : List Statement) (scope : Scope) → behind (statements.Block p ss) scope ≡ left scope (behind_all ss scope)
behind_Block p ss scope = let e = sym (through_behind ss scope) in let d = ap (left scope) e in first_of (search (rules, the_lemmas, d), search (rules, the_lemmas, e))

pub behind_If : (p : Place) (c : Expr) (s : Statement) (o : Option Statement) (scope : Scope) → behind (statements.If p c s o) scope ≡ behind_other o (behind s scope)
behind_If p c s o scope = let e = other_through o (behind s scope) in search (rules, the_lemmas, e)

pub behind_For : (p : Place) (start : Option Start) (c : Option Expr) (last : Option Simple) (s : Statement) (scope : Scope)
    → behind (statements.For p start c last s) scope ≡ left scope (behind s (started start scope))
behind_For p start c last s scope = search (rules, the_lemmas)

pub behind_ForOf : (p : Place) (how : Declares) (name : Named) (e : Expr) (s : Statement) (scope : Scope)
    → behind (statements.ForOf p how name e s) scope ≡ left scope (behind s (declared how name.name scope))
behind_ForOf p how name e s scope = search (rules, the_lemmas)

-- ---- more is seen, behind what was seen before

abbrev Seen : Type 0
Seen = List (List ℕ × ℕ)

abbrev pub Grows : Seen → Seen → Type 0
Grows xs ys = (more : Seen) × (ys ≡ xs ++ more)

none_more : (xs : Seen) → xs ≡ xs ++ []
none_more [] = refl
none_more (x ∷ xs) = ap (λ l. x ∷ l) (none_more xs)

as_it_is : (xs : Seen) → Grows xs xs
as_it_is xs = ([], none_more xs)

and_more : (xs ys zs : Seen) → Grows xs ys → Grows ys zs → Grows xs zs
and_more xs ys zs a b = (a.0 ++ b.0, b.1 ∙ ap (λ l. l ++ b.0) a.1 ∙ append_assoc xs a.0 b.0)

pub declared_grows : (how : Declares) (name : List ℕ) (scope : Scope) → Grows scope.seen (declared how name scope).seen
declared_grows Var name scope = as_it_is scope.seen
declared_grows Let name scope = ((name, scope.next) ∷ [], refl)
declared_grows Const name scope = ((name, scope.next) ∷ [], refl)

all_declared_grows : (how : Declares) (ns : List (Named × Option Expr)) (scope : Scope) → Grows scope.seen (all_declared how ns scope).seen
all_declared_grows how [] scope = as_it_is scope.seen
all_declared_grows how (n ∷ ns) scope =
    and_more _ _ _ (declared_grows how n.0.name scope) (all_declared_grows how ns (declared how n.0.name scope))

pub started_grows : (start : Option Start) (scope : Scope) → Grows scope.seen (started start scope).seen
started_grows None scope = as_it_is scope.seen
started_grows (Some (starts.Declare d)) scope = all_declared_grows d.declares d.names scope
started_grows (Some (starts.Simple s)) scope = as_it_is scope.seen

abbrev DoesGrow : Statement → Type 0
DoesGrow s = (scope : Scope) → Grows scope.seen (behind s scope).seen

other_grows : (o : Option ((s : Statement) × DoesGrow s)) (scope : Scope) → Grows scope.seen (behind_other (option_map (λ e. e.0) o) scope).seen
other_grows None scope = as_it_is scope.seen
other_grows (Some s) scope = s.1 scope

-- a layer with a proof beside each statement inside, without these
abbrev plain : Statement-F ((s : Statement) × DoesGrow s) → Statement-F Statement
plain l = map-Statement ((s : Statement) × DoesGrow s) Statement (λ e. e.0) l

layer_grows : (l : Statement-F ((s : Statement) × DoesGrow s)) → DoesGrow (roll-Statement (plain l))
unfolding roll-Statement denote.Hole.Carrier.roll
layer_grows (Statement-F.Block p xs) scope = ([], ap (λ s. s.seen) (behind_Block p (map (λ e. e.0) xs) scope) ∙ none_more scope.seen)
layer_grows (Statement-F.Empty p) scope = ([], let e : behind (statements.Empty p) scope ≡ scope = search (rules, the_lemmas) in ap (λ s. s.seen) e ∙ none_more scope.seen)
layer_grows (Statement-F.Declare d) scope =
    let e : behind (statements.Declare d) scope ≡ all_declared d.declares d.names scope = search (rules, the_lemmas) in
    let grown = all_declared_grows d.declares d.names scope in
    (grown.0, ap (λ s. s.seen) e ∙ grown.1)
layer_grows (Statement-F.If p c x None) scope =
    let grown = x.1 scope in
    (grown.0, ap (λ s. s.seen) (behind_If p c x.0 None scope) ∙ grown.1)
layer_grows (Statement-F.If p c x (Some y)) scope =
    let grown = and_more _ _ _ (x.1 scope) (y.1 (behind x.0 scope)) in
    (grown.0, ap (λ s. s.seen) (behind_If p c x.0 (Some y.0) scope) ∙ grown.1)
layer_grows (Statement-F.For p start c last x) scope = ([], ap (λ s. s.seen) (behind_For p start c last x.0 scope) ∙ none_more scope.seen)
layer_grows (Statement-F.ForOf p how n e x) scope = ([], ap (λ s. s.seen) (behind_ForOf p how n e x.0 scope) ∙ none_more scope.seen)
layer_grows (Statement-F.Return p e) scope = ([], let e : behind (statements.Return p e) scope ≡ scope = search (rules, the_lemmas) in ap (λ s. s.seen) e ∙ none_more scope.seen)
layer_grows (Statement-F.Throw p e) scope = ([], let e : behind (statements.Throw p e) scope ≡ scope = search (rules, the_lemmas) in ap (λ s. s.seen) e ∙ none_more scope.seen)
layer_grows (Statement-F.Break p) scope = ([], let e : behind (statements.Break p) scope ≡ scope = search (rules, the_lemmas) in ap (λ s. s.seen) e ∙ none_more scope.seen)
layer_grows (Statement-F.Continue p) scope = ([], let e : behind (statements.Continue p) scope ≡ scope = search (rules, the_lemmas) in ap (λ s. s.seen) e ∙ none_more scope.seen)
layer_grows (Statement-F.Simple x) scope = ([], let e : behind (statements.Simple x) scope ≡ scope = search (rules, the_lemmas) in ap (λ s. s.seen) e ∙ none_more scope.seen)

pub behind_grows : (s : Statement) (scope : Scope) → Grows scope.seen (behind s scope).seen
behind_grows = ind-Statement DoesGrow (λ l y is. subst (λ k. DoesGrow (roll-Statement k)) is (layer_grows y))

pub behind_all_grows : (ss : List Statement) (scope : Scope) → Grows scope.seen (behind_all ss scope).seen
behind_all_grows [] scope = as_it_is scope.seen
behind_all_grows (s ∷ ss) scope = and_more _ _ _ (behind_grows s scope) (behind_all_grows ss (behind s scope))

-- ---- the end of a block

pub left_behind : (count : ℕ) (outer inner after : Scope) → Grows outer.seen inner.seen → count ≡ length outer.seen
    → after.seen ≡ take count inner.seen → after.next ≡ inner.next → after ≡ left outer inner
left_behind count outer inner after grown counted seen next =
    let cut : take count inner.seen ≡ outer.seen = ap (λ k. take k inner.seen) counted ∙ ap (take (length outer.seen)) grown.1 ∙ take-append_seam outer.seen grown.0 in
    λ i. record { seen = (seen ∙ cut) i; next = next i }

pub block_left : (p : Place) (ss : List Statement) (count : ℕ) (outer inner after : Scope) → inner ≡ behind_all ss outer → count ≡ length outer.seen
    → after.seen ≡ take count inner.seen → after.next ≡ inner.next → after ≡ behind (statements.Block p ss) outer
block_left p ss count outer inner after is counted seen next =
    let grown : Grows outer.seen inner.seen = subst (λ s. Grows outer.seen s.seen) (sym is) (behind_all_grows ss outer) in
    left_behind count outer inner after grown counted seen next ∙ ap (left outer) is ∙ sym (behind_Block p ss outer)

pub while_left : (p : Place) (start : Option Start) (c : Option Expr) (last : Option Simple) (s : Statement) (count : ℕ) (outer head inner after : Scope)
    → head ≡ started start outer → inner ≡ behind s head → count ≡ length outer.seen
    → after.seen ≡ take count inner.seen → after.next ≡ inner.next → after ≡ behind (statements.For p start c last s) outer
while_left p start c last s count outer head inner after begun is counted seen next =
    let all : inner ≡ behind s (started start outer) = is ∙ ap (behind s) begun in
    let grown : Grows outer.seen inner.seen =
    subst (λ z. Grows outer.seen z.seen) (sym all) (and_more _ _ _ (started_grows start outer) (behind_grows s (started start outer))) in
    left_behind count outer inner after grown counted seen next ∙ ap (left outer) all ∙ sym (behind_For p start c last s outer)

pub of_left : (p : Place) (how : Declares) (name : Named) (e : Expr) (s : Statement) (count : ℕ) (outer head inner after : Scope)
    → head ≡ declared how name.name outer → inner ≡ behind s head → count ≡ length outer.seen
    → after.seen ≡ take count inner.seen → after.next ≡ inner.next → after ≡ behind (statements.ForOf p how name e s) outer
of_left p how name e s count outer head inner after begun is counted seen next =
    let all : inner ≡ behind s (declared how name.name outer) = is ∙ ap (behind s) begun in
    let grown : Grows outer.seen inner.seen =
    subst (λ z. Grows outer.seen z.seen) (sym all) (and_more _ _ _ (declared_grows how name.name outer) (behind_grows s (declared how name.name outer))) in
    left_behind count outer inner after grown counted seen next ∙ ap (left outer) all ∙ sym (behind_ForOf p how name e s outer)
