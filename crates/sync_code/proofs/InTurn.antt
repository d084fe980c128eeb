-- What is declared or done in turn, and one more.
use Rattle.std.proofs.Common.{◌≡◌, ℕ, ◌+◌, ◌<◌, Bool, true, false, ◌&&◌, IsTrue, List, [], ◌∷◌, ◌++◌, length, take, get_or, Option, Some, refl, sym, ap, ◌∙◌, subst, rules}
use Rattle.std.proofs.lemmas.List.{take_more}
use Rattle.sync_tokens.specs.declared.place.Place.{Place}
use Rattle.sync_syntax.specs.declared.tree.Declares.{Declares}
use Rattle.sync_syntax.specs.declared.tree.Expr.{Expr}
use Rattle.sync_syntax.specs.declared.tree.Named.{Named}
use Rattle.sync_syntax.specs.declared.tree.Simple.{Simple}
use Rattle.sync_syntax.specs.declared.tree.Start.{Start}
use Rattle.sync_syntax.specs.declared.tree.Statement.{Statement}
use Rattle.sync_syntax.specs.declared.tree.Statement.TheVariants as statements
use Rattle.sync_meaning.specs.declared.scope.Scope.{Scope}
use Rattle.sync_meaning.specs.Variables.{declared, all_declared, started, behind, behind_all}
use Rattle.sync_code.specs.declared.code.Begin.{Begin}
use Rattle.sync_code.specs.declared.code.Code.{Code}
use Rattle.sync_code.specs.declared.code.Held.{Held}
use Rattle.sync_code.specs.declared.code.Plain.{Plain}
use Rattle.sync_code.specs.declared.code.Step.{Step, the_lemmas}
use Rattle.sync_code.specs.declared.code.Step.TheOpen.{Step-F}
use Rattle.sync_code.specs.declared.code.Step.TheVariants as steps
use Rattle.sync_code.specs.declared.statement.WhileHead.{WhileHead}
use Rattle.sync_code.specs.Code.{source, fits, source_or_none, fits_or_none}
use Rattle.sync_code.specs.inner.Heads.{IsWhileHead}
use Rattle.sync_code.specs.Made.{IsCode}
use Rattle.sync_code.specs.Steps.{held_source, name_sources, new_fits, names_fit, begin_or_none, plain_or_none_fits, said, source_at, fits_at, step_source, step_fits, step_sources, steps_fit}

-- whether one of two holds does not turn on how they are taken together
both : (a b c : Bool) → (a && (b && c)) ≡ ((a && b) && c)
both true b c = refl
both false b c = refl

last : (a : Bool) → (a && true) ≡ a
last true = refl
last false = refl

pub behind_all_more : (xs : List Statement) (y : Statement) (scope : Scope) → behind_all (xs ++ y ∷ []) scope ≡ behind y (behind_all xs scope)
behind_all_more [] y scope = refl
behind_all_more (x ∷ xs) y scope = behind_all_more xs y (behind x scope)

pub steps_fit_more : (ss : List Step) (s : Step) (scope : Scope)
    → steps_fit (ss ++ s ∷ []) scope ≡ (steps_fit ss scope && step_fits s (behind_all (step_sources ss) scope))
steps_fit_more [] s scope = last (step_fits s scope)
steps_fit_more (x ∷ xs) s scope =
    ap (λ b. step_fits x scope && b) (steps_fit_more xs s (behind (step_source x) scope))
    ∙ both (step_fits x scope) (steps_fit xs (behind (step_source x) scope)) (step_fits s (behind_all (step_sources xs) (behind (step_source x) scope)))

pub all_declared_more : (how : Declares) (ns : List (Named × Option Expr)) (n : Named × Option Expr) (scope : Scope)
    → all_declared how (ns ++ n ∷ []) scope ≡ declared how n.0.name (all_declared how ns scope)
all_declared_more how [] n scope = refl
all_declared_more how (m ∷ ns) n scope = all_declared_more how ns n (declared how m.0.name scope)

pub names_fit_more : (how : Declares) (ns : List (Held × Option Code)) (n : Held × Option Code) (scope : Scope)
    → names_fit how (ns ++ n ∷ []) scope
    ≡ (names_fit how ns scope && (new_fits how n.0 (all_declared how (name_sources ns) scope) && fits_or_none n.1 (all_declared how (name_sources ns) scope)))
names_fit_more how [] n scope = last (new_fits how n.0 scope && fits_or_none n.1 scope)
names_fit_more how (m ∷ ns) n scope =
    ap (λ b. (new_fits how m.0 scope && fits_or_none m.1 scope) && b) (names_fit_more how ns n (declared how m.0.slot.name scope))
    ∙ both (new_fits how m.0 scope && fits_or_none m.1 scope) (names_fit how ns (declared how m.0.slot.name scope))
    (new_fits how n.0 (all_declared how (name_sources ns) (declared how m.0.slot.name scope)) && fits_or_none n.1 (all_declared how (name_sources ns) (declared how m.0.slot.name scope)))

holds_both : (a b : Bool) → IsTrue a → IsTrue b → IsTrue (a && b)
holds_both true b p q = q
holds_both false b p q = p

-- ---- one name more

names_more : (ns : List (Held × Option Code)) (n : Held × Option Code)
    → name_sources (ns ++ n ∷ []) ≡ name_sources ns ++ (held_source n.0, source_or_none n.1) ∷ []
names_more [] n = refl
names_more (m ∷ ns) n = ap (λ l. (held_source m.0, source_or_none m.1) ∷ l) (names_more ns n)

pub next_name : (how : Declares) (made : List (Held × Option Code)) (one : Held × Option Code) (found : List (Named × Option Expr)) (name : Named × Option Expr)
    (i : ℕ) (first scope after : Scope)
    → (name_sources made ≡ take i found) × IsTrue (names_fit how made first) × (scope ≡ all_declared how (name_sources made) first)
    → i < length found → name ≡ get_or found i name
    → IsCode (held_source one.0) name.0 (new_fits how one.0 scope) → IsCode (source_or_none one.1) name.1 (fits_or_none one.1 scope)
    → after ≡ declared how name.0.name scope
    → (name_sources (made ++ one ∷ []) ≡ take (i + 1) found) × IsTrue (names_fit how (made ++ one ∷ []) first)
    × (after ≡ all_declared how (name_sources (made ++ one ∷ [])) first)
next_name how made one found name i first scope after before below here held value next =
    let this : (held_source one.0, source_or_none one.1) ≡ name = λ j. (held.same j, value.same j) in
    let grown : name_sources (made ++ one ∷ []) ≡ name_sources made ++ name ∷ [] = names_more made one ∙ ap (λ x. name_sources made ++ x ∷ []) this in
    let taken : take (i + 1) found ≡ take i found ++ name ∷ [] = take_more found i name below ∙ ap (λ x. take i found ++ x ∷ []) (sym here) in
    let its_number : IsTrue (new_fits how one.0 (all_declared how (name_sources made) first)) = subst (λ s. IsTrue (new_fits how one.0 s)) before.2 held.fits in
    let its_value : IsTrue (fits_or_none one.1 (all_declared how (name_sources made) first)) = subst (λ s. IsTrue (fits_or_none one.1 s)) before.2 value.fits in (
      grown ∙ ap (λ l. l ++ name ∷ []) before.0 ∙ sym taken,
      subst IsTrue (sym (names_fit_more how made one first)) (holds_both _ _ before.1 (holds_both _ _ its_number its_value)),
      next ∙ ap (declared how name.0.name) before.2 ∙ sym (ap (λ l. all_declared how l first) grown ∙ all_declared_more how (name_sources made) name first),
    )

-- ---- one statement more

sources_more : (ss : List Step) (s : Step) → step_sources (ss ++ s ∷ []) ≡ step_sources ss ++ step_source s ∷ []
sources_more [] s = refl
sources_more (x ∷ xs) s = ap (λ l. step_source x ∷ l) (sources_more xs s)

pub next_step : (made : List Step) (one : Step) (found : List Statement) (statement : Statement) (i : ℕ) (first scope after : Scope)
    → (step_sources made ≡ take i found) × IsTrue (steps_fit made first) × (scope ≡ behind_all (step_sources made) first)
    → i < length found → statement ≡ get_or found i statement → IsCode (step_source one) statement (step_fits one scope)
    → after ≡ behind statement scope
    → (step_sources (made ++ one ∷ []) ≡ take (i + 1) found) × IsTrue (steps_fit (made ++ one ∷ []) first)
    × (after ≡ behind_all (step_sources (made ++ one ∷ [])) first)
next_step made one found statement i first scope after before below here code next =
    let grown : step_sources (made ++ one ∷ []) ≡ step_sources made ++ statement ∷ [] = sources_more made one ∙ ap (λ x. step_sources made ++ x ∷ []) code.same in
    let taken : take (i + 1) found ≡ take i found ++ statement ∷ [] = take_more found i statement below ∙ ap (λ x. take i found ++ x ∷ []) (sym here) in
    let fitting : IsTrue (step_fits one (behind_all (step_sources made) first)) = subst (λ s. IsTrue (step_fits one s)) before.2 code.fits in (
      grown ∙ ap (λ l. l ++ statement ∷ []) before.0 ∙ sym taken,
      subst IsTrue (sym (steps_fit_more made one first)) (holds_both _ _ before.1 fitting),
      next ∙ ap (behind statement) before.2 ∙ sym (ap (λ l. behind_all l first) grown ∙ behind_all_more (step_sources made) statement first),
    )

-- ---- a statement behind `else`, and the body of a `for`

said_if : (p : Place) (c : Code) (s t : Step)
    → said (steps.If p c s (Some t)) ≡ record { source = source_at (Step-F.If p c (said s) (Some (said t))); fits = fits_at (Step-F.If p c (said s) (Some (said t))) }
said_if p c s t = search (rules, the_lemmas)

if_else_of : (p : Place) (c : Code) (s t : Step) (x : Expr) (f o : Statement) (scope inner : Scope)
    → IsCode (source c) x (fits c scope) → IsCode (step_source s) f (step_fits s scope) → inner ≡ behind f scope
    → IsCode (step_source t) o (step_fits t inner)
    → IsCode (step_source (steps.If p c s (Some t))) (statements.If p x f (Some o)) (step_fits (steps.If p c s (Some t)) scope)
if_else_of p c s t x f o scope inner condition first seen other =
    let inside : inner ≡ behind (step_source s) scope = seen ∙ ap (λ y. behind y scope) (sym first.same) in
    let fitting : IsTrue (step_fits t (behind (step_source s) scope)) = subst (λ z. IsTrue (step_fits t z)) inside other.fits in
    record {
      same = ap (λ a. a.source) (said_if p c s t) ∙ (λ i. statements.If p (condition.same i) (first.same i) (Some (other.same i)));
      fits = subst IsTrue (sym (ap (λ a. a.fits scope) (said_if p c s t))) (holds_both _ _ condition.fits (holds_both _ _ first.fits fitting));
    }

pub if_else : (p : Place) (c : Code) (s t : Step) (x x' : Expr) (f f' o o' : Statement) (scope inner : Scope)
    → x ≡ x' → f ≡ f' → o ≡ o'
    → IsCode (source c) x (fits c scope) → IsCode (step_source s) f (step_fits s scope) → inner ≡ behind f scope
    → IsCode (step_source t) o (step_fits t inner)
    → IsCode (step_source (steps.If p c s (Some t))) (statements.If p x' f' (Some o')) (step_fits (steps.If p c s (Some t)) scope)
if_else p c s t x x' f f' o o' scope inner ex ef eo condition first seen other =
    if_else_of p c s t x' f' o' scope inner (subst (λ y. IsCode (source c) y (fits c scope)) ex condition) (subst (λ y. IsCode (step_source s) y (step_fits s scope)) ef first)
    (seen ∙ ap (λ y. behind y scope) ef) (subst (λ y. IsCode (step_source t) y (step_fits t inner)) eo other)

said_for : (p : Place) (begin : Option Begin) (c : Option Code) (last : Option Plain) (b : Step)
    → said (steps.For p begin c last b) ≡ record { source = source_at (Step-F.For p begin c last (said b)); fits = fits_at (Step-F.For p begin c last (said b)) }
said_for p begin c last b = search (rules, the_lemmas)

pub for_body : (p : Place) (head : WhileHead) (b : Step) (start : Option Start) (x : Option Expr) (l : Option Simple) (s : Statement) (scope inner : Scope)
    → IsWhileHead start x l scope head → inner ≡ started start scope → IsCode (step_source b) s (step_fits b inner)
    → IsCode (step_source (steps.For p head.begin head.condition head.last b)) (statements.For p start x l s) (step_fits (steps.For p head.begin head.condition head.last b) scope)
for_body p head b start x l s scope inner is seen body =
    let there : started start scope ≡ started (begin_or_none head.begin) scope = ap (λ y. started y scope) (sym is.begin.same) in
    let condition : IsTrue (fits_or_none head.condition (started (begin_or_none head.begin) scope)) = subst (λ z. IsTrue (fits_or_none head.condition z)) there is.condition.fits in
    let last : IsTrue (plain_or_none_fits head.last (started (begin_or_none head.begin) scope)) = subst (λ z. IsTrue (plain_or_none_fits head.last z)) there is.last.fits in
    let inside : IsTrue (step_fits b (started (begin_or_none head.begin) scope)) = subst (λ z. IsTrue (step_fits b z)) (seen ∙ there) body.fits in
    record {
      same = ap (λ a. a.source) (said_for p head.begin head.condition head.last b) ∙ (λ i. statements.For p (is.begin.same i) (is.condition.same i) (is.last.same i) (body.same i));
      fits = subst IsTrue (sym (ap (λ a. a.fits scope) (said_for p head.begin head.condition head.last b))) (holds_both _ _ is.begin.fits (holds_both _ _ condition (holds_both _ _ last inside)));
    }
