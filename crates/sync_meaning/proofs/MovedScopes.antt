-- What is seen behind a statement is seen behind it where its places are moved.
use Rattle.std.proofs.Common.{◌≡◌, List, [], ◌∷◌, map, Option, Some, None, option_map, refl, sym, subst, ap, ◌∙◌, rules}
use Rattle.sync_tokens.specs.declared.place.Place.{Place}
use Rattle.sync_syntax.specs.declared.tree.Declares.{Declares}
use Rattle.sync_syntax.specs.declared.tree.Expr.{Expr}
use Rattle.sync_syntax.specs.declared.tree.Named.{Named}
use Rattle.sync_syntax.specs.declared.tree.Start.{Start}
use Rattle.sync_syntax.specs.declared.tree.Start.TheVariants as starts
use Rattle.sync_syntax.specs.declared.tree.Statement.{Statement, out-Statement, roll-Statement, map-Statement, ind-Statement, the_lemmas}
use Rattle.sync_syntax.specs.declared.tree.Statement.TheOpen.{Statement-F}
use Rattle.sync_meaning.specs.declared.scope.Scope.{Scope}
use Rattle.sync_meaning.specs.Statements.{StatementLayer}
use Rattle.sync_meaning.specs.Variables.{declared, all_declared, left, started, through_other, behind, behind_all}
use Rattle.sync_syntax.specs.Moved.{moved_given, moved_start, moved_statement}
use Rattle.sync_meaning.proofs.Scopes.{through-behind}
use Rattle.sync_meaning.proofs.MovedLayers.{moved_statement_layer, out-moved_statement}

-- what is seen behind a statement, by how it is seen from outside
abbrev behind_other : Option Statement → Scope → Scope
behind_other None scope = scope
behind_other (Some x) scope = behind x scope

abbrev behind_at : StatementLayer → Scope → Scope
behind_at (Statement-F.Block p xs) scope = left scope (behind_all xs scope)
behind_at (Statement-F.Declare d) scope = all_declared d.declares d.names scope
behind_at (Statement-F.If p c x y) scope = behind_other y (behind x scope)
behind_at (Statement-F.For p start c last x) scope = left scope (behind x (started start scope))
behind_at (Statement-F.ForOf p how n e x) scope = left scope (behind x (declared how n.name scope))
behind_at (Statement-F.Empty p) scope = scope
behind_at (Statement-F.Return p e) scope = scope
behind_at (Statement-F.Throw p e) scope = scope
behind_at (Statement-F.Break p) scope = scope
behind_at (Statement-F.Continue p) scope = scope
behind_at (Statement-F.Simple x) scope = scope

other-through : (y : Option Statement) (scope : Scope) → through_other (option_map behind y) scope ≡ behind_other y scope
other-through None scope = refl
other-through (Some x) scope = refl

roll_at : (l : StatementLayer) (scope : Scope) → behind (roll-Statement l) scope ≡ behind_at l scope
roll_at (Statement-F.Block p xs) scope = let e = sym (through-behind xs scope) in let d = ap (left scope) e in first_of (search (rules, the_lemmas, d), search (rules, the_lemmas, e))
roll_at (Statement-F.Declare d) scope = search (rules, the_lemmas)
roll_at (Statement-F.If p c x y) scope = let e = other-through y (behind x scope) in search (rules, the_lemmas, e)
roll_at (Statement-F.For p start c last x) scope = search (rules, the_lemmas)
roll_at (Statement-F.ForOf p how n e x) scope = search (rules, the_lemmas)
roll_at (Statement-F.Empty p) scope = search (rules, the_lemmas)
roll_at (Statement-F.Return p e) scope = search (rules, the_lemmas)
roll_at (Statement-F.Throw p e) scope = search (rules, the_lemmas)
roll_at (Statement-F.Break p) scope = search (rules, the_lemmas)
roll_at (Statement-F.Continue p) scope = search (rules, the_lemmas)
roll_at (Statement-F.Simple x) scope = search (rules, the_lemmas)

opened : (l : StatementLayer) → out-Statement (roll-Statement l) ≡ l
opened l = search (rules, the_lemmas)

out_at : (x : Statement) (scope : Scope) → behind x scope ≡ behind_at (out-Statement x) scope
out_at x scope = let e = roll_at (out-Statement x) scope in search (rules, the_lemmas, e)

module _ (f : Place → Place) where
  pub all_declared-moved : (how : Declares) (ns : List (Named × Option Expr)) (scope : Scope) → all_declared how (map (moved_given f) ns) scope ≡ all_declared how ns scope
  all_declared-moved how [] scope = refl
  all_declared-moved how (n ∷ ns) scope = all_declared-moved how ns (declared how n.0.name scope)

  pub started-moved : (start : Option Start) (scope : Scope) → started (option_map (moved_start f) start) scope ≡ started start scope
  started-moved None scope = refl
  started-moved (Some (starts.Declare d)) scope = all_declared-moved d.declares d.names scope
  started-moved (Some (starts.Simple x)) scope = refl

  abbrev IsMoved : Statement → Type 0
  IsMoved x = (scope : Scope) → behind (moved_statement f x) scope ≡ behind x scope

  all-moved : (ys : List ((x : Statement) × IsMoved x)) (scope : Scope) → behind_all (map (moved_statement f) (map (λ e. e.0) ys)) scope ≡ behind_all (map (λ e. e.0) ys) scope
  all-moved [] scope = refl
  all-moved (y ∷ ys) scope = ap (behind_all (map (moved_statement f) (map (λ e. e.0) ys))) (y.1 scope) ∙ all-moved ys (behind y.0 scope)

  -- a layer with a proof beside each statement inside, without these
  abbrev plain : Statement-F ((x : Statement) × IsMoved x) → StatementLayer
  plain (Statement-F.Block p xs) = Statement-F.Block p (map (λ e. e.0) xs)
  plain (Statement-F.Declare d) = Statement-F.Declare d
  plain (Statement-F.If p c x y) = Statement-F.If p c x.0 (option_map (λ e. e.0) y)
  plain (Statement-F.For p start c last x) = Statement-F.For p start c last x.0
  plain (Statement-F.ForOf p how n e x) = Statement-F.ForOf p how n e x.0
  plain (Statement-F.Empty p) = Statement-F.Empty p
  plain (Statement-F.Return p e) = Statement-F.Return p e
  plain (Statement-F.Throw p e) = Statement-F.Throw p e
  plain (Statement-F.Break p) = Statement-F.Break p
  plain (Statement-F.Continue p) = Statement-F.Continue p
  plain (Statement-F.Simple x) = Statement-F.Simple x

  other-moved : (y : Option ((x : Statement) × IsMoved x)) (scope : Scope)
      → behind_other (option_map (moved_statement f) (option_map (λ e. e.0) y)) scope ≡ behind_other (option_map (λ e. e.0) y) scope
  other-moved None scope = refl
  other-moved (Some y) scope = y.1 scope

  layer-moved : (y : Statement-F ((x : Statement) × IsMoved x)) (scope : Scope) → behind_at (moved_statement_layer f (plain y)) scope ≡ behind_at (plain y) scope
  layer-moved (Statement-F.Block p xs) scope = ap (left scope) (all-moved xs scope)
  layer-moved (Statement-F.Declare d) scope = all_declared-moved d.declares d.names scope
  layer-moved (Statement-F.If p c x y) scope = ap (behind_other (option_map (moved_statement f) (option_map (λ e. e.0) y))) (x.1 scope) ∙ other-moved y (behind x.0 scope)
  layer-moved (Statement-F.For p start c last x) scope = ap (λ z. left scope (behind (moved_statement f x.0) z)) (started-moved start scope) ∙ ap (left scope) (x.1 (started start scope))
  layer-moved (Statement-F.ForOf p how n e x) scope = ap (left scope) (x.1 (declared how n.name scope))
  layer-moved (Statement-F.Empty p) scope = refl
  layer-moved (Statement-F.Return p e) scope = refl
  layer-moved (Statement-F.Throw p e) scope = refl
  layer-moved (Statement-F.Break p) scope = refl
  layer-moved (Statement-F.Continue p) scope = refl
  layer-moved (Statement-F.Simple x) scope = refl

  plain-is : (y : Statement-F ((x : Statement) × IsMoved x)) → plain y ≡ map-Statement ((x : Statement) × IsMoved x) Statement (λ e. e.0) y
  plain-is (Statement-F.Block p xs) = refl
  plain-is (Statement-F.Declare d) = refl
  plain-is (Statement-F.If p c x None) = refl
  plain-is (Statement-F.If p c x (Some y)) = refl
  plain-is (Statement-F.For p start c last x) = refl
  plain-is (Statement-F.ForOf p how n e x) = refl
  plain-is (Statement-F.Empty p) = refl
  plain-is (Statement-F.Return p e) = refl
  plain-is (Statement-F.Throw p e) = refl
  plain-is (Statement-F.Break p) = refl
  plain-is (Statement-F.Continue p) = refl
  plain-is (Statement-F.Simple x) = refl

  pub behind-moved : (x : Statement) (scope : Scope) → behind (moved_statement f x) scope ≡ behind x scope
  behind-moved = ind-Statement IsMoved (λ l y is scope.
      let e : plain y ≡ l = plain-is y ∙ is in
      out_at (moved_statement f (roll-Statement l)) scope
      ∙ ap (λ k. behind_at k scope) (out-moved_statement f (roll-Statement l) ∙ ap (moved_statement_layer f) (opened l))
      ∙ subst (λ k. behind_at (moved_statement_layer f k) scope ≡ behind_at k scope) e (layer-moved y scope)
      ∙ sym (roll_at l scope))
