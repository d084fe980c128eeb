-- What the rules of expressions read is an expression by the grammar.
use Rattle.std.proofs.Common.{◌≡◌, ℕ, zero, suc, ◌==◌, Bool, true, false, if◌then◌else◌, List, [], ◌∷◌, ◌++◌, Option, Some, None, Ok, Err, refl, sym, subst, ◌∙◌, append_assoc, append-nil}
use Rattle.sync_tokens.specs.declared.token.Kind.{Kind}
use Rattle.sync_tokens.specs.declared.token.Kind.TheVariants as kinds
use Rattle.sync_tokens.specs.declared.token.Sign.{Sign}
use Rattle.sync_tokens.specs.declared.token.Sign.TheVariants as signs
use Rattle.sync_tokens.specs.declared.token.Word.{Word}
use Rattle.sync_tokens.specs.declared.token.Word.TheVariants as words
use Rattle.sync_syntax.specs.declared.tree.Operator.{Operator}
use Rattle.sync_syntax.specs.declared.tree.Prefix.{Prefix}
use Rattle.sync_syntax.specs.declared.tree.Expr.{Expr}
use Rattle.sync_syntax.specs.declared.tree.Expr.TheVariants as e
use Rattle.sync_syntax.specs.declared.tree.Suffix.{Suffix}
use Rattle.sync_syntax.specs.declared.tree.Suffix.TheVariants as suffixes
use Rattle.sync_syntax.specs.Reading.{Tokens, Rule, ◌>>=◌, pure_rule, take, kind, next, place, eat, expect, name_rule, turns, too_deep}
use Rattle.sync_syntax.specs.Operators.{operator_at, prefix_by}
use Rattle.sync_syntax.specs.Expressions.{key_by, key, expr_by_word, followed, chained, begins_suffix, list_rule, member_rule, members_rule, bracketed, primary_by, primary, suffix_rule, suffixes_from, all_suffixes, postfix_rule, unary_by, unary, tail_by, tails_from, tails, chain_rule, choice_rule, expr_or_operand, nested, separated_in, some_members}
use Rattle.sync_syntax.specs.Grammar as g
use Rattle.sync_syntax.specs.Grammar.{Takes, IsKey, IsExpr, IsChain, AreTails, IsUnary, AreSuffixes, IsSuffix, AreListed, AreExprs, AreFields, AreMembers, IsMember, IsPrimary}
use Rattle.sync_syntax.proofs.Holds.{Holds, holds_then, holds_map, holds_cond, holds_choice, holds_expect, holds_eat, name-holds, separated-holds}

key_by-holds : (k : Kind) (ts : Tokens) → kind ts ≡ k → Holds (key_by k ts) (λ n us. IsKey ts n us)
key_by-holds (kinds.Name n) ts is = g.name_key (record { is = is; rest = refl })
key_by-holds (kinds.Text n) ts is = g.text_key (record { is = is; rest = refl })
key_by-holds _ ts is = tt

key-holds : (ts : Tokens) → Holds (key ts) (λ n us. IsKey ts n us)
unfolding key
key-holds ts = key_by-holds (kind ts) ts refl

word_by-holds : (w : Word) (ts : Tokens) → kind ts ≡ kinds.Word w → Holds (expr_by_word (place ts) w ts) (λ x us. IsPrimary ts x us)
word_by-holds words.True ts is = g.yes (record { is = is; rest = refl })
word_by-holds words.False ts is = g.no (record { is = is; rest = refl })
word_by-holds words.Null ts is = g.null (record { is = is; rest = refl })
word_by-holds words.Undefined ts is = g.undefined (record { is = is; rest = refl })
word_by-holds _ ts is = tt

-- what is read inside
abbrev pub IsInner : Bool → Tokens → Expr → Tokens → Type 0
IsInner true ts x us = IsUnary ts x us
IsInner false ts x us = IsExpr ts x us

module _ (n : Bool → Rule Expr) (hn : (o : Bool) (ts : Tokens) → Holds (n o ts) (λ x us. IsInner o ts x us)) where
  exprs-holds : (ts : Tokens) → Holds (separated_in n ts) (λ xs us. AreExprs ts xs us)
  exprs-holds ts = separated-holds (n false) (λ vs x us. IsExpr vs x us) (λ vs xs us. AreExprs vs xs us) (hn false) (λ vs us x h. g.one_expr h) (λ vs us ws x xs h k hs. g.more_exprs h k hs) ts

  list-holds : (close : Sign) (ts : Tokens) → Holds (list_rule n close ts) (λ x us. AreListed close ts x us)
  unfolding list_rule
  list-holds close ts =
      let Q : List Expr → Tokens → Type 0 = λ x us. AreListed close ts x us in
      holds_eat close ts (pure_rule ([])) ((separated_in n >>= λ found. (expect close >>= λ _. pure_rule (found)))) Q (λ k1. g.none_listed k1) (λ no2. holds_then (separated_in n ts) (λ found. (expect close >>= λ _. pure_rule (found))) (λ (found : List Expr) (us3 : Tokens). AreExprs ts found us3) Q (exprs-holds ts) (λ found us3 h4. holds_expect close us3 (pure_rule (found)) Q (λ k5. g.some_listed h4 k5)))

  pub member-holds : (ts : Tokens) → Holds (member_rule n ts) (λ x us. IsMember ts x us)
  unfolding member_rule
  member-holds ts =
      let Q : (List ℕ × Expr) → Tokens → Type 0 = λ x us. IsMember ts x us in
      holds_then (key ts) (λ k. (expect signs.Colon >>= λ _. (n false >>= λ value. pure_rule ((k, value))))) (λ (k : List ℕ) (us6 : Tokens). IsKey ts k us6) Q (key-holds ts) (λ k us6 h7. holds_expect signs.Colon us6 ((n false >>= λ value. pure_rule ((k, value)))) Q (λ k8. holds_then (n false (next us6)) (λ value. pure_rule ((k, value))) (λ (value : Expr) (us9 : Tokens). IsExpr (next us6) value us9) Q (hn false (next us6)) (λ value us9 h10. g.member h7 k8 h10)))

  some_members-holds : (ts : Tokens) → Holds (some_members n ts) (λ xs us. AreMembers ts xs us)
  some_members-holds ts = separated-holds (member_rule n) (λ vs x us. IsMember vs x us) (λ vs xs us. AreMembers vs xs us) member-holds (λ vs us x h. g.one_member h) (λ vs us ws x xs h k hs. g.more_members h k hs) ts

  members-holds : (ts : Tokens) → Holds (members_rule n ts) (λ x us. AreFields ts x us)
  unfolding members_rule
  members-holds ts =
      let Q : List (List ℕ × Expr) → Tokens → Type 0 = λ x us. AreFields ts x us in
      holds_eat signs.BraceClose ts (pure_rule ([])) ((some_members n >>= λ found. (expect signs.BraceClose >>= λ _. pure_rule (found)))) Q (λ k11. g.no_fields k11) (λ no12. holds_then (some_members n ts) (λ found. (expect signs.BraceClose >>= λ _. pure_rule (found))) (λ (found : List (List ℕ × Expr)) (us13 : Tokens). AreMembers ts found us13) Q (some_members-holds ts) (λ found us13 h14. holds_expect signs.BraceClose us13 (pure_rule (found)) Q (λ k15. g.some_fields h14 k15)))

  bracketed-holds : (s : Sign) (ts : Tokens) → kind ts ≡ kinds.Sign s → Holds (bracketed n (place ts) s ts) (λ x us. IsPrimary ts x us)
  bracketed-holds signs.ParenOpen ts is =
      let Q : Expr → Tokens → Type 0 = λ x us. IsPrimary ts x us in
      let k : Takes (kinds.Sign signs.ParenOpen) ts (next ts) = record { is = is; rest = refl } in
      holds_then (n false (next ts)) (λ inner. (expect signs.ParenClose >>= λ _. pure_rule (inner))) (λ (inner : Expr) (us16 : Tokens). IsExpr (next ts) inner us16) Q (hn false (next ts)) (λ inner us16 h17. holds_expect signs.ParenClose us16 (pure_rule (inner)) Q (λ k18. g.parentheses k h17 k18))
  bracketed-holds signs.BracketOpen ts is =
      let Q : Expr → Tokens → Type 0 = λ x us. IsPrimary ts x us in
      let k : Takes (kinds.Sign signs.BracketOpen) ts (next ts) = record { is = is; rest = refl } in
      holds_then (list_rule n signs.BracketClose (next ts)) (λ found. pure_rule (e.List (place ts) found)) (λ (found : List Expr) (us19 : Tokens). AreListed signs.BracketClose (next ts) found us19) Q (list-holds signs.BracketClose (next ts)) (λ found us19 h20. g.list k h20)
  bracketed-holds signs.BraceOpen ts is =
      let Q : Expr → Tokens → Type 0 = λ x us. IsPrimary ts x us in
      let k : Takes (kinds.Sign signs.BraceOpen) ts (next ts) = record { is = is; rest = refl } in
      holds_then (members_rule n (next ts)) (λ found. pure_rule (e.Object (place ts) found)) (λ (found : List (List ℕ × Expr)) (us21 : Tokens). AreFields (next ts) found us21) Q (members-holds (next ts)) (λ found us21 h22. g.object k h22)
  bracketed-holds _ ts is = tt

  primary_by-holds : (k : Kind) (ts : Tokens) → kind ts ≡ k → Holds (primary_by n (place ts) k ts) (λ x us. IsPrimary ts x us)
  primary_by-holds (kinds.Integer m) ts is = g.integer (record { is = is; rest = refl })
  primary_by-holds (kinds.Text m) ts is = g.text (record { is = is; rest = refl })
  primary_by-holds (kinds.Name m) ts is = g.name (record { is = is; rest = refl })
  primary_by-holds (kinds.Word w) ts is = word_by-holds w ts is
  primary_by-holds (kinds.Sign s) ts is = bracketed-holds s ts is
  primary_by-holds _ ts is = tt

  primary-holds : (ts : Tokens) → Holds (primary n ts) (λ x us. IsPrimary ts x us)
  unfolding primary
  primary-holds ts = primary_by-holds (kind ts) ts refl

  pub suffix-holds : (ts : Tokens) → Holds (suffix_rule n ts) (λ x us. IsSuffix ts x us)
  unfolding suffix_rule
  suffix-holds ts =
      let Q : Suffix → Tokens → Type 0 = λ x us. IsSuffix ts x us in
      holds_eat signs.Dot ts ((name_rule >>= λ m. pure_rule (suffixes.Member m))) ((eat signs.BracketOpen >>= λ b. if b then (n false >>= λ at. (expect signs.BracketClose >>= λ _. pure_rule (suffixes.Index at))) else (expect signs.ParenOpen >>= λ _. (list_rule n signs.ParenClose >>= λ found. pure_rule (suffixes.Call found))))) Q (λ k23. holds_then (name_rule (next ts)) (λ m. pure_rule (suffixes.Member m)) (λ (m : List ℕ) (us25 : Tokens). Takes (kinds.Name m) (next ts) us25) Q (name-holds (next ts)) (λ m us25 h26. g.member_suffix k23 h26)) (λ no24. holds_eat signs.BracketOpen ts ((n false >>= λ at. (expect signs.BracketClose >>= λ _. pure_rule (suffixes.Index at)))) ((expect signs.ParenOpen >>= λ _. (list_rule n signs.ParenClose >>= λ found. pure_rule (suffixes.Call found)))) Q (λ k27. holds_then (n false (next ts)) (λ at. (expect signs.BracketClose >>= λ _. pure_rule (suffixes.Index at))) (λ (at : Expr) (us29 : Tokens). IsExpr (next ts) at us29) Q (hn false (next ts)) (λ at us29 h30. holds_expect signs.BracketClose us29 (pure_rule (suffixes.Index at)) Q (λ k31. g.index_suffix k27 h30 k31))) (λ no28. holds_expect signs.ParenOpen ts ((list_rule n signs.ParenClose >>= λ found. pure_rule (suffixes.Call found))) Q (λ k32. holds_then (list_rule n signs.ParenClose (next ts)) (λ found. pure_rule (suffixes.Call found)) (λ (found : List Expr) (us33 : Tokens). AreListed signs.ParenClose (next ts) found us33) Q (list-holds signs.ParenClose (next ts)) (λ found us33 h34. g.call_suffix k32 h34))))

  abbrev AreMore : Tokens → List Suffix → List Suffix → Tokens → Type 0
  AreMore ts found all us = (others : List Suffix) × (all ≡ found ++ others) × AreSuffixes ts others us

  suffixes_from-holds : (count : ℕ) (found : List Suffix) (ts : Tokens) → Holds (suffixes_from n count found ts) (AreMore ts found)
  unfolding suffixes_from
  suffixes_from-holds zero found ts = tt
  suffixes_from-holds (suc count) found ts =
      holds_choice (begins_suffix ts) ((suffix_rule n >>= λ s. suffixes_from n count (found ++ s ∷ [])) ts) (Ok (found, ts)) (AreMore ts found)
      (λ _. holds_then (suffix_rule n ts) (λ s. suffixes_from n count (found ++ s ∷ [])) (λ x us. IsSuffix ts x us) (AreMore ts found) (suffix-holds ts)
      (λ s us h. holds_map (suffixes_from n count (found ++ s ∷ []) us) (AreMore us (found ++ s ∷ [])) (AreMore ts found) (suffixes_from-holds count (found ++ s ∷ []) us)
      (λ all vs f. (s ∷ f.0, f.1 ∙ append_assoc found (s ∷ []) f.0, g.one_suffix h f.2))))
      (λ _. ([], sym (append-nil found), g.no_suffix))

  all_suffixes-holds : (ts : Tokens) → Holds (all_suffixes n ts) (λ x us. AreSuffixes ts x us)
  unfolding all_suffixes
  all_suffixes-holds ts =
      holds_map (suffixes_from n (turns ts) [] ts) (AreMore ts []) (λ x us. AreSuffixes ts x us) (suffixes_from-holds (turns ts) [] ts)
      (λ all us f. subst (λ (l : List Suffix). AreSuffixes ts l us) (sym f.1) f.2)

  postfix-holds : (ts : Tokens) → Holds (postfix_rule n ts) (λ x us. IsUnary ts x us)
  unfolding postfix_rule
  postfix-holds ts =
      let Q : Expr → Tokens → Type 0 = λ x us. IsUnary ts x us in
      holds_then (primary n ts) (λ first. (all_suffixes n >>= λ found. pure_rule (followed first found))) (λ (first : Expr) (us35 : Tokens). IsPrimary ts first us35) Q (primary-holds ts) (λ first us35 h36. holds_then (all_suffixes n us35) (λ found. pure_rule (followed first found)) (λ (found : List Suffix) (us37 : Tokens). AreSuffixes us35 found us37) Q (all_suffixes-holds us35) (λ found us37 h38. g.postfix h36 h38))

  unary_by-holds : (room : ℕ) (o : Option Prefix) (ts : Tokens) → prefix_by (kind ts) ≡ o → Holds (unary_by room n (place ts) o ts) (λ x us. IsUnary ts x us)
  unary_by-holds room None ts is = postfix-holds ts
  unary_by-holds room (Some op) ts is =
      let Q : Expr → Tokens → Type 0 = λ x us. IsUnary ts x us in
      holds_cond (room == 0) (λ us. Err (too_deep us)) (take >>= λ _. (n true >>= λ x. pure_rule (e.Prefix (place ts) op x))) ts Q (λ _. tt) (λ _. holds_then (n true (next ts)) (λ x. pure_rule (e.Prefix (place ts) op x)) (λ (x : Expr) (us39 : Tokens). IsUnary (next ts) x us39) Q (hn true (next ts)) (λ x us39 h40. g.prefixed (record { is = refl; rest = refl }) is h40))

  unary-holds : (room : ℕ) (ts : Tokens) → Holds (unary room n ts) (λ x us. IsUnary ts x us)
  unfolding unary
  unary-holds room ts = unary_by-holds room (prefix_by (kind ts)) ts refl

abbrev Tail : Type 0
Tail = Operator × Expr

abbrev MoreTails : ℕ → Tokens → List Tail → List Tail → Tokens → Type 0
MoreTails level ts found all us = (others : List Tail) × (all ≡ found ++ others) × AreTails level ts others us

module _ (level : ℕ) (below : Rule Expr) (hb : (ts : Tokens) → Holds (below ts) (λ x us. IsChain level ts x us)) where
  tail_by-holds : (o : Option Operator) (found : List Tail) (rest : List Tail → Rule (List Tail)) (ts : Tokens) → operator_at (suc level) (kind ts) ≡ o
      → ((op : Operator) (x : Expr) (us : Tokens) → Holds (rest (found ++ (op, x) ∷ []) us) (MoreTails level us (found ++ (op, x) ∷ [])))
      → Holds (tail_by below o found rest ts) (MoreTails level ts found)
  tail_by-holds None found rest ts is hr = ([], sym (append-nil found), g.no_tail)
  tail_by-holds (Some op) found rest ts is hr =
      holds_then (below (next ts)) (λ right. rest (found ++ (op, right) ∷ [])) (λ x us. IsChain level (next ts) x us) (MoreTails level ts found) (hb (next ts))
      (λ x us h. holds_map (rest (found ++ (op, x) ∷ []) us) (MoreTails level us (found ++ (op, x) ∷ [])) (MoreTails level ts found) (hr op x us)
      (λ all vs f. ((op, x) ∷ f.0, f.1 ∙ append_assoc found ((op, x) ∷ []) f.0, g.tail (record { is = refl; rest = refl }) is h f.2)))

  tails_from-holds : (count : ℕ) (found : List Tail) (ts : Tokens) → Holds (tails_from (suc level) below count found ts) (MoreTails level ts found)
  unfolding tails_from
  tails_from-holds zero found ts = tt
  tails_from-holds (suc count) found ts =
      tail_by-holds (operator_at (suc level) (kind ts)) found (λ longer. tails_from (suc level) below count longer) ts refl
      (λ op x us. tails_from-holds count (found ++ (op, x) ∷ []) us)

  tails-holds : (ts : Tokens) → Holds (tails (suc level) below ts) (λ x us. AreTails level ts x us)
  unfolding tails
  tails-holds ts =
      holds_map (tails_from (suc level) below (turns ts) [] ts) (MoreTails level ts []) (λ x us. AreTails level ts x us) (tails_from-holds (turns ts) [] ts)
      (λ all us f. subst (λ (l : List Tail). AreTails level ts l us) (sym f.1) f.2)

module _ (room : ℕ) (n : Bool → Rule Expr) (hn : (o : Bool) (ts : Tokens) → Holds (n o ts) (λ x us. IsInner o ts x us)) where
  pub chain-holds : (level : ℕ) (ts : Tokens) → Holds (chain_rule room n level ts) (λ x us. IsChain level ts x us)
  unfolding chain_rule
  chain-holds zero ts = holds_map (unary room n ts) (λ x us. IsUnary ts x us) (λ x us. IsChain 0 ts x us) (unary-holds n hn room ts) (λ x us h. g.operand h)
  chain-holds (suc level) ts =
      let Q : Expr → Tokens → Type 0 = λ x us. IsChain (suc level) ts x us in
      holds_then (chain_rule room n level ts) (λ first. (tails (suc level) (chain_rule room n level) >>= λ found. pure_rule (chained first found))) (λ (first : Expr) (us41 : Tokens). IsChain level ts first us41) Q (chain-holds level ts) (λ first us41 h42. holds_then (tails (suc level) (chain_rule room n level) us41) (λ found. pure_rule (chained first found)) (λ (found : List Tail) (us43 : Tokens). AreTails level us41 found us43) Q (tails-holds level (chain_rule room n level) (chain-holds level) us41) (λ found us43 h44. g.chain h42 h44))

  choice-holds : (ts : Tokens) → Holds (choice_rule room n ts) (λ x us. IsExpr ts x us)
  unfolding choice_rule
  choice-holds ts =
      let Q : Expr → Tokens → Type 0 = λ x us. IsExpr ts x us in
      holds_then (chain_rule room n 6 ts) (λ condition. (eat signs.Question >>= λ b. if b then (n false >>= λ first. (expect signs.Colon >>= λ _. (n false >>= λ second. pure_rule (e.Choice condition first second)))) else pure_rule (condition))) (λ (condition : Expr) (us45 : Tokens). IsChain 6 ts condition us45) Q (chain-holds 6 ts) (λ condition us45 h46. holds_eat signs.Question us45 ((n false >>= λ first. (expect signs.Colon >>= λ _. (n false >>= λ second. pure_rule (e.Choice condition first second))))) (pure_rule (condition)) Q (λ k47. holds_then (n false (next us45)) (λ first. (expect signs.Colon >>= λ _. (n false >>= λ second. pure_rule (e.Choice condition first second)))) (λ (first : Expr) (us49 : Tokens). IsExpr (next us45) first us49) Q (hn false (next us45)) (λ first us49 h50. holds_expect signs.Colon us49 ((n false >>= λ second. pure_rule (e.Choice condition first second))) Q (λ k51. holds_then (n false (next us49)) (λ second. pure_rule (e.Choice condition first second)) (λ (second : Expr) (us52 : Tokens). IsExpr (next us49) second us52) Q (hn false (next us49)) (λ second us52 h53. g.choice h46 k47 h50 k51 h53)))) (λ no48. g.no_choice h46))

  opened-holds : (o : Bool) (ts : Tokens) → Holds (expr_or_operand room n o ts) (λ x us. IsInner o ts x us)
  unfolding expr_or_operand
  opened-holds true ts = unary-holds n hn room ts
  opened-holds false ts = choice-holds ts

pub nested-holds : (room : ℕ) (o : Bool) (ts : Tokens) → Holds (nested room o ts) (λ x us. IsInner o ts x us)
unfolding nested
nested-holds zero o ts = tt
nested-holds (suc room) o ts = opened-holds room (nested room) (nested-holds room) o ts

pub expr-holds : (room : ℕ) (ts : Tokens) → Holds (nested room false ts) (λ x us. IsExpr ts x us)
expr-holds room ts = nested-holds room false ts
