-- What the rules of statements and programs read is one by the grammar.
use Rattle.std.proofs.Common.{◌≡◌, ℕ, zero, suc, Bool, true, false, cond, if◌then◌else◌, List, [], ◌∷◌, ◌++◌, Option, Some, None, Result, Ok, Err, IfOk, length, nat_lt, refl, sym, subst, ap, ◌∙◌, append_assoc, append-nil}
use Rattle.sync_tokens.specs.Scan.{tokens_of}
use Rattle.sync_tokens.specs.declared.place.Place.{Place}
use Rattle.sync_tokens.specs.declared.token.Kind.{Kind}
use Rattle.sync_tokens.specs.declared.token.Kind.TheVariants as kinds
use Rattle.sync_tokens.specs.declared.token.Sign.{Sign}
use Rattle.sync_tokens.specs.declared.token.Sign.TheVariants as signs
use Rattle.sync_tokens.specs.declared.token.Word.{Word}
use Rattle.sync_tokens.specs.declared.token.Word.TheVariants as words
use Rattle.sync_syntax.specs.declared.fault.ParseFault.{ParseFault}
use Rattle.sync_syntax.specs.declared.operator.Writing.{Writing}
use Rattle.sync_syntax.specs.declared.operator.Writing.TheVariants as writing
use Rattle.sync_syntax.specs.declared.tree.Expr.{Expr}
use Rattle.sync_syntax.specs.declared.tree.Named.{Named}
use Rattle.sync_syntax.specs.declared.tree.Declares.{Declares}
use Rattle.sync_syntax.specs.declared.tree.Declaration.{Declaration}
use Rattle.sync_syntax.specs.declared.tree.Simple.{Simple}
use Rattle.sync_syntax.specs.declared.tree.Simple.TheVariants as simples
use Rattle.sync_syntax.specs.declared.tree.Start.{Start}
use Rattle.sync_syntax.specs.declared.tree.Start.TheVariants as starts
use Rattle.sync_syntax.specs.declared.tree.Statement.{Statement}
use Rattle.sync_syntax.specs.declared.tree.Statement.TheVariants as s
use Rattle.sync_syntax.specs.declared.tree.Program.{Program}
use Rattle.sync_syntax.specs.Reading.{Tokens, Outcome, Rule, ◌>>=◌, ◌>>◌, ◌<$>◌, pure_rule, take, here, kind, next, second, place, sees, eat, eat_word, expect, name_rule, turns, is_sign, same_sign, after}
use Rattle.sync_syntax.specs.Operators.{declares_by, writing_by, is_name_kind}
use Rattle.sync_syntax.specs.Statements.{named_rule, statement_end, end_by, end, expr, given, declared_rule, more_declared, declaration, written_rule, write, value_rule, write_or_value, simple_rule, expr_unless, simple_unless, returned_rule, return_at, throw_rule, declare_rule, only_simple, declare_or_simple, plain_rule, jump_rule, block_from, block_rule, else_rule, if_rule, repeat, each_rule, for_declared, for_simple, for_by, for_at, statement_by_word, statement_by_sign, statement_by, statement_rule, statement, body_room, function_body, own_name_by, own_name, second_parameter, head, program, whole_program, block_in, GivesParsed, max_len, parsed}
use Rattle.sync_syntax.specs.Grammar as g
use Rattle.sync_syntax.specs.Grammar.{Takes, IsExpr, IsNamed, Ends, IsGiven, AreDeclared, IsDeclaration, IsSimple, IsExprOrNone, IsLast, IsStart, IsStatement, IsOtherwise, AreStatements, IsOwnName, IsSecond, IsHead, IsTail, IsProgram}
use Rattle.sync_syntax.specs.Laws.{ReadIsProgram}
use Rattle.sync_syntax.proofs.Holds.{Holds, holds_then, holds_map, holds_choice, holds_expect, holds_expect_word, holds_eat, holds_eatw, name-holds, separated-holds, expect-holds, sees-takes}
use Rattle.sync_syntax.proofs.SoundExpressions.{expr-holds}

abbrev One : Type 0
One = Unit {0}

abbrev Ruled : Type 0
Ruled = List (Named × Option Expr)

named-holds : (ts : Tokens) → Holds (named_rule ts) (λ x us. IsNamed ts x us)
unfolding named_rule
named-holds ts =
    let Q : Named → Tokens → Type 0 = λ x us. IsNamed ts x us in
    holds_then (name_rule ts) (λ n. pure_rule (record { place = place ts; name = n })) (λ (n : List ℕ) (us1 : Tokens). Takes (kinds.Name n) ts us1) Q (name-holds ts) (λ n us1 h2. g.named h2)

ending-holds : (ts : Tokens) → Holds (statement_end ts) (λ _ us. Ends ts us)
unfolding statement_end
ending-holds ts =
    holds_choice (sees signs.BraceClose ts) (Ok (tt, ts)) (expect signs.Semicolon ts) (λ _ us. Ends ts us) (λ h. g.left_out (sees-takes signs.BraceClose ts h))
    (λ _. holds_map (expect signs.Semicolon ts) (λ _ us. Takes (kinds.Sign signs.Semicolon) ts us) (λ _ us. Ends ts us) (expect-holds signs.Semicolon ts) (λ _ us k. g.ended k))

end_by-holds : (k : Kind) (ts : Tokens) → kind ts ≡ k → Holds (end_by k ts) (λ _ us. (kind ts ≡ kinds.End))
end_by-holds kinds.End ts is = is
end_by-holds _ ts is = tt

end-holds : (ts : Tokens) → Holds (end ts) (λ _ us. (kind ts ≡ kinds.End))
unfolding end
end-holds ts = end_by-holds (kind ts) ts refl

module _ (room : ℕ) where
  given-holds : (ts : Tokens) → Holds (given room ts) (λ x us. IsGiven ts x us)
  unfolding given
  given-holds ts =
      let Q : Option Expr → Tokens → Type 0 = λ x us. IsGiven ts x us in
      holds_eat signs.Assign ts ((expr room >>= λ x. pure_rule (Some x))) (pure_rule (None)) Q (λ k3. holds_then (expr room (next ts)) (λ x. pure_rule (Some x)) (λ (x : Expr) (us5 : Tokens). IsExpr (next ts) x us5) Q (expr-holds room (next ts)) (λ x us5 h6. g.given k3 h6)) (λ no4. g.not_given)

  abbrev pub IsOne : Tokens → Named × Option Expr → Tokens → Type 0
  IsOne ts d us = (vs : Tokens) × IsNamed ts d.0 vs × IsGiven vs d.1 us

  pub declared-holds : (ts : Tokens) → Holds (declared_rule room ts) (λ x us. IsOne ts x us)
  unfolding declared_rule
  declared-holds ts =
      let Q : (Named × Option Expr) → Tokens → Type 0 = λ x us. IsOne ts x us in
      holds_then (named_rule ts) (λ n. (given room >>= λ value. pure_rule ((n, value)))) (λ (n : Named) (us7 : Tokens). IsNamed ts n us7) Q (named-holds ts) (λ n us7 h8. holds_then (given room us7) (λ value. pure_rule ((n, value))) (λ (value : Option Expr) (us9 : Tokens). IsGiven us7 value us9) Q (given-holds us7) (λ value us9 h10. (us7, h8, h10)))

  more_declared-holds : (ts : Tokens) → Holds (more_declared room ts) (λ x us. AreDeclared ts x us)
  more_declared-holds ts = separated-holds (declared_rule room) (λ vs x us. IsOne vs x us) (λ vs xs us. AreDeclared vs xs us) declared-holds (λ vs us x h. g.one_declared h.1 h.2) (λ vs us ws x xs h k hs. g.more_declared h.1 h.2 k hs) ts

  abbrev Declares-behind : Place → Declares → Tokens → Declaration → Tokens → Type 0
  Declares-behind p how bs d us = (names : Ruled) × (d ≡ record { place = p; declares = how; names = names }) × AreDeclared bs names us

  declaration-holds : (p : Place) (how : Declares) (n : Named) (bs ts : Tokens) → IsNamed bs n ts → Holds (declaration room p how n ts) (λ x us. Declares-behind p how bs x us)
  unfolding declaration
  declaration-holds p how n bs ts hn =
      let Q : Declaration → Tokens → Type 0 = λ x us. Declares-behind p how bs x us in
      holds_then (given room ts) (λ value. (eat signs.Comma >>= λ b. if b then (more_declared room >>= λ others. pure_rule (record { place = p; declares = how; names = (n, value) ∷ others })) else pure_rule (record { place = p; declares = how; names = (n, value) ∷ [] }))) (λ (value : Option Expr) (us11 : Tokens). IsGiven ts value us11) Q (given-holds ts) (λ value us11 h12. holds_eat signs.Comma us11 ((more_declared room >>= λ others. pure_rule (record { place = p; declares = how; names = (n, value) ∷ others }))) (pure_rule (record { place = p; declares = how; names = (n, value) ∷ [] })) Q (λ k13. holds_then (more_declared room (next us11)) (λ others. pure_rule (record { place = p; declares = how; names = (n, value) ∷ others })) (λ (others : Ruled) (us15 : Tokens). AreDeclared (next us11) others us15) Q (more_declared-holds (next us11)) (λ others us15 h16. ((n, value) ∷ others, refl, g.more_declared hn h12 k13 h16))) (λ no14. ((n, value) ∷ [], refl, g.one_declared hn h12)))

  is_declaration : (ts us vs : Tokens) (how : Declares) (d : Declaration) → Takes (kind ts) ts us → declares_by (kind ts) ≡ Some how → Declares-behind (place ts) how us d vs → IsDeclaration ts d vs
  is_declaration ts us vs how d k is h = subst (λ (c : Declaration). IsDeclaration ts c vs) (sym h.1) (g.declaration k is h.2)

  written-holds : (w : Writing) (n : Named) (bs us : Tokens) → IsNamed bs n us → writing_by (kind us) ≡ Some w → Holds (written_rule room w n (next us)) (λ x vs. IsSimple bs x vs)
  written-holds (writing.Sets how) n bs us hn is =
      holds_then (expr room (next us)) (λ x. pure_rule (simples.Write n how x)) (λ x vs. IsExpr (next us) x vs) (λ x vs. IsSimple bs x vs) (expr-holds room (next us))
      (λ x vs h. g.write hn (record { is = refl; rest = refl }) is h)
  written-holds writing.Increments n bs us hn is = g.increment hn (record { is = refl; rest = refl }) is
  written-holds writing.Decrements n bs us hn is = g.decrement hn (record { is = refl; rest = refl }) is

  -- behind a name that is next comes the token after it
  named-next : (ts us : Tokens) (n : Named) → IsNamed ts n us → us ≡ next ts
  named-next ts us n (g.named k) = k.rest

  write-holds : (w : Writing) (ts : Tokens) → writing_by (second ts) ≡ Some w → Holds (write room w ts) (λ x us. IsSimple ts x us)
  unfolding write second
  write-holds w ts is =
      holds_then (named_rule ts) (λ n. (take >>= λ _. written_rule room w n)) (λ n us. IsNamed ts n us) (λ x us. IsSimple ts x us) (named-holds ts)
      (λ n us h. written-holds w n ts us h (ap (λ (vs : Tokens). writing_by (kind vs)) (named-next ts us n h) ∙ is))

  value-holds : (ts : Tokens) → Holds (value_rule room ts) (λ x us. IsSimple ts x us)
  unfolding value_rule
  value-holds ts =
      let Q : Simple → Tokens → Type 0 = λ x us. IsSimple ts x us in
      holds_then (expr room ts) (λ x. pure_rule (simples.Value (place ts) x)) (λ (x : Expr) (us17 : Tokens). IsExpr ts x us17) Q (expr-holds room ts) (λ x us17 h18. g.value h18)

  write_or_value-holds : (o : Option Writing) (ts : Tokens) → writing_by (second ts) ≡ o → Holds (write_or_value room o ts) (λ x us. IsSimple ts x us)
  write_or_value-holds None ts is = value-holds ts
  write_or_value-holds (Some w) ts is = write-holds w ts is

  simple-holds : (ts : Tokens) → Holds (simple_rule room ts) (λ x us. IsSimple ts x us)
  unfolding simple_rule
  simple-holds ts =
      holds_choice (is_name_kind (kind ts)) (write_or_value room (writing_by (second ts)) ts) (value_rule room ts) (λ x us. IsSimple ts x us)
      (λ _. write_or_value-holds (writing_by (second ts)) ts refl) (λ _. value-holds ts)

  -- an expression before this sign, or the sign itself
  abbrev Before : Sign → Tokens → Option Expr → Tokens → Type 0
  Before close ts None us = (us ≡ ts)
  Before close ts (Some x) us = IsExpr ts x us

  some_expr-holds : (close : Sign) (ts : Tokens) → Holds ((Some <$> expr room) ts) (λ x us. Before close ts x us)
  some_expr-holds close ts =
      holds_then (expr room ts) (λ x. pure_rule (Some x)) (λ x us. IsExpr ts x us) (λ x us. Before close ts x us) (expr-holds room ts) (λ x us h. h)

  expr_unless-holds : (close : Sign) (ts : Tokens) → Holds (expr_unless room close ts) (λ x us. Before close ts x us)
  unfolding expr_unless
  expr_unless-holds close ts =
      holds_choice (sees close ts) (Ok (None, ts)) ((Some <$> expr room) ts) (λ x us. Before close ts x us) (λ _. refl) (λ _. some_expr-holds close ts)

  or_none : (close : Sign) (ts us vs : Tokens) (x : Option Expr) → Before close ts x us → Takes (kinds.Sign close) us vs → IsExprOrNone close ts x vs
  or_none close ts us vs None h k = subst (λ (ws : Tokens). IsExprOrNone close ws None vs) h (g.no_expr k)
  or_none close ts us vs (Some x) h k = g.an_expr h k

  abbrev Lasts : Tokens → Option Simple → Tokens → Type 0
  Lasts ts None us = (us ≡ ts)
  Lasts ts (Some x) us = IsSimple ts x us

  simple_unless-holds : (close : Sign) (ts : Tokens) → Holds (simple_unless room close ts) (λ x us. Lasts ts x us)
  unfolding simple_unless
  simple_unless-holds close ts =
      holds_choice (sees close ts) (Ok (None, ts)) ((Some <$> simple_rule room) ts) (λ x us. Lasts ts x us) (λ _. refl)
      (λ _. holds_then (simple_rule room ts) (λ x. pure_rule (Some x)) (λ x us. IsSimple ts x us) (λ x us. Lasts ts x us) (simple-holds ts) (λ x us h. h))

  is_last : (ts us vs : Tokens) (x : Option Simple) → Lasts ts x us → Takes (kinds.Sign signs.ParenClose) us vs → IsLast ts x vs
  is_last ts us vs None h k = subst (λ (ws : Tokens). IsLast ws None vs) h (g.no_last k)
  is_last ts us vs (Some x) h k = g.last h k

  returned-holds : (ts : Tokens) → Holds (returned_rule room ts) (λ x us. Before signs.Semicolon ts x us)
  unfolding returned_rule
  returned-holds ts =
      holds_choice (sees signs.BraceClose ts) (Ok (None, ts)) (expr_unless room signs.Semicolon ts) (λ x us. Before signs.Semicolon ts x us) (λ _. refl)
      (λ _. expr_unless-holds signs.Semicolon ts)

  is_return : (l : Bool) (ts us vs : Tokens) (x : Option Expr) → Takes (kinds.Word words.Return) ts (next ts) → Before signs.Semicolon (next ts) x us → Ends us vs → IsStatement l ts (s.Return (place ts) x) vs
  is_return l ts us vs None k h d = g.return_none k (subst (λ (ws : Tokens). Ends ws vs) h d)
  is_return l ts us vs (Some x) k h d = g.return_some k h d

  return_at-holds : (l : Bool) (ts : Tokens) → Takes (kinds.Word words.Return) ts (next ts) → Holds (return_at room (place ts) ts) (λ x us. IsStatement l ts x us)
  unfolding return_at
  return_at-holds l ts k =
      let Q : Statement → Tokens → Type 0 = λ x us. IsStatement l ts x us in
      holds_then (returned_rule room (next ts)) (λ found. (statement_end >>= λ done. pure_rule (s.Return (place ts) found))) (λ (found : Option Expr) (us19 : Tokens). Before signs.Semicolon (next ts) found us19) Q (returned-holds (next ts)) (λ found us19 h20. holds_then (statement_end us19) (λ done. pure_rule (s.Return (place ts) found)) (λ (done : One) (us21 : Tokens). Ends us19 us21) Q (ending-holds us19) (λ done us21 h22. is_return l ts us19 us21 found k h20 h22))

  throw-holds : (l : Bool) (ts : Tokens) → Takes (kinds.Word words.Throw) ts (next ts) → Holds (throw_rule room (place ts) ts) (λ x us. IsStatement l ts x us)
  unfolding throw_rule
  throw-holds l ts k =
      let Q : Statement → Tokens → Type 0 = λ x us. IsStatement l ts x us in
      holds_then (expr room (next ts)) (λ found. (statement_end >>= λ done. pure_rule (s.Throw (place ts) found))) (λ (found : Expr) (us23 : Tokens). IsExpr (next ts) found us23) Q (expr-holds room (next ts)) (λ found us23 h24. holds_then (statement_end us23) (λ done. pure_rule (s.Throw (place ts) found)) (λ (done : One) (us25 : Tokens). Ends us23 us25) Q (ending-holds us23) (λ done us25 h26. g.throw k h24 h26))

  declare-holds : (l : Bool) (how : Declares) (ts : Tokens) → declares_by (kind ts) ≡ Some how → Holds (declare_rule room (place ts) how ts) (λ x us. IsStatement l ts x us)
  unfolding declare_rule
  declare-holds l how ts is =
      let Q : Statement → Tokens → Type 0 = λ x us. IsStatement l ts x us in
      holds_then (named_rule (next ts)) (λ n. (declaration room (place ts) how n >>= λ found. (statement_end >>= λ done. pure_rule (s.Declare found)))) (λ (n : Named) (us27 : Tokens). IsNamed (next ts) n us27) Q (named-holds (next ts)) (λ n us27 h28. holds_then (declaration room (place ts) how n us27) (λ found. (statement_end >>= λ done. pure_rule (s.Declare found))) (λ (found : Declaration) (us29 : Tokens). Declares-behind (place ts) how (next ts) found us29) Q (declaration-holds (place ts) how n (next ts) us27 h28) (λ found us29 h30. holds_then (statement_end us29) (λ done. pure_rule (s.Declare found)) (λ (done : One) (us31 : Tokens). Ends us29 us31) Q (ending-holds us29) (λ done us31 h32. g.declare (is_declaration ts (next ts) us29 how found (record { is = refl; rest = refl }) is h30) h32)))

  only_simple-holds : (l : Bool) (ts : Tokens) → sees signs.BraceOpen ts ≡ false → Holds (only_simple room ts) (λ x us. IsStatement l ts x us)
  unfolding only_simple
  only_simple-holds l ts free =
      let Q : Statement → Tokens → Type 0 = λ x us. IsStatement l ts x us in
      holds_then (simple_rule room ts) (λ found. (statement_end >>= λ done. pure_rule (s.Simple found))) (λ (found : Simple) (us33 : Tokens). IsSimple ts found us33) Q (simple-holds ts) (λ found us33 h34. holds_then (statement_end us33) (λ done. pure_rule (s.Simple found)) (λ (done : One) (us35 : Tokens). Ends us33 us35) Q (ending-holds us33) (λ done us35 h36. g.simple free h34 h36))

  declare_or_simple-holds : (l : Bool) (o : Option Declares) (ts : Tokens) → declares_by (kind ts) ≡ o → sees signs.BraceOpen ts ≡ false → Holds (declare_or_simple room (place ts) o ts) (λ x us. IsStatement l ts x us)
  declare_or_simple-holds l None ts is free = only_simple-holds l ts free
  declare_or_simple-holds l (Some how) ts is free = declare-holds l how ts is

  plain-holds : (l : Bool) (ts : Tokens) → sees signs.BraceOpen ts ≡ false → Holds (plain_rule room (place ts) ts) (λ x us. IsStatement l ts x us)
  unfolding plain_rule
  plain-holds l ts free = declare_or_simple-holds l (declares_by (kind ts)) ts refl free

-- a word that stands in a loop
jump-holds : (l : Bool) (ts : Tokens) → Holds (jump_rule l ts) (λ _ us. (l ≡ true) × Ends (next ts) us)
unfolding jump_rule
jump-holds true ts = holds_map (statement_end (next ts)) (λ _ us. Ends (next ts) us) (λ _ us. (true ≡ true) × Ends (next ts) us) (ending-holds (next ts)) (λ _ us h. (refl, h))
jump-holds false ts = tt

is_break : (l : Bool) (ts us : Tokens) → l ≡ true → Takes (kinds.Word words.Break) ts (next ts) → Ends (next ts) us → IsStatement l ts (s.Break (place ts)) us
is_break true ts us is k h = g.break k h
is_break false ts us is k h = absurd cc

is_continue : (l : Bool) (ts us : Tokens) → l ≡ true → Takes (kinds.Word words.Continue) ts (next ts) → Ends (next ts) us → IsStatement l ts (s.Continue (place ts)) us
is_continue true ts us is k h = g.continue k h
is_continue false ts us is k h = absurd cc

module _ (room : ℕ) (inner : Bool → Rule Statement) (hi : (l : Bool) (ts : Tokens) → Holds (inner l ts) (λ x us. IsStatement l ts x us)) where
  abbrev AreMore : Bool → Tokens → List Statement → List Statement → Tokens → Type 0
  AreMore l ts found all us = (others : List Statement) × (all ≡ found ++ others) × AreStatements l ts others us

  block_from-holds : (l : Bool) (count : ℕ) (found : List Statement) (ts : Tokens) → Holds (block_from room inner l count found ts) (AreMore l ts found)
  unfolding block_from
  block_from-holds l zero found ts = tt
  block_from-holds l (suc count) found ts =
      holds_eat signs.BraceClose ts (pure_rule found) (inner l >>= λ x. block_from room inner l count (found ++ x ∷ [])) (AreMore l ts found)
      (λ k. ([], sym (append-nil found), g.no_statement k))
      (λ _. holds_then (inner l ts) (λ x. block_from room inner l count (found ++ x ∷ [])) (λ x us. IsStatement l ts x us) (AreMore l ts found) (hi l ts)
      (λ x us h. holds_map (block_from room inner l count (found ++ x ∷ []) us) (AreMore l us (found ++ x ∷ [])) (AreMore l ts found) (block_from-holds l count (found ++ x ∷ []) us)
      (λ all vs f. (x ∷ f.0, f.1 ∙ append_assoc found (x ∷ []) f.0, g.one_statement h f.2))))

  block-holds : (l : Bool) (ts : Tokens) → Holds (block_rule room inner l ts) (λ x us. AreStatements l ts x us)
  unfolding block_rule
  block-holds l ts =
      holds_map (block_from room inner l (turns ts) [] ts) (AreMore l ts []) (λ x us. AreStatements l ts x us) (block_from-holds l (turns ts) [] ts)
      (λ all us f. subst (λ (c : List Statement). AreStatements l ts c us) (sym f.1) f.2)

  otherwise-holds : (l : Bool) (ts : Tokens) → Holds (else_rule room inner l ts) (λ x us. IsOtherwise l ts x us)
  unfolding else_rule
  otherwise-holds l ts =
      let Q : Option Statement → Tokens → Type 0 = λ x us. IsOtherwise l ts x us in
      holds_eatw words.Else ts ((inner l >>= λ x. pure_rule (Some x))) (pure_rule (None)) Q (λ k37. holds_then (inner l (next ts)) (λ x. pure_rule (Some x)) (λ (x : Statement) (us39 : Tokens). IsStatement l (next ts) x us39) Q (hi l (next ts)) (λ x us39 h40. g.other k37 h40)) (λ no38. g.no_else no38)

  choose-holds : (l : Bool) (ts : Tokens) → Takes (kinds.Word words.If) ts (next ts) → Holds (if_rule room inner (place ts) l ts) (λ x us. IsStatement l ts x us)
  unfolding if_rule
  choose-holds l ts k =
      let Q : Statement → Tokens → Type 0 = λ x us. IsStatement l ts x us in
      holds_expect signs.ParenOpen (next ts) ((expr room >>= λ condition. (expect signs.ParenClose >>= λ _. (inner l >>= λ first. (else_rule room inner l >>= λ other. pure_rule (s.If (place ts) condition first other)))))) Q (λ k41. holds_then (expr room (next (next ts))) (λ condition. (expect signs.ParenClose >>= λ _. (inner l >>= λ first. (else_rule room inner l >>= λ other. pure_rule (s.If (place ts) condition first other))))) (λ (condition : Expr) (us42 : Tokens). IsExpr (next (next ts)) condition us42) Q (expr-holds room (next (next ts))) (λ condition us42 h43. holds_expect signs.ParenClose us42 ((inner l >>= λ first. (else_rule room inner l >>= λ other. pure_rule (s.If (place ts) condition first other)))) Q (λ k44. holds_then (inner l (next us42)) (λ first. (else_rule room inner l >>= λ other. pure_rule (s.If (place ts) condition first other))) (λ (first : Statement) (us45 : Tokens). IsStatement l (next us42) first us45) Q (hi l (next us42)) (λ first us45 h46. holds_then (else_rule room inner l us45) (λ other. pure_rule (s.If (place ts) condition first other)) (λ (other : Option Statement) (us47 : Tokens). IsOtherwise l us45 other us47) Q (otherwise-holds l us45) (λ other us47 h48. g.choose k k41 h43 k44 h46 h48)))))

  repeat-holds : (l : Bool) (ts us : Tokens) (begins : Option Start) → Takes (kinds.Word words.For) ts (next ts) → Takes (kinds.Sign signs.ParenOpen) (next ts) (next (next ts)) → (Takes (kinds.Sign signs.Semicolon) us (next us) → IsStart (next (next ts)) begins (next us)) → Holds (repeat room inner (place ts) begins us) (λ x vs. IsStatement l ts x vs)
  unfolding repeat
  repeat-holds l ts us begins kf ko hs =
      let Q : Statement → Tokens → Type 0 = λ x us. IsStatement l ts x us in
      holds_expect signs.Semicolon us ((expr_unless room signs.Semicolon >>= λ condition. (expect signs.Semicolon >>= λ _. (simple_unless room signs.ParenClose >>= λ last. (expect signs.ParenClose >>= λ _. (inner true >>= λ body. pure_rule (s.For (place ts) begins condition last body))))))) Q (λ k49. holds_then (expr_unless room signs.Semicolon (next us)) (λ condition. (expect signs.Semicolon >>= λ _. (simple_unless room signs.ParenClose >>= λ last. (expect signs.ParenClose >>= λ _. (inner true >>= λ body. pure_rule (s.For (place ts) begins condition last body)))))) (λ (condition : Option Expr) (us50 : Tokens). Before room signs.Semicolon (next us) condition us50) Q (expr_unless-holds room signs.Semicolon (next us)) (λ condition us50 h51. holds_expect signs.Semicolon us50 ((simple_unless room signs.ParenClose >>= λ last. (expect signs.ParenClose >>= λ _. (inner true >>= λ body. pure_rule (s.For (place ts) begins condition last body))))) Q (λ k52. holds_then (simple_unless room signs.ParenClose (next us50)) (λ last. (expect signs.ParenClose >>= λ _. (inner true >>= λ body. pure_rule (s.For (place ts) begins condition last body)))) (λ (last : Option Simple) (us53 : Tokens). Lasts room (next us50) last us53) Q (simple_unless-holds room signs.ParenClose (next us50)) (λ last us53 h54. holds_expect signs.ParenClose us53 ((inner true >>= λ body. pure_rule (s.For (place ts) begins condition last body))) Q (λ k55. holds_then (inner true (next us53)) (λ body. pure_rule (s.For (place ts) begins condition last body)) (λ (body : Statement) (us56 : Tokens). IsStatement true (next us53) body us56) Q (hi true (next us53)) (λ body us56 h57. g.repeat kf ko (hs k49) (or_none room signs.Semicolon (next us) us50 (next us50) condition h51 k52) (is_last room (next us50) us53 (next us53) last h54 k55) h57))))))

  each-holds : (l : Bool) (ts us : Tokens) (how : Declares) (n : Named) → Takes (kinds.Word words.For) ts (next ts) → Takes (kinds.Sign signs.ParenOpen) (next ts) (next (next ts)) → Takes (kind (next (next ts))) (next (next ts)) (next (next (next ts))) → declares_by (kind (next (next ts))) ≡ Some how → IsNamed (next (next (next ts))) n us → Takes (kinds.Word words.Of) us (next us) → Holds (each_rule room inner (place ts) how n (next us)) (λ x vs. IsStatement l ts x vs)
  unfolding each_rule
  each-holds l ts us how n kf ko kd is hn kw =
      let Q : Statement → Tokens → Type 0 = λ x us. IsStatement l ts x us in
      holds_then (expr room (next us)) (λ items. (expect signs.ParenClose >>= λ _. (inner true >>= λ body. pure_rule (s.ForOf (place ts) how n items body)))) (λ (items : Expr) (us58 : Tokens). IsExpr (next us) items us58) Q (expr-holds room (next us)) (λ items us58 h59. holds_expect signs.ParenClose us58 ((inner true >>= λ body. pure_rule (s.ForOf (place ts) how n items body))) Q (λ k60. holds_then (inner true (next us58)) (λ body. pure_rule (s.ForOf (place ts) how n items body)) (λ (body : Statement) (us61 : Tokens). IsStatement true (next us58) body us61) Q (hi true (next us58)) (λ body us61 h62. g.each kf ko kd is hn kw h59 k60 h62)))

  for_declared-holds : (l : Bool) (ts : Tokens) (how : Declares) → Takes (kinds.Word words.For) ts (next ts) → Takes (kinds.Sign signs.ParenOpen) (next ts) (next (next ts)) → declares_by (kind (next (next ts))) ≡ Some how
      → Holds (for_declared room inner (place ts) how (next (next ts))) (λ x us. IsStatement l ts x us)
  unfolding for_declared
  for_declared-holds l ts how kf ko is =
      let bs : Tokens = next (next ts) in
      let Q : Statement → Tokens → Type 0 = λ x us. IsStatement l ts x us in
      let kd : Takes (kind bs) bs (next bs) = record { is = refl; rest = refl } in
      holds_then (named_rule (next bs)) (λ n. (eat_word words.Of >>= λ b. if b then each_rule room inner (place ts) how n else (declaration room (place bs) how n >>= λ found. repeat room inner (place ts) (Some (starts.Declare found)))))
      (λ n us. IsNamed (next bs) n us) Q (named-holds (next bs))
      (λ n us hn. holds_eatw words.Of us (each_rule room inner (place ts) how n) (declaration room (place bs) how n >>= λ found. repeat room inner (place ts) (Some (starts.Declare found))) Q
      (λ kw. each-holds l ts us how n kf ko kd is hn kw)
      (λ _. holds_then (declaration room (place bs) how n us) (λ found. repeat room inner (place ts) (Some (starts.Declare found))) (λ d vs. Declares-behind room (place bs) how (next bs) d vs) Q (declaration-holds room (place bs) how n (next bs) us hn)
      (λ d vs hd. repeat-holds l ts vs (Some (starts.Declare d)) kf ko (λ ks. g.declares (is_declaration room bs (next bs) vs how d kd is hd) ks))))

  for_simple-holds : (l : Bool) (ts : Tokens) → Takes (kinds.Word words.For) ts (next ts) → Takes (kinds.Sign signs.ParenOpen) (next ts) (next (next ts)) → Holds (for_simple room inner (place ts) (next (next ts))) (λ x us. IsStatement l ts x us)
  unfolding for_simple
  for_simple-holds l ts kf ko =
      let bs : Tokens = next (next ts) in
      let Q : Statement → Tokens → Type 0 = λ x us. IsStatement l ts x us in
      holds_choice (sees signs.Semicolon bs) (repeat room inner (place ts) None bs) ((simple_rule room >>= λ found. repeat room inner (place ts) (Some (starts.Simple found))) bs) Q
      (λ _. repeat-holds l ts bs None kf ko (λ ks. g.no_start ks))
      (λ _. holds_then (simple_rule room bs) (λ found. repeat room inner (place ts) (Some (starts.Simple found))) (λ x us. IsSimple bs x us) Q (simple-holds room bs)
      (λ x us h. repeat-holds l ts us (Some (starts.Simple x)) kf ko (λ ks. g.starts_simple h ks)))

  for_by-holds : (l : Bool) (o : Option Declares) (ts : Tokens) → Takes (kinds.Word words.For) ts (next ts) → Takes (kinds.Sign signs.ParenOpen) (next ts) (next (next ts)) → declares_by (kind (next (next ts))) ≡ o
      → Holds (for_by room inner (place ts) o (next (next ts))) (λ x us. IsStatement l ts x us)
  for_by-holds l None ts kf ko is = for_simple-holds l ts kf ko
  for_by-holds l (Some how) ts kf ko is = for_declared-holds l ts how kf ko is

  for_at-holds : (l : Bool) (ts : Tokens) → Takes (kinds.Word words.For) ts (next ts) → Holds (for_at room inner (place ts) ts) (λ x us. IsStatement l ts x us)
  unfolding for_at
  for_at-holds l ts kf =
      holds_expect signs.ParenOpen (next ts) (λ us. for_by room inner (place ts) (declares_by (kind us)) us) (λ x us. IsStatement l ts x us)
      (λ ko. for_by-holds l (declares_by (kind (next (next ts)))) ts kf ko refl)

  jumps-holds : (l : Bool) (ts : Tokens) (x : Statement) → ((us : Tokens) → l ≡ true → Ends (next ts) us → IsStatement l ts x us) → Holds ((jump_rule l >> pure_rule x) ts) (λ y us. IsStatement l ts y us)
  jumps-holds l ts x k = holds_then (jump_rule l ts) (λ _. pure_rule x) (λ _ us. (l ≡ true) × Ends (next ts) us) (λ y us. IsStatement l ts y us) (jump-holds l ts) (λ _ us h. k us h.0 h.1)

  -- no word is a sign
  word_is_free : (w : Word) (ts : Tokens) → kind ts ≡ kinds.Word w → sees signs.BraceOpen ts ≡ false
  unfolding sees
  word_is_free w ts is = ap (is_sign signs.BraceOpen) is

  word_by-holds : (l : Bool) (w : Word) (ts : Tokens) → kind ts ≡ kinds.Word w → Holds (statement_by_word room inner (place ts) l w ts) (λ x us. IsStatement l ts x us)
  word_by-holds l words.If ts is = choose-holds l ts (record { is = is; rest = refl })
  word_by-holds l words.For ts is = for_at-holds l ts (record { is = is; rest = refl })
  word_by-holds l words.Return ts is = return_at-holds room l ts (record { is = is; rest = refl })
  word_by-holds l words.Throw ts is = throw-holds room l ts (record { is = is; rest = refl })
  word_by-holds l words.Break ts is = jumps-holds l ts (s.Break (place ts)) (λ us t h. is_break l ts us t (record { is = is; rest = refl }) h)
  word_by-holds l words.Continue ts is = jumps-holds l ts (s.Continue (place ts)) (λ us t h. is_continue l ts us t (record { is = is; rest = refl }) h)
  word_by-holds l w ts is = plain-holds room l ts (word_is_free w ts is)

  sign_by-holds : (l : Bool) (c : Sign) (ts : Tokens) → kind ts ≡ kinds.Sign c → Holds (statement_by_sign room inner (place ts) l c ts) (λ x us. IsStatement l ts x us)
  unfolding sees same_sign
  sign_by-holds l signs.BraceOpen ts is =
      holds_then (block_rule room inner l (next ts)) (λ found. pure_rule (s.Block (place ts) found)) (λ x us. AreStatements l (next ts) x us) (λ x us. IsStatement l ts x us) (block-holds l (next ts))
      (λ x us h. g.block (record { is = is; rest = refl }) h)
  sign_by-holds l signs.Semicolon ts is = g.empty (record { is = is; rest = refl })
  sign_by-holds l c ts is = plain-holds room l ts (ap (is_sign signs.BraceOpen) is)

  statement_by-holds : (l : Bool) (k : Kind) (ts : Tokens) → kind ts ≡ k → Holds (statement_by room inner (place ts) l k ts) (λ x us. IsStatement l ts x us)
  unfolding sees
  statement_by-holds l (kinds.Word w) ts is = word_by-holds l w ts is
  statement_by-holds l (kinds.Sign c) ts is = sign_by-holds l c ts is
  statement_by-holds l k ts is = plain-holds room l ts (ap (is_sign signs.BraceOpen) is)

  opened-holds : (l : Bool) (ts : Tokens) → Holds (statement_rule room inner l ts) (λ x us. IsStatement l ts x us)
  unfolding statement_rule
  opened-holds l ts = statement_by-holds l (kind ts) ts refl

pub statement-holds : (room : ℕ) (l : Bool) (ts : Tokens) → Holds (statement room l ts) (λ x us. IsStatement l ts x us)
unfolding statement
statement-holds zero l ts = tt
statement-holds (suc room) l ts = opened-holds room (statement room) (statement-holds room) l ts

own_name_by-holds : (k : Kind) (ts : Tokens) → kind ts ≡ k → Holds (own_name_by k ts) (λ x us. IsOwnName ts x us)
own_name_by-holds (kinds.Name n) ts is = holds_then (name_rule ts) (λ m. pure_rule (Some m)) (λ m us. Takes (kinds.Name m) ts us) (λ x us. IsOwnName ts x us) (name-holds ts) (λ m us h. g.own_name h)
own_name_by-holds _ ts is = g.no_own_name

own_name-holds : (ts : Tokens) → Holds (own_name ts) (λ x us. IsOwnName ts x us)
unfolding own_name
own_name-holds ts = own_name_by-holds (kind ts) ts refl

second-holds : (ts : Tokens) → Holds (second_parameter ts) (λ x us. IsSecond ts x us)
unfolding second_parameter
second-holds ts =
    let Q : Option Named → Tokens → Type 0 = λ x us. IsSecond ts x us in
    holds_eat signs.Comma ts ((named_rule >>= λ n. pure_rule (Some n))) (pure_rule (None)) Q (λ k63. holds_then (named_rule (next ts)) (λ n. pure_rule (Some n)) (λ (n : Named) (us65 : Tokens). IsNamed (next ts) n us65) Q (named-holds (next ts)) (λ n us65 h66. g.second k63 h66)) (λ no64. g.no_second)

abbrev Headed : Type 0
Headed = Option (List ℕ) × Named × Option Named

head-holds : (ts : Tokens) → Holds (head ts) (λ x us. IsHead ts x.0 x.1 x.2 us)
unfolding head
head-holds ts =
    let Q : Headed → Tokens → Type 0 = λ x us. IsHead ts x.0 x.1 x.2 us in
    holds_expect_word words.Function ts ((own_name >>= λ own. (expect signs.ParenOpen >>= λ _. (named_rule >>= λ first. (second_parameter >>= λ other. (expect signs.ParenClose >>= λ _. pure_rule ((own, first, other)))))))) Q (λ k. holds_then (own_name (next ts)) (λ own. (expect signs.ParenOpen >>= λ _. (named_rule >>= λ first. (second_parameter >>= λ other. (expect signs.ParenClose >>= λ _. pure_rule ((own, first, other))))))) (λ (own : Option (List ℕ)) (us67 : Tokens). IsOwnName (next ts) own us67) Q (own_name-holds (next ts)) (λ own us67 h68. holds_expect signs.ParenOpen us67 ((named_rule >>= λ first. (second_parameter >>= λ other. (expect signs.ParenClose >>= λ _. pure_rule ((own, first, other)))))) Q (λ k69. holds_then (named_rule (next us67)) (λ first. (second_parameter >>= λ other. (expect signs.ParenClose >>= λ _. pure_rule ((own, first, other))))) (λ (first : Named) (us70 : Tokens). IsNamed (next us67) first us70) Q (named-holds (next us67)) (λ first us70 h71. holds_then (second_parameter us70) (λ other. (expect signs.ParenClose >>= λ _. pure_rule ((own, first, other)))) (λ (other : Option Named) (us72 : Tokens). IsSecond us70 other us72) Q (second-holds us70) (λ other us72 h73. holds_expect signs.ParenClose us72 (pure_rule ((own, first, other))) Q (λ k74. g.head k h68 k69 h71 h73 k74))))))

abbrev IsBody : Tokens → List Statement → Type 0
IsBody ts x = (vs ws xs : Tokens) × Takes (kinds.Sign signs.BraceOpen) ts vs × AreStatements false vs x ws × IsTail ws xs × (kind xs ≡ kinds.End)

tail_by : (b : Bool) (us : Tokens) → (b ≡ true → Takes (kinds.Sign signs.Semicolon) us (next us)) → IsTail us (cond b (next us) us)
tail_by true us k = g.semicolon (k refl)
tail_by false us k = g.no_semicolon

is_tail : (us : Tokens) → IsTail us (after signs.Semicolon us)
unfolding after
is_tail us = tail_by (sees signs.Semicolon us) us (λ h. sees-takes signs.Semicolon us h)

only-is : (r : Outcome Program) (P : Program → Type 0) → Holds r (λ x us. P x) → (p : Program) → whole_program r ≡ Ok p → P p
only-is (Ok q) P h p is = let same : q.0 ≡ p = cc in subst P same h
only-is (Err e) P h p is = absurd cc

body-holds : (ts : Tokens) → Holds (function_body ts) (λ x us. IsBody ts x)
unfolding function_body
body-holds ts =
    let Q : List Statement → Tokens → Type 0 = λ x us. IsBody ts x in
    let rest : List Statement → Rule (List Statement) = λ found. (end >>= λ _. pure_rule found) in
    holds_expect signs.BraceOpen ts (block_in body_room false >>= λ found. (eat signs.Semicolon >>= λ _. rest found)) Q
    (λ k. holds_then (block_in body_room false (next ts)) (λ found. (eat signs.Semicolon >>= λ _. rest found)) (λ x us. AreStatements false (next ts) x us) Q (block-holds body_room (statement body_room) (statement-holds body_room) false (next ts))
    (λ x us h. holds_then (end (after signs.Semicolon us)) (λ _. pure_rule x) (λ _ vs. (kind (after signs.Semicolon us) ≡ kinds.End)) Q (end-holds (after signs.Semicolon us))
    (λ _ vs e. (next ts, us, after signs.Semicolon us, k, h, is_tail us, e))))

program-holds : (ts : Tokens) → Holds (program ts) (λ x us. IsProgram ts x)
unfolding program
program-holds ts =
    holds_then (head ts) (λ h. (here >>= λ p. (function_body >>= λ found. pure_rule (record { name = h.0; first = h.1; second = h.2; place = p; body = found })))) (λ x us. IsHead ts x.0 x.1 x.2 us) (λ x us. IsProgram ts x) (head-holds ts)
    (λ x us h. holds_then (function_body us) (λ found. pure_rule (record { name = x.0; first = x.1; second = x.2; place = place us; body = found })) (λ y vs. IsBody us y) (λ y vs. IsProgram ts y) (body-holds us)
    (λ y vs b. g.program h b.3 b.4 b.5 b.6))

program-is : (ts : Tokens) (p : Program) → whole_program (program ts) ≡ Ok p → IsProgram ts p
program-is ts p is = only-is (program ts) (λ x. IsProgram ts x) (program-holds ts) p is

-- a program that was read is one
pub given-is : (ts : Tokens) (r : Result Program ParseFault) → GivesParsed (whole_program (program ts)) r → IfOk r (λ p. IsProgram ts p)
given-is ts (Ok p) is = program-is ts p is
given-is ts (Err e) is = tt

short-is : (b : Bool) (text : List ℕ) (e : ParseFault) (p : Program) → cond b (Err e) (whole_program (program (tokens_of text))) ≡ Ok p → IsProgram (tokens_of text) p
short-is true text e p is = absurd cc
short-is false text e p is = program-is (tokens_of text) p is

-- what a text is read as
pub read-is : ReadIsProgram
unfolding parsed
read-is text p is = short-is (nat_lt max_len (length text)) text _ p is
