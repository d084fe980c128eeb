-- What stands before a fault in an expression begins one.
use Rattle.std.proofs.Common.{◌≡◌, ℕ, zero, suc, Bool, true, false, cond, if◌then◌else◌, List, [], ◌∷◌, ◌++◌, Option, Some, None, Ok, Err, refl, sym, subst, ap, ◌∙◌}
use Rattle.std.specs.Prelude.{◌==◌}
use Rattle.sync_tokens.specs.Spellable.{IsLast, AreTokens}
use Rattle.sync_tokens.specs.declared.place.Place.{Place}
use Rattle.sync_tokens.specs.declared.token.Kind.{Kind}
use Rattle.sync_tokens.specs.declared.token.Kind.TheVariants as kinds
use Rattle.sync_tokens.specs.declared.token.Sign.{Sign}
use Rattle.sync_tokens.specs.declared.token.Sign.TheVariants as signs
use Rattle.sync_tokens.specs.declared.token.Token.{Token}
use Rattle.sync_tokens.specs.declared.token.Word.{Word}
use Rattle.sync_tokens.specs.declared.token.Word.TheVariants as words
use Rattle.sync_syntax.specs.declared.tree.Operator.{Operator}
use Rattle.sync_syntax.specs.declared.tree.Prefix.{Prefix}
use Rattle.sync_syntax.specs.declared.tree.Expr.{Expr}
use Rattle.sync_syntax.specs.declared.tree.Expr.TheVariants as e
use Rattle.sync_syntax.specs.declared.tree.Suffix.{Suffix}
use Rattle.sync_syntax.specs.declared.tree.Suffix.TheVariants as suffixes
use Rattle.sync_syntax.specs.Reading.{Tokens, Outcome, Rule, read_then, ◌>>=◌, pure_rule, take, kind, next, place, sees, is_sign, eat, expect, name_rule, turns, too_deep, separated, separated_from}
use Rattle.sync_syntax.specs.Operators.{operator, operator_at, prefix_by}
use Rattle.sync_syntax.specs.Expressions.{key_by, key, expr_by_word, followed, chained, begins_suffix, list_rule, member_rule, members_rule, bracketed, primary_by, primary, suffix_rule, suffixes_from, all_suffixes, postfix_rule, prefixed_rule, unary_by, unary, tail_by, tails_from, tails, chain_rule, choice_rule, expr_or_operand, nested, separated_in, some_members}
use Rattle.sync_syntax.specs.Grammar as g
use Rattle.sync_syntax.specs.Grammar.{Takes, IsKey, IsExpr, IsChain, AreTails, IsUnary, AreSuffixes, IsSuffix, AreListed, AreExprs, AreFields, AreMembers, IsMember, IsPrimary}
use Rattle.sync_syntax.proofs.Begun.{Front, Found, Spells, Always, Filled, Grows, then_grows, map_grows, madeof, good_token, One, one_token, one_made, pure_grows, token_grows, refuse_grows, deep_grows, behind_grows, see_grows, eat_grows, expect_grows, IsName, a_name, a_kind, name_grows}

-- ---- what is shortest

-- a primary is an expression at each level
as_unary : (d : Front) → Spells IsPrimary Always d → Spells IsUnary Always d
as_unary d h = record { any = λ ts f c. record { tree = _; is = g.postfix (h.any ts f c).is g.no_suffix }; full = h.full }

as_chain : (n : ℕ) (d : Front) → Spells IsUnary Always d → Spells (IsChain n) Always d
as_chain zero d h = record { any = λ ts f c. record { tree = _; is = g.operand (h.any ts f c).is }; full = h.full }
as_chain (suc n) d h = let i : Spells (IsChain n) Always d = as_chain n d h in record { any = λ ts f c. record { tree = _; is = g.chain (i.any ts f c).is g.no_tail }; full = h.full }

as_expr : (d : Front) → Spells (IsChain 6) Always d → Spells IsExpr Always d
as_expr d h = record { any = λ ts f c. record { tree = _; is = g.no_choice (h.any ts f c).is }; full = h.full }

abbrev null_front : Front
null_front = λ w. madeof (kinds.Word words.Null) ∷ w

null_primary : Spells IsPrimary Always null_front
null_primary = let o : One (kinds.Word words.Null) null_front = one_made (kinds.Word words.Null) in record { any = λ ts f c. record { tree = _; is = g.null (o.any ts f c).is }; full = o.full }

pub null_expr : Spells IsExpr Always null_front
null_expr = as_expr null_front (as_chain 6 null_front (as_unary null_front null_primary))

null_exprs : Spells AreExprs Always null_front
null_exprs = record { any = λ ts f c. record { tree = _; is = g.one_expr (null_expr.any ts f c).is }; full = null_expr.full }

none_list : (close : Sign) → Spells (AreListed close) Always (λ w. madeof (kinds.Sign close) ∷ w)
none_list close = let o : One (kinds.Sign close) (λ w. madeof (kinds.Sign close) ∷ w) = one_made (kinds.Sign close) in record { any = λ ts f c. record { tree = _; is = g.none_listed (o.any ts f c).is }; full = o.full }

-- ---- keys

abbrev Key : Front → Type 0
Key = Spells IsKey Always

name_key : (t : Token) (n : List ℕ) → t.kind ≡ kinds.Name n → Key (λ w. t ∷ w)
name_key t n is = let o : One (kinds.Name n) (λ w. t ∷ w) = one_token t (kinds.Name n) is in record { any = λ ts f c. record { tree = n; is = g.name_key (o.any ts f c).is }; full = o.full }

text_key : (t : Token) (n : List ℕ) → t.kind ≡ kinds.Text n → Key (λ w. t ∷ w)
text_key t n is = let o : One (kinds.Text n) (λ w. t ∷ w) = one_token t (kinds.Text n) is in record { any = λ ts f c. record { tree = n; is = g.text_key (o.any ts f c).is }; full = o.full }

key_by_grows : (k : Kind) (ts : Tokens) → kind ts ≡ k → AreTokens ts → Grows (λ _ _ d. Key d) Key (key_by k ts) ts
key_by_grows (kinds.Name n) ts is a = token_grows (λ _ _ d. Key d) Key n ts (λ l. subst IsLast is l) a (λ t x. name_key t n (x ∙ is))
key_by_grows (kinds.Text n) ts is a = token_grows (λ _ _ d. Key d) Key n ts (λ l. subst IsLast is l) a (λ t x. text_key t n (x ∙ is))
key_by_grows _ ts is a = refuse_grows {A = List ℕ} (λ _ _ d. Key d) Key ts a (record { more = λ w. madeof a_kind ∷ w; good = good_token a_kind a_name; is = name_key (madeof a_kind) (97 ∷ []) refl })

key_grows : (ts : Tokens) → AreTokens ts → Grows (λ _ _ d. Key d) Key (key ts) ts
unfolding key
key_grows ts a = key_by_grows (kind ts) ts refl a

-- ---- with commas between

module _ {A : Type 0} (item : Rule A) (I : Tokens → A → Tokens → Type 0) (L : Tokens → List A → Tokens → Type 0) (hi : (ts : Tokens) → AreTokens ts → Grows (λ _ _ d. Spells I Always d) (Spells I Always) (item ts) ts)
    (one : (ts us : Tokens) (x : A) → I ts x us → L ts (x ∷ []) us) (more : (ts us vs ws : Tokens) (x : A) (xs : List A) → I ts x us → Takes (kinds.Sign signs.Comma) us vs → L vs xs ws → L ts (x ∷ xs) ws)
    (first : Filled (Spells I Always) (λ w. w)) where
  abbrev Listed : Front → Type 0
  Listed = Spells L Always

  one_spells : (d : Front) → Spells I Always d → Listed d
  one_spells d h = record { any = λ ts f c. record { tree = _; is = one _ _ _ (h.any ts f c).is }; full = h.full }

  more_spells : (d : Front) (t : Token) (c : Front) → Spells I Always d → t.kind ≡ kinds.Sign signs.Comma → Listed c → Listed (λ w. d (t ∷ c w))
  more_spells d t c h is i =
      let o : One (kinds.Sign signs.Comma) (λ w. t ∷ w) = one_token t (kinds.Sign signs.Comma) is in
      record {
        any = λ ts f z. record { tree = _; is = more _ _ _ _ _ _ (h.any (t ∷ c ts) tt tt).is (o.any (c ts) (i.full ts f) tt).is (i.any ts f z).is };
        full = λ ts f. h.full (t ∷ c ts) tt;
      }

  pub from_grows : (count : ℕ) (found : List A) (ts : Tokens) → AreTokens ts → Grows (λ _ _ d. Listed d) Listed (separated_from item count found ts) ts
  unfolding separated_from
  from_grows zero found ts a = refuse_grows {A = List A} (λ _ _ d. Listed d) Listed ts a (record { more = first.more; good = first.good; is = one_spells first.more first.is })
  from_grows (suc count) found ts a =
      then_grows (λ _ _ c. Spells I Always c) (Spells I Always) (λ _ _ d. Listed d) Listed (item ts) (λ x. (eat signs.Comma >>= λ b. if b then separated_from item count (found ++ x ∷ []) else pure_rule (found ++ x ∷ []))) ts (hi ts a)
      (λ x us d b h. eat_grows (λ _ _ c. Listed (λ w. d (c w))) (λ c. Listed (λ w. d (c w))) signs.Comma (separated_from item count (found ++ x ∷ [])) (pure_rule (found ++ x ∷ [])) us b
      (λ t is z. map_grows (λ _ _ c. Listed c) (λ _ _ c. Listed (λ w. d (t ∷ c w))) Listed (λ c. Listed (λ w. d (t ∷ c w))) (separated_from item count (found ++ x ∷ []) (next us)) (next us)
      (from_grows count (found ++ x ∷ []) (next us) z) (λ _ _ c i. more_spells d t c h is i) (λ c i. more_spells d t c h is i))
      (λ _. pure_grows (λ _ _ c. Listed (λ w. d (c w))) (λ c. Listed (λ w. d (c w))) (found ++ x ∷ []) us b (one_spells d h)))
      (λ d h. record { more = λ w. w; good = λ w z. z; is = one_spells d h })

  pub separated_grows : (ts : Tokens) → AreTokens ts → Grows (λ _ _ d. Listed d) Listed (separated item ts) ts
  unfolding separated
  separated_grows ts a = from_grows (turns ts) [] ts a

-- ---- expressions

module _ (n : Bool → Rule Expr) (inner : (ts : Tokens) → AreTokens ts → Grows (λ _ _ d. Spells IsExpr Always d) (Spells IsExpr Always) (n false ts) ts) where
  exprs_grow : (ts : Tokens) → AreTokens ts → Grows (λ _ _ d. Spells AreExprs Always d) (Spells AreExprs Always) (separated_in n ts) ts
  exprs_grow ts a = separated_grows (n false) IsExpr AreExprs inner (λ _ _ _ x. g.one_expr x) (λ _ _ _ _ _ _ x k xs. g.more_exprs x k xs) (record { more = null_front; good = good_token (kinds.Word words.Null) tt; is = null_expr }) ts a

  list_grows : (close : Sign) (ts : Tokens) → AreTokens ts → Grows (λ _ _ d. Spells (AreListed close) Always d) (Spells (AreListed close) Always) (list_rule n close ts) ts
  unfolding list_rule
  list_grows close ts a = eat_grows (λ _ _ c. Spells (AreListed close) Always (λ w. (c w))) (λ c. Spells (AreListed close) Always (λ w. (c w))) (close) (pure_rule ([])) ((separated_in n >>= λ found. (expect close >>= λ _. pure_rule (found)))) ts a (λ t1 e1 b1. pure_grows (λ _ _ c. Spells (AreListed close) Always (λ w. (t1 ∷ (c w)))) (λ c. Spells (AreListed close) Always (λ w. (t1 ∷ (c w)))) ([]) (next ts) b1 (record { any = λ ws f c. record { tree = _; is = g.none_listed (((one_token t1 (kinds.Sign (close)) e1).any ws f tt).is) }; full = λ ws f. ((one_token t1 (kinds.Sign (close)) e1).full ws f) })) (λ _. then_grows (λ _ _ c. Spells AreExprs Always c) (Spells AreExprs Always) (λ _ _ c. Spells (AreListed close) Always (λ w. (c w))) (λ c. Spells (AreListed close) Always (λ w. (c w))) ((separated_in n) ts) (λ found. (expect close >>= λ _. pure_rule (found))) ts (exprs_grow ts a) (λ found us2 d2 b2 h2. then_grows (λ _ _ c. One (kinds.Sign (close)) c) (One (kinds.Sign (close))) (λ _ _ c. Spells (AreListed close) Always (λ w. (d2 (c w)))) (λ c. Spells (AreListed close) Always (λ w. (d2 (c w)))) ((expect close) us2) (λ _. pure_rule (found)) us2 (expect_grows (close) us2 b2) (λ _ us3 d3 b3 h3. pure_grows (λ _ _ c. Spells (AreListed close) Always (λ w. (d2 (d3 (c w))))) (λ c. Spells (AreListed close) Always (λ w. (d2 (d3 (c w))))) (found) us3 b3 (record { any = λ ws f c. record { tree = _; is = g.some_listed ((h2.any (d3 ws) (h3.full ws f) tt).is) ((h3.any ws f tt).is) }; full = λ ws f. (h2.full (d3 ws) (h3.full ws f)) })) (λ d3 h3. record { more = λ w. w; good = λ w z. z; is = record { any = λ ws f c. record { tree = _; is = g.some_listed ((h2.any (d3 ws) (h3.full ws f) tt).is) ((h3.any ws f tt).is) }; full = λ ws f. (h2.full (d3 ws) (h3.full ws f)) } })) (λ d2 h2. record { more = λ w. (madeof (kinds.Sign (close)) ∷ w); good = λ w z. (good_token (kinds.Sign (close)) tt w z); is = record { any = λ ws f c. record { tree = _; is = g.some_listed ((h2.any (madeof (kinds.Sign (close)) ∷ ws) ((one_made (kinds.Sign (close))).full ws f) tt).is) (((one_made (kinds.Sign (close))).any ws f tt).is) }; full = λ ws f. (h2.full (madeof (kinds.Sign (close)) ∷ ws) ((one_made (kinds.Sign (close))).full ws f)) } }))

  member_grows : (ts : Tokens) → AreTokens ts → Grows (λ _ _ d. Spells IsMember Always d) (Spells IsMember Always) (member_rule n ts) ts
  unfolding member_rule
  member_grows ts a = then_grows (λ _ _ c. Spells IsKey Always c) (Spells IsKey Always) (λ _ _ c. Spells IsMember Always (λ w. (c w))) (λ c. Spells IsMember Always (λ w. (c w))) ((key) ts) (λ k. (expect signs.Colon >>= λ _. (n false >>= λ value. pure_rule ((k, value))))) ts (key_grows ts a) (λ k us4 d4 b4 h4. then_grows (λ _ _ c. One (kinds.Sign (signs.Colon)) c) (One (kinds.Sign (signs.Colon))) (λ _ _ c. Spells IsMember Always (λ w. (d4 (c w)))) (λ c. Spells IsMember Always (λ w. (d4 (c w)))) ((expect signs.Colon) us4) (λ _. (n false >>= λ value. pure_rule ((k, value)))) us4 (expect_grows (signs.Colon) us4 b4) (λ _ us5 d5 b5 h5. then_grows (λ _ _ c. Spells IsExpr Always c) (Spells IsExpr Always) (λ _ _ c. Spells IsMember Always (λ w. (d4 (d5 (c w))))) (λ c. Spells IsMember Always (λ w. (d4 (d5 (c w))))) ((n false) us5) (λ value. pure_rule ((k, value))) us5 (inner us5 b5) (λ value us6 d6 b6 h6. pure_grows (λ _ _ c. Spells IsMember Always (λ w. (d4 (d5 (d6 (c w)))))) (λ c. Spells IsMember Always (λ w. (d4 (d5 (d6 (c w)))))) ((k, value)) us6 b6 (record { any = λ ws f c. record { tree = _; is = g.member ((h4.any (d5 (d6 ws)) (h5.full (d6 ws) (h6.full ws f)) tt).is) ((h5.any (d6 ws) (h6.full ws f) tt).is) ((h6.any ws f tt).is) }; full = λ ws f. (h4.full (d5 (d6 ws)) (h5.full (d6 ws) (h6.full ws f))) })) (λ d6 h6. record { more = λ w. w; good = λ w z. z; is = record { any = λ ws f c. record { tree = _; is = g.member ((h4.any (d5 (d6 ws)) (h5.full (d6 ws) (h6.full ws f)) tt).is) ((h5.any (d6 ws) (h6.full ws f) tt).is) ((h6.any ws f tt).is) }; full = λ ws f. (h4.full (d5 (d6 ws)) (h5.full (d6 ws) (h6.full ws f))) } })) (λ d5 h5. record { more = λ w. (madeof (kinds.Word words.Null) ∷ w); good = λ w z. (good_token (kinds.Word words.Null) tt w z); is = record { any = λ ws f c. record { tree = _; is = g.member ((h4.any (d5 (madeof (kinds.Word words.Null) ∷ ws)) (h5.full (madeof (kinds.Word words.Null) ∷ ws) (null_expr.full ws f)) tt).is) ((h5.any (madeof (kinds.Word words.Null) ∷ ws) (null_expr.full ws f) tt).is) ((null_expr.any ws f tt).is) }; full = λ ws f. (h4.full (d5 (madeof (kinds.Word words.Null) ∷ ws)) (h5.full (madeof (kinds.Word words.Null) ∷ ws) (null_expr.full ws f))) } })) (λ d4 h4. record { more = λ w. (madeof (kinds.Sign (signs.Colon)) ∷ (madeof (kinds.Word words.Null) ∷ w)); good = λ w z. (good_token (kinds.Sign (signs.Colon)) tt (madeof (kinds.Word words.Null) ∷ w) (good_token (kinds.Word words.Null) tt w z)); is = record { any = λ ws f c. record { tree = _; is = g.member ((h4.any (madeof (kinds.Sign (signs.Colon)) ∷ (madeof (kinds.Word words.Null) ∷ ws)) ((one_made (kinds.Sign (signs.Colon))).full (madeof (kinds.Word words.Null) ∷ ws) (null_expr.full ws f)) tt).is) (((one_made (kinds.Sign (signs.Colon))).any (madeof (kinds.Word words.Null) ∷ ws) (null_expr.full ws f) tt).is) ((null_expr.any ws f tt).is) }; full = λ ws f. (h4.full (madeof (kinds.Sign (signs.Colon)) ∷ (madeof (kinds.Word words.Null) ∷ ws)) ((one_made (kinds.Sign (signs.Colon))).full (madeof (kinds.Word words.Null) ∷ ws) (null_expr.full ws f))) } })

  a_member : Filled (Spells IsMember Always) (λ w. w)
  a_member = record { more = λ w. (madeof a_kind ∷ (madeof (kinds.Sign (signs.Colon)) ∷ (madeof (kinds.Word words.Null) ∷ w))); good = λ w z. (good_token a_kind a_name (madeof (kinds.Sign (signs.Colon)) ∷ (madeof (kinds.Word words.Null) ∷ w)) (good_token (kinds.Sign (signs.Colon)) tt (madeof (kinds.Word words.Null) ∷ w) (good_token (kinds.Word words.Null) tt w z))); is = record { any = λ ws f c. record { tree = _; is = g.member (((name_key (madeof a_kind) (97 ∷ []) refl).any (madeof (kinds.Sign (signs.Colon)) ∷ (madeof (kinds.Word words.Null) ∷ ws)) ((one_made (kinds.Sign (signs.Colon))).full (madeof (kinds.Word words.Null) ∷ ws) (null_expr.full ws f)) tt).is) (((one_made (kinds.Sign (signs.Colon))).any (madeof (kinds.Word words.Null) ∷ ws) (null_expr.full ws f) tt).is) ((null_expr.any ws f tt).is) }; full = λ ws f. ((name_key (madeof a_kind) (97 ∷ []) refl).full (madeof (kinds.Sign (signs.Colon)) ∷ (madeof (kinds.Word words.Null) ∷ ws)) ((one_made (kinds.Sign (signs.Colon))).full (madeof (kinds.Word words.Null) ∷ ws) (null_expr.full ws f))) } }

  some_members_grow : (ts : Tokens) → AreTokens ts → Grows (λ _ _ d. Spells AreMembers Always d) (Spells AreMembers Always) (some_members n ts) ts
  some_members_grow ts a = separated_grows (member_rule n) IsMember AreMembers member_grows (λ _ _ _ x. g.one_member x) (λ _ _ _ _ _ _ x k xs. g.more_members x k xs) a_member ts a

  members_grow : (ts : Tokens) → AreTokens ts → Grows (λ _ _ d. Spells AreFields Always d) (Spells AreFields Always) (members_rule n ts) ts
  unfolding members_rule
  members_grow ts a = eat_grows (λ _ _ c. Spells AreFields Always (λ w. (c w))) (λ c. Spells AreFields Always (λ w. (c w))) (signs.BraceClose) (pure_rule ([])) ((some_members n >>= λ found. (expect signs.BraceClose >>= λ _. pure_rule (found)))) ts a (λ t7 e7 b7. pure_grows (λ _ _ c. Spells AreFields Always (λ w. (t7 ∷ (c w)))) (λ c. Spells AreFields Always (λ w. (t7 ∷ (c w)))) ([]) (next ts) b7 (record { any = λ ws f c. record { tree = _; is = g.no_fields (((one_token t7 (kinds.Sign (signs.BraceClose)) e7).any ws f tt).is) }; full = λ ws f. ((one_token t7 (kinds.Sign (signs.BraceClose)) e7).full ws f) })) (λ _. then_grows (λ _ _ c. Spells AreMembers Always c) (Spells AreMembers Always) (λ _ _ c. Spells AreFields Always (λ w. (c w))) (λ c. Spells AreFields Always (λ w. (c w))) ((some_members n) ts) (λ found. (expect signs.BraceClose >>= λ _. pure_rule (found))) ts (some_members_grow ts a) (λ found us8 d8 b8 h8. then_grows (λ _ _ c. One (kinds.Sign (signs.BraceClose)) c) (One (kinds.Sign (signs.BraceClose))) (λ _ _ c. Spells AreFields Always (λ w. (d8 (c w)))) (λ c. Spells AreFields Always (λ w. (d8 (c w)))) ((expect signs.BraceClose) us8) (λ _. pure_rule (found)) us8 (expect_grows (signs.BraceClose) us8 b8) (λ _ us9 d9 b9 h9. pure_grows (λ _ _ c. Spells AreFields Always (λ w. (d8 (d9 (c w))))) (λ c. Spells AreFields Always (λ w. (d8 (d9 (c w))))) (found) us9 b9 (record { any = λ ws f c. record { tree = _; is = g.some_fields ((h8.any (d9 ws) (h9.full ws f) tt).is) ((h9.any ws f tt).is) }; full = λ ws f. (h8.full (d9 ws) (h9.full ws f)) })) (λ d9 h9. record { more = λ w. w; good = λ w z. z; is = record { any = λ ws f c. record { tree = _; is = g.some_fields ((h8.any (d9 ws) (h9.full ws f) tt).is) ((h9.any ws f tt).is) }; full = λ ws f. (h8.full (d9 ws) (h9.full ws f)) } })) (λ d8 h8. record { more = λ w. (madeof (kinds.Sign (signs.BraceClose)) ∷ w); good = λ w z. (good_token (kinds.Sign (signs.BraceClose)) tt w z); is = record { any = λ ws f c. record { tree = _; is = g.some_fields ((h8.any (madeof (kinds.Sign (signs.BraceClose)) ∷ ws) ((one_made (kinds.Sign (signs.BraceClose))).full ws f) tt).is) (((one_made (kinds.Sign (signs.BraceClose))).any ws f tt).is) }; full = λ ws f. (h8.full (madeof (kinds.Sign (signs.BraceClose)) ∷ ws) ((one_made (kinds.Sign (signs.BraceClose))).full ws f)) } }))

  suffix_grows : (ts : Tokens) → AreTokens ts → Grows (λ _ _ d. Spells IsSuffix Always d) (Spells IsSuffix Always) (suffix_rule n ts) ts
  unfolding suffix_rule
  suffix_grows ts a = eat_grows (λ _ _ c. Spells IsSuffix Always (λ w. (c w))) (λ c. Spells IsSuffix Always (λ w. (c w))) (signs.Dot) ((name_rule >>= λ x. pure_rule (suffixes.Member x))) ((eat signs.BracketOpen >>= λ b. if b then (n false >>= λ at. (expect signs.BracketClose >>= λ _. pure_rule (suffixes.Index at))) else (expect signs.ParenOpen >>= λ _. (list_rule n signs.ParenClose >>= λ found. pure_rule (suffixes.Call found))))) ts a (λ t10 e10 b10. then_grows (λ _ _ c. Spells IsName Always c) (Spells IsName Always) (λ _ _ c. Spells IsSuffix Always (λ w. (t10 ∷ (c w)))) (λ c. Spells IsSuffix Always (λ w. (t10 ∷ (c w)))) ((name_rule) (next ts)) (λ x. pure_rule (suffixes.Member x)) (next ts) (name_grows (next ts) b10) (λ x us11 d11 b11 h11. pure_grows (λ _ _ c. Spells IsSuffix Always (λ w. (t10 ∷ (d11 (c w))))) (λ c. Spells IsSuffix Always (λ w. (t10 ∷ (d11 (c w))))) (suffixes.Member x) us11 b11 (record { any = λ ws f c. record { tree = _; is = g.member_suffix (((one_token t10 (kinds.Sign (signs.Dot)) e10).any (d11 ws) (h11.full ws f) tt).is) ((h11.any ws f tt).is) }; full = λ ws f. ((one_token t10 (kinds.Sign (signs.Dot)) e10).full (d11 ws) (h11.full ws f)) })) (λ d11 h11. record { more = λ w. w; good = λ w z. z; is = record { any = λ ws f c. record { tree = _; is = g.member_suffix (((one_token t10 (kinds.Sign (signs.Dot)) e10).any (d11 ws) (h11.full ws f) tt).is) ((h11.any ws f tt).is) }; full = λ ws f. ((one_token t10 (kinds.Sign (signs.Dot)) e10).full (d11 ws) (h11.full ws f)) } })) (λ _. eat_grows (λ _ _ c. Spells IsSuffix Always (λ w. (c w))) (λ c. Spells IsSuffix Always (λ w. (c w))) (signs.BracketOpen) ((n false >>= λ at. (expect signs.BracketClose >>= λ _. pure_rule (suffixes.Index at)))) ((expect signs.ParenOpen >>= λ _. (list_rule n signs.ParenClose >>= λ found. pure_rule (suffixes.Call found)))) ts a (λ t12 e12 b12. then_grows (λ _ _ c. Spells IsExpr Always c) (Spells IsExpr Always) (λ _ _ c. Spells IsSuffix Always (λ w. (t12 ∷ (c w)))) (λ c. Spells IsSuffix Always (λ w. (t12 ∷ (c w)))) ((n false) (next ts)) (λ at. (expect signs.BracketClose >>= λ _. pure_rule (suffixes.Index at))) (next ts) (inner (next ts) b12) (λ at us13 d13 b13 h13. then_grows (λ _ _ c. One (kinds.Sign (signs.BracketClose)) c) (One (kinds.Sign (signs.BracketClose))) (λ _ _ c. Spells IsSuffix Always (λ w. (t12 ∷ (d13 (c w))))) (λ c. Spells IsSuffix Always (λ w. (t12 ∷ (d13 (c w))))) ((expect signs.BracketClose) us13) (λ _. pure_rule (suffixes.Index at)) us13 (expect_grows (signs.BracketClose) us13 b13) (λ _ us14 d14 b14 h14. pure_grows (λ _ _ c. Spells IsSuffix Always (λ w. (t12 ∷ (d13 (d14 (c w)))))) (λ c. Spells IsSuffix Always (λ w. (t12 ∷ (d13 (d14 (c w)))))) (suffixes.Index at) us14 b14 (record { any = λ ws f c. record { tree = _; is = g.index_suffix (((one_token t12 (kinds.Sign (signs.BracketOpen)) e12).any (d13 (d14 ws)) (h13.full (d14 ws) (h14.full ws f)) tt).is) ((h13.any (d14 ws) (h14.full ws f) tt).is) ((h14.any ws f tt).is) }; full = λ ws f. ((one_token t12 (kinds.Sign (signs.BracketOpen)) e12).full (d13 (d14 ws)) (h13.full (d14 ws) (h14.full ws f))) })) (λ d14 h14. record { more = λ w. w; good = λ w z. z; is = record { any = λ ws f c. record { tree = _; is = g.index_suffix (((one_token t12 (kinds.Sign (signs.BracketOpen)) e12).any (d13 (d14 ws)) (h13.full (d14 ws) (h14.full ws f)) tt).is) ((h13.any (d14 ws) (h14.full ws f) tt).is) ((h14.any ws f tt).is) }; full = λ ws f. ((one_token t12 (kinds.Sign (signs.BracketOpen)) e12).full (d13 (d14 ws)) (h13.full (d14 ws) (h14.full ws f))) } })) (λ d13 h13. record { more = λ w. (madeof (kinds.Sign (signs.BracketClose)) ∷ w); good = λ w z. (good_token (kinds.Sign (signs.BracketClose)) tt w z); is = record { any = λ ws f c. record { tree = _; is = g.index_suffix (((one_token t12 (kinds.Sign (signs.BracketOpen)) e12).any (d13 (madeof (kinds.Sign (signs.BracketClose)) ∷ ws)) (h13.full (madeof (kinds.Sign (signs.BracketClose)) ∷ ws) ((one_made (kinds.Sign (signs.BracketClose))).full ws f)) tt).is) ((h13.any (madeof (kinds.Sign (signs.BracketClose)) ∷ ws) ((one_made (kinds.Sign (signs.BracketClose))).full ws f) tt).is) (((one_made (kinds.Sign (signs.BracketClose))).any ws f tt).is) }; full = λ ws f. ((one_token t12 (kinds.Sign (signs.BracketOpen)) e12).full (d13 (madeof (kinds.Sign (signs.BracketClose)) ∷ ws)) (h13.full (madeof (kinds.Sign (signs.BracketClose)) ∷ ws) ((one_made (kinds.Sign (signs.BracketClose))).full ws f))) } })) (λ _. then_grows (λ _ _ c. One (kinds.Sign (signs.ParenOpen)) c) (One (kinds.Sign (signs.ParenOpen))) (λ _ _ c. Spells IsSuffix Always (λ w. (c w))) (λ c. Spells IsSuffix Always (λ w. (c w))) ((expect signs.ParenOpen) ts) (λ _. (list_rule n signs.ParenClose >>= λ found. pure_rule (suffixes.Call found))) ts (expect_grows (signs.ParenOpen) ts a) (λ _ us15 d15 b15 h15. then_grows (λ _ _ c. Spells (AreListed signs.ParenClose) Always c) (Spells (AreListed signs.ParenClose) Always) (λ _ _ c. Spells IsSuffix Always (λ w. (d15 (c w)))) (λ c. Spells IsSuffix Always (λ w. (d15 (c w)))) ((list_rule n signs.ParenClose) us15) (λ found. pure_rule (suffixes.Call found)) us15 (list_grows signs.ParenClose us15 b15) (λ found us16 d16 b16 h16. pure_grows (λ _ _ c. Spells IsSuffix Always (λ w. (d15 (d16 (c w))))) (λ c. Spells IsSuffix Always (λ w. (d15 (d16 (c w))))) (suffixes.Call found) us16 b16 (record { any = λ ws f c. record { tree = _; is = g.call_suffix ((h15.any (d16 ws) (h16.full ws f) tt).is) ((h16.any ws f tt).is) }; full = λ ws f. (h15.full (d16 ws) (h16.full ws f)) })) (λ d16 h16. record { more = λ w. w; good = λ w z. z; is = record { any = λ ws f c. record { tree = _; is = g.call_suffix ((h15.any (d16 ws) (h16.full ws f) tt).is) ((h16.any ws f tt).is) }; full = λ ws f. (h15.full (d16 ws) (h16.full ws f)) } })) (λ d15 h15. record { more = λ w. (madeof (kinds.Sign (signs.ParenClose)) ∷ w); good = λ w z. (good_token (kinds.Sign (signs.ParenClose)) tt w z); is = record { any = λ ws f c. record { tree = _; is = g.call_suffix ((h15.any (madeof (kinds.Sign (signs.ParenClose)) ∷ ws) ((none_list signs.ParenClose).full ws f) tt).is) (((none_list signs.ParenClose).any ws f tt).is) }; full = λ ws f. (h15.full (madeof (kinds.Sign (signs.ParenClose)) ∷ ws) ((none_list signs.ParenClose).full ws f)) } })))

-- ---- what begins with a brace only where the tokens do

pub record Starts {A : Type 0} (G : Tokens → A → Tokens → Type 0) (ts : Tokens) (d : Front) : Type 0 where
  pub spells : Spells G Always d
  pub bare : (w : Tokens) → sees signs.BraceOpen (d w) ≡ true → sees signs.BraceOpen ts ≡ true

token_bare : (t : Token) (ts : Tokens) → t.kind ≡ kind ts → (w : Tokens) → sees signs.BraceOpen (t ∷ w) ≡ true → sees signs.BraceOpen ts ≡ true
unfolding sees kind
token_bare t [] is w h = absurd (no_end t.kind is h)
  where
    no_end : (k : Kind) → k ≡ kinds.End → is_sign signs.BraceOpen k ≡ true → ⊥
    no_end k e h = let none : false ≡ true = ap (is_sign signs.BraceOpen) (sym e) ∙ h in absurd cc
token_bare t (u ∷ ts) is w h = ap (is_sign signs.BraceOpen) (sym is) ∙ h

null_bare : (ts w : Tokens) → sees signs.BraceOpen (null_front w) ≡ true → sees signs.BraceOpen ts ≡ true
unfolding sees kind
null_bare ts w h = absurd cc

pub then_starts : {A B : Type 0} (G1 : Tokens → A → Tokens → Type 0) (G2 : Tokens → B → Tokens → Type 0) (r : Outcome A) (f : A → Rule B) (ts : Tokens) → Grows (λ _ _ d. Starts G1 ts d) (Starts G1 ts) r ts
    → ((x : A) (us : Tokens) (d : Front) → AreTokens us → Spells G1 Always d → Grows (λ _ _ c. Spells G2 Always (λ w. d (c w))) (λ c. Spells G2 Always (λ w. d (c w))) (f x us) us)
    → ((d : Front) → Spells G1 Always d → Filled (Spells G2 Always) d) → Grows (λ _ _ c. Starts G2 ts c) (Starts G2 ts) (read_then r f) ts
then_starts {A} {B} G1 G2 r f ts h k fill =
    then_grows (λ _ _ d. Starts G1 ts d) (Starts G1 ts) (λ _ _ c. Starts G2 ts c) (Starts G2 ts) r f ts h
    (λ x us d a s. map_grows (λ _ _ c. Spells G2 Always (λ w. d (c w))) (λ _ _ c. Starts G2 ts (λ w. d (c w))) (λ c. Spells G2 Always (λ w. d (c w))) (λ c. Starts G2 ts (λ w. d (c w))) (f x us) us (k x us d a s.spells)
    (λ _ _ c i. record { spells = i; bare = λ w e. s.bare (c w) e }) (λ c i. record { spells = i; bare = λ w e. s.bare (c w) e }))
    (λ d s. (let c : Filled (Spells G2 Always) d = fill d s.spells in record { more = c.more; good = c.good; is = record { spells = c.is; bare = λ w e. s.bare (c.more w) e } }))

pub behind_starts : {A : Type 0} (G : Tokens → A → Tokens → Type 0) (ts : Tokens) (k : Kind) → kind ts ≡ k → (IsLast k → ⊥) → AreTokens ts → (q : Outcome A)
    → ((t : Token) → t.kind ≡ k → AreTokens (next ts) → Grows (λ _ _ d. Spells G Always (λ w. t ∷ d w)) (λ d. Spells G Always (λ w. t ∷ d w)) q (next ts)) → Grows (λ _ _ d. Starts G ts d) (Starts G ts) q ts
behind_starts G ts k is other a q h =
    behind_grows (λ _ _ d. Starts G ts d) (Starts G ts) ts k is other a q
    (λ t e b. map_grows (λ _ _ d. Spells G Always (λ w. t ∷ d w)) (λ _ _ d. Starts G ts (λ w. t ∷ d w)) (λ d. Spells G Always (λ w. t ∷ d w)) (λ d. Starts G ts (λ w. t ∷ d w)) q (next ts) (h t e b)
    (λ _ _ d i. record { spells = i; bare = λ w x. token_bare t ts (e ∙ sym is) (d w) x }) (λ d i. record { spells = i; bare = λ w x. token_bare t ts (e ∙ sym is) (d w) x }))

token_starts : {A : Type 0} (G : Tokens → A → Tokens → Type 0) (x : A) (ts : Tokens) → (IsLast (kind ts) → ⊥) → AreTokens ts → ((t : Token) → t.kind ≡ kind ts → Spells G Always (λ w. t ∷ w))
    → Grows (λ _ _ d. Starts G ts d) (Starts G ts) (Ok (x, next ts)) ts
token_starts G x ts other a h = token_grows (λ _ _ d. Starts G ts d) (Starts G ts) x ts other a (λ t is. record { spells = h t is; bare = λ w e. token_bare t ts is w e })

abbrev Primary : Tokens → Front → Type 0
Primary ts d = Starts IsPrimary ts d

null_filled : (ts : Tokens) → Filled (Primary ts) (λ w. w)
null_filled ts = record { more = null_front; good = good_token (kinds.Word words.Null) tt; is = record { spells = null_primary; bare = null_bare ts } }

unary_filled : (ts : Tokens) → Filled (Starts IsUnary ts) (λ w. w)
unary_filled ts = record { more = null_front; good = good_token (kinds.Word words.Null) tt; is = record { spells = as_unary null_front null_primary; bare = null_bare ts } }

expr_filled : (ts : Tokens) → Filled (Starts IsExpr ts) (λ w. w)
expr_filled ts = record { more = null_front; good = good_token (kinds.Word words.Null) tt; is = record { spells = null_expr; bare = null_bare ts } }

of_kind : (k : Kind) (x : Expr) (ts : Tokens) → kind ts ≡ k → (IsLast k → ⊥) → AreTokens ts → ((ts us : Tokens) → Takes k ts us → Found IsPrimary ts us) → Grows (λ _ _ d. Primary ts d) (Primary ts) (Ok (x, next ts)) ts
of_kind k x ts is other a h =
    token_starts IsPrimary x ts (λ l. other (subst IsLast is l)) a
    (λ t e. (let o : One k (λ w. t ∷ w) = one_token t k (e ∙ is) in record { any = λ us f c. h (t ∷ us) us (o.any us f c).is; full = o.full }))

word_by_grows : (p : Place) (w : Word) (ts : Tokens) → kind ts ≡ kinds.Word w → AreTokens ts → Grows (λ _ _ d. Primary ts d) (Primary ts) (expr_by_word p w ts) ts
word_by_grows p words.True ts is a = of_kind (kinds.Word words.True) (e.Bool p true) ts is (λ l. l) a (λ us vs k. record { tree = _; is = g.yes k })
word_by_grows p words.False ts is a = of_kind (kinds.Word words.False) (e.Bool p false) ts is (λ l. l) a (λ us vs k. record { tree = _; is = g.no k })
word_by_grows p words.Null ts is a = of_kind (kinds.Word words.Null) (e.Null p) ts is (λ l. l) a (λ us vs k. record { tree = _; is = g.null k })
word_by_grows p words.Undefined ts is a = of_kind (kinds.Word words.Undefined) (e.Undefined p) ts is (λ l. l) a (λ us vs k. record { tree = _; is = g.undefined k })
word_by_grows p _ ts is a = refuse_grows {A = Expr} (λ _ _ d. Primary ts d) (Primary ts) ts a (null_filled ts)

no_suffixes : Spells AreSuffixes Always (λ w. w)
no_suffixes = record { any = λ ts f c. record { tree = _; is = g.no_suffix }; full = λ ts f. f }

no_tails : (level : ℕ) → Spells (AreTails level) Always (λ w. w)
no_tails level = record { any = λ ts f c. record { tree = _; is = g.no_tail }; full = λ ts f. f }

some_prefix : (k : Kind) (op : Prefix) → prefix_by k ≡ Some op → IsLast k → ⊥
unfolding prefix_by
some_prefix kinds.End op is l = absurd cc
some_prefix (kinds.Bad why) op is l = absurd cc
some_prefix (kinds.Name n) op is l = l
some_prefix (kinds.Integer n) op is l = l
some_prefix (kinds.Text n) op is l = l
some_prefix (kinds.Word n) op is l = l
some_prefix (kinds.Sign n) op is l = l

operator_no_last : (level : ℕ) (k : Kind) (op : Operator) → operator_at level k ≡ Some op → IsLast k → ⊥
unfolding operator_at operator
operator_no_last level kinds.End op is l = absurd cc
operator_no_last level (kinds.Bad why) op is l = absurd cc
operator_no_last level (kinds.Name n) op is l = l
operator_no_last level (kinds.Integer n) op is l = l
operator_no_last level (kinds.Text n) op is l = l
operator_no_last level (kinds.Word n) op is l = l
operator_no_last level (kinds.Sign n) op is l = l

abbrev Tail : Type 0
Tail = Operator × Expr

module _ (n : Bool → Rule Expr) (inner_expr : (ts : Tokens) → AreTokens ts → Grows (λ _ _ d. Spells IsExpr Always d) (Spells IsExpr Always) (n false ts) ts)
    (inner_unary : (ts : Tokens) → AreTokens ts → Grows (λ _ _ d. Spells IsUnary Always d) (Spells IsUnary Always) (n true ts) ts) where
  bracketed_grows : (p : Place) (s : Sign) (ts : Tokens) → kind ts ≡ kinds.Sign s → AreTokens ts → Grows (λ _ _ d. Primary ts d) (Primary ts) (bracketed n p s ts) ts
  bracketed_grows p signs.ParenOpen ts is a = behind_starts IsPrimary ts (kinds.Sign signs.ParenOpen) is (λ l. l) a (((n false >>= λ inner. (expect signs.ParenClose >>= λ _. pure_rule (inner)))) (next ts)) (λ t17 e17 b17. then_grows (λ _ _ c. Spells IsExpr Always c) (Spells IsExpr Always) (λ _ _ c. Spells IsPrimary Always (λ w. (t17 ∷ (c w)))) (λ c. Spells IsPrimary Always (λ w. (t17 ∷ (c w)))) ((n false) (next ts)) (λ inner. (expect signs.ParenClose >>= λ _. pure_rule (inner))) (next ts) (inner_expr (next ts) b17) (λ inner us18 d18 b18 h18. then_grows (λ _ _ c. One (kinds.Sign (signs.ParenClose)) c) (One (kinds.Sign (signs.ParenClose))) (λ _ _ c. Spells IsPrimary Always (λ w. (t17 ∷ (d18 (c w))))) (λ c. Spells IsPrimary Always (λ w. (t17 ∷ (d18 (c w))))) ((expect signs.ParenClose) us18) (λ _. pure_rule (inner)) us18 (expect_grows (signs.ParenClose) us18 b18) (λ _ us19 d19 b19 h19. pure_grows (λ _ _ c. Spells IsPrimary Always (λ w. (t17 ∷ (d18 (d19 (c w)))))) (λ c. Spells IsPrimary Always (λ w. (t17 ∷ (d18 (d19 (c w)))))) (inner) us19 b19 (record { any = λ ws f c. record { tree = _; is = g.parentheses (((one_token t17 (kinds.Sign signs.ParenOpen) e17).any (d18 (d19 ws)) (h18.full (d19 ws) (h19.full ws f)) tt).is) ((h18.any (d19 ws) (h19.full ws f) tt).is) ((h19.any ws f tt).is) }; full = λ ws f. ((one_token t17 (kinds.Sign signs.ParenOpen) e17).full (d18 (d19 ws)) (h18.full (d19 ws) (h19.full ws f))) })) (λ d19 h19. record { more = λ w. w; good = λ w z. z; is = record { any = λ ws f c. record { tree = _; is = g.parentheses (((one_token t17 (kinds.Sign signs.ParenOpen) e17).any (d18 (d19 ws)) (h18.full (d19 ws) (h19.full ws f)) tt).is) ((h18.any (d19 ws) (h19.full ws f) tt).is) ((h19.any ws f tt).is) }; full = λ ws f. ((one_token t17 (kinds.Sign signs.ParenOpen) e17).full (d18 (d19 ws)) (h18.full (d19 ws) (h19.full ws f))) } })) (λ d18 h18. record { more = λ w. (madeof (kinds.Sign (signs.ParenClose)) ∷ w); good = λ w z. (good_token (kinds.Sign (signs.ParenClose)) tt w z); is = record { any = λ ws f c. record { tree = _; is = g.parentheses (((one_token t17 (kinds.Sign signs.ParenOpen) e17).any (d18 (madeof (kinds.Sign (signs.ParenClose)) ∷ ws)) (h18.full (madeof (kinds.Sign (signs.ParenClose)) ∷ ws) ((one_made (kinds.Sign (signs.ParenClose))).full ws f)) tt).is) ((h18.any (madeof (kinds.Sign (signs.ParenClose)) ∷ ws) ((one_made (kinds.Sign (signs.ParenClose))).full ws f) tt).is) (((one_made (kinds.Sign (signs.ParenClose))).any ws f tt).is) }; full = λ ws f. ((one_token t17 (kinds.Sign signs.ParenOpen) e17).full (d18 (madeof (kinds.Sign (signs.ParenClose)) ∷ ws)) (h18.full (madeof (kinds.Sign (signs.ParenClose)) ∷ ws) ((one_made (kinds.Sign (signs.ParenClose))).full ws f))) } }))
  bracketed_grows p signs.BracketOpen ts is a = behind_starts IsPrimary ts (kinds.Sign signs.BracketOpen) is (λ l. l) a (((list_rule n signs.BracketClose >>= λ found. pure_rule (e.List p found))) (next ts)) (λ t20 e20 b20. then_grows (λ _ _ c. Spells (AreListed signs.BracketClose) Always c) (Spells (AreListed signs.BracketClose) Always) (λ _ _ c. Spells IsPrimary Always (λ w. (t20 ∷ (c w)))) (λ c. Spells IsPrimary Always (λ w. (t20 ∷ (c w)))) ((list_rule n signs.BracketClose) (next ts)) (λ found. pure_rule (e.List p found)) (next ts) (list_grows n inner_expr signs.BracketClose (next ts) b20) (λ found us21 d21 b21 h21. pure_grows (λ _ _ c. Spells IsPrimary Always (λ w. (t20 ∷ (d21 (c w))))) (λ c. Spells IsPrimary Always (λ w. (t20 ∷ (d21 (c w))))) (e.List p found) us21 b21 (record { any = λ ws f c. record { tree = _; is = g.list (((one_token t20 (kinds.Sign signs.BracketOpen) e20).any (d21 ws) (h21.full ws f) tt).is) ((h21.any ws f tt).is) }; full = λ ws f. ((one_token t20 (kinds.Sign signs.BracketOpen) e20).full (d21 ws) (h21.full ws f)) })) (λ d21 h21. record { more = λ w. w; good = λ w z. z; is = record { any = λ ws f c. record { tree = _; is = g.list (((one_token t20 (kinds.Sign signs.BracketOpen) e20).any (d21 ws) (h21.full ws f) tt).is) ((h21.any ws f tt).is) }; full = λ ws f. ((one_token t20 (kinds.Sign signs.BracketOpen) e20).full (d21 ws) (h21.full ws f)) } }))
  bracketed_grows p signs.BraceOpen ts is a = behind_starts IsPrimary ts (kinds.Sign signs.BraceOpen) is (λ l. l) a (((members_rule n >>= λ found. pure_rule (e.Object p found))) (next ts)) (λ t22 e22 b22. then_grows (λ _ _ c. Spells AreFields Always c) (Spells AreFields Always) (λ _ _ c. Spells IsPrimary Always (λ w. (t22 ∷ (c w)))) (λ c. Spells IsPrimary Always (λ w. (t22 ∷ (c w)))) ((members_rule n) (next ts)) (λ found. pure_rule (e.Object p found)) (next ts) (members_grow n inner_expr (next ts) b22) (λ found us23 d23 b23 h23. pure_grows (λ _ _ c. Spells IsPrimary Always (λ w. (t22 ∷ (d23 (c w))))) (λ c. Spells IsPrimary Always (λ w. (t22 ∷ (d23 (c w))))) (e.Object p found) us23 b23 (record { any = λ ws f c. record { tree = _; is = g.object (((one_token t22 (kinds.Sign signs.BraceOpen) e22).any (d23 ws) (h23.full ws f) tt).is) ((h23.any ws f tt).is) }; full = λ ws f. ((one_token t22 (kinds.Sign signs.BraceOpen) e22).full (d23 ws) (h23.full ws f)) })) (λ d23 h23. record { more = λ w. w; good = λ w z. z; is = record { any = λ ws f c. record { tree = _; is = g.object (((one_token t22 (kinds.Sign signs.BraceOpen) e22).any (d23 ws) (h23.full ws f) tt).is) ((h23.any ws f tt).is) }; full = λ ws f. ((one_token t22 (kinds.Sign signs.BraceOpen) e22).full (d23 ws) (h23.full ws f)) } }))
  bracketed_grows p _ ts is a = refuse_grows {A = Expr} (λ _ _ d. Primary ts d) (Primary ts) ts a (null_filled ts)

  primary_by_grows : (p : Place) (k : Kind) (ts : Tokens) → kind ts ≡ k → AreTokens ts → Grows (λ _ _ d. Primary ts d) (Primary ts) (primary_by n p k ts) ts
  primary_by_grows p (kinds.Integer x) ts is a = of_kind (kinds.Integer x) (e.Integer p x) ts is (λ l. l) a (λ us vs k. record { tree = _; is = g.integer k })
  primary_by_grows p (kinds.Text x) ts is a = of_kind (kinds.Text x) (e.Text p x) ts is (λ l. l) a (λ us vs k. record { tree = _; is = g.text k })
  primary_by_grows p (kinds.Name x) ts is a = of_kind (kinds.Name x) (e.Name p x) ts is (λ l. l) a (λ us vs k. record { tree = _; is = g.name k })
  primary_by_grows p (kinds.Word w) ts is a = word_by_grows p w ts is a
  primary_by_grows p (kinds.Sign s) ts is a = bracketed_grows p s ts is a
  primary_by_grows p _ ts is a = refuse_grows {A = Expr} (λ _ _ d. Primary ts d) (Primary ts) ts a (null_filled ts)

  primary_grows : (ts : Tokens) → AreTokens ts → Grows (λ _ _ d. Primary ts d) (Primary ts) (primary n ts) ts
  unfolding primary
  primary_grows ts a = primary_by_grows (place ts) (kind ts) ts refl a

  one_more_suffix : (d c : Front) → Spells IsSuffix Always d → Spells AreSuffixes Always c → Spells AreSuffixes Always (λ w. d (c w))
  one_more_suffix d c h i = record { any = λ ts f z. record { tree = _; is = g.one_suffix (h.any (c ts) (i.full ts f) tt).is (i.any ts f z).is }; full = λ ts f. h.full (c ts) (i.full ts f) }

  suffixes_from_grow : (count : ℕ) (found : List Suffix) (ts : Tokens) → AreTokens ts → Grows (λ _ _ d. Spells AreSuffixes Always d) (Spells AreSuffixes Always) (suffixes_from n count found ts) ts
  unfolding suffixes_from
  suffixes_from_grow zero found ts a = refuse_grows {A = List Suffix} (λ _ _ d. Spells AreSuffixes Always d) (Spells AreSuffixes Always) ts a (record { more = λ w. w; good = λ w z. z; is = no_suffixes })
  suffixes_from_grow (suc count) found ts a =
      see_grows (λ _ _ d. Spells AreSuffixes Always d) (Spells AreSuffixes Always) (begins_suffix ts) ((suffix_rule n >>= λ x. suffixes_from n count (found ++ x ∷ [])) ts) (Ok (found, ts)) ts
      (λ _. then_grows (λ _ _ c. Spells IsSuffix Always c) (Spells IsSuffix Always) (λ _ _ d. Spells AreSuffixes Always d) (Spells AreSuffixes Always) (suffix_rule n ts) (λ x. suffixes_from n count (found ++ x ∷ [])) ts (suffix_grows n inner_expr ts a)
      (λ x us d b h. map_grows (λ _ _ c. Spells AreSuffixes Always c) (λ _ _ c. Spells AreSuffixes Always (λ w. d (c w))) (Spells AreSuffixes Always) (λ c. Spells AreSuffixes Always (λ w. d (c w)))
      (suffixes_from n count (found ++ x ∷ []) us) us (suffixes_from_grow count (found ++ x ∷ []) us b) (λ _ _ c i. one_more_suffix d c h i) (λ c i. one_more_suffix d c h i))
      (λ d h. record { more = λ w. w; good = λ w z. z; is = one_more_suffix d (λ w. w) h no_suffixes }))
      (λ _. pure_grows (λ _ _ d. Spells AreSuffixes Always d) (Spells AreSuffixes Always) found ts a no_suffixes)

  all_suffixes_grow : (ts : Tokens) → AreTokens ts → Grows (λ _ _ d. Spells AreSuffixes Always d) (Spells AreSuffixes Always) (all_suffixes n ts) ts
  unfolding all_suffixes
  all_suffixes_grow ts a = suffixes_from_grow (turns ts) [] ts a

  postfix_grows : (ts : Tokens) → AreTokens ts → Grows (λ _ _ d. Starts IsUnary ts d) (Starts IsUnary ts) (postfix_rule n ts) ts
  unfolding postfix_rule
  postfix_grows ts a = then_starts IsPrimary IsUnary (primary n ts) (λ first. (all_suffixes n >>= λ found. pure_rule (followed first found))) ts (primary_grows ts a) (λ first us0 d0 b0 h0. then_grows (λ _ _ c. Spells AreSuffixes Always c) (Spells AreSuffixes Always) (λ _ _ c. Spells IsUnary Always (λ w. (d0 (c w)))) (λ c. Spells IsUnary Always (λ w. (d0 (c w)))) ((all_suffixes n) us0) (λ found. pure_rule (followed first found)) us0 (all_suffixes_grow us0 b0) (λ found us24 d24 b24 h24. pure_grows (λ _ _ c. Spells IsUnary Always (λ w. (d0 (d24 (c w))))) (λ c. Spells IsUnary Always (λ w. (d0 (d24 (c w))))) (followed first found) us24 b24 (record { any = λ ws f c. record { tree = _; is = g.postfix ((h0.any (d24 ws) (h24.full ws f) tt).is) ((h24.any ws f tt).is) }; full = λ ws f. (h0.full (d24 ws) (h24.full ws f)) })) (λ d24 h24. record { more = λ w. w; good = λ w z. z; is = record { any = λ ws f c. record { tree = _; is = g.postfix ((h0.any (d24 ws) (h24.full ws f) tt).is) ((h24.any ws f tt).is) }; full = λ ws f. (h0.full (d24 ws) (h24.full ws f)) } })) (λ d0 h0. record { more = λ w. w; good = λ w z. z; is = record { any = λ ws f c. record { tree = _; is = g.postfix ((h0.any ws (no_suffixes.full ws f) tt).is) ((no_suffixes.any ws f tt).is) }; full = λ ws f. (h0.full ws (no_suffixes.full ws f)) } })

  prefixed_grows : (room : ℕ) (p : Place) (op : Prefix) (ts : Tokens) → prefix_by (kind ts) ≡ Some op → AreTokens ts → Grows (λ _ _ d. Starts IsUnary ts d) (Starts IsUnary ts) (prefixed_rule room n p op ts) ts
  prefixed_grows room p op ts is a = by_room (room == 0)
    where
      by_room : (b : Bool) → Grows (λ _ _ d. Starts IsUnary ts d) (Starts IsUnary ts) (cond b (λ us. Err (too_deep us)) (take >>= λ _. (n true >>= λ x. pure_rule (e.Prefix p op x))) ts) ts
      by_room true = deep_grows {A = Expr} (λ _ _ d. Starts IsUnary ts d) (Starts IsUnary ts) ts a (unary_filled ts)
      by_room false = behind_starts IsUnary ts (kind ts) refl (some_prefix (kind ts) op is) a (((n true >>= λ x. pure_rule (e.Prefix p op x))) (next ts)) (λ t0 e0 b0. then_grows (λ _ _ c. Spells IsUnary Always c) (Spells IsUnary Always) (λ _ _ c. Spells IsUnary Always (λ w. (t0 ∷ (c w)))) (λ c. Spells IsUnary Always (λ w. (t0 ∷ (c w)))) ((n true) (next ts)) (λ x. pure_rule (e.Prefix p op x)) (next ts) (inner_unary (next ts) b0) (λ x us26 d26 b26 h26. pure_grows (λ _ _ c. Spells IsUnary Always (λ w. (t0 ∷ (d26 (c w))))) (λ c. Spells IsUnary Always (λ w. (t0 ∷ (d26 (c w))))) (e.Prefix p op x) us26 b26 (record { any = λ ws f c. record { tree = _; is = g.prefixed (((one_token t0 (kind ts) e0).any (d26 ws) (h26.full ws f) tt).is) is ((h26.any ws f tt).is) }; full = λ ws f. ((one_token t0 (kind ts) e0).full (d26 ws) (h26.full ws f)) })) (λ d26 h26. record { more = λ w. w; good = λ w z. z; is = record { any = λ ws f c. record { tree = _; is = g.prefixed (((one_token t0 (kind ts) e0).any (d26 ws) (h26.full ws f) tt).is) is ((h26.any ws f tt).is) }; full = λ ws f. ((one_token t0 (kind ts) e0).full (d26 ws) (h26.full ws f)) } }))

  unary_by_grows : (room : ℕ) (p : Place) (o : Option Prefix) (ts : Tokens) → prefix_by (kind ts) ≡ o → AreTokens ts → Grows (λ _ _ d. Starts IsUnary ts d) (Starts IsUnary ts) (unary_by room n p o ts) ts
  unary_by_grows room p None ts is a = postfix_grows ts a
  unary_by_grows room p (Some op) ts is a = prefixed_grows room p op ts is a

  unary_grows : (room : ℕ) (ts : Tokens) → AreTokens ts → Grows (λ _ _ d. Starts IsUnary ts d) (Starts IsUnary ts) (unary room n ts) ts
  unfolding unary
  unary_grows room ts a = unary_by_grows room (place ts) (prefix_by (kind ts)) ts refl a

  module _ (level : ℕ) (operand : Rule Expr) (ho : (ts : Tokens) → AreTokens ts → Grows (λ _ _ d. Spells (IsChain level) Always d) (Spells (IsChain level) Always) (operand ts) ts) where
    abbrev Tails : Front → Type 0
    Tails = Spells (AreTails level) Always

    one_more_tail : (t : Token) (k : Kind) (op : Operator) (d c : Front) → t.kind ≡ k → operator_at (suc level) k ≡ Some op → Spells (IsChain level) Always d → Tails c → Tails (λ w. t ∷ d (c w))
    one_more_tail t k op d c is at h i =
        let o : One k (λ w. t ∷ w) = one_token t k is in
        record {
          any = λ ts f z. record { tree = _; is = g.tail (o.any (d (c ts)) (h.full (c ts) (i.full ts f)) tt).is at (h.any (c ts) (i.full ts f) tt).is (i.any ts f z).is };
          full = λ ts f. tt;
        }

    tail_grows : (o : Option Operator) (found : List Tail) (rest : List Tail → Rule (List Tail)) (ts : Tokens) → operator_at (suc level) (kind ts) ≡ o → AreTokens ts
        → ((longer : List Tail) (us : Tokens) → AreTokens us → Grows (λ _ _ d. Tails d) Tails (rest longer us) us) → Grows (λ _ _ d. Tails d) Tails (tail_by operand o found rest ts) ts
    tail_grows None found rest ts is a h = pure_grows (λ _ _ d. Tails d) Tails found ts a (no_tails level)
    tail_grows (Some op) found rest ts is a h =
        behind_grows (λ _ _ d. Tails d) Tails ts (kind ts) refl (operator_no_last (suc level) (kind ts) op is) a (read_then (operand (next ts)) (λ right. rest (found ++ (op, right) ∷ [])))
        (λ t e b. then_grows (λ _ _ c. Spells (IsChain level) Always c) (Spells (IsChain level) Always) (λ _ _ c. Tails (λ w. t ∷ c w)) (λ c. Tails (λ w. t ∷ c w)) (operand (next ts)) (λ right. rest (found ++ (op, right) ∷ [])) (next ts) (ho (next ts) b)
        (λ x us d z i. map_grows (λ _ _ c. Tails c) (λ _ _ c. Tails (λ w. t ∷ d (c w))) Tails (λ c. Tails (λ w. t ∷ d (c w))) (rest (found ++ (op, x) ∷ []) us) us (h (found ++ (op, x) ∷ []) us z)
        (λ _ _ c j. one_more_tail t (kind ts) op d c e is i j) (λ c j. one_more_tail t (kind ts) op d c e is i j))
        (λ d i. record { more = λ w. w; good = λ w z. z; is = one_more_tail t (kind ts) op d (λ w. w) e is i (no_tails level) }))

    tails_from_grow : (count : ℕ) (found : List Tail) (ts : Tokens) → AreTokens ts → Grows (λ _ _ d. Tails d) Tails (tails_from (suc level) operand count found ts) ts
    unfolding tails_from
    tails_from_grow zero found ts a = refuse_grows {A = List Tail} (λ _ _ d. Tails d) Tails ts a (record { more = λ w. w; good = λ w z. z; is = no_tails level })
    tails_from_grow (suc count) found ts a = tail_grows (operator_at (suc level) (kind ts)) found (λ longer. tails_from (suc level) operand count longer) ts refl a (λ longer us b. tails_from_grow count longer us b)

    all_tails_grow : (ts : Tokens) → AreTokens ts → Grows (λ _ _ d. Tails d) Tails (tails (suc level) operand ts) ts
    unfolding tails
    all_tails_grow ts a = tails_from_grow (turns ts) [] ts a

  only_spells : {A : Type 0} (G : Tokens → A → Tokens → Type 0) (q : Outcome A) (ts : Tokens) → Grows (λ _ _ d. Starts G ts d) (Starts G ts) q ts → Grows (λ _ _ d. Spells G Always d) (Spells G Always) q ts
  only_spells G q ts h = map_grows (λ _ _ d. Starts G ts d) (λ _ _ d. Spells G Always d) (Starts G ts) (Spells G Always) q ts h (λ _ _ d s. s.spells) (λ d s. s.spells)

  chain_grows : (room level : ℕ) (ts : Tokens) → AreTokens ts → Grows (λ _ _ d. Starts (IsChain level) ts d) (Starts (IsChain level) ts) (chain_rule room n level ts) ts
  unfolding chain_rule
  chain_grows room zero ts a =
      map_grows (λ _ _ d. Starts IsUnary ts d) (λ _ _ d. Starts (IsChain 0) ts d) (Starts IsUnary ts) (Starts (IsChain 0) ts) (unary room n ts) ts (unary_grows room ts a)
      (λ _ _ d s. record { spells = as_chain 0 d s.spells; bare = s.bare }) (λ d s. record { spells = as_chain 0 d s.spells; bare = s.bare })
  chain_grows room (suc level) ts a =
      let all_tails : (us : Tokens) → AreTokens us → Grows (λ _ _ d. Spells (AreTails level) Always d) (Spells (AreTails level) Always) (tails (suc level) (chain_rule room n level) us) us =
      λ us b. all_tails_grow level (chain_rule room n level) (λ vs c. only_spells (IsChain level) (chain_rule room n level vs) vs (chain_grows room level vs c)) us b in
      then_starts (IsChain level) (IsChain (suc level)) (chain_rule room n level ts) (λ first. (tails (suc level) (chain_rule room n level) >>= λ found. pure_rule (chained first found))) ts (chain_grows room level ts a) (λ first us0 d0 b0 h0. then_grows (λ _ _ c. Spells (AreTails level) Always c) (Spells (AreTails level) Always) (λ _ _ c. Spells (IsChain (suc level)) Always (λ w. (d0 (c w)))) (λ c. Spells (IsChain (suc level)) Always (λ w. (d0 (c w)))) ((tails (suc level) (chain_rule room n level)) us0) (λ found. pure_rule (chained first found)) us0 (all_tails us0 b0) (λ found us27 d27 b27 h27. pure_grows (λ _ _ c. Spells (IsChain (suc level)) Always (λ w. (d0 (d27 (c w))))) (λ c. Spells (IsChain (suc level)) Always (λ w. (d0 (d27 (c w))))) (chained first found) us27 b27 (record { any = λ ws f c. record { tree = _; is = g.chain ((h0.any (d27 ws) (h27.full ws f) tt).is) ((h27.any ws f tt).is) }; full = λ ws f. (h0.full (d27 ws) (h27.full ws f)) })) (λ d27 h27. record { more = λ w. w; good = λ w z. z; is = record { any = λ ws f c. record { tree = _; is = g.chain ((h0.any (d27 ws) (h27.full ws f) tt).is) ((h27.any ws f tt).is) }; full = λ ws f. (h0.full (d27 ws) (h27.full ws f)) } })) (λ d0 h0. record { more = λ w. w; good = λ w z. z; is = record { any = λ ws f c. record { tree = _; is = g.chain ((h0.any ws ((no_tails level).full ws f) tt).is) (((no_tails level).any ws f tt).is) }; full = λ ws f. (h0.full ws ((no_tails level).full ws f)) } })

  choice_grows : (room : ℕ) (ts : Tokens) → AreTokens ts → Grows (λ _ _ d. Starts IsExpr ts d) (Starts IsExpr ts) (choice_rule room n ts) ts
  unfolding choice_rule
  choice_grows room ts a = then_starts (IsChain 6) IsExpr (chain_rule room n 6 ts) (λ condition. (eat signs.Question >>= λ b. if b then (n false >>= λ first. (expect signs.Colon >>= λ _. (n false >>= λ second. pure_rule (e.Choice condition first second)))) else pure_rule (condition))) ts (chain_grows room 6 ts a) (λ condition us0 d0 b0 h0. eat_grows (λ _ _ c. Spells IsExpr Always (λ w. (d0 (c w)))) (λ c. Spells IsExpr Always (λ w. (d0 (c w)))) (signs.Question) ((n false >>= λ first. (expect signs.Colon >>= λ _. (n false >>= λ second. pure_rule (e.Choice condition first second))))) (pure_rule (condition)) us0 b0 (λ t28 e28 b28. then_grows (λ _ _ c. Spells IsExpr Always c) (Spells IsExpr Always) (λ _ _ c. Spells IsExpr Always (λ w. (d0 (t28 ∷ (c w))))) (λ c. Spells IsExpr Always (λ w. (d0 (t28 ∷ (c w))))) ((n false) (next us0)) (λ first. (expect signs.Colon >>= λ _. (n false >>= λ second. pure_rule (e.Choice condition first second)))) (next us0) (inner_expr (next us0) b28) (λ first us29 d29 b29 h29. then_grows (λ _ _ c. One (kinds.Sign (signs.Colon)) c) (One (kinds.Sign (signs.Colon))) (λ _ _ c. Spells IsExpr Always (λ w. (d0 (t28 ∷ (d29 (c w)))))) (λ c. Spells IsExpr Always (λ w. (d0 (t28 ∷ (d29 (c w)))))) ((expect signs.Colon) us29) (λ _. (n false >>= λ second. pure_rule (e.Choice condition first second))) us29 (expect_grows (signs.Colon) us29 b29) (λ _ us30 d30 b30 h30. then_grows (λ _ _ c. Spells IsExpr Always c) (Spells IsExpr Always) (λ _ _ c. Spells IsExpr Always (λ w. (d0 (t28 ∷ (d29 (d30 (c w))))))) (λ c. Spells IsExpr Always (λ w. (d0 (t28 ∷ (d29 (d30 (c w))))))) ((n false) us30) (λ second. pure_rule (e.Choice condition first second)) us30 (inner_expr us30 b30) (λ second us31 d31 b31 h31. pure_grows (λ _ _ c. Spells IsExpr Always (λ w. (d0 (t28 ∷ (d29 (d30 (d31 (c w)))))))) (λ c. Spells IsExpr Always (λ w. (d0 (t28 ∷ (d29 (d30 (d31 (c w)))))))) (e.Choice condition first second) us31 b31 (record { any = λ ws f c. record { tree = _; is = g.choice ((h0.any (t28 ∷ (d29 (d30 (d31 ws)))) ((one_token t28 (kinds.Sign (signs.Question)) e28).full (d29 (d30 (d31 ws))) (h29.full (d30 (d31 ws)) (h30.full (d31 ws) (h31.full ws f)))) tt).is) (((one_token t28 (kinds.Sign (signs.Question)) e28).any (d29 (d30 (d31 ws))) (h29.full (d30 (d31 ws)) (h30.full (d31 ws) (h31.full ws f))) tt).is) ((h29.any (d30 (d31 ws)) (h30.full (d31 ws) (h31.full ws f)) tt).is) ((h30.any (d31 ws) (h31.full ws f) tt).is) ((h31.any ws f tt).is) }; full = λ ws f. (h0.full (t28 ∷ (d29 (d30 (d31 ws)))) ((one_token t28 (kinds.Sign (signs.Question)) e28).full (d29 (d30 (d31 ws))) (h29.full (d30 (d31 ws)) (h30.full (d31 ws) (h31.full ws f))))) })) (λ d31 h31. record { more = λ w. w; good = λ w z. z; is = record { any = λ ws f c. record { tree = _; is = g.choice ((h0.any (t28 ∷ (d29 (d30 (d31 ws)))) ((one_token t28 (kinds.Sign (signs.Question)) e28).full (d29 (d30 (d31 ws))) (h29.full (d30 (d31 ws)) (h30.full (d31 ws) (h31.full ws f)))) tt).is) (((one_token t28 (kinds.Sign (signs.Question)) e28).any (d29 (d30 (d31 ws))) (h29.full (d30 (d31 ws)) (h30.full (d31 ws) (h31.full ws f))) tt).is) ((h29.any (d30 (d31 ws)) (h30.full (d31 ws) (h31.full ws f)) tt).is) ((h30.any (d31 ws) (h31.full ws f) tt).is) ((h31.any ws f tt).is) }; full = λ ws f. (h0.full (t28 ∷ (d29 (d30 (d31 ws)))) ((one_token t28 (kinds.Sign (signs.Question)) e28).full (d29 (d30 (d31 ws))) (h29.full (d30 (d31 ws)) (h30.full (d31 ws) (h31.full ws f))))) } })) (λ d30 h30. record { more = λ w. (madeof (kinds.Word words.Null) ∷ w); good = λ w z. (good_token (kinds.Word words.Null) tt w z); is = record { any = λ ws f c. record { tree = _; is = g.choice ((h0.any (t28 ∷ (d29 (d30 (madeof (kinds.Word words.Null) ∷ ws)))) ((one_token t28 (kinds.Sign (signs.Question)) e28).full (d29 (d30 (madeof (kinds.Word words.Null) ∷ ws))) (h29.full (d30 (madeof (kinds.Word words.Null) ∷ ws)) (h30.full (madeof (kinds.Word words.Null) ∷ ws) (null_expr.full ws f)))) tt).is) (((one_token t28 (kinds.Sign (signs.Question)) e28).any (d29 (d30 (madeof (kinds.Word words.Null) ∷ ws))) (h29.full (d30 (madeof (kinds.Word words.Null) ∷ ws)) (h30.full (madeof (kinds.Word words.Null) ∷ ws) (null_expr.full ws f))) tt).is) ((h29.any (d30 (madeof (kinds.Word words.Null) ∷ ws)) (h30.full (madeof (kinds.Word words.Null) ∷ ws) (null_expr.full ws f)) tt).is) ((h30.any (madeof (kinds.Word words.Null) ∷ ws) (null_expr.full ws f) tt).is) ((null_expr.any ws f tt).is) }; full = λ ws f. (h0.full (t28 ∷ (d29 (d30 (madeof (kinds.Word words.Null) ∷ ws)))) ((one_token t28 (kinds.Sign (signs.Question)) e28).full (d29 (d30 (madeof (kinds.Word words.Null) ∷ ws))) (h29.full (d30 (madeof (kinds.Word words.Null) ∷ ws)) (h30.full (madeof (kinds.Word words.Null) ∷ ws) (null_expr.full ws f))))) } })) (λ d29 h29. record { more = λ w. (madeof (kinds.Sign (signs.Colon)) ∷ (madeof (kinds.Word words.Null) ∷ w)); good = λ w z. (good_token (kinds.Sign (signs.Colon)) tt (madeof (kinds.Word words.Null) ∷ w) (good_token (kinds.Word words.Null) tt w z)); is = record { any = λ ws f c. record { tree = _; is = g.choice ((h0.any (t28 ∷ (d29 (madeof (kinds.Sign (signs.Colon)) ∷ (madeof (kinds.Word words.Null) ∷ ws)))) ((one_token t28 (kinds.Sign (signs.Question)) e28).full (d29 (madeof (kinds.Sign (signs.Colon)) ∷ (madeof (kinds.Word words.Null) ∷ ws))) (h29.full (madeof (kinds.Sign (signs.Colon)) ∷ (madeof (kinds.Word words.Null) ∷ ws)) ((one_made (kinds.Sign (signs.Colon))).full (madeof (kinds.Word words.Null) ∷ ws) (null_expr.full ws f)))) tt).is) (((one_token t28 (kinds.Sign (signs.Question)) e28).any (d29 (madeof (kinds.Sign (signs.Colon)) ∷ (madeof (kinds.Word words.Null) ∷ ws))) (h29.full (madeof (kinds.Sign (signs.Colon)) ∷ (madeof (kinds.Word words.Null) ∷ ws)) ((one_made (kinds.Sign (signs.Colon))).full (madeof (kinds.Word words.Null) ∷ ws) (null_expr.full ws f))) tt).is) ((h29.any (madeof (kinds.Sign (signs.Colon)) ∷ (madeof (kinds.Word words.Null) ∷ ws)) ((one_made (kinds.Sign (signs.Colon))).full (madeof (kinds.Word words.Null) ∷ ws) (null_expr.full ws f)) tt).is) (((one_made (kinds.Sign (signs.Colon))).any (madeof (kinds.Word words.Null) ∷ ws) (null_expr.full ws f) tt).is) ((null_expr.any ws f tt).is) }; full = λ ws f. (h0.full (t28 ∷ (d29 (madeof (kinds.Sign (signs.Colon)) ∷ (madeof (kinds.Word words.Null) ∷ ws)))) ((one_token t28 (kinds.Sign (signs.Question)) e28).full (d29 (madeof (kinds.Sign (signs.Colon)) ∷ (madeof (kinds.Word words.Null) ∷ ws))) (h29.full (madeof (kinds.Sign (signs.Colon)) ∷ (madeof (kinds.Word words.Null) ∷ ws)) ((one_made (kinds.Sign (signs.Colon))).full (madeof (kinds.Word words.Null) ∷ ws) (null_expr.full ws f))))) } })) (λ _. pure_grows (λ _ _ c. Spells IsExpr Always (λ w. (d0 (c w)))) (λ c. Spells IsExpr Always (λ w. (d0 (c w)))) (condition) us0 b0 (record { any = λ ws f c. record { tree = _; is = g.no_choice ((h0.any ws f tt).is) }; full = λ ws f. (h0.full ws f) }))) (λ d0 h0. record { more = λ w. w; good = λ w z. z; is = record { any = λ ws f c. record { tree = _; is = g.no_choice ((h0.any ws f tt).is) }; full = λ ws f. (h0.full ws f) } })

-- what is read where so much more may be open
record Inside (room : ℕ) : Type 0 where
  expr : (ts : Tokens) → AreTokens ts → Grows (λ _ _ d. Starts IsExpr ts d) (Starts IsExpr ts) (nested room false ts) ts
  unary : (ts : Tokens) → AreTokens ts → Grows (λ _ _ d. Starts IsUnary ts d) (Starts IsUnary ts) (nested room true ts) ts

pub plain_expr : (q : Outcome Expr) (ts : Tokens) → Grows (λ _ _ d. Starts IsExpr ts d) (Starts IsExpr ts) q ts → Grows (λ _ _ d. Spells IsExpr Always d) (Spells IsExpr Always) q ts
plain_expr q ts h = map_grows (λ _ _ d. Starts IsExpr ts d) (λ _ _ d. Spells IsExpr Always d) (Starts IsExpr ts) (Spells IsExpr Always) q ts h (λ _ _ d s. s.spells) (λ d s. s.spells)

plain_unary : (q : Outcome Expr) (ts : Tokens) → Grows (λ _ _ d. Starts IsUnary ts d) (Starts IsUnary ts) q ts → Grows (λ _ _ d. Spells IsUnary Always d) (Spells IsUnary Always) q ts
plain_unary q ts h = map_grows (λ _ _ d. Starts IsUnary ts d) (λ _ _ d. Spells IsUnary Always d) (Starts IsUnary ts) (Spells IsUnary Always) q ts h (λ _ _ d s. s.spells) (λ d s. s.spells)

inside : (room : ℕ) → Inside room
unfolding nested expr_or_operand
inside zero = record {
  expr = λ ts a. deep_grows {A = Expr} (λ _ _ d. Starts IsExpr ts d) (Starts IsExpr ts) ts a (expr_filled ts);
  unary = λ ts a. deep_grows {A = Expr} (λ _ _ d. Starts IsUnary ts d) (Starts IsUnary ts) ts a (unary_filled ts);
}
inside (suc room) =
    let i : Inside room = inside room in
    let exprs : (ts : Tokens) → AreTokens ts → Grows (λ _ _ d. Spells IsExpr Always d) (Spells IsExpr Always) (nested room false ts) ts = λ ts a. plain_expr (nested room false ts) ts (i.expr ts a) in
    let unaries : (ts : Tokens) → AreTokens ts → Grows (λ _ _ d. Spells IsUnary Always d) (Spells IsUnary Always) (nested room true ts) ts = λ ts a. plain_unary (nested room true ts) ts (i.unary ts a) in
    record { expr = λ ts a. choice_grows (nested room) exprs unaries room ts a; unary = λ ts a. unary_grows (nested room) exprs unaries room ts a }

pub expr_grows : (room : ℕ) (ts : Tokens) → AreTokens ts → Grows (λ _ _ d. Starts IsExpr ts d) (Starts IsExpr ts) (nested room false ts) ts
expr_grows room ts a = let i : Inside room = inside room in i.expr ts a
