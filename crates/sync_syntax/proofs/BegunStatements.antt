-- What stands before a fault in a statement begins one.
use Rattle.std.proofs.Common.{◌≡◌, ℕ, zero, suc, Bool, true, false, if◌then◌else◌, List, [], ◌∷◌, ◌++◌, Option, Some, None, Ok, refl, sym, subst, ap, ◌∙◌, true≢false}
use Rattle.sync_tokens.specs.Spellable.{IsLast, AreTokens}
use Rattle.sync_tokens.specs.declared.place.Place.{Place}
use Rattle.sync_tokens.specs.declared.token.Kind.{Kind}
use Rattle.sync_tokens.specs.declared.token.Kind.TheVariants as kinds
use Rattle.sync_tokens.specs.declared.token.Sign.{Sign}
use Rattle.sync_tokens.specs.declared.token.Sign.TheVariants as signs
use Rattle.sync_tokens.specs.declared.token.Token.{Token}
use Rattle.sync_tokens.specs.declared.token.Word.{Word}
use Rattle.sync_tokens.specs.declared.token.Word.TheVariants as words
use Rattle.sync_syntax.specs.declared.operator.Writing.{Writing}
use Rattle.sync_syntax.specs.declared.operator.Writing.TheVariants as writing
use Rattle.sync_syntax.specs.declared.tree.Expr.{Expr}
use Rattle.sync_syntax.specs.declared.tree.Named.{Named}
use Rattle.sync_syntax.specs.declared.tree.Declares.{Declares}
use Rattle.sync_syntax.specs.declared.tree.Writes.{Writes}
use Rattle.sync_syntax.specs.declared.tree.Simple.{Simple}
use Rattle.sync_syntax.specs.declared.tree.Simple.TheVariants as simples
use Rattle.sync_syntax.specs.declared.tree.Start.{Start}
use Rattle.sync_syntax.specs.declared.tree.Start.TheVariants as starts
use Rattle.sync_syntax.specs.declared.tree.Statement.{Statement}
use Rattle.sync_syntax.specs.declared.tree.Statement.TheVariants as s
use Rattle.sync_syntax.specs.Reading.{Tokens, Outcome, ◌>>=◌, pure_rule, take, kind, next, second, place, sees, sees_word, same_sign, same_word, is_sign, is_word, eat, eat_word, expect, name_rule, turns}
use Rattle.sync_syntax.specs.Operators.{declares_by, writing_by, is_name_kind}
use Rattle.sync_syntax.specs.Statements.{named_rule, statement_end, expr, given, declared_rule, more_declared, declaration, written_rule, write, value_rule, write_or_value, simple_rule, expr_unless, simple_unless, returned_rule, return_at, throw_rule, declare_rule, only_simple, declare_or_simple, plain_rule, jump_rule, block_from, block_rule, else_rule, if_rule, repeat, each_rule, for_declared, for_simple, for_by, for_at, statement_by_word, statement_by_sign, statement_by, statement_rule, statement}
use Rattle.sync_syntax.specs.Grammar as g
use Rattle.sync_syntax.specs.Grammar.{Takes, IsExpr, IsNamed, Ends, IsGiven, AreDeclared, IsSimple, IsExprOrNone, IsStart, IsStatement, IsOtherwise, AreStatements}
use Rattle.sync_syntax.proofs.Begun.{Front, Full, Found, Spells, Always, Filled, Grows, then_grows, map_grows, madeof, good_token, One, one_token, one_made, pure_grows, token_grows, refuse_grows, deep_grows, behind_grows, see_grows, eat_grows, eat_word_grows, expect_grows, IsName, name_token, a_name, a_kind, name_grows}
use Rattle.sync_syntax.proofs.BegunExpressions.{Starts, null_expr, expr_grows, plain_expr, separated_grows, then_starts, behind_starts}
use Rattle.sync_syntax.proofs.Holds.{sees-takes}
use Rattle.sync_syntax.proofs.Fronts.{begins, simple_begins}
use Rattle.sync_syntax.proofs.SoundStatements.{IsOne}

-- ---- names

named_of : (d : Front) → Spells IsName Always d → Spells IsNamed Always d
named_of d h = record { any = λ ts f c. record { tree = _; is = g.named (h.any ts f c).is }; full = h.full }

pub a_named : Spells IsNamed Always (λ w. madeof a_kind ∷ w)
a_named = named_of (λ w. madeof a_kind ∷ w) (name_token (madeof a_kind) (97 ∷ []) refl)

pub named_grows : (ts : Tokens) → AreTokens ts → Grows (λ _ _ d. Spells IsNamed Always d) (Spells IsNamed Always) (named_rule ts) ts
unfolding named_rule
named_grows ts a = then_grows (λ _ _ c. Spells IsName Always c) (Spells IsName Always) (λ _ vs c. Spells IsNamed Always (λ w. (c w))) (λ c. Spells IsNamed Always (λ w. (c w))) ((name_rule) ts) (λ n. pure_rule (record { place = place ts; name = n })) ts (name_grows ts a) (λ n us1 d1 b1 h1. pure_grows (λ _ vs c. Spells IsNamed Always (λ w. (d1 (c w)))) (λ c. Spells IsNamed Always (λ w. (d1 (c w)))) (record { place = place ts; name = n }) us1 b1 (record { any = λ ws f c. record { tree = _; is = g.named ((h1.any ws f tt).is) }; full = λ ws f. (h1.full ws f) })) (λ d1 h1. record { more = λ w. w; good = λ w z. z; is = record { any = λ ws f c. record { tree = _; is = g.named ((h1.any ws f tt).is) }; full = λ ws f. (h1.full ws f) } })

-- ---- what may come behind a statement

abbrev pub brace : Tokens
brace = madeof (kinds.Sign signs.BraceClose) ∷ []

-- an `else` only where one comes, and a `}` where one comes
abbrev pub May : Tokens → Tokens → Type 0
May us w = (sees_word words.Else us ≡ false → sees_word words.Else w ≡ false) × (sees signs.BraceClose us ≡ true → sees signs.BraceClose w ≡ true)

abbrev pub IsEnding : Tokens → Unit {0} → Tokens → Type 0
IsEnding ts _ us = Ends ts us

semicolon_ends : Spells IsEnding (May brace) (λ w. madeof (kinds.Sign signs.Semicolon) ∷ w)
semicolon_ends = let o : One (kinds.Sign signs.Semicolon) (λ w. madeof (kinds.Sign signs.Semicolon) ∷ w) = one_made (kinds.Sign signs.Semicolon) in record { any = λ ts f c. record { tree = tt; is = g.ended (o.any ts f tt).is }; full = o.full }

ending_grows : (ts : Tokens) → AreTokens ts → Grows (λ _ us d. Spells IsEnding (May us) d) (Spells IsEnding (May brace)) (statement_end ts) ts
unfolding statement_end
ending_grows ts a =
    see_grows (λ _ us d. Spells IsEnding (May us) d) (Spells IsEnding (May brace)) (sees signs.BraceClose ts) (Ok (tt, ts)) (expect signs.Semicolon ts) ts
    (λ e. pure_grows {A = Unit {0}} (λ _ us d. Spells IsEnding (May us) d) (Spells IsEnding (May brace)) tt ts a (record { any = λ us f c. record { tree = tt; is = g.left_out (sees-takes signs.BraceClose us (c.1 e)) }; full = λ us f. f }))
    (λ _. map_grows (λ _ _ d. One (kinds.Sign signs.Semicolon) d) (λ _ us d. Spells IsEnding (May us) d) (One (kinds.Sign signs.Semicolon)) (Spells IsEnding (May brace)) (expect signs.Semicolon ts) ts (expect_grows signs.Semicolon ts a)
    (λ _ us d o. record { any = λ vs f c. record { tree = tt; is = g.ended (o.any vs f tt).is }; full = o.full }) (λ d o. record { any = λ vs f c. record { tree = tt; is = g.ended (o.any vs f tt).is }; full = o.full }))

-- ---- declarations

none_given : Spells IsGiven Always (λ w. w)
none_given = record { any = λ ts f c. record { tree = _; is = g.not_given }; full = λ ts f. f }

an_expr : (room : ℕ) (ts : Tokens) → AreTokens ts → Grows (λ _ _ d. Spells IsExpr Always d) (Spells IsExpr Always) (expr room ts) ts
an_expr room ts a = plain_expr (expr room ts) ts (expr_grows room ts a)

given_grows : (room : ℕ) (ts : Tokens) → AreTokens ts → Grows (λ _ _ d. Spells IsGiven Always d) (Spells IsGiven Always) (given room ts) ts
unfolding given
given_grows room ts a = eat_grows (λ _ vs c. Spells IsGiven Always (λ w. (c w))) (λ c. Spells IsGiven Always (λ w. (c w))) (signs.Assign) ((expr room >>= λ x. pure_rule (Some x))) (pure_rule (None)) ts a (λ t2 e2 b2. then_grows (λ _ _ c. Spells IsExpr Always c) (Spells IsExpr Always) (λ _ vs c. Spells IsGiven Always (λ w. (t2 ∷ (c w)))) (λ c. Spells IsGiven Always (λ w. (t2 ∷ (c w)))) ((expr room) (next ts)) (λ x. pure_rule (Some x)) (next ts) (an_expr room (next ts) b2) (λ x us3 d3 b3 h3. pure_grows (λ _ vs c. Spells IsGiven Always (λ w. (t2 ∷ (d3 (c w))))) (λ c. Spells IsGiven Always (λ w. (t2 ∷ (d3 (c w))))) (Some x) us3 b3 (record { any = λ ws f c. record { tree = _; is = g.given (((one_token t2 (kinds.Sign (signs.Assign)) e2).any (d3 ws) (h3.full ws f) tt).is) ((h3.any ws f tt).is) }; full = λ ws f. ((one_token t2 (kinds.Sign (signs.Assign)) e2).full (d3 ws) (h3.full ws f)) })) (λ d3 h3. record { more = λ w. w; good = λ w z. z; is = record { any = λ ws f c. record { tree = _; is = g.given (((one_token t2 (kinds.Sign (signs.Assign)) e2).any (d3 ws) (h3.full ws f) tt).is) ((h3.any ws f tt).is) }; full = λ ws f. ((one_token t2 (kinds.Sign (signs.Assign)) e2).full (d3 ws) (h3.full ws f)) } })) (λ _. pure_grows (λ _ vs c. Spells IsGiven Always (λ w. (c w))) (λ c. Spells IsGiven Always (λ w. (c w))) (None) ts a (record { any = λ ws f c. record { tree = _; is = g.not_given }; full = λ ws f. f }))

declared_grows : (room : ℕ) (ts : Tokens) → AreTokens ts → Grows (λ _ _ d. Spells (IsOne room) Always d) (Spells (IsOne room) Always) (declared_rule room ts) ts
unfolding declared_rule
declared_grows room ts a = then_grows (λ _ _ c. Spells IsNamed Always c) (Spells IsNamed Always) (λ _ vs c. Spells (IsOne room) Always (λ w. (c w))) (λ c. Spells (IsOne room) Always (λ w. (c w))) ((named_rule) ts) (λ n. (given room >>= λ x. pure_rule ((n, x)))) ts (named_grows ts a) (λ n us4 d4 b4 h4. then_grows (λ _ _ c. Spells IsGiven Always c) (Spells IsGiven Always) (λ _ vs c. Spells (IsOne room) Always (λ w. (d4 (c w)))) (λ c. Spells (IsOne room) Always (λ w. (d4 (c w)))) ((given room) us4) (λ x. pure_rule ((n, x))) us4 (given_grows room us4 b4) (λ x us5 d5 b5 h5. pure_grows (λ _ vs c. Spells (IsOne room) Always (λ w. (d4 (d5 (c w))))) (λ c. Spells (IsOne room) Always (λ w. (d4 (d5 (c w))))) ((n, x)) us5 b5 (record { any = λ ws f c. record { tree = _; is = (_, (h4.any (d5 ws) (h5.full ws f) tt).is, (h5.any ws f tt).is) }; full = λ ws f. (h4.full (d5 ws) (h5.full ws f)) })) (λ d5 h5. record { more = λ w. w; good = λ w z. z; is = record { any = λ ws f c. record { tree = _; is = (_, (h4.any (d5 ws) (h5.full ws f) tt).is, (h5.any ws f tt).is) }; full = λ ws f. (h4.full (d5 ws) (h5.full ws f)) } })) (λ d4 h4. record { more = λ w. w; good = λ w z. z; is = record { any = λ ws f c. record { tree = _; is = (_, (h4.any ws (none_given.full ws f) tt).is, (none_given.any ws f tt).is) }; full = λ ws f. (h4.full ws (none_given.full ws f)) } })

a_declared : (room : ℕ) → Spells (IsOne room) Always (λ w. madeof a_kind ∷ w)
a_declared room = record { any = λ ts f c. record { tree = (_, None); is = (_, (a_named.any ts f c).is, g.not_given) }; full = a_named.full }

more_declared_grows : (room : ℕ) (ts : Tokens) → AreTokens ts → Grows (λ _ _ d. Spells AreDeclared Always d) (Spells AreDeclared Always) (more_declared room ts) ts
more_declared_grows room ts a =
    separated_grows (declared_rule room) (IsOne room) AreDeclared (declared_grows room) (λ ts us x h. g.one_declared h.1 h.2) (λ ts us vs ws x xs h k o. g.more_declared h.1 h.2 k o)
    (record { more = λ w. madeof a_kind ∷ w; good = good_token a_kind a_name; is = a_declared room }) ts a

-- the names behind the first
abbrev Names : Tokens → Unit {0} → Tokens → Type 0
Names ts _ us = (bs : Tokens) (n : Named) → IsNamed bs n ts → Found AreDeclared bs us

no_more_names : Spells Names Always (λ w. w)
no_more_names = record { any = λ ts f c. record { tree = tt; is = λ bs n hn. record { tree = _; is = g.one_declared hn g.not_given } }; full = λ ts f. f }

declaration_grows : (room : ℕ) (p : Place) (how : Declares) (n : Named) (ts : Tokens) → AreTokens ts → Grows (λ _ _ d. Spells Names Always d) (Spells Names Always) (declaration room p how n ts) ts
unfolding declaration
declaration_grows room p how n ts a = then_grows (λ _ _ c. Spells IsGiven Always c) (Spells IsGiven Always) (λ _ vs c. Spells Names Always (λ w. (c w))) (λ c. Spells Names Always (λ w. (c w))) ((given room) ts) (λ value. (eat signs.Comma >>= λ b. if b then (more_declared room >>= λ others. pure_rule (record { place = p; declares = how; names = (n, value) ∷ others })) else pure_rule (record { place = p; declares = how; names = (n, value) ∷ [] }))) ts (given_grows room ts a) (λ value us6 d6 b6 h6. eat_grows (λ _ vs c. Spells Names Always (λ w. (d6 (c w)))) (λ c. Spells Names Always (λ w. (d6 (c w)))) (signs.Comma) ((more_declared room >>= λ others. pure_rule (record { place = p; declares = how; names = (n, value) ∷ others }))) (pure_rule (record { place = p; declares = how; names = (n, value) ∷ [] })) us6 b6 (λ t7 e7 b7. then_grows (λ _ _ c. Spells AreDeclared Always c) (Spells AreDeclared Always) (λ _ vs c. Spells Names Always (λ w. (d6 (t7 ∷ (c w))))) (λ c. Spells Names Always (λ w. (d6 (t7 ∷ (c w))))) ((more_declared room) (next us6)) (λ others. pure_rule (record { place = p; declares = how; names = (n, value) ∷ others })) (next us6) (more_declared_grows room (next us6) b7) (λ others us8 d8 b8 h8. pure_grows (λ _ vs c. Spells Names Always (λ w. (d6 (t7 ∷ (d8 (c w)))))) (λ c. Spells Names Always (λ w. (d6 (t7 ∷ (d8 (c w)))))) (record { place = p; declares = how; names = (n, value) ∷ others }) us8 b8 (record { any = λ ws f c. record { tree = tt; is = (λ bs m hm. record { tree = _; is = g.more_declared hm ((h6.any (t7 ∷ (d8 ws)) ((one_token t7 (kinds.Sign (signs.Comma)) e7).full (d8 ws) (h8.full ws f)) tt).is) (((one_token t7 (kinds.Sign (signs.Comma)) e7).any (d8 ws) (h8.full ws f) tt).is) ((h8.any ws f tt).is) }) }; full = λ ws f. (h6.full (t7 ∷ (d8 ws)) ((one_token t7 (kinds.Sign (signs.Comma)) e7).full (d8 ws) (h8.full ws f))) })) (λ d8 h8. record { more = λ w. w; good = λ w z. z; is = record { any = λ ws f c. record { tree = tt; is = (λ bs m hm. record { tree = _; is = g.more_declared hm ((h6.any (t7 ∷ (d8 ws)) ((one_token t7 (kinds.Sign (signs.Comma)) e7).full (d8 ws) (h8.full ws f)) tt).is) (((one_token t7 (kinds.Sign (signs.Comma)) e7).any (d8 ws) (h8.full ws f) tt).is) ((h8.any ws f tt).is) }) }; full = λ ws f. (h6.full (t7 ∷ (d8 ws)) ((one_token t7 (kinds.Sign (signs.Comma)) e7).full (d8 ws) (h8.full ws f))) } })) (λ _. pure_grows (λ _ vs c. Spells Names Always (λ w. (d6 (c w)))) (λ c. Spells Names Always (λ w. (d6 (c w)))) (record { place = p; declares = how; names = (n, value) ∷ [] }) us6 b6 (record { any = λ ws f c. record { tree = tt; is = (λ bs m hm. record { tree = _; is = g.one_declared hm ((h6.any ws f tt).is) }) }; full = λ ws f. (h6.full ws f) }))) (λ d6 h6. record { more = λ w. w; good = λ w z. z; is = record { any = λ ws f c. record { tree = tt; is = (λ bs m hm. record { tree = _; is = g.one_declared hm ((h6.any ws f tt).is) }) }; full = λ ws f. (h6.full ws f) } })

-- ---- what may be absent

abbrev MaybeExpr : Tokens → Option Expr → Tokens → Type 0
MaybeExpr ts None us = us ≡ ts
MaybeExpr ts (Some x) us = IsExpr ts x us

no_expr : Spells MaybeExpr Always (λ w. w)
no_expr = record { any = λ ts f c. record { tree = None; is = refl }; full = λ ts f. f }

some_expr : (d : Front) → Spells IsExpr Always d → Spells MaybeExpr Always d
some_expr d h = record { any = λ ts f c. record { tree = Some (h.any ts f c).tree; is = (h.any ts f c).is }; full = h.full }

maybe_some : (room : ℕ) (ts : Tokens) → AreTokens ts → Grows (λ _ _ d. Spells MaybeExpr Always d) (Spells MaybeExpr Always) ((expr room >>= λ x. pure_rule (Some x)) ts) ts
maybe_some room ts a =
    then_grows (λ _ _ d. Spells IsExpr Always d) (Spells IsExpr Always) (λ _ _ d. Spells MaybeExpr Always d) (Spells MaybeExpr Always) (expr room ts) (λ x. pure_rule (Some x)) ts (an_expr room ts a)
    (λ x us d b h. pure_grows (λ _ _ c. Spells MaybeExpr Always (λ w. d (c w))) (λ c. Spells MaybeExpr Always (λ w. d (c w))) (Some x) us b (some_expr d h)) (λ d h. record { more = λ w. w; good = λ w z. z; is = some_expr d h })

expr_unless_grows : (room : ℕ) (close : Sign) (ts : Tokens) → AreTokens ts → Grows (λ _ _ d. Spells MaybeExpr Always d) (Spells MaybeExpr Always) (expr_unless room close ts) ts
unfolding expr_unless
expr_unless_grows room close ts a =
    see_grows (λ _ _ d. Spells MaybeExpr Always d) (Spells MaybeExpr Always) (sees close ts) (Ok (None, ts)) ((expr room >>= λ x. pure_rule (Some x)) ts) ts
    (λ _. pure_grows {A = Option Expr} (λ _ _ d. Spells MaybeExpr Always d) (Spells MaybeExpr Always) None ts a no_expr) (λ _. maybe_some room ts a)

returned_grows : (room : ℕ) (ts : Tokens) → AreTokens ts → Grows (λ _ _ d. Spells MaybeExpr Always d) (Spells MaybeExpr Always) (returned_rule room ts) ts
unfolding returned_rule
returned_grows room ts a =
    see_grows (λ _ _ d. Spells MaybeExpr Always d) (Spells MaybeExpr Always) (sees signs.BraceClose ts) (Ok (None, ts)) (expr_unless room signs.Semicolon ts) ts
    (λ _. pure_grows {A = Option Expr} (λ _ _ d. Spells MaybeExpr Always d) (Spells MaybeExpr Always) None ts a no_expr) (λ _. expr_unless_grows room signs.Semicolon ts a)

-- ---- simple statements

value_of : (d : Front) → Spells IsExpr Always d → Spells IsSimple Always d
value_of d h = record { any = λ ts f c. record { tree = _; is = g.value (h.any ts f c).is }; full = h.full }

value_grows : (room : ℕ) (ts : Tokens) → AreTokens ts → Grows (λ _ _ d. Starts IsSimple ts d) (Starts IsSimple ts) (value_rule room ts) ts
unfolding value_rule
value_grows room ts a =
    then_starts IsExpr IsSimple (expr room ts) (λ x. pure_rule (simples.Value (place ts) x)) ts (expr_grows room ts a)
    (λ x us d b h. pure_grows (λ _ _ c. Spells IsSimple Always (λ w. d (c w))) (λ c. Spells IsSimple Always (λ w. d (c w))) (simples.Value (place ts) x) us b (value_of d h))
    (λ d h. record { more = λ w. w; good = λ w z. z; is = value_of d h })

some_writing : (k : Kind) (how : Writing) → writing_by k ≡ Some how → IsLast k → ⊥
unfolding writing_by
some_writing kinds.End how is l = absurd cc
some_writing (kinds.Bad why) how is l = absurd cc
some_writing (kinds.Name n) how is l = l
some_writing (kinds.Integer n) how is l = l
some_writing (kinds.Text n) how is l = l
some_writing (kinds.Word n) how is l = l
some_writing (kinds.Sign n) how is l = l

record NameOf (k : Kind) : Type 0 where
  name : List ℕ
  is : k ≡ kinds.Name name

name_of : (k : Kind) → is_name_kind k ≡ true → NameOf k
name_of (kinds.Name n) h = record { name = n; is = refl }
name_of _ h = absurd cc

-- a name, what writes to it, and the rest
module _ (t u : Token) (n : List ℕ) (k : Kind) (name_is : t.kind ≡ kinds.Name n) (kind_is : u.kind ≡ k) where
  abbrev named_front : Front
  named_front = λ w. t ∷ w

  named_first : Spells IsNamed Always named_front
  named_first = named_of named_front (name_token t n name_is)

  sets_of : (how : Writes) → writing_by k ≡ Some (writing.Sets how) → (d : Front) → Spells IsExpr Always d → Spells IsSimple Always (λ w. t ∷ u ∷ d w)
  sets_of how is d h =
      let o : One k (λ w. u ∷ w) = one_token u k kind_is in
      record { any = λ ts f c. record { tree = _; is = g.write (named_first.any (u ∷ d ts) tt tt).is (o.any (d ts) (h.full ts f) tt).is is (h.any ts f c).is }; full = λ ts f. tt }

  increments_of : writing_by k ≡ Some writing.Increments → Spells IsSimple Always (λ w. t ∷ u ∷ w)
  increments_of is = let o : One k (λ w. u ∷ w) = one_token u k kind_is in record { any = λ ts f c. record { tree = _; is = g.increment (named_first.any (u ∷ ts) tt tt).is (o.any ts f tt).is is }; full = λ ts f. tt }

  decrements_of : writing_by k ≡ Some writing.Decrements → Spells IsSimple Always (λ w. t ∷ u ∷ w)
  decrements_of is = let o : One k (λ w. u ∷ w) = one_token u k kind_is in record { any = λ ts f c. record { tree = _; is = g.decrement (named_first.any (u ∷ ts) tt tt).is (o.any ts f tt).is is }; full = λ ts f. tt }

  written_grows : (room : ℕ) (w : Writing) (m : Named) (ts : Tokens) → writing_by k ≡ Some w → AreTokens ts
      → Grows (λ _ _ c. Spells IsSimple Always (λ x. t ∷ u ∷ c x)) (λ c. Spells IsSimple Always (λ x. t ∷ u ∷ c x)) (written_rule room w m ts) ts
  written_grows room (writing.Sets how) m ts is a =
      then_grows (λ _ _ d. Spells IsExpr Always d) (Spells IsExpr Always) (λ _ _ c. Spells IsSimple Always (λ x. t ∷ u ∷ c x)) (λ c. Spells IsSimple Always (λ x. t ∷ u ∷ c x)) (expr room ts) (λ x. pure_rule (simples.Write m how x)) ts (an_expr room ts a)
      (λ x us d b h. pure_grows (λ _ _ c. Spells IsSimple Always (λ y. t ∷ u ∷ d (c y))) (λ c. Spells IsSimple Always (λ y. t ∷ u ∷ d (c y))) (simples.Write m how x) us b (sets_of how is d h))
      (λ d h. record { more = λ y. y; good = λ y z. z; is = sets_of how is d h })
  written_grows room writing.Increments m ts is a = pure_grows {A = Simple} (λ _ _ c. Spells IsSimple Always (λ x. t ∷ u ∷ c x)) (λ c. Spells IsSimple Always (λ x. t ∷ u ∷ c x)) (simples.Increment m) ts a (increments_of is)
  written_grows room writing.Decrements m ts is a = pure_grows {A = Simple} (λ _ _ c. Spells IsSimple Always (λ x. t ∷ u ∷ c x)) (λ c. Spells IsSimple Always (λ x. t ∷ u ∷ c x)) (simples.Decrement m) ts a (decrements_of is)

write_is : (room : ℕ) (w : Writing) (ts : Tokens) (x : List ℕ) → kind ts ≡ kinds.Name x → write room w ts ≡ written_rule room w (record { place = place ts; name = x }) (next (next ts))
unfolding write named_rule name_rule
write_is room w ts x is = rw is refl

write_grows : (room : ℕ) (w : Writing) (ts : Tokens) (x : List ℕ) → kind ts ≡ kinds.Name x → writing_by (second ts) ≡ Some w → AreTokens ts → Grows (λ _ _ d. Starts IsSimple ts d) (Starts IsSimple ts) (write room w ts) ts
unfolding second
write_grows room w ts x is h a =
    subst (λ (q : Outcome Simple). Grows (λ _ _ d. Starts IsSimple ts d) (Starts IsSimple ts) q ts) (sym (write_is room w ts x is))
    (behind_starts IsSimple ts (kinds.Name x) is (λ l. l) a (written_rule room w (record { place = place ts; name = x }) (next (next ts)))
    (λ t e b. behind_grows (λ _ _ c. Spells IsSimple Always (λ y. t ∷ c y)) (λ c. Spells IsSimple Always (λ y. t ∷ c y)) (next ts) (kind (next ts)) refl (some_writing (kind (next ts)) w h) b
    (written_rule room w (record { place = place ts; name = x }) (next (next ts)))
    (λ u i c. written_grows t u x (kind (next ts)) e i room w (record { place = place ts; name = x }) (next (next ts)) h c)))

write_or_value_grows : (room : ℕ) (o : Option Writing) (ts : Tokens) (x : List ℕ) → kind ts ≡ kinds.Name x → writing_by (second ts) ≡ o → AreTokens ts
    → Grows (λ _ _ d. Starts IsSimple ts d) (Starts IsSimple ts) (write_or_value room o ts) ts
write_or_value_grows room None ts x is h a = value_grows room ts a
write_or_value_grows room (Some w) ts x is h a = write_grows room w ts x is h a

simple_grows : (room : ℕ) (ts : Tokens) → AreTokens ts → Grows (λ _ _ d. Starts IsSimple ts d) (Starts IsSimple ts) (simple_rule room ts) ts
unfolding simple_rule
simple_grows room ts a =
    see_grows (λ _ _ d. Starts IsSimple ts d) (Starts IsSimple ts) (is_name_kind (kind ts)) (write_or_value room (writing_by (second ts)) ts) (value_rule room ts) ts
    (λ e. (let n : NameOf (kind ts) = name_of (kind ts) e in write_or_value_grows room (writing_by (second ts)) ts n.name n.is refl a)) (λ _. value_grows room ts a)

plain_simple : (room : ℕ) (ts : Tokens) → AreTokens ts → Grows (λ _ _ d. Spells IsSimple Always d) (Spells IsSimple Always) (simple_rule room ts) ts
plain_simple room ts a = map_grows (λ _ _ d. Starts IsSimple ts d) (λ _ _ d. Spells IsSimple Always d) (Starts IsSimple ts) (Spells IsSimple Always) (simple_rule room ts) ts (simple_grows room ts a) (λ _ _ d s. s.spells) (λ d s. s.spells)

abbrev MaybeSimple : Tokens → Option Simple → Tokens → Type 0
MaybeSimple ts None us = us ≡ ts
MaybeSimple ts (Some x) us = IsSimple ts x us

no_simple : Spells MaybeSimple Always (λ w. w)
no_simple = record { any = λ ts f c. record { tree = None; is = refl }; full = λ ts f. f }

some_simple : (d : Front) → Spells IsSimple Always d → Spells MaybeSimple Always d
some_simple d h = record { any = λ ts f c. record { tree = Some (h.any ts f c).tree; is = (h.any ts f c).is }; full = h.full }

simple_unless_grows : (room : ℕ) (close : Sign) (ts : Tokens) → AreTokens ts → Grows (λ _ _ d. Spells MaybeSimple Always d) (Spells MaybeSimple Always) (simple_unless room close ts) ts
unfolding simple_unless
simple_unless_grows room close ts a =
    see_grows (λ _ _ d. Spells MaybeSimple Always d) (Spells MaybeSimple Always) (sees close ts) (Ok (None, ts)) ((simple_rule room >>= λ x. pure_rule (Some x)) ts) ts
    (λ _. pure_grows {A = Option Simple} (λ _ _ d. Spells MaybeSimple Always d) (Spells MaybeSimple Always) None ts a no_simple)
    (λ _. then_grows (λ _ _ d. Spells IsSimple Always d) (Spells IsSimple Always) (λ _ _ d. Spells MaybeSimple Always d) (Spells MaybeSimple Always) (simple_rule room ts) (λ x. pure_rule (Some x)) ts (plain_simple room ts a)
    (λ x us d b h. pure_grows (λ _ _ c. Spells MaybeSimple Always (λ w. d (c w))) (λ c. Spells MaybeSimple Always (λ w. d (c w))) (Some x) us b (some_simple d h)) (λ d h. record { more = λ w. w; good = λ w z. z; is = some_simple d h }))

-- ---- statements without others in them

is_return : (l : Bool) (ts us vs ws : Tokens) (x : Option Expr) → Takes (kinds.Word words.Return) ts us → MaybeExpr us x vs → Ends vs ws → IsStatement l ts (s.Return (place ts) x) ws
is_return l ts us vs ws None k h d = g.return_none k (subst (λ z. Ends z ws) h d)
is_return l ts us vs ws (Some x) k h d = g.return_some k h d

is_declare : (l : Bool) (ts us vs ws xs : Tokens) (k : Kind) (how : Declares) (n : Named) → Takes k ts us → declares_by k ≡ Some how → IsNamed us n vs → Names vs tt ws → Ends ws xs → Found (IsStatement l) ts xs
is_declare l ts us vs ws xs k how n take at m h d = let r : Found AreDeclared us ws = h us n m in record { tree = _; is = g.declare (g.declaration take at r.is) d }

abbrev pub Statements : Bool → Tokens → Front → Type 0
Statements l us = Spells (IsStatement l) (May us)

empty_statement : (l : Bool) → Statements l brace (λ w. madeof (kinds.Sign signs.Semicolon) ∷ w)
empty_statement l = let o : One (kinds.Sign signs.Semicolon) (λ w. madeof (kinds.Sign signs.Semicolon) ∷ w) = one_made (kinds.Sign signs.Semicolon) in record { any = λ ts f c. record { tree = _; is = g.empty (o.any ts f tt).is }; full = o.full }

statement_filled : (l : Bool) → Filled (Statements l brace) (λ w. w)
statement_filled l = record { more = λ w. madeof (kinds.Sign signs.Semicolon) ∷ w; good = good_token (kinds.Sign signs.Semicolon) tt; is = empty_statement l }

some_declares : (k : Kind) (how : Declares) → declares_by k ≡ Some how → IsLast k → ⊥
unfolding declares_by
some_declares kinds.End how is l = absurd cc
some_declares (kinds.Bad why) how is l = absurd cc
some_declares (kinds.Name n) how is l = l
some_declares (kinds.Integer n) how is l = l
some_declares (kinds.Text n) how is l = l
some_declares (kinds.Word n) how is l = l
some_declares (kinds.Sign n) how is l = l

module _ (room : ℕ) (l : Bool) where
  return_grows : (p : Place) (ts : Tokens) → kind ts ≡ kinds.Word words.Return → AreTokens ts → Grows (λ _ us d. Statements l us d) (Statements l brace) (return_at room p ts) ts
  unfolding return_at
  return_grows p ts is a = behind_grows (λ _ vs c. Spells (IsStatement l) (May vs) (λ w. (c w))) (λ c. Spells (IsStatement l) (May brace) (λ w. (c w))) ts (kinds.Word words.Return) is (λ l. l) a (((returned_rule room >>= λ found. (statement_end >>= λ done. pure_rule (s.Return p found)))) (next ts)) (λ t9 e9 b9. then_grows (λ _ _ c. Spells MaybeExpr Always c) (Spells MaybeExpr Always) (λ _ vs c. Spells (IsStatement l) (May vs) (λ w. (t9 ∷ (c w)))) (λ c. Spells (IsStatement l) (May brace) (λ w. (t9 ∷ (c w)))) ((returned_rule room) (next ts)) (λ found. (statement_end >>= λ done. pure_rule (s.Return p found))) (next ts) (returned_grows room (next ts) b9) (λ found us10 d10 b10 h10. then_grows (λ _ vs c. Spells IsEnding (May vs) c) (Spells IsEnding (May brace)) (λ _ vs c. Spells (IsStatement l) (May vs) (λ w. (t9 ∷ (d10 (c w))))) (λ c. Spells (IsStatement l) (May brace) (λ w. (t9 ∷ (d10 (c w))))) ((statement_end) us10) (λ done. pure_rule (s.Return p found)) us10 (ending_grows us10 b10) (λ done us11 d11 b11 h11. pure_grows (λ _ vs c. Spells (IsStatement l) (May vs) (λ w. (t9 ∷ (d10 (d11 (c w)))))) (λ c. Spells (IsStatement l) (May brace) (λ w. (t9 ∷ (d10 (d11 (c w)))))) (s.Return p found) us11 b11 (record { any = λ ws f c. record { tree = _; is = is_return l _ _ _ _ _ (((one_token t9 (kinds.Word words.Return) e9).any (d10 (d11 ws)) (h10.full (d11 ws) (h11.full ws f)) tt).is) ((h10.any (d11 ws) (h11.full ws f) tt).is) ((h11.any ws f c).is) }; full = λ ws f. ((one_token t9 (kinds.Word words.Return) e9).full (d10 (d11 ws)) (h10.full (d11 ws) (h11.full ws f))) })) (λ d11 h11. record { more = λ w. w; good = λ w z. z; is = record { any = λ ws f c. record { tree = _; is = is_return l _ _ _ _ _ (((one_token t9 (kinds.Word words.Return) e9).any (d10 (d11 ws)) (h10.full (d11 ws) (h11.full ws f)) tt).is) ((h10.any (d11 ws) (h11.full ws f) tt).is) ((h11.any ws f c).is) }; full = λ ws f. ((one_token t9 (kinds.Word words.Return) e9).full (d10 (d11 ws)) (h10.full (d11 ws) (h11.full ws f))) } })) (λ d10 h10. record { more = λ w. (madeof (kinds.Sign signs.Semicolon) ∷ w); good = λ w z. (good_token (kinds.Sign signs.Semicolon) tt w z); is = record { any = λ ws f c. record { tree = _; is = is_return l _ _ _ _ _ (((one_token t9 (kinds.Word words.Return) e9).any (d10 (madeof (kinds.Sign signs.Semicolon) ∷ ws)) (h10.full (madeof (kinds.Sign signs.Semicolon) ∷ ws) (semicolon_ends.full ws f)) tt).is) ((h10.any (madeof (kinds.Sign signs.Semicolon) ∷ ws) (semicolon_ends.full ws f) tt).is) ((semicolon_ends.any ws f c).is) }; full = λ ws f. ((one_token t9 (kinds.Word words.Return) e9).full (d10 (madeof (kinds.Sign signs.Semicolon) ∷ ws)) (h10.full (madeof (kinds.Sign signs.Semicolon) ∷ ws) (semicolon_ends.full ws f))) } }))

  throw_grows : (p : Place) (ts : Tokens) → kind ts ≡ kinds.Word words.Throw → AreTokens ts → Grows (λ _ us d. Statements l us d) (Statements l brace) (throw_rule room p ts) ts
  unfolding throw_rule
  throw_grows p ts is a = behind_grows (λ _ vs c. Spells (IsStatement l) (May vs) (λ w. (c w))) (λ c. Spells (IsStatement l) (May brace) (λ w. (c w))) ts (kinds.Word words.Throw) is (λ l. l) a (((expr room >>= λ found. (statement_end >>= λ done. pure_rule (s.Throw p found)))) (next ts)) (λ t12 e12 b12. then_grows (λ _ _ c. Spells IsExpr Always c) (Spells IsExpr Always) (λ _ vs c. Spells (IsStatement l) (May vs) (λ w. (t12 ∷ (c w)))) (λ c. Spells (IsStatement l) (May brace) (λ w. (t12 ∷ (c w)))) ((expr room) (next ts)) (λ found. (statement_end >>= λ done. pure_rule (s.Throw p found))) (next ts) (an_expr room (next ts) b12) (λ found us13 d13 b13 h13. then_grows (λ _ vs c. Spells IsEnding (May vs) c) (Spells IsEnding (May brace)) (λ _ vs c. Spells (IsStatement l) (May vs) (λ w. (t12 ∷ (d13 (c w))))) (λ c. Spells (IsStatement l) (May brace) (λ w. (t12 ∷ (d13 (c w))))) ((statement_end) us13) (λ done. pure_rule (s.Throw p found)) us13 (ending_grows us13 b13) (λ done us14 d14 b14 h14. pure_grows (λ _ vs c. Spells (IsStatement l) (May vs) (λ w. (t12 ∷ (d13 (d14 (c w)))))) (λ c. Spells (IsStatement l) (May brace) (λ w. (t12 ∷ (d13 (d14 (c w)))))) (s.Throw p found) us14 b14 (record { any = λ ws f c. record { tree = _; is = g.throw (((one_token t12 (kinds.Word words.Throw) e12).any (d13 (d14 ws)) (h13.full (d14 ws) (h14.full ws f)) tt).is) ((h13.any (d14 ws) (h14.full ws f) tt).is) ((h14.any ws f c).is) }; full = λ ws f. ((one_token t12 (kinds.Word words.Throw) e12).full (d13 (d14 ws)) (h13.full (d14 ws) (h14.full ws f))) })) (λ d14 h14. record { more = λ w. w; good = λ w z. z; is = record { any = λ ws f c. record { tree = _; is = g.throw (((one_token t12 (kinds.Word words.Throw) e12).any (d13 (d14 ws)) (h13.full (d14 ws) (h14.full ws f)) tt).is) ((h13.any (d14 ws) (h14.full ws f) tt).is) ((h14.any ws f c).is) }; full = λ ws f. ((one_token t12 (kinds.Word words.Throw) e12).full (d13 (d14 ws)) (h13.full (d14 ws) (h14.full ws f))) } })) (λ d13 h13. record { more = λ w. (madeof (kinds.Sign signs.Semicolon) ∷ w); good = λ w z. (good_token (kinds.Sign signs.Semicolon) tt w z); is = record { any = λ ws f c. record { tree = _; is = g.throw (((one_token t12 (kinds.Word words.Throw) e12).any (d13 (madeof (kinds.Sign signs.Semicolon) ∷ ws)) (h13.full (madeof (kinds.Sign signs.Semicolon) ∷ ws) (semicolon_ends.full ws f)) tt).is) ((h13.any (madeof (kinds.Sign signs.Semicolon) ∷ ws) (semicolon_ends.full ws f) tt).is) ((semicolon_ends.any ws f c).is) }; full = λ ws f. ((one_token t12 (kinds.Word words.Throw) e12).full (d13 (madeof (kinds.Sign signs.Semicolon) ∷ ws)) (h13.full (madeof (kinds.Sign signs.Semicolon) ∷ ws) (semicolon_ends.full ws f))) } }))

  declare_grows : (p : Place) (how : Declares) (ts : Tokens) → declares_by (kind ts) ≡ Some how → AreTokens ts → Grows (λ _ us d. Statements l us d) (Statements l brace) (declare_rule room p how ts) ts
  unfolding declare_rule
  declare_grows p how ts at a = behind_grows (λ _ vs c. Spells (IsStatement l) (May vs) (λ w. (c w))) (λ c. Spells (IsStatement l) (May brace) (λ w. (c w))) ts (kind ts) refl (some_declares (kind ts) how at) a (((named_rule >>= λ n. (declaration room p how n >>= λ found. (statement_end >>= λ done. pure_rule (s.Declare found))))) (next ts)) (λ t15 e15 b15. then_grows (λ _ _ c. Spells IsNamed Always c) (Spells IsNamed Always) (λ _ vs c. Spells (IsStatement l) (May vs) (λ w. (t15 ∷ (c w)))) (λ c. Spells (IsStatement l) (May brace) (λ w. (t15 ∷ (c w)))) ((named_rule) (next ts)) (λ n. (declaration room p how n >>= λ found. (statement_end >>= λ done. pure_rule (s.Declare found)))) (next ts) (named_grows (next ts) b15) (λ n us16 d16 b16 h16. then_grows (λ _ _ c. Spells Names Always c) (Spells Names Always) (λ _ vs c. Spells (IsStatement l) (May vs) (λ w. (t15 ∷ (d16 (c w))))) (λ c. Spells (IsStatement l) (May brace) (λ w. (t15 ∷ (d16 (c w))))) ((declaration room p how n) us16) (λ found. (statement_end >>= λ done. pure_rule (s.Declare found))) us16 (declaration_grows room (p) how n us16 b16) (λ found us17 d17 b17 h17. then_grows (λ _ vs c. Spells IsEnding (May vs) c) (Spells IsEnding (May brace)) (λ _ vs c. Spells (IsStatement l) (May vs) (λ w. (t15 ∷ (d16 (d17 (c w)))))) (λ c. Spells (IsStatement l) (May brace) (λ w. (t15 ∷ (d16 (d17 (c w)))))) ((statement_end) us17) (λ done. pure_rule (s.Declare found)) us17 (ending_grows us17 b17) (λ done us18 d18 b18 h18. pure_grows (λ _ vs c. Spells (IsStatement l) (May vs) (λ w. (t15 ∷ (d16 (d17 (d18 (c w))))))) (λ c. Spells (IsStatement l) (May brace) (λ w. (t15 ∷ (d16 (d17 (d18 (c w))))))) (s.Declare found) us18 b18 (record { any = λ ws f c. is_declare l _ _ _ _ _ _ how _ (((one_token t15 (kind ts) e15).any (d16 (d17 (d18 ws))) (h16.full (d17 (d18 ws)) (h17.full (d18 ws) (h18.full ws f))) tt).is) (at) ((h16.any (d17 (d18 ws)) (h17.full (d18 ws) (h18.full ws f)) tt).is) ((h17.any (d18 ws) (h18.full ws f) tt).is) ((h18.any ws f c).is); full = λ ws f. ((one_token t15 (kind ts) e15).full (d16 (d17 (d18 ws))) (h16.full (d17 (d18 ws)) (h17.full (d18 ws) (h18.full ws f)))) })) (λ d18 h18. record { more = λ w. w; good = λ w z. z; is = record { any = λ ws f c. is_declare l _ _ _ _ _ _ how _ (((one_token t15 (kind ts) e15).any (d16 (d17 (d18 ws))) (h16.full (d17 (d18 ws)) (h17.full (d18 ws) (h18.full ws f))) tt).is) (at) ((h16.any (d17 (d18 ws)) (h17.full (d18 ws) (h18.full ws f)) tt).is) ((h17.any (d18 ws) (h18.full ws f) tt).is) ((h18.any ws f c).is); full = λ ws f. ((one_token t15 (kind ts) e15).full (d16 (d17 (d18 ws))) (h16.full (d17 (d18 ws)) (h17.full (d18 ws) (h18.full ws f)))) } })) (λ d17 h17. record { more = λ w. (madeof (kinds.Sign signs.Semicolon) ∷ w); good = λ w z. (good_token (kinds.Sign signs.Semicolon) tt w z); is = record { any = λ ws f c. is_declare l _ _ _ _ _ _ how _ (((one_token t15 (kind ts) e15).any (d16 (d17 (madeof (kinds.Sign signs.Semicolon) ∷ ws))) (h16.full (d17 (madeof (kinds.Sign signs.Semicolon) ∷ ws)) (h17.full (madeof (kinds.Sign signs.Semicolon) ∷ ws) (semicolon_ends.full ws f))) tt).is) (at) ((h16.any (d17 (madeof (kinds.Sign signs.Semicolon) ∷ ws)) (h17.full (madeof (kinds.Sign signs.Semicolon) ∷ ws) (semicolon_ends.full ws f)) tt).is) ((h17.any (madeof (kinds.Sign signs.Semicolon) ∷ ws) (semicolon_ends.full ws f) tt).is) ((semicolon_ends.any ws f c).is); full = λ ws f. ((one_token t15 (kind ts) e15).full (d16 (d17 (madeof (kinds.Sign signs.Semicolon) ∷ ws))) (h16.full (d17 (madeof (kinds.Sign signs.Semicolon) ∷ ws)) (h17.full (madeof (kinds.Sign signs.Semicolon) ∷ ws) (semicolon_ends.full ws f)))) } })) (λ d16 h16. record { more = λ w. (madeof (kinds.Sign signs.Semicolon) ∷ w); good = λ w z. (good_token (kinds.Sign signs.Semicolon) tt w z); is = record { any = λ ws f c. is_declare l _ _ _ _ _ _ how _ (((one_token t15 (kind ts) e15).any (d16 (madeof (kinds.Sign signs.Semicolon) ∷ ws)) (h16.full (madeof (kinds.Sign signs.Semicolon) ∷ ws) (no_more_names.full (madeof (kinds.Sign signs.Semicolon) ∷ ws) (semicolon_ends.full ws f))) tt).is) (at) ((h16.any (madeof (kinds.Sign signs.Semicolon) ∷ ws) (no_more_names.full (madeof (kinds.Sign signs.Semicolon) ∷ ws) (semicolon_ends.full ws f)) tt).is) ((no_more_names.any (madeof (kinds.Sign signs.Semicolon) ∷ ws) (semicolon_ends.full ws f) tt).is) ((semicolon_ends.any ws f c).is); full = λ ws f. ((one_token t15 (kind ts) e15).full (d16 (madeof (kinds.Sign signs.Semicolon) ∷ ws)) (h16.full (madeof (kinds.Sign signs.Semicolon) ∷ ws) (no_more_names.full (madeof (kinds.Sign signs.Semicolon) ∷ ws) (semicolon_ends.full ws f)))) } }))

  not_true : (b : Bool) → (b ≡ true → ⊥) → b ≡ false
  not_true true h = absurd (h refl)
  not_true false h = refl

  simple_of : (ts us : Tokens) (d c : Front) → sees signs.BraceOpen ts ≡ false → Starts IsSimple ts d → Spells IsEnding (May us) c → Statements l us (λ w. d (c w))
  simple_of ts us d c free h e = record {
    any = λ ws f m. record {
      tree = _;
      is = g.simple (not_true (sees signs.BraceOpen (d (c ws))) (λ z. true≢false (sym (h.bare (c ws) z) ∙ free))) (h.spells.any (c ws) (e.full ws f) tt).is (e.any ws f m).is;
    };
    full = λ ws f. h.spells.full (c ws) (e.full ws f);
  }

  only_simple_grows : (ts : Tokens) → sees signs.BraceOpen ts ≡ false → AreTokens ts → Grows (λ _ us d. Statements l us d) (Statements l brace) (only_simple room ts) ts
  unfolding only_simple
  only_simple_grows ts free a =
      then_grows (λ _ _ d. Starts IsSimple ts d) (Starts IsSimple ts) (λ _ us d. Statements l us d) (Statements l brace) (simple_rule room ts) (λ found. (statement_end >>= λ _. pure_rule (s.Simple found))) ts (simple_grows room ts a)
      (λ x us d b h. then_grows (λ _ vs c. Spells IsEnding (May vs) c) (Spells IsEnding (May brace)) (λ _ vs c. Statements l vs (λ w. d (c w))) (λ c. Statements l brace (λ w. d (c w))) (statement_end us) (λ _. pure_rule (s.Simple x)) us (ending_grows us b)
      (λ _ vs c z e. pure_grows (λ _ xs i. Statements l xs (λ w. d (c (i w)))) (λ i. Statements l brace (λ w. d (c (i w)))) (s.Simple x) vs z (simple_of ts vs d c free h e))
      (λ c e. record { more = λ w. w; good = λ w z. z; is = simple_of ts brace d c free h e }))
      (λ d h. record { more = λ w. madeof (kinds.Sign signs.Semicolon) ∷ w; good = good_token (kinds.Sign signs.Semicolon) tt; is = simple_of ts brace d (λ w. madeof (kinds.Sign signs.Semicolon) ∷ w) free h semicolon_ends })

  declare_or_simple_grows : (p : Place) (o : Option Declares) (ts : Tokens) → declares_by (kind ts) ≡ o → sees signs.BraceOpen ts ≡ false → AreTokens ts
      → Grows (λ _ us d. Statements l us d) (Statements l brace) (declare_or_simple room p o ts) ts
  declare_or_simple_grows p None ts is free a = only_simple_grows ts free a
  declare_or_simple_grows p (Some how) ts is free a = declare_grows p how ts is a

  plain_grows : (p : Place) (ts : Tokens) → sees signs.BraceOpen ts ≡ false → AreTokens ts → Grows (λ _ us d. Statements l us d) (Statements l brace) (plain_rule room p ts) ts
  unfolding plain_rule
  plain_grows p ts free a = declare_or_simple_grows p (declares_by (kind ts)) ts refl free a

-- ---- statements with others in them

-- what is read when a statement of a loop or not is
abbrev Inner : ℕ → Type 0
Inner room = (l : Bool) (ts : Tokens) → AreTokens ts → Grows (λ _ us d. Statements l us d) (Statements l brace) (statement room l ts) ts

-- a statement begins with no `else`
word_no_else : (k : Kind) (ts us : Tokens) → Takes k ts us → is_word words.Else k ≡ false → sees_word words.Else ts ≡ false
unfolding sees_word
word_no_else k ts us take other = ap (is_word words.Else) take.is ∙ other

begins_no_else : (k : Kind) → begins k ≡ true → is_word words.Else k ≡ false
unfolding same_word
begins_no_else (kinds.Word words.Else) h = absurd cc
begins_no_else (kinds.Word words.Function) h = refl
begins_no_else (kinds.Word words.If) h = refl
begins_no_else (kinds.Word words.For) h = refl
begins_no_else (kinds.Word words.Var) h = refl
begins_no_else (kinds.Word words.Let) h = refl
begins_no_else (kinds.Word words.Const) h = refl
begins_no_else (kinds.Word words.Of) h = refl
begins_no_else (kinds.Word words.Return) h = refl
begins_no_else (kinds.Word words.Throw) h = refl
begins_no_else (kinds.Word words.Break) h = refl
begins_no_else (kinds.Word words.Continue) h = refl
begins_no_else (kinds.Word words.Typeof) h = refl
begins_no_else (kinds.Word words.True) h = refl
begins_no_else (kinds.Word words.False) h = refl
begins_no_else (kinds.Word words.Null) h = refl
begins_no_else (kinds.Word words.Undefined) h = refl
begins_no_else (kinds.Word words.Other) h = refl
begins_no_else _ h = refl

declares_no_else : (k : Kind) (how : Declares) → declares_by k ≡ Some how → is_word words.Else k ≡ false
unfolding declares_by same_word
declares_no_else (kinds.Word words.Var) how is = refl
declares_no_else (kinds.Word words.Let) how is = refl
declares_no_else (kinds.Word words.Const) how is = refl
declares_no_else _ how is = absurd cc

simple_no_else : (ts : Tokens) → begins (kind ts) ≡ true → sees_word words.Else ts ≡ false
unfolding sees_word
simple_no_else ts h = begins_no_else (kind ts) h

statement_no_else : {l : Bool} {ts us : Tokens} {x : Statement} → IsStatement l ts x us → sees_word words.Else ts ≡ false
unfolding same_word
statement_no_else (g.block k h) = word_no_else _ _ _ k refl
statement_no_else (g.empty k) = word_no_else _ _ _ k refl
statement_no_else (g.declare (g.declaration {k = k} {how = how} take is h) e) = word_no_else k _ _ take (declares_no_else k how is)
statement_no_else (g.choose k a b c d e) = word_no_else _ _ _ k refl
statement_no_else (g.repeat k a b c d e) = word_no_else _ _ _ k refl
statement_no_else (g.each k a b c d e f h i) = word_no_else _ _ _ k refl
statement_no_else (g.return_none k e) = word_no_else _ _ _ k refl
statement_no_else (g.return_some k h e) = word_no_else _ _ _ k refl
statement_no_else (g.throw k h e) = word_no_else _ _ _ k refl
statement_no_else (g.break k e) = word_no_else _ _ _ k refl
statement_no_else (g.continue k e) = word_no_else _ _ _ k refl
statement_no_else (g.simple {ts = ts} b x e) = simple_no_else ts (simple_begins x)

-- a token that is a `}`
brace_token : (t : Token) (w : Tokens) → t.kind ≡ kinds.Sign signs.BraceClose → (sees_word words.Else (t ∷ w) ≡ false) × (sees signs.BraceClose (t ∷ w) ≡ true)
unfolding sees sees_word kind same_sign
brace_token t w is = (ap (is_word words.Else) is, ap (is_sign signs.BraceClose) is)

else_token : (ts : Tokens) → sees_word words.Else ts ≡ true → sees signs.BraceClose ts ≡ true → ⊥
unfolding sees sees_word
else_token ts h i = both (kind ts) h i
  where
    both : (k : Kind) → is_word words.Else k ≡ true → is_sign signs.BraceClose k ≡ true → ⊥
    both (kinds.Word w) h i = cc
    both (kinds.Sign s) h i = cc
    both _ h i = cc

-- what is read of a block
record Blocks (l : Bool) (ts : Tokens) (d : Front) : Type 0 where
  spells : Spells (AreStatements l) Always d
  may : (w : Tokens) → Full w → May ts (d w)

closed : (l : Bool) (ts : Tokens) (t : Token) → t.kind ≡ kinds.Sign signs.BraceClose → Blocks l ts (λ w. t ∷ w)
closed l ts t is =
    let o : One (kinds.Sign signs.BraceClose) (λ w. t ∷ w) = one_token t (kinds.Sign signs.BraceClose) is in
    record {
      spells = record { any = λ us f c. record { tree = _; is = g.no_statement (o.any us f tt).is }; full = o.full };
      may = λ w f. ((λ _. (brace_token t w is).0), (λ _. (brace_token t w is).1));
    }

brace_kind : Token
brace_kind = madeof (kinds.Sign signs.BraceClose)

one_more : (l : Bool) (ts us : Tokens) (d c : Front) → sees signs.BraceClose ts ≡ false → Statements l us d → Blocks l us c → Blocks l ts (λ w. d (c w))
one_more l ts us d c none h b = record {
  spells = record {
    any = λ ws f z. record { tree = _; is = g.one_statement (h.any (c ws) (b.spells.full ws f) (b.may ws f)).is (b.spells.any ws f tt).is };
    full = λ ws f. h.full (c ws) (b.spells.full ws f);
  };
  may = λ w f. ((λ _. statement_no_else (h.any (c w) (b.spells.full w f) (b.may w f)).is), (λ z. absurd (true≢false (sym z ∙ none))));
}

-- ---- what stands behind the parenthesis of a `for`

data CountRest : Tokens → Unit {0} → Tokens → Type 0 where
  count_rest : {ts us vs ws xs ys zs : Tokens} (x : Option Expr) (y : Option Simple) {b : Statement} {z : Unit {0}} → Takes (kinds.Sign signs.Semicolon) ts us → MaybeExpr us x vs → Takes (kinds.Sign signs.Semicolon) vs ws
      → MaybeSimple ws y xs → Takes (kinds.Sign signs.ParenClose) xs ys → IsStatement true ys b zs → CountRest ts z zs

data EachRest : Tokens → Unit {0} → Tokens → Type 0 where
  each_rest : {ts us vs ws : Tokens} {x : Expr} {b : Statement} {z : Unit {0}} → IsExpr ts x us → Takes (kinds.Sign signs.ParenClose) us vs → IsStatement true vs b ws → EachRest ts z ws

data ForRest : Tokens → Unit {0} → Tokens → Type 0 where
  counts : {bs ts us : Tokens} {z u : Unit {0}} (begins : Option Start) → ((ws : Tokens) → Takes (kinds.Sign signs.Semicolon) ts ws → IsStart bs begins ws) → CountRest ts u us → ForRest bs z us
  eachs : {bs ws xs ys zs : Tokens} {k : Kind} {how : Declares} {n : Named} {z u : Unit {0}} → Takes k bs ws → declares_by k ≡ Some how → IsNamed ws n xs → Takes (kinds.Word words.Of) xs ys → EachRest ys u zs → ForRest bs z zs

or_none : (x : Option Expr) {ts us vs : Tokens} → MaybeExpr ts x us → Takes (kinds.Sign signs.Semicolon) us vs → IsExprOrNone signs.Semicolon ts x vs
or_none None {ts} {us} {vs} h k = subst (λ z. IsExprOrNone signs.Semicolon z None vs) h (g.no_expr k)
or_none (Some x) h k = g.an_expr h k

last_of : (x : Option Simple) {ts us vs : Tokens} → MaybeSimple ts x us → Takes (kinds.Sign signs.ParenClose) us vs → g.IsLast ts x vs
last_of None {ts} {us} {vs} h k = subst (λ z. g.IsLast z None vs) h (g.no_last k)
last_of (Some x) h k = g.last h k

for_of : (l : Bool) {ts us vs zs : Tokens} {z : Unit {0}} → Takes (kinds.Word words.For) ts us → Takes (kinds.Sign signs.ParenOpen) us vs → ForRest vs z zs → Found (IsStatement l) ts zs
for_of l w p (counts begins h (count_rest {us = us} x y k e m o c b)) = record { tree = _; is = g.repeat w p (h us k) (or_none x e m) (last_of y o c) b }
for_of l w p (eachs k is n f (each_rest x c b)) = record { tree = _; is = g.each w p k is n f x c b }

abbrev count_front : Front
count_front = λ w. madeof (kinds.Sign signs.Semicolon) ∷ madeof (kinds.Sign signs.Semicolon) ∷ madeof (kinds.Sign signs.ParenClose) ∷ madeof (kinds.Sign signs.Semicolon) ∷ w

count_good : (w : Tokens) → AreTokens w → AreTokens (count_front w)
count_good w a = (tt, (tt, (tt, good_token (kinds.Sign signs.Semicolon) tt w a)))

count_default : Spells CountRest (May brace) count_front
count_default =
    let k : One (kinds.Sign signs.Semicolon) (λ w. madeof (kinds.Sign signs.Semicolon) ∷ w) = one_made (kinds.Sign signs.Semicolon) in
    let p : One (kinds.Sign signs.ParenClose) (λ w. madeof (kinds.Sign signs.ParenClose) ∷ w) = one_made (kinds.Sign signs.ParenClose) in
    let b : Statements true brace (λ w. madeof (kinds.Sign signs.Semicolon) ∷ w) = empty_statement true in
    record {
      any = λ ws f c. record {
        tree = tt;
        is = count_rest None None (k.any (madeof (kinds.Sign signs.Semicolon) ∷ madeof (kinds.Sign signs.ParenClose) ∷ madeof (kinds.Sign signs.Semicolon) ∷ ws) tt tt).is (none_expr (madeof (kinds.Sign signs.Semicolon) ∷ madeof (kinds.Sign signs.ParenClose) ∷ madeof (kinds.Sign signs.Semicolon) ∷ ws))
            (k.any (madeof (kinds.Sign signs.ParenClose) ∷ madeof (kinds.Sign signs.Semicolon) ∷ ws) tt tt).is (none_simple (madeof (kinds.Sign signs.ParenClose) ∷ madeof (kinds.Sign signs.Semicolon) ∷ ws)) (p.any (madeof (kinds.Sign signs.Semicolon) ∷ ws) tt tt).is (b.any ws f c).is;
      };
      full = λ ws f. tt;
    }
  where
    none_expr : (ts : Tokens) → MaybeExpr ts None ts
    none_expr ts = refl

    none_simple : (ts : Tokens) → MaybeSimple ts None ts
    none_simple ts = refl

module _ (room : ℕ) (hi : Inner room) where
  block_from_grows : (l : Bool) (count : ℕ) (found : List Statement) (ts : Tokens) → AreTokens ts → Grows (λ _ _ d. Blocks l ts d) (Blocks l ts) (block_from room (statement room) l count found ts) ts
  unfolding block_from
  block_from_grows l zero found ts a =
      refuse_grows {A = List Statement} (λ _ _ d. Blocks l ts d) (Blocks l ts) ts a
      (record { more = λ w. madeof (kinds.Sign signs.BraceClose) ∷ w; good = good_token (kinds.Sign signs.BraceClose) tt; is = closed l ts (madeof (kinds.Sign signs.BraceClose)) refl })
  block_from_grows l (suc count) found ts a =
      eat_grows (λ _ _ d. Blocks l ts d) (Blocks l ts) signs.BraceClose (pure_rule found) (statement room l >>= λ x. block_from room (statement room) l count (found ++ x ∷ [])) ts a
      (λ t is b. pure_grows (λ _ _ d. Blocks l ts (λ w. t ∷ d w)) (λ d. Blocks l ts (λ w. t ∷ d w)) found (next ts) b (closed l ts t is))
      (λ none. then_grows (λ _ us d. Statements l us d) (Statements l brace) (λ _ _ d. Blocks l ts d) (Blocks l ts) (statement room l ts) (λ x. block_from room (statement room) l count (found ++ x ∷ [])) ts (hi l ts a)
      (λ x us d b h. map_grows (λ _ _ c. Blocks l us c) (λ _ _ c. Blocks l ts (λ w. d (c w))) (Blocks l us) (λ c. Blocks l ts (λ w. d (c w))) (block_from room (statement room) l count (found ++ x ∷ []) us) us
      (block_from_grows l count (found ++ x ∷ []) us b) (λ _ _ c i. one_more l ts us d c none h i) (λ c i. one_more l ts us d c none h i))
      (λ d h. record { more = λ w. madeof (kinds.Sign signs.BraceClose) ∷ w; good = good_token (kinds.Sign signs.BraceClose) tt; is = one_more l ts brace d (λ w. madeof (kinds.Sign signs.BraceClose) ∷ w) none h (closed l brace (madeof (kinds.Sign signs.BraceClose)) refl) }))

  pub block_grows : (l : Bool) (ts : Tokens) → AreTokens ts → Grows (λ _ _ d. Spells (AreStatements l) Always d) (Spells (AreStatements l) Always) (block_rule room (statement room) l ts) ts
  unfolding block_rule
  block_grows l ts a =
      map_grows (λ _ _ d. Blocks l ts d) (λ _ _ d. Spells (AreStatements l) Always d) (Blocks l ts) (Spells (AreStatements l) Always) (block_from room (statement room) l (turns ts) [] ts) ts (block_from_grows l (turns ts) [] ts a)
      (λ _ _ d b. b.spells) (λ d b. b.spells)

  -- what is read of an `else`
  record Otherwise (l : Bool) (ts us : Tokens) (d : Front) : Type 0 where
    spells : Spells (IsOtherwise l) (May us) d
    may : (w : Tokens) → Full w → May us w → May ts (d w)

  none_other : (l : Bool) (ts : Tokens) → sees_word words.Else ts ≡ false → Otherwise l ts ts (λ w. w)
  none_other l ts none = record {
    spells = record { any = λ us f c. record { tree = _; is = g.no_else (c.0 none) }; full = λ us f. f };
    may = λ w f c. c;
  }

  brace_none : sees_word words.Else brace ≡ false
  unfolding sees_word kind
  brace_none = refl

  some_other : (l : Bool) (ts us : Tokens) (t : Token) (d : Front) → sees_word words.Else ts ≡ true → t.kind ≡ kinds.Word words.Else → Statements l us d → Otherwise l ts us (λ w. t ∷ d w)
  some_other l ts us t d sees_it is h =
      let o : One (kinds.Word words.Else) (λ w. t ∷ w) = one_token t (kinds.Word words.Else) is in
      record {
        spells = record { any = λ ws f c. record { tree = _; is = g.other (o.any (d ws) (h.full ws f) tt).is (h.any ws f c).is }; full = λ ws f. tt };
        may = λ w f c. ((λ z. absurd (true≢false (sym sees_it ∙ z))), (λ z. absurd (else_token ts sees_it z)));
      }

  otherwise_grows : (l : Bool) (ts : Tokens) → AreTokens ts → Grows (λ _ us d. Otherwise l ts us d) (Otherwise l ts brace) (else_rule room (statement room) l ts) ts
  unfolding else_rule
  otherwise_grows l ts a =
      eat_word_grows (λ _ us d. Otherwise l ts us d) (Otherwise l ts brace) words.Else (statement room l >>= λ x. pure_rule (Some x)) (pure_rule None) ts a
      (λ t seen e z. then_grows (λ _ us d. Statements l us d) (Statements l brace) (λ _ us c. Otherwise l ts us (λ w. t ∷ c w)) (λ c. Otherwise l ts brace (λ w. t ∷ c w)) (statement room l (next ts)) (λ x. pure_rule (Some x)) (next ts) (hi l (next ts) z)
      (λ x us d y h. pure_grows (λ _ vs c. Otherwise l ts vs (λ w. t ∷ d (c w))) (λ c. Otherwise l ts brace (λ w. t ∷ d (c w))) (Some x) us y (some_other l ts us t d seen e h))
      (λ d h. record { more = λ w. w; good = λ w q. q; is = some_other l ts brace t d seen e h }))
      (λ none. pure_grows {A = Option Statement} (λ _ us d. Otherwise l ts us d) (Otherwise l ts brace) None ts a (none_other l ts none))

  choose_grows : (p : Place) (l : Bool) (ts : Tokens) → kind ts ≡ kinds.Word words.If → AreTokens ts → Grows (λ _ us d. Statements l us d) (Statements l brace) (if_rule room (statement room) p l ts) ts
  unfolding if_rule
  choose_grows p l ts is a = behind_grows (λ _ vs c. Spells (IsStatement l) (May vs) (λ w. (c w))) (λ c. Spells (IsStatement l) (May brace) (λ w. (c w))) ts (kinds.Word words.If) is (λ l. l) a (((expect signs.ParenOpen >>= λ _. (expr room >>= λ condition. (expect signs.ParenClose >>= λ _. (statement room l >>= λ first. (else_rule room (statement room) l >>= λ others. pure_rule (s.If p condition first others))))))) (next ts)) (λ t19 e19 b19. then_grows (λ _ _ c. One (kinds.Sign (signs.ParenOpen)) c) (One (kinds.Sign (signs.ParenOpen))) (λ _ vs c. Spells (IsStatement l) (May vs) (λ w. (t19 ∷ (c w)))) (λ c. Spells (IsStatement l) (May brace) (λ w. (t19 ∷ (c w)))) ((expect signs.ParenOpen) (next ts)) (λ _. (expr room >>= λ condition. (expect signs.ParenClose >>= λ _. (statement room l >>= λ first. (else_rule room (statement room) l >>= λ others. pure_rule (s.If p condition first others)))))) (next ts) (expect_grows (signs.ParenOpen) (next ts) b19) (λ _ us20 d20 b20 h20. then_grows (λ _ _ c. Spells IsExpr Always c) (Spells IsExpr Always) (λ _ vs c. Spells (IsStatement l) (May vs) (λ w. (t19 ∷ (d20 (c w))))) (λ c. Spells (IsStatement l) (May brace) (λ w. (t19 ∷ (d20 (c w))))) ((expr room) us20) (λ condition. (expect signs.ParenClose >>= λ _. (statement room l >>= λ first. (else_rule room (statement room) l >>= λ others. pure_rule (s.If p condition first others))))) us20 (an_expr room us20 b20) (λ condition us21 d21 b21 h21. then_grows (λ _ _ c. One (kinds.Sign (signs.ParenClose)) c) (One (kinds.Sign (signs.ParenClose))) (λ _ vs c. Spells (IsStatement l) (May vs) (λ w. (t19 ∷ (d20 (d21 (c w)))))) (λ c. Spells (IsStatement l) (May brace) (λ w. (t19 ∷ (d20 (d21 (c w)))))) ((expect signs.ParenClose) us21) (λ _. (statement room l >>= λ first. (else_rule room (statement room) l >>= λ others. pure_rule (s.If p condition first others)))) us21 (expect_grows (signs.ParenClose) us21 b21) (λ _ us22 d22 b22 h22. then_grows (λ _ vs c. Spells (IsStatement l) (May vs) c) (Spells (IsStatement l) (May brace)) (λ _ vs c. Spells (IsStatement l) (May vs) (λ w. (t19 ∷ (d20 (d21 (d22 (c w))))))) (λ c. Spells (IsStatement l) (May brace) (λ w. (t19 ∷ (d20 (d21 (d22 (c w))))))) ((statement room l) us22) (λ first. (else_rule room (statement room) l >>= λ others. pure_rule (s.If p condition first others))) us22 (hi l us22 b22) (λ first us23 d23 b23 h23. then_grows (λ _ vs c. Otherwise l us23 vs c) (Otherwise l us23 brace) (λ _ vs c. Spells (IsStatement l) (May vs) (λ w. (t19 ∷ (d20 (d21 (d22 (d23 (c w)))))))) (λ c. Spells (IsStatement l) (May brace) (λ w. (t19 ∷ (d20 (d21 (d22 (d23 (c w)))))))) ((else_rule room (statement room) l) us23) (λ others. pure_rule (s.If p condition first others)) us23 (otherwise_grows l us23 b23) (λ others us24 d24 b24 h24. pure_grows (λ _ vs c. Spells (IsStatement l) (May vs) (λ w. (t19 ∷ (d20 (d21 (d22 (d23 (d24 (c w))))))))) (λ c. Spells (IsStatement l) (May brace) (λ w. (t19 ∷ (d20 (d21 (d22 (d23 (d24 (c w))))))))) (s.If p condition first others) us24 b24 (record { any = λ ws f c. record { tree = _; is = g.choose (((one_token t19 (kinds.Word words.If) e19).any (d20 (d21 (d22 (d23 (d24 ws))))) (h20.full (d21 (d22 (d23 (d24 ws)))) (h21.full (d22 (d23 (d24 ws))) (h22.full (d23 (d24 ws)) (h23.full (d24 ws) (h24.spells.full ws f))))) tt).is) ((h20.any (d21 (d22 (d23 (d24 ws)))) (h21.full (d22 (d23 (d24 ws))) (h22.full (d23 (d24 ws)) (h23.full (d24 ws) (h24.spells.full ws f)))) tt).is) ((h21.any (d22 (d23 (d24 ws))) (h22.full (d23 (d24 ws)) (h23.full (d24 ws) (h24.spells.full ws f))) tt).is) ((h22.any (d23 (d24 ws)) (h23.full (d24 ws) (h24.spells.full ws f)) tt).is) ((h23.any (d24 ws) (h24.spells.full ws f) (h24.may ws f c)).is) ((h24.spells.any ws f c).is) }; full = λ ws f. ((one_token t19 (kinds.Word words.If) e19).full (d20 (d21 (d22 (d23 (d24 ws))))) (h20.full (d21 (d22 (d23 (d24 ws)))) (h21.full (d22 (d23 (d24 ws))) (h22.full (d23 (d24 ws)) (h23.full (d24 ws) (h24.spells.full ws f)))))) })) (λ d24 h24. record { more = λ w. w; good = λ w z. z; is = record { any = λ ws f c. record { tree = _; is = g.choose (((one_token t19 (kinds.Word words.If) e19).any (d20 (d21 (d22 (d23 (d24 ws))))) (h20.full (d21 (d22 (d23 (d24 ws)))) (h21.full (d22 (d23 (d24 ws))) (h22.full (d23 (d24 ws)) (h23.full (d24 ws) (h24.spells.full ws f))))) tt).is) ((h20.any (d21 (d22 (d23 (d24 ws)))) (h21.full (d22 (d23 (d24 ws))) (h22.full (d23 (d24 ws)) (h23.full (d24 ws) (h24.spells.full ws f)))) tt).is) ((h21.any (d22 (d23 (d24 ws))) (h22.full (d23 (d24 ws)) (h23.full (d24 ws) (h24.spells.full ws f))) tt).is) ((h22.any (d23 (d24 ws)) (h23.full (d24 ws) (h24.spells.full ws f)) tt).is) ((h23.any (d24 ws) (h24.spells.full ws f) (h24.may ws f c)).is) ((h24.spells.any ws f c).is) }; full = λ ws f. ((one_token t19 (kinds.Word words.If) e19).full (d20 (d21 (d22 (d23 (d24 ws))))) (h20.full (d21 (d22 (d23 (d24 ws)))) (h21.full (d22 (d23 (d24 ws))) (h22.full (d23 (d24 ws)) (h23.full (d24 ws) (h24.spells.full ws f)))))) } })) (λ d23 h23. record { more = λ w. w; good = λ w z. z; is = record { any = λ ws f c. record { tree = _; is = g.choose (((one_token t19 (kinds.Word words.If) e19).any (d20 (d21 (d22 (d23 ws)))) (h20.full (d21 (d22 (d23 ws))) (h21.full (d22 (d23 ws)) (h22.full (d23 ws) (h23.full ws ((none_other l brace brace_none).spells.full ws f))))) tt).is) ((h20.any (d21 (d22 (d23 ws))) (h21.full (d22 (d23 ws)) (h22.full (d23 ws) (h23.full ws ((none_other l brace brace_none).spells.full ws f)))) tt).is) ((h21.any (d22 (d23 ws)) (h22.full (d23 ws) (h23.full ws ((none_other l brace brace_none).spells.full ws f))) tt).is) ((h22.any (d23 ws) (h23.full ws ((none_other l brace brace_none).spells.full ws f)) tt).is) ((h23.any ws ((none_other l brace brace_none).spells.full ws f) ((none_other l brace brace_none).may ws f c)).is) (((none_other l brace brace_none).spells.any ws f c).is) }; full = λ ws f. ((one_token t19 (kinds.Word words.If) e19).full (d20 (d21 (d22 (d23 ws)))) (h20.full (d21 (d22 (d23 ws))) (h21.full (d22 (d23 ws)) (h22.full (d23 ws) (h23.full ws ((none_other l brace brace_none).spells.full ws f)))))) } })) (λ d22 h22. record { more = λ w. (madeof (kinds.Sign signs.Semicolon) ∷ w); good = λ w z. (good_token (kinds.Sign signs.Semicolon) tt w z); is = record { any = λ ws f c. record { tree = _; is = g.choose (((one_token t19 (kinds.Word words.If) e19).any (d20 (d21 (d22 (madeof (kinds.Sign signs.Semicolon) ∷ ws)))) (h20.full (d21 (d22 (madeof (kinds.Sign signs.Semicolon) ∷ ws))) (h21.full (d22 (madeof (kinds.Sign signs.Semicolon) ∷ ws)) (h22.full (madeof (kinds.Sign signs.Semicolon) ∷ ws) ((empty_statement l).full ws ((none_other l brace brace_none).spells.full ws f))))) tt).is) ((h20.any (d21 (d22 (madeof (kinds.Sign signs.Semicolon) ∷ ws))) (h21.full (d22 (madeof (kinds.Sign signs.Semicolon) ∷ ws)) (h22.full (madeof (kinds.Sign signs.Semicolon) ∷ ws) ((empty_statement l).full ws ((none_other l brace brace_none).spells.full ws f)))) tt).is) ((h21.any (d22 (madeof (kinds.Sign signs.Semicolon) ∷ ws)) (h22.full (madeof (kinds.Sign signs.Semicolon) ∷ ws) ((empty_statement l).full ws ((none_other l brace brace_none).spells.full ws f))) tt).is) ((h22.any (madeof (kinds.Sign signs.Semicolon) ∷ ws) ((empty_statement l).full ws ((none_other l brace brace_none).spells.full ws f)) tt).is) (((empty_statement l).any ws ((none_other l brace brace_none).spells.full ws f) ((none_other l brace brace_none).may ws f c)).is) (((none_other l brace brace_none).spells.any ws f c).is) }; full = λ ws f. ((one_token t19 (kinds.Word words.If) e19).full (d20 (d21 (d22 (madeof (kinds.Sign signs.Semicolon) ∷ ws)))) (h20.full (d21 (d22 (madeof (kinds.Sign signs.Semicolon) ∷ ws))) (h21.full (d22 (madeof (kinds.Sign signs.Semicolon) ∷ ws)) (h22.full (madeof (kinds.Sign signs.Semicolon) ∷ ws) ((empty_statement l).full ws ((none_other l brace brace_none).spells.full ws f)))))) } })) (λ d21 h21. record { more = λ w. (madeof (kinds.Sign (signs.ParenClose)) ∷ (madeof (kinds.Sign signs.Semicolon) ∷ w)); good = λ w z. (good_token (kinds.Sign (signs.ParenClose)) tt (madeof (kinds.Sign signs.Semicolon) ∷ w) (good_token (kinds.Sign signs.Semicolon) tt w z)); is = record { any = λ ws f c. record { tree = _; is = g.choose (((one_token t19 (kinds.Word words.If) e19).any (d20 (d21 (madeof (kinds.Sign (signs.ParenClose)) ∷ (madeof (kinds.Sign signs.Semicolon) ∷ ws)))) (h20.full (d21 (madeof (kinds.Sign (signs.ParenClose)) ∷ (madeof (kinds.Sign signs.Semicolon) ∷ ws))) (h21.full (madeof (kinds.Sign (signs.ParenClose)) ∷ (madeof (kinds.Sign signs.Semicolon) ∷ ws)) ((one_made (kinds.Sign (signs.ParenClose))).full (madeof (kinds.Sign signs.Semicolon) ∷ ws) ((empty_statement l).full ws ((none_other l brace brace_none).spells.full ws f))))) tt).is) ((h20.any (d21 (madeof (kinds.Sign (signs.ParenClose)) ∷ (madeof (kinds.Sign signs.Semicolon) ∷ ws))) (h21.full (madeof (kinds.Sign (signs.ParenClose)) ∷ (madeof (kinds.Sign signs.Semicolon) ∷ ws)) ((one_made (kinds.Sign (signs.ParenClose))).full (madeof (kinds.Sign signs.Semicolon) ∷ ws) ((empty_statement l).full ws ((none_other l brace brace_none).spells.full ws f)))) tt).is) ((h21.any (madeof (kinds.Sign (signs.ParenClose)) ∷ (madeof (kinds.Sign signs.Semicolon) ∷ ws)) ((one_made (kinds.Sign (signs.ParenClose))).full (madeof (kinds.Sign signs.Semicolon) ∷ ws) ((empty_statement l).full ws ((none_other l brace brace_none).spells.full ws f))) tt).is) (((one_made (kinds.Sign (signs.ParenClose))).any (madeof (kinds.Sign signs.Semicolon) ∷ ws) ((empty_statement l).full ws ((none_other l brace brace_none).spells.full ws f)) tt).is) (((empty_statement l).any ws ((none_other l brace brace_none).spells.full ws f) ((none_other l brace brace_none).may ws f c)).is) (((none_other l brace brace_none).spells.any ws f c).is) }; full = λ ws f. ((one_token t19 (kinds.Word words.If) e19).full (d20 (d21 (madeof (kinds.Sign (signs.ParenClose)) ∷ (madeof (kinds.Sign signs.Semicolon) ∷ ws)))) (h20.full (d21 (madeof (kinds.Sign (signs.ParenClose)) ∷ (madeof (kinds.Sign signs.Semicolon) ∷ ws))) (h21.full (madeof (kinds.Sign (signs.ParenClose)) ∷ (madeof (kinds.Sign signs.Semicolon) ∷ ws)) ((one_made (kinds.Sign (signs.ParenClose))).full (madeof (kinds.Sign signs.Semicolon) ∷ ws) ((empty_statement l).full ws ((none_other l brace brace_none).spells.full ws f)))))) } })) (λ d20 h20. record { more = λ w. (madeof (kinds.Word words.Null) ∷ (madeof (kinds.Sign (signs.ParenClose)) ∷ (madeof (kinds.Sign signs.Semicolon) ∷ w))); good = λ w z. (good_token (kinds.Word words.Null) tt (madeof (kinds.Sign (signs.ParenClose)) ∷ (madeof (kinds.Sign signs.Semicolon) ∷ w)) (good_token (kinds.Sign (signs.ParenClose)) tt (madeof (kinds.Sign signs.Semicolon) ∷ w) (good_token (kinds.Sign signs.Semicolon) tt w z))); is = record { any = λ ws f c. record { tree = _; is = g.choose (((one_token t19 (kinds.Word words.If) e19).any (d20 (madeof (kinds.Word words.Null) ∷ (madeof (kinds.Sign (signs.ParenClose)) ∷ (madeof (kinds.Sign signs.Semicolon) ∷ ws)))) (h20.full (madeof (kinds.Word words.Null) ∷ (madeof (kinds.Sign (signs.ParenClose)) ∷ (madeof (kinds.Sign signs.Semicolon) ∷ ws))) (null_expr.full (madeof (kinds.Sign (signs.ParenClose)) ∷ (madeof (kinds.Sign signs.Semicolon) ∷ ws)) ((one_made (kinds.Sign (signs.ParenClose))).full (madeof (kinds.Sign signs.Semicolon) ∷ ws) ((empty_statement l).full ws ((none_other l brace brace_none).spells.full ws f))))) tt).is) ((h20.any (madeof (kinds.Word words.Null) ∷ (madeof (kinds.Sign (signs.ParenClose)) ∷ (madeof (kinds.Sign signs.Semicolon) ∷ ws))) (null_expr.full (madeof (kinds.Sign (signs.ParenClose)) ∷ (madeof (kinds.Sign signs.Semicolon) ∷ ws)) ((one_made (kinds.Sign (signs.ParenClose))).full (madeof (kinds.Sign signs.Semicolon) ∷ ws) ((empty_statement l).full ws ((none_other l brace brace_none).spells.full ws f)))) tt).is) ((null_expr.any (madeof (kinds.Sign (signs.ParenClose)) ∷ (madeof (kinds.Sign signs.Semicolon) ∷ ws)) ((one_made (kinds.Sign (signs.ParenClose))).full (madeof (kinds.Sign signs.Semicolon) ∷ ws) ((empty_statement l).full ws ((none_other l brace brace_none).spells.full ws f))) tt).is) (((one_made (kinds.Sign (signs.ParenClose))).any (madeof (kinds.Sign signs.Semicolon) ∷ ws) ((empty_statement l).full ws ((none_other l brace brace_none).spells.full ws f)) tt).is) (((empty_statement l).any ws ((none_other l brace brace_none).spells.full ws f) ((none_other l brace brace_none).may ws f c)).is) (((none_other l brace brace_none).spells.any ws f c).is) }; full = λ ws f. ((one_token t19 (kinds.Word words.If) e19).full (d20 (madeof (kinds.Word words.Null) ∷ (madeof (kinds.Sign (signs.ParenClose)) ∷ (madeof (kinds.Sign signs.Semicolon) ∷ ws)))) (h20.full (madeof (kinds.Word words.Null) ∷ (madeof (kinds.Sign (signs.ParenClose)) ∷ (madeof (kinds.Sign signs.Semicolon) ∷ ws))) (null_expr.full (madeof (kinds.Sign (signs.ParenClose)) ∷ (madeof (kinds.Sign signs.Semicolon) ∷ ws)) ((one_made (kinds.Sign (signs.ParenClose))).full (madeof (kinds.Sign signs.Semicolon) ∷ ws) ((empty_statement l).full ws ((none_other l brace brace_none).spells.full ws f)))))) } }))

  repeat_grows : (p : Place) (begins : Option Start) (ts : Tokens) → AreTokens ts → Grows (λ _ us d. Spells CountRest (May us) d) (Spells CountRest (May brace)) (repeat room (statement room) p begins ts) ts
  unfolding repeat
  repeat_grows p begins ts a = then_grows (λ _ _ c. One (kinds.Sign (signs.Semicolon)) c) (One (kinds.Sign (signs.Semicolon))) (λ _ vs c. Spells CountRest (May vs) (λ w. (c w))) (λ c. Spells CountRest (May brace) (λ w. (c w))) ((expect signs.Semicolon) ts) (λ _. (expr_unless room signs.Semicolon >>= λ condition. (expect signs.Semicolon >>= λ _. (simple_unless room signs.ParenClose >>= λ last. (expect signs.ParenClose >>= λ _. (statement room true >>= λ body. pure_rule (s.For p begins condition last body))))))) ts (expect_grows (signs.Semicolon) ts a) (λ _ us25 d25 b25 h25. then_grows (λ _ _ c. Spells MaybeExpr Always c) (Spells MaybeExpr Always) (λ _ vs c. Spells CountRest (May vs) (λ w. (d25 (c w)))) (λ c. Spells CountRest (May brace) (λ w. (d25 (c w)))) ((expr_unless room signs.Semicolon) us25) (λ condition. (expect signs.Semicolon >>= λ _. (simple_unless room signs.ParenClose >>= λ last. (expect signs.ParenClose >>= λ _. (statement room true >>= λ body. pure_rule (s.For p begins condition last body)))))) us25 (expr_unless_grows room signs.Semicolon us25 b25) (λ condition us26 d26 b26 h26. then_grows (λ _ _ c. One (kinds.Sign (signs.Semicolon)) c) (One (kinds.Sign (signs.Semicolon))) (λ _ vs c. Spells CountRest (May vs) (λ w. (d25 (d26 (c w))))) (λ c. Spells CountRest (May brace) (λ w. (d25 (d26 (c w))))) ((expect signs.Semicolon) us26) (λ _. (simple_unless room signs.ParenClose >>= λ last. (expect signs.ParenClose >>= λ _. (statement room true >>= λ body. pure_rule (s.For p begins condition last body))))) us26 (expect_grows (signs.Semicolon) us26 b26) (λ _ us27 d27 b27 h27. then_grows (λ _ _ c. Spells MaybeSimple Always c) (Spells MaybeSimple Always) (λ _ vs c. Spells CountRest (May vs) (λ w. (d25 (d26 (d27 (c w)))))) (λ c. Spells CountRest (May brace) (λ w. (d25 (d26 (d27 (c w)))))) ((simple_unless room signs.ParenClose) us27) (λ last. (expect signs.ParenClose >>= λ _. (statement room true >>= λ body. pure_rule (s.For p begins condition last body)))) us27 (simple_unless_grows room signs.ParenClose us27 b27) (λ last us28 d28 b28 h28. then_grows (λ _ _ c. One (kinds.Sign (signs.ParenClose)) c) (One (kinds.Sign (signs.ParenClose))) (λ _ vs c. Spells CountRest (May vs) (λ w. (d25 (d26 (d27 (d28 (c w))))))) (λ c. Spells CountRest (May brace) (λ w. (d25 (d26 (d27 (d28 (c w))))))) ((expect signs.ParenClose) us28) (λ _. (statement room true >>= λ body. pure_rule (s.For p begins condition last body))) us28 (expect_grows (signs.ParenClose) us28 b28) (λ _ us29 d29 b29 h29. then_grows (λ _ vs c. Spells (IsStatement true) (May vs) c) (Spells (IsStatement true) (May brace)) (λ _ vs c. Spells CountRest (May vs) (λ w. (d25 (d26 (d27 (d28 (d29 (c w)))))))) (λ c. Spells CountRest (May brace) (λ w. (d25 (d26 (d27 (d28 (d29 (c w)))))))) ((statement room true) us29) (λ body. pure_rule (s.For p begins condition last body)) us29 (hi true us29 b29) (λ body us30 d30 b30 h30. pure_grows (λ _ vs c. Spells CountRest (May vs) (λ w. (d25 (d26 (d27 (d28 (d29 (d30 (c w))))))))) (λ c. Spells CountRest (May brace) (λ w. (d25 (d26 (d27 (d28 (d29 (d30 (c w))))))))) (s.For p begins condition last body) us30 b30 (record { any = λ ws f c. record { tree = tt; is = count_rest (h26.any (d27 (d28 (d29 (d30 ws)))) (h27.full (d28 (d29 (d30 ws))) (h28.full (d29 (d30 ws)) (h29.full (d30 ws) (h30.full ws f)))) tt).tree (h28.any (d29 (d30 ws)) (h29.full (d30 ws) (h30.full ws f)) tt).tree ((h25.any (d26 (d27 (d28 (d29 (d30 ws))))) (h26.full (d27 (d28 (d29 (d30 ws)))) (h27.full (d28 (d29 (d30 ws))) (h28.full (d29 (d30 ws)) (h29.full (d30 ws) (h30.full ws f))))) tt).is) ((h26.any (d27 (d28 (d29 (d30 ws)))) (h27.full (d28 (d29 (d30 ws))) (h28.full (d29 (d30 ws)) (h29.full (d30 ws) (h30.full ws f)))) tt).is) ((h27.any (d28 (d29 (d30 ws))) (h28.full (d29 (d30 ws)) (h29.full (d30 ws) (h30.full ws f))) tt).is) ((h28.any (d29 (d30 ws)) (h29.full (d30 ws) (h30.full ws f)) tt).is) ((h29.any (d30 ws) (h30.full ws f) tt).is) ((h30.any ws f c).is) }; full = λ ws f. (h25.full (d26 (d27 (d28 (d29 (d30 ws))))) (h26.full (d27 (d28 (d29 (d30 ws)))) (h27.full (d28 (d29 (d30 ws))) (h28.full (d29 (d30 ws)) (h29.full (d30 ws) (h30.full ws f)))))) })) (λ d30 h30. record { more = λ w. w; good = λ w z. z; is = record { any = λ ws f c. record { tree = tt; is = count_rest (h26.any (d27 (d28 (d29 (d30 ws)))) (h27.full (d28 (d29 (d30 ws))) (h28.full (d29 (d30 ws)) (h29.full (d30 ws) (h30.full ws f)))) tt).tree (h28.any (d29 (d30 ws)) (h29.full (d30 ws) (h30.full ws f)) tt).tree ((h25.any (d26 (d27 (d28 (d29 (d30 ws))))) (h26.full (d27 (d28 (d29 (d30 ws)))) (h27.full (d28 (d29 (d30 ws))) (h28.full (d29 (d30 ws)) (h29.full (d30 ws) (h30.full ws f))))) tt).is) ((h26.any (d27 (d28 (d29 (d30 ws)))) (h27.full (d28 (d29 (d30 ws))) (h28.full (d29 (d30 ws)) (h29.full (d30 ws) (h30.full ws f)))) tt).is) ((h27.any (d28 (d29 (d30 ws))) (h28.full (d29 (d30 ws)) (h29.full (d30 ws) (h30.full ws f))) tt).is) ((h28.any (d29 (d30 ws)) (h29.full (d30 ws) (h30.full ws f)) tt).is) ((h29.any (d30 ws) (h30.full ws f) tt).is) ((h30.any ws f c).is) }; full = λ ws f. (h25.full (d26 (d27 (d28 (d29 (d30 ws))))) (h26.full (d27 (d28 (d29 (d30 ws)))) (h27.full (d28 (d29 (d30 ws))) (h28.full (d29 (d30 ws)) (h29.full (d30 ws) (h30.full ws f)))))) } })) (λ d29 h29. record { more = λ w. (madeof (kinds.Sign signs.Semicolon) ∷ w); good = λ w z. (good_token (kinds.Sign signs.Semicolon) tt w z); is = record { any = λ ws f c. record { tree = tt; is = count_rest (h26.any (d27 (d28 (d29 (madeof (kinds.Sign signs.Semicolon) ∷ ws)))) (h27.full (d28 (d29 (madeof (kinds.Sign signs.Semicolon) ∷ ws))) (h28.full (d29 (madeof (kinds.Sign signs.Semicolon) ∷ ws)) (h29.full (madeof (kinds.Sign signs.Semicolon) ∷ ws) ((empty_statement true).full ws f)))) tt).tree (h28.any (d29 (madeof (kinds.Sign signs.Semicolon) ∷ ws)) (h29.full (madeof (kinds.Sign signs.Semicolon) ∷ ws) ((empty_statement true).full ws f)) tt).tree ((h25.any (d26 (d27 (d28 (d29 (madeof (kinds.Sign signs.Semicolon) ∷ ws))))) (h26.full (d27 (d28 (d29 (madeof (kinds.Sign signs.Semicolon) ∷ ws)))) (h27.full (d28 (d29 (madeof (kinds.Sign signs.Semicolon) ∷ ws))) (h28.full (d29 (madeof (kinds.Sign signs.Semicolon) ∷ ws)) (h29.full (madeof (kinds.Sign signs.Semicolon) ∷ ws) ((empty_statement true).full ws f))))) tt).is) ((h26.any (d27 (d28 (d29 (madeof (kinds.Sign signs.Semicolon) ∷ ws)))) (h27.full (d28 (d29 (madeof (kinds.Sign signs.Semicolon) ∷ ws))) (h28.full (d29 (madeof (kinds.Sign signs.Semicolon) ∷ ws)) (h29.full (madeof (kinds.Sign signs.Semicolon) ∷ ws) ((empty_statement true).full ws f)))) tt).is) ((h27.any (d28 (d29 (madeof (kinds.Sign signs.Semicolon) ∷ ws))) (h28.full (d29 (madeof (kinds.Sign signs.Semicolon) ∷ ws)) (h29.full (madeof (kinds.Sign signs.Semicolon) ∷ ws) ((empty_statement true).full ws f))) tt).is) ((h28.any (d29 (madeof (kinds.Sign signs.Semicolon) ∷ ws)) (h29.full (madeof (kinds.Sign signs.Semicolon) ∷ ws) ((empty_statement true).full ws f)) tt).is) ((h29.any (madeof (kinds.Sign signs.Semicolon) ∷ ws) ((empty_statement true).full ws f) tt).is) (((empty_statement true).any ws f c).is) }; full = λ ws f. (h25.full (d26 (d27 (d28 (d29 (madeof (kinds.Sign signs.Semicolon) ∷ ws))))) (h26.full (d27 (d28 (d29 (madeof (kinds.Sign signs.Semicolon) ∷ ws)))) (h27.full (d28 (d29 (madeof (kinds.Sign signs.Semicolon) ∷ ws))) (h28.full (d29 (madeof (kinds.Sign signs.Semicolon) ∷ ws)) (h29.full (madeof (kinds.Sign signs.Semicolon) ∷ ws) ((empty_statement true).full ws f)))))) } })) (λ d28 h28. record { more = λ w. (madeof (kinds.Sign (signs.ParenClose)) ∷ (madeof (kinds.Sign signs.Semicolon) ∷ w)); good = λ w z. (good_token (kinds.Sign (signs.ParenClose)) tt (madeof (kinds.Sign signs.Semicolon) ∷ w) (good_token (kinds.Sign signs.Semicolon) tt w z)); is = record { any = λ ws f c. record { tree = tt; is = count_rest (h26.any (d27 (d28 (madeof (kinds.Sign (signs.ParenClose)) ∷ (madeof (kinds.Sign signs.Semicolon) ∷ ws)))) (h27.full (d28 (madeof (kinds.Sign (signs.ParenClose)) ∷ (madeof (kinds.Sign signs.Semicolon) ∷ ws))) (h28.full (madeof (kinds.Sign (signs.ParenClose)) ∷ (madeof (kinds.Sign signs.Semicolon) ∷ ws)) ((one_made (kinds.Sign (signs.ParenClose))).full (madeof (kinds.Sign signs.Semicolon) ∷ ws) ((empty_statement true).full ws f)))) tt).tree (h28.any (madeof (kinds.Sign (signs.ParenClose)) ∷ (madeof (kinds.Sign signs.Semicolon) ∷ ws)) ((one_made (kinds.Sign (signs.ParenClose))).full (madeof (kinds.Sign signs.Semicolon) ∷ ws) ((empty_statement true).full ws f)) tt).tree ((h25.any (d26 (d27 (d28 (madeof (kinds.Sign (signs.ParenClose)) ∷ (madeof (kinds.Sign signs.Semicolon) ∷ ws))))) (h26.full (d27 (d28 (madeof (kinds.Sign (signs.ParenClose)) ∷ (madeof (kinds.Sign signs.Semicolon) ∷ ws)))) (h27.full (d28 (madeof (kinds.Sign (signs.ParenClose)) ∷ (madeof (kinds.Sign signs.Semicolon) ∷ ws))) (h28.full (madeof (kinds.Sign (signs.ParenClose)) ∷ (madeof (kinds.Sign signs.Semicolon) ∷ ws)) ((one_made (kinds.Sign (signs.ParenClose))).full (madeof (kinds.Sign signs.Semicolon) ∷ ws) ((empty_statement true).full ws f))))) tt).is) ((h26.any (d27 (d28 (madeof (kinds.Sign (signs.ParenClose)) ∷ (madeof (kinds.Sign signs.Semicolon) ∷ ws)))) (h27.full (d28 (madeof (kinds.Sign (signs.ParenClose)) ∷ (madeof (kinds.Sign signs.Semicolon) ∷ ws))) (h28.full (madeof (kinds.Sign (signs.ParenClose)) ∷ (madeof (kinds.Sign signs.Semicolon) ∷ ws)) ((one_made (kinds.Sign (signs.ParenClose))).full (madeof (kinds.Sign signs.Semicolon) ∷ ws) ((empty_statement true).full ws f)))) tt).is) ((h27.any (d28 (madeof (kinds.Sign (signs.ParenClose)) ∷ (madeof (kinds.Sign signs.Semicolon) ∷ ws))) (h28.full (madeof (kinds.Sign (signs.ParenClose)) ∷ (madeof (kinds.Sign signs.Semicolon) ∷ ws)) ((one_made (kinds.Sign (signs.ParenClose))).full (madeof (kinds.Sign signs.Semicolon) ∷ ws) ((empty_statement true).full ws f))) tt).is) ((h28.any (madeof (kinds.Sign (signs.ParenClose)) ∷ (madeof (kinds.Sign signs.Semicolon) ∷ ws)) ((one_made (kinds.Sign (signs.ParenClose))).full (madeof (kinds.Sign signs.Semicolon) ∷ ws) ((empty_statement true).full ws f)) tt).is) (((one_made (kinds.Sign (signs.ParenClose))).any (madeof (kinds.Sign signs.Semicolon) ∷ ws) ((empty_statement true).full ws f) tt).is) (((empty_statement true).any ws f c).is) }; full = λ ws f. (h25.full (d26 (d27 (d28 (madeof (kinds.Sign (signs.ParenClose)) ∷ (madeof (kinds.Sign signs.Semicolon) ∷ ws))))) (h26.full (d27 (d28 (madeof (kinds.Sign (signs.ParenClose)) ∷ (madeof (kinds.Sign signs.Semicolon) ∷ ws)))) (h27.full (d28 (madeof (kinds.Sign (signs.ParenClose)) ∷ (madeof (kinds.Sign signs.Semicolon) ∷ ws))) (h28.full (madeof (kinds.Sign (signs.ParenClose)) ∷ (madeof (kinds.Sign signs.Semicolon) ∷ ws)) ((one_made (kinds.Sign (signs.ParenClose))).full (madeof (kinds.Sign signs.Semicolon) ∷ ws) ((empty_statement true).full ws f)))))) } })) (λ d27 h27. record { more = λ w. (madeof (kinds.Sign (signs.ParenClose)) ∷ (madeof (kinds.Sign signs.Semicolon) ∷ w)); good = λ w z. (good_token (kinds.Sign (signs.ParenClose)) tt (madeof (kinds.Sign signs.Semicolon) ∷ w) (good_token (kinds.Sign signs.Semicolon) tt w z)); is = record { any = λ ws f c. record { tree = tt; is = count_rest (h26.any (d27 (madeof (kinds.Sign (signs.ParenClose)) ∷ (madeof (kinds.Sign signs.Semicolon) ∷ ws))) (h27.full (madeof (kinds.Sign (signs.ParenClose)) ∷ (madeof (kinds.Sign signs.Semicolon) ∷ ws)) (no_simple.full (madeof (kinds.Sign (signs.ParenClose)) ∷ (madeof (kinds.Sign signs.Semicolon) ∷ ws)) ((one_made (kinds.Sign (signs.ParenClose))).full (madeof (kinds.Sign signs.Semicolon) ∷ ws) ((empty_statement true).full ws f)))) tt).tree (no_simple.any (madeof (kinds.Sign (signs.ParenClose)) ∷ (madeof (kinds.Sign signs.Semicolon) ∷ ws)) ((one_made (kinds.Sign (signs.ParenClose))).full (madeof (kinds.Sign signs.Semicolon) ∷ ws) ((empty_statement true).full ws f)) tt).tree ((h25.any (d26 (d27 (madeof (kinds.Sign (signs.ParenClose)) ∷ (madeof (kinds.Sign signs.Semicolon) ∷ ws)))) (h26.full (d27 (madeof (kinds.Sign (signs.ParenClose)) ∷ (madeof (kinds.Sign signs.Semicolon) ∷ ws))) (h27.full (madeof (kinds.Sign (signs.ParenClose)) ∷ (madeof (kinds.Sign signs.Semicolon) ∷ ws)) (no_simple.full (madeof (kinds.Sign (signs.ParenClose)) ∷ (madeof (kinds.Sign signs.Semicolon) ∷ ws)) ((one_made (kinds.Sign (signs.ParenClose))).full (madeof (kinds.Sign signs.Semicolon) ∷ ws) ((empty_statement true).full ws f))))) tt).is) ((h26.any (d27 (madeof (kinds.Sign (signs.ParenClose)) ∷ (madeof (kinds.Sign signs.Semicolon) ∷ ws))) (h27.full (madeof (kinds.Sign (signs.ParenClose)) ∷ (madeof (kinds.Sign signs.Semicolon) ∷ ws)) (no_simple.full (madeof (kinds.Sign (signs.ParenClose)) ∷ (madeof (kinds.Sign signs.Semicolon) ∷ ws)) ((one_made (kinds.Sign (signs.ParenClose))).full (madeof (kinds.Sign signs.Semicolon) ∷ ws) ((empty_statement true).full ws f)))) tt).is) ((h27.any (madeof (kinds.Sign (signs.ParenClose)) ∷ (madeof (kinds.Sign signs.Semicolon) ∷ ws)) (no_simple.full (madeof (kinds.Sign (signs.ParenClose)) ∷ (madeof (kinds.Sign signs.Semicolon) ∷ ws)) ((one_made (kinds.Sign (signs.ParenClose))).full (madeof (kinds.Sign signs.Semicolon) ∷ ws) ((empty_statement true).full ws f))) tt).is) ((no_simple.any (madeof (kinds.Sign (signs.ParenClose)) ∷ (madeof (kinds.Sign signs.Semicolon) ∷ ws)) ((one_made (kinds.Sign (signs.ParenClose))).full (madeof (kinds.Sign signs.Semicolon) ∷ ws) ((empty_statement true).full ws f)) tt).is) (((one_made (kinds.Sign (signs.ParenClose))).any (madeof (kinds.Sign signs.Semicolon) ∷ ws) ((empty_statement true).full ws f) tt).is) (((empty_statement true).any ws f c).is) }; full = λ ws f. (h25.full (d26 (d27 (madeof (kinds.Sign (signs.ParenClose)) ∷ (madeof (kinds.Sign signs.Semicolon) ∷ ws)))) (h26.full (d27 (madeof (kinds.Sign (signs.ParenClose)) ∷ (madeof (kinds.Sign signs.Semicolon) ∷ ws))) (h27.full (madeof (kinds.Sign (signs.ParenClose)) ∷ (madeof (kinds.Sign signs.Semicolon) ∷ ws)) (no_simple.full (madeof (kinds.Sign (signs.ParenClose)) ∷ (madeof (kinds.Sign signs.Semicolon) ∷ ws)) ((one_made (kinds.Sign (signs.ParenClose))).full (madeof (kinds.Sign signs.Semicolon) ∷ ws) ((empty_statement true).full ws f)))))) } })) (λ d26 h26. record { more = λ w. (madeof (kinds.Sign (signs.Semicolon)) ∷ (madeof (kinds.Sign (signs.ParenClose)) ∷ (madeof (kinds.Sign signs.Semicolon) ∷ w))); good = λ w z. (good_token (kinds.Sign (signs.Semicolon)) tt (madeof (kinds.Sign (signs.ParenClose)) ∷ (madeof (kinds.Sign signs.Semicolon) ∷ w)) (good_token (kinds.Sign (signs.ParenClose)) tt (madeof (kinds.Sign signs.Semicolon) ∷ w) (good_token (kinds.Sign signs.Semicolon) tt w z))); is = record { any = λ ws f c. record { tree = tt; is = count_rest (h26.any (madeof (kinds.Sign (signs.Semicolon)) ∷ (madeof (kinds.Sign (signs.ParenClose)) ∷ (madeof (kinds.Sign signs.Semicolon) ∷ ws))) ((one_made (kinds.Sign (signs.Semicolon))).full (madeof (kinds.Sign (signs.ParenClose)) ∷ (madeof (kinds.Sign signs.Semicolon) ∷ ws)) (no_simple.full (madeof (kinds.Sign (signs.ParenClose)) ∷ (madeof (kinds.Sign signs.Semicolon) ∷ ws)) ((one_made (kinds.Sign (signs.ParenClose))).full (madeof (kinds.Sign signs.Semicolon) ∷ ws) ((empty_statement true).full ws f)))) tt).tree (no_simple.any (madeof (kinds.Sign (signs.ParenClose)) ∷ (madeof (kinds.Sign signs.Semicolon) ∷ ws)) ((one_made (kinds.Sign (signs.ParenClose))).full (madeof (kinds.Sign signs.Semicolon) ∷ ws) ((empty_statement true).full ws f)) tt).tree ((h25.any (d26 (madeof (kinds.Sign (signs.Semicolon)) ∷ (madeof (kinds.Sign (signs.ParenClose)) ∷ (madeof (kinds.Sign signs.Semicolon) ∷ ws)))) (h26.full (madeof (kinds.Sign (signs.Semicolon)) ∷ (madeof (kinds.Sign (signs.ParenClose)) ∷ (madeof (kinds.Sign signs.Semicolon) ∷ ws))) ((one_made (kinds.Sign (signs.Semicolon))).full (madeof (kinds.Sign (signs.ParenClose)) ∷ (madeof (kinds.Sign signs.Semicolon) ∷ ws)) (no_simple.full (madeof (kinds.Sign (signs.ParenClose)) ∷ (madeof (kinds.Sign signs.Semicolon) ∷ ws)) ((one_made (kinds.Sign (signs.ParenClose))).full (madeof (kinds.Sign signs.Semicolon) ∷ ws) ((empty_statement true).full ws f))))) tt).is) ((h26.any (madeof (kinds.Sign (signs.Semicolon)) ∷ (madeof (kinds.Sign (signs.ParenClose)) ∷ (madeof (kinds.Sign signs.Semicolon) ∷ ws))) ((one_made (kinds.Sign (signs.Semicolon))).full (madeof (kinds.Sign (signs.ParenClose)) ∷ (madeof (kinds.Sign signs.Semicolon) ∷ ws)) (no_simple.full (madeof (kinds.Sign (signs.ParenClose)) ∷ (madeof (kinds.Sign signs.Semicolon) ∷ ws)) ((one_made (kinds.Sign (signs.ParenClose))).full (madeof (kinds.Sign signs.Semicolon) ∷ ws) ((empty_statement true).full ws f)))) tt).is) (((one_made (kinds.Sign (signs.Semicolon))).any (madeof (kinds.Sign (signs.ParenClose)) ∷ (madeof (kinds.Sign signs.Semicolon) ∷ ws)) (no_simple.full (madeof (kinds.Sign (signs.ParenClose)) ∷ (madeof (kinds.Sign signs.Semicolon) ∷ ws)) ((one_made (kinds.Sign (signs.ParenClose))).full (madeof (kinds.Sign signs.Semicolon) ∷ ws) ((empty_statement true).full ws f))) tt).is) ((no_simple.any (madeof (kinds.Sign (signs.ParenClose)) ∷ (madeof (kinds.Sign signs.Semicolon) ∷ ws)) ((one_made (kinds.Sign (signs.ParenClose))).full (madeof (kinds.Sign signs.Semicolon) ∷ ws) ((empty_statement true).full ws f)) tt).is) (((one_made (kinds.Sign (signs.ParenClose))).any (madeof (kinds.Sign signs.Semicolon) ∷ ws) ((empty_statement true).full ws f) tt).is) (((empty_statement true).any ws f c).is) }; full = λ ws f. (h25.full (d26 (madeof (kinds.Sign (signs.Semicolon)) ∷ (madeof (kinds.Sign (signs.ParenClose)) ∷ (madeof (kinds.Sign signs.Semicolon) ∷ ws)))) (h26.full (madeof (kinds.Sign (signs.Semicolon)) ∷ (madeof (kinds.Sign (signs.ParenClose)) ∷ (madeof (kinds.Sign signs.Semicolon) ∷ ws))) ((one_made (kinds.Sign (signs.Semicolon))).full (madeof (kinds.Sign (signs.ParenClose)) ∷ (madeof (kinds.Sign signs.Semicolon) ∷ ws)) (no_simple.full (madeof (kinds.Sign (signs.ParenClose)) ∷ (madeof (kinds.Sign signs.Semicolon) ∷ ws)) ((one_made (kinds.Sign (signs.ParenClose))).full (madeof (kinds.Sign signs.Semicolon) ∷ ws) ((empty_statement true).full ws f)))))) } })) (λ d25 h25. record { more = λ w. (madeof (kinds.Sign (signs.Semicolon)) ∷ (madeof (kinds.Sign (signs.ParenClose)) ∷ (madeof (kinds.Sign signs.Semicolon) ∷ w))); good = λ w z. (good_token (kinds.Sign (signs.Semicolon)) tt (madeof (kinds.Sign (signs.ParenClose)) ∷ (madeof (kinds.Sign signs.Semicolon) ∷ w)) (good_token (kinds.Sign (signs.ParenClose)) tt (madeof (kinds.Sign signs.Semicolon) ∷ w) (good_token (kinds.Sign signs.Semicolon) tt w z))); is = record { any = λ ws f c. record { tree = tt; is = count_rest (no_expr.any (madeof (kinds.Sign (signs.Semicolon)) ∷ (madeof (kinds.Sign (signs.ParenClose)) ∷ (madeof (kinds.Sign signs.Semicolon) ∷ ws))) ((one_made (kinds.Sign (signs.Semicolon))).full (madeof (kinds.Sign (signs.ParenClose)) ∷ (madeof (kinds.Sign signs.Semicolon) ∷ ws)) (no_simple.full (madeof (kinds.Sign (signs.ParenClose)) ∷ (madeof (kinds.Sign signs.Semicolon) ∷ ws)) ((one_made (kinds.Sign (signs.ParenClose))).full (madeof (kinds.Sign signs.Semicolon) ∷ ws) ((empty_statement true).full ws f)))) tt).tree (no_simple.any (madeof (kinds.Sign (signs.ParenClose)) ∷ (madeof (kinds.Sign signs.Semicolon) ∷ ws)) ((one_made (kinds.Sign (signs.ParenClose))).full (madeof (kinds.Sign signs.Semicolon) ∷ ws) ((empty_statement true).full ws f)) tt).tree ((h25.any (madeof (kinds.Sign (signs.Semicolon)) ∷ (madeof (kinds.Sign (signs.ParenClose)) ∷ (madeof (kinds.Sign signs.Semicolon) ∷ ws))) (no_expr.full (madeof (kinds.Sign (signs.Semicolon)) ∷ (madeof (kinds.Sign (signs.ParenClose)) ∷ (madeof (kinds.Sign signs.Semicolon) ∷ ws))) ((one_made (kinds.Sign (signs.Semicolon))).full (madeof (kinds.Sign (signs.ParenClose)) ∷ (madeof (kinds.Sign signs.Semicolon) ∷ ws)) (no_simple.full (madeof (kinds.Sign (signs.ParenClose)) ∷ (madeof (kinds.Sign signs.Semicolon) ∷ ws)) ((one_made (kinds.Sign (signs.ParenClose))).full (madeof (kinds.Sign signs.Semicolon) ∷ ws) ((empty_statement true).full ws f))))) tt).is) ((no_expr.any (madeof (kinds.Sign (signs.Semicolon)) ∷ (madeof (kinds.Sign (signs.ParenClose)) ∷ (madeof (kinds.Sign signs.Semicolon) ∷ ws))) ((one_made (kinds.Sign (signs.Semicolon))).full (madeof (kinds.Sign (signs.ParenClose)) ∷ (madeof (kinds.Sign signs.Semicolon) ∷ ws)) (no_simple.full (madeof (kinds.Sign (signs.ParenClose)) ∷ (madeof (kinds.Sign signs.Semicolon) ∷ ws)) ((one_made (kinds.Sign (signs.ParenClose))).full (madeof (kinds.Sign signs.Semicolon) ∷ ws) ((empty_statement true).full ws f)))) tt).is) (((one_made (kinds.Sign (signs.Semicolon))).any (madeof (kinds.Sign (signs.ParenClose)) ∷ (madeof (kinds.Sign signs.Semicolon) ∷ ws)) (no_simple.full (madeof (kinds.Sign (signs.ParenClose)) ∷ (madeof (kinds.Sign signs.Semicolon) ∷ ws)) ((one_made (kinds.Sign (signs.ParenClose))).full (madeof (kinds.Sign signs.Semicolon) ∷ ws) ((empty_statement true).full ws f))) tt).is) ((no_simple.any (madeof (kinds.Sign (signs.ParenClose)) ∷ (madeof (kinds.Sign signs.Semicolon) ∷ ws)) ((one_made (kinds.Sign (signs.ParenClose))).full (madeof (kinds.Sign signs.Semicolon) ∷ ws) ((empty_statement true).full ws f)) tt).is) (((one_made (kinds.Sign (signs.ParenClose))).any (madeof (kinds.Sign signs.Semicolon) ∷ ws) ((empty_statement true).full ws f) tt).is) (((empty_statement true).any ws f c).is) }; full = λ ws f. (h25.full (madeof (kinds.Sign (signs.Semicolon)) ∷ (madeof (kinds.Sign (signs.ParenClose)) ∷ (madeof (kinds.Sign signs.Semicolon) ∷ ws))) (no_expr.full (madeof (kinds.Sign (signs.Semicolon)) ∷ (madeof (kinds.Sign (signs.ParenClose)) ∷ (madeof (kinds.Sign signs.Semicolon) ∷ ws))) ((one_made (kinds.Sign (signs.Semicolon))).full (madeof (kinds.Sign (signs.ParenClose)) ∷ (madeof (kinds.Sign signs.Semicolon) ∷ ws)) (no_simple.full (madeof (kinds.Sign (signs.ParenClose)) ∷ (madeof (kinds.Sign signs.Semicolon) ∷ ws)) ((one_made (kinds.Sign (signs.ParenClose))).full (madeof (kinds.Sign signs.Semicolon) ∷ ws) ((empty_statement true).full ws f)))))) } })

  each_grows : (p : Place) (how : Declares) (n : Named) (ts : Tokens) → AreTokens ts → Grows (λ _ us d. Spells EachRest (May us) d) (Spells EachRest (May brace)) (each_rule room (statement room) p how n ts) ts
  unfolding each_rule
  each_grows p how n ts a = then_grows (λ _ _ c. Spells IsExpr Always c) (Spells IsExpr Always) (λ _ vs c. Spells EachRest (May vs) (λ w. (c w))) (λ c. Spells EachRest (May brace) (λ w. (c w))) ((expr room) ts) (λ items. (expect signs.ParenClose >>= λ _. (statement room true >>= λ body. pure_rule (s.ForOf p how n items body)))) ts (an_expr room ts a) (λ items us31 d31 b31 h31. then_grows (λ _ _ c. One (kinds.Sign (signs.ParenClose)) c) (One (kinds.Sign (signs.ParenClose))) (λ _ vs c. Spells EachRest (May vs) (λ w. (d31 (c w)))) (λ c. Spells EachRest (May brace) (λ w. (d31 (c w)))) ((expect signs.ParenClose) us31) (λ _. (statement room true >>= λ body. pure_rule (s.ForOf p how n items body))) us31 (expect_grows (signs.ParenClose) us31 b31) (λ _ us32 d32 b32 h32. then_grows (λ _ vs c. Spells (IsStatement true) (May vs) c) (Spells (IsStatement true) (May brace)) (λ _ vs c. Spells EachRest (May vs) (λ w. (d31 (d32 (c w))))) (λ c. Spells EachRest (May brace) (λ w. (d31 (d32 (c w))))) ((statement room true) us32) (λ body. pure_rule (s.ForOf p how n items body)) us32 (hi true us32 b32) (λ body us33 d33 b33 h33. pure_grows (λ _ vs c. Spells EachRest (May vs) (λ w. (d31 (d32 (d33 (c w)))))) (λ c. Spells EachRest (May brace) (λ w. (d31 (d32 (d33 (c w)))))) (s.ForOf p how n items body) us33 b33 (record { any = λ ws f c. record { tree = tt; is = each_rest ((h31.any (d32 (d33 ws)) (h32.full (d33 ws) (h33.full ws f)) tt).is) ((h32.any (d33 ws) (h33.full ws f) tt).is) ((h33.any ws f c).is) }; full = λ ws f. (h31.full (d32 (d33 ws)) (h32.full (d33 ws) (h33.full ws f))) })) (λ d33 h33. record { more = λ w. w; good = λ w z. z; is = record { any = λ ws f c. record { tree = tt; is = each_rest ((h31.any (d32 (d33 ws)) (h32.full (d33 ws) (h33.full ws f)) tt).is) ((h32.any (d33 ws) (h33.full ws f) tt).is) ((h33.any ws f c).is) }; full = λ ws f. (h31.full (d32 (d33 ws)) (h32.full (d33 ws) (h33.full ws f))) } })) (λ d32 h32. record { more = λ w. (madeof (kinds.Sign signs.Semicolon) ∷ w); good = λ w z. (good_token (kinds.Sign signs.Semicolon) tt w z); is = record { any = λ ws f c. record { tree = tt; is = each_rest ((h31.any (d32 (madeof (kinds.Sign signs.Semicolon) ∷ ws)) (h32.full (madeof (kinds.Sign signs.Semicolon) ∷ ws) ((empty_statement true).full ws f)) tt).is) ((h32.any (madeof (kinds.Sign signs.Semicolon) ∷ ws) ((empty_statement true).full ws f) tt).is) (((empty_statement true).any ws f c).is) }; full = λ ws f. (h31.full (d32 (madeof (kinds.Sign signs.Semicolon) ∷ ws)) (h32.full (madeof (kinds.Sign signs.Semicolon) ∷ ws) ((empty_statement true).full ws f))) } })) (λ d31 h31. record { more = λ w. (madeof (kinds.Sign (signs.ParenClose)) ∷ (madeof (kinds.Sign signs.Semicolon) ∷ w)); good = λ w z. (good_token (kinds.Sign (signs.ParenClose)) tt (madeof (kinds.Sign signs.Semicolon) ∷ w) (good_token (kinds.Sign signs.Semicolon) tt w z)); is = record { any = λ ws f c. record { tree = tt; is = each_rest ((h31.any (madeof (kinds.Sign (signs.ParenClose)) ∷ (madeof (kinds.Sign signs.Semicolon) ∷ ws)) ((one_made (kinds.Sign (signs.ParenClose))).full (madeof (kinds.Sign signs.Semicolon) ∷ ws) ((empty_statement true).full ws f)) tt).is) (((one_made (kinds.Sign (signs.ParenClose))).any (madeof (kinds.Sign signs.Semicolon) ∷ ws) ((empty_statement true).full ws f) tt).is) (((empty_statement true).any ws f c).is) }; full = λ ws f. (h31.full (madeof (kinds.Sign (signs.ParenClose)) ∷ (madeof (kinds.Sign signs.Semicolon) ∷ ws)) ((one_made (kinds.Sign (signs.ParenClose))).full (madeof (kinds.Sign signs.Semicolon) ∷ ws) ((empty_statement true).full ws f))) } })

  abbrev ForRests : Tokens → Front → Type 0
  ForRests us = Spells ForRest (May us)

  counted_none : (us : Tokens) (d : Front) → Spells CountRest (May us) d → ForRests us d
  counted_none us d h = record { any = λ ws f c. record { tree = tt; is = counts None (λ _ k. g.no_start k) (h.any ws f c).is }; full = h.full }

  counted_simple : (us : Tokens) (d c : Front) → Spells IsSimple Always d → Spells CountRest (May us) c → ForRests us (λ w. d (c w))
  counted_simple us d c h i = record {
    any = λ ws f m. (let x : Found IsSimple (d (c ws)) (c ws) = h.any (c ws) (i.full ws f) tt in record { tree = tt; is = counts (Some (starts.Simple x.tree)) (λ _ k. g.starts_simple x.is k) (i.any ws f m).is });
    full = λ ws f. h.full (c ws) (i.full ws f);
  }

  for_simple_grows : (p : Place) (ts : Tokens) → AreTokens ts → Grows (λ _ us d. ForRests us d) (ForRests brace) (for_simple room (statement room) p ts) ts
  unfolding for_simple
  for_simple_grows p ts a =
      see_grows (λ _ us d. ForRests us d) (ForRests brace) (sees signs.Semicolon ts) (repeat room (statement room) p None ts) ((simple_rule room >>= λ found. repeat room (statement room) p (Some (starts.Simple found))) ts) ts
      (λ _. map_grows (λ _ us d. Spells CountRest (May us) d) (λ _ us d. ForRests us d) (Spells CountRest (May brace)) (ForRests brace) (repeat room (statement room) p None ts) ts (repeat_grows p None ts a) (λ _ us d h. counted_none us d h) (λ d h. counted_none brace d h))
      (λ _. then_grows (λ _ _ d. Spells IsSimple Always d) (Spells IsSimple Always) (λ _ us d. ForRests us d) (ForRests brace) (simple_rule room ts) (λ found. repeat room (statement room) p (Some (starts.Simple found))) ts (plain_simple room ts a)
      (λ x us d b h. map_grows (λ _ vs c. Spells CountRest (May vs) c) (λ _ vs c. ForRests vs (λ w. d (c w))) (Spells CountRest (May brace)) (λ c. ForRests brace (λ w. d (c w))) (repeat room (statement room) p (Some (starts.Simple x)) us) us
      (repeat_grows p (Some (starts.Simple x)) us b) (λ _ vs c i. counted_simple vs d c h i) (λ c i. counted_simple brace d c h i))
      (λ d h. record { more = count_front; good = count_good; is = counted_simple brace d count_front h count_default }))

  -- a `for` that declares, behind the token that does
  module _ (t : Token) (k : Kind) (how : Declares) (is : t.kind ≡ k) (at : declares_by k ≡ Some how) where
    each_of : (us : Tokens) (d : Front) (o : Token) (c : Front) → o.kind ≡ kinds.Word words.Of → Spells IsNamed Always d → Spells EachRest (May us) c → ForRests us (λ w. t ∷ d (o ∷ c w))
    each_of us d o c of h i =
        let declares : One k (λ w. t ∷ w) = one_token t k is in
        let ofs : One (kinds.Word words.Of) (λ w. o ∷ w) = one_token o (kinds.Word words.Of) of in
        record {
          any = λ ws f m. record { tree = tt; is = eachs (declares.any (d (o ∷ c ws)) (h.full (o ∷ c ws) tt) tt).is at (h.any (o ∷ c ws) tt tt).is (ofs.any (c ws) (i.full ws f) tt).is (i.any ws f m).is };
          full = λ ws f. tt;
        }

    counted_of : (us : Tokens) (d e c : Front) → Spells IsNamed Always d → Spells Names Always e → Spells CountRest (May us) c → ForRests us (λ w. t ∷ d (e (c w)))
    counted_of us d e c h n i =
        let declares : One k (λ w. t ∷ w) = one_token t k is in
        record {
          any = λ ws f m. (let named : Found IsNamed (d (e (c ws))) (e (c ws)) = h.any (e (c ws)) (n.full (c ws) (i.full ws f)) tt in
              let names : Found AreDeclared (d (e (c ws))) (c ws) = (n.any (c ws) (i.full ws f) tt).is (d (e (c ws))) named.tree named.is in
              let first = (declares.any (d (e (c ws))) (h.full (e (c ws)) (n.full (c ws) (i.full ws f))) tt).is in
              record { tree = tt; is = counts (Some (starts.Declare (record { place = place (t ∷ d (e (c ws))); declares = how; names = names.tree }))) (λ _ z. g.declares (g.declaration first at names.is) z) (i.any ws f m).is });
          full = λ ws f. tt;
        }

    declared_rest : (p q : Place) (ts : Tokens) → AreTokens ts
        → Grows (λ _ us d. ForRests us (λ w. t ∷ d w)) (λ d. ForRests brace (λ w. t ∷ d w))
        ((named_rule >>= λ n. (eat_word words.Of >>= λ b. if b then each_rule room (statement room) p how n else (declaration room q how n >>= λ found. repeat room (statement room) p (Some (starts.Declare found))))) ts) ts
    declared_rest p q ts a =
        then_grows (λ _ _ d. Spells IsNamed Always d) (Spells IsNamed Always) (λ _ us d. ForRests us (λ w. t ∷ d w)) (λ d. ForRests brace (λ w. t ∷ d w)) (named_rule ts)
        (λ n. (eat_word words.Of >>= λ b. if b then each_rule room (statement room) p how n else (declaration room q how n >>= λ found. repeat room (statement room) p (Some (starts.Declare found))))) ts (named_grows ts a)
        (λ n us d b h. eat_word_grows (λ _ vs c. ForRests vs (λ w. t ∷ d (c w))) (λ c. ForRests brace (λ w. t ∷ d (c w))) words.Of (each_rule room (statement room) p how n)
        (declaration room q how n >>= λ found. repeat room (statement room) p (Some (starts.Declare found))) us b
        (λ o _ of z. map_grows (λ _ vs c. Spells EachRest (May vs) c) (λ _ vs c. ForRests vs (λ w. t ∷ d (o ∷ c w))) (Spells EachRest (May brace)) (λ c. ForRests brace (λ w. t ∷ d (o ∷ c w))) (each_rule room (statement room) p how n (next us)) (next us)
        (each_grows p how n (next us) z) (λ _ vs c i. each_of vs d o c of h i) (λ c i. each_of brace d o c of h i))
        (λ _. then_grows (λ _ _ e. Spells Names Always e) (Spells Names Always) (λ _ vs c. ForRests vs (λ w. t ∷ d (c w))) (λ c. ForRests brace (λ w. t ∷ d (c w))) (declaration room q how n us) (λ found. repeat room (statement room) p (Some (starts.Declare found))) us
        (declaration_grows room q how n us b)
        (λ x vs e z i. map_grows (λ _ xs c. Spells CountRest (May xs) c) (λ _ xs c. ForRests xs (λ w. t ∷ d (e (c w)))) (Spells CountRest (May brace)) (λ c. ForRests brace (λ w. t ∷ d (e (c w)))) (repeat room (statement room) p (Some (starts.Declare x)) vs) vs
        (repeat_grows p (Some (starts.Declare x)) vs z) (λ _ xs c j. counted_of xs d e c h i j) (λ c j. counted_of brace d e c h i j))
        (λ e i. record { more = count_front; good = count_good; is = counted_of brace d e count_front h i count_default })))
        (λ d h. record { more = count_front; good = count_good; is = counted_of brace d (λ w. w) count_front h no_more_names count_default })

  for_declared_grows : (p : Place) (how : Declares) (ts : Tokens) → declares_by (kind ts) ≡ Some how → AreTokens ts → Grows (λ _ us d. ForRests us d) (ForRests brace) (for_declared room (statement room) p how ts) ts
  unfolding for_declared
  for_declared_grows p how ts at a =
      behind_grows (λ _ us d. ForRests us d) (ForRests brace) ts (kind ts) refl (some_declares (kind ts) how at) a
      ((named_rule >>= λ n. (eat_word words.Of >>= λ b. if b then each_rule room (statement room) p how n else (declaration room (place ts) how n >>= λ found. repeat room (statement room) p (Some (starts.Declare found))))) (next ts))
      (λ t e b. declared_rest t (kind ts) how e at p (place ts) (next ts) b)

  for_by_grows : (p : Place) (o : Option Declares) (ts : Tokens) → declares_by (kind ts) ≡ o → AreTokens ts → Grows (λ _ us d. ForRests us d) (ForRests brace) (for_by room (statement room) p o ts) ts
  for_by_grows p None ts is a = for_simple_grows p ts a
  for_by_grows p (Some how) ts is a = for_declared_grows p how ts is a

  for_of_front : (l : Bool) (us : Tokens) (t : Token) (d c : Front) → t.kind ≡ kinds.Word words.For → One (kinds.Sign signs.ParenOpen) d → ForRests us c → Statements l us (λ w. t ∷ d (c w))
  for_of_front l us t d c is o h =
      let word : One (kinds.Word words.For) (λ w. t ∷ w) = one_token t (kinds.Word words.For) is in
      record {
        any = λ ws f m. for_of l (word.any (d (c ws)) (o.full (c ws) (h.full ws f)) tt).is (o.any (c ws) (h.full ws f) tt).is (h.any ws f m).is;
        full = λ ws f. tt;
      }

  for_at_grows : (p : Place) (l : Bool) (ts : Tokens) → kind ts ≡ kinds.Word words.For → AreTokens ts → Grows (λ _ us d. Statements l us d) (Statements l brace) (for_at room (statement room) p ts) ts
  unfolding for_at
  for_at_grows p l ts is a =
      behind_grows (λ _ us d. Statements l us d) (Statements l brace) ts (kinds.Word words.For) is (λ z. z) a ((expect signs.ParenOpen >>= λ _. (λ us. for_by room (statement room) p (declares_by (kind us)) us)) (next ts))
      (λ t e b. then_grows (λ _ _ d. One (kinds.Sign signs.ParenOpen) d) (One (kinds.Sign signs.ParenOpen)) (λ _ us c. Statements l us (λ w. t ∷ c w)) (λ c. Statements l brace (λ w. t ∷ c w)) (expect signs.ParenOpen (next ts))
      (λ _ us. for_by room (statement room) p (declares_by (kind us)) us) (next ts) (expect_grows signs.ParenOpen (next ts) b)
      (λ _ us d z o. map_grows (λ _ vs c. ForRests vs c) (λ _ vs c. Statements l vs (λ w. t ∷ d (c w))) (ForRests brace) (λ c. Statements l brace (λ w. t ∷ d (c w))) (for_by room (statement room) p (declares_by (kind us)) us) us
      (for_by_grows p (declares_by (kind us)) us refl z) (λ _ vs c h. for_of_front l vs t d c e o h) (λ c h. for_of_front l brace t d c e o h))
      (λ d o. record { more = count_front; good = count_good; is = for_of_front l brace t d count_front e o (counted_none brace count_front count_default) }))

  break_grows : (l : Bool) (p : Place) (ts : Tokens) → kind ts ≡ kinds.Word words.Break → AreTokens ts → Grows (λ _ us d. Statements l us d) (Statements l brace) ((jump_rule l >>= λ _. pure_rule (s.Break p)) ts) ts
  unfolding jump_rule
  break_grows true p ts is a = behind_grows (λ _ vs c. Spells (IsStatement true) (May vs) (λ w. (c w))) (λ c. Spells (IsStatement true) (May brace) (λ w. (c w))) ts (kinds.Word words.Break) is (λ l. l) a (((statement_end >>= λ _. pure_rule (s.Break p))) (next ts)) (λ t34 e34 b34. then_grows (λ _ vs c. Spells IsEnding (May vs) c) (Spells IsEnding (May brace)) (λ _ vs c. Spells (IsStatement true) (May vs) (λ w. (t34 ∷ (c w)))) (λ c. Spells (IsStatement true) (May brace) (λ w. (t34 ∷ (c w)))) ((statement_end) (next ts)) (λ _. pure_rule (s.Break p)) (next ts) (ending_grows (next ts) b34) (λ _ us35 d35 b35 h35. pure_grows (λ _ vs c. Spells (IsStatement true) (May vs) (λ w. (t34 ∷ (d35 (c w))))) (λ c. Spells (IsStatement true) (May brace) (λ w. (t34 ∷ (d35 (c w))))) (s.Break p) us35 b35 (record { any = λ ws f c. record { tree = _; is = g.break (((one_token t34 (kinds.Word words.Break) e34).any (d35 ws) (h35.full ws f) tt).is) ((h35.any ws f c).is) }; full = λ ws f. ((one_token t34 (kinds.Word words.Break) e34).full (d35 ws) (h35.full ws f)) })) (λ d35 h35. record { more = λ w. w; good = λ w z. z; is = record { any = λ ws f c. record { tree = _; is = g.break (((one_token t34 (kinds.Word words.Break) e34).any (d35 ws) (h35.full ws f) tt).is) ((h35.any ws f c).is) }; full = λ ws f. ((one_token t34 (kinds.Word words.Break) e34).full (d35 ws) (h35.full ws f)) } }))
  break_grows false p ts is a = refuse_grows {A = Statement} (λ _ us d. Statements false us d) (Statements false brace) ts a (statement_filled false)

  continue_grows : (l : Bool) (p : Place) (ts : Tokens) → kind ts ≡ kinds.Word words.Continue → AreTokens ts → Grows (λ _ us d. Statements l us d) (Statements l brace) ((jump_rule l >>= λ _. pure_rule (s.Continue p)) ts) ts
  unfolding jump_rule
  continue_grows true p ts is a = behind_grows (λ _ vs c. Spells (IsStatement true) (May vs) (λ w. (c w))) (λ c. Spells (IsStatement true) (May brace) (λ w. (c w))) ts (kinds.Word words.Continue) is (λ l. l) a (((statement_end >>= λ _. pure_rule (s.Continue p))) (next ts)) (λ t36 e36 b36. then_grows (λ _ vs c. Spells IsEnding (May vs) c) (Spells IsEnding (May brace)) (λ _ vs c. Spells (IsStatement true) (May vs) (λ w. (t36 ∷ (c w)))) (λ c. Spells (IsStatement true) (May brace) (λ w. (t36 ∷ (c w)))) ((statement_end) (next ts)) (λ _. pure_rule (s.Continue p)) (next ts) (ending_grows (next ts) b36) (λ _ us37 d37 b37 h37. pure_grows (λ _ vs c. Spells (IsStatement true) (May vs) (λ w. (t36 ∷ (d37 (c w))))) (λ c. Spells (IsStatement true) (May brace) (λ w. (t36 ∷ (d37 (c w))))) (s.Continue p) us37 b37 (record { any = λ ws f c. record { tree = _; is = g.continue (((one_token t36 (kinds.Word words.Continue) e36).any (d37 ws) (h37.full ws f) tt).is) ((h37.any ws f c).is) }; full = λ ws f. ((one_token t36 (kinds.Word words.Continue) e36).full (d37 ws) (h37.full ws f)) })) (λ d37 h37. record { more = λ w. w; good = λ w z. z; is = record { any = λ ws f c. record { tree = _; is = g.continue (((one_token t36 (kinds.Word words.Continue) e36).any (d37 ws) (h37.full ws f) tt).is) ((h37.any ws f c).is) }; full = λ ws f. ((one_token t36 (kinds.Word words.Continue) e36).full (d37 ws) (h37.full ws f)) } }))
  continue_grows false p ts is a = refuse_grows {A = Statement} (λ _ us d. Statements false us d) (Statements false brace) ts a (statement_filled false)

  free_of : (k : Kind) (ts : Tokens) → kind ts ≡ k → is_sign signs.BraceOpen k ≡ false → sees signs.BraceOpen ts ≡ false
  unfolding sees
  free_of k ts is other = ap (is_sign signs.BraceOpen) is ∙ other

  word_by_grows : (p : Place) (l : Bool) (w : Word) (ts : Tokens) → kind ts ≡ kinds.Word w → AreTokens ts → Grows (λ _ us d. Statements l us d) (Statements l brace) (statement_by_word room (statement room) p l w ts) ts
  word_by_grows p l words.If ts is a = choose_grows p l ts is a
  word_by_grows p l words.For ts is a = for_at_grows p l ts is a
  word_by_grows p l words.Return ts is a = return_grows room l p ts is a
  word_by_grows p l words.Throw ts is a = throw_grows room l p ts is a
  word_by_grows p l words.Break ts is a = break_grows l p ts is a
  word_by_grows p l words.Continue ts is a = continue_grows l p ts is a
  word_by_grows p l w ts is a = plain_grows room l p ts (free_of (kinds.Word w) ts is refl) a

  empty_of : (l : Bool) (us : Tokens) (t : Token) → t.kind ≡ kinds.Sign signs.Semicolon → Statements l us (λ w. t ∷ w)
  empty_of l us t is = let o : One (kinds.Sign signs.Semicolon) (λ w. t ∷ w) = one_token t (kinds.Sign signs.Semicolon) is in record { any = λ ws f c. record { tree = _; is = g.empty (o.any ws f tt).is }; full = o.full }

  sign_by_grows : (p : Place) (l : Bool) (c : Sign) (ts : Tokens) → kind ts ≡ kinds.Sign c → AreTokens ts → Grows (λ _ us d. Statements l us d) (Statements l brace) (statement_by_sign room (statement room) p l c ts) ts
  unfolding same_sign
  sign_by_grows p l signs.BraceOpen ts is a = behind_grows (λ _ vs c. Spells (IsStatement l) (May vs) (λ w. (c w))) (λ c. Spells (IsStatement l) (May brace) (λ w. (c w))) ts (kinds.Sign signs.BraceOpen) is (λ l. l) a (((block_rule room (statement room) l >>= λ found. pure_rule (s.Block p found))) (next ts)) (λ t38 e38 b38. then_grows (λ _ _ c. Spells (AreStatements l) Always c) (Spells (AreStatements l) Always) (λ _ vs c. Spells (IsStatement l) (May vs) (λ w. (t38 ∷ (c w)))) (λ c. Spells (IsStatement l) (May brace) (λ w. (t38 ∷ (c w)))) ((block_rule room (statement room) l) (next ts)) (λ found. pure_rule (s.Block p found)) (next ts) (block_grows l (next ts) b38) (λ found us39 d39 b39 h39. pure_grows (λ _ vs c. Spells (IsStatement l) (May vs) (λ w. (t38 ∷ (d39 (c w))))) (λ c. Spells (IsStatement l) (May brace) (λ w. (t38 ∷ (d39 (c w))))) (s.Block p found) us39 b39 (record { any = λ ws f c. record { tree = _; is = g.block (((one_token t38 (kinds.Sign signs.BraceOpen) e38).any (d39 ws) (h39.full ws f) tt).is) ((h39.any ws f tt).is) }; full = λ ws f. ((one_token t38 (kinds.Sign signs.BraceOpen) e38).full (d39 ws) (h39.full ws f)) })) (λ d39 h39. record { more = λ w. w; good = λ w z. z; is = record { any = λ ws f c. record { tree = _; is = g.block (((one_token t38 (kinds.Sign signs.BraceOpen) e38).any (d39 ws) (h39.full ws f) tt).is) ((h39.any ws f tt).is) }; full = λ ws f. ((one_token t38 (kinds.Sign signs.BraceOpen) e38).full (d39 ws) (h39.full ws f)) } }))
  sign_by_grows p l signs.Semicolon ts is a = token_grows (λ _ us d. Statements l us d) (Statements l brace) (s.Empty p) ts (λ z. subst IsLast is z) a (λ t e. empty_of l (next ts) t (e ∙ is))
  sign_by_grows p l c ts is a = plain_grows room l p ts (free_of (kinds.Sign c) ts is refl) a

  statement_by_grows : (p : Place) (l : Bool) (k : Kind) (ts : Tokens) → kind ts ≡ k → AreTokens ts → Grows (λ _ us d. Statements l us d) (Statements l brace) (statement_by room (statement room) p l k ts) ts
  statement_by_grows p l (kinds.Word w) ts is a = word_by_grows p l w ts is a
  statement_by_grows p l (kinds.Sign c) ts is a = sign_by_grows p l c ts is a
  statement_by_grows p l k ts is a = plain_grows room l p ts (free_of k ts is refl) a

  opened_grows : (l : Bool) (ts : Tokens) → AreTokens ts → Grows (λ _ us d. Statements l us d) (Statements l brace) (statement_rule room (statement room) l ts) ts
  unfolding statement_rule
  opened_grows l ts a = statement_by_grows (place ts) l (kind ts) ts refl a

statement_grows : (room : ℕ) → Inner room
unfolding statement
statement_grows zero l ts a = deep_grows {A = Statement} (λ _ us d. Statements l us d) (Statements l brace) ts a (statement_filled l)
statement_grows (suc room) l ts a = opened_grows room (statement_grows room) l ts a

pub body_block_grows : (room : ℕ) (l : Bool) (ts : Tokens) → AreTokens ts → Grows (λ _ _ d. Spells (AreStatements l) Always d) (Spells (AreStatements l) Always) (block_rule room (statement room) l ts) ts
body_block_grows room l ts a = block_grows room (statement_grows room) l ts a
