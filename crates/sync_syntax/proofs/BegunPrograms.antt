-- What stands before a fault in a program begins one.
use Rattle.std.proofs.Common.{◌≡◌, ℕ, Bool, true, false, cond, List, ◌∷◌, Option, Some, None, refl, subst}
use Rattle.sync_tokens.specs.Spellable.{AreTokens}
use Rattle.sync_tokens.specs.declared.token.Kind.{Kind}
use Rattle.sync_tokens.specs.declared.token.Kind.TheVariants as kinds
use Rattle.sync_tokens.specs.declared.token.Sign.TheVariants as signs
use Rattle.sync_tokens.specs.declared.token.Token.{Token}
use Rattle.sync_tokens.specs.declared.token.Word.TheVariants as words
use Rattle.sync_syntax.specs.declared.tree.Program.{Program}
use Rattle.sync_syntax.specs.declared.tree.Statement.{Statement}
use Rattle.sync_syntax.specs.Reading.{Tokens, Outcome, Rule, read_then, ◌>>=◌, pure_rule, kind, place, next, sees, after, expect, expect_word, name_rule}
use Rattle.sync_syntax.specs.Statements.{named_rule, block_in, body_room, end_by, end, own_name_by, own_name, second_parameter, head, function_body, program}
use Rattle.sync_syntax.specs.Grammar as g
use Rattle.sync_syntax.specs.Grammar.{Takes, IsNamed, AreStatements, IsOwnName, IsSecond, IsHead, IsTail, IsProgram}
use Rattle.sync_syntax.proofs.Begun.{Front, Found, Spells, Always, Grows, then_grows, map_grows, madeof, good_token, One, one_token, one_made, pure_grows, refuse_grows, eat_grows, expect_grows, expect_word_grows, IsName, a_name, a_kind, name_grows}
use Rattle.sync_syntax.proofs.BegunStatements.{a_named, named_grows, body_block_grows}
use Rattle.sync_syntax.proofs.CompleteStatements.{Heading, made}

-- ---- what stands before the body

none_own : Spells IsOwnName Always (λ w. w)
none_own = record { any = λ ts f c. record { tree = _; is = g.no_own_name }; full = λ ts f. f }

own_of : (d : Front) → Spells IsName Always d → Spells IsOwnName Always d
own_of d h = record { any = λ ts f c. record { tree = _; is = g.own_name (h.any ts f c).is }; full = h.full }

own_name_by_grows : (k : Kind) (ts : Tokens) → AreTokens ts → Grows (λ _ _ d. Spells IsOwnName Always d) (Spells IsOwnName Always) (own_name_by k ts) ts
own_name_by_grows (kinds.Name n) ts a =
    then_grows (λ _ _ d. Spells IsName Always d) (Spells IsName Always) (λ _ _ d. Spells IsOwnName Always d) (Spells IsOwnName Always) (name_rule ts) (λ x. pure_rule (Some x)) ts (name_grows ts a)
    (λ x us d b h. pure_grows (λ _ _ c. Spells IsOwnName Always (λ w. d (c w))) (λ c. Spells IsOwnName Always (λ w. d (c w))) (Some x) us b (own_of d h)) (λ d h. record { more = λ w. w; good = λ w z. z; is = own_of d h })
own_name_by_grows _ ts a = pure_grows {A = Option (List ℕ)} (λ _ _ d. Spells IsOwnName Always d) (Spells IsOwnName Always) None ts a none_own

own_name_grows : (ts : Tokens) → AreTokens ts → Grows (λ _ _ d. Spells IsOwnName Always d) (Spells IsOwnName Always) (own_name ts) ts
unfolding own_name
own_name_grows ts a = own_name_by_grows (kind ts) ts a

none_second : Spells IsSecond Always (λ w. w)
none_second = record { any = λ ts f c. record { tree = _; is = g.no_second }; full = λ ts f. f }

second_parameter_grows : (ts : Tokens) → AreTokens ts → Grows (λ _ _ d. Spells IsSecond Always d) (Spells IsSecond Always) (second_parameter ts) ts
unfolding second_parameter
second_parameter_grows ts a = eat_grows (λ _ vs c. Spells IsSecond Always (λ w. (c w))) (λ c. Spells IsSecond Always (λ w. (c w))) (signs.Comma) ((named_rule >>= λ x. pure_rule (Some x))) (pure_rule (None)) ts a (λ t40 e40 b40. then_grows (λ _ _ c. Spells IsNamed Always c) (Spells IsNamed Always) (λ _ vs c. Spells IsSecond Always (λ w. (t40 ∷ (c w)))) (λ c. Spells IsSecond Always (λ w. (t40 ∷ (c w)))) ((named_rule) (next ts)) (λ x. pure_rule (Some x)) (next ts) (named_grows (next ts) b40) (λ x us41 d41 b41 h41. pure_grows (λ _ vs c. Spells IsSecond Always (λ w. (t40 ∷ (d41 (c w))))) (λ c. Spells IsSecond Always (λ w. (t40 ∷ (d41 (c w))))) (Some x) us41 b41 (record { any = λ ws f c. record { tree = _; is = g.second (((one_token t40 (kinds.Sign (signs.Comma)) e40).any (d41 ws) (h41.full ws f) tt).is) ((h41.any ws f tt).is) }; full = λ ws f. ((one_token t40 (kinds.Sign (signs.Comma)) e40).full (d41 ws) (h41.full ws f)) })) (λ d41 h41. record { more = λ w. w; good = λ w z. z; is = record { any = λ ws f c. record { tree = _; is = g.second (((one_token t40 (kinds.Sign (signs.Comma)) e40).any (d41 ws) (h41.full ws f) tt).is) ((h41.any ws f tt).is) }; full = λ ws f. ((one_token t40 (kinds.Sign (signs.Comma)) e40).full (d41 ws) (h41.full ws f)) } })) (λ _. pure_grows (λ _ vs c. Spells IsSecond Always (λ w. (c w))) (λ c. Spells IsSecond Always (λ w. (c w))) (None) ts a (record { any = λ ws f c. record { tree = _; is = g.no_second }; full = λ ws f. f }))

abbrev HeadOf : Tokens → Heading → Tokens → Type 0
HeadOf ts h us = IsHead ts h.0 h.1 h.2 us

head_grows : (ts : Tokens) → AreTokens ts → Grows (λ _ _ d. Spells HeadOf Always d) (Spells HeadOf Always) (head ts) ts
unfolding head
head_grows ts a = then_grows (λ _ _ c. One (kinds.Word (words.Function)) c) (One (kinds.Word (words.Function))) (λ _ vs c. Spells HeadOf Always (λ w. (c w))) (λ c. Spells HeadOf Always (λ w. (c w))) ((expect_word words.Function) ts) (λ _. (own_name >>= λ own. (expect signs.ParenOpen >>= λ _. (named_rule >>= λ first. (second_parameter >>= λ other. (expect signs.ParenClose >>= λ _. pure_rule ((own, first, other)))))))) ts (expect_word_grows (words.Function) ts a) (λ _ us42 d42 b42 h42. then_grows (λ _ _ c. Spells IsOwnName Always c) (Spells IsOwnName Always) (λ _ vs c. Spells HeadOf Always (λ w. (d42 (c w)))) (λ c. Spells HeadOf Always (λ w. (d42 (c w)))) ((own_name) us42) (λ own. (expect signs.ParenOpen >>= λ _. (named_rule >>= λ first. (second_parameter >>= λ other. (expect signs.ParenClose >>= λ _. pure_rule ((own, first, other))))))) us42 (own_name_grows us42 b42) (λ own us43 d43 b43 h43. then_grows (λ _ _ c. One (kinds.Sign (signs.ParenOpen)) c) (One (kinds.Sign (signs.ParenOpen))) (λ _ vs c. Spells HeadOf Always (λ w. (d42 (d43 (c w))))) (λ c. Spells HeadOf Always (λ w. (d42 (d43 (c w))))) ((expect signs.ParenOpen) us43) (λ _. (named_rule >>= λ first. (second_parameter >>= λ other. (expect signs.ParenClose >>= λ _. pure_rule ((own, first, other)))))) us43 (expect_grows (signs.ParenOpen) us43 b43) (λ _ us44 d44 b44 h44. then_grows (λ _ _ c. Spells IsNamed Always c) (Spells IsNamed Always) (λ _ vs c. Spells HeadOf Always (λ w. (d42 (d43 (d44 (c w)))))) (λ c. Spells HeadOf Always (λ w. (d42 (d43 (d44 (c w)))))) ((named_rule) us44) (λ first. (second_parameter >>= λ other. (expect signs.ParenClose >>= λ _. pure_rule ((own, first, other))))) us44 (named_grows us44 b44) (λ first us45 d45 b45 h45. then_grows (λ _ _ c. Spells IsSecond Always c) (Spells IsSecond Always) (λ _ vs c. Spells HeadOf Always (λ w. (d42 (d43 (d44 (d45 (c w))))))) (λ c. Spells HeadOf Always (λ w. (d42 (d43 (d44 (d45 (c w))))))) ((second_parameter) us45) (λ other. (expect signs.ParenClose >>= λ _. pure_rule ((own, first, other)))) us45 (second_parameter_grows us45 b45) (λ other us46 d46 b46 h46. then_grows (λ _ _ c. One (kinds.Sign (signs.ParenClose)) c) (One (kinds.Sign (signs.ParenClose))) (λ _ vs c. Spells HeadOf Always (λ w. (d42 (d43 (d44 (d45 (d46 (c w)))))))) (λ c. Spells HeadOf Always (λ w. (d42 (d43 (d44 (d45 (d46 (c w)))))))) ((expect signs.ParenClose) us46) (λ _. pure_rule ((own, first, other))) us46 (expect_grows (signs.ParenClose) us46 b46) (λ _ us47 d47 b47 h47. pure_grows (λ _ vs c. Spells HeadOf Always (λ w. (d42 (d43 (d44 (d45 (d46 (d47 (c w))))))))) (λ c. Spells HeadOf Always (λ w. (d42 (d43 (d44 (d45 (d46 (d47 (c w))))))))) ((own, first, other)) us47 b47 (record { any = λ ws f c. record { tree = ((h43.any (d44 (d45 (d46 (d47 ws)))) (h44.full (d45 (d46 (d47 ws))) (h45.full (d46 (d47 ws)) (h46.full (d47 ws) (h47.full ws f)))) tt).tree, (h45.any (d46 (d47 ws)) (h46.full (d47 ws) (h47.full ws f)) tt).tree, (h46.any (d47 ws) (h47.full ws f) tt).tree); is = g.head ((h42.any (d43 (d44 (d45 (d46 (d47 ws))))) (h43.full (d44 (d45 (d46 (d47 ws)))) (h44.full (d45 (d46 (d47 ws))) (h45.full (d46 (d47 ws)) (h46.full (d47 ws) (h47.full ws f))))) tt).is) ((h43.any (d44 (d45 (d46 (d47 ws)))) (h44.full (d45 (d46 (d47 ws))) (h45.full (d46 (d47 ws)) (h46.full (d47 ws) (h47.full ws f)))) tt).is) ((h44.any (d45 (d46 (d47 ws))) (h45.full (d46 (d47 ws)) (h46.full (d47 ws) (h47.full ws f))) tt).is) ((h45.any (d46 (d47 ws)) (h46.full (d47 ws) (h47.full ws f)) tt).is) ((h46.any (d47 ws) (h47.full ws f) tt).is) ((h47.any ws f tt).is) }; full = λ ws f. (h42.full (d43 (d44 (d45 (d46 (d47 ws))))) (h43.full (d44 (d45 (d46 (d47 ws)))) (h44.full (d45 (d46 (d47 ws))) (h45.full (d46 (d47 ws)) (h46.full (d47 ws) (h47.full ws f)))))) })) (λ d47 h47. record { more = λ w. w; good = λ w z. z; is = record { any = λ ws f c. record { tree = ((h43.any (d44 (d45 (d46 (d47 ws)))) (h44.full (d45 (d46 (d47 ws))) (h45.full (d46 (d47 ws)) (h46.full (d47 ws) (h47.full ws f)))) tt).tree, (h45.any (d46 (d47 ws)) (h46.full (d47 ws) (h47.full ws f)) tt).tree, (h46.any (d47 ws) (h47.full ws f) tt).tree); is = g.head ((h42.any (d43 (d44 (d45 (d46 (d47 ws))))) (h43.full (d44 (d45 (d46 (d47 ws)))) (h44.full (d45 (d46 (d47 ws))) (h45.full (d46 (d47 ws)) (h46.full (d47 ws) (h47.full ws f))))) tt).is) ((h43.any (d44 (d45 (d46 (d47 ws)))) (h44.full (d45 (d46 (d47 ws))) (h45.full (d46 (d47 ws)) (h46.full (d47 ws) (h47.full ws f)))) tt).is) ((h44.any (d45 (d46 (d47 ws))) (h45.full (d46 (d47 ws)) (h46.full (d47 ws) (h47.full ws f))) tt).is) ((h45.any (d46 (d47 ws)) (h46.full (d47 ws) (h47.full ws f)) tt).is) ((h46.any (d47 ws) (h47.full ws f) tt).is) ((h47.any ws f tt).is) }; full = λ ws f. (h42.full (d43 (d44 (d45 (d46 (d47 ws))))) (h43.full (d44 (d45 (d46 (d47 ws)))) (h44.full (d45 (d46 (d47 ws))) (h45.full (d46 (d47 ws)) (h46.full (d47 ws) (h47.full ws f)))))) } })) (λ d46 h46. record { more = λ w. (madeof (kinds.Sign (signs.ParenClose)) ∷ w); good = λ w z. (good_token (kinds.Sign (signs.ParenClose)) tt w z); is = record { any = λ ws f c. record { tree = ((h43.any (d44 (d45 (d46 (madeof (kinds.Sign (signs.ParenClose)) ∷ ws)))) (h44.full (d45 (d46 (madeof (kinds.Sign (signs.ParenClose)) ∷ ws))) (h45.full (d46 (madeof (kinds.Sign (signs.ParenClose)) ∷ ws)) (h46.full (madeof (kinds.Sign (signs.ParenClose)) ∷ ws) ((one_made (kinds.Sign (signs.ParenClose))).full ws f)))) tt).tree, (h45.any (d46 (madeof (kinds.Sign (signs.ParenClose)) ∷ ws)) (h46.full (madeof (kinds.Sign (signs.ParenClose)) ∷ ws) ((one_made (kinds.Sign (signs.ParenClose))).full ws f)) tt).tree, (h46.any (madeof (kinds.Sign (signs.ParenClose)) ∷ ws) ((one_made (kinds.Sign (signs.ParenClose))).full ws f) tt).tree); is = g.head ((h42.any (d43 (d44 (d45 (d46 (madeof (kinds.Sign (signs.ParenClose)) ∷ ws))))) (h43.full (d44 (d45 (d46 (madeof (kinds.Sign (signs.ParenClose)) ∷ ws)))) (h44.full (d45 (d46 (madeof (kinds.Sign (signs.ParenClose)) ∷ ws))) (h45.full (d46 (madeof (kinds.Sign (signs.ParenClose)) ∷ ws)) (h46.full (madeof (kinds.Sign (signs.ParenClose)) ∷ ws) ((one_made (kinds.Sign (signs.ParenClose))).full ws f))))) tt).is) ((h43.any (d44 (d45 (d46 (madeof (kinds.Sign (signs.ParenClose)) ∷ ws)))) (h44.full (d45 (d46 (madeof (kinds.Sign (signs.ParenClose)) ∷ ws))) (h45.full (d46 (madeof (kinds.Sign (signs.ParenClose)) ∷ ws)) (h46.full (madeof (kinds.Sign (signs.ParenClose)) ∷ ws) ((one_made (kinds.Sign (signs.ParenClose))).full ws f)))) tt).is) ((h44.any (d45 (d46 (madeof (kinds.Sign (signs.ParenClose)) ∷ ws))) (h45.full (d46 (madeof (kinds.Sign (signs.ParenClose)) ∷ ws)) (h46.full (madeof (kinds.Sign (signs.ParenClose)) ∷ ws) ((one_made (kinds.Sign (signs.ParenClose))).full ws f))) tt).is) ((h45.any (d46 (madeof (kinds.Sign (signs.ParenClose)) ∷ ws)) (h46.full (madeof (kinds.Sign (signs.ParenClose)) ∷ ws) ((one_made (kinds.Sign (signs.ParenClose))).full ws f)) tt).is) ((h46.any (madeof (kinds.Sign (signs.ParenClose)) ∷ ws) ((one_made (kinds.Sign (signs.ParenClose))).full ws f) tt).is) (((one_made (kinds.Sign (signs.ParenClose))).any ws f tt).is) }; full = λ ws f. (h42.full (d43 (d44 (d45 (d46 (madeof (kinds.Sign (signs.ParenClose)) ∷ ws))))) (h43.full (d44 (d45 (d46 (madeof (kinds.Sign (signs.ParenClose)) ∷ ws)))) (h44.full (d45 (d46 (madeof (kinds.Sign (signs.ParenClose)) ∷ ws))) (h45.full (d46 (madeof (kinds.Sign (signs.ParenClose)) ∷ ws)) (h46.full (madeof (kinds.Sign (signs.ParenClose)) ∷ ws) ((one_made (kinds.Sign (signs.ParenClose))).full ws f)))))) } })) (λ d45 h45. record { more = λ w. (madeof (kinds.Sign (signs.ParenClose)) ∷ w); good = λ w z. (good_token (kinds.Sign (signs.ParenClose)) tt w z); is = record { any = λ ws f c. record { tree = ((h43.any (d44 (d45 (madeof (kinds.Sign (signs.ParenClose)) ∷ ws))) (h44.full (d45 (madeof (kinds.Sign (signs.ParenClose)) ∷ ws)) (h45.full (madeof (kinds.Sign (signs.ParenClose)) ∷ ws) (none_second.full (madeof (kinds.Sign (signs.ParenClose)) ∷ ws) ((one_made (kinds.Sign (signs.ParenClose))).full ws f)))) tt).tree, (h45.any (madeof (kinds.Sign (signs.ParenClose)) ∷ ws) (none_second.full (madeof (kinds.Sign (signs.ParenClose)) ∷ ws) ((one_made (kinds.Sign (signs.ParenClose))).full ws f)) tt).tree, (none_second.any (madeof (kinds.Sign (signs.ParenClose)) ∷ ws) ((one_made (kinds.Sign (signs.ParenClose))).full ws f) tt).tree); is = g.head ((h42.any (d43 (d44 (d45 (madeof (kinds.Sign (signs.ParenClose)) ∷ ws)))) (h43.full (d44 (d45 (madeof (kinds.Sign (signs.ParenClose)) ∷ ws))) (h44.full (d45 (madeof (kinds.Sign (signs.ParenClose)) ∷ ws)) (h45.full (madeof (kinds.Sign (signs.ParenClose)) ∷ ws) (none_second.full (madeof (kinds.Sign (signs.ParenClose)) ∷ ws) ((one_made (kinds.Sign (signs.ParenClose))).full ws f))))) tt).is) ((h43.any (d44 (d45 (madeof (kinds.Sign (signs.ParenClose)) ∷ ws))) (h44.full (d45 (madeof (kinds.Sign (signs.ParenClose)) ∷ ws)) (h45.full (madeof (kinds.Sign (signs.ParenClose)) ∷ ws) (none_second.full (madeof (kinds.Sign (signs.ParenClose)) ∷ ws) ((one_made (kinds.Sign (signs.ParenClose))).full ws f)))) tt).is) ((h44.any (d45 (madeof (kinds.Sign (signs.ParenClose)) ∷ ws)) (h45.full (madeof (kinds.Sign (signs.ParenClose)) ∷ ws) (none_second.full (madeof (kinds.Sign (signs.ParenClose)) ∷ ws) ((one_made (kinds.Sign (signs.ParenClose))).full ws f))) tt).is) ((h45.any (madeof (kinds.Sign (signs.ParenClose)) ∷ ws) (none_second.full (madeof (kinds.Sign (signs.ParenClose)) ∷ ws) ((one_made (kinds.Sign (signs.ParenClose))).full ws f)) tt).is) ((none_second.any (madeof (kinds.Sign (signs.ParenClose)) ∷ ws) ((one_made (kinds.Sign (signs.ParenClose))).full ws f) tt).is) (((one_made (kinds.Sign (signs.ParenClose))).any ws f tt).is) }; full = λ ws f. (h42.full (d43 (d44 (d45 (madeof (kinds.Sign (signs.ParenClose)) ∷ ws)))) (h43.full (d44 (d45 (madeof (kinds.Sign (signs.ParenClose)) ∷ ws))) (h44.full (d45 (madeof (kinds.Sign (signs.ParenClose)) ∷ ws)) (h45.full (madeof (kinds.Sign (signs.ParenClose)) ∷ ws) (none_second.full (madeof (kinds.Sign (signs.ParenClose)) ∷ ws) ((one_made (kinds.Sign (signs.ParenClose))).full ws f)))))) } })) (λ d44 h44. record { more = λ w. (madeof a_kind ∷ (madeof (kinds.Sign (signs.ParenClose)) ∷ w)); good = λ w z. (good_token a_kind a_name (madeof (kinds.Sign (signs.ParenClose)) ∷ w) (good_token (kinds.Sign (signs.ParenClose)) tt w z)); is = record { any = λ ws f c. record { tree = ((h43.any (d44 (madeof a_kind ∷ (madeof (kinds.Sign (signs.ParenClose)) ∷ ws))) (h44.full (madeof a_kind ∷ (madeof (kinds.Sign (signs.ParenClose)) ∷ ws)) (a_named.full (madeof (kinds.Sign (signs.ParenClose)) ∷ ws) (none_second.full (madeof (kinds.Sign (signs.ParenClose)) ∷ ws) ((one_made (kinds.Sign (signs.ParenClose))).full ws f)))) tt).tree, (a_named.any (madeof (kinds.Sign (signs.ParenClose)) ∷ ws) (none_second.full (madeof (kinds.Sign (signs.ParenClose)) ∷ ws) ((one_made (kinds.Sign (signs.ParenClose))).full ws f)) tt).tree, (none_second.any (madeof (kinds.Sign (signs.ParenClose)) ∷ ws) ((one_made (kinds.Sign (signs.ParenClose))).full ws f) tt).tree); is = g.head ((h42.any (d43 (d44 (madeof a_kind ∷ (madeof (kinds.Sign (signs.ParenClose)) ∷ ws)))) (h43.full (d44 (madeof a_kind ∷ (madeof (kinds.Sign (signs.ParenClose)) ∷ ws))) (h44.full (madeof a_kind ∷ (madeof (kinds.Sign (signs.ParenClose)) ∷ ws)) (a_named.full (madeof (kinds.Sign (signs.ParenClose)) ∷ ws) (none_second.full (madeof (kinds.Sign (signs.ParenClose)) ∷ ws) ((one_made (kinds.Sign (signs.ParenClose))).full ws f))))) tt).is) ((h43.any (d44 (madeof a_kind ∷ (madeof (kinds.Sign (signs.ParenClose)) ∷ ws))) (h44.full (madeof a_kind ∷ (madeof (kinds.Sign (signs.ParenClose)) ∷ ws)) (a_named.full (madeof (kinds.Sign (signs.ParenClose)) ∷ ws) (none_second.full (madeof (kinds.Sign (signs.ParenClose)) ∷ ws) ((one_made (kinds.Sign (signs.ParenClose))).full ws f)))) tt).is) ((h44.any (madeof a_kind ∷ (madeof (kinds.Sign (signs.ParenClose)) ∷ ws)) (a_named.full (madeof (kinds.Sign (signs.ParenClose)) ∷ ws) (none_second.full (madeof (kinds.Sign (signs.ParenClose)) ∷ ws) ((one_made (kinds.Sign (signs.ParenClose))).full ws f))) tt).is) ((a_named.any (madeof (kinds.Sign (signs.ParenClose)) ∷ ws) (none_second.full (madeof (kinds.Sign (signs.ParenClose)) ∷ ws) ((one_made (kinds.Sign (signs.ParenClose))).full ws f)) tt).is) ((none_second.any (madeof (kinds.Sign (signs.ParenClose)) ∷ ws) ((one_made (kinds.Sign (signs.ParenClose))).full ws f) tt).is) (((one_made (kinds.Sign (signs.ParenClose))).any ws f tt).is) }; full = λ ws f. (h42.full (d43 (d44 (madeof a_kind ∷ (madeof (kinds.Sign (signs.ParenClose)) ∷ ws)))) (h43.full (d44 (madeof a_kind ∷ (madeof (kinds.Sign (signs.ParenClose)) ∷ ws))) (h44.full (madeof a_kind ∷ (madeof (kinds.Sign (signs.ParenClose)) ∷ ws)) (a_named.full (madeof (kinds.Sign (signs.ParenClose)) ∷ ws) (none_second.full (madeof (kinds.Sign (signs.ParenClose)) ∷ ws) ((one_made (kinds.Sign (signs.ParenClose))).full ws f)))))) } })) (λ d43 h43. record { more = λ w. (madeof (kinds.Sign (signs.ParenOpen)) ∷ (madeof a_kind ∷ (madeof (kinds.Sign (signs.ParenClose)) ∷ w))); good = λ w z. (good_token (kinds.Sign (signs.ParenOpen)) tt (madeof a_kind ∷ (madeof (kinds.Sign (signs.ParenClose)) ∷ w)) (good_token a_kind a_name (madeof (kinds.Sign (signs.ParenClose)) ∷ w) (good_token (kinds.Sign (signs.ParenClose)) tt w z))); is = record { any = λ ws f c. record { tree = ((h43.any (madeof (kinds.Sign (signs.ParenOpen)) ∷ (madeof a_kind ∷ (madeof (kinds.Sign (signs.ParenClose)) ∷ ws))) ((one_made (kinds.Sign (signs.ParenOpen))).full (madeof a_kind ∷ (madeof (kinds.Sign (signs.ParenClose)) ∷ ws)) (a_named.full (madeof (kinds.Sign (signs.ParenClose)) ∷ ws) (none_second.full (madeof (kinds.Sign (signs.ParenClose)) ∷ ws) ((one_made (kinds.Sign (signs.ParenClose))).full ws f)))) tt).tree, (a_named.any (madeof (kinds.Sign (signs.ParenClose)) ∷ ws) (none_second.full (madeof (kinds.Sign (signs.ParenClose)) ∷ ws) ((one_made (kinds.Sign (signs.ParenClose))).full ws f)) tt).tree, (none_second.any (madeof (kinds.Sign (signs.ParenClose)) ∷ ws) ((one_made (kinds.Sign (signs.ParenClose))).full ws f) tt).tree); is = g.head ((h42.any (d43 (madeof (kinds.Sign (signs.ParenOpen)) ∷ (madeof a_kind ∷ (madeof (kinds.Sign (signs.ParenClose)) ∷ ws)))) (h43.full (madeof (kinds.Sign (signs.ParenOpen)) ∷ (madeof a_kind ∷ (madeof (kinds.Sign (signs.ParenClose)) ∷ ws))) ((one_made (kinds.Sign (signs.ParenOpen))).full (madeof a_kind ∷ (madeof (kinds.Sign (signs.ParenClose)) ∷ ws)) (a_named.full (madeof (kinds.Sign (signs.ParenClose)) ∷ ws) (none_second.full (madeof (kinds.Sign (signs.ParenClose)) ∷ ws) ((one_made (kinds.Sign (signs.ParenClose))).full ws f))))) tt).is) ((h43.any (madeof (kinds.Sign (signs.ParenOpen)) ∷ (madeof a_kind ∷ (madeof (kinds.Sign (signs.ParenClose)) ∷ ws))) ((one_made (kinds.Sign (signs.ParenOpen))).full (madeof a_kind ∷ (madeof (kinds.Sign (signs.ParenClose)) ∷ ws)) (a_named.full (madeof (kinds.Sign (signs.ParenClose)) ∷ ws) (none_second.full (madeof (kinds.Sign (signs.ParenClose)) ∷ ws) ((one_made (kinds.Sign (signs.ParenClose))).full ws f)))) tt).is) (((one_made (kinds.Sign (signs.ParenOpen))).any (madeof a_kind ∷ (madeof (kinds.Sign (signs.ParenClose)) ∷ ws)) (a_named.full (madeof (kinds.Sign (signs.ParenClose)) ∷ ws) (none_second.full (madeof (kinds.Sign (signs.ParenClose)) ∷ ws) ((one_made (kinds.Sign (signs.ParenClose))).full ws f))) tt).is) ((a_named.any (madeof (kinds.Sign (signs.ParenClose)) ∷ ws) (none_second.full (madeof (kinds.Sign (signs.ParenClose)) ∷ ws) ((one_made (kinds.Sign (signs.ParenClose))).full ws f)) tt).is) ((none_second.any (madeof (kinds.Sign (signs.ParenClose)) ∷ ws) ((one_made (kinds.Sign (signs.ParenClose))).full ws f) tt).is) (((one_made (kinds.Sign (signs.ParenClose))).any ws f tt).is) }; full = λ ws f. (h42.full (d43 (madeof (kinds.Sign (signs.ParenOpen)) ∷ (madeof a_kind ∷ (madeof (kinds.Sign (signs.ParenClose)) ∷ ws)))) (h43.full (madeof (kinds.Sign (signs.ParenOpen)) ∷ (madeof a_kind ∷ (madeof (kinds.Sign (signs.ParenClose)) ∷ ws))) ((one_made (kinds.Sign (signs.ParenOpen))).full (madeof a_kind ∷ (madeof (kinds.Sign (signs.ParenClose)) ∷ ws)) (a_named.full (madeof (kinds.Sign (signs.ParenClose)) ∷ ws) (none_second.full (madeof (kinds.Sign (signs.ParenClose)) ∷ ws) ((one_made (kinds.Sign (signs.ParenClose))).full ws f)))))) } })) (λ d42 h42. record { more = λ w. (madeof (kinds.Sign (signs.ParenOpen)) ∷ (madeof a_kind ∷ (madeof (kinds.Sign (signs.ParenClose)) ∷ w))); good = λ w z. (good_token (kinds.Sign (signs.ParenOpen)) tt (madeof a_kind ∷ (madeof (kinds.Sign (signs.ParenClose)) ∷ w)) (good_token a_kind a_name (madeof (kinds.Sign (signs.ParenClose)) ∷ w) (good_token (kinds.Sign (signs.ParenClose)) tt w z))); is = record { any = λ ws f c. record { tree = ((none_own.any (madeof (kinds.Sign (signs.ParenOpen)) ∷ (madeof a_kind ∷ (madeof (kinds.Sign (signs.ParenClose)) ∷ ws))) ((one_made (kinds.Sign (signs.ParenOpen))).full (madeof a_kind ∷ (madeof (kinds.Sign (signs.ParenClose)) ∷ ws)) (a_named.full (madeof (kinds.Sign (signs.ParenClose)) ∷ ws) (none_second.full (madeof (kinds.Sign (signs.ParenClose)) ∷ ws) ((one_made (kinds.Sign (signs.ParenClose))).full ws f)))) tt).tree, (a_named.any (madeof (kinds.Sign (signs.ParenClose)) ∷ ws) (none_second.full (madeof (kinds.Sign (signs.ParenClose)) ∷ ws) ((one_made (kinds.Sign (signs.ParenClose))).full ws f)) tt).tree, (none_second.any (madeof (kinds.Sign (signs.ParenClose)) ∷ ws) ((one_made (kinds.Sign (signs.ParenClose))).full ws f) tt).tree); is = g.head ((h42.any (madeof (kinds.Sign (signs.ParenOpen)) ∷ (madeof a_kind ∷ (madeof (kinds.Sign (signs.ParenClose)) ∷ ws))) (none_own.full (madeof (kinds.Sign (signs.ParenOpen)) ∷ (madeof a_kind ∷ (madeof (kinds.Sign (signs.ParenClose)) ∷ ws))) ((one_made (kinds.Sign (signs.ParenOpen))).full (madeof a_kind ∷ (madeof (kinds.Sign (signs.ParenClose)) ∷ ws)) (a_named.full (madeof (kinds.Sign (signs.ParenClose)) ∷ ws) (none_second.full (madeof (kinds.Sign (signs.ParenClose)) ∷ ws) ((one_made (kinds.Sign (signs.ParenClose))).full ws f))))) tt).is) ((none_own.any (madeof (kinds.Sign (signs.ParenOpen)) ∷ (madeof a_kind ∷ (madeof (kinds.Sign (signs.ParenClose)) ∷ ws))) ((one_made (kinds.Sign (signs.ParenOpen))).full (madeof a_kind ∷ (madeof (kinds.Sign (signs.ParenClose)) ∷ ws)) (a_named.full (madeof (kinds.Sign (signs.ParenClose)) ∷ ws) (none_second.full (madeof (kinds.Sign (signs.ParenClose)) ∷ ws) ((one_made (kinds.Sign (signs.ParenClose))).full ws f)))) tt).is) (((one_made (kinds.Sign (signs.ParenOpen))).any (madeof a_kind ∷ (madeof (kinds.Sign (signs.ParenClose)) ∷ ws)) (a_named.full (madeof (kinds.Sign (signs.ParenClose)) ∷ ws) (none_second.full (madeof (kinds.Sign (signs.ParenClose)) ∷ ws) ((one_made (kinds.Sign (signs.ParenClose))).full ws f))) tt).is) ((a_named.any (madeof (kinds.Sign (signs.ParenClose)) ∷ ws) (none_second.full (madeof (kinds.Sign (signs.ParenClose)) ∷ ws) ((one_made (kinds.Sign (signs.ParenClose))).full ws f)) tt).is) ((none_second.any (madeof (kinds.Sign (signs.ParenClose)) ∷ ws) ((one_made (kinds.Sign (signs.ParenClose))).full ws f) tt).is) (((one_made (kinds.Sign (signs.ParenClose))).any ws f tt).is) }; full = λ ws f. (h42.full (madeof (kinds.Sign (signs.ParenOpen)) ∷ (madeof a_kind ∷ (madeof (kinds.Sign (signs.ParenClose)) ∷ ws))) (none_own.full (madeof (kinds.Sign (signs.ParenOpen)) ∷ (madeof a_kind ∷ (madeof (kinds.Sign (signs.ParenClose)) ∷ ws))) ((one_made (kinds.Sign (signs.ParenOpen))).full (madeof a_kind ∷ (madeof (kinds.Sign (signs.ParenClose)) ∷ ws)) (a_named.full (madeof (kinds.Sign (signs.ParenClose)) ∷ ws) (none_second.full (madeof (kinds.Sign (signs.ParenClose)) ∷ ws) ((one_made (kinds.Sign (signs.ParenClose))).full ws f)))))) } })

-- ---- the body and the end

abbrev pub AtEnd : Tokens → Type 0
AtEnd ts = kind ts ≡ kinds.End

abbrev Anything : {A : Type 0} → A → Tokens → Front → Type 0
Anything x us d = Unit {0}

record TailOf (ts : Tokens) (z : Unit {0}) (us : Tokens) : Type 0 where
  last : Tokens
  tail : IsTail ts last
  is : kind last ≡ kinds.End

abbrev Tails : Front → Type 0
Tails = Spells TailOf AtEnd

no_tail : Tails (λ w. w)
no_tail = record { any = λ ts f e. record { tree = tt; is = record { last = ts; tail = g.no_semicolon; is = e } }; full = λ ts f. f }

a_tail : (t : Token) → t.kind ≡ kinds.Sign signs.Semicolon → Tails (λ w. t ∷ w)
a_tail t is =
    let o : One (kinds.Sign signs.Semicolon) (λ w. t ∷ w) = one_token t (kinds.Sign signs.Semicolon) is in
    record { any = λ ts f e. record { tree = tt; is = record { last = ts; tail = g.semicolon (o.any ts f tt).is; is = e } }; full = o.full }

end_by_grows : (S : Front → Type 0) (k : Kind) (found : List Statement) (ts : Tokens) → AreTokens ts → S (λ w. w) → Grows (Anything {A = List Statement}) S (read_then (end_by k ts) (λ _. pure_rule found)) ts
end_by_grows S kinds.End found ts a h = pure_grows (Anything {A = List Statement}) S found ts a tt
end_by_grows S _ found ts a h = refuse_grows (Anything {A = List Statement}) S ts a (record { more = λ w. w; good = λ w z. z; is = h })

end_grows : (S : Front → Type 0) (found : List Statement) (ts : Tokens) → AreTokens ts → S (λ w. w) → Grows (Anything {A = List Statement}) S (read_then (end ts) (λ _. pure_rule found)) ts
unfolding end
end_grows S found ts a h = end_by_grows S (kind ts) found ts a h

same_cond : {A : Type 0} (b : Bool) (r : Rule A) (us : Tokens) → cond b r r us ≡ r us
same_cond true r us = refl
same_cond false r us = refl

abbrev ended : List Statement → Rule (List Statement)
ended found = end >>= λ _. pure_rule found

tail_grows : (found : List Statement) (ts : Tokens) → AreTokens ts → Grows (Anything {A = List Statement}) Tails (ended found (after signs.Semicolon ts)) ts
tail_grows found ts a =
    subst (λ (q : Outcome (List Statement)). Grows (Anything {A = List Statement}) Tails q ts) (same_cond (sees signs.Semicolon ts) (ended found) (after signs.Semicolon ts))
    (eat_grows (Anything {A = List Statement}) Tails signs.Semicolon (ended found) (ended found) ts a
    (λ t is b. end_grows (λ d. Tails (λ w. t ∷ d w)) found (next ts) b (a_tail t is)) (λ _. end_grows Tails found ts a no_tail))

record BodyOf (ts : Tokens) (found : List Statement) (us : Tokens) : Type 0 where
  inside : Tokens
  behind : Tokens
  last : Tokens
  opens : Takes (kinds.Sign signs.BraceOpen) ts inside
  are : AreStatements false inside found behind
  tail : IsTail behind last
  is : kind last ≡ kinds.End

abbrev Bodies : Front → Type 0
Bodies = Spells BodyOf AtEnd

body_of : (d e c : Front) → One (kinds.Sign signs.BraceOpen) d → Spells (AreStatements false) Always e → Tails c → Bodies (λ w. d (e (c w)))
body_of d e c o b z = record {
  any = λ ws f m. (let r : Found TailOf (c ws) ws = z.any ws f m in
      let q : Found (AreStatements false) (e (c ws)) (c ws) = b.any (c ws) (z.full ws f) tt in
      record {
        tree = q.tree;
        is = record { inside = e (c ws); behind = c ws; last = r.is.last; opens = (o.any (e (c ws)) (b.full (c ws) (z.full ws f)) tt).is; are = q.is; tail = r.is.tail; is = r.is.is };
      });
  full = λ ws f. o.full (e (c ws)) (b.full (c ws) (z.full ws f));
}

no_statements : Spells (AreStatements false) Always (λ w. madeof (kinds.Sign signs.BraceClose) ∷ w)
no_statements =
    let o : One (kinds.Sign signs.BraceClose) (λ w. madeof (kinds.Sign signs.BraceClose) ∷ w) = one_made (kinds.Sign signs.BraceClose) in
    record { any = λ ts f c. record { tree = _; is = g.no_statement (o.any ts f tt).is }; full = o.full }

body_grows : (ts : Tokens) → AreTokens ts → Grows (Anything {A = List Statement}) Bodies (function_body ts) ts
unfolding function_body
body_grows ts a =
    then_grows (λ _ _ d. One (kinds.Sign signs.BraceOpen) d) (One (kinds.Sign signs.BraceOpen)) (Anything {A = List Statement}) Bodies (expect signs.BraceOpen ts)
    (λ _ us. read_then (block_in body_room false us) (λ found vs. ended found (after signs.Semicolon vs))) ts (expect_grows signs.BraceOpen ts a)
    (λ _ us d b o. then_grows (λ _ _ e. Spells (AreStatements false) Always e) (Spells (AreStatements false) Always) (Anything {A = List Statement}) (λ c. Bodies (λ w. d (c w))) (block_in body_room false us)
    (λ found vs. ended found (after signs.Semicolon vs)) us (body_block_grows body_room false us b)
    (λ found vs e z h. map_grows (Anything {A = List Statement}) (Anything {A = List Statement}) Tails (λ c. Bodies (λ w. d (e (c w)))) (ended found (after signs.Semicolon vs)) vs (tail_grows found vs z) (λ _ _ _ _. tt) (λ c i. body_of d e c o h i))
    (λ e h. record { more = λ w. w; good = λ w q. q; is = body_of d e (λ w. w) o h no_tail }))
    (λ d o. record {
      more = λ w. madeof (kinds.Sign signs.BraceClose) ∷ w;
      good = good_token (kinds.Sign signs.BraceClose) tt;
      is = body_of d (λ w. madeof (kinds.Sign signs.BraceClose) ∷ w) (λ w. w) o no_statements no_tail;
    })

-- ---- programs

abbrev pub ProgramOf : Tokens → Program → Tokens → Type 0
ProgramOf ts p us = IsProgram ts p

program_of : (d c : Front) → Spells HeadOf Always d → Bodies c → Spells ProgramOf AtEnd (λ w. d (c w))
program_of d c h b = record {
  any = λ ws f m. (let x : Found HeadOf (d (c ws)) (c ws) = h.any (c ws) (b.full ws f) tt in
      let y : Found BodyOf (c ws) ws = b.any ws f m in
      record { tree = made x.tree (place (c ws)) y.tree; is = g.program x.is y.is.opens y.is.are y.is.tail y.is.is });
  full = λ ws f. h.full (c ws) (b.full ws f);
}

abbrev empty_front : Front
empty_front = λ w. madeof (kinds.Sign signs.BraceOpen) ∷ madeof (kinds.Sign signs.BraceClose) ∷ w

empty_is : Bodies empty_front
empty_is = body_of (λ w. madeof (kinds.Sign signs.BraceOpen) ∷ w) (λ w. madeof (kinds.Sign signs.BraceClose) ∷ w) (λ w. w) (one_made (kinds.Sign signs.BraceOpen)) no_statements no_tail

empty_good : (w : Tokens) → AreTokens w → AreTokens (empty_front w)
empty_good w a = (tt, good_token (kinds.Sign signs.BraceClose) tt w a)

pub program_grows : (ts : Tokens) → AreTokens ts → Grows (Anything {A = Program}) (Spells ProgramOf AtEnd) (program ts) ts
unfolding program
program_grows ts a =
    then_grows (λ _ _ d. Spells HeadOf Always d) (Spells HeadOf Always) (Anything {A = Program}) (Spells ProgramOf AtEnd) (head ts) (λ h us. read_then (function_body us) (λ found. pure_rule (made h (place us) found))) ts (head_grows ts a)
    (λ h us d b i. then_grows (Anything {A = List Statement}) Bodies (Anything {A = Program}) (λ c. Spells ProgramOf AtEnd (λ w. d (c w))) (function_body us) (λ found. pure_rule (made h (place us) found)) us (body_grows us b)
    (λ found vs c z _. pure_grows (Anything {A = Program}) (λ e. Spells ProgramOf AtEnd (λ w. d (c (e w)))) (made h (place us) found) vs z tt)
    (λ c j. record { more = λ w. w; good = λ w q. q; is = program_of d c i j }))
    (λ d i. record { more = empty_front; good = empty_good; is = program_of d empty_front i empty_is })
