-- Statements and programs are read alike of tokens that begin alike, and where more may be open.
use Rattle.std.proofs.Common.{◌≡◌, ℕ, zero, suc, ◌-◌, ◌<◌, ◌≤◌, nat_lt, is_some, Bool, true, false, cond, if◌then◌else◌, List, [], ◌∷◌, Option, Some, None, Ok, Err, refl, sym, subst, ap, ◌∙◌, arith, ltb-true, ltb-false}
use Rattle.sync_tokens.specs.Spellable.{IsLast, AreTokens}
use Rattle.sync_tokens.specs.declared.place.Place.{Place}
use Rattle.sync_tokens.specs.declared.token.Kind.{Kind}
use Rattle.sync_tokens.specs.declared.token.Kind.TheVariants as kinds
use Rattle.sync_tokens.specs.declared.token.Sign.{Sign}
use Rattle.sync_tokens.specs.declared.token.Sign.TheVariants as signs
use Rattle.sync_tokens.specs.declared.token.Token.{Token}
use Rattle.sync_tokens.specs.declared.token.Word.{Word}
use Rattle.sync_tokens.specs.declared.token.Word.TheVariants as words
use Rattle.sync_syntax.specs.declared.operator.Writing.{Writing}
use Rattle.sync_syntax.specs.declared.operator.Writing.TheVariants as writing
use Rattle.sync_syntax.specs.declared.tree.Named.{Named}
use Rattle.sync_syntax.specs.declared.tree.Declares.{Declares}
use Rattle.sync_syntax.specs.declared.tree.Simple.{Simple}
use Rattle.sync_syntax.specs.declared.tree.Simple.TheVariants as simples
use Rattle.sync_syntax.specs.declared.tree.Start.{Start}
use Rattle.sync_syntax.specs.declared.tree.Start.TheVariants as starts
use Rattle.sync_syntax.specs.declared.tree.Statement.{Statement}
use Rattle.sync_syntax.specs.declared.tree.Statement.TheVariants as s
use Rattle.sync_syntax.specs.declared.tree.Program.{Program}
use Rattle.sync_syntax.specs.Reading.{Tokens, Outcome, Rule, ◌>>=◌, pure_rule, take, kind, next, second, place, eat, eat_word, expect, expect_word, name_rule, too_deep}
use Rattle.sync_syntax.specs.Operators.{declares_by, writing_by, is_name_kind}
use Rattle.sync_syntax.specs.Statements.{named_rule, statement_end, end_by, end, expr, given, declared_rule, more_declared, declaration, written_rule, write, value_rule, write_or_value, simple_rule, expr_unless, simple_unless, returned_rule, return_at, throw_rule, declare_rule, only_simple, declare_or_simple, plain_rule, jump_rule, block_rule, else_rule, if_rule, repeat, each_rule, for_declared, for_simple, for_by, for_at, statement_by_word, statement_by_sign, statement_by, statement_rule, statement, block_in, own_name_by, own_name, second_parameter, head}
use Rattle.sync_syntax.specs.Faults.{is_written}
use Rattle.sync_syntax.specs.Grammar as g
use Rattle.sync_syntax.specs.Expressions.{nested}
use Rattle.sync_syntax.proofs.Alike.{Alike, More, one_less, bind_alike, first_alike, two_alike, all_alike, loosely, pure_alike, refuse_alike, deep_alike, deep_unwritten, taken_alike, kind_alike, see_alike, eat_alike, eat_word_alike, expect_alike, expect_word_alike, name_alike}
use Rattle.sync_syntax.proofs.AlikeExpressions.{nested_alike, name_nested}
use Rattle.sync_syntax.proofs.CompleteStatements.{read_same, Heading, made}
use Rattle.sync_syntax.proofs.Loops.{separated_alike, block_alike}
use Rattle.sync_syntax.proofs.Pasts.{declared_goes, statement_goes}
use Rattle.sync_syntax.proofs.StatementSteps.{named_read}
use Rattle.sync_syntax.proofs.Turns.{deeper}

-- ---- names and ends

abbrev placed : Place → Rule Named
placed p = name_rule >>= λ n. pure_rule (record { place = p; name = n })

pub named_alike : (ts : Tokens) → AreTokens ts → Alike false (named_rule ts) (λ m. named_rule) ts
unfolding named_rule place
named_alike [] a = absurd a
named_alike (t ∷ r) a =
    first_alike (λ m. named_rule) (λ m. placed t.place) t r (λ m other _. refl) false (named_rule (t ∷ r))
    (bind_alike false (name_rule (t ∷ r)) (λ m. name_rule) (λ n. pure_rule (record { place = t.place; name = n })) (λ m n. pure_rule (record { place = t.place; name = n })) (t ∷ r) (name_alike (t ∷ r) a)
    (λ n us _ b. pure_alike (record { place = t.place; name = n }) us b))

ending_alike : (ts : Tokens) → AreTokens ts → Alike false (statement_end ts) (λ m. statement_end) ts
unfolding statement_end
ending_alike ts a = see_alike false signs.BraceClose ((pure_rule (tt)) ts) ((expect signs.Semicolon) ts) (λ m. pure_rule (tt)) (λ m. expect signs.Semicolon) ts a (λ _. pure_alike (tt) ts a) (λ _. expect_alike signs.Semicolon ts a)

end_by_alike : (k : Kind) (ts : Tokens) → AreTokens ts → Alike false (end_by k ts) (λ m. end_by k) ts
end_by_alike kinds.End ts a = pure_alike tt ts a
end_by_alike _ ts a = refuse_alike ts a

end_alike : (ts : Tokens) → AreTokens ts → Alike false (end ts) (λ m. end) ts
unfolding end kind
end_alike [] a = absurd a
end_alike (t ∷ r) a = first_alike (λ m. end) (λ m. end_by t.kind) t r (λ m other _. refl) false (end (t ∷ r)) (end_by_alike t.kind (t ∷ r) a)

some_declares : (k : Kind) (how : Declares) → declares_by k ≡ Some how → IsLast k → ⊥
unfolding declares_by
some_declares kinds.End how is l = absurd cc
some_declares (kinds.Bad why) how is l = absurd cc
some_declares (kinds.Name n) how is l = l
some_declares (kinds.Integer n) how is l = l
some_declares (kinds.Text n) how is l = l
some_declares (kinds.Word n) how is l = l
some_declares (kinds.Sign n) how is l = l

some_writing : (k : Kind) (how : Writing) → writing_by k ≡ Some how → IsLast k → ⊥
unfolding writing_by
some_writing kinds.End how is l = absurd cc
some_writing (kinds.Bad why) how is l = absurd cc
some_writing (kinds.Name n) how is l = l
some_writing (kinds.Integer n) how is l = l
some_writing (kinds.Text n) how is l = l
some_writing (kinds.Word n) how is l = l
some_writing (kinds.Sign n) how is l = l

-- a name that is taken
name_named : (x : List ℕ) (ts : Tokens) → kind ts ≡ kinds.Name x → AreTokens ts → Alike true (named_rule ts) (λ m. named_rule) ts
unfolding named_rule name_rule place kind
name_named x [] is a = absurd a
name_named x (t ∷ r) is a =
    let n : Named = record { place = t.place; name = x } in
    let step : Alike true (Ok (n, next (t ∷ r))) (λ m us. Ok (n, next us)) (t ∷ r) = kind_alike n (kinds.Name x) (t ∷ r) is (λ l. l) a in
    subst (λ (q : Outcome Named). Alike true q (λ m. named_rule) (t ∷ r)) (sym (named_is t r x is))
    (first_alike (λ m. named_rule) (λ m us. Ok (n, next us)) t r (λ m other _. named_is t other x is) true (Ok (n, next (t ∷ r))) step)
  where
    named_is : (t : Token) (r : Tokens) (x : List ℕ) → t.kind ≡ kinds.Name x → named_rule (t ∷ r) ≡ Ok (record { place = t.place; name = x }, next (t ∷ r))
    named_is t r x is = rw is refl

named_next : (ts us : Tokens) (x : List ℕ) (n : Named) → kind ts ≡ kinds.Name x → named_rule ts ≡ Ok (n, us) → us ≡ next ts
named_next ts us x n is e = (read_same e (named_read (g.named (record { is = is; rest = refl })))).1

record NameOf (k : Kind) : Type 0 where
  name : List ℕ
  is : k ≡ kinds.Name name

name_of : (k : Kind) → is_name_kind k ≡ true → NameOf k
name_of (kinds.Name n) h = record { name = n; is = refl }
name_of _ h = absurd cc

none_some : {A : Type 0} (o : Option A) → is_some o ≡ false → o ≡ None
none_some None h = refl
none_some (Some a) h = absurd cc

module _ (room : ℕ) (more : ℕ → ℕ) (low : More room more) where
  expr_alike : (ts : Tokens) → AreTokens ts → Alike false (expr room ts) (λ m. expr (more m)) ts
  expr_alike ts a = nested_alike room more low false ts a

  given_alike : (ts : Tokens) → AreTokens ts → Alike false (given room ts) (λ m. given (more m)) ts
  unfolding given
  given_alike ts a = eat_alike signs.Assign ((expr room >>= λ x. pure_rule (Some x))) (pure_rule (None)) (λ m. (expr (more m) >>= λ x. pure_rule (Some x))) (λ m. pure_rule (None)) ts a (λ _ a1 _. bind_alike false ((expr room) (next ts)) (λ m. expr (more m)) (λ x. pure_rule (Some x)) (λ m x. pure_rule (Some x)) (next ts) (expr_alike (next ts) a1) (λ x us2 _ a2. pure_alike (Some x) us2 a2)) (λ _. pure_alike (None) ts a)

  declared_alike : (ts : Tokens) → AreTokens ts → Alike false (declared_rule room ts) (λ m. declared_rule (more m)) ts
  unfolding declared_rule
  declared_alike ts a = bind_alike false ((named_rule) ts) (λ m. named_rule) (λ n. (given room >>= λ value. pure_rule ((n, value)))) (λ m n. (given (more m) >>= λ value. pure_rule ((n, value)))) ts (named_alike ts a) (λ n us3 _ a3. bind_alike false ((given room) us3) (λ m. given (more m)) (λ value. pure_rule ((n, value))) (λ m value. pure_rule ((n, value))) us3 (given_alike us3 a3) (λ value us4 _ a4. pure_alike ((n, value)) us4 a4))

  more_declared_alike : (ts : Tokens) → AreTokens ts → Alike false (more_declared room ts) (λ m. more_declared (more m)) ts
  more_declared_alike ts a = separated_alike (declared_rule room) (λ m. declared_rule (more m)) declared_alike (declared_goes room) (λ m. declared_goes (more m)) ts a

  declaration_alike : (p : Place) (how : Declares) (n : Named) (ts : Tokens) → AreTokens ts → Alike false (declaration room p how n ts) (λ m. declaration (more m) p how n) ts
  unfolding declaration
  declaration_alike p how n ts a = bind_alike false ((given room) ts) (λ m. given (more m)) (λ value. (eat signs.Comma >>= λ b. if b then (more_declared room >>= λ others. pure_rule (record { place = p; declares = how; names = (n, value) ∷ others })) else pure_rule (record { place = p; declares = how; names = (n, value) ∷ [] }))) (λ m value. (eat signs.Comma >>= λ b. if b then (more_declared (more m) >>= λ others. pure_rule (record { place = p; declares = how; names = (n, value) ∷ others })) else pure_rule (record { place = p; declares = how; names = (n, value) ∷ [] }))) ts (given_alike ts a) (λ value us5 _ a5. eat_alike signs.Comma ((more_declared room >>= λ others. pure_rule (record { place = p; declares = how; names = (n, value) ∷ others }))) (pure_rule (record { place = p; declares = how; names = (n, value) ∷ [] })) (λ m. (more_declared (more m) >>= λ others. pure_rule (record { place = p; declares = how; names = (n, value) ∷ others }))) (λ m. pure_rule (record { place = p; declares = how; names = (n, value) ∷ [] })) us5 a5 (λ _ a6 _. bind_alike false ((more_declared room) (next us5)) (λ m. more_declared (more m)) (λ others. pure_rule (record { place = p; declares = how; names = (n, value) ∷ others })) (λ m others. pure_rule (record { place = p; declares = how; names = (n, value) ∷ others })) (next us5) (more_declared_alike (next us5) a6) (λ others us7 _ a7. pure_alike (record { place = p; declares = how; names = (n, value) ∷ others }) us7 a7)) (λ _. pure_alike (record { place = p; declares = how; names = (n, value) ∷ [] }) us5 a5))

  written_alike : (w : Writing) (n : Named) (ts : Tokens) → AreTokens ts → Alike false (written_rule room w n ts) (λ m. written_rule (more m) w n) ts
  written_alike (writing.Sets how) n ts a = bind_alike false ((expr room) ts) (λ m. expr (more m)) (λ x. pure_rule (simples.Write n how x)) (λ m x. pure_rule (simples.Write n how x)) ts (expr_alike ts a) (λ x us8 _ a8. pure_alike (simples.Write n how x) us8 a8)
  written_alike writing.Increments n ts a = pure_alike (simples.Increment n) ts a
  written_alike writing.Decrements n ts a = pure_alike (simples.Decrement n) ts a

  write_alike : (w : Writing) (x : List ℕ) (ts : Tokens) → kind ts ≡ kinds.Name x → writing_by (second ts) ≡ Some w → AreTokens ts → Alike true (write room w ts) (λ m. write (more m) w) ts
  unfolding write second
  write_alike w x ts is h a =
      bind_alike true (named_rule ts) (λ m. named_rule) (λ n. (take >>= λ _. written_rule room w n)) (λ m n. (take >>= λ _. written_rule (more m) w n)) ts (name_named x ts is a)
      (λ n us e b. loosely ((written_rule room w n) (next us)) (λ m vs. (written_rule (more m) w n) (next vs)) us
      (taken_alike (written_rule room w n) (λ m. written_rule (more m) w n) us (some_writing (kind us) w (ap (λ vs. writing_by (kind vs)) (named_next ts us x n is e) ∙ h)) b
      (λ c _. written_alike w n (next us) c)))

  value_alike : (k : Bool) (ts : Tokens) → AreTokens ts → Alike k (expr room ts) (λ m. expr (more m)) ts → Alike k (value_rule room ts) (λ m. value_rule (more m)) ts
  unfolding value_rule place
  value_alike k [] a h = absurd a
  value_alike k (t ∷ r) a h =
      first_alike (λ m. value_rule (more m)) (λ m. (expr (more m) >>= λ x. pure_rule (simples.Value t.place x))) t r (λ m other _. refl) k (value_rule room (t ∷ r)) (bind_alike k ((expr room) (t ∷ r)) (λ m. expr (more m)) (λ x. pure_rule (simples.Value t.place x)) (λ m x. pure_rule (simples.Value t.place x)) (t ∷ r) (h) (λ x us9 _ a9. pure_alike (simples.Value t.place x) us9 a9))

  write_or_value_alike : (o : Option Writing) (x : List ℕ) (ts : Tokens) → kind ts ≡ kinds.Name x → writing_by (second ts) ≡ o → (o ≡ None → 0 < room) → AreTokens ts
      → Alike true (write_or_value room o ts) (λ m. write_or_value (more m) o) ts
  write_or_value_alike None x ts is h some a = value_alike true ts a (name_nested room more low (some refl) x ts is a)
  write_or_value_alike (Some w) x ts is h some a = write_alike w x ts is h a

  abbrev simple_choice : ℕ → Bool → Rule Simple
  simple_choice room b us = cond b (write_or_value room (writing_by (second us)) us) (value_rule room us)

  value_none : (r : ℕ) → r ≡ 0 → (us : Tokens) → value_rule r us ≡ Err (too_deep us)
  unfolding value_rule nested
  value_none r e us = subst (λ (k : ℕ). value_rule k us ≡ Err (too_deep us)) (sym e) refl

  unwritten : (r : ℕ) (t : Token) (x : List ℕ) (other : Tokens) → t.kind ≡ kinds.Name x → is_written t.kind (kind other) ≡ false → simple_rule r (t ∷ other) ≡ value_rule r (t ∷ other)
  unfolding simple_rule second next kind writing_by
  unwritten r t x [] is none = rw is refl
  unwritten r t x (w ∷ ws) is none =
      let h : writing_by w.kind ≡ None = none_some (writing_by w.kind) (subst (λ k. is_written k w.kind ≡ false) is none) in
      ap (λ k. cond (is_name_kind k) (write_or_value r (writing_by w.kind) (t ∷ w ∷ ws)) (value_rule r (t ∷ w ∷ ws))) is ∙ ap (λ o. write_or_value r o (t ∷ w ∷ ws)) h

  name_taken : (o : Option Writing) (x : List ℕ) (t u : Token) (r : Tokens) → t.kind ≡ kinds.Name x → is_name_kind t.kind ≡ true → writing_by u.kind ≡ o → (o ≡ None → 0 < room)
      → AreTokens (t ∷ u ∷ r) → Alike false (write_or_value room o (t ∷ u ∷ r)) (λ m. simple_rule (more m)) (t ∷ u ∷ r)
  unfolding simple_rule second next kind
  name_taken o x t u r is named h some a =
      loosely (write_or_value room o (t ∷ u ∷ r)) (λ m. simple_rule (more m)) (t ∷ u ∷ r)
      (two_alike (λ m. simple_rule (more m)) (λ m. write_or_value (more m) o) t u r (λ m other. ap (λ c. simple_choice (more m) c (t ∷ u ∷ other)) named ∙ ap (λ w. write_or_value (more m) w (t ∷ u ∷ other)) h)
      (write_or_value room o (t ∷ u ∷ r)) (write_or_value_alike o x (t ∷ u ∷ r) is h some a))

  -- by whether the name is written, and whether something may be open
  name_by_room : (o : Option Writing) (b : Bool) (x : List ℕ) (t u : Token) (r : Tokens) → t.kind ≡ kinds.Name x → is_name_kind t.kind ≡ true → writing_by u.kind ≡ o → nat_lt 0 room ≡ b
      → AreTokens (t ∷ u ∷ r) → Alike false (write_or_value room o (t ∷ u ∷ r)) (λ m. simple_rule (more m)) (t ∷ u ∷ r)
  name_by_room None false x t u r is named h none a =
      let zero_room : room ≡ 0 = (let low : room ≤ 0 = ltb-false 0 room none in omega arith) in
      subst (λ (q : Outcome Simple). Alike false q (λ m. simple_rule (more m)) (t ∷ u ∷ r)) (sym (value_none room zero_room (t ∷ u ∷ r)))
      (deep_unwritten (λ m. simple_rule (more m)) t (u ∷ r) (λ other w. unwritten (more 0) t x other is w ∙ value_none (more 0) (low.first ∙ zero_room) (t ∷ other)))
  name_by_room None true x t u r is named h some a = name_taken None x t u r is named h (λ _. ltb-true 0 room some) a
  name_by_room (Some w) b x t u r is named h some a = name_taken (Some w) x t u r is named h (λ e. absurd cc) a

  simple_by : (b : Bool) (ts : Tokens) → is_name_kind (kind ts) ≡ b → AreTokens ts → Alike false (simple_choice room b ts) (λ m. simple_rule (more m)) ts
  unfolding simple_rule second next kind
  simple_by b [] is a = absurd a
  simple_by false (t ∷ r) is a =
      first_alike (λ m. simple_rule (more m)) (λ m. value_rule (more m)) t r (λ m other _. ap (λ b. simple_choice (more m) b (t ∷ other)) is) false (value_rule room (t ∷ r)) (value_alike false (t ∷ r) a (expr_alike (t ∷ r) a))
  simple_by true (t ∷ []) is a = let n : NameOf t.kind = name_of t.kind is in absurd (subst IsLast n.is a)
  simple_by true (t ∷ u ∷ r) is a =
      let n : NameOf t.kind = name_of t.kind is in name_by_room (writing_by u.kind) (nat_lt 0 room) n.name t u r n.is is refl refl a

  simple_alike : (ts : Tokens) → AreTokens ts → Alike false (simple_rule room ts) (λ m. simple_rule (more m)) ts
  unfolding simple_rule
  simple_alike ts a = simple_by (is_name_kind (kind ts)) ts refl a

  expr_unless_alike : (close : Sign) (ts : Tokens) → AreTokens ts → Alike false (expr_unless room close ts) (λ m. expr_unless (more m) close) ts
  unfolding expr_unless
  expr_unless_alike close ts a = see_alike false close ((pure_rule (None)) ts) (((expr room >>= λ x. pure_rule (Some x))) ts) (λ m. pure_rule (None)) (λ m. (expr (more m) >>= λ x. pure_rule (Some x))) ts a (λ _. pure_alike (None) ts a) (λ _. bind_alike false ((expr room) ts) (λ m. expr (more m)) (λ x. pure_rule (Some x)) (λ m x. pure_rule (Some x)) ts (expr_alike ts a) (λ x us10 _ a10. pure_alike (Some x) us10 a10))

  simple_unless_alike : (close : Sign) (ts : Tokens) → AreTokens ts → Alike false (simple_unless room close ts) (λ m. simple_unless (more m) close) ts
  unfolding simple_unless
  simple_unless_alike close ts a = see_alike false close ((pure_rule (None)) ts) (((simple_rule room >>= λ x. pure_rule (Some x))) ts) (λ m. pure_rule (None)) (λ m. (simple_rule (more m) >>= λ x. pure_rule (Some x))) ts a (λ _. pure_alike (None) ts a) (λ _. bind_alike false ((simple_rule room) ts) (λ m. simple_rule (more m)) (λ x. pure_rule (Some x)) (λ m x. pure_rule (Some x)) ts (simple_alike ts a) (λ x us11 _ a11. pure_alike (Some x) us11 a11))

  returned_alike : (ts : Tokens) → AreTokens ts → Alike false (returned_rule room ts) (λ m. returned_rule (more m)) ts
  unfolding returned_rule
  returned_alike ts a = see_alike false signs.BraceClose ((pure_rule (None)) ts) ((expr_unless room signs.Semicolon) ts) (λ m. pure_rule (None)) (λ m. expr_unless (more m) signs.Semicolon) ts a (λ _. pure_alike (None) ts a) (λ _. expr_unless_alike signs.Semicolon ts a)

  return_at_alike : (p : Place) (ts : Tokens) → kind ts ≡ kinds.Word words.Return → AreTokens ts → Alike false (return_at room p ts) (λ m. return_at (more m) p) ts
  unfolding return_at
  return_at_alike p ts is a = loosely (((returned_rule room >>= λ found. (statement_end >>= λ done. pure_rule (s.Return p found)))) (next ts)) (λ m us. ((returned_rule (more m) >>= λ found. (statement_end >>= λ done. pure_rule (s.Return p found)))) (next us)) ts (taken_alike ((returned_rule room >>= λ found. (statement_end >>= λ done. pure_rule (s.Return p found)))) (λ m. (returned_rule (more m) >>= λ found. (statement_end >>= λ done. pure_rule (s.Return p found)))) ts ((λ z. subst IsLast is z)) a (λ a12 _. bind_alike false ((returned_rule room) (next ts)) (λ m. returned_rule (more m)) (λ found. (statement_end >>= λ done. pure_rule (s.Return p found))) (λ m found. (statement_end >>= λ done. pure_rule (s.Return p found))) (next ts) (returned_alike (next ts) a12) (λ found us13 _ a13. bind_alike false ((statement_end) us13) (λ m. statement_end) (λ done. pure_rule (s.Return p found)) (λ m done. pure_rule (s.Return p found)) us13 (ending_alike us13 a13) (λ done us14 _ a14. pure_alike (s.Return p found) us14 a14))))

  throw_alike : (p : Place) (ts : Tokens) → kind ts ≡ kinds.Word words.Throw → AreTokens ts → Alike false (throw_rule room p ts) (λ m. throw_rule (more m) p) ts
  unfolding throw_rule
  throw_alike p ts is a = loosely (((expr room >>= λ found. (statement_end >>= λ done. pure_rule (s.Throw p found)))) (next ts)) (λ m us. ((expr (more m) >>= λ found. (statement_end >>= λ done. pure_rule (s.Throw p found)))) (next us)) ts (taken_alike ((expr room >>= λ found. (statement_end >>= λ done. pure_rule (s.Throw p found)))) (λ m. (expr (more m) >>= λ found. (statement_end >>= λ done. pure_rule (s.Throw p found)))) ts ((λ z. subst IsLast is z)) a (λ a15 _. bind_alike false ((expr room) (next ts)) (λ m. expr (more m)) (λ found. (statement_end >>= λ done. pure_rule (s.Throw p found))) (λ m found. (statement_end >>= λ done. pure_rule (s.Throw p found))) (next ts) (expr_alike (next ts) a15) (λ found us16 _ a16. bind_alike false ((statement_end) us16) (λ m. statement_end) (λ done. pure_rule (s.Throw p found)) (λ m done. pure_rule (s.Throw p found)) us16 (ending_alike us16 a16) (λ done us17 _ a17. pure_alike (s.Throw p found) us17 a17))))

  declare_alike : (p : Place) (how : Declares) (ts : Tokens) → declares_by (kind ts) ≡ Some how → AreTokens ts → Alike false (declare_rule room p how ts) (λ m. declare_rule (more m) p how) ts
  unfolding declare_rule
  declare_alike p how ts is a = loosely (((named_rule >>= λ n. (declaration room p how n >>= λ found. (statement_end >>= λ done. pure_rule (s.Declare found))))) (next ts)) (λ m us. ((named_rule >>= λ n. (declaration (more m) p how n >>= λ found. (statement_end >>= λ done. pure_rule (s.Declare found))))) (next us)) ts (taken_alike ((named_rule >>= λ n. (declaration room p how n >>= λ found. (statement_end >>= λ done. pure_rule (s.Declare found))))) (λ m. (named_rule >>= λ n. (declaration (more m) p how n >>= λ found. (statement_end >>= λ done. pure_rule (s.Declare found))))) ts ((some_declares (kind ts) how is)) a (λ a18 _. bind_alike false ((named_rule) (next ts)) (λ m. named_rule) (λ n. (declaration room p how n >>= λ found. (statement_end >>= λ done. pure_rule (s.Declare found)))) (λ m n. (declaration (more m) p how n >>= λ found. (statement_end >>= λ done. pure_rule (s.Declare found)))) (next ts) (named_alike (next ts) a18) (λ n us19 _ a19. bind_alike false ((declaration room p how n) us19) (λ m. declaration (more m) p how n) (λ found. (statement_end >>= λ done. pure_rule (s.Declare found))) (λ m found. (statement_end >>= λ done. pure_rule (s.Declare found))) us19 (declaration_alike p how n us19 a19) (λ found us20 _ a20. bind_alike false ((statement_end) us20) (λ m. statement_end) (λ done. pure_rule (s.Declare found)) (λ m done. pure_rule (s.Declare found)) us20 (ending_alike us20 a20) (λ done us21 _ a21. pure_alike (s.Declare found) us21 a21)))))

  only_simple_alike : (ts : Tokens) → AreTokens ts → Alike false (only_simple room ts) (λ m. only_simple (more m)) ts
  unfolding only_simple
  only_simple_alike ts a = bind_alike false ((simple_rule room) ts) (λ m. simple_rule (more m)) (λ found. (statement_end >>= λ done. pure_rule (s.Simple found))) (λ m found. (statement_end >>= λ done. pure_rule (s.Simple found))) ts (simple_alike ts a) (λ found us22 _ a22. bind_alike false ((statement_end) us22) (λ m. statement_end) (λ done. pure_rule (s.Simple found)) (λ m done. pure_rule (s.Simple found)) us22 (ending_alike us22 a22) (λ done us23 _ a23. pure_alike (s.Simple found) us23 a23))

  declare_or_simple_alike : (p : Place) (o : Option Declares) (ts : Tokens) → declares_by (kind ts) ≡ o → AreTokens ts → Alike false (declare_or_simple room p o ts) (λ m. declare_or_simple (more m) p o) ts
  declare_or_simple_alike p None ts is a = only_simple_alike ts a
  declare_or_simple_alike p (Some how) ts is a = declare_alike p how ts is a

  plain_alike : (p : Place) (ts : Tokens) → AreTokens ts → Alike false (plain_rule room p ts) (λ m. plain_rule (more m) p) ts
  unfolding plain_rule kind
  plain_alike p [] a = absurd a
  plain_alike p (t ∷ r) a =
      first_alike (λ m. plain_rule (more m) p) (λ m. declare_or_simple (more m) p (declares_by t.kind)) t r (λ m other _. refl) false (plain_rule room p (t ∷ r)) (declare_or_simple_alike p (declares_by t.kind) (t ∷ r) refl a)

-- ---- statements

jump_alike : (l : Bool) (ts : Tokens) (w : Word) → kind ts ≡ kinds.Word w → AreTokens ts → Alike false (jump_rule l ts) (λ m. jump_rule l) ts
unfolding jump_rule
jump_alike true ts w is a = loosely (statement_end (next ts)) (λ m us. statement_end (next us)) ts (taken_alike statement_end (λ m. statement_end) ts (λ z. subst IsLast is z) a (λ b _. ending_alike (next ts) b))
jump_alike false ts w is a = refuse_alike ts a

jumps_alike : (l : Bool) (x : Statement) (ts : Tokens) (w : Word) → kind ts ≡ kinds.Word w → AreTokens ts → Alike false ((jump_rule l >>= λ _. pure_rule x) ts) (λ m. (jump_rule l >>= λ _. pure_rule x)) ts
jumps_alike l x ts w is a = bind_alike false (jump_rule l ts) (λ m. jump_rule l) (λ _. pure_rule x) (λ m _. pure_rule x) ts (jump_alike l ts w is a) (λ _ us _ b. pure_alike x us b)

module _ (room : ℕ) (more : ℕ → ℕ) (low : More room more)
    (hi : (l : Bool) (ts : Tokens) → AreTokens ts → Alike false (statement room l ts) (λ m. statement (more m) l) ts) where
  all_block_alike : (l : Bool) (ts : Tokens) → AreTokens ts → Alike false (block_rule room (statement room) l ts) (λ m. block_rule (more m) (statement (more m)) l) ts
  all_block_alike l ts a = block_alike room more (statement room) (λ m. statement (more m)) l (hi l) (statement_goes room l) (λ m. statement_goes (more m) l) ts a

  otherwise_alike : (l : Bool) (ts : Tokens) → AreTokens ts → Alike false (else_rule room (statement room) l ts) (λ m. else_rule (more m) (statement (more m)) l) ts
  unfolding else_rule
  otherwise_alike l ts a = eat_word_alike words.Else ((statement room l >>= λ x. pure_rule (Some x))) (pure_rule (None)) (λ m. ((statement (more m)) l >>= λ x. pure_rule (Some x))) (λ m. pure_rule (None)) ts a (λ _ a24 _. bind_alike false ((statement room l) (next ts)) (λ m. (statement (more m)) l) (λ x. pure_rule (Some x)) (λ m x. pure_rule (Some x)) (next ts) (hi l (next ts) a24) (λ x us25 _ a25. pure_alike (Some x) us25 a25)) (λ _. pure_alike (None) ts a)

  choose_alike : (p : Place) (l : Bool) (ts : Tokens) → kind ts ≡ kinds.Word words.If → AreTokens ts → Alike false (if_rule room (statement room) p l ts) (λ m. if_rule (more m) (statement (more m)) p l) ts
  unfolding if_rule
  choose_alike p l ts is a = loosely (((expect signs.ParenOpen >>= λ _. (expr room >>= λ condition. (expect signs.ParenClose >>= λ _. (statement room l >>= λ first. (else_rule room (statement room) l >>= λ others. pure_rule (s.If p condition first others))))))) (next ts)) (λ m us. ((expect signs.ParenOpen >>= λ _. (expr (more m) >>= λ condition. (expect signs.ParenClose >>= λ _. ((statement (more m)) l >>= λ first. (else_rule (more m) ((statement (more m))) l >>= λ others. pure_rule (s.If p condition first others))))))) (next us)) ts (taken_alike ((expect signs.ParenOpen >>= λ _. (expr room >>= λ condition. (expect signs.ParenClose >>= λ _. (statement room l >>= λ first. (else_rule room (statement room) l >>= λ others. pure_rule (s.If p condition first others))))))) (λ m. (expect signs.ParenOpen >>= λ _. (expr (more m) >>= λ condition. (expect signs.ParenClose >>= λ _. ((statement (more m)) l >>= λ first. (else_rule (more m) ((statement (more m))) l >>= λ others. pure_rule (s.If p condition first others))))))) ts ((λ z. subst IsLast is z)) a (λ a26 _. bind_alike false ((expect signs.ParenOpen) (next ts)) (λ m. expect signs.ParenOpen) (λ _. (expr room >>= λ condition. (expect signs.ParenClose >>= λ _. (statement room l >>= λ first. (else_rule room (statement room) l >>= λ others. pure_rule (s.If p condition first others)))))) (λ m _. (expr (more m) >>= λ condition. (expect signs.ParenClose >>= λ _. ((statement (more m)) l >>= λ first. (else_rule (more m) ((statement (more m))) l >>= λ others. pure_rule (s.If p condition first others)))))) (next ts) (expect_alike signs.ParenOpen (next ts) a26) (λ _ us27 _ a27. bind_alike false ((expr room) us27) (λ m. expr (more m)) (λ condition. (expect signs.ParenClose >>= λ _. (statement room l >>= λ first. (else_rule room (statement room) l >>= λ others. pure_rule (s.If p condition first others))))) (λ m condition. (expect signs.ParenClose >>= λ _. ((statement (more m)) l >>= λ first. (else_rule (more m) ((statement (more m))) l >>= λ others. pure_rule (s.If p condition first others))))) us27 (expr_alike room more low us27 a27) (λ condition us28 _ a28. bind_alike false ((expect signs.ParenClose) us28) (λ m. expect signs.ParenClose) (λ _. (statement room l >>= λ first. (else_rule room (statement room) l >>= λ others. pure_rule (s.If p condition first others)))) (λ m _. ((statement (more m)) l >>= λ first. (else_rule (more m) ((statement (more m))) l >>= λ others. pure_rule (s.If p condition first others)))) us28 (expect_alike signs.ParenClose us28 a28) (λ _ us29 _ a29. bind_alike false ((statement room l) us29) (λ m. (statement (more m)) l) (λ first. (else_rule room (statement room) l >>= λ others. pure_rule (s.If p condition first others))) (λ m first. (else_rule (more m) ((statement (more m))) l >>= λ others. pure_rule (s.If p condition first others))) us29 (hi l us29 a29) (λ first us30 _ a30. bind_alike false ((else_rule room (statement room) l) us30) (λ m. else_rule (more m) ((statement (more m))) l) (λ others. pure_rule (s.If p condition first others)) (λ m others. pure_rule (s.If p condition first others)) us30 (otherwise_alike l us30 a30) (λ others us31 _ a31. pure_alike (s.If p condition first others) us31 a31)))))))

  repeat_alike : (p : Place) (begins : Option Start) (ts : Tokens) → AreTokens ts → Alike false (repeat room (statement room) p begins ts) (λ m. repeat (more m) (statement (more m)) p begins) ts
  unfolding repeat
  repeat_alike p begins ts a = bind_alike false ((expect signs.Semicolon) ts) (λ m. expect signs.Semicolon) (λ _. (expr_unless room signs.Semicolon >>= λ condition. (expect signs.Semicolon >>= λ _. (simple_unless room signs.ParenClose >>= λ last. (expect signs.ParenClose >>= λ _. (statement room true >>= λ body. pure_rule (s.For p begins condition last body))))))) (λ m _. (expr_unless (more m) signs.Semicolon >>= λ condition. (expect signs.Semicolon >>= λ _. (simple_unless (more m) signs.ParenClose >>= λ last. (expect signs.ParenClose >>= λ _. ((statement (more m)) true >>= λ body. pure_rule (s.For p begins condition last body))))))) ts (expect_alike signs.Semicolon ts a) (λ _ us32 _ a32. bind_alike false ((expr_unless room signs.Semicolon) us32) (λ m. expr_unless (more m) signs.Semicolon) (λ condition. (expect signs.Semicolon >>= λ _. (simple_unless room signs.ParenClose >>= λ last. (expect signs.ParenClose >>= λ _. (statement room true >>= λ body. pure_rule (s.For p begins condition last body)))))) (λ m condition. (expect signs.Semicolon >>= λ _. (simple_unless (more m) signs.ParenClose >>= λ last. (expect signs.ParenClose >>= λ _. ((statement (more m)) true >>= λ body. pure_rule (s.For p begins condition last body)))))) us32 (expr_unless_alike room more low signs.Semicolon us32 a32) (λ condition us33 _ a33. bind_alike false ((expect signs.Semicolon) us33) (λ m. expect signs.Semicolon) (λ _. (simple_unless room signs.ParenClose >>= λ last. (expect signs.ParenClose >>= λ _. (statement room true >>= λ body. pure_rule (s.For p begins condition last body))))) (λ m _. (simple_unless (more m) signs.ParenClose >>= λ last. (expect signs.ParenClose >>= λ _. ((statement (more m)) true >>= λ body. pure_rule (s.For p begins condition last body))))) us33 (expect_alike signs.Semicolon us33 a33) (λ _ us34 _ a34. bind_alike false ((simple_unless room signs.ParenClose) us34) (λ m. simple_unless (more m) signs.ParenClose) (λ last. (expect signs.ParenClose >>= λ _. (statement room true >>= λ body. pure_rule (s.For p begins condition last body)))) (λ m last. (expect signs.ParenClose >>= λ _. ((statement (more m)) true >>= λ body. pure_rule (s.For p begins condition last body)))) us34 (simple_unless_alike room more low signs.ParenClose us34 a34) (λ last us35 _ a35. bind_alike false ((expect signs.ParenClose) us35) (λ m. expect signs.ParenClose) (λ _. (statement room true >>= λ body. pure_rule (s.For p begins condition last body))) (λ m _. ((statement (more m)) true >>= λ body. pure_rule (s.For p begins condition last body))) us35 (expect_alike signs.ParenClose us35 a35) (λ _ us36 _ a36. bind_alike false ((statement room true) us36) (λ m. (statement (more m)) true) (λ body. pure_rule (s.For p begins condition last body)) (λ m body. pure_rule (s.For p begins condition last body)) us36 (hi true us36 a36) (λ body us37 _ a37. pure_alike (s.For p begins condition last body) us37 a37))))))

  each_alike : (p : Place) (how : Declares) (n : Named) (ts : Tokens) → AreTokens ts → Alike false (each_rule room (statement room) p how n ts) (λ m. each_rule (more m) (statement (more m)) p how n) ts
  unfolding each_rule
  each_alike p how n ts a = bind_alike false ((expr room) ts) (λ m. expr (more m)) (λ items. (expect signs.ParenClose >>= λ _. (statement room true >>= λ body. pure_rule (s.ForOf p how n items body)))) (λ m items. (expect signs.ParenClose >>= λ _. ((statement (more m)) true >>= λ body. pure_rule (s.ForOf p how n items body)))) ts (expr_alike room more low ts a) (λ items us38 _ a38. bind_alike false ((expect signs.ParenClose) us38) (λ m. expect signs.ParenClose) (λ _. (statement room true >>= λ body. pure_rule (s.ForOf p how n items body))) (λ m _. ((statement (more m)) true >>= λ body. pure_rule (s.ForOf p how n items body))) us38 (expect_alike signs.ParenClose us38 a38) (λ _ us39 _ a39. bind_alike false ((statement room true) us39) (λ m. (statement (more m)) true) (λ body. pure_rule (s.ForOf p how n items body)) (λ m body. pure_rule (s.ForOf p how n items body)) us39 (hi true us39 a39) (λ body us40 _ a40. pure_alike (s.ForOf p how n items body) us40 a40)))

  for_declared_alike : (p : Place) (how : Declares) (ts : Tokens) → declares_by (kind ts) ≡ Some how → AreTokens ts
      → Alike false (for_declared room (statement room) p how ts) (λ m. for_declared (more m) (statement (more m)) p how) ts
  unfolding for_declared place kind
  for_declared_alike p how [] is a = absurd a
  for_declared_alike p how (t ∷ r) is a =
      first_alike (λ m. for_declared (more m) (statement (more m)) p how) (λ m. (take >>= λ _. (named_rule >>= λ n. (eat_word words.Of >>= λ b. if b then each_rule (more m) ((statement (more m))) p how n else (declaration (more m) t.place how n >>= λ found. repeat (more m) ((statement (more m))) p (Some (starts.Declare found))))))) t r (λ m other _. refl) false (for_declared room (statement room) p how (t ∷ r))
      (loosely (((named_rule >>= λ n. (eat_word words.Of >>= λ b. if b then each_rule room (statement room) p how n else (declaration room t.place how n >>= λ found. repeat room (statement room) p (Some (starts.Declare found)))))) (next (t ∷ r))) (λ m us. ((named_rule >>= λ n. (eat_word words.Of >>= λ b. if b then each_rule (more m) ((statement (more m))) p how n else (declaration (more m) t.place how n >>= λ found. repeat (more m) ((statement (more m))) p (Some (starts.Declare found)))))) (next us)) (t ∷ r) (taken_alike ((named_rule >>= λ n. (eat_word words.Of >>= λ b. if b then each_rule room (statement room) p how n else (declaration room t.place how n >>= λ found. repeat room (statement room) p (Some (starts.Declare found)))))) (λ m. (named_rule >>= λ n. (eat_word words.Of >>= λ b. if b then each_rule (more m) ((statement (more m))) p how n else (declaration (more m) t.place how n >>= λ found. repeat (more m) ((statement (more m))) p (Some (starts.Declare found)))))) (t ∷ r) ((some_declares t.kind how is)) a (λ a41 _. bind_alike false ((named_rule) (next (t ∷ r))) (λ m. named_rule) (λ n. (eat_word words.Of >>= λ b. if b then each_rule room (statement room) p how n else (declaration room t.place how n >>= λ found. repeat room (statement room) p (Some (starts.Declare found))))) (λ m n. (eat_word words.Of >>= λ b. if b then each_rule (more m) ((statement (more m))) p how n else (declaration (more m) t.place how n >>= λ found. repeat (more m) ((statement (more m))) p (Some (starts.Declare found))))) (next (t ∷ r)) (named_alike (next (t ∷ r)) a41) (λ n us42 _ a42. eat_word_alike words.Of (each_rule room (statement room) p how n) ((declaration room t.place how n >>= λ found. repeat room (statement room) p (Some (starts.Declare found)))) (λ m. each_rule (more m) ((statement (more m))) p how n) (λ m. (declaration (more m) t.place how n >>= λ found. repeat (more m) ((statement (more m))) p (Some (starts.Declare found)))) us42 a42 (λ _ a43 _. each_alike p how n (next us42) a43) (λ _. bind_alike false ((declaration room t.place how n) us42) (λ m. declaration (more m) t.place how n) (λ found. repeat room (statement room) p (Some (starts.Declare found))) (λ m found. repeat (more m) ((statement (more m))) p (Some (starts.Declare found))) us42 (declaration_alike room more low t.place how n us42 a42) (λ found us44 _ a44. repeat_alike p (Some (starts.Declare found)) us44 a44))))))

  for_simple_alike : (p : Place) (ts : Tokens) → AreTokens ts → Alike false (for_simple room (statement room) p ts) (λ m. for_simple (more m) (statement (more m)) p) ts
  unfolding for_simple
  for_simple_alike p ts a = see_alike false signs.Semicolon ((repeat room (statement room) p (None)) ts) (((simple_rule room >>= λ found. repeat room (statement room) p (Some (starts.Simple found)))) ts) (λ m. repeat (more m) ((statement (more m))) p (None)) (λ m. (simple_rule (more m) >>= λ found. repeat (more m) ((statement (more m))) p (Some (starts.Simple found)))) ts a (λ _. repeat_alike p (None) ts a) (λ _. bind_alike false ((simple_rule room) ts) (λ m. simple_rule (more m)) (λ found. repeat room (statement room) p (Some (starts.Simple found))) (λ m found. repeat (more m) ((statement (more m))) p (Some (starts.Simple found))) ts (simple_alike room more low ts a) (λ found us45 _ a45. repeat_alike p (Some (starts.Simple found)) us45 a45))

  for_by_alike : (p : Place) (o : Option Declares) (ts : Tokens) → declares_by (kind ts) ≡ o → AreTokens ts
      → Alike false (for_by room (statement room) p o ts) (λ m. for_by (more m) (statement (more m)) p o) ts
  for_by_alike p None ts is a = for_simple_alike p ts a
  for_by_alike p (Some how) ts is a = for_declared_alike p how ts is a

  for_next_alike : (p : Place) (ts : Tokens) → AreTokens ts
      → Alike false (for_by room (statement room) p (declares_by (kind ts)) ts) (λ m us. for_by (more m) (statement (more m)) p (declares_by (kind us)) us) ts
  unfolding kind
  for_next_alike p [] a = absurd a
  for_next_alike p (t ∷ r) a =
      first_alike (λ m us. for_by (more m) (statement (more m)) p (declares_by (kind us)) us) (λ m. for_by (more m) (statement (more m)) p (declares_by t.kind)) t r (λ m other _. refl) false
      (for_by room (statement room) p (declares_by t.kind) (t ∷ r)) (for_by_alike p (declares_by t.kind) (t ∷ r) refl a)

  for_at_alike : (p : Place) (ts : Tokens) → kind ts ≡ kinds.Word words.For → AreTokens ts → Alike false (for_at room (statement room) p ts) (λ m. for_at (more m) (statement (more m)) p) ts
  unfolding for_at
  for_at_alike p ts is a = loosely (((expect signs.ParenOpen >>= λ _. (λ us. for_by room (statement room) p (declares_by (kind us)) us))) (next ts)) (λ m us. ((expect signs.ParenOpen >>= λ _. (λ us. for_by (more m) ((statement (more m))) p (declares_by (kind us)) us))) (next us)) ts (taken_alike ((expect signs.ParenOpen >>= λ _. (λ us. for_by room (statement room) p (declares_by (kind us)) us))) (λ m. (expect signs.ParenOpen >>= λ _. (λ us. for_by (more m) ((statement (more m))) p (declares_by (kind us)) us))) ts ((λ z. subst IsLast is z)) a (λ a46 _. bind_alike false ((expect signs.ParenOpen) (next ts)) (λ m. expect signs.ParenOpen) (λ _. (λ us. for_by room (statement room) p (declares_by (kind us)) us)) (λ m _. (λ us. for_by (more m) ((statement (more m))) p (declares_by (kind us)) us)) (next ts) (expect_alike signs.ParenOpen (next ts) a46) (λ _ us47 _ a47. for_next_alike p us47 a47)))

  word_by_alike : (p : Place) (l : Bool) (w : Word) (ts : Tokens) → kind ts ≡ kinds.Word w → AreTokens ts → Alike false (statement_by_word room (statement room) p l w ts) (λ m. statement_by_word (more m) (statement (more m)) p l w) ts
  word_by_alike p l words.If ts is a = choose_alike p l ts is a
  word_by_alike p l words.For ts is a = for_at_alike p ts is a
  word_by_alike p l words.Return ts is a = return_at_alike room more low p ts is a
  word_by_alike p l words.Throw ts is a = throw_alike room more low p ts is a
  word_by_alike p l words.Break ts is a = jumps_alike l (s.Break p) ts words.Break is a
  word_by_alike p l words.Continue ts is a = jumps_alike l (s.Continue p) ts words.Continue is a
  word_by_alike p l w ts is a = plain_alike room more low p ts a

  sign_by_alike : (p : Place) (l : Bool) (c : Sign) (ts : Tokens) → kind ts ≡ kinds.Sign c → AreTokens ts → Alike false (statement_by_sign room (statement room) p l c ts) (λ m. statement_by_sign (more m) (statement (more m)) p l c) ts
  sign_by_alike p l signs.BraceOpen ts is a = loosely (((block_rule room (statement room) l >>= λ found. pure_rule (s.Block p found))) (next ts)) (λ m us. ((block_rule (more m) ((statement (more m))) l >>= λ found. pure_rule (s.Block p found))) (next us)) ts (taken_alike ((block_rule room (statement room) l >>= λ found. pure_rule (s.Block p found))) (λ m. (block_rule (more m) ((statement (more m))) l >>= λ found. pure_rule (s.Block p found))) ts ((λ z. subst IsLast is z)) a (λ a48 _. bind_alike false ((block_rule room (statement room) l) (next ts)) (λ m. block_rule (more m) ((statement (more m))) l) (λ found. pure_rule (s.Block p found)) (λ m found. pure_rule (s.Block p found)) (next ts) (all_block_alike l (next ts) a48) (λ found us49 _ a49. pure_alike (s.Block p found) us49 a49)))
  sign_by_alike p l signs.Semicolon ts is a = loosely (Ok (s.Empty p, next ts)) (λ m us. Ok (s.Empty p, next us)) ts (kind_alike (s.Empty p) (kinds.Sign signs.Semicolon) ts is (λ z. z) a)
  sign_by_alike p l c ts is a = plain_alike room more low p ts a

  statement_by_alike : (p : Place) (l : Bool) (k : Kind) (ts : Tokens) → kind ts ≡ k → AreTokens ts → Alike false (statement_by room (statement room) p l k ts) (λ m. statement_by (more m) (statement (more m)) p l k) ts
  statement_by_alike p l (kinds.Word w) ts is a = word_by_alike p l w ts is a
  statement_by_alike p l (kinds.Sign c) ts is a = sign_by_alike p l c ts is a
  statement_by_alike p l k ts is a = plain_alike room more low p ts a

  opened_alike : (l : Bool) (ts : Tokens) → AreTokens ts → Alike false (statement_rule room (statement room) l ts) (λ m. statement_rule (more m) (statement (more m)) l) ts
  unfolding statement_rule place kind
  opened_alike l [] a = absurd a
  opened_alike l (t ∷ r) a =
      first_alike (λ m. statement_rule (more m) (statement (more m)) l) (λ m. statement_by (more m) (statement (more m)) t.place l t.kind) t r (λ m other _. refl) false (statement_rule room (statement room) l (t ∷ r))
      (statement_by_alike t.place l t.kind (t ∷ r) refl a)

statement_alike : (room : ℕ) (more : ℕ → ℕ) → More room more → (l : Bool) (ts : Tokens) → AreTokens ts → Alike false (statement room l ts) (λ m. statement (more m) l) ts
unfolding statement
statement_alike zero more low l ts a = deep_alike (λ m. statement (more m) l) ts (λ us. subst (λ (k : ℕ). statement k l us ≡ Err (too_deep us)) (sym low.first) refl) a
statement_alike (suc room) more low l ts a =
    let less : More room (λ m. more m - 1) = one_less room more low in
    all_alike (λ m. statement (more m) l) (λ m. statement_rule (more m - 1) (statement (more m - 1)) l) (λ m us _. deeper (λ k. statement k l us) (more m) (omega (arith, low.low m))) false (statement_rule room (statement room) l ts) ts a
    (opened_alike room (λ m. more m - 1) less (statement_alike room (λ m. more m - 1) less) l ts a)

block_in_alike : (room : ℕ) (more : ℕ → ℕ) → More room more → (ts : Tokens) → AreTokens ts → Alike false (block_in room false ts) (λ m. block_in (more m) false) ts
block_in_alike room more low ts a = all_block_alike room more low (statement_alike room more low) false ts a

-- ---- programs

own_name_by_alike : (k : Kind) (ts : Tokens) → AreTokens ts → Alike false (own_name_by k ts) (λ m. own_name_by k) ts
own_name_by_alike (kinds.Name n) ts a = bind_alike false (name_rule ts) (λ m. name_rule) (λ x. pure_rule (Some x)) (λ m x. pure_rule (Some x)) ts (name_alike ts a) (λ x us _ b. pure_alike (Some x) us b)
own_name_by_alike _ ts a = pure_alike None ts a

own_name_alike : (ts : Tokens) → AreTokens ts → Alike false (own_name ts) (λ m. own_name) ts
unfolding own_name kind
own_name_alike [] a = absurd a
own_name_alike (t ∷ r) a = first_alike (λ m. own_name) (λ m. own_name_by t.kind) t r (λ m other _. refl) false (own_name (t ∷ r)) (own_name_by_alike t.kind (t ∷ r) a)

second_parameter_alike : (ts : Tokens) → AreTokens ts → Alike false (second_parameter ts) (λ m. second_parameter) ts
unfolding second_parameter
second_parameter_alike ts a = eat_alike signs.Comma ((named_rule >>= λ x. pure_rule (Some x))) (pure_rule (None)) (λ m. (named_rule >>= λ x. pure_rule (Some x))) (λ m. pure_rule (None)) ts a (λ _ a50 _. bind_alike false ((named_rule) (next ts)) (λ m. named_rule) (λ x. pure_rule (Some x)) (λ m x. pure_rule (Some x)) (next ts) (named_alike (next ts) a50) (λ x us51 _ a51. pure_alike (Some x) us51 a51)) (λ _. pure_alike (None) ts a)

head_alike : (ts : Tokens) → AreTokens ts → Alike false (head ts) (λ m. head) ts
unfolding head
head_alike ts a = bind_alike false ((expect_word words.Function) ts) (λ m. expect_word words.Function) (λ _. (own_name >>= λ own. (expect signs.ParenOpen >>= λ _. (named_rule >>= λ first. (second_parameter >>= λ other. (expect signs.ParenClose >>= λ _. pure_rule ((own, first, other)))))))) (λ m _. (own_name >>= λ own. (expect signs.ParenOpen >>= λ _. (named_rule >>= λ first. (second_parameter >>= λ other. (expect signs.ParenClose >>= λ _. pure_rule ((own, first, other)))))))) ts (expect_word_alike words.Function ts a) (λ _ us52 _ a52. bind_alike false ((own_name) us52) (λ m. own_name) (λ own. (expect signs.ParenOpen >>= λ _. (named_rule >>= λ first. (second_parameter >>= λ other. (expect signs.ParenClose >>= λ _. pure_rule ((own, first, other))))))) (λ m own. (expect signs.ParenOpen >>= λ _. (named_rule >>= λ first. (second_parameter >>= λ other. (expect signs.ParenClose >>= λ _. pure_rule ((own, first, other))))))) us52 (own_name_alike us52 a52) (λ own us53 _ a53. bind_alike false ((expect signs.ParenOpen) us53) (λ m. expect signs.ParenOpen) (λ _. (named_rule >>= λ first. (second_parameter >>= λ other. (expect signs.ParenClose >>= λ _. pure_rule ((own, first, other)))))) (λ m _. (named_rule >>= λ first. (second_parameter >>= λ other. (expect signs.ParenClose >>= λ _. pure_rule ((own, first, other)))))) us53 (expect_alike signs.ParenOpen us53 a53) (λ _ us54 _ a54. bind_alike false ((named_rule) us54) (λ m. named_rule) (λ first. (second_parameter >>= λ other. (expect signs.ParenClose >>= λ _. pure_rule ((own, first, other))))) (λ m first. (second_parameter >>= λ other. (expect signs.ParenClose >>= λ _. pure_rule ((own, first, other))))) us54 (named_alike us54 a54) (λ first us55 _ a55. bind_alike false ((second_parameter) us55) (λ m. second_parameter) (λ other. (expect signs.ParenClose >>= λ _. pure_rule ((own, first, other)))) (λ m other. (expect signs.ParenClose >>= λ _. pure_rule ((own, first, other)))) us55 (second_parameter_alike us55 a55) (λ other us56 _ a56. bind_alike false ((expect signs.ParenClose) us56) (λ m. expect signs.ParenClose) (λ _. pure_rule ((own, first, other))) (λ m _. pure_rule ((own, first, other))) us56 (expect_alike signs.ParenClose us56 a56) (λ _ us57 _ a57. pure_alike ((own, first, other)) us57 a57))))))

-- the body, where so much more may be open
abbrev pub body_in : ℕ → Rule (List Statement)
body_in room = (expect signs.BraceOpen >>= λ _. (block_in room false >>= λ found. (eat signs.Semicolon >>= λ b. if b then (end >>= λ _. pure_rule (found)) else (end >>= λ _. pure_rule (found)))))

body_alike : (room : ℕ) (more : ℕ → ℕ) → More room more → (ts : Tokens) → AreTokens ts → Alike false (body_in room ts) (λ m. body_in (more m)) ts
body_alike room more low ts a = bind_alike false ((expect signs.BraceOpen) ts) (λ m. expect signs.BraceOpen) (λ _. (block_in room false >>= λ found. (eat signs.Semicolon >>= λ b. if b then (end >>= λ _. pure_rule (found)) else (end >>= λ _. pure_rule (found))))) (λ m _. (block_in (more m) false >>= λ found. (eat signs.Semicolon >>= λ b. if b then (end >>= λ _. pure_rule (found)) else (end >>= λ _. pure_rule (found))))) ts (expect_alike signs.BraceOpen ts a) (λ _ us58 _ a58. bind_alike false ((block_in room false) us58) (λ m. block_in (more m) false) (λ found. (eat signs.Semicolon >>= λ b. if b then (end >>= λ _. pure_rule (found)) else (end >>= λ _. pure_rule (found)))) (λ m found. (eat signs.Semicolon >>= λ b. if b then (end >>= λ _. pure_rule (found)) else (end >>= λ _. pure_rule (found)))) us58 (block_in_alike room more low us58 a58) (λ found us59 _ a59. eat_alike signs.Semicolon ((end >>= λ _. pure_rule (found))) ((end >>= λ _. pure_rule (found))) (λ m. (end >>= λ _. pure_rule (found))) (λ m. (end >>= λ _. pure_rule (found))) us59 a59 (λ _ a60 _. bind_alike false ((end) (next us59)) (λ m. end) (λ _. pure_rule (found)) (λ m _. pure_rule (found)) (next us59) (end_alike (next us59) a60) (λ _ us61 _ a61. pure_alike (found) us61 a61)) (λ _. bind_alike false ((end) us59) (λ m. end) (λ _. pure_rule (found)) (λ m _. pure_rule (found)) us59 (end_alike us59 a59) (λ _ us62 _ a62. pure_alike (found) us62 a62))))

-- a program, where so much more may be open in its body
abbrev pub program_in : ℕ → Rule Program
program_in room = head >>= λ h. (λ us. (body_in room >>= λ found. pure_rule (made h (place us) found)) us)

rest_alike : (room : ℕ) (more : ℕ → ℕ) → More room more → (h : Heading) (ts : Tokens) → AreTokens ts
    → Alike false ((body_in room >>= λ found. pure_rule (made h (place ts) found)) ts)
    (λ m us. (body_in (more m) >>= λ found. pure_rule (made h (place us) found)) us) ts
unfolding place
rest_alike room more low h [] a = absurd a
rest_alike room more low h (t ∷ r) a =
    first_alike (λ m us. (body_in (more m) >>= λ found. pure_rule (made h (place us) found)) us)
    (λ m. body_in (more m) >>= λ found. pure_rule (made h t.place found)) t r (λ m other _. refl) false
    ((body_in room >>= λ found. pure_rule (made h t.place found)) (t ∷ r))
    (bind_alike false (body_in room (t ∷ r)) (λ m. body_in (more m)) (λ found. pure_rule (made h t.place found))
    (λ m found. pure_rule (made h t.place found)) (t ∷ r) (body_alike room more low (t ∷ r) a)
    (λ found us _ b. pure_alike (made h t.place found) us b))

pub program_alike : (room : ℕ) (more : ℕ → ℕ) → More room more → (ts : Tokens) → AreTokens ts → Alike false (program_in room ts) (λ m. program_in (more m)) ts
program_alike room more low ts a =
    bind_alike false (head ts) (λ m. head) (λ h us. (body_in room >>= λ found. pure_rule (made h (place us) found)) us)
    (λ m h us. (body_in (more m) >>= λ found. pure_rule (made h (place us) found)) us) ts (head_alike ts a)
    (λ h us _ b. rest_alike room more low h us b)
