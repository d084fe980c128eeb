-- A text that is read as no program has its fault at the first token at fault: some program begins with the tokens before it, and none
-- with those up to one that no rule reads.
use Rattle.std.proofs.Common.{◌≡◌, inl, inr, ◌≢◌, ℕ, suc, ◌+◌, ◌<◌, ◌≤◌, nat_lt, Bool, true, false, cond, List, [], ◌∷◌, ◌++◌, length, Ok, Err, Result, IfErr, refl, sym, subst, ap, ◌∙◌, append_assoc, le-ltb, ltb-true, ltb-false, arith}
use Rattle.std.specs.Str.{IsUtf8, chars}
use Rattle.std.proofs.lemmas.Str.{encodes-chars, length-le-encodes}
use Rattle.sync_tokens.specs.Places.{first_place, IsBefore}
use Rattle.sync_tokens.specs.Rising.{Rise, TokensRise}
use Rattle.sync_tokens.specs.declared.place.Place.{Place}
use Rattle.sync_tokens.specs.Scan.{tokens_of}
use Rattle.sync_tokens.specs.Spellable.{IsSpellable, AreTokens, TextsHaveTokens}
use Rattle.sync_tokens.specs.declared.token.Kind.TheVariants as kinds
use Rattle.sync_tokens.specs.declared.token.Sign.TheVariants as signs
use Rattle.sync_tokens.specs.declared.token.Token.{Token}
use Rattle.sync_syntax.specs.declared.fault.ParseFault.{ParseFault}
use Rattle.sync_syntax.specs.declared.fault.ParseFault.TheVariants.{Bad, Memory}
use Rattle.sync_syntax.specs.declared.tree.Program.{Program}
use Rattle.sync_syntax.specs.declared.tree.Statement.{Statement}
use Rattle.sync_syntax.specs.Depth.{depth}
use Rattle.sync_syntax.specs.Faults as f
use Rattle.sync_syntax.specs.Faults.{NoneBegins, NoneWithin, is_written, SomeBegins, IsFaultOf, FaultsAreFirst}
use Rattle.sync_syntax.specs.Grammar as g
use Rattle.sync_syntax.specs.Grammar.{Takes, IsTail, IsProgram}
use Rattle.sync_syntax.specs.Laws.{max_depth}
use Rattle.sync_syntax.specs.Reading.{Tokens, Outcome, Rule, read_then, ◌>>=◌, pure_rule, kind, place, sees, after, expect, refused_at, too_deep}
use Rattle.sync_syntax.specs.Statements.{block_in, body_room, end, head, function_body, program, whole_program, max_len, parsed, GivesParsed}
use Rattle.sync_syntax.proofs.Alike.{Alike, Stops, deep, unexpected}
use Rattle.sync_syntax.proofs.AlikeStatements.{body_in, program_in, program_alike}
use Rattle.sync_syntax.proofs.Begun.{Found, Spells, Halts, Grows}
use Rattle.sync_syntax.proofs.BegunPrograms.{AtEnd, ProgramOf, program_grows}
use Rattle.sync_syntax.proofs.CompleteStatements.{block_read, head_read, end_read, end_no_semicolon, made}
use Rattle.sync_syntax.proofs.Fronts.{takes_sees}
use Rattle.sync_syntax.proofs.Loops.{same_then}
use Rattle.sync_syntax.proofs.Past.{sign_past, head_past}
use Rattle.sync_syntax.proofs.Steps.{after_taken, after_none, expect_read}

-- ---- programs with more room

cond_same : {A : Type 0} (b : Bool) (r : Rule A) (us : Tokens) → r us ≡ cond b r r us
cond_same true r us = refl
cond_same false r us = refl

abbrev ended : List Statement → Rule (List Statement)
ended found = end >>= λ _. pure_rule found

body_is : (ts : Tokens) → function_body ts ≡ body_in body_room ts
unfolding function_body
body_is ts =
    same_then (expect signs.BraceOpen ts) (λ _ us. read_then (block_in body_room false us) (λ found vs. ended found (after signs.Semicolon vs)))
    (λ _ us. read_then (block_in body_room false us) (λ found vs. cond (sees signs.Semicolon vs) (ended found) (ended found) (after signs.Semicolon vs)))
    (λ _ us _. same_then (block_in body_room false us) (λ found vs. ended found (after signs.Semicolon vs)) (λ found vs. cond (sees signs.Semicolon vs) (ended found) (ended found) (after signs.Semicolon vs))
    (λ found vs _. cond_same (sees signs.Semicolon vs) (ended found) (after signs.Semicolon vs)))

program_is : (ts : Tokens) → program ts ≡ program_in body_room ts
unfolding program
program_is ts =
    same_then (head ts) (λ h us. read_then (function_body us) (λ found. pure_rule (made h (place us) found))) (λ h us. read_then (body_in body_room us) (λ found. pure_rule (made h (place us) found)))
    (λ h us _. ap (λ q. read_then q (λ found. pure_rule (made h (place us) found))) (body_is us))

body_in_read : (room : ℕ) {us vs ws xs : Tokens} {found : List Statement} → Takes (kinds.Sign signs.BraceOpen) us vs → block_in room false vs ≡ Ok (found, ws) → IsTail ws xs → kind xs ≡ kinds.End
    → body_in room us ≡ Ok (found, xs)
body_in_read room k r (g.no_semicolon {ts = ws}) is =
    let none = end_no_semicolon ws is in rw (expect_read signs.BraceOpen k, r, none, after_none signs.Semicolon none, end_read ws is) refl
body_in_read room k r (g.semicolon {us = xs} c) is = rw (expect_read signs.BraceOpen k, r, takes_sees signs.Semicolon c, after_taken signs.Semicolon c, end_read xs is) refl

program_in_read : {ts : Tokens} {p : Program} (d : IsProgram ts p) (room : ℕ) → depth d ≤ suc room → AreTokens ts → whole_program (program_in room ts) ≡ Ok p
program_in_read (g.program {us = us} {vs = vs} {ws = ws} h k t b is) room low a =
    let p = head_past h a in
    let q = sign_past k p.are in
    rw (head_read h, body_in_read room k (block_read t room (omega arith) q.are) b is) refl

-- ---- faults

none_begins : (before : Tokens) (t : Token) (e : ParseFault)
    → ((m : ℕ) (other : Tokens) → AreTokens (before ++ t ∷ other) → program_in (body_room + m) (before ++ t ∷ other) ≡ Err e) → NoneBegins (before ++ t ∷ [])
none_begins before t e h rest p a d =
    let same : (before ++ t ∷ []) ++ rest ≡ before ++ t ∷ rest = append_assoc before (t ∷ []) rest in
    let b : AreTokens (before ++ t ∷ rest) = subst AreTokens same a in
    let c : IsProgram (before ++ t ∷ rest) p = subst (λ us. IsProgram us p) same d in
    let found : whole_program (program_in (body_room + depth c) (before ++ t ∷ rest)) ≡ Ok p = program_in_read c (body_room + depth c) (omega arith) b in
    let stops : whole_program (program_in (body_room + depth c) (before ++ t ∷ rest)) ≡ Err e = ap whole_program (h (depth c) rest b) in
    absurd cc

at_most : (n : ℕ) → (b : Bool) → nat_lt max_depth n ≡ b → (b ≡ false → ⊥) → max_depth < n
at_most n true is h = ltb-true max_depth n is
at_most n false is h = absurd (h refl)

none_within : (before : Tokens) (t : Token) (e : ParseFault)
    → ((other : Tokens) → is_written t.kind (kind other) ≡ false → AreTokens (before ++ t ∷ other) → program_in body_room (before ++ t ∷ other) ≡ Err e) → NoneWithin before t
none_within before t e h rest p none a d =
    let stops : whole_program (program_in body_room (before ++ t ∷ rest)) ≡ Err e = ap whole_program (h rest none a) in
    at_most (depth d) (nat_lt max_depth (depth d)) refl
    (λ low. (let found : whole_program (program_in body_room (before ++ t ∷ rest)) ≡ Ok p = program_in_read d body_room (ltb-false max_depth (depth d) low) a in absurd cc))

-- ---- two tokens at one place are one

both_before : (p q r : Place) → IsBefore p q → IsBefore q r → IsBefore p r
both_before p q r (inl a) (inl b) = inl (omega arith)
both_before p q r (inl a) (inr b) = inl (omega (arith, b.0))
both_before p q r (inr a) (inl b) = inl (omega (arith, a.0))
both_before p q r (inr a) (inr b) = inr (a.0 ∙ b.0, omega (arith, a.1, b.1))

not_before : (p : Place) → IsBefore p p → ⊥
not_before p (inl a) = omega arith
not_before p (inr a) = omega (arith, a.1)

rise_rest : (t : Token) (ts : Tokens) → Rise (t ∷ ts) → Rise ts
rise_rest t [] h = tt
rise_rest t (u ∷ ts) h = h.1

before_all : (t : Token) (before : Tokens) (u : Token) (r : Tokens) → Rise (t ∷ (before ++ u ∷ r)) → IsBefore t.place u.place
before_all t [] u r h = h.0
before_all t (w ∷ ws) u r h = both_before t.place w.place u.place h.0 (before_all w ws u r h.1)

same_before : (xs ys : Tokens) (t u : Token) (r q : Tokens) → xs ++ t ∷ r ≡ ys ++ u ∷ q → Rise (xs ++ t ∷ r) → t.place ≡ u.place → xs ≡ ys
same_before [] [] t u r q e h is = refl
same_before [] (w ∷ ws) t u r q e h is =
    let first : t ≡ w = cc in
    let b : IsBefore w.place u.place = before_all w ws u q (subst Rise e h) in
    absurd (not_before u.place (subst (λ z. IsBefore z u.place) (ap (λ z. z.place) (sym first) ∙ is) b))
same_before (v ∷ vs) [] t u r q e h is =
    let first : v ≡ u = cc in
    let b : IsBefore v.place t.place = before_all v vs t r h in
    absurd (not_before t.place (subst (λ z. IsBefore z t.place) (ap (λ z. z.place) first ∙ sym is) b))
same_before (v ∷ vs) (w ∷ ws) t u r q e h is =
    let first : v ≡ w = cc in
    let others : vs ++ t ∷ r ≡ ws ++ u ∷ q = cc in
    let more : vs ≡ ws = same_before vs ws t u r q others (rise_rest v (vs ++ t ∷ r) h) is in
    ap (λ z. z ∷ vs) first ∙ ap (λ z. w ∷ z) more

abbrev placed : ParseFault → Place
placed (Bad f) = f.place
placed Memory = first_place

-- ---- what stands before the token at fault begins a program

spelled_first : (v : Token) (us : Tokens) (t : Token) (r : Tokens) → AreTokens (v ∷ (us ++ t ∷ r)) → IsSpellable v.kind × AreTokens (us ++ t ∷ r)
spelled_first v [] t r h = h
spelled_first v (u ∷ us) t r h = h

first_more : (v : Token) (us : Tokens) → IsSpellable v.kind → AreTokens us → AreTokens (v ∷ us)
first_more v [] k h = absurd h
first_more v (u ∷ us) k h = (k, h)

front_tokens : (before : Tokens) (t : Token) (r w : Tokens) → AreTokens (before ++ t ∷ r) → AreTokens w → AreTokens (before ++ w)
front_tokens [] t r w a b = b
front_tokens (v ∷ vs) t r w a b = let p = spelled_first v vs t r a in first_more v (vs ++ w) p.0 (front_tokens vs t r w p.1 b)

abbrev the_end : Tokens
the_end = record { place = first_place; kind = kinds.End } ∷ []

some_begins : (ts : Tokens) (e : ParseFault) (h : Halts (Spells ProgramOf AtEnd) ts e) → AreTokens ts → SomeBegins h.before
unfolding kind
some_begins ts e h a =
    let p : Found ProgramOf (h.front (h.more the_end)) the_end = h.is.any the_end tt refl in
    let law : h.front (h.more the_end) ≡ h.before ++ h.more the_end = h.law (h.more the_end) in
    let whole : AreTokens (h.before ++ h.token ∷ h.rest) = subst AreTokens (h.split ∙ h.law (h.token ∷ h.rest)) a in
    record {
      rest = h.more the_end;
      program = p.tree;
      are = front_tokens h.before h.token h.rest (h.more the_end) whole (h.good the_end tt);
      is = subst (λ z. IsProgram z p.tree) law p.is;
    }

-- both say of one fault where it stands
at_place : (ts : Tokens) (e : ParseFault) (before : Tokens) (t : Token) (r : Tokens) → ts ≡ before ++ t ∷ r → placed e ≡ t.place → (h : Halts (Spells ProgramOf AtEnd) ts e) → AreTokens ts → Rise ts → SomeBegins before
unfolding place
at_place ts e before t r split is h a rise =
    let other : ts ≡ h.before ++ h.token ∷ h.rest = h.split ∙ h.law (h.token ∷ h.rest) in
    let same : h.before ≡ before =
    same_before h.before before h.token t h.rest r (sym other ∙ split) (subst Rise other rise) (sym (ap placed h.at) ∙ is) in
    subst SomeBegins same (some_begins ts e h a)

stops_at : (ts : Tokens) (e : ParseFault) → AreTokens ts → Rise ts → Halts (Spells ProgramOf AtEnd) ts e → Stops false (λ m. program_in (body_room + m)) ts e → IsFaultOf ts e
unfolding refused_at too_deep kind place
stops_at ts e a rise halts (deep before t r is some fault h) =
    subst (IsFaultOf ts) (sym fault) (f.deep before t r is (at_place ts e before t r is (ap placed fault) halts a rise) (none_within before t e h))
stops_at ts e a rise halts (unexpected before t r is some fault h) =
    subst (IsFaultOf ts) (sym fault) (f.unexpected before t r is (at_place ts e before t r is (ap placed fault) halts a rise) (none_begins before t e h))

only_fault : (q : Outcome Program) (e : ParseFault) → whole_program q ≡ Err e → q ≡ Err e
only_fault (Ok p) e h = absurd cc
only_fault (Err x) e h = let same : x ≡ e = cc in ap Err same

program_fault : (ts : Tokens) (e : ParseFault) → AreTokens ts → Rise ts → whole_program (program ts) ≡ Err e → IsFaultOf ts e
program_fault ts e a rise is =
    let err : program ts ≡ Err e = only_fault (program ts) e is in
    let r : program_in body_room ts ≡ Err e = sym (program_is ts) ∙ err in
    let alike : Alike false (program_in body_room ts) (λ m. program_in (body_room + m)) ts = program_alike body_room (λ m. body_room + m) (record { first = refl; low = λ m. omega arith }) ts a in
    let grows : Grows (λ _ _ _. Unit {0}) (Spells ProgramOf AtEnd) (program ts) ts = program_grows ts a in
    stops_at ts e a rise (subst (λ (q : Outcome Program). Grows (λ _ _ _. Unit {0}) (Spells ProgramOf AtEnd) q ts) err grows)
    (subst (λ (q : Outcome Program). Alike false q (λ m. program_in (body_room + m)) ts) r alike)

-- the places of a text that is not too long
short_rises : TokensRise → (text : List ℕ) → IsUtf8 text → length text ≤ max_len → Rise (tokens_of text)
short_rises rise text u short =
    let size : length (chars text) ≤ length text = subst (λ (bs : List ℕ). length (chars text) ≤ length bs) (encodes-chars text u) (length-le-encodes (chars text)) in
    rise text (omega (arith, size, short))

pub faults_are_first : TextsHaveTokens → TokensRise → FaultsAreFirst
unfolding parsed
faults_are_first tokens rise text u short e is =
    let fits : nat_lt max_len (length text) ≡ false = le-ltb max_len (length text) short in
    program_fault (tokens_of text) e (tokens text u) (short_rises rise text u short) (rw fits at is)

pub given_fault : TokensRise → (text : List ℕ) (ts us : Tokens) (r : Result Program ParseFault) → IsUtf8 text → AreTokens ts → ts ≡ tokens_of text → us ≡ ts → GivesParsed (whole_program (program us)) r
    → IfErr r (λ e. e ≢ Memory → length text ≤ max_len → IsFaultOf (tokens_of text) e)
given_fault rise text ts us (Ok p) u a is same given = tt
given_fault rise text ts us (Err e) u a is same given =
    λ other short. program_fault (tokens_of text) e (subst AreTokens is a) (short_rises rise text u short) (ap (λ z. whole_program (program z)) (sym is ∙ sym same) ∙ given other)
