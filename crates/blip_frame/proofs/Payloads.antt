-- Payloads read and written.
use Rattle.std.proofs.Common.{◌≡◌, ◌≢◌, ℕ, ◌%◌, ◌^◌, ◌<◌, ◌≤◌, Bool, true, false, ◌&&◌, cond, eqb, ltb, List, [], ◌∷◌, ◌++◌, length, take, drop, All, Result, Ok, Err, refl, sym, ap, subst, ◌∙◌, append_assoc, arith, inl, inr}
use Rattle.std.specs.Prelude.{IfOk, IfErr, MatchResult}
use Rattle.blip_frame.specs.declared.payload.Payload.{Payload}
use Rattle.std.specs.List.{flat_map, list_all, AllByRecursion}
use Rattle.std.specs.Str.{is_utf8}
use Rattle.std.proofs.lemmas.Bool.{cases_Bool, eqb-true, ne_eqb, and_parts, ltb-false, le-ltb}
use Rattle.std.proofs.lemmas.List.{take_at, drop_at, take-append-drop, length-append, length-take}
use Rattle.std.proofs.lemmas.List.Concat.{flat_map-cons}
use Rattle.std.proofs.lemmas.List.Elements.{All-from_recursion, recursion_from_All}
use Rattle.std.proofs.lemmas.Str.{IsUtf8-from_is_utf8, is_utf8-from_IsUtf8}
use Rattle.blip_frame.specs.declared.payload.PayloadFault.{PayloadFault}
use Rattle.blip_frame.specs.declared.payload.PayloadFault.TheVariants as faults
use Rattle.blip_frame.specs.declared.varint.VarintFault.{VarintFault}
use Rattle.blip_frame.specs.Varint.{IsRead, number_at, varint}
use Rattle.blip_frame.specs.Props.{Pair, keys_of, stands_twice, AreUtf8}
use Rattle.blip_frame.specs.Payload.{closed, closed_pair, block_of, HasNoNul, AreProps, IsPayload, ◌>>=◌, payload_header, is_closed, begun, closed_texts, paired, once_at, texts_at, block_at, payload_at, payload_text}
use Rattle.blip_frame.proofs.Varints.{IsBytes, number_taken, number_again, varint_read}

-- ---- the value of a step that did not fail

bind_ok : {A B : Type 0} (r : Result A PayloadFault) (f : A → Result B PayloadFault) (y : B) → (r >>= f) ≡ Ok y → (x : A) × (r ≡ Ok x) × (f x ≡ Ok y)
bind_ok (Ok x) f y e = (x, refl, e)
bind_ok (Err d) f y e = absurd cc

-- a test that did not fail, the fault on either side
guard_ok : {A : Type 0} (b : Bool) (d : PayloadFault) (r : Result A PayloadFault) (y : A) → cond b (Err d) r ≡ Ok y → (b ≡ false) × (r ≡ Ok y)
guard_ok true d r y e = absurd cc
guard_ok false d r y e = (refl, e)

passed_ok : {A : Type 0} (b : Bool) (d : PayloadFault) (r : Result A PayloadFault) (y : A) → cond b r (Err d) ≡ Ok y → (b ≡ true) × (r ≡ Ok y)
passed_ok true d r y e = (refl, e)
passed_ok false d r y e = absurd cc

header_ok : (r : Result (ℕ × List ℕ) VarintFault) (n : ℕ) (rest : List ℕ) → payload_header r ≡ Ok (n, rest) → r ≡ Ok (n, rest)
header_ok (Ok x) n rest e = let p : ◌≡◌ {A = ℕ × List ℕ} x (n, rest) = cc in ap (λ (y : ℕ × List ℕ). Ok y) p
header_ok (Err fault) n rest e = absurd cc

-- ---- a block and its texts

abbrev Plain : List ℕ → Type 0
Plain text = AllByRecursion (λ b. b ≢ 0) text

after_nul : (b : ℕ) (bs : List ℕ) → is_closed (b ∷ bs) ≡ true → is_closed bs ≡ true
after_nul b [] h = refl
after_nul b (c ∷ bs) h = h

begun_closed : (b : ℕ) (texts : List (List ℕ)) (c : ℕ) (cs : List ℕ) → flat_map closed texts ≡ c ∷ cs → flat_map closed (begun b texts) ≡ b ∷ c ∷ cs
begun_closed b [] c cs e = absurd cc
begun_closed b (text ∷ texts) c cs e = flat_map-cons closed (b ∷ text) texts ∙ ap (λ (bs : List ℕ). b ∷ bs) (sym (flat_map-cons closed text texts) ∙ e)

-- the texts of a closed block, closed again, are the block
texts_closed : (bs : List ℕ) → is_closed bs ≡ true → flat_map closed (closed_texts bs) ≡ bs
texts_closed [] h = refl
texts_closed (b ∷ bs) h =
    elim (cases_Bool (eqb b 0)) [
      | inl is ↦ rw is (flat_map-cons closed [] (closed_texts bs) ∙ ap (λ (x : List ℕ). 0 ∷ x) (texts_closed bs (after_nul b bs h)) ∙ ap (λ (n : ℕ). n ∷ bs) (sym (eqb-true b 0 is)))
      | inr off ↦ rw off (past b bs off h (texts_closed bs (after_nul b bs h)))
    ]
  where
    past : (b : ℕ) (bs : List ℕ) → eqb b 0 ≡ false → is_closed (b ∷ bs) ≡ true → flat_map closed (closed_texts bs) ≡ bs → flat_map closed (begun b (closed_texts bs)) ≡ b ∷ bs
    past b [] off h e = absurd cc
    past b (c ∷ cs) off h e = begun_closed b (closed_texts (c ∷ cs)) c cs e

begun_plain : (b : ℕ) (texts : List (List ℕ)) → b ≢ 0 → AllByRecursion Plain texts → AllByRecursion Plain (begun b texts)
begun_plain b [] ne h = tt
begun_plain b (text ∷ texts) ne h = ((ne, h.0), h.1)

texts_plain : (bs : List ℕ) → AllByRecursion Plain (closed_texts bs)
texts_plain [] = tt
texts_plain (b ∷ bs) =
    elim (cases_Bool (eqb b 0)) [
      | inl is ↦ rw is (tt, texts_plain bs)
      | inr off ↦ rw off (begun_plain b (closed_texts bs) (λ e. differs b e off) (texts_plain bs))
    ]
  where
    differs : (b : ℕ) → b ≡ 0 → eqb b 0 ≡ false → ⊥
    differs b e off = let is : eqb 0 0 ≡ false = subst (λ (n : ℕ). eqb n 0 ≡ false) e off in absurd cc

pairs_closed : (texts : List (List ℕ)) → length texts % 2 ≡ 0 → block_of (paired texts) ≡ flat_map closed texts
pairs_closed [] even = refl
pairs_closed (key ∷ []) even = absurd (omega arith)
pairs_closed (key ∷ value ∷ texts) even =
    flat_map-cons closed_pair (key, value) (paired texts)
    ∙ append_assoc (closed key) (closed value) (block_of (paired texts))
    ∙ ap (λ (bs : List ℕ). closed key ++ (closed value ++ bs)) (pairs_closed texts (omega arith))
    ∙ sym (flat_map-cons closed key (value ∷ texts) ∙ ap (λ (bs : List ℕ). closed key ++ bs) (flat_map-cons closed value texts))

pairs_plain : (texts : List (List ℕ)) → AllByRecursion Plain texts → AllByRecursion HasNoNul (paired texts)
pairs_plain [] plain = tt
pairs_plain (key ∷ []) plain = tt
pairs_plain (key ∷ value ∷ texts) plain = ((All-from_recursion (λ b. b ≢ 0) key plain.0, All-from_recursion (λ b. b ≢ 0) value plain.1.0), pairs_plain texts plain.1.1)

pairs_utf8 : (texts : List (List ℕ)) → list_all is_utf8 texts ≡ true → AllByRecursion AreUtf8 (paired texts)
pairs_utf8 [] utf8 = tt
pairs_utf8 (key ∷ []) utf8 = tt
pairs_utf8 (key ∷ value ∷ texts) utf8 =
    let a = and_parts (is_utf8 key) (is_utf8 value && list_all is_utf8 texts) utf8 in
    let b = and_parts (is_utf8 value) (list_all is_utf8 texts) a.1 in
    ((IsUtf8-from_is_utf8 key a.0, IsUtf8-from_is_utf8 value b.0), pairs_utf8 texts b.1)

abbrev given : List Pair → Result (List Pair) PayloadFault
given props = Ok props

given_is : (xs ys : List Pair) → given xs ≡ given ys → xs ≡ ys
given_is xs ys e = cc

-- what is read of a block are its properties
block_taken : (block : List ℕ) (props : List Pair) → block_at block ≡ Ok props → AreProps props × (block ≡ block_of props)
unfolding block_at
block_taken block props e =
    let texts = closed_texts block in
    let a = passed_ok (is_closed block) faults.NotClosed (cond (eqb (length texts % 2) 0) (texts_at texts) (Err faults.Odd)) props e in
    let b = passed_ok (eqb (length texts % 2) 0) faults.Odd (texts_at texts) props a.1 in
    let c = passed_ok (list_all is_utf8 texts) faults.NotText (once_at (paired texts)) props b.1 in
    let d = guard_ok (stands_twice (keys_of (paired texts))) faults.Twice (given (paired texts)) props c.1 in
    let is = given_is (paired texts) props d.1 in
    let fit : AreProps (paired texts) = record { closable = All-from_recursion HasNoNul (paired texts) (pairs_plain texts (texts_plain block)); texts = All-from_recursion AreUtf8 (paired texts) (pairs_utf8 texts c.0); once = d.0 } in
    (subst AreProps is fit, sym (texts_closed block a.0) ∙ sym (pairs_closed texts (eqb-true (length texts % 2) 0 b.0)) ∙ ap block_of is)

-- ---- properties and their block

texts_cons : (text rest : List ℕ) → Plain text → closed_texts (closed text ++ rest) ≡ text ∷ closed_texts rest
texts_cons [] rest plain = refl
texts_cons (b ∷ text) rest plain = rw (ne_eqb b 0 plain.0) (ap (begun b) (texts_cons text rest plain.1))

closed_cons : (text rest : List ℕ) → is_closed rest ≡ true → is_closed (closed text ++ rest) ≡ true
closed_cons [] [] h = refl
closed_cons [] (c ∷ cs) h = h
closed_cons (b ∷ []) rest h = closed_cons [] rest h
closed_cons (b ∷ c ∷ text) rest h = closed_cons (c ∷ text) rest h

abbrev unpaired : List Pair → List (List ℕ)
unpaired [] = []
unpaired (p ∷ props) = p.0 ∷ p.1 ∷ unpaired props

paired-unpaired : (props : List Pair) → paired (unpaired props) ≡ props
paired-unpaired [] = refl
paired-unpaired (p ∷ props) = ap (λ (ps : List Pair). p ∷ ps) (paired-unpaired props)

unpaired_even : (props : List Pair) → length (unpaired props) % 2 ≡ 0
unpaired_even [] = refl
unpaired_even (p ∷ props) = omega (arith, unpaired_even props)

plain : (text : List ℕ) → All (λ b. b ≢ 0) text → Plain text
plain text is = recursion_from_All (λ b. b ≢ 0) text is

unpaired_utf8 : (props : List Pair) → AllByRecursion AreUtf8 props → list_all is_utf8 (unpaired props) ≡ true
unpaired_utf8 [] h = refl
unpaired_utf8 (p ∷ props) h = rw (is_utf8-from_IsUtf8 p.0 h.0.0, is_utf8-from_IsUtf8 p.1 h.0.1) (unpaired_utf8 props h.1)

block_cons : (p : Pair) (props : List Pair) → block_of (p ∷ props) ≡ closed p.0 ++ (closed p.1 ++ block_of props)
block_cons p props = flat_map-cons closed_pair p props ∙ append_assoc (closed p.0) (closed p.1) (block_of props)

block_closed : (props : List Pair) → is_closed (block_of props) ≡ true
block_closed [] = refl
block_closed (p ∷ props) = ap is_closed (block_cons p props) ∙ closed_cons p.0 (closed p.1 ++ block_of props) (closed_cons p.1 (block_of props) (block_closed props))

block_texts : (props : List Pair) → AllByRecursion HasNoNul props → closed_texts (block_of props) ≡ unpaired props
block_texts [] h = refl
block_texts (p ∷ props) h =
    ap closed_texts (block_cons p props)
    ∙ texts_cons p.0 (closed p.1 ++ block_of props) (plain p.0 h.0.0)
    ∙ ap (λ (ts : List (List ℕ)). p.0 ∷ ts) (texts_cons p.1 (block_of props) (plain p.1 h.0.1) ∙ ap (λ (ts : List (List ℕ)). p.1 ∷ ts) (block_texts props h.1))

-- the block of properties is read as they are
block_again : (props : List Pair) → AreProps props → block_at (block_of props) ≡ Ok props
unfolding block_at
block_again props fit =
    let plain = recursion_from_All HasNoNul props fit.closable in
    let texts = recursion_from_All AreUtf8 props fit.texts in
    rw (block_closed props, block_texts props plain, unpaired_even props, unpaired_utf8 props texts, paired-unpaired props, fit.once) refl

-- ---- the whole payload

abbrev Whole : Type 0
Whole = List Pair × List ℕ

abbrev whole : Whole → Result Whole PayloadFault
whole x = Ok x

whole_is : (x y : Whole) → whole x ≡ whole y → x ≡ y
whole_is x y e = cc

abbrev block_in : ℕ → List ℕ → Result (List Pair) PayloadFault
block_in n rest = cond (ltb (length rest) n) (Err faults.Short) (block_at (take n rest))

abbrev from_size : ℕ × List ℕ → Result Whole PayloadFault
from_size size = block_in size.0 size.1 >>= λ props. Ok (props, drop size.0 size.1)

payload_at-steps : (bytes : List ℕ) → payload_at bytes ≡ (payload_header (number_at bytes) >>= from_size)
unfolding payload_at
payload_at-steps bytes = refl

joined : (bytes rest : List ℕ) (n : ℕ) (props : List Pair) → IsBytes bytes → number_at bytes ≡ Ok (n, rest) → n ≤ length rest → block_at (take n rest) ≡ Ok props → IsPayload bytes props (drop n rest)
joined bytes rest n props fits e long f =
    let first = number_taken bytes n rest fits e in
    let block = block_taken (take n rest) props f in
    let size : n ≡ length (block_of props) = omega (arith, length-take n rest, ap length block.1) in
    record {
      size = first.0;
      size_read = subst (IsRead first.0) size first.1;
      props_fit = block.0;
      spelled = first.2 ∙ ap (λ (w : List ℕ). first.0 ++ w) (sym (take-append-drop n rest) ∙ ap (λ (w : List ℕ). w ++ drop n rest) block.1);
    }

-- what is read is a payload
pub payload_taken : (bytes : List ℕ) (props : List Pair) (body : List ℕ) → IsBytes bytes → payload_at bytes ≡ Ok (props, body) → IsPayload bytes props body
payload_taken bytes props body fits e =
    let a = bind_ok (payload_header (number_at bytes)) from_size (props, body) (sym (payload_at-steps bytes) ∙ e) in
    let b = bind_ok (block_in a.0.0 a.0.1) (λ found. whole (found, drop a.0.0 a.0.1)) (props, body) a.2 in
    let g = guard_ok (ltb (length a.0.1) a.0.0) faults.Short (block_at (take a.0.0 a.0.1)) b.0 b.1 in
    let is = joined bytes a.0.1 a.0.0 b.0 fits (header_ok (number_at bytes) a.0.0 a.0.1 a.1) (ltb-false (length a.0.1) a.0.0 g.0) g.1 in
    subst (λ (w : Whole). IsPayload bytes w.0 w.1) {x = (b.0, drop a.0.0 a.0.1)} (whole_is (b.0, drop a.0.0 a.0.1) (props, body) b.2) is

-- what is a payload is read
pub payload_again : (bytes : List ℕ) (props : List Pair) (body : List ℕ) → IsPayload bytes props body → payload_at bytes ≡ Ok (props, body)
payload_again bytes props body is =
    let block = block_of props in
    let n = length block in
    let rest = block ++ body in
    let one : payload_header (number_at (is.size ++ rest)) ≡ Ok (n, rest) = ap payload_header (number_again is.size n rest is.size_read) in
    let two : block_in n rest ≡ Ok props = rw (le-ltb (length rest) n (omega (arith, length-append block body)), take_at block body n refl) (block_again props is.props_fit) in
    payload_at-steps bytes
    ∙ ap (λ (w : List ℕ). payload_header (number_at w) >>= from_size) is.spelled
    ∙ ap (λ (r : Result (ℕ × List ℕ) PayloadFault). r >>= from_size) one
    ∙ ap (λ (r : Result (List Pair) PayloadFault). r >>= λ found. whole (found, drop n rest)) two
    ∙ ap (λ (w : List ℕ). whole (props, w)) (drop_at block body n refl)

-- what is written is a payload, where texts close and no key stands twice
pub text_payload : (props : List Pair) (body : List ℕ) → length (block_of props) < 2 ^ 64 → AreProps props → IsPayload (payload_text props body) props body
text_payload props body below fit = record {
  size = varint (length (block_of props));
  size_read = varint_read (length (block_of props)) below;
  props_fit = fit;
  spelled = refl;
}

-- ---- the same of what a call answers

memory_is : (fault : PayloadFault) → (fault ≢ faults.Memory → ⊥) → fault ≡ faults.Memory
memory_is faults.Short h = absurd (h (λ e. absurd cc))
memory_is faults.BadVarint h = absurd (h (λ e. absurd cc))
memory_is faults.NotClosed h = absurd (h (λ e. absurd cc))
memory_is faults.Odd h = absurd (h (λ e. absurd cc))
memory_is faults.NotText h = absurd (h (λ e. absurd cc))
memory_is faults.Twice h = absurd (h (λ e. absurd cc))
memory_is faults.Memory h = refl

pub answer_found : (r : Result Payload PayloadFault) (bytes : List ℕ) → IsBytes bytes → IfOk r (λ p. payload_at bytes ≡ Ok (p.props, p.body)) → IfOk r (λ p. IsPayload bytes p.props p.body)
answer_found (Ok p) bytes fits e = payload_taken bytes p.props p.body fits e
answer_found (Err fault) bytes fits e = tt

pub answer_only : (r : Result Payload PayloadFault) (bytes : List ℕ) → IfOk r (λ p. payload_at bytes ≡ Ok (p.props, p.body)) → IfErr r (λ fault. fault ≢ faults.Memory → payload_at bytes ≡ Err fault)
    → (props : List Pair) (body : List ℕ) → IsPayload bytes props body → MatchResult r (λ p. (p.props ≡ props) × (p.body ≡ body)) (λ fault. fault ≡ faults.Memory)
answer_only (Ok p) bytes e f props body is =
    let q = whole_is (p.props, p.body) (props, body) (sym e ∙ payload_again bytes props body is) in
    (ap (λ (w : Whole). w.0) q, ap (λ (w : Whole). w.1) q)
answer_only (Err fault) bytes e f props body is =
    memory_is fault (λ ne. let q : ◌≡◌ {A = Result Whole PayloadFault} (Err fault) (Ok (props, body)) = sym (f ne) ∙ payload_again bytes props body is in absurd cc)

pub one_payload : (bytes : List ℕ) (props others : List Pair) (body other : List ℕ) → IsPayload bytes props body → IsPayload bytes others other → (props ≡ others) × (body ≡ other)
one_payload bytes props others body other p q =
    let same = whole_is (props, body) (others, other) (sym (payload_again bytes props body p) ∙ payload_again bytes others other q) in
    (ap (λ (w : Whole). w.0) same, ap (λ (w : Whole). w.1) same)

pub text_again : (props : List Pair) (body : List ℕ) → length (block_of props) < 2 ^ 64 → All AreUtf8 props → All HasNoNul props → stands_twice (keys_of props) ≡ false → payload_at (payload_text props body) ≡ Ok (props, body)
text_again props body below texts closable once = payload_again (payload_text props body) props body (text_payload props body below (record { closable = closable; texts = texts; once = once }))
