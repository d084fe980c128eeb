-- Property blocks read.
use Rattle.std.proofs.Common.{◌≡◌, ℕ, zero, suc, ◌+◌, ◌-◌, ◌%◌, ◌<◌, Bool, true, false, ◌||◌, ◌&&◌, cond, eqb, List, [], ◌∷◌, ◌++◌, length, get_or, take, drop, refl, sym, ap, subst, ◌∙◌, add-one, arith, inl, inr, append_assoc, length-drop}
use Rattle.std.specs.Prelude.{IsUtf8, All, count_by, Option, Some, None, unwrap_or}
use Rattle.std.specs.List.{list_any, list_all, AllByRecursion}
use Rattle.std.specs.Str.{bytes_eq, is_utf8}
use Rattle.std.specs.String.{string_bytes}
use Rattle.std.proofs.lemmas.Bool.{cases_Bool, or_cases, eqb-true}
use Rattle.std.proofs.lemmas.Bool.Decides.{same_from_decides}
use Rattle.std.proofs.lemmas.List.{take-append-drop, map-append}
use Rattle.std.proofs.lemmas.List.Folds.{list_any-append}
use Rattle.std.proofs.lemmas.List.Elements.{All-from_recursion}
use Rattle.std.proofs.lemmas.List.Recursion.{is_count_by}
use Rattle.std.proofs.lemmas.Slice.Eq.{bytes_eq-Decides}
use Rattle.std.proofs.lemmas.Str.{IsUtf8-nil, IsUtf8-take, IsUtf8-drop, IsUtf8-append, IsUtf8-from_is_utf8, is_utf8-from_IsUtf8, IsUtf8-string_bytes, encode_ascii, IsCharBoundary-before_ascii, IsCharBoundary-after_ascii}
use Rattle.std.proofs.Math.Seq.{drop-cons}
use Rattle.memchr.specs.Find.{IsFirstByte, is_byte}
use Rattle.blip_frame.specs.declared.props.Prop.{Prop}
use Rattle.blip_frame.specs.Props.{Pair, pair_of, pairs_of, keys_of, stands_twice, AreUtf8}
use Rattle.blip_frame.specs.Payload.{is_closed, begun, closed_texts, paired, text_len}

-- ---- the end of a block

pub closed_last : (bs : List ℕ) → 0 < length bs → eqb (get_or bs (length bs - 1) 0) 0 ≡ is_closed bs
closed_last [] lt = absurd (omega arith)
closed_last (b ∷ []) lt = refl
closed_last (b ∷ c ∷ bs) lt =
    let place : length (b ∷ c ∷ bs) - 1 ≡ suc (length (c ∷ bs) - 1) = omega arith in
    ap (λ (i : ℕ). eqb (get_or (b ∷ c ∷ bs) i 0) 0) place ∙ closed_last (c ∷ bs) (omega arith)

-- ---- how many texts there are

length-begun : (b : ℕ) (texts : List (List ℕ)) → length (begun b texts) ≡ length texts
length-begun b [] = refl
length-begun b (text ∷ texts) = refl

pub length-texts_of : (bs : List ℕ) → length (closed_texts bs) ≡ count_by (λ b. eqb b 0) bs
length-texts_of = is_count_by (λ bs. length (closed_texts bs)) (λ b. eqb b 0) refl step where
  step : (b : ℕ) (bs : List ℕ) → length (closed_texts (b ∷ bs)) ≡ cond (eqb b 0) (1 + length (closed_texts bs)) (length (closed_texts bs))
  step b bs =
      elim (cases_Bool (eqb b 0)) [
        | inl is ↦ rw is (omega arith)
        | inr off ↦ rw off (length-begun b (closed_texts bs))
      ]

-- ---- the first text

-- what the first text of a block is, and what follows its NUL
pub record First (bs : List ℕ) : Type 0 where
  pub within : text_len bs < length bs
  pub nul : get_or bs (text_len bs) 0 ≡ 0
  pub texts : closed_texts bs ≡ take (text_len bs) bs ∷ closed_texts (drop (text_len bs + 1) bs)
  pub rest : is_closed (drop (text_len bs + 1) bs) ≡ true

after_nul : (b : ℕ) (bs : List ℕ) → eqb b 0 ≡ true → is_closed (b ∷ bs) ≡ true → is_closed bs ≡ true
after_nul b [] is h = refl
after_nul b (c ∷ bs) is h = h

at_nul : (b : ℕ) (bs : List ℕ) → eqb b 0 ≡ true → is_closed bs ≡ true → First (b ∷ bs)
at_nul b bs is h = record {
  within = rw is (omega arith);
  nul = rw is (eqb-true b 0 is);
  texts = rw is refl;
  rest = rw is h;
}

past_byte : (b : ℕ) (bs : List ℕ) → eqb b 0 ≡ false → First bs → First (b ∷ bs)
past_byte b bs off f =
    let n : text_len (b ∷ bs) ≡ suc (text_len bs) = rw off (rw add-one refl) in
    let m : text_len (b ∷ bs) + 1 ≡ suc (text_len bs + 1) = omega (arith, n) in
    record {
      within = omega (arith, n, f.within);
      nul = ap (λ (i : ℕ). get_or (b ∷ bs) i 0) n ∙ f.nul;
      texts =
          rw off refl
          ∙ ap (begun b) f.texts
          ∙ ap (λ (i : ℕ). take i (b ∷ bs) ∷ closed_texts (drop (text_len bs + 1) bs)) (sym n)
          ∙ ap (λ (i : ℕ). take (text_len (b ∷ bs)) (b ∷ bs) ∷ closed_texts (drop i (b ∷ bs))) (sym m);
      rest = ap (λ (i : ℕ). is_closed (drop i (b ∷ bs))) m ∙ f.rest;
    }

pub first_text_of : (bs : List ℕ) → is_closed bs ≡ true → 0 < length bs → First bs
first_text_of [] h lt = absurd (omega arith)
first_text_of (b ∷ []) h lt = at_nul b [] h refl
first_text_of (b ∷ c ∷ bs) h lt =
    elim (cases_Bool (eqb b 0)) [
      | inl is ↦ at_nul b (c ∷ bs) is h
      | inr off ↦ past_byte b (c ∷ bs) off (first_text_of (c ∷ bs) h (omega arith))
    ]

and_true : (x y : Bool) → (x && y) ≡ true → y ≡ true
and_true true y h = h
and_true false y h = absurd cc

not_true : (b : Bool) → ¬ (b ≡ true) → b ≡ false
not_true true off = absurd (off refl)
not_true false off = refl

-- ---- the place of the first NUL

pub len_nowhere : (bs : List ℕ) → ((i : ℕ) → i < length bs → ¬ (eqb (get_or bs i 0) 0 ≡ true)) → text_len bs ≡ length bs
len_nowhere [] off = refl
len_nowhere (b ∷ bs) off =
    let here : eqb b 0 ≡ false = not_true (eqb b 0) (off 0 (omega arith)) in
    rw here (ap (λ (n : ℕ). n + 1) (len_nowhere bs (λ i lt. off (suc i) (omega arith))) ∙ omega arith)

pub len_at : (bs : List ℕ) (k : ℕ) → k < length bs → eqb (get_or bs k 0) 0 ≡ true → ((i : ℕ) → i < k → ¬ (eqb (get_or bs i 0) 0 ≡ true)) → text_len bs ≡ k
len_at [] k lt is off = absurd (omega arith)
len_at (b ∷ bs) zero lt is off = rw is refl
len_at (b ∷ bs) (suc k) lt is off =
    let here : eqb b 0 ≡ false = not_true (eqb b 0) (off 0 (omega arith)) in
    rw here (ap (λ (n : ℕ). n + 1) (len_at bs k (omega arith) is (λ i below. off (suc i) (omega arith))) ∙ omega arith)

pub len_found : (bs : List ℕ) (r : Option ℕ) (n : ℕ) → IsFirstByte (is_byte 0) bs r → n ≡ unwrap_or r (length bs) → n ≡ text_len bs
len_found bs None n first e = e ∙ sym (len_nowhere bs (λ i lt. first i (omega arith) lt))
len_found bs (Some k) n first e = e ∙ sym (len_at bs k first.0.high first.1 (λ i lt. first.0.before i (omega arith) lt))

-- ---- UTF-8

and_both : (x y z : Bool) → (x ≡ true → (y ≡ true) × (z ≡ true)) → (y ≡ true → z ≡ true → x ≡ true) → (y && z) ≡ x
and_both true y z there back = let p = there refl in rw (p.0, p.1) refl
and_both false true true there back = sym (back refl refl)
and_both false true false there back = refl
and_both false false z there back = refl

one_nul : IsUtf8 (0 ∷ [])
one_nul = (0 ∷ [], (refl, ap (λ (bs : List ℕ). bs ++ []) (encode_ascii 0 (omega arith))))

-- a text is UTF-8 where what stands before and after a NUL of it is
utf8_around : (bs : List ℕ) (k : ℕ) → k < length bs → get_or bs k 0 ≡ 0 → (is_utf8 (take k bs) && is_utf8 (drop (k + 1) bs)) ≡ is_utf8 bs
utf8_around bs k lt nul =
    let low : get_or bs k 0 < 128 = omega arith in
    let parts : bs ≡ take k bs ++ (0 ∷ []) ++ drop (k + 1) bs = sym (take-append-drop k bs) ∙ ap (λ (rest : List ℕ). take k bs ++ rest) (rw add-one (drop-cons bs k 0 lt ∙ ap (λ (b : ℕ). b ∷ drop (suc k) bs) nul)) ∙ sym (append_assoc (take k bs) (0 ∷ []) (drop (k + 1) bs)) in
    and_both (is_utf8 bs) (is_utf8 (take k bs)) (is_utf8 (drop (k + 1) bs))
    (λ e.
    let u = IsUtf8-from_is_utf8 bs e in (
      is_utf8-from_IsUtf8 (take k bs) (IsUtf8-take bs k u (IsCharBoundary-before_ascii bs k lt low)),
      is_utf8-from_IsUtf8 (drop (k + 1) bs) (IsUtf8-drop bs (k + 1) u (IsCharBoundary-after_ascii bs k u lt low)),
    ))
    (λ front back.
    is_utf8-from_IsUtf8 bs
    (subst (λ (xs : List ℕ). IsUtf8 xs) (sym parts)
    (IsUtf8-append (take k bs ++ (0 ∷ [])) (drop (k + 1) bs)
    (IsUtf8-append (take k bs) (0 ∷ []) (IsUtf8-from_is_utf8 (take k bs) front) one_nul)
    (IsUtf8-from_is_utf8 (drop (k + 1) bs) back))))

texts_within : (n : ℕ) (bs : List ℕ) → length bs < n → is_closed bs ≡ true → list_all is_utf8 (closed_texts bs) ≡ is_utf8 bs
texts_within zero bs lt h = absurd (omega arith)
texts_within (suc n) [] lt h = sym (is_utf8-from_IsUtf8 [] IsUtf8-nil)
texts_within (suc n) (b ∷ bs) lt h =
    let whole = b ∷ bs in
    let f = first_text_of whole h (omega arith) in
    let k = text_len whole in
    ap (list_all is_utf8) f.texts
    ∙ ap (λ (r : Bool). is_utf8 (take k whole) && r) (texts_within n (drop (k + 1) whole) (omega (arith, length-drop (k + 1) whole)) f.rest)
    ∙ utf8_around whole k f.within f.nul

-- the texts of a block are UTF-8 where it is
pub texts_utf8 : (bs : List ℕ) → is_closed bs ≡ true → list_all is_utf8 (closed_texts bs) ≡ is_utf8 bs
texts_utf8 bs h = texts_within (length bs + 1) bs (omega arith) h

pub not_utf8 : (text : List ℕ) → ¬ (IsUtf8 text) → is_utf8 text ≡ false
not_utf8 text off = not_true (is_utf8 text) (λ e. off (IsUtf8-from_is_utf8 text e))

-- ---- where the body stands

-- what is left of the end of bytes is at their end
pub after_both : (bytes front rest : List ℕ) (size : ℕ) (body : List ℕ) → bytes ≡ front ++ rest → body ≡ drop size rest → (before : List ℕ) × (bytes ≡ before ++ body)
after_both bytes front rest size body e is =
    (front ++ take size rest, e ∙ ap (λ (xs : List ℕ). front ++ xs) (sym (take-append-drop size rest)) ∙ sym (append_assoc front (take size rest) (drop size rest)) ∙ ap (λ (xs : List ℕ). (front ++ take size rest) ++ xs) (sym is))

-- ---- keys

bytes_eq_symm : (xs ys : List ℕ) → bytes_eq xs ys ≡ bytes_eq ys xs
bytes_eq_symm xs ys =
    let d = bytes_eq-Decides ys xs in
    same_from_decides (bytes_eq xs ys) (bytes_eq ys xs) (bytes_eq-Decides xs ys) (λ e. sym (d.0 e), λ e. d.1 (sym e))

or_false : (x y : Bool) → (x || y) ≡ false → (x ≡ false) × (y ≡ false)
or_false true y e = absurd cc
or_false false y e = (refl, e)

or_true : (x : Bool) → (x || true) ≡ true
or_true true = refl
or_true false = refl

-- another key is none of those before it, and none of these stands twice
pub none_twice : (key : List ℕ) (keys : List (List ℕ)) → list_any (bytes_eq key) keys ≡ false → stands_twice keys ≡ false → stands_twice (keys ++ key ∷ []) ≡ false
none_twice key [] h g = refl
none_twice key (k ∷ keys) h g =
    let a = or_false (bytes_eq key k) (list_any (bytes_eq key) keys) h in
    let b = or_false (list_any (bytes_eq k) keys) (stands_twice keys) g in
    let last : bytes_eq k key ≡ false = bytes_eq_symm k key ∙ a.0 in
    let any : list_any (bytes_eq k) (keys ++ key ∷ []) ≡ false = list_any-append (bytes_eq k) keys (key ∷ []) ∙ rw (b.0, last) refl in
    rw (any, none_twice key keys a.1 b.1) refl

-- a key that is one of those before it stands twice, whatever follows
pub is_twice : (key : List ℕ) (keys rest : List (List ℕ)) → list_any (bytes_eq key) keys ≡ true → stands_twice (keys ++ key ∷ rest) ≡ true
is_twice key [] rest h = absurd cc
is_twice key (k ∷ keys) rest h =
    elim (or_cases (bytes_eq key k) (list_any (bytes_eq key) keys) h) [
      | inl here ↦
          let first : bytes_eq k key ≡ true = bytes_eq_symm k key ∙ here in
          let any : list_any (bytes_eq k) (keys ++ key ∷ rest) ≡ true = list_any-append (bytes_eq k) keys (key ∷ rest) ∙ rw first (or_true (list_any (bytes_eq k) keys)) in
          rw any refl
      | inr later ↦ rw (is_twice key keys rest later) (or_true (list_any (bytes_eq k) (keys ++ key ∷ rest)))
    ]

pub member_more : (q key : List ℕ) (keys : List (List ℕ)) → list_any (bytes_eq q) (keys ++ key ∷ []) ≡ cond (bytes_eq key q) true (list_any (bytes_eq q) keys)
member_more q key keys = list_any-append (bytes_eq q) keys (key ∷ []) ∙ by (list_any (bytes_eq q) keys) (bytes_eq q key) (bytes_eq key q) (bytes_eq_symm q key) where
  by : (a b c : Bool) → b ≡ c → (a || (b || false)) ≡ cond c true a
  by true b true e = refl
  by false b true e = rw e refl
  by true b false e = refl
  by false b false e = rw e refl

-- ---- two texts of a block

module _ (all after_key after : List (List ℕ)) (key value : List ℕ) (first : all ≡ key ∷ after_key) (second : after_key ≡ value ∷ after) where
  two : all ≡ key ∷ value ∷ after
  two = first ∙ ap (λ (texts : List (List ℕ)). key ∷ texts) second

  pub still_even : length all % 2 ≡ 0 → length after % 2 ≡ 0
  still_even even = omega (arith, ap length two)

  pub still_texts : list_all is_utf8 all ≡ true → list_all is_utf8 after ≡ true
  still_texts h = (and_true (is_utf8 value) (list_all is_utf8 after) (and_true (is_utf8 key) (is_utf8 value && list_all is_utf8 after) (sym (ap (list_all is_utf8) two) ∙ h)))

  first_key : keys_of (paired all) ≡ key ∷ keys_of (paired after)
  first_key = ap (λ (texts : List (List ℕ)). keys_of (paired texts)) two

  pub more_pairs : (props : List Prop) (p : Prop) (whole : List Pair) → string_bytes p.key ≡ key → string_bytes p.value ≡ value → pairs_of props ++ paired all ≡ whole → pairs_of (props ++ p ∷ []) ++ paired after ≡ whole
  more_pairs props p whole is_key is_value so_far =
      ap (λ (ps : List Pair). ps ++ paired after) (map-append pair_of props (p ∷ []))
      ∙ append_assoc (pairs_of props) (pair_of p ∷ []) (paired after)
      ∙ ap (λ (k : List ℕ). pairs_of props ++ (k, string_bytes p.value) ∷ paired after) is_key
      ∙ ap (λ (v : List ℕ). pairs_of props ++ (key, v) ∷ paired after) is_value
      ∙ ap (λ (texts : List (List ℕ)). pairs_of props ++ paired texts) (sym two)
      ∙ so_far

  pub found_twice : (before whole : List (List ℕ)) → whole ≡ before ++ keys_of (paired all) → list_any (bytes_eq key) before ≡ true → true ≡ stands_twice whole
  found_twice before whole e h = sym (ap stands_twice (e ∙ ap (λ (ks : List (List ℕ)). before ++ ks) first_key) ∙ is_twice key before (keys_of (paired after)) h)

  pub more_keys : (before whole : List (List ℕ)) → whole ≡ before ++ keys_of (paired all) → whole ≡ (before ++ key ∷ []) ++ keys_of (paired after)
  more_keys before whole e = e ∙ ap (λ (ks : List (List ℕ)). before ++ ks) first_key ∙ sym (append_assoc before (key ∷ []) (keys_of (paired after)))

-- keys and values of properties are texts
utf8_props : (props : List Prop) → AllByRecursion AreUtf8 (pairs_of props)
utf8_props [] = tt
utf8_props (p ∷ props) = ((IsUtf8-string_bytes p.key, IsUtf8-string_bytes p.value), utf8_props props)

pub are_utf8 : (props : List Prop) → All AreUtf8 (pairs_of props)
are_utf8 props = All-from_recursion AreUtf8 (pairs_of props) (utf8_props props)
