-- each text is that of one value
use Rattle.std.proofs.Common.{◌≡◌, ℕ, ◌+◌, ◌*◌, ◌<◌, ◌≤◌, ◌/◌, ◌%◌, true, cond, List, [], ◌∷◌, length, refl, sym, ap, ◌∙◌, arith, ◌⊎◌, inl, inr}
use Rattle.std.specs.Prelude.{nat_lt}
use Rattle.std.specs.List.{list_all}
use Rattle.std.proofs.lemmas.Bool.{and_parts, and_from, or_left, or_right, le-leb, lt-ltb, le-ltb, eq-eqb, cases_lt}
use Rattle.std.proofs.lemmas.List.{map-id}
use borrow.Author.Tests.{ltb-true}
use Rattle.sg_names.proofs.ItemTexts.{channels_apart, names_apart, revs_apart, grants_apart, role_grants_apart}
use Rattle.sg_names.proofs.Lists.{lists_same}
use Rattle.sg_names.specs.Channels.{channels_text, is_channels}
use Rattle.sg_names.specs.Grammar.{is_channel_name, is_name}
use Rattle.sg_names.specs.Grants.{grants_text, is_grants, grant_text, is_grant}
use Rattle.sg_names.specs.Hex.{hex_digit, hex_text, is_hex, is_hex_digit, are_bytes}
use Rattle.sg_names.specs.ItemList.{list_text}
use Rattle.sg_names.specs.Names.{names_text, is_names}
use Rattle.sg_names.specs.RevId.{rev_text, is_rev}
use Rattle.sg_names.specs.Revs.{revs_text, is_revs}
use Rattle.sg_names.specs.RoleGrants.{role_grants_text, is_role_grants, role_grant_text, is_role_grant}
use Rattle.sg_names.specs.declared.grants.Grant.{Grant}
use Rattle.sg_names.specs.declared.rev_id.RevId.{RevId}
use Rattle.sg_names.specs.declared.role_grants.RoleGrant.{RoleGrant}

pub channels_same : (k l : List (List ℕ)) → is_channels k ≡ true → is_channels l ≡ true → channels_text k ≡ channels_text l → k ≡ l
channels_same k l h g e =
    lists_same (λ n. n) (λ n. is_channel_name n) channels_apart k l (and_parts _ _ h).0 (and_parts _ _ g).0
    (ap list_text (map-id k) ∙ e ∙ ap list_text (sym (map-id l)))

pub names_same : (k l : List (List ℕ)) → is_names k ≡ true → is_names l ≡ true → names_text k ≡ names_text l → k ≡ l
names_same k l h g e =
    lists_same (λ n. n) (λ n. is_name n) names_apart k l (and_parts _ _ h).0 (and_parts _ _ g).0
    (ap list_text (map-id k) ∙ e ∙ ap list_text (sym (map-id l)))

pub revs_same : (k l : List RevId) → is_revs k ≡ true → is_revs l ≡ true → revs_text k ≡ revs_text l → k ≡ l
revs_same k l h g e = lists_same (λ r. rev_text r) (λ r. is_rev r) revs_apart k l h g e

pub grants_same : (k l : List Grant) → is_grants k ≡ true → is_grants l ≡ true → grants_text k ≡ grants_text l → k ≡ l
grants_same k l h g e = lists_same (λ x. grant_text x) (λ x. is_grant x) grants_apart k l (and_parts _ _ h).0 (and_parts _ _ g).0 e

pub role_grants_same : (k l : List RoleGrant) → is_role_grants k ≡ true → is_role_grants l ≡ true → role_grants_text k ≡ role_grants_text l → k ≡ l
role_grants_same k l h g e =
    lists_same (λ x. role_grant_text x) (λ x. is_role_grant x) role_grants_apart k l (and_parts _ _ h).0 (and_parts _ _ g).0 e

-- hexadecimal digits
digit_cases : (n : ℕ) → ((n < 10) × (hex_digit n ≡ 48 + n)) ⊎ ((10 ≤ n) × (hex_digit n ≡ 87 + n))
digit_cases n = elim (cases_lt n 10) [
  | inl low ↦ inl (low, ap (λ b. cond b (48 + n) (87 + n)) (lt-ltb n 10 low))
  | inr high ↦ inr (high, ap (λ b. cond b (48 + n) (87 + n)) (le-ltb n 10 high))
]

digits_same : (m n : ℕ) → m < 16 → n < 16 → hex_digit m ≡ hex_digit n → m ≡ n
digits_same m n low high e = elim (digit_cases m) [
  | inl a ↦ elim (digit_cases n) [ inl b ↦ omega (arith, a.0, a.1, b.0, b.1, e) | inr b ↦ omega (arith, a.0, a.1, b.0, b.1, e) ]
  | inr a ↦ elim (digit_cases n) [ inl b ↦ omega (arith, a.0, a.1, b.0, b.1, e) | inr b ↦ omega (arith, a.0, a.1, b.0, b.1, e) ]
]

digit_is : (n : ℕ) → n < 16 → is_hex_digit (hex_digit n) ≡ true
digit_is n small = elim (digit_cases n) [
  | inl a ↦ ap is_hex_digit a.1 ∙ or_left _ _ (and_from _ _ (le-leb 48 (48 + n) (omega arith)) (le-leb (48 + n) 57 (omega (arith, a.0))))
  | inr a ↦ ap is_hex_digit a.1 ∙ or_right _ _ (and_from _ _ (le-leb 97 (87 + n) (omega (arith, a.0))) (le-leb (87 + n) 102 (omega arith)))
]

byte_parts : (b : ℕ) (bs : List ℕ) → are_bytes (b ∷ bs) ≡ true → (b < 256) × (are_bytes bs ≡ true)
byte_parts b bs h = let both = and_parts (nat_lt b 256) (are_bytes bs) h in (ltb-true b 256 both.0, both.1)

pub hex_same : (a b : List ℕ) → are_bytes a ≡ true → are_bytes b ≡ true → hex_text a ≡ hex_text b → a ≡ b
hex_same [] [] h g e = refl
hex_same [] (y ∷ ys) h g e = absurd (cc (e))
hex_same (x ∷ xs) [] h g e = absurd (cc (e))
hex_same (x ∷ xs) (y ∷ ys) h g e =
    let a = byte_parts x xs h in
    let b = byte_parts y ys g in
    let high : hex_digit (x / 16) ≡ hex_digit (y / 16) = cc in
    let low : hex_digit (x % 16) ≡ hex_digit (y % 16) = cc in
    let others : hex_text xs ≡ hex_text ys = cc in
    let over = digits_same (x / 16) (y / 16) (omega (arith, a.0)) (omega (arith, b.0)) high in
    let under = digits_same (x % 16) (y % 16) (omega arith) (omega arith) low in
    let head : x ≡ y = omega (arith, over, under) in
    let tail = hex_same xs ys a.1 b.1 others in
    λ i. head i ∷ tail i

pub hex_digits : (bytes : List ℕ) → are_bytes bytes ≡ true → list_all (λ b. is_hex_digit b) (hex_text bytes) ≡ true
hex_digits [] h = refl
hex_digits (b ∷ bs) h =
    let a = byte_parts b bs h in
    and_from _ _ (digit_is (b / 16) (omega (arith, a.0))) (and_from _ _ (digit_is (b % 16) (omega arith)) (hex_digits bs a.1))

length-hex_text : (bytes : List ℕ) → length (hex_text bytes) ≡ 2 * length bytes
length-hex_text [] = refl
length-hex_text (b ∷ bs) = let e = length-hex_text bs in omega (arith, e)

pub hex_is : (b : ℕ) (bs : List ℕ) → are_bytes (b ∷ bs) ≡ true → is_hex (hex_text (b ∷ bs)) ≡ true
hex_is b bs h =
    let long = length-hex_text (b ∷ bs) in
    and_from _ _ (and_from _ _ (lt-ltb 0 (length (hex_text (b ∷ bs))) (omega arith)) (eq-eqb (length (hex_text (b ∷ bs)) % 2) 0 (omega (arith, long))))
    (hex_digits (b ∷ bs) h)
